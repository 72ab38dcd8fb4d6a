-- A cell that is admitted, and what is left of the room once it was taken.
use Rattle.std.proofs.Common.{◌≡◌, ℕ, ◌+◌, ◌*◌, ◌≤◌, List, length, vec_items, vec_len, ap, ◌∙◌, arith, length-append}
use Rattle.onu.specs.declared.state.Onu.{Onu}
use Rattle.plant.specs.Hearing.{Bursts, Admitted, Taken}
use Rattle.plant.specs.Lawful.{Does, Lawful}
use Rattle.plant.proofs.Lists.{hears_few}
use Rattle.plant.proofs.Rows.{heard-length}

-- fewer ONUs ask for less room
pub fewer : {n : ℕ} (m : ℕ) {p : List ℕ} {f : ℕ} {b : Bursts} → Admitted n p f b → m ≤ n → Admitted m p f b
fewer m h k = record { whole = h.whole; room = let r = h.room in omega arith; early = h.early }

-- a plant that took the cell leaves the room of the others
pub room_left : {X : Type 0} {means : X → List Onu} {D : Does X} → Lawful means D → {x y : X} (n : ℕ) {p : List ℕ} {f : ℕ} {b b' : Bursts}
    → Admitted (length (means x) + n) p f b → Taken D x p f b y b' → Admitted n p f b'
room_left {means = means} law {x = x} {y = y} n {p = p} {f = f} {b = b} {b' = b'} h t =
    let new = t.appended.0 in
    let few : length new ≤ 27 * length (means x) = hears_few (heard-length p h.whole) (law x y p f new h.whole h.early t.appended.2) in
    let l : length (vec_items b') ≡ length (vec_items b) + length new = ap length t.appended.1 ∙ length-append (vec_items b) new in
    let v : vec_len b ≡ length (vec_items b) = b.ok.0 in
    let v' : vec_len b' ≡ length (vec_items b') = b'.ok.0 in
    let c = t.capacity in
    let r = h.room in
    record { whole = h.whole; room = omega arith; early = h.early }
