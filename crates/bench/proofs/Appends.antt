-- Free entries of a burst list that grows by the answers of an ONU.
use Rattle.std.proofs.Common.{◌≡◌, ℕ, ◌+◌, ◌<◌, ◌≤◌, List, length, take, ap, ◌∙◌, arith, length-append}
use Rattle.std.proofs.lemmas.List.{length-take-le}
use Rattle.field.specs.declared.octets.Octets.{Octets}
use Rattle.cell.specs.Reader.{size_of}
use Rattle.cell.specs.declared.fault.Group.{Group}
use Rattle.onu.specs.declared.state.Onu.{Onu}
use Rattle.plant.proofs.Rows.{answers_few, heard_group-length}
use Rattle.plant.specs.Heard.{heard_group}
use Rattle.plant.specs.Hearing.{Bursts, room_in}
use Rattle.plant.specs.Lawful.{answers, steady}
use Rattle.plant.specs.declared.burst.Burst.{Burst}
use Rattle.bench.specs.Appended.{Appended}

-- each burst takes one
appended-room : {a b : Bursts} {xs : List Burst} → Appended a b xs → room_in a ≤ room_in b + length xs
appended-room {a} {b} {xs} h =
    let l : length b.items ≡ length a.items + length xs = ap length h.items ∙ length-append a.items xs in
    let old : a.len ≡ length a.items = a.ok.0 in
    let new : b.len ≡ length b.items = b.ok.0 in
    let same : b.cap ≡ a.cap = h.capacity in
    omega arith

-- so grants take at most one each
module _ (free : Octets 12) (o : Onu) (n : ℕ) {a b : Bursts} where
  answers_room : (gs : List ℕ) (k : ℕ) → length gs ≡ k → Appended a b (answers (steady free) o n gs) → room_in a ≤ room_in b + k
  answers_room gs k l h = omega (arith, appended-room h, answers_few (steady free) o n gs)

  pub row_room : (gs : List ℕ) (i : ℕ) → i < length gs → Appended a b (answers (steady free) o n (take i gs)) → room_in a ≤ room_in b + i
  row_room gs i l h = answers_room (take i gs) i (length-take-le i gs (omega arith)) h

  pub group_room : (p : List ℕ) (g : Group) → length p ≡ 48 → Appended a b (answers (steady free) o n (heard_group g p)) → room_in a ≤ room_in b + size_of g
  group_room p g l h = answers_room (heard_group g p) (size_of g) (heard_group-length g p l) h
