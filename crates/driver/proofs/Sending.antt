-- A frame goes out: there is room for both cells, and the succession goes on by an accepted send.
use Rattle.std.proofs.Common.{◌≡◌, ℕ, ◌*◌, ◌<◌, ◌≤◌, List, ◌∷◌, ◌++◌, length, Ok, ⊎_elim, sym, subst, arith}
use Rattle.std.specs.List.{Contains}
use Rattle.std.proofs.lemmas.List.Elements.{Contains-append_left, Contains-append_right, Contains-append_cases}
use Rattle.head.specs.Steps.{send_answer, send_head, sent_bytes}
use Rattle.head.specs.declared.docket.Docket.{Docket}
use Rattle.head.specs.declared.head.Head.{Head}
use Rattle.onu.specs.declared.state.Onu.{Onu}
use Rattle.plant.proofs.Lists.{hears-count, drifts_still}
use Rattle.plant.proofs.Room.{room_left}
use Rattle.plant.specs.Hearing.{Bursts, Taken, room_in}
use Rattle.plant.specs.Lawful.{Does, Lawful, slot_limit}
use Rattle.plant.specs.declared.burst.Burst.{Burst}
use Rattle.line.specs.Run.{all_bursts, Run, sends}
use Rattle.driver.specs.Driver.{Heard, Went, heard_cell}
use Rattle.driver.specs.declared.driven.Line.{Line}

-- where there was room for two cells, there is room for the second once the first was heard
pub second_room : {X : Type 0} (means : X → List Onu) (D : Does X) → Lawful means D → (x y : X) (p : List ℕ) (f : ℕ) (b b' : Bursts)
    → length p ≡ 48 → f < slot_limit → 54 * length (means x) ≤ room_in b → Taken D x p f b y b' → 27 * length (means y) ≤ room_in b'
second_room means D law x y p f b b' whole early room t =
    let same : length (means y) ≡ length (means x) = hears-count (law x y p f t.appended.0 whole early t.appended.2) in
    (room_left law (length (means y)) (record { whole = whole; room = omega arith; early = early }) t).room

-- two lists appended, the newest first
appended : (held first second heard : List Burst) → ((x : Burst) → Contains held x → Contains heard x) → (x : Burst)
    → Contains (held ++ first ++ second) x → Contains (second ++ (first ++ heard)) x
appended held first second heard sub x m =
    ⊎_elim
    (λ n. Contains-append_right second (first ++ heard) x
    (⊎_elim (λ k. Contains-append_right first heard x (sub x k)) (λ k. Contains-append_left first heard x k) (Contains-append_cases held first x n)))
    (λ n. Contains-append_left second (first ++ heard) x n)
    (Contains-append_cases (held ++ first) second x m)

module _ {P : Type 0} (means : P → List Onu) (does : Does P) where
  -- a frame went out, and both of its cells were heard
  pub goes_heard : (buffer : List ℕ) (d : Docket) (a b : Line P) → send_answer a.head (length buffer) ≡ Ok d → b.head ≡ send_head a.head (length buffer)
      → Heard does (sent_bytes a.head) a.head.frame a b → Went means does (Ok d) a b
  goes_heard buffer d a b ok h (q, first, second, x, y, e) = (
    q,
    first,
    second,
    e,
    λ cells came.
        record {
          run = subst (λ (z : Head). Run means does z b.plant (heard_cell means a.head.settings.guard.value b.plant second ∷ heard_cell means a.head.settings.guard.value q first ∷ cells)) (sym h) (sends buffer d q q b.plant first second came.run ok x (drifts_still (means q)) y);
          heard = λ z m. appended a.bursts.items first second (all_bursts cells) came.heard z (subst (λ (ys : List Burst). Contains ys z) e m);
        },
  )
