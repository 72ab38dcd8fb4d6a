-- A line as it is driven: a head, a plant, and the bursts of the frames that are out.
use Rattle.std.specs.Prelude.{◌≡◌, ℕ, ◌+◌, ◌*◌, ◌/◌, ◌<◌, List, ◌∷◌, ◌++◌, length, filter, AllPairs, Contains, Ok, Err, Result, nat_lt}
use Rattle.head.specs.Steps.{Answer, on_ok, send_answer, sent, sent_bytes}
use Rattle.head.specs.declared.docket.Docket.{Docket}
use Rattle.head.specs.declared.head.Head.{Head}
use Rattle.onu.specs.declared.state.Onu.{Onu}
use Rattle.plant.specs.Hearing.{room_in}
use Rattle.plant.specs.Lawful.{Does, Drifts}
use Rattle.plant.specs.declared.burst.Burst.{Burst}
use Rattle.plant.specs.Overlap.{Apart}
use Rattle.line.specs.NoOverlap.{opening, Steady}
use Rattle.line.specs.Payload.{payload}
use Rattle.line.specs.Run.{HeardCell, all_bursts, Run}
use Rattle.driver.specs.declared.driven.Line.{Line}
use Rattle.driver.specs.declared.halt.Halt.{Halt}
use Rattle.driver.specs.declared.halt.Halt.TheVariants.{Refused, Room}

-- the calls so far are a succession of the law, and every burst that is held was heard
pub record Came {P : Type 0} (means : P → List Onu) (does : Does P) (line : Line P) (cells : List HeardCell) : Type 0 where
  pub run : Run means does line.head line.plant cells
  pub heard : (b : Burst) → Contains line.bursts.items b → Contains (all_bursts cells) b

-- a succession that came to one line goes on to the other, and no cell was heard in between
abbrev pub Goes : {P : Type 0} → (P → List Onu) → Does P → (from to : Line P) → Type 0
Goes means does from to = (cells : List HeardCell) → Came means does from cells → Came means does to cells

-- another head before the same plant
abbrev pub with_head : {P : Type 0} → Head → Line P → Line P
with_head head line = record line { head = head }

-- a settled frame's bursts are let go, and those of earlier frames
abbrev pub kept : Answer → (docket : ℕ) → List Burst → List Burst
kept answer docket bs = on_ok answer (filter (λ b. nat_lt docket (b.slot / 53)) bs) bs

-- the plant heard both cells of a frame's bytes in order, each from its own first slot on, and the bursts were appended
abbrev pub Heard : {P : Type 0} → Does P → (bytes : List ℕ) → (frame : ℕ) → (from to : Line P) → Type 0
Heard {P} does bytes frame from to =
    (q : P) × (first : List Burst) × (second : List Burst) × does from.plant (payload 0 bytes) (53 * frame) q first
    × does q (payload 1 bytes) (53 * frame + 27) to.plant second × (to.bursts.items ≡ from.bursts.items ++ first ++ second)

-- nothing changed but the room for bursts
pub record Same {P : Type 0} (from to : Line P) : Type 0 where
  pub head : to.head ≡ from.head
  pub plant : to.plant ≡ from.plant
  pub bursts : to.bursts.items ≡ from.bursts.items

-- what a send answers, and what it leaves
abbrev pub Sent : {P : Type 0} → (P → List Onu) → Does P → Result Docket Halt → (from to : Line P) → Type 0
Sent means does (Ok docket) from to =
    (send_answer from.head 96 ≡ Ok docket) × (to.head ≡ sent from.head) × Heard does (sent_bytes from.head) from.head.frame from to
Sent means does (Err (Refused why)) from to = (send_answer from.head 96 ≡ Err why) × Same from to
Sent means does (Err Room) from to = (room_in from.bursts < 54 * length (means from.plant)) × Same from to

-- a cell that a plant heard at a guard, with what the plant means afterwards
abbrev pub heard_cell : {P : Type 0} → (P → List Onu) → (guard : ℕ) → P → List Burst → HeardCell
heard_cell means guard plant bursts = record { guard = guard; onus = means plant; bursts = bursts }

-- The succession goes on. Where a frame went out, both of its cells were heard in between, the plant being q after the first, and the
-- bursts that they brought are those that are held more than before.
abbrev pub Went : {P X : Type 0} → (P → List Onu) → Does P → Result X Halt → (from to : Line P) → Type 0
Went {P} means does (Ok x) from to =
    (q : P) × (first : List Burst) × (second : List Burst) × (to.bursts.items ≡ from.bursts.items ++ first ++ second)
    × ((cells : List HeardCell) → Came means does from cells
    → Came means does to (heard_cell means from.head.settings.guard.value to.plant second ∷ heard_cell means from.head.settings.guard.value q first ∷ cells))
Went means does (Err halt) from to = Goes means does from to

-- after a frame that went out one, otherwise the other
abbrev pub after_send : {X : Type 0} → Result Docket Halt → X → X → X
after_send (Ok docket) x y = x
after_send (Err halt) x y = y

-- the same head before another plant
abbrev pub with_plant : {P : Type 0} → P → Line P → Line P
with_plant plant line = record line { plant = plant }

-- whatever the plant's ONUs do by themselves, the succession goes on
abbrev pub GoesDrifting : {P : Type 0} → (P → List Onu) → Does P → Line P → Type 0
GoesDrifting {P} means does line = (plant : P) → Drifts (means line.plant) (means plant) → Goes means does line (with_plant plant line)

-- however the line was driven, under the premises on the plant no two bursts that were heard overlap
abbrev pub Undisturbed : {P : Type 0} → (P → List Onu) → Does P → Type 0
Undisturbed {P} means does =
    (line : Line P) (cells : List HeardCell) → Came means does line cells → Steady (opening cells) cells → AllPairs (Apart (opening cells)) (all_bursts cells)
