-- No two bursts of a succession overlap at the receiver.
use Rattle.std.specs.Prelude.{◌≡◌, ℕ, ◌+◌, ◌/◌, ◌≤◌, List, [], ◌∷◌, AllPairs, Contains}
use Rattle.head.specs.declared.head.Head.{Head}
use Rattle.onu.specs.declared.state.Onu.{Onu}
use Rattle.plant.specs.Lawful.{Does}
use Rattle.plant.specs.Overlap.{Apart}
use Rattle.line.specs.Run.{HeardCell, all_bursts, Run}

-- the guard at the first cell heard, which is the head's at its first accepted send
abbrev pub opening : List HeardCell → ℕ
opening [] = 4
opening (c ∷ []) = c.guard
opening (c ∷ d ∷ cells) = opening (d ∷ cells)

-- Premise: over the cells heard every round trip lies within 3,392 to 35,392 bits, and an ONU's varies by at most a quarter of the guard.
pub record Steady (guard : ℕ) (cells : List HeardCell) : Type 0 where
  pub near : (c : HeardCell) → Contains cells c → (o : Onu) → Contains c.onus o → (3392 ≤ o.trip.value) × (o.trip.value ≤ 35392)
  pub still : (c d : HeardCell) → Contains cells c → Contains cells d → (o o' : Onu) → Contains c.onus o → Contains d.onus o'
      → o.serial.value ≡ o'.serial.value → o.trip.value ≤ o'.trip.value + guard / 4

-- every burst is apart from every other: no bit time lies in both, where a burst lasts 448 bits less the guard
abbrev pub NoOverlap : {P : Type 0} → (P → List Onu) → Does P → Type 0
NoOverlap {P} means does =
    (h : Head) (q : P) (cells : List HeardCell) → Run means does h q cells → Steady (opening cells) cells
    → AllPairs (Apart (opening cells)) (all_bursts cells)
