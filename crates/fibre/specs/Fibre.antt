-- A length of fibre: it adds its bits to round trip and start alike; the sum of a round trip stops at 1,000,000.
use Rattle.std.specs.Prelude.{◌≡◌, ℕ, ◌+◌, ◌-◌, min, List, map}
use Rattle.field.specs.Number.{capped}
use Rattle.field.specs.declared.number.Number.{Number}
use Rattle.onu.specs.declared.state.Onu.{Onu}
use Rattle.plant.specs.Lawful.{drifted, Does}
use Rattle.plant.specs.declared.burst.Burst.{Burst}

abbrev pub longer : (bits : ℕ) → Number 1000000 → Number 1000000
longer bits trip = capped 1000000 (trip.value + bits)

-- an ONU as it is seen over the fibre
abbrev pub far : (bits : ℕ) → Onu → Onu
far bits o = drifted (longer bits o.trip) o

-- a burst that comes over the fibre starts as much later as its round trip is longer
abbrev pub farther : (bits : ℕ) → Burst → Burst
farther bits b = record b { start = min (b.start + ((longer bits b.trip).value - b.trip.value)) 18446744073709551615; trip = longer bits b.trip }

-- the plant behind hears the cell, and its bursts come over the fibre
abbrev pub FibreDoes : {X : Type 0} → Does X → X → Number 32000 → List ℕ → ℕ → X → Number 32000 → List Burst → Type 0
FibreDoes D x d p first y e new = (old : List Burst) × D x p first y old × (new ≡ map (farther d.value) old) × (e ≡ d)
