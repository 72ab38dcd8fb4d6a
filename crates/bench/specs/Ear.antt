-- What an ear answers.
use Rattle.std.specs.Prelude.{ℕ, List}
use Rattle.plant.specs.Lawful.{answers, steady}
use Rattle.plant.specs.declared.burst.Burst.{Burst}
use Rattle.bench.specs.declared.ear.Ear.{Ear}

-- the grants of the slots from n on, answered by its ONU, with one message wherever that is free
abbrev pub replies : Ear → ℕ → List ℕ → List Burst
replies e n gs = answers (steady e.free) e.onu.now n gs
