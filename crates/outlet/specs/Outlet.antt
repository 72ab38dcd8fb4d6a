-- An outlet: it means what is plugged in, and an empty one means nobody.
use Rattle.std.specs.Prelude.{ℕ, ◌≡◌, List, [], Some, None, Option}
use Rattle.onu.specs.declared.state.Onu.{Onu}
use Rattle.plant.specs.Lawful.{Does}
use Rattle.plant.specs.declared.burst.Burst.{Burst}

abbrev pub plugged : {X : Type 0} → (X → List Onu) → Option X → List Onu
plugged means None = []
plugged means (Some x) = means x

-- the plant in it hears the cell; an empty outlet stays empty and sends nothing
abbrev pub OutletDoes : {X : Type 0} → Does X → Option X → List ℕ → ℕ → Option X → List Burst → Type 0
OutletDoes D None p first None new = new ≡ []
OutletDoes D None p first (Some y) new = ⊥
OutletDoes D (Some x) p first None new = ⊥
OutletDoes D (Some x) p first (Some y) new = D x p first y new
