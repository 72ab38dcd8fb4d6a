-- An outlet with a lawful plant in it, or with none, is one.
use Rattle.std.specs.Prelude.{List, [], Some, None}
use Rattle.std.proofs.Common.{sym, subst}
use Rattle.onu.specs.declared.state.Onu.{Onu}
use Rattle.plant.specs.Lawful.{Does, Lawful, HearsCell, none}
use Rattle.plant.specs.declared.burst.Burst.{Burst}
use Rattle.outlet.specs.Outlet.{plugged, OutletDoes}

pub outlet_lawful : {X : Type 0} (means : X → List Onu) (D : Does X) → Lawful means D → Lawful (plugged means) (OutletDoes D)
outlet_lawful means D law None None p f new l h d = subst (λ (bs : List Burst). HearsCell p f [] [] bs) (sym d) none
outlet_lawful means D law None (Some y) p f new l h d = absurd d
outlet_lawful means D law (Some x) None p f new l h d = absurd d
outlet_lawful means D law (Some x) (Some y) p f new l h d = law x y p f new l h d
