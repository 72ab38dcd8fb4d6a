-- The line of the script is a lawful plant.
use Rattle.std.specs.Prelude.{◌≡◌, ◌+◌, ◌≤◌, true, List, [], refl, length, map, Some, None, Option}
use Rattle.std.proofs.Common.{arith}
use Rattle.bench.specs.Bench.{BenchDoes}
use Rattle.bench.specs.Benches.{bench_lawful}
use Rattle.bench.specs.declared.bench_onu.BenchOnu.{BenchOnu}
use Rattle.fibre.specs.Far.{few_far, sound_far, fibre_lawful}
use Rattle.fibre.specs.Fibre.{far, FibreDoes}
use Rattle.fibre.specs.declared.Fibre.{Fibre}
use Rattle.lossy_drop.specs.Deaf.{drop_lawful}
use Rattle.lossy_drop.specs.LossyDrop.{DropDoes}
use Rattle.lossy_drop.specs.declared.LossyDrop.{LossyDrop}
use Rattle.onu.specs.declared.state.Onu.{Onu}
use Rattle.outlet.specs.Outlet.{plugged, OutletDoes}
use Rattle.outlet.specs.Outlets.{outlet_lawful}
use Rattle.outlet.specs.declared.Outlet.{Outlet}
use Rattle.plant.specs.Lawful.{Does, Lawful, all_sound}
use Rattle.splitter.specs.Splits.{joined_few, joined_sound, split_lawful}
use Rattle.splitter.specs.Splitter.{joined, SplitDoes}
use Rattle.splitter.specs.declared.Splitter.{Splitter}
use Rattle.star.specs.Lit.{lighted_few, lighted_sound, star_lawful}
use Rattle.star.specs.Star.{lighted, Arms}
use Rattle.star.specs.declared.Star.{Star}
use Rattle.ports.specs.Tree.{Port, bench_means, port_means, line_means}
use Rattle.ports.specs.declared.tree.Tree.{Tree}

abbrev pub bench_does : Does BenchOnu
bench_does s p f t new = BenchDoes s.machine p f t.machine new

abbrev pub outlet_does : Does (Outlet BenchOnu)
outlet_does s p f t new = OutletDoes bench_does s.plant p f t.plant new

abbrev pub fibre_does : Does (Fibre (Outlet BenchOnu))
fibre_does s p f t new = FibreDoes outlet_does s.plant s.bits p f t.plant t.bits new

abbrev pub port_does : Does Port
port_does s p f t new = DropDoes fibre_does s.plant s.pattern p f t.plant t.pattern new

abbrev pub star_does : Does (Star Port)
star_does s p f t new = Arms port_means port_does p f 0 s.arms.items t.arms.items new

abbrev pub star_means : Star Port → List Onu
star_means s = lighted port_means [] s.arms.items

abbrev pub ports_does : Does (Splitter (Star Port) Port)
ports_does s p f t new =
    SplitDoes star_does port_does (length (star_means s.one) + length (port_means s.two)) s.one s.two p f t.one t.two new

abbrev pub feeder_does : Does (LossyDrop (Splitter (Star Port) Port))
feeder_does s p f t new = DropDoes ports_does s.plant s.pattern p f t.plant t.pattern new

-- what an accepted cell does to the line
abbrev pub tree_does : Does Tree
tree_does s p f t new = FibreDoes feeder_does s.line.plant s.line.bits p f t.line.plant t.line.bits new

abbrev outlet_means : Outlet BenchOnu → List Onu
outlet_means s = plugged bench_means s.plant

abbrev fibre_means : Fibre (Outlet BenchOnu) → List Onu
fibre_means s = map (far s.bits.value) (outlet_means s.plant)

abbrev ports_means : Splitter (Star Port) Port → List Onu
ports_means s = joined (star_means s.one) (port_means s.two)

abbrev feeder_means : LossyDrop (Splitter (Star Port) Port) → List Onu
feeder_means s = ports_means s.plant

bench_law : Lawful bench_means bench_does
bench_law s t p f new l h d = bench_lawful s.machine t.machine p f new d

outlet_law : Lawful outlet_means outlet_does
outlet_law s t p f new l h d = outlet_lawful bench_means bench_does bench_law s.plant t.plant p f new l h d

fibre_law : Lawful fibre_means fibre_does
fibre_law s t p f new l h d = fibre_lawful outlet_means outlet_does outlet_law s.plant t.plant s.bits t.bits p f new l h d

port_law : Lawful port_means port_does
port_law s t p f new l h d = drop_lawful fibre_means fibre_does fibre_law s.plant t.plant p f new l h s.pattern d.0

star_law : Lawful star_means star_does
star_law s t p f new l h d = star_lawful port_means port_does p f port_law l h d

ports_law : Lawful ports_means ports_does
ports_law s t p f new l h d = split_lawful star_means port_means star_does port_does star_law port_law s.one t.one s.two t.two p f new l h d

feeder_law : Lawful feeder_means feeder_does
feeder_law s t p f new l h d = drop_lawful ports_means ports_does ports_law s.plant t.plant p f new l h s.pattern d.0

pub tree_law : Lawful line_means tree_does
tree_law s t p f new l h d = fibre_lawful feeder_means feeder_does feeder_law s.line.plant t.line.plant s.line.bits t.line.bits p f new l h d

pub tree_few : (t : Tree) → length (line_means t) ≤ 64
tree_few t = few_far t.line.bits.value _ (joined_few _ _ (lighted_few port_means [] t.line.plant.plant.one.arms.items (omega arith)))

outlet_sound : (o : Option BenchOnu) → all_sound (plugged bench_means o) ≡ true
outlet_sound None = refl
outlet_sound (Some b) = Prim.grind (arith, b.kept)

port_sound : (q : Port) → all_sound (port_means q) ≡ true
port_sound q = sound_far q.plant.bits.value (plugged bench_means q.plant.plant.plant) (outlet_sound q.plant.plant.plant)

pub tree_sound : (t : Tree) → all_sound (line_means t) ≡ true
tree_sound t =
    sound_far t.line.bits.value (ports_means t.line.plant.plant)
    (joined_sound (star_means t.line.plant.plant.one) (port_means t.line.plant.plant.two)
    (lighted_sound port_means port_sound [] t.line.plant.plant.one.arms.items refl) (port_sound t.line.plant.plant.two))
