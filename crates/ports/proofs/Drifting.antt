-- What is done to the line between cells is what its ONUs may do by themselves.
use Rattle.std.proofs.Common.{◌≡◌, ℕ, List, [], ◌∷◌, Some, None, Option, refl, ap, ◌∙◌, map, set, subst}
use Rattle.std.specs.Prelude.{option_map, slice_index_or}
use Rattle.bench.specs.Bench.{met}
use Rattle.bench.specs.declared.bench_onu.BenchOnu.{BenchOnu}
use Rattle.bench.specs.declared.machine.Machine.{Machine}
use Rattle.fibre.specs.Far.{drifts_far, drifts_over}
use Rattle.fibre.specs.Fibre.{far}
use Rattle.onu.specs.declared.state.Onu.{Onu}
use Rattle.outlet.specs.Outlet.{plugged}
use Rattle.plant.proofs.Lists.{drifts_still}
use Rattle.plant.specs.Lawful.{Move, Drifts, still, next}
use Rattle.splitter.specs.Splits.{joined_drifts}
use Rattle.splitter.specs.Splitter.{joined}
use Rattle.star.specs.Lit.{lighted_drifts}
use Rattle.star.specs.Star.{lighted}
use Rattle.ports.specs.Tree.{Port, bench_means, machine_in, port_means, host_move, machine_after}
use Rattle.ports.specs.declared.tree.Change.{Change}
use Rattle.ports.specs.declared.tree.Change.TheVariants.{FibreBits, Pattern, Host}

-- an ONU, or none
onus : Option Machine → List Onu
onus None = []
onus (Some m) = m.onu ∷ []

in_outlet : (a : Option BenchOnu) → plugged bench_means a ≡ onus (option_map (λ (b : BenchOnu). b.machine) a)
unfolding onus
in_outlet None = refl
in_outlet (Some b) = refl

move_drifts : (m : Move) (s : Option Machine) → Drifts (onus s) (onus (option_map (met m) s))
unfolding onus
move_drifts m None = still
move_drifts m (Some s) = next (m ∷ []) still

change_drifts : (c : Change) (s : Option Machine) → Drifts (onus s) (onus (machine_after c s))
change_drifts (Host e) s = move_drifts (host_move e) s
change_drifts (FibreBits bits) s = drifts_still (onus s)
change_drifts (Pattern pattern) s = drifts_still (onus s)

port_drifts : (c : Change) (p q : Port) → machine_in q ≡ machine_after c (machine_in p) → Drifts (port_means p) (port_means q)
port_drifts c p q e =
    let old : plugged bench_means p.plant.plant.plant ≡ onus (machine_in p) = in_outlet p.plant.plant.plant in
    let new : plugged bench_means q.plant.plant.plant ≡ onus (machine_after c (machine_in p)) = in_outlet q.plant.plant.plant ∙ ap onus e in
    drifts_over p.plant.bits.value q.plant.bits.value (rw (old, new) (change_drifts c (machine_in p)))

-- whom a line of such a feeder, such arms and such a port 64 means
abbrev seen : (bits : ℕ) (arms : List Port) (two : Port) → List Onu
seen bits arms two = map (far bits) (joined (lighted port_means [] arms) (port_means two))

module _ (c : Change) (bits : ℕ) (arms : List Port) (p q : Port) (e : machine_in q ≡ machine_after c (machine_in p)) where
  pub last_drifts : Drifts (seen bits arms p) (seen bits arms q)
  last_drifts = drifts_far bits (joined_drifts (drifts_still (lighted port_means [] arms)) (port_drifts c p q e))

  pub arm_drifts : (two : Port) (i : ℕ) → p ≡ slice_index_or arms i p → Drifts (seen bits arms two) (seen bits (set arms i q) two)
  arm_drifts two i k =
      let h : Drifts (port_means (slice_index_or arms i p)) (port_means q) = subst (λ (x : Port). Drifts (port_means x) (port_means q)) k (port_drifts c p q e) in
      drifts_far bits (joined_drifts (lighted_drifts port_means [] arms i p q h) (drifts_still (port_means two)))
