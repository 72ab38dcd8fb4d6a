-- The bench ONU is a lawful plant.
use Rattle.std.specs.Prelude.{◌≡◌, ℕ, true, false, List, [], ◌∷◌}
use Rattle.std.proofs.Common.{sym, ap, subst}
use Rattle.onu.specs.Facts.{sound}
use Rattle.onu.specs.declared.state.Onu.{Onu}
use Rattle.plant.proofs.Lists.{hears_one, moves_keep, acted_keeps}
use Rattle.plant.specs.Heard.{heard_message}
use Rattle.plant.specs.Lawful.{Move, by_move, by_moves, steady, Choice, HearsCell, Drifts, still, next}
use Rattle.plant.specs.declared.burst.Burst.{Burst}
use Rattle.bench.specs.declared.machine.Machine.{Machine}
use Rattle.bench.specs.Bench.{quiet, due, woken, after_cell, answers_of, BenchDoes, met, Meets}

-- the choice that the bench ONU makes
chosen : Machine → Choice
chosen s = record { before = due s; loses = false; says = steady (quiet (woken s)) }

heard : (s : Machine) (p : List ℕ) (f : ℕ) → HearsCell p f (s.onu ∷ []) ((after_cell s p).onu ∷ []) (answers_of s f p)
unfolding chosen woken after_cell
heard s p f = hears_one (chosen s)

pub bench_lawful : (s t : Machine) (p : List ℕ) (f : ℕ) (new : List Burst) → BenchDoes s p f t new → HearsCell p f (s.onu ∷ []) (t.onu ∷ []) new
bench_lawful s t p f new (e, i) =
    subst (λ (u : Machine). HearsCell p f (s.onu ∷ []) (u.onu ∷ []) new) (sym e)
    (subst (λ (bs : List Burst). HearsCell p f (s.onu ∷ []) ((after_cell s p).onu ∷ []) bs) (sym i) (heard s p f))

after_keeps : (s : Machine) (p : List ℕ) → sound s.onu ≡ true → sound (after_cell s p).onu ≡ true
unfolding after_cell woken
after_keeps s p h = acted_keeps (heard_message p) (by_moves (due s) s.onu) (moves_keep (due s) s.onu h)

pub cell_keeps : (s t : Machine) (p : List ℕ) → t ≡ after_cell s p → sound s.onu ≡ true → sound t.onu ≡ true
cell_keeps s t p e h = subst (λ (u : Machine). sound u.onu ≡ true) (sym e) (after_keeps s p h)

-- what the host does is a drift
pub move_drifts : (m : Move) (o o' : Onu) → o' ≡ by_move m o → Drifts (o ∷ []) (o' ∷ [])
move_drifts m o o' e = subst (λ (u : Onu). Drifts (o ∷ []) (u ∷ [])) (sym e) (next (m ∷ []) still)

pub meets : (m : Move) (s t : Machine) → t ≡ met m s → Meets m s t
meets m s t e = record { machine = e; drifts = move_drifts m s.onu t.onu (ap (λ (u : Machine). u.onu) e) }
