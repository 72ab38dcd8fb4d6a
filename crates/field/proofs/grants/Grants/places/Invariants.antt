use Rattle.std.proofs.Common.{◌≡◌, ℕ, ◌<◌, length, get_or}
use Rattle.field.specs.Grant.{grant_of}
use Rattle.field.specs.declared.grant.Grant.TheVariants.{Idle}
use Rattle.field.proofs.grants.Grants.places.Given as goal

abbrev pub invariant-loop-k : goal.invariant-loop-k
invariant-loop-k g l = (length l.places ≡ g.row.N) × ((j : ℕ) → j < l.k → get_or l.places j Idle ≡ grant_of (get_or l.code-items j 0))
