use Rattle.std.proofs.Common.{◌≡◌, ℕ, ◌<◌, length, get_or}
use Rattle.field.specs.Grant.{code_of}
use Rattle.field.specs.declared.grant.Grant.TheVariants.{Idle}
use Rattle.field.proofs.grants.Grants.new.Given as goal

abbrev pub invariant-loop-k : goal.invariant-loop-k
invariant-loop-k g l = (length l.codes ≡ g.row.N) × ((j : ℕ) → j < l.k → get_or l.codes j 0 ≡ code_of (get_or l.grant-items j Idle))
