-- The codes so far are those of their slots.
use Rattle.std.proofs.Common.{◌≡◌, ℕ, ◌+◌, ◌<◌, get_or, length}
use Rattle.field.specs.Grant.{code_of}
use Rattle.head.specs.Table.{grant_in}
use Rattle.head.proofs.table.Table.grants.Given as goal

abbrev pub invariant-loop-k : goal.invariant-loop-k
invariant-loop-k l =
    (length l.codes ≡ 53) × ((i : ℕ) → i < l.k → get_or l.codes i 0 ≡ code_of (grant_in l.settings l.self.rows l.frame (i + 1)))
