-- Grants and their codes.
use Rattle.std.specs.Prelude.{◌≡◌, ℕ, ◌<◌, cond, Some, None, Option, ◌==◌}
use Rattle.field.specs.declared.bounded.Bounded.{Bounded}
use Rattle.field.specs.declared.grant.Grant.{Grant}
use Rattle.field.specs.declared.grant.Grant.TheVariants.{Code, Ranging, Unassigned, Idle}
use Rattle.field.specs.Bounded.{within}

-- the grant that a byte stands for: 0 to 252 an ordinary code, then ranging, unassigned and idle
abbrev pub ordinary : Option (Bounded 0 252) → ℕ → Grant
ordinary (Some code) n = Code code
ordinary None n = cond (n == 253) Ranging (cond (n == 254) Unassigned Idle)

abbrev pub grant_of : ℕ → Grant
grant_of n = ordinary (within 0 252 n) n

-- the byte of a grant
abbrev pub code_of : Grant → ℕ
code_of (Code code) = code.value
code_of Ranging = 253
code_of Unassigned = 254
code_of Idle = 255

-- a grant and its byte stand for each other
abbrev pub GrantAndByteAgree : Type 0
GrantAndByteAgree = ((g : Grant) → grant_of (code_of g) ≡ g) × ((n : ℕ) → n < 256 → code_of (grant_of n) ≡ n)
