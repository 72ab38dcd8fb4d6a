-- Numbers with a greatest value.
use Rattle.std.specs.Prelude.{ℕ, ◌≤◌, min, Some, None, Option}
use Rattle.std.proofs.Common.{zero-le}
use Rattle.std.proofs.Math.Nat.{min-le_right}
use Rattle.std.proofs.Math.Decide.{dec_le}
use Rattle.field.specs.declared.number.Number.{Number}

-- a value for which the bound is shown to hold
abbrev pub below : {high n : ℕ} → Dec (n ≤ high) → Option (Number high)
below {high} {n} (yes fits) = Some (record { value = n; high = fits })
below (no beyond) = None

-- n as a value of at most high, or none where it is greater
unfoldable pub up_to : (high n : ℕ) → Option (Number high)
up_to high n = below (dec_le n high)

-- n as such a value, or the greatest where n is greater
unfoldable pub capped : (high n : ℕ) → Number high
capped high n = record { value = min n high; high = min-le_right n high }

-- 0 as such a value
unfoldable pub nought : (high : ℕ) → Number high
nought high = record { value = 0; high = zero-le }
