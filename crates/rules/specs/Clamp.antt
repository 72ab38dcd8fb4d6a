-- Bytes from 0 on with a greatest value.
use Rattle.std.specs.Prelude.{ℕ, min}
use Rattle.std.proofs.Common.{zero-le}
use Rattle.std.proofs.Math.Nat.{min-le_right}
use Rattle.field.specs.declared.bounded.Bounded.{Bounded}

-- n, or the greatest where n is above that
unfoldable pub clamped : (high n : ℕ) → Bounded 0 high
clamped high n = record { value = min n high; low = zero-le; high = min-le_right n high }
