-- Bytes between two bounds.
use Rattle.std.specs.Prelude.{ℕ, ◌≤◌, Some, None, Option}
use Rattle.std.proofs.Math.Decide.{dec_le}
use Rattle.field.specs.declared.bounded.Bounded.{Bounded}

-- a value for which both bounds are shown to hold
abbrev pub between : {low high n : ℕ} → Dec (low ≤ n) → Dec (n ≤ high) → Option (Bounded low high)
between {low} {high} {n} (yes above) (yes below) = Some (record { value = n; low = above; high = below })
between (yes above) (no beyond) = None
between (no short) d = None

-- n as a value between low and high, or none where it lies outside
unfoldable pub within : (low high n : ℕ) → Option (Bounded low high)
within low high n = between (dec_le low n) (dec_le n high)
