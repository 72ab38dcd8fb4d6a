-- Parts of an upstream slot.
use Rattle.std.specs.Prelude.{ℕ, ◌+◌, ◌≤◌, Some, None, Option}
use Rattle.std.proofs.Math.Decide.{dec_le}
use Rattle.field.specs.declared.minislot.Minislot.{Minislot}

-- a part that is shown to have a byte and to end within the slot's 53
abbrev pub part : (offset length : ℕ) → Dec (1 ≤ length) → Dec (offset + length ≤ 53) → Option Minislot
part offset length (yes one) (yes ends) = Some (record { offset = offset; length = length; some = one; inside = ends })
part offset length (yes one) (no beyond) = None
part offset length (no empty) d = None

-- the part of so many bytes from there on, or none where it is empty or passes the end
unfoldable pub minislot_of : (offset length : ℕ) → Option Minislot
minislot_of offset length = part offset length (dec_le 1 length) (dec_le (offset + length) 53)
