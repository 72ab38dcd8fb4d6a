-- A record of 18 bytes: kind, differing parity bits, offset, message.
use Rattle.std.specs.Prelude.{◌≡◌, ℕ, ◌+◌, ◌*◌, ◌<◌, ◌≤◌, cond, List, ◌∷◌, ◌++◌, ◌==◌, nat_le}
use Rattle.field.specs.Bytes.{at, word_bytes}
use Rattle.field.specs.Octets.{picked, octets_of}
use Rattle.report.specs.Offset.{offset_of, offset_bits}
use Rattle.report.specs.declared.offset.Offset.{Offset}
use Rattle.report.specs.declared.offset.Offset.TheVariants.{Early, Late}
use Rattle.report.specs.declared.record.Light.{Light}
use Rattle.report.specs.declared.record.Light.TheVariants.{Dark, Broken, Ploam, Data}
use Rattle.report.specs.declared.record.Record.{Record}

-- 0 no light, 1 broken, 2 a PLOAM cell, 3 a data cell; another kind, or a parity above 8, counts as broken
abbrev pub light_of : (kind parity : ℕ) → Light
light_of kind parity = cond (nat_le parity 8) (cond (kind == 0) Dark (cond (kind == 2) Ploam (cond (kind == 3) Data Broken))) Broken

abbrev pub light_byte : Light → ℕ
light_byte Dark = 0
light_byte Broken = 1
light_byte Ploam = 2
light_byte Data = 3

-- the offset has four bytes, the most significant first
abbrev pub record_of : List ℕ → Record
record_of b =
    record {
      light = light_of (at b 0) (at b 1);
      parity = at b 1;
      offset = offset_of (at b 2 * 16777216 + at b 3 * 65536 + at b 4 * 256 + at b 5);
      message = octets_of 12 (picked 6 12 b);
    }

unfoldable pub record_bytes : Record → List ℕ
record_bytes r = light_byte r.light ∷ r.parity ∷ word_bytes (offset_bits r.offset) ++ picked 0 12 r.message.bytes

-- an offset that 32 bits hold
abbrev pub Holds : Offset → Type 0
Holds (Early n) = (1 ≤ n) × (n ≤ 2147483648)
Holds (Late n) = n < 2147483648

-- a record with a parity of at most 8 and such an offset is read from its own bytes
abbrev pub ReadingUndoesWriting : Type 0
ReadingUndoesWriting = (r : Record) → r.parity ≤ 8 → Holds r.offset → record_of (record_bytes r) ≡ r
