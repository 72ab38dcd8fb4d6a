-- A record is read from its own bytes.
use Rattle.std.proofs.Common.{◌≡◌, ℕ, ◌+◌, ◌*◌, ◌/◌, ◌%◌, ◌≤◌, ap, ◌∙◌, arith}
use Rattle.std.proofs.lemmas.Bool.Decides.{nat_tests}
use Rattle.field.proofs.Numbers.{count_again}
use Rattle.field.proofs.Runs.{octets_again}
use Rattle.report.specs.Offset.{offset_of, offset_bits}
use Rattle.report.specs.Record.{light_of, light_byte, record_bytes, Holds, ReadingUndoesWriting}
use Rattle.report.specs.declared.offset.Offset.{Offset}
use Rattle.report.specs.declared.offset.Offset.TheVariants.{Early, Late}
use Rattle.report.specs.declared.record.Light.{Light}
use Rattle.report.specs.declared.record.Light.TheVariants.{Dark, Broken, Ploam, Data}

light_again : (l : Light) (p : ℕ) → p ≤ 8 → light_of (light_byte l) p ≡ l
light_again Dark p h = grind (arith, nat_tests)
light_again Broken p h = grind (arith, nat_tests)
light_again Ploam p h = grind (arith, nat_tests)
light_again Data p h = grind (arith, nat_tests)

bits_fit : (o : Offset) → Holds o → offset_bits o ≤ 4294967295
bits_fit (Early n) h = omega arith
bits_fit (Late n) h = omega arith

bits_again : (o : Offset) → Holds o → offset_of (offset_bits o) ≡ o
bits_again (Early n) h = grind (arith, nat_tests)
bits_again (Late n) h = grind (arith, nat_tests)

offset_again : (o : Offset) → Holds o
    → offset_of (offset_bits o / 16777216 % 256 * 16777216 + offset_bits o / 65536 % 256 * 65536 + offset_bits o / 256 % 256 * 256 + offset_bits o % 256) ≡ o
offset_again o h = ap offset_of (count_again (offset_bits o) (bits_fit o h)) ∙ bits_again o h

pub again : ReadingUndoesWriting
unfolding record_bytes
again r h k = rw (light_again r.light r.parity h, offset_again r.offset k, octets_again r.message)
