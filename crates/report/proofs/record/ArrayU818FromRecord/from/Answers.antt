use Rattle.std.proofs.Common.{◌≡◌, rules}
use Rattle.field.specs.Bytes.{word_bytes}
use Rattle.field.specs.Octets.{picked}
use Rattle.field.proofs.Runs.{all_picked}
use Rattle.report.specs.Offset.{offset_bits}
use Rattle.report.specs.Record.{record_bytes}
use Rattle.report.proofs.record.ArrayU818FromRecord.from.Goals as goal

pub returns : goal.returns
unfolding record_bytes
returns c =
    let offset : c.copy_from_slice.new.self ≡ word_bytes (offset_bits c.args.record.offset) = search rules in
    let all = all_picked 12 c.args.record.message.bytes c.args.record.message.full in
    let message : c.copy_from_slice-2.new.self ≡ picked 0 12 c.args.record.message.bytes = cc in
    rw (offset, message) (search rules)
