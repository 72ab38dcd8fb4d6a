use Rattle.std.proofs.Common.{sym, ap, ◌∙◌, rules}
use lib.Bits.{bit_xor}
use Rattle.field.specs.Check.{shifted}
use Rattle.field.proofs.Division.{check_push}
use Rattle.field.proofs.check.check_byte_and.Goals as goal

pub returns : goal.returns
returns c =
    c.after_byte.ensures ∙ ap (λ k. shifted (bit_xor k c.args.byte)) c.check_byte.ensures ∙ sym (check_push c.args.bytes.now c.args.byte (search rules))
