use Rattle.std.proofs.Common.{sym, ◌∙◌, rules}
use Rattle.std.proofs.lemmas.List.{take_all}
use Rattle.field.proofs.Division.{check_none, check_more}
use Rattle.field.proofs.check.after_bytes.Goals as goal

pub loop-byte-init : goal.loop-byte-init
loop-byte-init c = λ zero. zero ∙ sym check_none

pub loop-byte-preserved : goal.loop-byte-preserved
loop-byte-preserved c = λ zero. let e = c.loop-byte.invariant zero in search (rules, check_more)

pub returns : goal.returns
returns c = λ zero. let e = c.loop-byte.invariant zero in search (rules, take_all)
