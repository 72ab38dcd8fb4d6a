use Rattle.std.proofs.Common.{◌≡◌, length, arith, rules}
use Rattle.receiver.proofs.Rows.{reported_none, one_more}
use Rattle.receiver.proofs.receive.receive.Goals as goal

pub loop-x-init : goal.loop-x-init
loop-x-init c = search (rules, reported_none)

pub loop-x-preserved : goal.loop-x-preserved
loop-x-preserved c =
    let l : length c.loop-x.report ≡ 954 = omega arith in
    let m : length c.copy_from_slice.new.self ≡ 18 = search rules in
    one_more c.args.frame c.args.bursts.now c.args.marks.now c.loop-x.x _ c.loop-x.report c.copy_from_slice.new.self l (omega arith) m c.loop-x.invariant (search rules)
