use Rattle.std.proofs.Common.{rules, tests}
use Rattle.receiver.proofs.Slots.{Yields-answering, found_none, found_one, found_two}
use Rattle.receiver.proofs.receive.found_record.Goals as goal

pub returns-in-None-default : goal.returns-in-None-default
returns-in-None-default c =
    let e = found_none _ c.args.slot c.in-None-default.ensures.steps
    (Yields-answering _ c.args.slot c.args.bursts.now (cc) c.filter-here.ensures.closure (λ x b q k. search (rules, tests))) in
    cc

pub returns-in-Some-None : goal.returns-in-Some-None
returns-in-Some-None c =
    let e = found_one _ _ c.args.slot c.in-Some-None.burst c.in-Some-None.ensures.steps c.in-Some-None.ensures'.steps
    (Yields-answering _ c.args.slot c.args.bursts.now (cc) c.filter-here.ensures.closure (λ x b q k. search (rules, tests))) in
    cc

pub returns-in-Some-Some : goal.returns-in-Some-Some
returns-in-Some-Some c =
    let e = found_two c.next.new.self c.next-2.new.self c.args.slot c.in-Some-Some.field-0-0 c.in-Some-Some.field-0-1 c.in-Some-Some.ensures.steps c.in-Some-Some.ensures'.steps
    (Yields-answering _ c.args.slot c.args.bursts.now (cc) c.filter-here.ensures.closure (λ x b q k. search (rules, tests))) in
    cc
