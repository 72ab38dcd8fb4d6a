use Rattle.std.proofs.Common.{◌≡◌, rules, None}
use Rattle.rules.proofs.Clamps.{guard_none}
use Rattle.rules.specs.Settings.{guard_of}
use Rattle.head.proofs.head.Head.set_up.Goals as goal

pub returns-in_err-guard-clause-answer : goal.returns-in_err-guard-clause-answer
returns-in_err-guard-clause-answer c =
    let none : guard_of c.args.guard_bits ≡ None = search rules in
    let unfit = guard_none c.args.guard_bits none in
    search (rules, unfit)

pub returns-in_err-guard-clause-head : goal.returns-in_err-guard-clause-head
returns-in_err-guard-clause-head c =
    let none : guard_of c.args.guard_bits ≡ None = search rules in
    let unfit = guard_none c.args.guard_bits none in
    search (rules, unfit)
