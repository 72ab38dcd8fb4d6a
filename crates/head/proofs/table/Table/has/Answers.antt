use Rattle.std.proofs.Common.{rules}
use borrow.Author.Tests.{tests}
use Rattle.std.proofs.lemmas.Iterator.{YieldsList-from_slice}
use Rattle.std.proofs.lemmas.Iterator.Search.{any_from_yields_List}
use Rattle.rules.specs.Row.{bears}
use Rattle.head.proofs.table.Table.has.Goals as goal

pub returns : goal.returns
returns c =
    any_from_yields_List (bears c.args.serial) _ _ c.any.result c.any.ensures.ran (YieldsList-from_slice c.args.self.now.rows cc) (λ x b q k. search (rules, tests))
