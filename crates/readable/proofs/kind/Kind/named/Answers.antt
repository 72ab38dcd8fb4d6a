-- The first kind in the list that has the name, or none: then no kind has it, since every kind stands in the list.
use Rattle.std.proofs.Common.{rules, ◌≡◌, ◌≢◌}
use borrow.Author.Tests.{tests}
use Rattle.std.proofs.lemmas.Iterator.{first_from_find, YieldsList-from_slice}
use Rattle.std.proofs.lemmas.Iterator.Consumers.{YieldsList-from_copied}
use Rattle.readable.specs.declared.kind.TheConstants.{KINDS}
use Rattle.readable.specs.Names.{kind_name}
use Rattle.readable.proofs.Places.{each_kind}
use Rattle.readable.proofs.kind.Kind.named.Goals as goal

pub returns : goal.returns
returns c =
    let found = first_from_find _ _ c.find.result (λ k. kind_name k ≡ c.args.name.now) (λ k. kind_name k ≢ c.args.name.now) c.find.ensures.ran (YieldsList-from_copied (YieldsList-from_slice KINDS cc)) (λ x q k. search (rules, tests)) (λ x q k. search (rules, tests)) in
    search (rules, each_kind (λ k. kind_name k ≢ c.args.name.now))
