use Rattle.std.proofs.Common.{◌≡◌, rules}
use borrow.Author.Tests.{tests}
use Rattle.std.proofs.lemmas.Iterator.{YieldsList-from_slice}
use Rattle.std.proofs.lemmas.Iterator.Search.{all_from_yields_List}
use Rattle.std.specs.List.{list_all}
use Rattle.rules.specs.Settings.{byte_fits}
use Rattle.rules.proofs.settings.calendar.Goals as goal

pub returns : goal.returns
returns c =
    let xs = c.in_ok-calendar.calendar in
    let fits : c.all.result ≡ list_all byte_fits xs =
    all_from_yields_List byte_fits _ _ c.all.result c.all.ensures.ran (YieldsList-from_slice xs cc) (λ x b q k. search (rules, tests)) in
    search (rules, fits)
