use Rattle.std.proofs.Common.{lit<}
use Rattle.std.proofs.lemmas.Str.Pattern.{starts_char}
use Rattle.cell_line.proofs.Numerals.{no_plus, no_nought, parsed, not_both, one_long}
use Rattle.cell_line.proofs.parse.value.number.Goals as goal
use Rattle.cell_line.proofs.parse.value.number.Goals.{else-text-gt1-via-then-text-gt1+else-starts_with-2, else-text-gt1-via-else-text-gt1}

pub returns-then-starts_with : goal.returns-then-starts_with
returns-then-starts_with c =
    no_plus c.args.text.now ((starts_char 43 c.args.text.now c.starts_with.result c.starts_with.ensures.cases (lit< tt) (lit< tt)).0 c.if-starts_with.true)

pub returns-then-starts_with-2 : goal.returns-then-starts_with-2
returns-then-starts_with-2 c =
    no_nought c.args.text.now
    ((starts_char 48 c.args.text.now c.starts_with-then-text-gt1.result c.starts_with-then-text-gt1.ensures.cases (lit< tt) (lit< tt)).0 c.if-starts_with-2.true) c.if-text-gt1.true

pub returns : goal.returns
returns c =
    parsed c.args.text.now c.parse.result c.ok.result c.parse.ensures.value.0 c.ok.ensures.value
    (λ e. not_both ((starts_char 43 c.args.text.now c.starts_with.result c.starts_with.ensures.cases (lit< tt) (lit< tt)).1 e) c.if-starts_with.false)
    (λ e. elim c.else-text-gt1.branch [
      | else-text-gt1-via-then-text-gt1+else-starts_with-2 w ↦
          absurd (not_both
          ((starts_char 48 c.args.text.now w.starts_with-then-text-gt1.result w.starts_with-then-text-gt1.ensures.cases (lit< tt) (lit< tt)).1 e)
          w.if-starts_with-2.false)
      | else-text-gt1-via-else-text-gt1 w ↦ one_long c.args.text.now e w.if-text-gt1.false
    ])
