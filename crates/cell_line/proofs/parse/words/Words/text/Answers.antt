use Rattle.std.proofs.Common.{◌≡◌, ◌++◌, sym, ap, ◌∙◌, lit<}
use Rattle.std.proofs.lemmas.Str.Pattern.{strip_prefix_char}
use Rattle.cell_line.proofs.Fielding.{after_key}
use Rattle.cell_line.proofs.parse.words.Words.text.Goals as goal

pub returns : goal.returns
returns c =
    let strip = c.in_ok-strip_prefix.ensures.cases in
    let word : c.in_ok-next.field-0.now ≡ c.name.result.now ++ c.in_ok-strip_prefix.field-0.now =
    strip.1.1 ∙ ap (λ b. c.name.result.now ++ b) (sym strip.2) in
    after_key c.strip_prefix-2.result _ _ _ _ _ (word ∙ ap (λ n. n ++ c.in_ok-strip_prefix.field-0.now) c.name.ensures)
    (strip_prefix_char 61 _ _ c.strip_prefix-2.ensures.cases (lit< tt)) c.in_ok-next.ensures
