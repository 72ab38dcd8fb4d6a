use Rattle.std.proofs.Common.{◌≡◌, List, ℕ, map, ◌∷◌, [], ◌++◌, ap, ◌∙◌}
use Rattle.std.proofs.lemmas.List.{map_push}
use Rattle.std.specs.Str.Iter.{split_whitespace_rest}
use Rattle.keyed.specs.Hex.{words_bytes}
use Rattle.keyed.proofs.Reading.{refused_as}
use Rattle.keyed.proofs.Wording.{first_words, one_word_more, word_read, word_not_read}
use Rattle.keyed.proofs.hex.bytes.Goals as goal

pub loop-word-preserved : goal.loop-word-preserved
loop-word-preserved c =
    ap words_bytes (map_push _ c.loop-word.yielded c.in-Some.word)
    ∙ word_read _ c.in-Some.word.now _ _ c.loop-word.invariant c.in_ok-push_word.ensures

pub returns-in_err-push_word : goal.returns-in_err-push_word
returns-in_err-push_word c =
    let start : split_whitespace_rest c.into_iter-word-iterator.result ≡ c.args.line.now =
    ap split_whitespace_rest c.into_iter-word-iterator.ensures.into_iter_gives ∙ c.split_whitespace-word-items.ensures.rest in
    let words : List (List ℕ) = map (λ x. x.now) c.loop-word.yielded in
    let before = first_words c.loop-word.yielded c.into_iter-word-iterator.result c.loop-word.word-iterator _ start c.loop-word.yielded_by in
    refused_as _ _ _ _ c.from_residual.ensures.1
    (λ digits. (
      words ++ (c.in-Some.word.now ∷ []),
      split_whitespace_rest c.next.new.self,
      one_word_more words _ _ c.in-Some.word.now _ before c.in-Some.ensures.steps,
      word_not_read words c.in-Some.word.now _ c.loop-word.invariant (c.in_err-push_word.ensures digits),
    ))

pub returns : goal.returns
returns c =
    let start : split_whitespace_rest c.into_iter-word-iterator.result ≡ c.args.line.now =
    ap split_whitespace_rest c.into_iter-word-iterator.ensures.into_iter_gives ∙ c.split_whitespace-word-items.ensures.rest in (
      map (λ x. x.now) c.loop-word.yielded,
      (
        split_whitespace_rest c.loop-word.word-iterator,
        first_words c.loop-word.yielded c.into_iter-word-iterator.result c.loop-word.word-iterator _ start c.loop-word.yielded_by,
        c.in-None.ensures.steps.1,
      ),
      c.loop-word.invariant,
    )
