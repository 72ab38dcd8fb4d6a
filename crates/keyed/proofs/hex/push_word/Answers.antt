use Rattle.std.proofs.Common.{◌≡◌, Some, None, length, drop, [], ◌++◌, option_map, sym, ap, ◌∙◌, drop_of_length-le}
use Rattle.std.specs.Char.{to_ascii_lowercase}
use Rattle.keyed.specs.Hex.{word_bytes}
use Rattle.keyed.proofs.Reading.{chunked, odd_none, not_here, all_read, chunk_bytes, refused, as_pair}
use Rattle.keyed.proofs.hex.push_word.Goals as goal

pub returns-in_err-high-items : goal.returns-in_err-high-items
returns-in_err-high-items c =
    let gone : c.digit_pairs.result ≡ None = c.in_err-items.ensures.ok_part in
    refused _ _ _ c.from_residual.ensures.0 (odd_none to_ascii_lowercase _ (rw gone at c.digit_pairs.ensures))

pub returns-in_err-ok_or : goal.returns-in_err-ok_or
returns-in_err-ok_or c =
    let these : c.digit_pairs.result ≡ Some c.in_ok-items.items = c.in_ok-items.ensures.ok_part in
    let h = rw these at c.digit_pairs.ensures in
    let none : chunk_bytes to_ascii_lowercase c.in_ok-items.items.now ≡ None =
    not_here to_ascii_lowercase _ c.loop-high.invariant.0 _ c.loop-high-test.true c.loop-high.invariant.2
    (as_pair c.byte-byte.ensures c.to_ascii_lowercase.ensures.value c.to_ascii_lowercase-in-loop-high.ensures.value c.in_err-ok_or.ensures.ok_part) in
    refused _ _ _ c.from_residual-in_err-ok_or.ensures.0
    (chunked to_ascii_lowercase (length c.in_ok-items.items.now) _ h.0 ∙ (ap (chunk_bytes to_ascii_lowercase) (sym h.1) ∙ none))

pub returns : goal.returns
returns c =
    let these : c.digit_pairs.result ≡ Some c.in_ok-items.items = c.in_ok-items.ensures.ok_part in
    let h = rw these at c.digit_pairs.ensures in
    let done = c.loop-high.invariant.0 in
    let all : drop c.loop-high.high-index c.in_ok-items.items.now ≡ [] = drop_of_length-le _ c.loop-high-test.false in
    let read : word_bytes c.args.word.now ≡ Some done =
    chunked to_ascii_lowercase (length c.in_ok-items.items.now) _ h.0
    ∙ (ap (chunk_bytes to_ascii_lowercase) (sym h.1) ∙ all_read to_ascii_lowercase _ done _ all c.loop-high.invariant.2) in
    ap (option_map (λ more. c.args.bytes.now.items ++ more)) read ∙ ap Some (sym c.loop-high.invariant.1)
