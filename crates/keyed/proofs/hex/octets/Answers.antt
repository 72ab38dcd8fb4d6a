use Rattle.std.proofs.Common.{◌≡◌, ◌+◌, Some, None, length, take, drop, [], sym, ap, subst, ◌∙◌, arith, length-set, drop_of_length-le, take_all}
use Rattle.std.proofs.lemmas.List.{length-replicate, take_more_set}
use Rattle.keyed.specs.Hex.{unhexed}
use Rattle.keyed.proofs.Reading.{SoFar, chunk_bytes, chunked_same, nothing, whole, nothing_yet, not_here, one_more, all_read}
use Rattle.keyed.proofs.hex.octets.Goals as goal

pub loop-place-init : goal.loop-place-init
loop-place-init g c = (length-replicate g.row.N 0, c.if-pairs.false, nothing_yet _ _)

pub returns-in_err-bytes : goal.returns-in_err-bytes
returns-in_err-bytes g c =
    let these : c.digit_pairs.result ≡ Some c.in_ok-pairs.pairs = c.in_ok-pairs.was in
    let h = rw these at c.digit_pairs.ensures in
    let none : chunk_bytes (λ b. b) c.in_ok-pairs.pairs.now ≡ None =
    not_here (λ b. b) _ _ _ c.loop-place-test.true c.loop-place.invariant.2 (sym c.byte.ensures ∙ c.in_err-bytes.was) in
    c.from_residual-in_err-bytes.ensures
    ∙ sym (nothing g.row.N _ (chunked_same (length c.in_ok-pairs.pairs.now) _ h.0 ∙ (ap (chunk_bytes (λ b. b)) (sym h.1) ∙ none)))

pub loop-place-preserved : goal.loop-place-preserved
loop-place-preserved g c =
    let lt = c.loop-place-test.true in
    let more : SoFar (λ b. b) c.in_ok-pairs.pairs.now _ (c.loop-place.place + 1) =
    one_more (λ b. b) _ _ _ c.in_ok-bytes.field-0 lt c.loop-place.invariant.2 (sym c.byte.ensures ∙ c.in_ok-bytes.was) in (
      length-set c.loop-place.bytes c.loop-place.place c.in_ok-bytes.field-0 ∙ c.loop-place.invariant.0,
      c.loop-place.invariant.1,
      subst (λ done. SoFar (λ b. b) c.in_ok-pairs.pairs.now done (c.loop-place.place + 1)) (sym (take_more_set c.loop-place.bytes c.loop-place.place c.in_ok-bytes.field-0 (omega arith))) more,
    )

pub returns : goal.returns
returns g c =
    let these : c.digit_pairs.result ≡ Some c.in_ok-pairs.pairs = c.in_ok-pairs.was in
    let h = rw these at c.digit_pairs.ensures in
    let all : drop c.loop-place.place c.in_ok-pairs.pairs.now ≡ [] = drop_of_length-le _ c.loop-place-test.false in
    let full : take c.loop-place.place c.loop-place.bytes ≡ c.loop-place.bytes = take_all _ _ (omega arith) in
    let read : unhexed c.args.text.now ≡ Some c.loop-place.bytes =
    chunked_same (length c.in_ok-pairs.pairs.now) _ h.0
    ∙ (ap (chunk_bytes (λ b. b)) (sym h.1) ∙ (all_read (λ b. b) _ _ _ all c.loop-place.invariant.2 ∙ ap Some full)) in
    sym (whole g.row.N _ _ (omega arith) read)
