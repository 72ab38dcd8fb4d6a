use Rattle.std.proofs.Common.{rules, ◌≡◌, ◌++◌, [], refl, ◌∙◌, sym, append_assoc, append-nil}
use Rattle.std.proofs.lemmas.List.{nil_from_length}
use Rattle.std.proofs.Output.{has_written_append, has_written_of_eq}
use Rattle.keyed.specs.Fields.{hexed}
use Rattle.keyed.proofs.Hexes.{hexed_none, hexed-append}
use Rattle.keyed.proofs.hex.DigitsDisplay.fmt.Goals as goal

pub loop-rest-init : goal.loop-rest-init
loop-rest-init g c = λ plain. ([], search rules, refl)

pub loop-rest-preserved : goal.loop-rest-preserved
loop-rest-preserved g c = λ plain.
    let (done, wrote, text) = c.loop-rest.invariant plain in
    let few = c.split_at.result.0.now in
    let later = c.split_at.result.1.now in
    let parts : c.loop-rest.rest.now ≡ few ++ later = search rules in
    (done ++ hexed few, has_written_append _ _ _ _ _ _ wrote (search rules), append_assoc done (hexed few) (hexed later) ∙ (rw (parts, hexed-append few later) at text))

pub returns-clause-writes : goal.returns-clause-writes
returns-clause-writes g c = λ plain _.
    let (done, wrote, text) = c.loop-rest.invariant plain in
    let none : c.loop-rest.rest.now ≡ [] = search (rules, nil_from_length) in
    has_written_of_eq _ _ _ _ _ (sym (append-nil done) ∙ rw (none, hexed_none) at text) wrote
