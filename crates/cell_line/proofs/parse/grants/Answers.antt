use Rattle.std.proofs.Common.{rules, eqb, eq-eqb, ◌≡◌, Some, ◌≢◌, length, take, replicate, map, ◌∷◌, [], ◌++◌, refl, subst, sym, ap, ◌∙◌, arith, take_all, lit<}
use Rattle.std.specs.List.{join_with_byte}
use Rattle.std.specs.Str.Iter.{split_text, split_has_more, split_pattern}
use Rattle.std.proofs.lemmas.List.{map_push}
use Rattle.std.proofs.lemmas.List.Splits.{join_with_byte-slice_split}
use Rattle.std.proofs.lemmas.Iterator.{items_from_drains}
use Rattle.std.proofs.lemmas.Iterator.Splits.{YieldsList-from_str_split}
use Rattle.readable.specs.Shown.{grants_text}
use Rattle.field.specs.Grant.{code_of}
use Rattle.cell_line.proofs.Numerals.{not_both}
use Rattle.cell_line.proofs.Runs.{RunsSoFar, one_run_more, written}
use Rattle.cell_line.proofs.parse.grants.Goals as goal

pub loop-part-init : goal.loop-part-init
loop-part-init c = (refl, omega arith, (refl, refl))

pub loop-part-preserved : goal.loop-part-preserved
loop-part-preserved c =
    let w = rw c.in_ok-filled.ensures.ok_part at c.write_run.ensures in
    let differs : c.loop-part.last ≢ Some c.in_ok-run.run'.grant = λ e.
    let equal = rw e at c.eq.ensures in
    let same : c.eq.result ≡ eqb (code_of c.in_ok-run.run'.grant) (code_of c.in_ok-run.run'.grant) = search rules in
    not_both (same ∙ eq-eqb _ _ refl) c.if-eq.false in
    let grant = c.in_ok-run.run'.grant in
    let before = take c.loop-part.filled c.loop-part.grants in
    let parts = map (λ x. x.now) c.loop-part.yielded in (
      c.type_inv.grants,
      w.1,
      subst (λ cells. RunsSoFar cells (Some grant) (map (λ x. x.now) (c.loop-part.yielded ++ (c.in-Some.part ∷ [])))) (sym w.2)
          (subst (λ texts. RunsSoFar (before ++ replicate c.in_ok-run.run'.count grant) (Some grant) texts) (sym (map_push (λ x. x.now) c.loop-part.yielded c.in-Some.part))
          (one_run_more before c.loop-part.last parts grant c.in_ok-run.run'.count c.in-Some.part.now c.loop-part.invariant.2 differs c.in_ok-run.ensures.0 c.in_ok-run.ensures.2)),
    )

pub returns-then-filled-eq27 : goal.returns-then-filled-eq27
returns-then-filled-eq27 c =
    let long : length c.loop-part.grants ≡ 27 = c.loop-part.invariant.0 in
    let all : take c.loop-part.filled c.loop-part.grants ≡ c.loop-part.grants = take_all _ _ (omega arith) in
    let parts = items_from_drains c.loop-part.yielded (_, c.loop-part.yielded_by, λ u. (_, c.in-None.ensures.steps))
    (YieldsList-from_str_split 44 c.args.list.now (lit< tt)
    (ap split_text c.into_iter-part-iterator.ensures.into_iter_gives ∙ c.split-part-items.ensures.text)
    (ap split_has_more c.into_iter-part-iterator.ensures.into_iter_gives ∙ c.split-part-items.ensures.has_more)
    (ap split_pattern c.into_iter-part-iterator.ensures.into_iter_gives ∙ c.split-part-items.ensures.pattern)) in
    ap grants_text (sym all) ∙ (written _ _ _ c.loop-part.invariant.2 (omega (arith, ap length all)) ∙ (ap (join_with_byte 44) parts ∙ join_with_byte-slice_split 44 c.args.list.now))
