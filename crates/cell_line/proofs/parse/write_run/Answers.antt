use Rattle.std.proofs.Common.{◌≡◌, ◌<◌, ◌+◌, ◌-◌, ◌∷◌, [], ◌++◌, length, take, replicate, ap, ◌∙◌, arith, length-set, append_assoc}
use Rattle.std.proofs.lemmas.List.{take_more_set, replicate_more}
use Rattle.cell_line.proofs.parse.write_run.Goals as goal

pub loop-place-preserved : goal.loop-place-preserved
loop-place-preserved c =
    let room : c.loop-place.place < length c.loop-place.grants = omega arith in
    let n : c.loop-place.place - c.args.from + 1 ≡ c.loop-place.place + 1 - c.args.from = omega arith in (
      length-set c.loop-place.grants c.loop-place.place c.args.run.grant ∙ c.loop-place.invariant.0,
      take_more_set c.loop-place.grants c.loop-place.place c.args.run.grant room
          ∙ (ap (λ xs. xs ++ (c.args.run.grant ∷ [])) c.loop-place.invariant.1
          ∙ (append_assoc (take c.args.from c.args.grants.now) (replicate (c.loop-place.place - c.args.from) c.args.run.grant) (c.args.run.grant ∷ [])
          ∙ ap (λ xs. take c.args.from c.args.grants.now ++ xs)
          (replicate_more (c.loop-place.place - c.args.from) c.args.run.grant ∙ ap (λ m. replicate m c.args.run.grant) n))),
    )
