use Rattle.std.proofs.Common.{◌≡◌, ◌+◌, eqb, [], ◌∷◌, ◌++◌, drop, rules, arith, sym, ◌∙◌, append_assoc, codes}
use Rattle.std.proofs.Output.{has_written_append, has_written_of_eq}
use Rattle.std.proofs.lemmas.List.{drop_more, drop_all}
use Rattle.field.specs.Grant.{code_of}
use Rattle.readable.specs.Shown.{run_text, runs_text}
use Rattle.readable.proofs.Runs.{runs_same, runs_next, runs_end}
use Rattle.readable.proofs.run.TextRefSliceGrantDisplay.fmt.Goals as goal
use Rattle.readable.proofs.run.TextRefSliceGrantDisplay.fmt.Goals.{then-eq, else-eq+in_ok-write}

pub loop-grant-preserved : goal.loop-grant-preserved
loop-grant-preserved g c =
    let h = c.grant-item.result in
    let run = c.loop-grant.run in
    let left = drop (c.loop-grant.grant-index + 1) c.in-Some.rest.now in
    let same : c.eq.result ≡ eqb (code_of h) (code_of run.grant) = search rules in
    let next : drop c.loop-grant.grant-index c.in-Some.rest.now ≡ h ∷ left = search (rules, drop_more) in
    elim c.if-eq.branch [
      | then-eq w ↦
          rw w.run-is (
            omega arith,
            λ plain.
                let (done, wrote, text) = c.loop-grant.invariant.1 plain in (
                  done,
                  rw w.f-is wrote,
                  rw (next, runs_same run.grant run.count h left (sym same ∙ w.if-eq.true)) at text,
                ),
          )
      | else-eq+in_ok-write w ↦
          rw w.run-is (
            omega arith,
            λ plain.
                let (done, wrote, text) = c.loop-grant.invariant.1 plain in
                let more = run_text run.grant run.count ++ codes "," in (
                  done ++ more,
                  rw w.f-is (has_written_append _ _ _ _ _ _ wrote (search rules)),
                  append_assoc done more (runs_text h 1 left)
                      ∙ (rw (next, runs_next run.grant run.count h left (sym same ∙ w.if-eq.false)) at text),
                ),
          )
    ]

pub returns-clause-writes : goal.returns-clause-writes
returns-clause-writes g c = λ plain ok.
    let (done, wrote, text) = c.loop-grant.invariant.1 plain in
    let none : drop c.loop-grant.grant-index c.in-Some.rest.now ≡ [] = search (rules, drop_all) in
    let last = rw (none, runs_end c.loop-grant.run.grant c.loop-grant.run.count) at text in
    let whole : c.args.self.now.0.now ≡ c.in-Some.first.now ∷ c.in-Some.rest.now = search rules in
    rw whole (has_written_of_eq _ _ _ _ _ last (has_written_append _ _ _ _ _ _ wrote (search rules)))
