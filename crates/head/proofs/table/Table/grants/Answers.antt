use Rattle.std.proofs.Common.{◌≡◌, ℕ, ◌+◌, length, arith, sym, ap, ◌∙◌}
use Rattle.std.proofs.Math.ListN.{length-set}
use Rattle.std.proofs.lemmas.List.Edits.{fill_by_more}
use Rattle.std.proofs.lemmas.List.FromFn.{fill_by_all}
use Rattle.field.specs.Grant.{code_of}
use Rattle.field.specs.Octets.{grants_of}
use Rattle.head.specs.Table.{grant_in}
use Rattle.head.proofs.Granting.{codes_by_range}
use Rattle.head.proofs.table.Table.grants.Goals as goal

pub loop-k-preserved : goal.loop-k-preserved
loop-k-preserved c =
    let f : ℕ → ℕ = λ k. code_of (grant_in c.args.settings.now c.args.self.now.rows c.args.frame (k + 1)) in
    let long : length c.loop-k.codes ≡ 53 = c.loop-k.invariant.0 in
    let more = fill_by_more f c.loop-k.codes c.loop-k.k 0 (omega arith) c.loop-k.invariant.1 in
    rw c.code.ensures (length-set c.loop-k.codes c.loop-k.k (f c.loop-k.k) ∙ long, more)

pub returns : goal.returns
returns c =
    let f : ℕ → ℕ = λ k. code_of (grant_in c.args.settings.now c.args.self.now.rows c.args.frame (k + 1)) in
    let long : length c.loop-k.codes ≡ 53 = c.loop-k.invariant.0 in
    let all = fill_by_all f c.loop-k.codes 53 0 long (λ k h. c.loop-k.invariant.1 k (omega arith)) in
    c.from_codes.ensures ∙ ap (grants_of 53) (all ∙ sym (codes_by_range c.args.settings.now c.args.self.now.rows c.args.frame 0 53))
