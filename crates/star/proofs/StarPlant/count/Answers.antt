use Rattle.std.proofs.Common.{[], vec_items, ap, sym, ◌∙◌, arith, rules}
use Rattle.std.proofs.lemmas.List.{drop_all}
use Rattle.star.specs.Star.{lit_in}
use Rattle.star.specs.Lit.{lit_none, lit_next, lighted-length}
use Rattle.star.proofs.StarPlant.count.Goals as goal

pub loop-arm-preserved : goal.loop-arm-preserved
loop-arm-preserved g c =
    let e = lit_next g.P.Plant.means c.loop-arm.lit c.deref-arm-items.result.now c.loop-arm.arm-index c.arm-item.result (omega arith) c.arm-item.is in
    search (rules, e)

pub returns : goal.returns
returns g c =
    let m = g.P.Plant.means in
    let n = c.loop-arm.lit in
    sym (lighted-length m [] (vec_items c.args.self.now.arms) ∙ ap (lit_in m 0) (sym c.deref-arm-items.ensures.value) ∙ c.loop-arm.invariant.0
    ∙ ap (lit_in m n) (drop_all c.loop-arm.arm-index c.deref-arm-items.result.now (omega arith)) ∙ lit_none m n)
