use Rattle.std.proofs.Common.{◌≡◌, [], length, vec_items, sym, ap, ◌∙◌, arith}
use Rattle.plant.proofs.Room.{fewer}
use Rattle.star.specs.Lit.{lighted-length}
use Rattle.star.specs.Star.{lit_in}
use Rattle.star.proofs.Going.{begun, ended, passed, admits, took, given_back}
use Rattle.star.proofs.StarPlant.accept.Goals as goal
use Rattle.star.proofs.StarPlant.accept.Goals.{then-with_arm-le64, else-with_arm-le64}

pub loop-arm-init : goal.loop-arm-init
loop-arm-init g c =
    let e = lighted-length g.P.Plant.means [] (vec_items c.args.self.now.arms) ∙ ap (lit_in g.P.Plant.means 0) (sym c.deref_mut-arm-items.ensures.value) in
    begun g.P.Plant.means g.P.Plant.does _ _ _ _ (fewer _ c.requires (omega arith))

pub accept-requires : goal.accept-requires
accept-requires g c =
    let l = c.loop-arm in
    admits g.P.Plant.means g.P.Plant.does _ _ g.met.P.Plant.lawful _ l.arm-items l.arm-index l.lit _ l.bursts l.invariant (omega arith) l.auto.arm-items c.arm-item.result c.count.result c.count.ensures c.if-with_arm-le64.true

pub loop-arm-preserved : goal.loop-arm-preserved
loop-arm-preserved g c =
    let l = c.loop-arm in
    elim c.if-with_arm-le64.branch [
      | then-with_arm-le64 w ↦
          took g.P.Plant.means g.P.Plant.does _ _ g.met.P.Plant.lawful _ l.arm-items l.arm-index l.lit _ l.bursts l.invariant (omega arith) l.auto.arm-items c.arm-item.result c.count.result c.count.ensures
          w.if-with_arm-le64.true _ _ _ _ _ w.accept.ensures w.lit-is w.bursts-is w.arm-items-is
      | else-with_arm-le64 w ↦
          passed g.P.Plant.means g.P.Plant.does _ _ g.met.P.Plant.lawful _ l.arm-items l.arm-index l.lit _ l.bursts l.invariant (omega arith) l.auto.arm-items c.arm-item.result c.count.result c.count.ensures
          w.if-with_arm-le64.false _ _ _ w.lit-is w.bursts-is w.arm-items-is
    ]

pub returns : goal.returns
returns g c =
    let l = c.loop-arm in
    let v = c.args.self.now.arms in
    let was : c.deref_mut-arm-items.result.now ≡ vec_items v = c.deref_mut-arm-items.ensures.value in
    let back = given_back v l.arm-items (l.auto.arm-items ∙ ap length was) in
    let done = ended g.P.Plant.means g.P.Plant.does _ _ _ _ _ _ _ _ l.invariant (omega arith) l.auto.arm-items in
    record { capacity = l.invariant.capacity; appended = (l.invariant.new, l.invariant.items, rw (back, ← was) done) }
