use Rattle.plant.proofs.Lists.{drifts_still}
use Rattle.ports.proofs.Drifting.{last_drifts, arm_drifts}
use Rattle.ports.proofs.tree.Tree.change.Goals as goal

pub returns-then-port-eq-LAST-clause-drifts : goal.returns-then-port-eq-LAST-clause-drifts
returns-then-port-eq-LAST-clause-drifts c =
    let line = c.args.self.now.line in
    last_drifts c.args.change line.bits.value line.plant.plant.one.arms.items line.plant.plant.two c.change_port.new.port c.change_port.ensures.0

pub returns-in-Some-clause-drifts : goal.returns-in-Some-clause-drifts
returns-in-Some-clause-drifts c =
    let line = c.args.self.now.line in
    arm_drifts c.args.change line.bits.value line.plant.plant.one.arms.items c.in-Some.arm.now c.change_port-in-Some.new.port c.change_port-in-Some.ensures.0
    line.plant.plant.two _ c.in-Some.ensures.value

pub returns-in_default-clause-drifts : goal.returns-in_default-clause-drifts
returns-in_default-clause-drifts c = drifts_still _
