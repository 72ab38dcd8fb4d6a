use Rattle.std.proofs.Common.{◌+◌, ◌≤◌, length, arith}
use Rattle.plant.proofs.Room.{fewer, room_left}
use Rattle.splitter.specs.Splits.{length-joined, one_few}
use Rattle.splitter.proofs.SplitterPlant.accept.Goals as goal

pub accept-requires : goal.accept-requires
accept-requires g c = fewer _ c.requires (one_few (g.P.Plant.means c.args.self.now.one) (g.Q.Plant.means c.args.self.now.two))

pub accept-requires-then-not-dark : goal.accept-requires-then-not-dark
accept-requires-then-not-dark g c =
    let xs = g.P.Plant.means c.args.self.now.one in
    let ys = g.Q.Plant.means c.args.self.now.two in
    let few : length xs + length ys ≤ 64 = grind (arith, c.if-not-dark.true) in
    let e = length-joined xs ys few in
    room_left g.met.P.Plant.lawful (length ys) (fewer (length xs + length ys) c.requires (omega arith)) c.accept.ensures
