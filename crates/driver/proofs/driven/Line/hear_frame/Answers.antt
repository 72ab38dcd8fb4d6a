use Rattle.std.proofs.Common.{◌≡◌, ◌+◌, ◌*◌, ◌<◌, List, ◌++◌, length, arith, rules, ap, ◌∙◌}
use Rattle.std.proofs.lemmas.List.Edits.{length-between}
use Rattle.plant.specs.Lawful.{slot_limit}
use Rattle.plant.specs.declared.burst.Burst.{Burst}
use Rattle.line.specs.Payload.{payload}
use Rattle.driver.proofs.Sending.{second_room}
use Rattle.driver.proofs.driven.Line.hear_frame.Goals as goal

pub hear_cell-requires-2 : goal.hear_cell-requires-2
hear_cell-requires-2 g c =
    let bytes = c.args.bytes.now in
    let l : length bytes ≡ 96 = search rules in
    let whole : length (payload 0 bytes) ≡ 48 = length-between bytes 0 48 (omega arith) in
    let early : c.args.frame * 53 + 27 < slot_limit = omega arith in
    record {
      whole = length-between bytes 48 96 (omega arith);
      room = second_room g.P.Plant.means g.P.Plant.does g.met.P.Plant.lawful _ _ (payload 0 bytes) (53 * c.args.frame) _ _ whole (omega arith) c.requires.room c.hear_cell.ensures.taken;
      early = omega arith;
    }

pub returns-clause-heard : goal.returns-clause-heard
returns-clause-heard g c =
    let t = c.hear_cell.ensures.taken.appended in
    let u = c.hear_cell-2.ensures.taken.appended in
    (_, t.0, u.0, t.2, u.2, u.1 ∙ ap (λ (bs : List Burst). bs ++ u.0) t.1)
