use Rattle.std.proofs.Common.{subst, sym}
use Rattle.keyed.specs.declared.key.Key.TheVariants as key
use Rattle.keyed.specs.Fields.{number}
use Rattle.keyed.specs.Words.{FirstWord}
use Rattle.cell_line.specs.Line.{field_word, left}
use Rattle.cell_line.proofs.Fielding.{slot_read}
use Rattle.cell_line.proofs.parse.words.Words.minislot.Goals as goal

pub returns-in-Ok : goal.returns-in-Ok
returns-in-Ok c =
    slot_read (left c.args.self.now) (left c.field.new.self) _ c.value-offset.result c.in-Ok.length c.new.result c.ok_or.result c.new.ensures c.ok_or.ensures.ok_part
    (subst (λ n. FirstWord (left c.args.self.now) (field_word (number key.Offset n)) (left c.field.new.self)) (sym c.value-offset.ensures.value) c.in_ok-offset.ensures)
    c.in-Ok.ensures
