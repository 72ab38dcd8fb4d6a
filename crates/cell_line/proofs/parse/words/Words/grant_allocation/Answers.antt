use Rattle.std.proofs.Common.{refl, [], ◌∷◌}
use Rattle.keyed.specs.declared.key.Key.TheVariants as key
use Rattle.keyed.specs.Fields.{number, flag}
use Rattle.cell_line.specs.Line.{field_word, left}
use Rattle.cell_line.proofs.Fielding.{then_words}
use Rattle.cell_line.proofs.parse.words.Words.grant_allocation.Goals as goal

pub returns : goal.returns
returns c =
    let grant = c.in_ok-allocation.field-0 in
    let ploam = c.in_ok-allocation-2.field-0 in (
      refl,
      (
        left c.field.new.self,
        c.in_ok-field.ensures,
        then_words (field_word (number key.Data grant.code.value) ∷ (field_word (flag key.DataActive grant.active) ∷ []))
            (field_word (number key.Ploam ploam.code.value) ∷ (field_word (flag key.PloamActive ploam.active) ∷ [])) _ _ _
            c.in_ok-allocation.ensures c.in_ok-allocation-2.ensures,
      ),
    )
