use Rattle.std.proofs.Common.{codes, subst, sym}
use Rattle.keyed.specs.declared.key.Key.TheVariants as key
use Rattle.keyed.specs.Words.{FirstWord}
use Rattle.readable.specs.Names.{kind_name}
use Rattle.cell_line.specs.Line.{field_word, left}
use Rattle.cell_line.proofs.parse.CellFromStr.from_str.Goals as goal

pub returns-in-None : goal.returns-in-None
returns-in-None c =
    let kind = c.in_ok-message.ensures in
    let grants = rw c.in_ok-ok_or.ensures.ok_part at c.text.ensures in (
      left c.message.new.self,
      (
        left c.next.new.self,
        subst (λ text. FirstWord text (codes "cell") (left c.next.new.self)) c.new-words.ensures
            (subst (λ word. FirstWord (left c.new-words.result) word (left c.next.new.self)) c.in-Some-cell.is-cell c.in-Some-cell.ensures),
        (
          left c.field.new.self,
          c.in_ok-first.ensures,
          (
            left c.text.new.self,
            subst (λ text. FirstWord (left c.field.new.self) (field_word (key.Grants, text)) (left c.text.new.self)) (sym c.in_ok-grants.ensures) grants,
            (
              left c.field-2.new.self,
              subst (λ k. FirstWord (left c.text.new.self) (field_word (key.Message, kind_name k)) (left c.field-2.new.self)) (sym kind.0) c.in_ok-kind.ensures,
              kind.1,
            ),
          ),
        ),
      ),
      c.in-None.ensures.1,
    )
