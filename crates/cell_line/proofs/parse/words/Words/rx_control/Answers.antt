use Rattle.std.proofs.Common.{◌≡◌, codes, cond, subst, sym, ap, ◌∙◌, refl, arith}
use Rattle.std.specs.Fmt.{decimal}
use Rattle.keyed.specs.declared.key.Key.TheVariants as key
use Rattle.keyed.specs.Words.{FirstWord}
use Rattle.cell_line.specs.Line.{field_word, left}
use Rattle.cell_line.proofs.Numerals.{one_digit}
use Rattle.cell_line.proofs.parse.words.Words.rx_control.Goals as goal

pub returns-in_ok-field-2 : goal.returns-in_ok-field-2
returns-in_ok-field-2 c =
    let second : cond c.in_ok-field.field-0 (codes "1") (codes "0") ≡ decimal 1 = ap (λ b. cond b (codes "1") (codes "0")) c.if-branch.true ∙ sym (one_digit 1 (omega arith)) in (
      refl,
      (
        left c.field.new.self,
        subst (λ t. FirstWord (left c.args.self.now) (field_word (key.Part, t)) (left c.field.new.self)) second c.in_ok-field.ensures,
        (left c.field-then-branch.new.self, c.in_ok-field-2.ensures, refl),
      ),
    )

pub returns-in_ok-field-3 : goal.returns-in_ok-field-3
returns-in_ok-field-3 c =
    let first : cond c.in_ok-field.field-0 (codes "1") (codes "0") ≡ decimal 0 = ap (λ b. cond b (codes "1") (codes "0")) c.if-branch.false ∙ sym (one_digit 0 (omega arith)) in (
      refl,
      (
        left c.field.new.self,
        subst (λ t. FirstWord (left c.args.self.now) (field_word (key.Part, t)) (left c.field.new.self)) first c.in_ok-field.ensures,
        (left c.field-else-branch.new.self, c.in_ok-field-3.ensures, refl),
      ),
    )
