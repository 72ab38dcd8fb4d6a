use Rattle.std.proofs.Common.{subst, refl}
use Rattle.keyed.specs.declared.key.Key.TheVariants as key
use Rattle.keyed.specs.Words.{FirstWord}
use Rattle.cell_line.specs.Line.{field_word, left}
use Rattle.cell_line.proofs.parse.words.Words.disable_serial_number.Goals as goal

pub returns-in_ok-serial-in-Some-deny : goal.returns-in_ok-serial-in-Some-deny
returns-in_ok-serial-in-Some-deny c = (
  refl,
  (
    left c.text.new.self,
    subst (λ t. FirstWord (left c.args.self.now) (field_word (key.Access, t)) (left c.text.new.self)) c.in-Some-deny.is-deny c.in-Some-deny.ensures,
    (left c.serial.new.self, c.in_ok-serial-in-Some-deny.ensures, refl),
  ),
)

pub returns-in_ok-serial-in-Some-allow : goal.returns-in_ok-serial-in-Some-allow
returns-in_ok-serial-in-Some-allow c = (
  refl,
  (
    left c.text.new.self,
    subst (λ t. FirstWord (left c.args.self.now) (field_word (key.Access, t)) (left c.text.new.self)) c.in-Some-allow.is-allow c.in-Some-allow.ensures,
    (left c.serial-in-Some-allow.new.self, c.in_ok-serial-in-Some-allow.ensures, refl),
  ),
)

pub returns-in-Some-text : goal.returns-in-Some-text
returns-in-Some-text c = (
  refl,
  (
    left c.text.new.self,
    subst (λ t. FirstWord (left c.args.self.now) (field_word (key.Access, t)) (left c.text.new.self)) c.in-Some-text.is-allow_all c.in-Some-text.ensures,
    refl,
  ),
)
