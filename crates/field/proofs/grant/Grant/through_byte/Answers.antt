use Rattle.std.proofs.Common.{ap, ◌∙◌}
use Rattle.field.specs.Grant.{grant_of}
use Rattle.field.proofs.Codes.{grant_again, code_again}
use Rattle.field.proofs.grant.Grant.through_byte.Goals as goal

pub returns : goal.returns
returns c =
    record { value = c.from-2.ensures ∙ ap grant_of c.from.ensures ∙ grant_again c.args.self; law = (grant_again, code_again) }
