use Rattle.field.proofs.Runs.{grants_made}
use Rattle.field.proofs.grants.Grants.from_codes.Goals as goal

pub returns : goal.returns
returns g c = grants_made _ _ _
