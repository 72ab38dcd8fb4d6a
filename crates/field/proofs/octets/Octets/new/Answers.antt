use Rattle.field.proofs.Runs.{octets_made}
use Rattle.field.proofs.octets.Octets.new.Goals as goal

pub returns : goal.returns
returns g c = octets_made _ _ _
