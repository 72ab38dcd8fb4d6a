use Rattle.onu.proofs.Table.{stepped_keeps, stop_stands}
use Rattle.onu.proofs.facts.table_stands.Goals as goal

pub returns : goal.returns
returns c = record { keeps = stepped_keeps; stop = stop_stands }
