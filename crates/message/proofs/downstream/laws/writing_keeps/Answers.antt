use Rattle.std.proofs.Common.{rules}
use Rattle.message.proofs.Kept.{writing_keeps_lem}
use Rattle.message.proofs.downstream.laws.writing_keeps.Goals as goal

pub returns-in_err-message : goal.returns-in_err-message
returns-in_err-message c = record { result = search rules; law = writing_keeps_lem }

pub returns : goal.returns
returns c = record { result = search rules; law = writing_keeps_lem }
