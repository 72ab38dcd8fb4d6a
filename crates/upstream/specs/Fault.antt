-- What is said of twelve bytes from an ONU that are no message.
use Rattle.std.specs.Prelude.{ℕ, List, ◌++◌, codes, decimal}
use Rattle.upstream.specs.declared.fault.UpstreamField.{UpstreamField}
use Rattle.upstream.specs.declared.fault.UpstreamField.TheVariants.{ZeroByte, SequenceBits, Line}
use Rattle.upstream.specs.declared.fault.UpstreamFault.{UpstreamFault}
use Rattle.upstream.specs.declared.fault.UpstreamFault.TheVariants.{UnknownIdentifier, WrongSource, OutOfRange}

-- the name of a field
abbrev pub field_name : UpstreamField → List ℕ
field_name ZeroByte = codes "zero"
field_name SequenceBits = codes "sequence"
field_name Line = codes "line"

-- why there is no message
abbrev pub fault_words : UpstreamFault → List ℕ
fault_words (UnknownIdentifier n) = codes "unknown identifier " ++ decimal n
fault_words (WrongSource n) = codes "wrong source " ++ decimal n
fault_words (OutOfRange field) = field_name field ++ codes " out of range"
