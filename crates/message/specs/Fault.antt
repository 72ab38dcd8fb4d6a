-- What is said of twelve bytes that are no message.
use Rattle.std.specs.Prelude.{ℕ, List, ◌++◌, codes, decimal}
use Rattle.message.specs.declared.fault.Field.{Field}
use Rattle.message.specs.declared.fault.Field.TheVariants.{
  Part,
  GuardBits,
  DelayBits,
  MaskBits,
  AssignedId,
  AccessCode,
  UpdateCount,
  DataCode,
  DataFlag,
  PloamCode,
  PloamFlag,
  ActiveFlag,
  SlotCode,
  SlotOffset,
  SlotLength,
  VpiBits,
  Line,
}
use Rattle.message.specs.declared.fault.MessageFault.{MessageFault}
use Rattle.message.specs.declared.fault.MessageFault.TheVariants.{UnknownIdentifier, WrongAddress, OutOfRange}

-- the name of a field
abbrev pub field_name : Field → List ℕ
field_name Part = codes "part"
field_name GuardBits = codes "guard"
field_name DelayBits = codes "delay"
field_name MaskBits = codes "bits"
field_name AssignedId = codes "pon_id"
field_name AccessCode = codes "access"
field_name UpdateCount = codes "count"
field_name DataCode = codes "data"
field_name DataFlag = codes "data_active"
field_name PloamCode = codes "ploam"
field_name PloamFlag = codes "ploam_active"
field_name ActiveFlag = codes "active"
field_name SlotCode = codes "code"
field_name SlotOffset = codes "offset"
field_name SlotLength = codes "length"
field_name VpiBits = codes "vpi"
field_name Line = codes "line"

-- why there is no message
abbrev pub fault_words : MessageFault → List ℕ
fault_words (UnknownIdentifier n) = codes "unknown identifier " ++ decimal n
fault_words (WrongAddress n) = codes "wrong address " ++ decimal n
fault_words (OutOfRange field) = field_name field ++ codes " out of range"
