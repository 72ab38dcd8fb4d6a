-- The keys that stand in a line.
use Rattle.std.specs.Prelude.{ℕ, List, codes}
use Rattle.message.specs.declared.fault.Field.{Field}
use Rattle.message.specs.declared.fault.Field.TheVariants as wrong
use Rattle.upstream.specs.declared.fault.UpstreamField.{UpstreamField}
use Rattle.upstream.specs.declared.fault.UpstreamField.TheVariants as unfit
use Rattle.keyed.specs.declared.key.Key.{Key}
use Rattle.keyed.specs.declared.key.Key.TheVariants as key

-- the text of a key
abbrev pub key_name : Key → List ℕ
key_name key.Bit = codes "bit"
key_name key.Grants = codes "grants"
key_name key.Message = codes "message"
key_name key.PonId = codes "pon_id"
key_name key.Part = codes "part"
key_name key.Bytes = codes "bytes"
key_name key.Guard = codes "guard"
key_name key.Overhead = codes "overhead"
key_name key.Delay = codes "delay"
key_name key.Bits = codes "bits"
key_name key.Serial = codes "serial"
key_name key.Access = codes "access"
key_name key.Count = codes "count"
key_name key.Data = codes "data"
key_name key.DataActive = codes "data_active"
key_name key.Ploam = codes "ploam"
key_name key.PloamActive = codes "ploam_active"
key_name key.Active = codes "active"
key_name key.Code = codes "code"
key_name key.Offset = codes "offset"
key_name key.Length = codes "length"
key_name key.Service = codes "service"
key_name key.Header = codes "header"
key_name key.Mask = codes "mask"
key_name key.Churned = codes "churned"
key_name key.Vpi = codes "vpi"
key_name key.Kind = codes "kind"
key_name key.Line = codes "line"
key_name key.K1 = codes "k1"
key_name key.K2 = codes "k2"
key_name key.Frames = codes "frames"
key_name key.Source = codes "source"
key_name key.ChurningKey = codes "key"
key_name key.Password = codes "password"
key_name key.KeyIndex = codes "key_index"
key_name key.Fragment = codes "fragment"
key_name key.Errors = codes "errors"
key_name key.Sequence = codes "sequence"
key_name key.Zero = codes "zero"

-- the key of a field that can be out of range in a message to an ONU
abbrev pub key_of : Field → Key
key_of wrong.Part = key.Part
key_of wrong.GuardBits = key.Guard
key_of wrong.DelayBits = key.Delay
key_of wrong.MaskBits = key.Bits
key_of wrong.AssignedId = key.PonId
key_of wrong.AccessCode = key.Access
key_of wrong.UpdateCount = key.Count
key_of wrong.DataCode = key.Data
key_of wrong.DataFlag = key.DataActive
key_of wrong.PloamCode = key.Ploam
key_of wrong.PloamFlag = key.PloamActive
key_of wrong.ActiveFlag = key.Active
key_of wrong.SlotCode = key.Code
key_of wrong.SlotOffset = key.Offset
key_of wrong.SlotLength = key.Length
key_of wrong.VpiBits = key.Vpi
key_of wrong.Line = key.Line

-- and in a message from one
abbrev pub upstream_key : UpstreamField → Key
upstream_key unfit.ZeroByte = key.Zero
upstream_key unfit.SequenceBits = key.Sequence
upstream_key unfit.Line = key.Line
