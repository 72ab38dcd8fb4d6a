-- Texts: what the fields of a message say, the message, a cell and a frame.
use Rattle.std.specs.Prelude.{ℕ, ◌+◌, Bool, cond, List, [], ◌∷◌, ◌++◌, codes, decimal, ◌==◌}
use Rattle.field.specs.Grant.{code_of}
use Rattle.field.specs.declared.grant.Grant.{Grant}
use Rattle.field.specs.declared.grant.Grant.TheVariants.{Code, Ranging, Unassigned, Idle}
use Rattle.message.specs.declared.downstream.Access.{Access}
use Rattle.message.specs.declared.downstream.Access.TheVariants.{Deny, AllowAll, Allow}
use Rattle.message.specs.declared.downstream.RxPart.{RxPart}
use Rattle.message.specs.declared.downstream.RxPart.TheVariants.{First, Second}
use Rattle.message.specs.declared.downstream.Downstream.{Downstream}
use Rattle.message.specs.declared.downstream.Downstream.TheVariants as sent
use Rattle.message.specs.declared.fault.MessageFault.{MessageFault}
use Rattle.message.specs.declared.fault.MessageFault.TheVariants.{UnknownIdentifier, WrongAddress, OutOfRange}
use Rattle.keyed.specs.declared.key.Key.TheVariants as key
use Rattle.keyed.specs.Names.{key_name, key_of}
use Rattle.keyed.specs.Fields.{Field, number, flag, octets, serial, address, fields_text}
use Rattle.readable.specs.Names.{kind_name, kind_of}

abbrev pub access : Access → List Field
access (Deny n) = (key.Access, codes "deny") ∷ serial n.value ∷ []
access AllowAll = (key.Access, codes "allow_all") ∷ []
access (Allow n) = (key.Access, codes "allow") ∷ serial n.value ∷ []

abbrev pub rx_part : RxPart → List Field
rx_part (First pattern) = number key.Part 0 ∷ octets key.Bytes pattern.bytes ∷ []
rx_part (Second pattern) = number key.Part 1 ∷ octets key.Bytes pattern.bytes ∷ []

-- the fields of a message, in their order
abbrev pub fields_of : Downstream → List Field
fields_of sent.NoMessage = []
fields_of (sent.UpstreamRxControl part) = rx_part part
fields_of (sent.UpstreamOverhead guard overhead delay) =
    number key.Guard guard.value ∷ octets key.Overhead overhead.bytes ∷ number key.Delay delay.value ∷ []
fields_of (sent.RangingTime p delay) = number key.PonId p.value ∷ number key.Delay delay.value ∷ []
fields_of (sent.SerialNumberMask bits n) = number key.Bits bits.value ∷ serial n.value ∷ []
fields_of (sent.AssignPonId p n) = number key.PonId p.value ∷ serial n.value ∷ []
fields_of (sent.DeactivatePonId to) = address to ∷ []
fields_of (sent.DisableSerialNumber a) = access a
fields_of (sent.NewChurningKeyRequest p) = number key.PonId p.value ∷ []
fields_of (sent.ChurningKeyUpdate p count) = number key.PonId p.value ∷ number key.Count count.value ∷ []
fields_of (sent.GrantAllocation p grant ploam) =
    number key.PonId p.value ∷ number key.Data grant.code.value ∷ flag key.DataActive grant.active
    ∷ number key.Ploam ploam.code.value ∷ flag key.PloamActive ploam.active ∷ []
fields_of (sent.DividedSlotGrant p slot part service) =
    number key.PonId p.value ∷ flag key.Active slot.active ∷ number key.Code slot.code.value
    ∷ number key.Offset part.offset ∷ number key.Length part.length ∷ number key.Service service ∷ []
fields_of (sent.ConfigureVpVc p active header mask) =
    number key.PonId p.value ∷ flag key.Active active ∷ octets key.Header header.bytes ∷ octets key.Mask mask.bytes ∷ []
fields_of sent.PhysicalEquipmentError = []
fields_of (sent.RequestPassword p) = number key.PonId p.value ∷ []
fields_of (sent.ChurnedVp p churned vpi) = number key.PonId p.value ∷ flag key.Churned churned ∷ number key.Vpi vpi.value ∷ []
fields_of sent.Popup = []
fields_of (sent.VendorSpecific to kind body) = address to ∷ number key.Kind kind.value ∷ octets key.Bytes body.bytes ∷ []
fields_of (sent.Pst line k1 k2) = number key.Line line.value ∷ octets key.K1 (k1 ∷ []) ∷ octets key.K2 (k2 ∷ []) ∷ []
fields_of (sent.BerInterval p frames) = number key.PonId p.value ∷ number key.Frames frames.value ∷ []

-- the name of a message and its fields
abbrev pub message_text : Downstream → List ℕ
message_text message = codes "message=" ++ (kind_name (kind_of message) ++ fields_text (fields_of message))

-- why there is no message
abbrev pub fault_text : MessageFault → List ℕ
fault_text (UnknownIdentifier n) = codes "identifier=" ++ decimal n
fault_text (WrongAddress n) = codes "address=" ++ decimal n
fault_text (OutOfRange field) = codes "field=" ++ key_name (key_of field)

abbrev pub grant_name : Grant → List ℕ
grant_name (Code c) = decimal c.value
grant_name Ranging = codes "ranging"
grant_name Unassigned = codes "unassigned"
grant_name Idle = codes "idle"

-- n times the same grant
abbrev pub run_text : Grant → ℕ → List ℕ
run_text g n = cond (n == 1) (grant_name g) (grant_name g ++ (codes "*" ++ decimal n))

-- n times a grant and the grants after those, equal neighbours joined
unfoldable pub runs_text : Grant → ℕ → List Grant → List ℕ
runs_text g n [] = run_text g n
runs_text g n (h ∷ rest) =
    cond (code_of h == code_of g) (runs_text g (n + 1) rest) (run_text g n ++ (codes "," ++ runs_text h 1 rest))

abbrev pub grants_text : List Grant → List ℕ
grants_text [] = []
grants_text (g ∷ rest) = runs_text g 1 rest

-- the marks of a cell: whether it is the first, and its grants
abbrev pub marks : Bool → List Grant → List Field
marks first grants = flag key.Bit first ∷ (key.Grants, grants_text grants) ∷ []

abbrev pub cell_text : Bool → List Grant → Downstream → List ℕ
cell_text first grants message = codes "cell" ++ (fields_text (marks first grants) ++ (codes " " ++ message_text message))

-- a frame: its grants and the messages of both cells
abbrev pub frame_text : List Grant → (first second : Downstream) → List ℕ
frame_text grants first second =
    codes "frame" ++ (fields_text ((key.Grants, grants_text grants) ∷ []) ++ (codes " " ++ (message_text first ++ (codes " ; " ++ message_text second))))

-- a line with each of these appended
abbrev pub with_message : List ℕ → Downstream → List ℕ
with_message line message = line ++ message_text message

abbrev pub with_fault : List ℕ → MessageFault → List ℕ
with_fault line fault = line ++ fault_text fault

abbrev pub with_grants : List ℕ → List Grant → List ℕ
with_grants line grants = line ++ grants_text grants

abbrev pub with_cell : List ℕ → Bool → List Grant → Downstream → List ℕ
with_cell line first grants message = line ++ cell_text first grants message

abbrev pub with_frame : List ℕ → List Grant → (first second : Downstream) → List ℕ
with_frame line grants first second = line ++ frame_text grants first second
