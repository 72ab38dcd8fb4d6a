-- Messages from an ONU as text.
use Rattle.std.specs.Prelude.{ℕ, List, [], ◌∷◌, ◌++◌, Some, None, codes, decimal, Option}
use Rattle.field.specs.declared.bounded.Bounded.{Bounded}
use Rattle.upstream.specs.declared.message.Upstream.{Upstream}
use Rattle.upstream.specs.declared.message.Upstream.TheVariants as sent
use Rattle.upstream.specs.declared.fault.UpstreamFault.{UpstreamFault}
use Rattle.upstream.specs.declared.fault.UpstreamFault.TheVariants.{UnknownIdentifier, WrongSource, OutOfRange}
use Rattle.keyed.specs.declared.key.Key.TheVariants as key
use Rattle.keyed.specs.Names.{key_name, upstream_key}
use Rattle.keyed.specs.Fields.{Field, number, octets, serial, fields_text}

abbrev pub upstream_name : Upstream → List ℕ
upstream_name (sent.NoMessage s) = codes "No_message"
upstream_name (sent.NewChurningKey s k) = codes "New_churning_key"
upstream_name (sent.Acknowledge s m body) = codes "Acknowledge"
upstream_name (sent.SerialNumberOnu s n) = codes "Serial_number_ONU"
upstream_name (sent.Password s p) = codes "Password"
upstream_name (sent.PhysicalEquipmentError s) = codes "Physical_equipment_error"
upstream_name (sent.BigKey s index fragment body) = codes "Big_key"
upstream_name (sent.VendorSpecific s kind body) = codes "Vendor_specific"
upstream_name (sent.Rei s errors sequence) = codes "REI"
upstream_name (sent.RInh s) = codes "R_INH"
upstream_name (sent.Pst s line k1 k2) = codes "PST"
upstream_name (sent.MessageError s m) = codes "Message_error"

abbrev pub source : Bounded 0 63 → Field
source s = number key.Source s.value

-- an ONU without a PON_ID is 64
abbrev pub source_number : Option (Bounded 0 63) → ℕ
source_number (Some s) = s.value
source_number None = 64

abbrev pub any_source : Option (Bounded 0 63) → Field
any_source s = number key.Source (source_number s)

-- the source and the fields, in their order
abbrev pub upstream_fields : Upstream → List Field
upstream_fields (sent.NoMessage s) = source s ∷ []
upstream_fields (sent.NewChurningKey s k) = source s ∷ octets key.ChurningKey k.bytes ∷ []
upstream_fields (sent.Acknowledge s m body) = source s ∷ number key.Message m ∷ octets key.Bytes body.bytes ∷ []
upstream_fields (sent.SerialNumberOnu s n) = any_source s ∷ serial n.value ∷ []
upstream_fields (sent.Password s p) = source s ∷ octets key.Password p.bytes ∷ []
upstream_fields (sent.PhysicalEquipmentError s) = source s ∷ []
upstream_fields (sent.BigKey s index fragment body) =
    source s ∷ number key.KeyIndex index ∷ number key.Fragment fragment ∷ octets key.Bytes body.bytes ∷ []
upstream_fields (sent.VendorSpecific s kind body) = source s ∷ number key.Kind kind.value ∷ octets key.Bytes body.bytes ∷ []
upstream_fields (sent.Rei s errors sequence) =
    source s ∷ number key.Errors errors.value ∷ number key.Sequence sequence.value ∷ []
upstream_fields (sent.RInh s) = source s ∷ []
upstream_fields (sent.Pst s line k1 k2) =
    source s ∷ number key.Line line.value ∷ octets key.K1 (k1 ∷ []) ∷ octets key.K2 (k2 ∷ []) ∷ []
upstream_fields (sent.MessageError s m) = source s ∷ number key.Message m ∷ []

-- the name of a message and its fields
abbrev pub upstream_text : Upstream → List ℕ
upstream_text message = codes "message=" ++ (upstream_name message ++ fields_text (upstream_fields message))

-- why there is no message
abbrev pub upstream_fault_text : UpstreamFault → List ℕ
upstream_fault_text (UnknownIdentifier n) = codes "identifier=" ++ decimal n
upstream_fault_text (WrongSource n) = codes "source=" ++ decimal n
upstream_fault_text (OutOfRange field) = codes "field=" ++ key_name (upstream_key field)

-- a line with each of these appended
abbrev pub with_upstream : List ℕ → Upstream → List ℕ
with_upstream line message = line ++ upstream_text message

abbrev pub with_upstream_fault : List ℕ → UpstreamFault → List ℕ
with_upstream_fault line fault = line ++ upstream_fault_text fault
