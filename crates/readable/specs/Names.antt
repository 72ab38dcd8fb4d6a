-- The names of the kinds of message.
use Rattle.std.specs.Prelude.{ℕ, List, codes}
use Rattle.message.specs.declared.downstream.Downstream.{Downstream}
use Rattle.message.specs.declared.downstream.Downstream.TheVariants as sent
use Rattle.readable.specs.declared.kind.Kind.{Kind}
use Rattle.readable.specs.declared.kind.Kind.TheVariants as kind

-- the name of a kind of message
abbrev pub kind_name : Kind → List ℕ
kind_name kind.NoMessage = codes "No_message"
kind_name kind.UpstreamRxControl = codes "Upstream_RX_control"
kind_name kind.UpstreamOverhead = codes "Upstream_overhead"
kind_name kind.RangingTime = codes "Ranging_time"
kind_name kind.SerialNumberMask = codes "Serial_number_mask"
kind_name kind.AssignPonId = codes "Assign_PON_ID"
kind_name kind.DeactivatePonId = codes "Deactivate_PON_ID"
kind_name kind.DisableSerialNumber = codes "Disable_serial_number"
kind_name kind.NewChurningKeyRequest = codes "New_churning_key_request"
kind_name kind.ChurningKeyUpdate = codes "Churning_key_update"
kind_name kind.GrantAllocation = codes "Grant_allocation"
kind_name kind.DividedSlotGrant = codes "Divided_slot_grant_configuration"
kind_name kind.ConfigureVpVc = codes "Configure_VP_VC"
kind_name kind.PhysicalEquipmentError = codes "Physical_equipment_error"
kind_name kind.RequestPassword = codes "Request_password"
kind_name kind.ChurnedVp = codes "Churned_VP"
kind_name kind.Popup = codes "POPUP"
kind_name kind.VendorSpecific = codes "Vendor_specific"
kind_name kind.Pst = codes "PST"
kind_name kind.BerInterval = codes "BER_interval"

-- the kind of a message
abbrev pub kind_of : Downstream → Kind
kind_of sent.NoMessage = kind.NoMessage
kind_of (sent.UpstreamRxControl a) = kind.UpstreamRxControl
kind_of (sent.UpstreamOverhead a b c) = kind.UpstreamOverhead
kind_of (sent.RangingTime a b) = kind.RangingTime
kind_of (sent.SerialNumberMask a b) = kind.SerialNumberMask
kind_of (sent.AssignPonId a b) = kind.AssignPonId
kind_of (sent.DeactivatePonId a) = kind.DeactivatePonId
kind_of (sent.DisableSerialNumber a) = kind.DisableSerialNumber
kind_of (sent.NewChurningKeyRequest a) = kind.NewChurningKeyRequest
kind_of (sent.ChurningKeyUpdate a b) = kind.ChurningKeyUpdate
kind_of (sent.GrantAllocation a b c) = kind.GrantAllocation
kind_of (sent.DividedSlotGrant a b c d) = kind.DividedSlotGrant
kind_of (sent.ConfigureVpVc a b c d) = kind.ConfigureVpVc
kind_of sent.PhysicalEquipmentError = kind.PhysicalEquipmentError
kind_of (sent.RequestPassword a) = kind.RequestPassword
kind_of (sent.ChurnedVp a b c) = kind.ChurnedVp
kind_of sent.Popup = kind.Popup
kind_of (sent.VendorSpecific a b c) = kind.VendorSpecific
kind_of (sent.Pst a b c) = kind.Pst
kind_of (sent.BerInterval a b) = kind.BerInterval
