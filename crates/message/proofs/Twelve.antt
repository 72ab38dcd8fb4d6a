-- Every message has twelve bytes.
use Rattle.std.proofs.Common.{◌≡◌, length, refl}
use Rattle.message.specs.declared.downstream.RxPart.TheVariants.{First, Second}
use Rattle.message.specs.declared.downstream.Access.TheVariants.{Deny, AllowAll, Allow}
use Rattle.message.specs.declared.downstream.Downstream.{Downstream}
use Rattle.message.specs.declared.downstream.Downstream.TheVariants.{
  NoMessage,
  UpstreamRxControl,
  UpstreamOverhead,
  RangingTime,
  SerialNumberMask,
  AssignPonId,
  DeactivatePonId,
  DisableSerialNumber,
  NewChurningKeyRequest,
  ChurningKeyUpdate,
  GrantAllocation,
  DividedSlotGrant,
  ConfigureVpVc,
  PhysicalEquipmentError,
  RequestPassword,
  ChurnedVp,
  Popup,
  VendorSpecific,
  Pst,
  BerInterval,
}
use Rattle.message.specs.Downstream.{bytes_of}

pub twelve : (m : Downstream) → length (bytes_of m) ≡ 12
twelve NoMessage = refl
twelve (UpstreamRxControl (First x)) = refl
twelve (UpstreamRxControl (Second x)) = refl
twelve (UpstreamOverhead g o d) = refl
twelve (RangingTime p d) = refl
twelve (SerialNumberMask n s) = refl
twelve (AssignPonId p s) = refl
twelve (DeactivatePonId to) = refl
twelve (DisableSerialNumber (Deny s)) = refl
twelve (DisableSerialNumber AllowAll) = refl
twelve (DisableSerialNumber (Allow s)) = refl
twelve (NewChurningKeyRequest p) = refl
twelve (ChurningKeyUpdate p n) = refl
twelve (GrantAllocation p d q) = refl
twelve (DividedSlotGrant p a m s) = refl
twelve (ConfigureVpVc p a h m) = refl
twelve PhysicalEquipmentError = refl
twelve (RequestPassword p) = refl
twelve (ChurnedVp p b v) = refl
twelve Popup = refl
twelve (VendorSpecific to k x) = refl
twelve (Pst l a b) = refl
twelve (BerInterval p n) = refl
