-- Which bytes a message specifies, and what writing keeps of the bytes that were read.
use Rattle.std.specs.Prelude.{◌≡◌, ℕ, ◌-◌, ◌%◌, ◌<◌, cond, List, [], ◌∷◌, ◌++◌, replicate, Ok, Result, ◌==◌}
use Rattle.field.specs.Delay.{Delay}
use Rattle.field.specs.Bytes.{at, then}
use Rattle.message.specs.declared.downstream.RxPart.{RxPart}
use Rattle.message.specs.declared.downstream.RxPart.TheVariants.{First, Second}
use Rattle.message.specs.declared.downstream.Access.{Access}
use Rattle.message.specs.declared.downstream.Access.TheVariants.{Deny, AllowAll, Allow}
use Rattle.message.specs.declared.downstream.Downstream.{Downstream}
use Rattle.message.specs.declared.downstream.Downstream.TheVariants.{
  NoMessage,
  UpstreamRxControl,
  UpstreamOverhead,
  RangingTime,
  SerialNumberMask,
  AssignPonId,
  DeactivatePonId,
  DisableSerialNumber,
  NewChurningKeyRequest,
  ChurningKeyUpdate,
  GrantAllocation,
  DividedSlotGrant,
  ConfigureVpVc,
  PhysicalEquipmentError,
  RequestPassword,
  ChurnedVp,
  Popup,
  VendorSpecific,
  Pst,
  BerInterval,
}
use Rattle.message.specs.declared.fault.MessageFault.{MessageFault}
use Rattle.message.specs.Downstream.{downstream_of, bytes_of}

-- Twelve numbers say how much of each byte is specified: 256 the whole byte, 2 only its lowest bit, 1 nothing.
-- Of a byte x counts what x % that number leaves.

-- the first n bytes, and no others
abbrev pub first : ℕ → List ℕ
first n = replicate n 256 ++ replicate (12 - n) 1

abbrev pub rx_scope : RxPart → List ℕ
rx_scope (First octets) = first 12
rx_scope (Second octets) = first 10

abbrev pub access_scope : Access → List ℕ
access_scope (Deny number) = first 11
access_scope AllowAll = first 3
access_scope (Allow number) = first 11

-- a pre-assigned delay other than 0 is told by the lowest bit of byte 8 and by bytes 9 to 11
abbrev pub delay_scope : Delay → List ℕ
delay_scope delay = cond (delay.value == 0) (1 ∷ 1 ∷ 1 ∷ 1 ∷ []) (2 ∷ 256 ∷ 256 ∷ 256 ∷ [])

abbrev pub scope : Downstream → List ℕ
scope NoMessage = first 2
scope (UpstreamRxControl part) = rx_scope part
scope (UpstreamOverhead guard overhead delay) = replicate 6 256 ++ 1 ∷ 1 ∷ delay_scope delay
scope (RangingTime p delay) = first 5
scope (SerialNumberMask bits number) = first 11
scope (AssignPonId p number) = first 11
scope (DeactivatePonId to) = first 2
scope (DisableSerialNumber access) = access_scope access
scope (NewChurningKeyRequest p) = first 2
scope (ChurningKeyUpdate p count) = first 3
scope (GrantAllocation p grant ploam) = first 6
scope (DividedSlotGrant p slot part service) = first 7
scope (ConfigureVpVc p active header mask) = first 11
scope PhysicalEquipmentError = first 2
scope (RequestPassword p) = first 2
scope (ChurnedVp p churned vpi) = 256 ∷ 256 ∷ 2 ∷ 256 ∷ 256 ∷ replicate 7 1
scope Popup = first 2
scope (VendorSpecific to kind body) = first 12
scope (Pst line k1 k2) = first 5
scope (BerInterval p frames) = first 6

-- each byte of the message is that of b, as far as it is specified
abbrev pub Kept : List ℕ → Downstream → Type 0
Kept b m = (k : ℕ) → k < 12 → at (bytes_of m) k % at (scope m) k ≡ at b k % at (scope m) k

-- the message that twelve bytes are read as has these bytes again, wherever it specifies them
abbrev pub WritingKeeps : Type 0
WritingKeeps =
    (b : List ℕ) → ((k : ℕ) → at b k < 256) → (m : Downstream) → downstream_of b ≡ Ok m → Kept b m

-- the bytes of the message that was read, or the reason why there is none
abbrev pub rewritten_of : List ℕ → Result (List ℕ) MessageFault
rewritten_of b = then (downstream_of b) (λ m. Ok (bytes_of m))
