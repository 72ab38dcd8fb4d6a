-- What twelve bytes say to the ONUs, and the twelve bytes of each message.
-- Byte 0 is the address, byte 1 the identifier, bytes 2 to 11 are the fields.
use Rattle.std.specs.Prelude.{◌≡◌, ℕ, ◌+◌, ◌*◌, ◌/◌, ◌%◌, Bool, true, false, cond, ◌&&◌, List, [], ◌∷◌, ◌++◌, replicate, Ok, Err, Result, ◌==◌, nat_le, nat_lt}
use Rattle.std.specs.Option.{ok_or}
use Rattle.field.specs.declared.bounded.Bounded.{Bounded}
use Rattle.field.specs.Delay.{Delay, delay_of}
use Rattle.field.specs.declared.minislot.Minislot.{Minislot}
use Rattle.field.specs.declared.octets.Octets.{Octets}
use Rattle.field.specs.Bounded.{within}
use Rattle.field.specs.Minislot.{minislot_of}
use Rattle.field.specs.Number.{capped}
use Rattle.field.specs.Octets.{picked, octets_of}
use Rattle.message.specs.declared.downstream.Address.{Address}
use Rattle.message.specs.declared.downstream.Address.TheVariants.{One, All}
use Rattle.message.specs.declared.downstream.RxPart.{RxPart}
use Rattle.message.specs.declared.downstream.RxPart.TheVariants.{First, Second}
use Rattle.message.specs.declared.downstream.Access.{Access}
use Rattle.message.specs.declared.downstream.Access.TheVariants.{Deny, AllowAll, Allow}
use Rattle.message.specs.declared.downstream.Allocation.{Allocation}
use Rattle.message.specs.declared.downstream.Downstream.{Downstream}
use Rattle.message.specs.declared.downstream.Downstream.TheVariants.{
  NoMessage,
  UpstreamRxControl,
  UpstreamOverhead,
  RangingTime,
  SerialNumberMask,
  AssignPonId,
  DeactivatePonId,
  DisableSerialNumber,
  NewChurningKeyRequest,
  ChurningKeyUpdate,
  GrantAllocation,
  DividedSlotGrant,
  ConfigureVpVc,
  PhysicalEquipmentError,
  RequestPassword,
  ChurnedVp,
  Popup,
  VendorSpecific,
  Pst,
  BerInterval,
}
use Rattle.message.specs.declared.fault.Field.{Field}
use Rattle.message.specs.declared.fault.Field.TheVariants.{
  Part,
  GuardBits,
  DelayBits,
  MaskBits,
  AssignedId,
  AccessCode,
  UpdateCount,
  DataCode,
  DataFlag,
  PloamCode,
  PloamFlag,
  ActiveFlag,
  SlotCode,
  SlotOffset,
  SlotLength,
  VpiBits,
  Line,
}
use Rattle.message.specs.declared.fault.MessageFault.{MessageFault}
use Rattle.message.specs.declared.fault.MessageFault.TheVariants.{UnknownIdentifier, WrongAddress, OutOfRange}
use Rattle.field.specs.Bytes.{at, then, triple, triple_bytes, word_of, word_bytes, serial_of, serial_bytes, plain_bytes, with_ten_bytes, ten_of}

-- a message, or the first reason why there is none
abbrev pub Reading : Type 0
Reading = Result Downstream MessageFault

-- The address.
-- a broadcast has the address 64
abbrev pub everybody_of : ℕ → Result (Unit {0}) MessageFault
everybody_of address = cond (address == 64) (Ok tt) (Err (WrongAddress address))

abbrev pub broadcast_of : ℕ → Downstream → Reading
broadcast_of address message = then (everybody_of address) (λ _. Ok message)

-- a directed message has the PON_ID of one ONU
abbrev pub directed_of : ℕ → Result (Bounded 0 63) MessageFault
directed_of address = ok_or (within 0 63 address) (WrongAddress address)

-- some messages go to one ONU or to all
abbrev pub address_of : ℕ → Result Address MessageFault
address_of address = cond (address == 64) (Ok All) (then (directed_of address) (λ p. Ok (One p)))

abbrev pub address_byte : Address → ℕ
address_byte (One p) = p.value
address_byte All = 64

-- Fields.
-- a flag is 0 or 1
abbrev pub flag_of : ℕ → Field → Result Bool MessageFault
flag_of n field = cond (n == 0) (Ok false) (cond (n == 1) (Ok true) (Err (OutOfRange field)))

abbrev pub flag_byte : Bool → ℕ
flag_byte b = cond b 1 0

-- a delay is at most 32,000
abbrev pub delay_field : ℕ → Result Delay MessageFault
delay_field n = ok_or (delay_of n) (OutOfRange DelayBits)

-- a grant code is none of ranging, unassigned and idle, and its flag is 0 or 1
abbrev pub allocation_of : (code active : ℕ) → Field → Field → Result Allocation MessageFault
allocation_of code active wrongCode wrongFlag =
    then (ok_or (within 0 252 code) (OutOfRange wrongCode)) (λ c. then (flag_of active wrongFlag) (λ a. Ok (record { code = c; active = a })))

-- The kinds, each by its bytes.
abbrev pub rx_control_of : List ℕ → Reading
rx_control_of b =
    then (everybody_of (at b 0)) (λ _.
    cond (at b 2 == 0) (Ok (UpstreamRxControl (First (octets_of 9 (picked 3 9 b)))))
    (cond (at b 2 == 1) (Ok (UpstreamRxControl (Second (octets_of 7 (picked 3 7 b))))) (Err (OutOfRange Part))))

-- the lowest bit of byte 8 says whether bytes 9 to 11 hold the pre-assigned delay; without it the delay is 0
abbrev pub overhead_of : List ℕ → Reading
overhead_of b =
    then (everybody_of (at b 0)) (λ _.
    then (ok_or (within 4 24 (at b 2)) (OutOfRange GuardBits)) (λ guard.
    then (delay_field (cond (at b 8 % 2 == 0) 0 (triple b 9))) (λ delay.
    Ok (UpstreamOverhead guard (octets_of 3 (picked 3 3 b)) delay))))

abbrev pub ranging_of : List ℕ → Reading
ranging_of b = then (directed_of (at b 0)) (λ p. then (delay_field (triple b 2)) (λ delay. Ok (RangingTime p delay)))

abbrev pub mask_of : List ℕ → Reading
mask_of b =
    then (everybody_of (at b 0)) (λ _.
    then (ok_or (within 0 64 (at b 2)) (OutOfRange MaskBits)) (λ bits. Ok (SerialNumberMask bits (serial_of b))))

abbrev pub assign_of : List ℕ → Reading
assign_of b =
    then (everybody_of (at b 0)) (λ _.
    then (ok_or (within 0 63 (at b 2)) (OutOfRange AssignedId)) (λ p. Ok (AssignPonId p (serial_of b))))

-- with 0x0F the serial number is not looked at
abbrev pub disable_of : List ℕ → Reading
disable_of b =
    then (everybody_of (at b 0)) (λ _.
    cond (at b 2 == 255) (Ok (DisableSerialNumber (Deny (serial_of b))))
    (cond (at b 2 == 15) (Ok (DisableSerialNumber AllowAll))
    (cond (at b 2 == 0) (Ok (DisableSerialNumber (Allow (serial_of b)))) (Err (OutOfRange AccessCode)))))

abbrev pub update_of : List ℕ → Reading
update_of b =
    then (directed_of (at b 0)) (λ p.
    then (ok_or (within 1 3 (at b 2)) (OutOfRange UpdateCount)) (λ count. Ok (ChurningKeyUpdate p count)))

abbrev pub grants_of : List ℕ → Reading
grants_of b =
    then (directed_of (at b 0)) (λ p.
    then (allocation_of (at b 2) (at b 3) DataCode DataFlag) (λ grant.
    then (allocation_of (at b 4) (at b 5) PloamCode PloamFlag) (λ ploam. Ok (GrantAllocation p grant ploam))))

-- the offset is asked before the length, whose range it sets
abbrev pub slot_of : List ℕ → Reading
slot_of b =
    then (directed_of (at b 0)) (λ p.
    then (flag_of (at b 2) ActiveFlag) (λ active.
    then (ok_or (within 0 252 (at b 3)) (OutOfRange SlotCode)) (λ code.
    cond (nat_lt 52 (at b 5)) (Err (OutOfRange SlotOffset))
    (then (ok_or (minislot_of (at b 5) (at b 4)) (OutOfRange SlotLength)) (λ part.
    Ok (DividedSlotGrant p (record { code = code; active = active }) part (at b 6)))))))

abbrev pub path_of : List ℕ → Reading
path_of b =
    then (directed_of (at b 0)) (λ p.
    then (flag_of (at b 2) ActiveFlag) (λ active. Ok (ConfigureVpVc p active (octets_of 4 (picked 3 4 b)) (octets_of 4 (picked 7 4 b)))))

-- only the lowest bit of byte 2 is read; the identifier's twelve bits leave the low half of byte 4, which is 0
abbrev pub churned_of : List ℕ → Reading
churned_of b =
    then (directed_of (at b 0)) (λ p.
    cond (at b 4 % 16 == 0) (Ok (ChurnedVp p (at b 2 % 2 == 1) (capped 4095 (at b 3 * 16 + at b 4 / 16)))) (Err (OutOfRange VpiBits)))

abbrev pub vendor_of : List ℕ → Reading
vendor_of b =
    then (ok_or (within 0 7 (at b 1 % 8)) (UnknownIdentifier (at b 1))) (λ kind.
    then (address_of (at b 0)) (λ to. Ok (VendorSpecific to kind (ten_of b))))

abbrev pub pst_of : List ℕ → Reading
pst_of b =
    then (everybody_of (at b 0)) (λ _.
    then (ok_or (within 0 1 (at b 2)) (OutOfRange Line)) (λ line. Ok (Pst line (at b 3) (at b 4))))

-- the message that the identifier names
abbrev pub of_kind : ℕ → List ℕ → Reading
of_kind k b =
    cond (nat_le 120 k && nat_le k 127) (vendor_of b)
    (cond (k == 0) (broadcast_of (at b 0) NoMessage)
    (cond (k == 1) (rx_control_of b)
    (cond (k == 2) (overhead_of b)
    (cond (k == 3) (ranging_of b)
    (cond (k == 4) (mask_of b)
    (cond (k == 5) (assign_of b)
    (cond (k == 6) (then (address_of (at b 0)) (λ to. Ok (DeactivatePonId to)))
    (cond (k == 7) (disable_of b)
    (cond (k == 8) (then (directed_of (at b 0)) (λ p. Ok (NewChurningKeyRequest p)))
    (cond (k == 9) (update_of b)
    (cond (k == 10) (grants_of b)
    (cond (k == 11) (slot_of b)
    (cond (k == 12) (path_of b)
    (cond (k == 13) (broadcast_of (at b 0) PhysicalEquipmentError)
    (cond (k == 14) (then (directed_of (at b 0)) (λ p. Ok (RequestPassword p)))
    (cond (k == 15) (churned_of b)
    (cond (k == 16) (broadcast_of (at b 0) Popup)
    (cond (k == 128) (pst_of b)
    (cond (k == 129) (then (directed_of (at b 0)) (λ p. Ok (BerInterval p (word_of b)))) (Err (UnknownIdentifier k)))))))))))))))))))))

abbrev pub downstream_of : List ℕ → Reading
downstream_of b = of_kind (at b 1) b

-- The bytes of each kind; what a kind does not specify is 0.
abbrev pub access_bytes : Access → List ℕ
access_bytes (Deny number) = serial_bytes 64 7 255 number
access_bytes AllowAll = plain_bytes 64 7 (15 ∷ [])
access_bytes (Allow number) = serial_bytes 64 7 0 number

abbrev pub rx_bytes : RxPart → List ℕ
rx_bytes (First octets) = 64 ∷ 1 ∷ 0 ∷ picked 0 9 octets.bytes
rx_bytes (Second octets) = 64 ∷ 1 ∷ 1 ∷ picked 0 7 octets.bytes ++ 0 ∷ 0 ∷ []

-- a pre-assigned delay of 0 is told by the flag alone
abbrev pub overhead_bytes : Bounded 4 24 → Octets 3 → Delay → List ℕ
overhead_bytes guard overhead delay =
    64 ∷ 2 ∷ guard.value ∷ picked 0 3 overhead.bytes ++ 0 ∷ 0 ∷ cond (delay.value == 0) 0 1 ∷ triple_bytes delay.value

abbrev pub delay_bytes : Bounded 0 63 → Delay → List ℕ
delay_bytes p delay = plain_bytes p.value 3 (triple_bytes delay.value)

abbrev pub slot_bytes : Bounded 0 63 → Allocation → Minislot → ℕ → List ℕ
slot_bytes p slot part service =
    p.value ∷ 11 ∷ flag_byte slot.active ∷ slot.code.value ∷ part.length ∷ part.offset ∷ service ∷ replicate 5 0

abbrev pub path_bytes : Bounded 0 63 → Bool → Octets 4 → Octets 4 → List ℕ
path_bytes p active header mask =
    p.value ∷ 12 ∷ flag_byte active ∷ picked 0 4 header.bytes ++ picked 0 4 mask.bytes ++ 0 ∷ []

abbrev pub vendor_bytes : Address → Bounded 0 7 → Octets 10 → List ℕ
vendor_bytes to kind body = with_ten_bytes (address_byte to) (120 + kind.value) body

abbrev pub bytes_of : Downstream → List ℕ
bytes_of NoMessage = plain_bytes 64 0 []
bytes_of (UpstreamRxControl part) = rx_bytes part
bytes_of (UpstreamOverhead guard overhead delay) = overhead_bytes guard overhead delay
bytes_of (RangingTime p delay) = delay_bytes p delay
bytes_of (SerialNumberMask bits number) = serial_bytes 64 4 bits.value number
bytes_of (AssignPonId p number) = serial_bytes 64 5 p.value number
bytes_of (DeactivatePonId to) = plain_bytes (address_byte to) 6 []
bytes_of (DisableSerialNumber access) = access_bytes access
bytes_of (NewChurningKeyRequest p) = plain_bytes p.value 8 []
bytes_of (ChurningKeyUpdate p count) = plain_bytes p.value 9 (count.value ∷ [])
bytes_of (GrantAllocation p grant ploam) =
    plain_bytes p.value 10 (grant.code.value ∷ flag_byte grant.active ∷ ploam.code.value ∷ flag_byte ploam.active ∷ [])
bytes_of (DividedSlotGrant p slot part service) = slot_bytes p slot part service
bytes_of (ConfigureVpVc p active header mask) = path_bytes p active header mask
bytes_of PhysicalEquipmentError = plain_bytes 64 13 []
bytes_of (RequestPassword p) = plain_bytes p.value 14 []
bytes_of (ChurnedVp p churned vpi) = plain_bytes p.value 15 (flag_byte churned ∷ vpi.value / 16 ∷ vpi.value % 16 * 16 ∷ [])
bytes_of Popup = plain_bytes 64 16 []
bytes_of (VendorSpecific to kind body) = vendor_bytes to kind body
bytes_of (Pst line k1 k2) = plain_bytes 64 128 (line.value ∷ k1 ∷ k2 ∷ [])
bytes_of (BerInterval p frames) = plain_bytes p.value 129 (word_bytes frames.value)

-- every message is read from its own bytes
abbrev pub ReadingUndoesWriting : Type 0
ReadingUndoesWriting = (m : Downstream) → downstream_of (bytes_of m) ≡ Ok m
