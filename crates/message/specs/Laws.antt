-- Why reading undoes writing, message by message.
use Rattle.std.proofs.Common.{◌≡◌, ℕ, ◌+◌, ◌*◌, ◌/◌, ◌%◌, ◌≤◌, Bool, true, false, cond, eqb, ltb, replicate, Ok, sym, refl, ⊎_elim, arith}
use Rattle.std.proofs.lemmas.Bool.{cases_eq, eq-eqb, ne_eqb, le-ltb}
use Rattle.field.specs.declared.bounded.Bounded.{Bounded}
use Rattle.field.specs.Delay.{Delay}
use Rattle.field.proofs.Bounds.{within-value, up_to-value, capped_is, minislot_parts}
use Rattle.field.proofs.Numbers.{serial_again, word_again, one_onu, vendor_named, vendor_again}
use Rattle.field.proofs.Runs.{octets_again}
use Rattle.message.specs.declared.downstream.Address.{Address}
use Rattle.message.specs.declared.downstream.Address.TheVariants.{One, All}
use Rattle.message.specs.declared.downstream.RxPart.TheVariants.{First, Second}
use Rattle.message.specs.declared.downstream.Access.TheVariants.{Deny, AllowAll, Allow}
use Rattle.message.specs.declared.downstream.Allocation.{Allocation}
use Rattle.message.specs.declared.downstream.Downstream.{Downstream}
use Rattle.message.specs.declared.downstream.Downstream.TheVariants.{
  NoMessage,
  UpstreamRxControl,
  UpstreamOverhead,
  RangingTime,
  SerialNumberMask,
  AssignPonId,
  DeactivatePonId,
  DisableSerialNumber,
  NewChurningKeyRequest,
  ChurningKeyUpdate,
  GrantAllocation,
  DividedSlotGrant,
  ConfigureVpVc,
  PhysicalEquipmentError,
  RequestPassword,
  ChurnedVp,
  Popup,
  VendorSpecific,
  Pst,
  BerInterval,
}
use Rattle.message.specs.declared.fault.Field.{Field}
use Rattle.message.specs.declared.fault.Field.TheVariants.{DataCode, DataFlag, PloamCode, PloamFlag, ActiveFlag}
use Rattle.message.specs.Downstream.{directed_of, address_of, address_byte, flag_of, flag_byte, delay_field, allocation_of, downstream_of, bytes_of, ReadingUndoesWriting}

triple_again : (n : ℕ) → n ≤ 32000 → n / 65536 % 256 * 65536 + n / 256 % 256 * 256 + n % 256 ≡ n
triple_again n h = omega arith

-- the pre-assigned delay, by its flag and three bytes
given_again : (n : ℕ) → n ≤ 32000 → cond (eqb (cond (eqb n 0) 0 1 % 2) 0) 0 (n / 65536 % 256 * 65536 + n / 256 % 256 * 256 + n % 256) ≡ n
given_again n h =
    ⊎_elim (λ (e : n ≡ 0). let t : eqb n 0 ≡ true = eq-eqb n 0 e in rw t (sym e))
    (λ (u : n ≡ 0 → ⊥). let t : eqb n 0 ≡ false = ne_eqb n 0 u in rw t (triple_again n h))
    (cases_eq n 0)

directed_again : (p : Bounded 0 63) → directed_of p.value ≡ Ok p
directed_again p = rw (within-value p)

address_again : (to : Address) → address_of (address_byte to) ≡ Ok to
address_again (One p) = rw (one_onu p, directed_again p)
address_again All = refl

flag_again : (b : Bool) (f : Field) → flag_of (flag_byte b) f ≡ Ok b
flag_again true f = refl
flag_again false f = refl

delay_again : (d : Delay) (n : ℕ) → n ≡ d.value → delay_field n ≡ Ok d
delay_again d n e = rw (e, up_to-value d)

allocation_again : (a : Allocation) (f g : Field) → allocation_of a.code.value (flag_byte a.active) f g ≡ Ok a
allocation_again a f g = rw (within-value a.code, flag_again a.active g)

-- a path identifier from its two bytes
low_half : (n : ℕ) → eqb (n % 16 * 16 % 16) 0 ≡ true
low_half n = eq-eqb (n % 16 * 16 % 16) 0 (omega arith)

path_again : (n : ℕ) → n / 16 * 16 + n % 16 * 16 / 16 ≡ n
path_again n = omega arith

again : (m : Downstream) → downstream_of (bytes_of m) ≡ Ok m
again NoMessage = refl
again (UpstreamRxControl (First x)) = rw (octets_again x)
again (UpstreamRxControl (Second x)) = rw (octets_again x)
again (UpstreamOverhead g o d) = rw (within-value g, delay_again d _ (given_again d.value d.high), octets_again o)
again (RangingTime p d) = rw (directed_again p, delay_again d _ (triple_again d.value d.high))
again (SerialNumberMask n s) = rw (within-value n, serial_again 64 4 n.value s)
again (AssignPonId p s) = rw (within-value p, serial_again 64 5 p.value s)
again (DeactivatePonId to) = rw (address_again to)
again (DisableSerialNumber (Deny s)) = rw (serial_again 64 7 255 s)
again (DisableSerialNumber AllowAll) = refl
again (DisableSerialNumber (Allow s)) = rw (serial_again 64 7 0 s)
again (NewChurningKeyRequest p) = rw (directed_again p)
again (ChurningKeyUpdate p n) = rw (directed_again p, within-value n)
again (GrantAllocation p d q) = rw (directed_again p, allocation_again d DataCode DataFlag, allocation_again q PloamCode PloamFlag)
again (DividedSlotGrant p a m s) =
    let one : 1 ≤ m.length = m.some in
    let ends : m.offset + m.length ≤ 53 = m.inside in
    let t : ltb 52 m.offset ≡ false = le-ltb 52 m.offset (omega arith) in
    rw (directed_again p, flag_again a.active ActiveFlag, within-value a.code, t, minislot_parts m)
again (ConfigureVpVc p a h m) = rw (directed_again p, flag_again a ActiveFlag, octets_again h, octets_again m)
again PhysicalEquipmentError = refl
again (RequestPassword p) = rw (directed_again p)
again (ChurnedVp p true v) =
    rw (directed_again p, low_half v.value, capped_is v _ (path_again v.value))
again (ChurnedVp p false v) =
    rw (directed_again p, low_half v.value, capped_is v _ (path_again v.value))
again Popup = refl
again (VendorSpecific to k x) = rw (vendor_named k, vendor_again k, address_again to, octets_again x)
again (Pst l a b) = rw (within-value l)
again (BerInterval p n) = rw (directed_again p, word_again p.value 129 n (replicate 6 0))

pub read_back : ReadingUndoesWriting
read_back = again
