-- Why reading undoes writing, message by message.
use Rattle.std.proofs.Common.{◌≡◌, ◌∷◌, replicate, Some, None, Ok, Option, refl}
use Rattle.field.specs.declared.bounded.Bounded.{Bounded}
use Rattle.field.proofs.Bounds.{within-value}
use Rattle.field.proofs.Numbers.{serial_again, word_again, one_onu, vendor_named, vendor_again}
use Rattle.field.proofs.Runs.{octets_again}
use Rattle.upstream.specs.declared.message.Upstream.{Upstream}
use Rattle.upstream.specs.declared.message.Upstream.TheVariants.{
  NoMessage,
  NewChurningKey,
  Acknowledge,
  SerialNumberOnu,
  Password,
  PhysicalEquipmentError,
  BigKey,
  VendorSpecific,
  Rei,
  RInh,
  Pst,
  MessageError,
}
use Rattle.upstream.specs.Message.{onu_of, source_of, source_byte, upstream_of, bytes_of, ReadingUndoesWriting}

onu_again : (p : Bounded 0 63) → onu_of p.value ≡ Ok p
onu_again p = rw (within-value p)

source_again : (s : Option (Bounded 0 63)) → source_of (source_byte s) ≡ Ok s
source_again (Some p) = rw (one_onu p, onu_again p)
source_again None = refl

again : (m : Upstream) → upstream_of (bytes_of m) ≡ Ok m
again (NoMessage p) = rw (onu_again p)
again (NewChurningKey p x) = rw (onu_again p, octets_again x)
again (Acknowledge p n x) = rw (onu_again p, octets_again x)
again (SerialNumberOnu s x) = rw (source_again s, serial_again (source_byte s) 3 0 x)
again (Password p x) = rw (onu_again p, octets_again x)
again (PhysicalEquipmentError p) = rw (onu_again p)
again (BigKey p i f x) = rw (onu_again p, octets_again x)
again (VendorSpecific p k x) = rw (vendor_named k, vendor_again k, onu_again p, octets_again x)
again (Rei p n s) = rw (onu_again p, within-value s, word_again p.value 128 n (s.value ∷ replicate 5 0))
again (RInh p) = rw (onu_again p)
again (Pst p l a b) = rw (onu_again p, within-value l)
again (MessageError p n) = rw (onu_again p)

pub read_back : ReadingUndoesWriting
read_back = again
