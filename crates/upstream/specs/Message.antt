-- What twelve bytes from an ONU say, and the twelve bytes of each message.
-- Byte 0 is the source, byte 1 the identifier, bytes 2 to 11 are the fields.
use Rattle.std.specs.Prelude.{◌≡◌, ℕ, ◌+◌, ◌%◌, cond, ◌&&◌, List, [], ◌∷◌, ◌++◌, replicate, Some, None, Ok, Err, Option, Result, ◌==◌, nat_le}
use Rattle.std.specs.Option.{ok_or}
use Rattle.field.specs.declared.bounded.Bounded.{Bounded}
use Rattle.field.specs.declared.number.Number.{Number}
use Rattle.field.specs.declared.octets.Octets.{Octets}
use Rattle.field.specs.Bounded.{within}
use Rattle.field.specs.Octets.{picked, octets_of}
use Rattle.upstream.specs.declared.message.Upstream.{Upstream}
use Rattle.upstream.specs.declared.message.Upstream.TheVariants.{
  NoMessage,
  NewChurningKey,
  Acknowledge,
  SerialNumberOnu,
  Password,
  PhysicalEquipmentError,
  BigKey,
  VendorSpecific,
  Rei,
  RInh,
  Pst,
  MessageError,
}
use Rattle.upstream.specs.declared.fault.UpstreamField.TheVariants.{ZeroByte, SequenceBits, Line}
use Rattle.upstream.specs.declared.fault.UpstreamFault.{UpstreamFault}
use Rattle.upstream.specs.declared.fault.UpstreamFault.TheVariants.{UnknownIdentifier, WrongSource, OutOfRange}
use Rattle.field.specs.Bytes.{at, then, word_of, word_bytes, serial_of, serial_bytes, plain_bytes, with_ten_bytes, ten_of}

-- a message, or the first reason why there is none
abbrev pub Reading : Type 0
Reading = Result Upstream UpstreamFault

-- the source is the PON_ID of the ONU
abbrev pub onu_of : ℕ → Result (Bounded 0 63) UpstreamFault
onu_of n = ok_or (within 0 63 n) (WrongSource n)

-- an ONU that has no PON_ID yet sends 64
abbrev pub source_of : ℕ → Result (Option (Bounded 0 63)) UpstreamFault
source_of n = cond (n == 64) (Ok None) (then (onu_of n) (λ p. Ok (Some p)))

abbrev pub source_byte : Option (Bounded 0 63) → ℕ
source_byte None = 64
source_byte (Some p) = p.value

-- The kinds, each by its bytes.
abbrev pub key_of : List ℕ → Reading
key_of b = then (onu_of (at b 0)) (λ p. Ok (NewChurningKey p (octets_of 3 (picked 2 3 b))))

abbrev pub acknowledge_of : List ℕ → Reading
acknowledge_of b = then (onu_of (at b 0)) (λ p. Ok (Acknowledge p (at b 2) (octets_of 9 (picked 3 9 b))))

-- byte 2 is 0
abbrev pub number_of : List ℕ → Reading
number_of b =
    then (source_of (at b 0)) (λ s. cond (at b 2 == 0) (Ok (SerialNumberOnu s (serial_of b))) (Err (OutOfRange ZeroByte)))

abbrev pub password_of : List ℕ → Reading
password_of b = then (onu_of (at b 0)) (λ p. Ok (Password p (ten_of b)))

abbrev pub big_key_of : List ℕ → Reading
big_key_of b = then (onu_of (at b 0)) (λ p. Ok (BigKey p (at b 2) (at b 3) (octets_of 8 (picked 4 8 b))))

abbrev pub vendor_of : List ℕ → Reading
vendor_of b =
    then (ok_or (within 0 7 (at b 1 % 8)) (UnknownIdentifier (at b 1))) (λ kind.
    then (onu_of (at b 0)) (λ p. Ok (VendorSpecific p kind (ten_of b))))

-- the sequence number has four bits; the others are 0
abbrev pub rei_of : List ℕ → Reading
rei_of b =
    then (onu_of (at b 0)) (λ p. then (ok_or (within 0 15 (at b 6)) (OutOfRange SequenceBits)) (λ s. Ok (Rei p (word_of b) s)))

abbrev pub pst_of : List ℕ → Reading
pst_of b =
    then (onu_of (at b 0)) (λ p. then (ok_or (within 0 1 (at b 2)) (OutOfRange Line)) (λ line. Ok (Pst p line (at b 3) (at b 4))))

-- the message that the identifier names
abbrev pub of_kind : ℕ → List ℕ → Reading
of_kind k b =
    cond (nat_le 120 k && nat_le k 127) (vendor_of b)
    (cond (k == 0) (then (onu_of (at b 0)) (λ p. Ok (NoMessage p)))
    (cond (k == 1) (key_of b)
    (cond (k == 2) (acknowledge_of b)
    (cond (k == 3) (number_of b)
    (cond (k == 4) (password_of b)
    (cond (k == 5) (then (onu_of (at b 0)) (λ p. Ok (PhysicalEquipmentError p)))
    (cond (k == 6) (big_key_of b)
    (cond (k == 128) (rei_of b)
    (cond (k == 129) (then (onu_of (at b 0)) (λ p. Ok (RInh p)))
    (cond (k == 130) (pst_of b)
    (cond (k == 131) (then (onu_of (at b 0)) (λ p. Ok (MessageError p (at b 2)))) (Err (UnknownIdentifier k)))))))))))))

abbrev pub upstream_of : List ℕ → Reading
upstream_of b = of_kind (at b 1) b

-- The bytes of each kind.
abbrev pub acknowledge_bytes : Bounded 0 63 → ℕ → Octets 9 → List ℕ
acknowledge_bytes p message body = p.value ∷ 2 ∷ message ∷ picked 0 9 body.bytes

abbrev pub big_key_bytes : Bounded 0 63 → (index fragment : ℕ) → Octets 8 → List ℕ
big_key_bytes p index fragment body = p.value ∷ 6 ∷ index ∷ fragment ∷ picked 0 8 body.bytes

abbrev pub ten_bytes : Bounded 0 63 → ℕ → Octets 10 → List ℕ
ten_bytes p identifier body = with_ten_bytes p.value identifier body

abbrev pub rei_bytes : Bounded 0 63 → Number 4294967295 → Bounded 0 15 → List ℕ
rei_bytes p errors sequence = p.value ∷ 128 ∷ word_bytes errors.value ++ sequence.value ∷ replicate 5 0

abbrev pub bytes_of : Upstream → List ℕ
bytes_of (NoMessage p) = plain_bytes p.value 0 []
bytes_of (NewChurningKey p key) = plain_bytes p.value 1 (picked 0 3 key.bytes)
bytes_of (Acknowledge p message body) = acknowledge_bytes p message body
bytes_of (SerialNumberOnu s number) = serial_bytes (source_byte s) 3 0 number
bytes_of (Password p password) = ten_bytes p 4 password
bytes_of (PhysicalEquipmentError p) = plain_bytes p.value 5 []
bytes_of (BigKey p index fragment body) = big_key_bytes p index fragment body
bytes_of (VendorSpecific p kind body) = ten_bytes p (120 + kind.value) body
bytes_of (Rei p errors sequence) = rei_bytes p errors sequence
bytes_of (RInh p) = plain_bytes p.value 129 []
bytes_of (Pst p line k1 k2) = plain_bytes p.value 130 (line.value ∷ k1 ∷ k2 ∷ [])
bytes_of (MessageError p message) = plain_bytes p.value 131 (message ∷ [])

-- every message is read from its own bytes
abbrev pub ReadingUndoesWriting : Type 0
ReadingUndoesWriting = (m : Upstream) → upstream_of (bytes_of m) ≡ Ok m
