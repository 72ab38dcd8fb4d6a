-- Writing what was read gives the same bytes wherever they are specified.
use Rattle.std.proofs.Common.{◌≡◌, ℕ, ◌+◌, ◌-◌, ◌*◌, ◌/◌, ◌%◌, ◌<◌, ◌≤◌, Bool, true, false, cond, ◌&&◌, eqb, ltb, leb, List, map, length, replicate, IfOk, Ok, sym, ap, ◌∙◌, ⊎_elim, arith}
use native.Mathlib.Nat.{mod-one}
use Rattle.std.specs.List.{range_with_len}
use Rattle.std.proofs.lemmas.List.FromFn.{get_or-map-range_with_len}
use Rattle.std.proofs.lemmas.List.{get_or-append_right, get_or-replicate, length-replicate}
use Rattle.std.proofs.lemmas.Result.{IfOk-at_ok}
use Rattle.std.proofs.lemmas.Bool.{cases_lt, cases_Bool, cond_both, eqb-true, eqb-false, leb-true, and_parts}
use Rattle.std.specs.Option.{ok_or}
use Rattle.field.specs.declared.bounded.Bounded.{Bounded}
use Rattle.field.specs.Delay.{Delay, delay_of}
use Rattle.field.specs.declared.minislot.Minislot.{Minislot}
use Rattle.field.specs.Bounded.{within}
use Rattle.field.specs.Minislot.{minislot_of}
use Rattle.field.specs.Number.{capped}
use Rattle.field.specs.Bytes.{at, then, triple, word_of, serial_of, ten_of}
use Rattle.field.specs.Octets.{picked, octets_of}
use Rattle.field.proofs.Bounds.{up_to_is, minislot_is, capped-value}
use Rattle.field.proofs.Numbers.{triple_kept, word_kept, serial_kept}
use Rattle.field.proofs.Readings.{then_made, test_made, ok_or_made, within_made}
use Rattle.message.specs.declared.downstream.Downstream.{Downstream}
use Rattle.message.specs.declared.downstream.Downstream.TheVariants.{
  NoMessage,
  UpstreamRxControl,
  RangingTime,
  SerialNumberMask,
  AssignPonId,
  DeactivatePonId,
  DisableSerialNumber,
  NewChurningKeyRequest,
  ChurningKeyUpdate,
  GrantAllocation,
  DividedSlotGrant,
  ConfigureVpVc,
  PhysicalEquipmentError,
  RequestPassword,
  Popup,
  VendorSpecific,
  Pst,
  BerInterval,
}
use Rattle.message.specs.declared.downstream.Address.{Address}
use Rattle.message.specs.declared.downstream.RxPart.TheVariants.{First, Second}
use Rattle.message.specs.declared.downstream.Access.TheVariants.{Deny, AllowAll, Allow}
use Rattle.message.specs.declared.downstream.Allocation.{Allocation}
use Rattle.message.specs.declared.fault.Field.{Field}
use Rattle.message.specs.declared.fault.MessageFault.{MessageFault}
use Rattle.message.specs.declared.fault.MessageFault.TheVariants.{OutOfRange}
use Rattle.message.specs.Downstream.{Reading, everybody_of, directed_of, address_of, address_byte, flag_of, flag_byte, allocation_of, delay_field, broadcast_of, rx_control_of, overhead_of, ranging_of, mask_of, assign_of, disable_of, update_of, grants_of, slot_of, path_of, churned_of, vendor_of, pst_of, downstream_of, bytes_of}
use Rattle.message.specs.Kept.{first, Kept, WritingKeeps}

-- lists made of one function's values each: where they are the same, so are the values
each : (n : ℕ) (f g : ℕ → ℕ) → map f (range_with_len 0 n) ≡ map g (range_with_len 0 n) → (k : ℕ) → k < n → f k ≡ g k
each n f g e k h =
    sym (get_or-map-range_with_len f 0 n k k 0 h (omega arith)) ∙ ap (λ xs. at xs k) e ∙ get_or-map-range_with_len g 0 n k k 0 h (omega arith)

-- nothing is specified past the first n bytes
rest_at : (n k : ℕ) → n ≤ k → k < 12 → at (first n) k ≡ 1
rest_at n k h l =
    get_or-append_right (replicate n 256) (replicate (12 - n) 1) n k 0 (length-replicate n 256) h
    ∙ get_or-replicate (12 - n) (k - n) 1 0 (omega arith)

-- The fields: what was read has the bytes that it was read from.
flag_made : (n : ℕ) (field : Field) → IfOk (flag_of n field) (λ a. flag_byte a ≡ n)
flag_made n field = test_made (λ a. flag_byte a ≡ n) n 0 _ _ (λ e. sym e) (test_made (λ a. flag_byte a ≡ n) n 1 _ _ (λ e. sym e) tt)

address_made : (n : ℕ) → IfOk (address_of n) (λ to. address_byte to ≡ n)
address_made n =
    test_made (λ to. address_byte to ≡ n) n 64 _ _ (λ e. sym e)
    (then_made (λ p. p.value ≡ n) (λ to. address_byte to ≡ n) (directed_of n) _ (within_made 0 63 n _) (λ p e. e))

-- a code and a flag in two bytes
abbrev Allots : (code active : ℕ) → Allocation → Type 0
Allots code active a = (a.code.value ≡ code) × (flag_byte a.active ≡ active)

allocation_made : (code active : ℕ) (f g : Field) → IfOk (allocation_of code active f g) (Allots code active)
allocation_made code active f g =
    then_made (λ c. c.value ≡ code) _ (ok_or (within 0 252 code) (OutOfRange f)) _ (within_made 0 252 code _) (λ c e.
    then_made (λ a. flag_byte a ≡ active) _ (flag_of active g) _ (flag_made active g) (λ a h. (e, h)))

-- the start and the length of a part in two bytes
abbrev Spans : (offset length : ℕ) → Minislot → Type 0
Spans offset length m = (m.offset ≡ offset) × (m.length ≡ length)

-- the lowest bit of a byte, from a flag
low_bit : (n : ℕ) → flag_byte (eqb (n % 2) 1) % 2 ≡ n % 2
low_bit n =
    cond_both (eqb (n % 2) 1) 1 0 (λ x. x % 2 ≡ n % 2)
    (λ e. sym (eqb-true (n % 2) 1 e))
    (λ e. omega (arith, eqb-false (n % 2) 1 e))

-- the two bytes of a path identifier
path_is : (x y n : ℕ) → x < 256 → y < 256 → y % 16 ≡ 0 → n ≡ x * 16 + y / 16 → (n / 16 ≡ x) × (n % 16 * 16 ≡ y)
path_is x y n hx hy z e = (omega arith, omega arith)

-- a delay other than 0 was given by its flag and three bytes
given_is : (n x d : ℕ) → d ≡ cond (eqb (n % 2) 0) 0 x → eqb d 0 ≡ false → (n % 2 ≡ 1) × (d ≡ x)
given_is n x d e t =
    cond_both (eqb (n % 2) 0) 0 x (λ y. d ≡ y → (n % 2 ≡ 1) × (d ≡ x))
    (λ _ z. absurd (eqb-false d 0 t z))
    (λ s z. (omega (arith, eqb-false (n % 2) 0 s), z))
    e

module _ (b : List ℕ) (small : (k : ℕ) → at b k < 256) where
  -- a message whose first n bytes are those of b keeps b where only these are specified
  kept : (n : ℕ) (m : Downstream) → picked 0 n (bytes_of m) ≡ picked 0 n b → (k : ℕ) → k < 12 → at (bytes_of m) k % at (first n) k ≡ at b k % at (first n) k
  kept n m e k l =
      ⊎_elim (λ (h : k < n). ap (λ x. x % at (first n) k) (each n (at (bytes_of m)) (at b) e k h))
      (λ (h : n ≤ k). rw (rest_at n k h l) (mod-one (at (bytes_of m) k) ∙ sym (mod-one (at b k))))
      (cases_lt k n)

  -- One part of a reading after another, each with what it says of its bytes.
  if_is : (n m : ℕ) (x y : Reading) → (n ≡ m → IfOk x (Kept b)) → IfOk y (Kept b) → IfOk (cond (eqb n m) x y) (Kept b)
  if_is = test_made (Kept b)

  if_all : (n : ℕ) (f : Unit {0} → Reading) → (n ≡ 64 → IfOk (f tt) (Kept b)) → IfOk (then (everybody_of n) f) (Kept b)
  if_all n f h = then_made (λ _. n ≡ 64) (Kept b) (everybody_of n) f (test_made (λ _. n ≡ 64) n 64 _ _ (λ e. e) tt) (λ _. h)

  if_within : (low high n : ℕ) (e : MessageFault) (f : Bounded low high → Reading) → ((x : Bounded low high) → x.value ≡ n → IfOk (f x) (Kept b)) → IfOk (then (ok_or (within low high n) e) f) (Kept b)
  if_within low high n e f = then_made (λ x. x.value ≡ n) (Kept b) (ok_or (within low high n) e) f (within_made low high n e)

  if_one : (n : ℕ) (f : Bounded 0 63 → Reading) → ((p : Bounded 0 63) → p.value ≡ n → IfOk (f p) (Kept b)) → IfOk (then (directed_of n) f) (Kept b)
  if_one n f = if_within 0 63 n _ f

  if_address : (n : ℕ) (f : Address → Reading) → ((to : Address) → address_byte to ≡ n → IfOk (f to) (Kept b)) → IfOk (then (address_of n) f) (Kept b)
  if_address n f = then_made (λ to. address_byte to ≡ n) (Kept b) (address_of n) f (address_made n)

  if_flag : (n : ℕ) (field : Field) (f : Bool → Reading) → ((a : Bool) → flag_byte a ≡ n → IfOk (f a) (Kept b)) → IfOk (then (flag_of n field) f) (Kept b)
  if_flag n field f = then_made (λ a. flag_byte a ≡ n) (Kept b) (flag_of n field) f (flag_made n field)

  if_delay : (n : ℕ) (f : Delay → Reading) → ((d : Delay) → d.value ≡ n → IfOk (f d) (Kept b)) → IfOk (then (delay_field n) f) (Kept b)
  if_delay n f = then_made (λ d. d.value ≡ n) (Kept b) (delay_field n) f (ok_or_made (λ d. d.value ≡ n) (delay_of n) _ (up_to_is 32000 n))

  if_allocation : (code active : ℕ) (w v : Field) (f : Allocation → Reading) → ((a : Allocation) → Allots code active a → IfOk (f a) (Kept b)) → IfOk (then (allocation_of code active w v) f) (Kept b)
  if_allocation code active w v f = then_made (Allots code active) (Kept b) (allocation_of code active w v) f (allocation_made code active w v)

  if_part : (offset length : ℕ) (e : MessageFault) (f : Minislot → Reading) → ((m : Minislot) → Spans offset length m → IfOk (f m) (Kept b)) → IfOk (then (ok_or (minislot_of offset length) e) f) (Kept b)
  if_part offset length e f =
      then_made (Spans offset length) (Kept b) (ok_or (minislot_of offset length) e) f
      (ok_or_made (Spans offset length) (minislot_of offset length) e (minislot_is offset length))

  -- The kinds, each with the identifier in byte 1.
  none_kept : at b 1 ≡ 0 → IfOk (broadcast_of (at b 0) NoMessage) (Kept b)
  none_kept k = if_all (at b 0) _ (λ a. kept 2 NoMessage (cc))

  rx_kept : at b 1 ≡ 1 → IfOk (rx_control_of b) (Kept b)
  unfolding octets_of
  rx_kept k =
      if_all (at b 0) _ (λ a.
      if_is (at b 2) 0 _ _ (λ c. kept 12 (UpstreamRxControl (First (octets_of 9 (picked 3 9 b)))) (cc))
      (if_is (at b 2) 1 _ _ (λ c. kept 10 (UpstreamRxControl (Second (octets_of 7 (picked 3 7 b)))) (cc)) tt))

  overhead_kept : at b 1 ≡ 2 → IfOk (overhead_of b) (Kept b)
  unfolding octets_of
  overhead_kept k =
      let bytes = triple_kept b small 9 in
      if_all (at b 0) _ (λ a.
      if_within 4 24 (at b 2) _ _ (λ g c.
      if_delay _ _ (λ d e.
      each 12 _ _ (⊎_elim
      (λ (t : eqb d.value 0 ≡ true). rw t (simp mod-one (cc)))
      (λ (t : eqb d.value 0 ≡ false). let given = given_is (at b 8) (triple b 9) d.value e t in rw t (simp mod-one (cc)))
      (cases_Bool (eqb d.value 0))))))

  ranging_kept : at b 1 ≡ 3 → IfOk (ranging_of b) (Kept b)
  ranging_kept k =
      let bytes = triple_kept b small 2 in
      if_one (at b 0) _ (λ p a.
      if_delay (triple b 2) _ (λ d c. kept 5 (RangingTime p d) (cc)))

  mask_kept : at b 1 ≡ 4 → IfOk (mask_of b) (Kept b)
  mask_kept k =
      let bytes = serial_kept b small in
      if_all (at b 0) _ (λ a.
      if_within 0 64 (at b 2) _ _ (λ n c. kept 11 (SerialNumberMask n (serial_of b)) (cc)))

  assign_kept : at b 1 ≡ 5 → IfOk (assign_of b) (Kept b)
  assign_kept k =
      let bytes = serial_kept b small in
      if_all (at b 0) _ (λ a.
      if_within 0 63 (at b 2) _ _ (λ p c. kept 11 (AssignPonId p (serial_of b)) (cc)))

  deactivate_kept : at b 1 ≡ 6 → IfOk (then (address_of (at b 0)) (λ to. Ok (DeactivatePonId to))) (Kept b)
  deactivate_kept k = if_address (at b 0) _ (λ to a. kept 2 (DeactivatePonId to) (cc))

  disable_kept : at b 1 ≡ 7 → IfOk (disable_of b) (Kept b)
  disable_kept k =
      let bytes = serial_kept b small in
      if_all (at b 0) _ (λ a.
      if_is (at b 2) 255 _ _ (λ c. kept 11 (DisableSerialNumber (Deny (serial_of b))) (cc))
      (if_is (at b 2) 15 _ _ (λ c. kept 3 (DisableSerialNumber AllowAll) (cc))
      (if_is (at b 2) 0 _ _ (λ c. kept 11 (DisableSerialNumber (Allow (serial_of b))) (cc)) tt)))

  request_kept : at b 1 ≡ 8 → IfOk (then (directed_of (at b 0)) (λ p. Ok (NewChurningKeyRequest p))) (Kept b)
  request_kept k = if_one (at b 0) _ (λ p a. kept 2 (NewChurningKeyRequest p) (cc))

  update_kept : at b 1 ≡ 9 → IfOk (update_of b) (Kept b)
  update_kept k =
      if_one (at b 0) _ (λ p a.
      if_within 1 3 (at b 2) _ _ (λ n c. kept 3 (ChurningKeyUpdate p n) (cc)))

  grants_kept : at b 1 ≡ 10 → IfOk (grants_of b) (Kept b)
  grants_kept k =
      if_one (at b 0) _ (λ p a.
      if_allocation (at b 2) (at b 3) _ _ _ (λ d c.
      if_allocation (at b 4) (at b 5) _ _ _ (λ q e. kept 6 (GrantAllocation p d q) (cc))))

  slot_kept : at b 1 ≡ 11 → IfOk (slot_of b) (Kept b)
  slot_kept k =
      if_one (at b 0) _ (λ p a.
      if_flag (at b 2) _ _ (λ f c.
      if_within 0 252 (at b 3) _ _ (λ n d.
      cond_both (ltb 52 (at b 5)) _ _ (λ r. IfOk r (Kept b)) (λ _. tt) (λ _.
      if_part (at b 5) (at b 4) _ _ (λ m e. kept 7 (DividedSlotGrant p (record { code = n; active = f }) m (at b 6)) (cc))))))

  path_kept : at b 1 ≡ 12 → IfOk (path_of b) (Kept b)
  unfolding octets_of
  path_kept k =
      if_one (at b 0) _ (λ p a.
      if_flag (at b 2) _ _ (λ f c. kept 11 (ConfigureVpVc p f (octets_of 4 (picked 3 4 b)) (octets_of 4 (picked 7 4 b))) (cc)))

  error_kept : at b 1 ≡ 13 → IfOk (broadcast_of (at b 0) PhysicalEquipmentError) (Kept b)
  error_kept k = if_all (at b 0) _ (λ a. kept 2 PhysicalEquipmentError (cc))

  password_kept : at b 1 ≡ 14 → IfOk (then (directed_of (at b 0)) (λ p. Ok (RequestPassword p))) (Kept b)
  password_kept k = if_one (at b 0) _ (λ p a. kept 2 (RequestPassword p) (cc))

  churned_kept : at b 1 ≡ 15 → IfOk (churned_of b) (Kept b)
  churned_kept k =
      let n = at b 3 * 16 + at b 4 / 16 in
      let fits = capped-value 4095 n (omega (arith, small 3, small 4)) in
      let flag = low_bit (at b 2) in
      if_one (at b 0) _ (λ p a.
      if_is (at b 4 % 16) 0 _ _ (λ z.
      let bytes = path_is (at b 3) (at b 4) (capped 4095 n).value (small 3) (small 4) z fits in
      each 12 _ _ (simp mod-one (cc))) tt)

  popup_kept : at b 1 ≡ 16 → IfOk (broadcast_of (at b 0) Popup) (Kept b)
  popup_kept k = if_all (at b 0) _ (λ a. kept 2 Popup (cc))

  vendor_kept : (leb 120 (at b 1) && leb (at b 1) 127) ≡ true → IfOk (vendor_of b) (Kept b)
  unfolding octets_of
  vendor_kept t =
      let ends = and_parts (leb 120 (at b 1)) (leb (at b 1) 127) t in
      let low = leb-true 120 (at b 1) ends.0 in
      let high = leb-true (at b 1) 127 ends.1 in
      if_within 0 7 (at b 1 % 8) _ _ (λ n c.
      if_address (at b 0) _ (λ to a.
      let k : 120 + n.value ≡ at b 1 = omega arith in
      kept 12 (VendorSpecific to n (ten_of b)) (cc)))

  pst_kept : at b 1 ≡ 128 → IfOk (pst_of b) (Kept b)
  pst_kept k =
      if_all (at b 0) _ (λ a.
      if_within 0 1 (at b 2) _ _ (λ l c. kept 5 (Pst l (at b 3) (at b 4)) (cc)))

  interval_kept : at b 1 ≡ 129 → IfOk (then (directed_of (at b 0)) (λ p. Ok (BerInterval p (word_of b)))) (Kept b)
  interval_kept k =
      let bytes = word_kept b small in
      if_one (at b 0) _ (λ p a. kept 6 (BerInterval p (word_of b)) (cc))

  -- the message that the identifier names
  all_kept : IfOk (downstream_of b) (Kept b)
  all_kept =
      cond_both (leb 120 (at b 1) && leb (at b 1) 127) _ _ (λ r. IfOk r (Kept b)) vendor_kept (λ _.
      if_is (at b 1) 0 _ _ none_kept
      (if_is (at b 1) 1 _ _ rx_kept
      (if_is (at b 1) 2 _ _ overhead_kept
      (if_is (at b 1) 3 _ _ ranging_kept
      (if_is (at b 1) 4 _ _ mask_kept
      (if_is (at b 1) 5 _ _ assign_kept
      (if_is (at b 1) 6 _ _ deactivate_kept
      (if_is (at b 1) 7 _ _ disable_kept
      (if_is (at b 1) 8 _ _ request_kept
      (if_is (at b 1) 9 _ _ update_kept
      (if_is (at b 1) 10 _ _ grants_kept
      (if_is (at b 1) 11 _ _ slot_kept
      (if_is (at b 1) 12 _ _ path_kept
      (if_is (at b 1) 13 _ _ error_kept
      (if_is (at b 1) 14 _ _ password_kept
      (if_is (at b 1) 15 _ _ churned_kept
      (if_is (at b 1) 16 _ _ popup_kept
      (if_is (at b 1) 128 _ _ pst_kept
      (if_is (at b 1) 129 _ _ interval_kept tt)))))))))))))))))))

pub writing_keeps_lem : WritingKeeps
writing_keeps_lem b small m e = IfOk-at_ok (Kept b) e (all_kept b small)
