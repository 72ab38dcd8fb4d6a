-- A number that was put into bytes is read from them again, and bytes that were read as a number are written again.
use Rattle.std.proofs.Common.{◌≡◌, ℕ, ◌+◌, ◌*◌, ◌/◌, ◌%◌, ◌<◌, ◌≤◌, true, false, ◌&&◌, eqb, leb, List, [], ◌∷◌, ◌++◌, drop, Some, ap, ◌∙◌, arith, lit<}
use Rattle.std.proofs.lemmas.Nat.{div-mul-add, mod-mul-add}
use Rattle.std.proofs.lemmas.Bool.{ne_eqb, le-leb, and_from}
use Rattle.field.specs.declared.bounded.Bounded.{Bounded}
use Rattle.field.specs.declared.number.Number.{Number}
use Rattle.field.specs.Bounded.{within}
use Rattle.field.specs.Bytes.{at, triple, triple_bytes, word_of, word_bytes, serial_of, number_bytes, serial_bytes}
use Rattle.field.specs.Octets.{picked}
use Rattle.field.proofs.Bounds.{within-value, capped_is, capped-value}

-- a serial number from its eight bytes
number_again : (n : ℕ) → n ≤ 18446744073709551615 → n / 72057594037927936 % 256 * 72057594037927936 + n / 281474976710656 % 256 * 281474976710656 + n / 1099511627776 % 256 * 1099511627776 + n / 4294967296 % 256 * 4294967296 + n / 16777216 % 256 * 16777216 + n / 65536 % 256 * 65536 + n / 256 % 256 * 256 + n % 256 ≡ n
number_again n h = omega arith

pub serial_again : (a k f : ℕ) (x : Number 18446744073709551615) → serial_of (serial_bytes a k f x) ≡ x
serial_again a k f x = capped_is x _ (number_again x.value x.high)

-- a count from its four bytes
pub count_again : (n : ℕ) → n ≤ 4294967295 → n / 16777216 % 256 * 16777216 + n / 65536 % 256 * 65536 + n / 256 % 256 * 256 + n % 256 ≡ n
count_again n h =
    let a : n ≡ n / 256 * 256 + n % 256 = omega arith in
    let b : n / 256 ≡ n / 65536 * 256 + n / 256 % 256 = omega arith in
    let c : n / 65536 ≡ n / 16777216 * 256 + n / 65536 % 256 = omega arith in
    let d : n / 16777216 % 256 ≡ n / 16777216 = omega arith in
    omega arith

pub word_again : (a k : ℕ) (x : Number 4294967295) (rest : List ℕ) → word_of (a ∷ k ∷ word_bytes x.value ++ rest) ≡ x
word_again a k x rest = capped_is x _ (count_again x.value x.high)

-- the number of one ONU is not that of all
pub one_onu : (p : Bounded 0 63) → eqb p.value 64 ≡ false
one_onu p =
    let h : p.value ≤ 63 = p.high in
    ne_eqb p.value 64 (λ e. omega arith)

-- one of the eight identifiers from 120 on, which are left to vendors
pub vendor_named : (k : Bounded 0 7) → (leb 120 (120 + k.value) && leb (120 + k.value) 127) ≡ true
vendor_named k =
    let h : k.value ≤ 7 = k.high in
    and_from (leb 120 (120 + k.value)) (leb (120 + k.value) 127)
    (le-leb 120 (120 + k.value) (omega arith))
    (le-leb (120 + k.value) 127 (omega arith))

pub vendor_again : (k : Bounded 0 7) → within 0 7 ((120 + k.value) % 8) ≡ Some k
vendor_again k =
    let h : k.value ≤ 7 = k.high in
    let e : (120 + k.value) % 8 ≡ k.value = omega arith in
    rw (e, within-value k)

-- From bytes to bytes.
-- one byte x of a number: h stands above it, r below
digit : (n w h x r : ℕ) → x < 256 → r < w → n ≡ (h * 256 + x) * w + r → n / w % 256 ≡ x
digit n w h x r small below e =
    ap (λ (m : ℕ). m / w % 256) e ∙ ap (λ (m : ℕ). m % 256) (div-mul-add (h * 256 + x) w r below) ∙ mod-mul-add h 256 x small

-- the bytes of a number of 64 bits
digits_8 : (a b c d e f g h n : ℕ) → a < 256 → b < 256 → c < 256 → d < 256 → e < 256 → f < 256 → g < 256 → h < 256 → n ≡ a * 72057594037927936 + b * 281474976710656 + c * 1099511627776 + d * 4294967296 + e * 16777216 + f * 65536 + g * 256 + h → number_bytes n ≡ a ∷ b ∷ c ∷ d ∷ e ∷ f ∷ g ∷ h ∷ []
digits_8 a b c d e f g h n ha hb hc hd he hf hg hh is =
    let e0 : n / 72057594037927936 % 256 ≡ a = digit n 72057594037927936 0 a (b * 281474976710656 + c * 1099511627776 + d * 4294967296 + e * 16777216 + f * 65536 + g * 256 + h) ha (omega arith) (omega arith) in
    let e1 : n / 281474976710656 % 256 ≡ b = digit n 281474976710656 a b (c * 1099511627776 + d * 4294967296 + e * 16777216 + f * 65536 + g * 256 + h) hb (omega arith) (omega arith) in
    let e2 : n / 1099511627776 % 256 ≡ c = digit n 1099511627776 (a * 256 + b) c (d * 4294967296 + e * 16777216 + f * 65536 + g * 256 + h) hc (omega arith) (omega arith) in
    let e3 : n / 4294967296 % 256 ≡ d = digit n 4294967296 (a * 65536 + b * 256 + c) d (e * 16777216 + f * 65536 + g * 256 + h) hd (omega arith) (omega arith) in
    let e4 : n / 16777216 % 256 ≡ e = digit n 16777216 (a * 16777216 + b * 65536 + c * 256 + d) e (f * 65536 + g * 256 + h) he (omega arith) (omega arith) in
    let e5 : n / 65536 % 256 ≡ f = digit n 65536 (a * 4294967296 + b * 16777216 + c * 65536 + d * 256 + e) f (g * 256 + h) hf (omega arith) (omega arith) in
    let e6 : n / 256 % 256 ≡ g = digit n 256 (a * 1099511627776 + b * 4294967296 + c * 16777216 + d * 65536 + e * 256 + f) g h hg (omega arith) (omega arith) in
    let e7 : n % 256 ≡ h = omega arith in
    cc

-- the same of the numbers that have no more than 32 bits
digits_4 : (a b c d n : ℕ) → a < 256 → b < 256 → c < 256 → d < 256 → n ≡ a * 16777216 + b * 65536 + c * 256 + d → word_bytes n ≡ a ∷ b ∷ c ∷ d ∷ []
digits_4 a b c d n ha hb hc hd is =
    ap (drop 4) (digits_8 0 0 0 0 a b c d n (lit< tt) (lit< tt) (lit< tt) (lit< tt) ha hb hc hd (omega arith))

-- what was read from bytes has these bytes
module _ (b : List ℕ) (small : (k : ℕ) → at b k < 256) where
  pub triple_kept : (k : ℕ) → triple_bytes (triple b k) ≡ at b k ∷ at b (k + 1) ∷ at b (k + 2) ∷ []
  triple_kept k =
      ap (drop 1)
      (digits_4 0 (at b k) (at b (k + 1)) (at b (k + 2)) (triple b k) (lit< tt) (small k) (small (k + 1)) (small (k + 2)) (omega arith))

  pub word_kept : word_bytes (word_of b).value ≡ picked 2 4 b
  word_kept =
      let fits = capped-value 4294967295 _ (omega (arith, small 2, small 3, small 4, small 5)) in
      digits_4 _ _ _ _ _ (small 2) (small 3) (small 4) (small 5) fits

  pub serial_kept : number_bytes (serial_of b).value ≡ picked 3 8 b
  serial_kept =
      let fits = capped-value 18446744073709551615 _ (omega (arith, small 3, small 4, small 5, small 6, small 7, small 8, small 9, small 10)) in
      digits_8 _ _ _ _ _ _ _ _ _ (small 3) (small 4) (small 5) (small 6) (small 7) (small 8) (small 9) (small 10) fits
