-- Long division goes byte by byte: what eight coefficients do to a remainder is a xor with what eight zeros do.
use Rattle.std.proofs.Common.{◌≡◌, ℕ, ◌+◌, ◌*◌, ◌/◌, ◌%◌, ◌^◌, ◌<◌, ◌≤◌, true, false, ltb, List, [], ◌∷◌, ◌++◌, length, get_or, take, sym, refl, ap, ◌∙◌, ⊎_elim, append_assoc, arith, lit<}
use lib.Bits.{bit_xor, xor_block, xor_shr, xor_assoc, xor_comm, xor_zero_r}
use Rattle.std.proofs.lemmas.Bool.{lt-ltb, le-ltb, cases_lt}
use Rattle.std.proofs.lemmas.List.{take_more}
use Rattle.field.specs.Check.{brought, divided, bits_of, coefficients, shifted, check_of}

-- a coefficient of 0 brought down, then what lies below the eighth place added
doubled : (u y bit : ℕ) → bit < 2 → 2 * bit_xor u y + bit ≡ bit_xor (2 * u + 0) (2 * y + bit)
doubled u y bit k =
    let e : 2 * bit_xor u y + bit ≡ bit_xor u y * 2 ^ 1 + bit = omega arith in
    let f : u * 2 ^ 1 + 0 ≡ 2 * u + 0 = omega arith in
    let g : y * 2 ^ 1 + bit ≡ 2 * y + bit = omega arith in
    e ∙ sym (xor_block 1 u y 0 bit (lit< tt) k) ∙ ap (λ (n : ℕ). bit_xor n (y * 2 ^ 1 + bit)) f ∙ ap (λ (n : ℕ). bit_xor (2 * u + 0) n) g

top : (u y : ℕ) → y < 128 → bit_xor u y / 128 ≡ u / 128
top u y h =
    let z : y / 128 ≡ 0 = omega arith in
    xor_shr u y 7 ∙ ap (λ (n : ℕ). bit_xor (u / 128) n) z ∙ xor_zero_r (u / 128)

regrouped : (a b c : ℕ) → bit_xor (bit_xor a b) c ≡ bit_xor (bit_xor a c) b
regrouped a b c = xor_assoc a b c ∙ ap (λ (n : ℕ). bit_xor a n) (xor_comm b c) ∙ sym (xor_assoc a c b)

brought-xor : (u y bit : ℕ) → y < 128 → bit < 2 → brought (bit_xor u y) bit ≡ bit_xor (brought u 0) (2 * y + bit)
unfolding brought
brought-xor u y bit h k =
    let t : bit_xor u y / 128 ≡ u / 128 = top u y h in
    let d : 2 * bit_xor u y + bit ≡ bit_xor (2 * u + 0) (2 * y + bit) = doubled u y bit k in
    ⊎_elim
    (λ (a : u < 128). let p : ltb (bit_xor u y) 128 ≡ true = lt-ltb (bit_xor u y) 128 (omega arith) in
    let q : ltb u 128 ≡ true = lt-ltb u 128 a in rw (p, q) d)
    (λ (b : 128 ≤ u). let p : ltb (bit_xor u y) 128 ≡ false = le-ltb (bit_xor u y) 128 (omega arith) in
    let q : ltb u 128 ≡ false = le-ltb u 128 b in
    rw (p, q, d) (regrouped (2 * u + 0) (2 * y + bit) 263))
    (cases_lt u 128)

advance : (v y z bit : ℕ) → y < 128 → bit < 2 → 2 * y + bit ≡ z → brought (bit_xor v y) bit ≡ bit_xor (brought v 0) z
advance v y z bit h k e = brought-xor v y bit h k ∙ ap (λ (n : ℕ). bit_xor (brought v 0) n) e

-- eight coefficients from a remainder: as eight zeros, and the byte added
byte-xor : (u b : ℕ) → b < 256 → divided u (bits_of b) ≡ bit_xor (shifted u) b
unfolding shifted
byte-xor u b h =
    let e1 : brought u (b / 128 % 2) ≡ bit_xor (brought u 0) (b / 128) = ap (λ (n : ℕ). brought n (b / 128 % 2)) (sym (xor_zero_r u)) ∙ advance u (0) (b / 128) (b / 128 % 2) (omega arith) (omega arith) (omega arith) in
    let e2 : brought (bit_xor (brought u 0) (b / 128)) (b / 64 % 2) ≡ bit_xor (brought (brought u 0) 0) (b / 64) = advance (brought u 0) (b / 128) (b / 64) (b / 64 % 2) (omega arith) (omega arith) (omega arith) in
    let e3 : brought (bit_xor (brought (brought u 0) 0) (b / 64)) (b / 32 % 2) ≡ bit_xor (brought (brought (brought u 0) 0) 0) (b / 32) = advance (brought (brought u 0) 0) (b / 64) (b / 32) (b / 32 % 2) (omega arith) (omega arith) (omega arith) in
    let e4 : brought (bit_xor (brought (brought (brought u 0) 0) 0) (b / 32)) (b / 16 % 2) ≡ bit_xor (brought (brought (brought (brought u 0) 0) 0) 0) (b / 16) = advance (brought (brought (brought u 0) 0) 0) (b / 32) (b / 16) (b / 16 % 2) (omega arith) (omega arith) (omega arith) in
    let e5 : brought (bit_xor (brought (brought (brought (brought u 0) 0) 0) 0) (b / 16)) (b / 8 % 2) ≡ bit_xor (brought (brought (brought (brought (brought u 0) 0) 0) 0) 0) (b / 8) = advance (brought (brought (brought (brought u 0) 0) 0) 0) (b / 16) (b / 8) (b / 8 % 2) (omega arith) (omega arith) (omega arith) in
    let e6 : brought (bit_xor (brought (brought (brought (brought (brought u 0) 0) 0) 0) 0) (b / 8)) (b / 4 % 2) ≡ bit_xor (brought (brought (brought (brought (brought (brought u 0) 0) 0) 0) 0) 0) (b / 4) = advance (brought (brought (brought (brought (brought u 0) 0) 0) 0) 0) (b / 8) (b / 4) (b / 4 % 2) (omega arith) (omega arith) (omega arith) in
    let e7 : brought (bit_xor (brought (brought (brought (brought (brought (brought u 0) 0) 0) 0) 0) 0) (b / 4)) (b / 2 % 2) ≡ bit_xor (brought (brought (brought (brought (brought (brought (brought u 0) 0) 0) 0) 0) 0) 0) (b / 2) = advance (brought (brought (brought (brought (brought (brought u 0) 0) 0) 0) 0) 0) (b / 4) (b / 2) (b / 2 % 2) (omega arith) (omega arith) (omega arith) in
    let e8 : brought (bit_xor (brought (brought (brought (brought (brought (brought (brought u 0) 0) 0) 0) 0) 0) 0) (b / 2)) (b % 2) ≡ bit_xor (brought (brought (brought (brought (brought (brought (brought (brought u 0) 0) 0) 0) 0) 0) 0) 0) (b) = advance (brought (brought (brought (brought (brought (brought (brought u 0) 0) 0) 0) 0) 0) 0) (b / 2) (b) (b % 2) (omega arith) (omega arith) (omega arith) in
    rw (e1, e2, e3, e4, e5, e6, e7, e8)

divided-append : (r : ℕ) (xs ys : List ℕ) → divided r (xs ++ ys) ≡ divided (divided r xs) ys
divided-append r [] ys = refl
divided-append r (x ∷ xs) ys = divided-append (brought r x) xs ys

coefficients_push : (xs : List ℕ) (b : ℕ) → coefficients (xs ++ (b ∷ [])) ≡ coefficients xs ++ bits_of b
unfolding coefficients
coefficients_push [] b = refl
coefficients_push (x ∷ xs) b = ap (λ (s : List ℕ). bits_of x ++ s) (coefficients_push xs b) ∙ sym (append_assoc (bits_of x) (coefficients xs) (bits_of b))

pub check_none : check_of [] ≡ 0
unfolding check_of coefficients shifted brought
check_none = refl

-- the check byte after one byte more
pub check_push : (xs : List ℕ) (b : ℕ) → b < 256 → check_of (xs ++ (b ∷ [])) ≡ shifted (bit_xor (check_of xs) b)
unfolding check_of
check_push xs b h =
    ap (λ (s : List ℕ). shifted (divided 0 s)) (coefficients_push xs b)
    ∙ ap shifted (divided-append 0 (coefficients xs) (bits_of b))
    ∙ ap shifted (byte-xor (divided 0 (coefficients xs)) b h)

pub check_more : (xs : List ℕ) (i : ℕ) → i < length xs → get_or xs i 0 < 256 → check_of (take (i + 1) xs) ≡ shifted (bit_xor (check_of (take i xs)) (get_or xs i 0))
check_more xs i h k = rw (take_more xs i 0 h) (check_push (take i xs) (get_or xs i 0) k)
