-- A number within its bounds is made into a value, one outside is not, and a value's number gives that value again.
use Rattle.std.proofs.Common.{◌≡◌, ℕ, ◌+◌, ◌<◌, ◌≤◌, min, Some, None, Option, refl, ap, ◌∙◌, subst, arith}
use native.Mathlib.Bridge.{le_prop}
use native.Mathlib.Decide.{dec_le}
use native.Mathlib.Nat.{min-le_right}
use Rattle.field.specs.declared.bounded.Bounded.{Bounded}
use Rattle.field.specs.declared.number.Number.{Number}
use Rattle.field.specs.declared.minislot.Minislot.{Minislot}
use Rattle.field.specs.Bounded.{between, within}
use Rattle.field.specs.Number.{below, up_to, capped}
use Rattle.field.specs.Minislot.{part, minislot_of}

abbrev bounded : {low high : ℕ} (n : ℕ) → low ≤ n → n ≤ high → Option (Bounded low high)
bounded n h k = Some (record { value = n; low = h; high = k })

between_in : {low high n : ℕ} (d : Dec (low ≤ n)) (e : Dec (n ≤ high)) (h : low ≤ n) (k : n ≤ high) → between d e ≡ bounded n h k
between_in {n = n} (yes a) (yes b) h k = ap (λ x. bounded n x b) (le_prop a h) ∙ ap (λ x. bounded n h x) (le_prop b k)
between_in (yes a) (no b) h k = absurd (b k)
between_in (no a) e h k = absurd (a h)

between-low : {low high n : ℕ} (d : Dec (low ≤ n)) (e : Dec (n ≤ high)) → n < low → between {high = high} d e ≡ None
between-low (yes a) e h = absurd (omega arith)
between-low (no a) e h = refl

between-high : {low high n : ℕ} (d : Dec (low ≤ n)) (e : Dec (n ≤ high)) → high < n → between {low = low} d e ≡ None
between-high (yes a) (yes b) h = absurd (omega arith)
between-high (yes a) (no b) h = refl
between-high (no a) e h = refl

pub within_in : (low high n : ℕ) (h : low ≤ n) (k : n ≤ high) → within low high n ≡ Some (record { value = n; low = h; high = k })
unfolding within
within_in low high n h k = between_in (dec_le low n) (dec_le n high) h k

pub within_low : (low high n : ℕ) → n < low → within low high n ≡ None
unfolding within
within_low low high n h = between-low (dec_le low n) (dec_le n high) h

pub within-high : (low high n : ℕ) → high < n → within low high n ≡ None
unfolding within
within-high low high n h = between-high (dec_le low n) (dec_le n high) h

pub within-value : {low high : ℕ} (x : Bounded low high) → within low high x.value ≡ Some x
within-value {low} {high} x = within_in low high x.value x.low x.high

below_in : {high n : ℕ} (e : Dec (n ≤ high)) (k : n ≤ high) → below e ≡ Some (record { value = n; high = k })
below_in {high} {n} (yes b) k = ap (λ x. let v : Number high = record { value = n; high = x } in Some v) (le_prop b k)
below_in (no b) k = absurd (b k)

below_out : {high n : ℕ} (e : Dec (n ≤ high)) → high < n → below e ≡ None
below_out (yes b) h = absurd (omega arith)
below_out (no b) h = refl

pub up_to_in : (high n : ℕ) (k : n ≤ high) → up_to high n ≡ Some (record { value = n; high = k })
unfolding up_to
up_to_in high n k = below_in (dec_le n high) k

pub up_to_out : (high n : ℕ) → high < n → up_to high n ≡ None
unfolding up_to
up_to_out high n h = below_out (dec_le n high) h

pub up_to-value : {high : ℕ} (x : Number high) → up_to high x.value ≡ Some x
up_to-value {high} x = up_to_in high x.value x.high

abbrev pub number : (high n : ℕ) → n ≤ high → Number high
number high n h = record { value = n; high = h }

pub number_same : (high n m : ℕ) → n ≡ m → (h : n ≤ high) (k : m ≤ high) → number high n h ≡ number high m k
number_same high n m e h = subst (λ (x : ℕ). (k : x ≤ high) → number high n h ≡ number high x k) e (λ k. ap (number high n) (le_prop h k))

abbrev minislot : (offset length : ℕ) → 1 ≤ length → offset + length ≤ 53 → Option Minislot
minislot offset length h k = Some (record { offset = offset; length = length; some = h; inside = k })

pub capped_is : {high : ℕ} (x : Number high) (n : ℕ) → n ≡ x.value → capped high n ≡ x
unfolding capped
capped_is {high} x n e =
    let k : x.value ≤ high = x.high in
    let f : min n high ≡ x.value = omega arith in
    number_same high (min n high) x.value f (min-le_right n high) k

part_in : (offset length : ℕ) (d : Dec (1 ≤ length)) (e : Dec (offset + length ≤ 53)) (h : 1 ≤ length) (k : offset + length ≤ 53) → part offset length d e ≡ minislot offset length h k
part_in offset length (yes a) (yes b) h k = ap (λ x. minislot offset length x b) (le_prop a h) ∙ ap (λ x. minislot offset length h x) (le_prop b k)
part_in offset length (yes a) (no b) h k = absurd (b k)
part_in offset length (no a) e h k = absurd (a h)

part_empty : (offset length : ℕ) (d : Dec (1 ≤ length)) (e : Dec (offset + length ≤ 53)) → length < 1 → part offset length d e ≡ None
part_empty offset length (yes a) e h = absurd (omega arith)
part_empty offset length (no a) e h = refl

part_long : (offset length : ℕ) (d : Dec (1 ≤ length)) (e : Dec (offset + length ≤ 53)) → 53 < offset + length → part offset length d e ≡ None
part_long offset length (yes a) (yes b) h = absurd (omega arith)
part_long offset length (yes a) (no b) h = refl
part_long offset length (no a) e h = refl

pub minislot_in : (offset length : ℕ) (h : 1 ≤ length) (k : offset + length ≤ 53) → minislot_of offset length ≡ Some (record { offset = offset; length = length; some = h; inside = k })
unfolding minislot_of
minislot_in offset length h k = part_in offset length (dec_le 1 length) (dec_le (offset + length) 53) h k

pub minislot_empty : (offset length : ℕ) → length < 1 → minislot_of offset length ≡ None
unfolding minislot_of
minislot_empty offset length h = part_empty offset length (dec_le 1 length) (dec_le (offset + length) 53) h

pub minislot_long : (offset length : ℕ) → 53 < offset + length → minislot_of offset length ≡ None
unfolding minislot_of
minislot_long offset length h = part_long offset length (dec_le 1 length) (dec_le (offset + length) 53) h

pub minislot_parts : (m : Minislot) → minislot_of m.offset m.length ≡ Some m
minislot_parts m = minislot_in m.offset m.length m.some m.inside

-- A value has the number that it was made from.
between_is : {low high n : ℕ} (d : Dec (low ≤ n)) (e : Dec (n ≤ high)) (x : Bounded low high) → between d e ≡ Some x → x.value ≡ n
between_is (yes a) (yes b) x h = cc
between_is (yes a) (no b) x h = cc
between_is (no a) e x h = cc

pub within_is : (low high n : ℕ) (x : Bounded low high) → within low high n ≡ Some x → x.value ≡ n
unfolding within
within_is low high n x h = between_is (dec_le low n) (dec_le n high) x h

below_is : {high n : ℕ} (e : Dec (n ≤ high)) (x : Number high) → below e ≡ Some x → x.value ≡ n
below_is (yes b) x h = cc
below_is (no b) x h = cc

pub up_to_is : (high n : ℕ) (x : Number high) → up_to high n ≡ Some x → x.value ≡ n
unfolding up_to
up_to_is high n x h = below_is (dec_le n high) x h

part_is : (offset length : ℕ) (d : Dec (1 ≤ length)) (e : Dec (offset + length ≤ 53)) (m : Minislot) → part offset length d e ≡ Some m → (m.offset ≡ offset) × (m.length ≡ length)
part_is offset length (yes a) (yes b) m h = (cc, cc)
part_is offset length (yes a) (no b) m h = (cc, cc)
part_is offset length (no a) e m h = (cc, cc)

pub minislot_is : (offset length : ℕ) (m : Minislot) → minislot_of offset length ≡ Some m → (m.offset ≡ offset) × (m.length ≡ length)
unfolding minislot_of
minislot_is offset length m h = part_is offset length (dec_le 1 length) (dec_le (offset + length) 53) m h

pub capped-value : (high n : ℕ) → n ≤ high → (capped high n).value ≡ n
unfolding capped
capped-value high n h = omega arith
