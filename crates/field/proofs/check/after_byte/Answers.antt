-- The whole table is the list of what eight zeros make of 0 to 255: the checker computes that list and compares it once.
use Rattle.std.proofs.Common.{ℕ, ◌^◌, ◌<◌, arith, rules}
use lib.Bits.{bit_xor}
use Rattle.std.proofs.lemmas.Nat.{xor_lt}
use Rattle.std.proofs.lemmas.List.FromFn.{get_or-map-range_with_len}
use Rattle.field.specs.Check.{shifted, brought}
use Rattle.field.proofs.check.after_byte.Goals as goal

below : (a b : ℕ) → a < 2 ^ 8 → b < 2 ^ 8 → bit_xor a b < 256
below a b h k = xor_lt 8 a b h k

pub overflow_cast-result : goal.overflow_cast-result
overflow_cast-result c = search (rules, below)

pub bounds-check : goal.bounds-check
bounds-check c = search (rules, below)

pub returns : goal.returns
unfolding shifted brought
returns c =
    let k : ℕ = bit_xor c.args.check c.args.byte in
    let h : k < 256 = search (rules, below) in
    get_or-map-range_with_len shifted 0 256 k k 0 h (omega arith)
