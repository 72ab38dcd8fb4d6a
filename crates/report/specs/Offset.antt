-- Offsets from the target, in two's complement of 32 bits.
use Rattle.std.specs.Prelude.{ℕ, zero, suc, ◌-◌, ◌%◌, cond, List, ◌++◌, Some, None, Option, codes, decimal, nat_le, nat_lt}
use Rattle.report.specs.declared.offset.Offset.{Offset}
use Rattle.report.specs.declared.offset.Offset.TheVariants.{Early, Late}

-- below 2^31 it is late or on the target, from there on early
abbrev pub offset_of : ℕ → Offset
offset_of n = cond (nat_lt n 2147483648) (Late n) (Early (4294967296 - n))

abbrev pub offset_bits : Offset → ℕ
offset_bits (Early n) = (4294967296 - n) % 4294967296
offset_bits (Late n) = n

-- from the time that is due to the start, if 32 bits hold it
abbrev pub offset_between : (start due : ℕ) → Option Offset
offset_between start due =
    cond (nat_le due start)
    (cond (nat_lt (start - due) 2147483648) (Some (Late (start - due))) None)
    (cond (nat_le (due - start) 2147483648) (Some (Early (due - start))) None)

-- an offset as it is shown: 0 on the target, below 0 before it
abbrev pub offset_words : Offset → List ℕ
offset_words (Early zero) = codes "0"
offset_words (Early (suc n)) = codes "-" ++ decimal (suc n)
offset_words (Late n) = decimal n
