-- Grants, slot by slot.
use Rattle.std.proofs.Common.{◌≡◌, ℕ, zero, suc, ◌+◌, List, ◌∷◌, map, refl, ap, ◌∙◌, arith}
use Rattle.std.specs.List.{range_with_len}
use Rattle.field.specs.Grant.{code_of}
use Rattle.rules.specs.declared.row.Row.{Row}
use Rattle.rules.specs.declared.settings.Settings.{Settings}
use Rattle.head.specs.Table.{grant_in, codes_from}

pub codes_by_range : (s : Settings) (rows : List Row) (F from n : ℕ) → codes_from s rows F (from + 1) n ≡ map (λ k. code_of (grant_in s rows F (k + 1))) (range_with_len from n)
unfolding codes_from
codes_by_range s rows F from zero = refl
codes_by_range s rows F from (suc n) =
    ap (λ codes. code_of (grant_in s rows F (from + 1)) ∷ codes)
    (ap (λ j. codes_from s rows F j n) (omega arith) ∙ codes_by_range s rows F (from + 1) n)
