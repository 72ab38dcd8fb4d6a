-- Reports, record by record.
use Rattle.std.proofs.Common.{◌≡◌, ℕ, suc, ◌+◌, ◌-◌, ◌*◌, ◌<◌, List, ap, ◌∙◌, arith}
use Rattle.std.specs.List.{between}
use Rattle.report.specs.Record.{record_of}
use Rattle.rules.specs.declared.row.Row.{Row}
use Rattle.rules.specs.declared.settings.Settings.{Settings}
use Rattle.head.specs.Table.{settled_one, settled_rows, records_from}

module _ (s : Settings) (now F : ℕ) (b : List ℕ) where
  -- the next record, and then those after it
  pub settled_next :
      (k : ℕ) (rows : List Row)
      → k < 53
      → settled_rows s now F (k + 1) (records_from b k (53 - k)) rows
      ≡ settled_rows s now F (k + 1 + 1) (records_from b (k + 1) (53 - (k + 1))) (settled_one s now F (k + 1) (record_of (between (18 * k) (18 * k + 18) b)) rows)
  unfolding settled_rows records_from
  settled_next k rows h =
      let after : List Row = settled_one s now F (k + 1) (record_of (between (18 * k) (18 * k + 18) b)) rows in
      let e : 53 - k ≡ suc (52 - k) = omega arith in
      let f : suc k ≡ k + 1 = omega arith in
      let g : suc (k + 1) ≡ k + 1 + 1 = omega arith in
      let m : 52 - k ≡ 53 - (k + 1) = omega arith in
      ap (λ j. settled_rows s now F (k + 1) (records_from b k j) rows) e
      ∙ (ap (λ j. settled_rows s now F (suc (k + 1)) (records_from b j (52 - k)) after) f
      ∙ (ap (λ j. settled_rows s now F j (records_from b (k + 1) (52 - k)) after) g
      ∙ ap (λ j. settled_rows s now F (k + 1 + 1) (records_from b (k + 1) j) after) m))

  -- no record is left
  pub settled_end : (X k n : ℕ) (rows : List Row) → n ≡ 0 → settled_rows s now F X (records_from b k n) rows ≡ rows
  unfolding settled_rows records_from
  settled_end X k n rows e = ap (λ j. settled_rows s now F X (records_from b k j) rows) e
