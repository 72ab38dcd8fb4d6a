-- The table of 64 records: what a round's start, a frame and a report make of it.
use Rattle.std.specs.Prelude.{ℕ, zero, suc, ◌+◌, ◌*◌, Bool, List, [], ◌∷◌, Some, None, Option, get_or, slice_set}
use Rattle.std.specs.List.{between, list_any}
use Rattle.field.specs.Grant.{code_of}
use Rattle.field.specs.declared.grant.Grant.{Grant}
use Rattle.field.specs.declared.grant.Grant.TheVariants.{Unassigned}
use Rattle.message.specs.declared.downstream.Downstream.{Downstream}
use Rattle.report.specs.Record.{record_of}
use Rattle.report.specs.declared.record.Record.{Record}
use Rattle.rules.specs.Grant.{slot_grant}
use Rattle.rules.specs.Job.{begun, says}
use Rattle.rules.specs.Row.{Serial, blank, bears}
use Rattle.rules.specs.Schedule.{Place, owner, message_place, starting}
use Rattle.rules.specs.Settle.{row_after}
use Rattle.rules.specs.declared.row.Row.{Row}
use Rattle.rules.specs.declared.settings.Settings.{Settings}

-- the record of a place
abbrev pub row_at : List Row → Place → Row
row_at rows p = get_or rows p.value blank

-- one place's record changed, the others kept
abbrev pub changed : Place → (Row → Row) → List Row → List Row
changed p f rows = slice_set rows p.value (f (row_at rows p))

-- nothing happens where there is no place
abbrev pub changed_if : Option Place → (Row → Row) → List Row → List Row
changed_if None f rows = rows
changed_if (Some p) f rows = changed p f rows

-- the round that starts with frame F, if one does
abbrev pub begun_rows : (F : ℕ) → List Row → List Row
begun_rows F rows = changed_if (starting F) begun rows

-- what X of frame F grants, to nobody if it falls to nobody
abbrev pub place_grant : (F X : ℕ) → List Row → Option Place → Grant
place_grant F X rows None = Unassigned
place_grant F X rows (Some p) = slot_grant F X p (row_at rows p)

abbrev pub grant_in : Settings → List Row → (F X : ℕ) → Grant
grant_in s rows F X = place_grant F X rows (owner s F X)

-- the codes of n slots from X on
unfoldable pub codes_from : Settings → List Row → (F X n : ℕ) → List ℕ
codes_from s rows F X zero = []
codes_from s rows F X (suc n) = code_of (grant_in s rows F X) ∷ codes_from s rows F (suc X) n

-- the message of cell j
abbrev pub message_in : Settings → List Row → (F j : ℕ) → Downstream
message_in s rows F j = says s F (message_place F j) (row_at rows (message_place F j))

-- some filled place has this serial number
abbrev pub borne : Serial → List Row → Bool
borne n rows = list_any (bears n) rows

-- the record of X of frame F; now is the number of the frame that is sent next
abbrev pub settled_one : Settings → (now F X : ℕ) → Record → List Row → List Row
settled_one s now F X x rows = changed_if (owner s F X) (row_after s.guard.value now F X x) rows

-- the records of the slots from X on, in order
unfoldable pub settled_rows : Settings → (now F X : ℕ) → List Record → List Row → List Row
settled_rows s now F X [] rows = rows
settled_rows s now F X (x ∷ xs) rows = settled_rows s now F (suc X) xs (settled_one s now F X x rows)

-- n records of 18 bytes each, from the k-th on
unfoldable pub records_from : List ℕ → (k n : ℕ) → List Record
records_from b k zero = []
records_from b k (suc n) = record_of (between (18 * k) (18 * k + 18) b) ∷ records_from b (suc k) n
