-- What a slot grants to the place that it falls to.
use Rattle.std.specs.Prelude.{ℕ, ◌+◌, Bool, false, cond, ◌&&◌, ◌||◌, Some, None, Option, ◌==◌}
use Rattle.field.specs.declared.grant.Grant.{Grant}
use Rattle.field.specs.declared.grant.Grant.TheVariants.{Code, Unassigned}
use Rattle.rules.specs.Clamp.{clamped}
use Rattle.rules.specs.Job.{ranges}
use Rattle.rules.specs.Row.{serving}
use Rattle.rules.specs.Schedule.{Place, window, last}
use Rattle.rules.specs.declared.job.Job.{Job}
use Rattle.rules.specs.declared.row.Row.{Row}

abbrev pub job_ranges : Option Job → Bool
job_ranges None = false
job_ranges (Some j) = ranges j

-- in a window only the last slot, while bring-up or tell runs; elsewhere while the ONU is in service
abbrev pub granted : (F X : ℕ) → Row → Bool
granted F X r = cond (window F X) (last F X && job_ranges r.running) (serving r)

-- the PLOAM code in a window and in a PLOAM turn, elsewhere the data code
abbrev pub code : (F X : ℕ) → Place → ℕ
code F X p = cond (window F X || X == 1) (64 + p.value) p.value

abbrev pub slot_grant : (F X : ℕ) → Place → Row → Grant
slot_grant F X p r = cond (granted F X r) (Code (clamped 252 (code F X p))) Unassigned
