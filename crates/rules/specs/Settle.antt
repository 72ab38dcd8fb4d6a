-- What one record of a report makes of the place that its slot falls to.
use Rattle.std.specs.Prelude.{ℕ, Bool, cond, ◌&&◌, ◌==◌, nat_le}
use Rattle.report.specs.declared.record.Record.{Record}
use Rattle.rules.specs.Alarm.{counted}
use Rattle.rules.specs.Job.{job_ends}
use Rattle.rules.specs.Row.{serving}
use Rattle.rules.specs.Schedule.{window, last}
use Rattle.rules.specs.declared.row.Row.{Row}

-- the record counts: its slot was granted while the ONU was in service, and it still is
abbrev pub counts : (F : ℕ) → Row → Bool
counts F r = serving r && nat_le r.since F

-- the record of X of frame F; now is the head's frame number
abbrev pub row_after : (guard now F X : ℕ) → Record → Row → Row
row_after guard now F X x r =
    cond (window F X) (cond (last F X) (job_ends r.running guard now x r) r) (cond (counts F r) (counted guard (X == 1) x r) r)
