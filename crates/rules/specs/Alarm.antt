-- Counts over the records of an ONU in service, and the alarms that end service.
use Rattle.std.specs.Prelude.{ℕ, ◌+◌, ◌/◌, Bool, true, false, cond, ◌&&◌, Some, None, Option, nat_le, nat_lt}
use Rattle.report.specs.declared.offset.Offset.{Offset}
use Rattle.report.specs.declared.offset.Offset.TheVariants.{Early, Late}
use Rattle.report.specs.declared.record.Light.{Light}
use Rattle.report.specs.declared.record.Light.TheVariants.{Dark, Broken, Ploam, Data}
use Rattle.report.specs.declared.record.Record.{Record}
use Rattle.rules.specs.declared.alarm.Alarms.{Alarms}
use Rattle.rules.specs.declared.alarm.Cause.{Cause}
use Rattle.rules.specs.declared.alarm.Cause.TheVariants.{Los, Lcd, Oaml, Cpe}
use Rattle.rules.specs.declared.alarm.Counts.{Counts}
use Rattle.rules.specs.declared.job.Job.TheVariants.{Stop}
use Rattle.rules.specs.declared.row.Phase.TheVariants.{Waiting}
use Rattle.rules.specs.declared.row.Row.{Row}

-- one more, up to a number at which counting stops
abbrev pub up : (most n : ℕ) → ℕ
up most n = cond (nat_lt n most) (n + 1) most

-- bits from the target, either way
abbrev pub distance : Offset → ℕ
distance (Early n) = n
distance (Late n) = n

-- in succession: another kind of record begins anew
abbrev pub dark_after : Light → ℕ → ℕ
dark_after Dark n = up 8 n
dark_after Broken n = 0
dark_after Ploam n = 0
dark_after Data n = 0

abbrev pub broken_after : Light → ℕ → ℕ
broken_after Dark n = 0
broken_after Broken n = up 8 n
broken_after Ploam n = 0
broken_after Data n = 0

-- PLOAM grants that brought no PLOAM cell
abbrev pub missed_after : Light → ℕ → ℕ
missed_after Dark n = up 3 n
missed_after Broken n = up 3 n
missed_after Ploam n = 0
missed_after Data n = up 3 n

abbrev pub counts_after : (ploam : Bool) → Light → Counts → Counts
counts_after ploam l c =
    record { dark = dark_after l c.dark; broken = broken_after l c.broken; missed = cond ploam (missed_after l c.missed) c.missed }

-- a cell came
abbrev pub is_cell : Light → Bool
is_cell Dark = false
is_cell Broken = false
is_cell Ploam = true
is_cell Data = true

-- a cell came further from the target than half a guard
abbrev pub off_phase : (guard : ℕ) → Record → Bool
off_phase guard x = is_cell x.light && nat_lt (guard / 2) (distance x.offset)

-- eight dark, eight broken, three missed, or one off its phase; the alarm of a failed start-up is another matter
abbrev pub alarms_reached : (guard : ℕ) → Record → Counts → Bool → Alarms
alarms_reached guard x c suf =
    record { los = nat_le 8 c.dark; lcd = nat_le 8 c.broken; oaml = nat_le 3 c.missed; cpe = off_phase guard x; suf = suf }

-- the first of those that end service
abbrev pub cause_of : Alarms → Option Cause
cause_of a = cond a.los (Some Los) (cond a.lcd (Some Lcd) (cond a.oaml (Some Oaml) (cond a.cpe (Some Cpe) None)))

-- an alarm ends service, and the ONU is told to stop in the next round
abbrev pub by_cause : Option Cause → Alarms → Row → Row
by_cause None a r = r
by_cause (Some c) a r = record r { phase = Waiting; next = Some Stop; alarms = a; cause = Some c }

abbrev pub with_counts : Counts → Row → Row
with_counts c r = record r { counts = c }

abbrev pub alarmed : Alarms → Row → Row
alarmed a r = by_cause (cause_of a) a r

-- a record that counts; ploam says that its slot granted a PLOAM cell
abbrev pub counted : (guard : ℕ) → (ploam : Bool) → Record → Row → Row
counted guard ploam x r =
    alarmed (alarms_reached guard x (counts_after ploam x.light r.counts) r.alarms.suf) (with_counts (counts_after ploam x.light r.counts) r)
