-- The record of one place: what it is at first, and what the host's calls make of it.
use Rattle.std.specs.Prelude.{Bool, true, false, not, ◌&&◌, None, Some, Option, ◌==◌}
use Rattle.field.specs.Number.{nought}
use Rattle.field.specs.declared.number.Number.{Number}
use Rattle.rules.specs.declared.alarm.Alarms.{Alarms}
use Rattle.rules.specs.declared.alarm.Counts.{Counts}
use Rattle.rules.specs.declared.job.Job.{Job}
use Rattle.rules.specs.declared.job.Job.TheVariants.{BringUp, Hold, Free}
use Rattle.rules.specs.declared.row.Phase.{Phase}
use Rattle.rules.specs.declared.row.Phase.TheVariants.{Empty, Held, Waiting, InService}
use Rattle.rules.specs.declared.row.Row.{Row}

abbrev pub Serial : Type 0
Serial = Number 18446744073709551615

abbrev pub no_alarms : Alarms
no_alarms = record { los = false; lcd = false; oaml = false; cpe = false; suf = false }

abbrev pub no_counts : Counts
no_counts = record { dark = 0; broken = 0; missed = 0 }

-- a place to which nobody was entered
abbrev pub blank : Row
blank =
    record {
      serial = nought 18446744073709551615;
      phase = Empty;
      running = None;
      next = None;
      delay = None;
      alarms = no_alarms;
      cause = None;
      counts = no_counts;
      failures = 0;
      since = 0;
    }

-- just entered: bring-up comes next
abbrev pub entered : Serial → Row
entered serial = record blank { serial = serial; phase = Waiting; next = Some BringUp }

abbrev pub is_empty : Phase → Bool
is_empty Empty = true
is_empty Held = false
is_empty Waiting = false
is_empty InService = false

abbrev pub is_held : Phase → Bool
is_held Empty = false
is_held Held = true
is_held Waiting = false
is_held InService = false

abbrev pub in_service : Phase → Bool
in_service Empty = false
in_service Held = false
in_service Waiting = false
in_service InService = true

abbrev pub filled : Row → Bool
filled r = not (is_empty r.phase)

abbrev pub serving : Row → Bool
serving r = in_service r.phase

-- a filled place has this serial number
abbrev pub bears : Serial → Row → Bool
bears n r = filled r && n.value == r.serial.value

-- with these jobs, all else kept
abbrev pub working : (running next : Option Job) → Row → Row
working j k r = record r { running = j; next = k }

-- hold and release end service and the running job
abbrev pub held : Row → Row
held r = record r { phase = Held; running = None; next = Some Hold }

abbrev pub released : Row → Row
released r = record r { phase = Waiting; running = None; next = Some Free }
