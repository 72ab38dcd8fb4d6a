-- Jobs: what a place says in a round, and how the round ends.
use Rattle.std.specs.Prelude.{ℕ, ◌+◌, ◌/◌, Bool, true, false, cond, ◌&&◌, ◌||◌, Some, None, Option, Ok, ◌==◌, nat_le}
use Rattle.field.specs.Delay.{Delay, delay_of, no_delay}
use Rattle.message.specs.declared.downstream.Access.TheVariants.{Deny, Allow}
use Rattle.message.specs.declared.downstream.Address.TheVariants.{One}
use Rattle.message.specs.declared.downstream.Allocation.{Allocation}
use Rattle.message.specs.declared.downstream.Downstream.{Downstream}
use Rattle.message.specs.declared.downstream.Downstream.TheVariants.{NoMessage, UpstreamOverhead, RangingTime, AssignPonId, DeactivatePonId, DisableSerialNumber, GrantAllocation}
use Rattle.report.specs.declared.offset.Offset.{Offset}
use Rattle.report.specs.declared.offset.Offset.TheVariants.{Early, Late}
use Rattle.report.specs.declared.record.Light.{Light}
use Rattle.report.specs.declared.record.Light.TheVariants.{Dark, Broken, Ploam, Data}
use Rattle.report.specs.declared.record.Record.{Record}
use Rattle.upstream.specs.Message.{upstream_of, Reading}
use Rattle.upstream.specs.declared.message.Upstream.TheVariants.{SerialNumberOnu}
use Rattle.rules.specs.Alarm.{up, distance}
use Rattle.rules.specs.Clamp.{clamped}
use Rattle.rules.specs.Row.{Serial, no_alarms, no_counts, working}
use Rattle.rules.specs.Schedule.{Place, turn}
use Rattle.rules.specs.declared.job.Job.{Job}
use Rattle.rules.specs.declared.job.Job.TheVariants.{BringUp, Tell, Stop, Hold, Free}
use Rattle.rules.specs.declared.row.Phase.{Phase}
use Rattle.rules.specs.declared.row.Phase.TheVariants.{Empty, Held, Waiting, InService}
use Rattle.rules.specs.declared.row.Row.{Row}
use Rattle.rules.specs.declared.settings.Settings.{Settings}

-- while these run, the last slot of the place's window is granted
abbrev pub ranges : Job → Bool
ranges BringUp = true
ranges Tell = true
ranges Stop = false
ranges Hold = false
ranges Free = false

-- a code that is to be answered
abbrev pub given : ℕ → Allocation
given n = record { code = clamped 252 n; active = true }

-- Messages. A number that is no delay is not told.
abbrev pub delay_told : Place → Option Delay → Downstream
delay_told p None = NoMessage
delay_told p (Some d) = RangingTime p d

abbrev pub measured_told : Place → Option ℕ → Downstream
measured_told p None = NoMessage
measured_told p (Some n) = delay_told p (delay_of n)

-- a job's messages by their number from 0, and nothing after the last
abbrev pub job_message : Settings → Place → Row → Job → ℕ → Downstream
job_message s p r BringUp k =
    cond (k == 0) (UpstreamOverhead s.guard s.pattern no_delay)
    (cond (k == 1) (AssignPonId p r.serial)
    (cond (k == 2) (GrantAllocation p (given p.value) (given (64 + p.value))) NoMessage))
job_message s p r Tell k = cond (k == 0) (measured_told p r.delay) NoMessage
job_message s p r Stop k = cond (k == 0) (DeactivatePonId (One p)) NoMessage
job_message s p r Hold k = cond (k == 0) (DisableSerialNumber (Deny r.serial)) NoMessage
job_message s p r Free k = cond (k == 0) (DisableSerialNumber (Allow r.serial)) NoMessage

abbrev pub running_message : Settings → Place → Row → Option Job → ℕ → Downstream
running_message s p r None k = NoMessage
running_message s p r (Some j) k = job_message s p r j k

-- what place p says in a frame: each of its job's messages in three turns
abbrev pub says : Settings → (F : ℕ) → Place → Row → Downstream
says s F p r = running_message s p r r.running (turn F p.value / 3)

-- Rounds: a round starts with the next job
abbrev pub begun : Row → Row
begun r = working r.next None r

-- the message is Serial_number_ONU with this number
abbrev pub names : Serial → Reading → Bool
names n (Ok (SerialNumberOnu source serial)) = serial.value == n.value
names n _ = false

abbrev pub is_ploam : Light → Bool
is_ploam Dark = false
is_ploam Broken = false
is_ploam Ploam = true
is_ploam Data = false

abbrev pub is_dark : Light → Bool
is_dark Dark = true
is_dark Broken = false
is_dark Ploam = false
is_dark Data = false

-- a PLOAM cell with the entered number
abbrev pub own_cell : Record → Row → Bool
own_cell x r = is_ploam x.light && names r.serial (upstream_of x.message.bytes)

-- on the target, or up to 32,000 bits before it: so much delay is wanted
abbrev pub wanted : Offset → Option ℕ
wanted (Early n) = cond (nat_le n 32000) (Some n) None
wanted (Late n) = cond (n == 0) (Some 0) None

-- the delay that a record of bring-up measures
abbrev pub measured : Record → Row → Option ℕ
measured x r = cond (own_cell x r) (wanted x.offset) None

-- tell succeeds on a PLOAM cell at most a quarter of the guard off
abbrev pub confirmed : (guard : ℕ) → Record → Bool
confirmed guard x = is_ploam x.light && nat_le (distance x.offset) (guard / 4)

-- a failure with light counts, and the second raises the alarm
abbrev pub failed_lit : Bool → Row → Row
failed_lit dark r =
    cond dark (working None (Some Stop) r)
    (record r {
      running = None;
      next = Some Stop;
      alarms = record r.alarms { suf = r.alarms.suf || nat_le 1 r.failures };
      failures = up 18446744073709551615 r.failures;
    })

abbrev pub failed : Record → Row → Row
failed x r = failed_lit (is_dark x.light) r

-- what was measured is told in the next round
abbrev pub ranged : ℕ → Row → Row
ranged d r = record r { running = None; next = Some Tell; delay = Some d }

-- a place that waits is in service; another stays what it is
abbrev pub lit : Phase → Phase
lit Empty = Empty
lit Held = Held
lit Waiting = InService
lit InService = InService

-- in service from the next frame on
abbrev pub served : (now : ℕ) → Row → Row
served now r =
    record r {
      phase = lit r.phase;
      running = None;
      next = None;
      alarms = no_alarms;
      cause = None;
      counts = no_counts;
      failures = 0;
      since = now;
    }

abbrev pub by_measure : Option ℕ → Record → Row → Row
by_measure None x r = failed x r
by_measure (Some d) x r = ranged d r

-- settling the last slot of the window ends the running job; now is the head's frame number
abbrev pub job_ends : Option Job → (guard now : ℕ) → Record → Row → Row
job_ends None guard now x r = r
job_ends (Some BringUp) guard now x r = by_measure (measured x r) x r
job_ends (Some Tell) guard now x r = cond (confirmed guard x) (served now r) (failed x r)
job_ends (Some Stop) guard now x r = working None (Some BringUp) r
job_ends (Some Hold) guard now x r = working None r.next r
job_ends (Some Free) guard now x r = working None (Some BringUp) r
