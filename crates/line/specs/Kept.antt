-- What every head keeps, whatever was called on it since it was new.
use Rattle.std.specs.Prelude.{◌≡◌, ◌≢◌, ℕ, ◌≤◌, ◌^◌, true, false, nat_le, List, [], ◌∷◌, length, Some, None, Option}
use Rattle.head.specs.Steps.{fresh}
use Rattle.head.specs.Table.{row_at}
use Rattle.head.specs.declared.head.Head.{Head}
use Rattle.rules.specs.Alarm.{cause_of}
use Rattle.rules.specs.Row.{blank, no_alarms, filled}
use Rattle.rules.specs.Schedule.{Place, starting}
use Rattle.rules.specs.Settings.{guard_fits, calendar_fits}
use Rattle.rules.specs.declared.alarm.Alarms.{Alarms}
use Rattle.rules.specs.declared.alarm.Cause.{Cause}
use Rattle.rules.specs.declared.alarm.Counts.{Counts}
use Rattle.rules.specs.declared.job.Job.{Job}
use Rattle.rules.specs.declared.job.Job.TheVariants.{Tell, Hold}
use Rattle.rules.specs.declared.row.Phase.{Phase}
use Rattle.rules.specs.declared.row.Phase.TheVariants.{Empty, Held, Waiting, InService}
use Rattle.rules.specs.declared.row.Row.{Row}
use Rattle.line.specs.Calls.{Call, next}

-- the head after these calls, refused ones among them
abbrev pub after : List Call → Head → Head
after [] h = h
after (c ∷ cs) h = after cs (next c h)

-- at most one job runs or is next, and it is as P says
abbrev pub AtMostOne : (P : Job → Type 0) → (running next : Option Job) → Type 0
AtMostOne P None None = Unit {0}
AtMostOne P None (Some k) = P k
AtMostOne P (Some j) None = P j
AtMostOne P (Some j) (Some k) = ⊥

-- just one does
abbrev pub JustOne : (P : Job → Type 0) → (running next : Option Job) → Type 0
JustOne P None None = ⊥
JustOne P None (Some k) = P k
JustOne P (Some j) None = P j
JustOne P (Some j) (Some k) = ⊥

-- A held place has no job but hold, a waiting one has just one of the others, and no other place has any.
abbrev pub Jobs : Phase → (running next : Option Job) → Type 0
Jobs Empty j k = (j ≡ None) × (k ≡ None)
Jobs Held j k = AtMostOne (λ i. i ≡ Hold) j k
Jobs Waiting j k = JustOne (λ i. i ≢ Hold) j k
Jobs InService j k = (j ≡ None) × (k ≡ None)

-- in service: the delay was measured, no alarm is on, no failure is counted, and no count has reached its alarm
pub record Serves (delay : Option ℕ) (a : Alarms) (failures : ℕ) (c : Counts) : Type 0 where
  pub measured : delay ≢ None
  pub calm : a ≡ no_alarms
  pub again : failures ≡ 0
  pub dark : c.dark ≤ 7
  pub broken : c.broken ≤ 7
  pub missed : c.missed ≤ 2

-- The cause is the first alarm on that ends service, SUF is on from the second failure on, and of LOS, LCD and CPE one at most is.
pub record Watched (a : Alarms) (cause : Option Cause) (failures : ℕ) (c : Counts) : Type 0 where
  pub first : cause ≡ cause_of a
  pub suf : a.suf ≡ nat_le 2 failures
  pub los : a.los ≡ true → (a.lcd ≡ false) × (a.cpe ≡ false)
  pub lcd : a.lcd ≡ true → a.cpe ≡ false
  pub dark : c.dark ≤ 8
  pub broken : c.broken ≤ 8
  pub missed : c.missed ≤ 3

-- the record of one place; now is the number of the next frame
pub record KeptRow (now : ℕ) (r : Row) : Type 0 where
  pub delay : (d : ℕ) → r.delay ≡ Some d → d ≤ 32000
  pub empty : r.phase ≡ Empty → r ≡ blank
  pub jobs : Jobs r.phase r.running r.next
  -- what is told was measured
  pub telling : r.running ≡ Some Tell → r.delay ≢ None
  pub tells : r.next ≡ Some Tell → r.delay ≢ None
  pub service : r.phase ≡ InService → Serves r.delay r.alarms r.failures r.counts
  pub watched : Watched r.alarms r.cause r.failures r.counts
  pub since : r.since ≤ now

pub record KeptHead (h : Head) : Type 0 where
  pub full : length h.table.rows ≡ 64
  pub rows : (p : Place) → KeptRow h.frame (row_at h.table.rows p)
  -- no two places have one serial number
  pub alone : (p q : Place) → filled (row_at h.table.rows p) ≡ true → filled (row_at h.table.rows q) ≡ true
      → (row_at h.table.rows p).serial.value ≡ (row_at h.table.rows q).serial.value → p ≡ q
  -- where the next frame starts a round, the job of the last one has ended
  pub rounds : (p : Place) → starting h.frame ≡ Some p → (row_at h.table.rows p).running ≡ None
  pub few : h.out ≤ 4
  pub sent : h.out ≤ h.frame
  pub last : h.frame ≤ 2 ^ 48
  pub guard : guard_fits h.settings.guard.value ≡ true
  pub calendar : calendar_fits h.settings.calendar ≡ true
  -- before an entry or a frame
  pub new : h.started ≡ false → (h.out ≡ 0) × ((p : Place) → row_at h.table.rows p ≡ blank)

-- from one head to a later one: settings are set for good once it has started, and so is who was entered
pub record Stays (h h' : Head) : Type 0 where
  pub started : h.started ≡ true → (h'.started ≡ true) × (h'.settings ≡ h.settings) × (h.frame ≤ h'.frame)
  pub places : (p : Place) → filled (row_at h.table.rows p) ≡ true
      → (filled (row_at h'.table.rows p) ≡ true) × ((row_at h'.table.rows p).serial.value ≡ (row_at h.table.rows p).serial.value)

-- for any calls on a new head, with any arguments, and any calls after these
pub record HeadsStand : Type 0 where
  pub keeps : (cs : List Call) → KeptHead (after cs fresh)
  pub stays : (cs ds : List Call) → Stays (after cs fresh) (after ds (after cs fresh))
