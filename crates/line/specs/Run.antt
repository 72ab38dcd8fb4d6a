-- A succession of calls on a new head, with a plant that hears each frame that was sent.
use Rattle.std.specs.Prelude.{◌≡◌, ◌≢◌, ℕ, ◌+◌, ◌*◌, ◌<◌, ◌⊎◌, List, [], ◌∷◌, ◌++◌, length, Some, None, Ok, All, AllPairs, Contains}
use Rattle.std.specs.List.{between}
use Rattle.head.specs.Steps.{fresh, send_answer, sent_bytes, settle_answer}
use Rattle.head.specs.declared.docket.Docket.{Docket}
use Rattle.head.specs.declared.head.Head.{Head}
use Rattle.onu.specs.declared.answer.Kind.{Kind}
use Rattle.onu.specs.declared.answer.Kind.TheVariants.{Ploam, Data}
use Rattle.onu.specs.declared.state.Onu.{Onu}
use Rattle.onu.specs.declared.state.State.TheVariants.{O1}
use Rattle.plant.specs.Lawful.{Does, Drifts}
use Rattle.plant.specs.declared.burst.Burst.{Burst}
use Rattle.report.specs.Offset.{offset_between}
use Rattle.report.specs.Record.{record_of}
use Rattle.report.specs.declared.record.Light.{Light}
use Rattle.report.specs.declared.record.Light.TheVariants.{Dark, Broken, Ploam as PloamCell, Data as DataCell}
use Rattle.report.specs.declared.record.Record.{Record}
use Rattle.line.specs.Calls.{Call, send, settle, next}
use Rattle.line.specs.Payload.{payload}

-- A cell that was heard: the head's guard then, the plant's ONUs afterwards, and the bursts that were appended.
pub record HeardCell : Type 0 where
  pub guard : ℕ
  pub onus : List Onu
  pub bursts : List Burst

-- every burst that the cells brought
abbrev pub all_bursts : List HeardCell → List Burst
all_bursts [] = []
all_bursts (c ∷ cells) = c.bursts ++ all_bursts cells

-- Premise: an ONU begins in O1, without PON_ID and codes.
pub record New (o : Onu) : Type 0 where
  pub first : o.state ≡ O1
  pub nobody : o.id ≡ None
  pub mute : (o.grant ≡ None) × (o.ploam ≡ None)

-- Premise: no two ONUs have one serial number.
abbrev pub Distinct : List Onu → Type 0
Distinct onus = AllPairs (λ o o'. o.serial.value ≢ o'.serial.value) onus

-- as a report names the kind of a burst
abbrev pub light_for : Kind → Light
light_for Ploam = PloamCell
light_for Data = DataCell

-- the record is that of a burst in slot n: its own kind, its own offset from the target, 35,392 bits after the slot, and its own message
pub record Brought (n : ℕ) (x : Record) (b : Burst) : Type 0 where
  pub slot : b.slot ≡ n
  pub kind : x.light ≡ light_for b.kind
  pub offset : offset_between b.start (448 * n + 35392) ≡ Some x.offset
  pub message : x.message ≡ b.message

-- the record of slot n has no light, a broken cell, or what a burst heard in that slot brought
abbrev pub TrueRecord : List Burst → ℕ → Record → Type 0
TrueRecord bursts n x = (x.light ≡ Dark) ⊎ ((x.light ≡ Broken) ⊎ ((b : Burst) × Contains bursts b × Brought n x b))

-- Premise: the 53 records of a report of frame F are true of the bursts heard.
abbrev pub TrueReport : List Burst → (F : ℕ) → List ℕ → Type 0
TrueReport bursts F report = (k : ℕ) → k < 53 → TrueRecord bursts (53 * F + k) (record_of (between (18 * k) (18 * k + 18) report))

-- a settle that is accepted has a true report; other calls are free
abbrev pub Honest : List HeardCell → Call → Head → Type 0
Honest cells (settle docket report) h =
    settle_answer h docket (length report) ≡ Ok tt → TrueReport (all_bursts cells) docket report
Honest cells c h = Unit {0}

-- a send that is accepted is no call by itself: the plant hears what it wrote
abbrev pub NoFrame : Call → Head → Type 0
NoFrame (send buffer) h = (d : Docket) → send_answer h (length buffer) ≢ Ok d
NoFrame c h = Unit {0}

-- What the calls so far have led to, from a new head and a plant: the head, the plant, and the cells heard, the newest first.
-- A call of `hear` that is refused changes nothing, so it leaves no trace here.
pub data Run {P : Type 0} (means : P → List Onu) (does : Does P) : Head → P → List HeardCell → Type 0 where
  -- a new head and a plant of new ONUs
  begins : (q : P) → All New (means q) → Distinct (means q) → Run means does fresh q []
  -- between hears each ONU may move by itself
  drifts : {h : Head} {q : P} {cells : List HeardCell} (q' : P) → Run means does h q cells → Drifts (means q) (means q')
      → Run means does h q' cells
  -- any call, refused or not, but an accepted send
  calls : {h : Head} {q : P} {cells : List HeardCell} (c : Call) → Run means does h q cells → NoFrame c h → Honest cells c h
      → Run means does (next c h) q cells
  -- an accepted send: both cells are heard in order, as they were written, before the next call
  sends : {h : Head} {q : P} {cells : List HeardCell} (buffer : List ℕ) (d : Docket) (q₁ q₂ q₃ : P) (b₁ b₂ : List Burst)
      → Run means does h q cells
      → send_answer h (length buffer) ≡ Ok d
      → does q (payload 0 (sent_bytes h)) (53 * h.frame) q₁ b₁
      → Drifts (means q₁) (means q₂)
      → does q₂ (payload 1 (sent_bytes h)) (53 * h.frame + 27) q₃ b₂
      → Run means does (next (send buffer) h) q₃ (
      record { guard = h.settings.guard.value; onus = means q₃; bursts = b₂ }
      ∷ record { guard = h.settings.guard.value; onus = means q₁; bursts = b₁ }
      ∷ cells)
