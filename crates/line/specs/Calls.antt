-- The calls on a head: what each is handed, what it answers and what the head is then.
use Rattle.std.specs.Prelude.{ℕ, List, length, Option, Result}
use Rattle.field.specs.declared.octets.Octets.{Octets}
use Rattle.head.specs.Steps.{Answer, set_up_answer, set_up_head, enter_answer, enter_head, hold_answer, hold_head, release_answer, release_head, look_answer, send_answer, send_head, settle_answer, settle_head, handed_back}
use Rattle.head.specs.declared.docket.Docket.{Docket}
use Rattle.head.specs.declared.docket.Refused.{Refused}
use Rattle.head.specs.declared.head.Head.{Head}
use Rattle.head.specs.declared.head.look.View.{View}
use Rattle.head.specs.declared.refusal.Refusal.{Refusal}
use Rattle.rules.specs.Row.{Serial}

-- A send is handed a buffer, a settle a docket, by its frame, and a report; any numbers and any bytes.
pub data Call : Type 0 where
  set_up : (guard : ℕ) → (pattern : Octets 3) → (first : ℕ) → (calendar : List ℕ) → Call
  enter : (place : ℕ) → (serial : Serial) → Call
  hold : (place : ℕ) → Call
  release : (place : ℕ) → Call
  look : (place : ℕ) → Call
  send : (buffer : List ℕ) → Call
  settle : (docket : ℕ) → (report : List ℕ) → Call

-- an answer; a send's is a docket or a refusal, a refused settle hands its docket back
pub data Said : Type 0 where
  answered : Answer → Said
  seen : Result (Option View) Refusal → Said
  sent : Result Docket Refusal → Said
  settled : Result (Unit {0}) Refused → Said

abbrev pub said : Call → Head → Said
said (set_up guard pattern first calendar) h = answered (set_up_answer h guard first calendar)
said (enter place serial) h = answered (enter_answer h place serial)
said (hold place) h = answered (hold_answer h place)
said (release place) h = answered (release_answer h place)
said (look place) h = seen (look_answer h place)
said (send buffer) h = sent (send_answer h (length buffer))
said (settle docket report) h = settled (handed_back docket (settle_answer h docket (length report)))

abbrev pub next : Call → Head → Head
next (set_up guard pattern first calendar) h = set_up_head h guard pattern first calendar
next (enter place serial) h = enter_head h place serial
next (hold place) h = hold_head h place
next (release place) h = release_head h place
next (look place) h = h
next (send buffer) h = send_head h (length buffer)
next (settle docket report) h = settle_head h docket report
