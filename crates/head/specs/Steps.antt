-- What each call on the head answers, and what the head then is.
use Rattle.std.specs.Prelude.{ℕ, ◌+◌, ◌-◌, ◌%◌, ◌^◌, Bool, true, false, cond, ◌&&◌, not, List, length, replicate, Some, None, Option, Ok, Err, Result, get_or, slice_set, ◌==◌, nat_lt}
use Rattle.field.specs.Delay.{Delay, delay_of}
use Rattle.field.specs.Octets.{grants_of}
use Rattle.field.specs.declared.bounded.Bounded.{Bounded}
use Rattle.field.specs.declared.octets.Octets.{Octets}
use Rattle.payload.specs.Frame.{frame_bytes}
use Rattle.payload.specs.declared.frame.Frame.{Frame}
use Rattle.rules.specs.Row.{Serial, blank, filled, is_held, entered, held, released}
use Rattle.rules.specs.Settings.{guard_fits, guard_of, guard4, calendar_fits, first_settings}
use Rattle.rules.specs.declared.row.Row.{Row}
use Rattle.head.specs.Table.{begun_rows, codes_from, message_in, borne, settled_rows, records_from}
use Rattle.head.specs.declared.docket.Docket.{Docket}
use Rattle.head.specs.declared.docket.Refused.{Refused}
use Rattle.head.specs.declared.head.Head.{Head}
use Rattle.head.specs.declared.head.look.View.{View}
use Rattle.head.specs.declared.refusal.Refusal.{Refusal}
use Rattle.head.specs.declared.refusal.Refusal.TheVariants as why

abbrev pub Answer : Type 0
Answer = Result (Unit {0}) Refusal

-- a question: on no it refuses, on yes the next is asked
abbrev pub ask : {A : Type 0} → Bool → Refusal → Result A Refusal → Result A Refusal
ask good fault next = cond good next (Err fault)

-- after an accepted call one, after a refused one the other
abbrev pub on_ok : {A X : Type 0} → Result A Refusal → X → X → X
on_ok (Ok a) x y = x
on_ok (Err e) x y = y

-- At first: guard 4, pattern and frame 0, nobody in the calendar, every place empty
abbrev pub fresh : Head
fresh = record { table = record { rows = replicate 64 blank }; settings = first_settings; frame = 0; out = 0; started = false }

abbrev pub with_rows : List Row → Head → Head
with_rows rows h = record h { table = record { rows = rows } }

-- Look
abbrev pub delay_in : Option ℕ → Option Delay
delay_in None = None
delay_in (Some n) = delay_of n

abbrev pub view_of : Row → Option View
view_of r =
    cond (filled r)
    (Some (record { serial = r.serial; phase = r.phase; delay = delay_in r.delay; alarms = r.alarms; cause = r.cause; failures = r.failures }))
    None

abbrev pub place_row : Head → ℕ → Row
place_row h place = get_or h.table.rows place blank

abbrev pub look_answer : Head → ℕ → Result (Option View) Refusal
look_answer h place = ask (nat_lt place 64) why.Place (Ok (view_of (place_row h place)))

abbrev pub row_answer : Head → ℕ → Result Row Refusal
row_answer h place = ask (nat_lt place 64) why.Place (Ok (place_row h place))

-- Set-up
abbrev pub first_fits : ℕ → Bool
first_fits n = n % 1024 == 0 && nat_lt n (2 ^ 48)

abbrev pub set_up_answer : Head → (guard first : ℕ) → (calendar : List ℕ) → Answer
set_up_answer h guard first calendar =
    ask (not h.started) why.Started
    (ask (guard_fits guard) why.Guard
    (ask (first_fits first) why.FirstFrame
    (ask (calendar_fits calendar) why.Calendar (Ok tt))))

-- a guard that does not fit was refused
abbrev pub chosen : Option (Bounded 4 24) → Bounded 4 24
chosen None = guard4
chosen (Some g) = g

abbrev pub set_up_done : Head → (guard : ℕ) → Octets 3 → (first : ℕ) → (calendar : List ℕ) → Head
set_up_done h guard pattern first calendar =
    record h { settings = record { guard = chosen (guard_of guard); pattern = pattern; calendar = calendar }; frame = first }

abbrev pub set_up_head : Head → (guard : ℕ) → Octets 3 → (first : ℕ) → (calendar : List ℕ) → Head
set_up_head h guard pattern first calendar =
    on_ok (set_up_answer h guard first calendar) (set_up_done h guard pattern first calendar) h

-- Enter, hold and release: each writes one record
abbrev pub with_row : ℕ → Row → Head → Head
with_row place r h = with_rows (slice_set h.table.rows place r) h

abbrev pub enter_answer : Head → (place : ℕ) → Serial → Answer
enter_answer h place serial =
    ask (nat_lt place 64) why.Place
    (ask (not (filled (place_row h place))) why.Taken
    (ask (not (borne serial h.table.rows)) why.Serial (Ok tt)))

abbrev pub enter_head : Head → (place : ℕ) → Serial → Head
enter_head h place serial = on_ok (enter_answer h place serial) (record (with_row place (entered serial) h) { started = true }) h

abbrev pub hold_answer : Head → (place : ℕ) → Answer
hold_answer h place =
    ask (nat_lt place 64) why.Place
    (ask (filled (place_row h place) && not (is_held (place_row h place).phase)) why.NotHeldable (Ok tt))

abbrev pub hold_head : Head → (place : ℕ) → Head
hold_head h place = on_ok (hold_answer h place) (with_row place (held (place_row h place)) h) h

abbrev pub release_answer : Head → (place : ℕ) → Answer
release_answer h place =
    ask (nat_lt place 64) why.Place (ask (is_held (place_row h place).phase) why.NotHeld (Ok tt))

abbrev pub release_head : Head → (place : ℕ) → Head
release_head h place = on_ok (release_answer h place) (with_row place (released (place_row h place)) h) h

-- Send: n is the length of the buffer
abbrev pub send_answer : Head → (n : ℕ) → Result Docket Refusal
send_answer h n =
    ask (n == 96) why.Buffer
    (ask (nat_lt h.out 4) why.Dockets
    (ask (nat_lt h.frame (2 ^ 48)) why.Frame (Ok (record { frame = h.frame }))))

-- the records once the round is begun that starts with the frame
abbrev pub sent_rows : Head → List Row
sent_rows h = begun_rows h.frame h.table.rows

-- 53 grants and two messages
abbrev pub sent_frame : Head → Frame
sent_frame h =
    record {
      grants = grants_of 53 (codes_from h.settings (sent_rows h) h.frame 1 53);
      first = message_in h.settings (sent_rows h) h.frame 0;
      second = message_in h.settings (sent_rows h) h.frame 1;
    }

abbrev pub sent_bytes : Head → List ℕ
sent_bytes h = frame_bytes (sent_frame h)

abbrev pub sent : Head → Head
sent h = record h { table = record { rows = sent_rows h }; frame = h.frame + 1; out = h.out + 1; started = true }

abbrev pub send_head : Head → (n : ℕ) → Head
send_head h n = on_ok (send_answer h n) (sent h) h

-- what the buffer then holds
abbrev pub send_buffer : Head → List ℕ → List ℕ
send_buffer h buffer = on_ok (send_answer h (length buffer)) (sent_bytes h) buffer

-- Settle: whether the docket is that of the oldest frame out
abbrev pub is_oldest : Head → (docket : ℕ) → Bool
is_oldest h docket = nat_lt 0 h.out && docket + h.out == h.frame

-- n is the length of the report
abbrev pub settle_answer : Head → (docket n : ℕ) → Answer
settle_answer h docket n = ask (is_oldest h docket) why.Docket (ask (n == 954) why.Report (Ok tt))

abbrev pub settled : Head → (docket : ℕ) → (report : List ℕ) → Head
settled h docket report =
    record h {
      table = record { rows = settled_rows h.settings h.frame docket 1 (records_from report 0 53) h.table.rows };
      out = h.out - 1;
    }

abbrev pub settle_head : Head → (docket : ℕ) → (report : List ℕ) → Head
settle_head h docket report = on_ok (settle_answer h docket (length report)) (settled h docket report) h

-- a refused docket comes back
abbrev pub handed_back : ℕ → Answer → Result (Unit {0}) Refused
handed_back docket (Ok a) = Ok tt
handed_back docket (Err e) = Err (record { docket = record { frame = docket }; why = e })
