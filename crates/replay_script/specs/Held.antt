-- The dockets that are held beside a head, the oldest first: those of its frames out, and no others.
use Rattle.std.specs.Prelude.{ℕ, ◌+◌, Bool, true, ◌&&◌, List, length, Ok, Err, Result, ◌==◌}
use Rattle.head.specs.Steps.{Answer, on_ok, send_answer, settle_answer, settle_head}
use Rattle.head.specs.declared.docket.Docket.{Docket}
use Rattle.head.specs.declared.head.Head.{Head}
use Rattle.head.specs.declared.refusal.Refusal.{Refusal}
use Rattle.head.specs.declared.refusal.Refusal.TheVariants as why
use Rattle.replay_script.specs.declared.held.Held.{Held}
use Rattle.replay_script.specs.declared.held.Held.TheVariants.{Nothing, One, Two, Three, Four}

abbrev pub count : Held → ℕ
count Nothing = 0
count (One a) = 1
count (Two a b) = 2
count (Three a b c) = 3
count (Four a b c d) = 4

-- one more, the newest; there are never more than four
abbrev pub with_newest : Held → Docket → Held
with_newest Nothing n = One n
with_newest (One a) n = Two a n
with_newest (Two a b) n = Three a b n
with_newest (Three a b c) n = Four a b c n
with_newest (Four a b c d) n = Four a b c d

-- a docket of the frame that was sent so many frames ago
abbrev pub ago : (frame n next : ℕ) → Bool
ago frame n next = frame + n == next

abbrev pub in_order : Held → (next : ℕ) → Bool
in_order Nothing next = true
in_order (One a) next = ago a.frame 1 next
in_order (Two a b) next = ago a.frame 2 next && ago b.frame 1 next
in_order (Three a b c) next = ago a.frame 3 next && ago b.frame 2 next && ago c.frame 1 next
in_order (Four a b c d) next = ago a.frame 4 next && ago b.frame 3 next && ago c.frame 2 next && ago d.frame 1 next

-- once a frame is out the head counts as started
abbrev pub may_start : Held → Bool → Bool
may_start Nothing s = true
may_start (One a) s = s
may_start (Two a b) s = s
may_start (Three a b c) s = s
may_start (Four a b c d) s = s

abbrev pub agree : Held → Head → Bool
agree held h = h.out == count held && in_order held h.frame && may_start held h.started

-- what a send answers where its docket is kept: the frame's number
abbrev pub number_sent : Result Docket Refusal → Result ℕ Refusal
number_sent (Ok d) = Ok d.frame
number_sent (Err e) = Err e

-- the docket of an accepted send is the newest
abbrev pub held_sent : Result Docket Refusal → Held → Held
held_sent (Ok d) held = with_newest held d
held_sent (Err e) held = held

-- what settling the oldest answers; with none out there is none to offer
abbrev pub oldest_answer : Held → Head → (n : ℕ) → Answer
oldest_answer Nothing h n = Err why.Docket
oldest_answer (One a) h n = settle_answer h a.frame n
oldest_answer (Two a b) h n = settle_answer h a.frame n
oldest_answer (Three a b c) h n = settle_answer h a.frame n
oldest_answer (Four a b c d) h n = settle_answer h a.frame n

abbrev pub oldest_head : Held → Head → (report : List ℕ) → Head
oldest_head Nothing h report = h
oldest_head (One a) h report = settle_head h a.frame report
oldest_head (Two a b) h report = settle_head h a.frame report
oldest_head (Three a b c) h report = settle_head h a.frame report
oldest_head (Four a b c d) h report = settle_head h a.frame report

abbrev pub without_oldest : Held → Held
without_oldest Nothing = Nothing
without_oldest (One a) = Nothing
without_oldest (Two a b) = One b
without_oldest (Three a b c) = Two b c
without_oldest (Four a b c d) = Three b c d

-- an accepted settle spends the oldest, a refused one none
abbrev pub held_settled : Held → Head → (n : ℕ) → Held
held_settled held h n = on_ok (oldest_answer held h n) (without_oldest held) held
