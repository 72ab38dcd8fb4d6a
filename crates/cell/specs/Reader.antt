-- A cell's 48 bytes, counted from 0: the frame bit in byte 0, four groups of grants and the message, each with its check byte.
use Rattle.std.specs.Prelude.{ℕ, ◌+◌, ◌-◌, ◌/◌, ◌%◌, Bool, cond, ◌&&◌, List, [], ◌∷◌, ◌++◌, Some, None, Ok, Err, Option, Result, ◌==◌, nat_le}
use Rattle.std.specs.List.{between}
use Rattle.field.specs.declared.grant.Grant.{Grant}
use Rattle.field.specs.Check.{check_of}
use Rattle.field.specs.Grant.{grant_of}
use Rattle.message.specs.declared.downstream.Downstream.{Downstream}
use Rattle.message.specs.declared.fault.MessageFault.{MessageFault}
use Rattle.field.specs.Bytes.{at, then}
use Rattle.message.specs.Downstream.{downstream_of}
use Rattle.cell.specs.declared.fault.Group.{Group}
use Rattle.cell.specs.declared.fault.Group.TheVariants.{First, Second, Third, Fourth}
use Rattle.cell.specs.declared.fault.CheckFault.{CheckFault}
use Rattle.cell.specs.declared.fault.CheckFault.TheVariants.{Grants, Message as MessageGroup}
use Rattle.cell.specs.declared.fault.CellFault.{CellFault}
use Rattle.cell.specs.declared.fault.CellFault.TheVariants.{Check, Message}

-- the frame bit: the lowest bit of the first byte, 1 in a frame's first cell
abbrev pub first_of : List ℕ → Bool
first_of b = at b 0 % 2 == 1

-- the grants of each group
abbrev pub group_of : Group → List ℕ → List ℕ
group_of First b = between 3 10 b
group_of Second b = between 11 18 b
group_of Third b = between 19 26 b
group_of Fourth b = between 27 33 b

-- how many there are
abbrev pub size_of : Group → ℕ
size_of First = 7
size_of Second = 7
size_of Third = 7
size_of Fourth = 6

abbrev pub message_part : List ℕ → List ℕ
message_part b = between 34 46 b

-- a check byte is that of what it protects
abbrev pub fits : ℕ → ℕ → CheckFault → Result (Unit {0}) CheckFault
fits check stands fault = cond (check == stands) (Ok tt) (Err fault)

-- each group's check byte follows it; the fourth, of six grants, is checked with one zero byte after it
abbrev pub group_checked : Group → List ℕ → Result (Unit {0}) CheckFault
group_checked First b = fits (check_of (group_of First b)) (at b 10) (Grants First)
group_checked Second b = fits (check_of (group_of Second b)) (at b 18) (Grants Second)
group_checked Third b = fits (check_of (group_of Third b)) (at b 26) (Grants Third)
group_checked Fourth b = fits (check_of (group_of Fourth b ++ 0 ∷ [])) (at b 33) (Grants Fourth)

abbrev pub message_checked : List ℕ → Result (Unit {0}) CheckFault
message_checked b = fits (check_of (message_part b)) (at b 46) MessageGroup

-- all five, the first that does not fit named
abbrev pub checked_of : List ℕ → Result (Unit {0}) CheckFault
checked_of b =
    then (group_checked First b) (λ _. then (group_checked Second b) (λ _. then (group_checked Third b) (λ _. then (group_checked Fourth b) (λ _. message_checked b))))

-- a check fault and a message fault are faults of the cell
abbrev pub by_check : {A : Type 0} → Result A CheckFault → Result A CellFault
by_check (Ok x) = Ok x
by_check (Err e) = Err (Check e)

abbrev pub by_message : {A : Type 0} → Result A MessageFault → Result A CellFault
by_message (Ok x) = Ok x
by_message (Err e) = Err (Message e)

-- the strict reading of 48 bytes: all check bytes first, then the message
abbrev pub read_of : List ℕ → Result Downstream CellFault
read_of b = then (by_check (checked_of b)) (λ _. by_message (downstream_of (message_part b)))

-- the grant at place k, counted from 0: seven to a group, and a check byte after each group
abbrev pub grant_at : List ℕ → ℕ → Grant
grant_at b k = grant_of (at b (k + 3 + k / 7))

-- the same, counted from 1 to 27
abbrev pub grant_in : ℕ → List ℕ → Option Grant
grant_in place b = cond (nat_le 1 place && nat_le place 27) (Some (grant_at b (place - 1))) None
