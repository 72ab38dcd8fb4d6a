-- The head's refusals: their numbers and what is said of them.
use Rattle.std.specs.Prelude.{ℕ, List, codes}
use Rattle.head.specs.declared.refusal.Refusal.{Refusal}
use Rattle.head.specs.declared.refusal.Refusal.TheVariants.{
  Started,
  Guard,
  FirstFrame,
  Calendar,
  Place,
  Taken,
  Serial,
  NotHeldable,
  NotHeld,
  Buffer,
  Dockets,
  Frame,
  Docket,
  Report,
}

abbrev pub refusal_number : Refusal → ℕ
refusal_number Started = 1
refusal_number Guard = 2
refusal_number FirstFrame = 3
refusal_number Calendar = 4
refusal_number Place = 5
refusal_number Taken = 6
refusal_number Serial = 7
refusal_number NotHeldable = 8
refusal_number NotHeld = 9
refusal_number Buffer = 10
refusal_number Dockets = 11
refusal_number Frame = 12
refusal_number Docket = 13
refusal_number Report = 14

-- what is said of it
abbrev pub refusal_words : Refusal → List ℕ
refusal_words Started = codes "a frame was sent or an ONU entered"
refusal_words Guard = codes "the guard is not 4, 8, 12 or 16"
refusal_words FirstFrame = codes "the first frame is no multiple of 1024 below 2^48"
refusal_words Calendar = codes "the calendar is not 52 bytes of 0 to 63 or 255"
refusal_words Place = codes "no place"
refusal_words Taken = codes "the place is taken"
refusal_words Serial = codes "another place has the serial number"
refusal_words NotHeldable = codes "the place is empty or held"
refusal_words NotHeld = codes "the place is not held"
refusal_words Buffer = codes "the buffer is not 96 bytes"
refusal_words Dockets = codes "four dockets are out"
refusal_words Frame = codes "no frame number is left"
refusal_words Docket = codes "not the docket of the oldest frame out"
refusal_words Report = codes "the report is not 954 bytes"
