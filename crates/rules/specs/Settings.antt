-- What the host sets before the first frame.
use Rattle.std.specs.Prelude.{ℕ, Bool, cond, ◌||◌, List, ◌&&◌, length, replicate, None, Option, ◌==◌, nat_lt, Some}
use Rattle.std.proofs.Common.{lit≤}
use Rattle.std.specs.List.{list_all}
use Rattle.field.specs.Bounded.{within}
use Rattle.field.specs.Octets.{octets_of}
use Rattle.field.specs.declared.bounded.Bounded.{Bounded}
use Rattle.rules.specs.declared.settings.Settings.{Settings}

-- a guard is 4, 8, 12 or 16 bits
abbrev pub guard_fits : ℕ → Bool
guard_fits n = n == 4 || n == 8 || n == 12 || n == 16

abbrev pub guard_of : ℕ → Option (Bounded 4 24)
guard_of n = cond (guard_fits n) (within 4 24 n) None

-- a calendar has a byte for each of X 2 to 53: a place, or 255 for nobody
abbrev pub byte_fits : ℕ → Bool
byte_fits n = nat_lt n 64 || n == 255

abbrev pub calendar_fits : List ℕ → Bool
calendar_fits bytes = length bytes == 52 && list_all byte_fits bytes

abbrev pub calendar_of : List ℕ → Option (List ℕ)
calendar_of bytes = cond (calendar_fits bytes) (Some bytes) None

-- at first: guard 4, pattern 0, nobody in the calendar
abbrev pub guard4 : Bounded 4 24
guard4 = record { value = 4; low = lit≤ tt; high = lit≤ tt }

abbrev pub first_settings : Settings
first_settings = record { guard = guard4; pattern = octets_of 3 (replicate 3 0); calendar = replicate 52 255 }
