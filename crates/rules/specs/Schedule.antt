-- Whose slot, whose message turn, and when a round starts.
use Rattle.std.specs.Prelude.{ℕ, ◌+◌, ◌-◌, ◌*◌, ◌/◌, ◌%◌, Bool, cond, ◌&&◌, ◌||◌, Some, None, Option, ◌==◌, nat_le, get_or}
use Rattle.field.specs.declared.bounded.Bounded.{Bounded}
use Rattle.field.specs.Bounded.{within}
use Rattle.rules.specs.Clamp.{clamped}
use Rattle.rules.specs.declared.settings.Settings.{Settings}

abbrev pub Place : Type 0
Place = Bounded 0 63

-- the remainder by 64 as a place
abbrev pub place_of : ℕ → Place
place_of n = clamped 63 (n % 64)

-- the number of the slot at grant place X of frame F
abbrev pub slot_number : (F X : ℕ) → ℕ
slot_number F X = 53 * F + (X - 1)

-- Windows. A window is granted in X 53 of the second of two frames; a slot k slots earlier is kept free for the burst, which may come early.
abbrev pub kept : ℕ → Bool
kept k = nat_le k 72

abbrev pub window : (F X : ℕ) → Bool
window F X = (F % 16 == 14 && kept (106 - X)) || (F % 16 == 15 && kept (53 - X))

-- the last slot of a window
abbrev pub last : (F X : ℕ) → Bool
last F X = F % 16 == 15 && X == 53

-- whose window the frames 16 n + 14 and 16 n + 15 have
abbrev pub window_place : ℕ → Place
window_place F = place_of (F / 16)

-- whose PLOAM turn X 1 is outside windows
abbrev pub turn_place : ℕ → Place
turn_place F = place_of (15 * (F / 16) + F % 16)

-- the calendar's byte for X 2 to 53: a place, or nobody
abbrev pub calendar_place : Settings → ℕ → Option Place
calendar_place s X = within 0 63 (get_or s.calendar (X - 2) 255)

-- the place that X of frame F falls to
abbrev pub owner : Settings → (F X : ℕ) → Option Place
owner s F X = cond (window F X) (Some (window_place F)) (cond (X == 1) (Some (turn_place F)) (calendar_place s X))

-- Messages: cell j, 0 or 1, of frame F
abbrev pub message_place : (F j : ℕ) → Place
message_place F j = place_of (2 * F + j)

-- Rounds: place p's start with the frames that leave 16 p + 23 by 1,024
abbrev pub starting : ℕ → Option Place
starting F = cond (F % 16 == 7) (Some (place_of (F / 16 + 63))) None

-- frames since p's round started
abbrev pub age : (F p : ℕ) → ℕ
age F p = (F % 1024 + 2048 - (16 * p + 23)) % 1024

-- which of p's message turns since then frame F has, from 0
abbrev pub turn : (F p : ℕ) → ℕ
turn F p = age F p / 32
