-- What holds of windows, rounds and message turns.
use Rattle.std.specs.Prelude.{◌≡◌, ◌≢◌, ℕ, ◌+◌, ◌*◌, ◌/◌, ◌%◌, ◌<◌, ◌≤◌, ◌⊎◌, ◌↔◌, true, List, [], ◌∷◌, length, get_or, Some, None}
use Rattle.field.specs.Delay.{no_delay}
use Rattle.message.specs.declared.downstream.Access.TheVariants.{Deny, Allow}
use Rattle.message.specs.declared.downstream.Address.TheVariants.{One}
use Rattle.message.specs.declared.downstream.Downstream.{Downstream}
use Rattle.message.specs.declared.downstream.Downstream.TheVariants.{NoMessage, UpstreamOverhead, AssignPonId, DeactivatePonId, DisableSerialNumber, GrantAllocation}
use Rattle.rules.specs.Job.{given, measured_told, job_message, says}
use Rattle.rules.specs.Schedule.{Place, slot_number, window, last, owner, message_place, starting}
use Rattle.rules.specs.declared.job.Job.{Job}
use Rattle.rules.specs.declared.job.Job.TheVariants.{BringUp, Tell, Stop, Hold, Free}
use Rattle.rules.specs.declared.row.Row.{Row}
use Rattle.rules.specs.declared.settings.Settings.{Settings}

-- X of frame F is the last slot of a window of place p
abbrev pub EndsWindow : Settings → (F X : ℕ) → Place → Type 0
EndsWindow s F X p = (last F X ≡ true) × (owner s F X ≡ Some p)

-- where windows lie
pub record WindowsStand : Type 0 where
  -- the windows of place p end in X 53 of the frames F with F mod 16 = 15 and (F div 16) mod 64 = p
  pub ends : (s : Settings) (F X : ℕ) (p : Place) → EndsWindow s F X p ↔ ((X ≡ 53) × (F % 16 ≡ 15) × (F / 16 % 64 ≡ p.value))
  -- a slot is in a window just if it is one of the 73 slots up to and including the last of one
  pub slots : (F X : ℕ) → 1 ≤ X → X ≤ 53
      → (window F X ≡ true)
      ↔ ((G : ℕ) × (last G 53 ≡ true) × (slot_number F X ≤ slot_number G 53) × (slot_number G 53 < slot_number F X + 73))
  -- and these fall to the place whose window it is
  pub owned : (s : Settings) (F X G : ℕ) (p : Place) → 1 ≤ X → X ≤ 53 → EndsWindow s G 53 p
      → slot_number F X ≤ slot_number G 53 → slot_number G 53 < slot_number F X + 73 → owner s F X ≡ Some p
  -- windows of two places end at least 16 frames apart
  pub apart : (s : Settings) (F G : ℕ) (p q : Place) → EndsWindow s F 53 p → EndsWindow s G 53 q → p ≢ q → (F + 16 ≤ G) ⊎ (G + 16 ≤ F)

-- where rounds start, and where the window of each lies
pub record RoundsStand : Type 0 where
  -- the rounds of place p start with the frames that leave 16 p + 23 by 1,024
  pub starts : (F : ℕ) (p : Place) → (starting F ≡ Some p) ↔ (F % 1024 ≡ (16 * p.value + 23) % 1024)
  -- the place's window after a start S ends in frame S + 1,016, and none ends between
  pub window_after : (s : Settings) (S : ℕ) (p : Place) → starting S ≡ Some p → EndsWindow s (S + 1016) 53 p
  pub none_before : (s : Settings) (S F X : ℕ) (p : Place) → starting S ≡ Some p → EndsWindow s F X p → S ≤ F → S + 1016 ≤ F

-- a job's messages in order
abbrev pub messages : Settings → Place → Row → Job → List Downstream
messages s p r BringUp =
    UpstreamOverhead s.guard s.pattern no_delay
    ∷ AssignPonId p r.serial
    ∷ GrantAllocation p (given p.value) (given (64 + p.value))
    ∷ []
messages s p r Tell = measured_told p r.delay ∷ []
messages s p r Stop = DeactivatePonId (One p) ∷ []
messages s p r Hold = DisableSerialNumber (Deny r.serial) ∷ []
messages s p r Free = DisableSerialNumber (Allow r.serial) ∷ []

-- number k of some messages, from 0, and no message past their end
abbrev pub message_at : List Downstream → ℕ → Downstream
message_at ms k = get_or ms k NoMessage

-- each message three times, one time after the other
abbrev pub thrice : List Downstream → List Downstream
thrice [] = []
thrice (m ∷ ms) = m ∷ m ∷ m ∷ thrice ms

-- in the 32 frames from A on, cell j of frame F has place p's message, and no other cell has
pub record OneTurn (p : Place) (A F j : ℕ) : Type 0 where
  pub from : A ≤ F
  pub before : F < A + 32
  pub cell : j < 2
  pub its : message_place F j ≡ p
  pub only : (G k : ℕ) → A ≤ G → G < A + 32 → k < 2 → message_place G k ≡ p → (G ≡ F) × (k ≡ j)

-- what a place says in a round
pub record MessagesStand : Type 0 where
  -- a job's message by its number is that of the list
  pub listed : (s : Settings) (p : Place) (r : Row) (job : Job) (k : ℕ) → job_message s p r job k ≡ message_at (messages s p r job) k
  -- in the 1,024 frames from a round's start S on, a place has 32 turns: one in each 32 frames
  pub turns : (p : Place) (S i : ℕ) → starting S ≡ Some p → i < 32 → (F : ℕ) × (j : ℕ) × OneTurn p (S + 32 * i) F j
  -- in turn i it says number i / 3 of the running job's messages
  pub said : (s : Settings) (p : Place) (r : Row) (job : Job) (S i F j : ℕ) → starting S ≡ Some p → i < 32 → OneTurn p (S + 32 * i) F j
      → r.running ≡ Some job → says s F p r ≡ message_at (messages s p r job) (i / 3)
  -- so its turns, in order, have each message three times and nothing after the last
  pub thirds : (ms : List Downstream) (i : ℕ) → message_at ms (i / 3) ≡ message_at (thrice ms) i
  -- all within its first nine turns
  pub room : (s : Settings) (p : Place) (r : Row) (job : Job) → length (thrice (messages s p r job)) ≤ 9
  -- without a running job it says nothing
  pub idle : (s : Settings) (p : Place) (r : Row) (F : ℕ) → r.running ≡ None → says s F p r ≡ NoMessage
