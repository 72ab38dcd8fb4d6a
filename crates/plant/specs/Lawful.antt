-- What every plant has in common: what its ONUs may do at a cell.
use Rattle.std.specs.Prelude.{◌≡◌, ℕ, suc, ◌+◌, ◌*◌, ◌^◌, ◌<◌, Bool, true, cond, ◌&&◌, List, [], ◌∷◌, ◌++◌, length, Some, None, Option}
use Rattle.field.specs.Grant.{grant_of}
use Rattle.field.specs.declared.number.Number.{Number}
use Rattle.field.specs.declared.octets.Octets.{Octets}
use Rattle.message.specs.declared.downstream.Downstream.{Downstream}
use Rattle.onu.specs.Answer.{kind_for, said_by}
use Rattle.onu.specs.Facts.{sound}
use Rattle.onu.specs.Onu.{obeyed, happened}
use Rattle.onu.specs.declared.answer.Kind.{Kind}
use Rattle.onu.specs.declared.event.OwnEvent.{OwnEvent}
use Rattle.onu.specs.declared.state.Onu.{Onu}
use Rattle.plant.specs.declared.burst.Burst.{Burst}
use Rattle.plant.specs.Heard.{heard_grants, heard_message}

-- what an ONU does by itself: an own event, or its round trip moves
pub data Move : Type 0 where
  own : OwnEvent → Move
  drift : Number 1000000 → Move

abbrev pub drifted : Number 1000000 → Onu → Onu
drifted t o = record o { trip = t }

abbrev pub by_move : Move → Onu → Onu
by_move (own e) o = happened e o
by_move (drift t) o = drifted t o

abbrev pub by_moves : List Move → Onu → Onu
by_moves [] o = o
by_moves (m ∷ ms) o = by_moves ms (by_move m o)

-- the burst that answers the grant of slot n: it starts a round trip and the register's delay after the slot
abbrev pub burst_of : Kind → Octets 12 → Onu → ℕ → Burst
burst_of k free o n =
    record {
      serial = o.serial;
      slot = n;
      start = 448 * n + o.trip.value + o.register.value;
      trip = o.trip;
      kind = k;
      message = said_by free o;
    }

-- at most one burst a grant
abbrev pub answer_to : Option Kind → Octets 12 → Onu → ℕ → List Burst
answer_to None free o n = []
answer_to (Some k) free o n = burst_of k free o n ∷ []

-- the grants of the slots from n on, answered in their order; `says` has the free message for each slot
unfoldable pub answers : (says : ℕ → Octets 12) → Onu → ℕ → List ℕ → List Burst
answers says o n [] = []
answers says o n (g ∷ gs) = answer_to (kind_for (grant_of g) o) (says n) o n ++ answers says o (suc n) gs

-- the same message in every slot
unfoldable pub steady : Octets 12 → ℕ → Octets 12
steady m n = m

-- a message that is lost does nothing
abbrev pub acted : Option Downstream → Onu → Onu
acted None o = o
acted (Some m) o = obeyed m o

-- what is left to an ONU at a cell: what it does by itself before, whether it loses the cell, and the messages that are free
pub record Choice : Type 0 where
  pub before : List Move
  pub loses : Bool
  pub says : ℕ → Octets 12

-- the ONU after a cell with the message m
abbrev pub leaves : Choice → Option Downstream → Onu → Onu
leaves c m o = cond c.loses (by_moves c.before o) (acted m (by_moves c.before o))

-- the bursts that it sends for the grants of the slots from n on, before it acts on the message
abbrev pub sends : Choice → ℕ → List ℕ → Onu → List Burst
sends c n gs o = cond c.loses [] (answers c.says (by_moves c.before o) n gs)

-- all ONUs of a plant at a cell: each by some choice, and exactly their bursts, in the order of the list
pub data Hears (n : ℕ) (gs : List ℕ) (m : Option Downstream) : List Onu → List Onu → List Burst → Type 0 where
  none : Hears n gs m [] [] []
  more : {o : Onu} {os os' : List Onu} {bs : List Burst} (c : Choice) → Hears n gs m os os' bs → Hears n gs m (o ∷ os) (leaves c m o ∷ os') (sends c n gs o ++ bs)

-- the same for a payload, whose first grant is that of slot n
abbrev pub HearsCell : List ℕ → ℕ → List Onu → List Onu → List Burst → Type 0
HearsCell p n xs ys new = Hears n (heard_grants p) (heard_message p) xs ys new

-- between cells each ONU may move by itself, and nothing else changes
pub data Drifts : List Onu → List Onu → Type 0 where
  still : Drifts [] []
  next : {o : Onu} {os os' : List Onu} (ms : List Move) → Drifts os os' → Drifts (o ∷ os) (by_moves ms o ∷ os')

-- in O3 to O7 the register is the pre-assigned delay, and PON_ID and codes are held only where the table lets them
abbrev pub all_sound : List Onu → Bool
all_sound [] = true
all_sound (o ∷ os) = sound o && all_sound os

-- what an accepted cell does to a plant: the plant before, payload, first slot, the plant after, the bursts appended
abbrev pub Does : Type 0 → Type 1
Does X = X → List ℕ → ℕ → X → List Burst → Type 0

-- the head counts 53 slots in each of 2^48 frames
abbrev pub slot_limit : ℕ
slot_limit = 53 * 2 ^ 48

-- the law of every plant: whatever it does of a cell, its ONUs may do
abbrev pub Lawful : {X : Type 0} → (X → List Onu) → Does X → Type 0
Lawful {X} means D =
    (x y : X) (p : List ℕ) (first : ℕ) (new : List Burst) → length p ≡ 48 → first < slot_limit → D x p first y new
    → HearsCell p first (means x) (means y) new
