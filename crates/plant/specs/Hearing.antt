-- A call of `hear`: its three questions, and what it leaves.
use Rattle.std.specs.Prelude.{◌≡◌, ℕ, ◌-◌, ◌*◌, ◌<◌, ◌≤◌, cond, List, ◌++◌, codes, length, Ok, Err, vec_items, vec_len, vec_capacity, Result, Vec, ◌==◌, nat_lt}
use Rattle.std.specs.declared.alloc.Global.{Global}
use Rattle.onu.specs.declared.state.Onu.{Onu}
use Rattle.plant.specs.declared.burst.Burst.{Burst}
use Rattle.plant.specs.declared.hearing.HearFault.{HearFault}
use Rattle.plant.specs.declared.hearing.HearFault.TheVariants.{Length, Room, Late}
use Rattle.plant.specs.Lawful.{Does, HearsCell, slot_limit}

-- the numbers of the refusals
abbrev pub hear_refusal : HearFault → ℕ
hear_refusal Length = 15
hear_refusal Room = 18
hear_refusal Late = 19

-- what is said of them
abbrev pub hear_words : HearFault → List ℕ
hear_words Length = codes "length"
hear_words Room = codes "room for bursts"
hear_words Late = codes "first slot"

abbrev pub Bursts : Type 0
Bursts = Vec Burst Global

-- free entries of a burst list
abbrev pub room_in : Bursts → ℕ
room_in b = vec_capacity b - vec_len b

abbrev pub Heard : Type 0
Heard = Result (Unit {0}) HearFault

-- 48 bytes? 27 free entries for each ONU? a first slot below 53 times 2^48?
abbrev pub asked : (length room count first : ℕ) → Heard
asked n room count first =
    cond (n == 48) (cond (nat_lt room (27 * count)) (Err Room) (cond (nat_lt first slot_limit) (Ok tt) (Err Late))) (Err Length)

-- all three questions are answered yes
pub record Admitted (count : ℕ) (p : List ℕ) (first : ℕ) (b : Bursts) : Type 0 where
  pub whole : length p ≡ 48
  pub room : 27 * count ≤ room_in b
  pub early : first < slot_limit

-- an accepted cell: the list's capacity stays, and bursts are appended
pub record Taken {X : Type 0} (D : Does X) (x : X) (p : List ℕ) (first : ℕ) (b : Bursts) (y : X) (b' : Bursts) : Type 0 where
  pub capacity : vec_capacity b' ≡ vec_capacity b
  pub appended : (new : List Burst) × (vec_items b' ≡ vec_items b ++ new) × D x p first y new

-- where it is accepted the bursts are appended, where it is refused nothing changes
abbrev pub After : {X : Type 0} → Does X → X → List ℕ → ℕ → Bursts → X → Bursts → Heard → Type 0
After D x p first b y b' (Ok u) = (new : List Burst) × (vec_items b' ≡ vec_items b ++ new) × D x p first y new
After D x p first b y b' (Err e) = (y ≡ x) × (vec_items b' ≡ vec_items b)

pub record Hearing {X : Type 0} (D : Does X) (count : ℕ) (x : X) (p : List ℕ) (first : ℕ) (b : Bursts) (y : X) (b' : Bursts) (r : Heard) : Type 0 where
  pub answer : r ≡ asked (length p) (room_in b) count first
  pub room : vec_capacity b' ≡ vec_capacity b
  pub after : After D x p first b y b' r

-- some ONUs heard a cell lawfully, and appended their bursts
abbrev pub HeardBy : List Onu → List ℕ → ℕ → List Burst → List Onu → List Burst → Type 0
HeardBy xs p first old ys all = (new : List Burst) × (all ≡ old ++ new) × HearsCell p first xs ys new
