-- The invariant of the law that no two bursts overlap: what holds of head, plant and bursts after each call.
use Rattle.std.proofs.Common.{◌≡◌, ℕ, ◌+◌, ◌*◌, ◌/◌, ◌%◌, ◌<◌, ◌≤◌, Bool, true, false, List, [], ◌∷◌, get_or, Some, None, Option, ◌⊎◌}
use Rattle.field.specs.declared.bounded.Bounded.{Bounded}
use Rattle.message.specs.declared.downstream.Downstream.{Downstream}
use Rattle.message.specs.declared.downstream.Downstream.TheVariants.{NoMessage, UpstreamOverhead, RangingTime, AssignPonId, DeactivatePonId, DisableSerialNumber, GrantAllocation}
use Rattle.onu.specs.Onu.{number, inside, has}
use Rattle.onu.specs.declared.state.Onu.{Onu}
use Rattle.plant.specs.Overlap.{Apart}
use Rattle.plant.specs.declared.burst.Burst.{Burst}
use Rattle.rules.specs.Row.{blank, filled, serving}
use Rattle.rules.specs.Schedule.{Place, window, last, owner}
use Rattle.rules.specs.declared.row.Row.{Row}
use Rattle.rules.specs.declared.settings.Settings.{Settings}
use Rattle.line.specs.Run.{HeardCell, Distinct}

-- an element of a list
pub data Among {A : Type 0} (x : A) : List A → Type 0 where
  here : {xs : List A} → Among x (x ∷ xs)
  there : {y : A} {xs : List A} → Among x xs → Among x (y ∷ xs)

-- only in O7 and O8 an ONU answers a code
abbrev pub loud : Onu → Bool
loud o = inside 7 8 o

-- the record of place q
abbrev pub row : List Row → ℕ → Row
row rows q = get_or rows q blank

-- place q is filled, with the serial number s
pub record Home (rows : List Row) (q s : ℕ) : Type 0 where
  pub place : q < 64
  pub full : filled (row rows q) ≡ true
  pub serial : (row rows q).serial.value ≡ s

-- ONUs. lo gives for each serial number the least round trip.
-- A pre-assigned delay is never told, a register in O8 is no longer than the least round trip lets it be, PON_ID and codes are those of the place.
pub record Good (lo : ℕ → ℕ) (rows : List Row) (o : Onu) : Type 0 where
  pub pre : 2 ≤ number o.state → o.preset.value ≡ 0
  pub low : 3 ≤ number o.state → number o.state ≤ 7 → o.register.value ≡ 0
  pub high : number o.state ≡ 8 → o.register.value + lo o.serial.value ≤ 35392
  pub id : (q : Bounded 0 63) → o.id ≡ Some q → Home rows q.value o.serial.value
  pub grant : (c : Bounded 0 252) → o.grant ≡ Some c → (q : Bounded 0 63) × (o.id ≡ Some q) × (c.value ≡ q.value)
  pub ploam : (c : Bounded 0 252) → o.ploam ≡ Some c → (q : Bounded 0 63) × (o.id ≡ Some q) × (c.value ≡ 64 + q.value)
  pub mute : number o.state ≤ 6 → (o.grant ≡ None) × (o.ploam ≡ None)

-- later the ONU is silent, or it was loud with the same register; its serial number stays
pub record Keeps (o o' : Onu) : Type 0 where
  pub same : o'.serial.value ≡ o.serial.value
  pub kept : loud o' ≡ true → (loud o ≡ true) × (o'.register.value ≡ o.register.value)

-- a message that leaves an ONU's codes and register alone, if the ONU is loud afterwards
abbrev pub Spares : Downstream → Onu → Type 0
Spares NoMessage o = Unit {0}
Spares (UpstreamOverhead guard overhead delay) o = Unit {0}
Spares (AssignPonId p serial) o = Unit {0}
Spares (GrantAllocation p grant ploam) o = has o.id p.value ≡ false
Spares (RangingTime p delay) o = has o.id p.value ≡ false
Spares (DeactivatePonId to) o = Unit {0}
Spares (DisableSerialNumber access) o = Unit {0}
Spares _ o = ⊥

-- what the head may say: a pre-assigned delay of 0, the place's serial number, the place's codes, a delay that the least round trip bears
abbrev pub Allowed : (ℕ → ℕ) → List Row → Downstream → Type 0
Allowed lo rows NoMessage = Unit {0}
Allowed lo rows (UpstreamOverhead guard overhead delay) = delay.value ≡ 0
Allowed lo rows (AssignPonId p serial) = Home rows p.value serial.value
Allowed lo rows (GrantAllocation p grant ploam) =
    (grant.active ≡ true) × (grant.code.value ≡ p.value) × (ploam.active ≡ true) × (ploam.code.value ≡ 64 + p.value)
Allowed lo rows (RangingTime p delay) = delay.value + lo (row rows p.value).serial.value ≤ 35392
Allowed lo rows (DeactivatePonId to) = Unit {0}
Allowed lo rows (DisableSerialNumber access) = Unit {0}
Allowed lo rows _ = ⊥

-- Slots: by number, in a window, the last of one, whose it is
abbrev pub windowed : ℕ → Bool
windowed n = window (n / 53) (n % 53 + 1)

abbrev pub lasts : ℕ → Bool
lasts n = last (n / 53) (n % 53 + 1)

abbrev pub whose : Settings → ℕ → Option Place
whose s n = owner s (n / 53) (n % 53 + 1)

abbrev pub guard_of : Settings → ℕ
guard_of s = s.guard.value

-- the guard is one of four
abbrev pub GuardFits : ℕ → Type 0
GuardFits G = (G ≡ 4) ⊎ ((G ≡ 8) ⊎ ((G ≡ 12) ⊎ (G ≡ 16)))

-- Bursts: in service, in a slot of no window, at most half a guard off
pub record Served (G n start : ℕ) : Type 0 where
  pub outside : windowed n ≡ false
  pub late_enough : 448 * n + 35392 ≤ start + G / 2
  pub soon_enough : start ≤ 448 * n + 35392 + G / 2

-- or in the last slot of a window, up to 32,000 bits early and at most a quarter of a guard late
pub record Opened (G n start : ℕ) : Type 0 where
  pub ends : lasts n ≡ true
  pub late_enough : 448 * n + 3392 ≤ start
  pub soon_enough : start ≤ 448 * n + 35392 + G / 4

abbrev pub Kind : (G n start : ℕ) → Type 0
Kind G n start = Served G n start ⊎ Opened G n start

-- every burst is apart from every later one of the list
abbrev pub ApartAll : ℕ → Burst → List Burst → Type 0
ApartAll G a [] = Unit {0}
ApartAll G a (b ∷ bs) = Apart G a b × ApartAll G a bs

abbrev pub Pairwise : ℕ → List Burst → Type 0
Pairwise G [] = Unit {0}
Pairwise G (b ∷ bs) = ApartAll G b bs × Pairwise G bs

-- The drift of round trips: lo gives the least
pub record Near (lo : ℕ → ℕ) (G : ℕ) (o : Onu) : Type 0 where
  pub least : 3392 ≤ o.trip.value
  pub most : o.trip.value ≤ 35392
  pub above : lo o.serial.value ≤ o.trip.value
  pub close : o.trip.value ≤ lo o.serial.value + G / 4

abbrev pub NearAll : (ℕ → ℕ) → ℕ → List Onu → Type 0
NearAll lo G onus = (o : Onu) → Among o onus → Near lo G o

abbrev pub Fair : (ℕ → ℕ) → ℕ → List HeardCell → Type 0
Fair lo G cells = (c : HeardCell) → Among c cells → NearAll lo G c.onus

-- a register with which every burst comes within half a guard
pub record Fit (lo : ℕ → ℕ) (G : ℕ) (o : Onu) : Type 0 where
  pub late_enough : 35392 ≤ lo o.serial.value + o.register.value + G / 2
  pub soon_enough : lo o.serial.value + o.register.value ≤ 35392 + G / 4

-- Records of the table
pub record RowOk (lo : ℕ → ℕ) (r : Row) : Type 0 where
  pub delay : (d : ℕ) → r.delay ≡ Some d → d ≤ 32000 → d + lo r.serial.value ≤ 35392
  pub calm : serving r ≡ true → (r.running ≡ None) × (r.next ≡ None)
  pub void : filled r ≡ false → (r.running ≡ None) × (r.next ≡ None)

-- a burst in a slot below upto: its slot's place has its serial number
pub record Sound (lo : ℕ → ℕ) (s : Settings) (rows : List Row) (upto : ℕ) (b : Burst) : Type 0 where
  pub before : b.slot < upto
  pub place : Place
  pub owned : whose s b.slot ≡ Some place
  pub home : Home rows place.value b.serial.value
  pub low : 448 * b.slot + lo b.serial.value ≤ b.start
  pub kind : Kind (guard_of s) b.slot b.start

-- the register is the one with which the burst was sent
pub record Held (lo : ℕ → ℕ) (G : ℕ) (b : Burst) (o : Onu) : Type 0 where
  pub least : 448 * b.slot + lo o.serial.value + o.register.value ≤ b.start
  pub most : b.start ≤ 448 * b.slot + lo o.serial.value + o.register.value + G / 4

pub record Core (lo : ℕ → ℕ) (s : Settings) (rows : List Row) (oldest upto : ℕ) (onus : List Onu) (bursts : List Burst) : Type 0 where
  pub records : (q : ℕ) → RowOk lo (row rows q)
  pub unique : (p q n : ℕ) → Home rows p n → Home rows q n → p ≡ q
  pub good : (o : Onu) → Among o onus → Good lo rows o
  pub distinct : Distinct onus
  -- in service the register fits
  pub service : (q : ℕ) (o : Onu) → Among o onus → serving (row rows q) ≡ true → Home rows q o.serial.value → loud o ≡ true → Fit lo (guard_of s) o
  -- a window burst not yet settled: its ONU is silent, or has the register of then
  pub pending : (b : Burst) (o : Onu) → Among b bursts → Among o onus → 53 * oldest ≤ b.slot → lasts b.slot ≡ true
      → b.serial.value ≡ o.serial.value → loud o ≡ true → Held lo (guard_of s) b o
  pub sound : (b : Burst) → Among b bursts → Sound lo s rows upto b
  pub pairs : Pairwise (guard_of s) bursts

-- who answers X of frame F: the ONU of the place that the slot falls to, in service outside windows, or in a window's last slot
pub record Called (s : Settings) (rows : List Row) (F X : ℕ) (o : Onu) : Type 0 where
  pub loud : loud o ≡ true
  pub place : Place
  pub owned : owner s F X ≡ Some place
  pub home : Home rows place.value o.serial.value
  pub kind : ((window F X ≡ false) × (serving (row rows place.value) ≡ true)) ⊎ (last F X ≡ true)
