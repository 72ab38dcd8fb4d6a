-- What an ONU's own events and the head's messages keep of it, and whose grants it answers.
use Rattle.std.proofs.Common.{◌≡◌, ℕ, ◌+◌, ◌<◌, ◌≤◌, Bool, true, false, cond, ◌&&◌, ◌||◌, ◌==◌, List, [], ◌∷◌, Some, None, Option, ◌⊎◌, inl, inr, refl, sym, ap, subst, ◌∙◌, ⊎_elim, arith}
use Rattle.std.proofs.lemmas.Bool.{cond_both, and_parts, leb-true, both_ways, eqb-true, cases_lt, cases_cond}
use Rattle.std.proofs.lemmas.Bool.Decides.{nat_tests}
use Rattle.std.proofs.lemmas.Option.{none-some}
use Rattle.std.specs.Prelude.{nat_le}
use Rattle.field.proofs.Codes.{grant_again}
use Rattle.field.specs.Delay.{Delay, no_delay}
use Rattle.field.specs.Grant.{grant_of}
use Rattle.field.specs.Number.{nought}
use Rattle.field.specs.declared.bounded.Bounded.{Bounded}
use Rattle.field.specs.declared.grant.Grant.TheVariants.{Code, Idle}
use Rattle.field.specs.declared.number.Number.{Number}
use Rattle.message.specs.declared.downstream.Access.{Access}
use Rattle.message.specs.declared.downstream.Access.TheVariants.{Deny, AllowAll, Allow}
use Rattle.message.specs.declared.downstream.Allocation.{Allocation}
use Rattle.message.specs.declared.downstream.Downstream.{Downstream}
use Rattle.message.specs.declared.downstream.Downstream.TheVariants.{NoMessage, UpstreamOverhead, RangingTime, SerialNumberMask, AssignPonId, DeactivatePonId, DisableSerialNumber, GrantAllocation, Popup}
use Rattle.onu.specs.Answer.{kind_for, holds_code}
use Rattle.onu.specs.Onu.{number, inside, has, named, moved, lapsed, restarted, assigned, code_in, allocated, delayed, matches, masked, meant, disabled, obeyed, happened}
use Rattle.onu.specs.declared.answer.Kind.{Kind}
use Rattle.onu.specs.declared.event.OwnEvent.{OwnEvent}
use Rattle.onu.specs.declared.event.OwnEvent.TheVariants.{SignalLoss, SignalReturn, PowerSetUp, FirstTimer, SecondTimer, PowerLoss}
use Rattle.onu.specs.declared.state.Onu.{Onu}
use Rattle.onu.specs.declared.state.State.{State}
use Rattle.onu.specs.declared.state.State.TheVariants.{O1, O2, O3, O5, O8, O9, O10}
use Rattle.plant.specs.Lawful.{Move, own, drift, by_move, by_moves}
use Rattle.rules.proofs.Clamps.{clamped_keeps}
use Rattle.rules.specs.Clamp.{clamped}
use Rattle.rules.specs.Grant.{job_ranges, granted, code}
use Rattle.rules.specs.Row.{serving}
use Rattle.rules.specs.Schedule.{Place, window, last, owner}
use Rattle.rules.specs.declared.row.Row.{Row}
use Rattle.rules.specs.declared.settings.Settings.{Settings}
use Rattle.head.specs.Table.{row_at, place_grant, grant_in}
use Rattle.line.specs.Run.{New}
use Rattle.line.proofs.Invariant.{loud, row, Home, Good, Keeps, Spares, Allowed, Called}

-- an ONU that stays as it is
pub keeps_refl : (o : Onu) → Keeps o o
keeps_refl o = record { same = refl; kept = λ l. (l, refl) }

-- one step after another
pub keeps_trans : (a b c : Onu) → Keeps a b → Keeps b c → Keeps a c
keeps_trans a b c x y = record { same = y.same ∙ x.same; kept = λ l. let m = y.kept l in let n = x.kept m.0 in (n.0, m.1 ∙ n.1) }

-- an own event makes no ONU loud
happened_keeps : (e : OwnEvent) (o : Onu) → Keeps o (happened e o)
happened_keeps e o = record { same = grind (arith, nat_tests); kept = λ l. (grind (arith, nat_tests), grind (arith, nat_tests)) }

-- an own event or drift
move_keeps : (m : Move) (o : Onu) → Keeps o (by_move m o)
move_keeps (own e) o = happened_keeps e o
move_keeps (drift t) o = record { same = refl; kept = λ l. (l, refl) }

-- own events and drift never make an ONU loud, and change no register of a loud one
pub moves_keep : (ms : List Move) (o : Onu) → Keeps o (by_moves ms o)
moves_keep [] o = keeps_refl o
moves_keep (m ∷ ms) o = keeps_trans o (by_move m o) (by_moves ms (by_move m o)) (move_keeps m o) (moves_keep ms (by_move m o))

-- a serial number told to stop or to start again
disabled_keeps : (a : Access) (o : Onu) → Keeps o (disabled a o)
disabled_keeps a o = record { same = grind (arith, nat_tests); kept = λ l. (grind (arith, nat_tests), grind (arith, nat_tests)) }

-- a message that spares an ONU makes it silent or leaves it loud as it was
pub obeyed_keeps : (m : Downstream) (o : Onu) → Spares m o → Keeps o (obeyed m o)
obeyed_keeps NoMessage o spares = keeps_refl o
obeyed_keeps (UpstreamOverhead guard overhead delay) o spares =
    record { same = grind (arith, nat_tests); kept = λ l. (grind (arith, nat_tests), grind (arith, nat_tests)) }
obeyed_keeps (AssignPonId p serial) o spares =
    record { same = grind (arith, nat_tests); kept = λ l. (grind (arith, nat_tests), grind (arith, nat_tests)) }
obeyed_keeps (GrantAllocation p grant ploam) o spares =
    record { same = grind (arith, nat_tests); kept = λ l. (grind (arith, nat_tests), grind (arith, nat_tests)) }
obeyed_keeps (RangingTime p delay) o spares =
    record { same = grind (arith, nat_tests); kept = λ l. (grind (arith, nat_tests), grind (arith, nat_tests)) }
obeyed_keeps (DeactivatePonId to) o spares =
    record { same = grind (arith, nat_tests); kept = λ l. (grind (arith, nat_tests), grind (arith, nat_tests)) }
obeyed_keeps (DisableSerialNumber access) o spares = disabled_keeps access o
obeyed_keeps _ o spares = absurd spares

-- a mask that fits or not
masked_rigid : (fits : Bool) (o : Onu) → ((masked fits o).serial ≡ o.serial) × ((masked fits o).trip ≡ o.trip)
masked_rigid true o = (grind (arith, nat_tests), grind (arith, nat_tests))
masked_rigid false o = (grind (arith, nat_tests), grind (arith, nat_tests))

-- a serial number told to stop or to start again
disabled_rigid : (a : Access) (o : Onu) → ((disabled a o).serial ≡ o.serial) × ((disabled a o).trip ≡ o.trip)
disabled_rigid a o = (grind (arith, nat_tests), grind (arith, nat_tests))

-- a message changes neither serial number nor round trip
pub obeyed_rigid : (m : Downstream) (o : Onu) → ((obeyed m o).serial ≡ o.serial) × ((obeyed m o).trip ≡ o.trip)
obeyed_rigid (UpstreamOverhead guard overhead delay) o = (grind (arith, nat_tests), grind (arith, nat_tests))
obeyed_rigid (SerialNumberMask bits serial) o = masked_rigid (matches bits serial o) o
obeyed_rigid (AssignPonId p serial) o = (grind (arith, nat_tests), grind (arith, nat_tests))
obeyed_rigid (GrantAllocation p grant ploam) o = (grind (arith, nat_tests), grind (arith, nat_tests))
obeyed_rigid Popup o = (grind (arith, nat_tests), grind (arith, nat_tests))
obeyed_rigid (RangingTime p delay) o = (grind (arith, nat_tests), grind (arith, nat_tests))
obeyed_rigid (DeactivatePonId to) o = (grind (arith, nat_tests), grind (arith, nat_tests))
obeyed_rigid (DisableSerialNumber access) o = disabled_rigid access o
obeyed_rigid _ o = (refl, refl)

-- an own event
happened_rigid : (e : OwnEvent) (o : Onu) → (happened e o).serial ≡ o.serial
happened_rigid e o = grind (arith, nat_tests)

-- own events and drift change no serial number
pub moves_rigid : (ms : List Move) (o : Onu) → (by_moves ms o).serial ≡ o.serial
moves_rigid [] o = refl
moves_rigid (own e ∷ ms) o = moves_rigid ms (happened e o) ∙ happened_rigid e o
moves_rigid (drift t ∷ ms) o = moves_rigid ms (by_move (drift t) o)

-- a range of states, as a test and as a fact
in_range : (a b : ℕ) (o : Onu) → inside a b o ≡ true → (a ≤ number o.state) × (number o.state ≤ b)
in_range a b o e =
    let p : (nat_le a (number o.state) ≡ true) × (nat_le (number o.state) b ≡ true) = and_parts _ _ e in
    (leb-true _ _ p.0, leb-true _ _ p.1)

-- the PON_ID or code that is tested for is held
has_some : {low high : ℕ} (x : Option (Bounded low high)) (n : ℕ) → has x n ≡ true → (y : Bounded low high) × (x ≡ Some y) × (y.value ≡ n)
has_some None n e = absurd (both_ways false refl e)
has_some (Some y) n e = (y, refl, eqb-true y.value n e)

-- places that are equal as held ones have one number
some_is : (p q : Place) → ◌≡◌ {A = Option Place} (Some p) (Some q) → p.value ≡ q.value
some_is p q e = cc

-- the value of a held code that the head gave
code_given : (a : Allocation) (c : Bounded 0 252) → a.active ≡ true → code_in a ≡ Some c → c.value ≡ a.code.value
code_given a c t e = grind (arith, nat_tests)

-- no delay is 0 bits
pub no_delay_value : no_delay.value ≡ 0
unfolding nought
no_delay_value = refl

module _ (lo : ℕ → ℕ) (rows : List Row) where
  -- to a state other than O8 without PON_ID and codes
  good_lapsed : (s : State) (e d : Delay) (o : Onu) → (2 ≤ number s → e.value ≡ 0) → (3 ≤ number s → number s ≤ 7 → d.value ≡ 0)
      → (number s ≡ 8 → ⊥) → Good lo rows (lapsed s e d o)
  good_lapsed s e d o a b c =
      record {
        pre = a;
        low = b;
        high = λ x. absurd (c x);
        id = λ q x. absurd (none-some q x);
        grant = λ q x. absurd (none-some q x);
        ploam = λ q x. absurd (none-some q x);
        mute = λ x. (refl, refl);
      }

  -- to a state other than O8, all else kept
  good_moved : (s : State) (o : Onu) → Good lo rows o → (2 ≤ number s → 2 ≤ number o.state)
      → (3 ≤ number s → number s ≤ 7 → o.register.value ≡ 0) → (number s ≡ 8 → ⊥) → (number s ≤ 6 → number o.state ≤ 6) → Good lo rows (moved s o)
  good_moved s o g a b c d =
      record {
        pre = λ x. g.pre (a x);
        low = b;
        high = λ x. absurd (c x);
        id = g.id;
        grant = g.grant;
        ploam = g.ploam;
        mute = λ x. g.mute (d x);
      }

  -- an ONU starts again in O1 or O2
  good_restarted : (s : State) (o : Onu) → number s ≤ 2 → Good lo rows (restarted s o)
  good_restarted s o h = good_lapsed s no_delay o.register o (λ x. no_delay_value) (omega arith) (omega arith)

  -- an own event
  happened_good : (e : OwnEvent) (o : Onu) → Good lo rows o → Good lo rows (happened e o)
  happened_good PowerSetUp o g =
      cond_both (inside 3 4 o) _ _ (Good lo rows)
      (λ t. let k = in_range 3 4 o t in good_moved O5 o g (omega arith) (λ x y. g.low (omega arith) (omega arith)) (omega arith) (omega arith)) (λ t. g)
  happened_good SecondTimer o g = cond_both (inside 10 10 o) _ _ (Good lo rows) (λ t. good_restarted O1 o (omega arith)) (λ t. g)
  happened_good FirstTimer o g =
      cond_both (inside 5 7 o) _ _ (Good lo rows)
      (λ t. let k = in_range 5 7 o t in let z = g.pre (omega arith) in good_lapsed O3 o.preset o.preset o (λ x. z) (λ x y. z) (omega arith)) (λ t. g)
  happened_good SignalLoss o g =
      cond_both (inside 2 7 o) _ _ (Good lo rows) (λ t. good_restarted O1 o (omega arith))
      (λ t. cond_both (inside 8 8 o) _ _ (Good lo rows)
      (λ u. let k = in_range 8 8 o u in good_moved O10 o g (omega arith) (omega arith) (omega arith) (omega arith)) (λ u. g))
  happened_good SignalReturn o g = cond_both (inside 1 1 o) _ _ (Good lo rows) (λ t. good_restarted O2 o (omega arith)) (λ t. g)
  happened_good PowerLoss o g =
      cond_both (inside 9 9 o) _ _ (Good lo rows) (λ t. g)
      (λ t. good_lapsed O1 no_delay no_delay o (λ x. no_delay_value) (λ x y. no_delay_value) (omega arith))

  -- own events and drift
  pub moves_good : (ms : List Move) (o : Onu) → Good lo rows o → Good lo rows (by_moves ms o)
  moves_good [] o g = g
  moves_good (own e ∷ ms) o g = moves_good ms (happened e o) (happened_good e o g)
  moves_good (drift t ∷ ms) o g =
      moves_good ms (by_move (drift t) o)
      (record { pre = g.pre; low = g.low; high = g.high; id = g.id; grant = g.grant; ploam = g.ploam; mute = g.mute })

  -- the place's PON_ID, in O5 and O6, where no code is held
  assigned_good : (p : Bounded 0 63) (serial : Number 18446744073709551615) (o : Onu) → Home rows p.value serial.value → Good lo rows o
      → (inside 5 6 o && named serial o) ≡ true → Good lo rows (assigned p o)
  assigned_good p serial o home g t =
      let e : (inside 5 6 o ≡ true) × (named serial o ≡ true) = and_parts _ _ t in
      let k = in_range 5 6 o e.0 in
      let m = g.mute (omega arith) in
      let same : serial.value ≡ o.serial.value = eqb-true _ _ e.1 in
      record {
        pre = g.pre;
        low = g.low;
        high = g.high;
        id = λ q x. subst (λ n. Home rows n o.serial.value) (some_is p q x) (subst (Home rows p.value) same home);
        grant = λ c x. absurd (none-some c (sym m.0 ∙ x));
        ploam = λ c x. absurd (none-some c (sym m.1 ∙ x));
        mute = g.mute;
      }

  -- the codes of the place whose PON_ID is held
  allocated_good : (p : Bounded 0 63) (grant ploam : Allocation) (o : Onu) → Allowed lo rows (GrantAllocation p grant ploam) → Good lo rows o
      → (inside 5 6 o && has o.id p.value) ≡ true → Good lo rows (allocated grant ploam o)
  allocated_good p grant ploam o a g t =
      let e : (inside 5 6 o ≡ true) × (has o.id p.value ≡ true) = and_parts _ _ t in
      let k = in_range 5 6 o e.0 in
      let h = has_some o.id p.value e.1 in
      record {
        pre = λ x. g.pre (omega arith);
        low = λ x y. g.low (omega arith) (omega arith);
        high = λ (x : 7 ≡ 8). absurd (omega arith);
        id = g.id;
        grant = λ c x. (h.0, h.1, code_given grant c a.0 x ∙ a.1 ∙ sym h.2);
        ploam = λ c x. (h.0, h.1, code_given ploam c a.2 x ∙ a.3 ∙ ap (λ n. 64 + n) (sym h.2));
        mute = λ (x : 7 ≤ 6). absurd (omega arith);
      }

  -- a delay that the place's least round trip bears
  delayed_good : (p : Bounded 0 63) (d : Delay) (o : Onu) → d.value + lo (row rows p.value).serial.value ≤ 35392 → Good lo rows o
      → (inside 7 8 o && has o.id p.value) ≡ true → Good lo rows (delayed O8 d o)
  delayed_good p d o a g t =
      let e : (inside 7 8 o ≡ true) × (has o.id p.value ≡ true) = and_parts _ _ t in
      let k = in_range 7 8 o e.0 in
      let h = has_some o.id p.value e.1 in
      let home : Home rows p.value o.serial.value = subst (λ n. Home rows n o.serial.value) h.2 (g.id h.0 h.1) in
      record {
        pre = λ x. g.pre (omega arith);
        low = λ (x : 3 ≤ 8) (y : 8 ≤ 7). absurd (omega arith);
        high = λ x. subst (λ n. d.value + lo n ≤ 35392) home.serial a;
        id = g.id;
        grant = g.grant;
        ploam = g.ploam;
        mute = λ (x : 8 ≤ 6). absurd (omega arith);
      }

  -- a serial number told to stop or to start again
  disabled_good : (a : Access) (o : Onu) → Good lo rows o → Good lo rows (disabled a o)
  disabled_good (Deny serial) o g =
      cond_both (inside 2 8 o && named serial o) _ _ (Good lo rows)
      (λ t. let e : (inside 2 8 o ≡ true) × (named serial o ≡ true) = and_parts _ _ t in let k = in_range 2 8 o e.0 in
      good_lapsed O9 o.preset o.register o (λ x. g.pre (omega arith)) (omega arith) (omega arith)) (λ t. g)
  disabled_good AllowAll o g = cond_both (inside 9 9 o) _ _ (Good lo rows) (λ t. good_restarted O1 o (omega arith)) (λ t. g)
  disabled_good (Allow serial) o g =
      cond_both (inside 9 9 o && named serial o) _ _ (Good lo rows) (λ t. good_restarted O1 o (omega arith)) (λ t. g)

  -- a message that the head may say
  pub obeyed_good : (m : Downstream) (o : Onu) → Allowed lo rows m → Good lo rows o → Good lo rows (obeyed m o)
  obeyed_good NoMessage o allowed g = g
  obeyed_good (UpstreamOverhead guard overhead delay) o allowed g =
      cond_both (inside 2 2 o) _ _ (Good lo rows) (λ t. good_lapsed O3 delay delay o (λ x. allowed) (λ x y. allowed) (omega arith)) (λ t. g)
  obeyed_good (AssignPonId p serial) o allowed g =
      cond_both (inside 5 6 o && named serial o) _ _ (Good lo rows) (assigned_good p serial o allowed g) (λ t. g)
  obeyed_good (GrantAllocation p grant ploam) o allowed g =
      cond_both (inside 5 6 o && has o.id p.value) _ _ (Good lo rows) (allocated_good p grant ploam o allowed g) (λ t. g)
  obeyed_good (RangingTime p delay) o allowed g =
      cond_both (inside 7 8 o && has o.id p.value) _ _ (Good lo rows) (delayed_good p delay o allowed g) (λ t. g)
  obeyed_good (DeactivatePonId to) o allowed g =
      cond_both (inside 3 8 o && meant to o) _ _ (Good lo rows) (λ t. good_restarted O2 o (omega arith)) (λ t. g)
  obeyed_good (DisableSerialNumber access) o allowed g = disabled_good access o g
  obeyed_good _ o allowed g = absurd allowed

-- the register of a loud ONU never makes a burst later than a quarter of the guard
pub loud_low : (lo : ℕ → ℕ) (rows : List Row) (o : Onu) → lo o.serial.value ≤ 35392 → Good lo rows o → loud o ≡ true
    → o.register.value + lo o.serial.value ≤ 35392
loud_low lo rows o top g l =
    let k = in_range 7 8 o l in
    ⊎_elim (λ (x : number o.state < 8). let z : o.register.value ≡ 0 = g.low (omega arith) (omega arith) in omega arith)
    (λ (x : 8 ≤ number o.state). g.high (omega arith)) (cases_lt (number o.state) 8)

-- nobody answers an idle grant
pub idle_unanswered : (o : Onu) (k : Kind) → kind_for (grant_of 255) o ≡ Some k → ⊥
idle_unanswered o k e = none-some k (subst (λ g. kind_for g o ≡ Some k) (grant_again Idle) e)

-- an ONU that answers the code c, and its place
record Bearer (rows : List Row) (c : ℕ) (o : Onu) : Type 0 where
  heard : loud o ≡ true
  place : Place
  home : Home rows place.value o.serial.value
  code : (c ≡ place.value) ⊎ (c ≡ 64 + place.value)

-- the two codes of two places differ
same_place : (c : ℕ) (p q : Place) → (c ≡ 64 + p.value) ⊎ (c ≡ p.value) → (c ≡ q.value) ⊎ (c ≡ 64 + q.value) → q.value ≡ p.value
same_place c p q a b = grind arith

-- a place's code is the one for PLOAM cells or the one for data cells
code_is : (F X : ℕ) (p : Place) → (code F X p ≡ 64 + p.value) ⊎ (code F X p ≡ p.value)
code_is F X p = cases_cond (window F X || X == 1) (64 + p.value) p.value (code F X p) refl

-- a place's code is ordinary
code_fits : (c : ℕ) (p : Place) → (c ≡ 64 + p.value) ⊎ (c ≡ p.value) → c ≤ 252
code_fits c p h = grind arith

-- in a window only its last slot is granted, elsewhere only to an ONU in service
granted_way : (w l j s : Bool) → cond w (l && j) s ≡ true → ((w ≡ false) × (s ≡ true)) ⊎ (l ≡ true)
granted_way true l j s e = inr (and_parts l j e).0
granted_way false l j s e = inl (refl, e)

module _ (lo : ℕ → ℕ) (rows : List Row) (o : Onu) (k : Kind) (g : Good lo rows o) where
  -- a data code that is held
  data_answered : (c : Bounded 0 252) → (inside 8 8 o && holds_code o.grant c) ≡ true → Bearer rows c.value o
  data_answered c t =
      let e : (inside 8 8 o ≡ true) × (has o.grant c.value ≡ true) = and_parts _ _ t in
      let h = has_some o.grant c.value e.1 in
      let i = g.grant h.0 h.1 in
      record { heard = grind (arith, nat_tests); place = i.0; home = g.id i.0 i.1; code = inl (sym h.2 ∙ i.2) }

  -- a PLOAM code that is held
  ploam_answered : (c : Bounded 0 252) → (inside 7 8 o && holds_code o.ploam c) ≡ true → Bearer rows c.value o
  ploam_answered c t =
      let e : (inside 7 8 o ≡ true) × (has o.ploam c.value ≡ true) = and_parts _ _ t in
      let h = has_some o.ploam c.value e.1 in
      let i = g.ploam h.0 h.1 in
      record { heard = e.0; place = i.0; home = g.id i.0 i.1; code = inr (sym h.2 ∙ i.2) }

  -- who answers a code is a bearer of it
  code_answered : (c : Bounded 0 252) → kind_for (Code c) o ≡ Some k → Bearer rows c.value o
  code_answered c =
      cond_both (inside 8 8 o && holds_code o.grant c) _ _ (λ x. x ≡ Some k → Bearer rows c.value o) (λ t e. data_answered c t)
      (λ t. cond_both (inside 7 8 o && holds_code o.ploam c) _ _ (λ x. x ≡ Some k → Bearer rows c.value o) (λ u e. ploam_answered c u)
      (λ u e. absurd (none-some k e)))

  -- the code of p is answered at home in p
  place_answered : (F X : ℕ) (p : Place) → kind_for (Code (clamped 252 (code F X p))) o ≡ Some k → (loud o ≡ true) × Home rows p.value o.serial.value
  place_answered F X p e =
      let b = code_answered (clamped 252 (code F X p)) e in
      let i = code_is F X p in
      let f = clamped_keeps 252 (code F X p) (code_fits (code F X p) p i) in
      let q = same_place (code F X p) p b.place i (subst (λ n. (n ≡ b.place.value) ⊎ (n ≡ 64 + b.place.value)) f b.code) in
      (b.heard, subst (λ n. Home rows n o.serial.value) q b.home)

  -- what the slot's owner is granted is answered by that place's ONU
  owner_called : (s : Settings) (F X : ℕ) (w : Option Place) → owner s F X ≡ w → kind_for (place_grant F X rows w) o ≡ Some k → Called s rows F X o
  owner_called s F X None i e = absurd (none-some k e)
  owner_called s F X (Some p) i f =
      cond_both (granted F X (row_at rows p)) _ _ (λ x. kind_for x o ≡ Some k → Called s rows F X o)
      (λ t e.
      let a = place_answered F X p e in
      let way = granted_way (window F X) (last F X) (job_ranges (row_at rows p).running) (serving (row_at rows p)) t in
      record { loud = a.0; place = p; owned = i; home = a.1; kind = way })
      (λ t e. absurd (none-some k e)) f

-- who answers the grant of X of frame F
pub called : (lo : ℕ → ℕ) (s : Settings) (rows : List Row) (F X : ℕ) (o : Onu) (k : Kind) → Good lo rows o
    → kind_for (grant_in s rows F X) o ≡ Some k → Called s rows F X o
called lo s rows F X o k g e = owner_called lo rows o k g s F X (owner s F X) refl e

-- an ONU that was never switched on
pub new_good : (lo : ℕ → ℕ) (rows : List Row) (o : Onu) → New o → Good lo rows o
new_good lo rows o n =
    let one : number o.state ≡ 1 = ap number n.first in
    record {
      pre = λ x. absurd (omega arith);
      low = λ x y. absurd (omega arith);
      high = λ x. absurd (omega arith);
      id = λ q e. let f = sym n.nobody ∙ e in absurd cc;
      grant = λ c e. let f = sym n.mute.0 ∙ e in absurd cc;
      ploam = λ c e. let f = sym n.mute.1 ∙ e in absurd cc;
      mute = λ _. n.mute;
    }
