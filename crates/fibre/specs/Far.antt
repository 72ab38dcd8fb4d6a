-- A lawful plant behind a length of fibre is one.
use Rattle.std.specs.Prelude.{◌≡◌, ℕ, suc, ◌+◌, ◌-◌, ◌*◌, ◌<◌, ◌≤◌, min, Bool, true, false, cond, ◌&&◌, List, [], ◌∷◌, ◌++◌, map, length, Some, None, Option}
use native.Mathlib.Omega.{arith}
use Rattle.std.proofs.Math.Path.{refl, sym, ap}
use Rattle.std.proofs.Common.{subst, ◌∙◌}
use Rattle.std.proofs.lemmas.List.{length-map, map-append}
use Rattle.field.specs.Grant.{grant_of}
use Rattle.field.specs.Number.{capped}
use Rattle.field.specs.declared.grant.Grant.{Grant}
use Rattle.field.specs.declared.grant.Grant.TheVariants.{Code, Ranging, Unassigned, Idle}
use Rattle.field.specs.declared.number.Number.{Number}
use Rattle.field.specs.declared.octets.Octets.{Octets}
use Rattle.message.specs.declared.downstream.Access.{Access}
use Rattle.message.specs.declared.downstream.Access.TheVariants.{Deny, AllowAll, Allow}
use Rattle.message.specs.declared.downstream.Address.TheVariants.{One, All}
use Rattle.message.specs.declared.downstream.Downstream.{Downstream}
use Rattle.message.specs.declared.downstream.Downstream.TheVariants.{UpstreamOverhead, RangingTime, SerialNumberMask, AssignPonId, DeactivatePonId, DisableSerialNumber, GrantAllocation, Popup}
use Rattle.field.specs.Delay.{no_delay}
use Rattle.onu.specs.Answer.{kind_for, number_octets, said_by}
use Rattle.onu.specs.Facts.{sound}
use Rattle.onu.specs.Onu.{inside, has, named, matches, moved, lapsed, restarted, readied, assigned, allocated, delayed, masked, disabled, obeyed, happened}
use Rattle.onu.specs.declared.answer.Kind.{Kind}
use Rattle.onu.specs.declared.event.OwnEvent.{OwnEvent}
use Rattle.onu.specs.declared.event.OwnEvent.TheVariants.{SignalLoss, SignalReturn, PowerSetUp, FirstTimer, SecondTimer, PowerLoss}
use Rattle.onu.specs.declared.state.Onu.{Onu}
use Rattle.onu.specs.declared.state.State.TheVariants.{O1, O2, O4, O5, O6, O7, O8, O9, O10}
use Rattle.plant.proofs.Lists.{drifts_twice}
use Rattle.plant.proofs.Rows.{heard-length}
use Rattle.plant.specs.Heard.{heard_grants}
use Rattle.plant.specs.Lawful.{Move, own, drift, by_move, by_moves, burst_of, answer_to, answers, acted, Choice, leaves, sends, Hears, none, more, HearsCell, all_sound, Does, Lawful, Drifts, still, next, slot_limit}
use Rattle.plant.specs.declared.burst.Burst.{Burst}
use Rattle.fibre.specs.Fibre.{longer, far, farther, FibreDoes}

module _ (b : ℕ) where
  either : (v : Bool) (x y : Onu) → cond v (far b x) (far b y) ≡ far b (cond v x y)
  either true x y = refl
  either false x y = refl

  three : (v w : Bool) (x y z : Onu) → cond v (far b x) (cond w (far b y) (far b z)) ≡ far b (cond v x (cond w y z))
  three true w x y z = refl
  three false w x y z = either w y z

  -- nothing that moves an ONU looks at its round trip
  happened_far : (e : OwnEvent) (o : Onu) → happened e (far b o) ≡ far b (happened e o)
  happened_far PowerSetUp o = either (inside 3 4 o) (moved O5 o) o
  happened_far SecondTimer o = either (inside 10 10 o) (restarted O1 o) o
  happened_far FirstTimer o = either (inside 5 7 o) (readied o.preset o) o
  happened_far SignalLoss o = three (inside 2 7 o) (inside 8 8 o) (restarted O1 o) (moved O10 o) o
  happened_far SignalReturn o = either (inside 1 1 o) (restarted O2 o) o
  happened_far PowerLoss o = either (inside 9 9 o) o (lapsed O1 no_delay no_delay o)

  masked_far : (v : Bool) (o : Onu) → masked v (far b o) ≡ far b (masked v o)
  masked_far true o = three (inside 3 3 o) (inside 5 5 o) (moved O4 o) (moved O6 o) o
  masked_far false o = three (inside 4 4 o) (inside 6 6 o) (readied o.preset o) (moved O5 o) o

  disabled_far : (a : Access) (o : Onu) → disabled a (far b o) ≡ far b (disabled a o)
  disabled_far (Deny serial) o = either (inside 2 8 o && named serial o) (lapsed O9 o.preset o.register o) o
  disabled_far AllowAll o = either (inside 9 9 o) (restarted O1 o) o
  disabled_far (Allow serial) o = either (inside 9 9 o && named serial o) (restarted O1 o) o

  obeyed_far : (m : Downstream) (o : Onu) → obeyed m (far b o) ≡ far b (obeyed m o)
  obeyed_far (UpstreamOverhead guard overhead delay) o = either (inside 2 2 o) (readied delay o) o
  obeyed_far (SerialNumberMask bits serial) o = masked_far (matches bits serial o) o
  obeyed_far (AssignPonId p serial) o = either (inside 5 6 o && named serial o) (assigned p o) o
  obeyed_far (GrantAllocation p grant ploam) o = either (inside 5 6 o && has o.id p.value) (allocated grant ploam o) o
  obeyed_far Popup o = either (inside 10 10 o) (delayed O7 o.preset o) o
  obeyed_far (RangingTime p delay) o = either (inside 7 8 o && has o.id p.value) (delayed O8 delay o) o
  obeyed_far (DeactivatePonId (One p)) o = either (inside 3 8 o && has o.id p.value) (restarted O2 o) o
  obeyed_far (DeactivatePonId All) o = either (inside 3 8 o && true) (restarted O2 o) o
  obeyed_far (DisableSerialNumber access) o = disabled_far access o
  obeyed_far _ o = refl

  acted_far : (m : Option Downstream) (o : Onu) → acted m (far b o) ≡ far b (acted m o)
  acted_far None o = refl
  acted_far (Some m) o = obeyed_far m o

  -- a move behind the fibre, as it is seen over it
  abbrev seen : Move → Move
  seen (own e) = own e
  seen (drift t) = drift (longer b t)

  move_far : (m : Move) (o : Onu) → by_move (seen m) (far b o) ≡ far b (by_move m o)
  move_far (own e) o = happened_far e o
  move_far (drift t) o = refl

  moves_far : (ms : List Move) (o : Onu) → by_moves (map seen ms) (far b o) ≡ far b (by_moves ms o)
  moves_far [] o = refl
  moves_far (m ∷ ms) o = ap (by_moves (map seen ms)) (move_far m o) ∙ moves_far ms (by_move m o)

  -- the same grants are answered, as much later as the fibre is long
  kind_far : (g : Grant) (o : Onu) → kind_for g (far b o) ≡ kind_for g o
  kind_far (Code c) o = refl
  kind_far Ranging o = refl
  kind_far Unassigned o = refl
  kind_far Idle o = refl

  said_far : (free : Octets 12) (o : Onu) → said_by free (far b o) ≡ said_by free o
  unfolding number_octets
  said_far free o = refl

  longer_more : (t : Number 1000000) → t.value ≤ (longer b t).value
  unfolding capped
  longer_more t = omega arith

  longer_bound : (t : Number 1000000) → (longer b t).value ≤ 1000000
  longer_bound t = (longer b t).high

  start_far : (n : ℕ) (o : Onu) → n < 15000000000000000
      → 448 * n + (longer b o.trip).value + o.register.value ≡ min (448 * n + o.trip.value + o.register.value + ((longer b o.trip).value - o.trip.value)) 18446744073709551615
  start_far n o h =
      let k : o.trip.value ≤ (longer b o.trip).value = longer_more o.trip in
      let l : (longer b o.trip).value ≤ 1000000 = longer_bound o.trip in
      let r : o.register.value ≤ 32000 = o.register.high in
      omega arith

  later : Kind → Octets 12 → Onu → ℕ → ℕ → Octets 12 → Burst
  later k free o n start message = record { serial = o.serial; slot = n; start = start; trip = longer b o.trip; kind = k; message = message }

  burst_far : (k : Kind) (free : Octets 12) (o : Onu) (n : ℕ) → n < 15000000000000000 → burst_of k free (far b o) n ≡ farther b (burst_of k free o n)
  unfolding later
  burst_far k free o n h = ap (λ (s : ℕ). later k free o n s (said_by free (far b o))) (start_far n o h) ∙ ap (later k free o n _) (said_far free o)

  answer_far : (k : Option Kind) (free : Octets 12) (o : Onu) (n : ℕ) → n < 15000000000000000 → answer_to k free (far b o) n ≡ map (farther b) (answer_to k free o n)
  answer_far None free o n h = refl
  answer_far (Some k) free o n h = ap (λ (x : Burst). x ∷ []) (burst_far k free o n h)

  answers_far : (says : ℕ → Octets 12) (o : Onu) (n : ℕ) (gs : List ℕ) → n + length gs < 15000000000000000 → answers says (far b o) n gs ≡ map (farther b) (answers says o n gs)
  unfolding answers
  answers_far says o n [] h = refl
  answers_far says o n (g ∷ gs) h =
      let e : answer_to (kind_for (grant_of g) (far b o)) (says n) (far b o) n ≡ map (farther b) (answer_to (kind_for (grant_of g) o) (says n) o n) =
      ap (λ (k : Option Kind). answer_to k (says n) (far b o) n) (kind_far (grant_of g) o) ∙ answer_far (kind_for (grant_of g) o) (says n) o n (omega arith) in
      let f : answers says (far b o) (suc n) gs ≡ map (farther b) (answers says o (suc n) gs) = answers_far says o (suc n) gs (omega arith) in
      ap (λ (x : List Burst). x ++ answers says (far b o) (suc n) gs) e
      ∙ ap (λ (x : List Burst). map (farther b) (answer_to (kind_for (grant_of g) o) (says n) o n) ++ x) f
      ∙ sym (map-append (farther b) (answer_to (kind_for (grant_of g) o) (says n) o n) (answers says o (suc n) gs))

  -- the same choice, seen over the fibre
  over : Choice → Choice
  over c = record c { before = map seen c.before }

  leaves_case : (v : Bool) (m : Option Downstream) (x y : Onu) → x ≡ far b y → cond v x (acted m x) ≡ far b (cond v y (acted m y))
  leaves_case true m x y e = e
  leaves_case false m x y e = ap (acted m) e ∙ acted_far m y

  leaves_far : (c : Choice) (m : Option Downstream) (o : Onu) → leaves (over c) m (far b o) ≡ far b (leaves c m o)
  unfolding over
  leaves_far c m o = leaves_case c.loses m (by_moves (map seen c.before) (far b o)) (by_moves c.before o) (moves_far c.before o)

  sends_case : (v : Bool) (xs ys : List Burst) → xs ≡ map (farther b) ys → cond v [] xs ≡ map (farther b) (cond v [] ys)
  sends_case true xs ys e = refl
  sends_case false xs ys e = e

  sends_far : (c : Choice) (n : ℕ) (gs : List ℕ) (o : Onu) → n + length gs < 15000000000000000 → sends (over c) n gs (far b o) ≡ map (farther b) (sends c n gs o)
  unfolding over
  sends_far c n gs o h =
      sends_case c.loses (answers c.says (by_moves (map seen c.before) (far b o)) n gs) (answers c.says (by_moves c.before o) n gs)
      (ap (λ (x : Onu). answers c.says x n gs) (moves_far c.before o) ∙ answers_far c.says (by_moves c.before o) n gs h)

  pub hears_far : {n : ℕ} {gs : List ℕ} {m : Option Downstream} {xs xs' : List Onu} {bs : List Burst} → n + length gs < 15000000000000000 → Hears n gs m xs xs' bs
      → Hears n gs m (map (far b) xs) (map (far b) xs') (map (farther b) bs)
  hears_far h none = none
  hears_far {n} {gs} {m} h (more {o = o} {os = os} {os' = os'} {bs = bs} c k) =
      subst (λ (x : Onu). Hears n gs m (far b o ∷ map (far b) os) (x ∷ map (far b) os') (map (farther b) (sends c n gs o ++ bs))) (leaves_far c m o)
      (subst (λ (ws : List Burst). Hears n gs m (far b o ∷ map (far b) os) (leaves (over c) m (far b o) ∷ map (far b) os') ws)
      (ap (λ (x : List Burst). x ++ map (farther b) bs) (sends_far c n gs o h) ∙ sym (map-append (farther b) (sends c n gs o) bs))
      (more (over c) (hears_far h k)))

  pub drifts_far : {xs xs' : List Onu} → Drifts xs xs' → Drifts (map (far b) xs) (map (far b) xs')
  drifts_far still = still
  drifts_far (next {o = o} {os = os} {os' = os'} ms h) =
      subst (λ (x : Onu). Drifts (far b o ∷ map (far b) os) (x ∷ map (far b) os')) (moves_far ms o) (next (map seen ms) (drifts_far h))

  drifts_length : (c : ℕ) (xs : List Onu) → Drifts (map (far b) xs) (map (far c) xs)
  drifts_length c [] = still
  drifts_length c (x ∷ xs) = next (drift (longer c x.trip) ∷ []) (drifts_length c xs)

  -- the fibre has another length afterwards
  pub drifts_over : (c : ℕ) {xs xs' : List Onu} → Drifts xs xs' → Drifts (map (far b) xs) (map (far c) xs')
  drifts_over c {xs' = xs'} h = drifts_twice (drifts_far h) (drifts_length c xs')

  carry : (v w x : Bool) → (w ≡ true → x ≡ true) → (v && w) ≡ true → (v && x) ≡ true
  carry true w x h k = h k
  carry false w x h k = k

  pub sound_far : (xs : List Onu) → all_sound xs ≡ true → all_sound (map (far b) xs) ≡ true
  sound_far [] h = refl
  sound_far (x ∷ xs) h = carry (sound x) (all_sound xs) (all_sound (map (far b) xs)) (sound_far xs) h

  pub few_far : (xs : List Onu) → length xs ≤ 64 → length (map (far b) xs) ≤ 64
  few_far xs h = simp length-map h

module _ {X : Type 0} (means : X → List Onu) (D : Does X) where
  pub fibre_lawful : Lawful means D → (x y : X) (d e : Number 32000) (p : List ℕ) (f : ℕ) (new : List Burst) → length p ≡ 48 → f < slot_limit → FibreDoes D x d p f y e new
      → HearsCell p f (map (far d.value) (means x)) (map (far e.value) (means y)) new
  fibre_lawful law x y d e p f new l h (old, k, i, j) =
      let len : length (heard_grants p) ≡ 27 = heard-length p l in
      let a : HearsCell p f (map (far d.value) (means x)) (map (far d.value) (means y)) (map (farther d.value) old) =
      hears_far d.value (omega arith) (law x y p f old l h k) in
      subst (λ (z : Number 32000). HearsCell p f (map (far d.value) (means x)) (map (far z.value) (means y)) new) (sym j)
      (subst (λ (bs : List Burst). HearsCell p f (map (far d.value) (means x)) (map (far d.value) (means y)) bs) (sym i) a)
