-- A cell heard, taken apart: who answered, and what each ONU then is.
use Rattle.std.proofs.Common.{◌≡◌, ◌≢◌, ℕ, suc, ◌+◌, ◌*◌, ◌<◌, Bool, true, false, cond, List, [], ◌∷◌, get_or, length, All, Some, None, Option, inl, inr, refl, sym, ap, ◌∙◌, subst, arith}
use Rattle.std.proofs.lemmas.Bool.{cond_both}
use Rattle.std.proofs.lemmas.List.Elements.{All-nil, All-cons}
use Rattle.std.proofs.lemmas.List.Kept.{AllPairs-cons}
use Rattle.field.specs.Grant.{grant_of}
use Rattle.field.specs.declared.octets.Octets.{Octets}
use Rattle.message.specs.declared.downstream.Downstream.{Downstream}
use Rattle.onu.specs.Answer.{kind_for}
use Rattle.onu.specs.Onu.{obeyed}
use Rattle.onu.specs.declared.answer.Kind.{Kind}
use Rattle.onu.specs.declared.state.Onu.{Onu}
use Rattle.plant.specs.Lawful.{Move, Choice, by_moves, answer_to, answers, Hears, none, more, acted, leaves, sends, Drifts, still, next}
use Rattle.plant.specs.declared.burst.Burst.{Burst}
use Rattle.line.specs.Run.{Distinct}
use Rattle.line.proofs.Invariant.{Among, here, there}
use Rattle.line.proofs.Acts.{moves_rigid, obeyed_rigid}
use Rattle.line.proofs.Bursts.{among_one, among_none, among_append, all_among}

-- a burst is the answer to one of the grants
pub record Answered (o : Onu) (n : ℕ) (gs : List ℕ) (b : Burst) : Type 0 where
  pub i : ℕ
  pub inside : i < length gs
  pub slot : b.slot ≡ n + i
  pub kind : Kind
  pub code : kind_for (grant_of (get_or gs i 255)) o ≡ Some kind
  pub start : b.start ≡ 448 * b.slot + o.trip.value + o.register.value
  pub serial : b.serial ≡ o.serial

-- one grant further
later : (o : Onu) (n g : ℕ) (gs : List ℕ) (b : Burst) → Answered o (suc n) gs b → Answered o n (g ∷ gs) b
later o n g gs b a =
    record { i = suc a.i; inside = omega (arith, a.inside); slot = omega (arith, a.slot); kind = a.kind; code = a.code; start = a.start; serial = a.serial }

-- the answer to the first grant
first : (free : Octets 12) (o : Onu) (n g : ℕ) (gs : List ℕ) (b : Burst) (k : Option Kind) → kind_for (grant_of g) o ≡ k → Among b (answer_to k free o n)
    → Answered o n (g ∷ gs) b
first free o n g gs b None e m = absurd (among_none m)
first free o n g gs b (Some k) e m =
    elim (among_one m) [
      | inl x ↦ subst (Answered o n (g ∷ gs)) (sym x) (record { i = 0; inside = omega arith; slot = omega arith; kind = k; code = e; start = refl; serial = refl })
      | inr x ↦ absurd (among_none x)
    ]

-- each burst of an ONU's answers is one
pub answered : (says : ℕ → Octets 12) (o : Onu) (n : ℕ) (gs : List ℕ) (b : Burst) → Among b (answers says o n gs) → Answered o n gs b
unfolding answers
answered says o n [] b m = absurd (among_none m)
answered says o n (g ∷ gs) b m =
    elim (among_append (answer_to (kind_for (grant_of g) o) (says n) o n) (answers says o (suc n) gs) m) [
      | inl x ↦ first (says n) o n g gs b (kind_for (grant_of g) o) refl x
      | inr x ↦ later o n g gs b (answered says o (suc n) gs b x)
    ]

-- the ONU that spoke: what it was when it answered, and what it is then
pub record Spoke (n : ℕ) (gs : List ℕ) (m : Downstream) (o o' : Onu) (b : Burst) : Type 0 where
  pub before : List Move
  pub after : o' ≡ obeyed m (by_moves before o)
  pub answer : Answered (by_moves before o) n gs b

-- who sent a burst did not lose the cell
spoke_if : (n : ℕ) (gs : List ℕ) (m : Downstream) (o : Onu) (ms : List Move) (says : ℕ → Octets 12) (b : Burst) (loses : Bool)
    → Among b (cond loses [] (answers says (by_moves ms o) n gs)) → Spoke n gs m o (cond loses (by_moves ms o) (obeyed m (by_moves ms o))) b
spoke_if n gs m o ms says b true i = absurd (among_none i)
spoke_if n gs m o ms says b false i = record { before = ms; after = refl; answer = answered says (by_moves ms o) n gs b i }

pub spoke : (n : ℕ) (gs : List ℕ) (m : Downstream) (o : Onu) (c : Choice) (b : Burst) → Among b (sends c n gs o)
    → Spoke n gs m o (leaves c (Some m) o) b
spoke n gs m o c b i = spoke_if n gs m o c.before c.says b c.loses i

-- an ONU after the cell, and the one that it was
pub heard_by : {n : ℕ} {gs : List ℕ} {m : Option Downstream} {os os' : List Onu} {bs : List Burst} {o' : Onu}
    → Hears n gs m os os' bs → Among o' os' → (o : Onu) × (c : Choice) × Among o os × (o' ≡ leaves c m o)
heard_by none i = absurd (among_none i)
heard_by (more {o = o} c h) i =
    elim (among_one i) [ inl e ↦ (o, c, here, e) | inr j ↦ (let w = heard_by h j in (w.0, w.1, there w.2, w.3)) ]

-- a burst, and the ONU that sent it
pub burst_by : {n : ℕ} {gs : List ℕ} {m : Downstream} {os os' : List Onu} {bs : List Burst} {b : Burst}
    → Hears n gs (Some m) os os' bs → Among b bs → (o : Onu) × (o' : Onu) × Among o os × Among o' os' × Spoke n gs m o o' b
burst_by none i = absurd (among_none i)
burst_by {n} {gs} {m} {b = b} (more {o = o} {bs = bs} c h) i =
    elim (among_append (sends c n gs o) bs i) [
      | inl j ↦ (o, leaves c (Some m) o, here, here, spoke n gs m o c b j)
      | inr j ↦ (let w = burst_by h j in (w.0, w.1, there w.2, there w.3, w.4))
    ]

-- neither own events nor a message change a serial number
leaves_rigid : (c : Choice) (m : Option Downstream) (o : Onu) → (leaves c m o).serial ≡ o.serial
leaves_rigid c m o =
    cond_both c.loses (by_moves c.before o) (acted m (by_moves c.before o)) (λ x. x.serial ≡ o.serial)
    (λ _. moves_rigid c.before o) (λ _. acted_rigid m (by_moves c.before o) ∙ moves_rigid c.before o)
  where
    acted_rigid : (m : Option Downstream) (x : Onu) → (acted m x).serial ≡ x.serial
    acted_rigid None x = refl
    acted_rigid (Some m) x = (obeyed_rigid m x).0

-- what holds of each holds of all elements
all_from_among : {A : Type 0} (P : A → Type 0) (xs : List A) → ((x : A) → Among x xs → P x) → All P xs
all_from_among P [] h = All-nil P
all_from_among P (x ∷ xs) h = All-cons P x xs (h x here) (all_from_among P xs (λ y m. h y (there m)))

-- the first of several is none of the others
pub first_other : (o a : Onu) (os : List Onu) → Distinct (o ∷ os) → Among a os → o.serial.value ≡ a.serial.value → ⊥
first_other o a os d i = all_among (λ x. o.serial.value ≢ x.serial.value) i (λ k e within. d 0 (suc k) e (omega arith) (omega arith))

-- the others are distinct among themselves
pub distinct_rest : (o : Onu) (os : List Onu) → Distinct (o ∷ os) → Distinct os
distinct_rest o os d i j e lt within = d (suc i) (suc j) e (omega arith) (omega arith)

-- one more that is none of the others
distinct-cons : (o : Onu) (os : List Onu) → ((a : Onu) → Among a os → o.serial.value ≢ a.serial.value) → Distinct os → Distinct (o ∷ os)
distinct-cons o os h d = AllPairs-cons (λ a b. a.serial.value ≢ b.serial.value) o os (all_from_among (λ a. o.serial.value ≢ a.serial.value) os h) d

-- serial numbers stay, so they stay distinct
pub distinct_heard : {n : ℕ} {gs : List ℕ} {m : Option Downstream} {os os' : List Onu} {bs : List Burst}
    → Hears n gs m os os' bs → Distinct os → Distinct os'
distinct_heard none d = d
distinct_heard {m = m} (more {o = o} {os = os} {os' = os'} c h) d =
    distinct-cons (leaves c m o) os'
    (λ a i e. let w = heard_by h i in
    first_other o w.0 os d w.2 (ap (λ s. s.value) (sym (leaves_rigid c m o)) ∙ e ∙ ap (λ x. x.serial.value) w.3 ∙ ap (λ s. s.value) (leaves_rigid w.1 m w.0)))
    (distinct_heard h (distinct_rest o os d))

-- one serial number, one ONU
pub only_one : {a b : Onu} {os : List Onu} → Among a os → Among b os → Distinct os → a.serial.value ≡ b.serial.value → a ≡ b
only_one {a} {b} (here {xs = os}) j d e =
    elim (among_one j) [ inl x ↦ sym x | inr k ↦ absurd (first_other a b os d k e) ]
only_one {a} {b} (there {y = o} {xs = os} i) j d e =
    elim (among_one j) [
      | inl x ↦ absurd (first_other o a os d i (ap (λ y. y.serial.value) (sym x) ∙ sym e))
      | inr k ↦ only_one i k (distinct_rest o os d) e
    ]

-- between cells
pub drift_by : {os os' : List Onu} {o' : Onu} → Drifts os os' → Among o' os' → (o : Onu) × (ms : List Move) × Among o os × (o' ≡ by_moves ms o)
drift_by still i = absurd (among_none i)
drift_by (next {o = o} ms h) i =
    elim (among_one i) [ inl e ↦ (o, ms, here, e) | inr j ↦ (let w = drift_by h j in (w.0, w.1, there w.2, w.3)) ]

-- between cells serial numbers stay too
pub distinct_drift : {os os' : List Onu} → Drifts os os' → Distinct os → Distinct os'
distinct_drift still d = d
distinct_drift (next {o = o} {os = os} {os' = os'} ms h) d =
    distinct-cons (by_moves ms o) os'
    (λ a i e. let w = drift_by h i in
    first_other o w.0 os d w.2 (ap (λ s. s.value) (sym (moves_rigid ms o)) ∙ e ∙ ap (λ x. x.serial.value) w.3 ∙ ap (λ s. s.value) (moves_rigid w.1 w.0)))
    (distinct_drift h (distinct_rest o os d))
