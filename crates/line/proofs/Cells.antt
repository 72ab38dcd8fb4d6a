-- What one cell of a frame keeps of the invariant.
use Rattle.std.proofs.Common.{◌≡◌, ℕ, suc, ◌+◌, ◌*◌, ◌/◌, ◌%◌, ◌<◌, ◌≤◌, Bool, true, false, cond, List, [], ◌∷◌, ◌++◌, get_or, length, Some, None, Option, ◌⊎◌, inl, inr, sym, ap, ◌∙◌, subst, arith}
use Rattle.std.proofs.Math.Logic.{⊎_elim}
use Rattle.std.proofs.lemmas.Bool.{cond_both}
use Rattle.field.proofs.Codes.{grant_again}
use Rattle.field.specs.Grant.{grant_of, code_of}
use Rattle.field.specs.declared.octets.Octets.{Octets}
use Rattle.message.specs.declared.downstream.Downstream.{Downstream}
use Rattle.message.specs.declared.downstream.Downstream.TheVariants.{NoMessage}
use Rattle.onu.specs.Answer.{kind_for}
use Rattle.onu.specs.Onu.{obeyed}
use Rattle.onu.specs.declared.answer.Kind.{Kind as CellKind}
use Rattle.onu.specs.declared.state.Onu.{Onu}
use Rattle.plant.specs.Lawful.{Move, Choice, by_moves, burst_of, answer_to, answers, Hears, none, more, leaves, sends}
use Rattle.plant.specs.declared.burst.Burst.{Burst}
use Rattle.rules.proofs.Clamps.{clamped_keeps}
use Rattle.rules.specs.Clamp.{clamped}
use Rattle.rules.specs.Job.{says}
use Rattle.rules.specs.Row.{serving}
use Rattle.rules.specs.Schedule.{Place}
use Rattle.rules.specs.declared.row.Row.{Row}
use Rattle.rules.specs.declared.settings.Settings.{Settings}
use Rattle.head.specs.Table.{grant_in}
use Rattle.line.specs.Run.{Distinct}
use Rattle.line.proofs.Invariant.{Among, here, there, loud, row, Home, Good, Keeps, Spares, Allowed, lasts, whose, guard_of, GuardFits, Kind, Pairwise, Near, NearAll, Fit, Sound, Held, Core, Called}
use Rattle.line.proofs.Acts.{keeps_trans, moves_keep, obeyed_keeps, obeyed_rigid, moves_rigid, moves_good, obeyed_good, loud_low, idle_unanswered, called}
use Rattle.line.proofs.Bursts.{guard_parts, kinds_apart, among_append, among_left, among_right, apart_all, pairs_append}
use Rattle.line.proofs.Hearings.{Answered, answered, Spoke, spoke, heard_by, burst_by, distinct_heard, only_one, first_other, distinct_rest}
use Rattle.line.proofs.Quiet.{late_says, calm_says}

-- The bursts of one cell are apart, if each is of one of the two kinds and in one slot only one ONU speaks.
abbrev Kinds : ℕ → List Burst → Type 0
Kinds G bs = (b : Burst) → Among b bs → Kind G b.slot b.start

module _ (G : ℕ) (fits : GuardFits G) where
  -- one ONU's bursts lie in different slots
  answers_pairs : (free : ℕ → Octets 12) (o : Onu) (n : ℕ) (gs : List ℕ) → Kinds G (answers free o n gs) → Pairwise G (answers free o n gs)
  unfolding answers
  answers_pairs free o n [] k = tt
  answers_pairs free o n (g ∷ gs) k =
      by_answer (kind_for (grant_of g) o) (λ l. answers_pairs free o (suc n) gs l) k
    where
      by_answer : (a : Option CellKind) → (Kinds G (answers free o (suc n) gs) → Pairwise G (answers free o (suc n) gs))
          → Kinds G (answer_to a (free n) o n ++ answers free o (suc n) gs) → Pairwise G (answer_to a (free n) o n ++ answers free o (suc n) gs)
      by_answer None rest l = rest l
      by_answer (Some a) rest l =
          let b = burst_of a (free n) o n in (
            apart_all G b (answers free o (suc n) gs) (λ c i.
                let later = answered free o (suc n) gs c i in
                let at : c.slot ≡ suc n + later.i = later.slot in
                kinds_apart G fits b c (l b here) (l c (there i)) (λ (e : n ≡ c.slot). omega arith)),
            rest (λ c i. l c (there i)),
          )

  -- and so do those of an ONU that may lose the cell
  sends_pairs : (c : Choice) (n : ℕ) (gs : List ℕ) (o : Onu) → Kinds G (sends c n gs o) → Pairwise G (sends c n gs o)
  sends_pairs c n gs o k = by_loss c.loses k
    where
      by_loss : (l : Bool) → Kinds G (cond l [] (answers c.says (by_moves c.before o) n gs))
          → Pairwise G (cond l [] (answers c.says (by_moves c.before o) n gs))
      by_loss true m = tt
      by_loss false m = answers_pairs c.says (by_moves c.before o) n gs m

  pub hears_pairs : {n : ℕ} {gs : List ℕ} {m : Downstream} {os os' : List Onu} {bs : List Burst} → Hears n gs (Some m) os os' bs → Distinct os → Kinds G bs
      → ((a b : Burst) → Among a bs → Among b bs → a.slot ≡ b.slot → a.serial.value ≡ b.serial.value) → Pairwise G bs
  hears_pairs none d k u = tt
  hears_pairs {n = n} {gs = gs} {m = m} (more {o = o} {os = os} {bs = bs} c r) d k u =
      pairs_append G (sends c n gs o) bs
      (sends_pairs c n gs o (λ b i. k b (among_left bs i)))
      (hears_pairs r (distinct_rest o os d) (λ b i. k b (among_right (sends c n gs o) i)) (λ a b i j. u a b (among_right (sends c n gs o) i) (among_right (sends c n gs o) j)))
      (λ a b i j. kinds_apart G fits a b (k a (among_left bs i)) (k b (among_right (sends c n gs o) j)) (λ e.
      let w = burst_by r j in
      let x = spoke n gs m o c a i in
      let sa : a.serial ≡ o.serial = x.answer.serial ∙ moves_rigid x.before o in
      let sb : b.serial ≡ w.0.serial = w.4.answer.serial ∙ moves_rigid w.4.before w.0 in
      let same : a.serial.value ≡ b.serial.value = u a b (among_left bs i) (among_right (sends c n gs o) j) e in
      first_other o w.0 os d w.2 (ap (λ y. y.value) (sym sa) ∙ (same ∙ ap (λ y. y.value) sb))))

-- The grants gs from slot n on are of frame F, each below slot upto, or idle.
abbrev pub Lists : Settings → List Row → (F n upto : ℕ) → List ℕ → Type 0
Lists s rows F n upto gs =
    (i : ℕ) → i < length gs
    → (get_or gs i 255 ≡ 255) ⊎ ((k : ℕ) × (k < 53) × (n + i ≡ 53 * F + k) × (n + i < upto) × (get_or gs i 255 ≡ code_of (grant_in s rows F (suc k))))

-- A message that spares the ONUs of places that have nothing to say.
abbrev pub Sparing : (ℕ → ℕ) → Settings → List Row → (F : ℕ) → Downstream → Type 0
Sparing lo s rows F m =
    (o : Onu) (q : Place) → Good lo rows o → Home rows q.value o.serial.value → says s F q (row rows q.value) ≡ NoMessage → Spares m o

-- A burst of this cell, by an ONU as it was then.
pub record Made (s : Settings) (rows : List Row) (F n upto : ℕ) (o : Onu) (b : Burst) : Type 0 where
  pub from : n ≤ b.slot
  pub before : b.slot < upto
  pub frame : b.slot / 53 ≡ F
  pub called : Called s rows (b.slot / 53) (b.slot % 53 + 1) o
  pub start : b.start ≡ 448 * b.slot + o.trip.value + o.register.value
  pub serial : b.serial ≡ o.serial

module _ (lo : ℕ → ℕ) (s : Settings) (fits : GuardFits (guard_of s)) (rows : List Row) (F : ℕ) where
  leaves_good : (c : Choice) (m : Downstream) (o : Onu) → Allowed lo rows m → Good lo rows o → Good lo rows (leaves c (Some m) o)
  leaves_good c m o al g =
      cond_both c.loses (by_moves c.before o) (obeyed m (by_moves c.before o)) (Good lo rows)
      (λ _. moves_good lo rows c.before o g)
      (λ _. obeyed_good lo rows m (by_moves c.before o) al (moves_good lo rows c.before o g))

  -- a place with nothing to say: its ONU's register stays
  act_keeps : (m : Downstream) (ms : List Move) (o : Onu) (q : Place) → Sparing lo s rows F m → Good lo rows o → Home rows q.value o.serial.value
      → says s F q (row rows q.value) ≡ NoMessage → Keeps (by_moves ms o) (obeyed m (by_moves ms o))
  act_keeps m ms o q sp g h e =
      obeyed_keeps m (by_moves ms o) (sp (by_moves ms o) q (moves_good lo rows ms o g) (subst (λ x. Home rows q.value x.value) (sym (moves_rigid ms o)) h) e)

  leaves_keeps : (c : Choice) (m : Downstream) (o : Onu) (q : Place) → Sparing lo s rows F m → Good lo rows o → Home rows q.value o.serial.value
      → says s F q (row rows q.value) ≡ NoMessage → Keeps o (leaves c (Some m) o)
  leaves_keeps c m o q sp g h e =
      cond_both c.loses (by_moves c.before o) (obeyed m (by_moves c.before o)) (Keeps o)
      (λ _. moves_keep c.before o)
      (λ _. keeps_trans o (by_moves c.before o) (obeyed m (by_moves c.before o)) (moves_keep c.before o) (act_keeps m c.before o q sp g h e))

  made : (n upto : ℕ) (gs : List ℕ) (o : Onu) (b : Burst) → Lists s rows F n upto gs → Good lo rows o → Answered o n gs b → Made s rows F n upto o b
  made n upto gs o b ls g a =
      ⊎_elim
      (λ e. absurd (idle_unanswered o a.kind (subst (λ x. kind_for (grant_of x) o ≡ Some a.kind) e a.code)))
      (λ w.
      let k : ℕ = w.0 in
      let small : k < 53 = w.1 in
      let at : n + a.i ≡ 53 * F + k = w.2 in
      let up : n + a.i < upto = w.3 in
      let slot : b.slot ≡ n + a.i = a.slot in
      let ef : F ≡ b.slot / 53 = omega arith in
      let ex : suc k ≡ b.slot % 53 + 1 = omega arith in
      let code : kind_for (grant_in s rows F (suc k)) o ≡ Some a.kind =
      subst (λ x. kind_for x o ≡ Some a.kind) (grant_again (grant_in s rows F (suc k))) (subst (λ x. kind_for (grant_of x) o ≡ Some a.kind) w.4 a.code) in
      let c = called lo s rows F (suc k) o a.kind g code in
      record {
        from = omega arith;
        before = omega arith;
        frame = sym ef;
        called = subst (λ x. Called s rows (b.slot / 53) x o) ex (subst (λ f. Called s rows f (suc k) o) ef c);
        start = a.start;
        serial = a.serial;
      })
      (ls a.i a.inside)

  module _ (oldest n upto : ℕ) (gs : List ℕ) (m : Downstream) (os os' : List Onu) (bs new : List Burst)
      (ls : Lists s rows F n upto gs) (al : Allowed lo rows m) (sp : Sparing lo s rows F m) (near : NearAll lo (guard_of s) os')
      (start : 53 * F ≤ n) (end : n ≤ upto) (most : upto ≤ 53 * F + 53) (soon : F ≤ oldest + 3) (old : oldest ≤ F)
      (c : Core lo s rows oldest n os bs) (hears : Hears n gs (Some m) os os' new) where
    spoken : (o o' : Onu) (b : Burst) → Among o os → (x : Spoke n gs m o o' b) → Made s rows F n upto (by_moves x.before o) b
    spoken o o' b i x = made n upto gs (by_moves x.before o) b ls (moves_good lo rows x.before o (c.good o i)) x.answer

    new_sound : (b : Burst) → Among b new → Sound lo s rows upto b
    new_sound b i =
        let w = burst_by hears i in
        let o : Onu = w.0 in
        let o' : Onu = w.1 in
        let x : Spoke n gs m o o' b = w.4 in
        let p : Onu = by_moves x.before o in
        let g : Good lo rows p = moves_good lo rows x.before o (c.good o w.2) in
        let d : Made s rows F n upto p b = spoken o o' b w.2 x in
        let trip : o'.trip.value ≡ p.trip.value = ap (λ y. y.trip.value) x.after ∙ ap (λ y. y.value) (obeyed_rigid m p).1 in
        let serial : o'.serial.value ≡ p.serial.value = ap (λ y. y.serial.value) x.after ∙ ap (λ y. y.value) (obeyed_rigid m p).0 in
        let lo_o : lo o'.serial.value ≡ lo p.serial.value = ap lo serial in
        let lo_b : lo b.serial.value ≡ lo p.serial.value = ap (λ y. lo y.value) d.serial in
        let t : Near lo (guard_of s) o' = near o' w.3 in
        let begins : b.start ≡ 448 * b.slot + p.trip.value + p.register.value = d.start in
        let parts = guard_parts (guard_of s) fits in
        let small : p.register.value + lo p.serial.value ≤ 35392 = loud_low lo rows p (omega arith) g d.called.loud in
        record {
          before = d.before;
          place = d.called.place;
          owned = d.called.owned;
          home = subst (λ y. Home rows d.called.place.value y.value) (sym d.serial) d.called.home;
          low = omega arith;
          kind = ⊎_elim
              (λ y.
              let keep : Keeps o p = moves_keep x.before o in
              let l = keep.kept d.called.loud in
              let register : p.register.value ≡ o.register.value = l.1 in
              let same : lo p.serial.value ≡ lo o.serial.value = ap lo keep.same in
              let fit : Fit lo (guard_of s) o = c.service d.called.place.value o w.2 y.1 (subst (λ v. Home rows d.called.place.value v) keep.same d.called.home) l.0 in
              inl (record { outside = y.0; late_enough = omega arith; soon_enough = omega arith }))
              (λ y. inr (record { ends = y; late_enough = omega arith; soon_enough = omega arith }))
              d.called.kind;
        }

    -- in one slot only one ONU speaks
    one_slot : (a b : Burst) → Among a new → Among b new → a.slot ≡ b.slot → a.serial.value ≡ b.serial.value
    one_slot a b i j e =
        let x = new_sound a i in
        let y = new_sound b j in
        let places : Some x.place ≡ Some y.place = sym x.owned ∙ (ap (whose s) e ∙ y.owned) in
        let place : x.place ≡ y.place = cc in
        sym x.home.serial ∙ (ap (λ p. (row rows p.value).serial.value) place ∙ y.home.serial)

    all_sound : (b : Burst) → Among b (new ++ bs) → Sound lo s rows upto b
    all_sound b i =
        ⊎_elim (new_sound b)
        (λ j.
        let x = c.sound b j in
        let l : b.slot < n = x.before in
        record { before = omega arith; place = x.place; owned = x.owned; home = x.home; low = x.low; kind = x.kind })
        (among_append new bs i)

    all_pairs : Pairwise (guard_of s) (new ++ bs)
    all_pairs =
        pairs_append (guard_of s) new bs (hears_pairs (guard_of s) fits hears c.distinct (λ b i. (new_sound b i).kind) one_slot) c.pairs (λ a b i j.
        kinds_apart (guard_of s) fits a b (new_sound a i).kind (c.sound b j).kind (λ (e : a.slot ≡ b.slot).
        let w = burst_by hears i in
        let d = spoken w.0 w.1 a w.2 w.4 in
        let f : n ≤ a.slot = d.from in
        let g : b.slot < n = (c.sound b j).before in
        omega arith))

    all_good : (o' : Onu) → Among o' os' → Good lo rows o'
    all_good o' i =
        let w = heard_by hears i in
        subst (Good lo rows) (sym w.3) (leaves_good w.1 m w.0 al (c.good w.0 w.2))

    -- the ONU of a place with nothing to say
    kept : (o' : Onu) (i : Among o' os') (q : Place) → Home rows q.value o'.serial.value → says s F q (row rows q.value) ≡ NoMessage
        → (o : Onu) × Among o os × Keeps o o' × Home rows q.value o.serial.value
    kept o' i q h e =
        let w = heard_by hears i in
        let o : Onu = w.0 in
        let same : o'.serial.value ≡ o.serial.value =
        ap (λ y. y.serial.value) w.3
        ∙ cond_both w.1.loses (by_moves w.1.before o) (obeyed m (by_moves w.1.before o)) (λ y. y.serial.value ≡ o.serial.value)
        (λ _. ap (λ y. y.value) (moves_rigid w.1.before o))
        (λ _. ap (λ y. y.value) (obeyed_rigid m (by_moves w.1.before o)).0 ∙ ap (λ y. y.value) (moves_rigid w.1.before o)) in
        let home : Home rows q.value o.serial.value = subst (Home rows q.value) same h in
        (o, w.2, subst (Keeps o) (sym w.3) (leaves_keeps w.1 m o q sp (c.good o w.2) home e), home)

    all_service : (q : ℕ) (o' : Onu) → Among o' os' → serving (row rows q) ≡ true → Home rows q o'.serial.value → loud o' ≡ true
        → Fit lo (guard_of s) o'
    all_service q o' i serves h l =
        let p : Place = clamped 63 q in
        let under : q < 64 = h.place in
        let is : p.value ≡ q = clamped_keeps 63 q (omega arith) in
        let quiet = calm_says s F p (row rows p.value) (subst (λ y. (row rows y).running ≡ None) (sym is) ((c.records q).calm serves).0) in
        let w = kept o' i p (subst (λ y. Home rows y o'.serial.value) (sym is) h) quiet in
        let o : Onu = w.0 in
        let k = w.2.kept l in
        let same : lo o'.serial.value ≡ lo o.serial.value = ap lo w.2.same in
        let register : o'.register.value ≡ o.register.value = k.1 in
        let fit : Fit lo (guard_of s) o = c.service q o w.1 serves (subst (λ y. Home rows y o.serial.value) is w.3) k.0 in
        record { late_enough = omega arith; soon_enough = omega arith }

    old_pending : (b : Burst) (o' : Onu) → Among b bs → Among o' os' → 53 * oldest ≤ b.slot → lasts b.slot ≡ true → b.serial.value ≡ o'.serial.value
        → loud o' ≡ true → Held lo (guard_of s) b o'
    old_pending b o' j i from ends same l =
        let x = c.sound b j in
        let up : b.slot < n = x.before in
        let quiet = late_says s rows F b.slot x.place ends x.owned (omega arith) (omega arith) in
        let w = kept o' i x.place (subst (Home rows x.place.value) same x.home) quiet in
        let o : Onu = w.0 in
        let k = w.2.kept l in
        let low : lo o'.serial.value ≡ lo o.serial.value = ap lo w.2.same in
        let register : o'.register.value ≡ o.register.value = k.1 in
        let p : Held lo (guard_of s) b o = c.pending b o j w.1 from ends (same ∙ w.2.same) k.0 in
        record { least = omega arith; most = omega arith }

    new_pending : (b : Burst) (o' : Onu) → Among b new → Among o' os' → lasts b.slot ≡ true → b.serial.value ≡ o'.serial.value → loud o' ≡ true
        → Held lo (guard_of s) b o'
    new_pending b o' j i ends same l =
        let w = burst_by hears j in
        let o : Onu = w.0 in
        let x : Spoke n gs m o w.1 b = w.4 in
        let p : Onu = by_moves x.before o in
        let d : Made s rows F n upto p b = spoken o w.1 b w.2 x in
        let after : w.1.serial.value ≡ p.serial.value = ap (λ y. y.serial.value) x.after ∙ ap (λ y. y.value) (obeyed_rigid m p).0 in
        let one : o' ≡ w.1 = only_one i w.3 (distinct_heard hears c.distinct) (sym same ∙ (ap (λ y. y.value) d.serial ∙ sym after)) in
        let is : o' ≡ obeyed m p = one ∙ x.after in
        let y = new_sound b j in
        let frame : b.slot / 53 ≡ F = d.frame in
        let quiet = late_says s rows F b.slot y.place ends y.owned (omega arith) (omega arith) in
        let from : b.serial.value ≡ o.serial.value = ap (λ v. v.value) d.serial ∙ ap (λ v. v.value) (moves_rigid x.before o) in
        let keep = act_keeps m x.before o y.place sp (c.good o w.2) (subst (Home rows y.place.value) from y.home) quiet in
        let k = keep.kept (subst (λ v. loud v ≡ true) is l) in
        let register : o'.register.value ≡ p.register.value = ap (λ v. v.register.value) is ∙ k.1 in
        let trip : o'.trip.value ≡ p.trip.value = ap (λ v. v.trip.value) is ∙ ap (λ v. v.value) (obeyed_rigid m p).1 in
        let t : Near lo (guard_of s) o' = near o' i in
        let begins : b.start ≡ 448 * b.slot + p.trip.value + p.register.value = d.start in
        record { least = omega arith; most = omega arith }

    pub cell_core : Core lo s rows oldest upto os' (new ++ bs)
    cell_core =
        record {
          records = c.records;
          unique = c.unique;
          good = all_good;
          distinct = distinct_heard hears c.distinct;
          service = all_service;
          pending = λ b o j i from ends same l.
              ⊎_elim (λ x. new_pending b o x i ends same l) (λ x. old_pending b o x i from ends same l) (among_append new bs j);
          sound = all_sound;
          pairs = all_pairs;
        }
