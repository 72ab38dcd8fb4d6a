-- A cell with all check bytes wrong is lost to every ONU.
use Rattle.std.specs.Prelude.{◌≡◌, ℕ, ◌+◌, ◌-◌, ◌<◌, ◌≤◌, Bool, true, false, cond, ◌||◌, ◌&&◌, List, [], ◌∷◌, ◌++◌, length, take, drop, set, replicate, is_ok, None, Option, ◌==◌, nat_lt, nat_le, slice_index, slice_set, refl}
use Rattle.std.proofs.Common.{arith, sym, ap, ◌∙◌}
use Rattle.std.proofs.lemmas.Bool.Decides.{nat_tests}
use Rattle.std.proofs.lemmas.Bool.{and_parts, ltb-true, leb-true}
use Rattle.std.proofs.Math.Path.{subst}
use Rattle.std.proofs.lemmas.List.{length-set, get_or-set_same, get_or-set_other, take-set-le, drop-set-lt, drop-set-add}
use Rattle.std.specs.List.{between}
use Rattle.field.specs.Check.{check_of}
use Rattle.field.specs.Grant.{code_of}
use Rattle.field.specs.declared.grant.Grant.TheVariants.{Idle}
use Rattle.message.specs.declared.downstream.Downstream.{Downstream}
use Rattle.cell.specs.Reader.{group_checked, message_checked}
use Rattle.cell.specs.declared.fault.Group.TheVariants.{First, Second, Third, Fourth}
use Rattle.onu.specs.declared.state.Onu.{Onu}
use Rattle.plant.proofs.Rows.{answers_idle}
use Rattle.plant.specs.Heard.{heard_group, heard_grants, heard_message}
use Rattle.plant.specs.Lawful.{by_moves, answers, Choice, leaves, sends, Hears, none, more, HearsCell, Does, Lawful, slot_limit}
use Rattle.plant.specs.declared.burst.Burst.{Burst}
use Rattle.lossy_drop.specs.LossyDrop.{wrong, spoiled, lowest, sent_on}

-- bytes away from the place that is written stay
between_after : (p : List ℕ) (a b d v : ℕ) → a ≤ b → b ≤ d → between a b (slice_set p d v) ≡ between a b p
between_after p a b d v h k =
    let e : a + (d - a) ≡ d = omega arith in
    let i : drop a (slice_set p d v) ≡ set (drop a p) (d - a) v = subst (λ (x : ℕ). drop a (slice_set p x v) ≡ slice_set (drop a p) (d - a) v) e (drop-set-add a p (d - a) v) in
    ap (take (b - a)) i ∙ take-set-le (b - a) (drop a p) (d - a) v (omega arith)

between_before : (p : List ℕ) (a b d v : ℕ) → d < a → between a b (slice_set p d v) ≡ between a b p
between_before p a b d v h = ap (take (b - a)) (drop-set-lt a p d v h)

-- bytes written at places, the first first
written : List (ℕ × ℕ) → List ℕ → List ℕ
written [] p = p
written ((d, v) ∷ ws) p = written ws (slice_set p d v)

-- no place from a up to b is written
clear : (a b : ℕ) → List (ℕ × ℕ) → Bool
clear a b [] = true
clear a b ((d, v) ∷ ws) = (nat_lt d a || nat_le b d) && clear a b ws

between_other : (a b d v : ℕ) (p : List ℕ) (t : Bool) → a ≤ b → nat_lt d a ≡ t → (t || nat_le b d) ≡ true → between a b (slice_set p d v) ≡ between a b p
between_other a b d v p true k e h = between_before p a b d v (ltb-true d a e)
between_other a b d v p false k e h = between_after p a b d v k (leb-true b d h)

between_clear : (a b : ℕ) (ws : List (ℕ × ℕ)) (p : List ℕ) → a ≤ b → clear a b ws ≡ true → between a b (written ws p) ≡ between a b p
unfolding written clear
between_clear a b [] p k h = refl
between_clear a b ((d, v) ∷ ws) p k h =
    let t = and_parts (nat_lt d a || nat_le b d) (clear a b ws) h in
    between_clear a b ws (slice_set p d v) k t.1 ∙ between_other a b d v p (nat_lt d a) k refl t.0

other : (q : List ℕ) (d k v : ℕ) → (k ≡ d → ⊥) → slice_index (slice_set q d v) k ≡ slice_index q k
other q d k v h = get_or-set_other q d k v 0 h

index_clear : (k : ℕ) (ws : List (ℕ × ℕ)) (p : List ℕ) → clear k (k + 1) ws ≡ true → slice_index (written ws p) k ≡ slice_index p k
unfolding written clear
index_clear k [] p h = refl
index_clear k ((d, v) ∷ ws) p h =
    let t = and_parts (nat_lt d k || nat_le (k + 1) d) (clear k (k + 1) ws) h in
    index_clear k ws (slice_set p d v) t.1 ∙ other p d k v (grind (arith, nat_tests))

-- the byte that is written last at its place
index_written : (before : List (ℕ × ℕ)) (k v : ℕ) (after : List (ℕ × ℕ)) (p : List ℕ) → k < length p → clear k (k + 1) after ≡ true
    → slice_index (written (before ++ (k, v) ∷ after) p) k ≡ v
unfolding written
index_written [] k v after p l h = index_clear k after (slice_set p k v) h ∙ get_or-set_same p k v 0 l
index_written ((d, w) ∷ before) k v after p l h = index_written before k v after (slice_set p d w) (simp length-set l) h

written-length : (ws : List (ℕ × ℕ)) (p : List ℕ) → length (written ws p) ≡ length p
unfolding written
written-length [] p = refl
written-length ((d, v) ∷ ws) p = written-length ws (slice_set p d v) ∙ length-set p d v

differs : (c : ℕ) → (c == wrong c) ≡ false
differs c = grind (arith, nat_tests)

module _ (p : List ℕ) (l : length p ≡ 48) where
  abbrev one : ℕ × ℕ
  one = (10, wrong (check_of (between 3 10 p)))

  abbrev two : ℕ × ℕ
  two = (18, wrong (check_of (between 11 18 p)))

  abbrev three : ℕ × ℕ
  three = (26, wrong (check_of (between 19 26 p)))

  abbrev four : ℕ × ℕ
  four = (33, wrong (check_of (between 27 33 p ++ 0 ∷ [])))

  abbrev five : ℕ × ℕ
  five = (46, wrong (check_of (between 34 46 p)))

  abbrev all : List (ℕ × ℕ)
  all = one ∷ two ∷ three ∷ four ∷ five ∷ []

  spoils : spoiled p ≡ written all p
  unfolding spoiled written
  spoils = refl

  pub spoiled-length : length (spoiled p) ≡ 48
  spoiled-length = ap length spoils ∙ written-length all p ∙ l

  part : (a b : ℕ) → a ≤ b → clear a b all ≡ true → between a b (spoiled p) ≡ between a b p
  part a b k h = ap (between a b) spoils ∙ between_clear a b all p k h

  byte : (before : List (ℕ × ℕ)) (k v : ℕ) (after : List (ℕ × ℕ)) → all ≡ before ++ (k, v) ∷ after → k < 48 → clear k (k + 1) after ≡ true → slice_index (spoiled p) k ≡ v
  byte before k v after e h c =
      ap (λ (q : List ℕ). slice_index q k) (spoils ∙ ap (λ (ws : List (ℕ × ℕ)). written ws p) e) ∙ index_written before k v after p (omega arith) c

  bad1 : is_ok (group_checked First (spoiled p)) ≡ false
  unfolding clear
  bad1 = rw (part 3 10 (omega arith) refl, byte [] 10 one.1 (two ∷ three ∷ four ∷ five ∷ []) refl (omega arith) refl, differs (check_of (between 3 10 p)))

  bad2 : is_ok (group_checked Second (spoiled p)) ≡ false
  unfolding clear
  bad2 = rw (part 11 18 (omega arith) refl, byte (one ∷ []) 18 two.1 (three ∷ four ∷ five ∷ []) refl (omega arith) refl, differs (check_of (between 11 18 p)))

  bad3 : is_ok (group_checked Third (spoiled p)) ≡ false
  unfolding clear
  bad3 = rw (part 19 26 (omega arith) refl, byte (one ∷ two ∷ []) 26 three.1 (four ∷ five ∷ []) refl (omega arith) refl, differs (check_of (between 19 26 p)))

  bad4 : is_ok (group_checked Fourth (spoiled p)) ≡ false
  unfolding clear
  bad4 =
      rw (part 27 33 (omega arith) refl, byte (one ∷ two ∷ three ∷ []) 33 four.1 (five ∷ []) refl (omega arith) refl, differs (check_of (between 27 33 p ++ 0 ∷ [])))

  bad5 : is_ok (message_checked (spoiled p)) ≡ false
  unfolding clear
  bad5 = rw (part 34 46 (omega arith) refl, byte (one ∷ two ∷ three ∷ four ∷ []) 46 five.1 [] refl (omega arith) refl, differs (check_of (between 34 46 p)))

  pub spoiled_grants : heard_grants (spoiled p) ≡ replicate 27 (code_of Idle)
  unfolding heard_grants heard_group
  spoiled_grants = rw (bad1, bad2, bad3, bad4)

  pub spoiled_message : heard_message (spoiled p) ≡ None
  unfolding heard_message
  spoiled_message = rw bad5

-- an ONU that hears idle grants and no message has lost the cell
lost : Choice → Choice
lost c = record c { loses = true }

left : (v : Bool) (o : Onu) → cond v o o ≡ o
left true o = refl
left false o = refl

silent : (v : Bool) (bs : List Burst) → bs ≡ [] → cond v [] bs ≡ []
silent true bs e = refl
silent false bs e = e

module _ {n : ℕ} {gs : List ℕ} {m : Option Downstream} where
  pub deaf : {xs xs' : List Onu} {bs : List Burst} → Hears n (replicate 27 (code_of Idle)) None xs xs' bs → Hears n gs m xs xs' bs
  unfolding lost
  deaf none = none
  deaf (more {o = o} {os = os} {os' = os'} {bs = bs} c h) =
      let e : sends c n (replicate 27 (code_of Idle)) o ≡ [] =
      silent c.loses (answers c.says (by_moves c.before o) n (replicate 27 (code_of Idle))) (answers_idle c.says (by_moves c.before o) n 27) in
      let f : leaves c None o ≡ by_moves c.before o = left c.loses (by_moves c.before o) in
      subst (λ (x : Onu). Hears n gs m (o ∷ os) (x ∷ os') (sends c n (replicate 27 (code_of Idle)) o ++ bs)) (sym f)
      (subst (λ (ws : List Burst). Hears n gs m (o ∷ os) (by_moves c.before o ∷ os') (ws ++ bs)) (sym e) (more (lost c) (deaf h)))

module _ {X : Type 0} (means : X → List Onu) (D : Does X) (law : Lawful means D) (x y : X) (p : List ℕ) (f : ℕ) (new : List Burst) (l : length p ≡ 48) (h : f < slot_limit) where
  drop_case : (v : Bool) → D x (cond v (spoiled p) p) f y new → HearsCell p f (means x) (means y) new
  drop_case true d =
      deaf (subst (λ (q : Option Downstream). Hears f (replicate 27 (code_of Idle)) q (means x) (means y) new) (spoiled_message p l)
      (subst (λ (hs : List ℕ). Hears f hs (heard_message (spoiled p)) (means x) (means y) new) (spoiled_grants p l)
      (law x y (spoiled p) f new (spoiled-length p l) h d)))
  drop_case false d = law x y p f new l h d

  pub drop_lawful : (pattern : ℕ) → D x (sent_on pattern p) f y new → HearsCell p f (means x) (means y) new
  drop_lawful pattern d = drop_case (lowest pattern) d
