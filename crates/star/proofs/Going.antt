-- Arms take a cell one after the other.
use Rattle.std.proofs.Common.{◌≡◌, ℕ, suc, ◌+◌, ◌-◌, ◌<◌, ◌≤◌, List, [], ◌∷◌, ◌++◌, length, get_or, take, drop, set, vec_items, vec_len, vec_capacity, Vec, sym, refl, ap, ◌∙◌, subst, append_assoc, append-nil, arith}
use Rattle.std.proofs.Math.Seq.{take-suc-set}
use Rattle.std.proofs.lemmas.List.{take_all, drop_all, drop-set-lt, drop-drop, take_at}
use Rattle.std.specs.Vec.{with_items}
use Rattle.std.specs.declared.alloc.Global.{Global}
use Rattle.onu.specs.declared.state.Onu.{Onu}
use Rattle.plant.proofs.Room.{fewer, room_left}
use Rattle.plant.specs.Hearing.{Bursts, Admitted, Taken}
use Rattle.plant.specs.Lawful.{Does, Lawful}
use Rattle.plant.specs.declared.burst.Burst.{Burst}
use Rattle.star.specs.Star.{lit, lit_in, Arms, none, bright, dim}
use Rattle.star.specs.Lit.{lit_yes, lit_no, drop_next, lit_grows}

module _ {X : Type 0} (means : X → List Onu) (D : Does X) (p : List ℕ) (f : ℕ) where
  -- the first i arms are done: the arms as they were and as they are, how many ONUs are lit, the burst list before and now;
  -- whatever the others make of the cell, the first ones did their part, and there is room for the others
  pub record Going (was arms : List X) (i lights : ℕ) (b0 b : Bursts) : Type 0 where
    pub new : List Burst
    pub items : vec_items b ≡ vec_items b0 ++ new
    pub capacity : vec_capacity b ≡ vec_capacity b0
    pub rest : drop i arms ≡ drop i was
    pub heard : (ys : List X) (vs : List Burst) → Arms means D p f lights (drop i was) ys vs → Arms means D p f 0 was (take i arms ++ ys) (new ++ vs)
    pub bound : lights ≤ 64
    pub left : Admitted (lit_in means lights (drop i was) - lights) p f b

  pub begun : (was : List X) (b : Bursts) → Admitted (lit_in means 0 was) p f b → Going was was 0 0 b b
  begun was b h =
      record { new = []; items = sym (append-nil (vec_items b)); capacity = refl; rest = refl; heard = λ ys vs r. r; bound = omega arith; left = fewer _ h (omega arith) }

  pub ended : (was arms : List X) (i n : ℕ) (b0 b : Bursts) (so : Going was arms i n b0 b) → length was ≤ i → length arms ≡ length was → Arms means D p f 0 was arms so.new
  ended was arms i n b0 b so h l =
      let k : Arms means D p f n (drop i was) [] [] = subst (λ (zs : List X). Arms means D p f n zs [] []) (sym (drop_all i was h)) none in
      subst (λ (vs : List Burst). Arms means D p f 0 was arms vs) (append-nil so.new)
      (subst (λ (zs : List X). Arms means D p f 0 was zs (so.new ++ [])) (append-nil (take i arms) ∙ take_all i arms (omega arith)) (so.heard [] [] k))

  -- the same, where the code has these values under other names
  retold : (was arms : List X) (i n n' : ℕ) (b0 b b' : Bursts) → n' ≡ n → b' ≡ b → Going was arms i n b0 b → Going was arms i n' b0 b'
  retold was arms i n n' b0 b b' e c so =
      subst (λ (z : Bursts). Going was arms i n' b0 z) (sym c) (subst (λ (k : ℕ). Going was arms i k b0 b) (sym e) so)

  module _ (law : Lawful means D) (was arms : List X) (i n : ℕ) (b0 b : Bursts) (so : Going was arms i n b0 b) (h : i < length was) (l : length arms ≡ length was) (r : X) (m : ℕ) (count : m ≡ length (means (get_or arms i r))) where
    abbrev x : X
    x = get_or arms i r

    after : drop (i + 1) arms ≡ drop (i + 1) was
    after = sym (drop-drop 1 i arms) ∙ ap (drop 1) so.rest ∙ drop-drop 1 i was

    split : drop i was ≡ x ∷ drop (i + 1) was
    split = sym so.rest ∙ drop_next means arms i r (omega arith) ∙ ap (λ (zs : List X). x ∷ zs) after

    counted : lit_in means n (drop i was) ≡ lit_in means (lit n (length (means x))) (drop (i + 1) was)
    unfolding lit_in
    counted = ap (lit_in means n) split

    -- the next arm is done, and left y behind
    step : (y : X) (us : List Burst) (n' : ℕ) (b' : Bursts) (arms' : List X)
        → ((ys : List X) (vs : List Burst) → Arms means D p f n' (drop (i + 1) was) ys vs → Arms means D p f n (x ∷ drop (i + 1) was) (y ∷ ys) (us ++ vs))
        → vec_items b' ≡ vec_items b ++ us → vec_capacity b' ≡ vec_capacity b → arms' ≡ set arms i y → n' ≤ 64 → Admitted (lit_in means n' (drop (i + 1) was) - n') p f b'
        → Going was arms' (i + 1) n' b0 b'
    step y us n' b' arms' one e c s k left =
        let j : suc i ≡ i + 1 = omega arith in
        let front : take (i + 1) arms' ≡ take i arms ++ y ∷ [] = ap (take (i + 1)) s ∙ subst (λ (k : ℕ). take k (set arms i y) ≡ take i arms ++ y ∷ []) j (take-suc-set arms i y (omega arith)) in
        record {
          new = so.new ++ us;
          items = e ∙ ap (λ (zs : List Burst). zs ++ us) so.items ∙ append_assoc (vec_items b0) so.new us;
          capacity = c ∙ so.capacity;
          rest = ap (drop (i + 1)) s ∙ drop-set-lt (i + 1) arms i y (omega arith) ∙ after;
          heard = λ ys vs a.
              let t : Arms means D p f 0 was (take i arms ++ y ∷ ys) (so.new ++ (us ++ vs)) =
              so.heard (y ∷ ys) (us ++ vs) (subst (λ (zs : List X). Arms means D p f n zs (y ∷ ys) (us ++ vs)) (sym split) (one ys vs a)) in
              subst (λ (ws : List Burst). Arms means D p f 0 was (take (i + 1) arms' ++ ys) ws) (sym (append_assoc so.new us vs))
              (subst (λ (zs : List X). Arms means D p f 0 was zs (so.new ++ (us ++ vs))) (sym (append_assoc (take i arms) (y ∷ []) ys) ∙ ap (λ (zs : List X). zs ++ ys) (sym front)) t);
          bound = k;
          left = left;
        }

    pub passed : 64 < n + m → (n' : ℕ) (b' : Bursts) (arms' : List X) → n' ≡ n → b' ≡ b → arms' ≡ set arms i x → Going was arms' (i + 1) n' b0 b'
    passed k n' b' arms' e c s =
        let d : 64 < n + length (means x) = omega arith in
        let q : lit_in means n (drop i was) ≡ lit_in means n (drop (i + 1) was) = counted ∙ ap (λ (j : ℕ). lit_in means j (drop (i + 1) was)) (lit_no n (length (means x)) d) in
        retold was arms' (i + 1) n n' b0 b b' e c
        (step x [] n b arms' (λ ys vs a. dim d a) (sym (append-nil (vec_items b))) refl s so.bound (fewer (lit_in means n (drop (i + 1) was) - n) so.left (omega arith)))

    bright_count : n + length (means x) ≤ 64 → lit_in means n (drop i was) ≡ lit_in means (n + length (means x)) (drop (i + 1) was)
    bright_count k = counted ∙ ap (λ (j : ℕ). lit_in means j (drop (i + 1) was)) (lit_yes n (length (means x)) k)

    pub admits : n + m ≤ 64 → Admitted (length (means x)) p f b
    admits k =
        let q = bright_count (omega arith) in
        let g = lit_grows means (n + length (means x)) (drop (i + 1) was) in
        fewer (length (means x)) so.left (omega arith)

    pub took : n + m ≤ 64 → (y : X) (n' : ℕ) (b1 b' : Bursts) (arms' : List X) → Taken D x p f b y b1 → n' ≡ n + m → b' ≡ b1 → arms' ≡ set arms i y → Going was arms' (i + 1) n' b0 b'
    took k y n' b1 b' arms' t e c s =
        let d : n + length (means x) ≤ 64 = omega arith in
        let q = bright_count d in
        let g = lit_grows means (n + length (means x)) (drop (i + 1) was) in
        let others = lit_in means (n + length (means x)) (drop (i + 1) was) - (n + length (means x)) in
        retold was arms' (i + 1) (n + length (means x)) n' b0 b1 b' (omega arith) c
        (step y t.appended.0 (n + length (means x)) b1 arms' (λ ys vs a. bright d t.appended.2 a) t.appended.1 t.capacity s d
        (room_left law others (fewer (length (means x) + others) so.left (omega arith)) t))

-- a list of arms that was lent whole and given back as long as it was
pub given_back : {X : Type 0} (v : Vec X Global) (ys : List X) → length ys ≡ length (vec_items v) → vec_items (with_items v ys) ≡ ys
given_back v ys e =
    let l : vec_len v ≡ length (vec_items v) = v.ok.0 in
    take_at ys (drop (length ys) (vec_items v)) (vec_len v) (e ∙ sym l)
