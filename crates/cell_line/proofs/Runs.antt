-- The text of grants whose last run is another grant than the one before.
use Rattle.std.proofs.Common.{length, ◌<◌, ◌≡◌, ◌≢◌, ℕ, zero, suc, ◌+◌, ◌≤◌, ◌==◌, Bool, true, false, cond, Some, None, Option, List, [], ◌∷◌, ◌++◌, replicate, refl, sym, ap, subst, ◌∙◌, arith, eq-eqb, ne_eqb, eqb-true, append_assoc}
use Rattle.std.specs.List.{join_with_byte}
use Rattle.std.specs.Prelude.{codes}
use Rattle.field.specs.Grant.{code_of, grant_of}
use Rattle.field.specs.declared.grant.Grant.{Grant}
use Rattle.field.proofs.Codes.{grant_again}
use Rattle.readable.specs.Shown.{run_text, runs_text, grants_text}

abbrev last_of : Grant → List Grant → Grant
last_of g [] = g
last_of g (x ∷ xs) = last_of x xs

last_same : (x g : Grant) (xs : List Grant) → code_of x ≡ code_of g → code_of (last_of x xs) ≡ code_of (last_of g xs)
last_same x g [] e = e
last_same x g (y ∷ xs) e = refl

last_of_run : (g h : Grant) (xs : List Grant) (m : ℕ) → last_of g (xs ++ replicate (suc m) h) ≡ h
last_of_run g h [] zero = refl
last_of_run g h [] (suc m) = last_of_run h h [] m
last_of_run g h (x ∷ xs) m = last_of_run x h xs m

same_run : (g : Grant) (n m : ℕ) → runs_text g n (replicate m g) ≡ run_text g (n + m)
unfolding runs_text
same_run g n zero = let e : n ≡ n + 0 = omega arith in ap (run_text g) e
same_run g n (suc m) =
    let e : n + 1 + m ≡ n + suc m = omega arith in
    ap (λ b. cond b (runs_text g (n + 1) (replicate m g)) (run_text g n ++ (codes "," ++ runs_text g 1 (replicate m g)))) (eq-eqb (code_of g) (code_of g) refl)
    ∙ (same_run g (n + 1) m ∙ ap (run_text g) e)

other_run : (g h : Grant) (n m : ℕ) → code_of g ≢ code_of h → runs_text g n (replicate (suc m) h) ≡ run_text g n ++ (codes "," ++ run_text h (suc m))
unfolding runs_text
other_run g h n m ne =
    let e : 1 + m ≡ suc m = omega arith in
    ap (λ b. cond b (runs_text g (n + 1) (replicate m h)) (run_text g n ++ (codes "," ++ runs_text h 1 (replicate m h)))) (ne_eqb (code_of h) (code_of g) (λ f. ne (sym f)))
    ∙ ap (λ t. run_text g n ++ (codes "," ++ t)) (same_run h 1 m ∙ ap (run_text h) e)

more_runs : (xs : List Grant) (g h : Grant) (n m : ℕ) → code_of (last_of g xs) ≢ code_of h
    → runs_text g n (xs ++ replicate (suc m) h) ≡ runs_text g n xs ++ (codes "," ++ run_text h (suc m))
unfolding runs_text
more_runs [] g h n m ne = other_run g h n m ne
more_runs (x ∷ xs) g h n m ne =
    pick (code_of x == code_of g) refl
    (λ e. more_runs xs g h (n + 1) m (λ f. ne (last_same x g xs (eqb-true (code_of x) (code_of g) e) ∙ f)))
    (more_runs xs x h 1 m ne)
  where
    t : List ℕ
    t = codes "," ++ run_text h (suc m)

    pick : (b : Bool) → code_of x == code_of g ≡ b
        → (code_of x == code_of g ≡ true → runs_text g (n + 1) (xs ++ replicate (suc m) h) ≡ runs_text g (n + 1) xs ++ (codes "," ++ run_text h (suc m)))
        → runs_text x 1 (xs ++ replicate (suc m) h) ≡ runs_text x 1 xs ++ (codes "," ++ run_text h (suc m))
        → cond b (runs_text g (n + 1) (xs ++ replicate (suc m) h)) (run_text g n ++ (codes "," ++ runs_text x 1 (xs ++ replicate (suc m) h)))
        ≡ cond b (runs_text g (n + 1) xs) (run_text g n ++ (codes "," ++ runs_text x 1 xs)) ++ t
    pick true e same other = same e
    pick false e same other =
        ap (λ r. run_text g n ++ (codes "," ++ r)) other ∙ sym (append_assoc (run_text g n) (codes "," ++ runs_text x 1 xs) t)

join_push : (x : List ℕ) (xs : List (List ℕ)) (y : List ℕ) → join_with_byte 44 (x ∷ (xs ++ (y ∷ []))) ≡ join_with_byte 44 (x ∷ xs) ++ (44 ∷ y)
join_push x [] y = refl
join_push x (z ∷ xs) y = ap (λ r. x ++ (44 ∷ r)) (join_push z xs y) ∙ sym (append_assoc x (44 ∷ join_with_byte 44 (z ∷ xs)) (44 ∷ y))

-- the runs so far: the grants that they write, the last of those, and the texts of the runs
abbrev pub RunsSoFar : List Grant → Option Grant → List (List ℕ) → Type 0
RunsSoFar cells None parts = (cells ≡ []) × (parts ≡ [])
RunsSoFar cells (Some l) parts =
    (g : Grant) × (xs : List Grant) × (p : List ℕ) × (ps : List (List ℕ)) × (cells ≡ g ∷ xs) × (parts ≡ p ∷ ps) × (last_of g xs ≡ l) × (grants_text cells ≡ join_with_byte 44 parts)

pub written : (cells : List Grant) (last : Option Grant) (parts : List (List ℕ)) → RunsSoFar cells last parts → 0 < length cells → grants_text cells ≡ join_with_byte 44 parts
written cells None parts so some = absurd (omega (arith, some, ap length so.0))
written cells (Some l) parts so some = so.7

first_run : (h : Grant) (m : ℕ) (part : List ℕ) → run_text h (suc m) ≡ part → RunsSoFar (replicate (suc m) h) (Some h) (part ∷ [])
first_run h m part e =
    let n : 1 + m ≡ suc m = omega arith in
    (h, replicate m h, part, [], refl, refl, last_run m, same_run h 1 m ∙ (ap (run_text h) n ∙ e))
  where
    last_run : (m : ℕ) → last_of h (replicate m h) ≡ h
    last_run zero = refl
    last_run (suc m) = last_of_run h h [] m

pub one_run_more : (cells : List Grant) (last : Option Grant) (parts : List (List ℕ)) (h : Grant) (n : ℕ) (part : List ℕ)
    → RunsSoFar cells last parts → last ≢ Some h → 1 ≤ n → run_text h n ≡ part → RunsSoFar (cells ++ replicate n h) (Some h) (parts ++ (part ∷ []))
one_run_more cells last parts h zero part so ne some e = absurd (omega (arith, some))
one_run_more cells None parts h (suc m) part so ne some e =
    subst (λ ps. RunsSoFar (cells ++ replicate (suc m) h) (Some h) (ps ++ (part ∷ []))) (sym so.1)
    (subst (λ cs. RunsSoFar (cs ++ replicate (suc m) h) (Some h) (part ∷ [])) (sym so.0) (first_run h m part e))
one_run_more cells (Some l) parts h (suc m) part so ne some e =
    let g = so.0 in
    let xs = so.1 in
    let differs : code_of (last_of g xs) ≢ code_of h =
    λ f. ne (ap Some (sym so.6 ∙ (sym (grant_again (last_of g xs)) ∙ (ap grant_of f ∙ grant_again h)))) in
    let text : grants_text (cells ++ replicate (suc m) h) ≡ join_with_byte 44 (parts ++ (part ∷ [])) =
    ap (λ cs. grants_text (cs ++ replicate (suc m) h)) so.4
    ∙ (more_runs xs g h 1 m differs
    ∙ (ap (λ t. t ++ (codes "," ++ run_text h (suc m))) (ap grants_text (sym so.4) ∙ (so.7 ∙ ap (join_with_byte 44) so.5))
    ∙ (ap (λ r. join_with_byte 44 (so.2 ∷ so.3) ++ (44 ∷ r)) e
    ∙ (sym (join_push so.2 so.3 part) ∙ ap (λ ps. join_with_byte 44 (ps ++ (part ∷ []))) (sym so.5))))) in (
      g,
      xs ++ replicate (suc m) h,
      so.2,
      so.3 ++ (part ∷ []),
      ap (λ cs. cs ++ replicate (suc m) h) so.4,
      ap (λ ps. ps ++ (part ∷ [])) so.5,
      last_of_run g h xs m,
      text,
    )
