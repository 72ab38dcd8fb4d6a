-- Runs of equal grants, one grant after another.
use Rattle.std.proofs.Common.{◌≡◌, ℕ, ◌+◌, true, false, cond, eqb, List, [], ◌∷◌, ◌++◌, codes, refl, sym, ap, ◌∙◌, append_assoc}
use Rattle.field.specs.Grant.{code_of}
use Rattle.field.specs.declared.grant.Grant.{Grant}
use Rattle.readable.specs.Shown.{run_text, runs_text}

-- the next grant is the same: the run is longer by one
pub runs_same :
    (g : Grant) (n : ℕ) (h : Grant) (rest : List Grant)
    → eqb (code_of h) (code_of g) ≡ true
    → runs_text g n (h ∷ rest) ≡ runs_text g (n + 1) rest
unfolding runs_text
runs_same g n h rest e = ap (λ b. cond b (runs_text g (n + 1) rest) (run_text g n ++ (codes "," ++ runs_text h 1 rest))) e

-- the next grant is another: the run is written, and another begins
pub runs_next :
    (g : Grant) (n : ℕ) (h : Grant) (rest : List Grant)
    → eqb (code_of h) (code_of g) ≡ false
    → runs_text g n (h ∷ rest) ≡ (run_text g n ++ codes ",") ++ runs_text h 1 rest
unfolding runs_text
runs_next g n h rest e =
    ap (λ b. cond b (runs_text g (n + 1) rest) (run_text g n ++ (codes "," ++ runs_text h 1 rest))) e
    ∙ sym (append_assoc (run_text g n) (codes ",") (runs_text h 1 rest))

-- no grant is left: the last run is written
pub runs_end : (g : Grant) (n : ℕ) → runs_text g n [] ≡ run_text g n
unfolding runs_text
runs_end g n = refl
