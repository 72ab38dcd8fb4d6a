-- A splitter with any number of arms.
use Rattle.std.specs.Prelude.{ℕ, ◌+◌, ◌<◌, ◌≤◌, cond, List, [], ◌∷◌, ◌++◌, length, nat_le}
use Rattle.onu.specs.declared.state.Onu.{Onu}
use Rattle.plant.specs.Lawful.{Does}
use Rattle.plant.specs.declared.burst.Burst.{Burst}
use Rattle.splitter.specs.Splitter.{joined}

-- so many ONUs are lit once an arm is added: one that would make them more than 64 is dark
abbrev pub lit : (already more : ℕ) → ℕ
lit n m = cond (nat_le (n + m) 64) (n + m) n

-- so many are lit with all these arms
unfoldable pub lit_in : {X : Type 0} → (X → List Onu) → (already : ℕ) → List X → ℕ
lit_in means n [] = n
lit_in means n (a ∷ arms) = lit_in means (lit n (length (means a))) arms

-- the ONUs of all lit arms, each arm as the second side of a splitter that has those before it as its first
unfoldable pub lighted : {X : Type 0} → (X → List Onu) → (already : List Onu) → List X → List Onu
lighted means xs [] = xs
lighted means xs (a ∷ arms) = lighted means (joined xs (means a)) arms

-- what a cell does to arms, with n ONUs lit before them: a lit arm hears it, a dark one stays as it is
pub data Arms {X : Type 0} (means : X → List Onu) (D : Does X) (p : List ℕ) (first : ℕ) : ℕ → List X → List X → List Burst → Type 0 where
  none : {n : ℕ} → Arms means D p first n [] [] []
  bright : {n : ℕ} {a b : X} {xs ys : List X} {us vs : List Burst} → n + length (means a) ≤ 64 → D a p first b us
      → Arms means D p first (n + length (means a)) xs ys vs → Arms means D p first n (a ∷ xs) (b ∷ ys) (us ++ vs)
  dim : {n : ℕ} {a : X} {xs ys : List X} {vs : List Burst} → 64 < n + length (means a)
      → Arms means D p first n xs ys vs → Arms means D p first n (a ∷ xs) (a ∷ ys) vs
