-- Two plants on one line.
use Rattle.std.specs.Prelude.{◌≡◌, ℕ, ◌+◌, cond, List, ◌++◌, length, MatchBool, nat_le}
use Rattle.onu.specs.declared.state.Onu.{Onu}
use Rattle.plant.specs.Lawful.{Does}
use Rattle.plant.specs.declared.burst.Burst.{Burst}

-- both sides' ONUs; the second side is dark where they are more than 64 together
abbrev pub joined : List Onu → List Onu → List Onu
joined xs ys = cond (nat_le (length xs + length ys) 64) (xs ++ ys) xs

-- both sides hear the cell, the first side's bursts come first; a dark second side hears nothing and stays as it is
abbrev pub SplitDoes : {X Y : Type 0} → Does X → Does Y → (both : ℕ) → X → Y → List ℕ → ℕ → X → Y → List Burst → Type 0
SplitDoes D E both x y p first x' y' new =
    MatchBool (nat_le both 64)
    ((bs : List Burst) × (cs : List Burst) × D x p first x' bs × E y p first y' cs × (new ≡ bs ++ cs))
    (D x p first x' new × (y' ≡ y))
