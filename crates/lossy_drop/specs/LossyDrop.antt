-- A lossy drop: a cell at a 1 of its pattern goes on with all check bytes wrong.
use Rattle.std.specs.Prelude.{◌≡◌, ℕ, ◌+◌, ◌*◌, ◌/◌, ◌%◌, Bool, cond, List, [], ◌∷◌, ◌++◌, ◌==◌, slice_set}
use Rattle.field.specs.Check.{check_of}
use Rattle.cell.specs.Reader.{group_of, message_part}
use Rattle.cell.specs.declared.fault.Group.TheVariants.{First, Second, Third, Fourth}
use Rattle.plant.specs.Lawful.{Does}
use Rattle.plant.specs.declared.burst.Burst.{Burst}

-- a byte that differs from the right one
abbrev pub wrong : ℕ → ℕ
wrong right = cond (right == 0) 1 0

-- all five check bytes are wrong, every other byte stays
unfoldable pub spoiled : List ℕ → List ℕ
spoiled b =
    slice_set (slice_set (slice_set (slice_set (slice_set b
    10 (wrong (check_of (group_of First b))))
    18 (wrong (check_of (group_of Second b))))
    26 (wrong (check_of (group_of Third b))))
    33 (wrong (check_of (group_of Fourth b ++ 0 ∷ []))))
    46 (wrong (check_of (message_part b)))

-- the bit of this cell is the lowest
abbrev pub lowest : ℕ → Bool
lowest pattern = pattern % 2 == 1

-- the pattern for the next cell: its 64 bits come round again
abbrev pub turned : ℕ → ℕ
turned pattern = pattern / 2 + pattern % 2 * 9223372036854775808

abbrev pub sent_on : ℕ → List ℕ → List ℕ
sent_on pattern b = cond (lowest pattern) (spoiled b) b

-- the plant behind hears what goes on, and the pattern moves by one
abbrev pub DropDoes : {X : Type 0} → Does X → X → ℕ → List ℕ → ℕ → X → ℕ → List Burst → Type 0
DropDoes D x pattern p first y next new = D x (sent_on pattern p) first y new × (next ≡ turned pattern)
