-- When two bursts overlap at the receiver.
use Rattle.std.specs.Prelude.{ℕ, ◌+◌, ◌-◌, ◌<◌, ◌≤◌, ◌⊎◌}
use Rattle.plant.specs.declared.burst.Burst.{Burst}

-- a burst lasts a slot's 448 bits less the guard; its first bit time is in it, the one after its last is not
abbrev pub Covers : (guard : ℕ) → Burst → ℕ → Type 0
Covers guard b t = (b.start ≤ t) × (t < b.start + (448 - guard))

-- some bit time lies in both
abbrev pub Overlap : (guard : ℕ) → Burst → Burst → Type 0
Overlap guard b c = (t : ℕ) × (Covers guard b t) × (Covers guard c t)

-- no bit time lies in both
abbrev pub Apart : (guard : ℕ) → Burst → Burst → Type 0
Apart guard b c = (t : ℕ) → Covers guard b t → Covers guard c t → ⊥

-- overlap does not ask which burst comes first; bursts are apart just if one ends before or where the other starts
abbrev pub OverlapStands : Type 0
OverlapStands =
    ((guard : ℕ) (b c : Burst) → Overlap guard b c → Overlap guard c b)
    × ((guard : ℕ) (b c : Burst) → Apart guard b c → Apart guard c b)
    × ((guard : ℕ) (b c : Burst) → (b.start + (448 - guard) ≤ c.start) ⊎ (c.start + (448 - guard) ≤ b.start) → Apart guard b c)
    × ((guard : ℕ) (b c : Burst) → guard < 448 → Apart guard b c → (b.start + (448 - guard) ≤ c.start) ⊎ (c.start + (448 - guard) ≤ b.start))
