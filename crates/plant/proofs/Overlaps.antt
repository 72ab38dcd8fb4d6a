-- Overlap by the distance of two starts.
use Rattle.std.proofs.Common.{◌≡◌, ℕ, ◌+◌, ◌-◌, ◌<◌, ◌≤◌, ltb, ◌⊎◌, MatchBool, inl, inr, arith}
use Rattle.std.proofs.lemmas.Bool.{cases_lt, lt-ltb, le-ltb}
use Rattle.plant.specs.declared.burst.Burst.{Burst}
use Rattle.plant.specs.Overlap.{Overlap, Apart, OverlapStands}

-- the later start lies in both
near : (g : ℕ) (b c : Burst) → b.start < c.start + (448 - g) → c.start < b.start + (448 - g) → Overlap g b c
near g b c h k =
    elim (cases_lt b.start c.start) [
      | inl a ↦ (c.start, (omega arith, k), (omega arith, omega arith))
      | inr a ↦ (b.start, (omega arith, omega arith), (omega arith, h))
    ]

far : (g : ℕ) (b c : Burst) → (b.start + (448 - g) ≤ c.start) ⊎ (c.start + (448 - g) ≤ b.start) → Apart g b c
far g b c (inl h) t x y = omega (arith, x.1, y.0)
far g b c (inr h) t x y = omega (arith, x.0, y.1)

distant : (g : ℕ) (b c : Burst) → Apart g b c → (b.start + (448 - g) ≤ c.start) ⊎ (c.start + (448 - g) ≤ b.start)
distant g b c h =
    elim (cases_lt c.start (b.start + (448 - g))) [
      | inl k ↦ (elim (cases_lt b.start (c.start + (448 - g))) [
        | inl l ↦ (let o : Overlap g b c = near g b c l k in absurd (h o.0 o.1 o.2))
        | inr l ↦ inr l
      ])
      | inr k ↦ inl k
    ]

pub stands : OverlapStands
stands = (
  (λ g b c o. (o.0, o.2, o.1)),
  (λ g b c h t x y. h t y x),
  far,
  (λ g b c k h. distant g b c h),
)

between : (x y d : ℕ) → d ≡ (x - y) + (y - x) → (l : ℕ) → l ≤ d → 0 < l → (x + l ≤ y) ⊎ (y + l ≤ x)
between x y d e l h k = elim (cases_lt x y) [ inl a ↦ inl (omega arith) | inr a ↦ inr (omega arith) ]

pub judged : (g n d : ℕ) (b c : Burst) → g < 448 → n ≡ g → d ≡ (b.start - c.start) + (c.start - b.start)
    → MatchBool (ltb d (448 - n)) (Overlap g b c) (Apart g b c)
judged g n d b c k e h =
    elim (cases_lt d (448 - n)) [
      | inl l ↦ rw (lt-ltb d (448 - n) l) (near g b c (omega arith) (omega arith))
      | inr l ↦ rw (le-ltb d (448 - n) l) (far g b c (between b.start c.start d h (448 - g) (omega arith) (omega arith)))
    ]
