-- The bytes of a record in parts.
use Rattle.std.proofs.Common.{◌≡◌, ℕ, ◌+◌, List, length, get_or, drop, arith, length-drop}
use Rattle.std.proofs.lemmas.List.{get_or-drop}
use Rattle.std.proofs.lemmas.List.FromFn.{fill_by_all}
use Rattle.field.specs.Octets.{picked}

-- the last twelve of eighteen
pub message_picked : (b : List ℕ) → length b ≡ 18 → drop 6 b ≡ picked 6 12 b
message_picked b h =
    fill_by_all (λ k. get_or b (6 + k) 0) (drop 6 b) 12 0 (omega (arith, length-drop 6 b)) (λ k l. get_or-drop 6 b k 0)
