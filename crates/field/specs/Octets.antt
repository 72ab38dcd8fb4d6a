-- Runs of a fixed length: of bytes and of grants.
use Rattle.std.specs.Prelude.{ℕ, List, map, slice_index}
use Rattle.std.specs.List.{range_with_len}
use Rattle.std.proofs.lemmas.List.FromFn.{length-map-range_with_len}
use Rattle.field.specs.declared.grants.Grants.{Grants}
use Rattle.field.specs.declared.octets.Octets.{Octets}

-- n bytes of a list, from a place on
abbrev pub picked : (from n : ℕ) → List ℕ → List ℕ
picked from n bytes = map (λ k. slice_index bytes k) (range_with_len from n)

-- the first n bytes of a list
unfoldable pub octets_of : (n : ℕ) → List ℕ → Octets n
octets_of n bytes = record { bytes = picked 0 n bytes; full = length-map-range_with_len (λ k. slice_index bytes k) 0 n }

-- n grants by their codes
unfoldable pub grants_of : (n : ℕ) → List ℕ → Grants n
grants_of n codes = record { codes = picked 0 n codes; full = length-map-range_with_len (λ k. slice_index codes k) 0 n }
