-- A run is its bytes: their number is known, so the first n of n bytes are all of them.
use Rattle.std.proofs.Common.{◌≡◌, ℕ, ◌<◌, List, map, length, get_or, sym, refl, ap, ◌∙◌, subst, arith}
use native.Mathlib.Nat.{ℕ_set}
use Rattle.std.proofs.lemmas.List.{length-map, get_or-map}
use Rattle.std.proofs.lemmas.List.FromFn.{fill_by_all, length-map-range_with_len}
use Rattle.field.specs.declared.grants.Grants.{Grants}
use Rattle.field.specs.declared.octets.Octets.{Octets}
use Rattle.field.specs.Octets.{picked, octets_of, grants_of}

pub all_picked : (n : ℕ) (xs : List ℕ) → length xs ≡ n → xs ≡ picked 0 n xs
all_picked n xs h = fill_by_all (λ k. get_or xs k 0) xs n 0 h (λ k l. refl)

-- a value of a type that says how long its list is, from the list or from its first n bytes
same : {Y : Type 0} (n : ℕ) (make : (xs : List ℕ) → length xs ≡ n → Y) (xs : List ℕ) (h : length xs ≡ n) (k : length (picked 0 n xs) ≡ n) → make xs h ≡ make (picked 0 n xs) k
same n make xs h =
    subst (λ (zs : List ℕ). (k : length zs ≡ n) → make xs h ≡ make zs k) (all_picked n xs h) (λ k. ap (make xs) (ℕ_set _ _ h k))

abbrev run : (n : ℕ) (bytes : List ℕ) → length bytes ≡ n → Octets n
run n bytes h = record { bytes = bytes; full = h }

pub octets_made : (n : ℕ) (xs : List ℕ) (h : length xs ≡ n) → run n xs h ≡ octets_of n xs
unfolding octets_of
octets_made n xs h = same n (run n) xs h (length-map-range_with_len (λ k. get_or xs k 0) 0 n)

pub octets_again : {n : ℕ} (x : Octets n) → octets_of n (picked 0 n x.bytes) ≡ x
octets_again {n} x =
    ap (octets_of n) (sym (all_picked n x.bytes x.full)) ∙ sym (octets_made n x.bytes x.full)

abbrev slots : (n : ℕ) (codes : List ℕ) → length codes ≡ n → Grants n
slots n codes h = record { codes = codes; full = h }

pub grants_made : (n : ℕ) (xs : List ℕ) (h : length xs ≡ n) → slots n xs h ≡ grants_of n xs
unfolding grants_of
grants_made n xs h = same n (slots n) xs h (length-map-range_with_len (λ k. get_or xs k 0) 0 n)

pub grants_again : {n : ℕ} (x : Grants n) → grants_of n x.codes ≡ x
grants_again {n} x = sym (grants_made n x.codes x.full)

-- a list filled by what f gives of another's elements is that other list, mapped
pub map_filled : {X Y : Type 0} (f : X → Y) (d : X) (b : Y) (xs : List X) (ys : List Y) (n : ℕ) → length xs ≡ n → length ys ≡ n → ((k : ℕ) → k < n → get_or ys k b ≡ f (get_or xs k d)) → ys ≡ map f xs
map_filled f d b xs ys n h l each =
    fill_by_all (λ k. f (get_or xs k d)) ys n b l each
    ∙ sym (fill_by_all (λ k. f (get_or xs k d)) (map f xs) n b (length-map xs f ∙ h) (λ k m. let g : k < length xs = omega arith in get_or-map f xs k d b g))
