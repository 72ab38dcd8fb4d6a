-- Writing what was read keeps what is specified.
use Rattle.std.proofs.Common.{◌≡◌, ℕ, ◌+◌, ◌<◌, ◌≤◌, List, length, IfOk, Ok, Err, Result, sym, refl, ap, ◌∙◌, ⊎_elim, arith, lit<}
use Rattle.std.proofs.lemmas.List.Edits.{get_or-between}
use Rattle.std.proofs.lemmas.List.{get_or_past, length-take}
use Rattle.std.proofs.lemmas.Result.{IfOk-at_ok}
use Rattle.std.proofs.lemmas.Bool.{cases_lt}
use Rattle.field.specs.Bytes.{at}
use Rattle.field.specs.Octets.{picked, grants_of}
use Rattle.field.proofs.Readings.{then_made, test_made}
use Rattle.field.proofs.Runs.{all_picked}
use Rattle.message.specs.Downstream.{downstream_of, bytes_of}
use Rattle.message.specs.Kept.{Kept}
use Rattle.message.specs.declared.downstream.Downstream.{Downstream}
use Rattle.message.specs.declared.fault.MessageFault.{MessageFault}
use Rattle.message.proofs.Kept.{writing_keeps_lem}
use Rattle.message.proofs.Twelve.{twelve}
use Rattle.cell.specs.Reader.{first_of, message_part, checked_of, by_check, by_message, read_of}
use Rattle.payload.specs.Cell.{grants_in, cell_of, assembled, cell_bytes}
use Rattle.payload.specs.Laws.{grant_bytes, WritingKeeps}
use Rattle.payload.specs.declared.contents.Contents.{Contents}
use Rattle.payload.proofs.CellAgain.{bit_again}

any_made : {A E : Type 0} (r : Result A E) → IfOk r (λ _. Unit {0})
any_made (Ok x) = tt
any_made (Err e) = tt

message_made : {A : Type 0} (r : Result A MessageFault) → IfOk (by_message r) (λ m. r ≡ Ok m)
message_made (Ok m) = refl
message_made (Err e) = tt

-- a cell that is read has the message of its twelve bytes
read_made : (b : List ℕ) → IfOk (read_of b) (λ m. downstream_of (message_part b) ≡ Ok m)
read_made b = then_made _ _ (by_check (checked_of b)) _ (any_made (by_check (checked_of b))) (λ _ _. message_made (downstream_of (message_part b)))

abbrev contents : List ℕ → Downstream → Contents
contents b m = record { first = first_of b; grants = grants_in b; message = m }

-- the codes of 27 grants that stand in a cell
abbrev codes : List ℕ → List ℕ
codes b = (grants_in b).codes

grants_kept : (b bytes : List ℕ) → length b ≡ 48 → grant_bytes (assembled (first_of b) (codes b) bytes) ≡ grant_bytes b
unfolding grants_in grants_of
grants_kept b bytes h =
    let e = all_picked 48 b h in
    ap (λ (xs : List ℕ). grant_bytes (assembled (first_of b) (codes xs) bytes)) e ∙ sym (ap grant_bytes e)

message_kept : (b bytes : List ℕ) → message_part (assembled (first_of b) (codes b) (picked 0 12 bytes)) ≡ picked 0 12 bytes
unfolding grants_in grants_of
message_kept b bytes = refl

part_small : (b : List ℕ) → ((k : ℕ) → at b k < 256) → (k : ℕ) → at (message_part b) k < 256
part_small b small k =
    ⊎_elim (λ (h : k < 12). let l : 34 + k < 46 = omega arith in rw (get_or-between b 34 46 k 0 l) (small (34 + k)))
    (λ (h : 12 ≤ k). let l : length (message_part b) ≤ k = simp length-take (omega arith) in rw (get_or_past (message_part b) k 0 l) (lit< tt))
    (cases_lt k 12)

abbrev Keeps : List ℕ → Contents → Type 0
Keeps b c =
    (first_of (cell_bytes c) ≡ first_of b) × (grant_bytes (cell_bytes c) ≡ grant_bytes b)
    × (message_part (cell_bytes c) ≡ bytes_of c.message) × Kept (message_part b) c.message

parts_kept : (b : List ℕ) → length b ≡ 48 → ((k : ℕ) → at b k < 256) → (m : Downstream) → downstream_of (message_part b) ≡ Ok m → Keeps b (contents b m)
unfolding cell_bytes
parts_kept b h small m e =
    let p = all_picked 12 (bytes_of m) (twelve m) in (
      bit_again (first_of b),
      grants_kept b (bytes_of m) h,
      ap (λ (bs : List ℕ). message_part (assembled (first_of b) (codes b) bs)) p ∙ message_kept b (bytes_of m) ∙ sym p,
      writing_keeps_lem (message_part b) (part_small b small) m e,
    )

cell_made : (b : List ℕ) → ((k : ℕ) → at b k < 256) → IfOk (cell_of b) (Keeps b)
cell_made b small =
    test_made (Keeps b) (length b) 48 _ _
    (λ h. then_made (λ m. downstream_of (message_part b) ≡ Ok m) (Keeps b) (read_of b) (λ m. Ok (contents b m)) (read_made b) (parts_kept b h small)) tt

pub cell_keeps : WritingKeeps
cell_keeps b small c e = IfOk-at_ok (Keeps b) e (cell_made b small)
