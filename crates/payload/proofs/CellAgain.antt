-- Reading a cell undoes writing it.
use Rattle.std.proofs.Common.{◌≡◌, ℕ, ◌%◌, Bool, true, false, eqb, List, length, Ok, Result, sym, refl, ap, ◌∙◌}
use Rattle.std.proofs.lemmas.Bool.{eq-eqb}
use Rattle.field.specs.Octets.{picked, grants_of}
use Rattle.field.specs.declared.grants.Grants.{Grants}
use Rattle.field.proofs.Runs.{all_picked, grants_again}
use Rattle.message.specs.Downstream.{downstream_of, bytes_of, flag_byte}
use Rattle.message.specs.declared.downstream.Downstream.{Downstream}
use Rattle.message.specs.Laws.{read_back}
use Rattle.message.proofs.Twelve.{twelve}
use Rattle.payload.specs.declared.contents.Contents.{Contents}
use Rattle.cell.specs.declared.fault.CellFault.{CellFault}
use Rattle.cell.specs.declared.fault.CheckFault.{CheckFault}
use Rattle.cell.specs.Reader.{fits, read_of}
use Rattle.payload.specs.Cell.{grants_in, cell_of, assembled, cell_bytes}

-- a check byte fits what it was made of
pub fits_itself : (n : ℕ) (fault : CheckFault) → fits n n fault ≡ Ok tt
fits_itself n fault = let t : eqb n n ≡ true = eq-eqb n n refl in rw t

pub bit_again : (b : Bool) → eqb (flag_byte b % 2) 1 ≡ b
bit_again true = refl
bit_again false = refl

-- the bytes of 27 codes and a message that stand written out
abbrev pub out : Bool → (codes bytes : List ℕ) → List ℕ
out first codes bytes = assembled first (picked 0 27 codes) (picked 0 12 bytes)

read_again : (first : Bool) (codes bytes : List ℕ) (m : Downstream) → downstream_of (picked 0 12 bytes) ≡ Ok m → read_of (out first codes bytes) ≡ Ok m
read_again first codes bytes m e = simp fits_itself (rw e)

codes_again : (first : Bool) (codes bytes : List ℕ) → grants_in (out first codes bytes) ≡ grants_of 27 (picked 0 27 codes)
unfolding grants_in
codes_again first codes bytes = refl

abbrev cell : Bool → Grants 27 → Downstream → Result Contents CellFault
cell first grants m = Ok (record { first = first; grants = grants; message = m })

out_again : (first : Bool) (codes bytes : List ℕ) (m : Downstream) → downstream_of (picked 0 12 bytes) ≡ Ok m → cell_of (out first codes bytes) ≡ cell first (grants_of 27 (picked 0 27 codes)) m
out_again first codes bytes m e = rw (read_again first codes bytes m e, codes_again first codes bytes, bit_again first)

-- the bytes of a cell, written out
pub cell_out : (c : Contents) → cell_bytes c ≡ out c.first c.grants.codes (bytes_of c.message)
unfolding cell_bytes
cell_out c =
    ap (λ (xs : List ℕ). assembled c.first xs (bytes_of c.message)) (all_picked 27 c.grants.codes c.grants.full)
    ∙ ap (assembled c.first (picked 0 27 c.grants.codes)) (all_picked 12 (bytes_of c.message) (twelve c.message))

pub cell_again : (c : Contents) → cell_of (cell_bytes c) ≡ Ok c
cell_again c =
    ap cell_of (cell_out c)
    ∙ out_again c.first c.grants.codes (bytes_of c.message) c.message
    (ap downstream_of (sym (all_picked 12 (bytes_of c.message) (twelve c.message))) ∙ read_back c.message)
    ∙ ap (λ (xs : List ℕ). cell c.first (grants_of 27 xs) c.message) (sym (all_picked 27 c.grants.codes c.grants.full))
    ∙ ap (λ (gs : Grants 27). cell c.first gs c.message) (grants_again c.grants)

-- a cell has 48 bytes
pub cell-length : (c : Contents) → length (cell_bytes c) ≡ 48
cell-length c = ap length (cell_out c)
