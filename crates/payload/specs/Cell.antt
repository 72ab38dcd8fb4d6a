-- What a cell holds, read out of its 48 bytes and written into them.
use Rattle.std.specs.Prelude.{ℕ, Bool, cond, List, [], ◌∷◌, ◌++◌, length, Ok, Err, Result, ◌==◌}
use Rattle.std.specs.List.{between}
use Rattle.field.specs.Bytes.{then}
use Rattle.field.specs.Check.{check_of}
use Rattle.field.specs.Octets.{grants_of}
use Rattle.field.specs.declared.grants.Grants.{Grants}
use Rattle.message.specs.Downstream.{bytes_of, flag_byte}
use Rattle.cell.specs.Reader.{first_of, group_of, read_of}
use Rattle.cell.specs.declared.fault.Group.TheVariants.{First, Second, Third, Fourth}
use Rattle.cell.specs.declared.fault.CellFault.{CellFault}
use Rattle.cell.specs.declared.fault.CellFault.TheVariants.{Length}
use Rattle.payload.specs.declared.contents.Contents.{Contents}

-- all 27, by their codes
unfoldable pub grants_in : List ℕ → Grants 27
grants_in b = grants_of 27 (group_of First b ++ group_of Second b ++ group_of Third b ++ group_of Fourth b)

-- the contents of a cell, or the first fault: the length, the check bytes in order, the message
abbrev pub cell_of : List ℕ → Result Contents CellFault
cell_of b =
    cond (length b == 48)
    (then (read_of b) (λ message. Ok (record { first = first_of b; grants = grants_in b; message = message })))
    (Err Length)

-- the bytes of a cell from its frame bit, 27 codes and the message's twelve bytes; SYNC and BIP are 0
-- each part is followed by its check byte, that of the last grants by the one of these and a zero byte
abbrev pub assembled : Bool → (codes message : List ℕ) → List ℕ
assembled first codes message =
    (flag_byte first ∷ 0 ∷ 0 ∷ [])
    ++ (between 0 7 codes ++ check_of (between 0 7 codes) ∷ [])
    ++ (between 7 14 codes ++ check_of (between 7 14 codes) ∷ [])
    ++ (between 14 21 codes ++ check_of (between 14 21 codes) ∷ [])
    ++ (between 21 27 codes ++ check_of (between 21 27 codes ++ 0 ∷ []) ∷ [])
    ++ (message ++ check_of message ∷ [])
    ++ 0 ∷ []

unfoldable pub cell_bytes : Contents → List ℕ
cell_bytes c = assembled c.first c.grants.codes (bytes_of c.message)

-- a buffer of another length is refused and left as it was
abbrev pub written : {E : Type 0} → (n : ℕ) → E → List ℕ → Result (Unit {0}) E
written n fault out = cond (length out == n) (Ok tt) (Err fault)

abbrev pub after : (n : ℕ) → (bytes out : List ℕ) → List ℕ
after n bytes out = cond (length out == n) bytes out
