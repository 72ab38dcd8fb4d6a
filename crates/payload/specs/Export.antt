-- What C code is answered.
use Rattle.std.specs.Prelude.{ℕ, List, Ok, Err, Result}
use Rattle.field.specs.Bytes.{then}
use Rattle.payload.specs.Cell.{cell_of, cell_bytes, written, after}
use Rattle.cell.specs.Fault.{cell_refusal}
use Rattle.payload.specs.declared.contents.Contents.{Contents}
use Rattle.cell.specs.declared.fault.CellFault.{CellFault}
use Rattle.cell.specs.declared.fault.CellFault.TheVariants.{Length}

-- 0, or the number of the refusal
abbrev pub answer_of : {A : Type 0} → Result A CellFault → ℕ
answer_of (Ok x) = 0
answer_of (Err e) = cell_refusal e

-- whether the bytes are a sound cell
abbrev pub check_answer : List ℕ → ℕ
check_answer b = answer_of (cell_of b)

-- the contents of a sound cell, written again; reading is asked before the buffer's length
abbrev pub rewrite_of : Result Contents CellFault → List ℕ → Result (Unit {0}) CellFault
rewrite_of (Ok c) out = written 48 Length out
rewrite_of (Err e) out = Err e

abbrev pub rewrite_answer : (b out : List ℕ) → ℕ
rewrite_answer b out = answer_of (rewrite_of (cell_of b) out)

abbrev pub buffer_of : Result Contents CellFault → List ℕ → List ℕ
buffer_of (Ok c) out = after 48 (cell_bytes c) out
buffer_of (Err e) out = out

abbrev pub rewritten : (b out : List ℕ) → List ℕ
rewritten b out = buffer_of (cell_of b) out

-- the same, as a result
abbrev pub rewritten_of : List ℕ → Result (List ℕ) CellFault
rewritten_of b = then (cell_of b) (λ c. Ok (cell_bytes c))
