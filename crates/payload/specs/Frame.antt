-- A frame's 96 bytes: two cells, 53 grants and two messages.
use Rattle.std.specs.Prelude.{ℕ, true, false, cond, List, [], ◌∷◌, ◌++◌, length, Ok, Err, Result, ◌==◌}
use Rattle.std.specs.List.{between}
use Rattle.field.specs.Bytes.{then}
use Rattle.field.specs.Grant.{code_of}
use Rattle.field.specs.Octets.{grants_of}
use Rattle.field.specs.declared.grant.Grant.TheVariants.{Idle}
use Rattle.field.specs.declared.grants.Grants.{Grants}
use Rattle.payload.specs.Cell.{cell_of, cell_bytes}
use Rattle.payload.specs.declared.contents.Contents.{Contents}
use Rattle.payload.specs.declared.frame.Frame.{Frame}
use Rattle.cell.specs.declared.fault.Place.{Place}
use Rattle.cell.specs.declared.fault.Place.TheVariants.{First, Second}
use Rattle.cell.specs.declared.fault.CellFault.{CellFault}
use Rattle.cell.specs.declared.fault.FrameFault.{FrameFault}
use Rattle.cell.specs.declared.fault.FrameFault.TheVariants.{Length, Cell}

-- the grants of both cells, all but the last, which stands for no slot
unfoldable pub joined : Grants 27 → Grants 27 → Grants 53
joined first second = grants_of 53 (first.codes ++ between 0 26 second.codes)

-- the reading of one of the two cells, whose fault says which
abbrev pub placed : {A : Type 0} → Place → Result A CellFault → Result A (Place × CellFault)
placed place (Ok x) = Ok x
placed place (Err e) = Err (place, e)

abbrev pub in_place : Place → List ℕ → Result Contents (Place × CellFault)
in_place place b = placed place (cell_of b)

-- a cell's fault, whole, is a fault of the frame
abbrev pub by_cell : {A : Type 0} → Result A (Place × CellFault) → Result A FrameFault
by_cell (Ok x) = Ok x
by_cell (Err e) = Err (Cell e.0 e.1)

-- the contents of a frame, or the first fault: the length, the first cell, the second
abbrev pub frame_of : List ℕ → Result Frame FrameFault
frame_of b =
    cond (length b == 96)
    (then (by_cell (in_place First (between 0 48 b))) (λ first.
    then (by_cell (in_place Second (between 48 96 b))) (λ second.
    Ok (record { grants = joined first.grants second.grants; first = first.message; second = second.message }))))
    (Err Length)

-- the first cell has the frame bit and 27 grants, the second the other 26 and an idle one
unfoldable pub first_cell : Frame → Contents
first_cell f = record { first = true; grants = grants_of 27 (between 0 27 f.grants.codes); message = f.first }

unfoldable pub second_cell : Frame → Contents
second_cell f = record { first = false; grants = grants_of 27 (between 27 53 f.grants.codes ++ code_of Idle ∷ []); message = f.second }

unfoldable pub frame_bytes : Frame → List ℕ
frame_bytes f = cell_bytes (first_cell f) ++ cell_bytes (second_cell f)
