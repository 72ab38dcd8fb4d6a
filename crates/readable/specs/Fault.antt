-- Texts that say why a cell or a frame is refused.
use Rattle.std.specs.Prelude.{ℕ, List, ◌++◌, codes, decimal}
use Rattle.cell.specs.Fault.{group_number, cell_refusal}
use Rattle.cell.specs.declared.fault.CellFault.{CellFault}
use Rattle.cell.specs.declared.fault.CellFault.TheVariants.{Length, Check, Message}
use Rattle.cell.specs.declared.fault.FrameFault.{FrameFault}
use Rattle.cell.specs.declared.fault.FrameFault.TheVariants as frame
use Rattle.cell.specs.declared.fault.Place.{Place}
use Rattle.cell.specs.declared.fault.Place.TheVariants.{First, Second}
use Rattle.readable.specs.Shown.{fault_text}

-- the cause of a cell's fault
abbrev pub cause_text : CellFault → List ℕ
cause_text Length = codes "length"
cause_text (Check check) = codes "group=" ++ decimal (group_number check)
cause_text (Message why) = fault_text why

-- a cell's fault: its number, then its cause
abbrev pub cell_fault_text : CellFault → List ℕ
cell_fault_text fault = codes "fault " ++ (decimal (cell_refusal fault) ++ (codes " " ++ cause_text fault))

abbrev pub place_name : Place → List ℕ
place_name First = codes "cell=1 "
place_name Second = codes "cell=2 "

-- a frame's fault: the cell, where it is one's, and that cell's fault
abbrev pub frame_fault_text : FrameFault → List ℕ
frame_fault_text frame.Length = cell_fault_text Length
frame_fault_text (frame.Cell place fault) = place_name place ++ cell_fault_text fault

-- a line with each of these appended
abbrev pub with_cell_fault : List ℕ → CellFault → List ℕ
with_cell_fault line fault = line ++ cell_fault_text fault

abbrev pub with_frame_fault : List ℕ → FrameFault → List ℕ
with_frame_fault line fault = line ++ frame_fault_text fault
