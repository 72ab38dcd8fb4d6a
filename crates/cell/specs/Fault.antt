-- The numbers of the refusals, and what is said of each.
use Rattle.std.specs.Prelude.{ℕ, List, ◌++◌, codes, decimal}
use Rattle.message.specs.Fault.{fault_words}
use Rattle.cell.specs.declared.fault.Group.TheVariants.{First, Second, Third, Fourth}
use Rattle.cell.specs.declared.fault.CheckFault.{CheckFault}
use Rattle.cell.specs.declared.fault.CheckFault.TheVariants.{Grants, Message as MessageGroup}
use Rattle.cell.specs.declared.fault.CellFault.{CellFault}
use Rattle.cell.specs.declared.fault.CellFault.TheVariants.{Length as CellLength, Check, Message}
use Rattle.cell.specs.declared.fault.Place.{Place}
use Rattle.cell.specs.declared.fault.Place.TheVariants.{First as FirstCell, Second as SecondCell}
use Rattle.cell.specs.declared.fault.FrameFault.{FrameFault}
use Rattle.cell.specs.declared.fault.FrameFault.TheVariants.{Length, Cell}

-- the groups of grants are 1 to 4, the message is 5
abbrev pub group_number : CheckFault → ℕ
group_number (Grants First) = 1
group_number (Grants Second) = 2
group_number (Grants Third) = 3
group_number (Grants Fourth) = 4
group_number MessageGroup = 5

-- 15 for the length, 16 for a check byte, 17 for the message
abbrev pub cell_refusal : CellFault → ℕ
cell_refusal CellLength = 15
cell_refusal (Check fault) = 16
cell_refusal (Message fault) = 17

abbrev pub frame_refusal : FrameFault → ℕ
frame_refusal Length = 15
frame_refusal (Cell place fault) = cell_refusal fault

-- the group is named by its number
abbrev pub check_words : CheckFault → List ℕ
check_words fault = codes "check byte of group " ++ decimal (group_number fault)

-- a cell's fault by its cause
abbrev pub cell_words : CellFault → List ℕ
cell_words CellLength = codes "length"
cell_words (Check fault) = check_words fault
cell_words (Message fault) = codes "message: " ++ fault_words fault

abbrev pub place_words : Place → List ℕ
place_words FirstCell = codes "first cell: "
place_words SecondCell = codes "second cell: "

-- a frame's fault: the cell, where it is one's, and that cell's fault
abbrev pub frame_words : FrameFault → List ℕ
frame_words Length = codes "length"
frame_words (Cell place fault) = place_words place ++ cell_words fault
