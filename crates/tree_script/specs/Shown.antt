-- What is told of an ONU's states.
use Rattle.std.specs.Prelude.{ℕ, List, ◌++◌, codes, decimal, cond, Some, None, Option, ◌==◌}
use Rattle.onu.specs.Onu.{number}
use Rattle.onu.specs.declared.state.State.{State}
use Rattle.tree_script.specs.declared.shown.Move.{Move}

-- one state left for another, where there was an ONU and still is
abbrev pub moved : (old new : Option State) → Option Move
moved None new = None
moved (Some a) None = None
moved (Some a) (Some b) = cond (number a == number b) None (Some (record { old = a; new = b }))

-- the state that was left, and the one that it was left for
abbrev pub move_words : Move → List ℕ
move_words m = codes "O" ++ (decimal (number m.old) ++ (codes " -> O" ++ decimal (number m.new)))
