-- A burst list to which bursts were appended.
use Rattle.std.specs.Prelude.{◌≡◌, List, ◌++◌, vec_items, vec_capacity}
use Rattle.plant.specs.Hearing.{Bursts}
use Rattle.plant.specs.declared.burst.Burst.{Burst}

-- these bursts came after its own, in the room that it had
pub record Appended (old new : Bursts) (more : List Burst) : Type 0 where
  pub items : vec_items new ≡ vec_items old ++ more
  pub capacity : vec_capacity new ≡ vec_capacity old
