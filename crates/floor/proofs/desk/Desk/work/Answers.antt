use Rattle.floor.proofs.desk.Desk.work.Goals as goal

pub returns : goal.returns
returns c = record { goes = c.plant_mut.ensures.goes c.work.new.plant (rw (← c.plant_mut.ensures.plant) c.work.ensures) }
