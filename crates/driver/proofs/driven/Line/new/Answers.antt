use Rattle.driver.proofs.Going.{came_new}
use Rattle.driver.proofs.driven.Line.new.Goals as goal

pub returns-clause-comes : goal.returns-clause-comes
returns-clause-comes g c = came_new g.P.Plant.means g.P.Plant.does _ c.new.ensures c.in_ok-bursts.ensures.items
