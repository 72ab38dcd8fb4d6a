use Rattle.driver.proofs.laws.undisturbed.Goals as goal

pub returns : goal.returns
returns g c line cells came = c.no_overlap.ensures line.head line.plant cells came.run
