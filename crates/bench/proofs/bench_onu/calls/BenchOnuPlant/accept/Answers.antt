use Rattle.bench.specs.Benches.{cell_keeps}
use Rattle.bench.proofs.bench_onu.calls.BenchOnuPlant.accept.Goals as goal

pub invariant_of-self : goal.invariant_of-self
invariant_of-self c = record { kept = cell_keeps c.args.self.now.machine c.take_cell.new.self _ c.take_cell.ensures.state c.args.self.now.kept }
