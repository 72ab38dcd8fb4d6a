use Rattle.std.proofs.Common.{rules}
use Rattle.bench.specs.Benches.{meets}
use Rattle.bench.proofs.bench_onu.BenchOnu.move_trip.Goals as goal

pub returns : goal.returns
returns c = meets _ _ _ (search rules)
