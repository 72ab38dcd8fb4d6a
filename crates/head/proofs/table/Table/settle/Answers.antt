use Rattle.std.proofs.Common.{◌≡◌, ◌+◌, ◌*◌, rules, arith, sym, ◌∙◌}
use Rattle.std.specs.List.{between}
use Rattle.report.specs.Record.{record_of}
use Rattle.head.specs.Table.{settled_one}
use Rattle.head.proofs.Settling.{settled_next, settled_end}
use Rattle.head.proofs.table.Table.settle.Goals as goal

pub loop-k-preserved : goal.loop-k-preserved
loop-k-preserved c =
    let k = c.loop-k.k in
    let read : c.from.result ≡ record_of (between (18 * k) (18 * k + 18) c.args.report.now) = search rules in
    let step : c.settle_one.new.self.rows ≡ settled_one c.args.settings.now c.args.now c.args.frame (k + 1) (record_of (between (18 * k) (18 * k + 18) c.args.report.now)) c.loop-k.self.rows = search (rules, read) in
    let next = settled_next c.args.settings.now c.args.now c.args.frame c.args.report.now k c.loop-k.self.rows (search rules) in
    rw step (sym next ∙ c.loop-k.invariant)

pub returns : goal.returns
returns c = sym (settled_end c.args.settings.now c.args.now c.args.frame c.args.report.now _ _ _ c.loop-k.self.rows (omega arith)) ∙ c.loop-k.invariant
