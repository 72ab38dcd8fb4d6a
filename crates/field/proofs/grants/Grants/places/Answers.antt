use Rattle.std.proofs.Common.{◌<◌, length, get_or, not-suc-le-zero, arith, length-set}
use lib.ListN.{length-replicate}
use Rattle.std.proofs.lemmas.List.Edits.{fill_by_more}
use Rattle.field.specs.Grant.{grant_of}
use Rattle.field.specs.declared.grant.Grant.TheVariants.{Idle}
use Rattle.field.proofs.Runs.{map_filled}
use Rattle.field.proofs.grants.Grants.places.Goals as goal

pub loop-k-init : goal.loop-k-init
loop-k-init g c = (length-replicate g.row.N Idle, λ j h. absurd (not-suc-le-zero h))

pub loop-k-preserved : goal.loop-k-preserved
loop-k-preserved g c =
    let h : c.loop-k.k < length c.loop-k.places = omega (arith, c.loop-k.invariant.0) in (
      simp length-set c.loop-k.invariant.0,
      simp c.from.ensures (fill_by_more (λ j. grant_of (get_or c.args.self.codes j 0)) c.loop-k.places c.loop-k.k Idle h c.loop-k.invariant.1),
    )

pub returns : goal.returns
returns g c =
    map_filled grant_of 0 Idle c.args.self.codes c.loop-k.places g.row.N c.args.self.full c.loop-k.invariant.0 (λ k h. c.loop-k.invariant.1 k (omega arith))
