use Rattle.std.proofs.Common.{◌≡◌, length, ap, ◌∙◌, not-suc-le-zero, arith, rules}
use lib.ListN.{length-replicate}
use Rattle.field.specs.Grant.{code_of}
use Rattle.field.specs.Octets.{grants_of}
use Rattle.field.specs.declared.grant.Grant.TheVariants.{Idle}
use Rattle.field.proofs.Runs.{map_filled}
use Rattle.field.proofs.grants.Grants.new.Goals as goal

pub loop-k-init : goal.loop-k-init
loop-k-init g c = (length-replicate g.row.N 0, λ j h. absurd (not-suc-le-zero h))

pub returns : goal.returns
returns g c =
    let places : length c.args.places ≡ g.row.N = search rules in
    c.from_codes.ensures
    ∙ ap (grants_of g.row.N) (map_filled code_of Idle 0 c.args.places c.loop-k.codes g.row.N places c.loop-k.invariant.0 (λ k h. c.loop-k.invariant.1 k (omega arith)))
