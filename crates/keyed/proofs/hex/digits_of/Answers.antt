use Rattle.std.proofs.Common.{rules, ◌≡◌, ℕ, ◌+◌, ◌*◌, ◌<◌, List, [], ◌∷◌, ◌++◌, length, take, set, arith}
use Rattle.std.proofs.lemmas.Grind.{common_steps}
use Rattle.keyed.proofs.Hexes.{hexed_none, hexed_more, hexed_utf8}
use Rattle.keyed.proofs.hex.digits_of.Goals as goal

two_more :
    (text : List ℕ) (i high low : ℕ)
    → 2 * i + 1 < length text
    → take (2 * (i + 1)) (set (set text (2 * i) high) (2 * i + 1) low) ≡ take (2 * i) text ++ high ∷ low ∷ []
two_more text i high low h = grind (arith, common_steps)

pub loop-place-init : goal.loop-place-init
loop-place-init c = search (rules, hexed_none)

pub loop-place-preserved : goal.loop-place-preserved
loop-place-preserved c = search (rules, two_more, hexed_more)

pub returns-clause-utf8 : goal.returns-clause-utf8
returns-clause-utf8 c = hexed_utf8 c.args.bytes.now (λ i. search (rules, c.type_inv.bytes i))
