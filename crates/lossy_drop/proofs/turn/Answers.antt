use Rattle.std.proofs.Common.{◌≡◌, ◌+◌, ◌*◌, ◌/◌, ◌%◌, ◌<◌, ap, ◌∙◌, refl, arith, bit_or}
use Rattle.std.proofs.lemmas.Grind.{or_before_shift}
use Rattle.lossy_drop.proofs.turn.Goals as goal

pub returns : goal.returns
returns c =
    let n = c.args.pattern in
    let h : n < 18446744073709551616 = omega (arith, c.ranges.pattern.fits) in
    let e : n * 9223372036854775808 % 18446744073709551616 ≡ (n % 2) * 9223372036854775808 % 18446744073709551616 = omega arith in
    let o : bit_or (n / 2) ((n % 2) * 9223372036854775808 % 18446744073709551616) ≡ (n % 2) * 9223372036854775808 + n / 2 =
    or_before_shift (n / 2) (n % 2) 9223372036854775808 18446744073709551616 refl (omega arith) (omega arith) in
    c.rotate_right.ensures ∙ ap (bit_or (n / 2)) (e) ∙ o ∙ omega arith
