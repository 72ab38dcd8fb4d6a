-- Each figure computes.
use Rattle.std.proofs.Common.{refl}
use Rattle.std.proofs.lemmas.List.Elements.{All-from_recursion}
use Rattle.field.specs.Bounded.{within}
use Rattle.field.specs.Check.{check_of, shifted, brought, coefficients}
use Rattle.field.specs.Number.{capped, nought}
use Rattle.field.specs.Octets.{octets_of}
use Rattle.rules.specs.Clamp.{clamped}
use Rattle.figures.specs.Figures.{Figures, Holds, figures}

pub figures_hold : Figures
unfolding within check_of shifted brought coefficients capped nought octets_of clamped
figures_hold =
    All-from_recursion Holds figures (
      refl,
      (
        (refl, refl),
        (
          (refl, refl),
          (
            (refl, refl),
            (
              (refl, refl),
              (
                (refl, refl),
                (
                  (refl, refl),
                  (
                    (refl, refl),
                    (
                      (refl, refl),
                      (
                        (refl, refl),
                        (
                          (refl, refl),
                          (
                            (refl, refl),
                            (
                              (refl, refl),
                              (refl, (refl, (refl, (refl, (refl, (refl, (refl, (refl, (refl, (refl, tt)))))))))),
                            ),
                          ),
                        ),
                      ),
                    ),
                  ),
                ),
              ),
            ),
          ),
        ),
      ),
    )
