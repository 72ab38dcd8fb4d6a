-- Equalization delays.
use Rattle.std.specs.Prelude.{ℕ, Option}
use Rattle.field.specs.declared.number.Number.{Number}
use Rattle.field.specs.Number.{up_to, nought}

-- a number of bits, at most 32,000
abbrev pub Delay : Type 0
Delay = Number 32000

-- the delay of n bits, or none above 32,000
abbrev pub delay_of : ℕ → Option Delay
delay_of n = up_to 32000 n

-- no delay at all
abbrev pub no_delay : Delay
no_delay = nought 32000
