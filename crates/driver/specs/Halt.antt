-- What is said where no frame went out.
use Rattle.std.specs.Prelude.{ℕ, List, codes}
use Rattle.head.specs.Refusal.{refusal_words}
use Rattle.driver.specs.declared.halt.Halt.{Halt}
use Rattle.driver.specs.declared.halt.Halt.TheVariants.{Refused, Room}

abbrev pub halt_words : Halt → List ℕ
halt_words (Refused why) = refusal_words why
halt_words Room = codes "room for bursts"
