-- Which grants an ONU answers, and what it says.
use Rattle.std.specs.Prelude.{ℕ, Bool, cond, ◌&&◌, ◌||◌, Some, None, Option}
use Rattle.field.specs.declared.bounded.Bounded.{Bounded}
use Rattle.field.specs.declared.grant.Grant.{Grant}
use Rattle.field.specs.declared.grant.Grant.TheVariants.{Code, Ranging, Unassigned, Idle}
use Rattle.field.specs.declared.octets.Octets.{Octets}
use Rattle.field.specs.Octets.{octets_of}
use Rattle.upstream.specs.Message.{bytes_of}
use Rattle.upstream.specs.declared.message.Upstream.{Upstream}
use Rattle.upstream.specs.declared.message.Upstream.TheVariants.{SerialNumberOnu}
use Rattle.onu.specs.declared.answer.Kind.{Kind}
use Rattle.onu.specs.declared.answer.Kind.TheVariants.{Ploam, Data}
use Rattle.onu.specs.declared.state.Onu.{Onu}
use Rattle.onu.specs.Onu.{inside, has}

-- a burst is a PLOAM cell or a data cell
abbrev pub kind_number : Kind → ℕ
kind_number Ploam = 2
kind_number Data = 3

abbrev pub holds_code : Option (Bounded 0 252) → Bounded 0 252 → Bool
holds_code held c = has held c.value

-- data cells in O8, PLOAM cells in O7 and O8, each for the ONU's own code; a PLOAM cell for a ranging grant in O4 and O6
abbrev pub kind_for : Grant → Onu → Option Kind
kind_for (Code c) o =
    cond (inside 8 8 o && holds_code o.grant c) (Some Data) (cond (inside 7 8 o && holds_code o.ploam c) (Some Ploam) None)
kind_for Ranging o = cond (inside 4 4 o || inside 6 6 o) (Some Ploam) None
kind_for Unassigned o = None
kind_for Idle o = None

-- Serial_number_ONU with the ONU's number: from nobody yet in O6, from its PON_ID in O7
abbrev pub number_message : Onu → Upstream
number_message o = SerialNumberOnu (cond (inside 6 6 o) None o.id) o.serial

unfoldable pub number_octets : Onu → Octets 12
number_octets o = octets_of 12 (bytes_of (number_message o))

-- in O6 and O7 an ONU tells its serial number; elsewhere the message is free
abbrev pub said_by : Octets 12 → Onu → Octets 12
said_by free o = cond (inside 6 7 o) (number_octets o) free
