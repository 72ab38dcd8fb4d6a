-- What holds of the state table as a whole.
use Rattle.std.specs.Prelude.{◌≡◌, Bool, true, cond, ◌&&◌, ◌||◌, ◌⊎◌, is_some, ◌==◌}
use Rattle.field.specs.declared.number.Number.{Number}
use Rattle.message.specs.declared.downstream.Access.TheVariants.{AllowAll, Allow}
use Rattle.message.specs.declared.downstream.Downstream.TheVariants.{DisableSerialNumber}
use Rattle.onu.specs.declared.event.Event.{Event}
use Rattle.onu.specs.declared.event.Event.TheVariants.{Message}
use Rattle.onu.specs.declared.state.Onu.{Onu}
use Rattle.onu.specs.Onu.{inside, named, stepped}

-- in O3 to O7 the register is the pre-assigned delay
abbrev pub level : Onu → Bool
level o = cond (inside 3 7 o) (o.register.value == o.preset.value) true

-- a PON_ID is held in O5 to O8 and in O10 only, a code in O7, O8 and O10 only
abbrev pub placed : Onu → Bool
placed o =
    cond (is_some o.id) (inside 5 8 o || inside 10 10 o) true
    && cond (is_some o.grant || is_some o.ploam) (inside 7 8 o || inside 10 10 o) true

abbrev pub sound : Onu → Bool
sound o = level o && placed o

-- no event breaks that
abbrev pub TableKeeps : Type 0
TableKeeps = (e : Event) (o : Onu) → sound o ≡ true → sound (stepped e o) ≡ true

-- the two ways out of O9: all may start again, or the ONU with this serial number
pub data Released (o : Onu) : Event → Type 0 where
  with_all : Released o (Message (DisableSerialNumber AllowAll))
  alone : (serial : Number 18446744073709551615) → named serial o ≡ true → Released o (Message (DisableSerialNumber (Allow serial)))

-- in O9 every other event, power loss too, leaves the ONU as it is
abbrev pub StopStands : Type 0
StopStands = (e : Event) (o : Onu) → inside 9 9 o ≡ true → (stepped e o ≡ o) ⊎ Released o e
