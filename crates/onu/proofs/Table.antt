-- Every event keeps an ONU sound, and O9 is left in two ways alone.
use Rattle.std.proofs.Common.{◌≡◌, Bool, true, false, cond, ◌&&◌, ◌⊎◌, Some, None, Option, refl, inl, inr, arith}
use Rattle.std.proofs.lemmas.Bool.Decides.{nat_tests}
use Rattle.field.specs.declared.bounded.Bounded.{Bounded}
use Rattle.field.specs.Delay.{Delay}
use Rattle.message.specs.declared.downstream.Access.{Access}
use Rattle.message.specs.declared.downstream.Access.TheVariants.{Deny, AllowAll, Allow}
use Rattle.message.specs.declared.downstream.Downstream.{Downstream}
use Rattle.message.specs.declared.downstream.Downstream.TheVariants.{UpstreamOverhead, RangingTime, SerialNumberMask, AssignPonId, DeactivatePonId, DisableSerialNumber, GrantAllocation, Popup}
use Rattle.onu.specs.declared.event.Event.{Event}
use Rattle.onu.specs.declared.event.Event.TheVariants.{Message, Own}
use Rattle.onu.specs.declared.event.OwnEvent.{OwnEvent}
use Rattle.onu.specs.declared.event.OwnEvent.TheVariants.{SignalLoss, SignalReturn, PowerSetUp, FirstTimer, SecondTimer, PowerLoss}
use Rattle.onu.specs.declared.state.Onu.{Onu}
use Rattle.onu.specs.declared.state.State.TheVariants.{O2, O8}
use Rattle.onu.specs.Onu.{inside, has, code_in, coded, allocated, delayed, restarted, named, meant, matches, masked, disabled, obeyed, happened, stepped}
use Rattle.onu.specs.Facts.{sound, Released, with_all, alone}

masked_keeps : (fits : Bool) (o : Onu) → sound o ≡ true → sound (masked fits o) ≡ true
masked_keeps true o h = grind (arith, nat_tests)
masked_keeps false o h = grind (arith, nat_tests)

disabled_keeps : (a : Access) (o : Onu) → sound o ≡ true → sound (disabled a o) ≡ true
disabled_keeps (Deny serial) o h = grind (arith, nat_tests)
disabled_keeps AllowAll o h = grind (arith, nat_tests)
disabled_keeps (Allow serial) o h = grind (arith, nat_tests)

-- O7 may hold anything
coded_keeps : (c d : Option (Bounded 0 252)) (o : Onu) → inside 5 6 o ≡ true → sound o ≡ true → sound (coded c d o) ≡ true
coded_keeps None None o k h = grind (arith, nat_tests)
coded_keeps None (Some d) o k h = grind (arith, nat_tests)
coded_keeps (Some c) d o k h = grind (arith, nat_tests)

operating_keeps : (d : Delay) (o : Onu) → inside 7 8 o ≡ true → sound o ≡ true → sound (delayed O8 d o) ≡ true
operating_keeps d o k h = grind (arith, nat_tests)

either_keeps : (b c : Bool) (x y : Onu) → (b ≡ true → sound x ≡ true) → sound y ≡ true → sound (cond (b && c) x y) ≡ true
either_keeps true true x y h k = h refl
either_keeps true false x y h k = k
either_keeps false c x y h k = k

pub obeyed_keeps : (m : Downstream) (o : Onu) → sound o ≡ true → sound (obeyed m o) ≡ true
obeyed_keeps (UpstreamOverhead guard overhead delay) o h = grind (arith, nat_tests)
obeyed_keeps (SerialNumberMask bits serial) o h = masked_keeps (matches bits serial o) o h
obeyed_keeps (AssignPonId p serial) o h = grind (arith, nat_tests)
obeyed_keeps (GrantAllocation p grant ploam) o h =
    either_keeps (inside 5 6 o) (has o.id p.value) (allocated grant ploam o) o (λ k. coded_keeps (code_in grant) (code_in ploam) o k h) h
obeyed_keeps Popup o h = grind (arith, nat_tests)
obeyed_keeps (RangingTime p delay) o h =
    either_keeps (inside 7 8 o) (has o.id p.value) (delayed O8 delay o) o (λ k. operating_keeps delay o k h) h
obeyed_keeps (DeactivatePonId to) o h =
    either_keeps (inside 3 8 o) (meant to o) (restarted O2 o) o (λ k. refl) h
obeyed_keeps (DisableSerialNumber access) o h = disabled_keeps access o h
obeyed_keeps _ o h = h

pub happened_keeps : (e : OwnEvent) (o : Onu) → sound o ≡ true → sound (happened e o) ≡ true
happened_keeps PowerSetUp o h = grind (arith, nat_tests)
happened_keeps SecondTimer o h = grind (arith, nat_tests)
happened_keeps FirstTimer o h = grind (arith, nat_tests)
happened_keeps SignalLoss o h = grind (arith, nat_tests)
happened_keeps SignalReturn o h = grind (arith, nat_tests)
happened_keeps PowerLoss o h = grind (arith, nat_tests)

pub stepped_keeps : (e : Event) (o : Onu) → sound o ≡ true → sound (stepped e o) ≡ true
stepped_keeps (Message m) o h = obeyed_keeps m o h
stepped_keeps (Own e) o h = happened_keeps e o h

masked_stop : (fits : Bool) (o : Onu) → inside 9 9 o ≡ true → masked fits o ≡ o
masked_stop fits o h = grind (arith, nat_tests)

obeyed_stop : (m : Downstream) (o : Onu) → inside 9 9 o ≡ true → (obeyed m o ≡ o) ⊎ Released o (Message m)
obeyed_stop (UpstreamOverhead guard overhead delay) o h = inl (grind (arith, nat_tests))
obeyed_stop (SerialNumberMask bits serial) o h = inl (masked_stop (matches bits serial o) o h)
obeyed_stop (AssignPonId p serial) o h = inl (grind (arith, nat_tests))
obeyed_stop (GrantAllocation p grant ploam) o h = inl (grind (arith, nat_tests))
obeyed_stop Popup o h = inl (grind (arith, nat_tests))
obeyed_stop (RangingTime p delay) o h = inl (grind (arith, nat_tests))
obeyed_stop (DeactivatePonId to) o h = inl (grind (arith, nat_tests))
obeyed_stop (DisableSerialNumber (Deny serial)) o h = inl (grind (arith, nat_tests))
obeyed_stop (DisableSerialNumber AllowAll) o h = inr with_all
obeyed_stop (DisableSerialNumber (Allow serial)) o h =
    by_name (named serial o) refl
  where
    by_name : (b : Bool) → named serial o ≡ b → (disabled (Allow serial) o ≡ o) ⊎ Released o (Message (DisableSerialNumber (Allow serial)))
    by_name true e = inr (alone serial e)
    by_name false e = inl (grind (arith, nat_tests))
obeyed_stop _ o h = inl refl

happened_stop : (e : OwnEvent) (o : Onu) → inside 9 9 o ≡ true → happened e o ≡ o
happened_stop e o h = grind (arith, nat_tests)

pub stop_stands : (e : Event) (o : Onu) → inside 9 9 o ≡ true → (stepped e o ≡ o) ⊎ Released o e
stop_stands (Message m) o h = obeyed_stop m o h
stop_stands (Own e) o h = inl (happened_stop e o h)
