-- The bench receiver's report is true of the bursts that it is made of.
use Rattle.std.proofs.Common.{◌≡◌, ℕ, zero, suc, ◌+◌, ◌*◌, ◌-◌, ◌<◌, ◌≤◌, Bool, true, false, cond, eqb, List, [], ◌∷◌, ◌++◌, length, take, drop, filter, slice_index, Option, Some, None, inl, inr, ⊎_elim, sym, refl, ap, ◌∙◌, subst, arith}
use Rattle.std.specs.List.{between, Contains}
use Rattle.std.proofs.lemmas.Bool.{cond_both, eqb-true, cases_lt}
use Rattle.std.proofs.lemmas.Bool.Decides.{nat_tests}
use Rattle.std.proofs.lemmas.List.{length-drop, take-append-le, take_all, drop_at, drop-append-le}
use Rattle.field.specs.Bytes.{at}
use Rattle.onu.specs.declared.answer.Kind.{Kind}
use Rattle.onu.specs.declared.answer.Kind.TheVariants.{Ploam, Data}
use Rattle.plant.specs.declared.burst.Burst.{Burst}
use Rattle.report.proofs.Again.{again}
use Rattle.report.specs.Offset.{offset_between}
use Rattle.report.specs.Record.{record_of, record_bytes, Holds}
use Rattle.report.specs.declared.offset.Offset.{Offset}
use Rattle.report.specs.declared.offset.Offset.TheVariants.{Early, Late}
use Rattle.report.specs.declared.record.Light.{Light}
use Rattle.report.specs.declared.record.Light.TheVariants.{Dark, Broken}
use Rattle.report.specs.declared.record.Record.{Record}
use Rattle.receiver.proofs.Lengths.{record-length, reported-length}
use Rattle.receiver.specs.Receiver.{blank, light_for, at_offset, found_record, answering, slot_record, reported}
use Rattle.line.proofs.Bursts.{among_one, among_contains}
use Rattle.line.proofs.Invariant.{Among, here, there}
use Rattle.line.specs.Run.{TrueRecord, TrueReport, light_for as light}

-- a record that is read from its own bytes
record Good (r : Record) : Type 0 where
  parity : r.parity ≤ 8
  offset : Holds r.offset

blank_good : (l : Light) → Good (blank l)
unfolding blank
blank_good l = record { parity = omega arith; offset = omega arith }

-- an offset that was found fits 32 bits
between_holds : (o : Offset) (start due : ℕ) → offset_between start due ≡ Some o → Holds o
between_holds (Early n) start due e = (grind (arith, nat_tests), grind (arith, nat_tests))
between_holds (Late n) start due e = grind (arith, nat_tests)

offset_good : (m : Option Offset) (b : Burst) → ((o : Offset) → m ≡ Some o → Holds o) → Good (at_offset m b)
offset_good None b h = blank_good Broken
offset_good (Some o) b h = record { parity = omega arith; offset = h o refl }

found_good : (bs : List Burst) (n : ℕ) → Good (found_record bs n)
found_good [] n = blank_good Dark
found_good (b ∷ []) n = offset_good (offset_between b.start (448 * n + 35392)) b (λ o e. between_holds o b.start (448 * n + 35392) e)
found_good (b ∷ c ∷ more) n = blank_good Broken

slot_good : (frame x : ℕ) (bs : List Burst) (mark : ℕ) → Good (slot_record frame x bs mark)
unfolding slot_record
slot_good frame x bs mark =
    cond_both (eqb mark 0) _ _ Good (λ _. found_good (answering (53 * frame + x) bs) (53 * frame + x)) (λ _. blank_good Dark)

-- what the record of a slot says of the bursts
blank_light : (l : Light) → (blank l).light ≡ l
unfolding blank
blank_light l = refl

kind_light : (k : Kind) → light_for k ≡ light k
kind_light Ploam = refl
kind_light Data = refl

offset_true : (bs : List Burst) (n : ℕ) (b : Burst) (m : Option Offset) → Contains bs b → b.slot ≡ n → offset_between b.start (448 * n + 35392) ≡ m
    → TrueRecord bs n (at_offset m b)
offset_true bs n b None held at e = inr (inl (blank_light Broken))
offset_true bs n b (Some o) held at e = inr (inr (b, held, record { slot = at; kind = kind_light b.kind; offset = e; message = refl }))

-- an element of a filtered list is one of the list, and passes
passed_on : {A : Type 0} (p : A → Bool) (y x : A) (xs ys : List A) (v : Bool) → p y ≡ v → (Among x ys → Among x xs × (p x ≡ true))
    → Among x (cond v (y ∷ ys) ys) → Among x (y ∷ xs) × (p x ≡ true)
passed_on {A} p y x xs ys true e h m =
    ⊎_elim (λ q. (subst (λ (z : A). Among x (z ∷ xs)) q here, ap p q ∙ e)) (λ i. let w = h i in (there w.0, w.1)) (among_one m)
passed_on p y x xs ys false e h m = let w = h m in (there w.0, w.1)

pub among_filter : {A : Type 0} (p : A → Bool) (xs : List A) (x : A) → Among x (filter p xs) → Among x xs × (p x ≡ true)
among_filter p [] x m = elim m [ ]
among_filter p (y ∷ xs) x m = passed_on p y x xs (filter p xs) (p y) refl (among_filter p xs x) m

found_true : (bs held : List Burst) (n : ℕ) → ((b : Burst) → Among b bs → Contains held b × (b.slot ≡ n)) → TrueRecord held n (found_record bs n)
found_true [] held n h = inl (blank_light Dark)
found_true (b ∷ []) held n h = let w = h b here in offset_true held n b (offset_between b.start (448 * n + 35392)) w.0 w.1 refl
found_true (b ∷ c ∷ more) held n h = inr (inl (blank_light Broken))

slot_true : (frame x : ℕ) (bs held : List Burst) (mark : ℕ) → ((b : Burst) → Contains bs b → Contains held b)
    → TrueRecord held (53 * frame + x) (slot_record frame x bs mark)
unfolding slot_record
slot_true frame x bs held mark sub =
    cond_both (eqb mark 0) _ _ (TrueRecord held (53 * frame + x))
    (λ _. found_true (answering (53 * frame + x) bs) held (53 * frame + x) (λ b m.
    let w = among_filter (λ (a : Burst). eqb a.slot (53 * frame + x)) bs b m in
    (sub b (among_contains w.0), eqb-true b.slot (53 * frame + x) w.1)))
    (λ _. inl (blank_light Dark))

cut : (i j : ℕ) (xs ys : List ℕ) → length xs ≡ i → length ys ≡ 18 → j ≡ i + 18 → between i j (xs ++ ys) ≡ ys
cut i j xs ys h l e = ap (take (j - i)) (drop_at xs ys i h) ∙ take_all (j - i) ys (omega arith)

cut_before : (i j : ℕ) (xs ys : List ℕ) → j ≤ length xs → i ≤ j → between i j (xs ++ ys) ≡ between i j xs
cut_before i j xs ys h l =
    let n : j - i ≤ length (drop i xs) = omega (arith, length-drop i xs) in
    ap (take (j - i)) (drop-append-le i xs ys (omega arith)) ∙ take-append-le (j - i) (drop i xs) ys n

reported_at : (frame : ℕ) (bs : List Burst) (marks : List ℕ) (n k : ℕ) → k < n
    → between (18 * k) (18 * k + 18) (reported frame bs marks n) ≡ record_bytes (slot_record frame k bs (slice_index marks k))
unfolding reported
reported_at frame bs marks zero k h = absurd (omega arith)
reported_at frame bs marks (suc n) k h =
    let before = reported frame bs marks n in
    let r = slot_record frame n bs (slice_index marks n) in
    let l = reported-length frame bs marks n in
    elim (cases_lt k n) [
      | inl lt ↦ cut_before (18 * k) (18 * k + 18) before (record_bytes r) (omega arith) (omega arith) ∙ reported_at frame bs marks n k lt
      | inr le ↦ let e : k ≡ n = omega arith in rw e (cut (18 * n) (18 * n + 18) before (record_bytes r) l (record-length r) refl)
    ]

pub true_report : (frame : ℕ) (bs held : List Burst) (marks : List ℕ) → ((b : Burst) → Contains bs b → Contains held b)
    → TrueReport held frame (reported frame bs marks 53)
true_report frame bs held marks sub k h =
    let r = slot_record frame k bs (slice_index marks k) in
    let g = slot_good frame k bs (slice_index marks k) in
    let e : record_of (between (18 * k) (18 * k + 18) (reported frame bs marks 53)) ≡ r =
    ap record_of (reported_at frame bs marks 53 k h) ∙ again r g.parity g.offset in
    subst (TrueRecord held (53 * frame + k)) (sym e) (slot_true frame k bs held (slice_index marks k) sub)
