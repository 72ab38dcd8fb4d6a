-- What the head says and grants in a frame, as the invariant wants it.
use Rattle.std.proofs.Common.{◌≡◌, ℕ, ◌+◌, ◌*◌, ◌/◌, ◌<◌, ◌≤◌, Bool, true, false, eqb, List, [], ◌∷◌, ◌++◌, get_or, length, length-append, Some, None, Option, inl, inr, refl, sym, ap, ◌∙◌, subst, arith}
use Rattle.std.proofs.Math.Logic.{⊎_elim}
use Rattle.std.proofs.lemmas.Bool.{cond_both, cases_lt, both_ways, eqb-true}
use Rattle.std.proofs.lemmas.List.{get_or_append_left, get_or-append-add}
use Rattle.std.proofs.lemmas.List.Edits.{get_or-between, length-between}
use Rattle.std.specs.List.{between}
use Rattle.field.proofs.Bounds.{up_to_is}
use Rattle.field.specs.Delay.{Delay, delay_of}
use Rattle.field.specs.Grant.{code_of}
use Rattle.message.specs.declared.downstream.Downstream.TheVariants.{NoMessage}
use Rattle.onu.specs.Onu.{has}
use Rattle.onu.specs.declared.state.Onu.{Onu}
use Rattle.plant.specs.Lawful.{Hears, Drifts}
use Rattle.plant.specs.declared.burst.Burst.{Burst}
use Rattle.rules.proofs.Clamps.{clamped_keeps}
use Rattle.rules.specs.Job.{delay_told, measured_told, running_message, says}
use Rattle.rules.specs.Row.{filled}
use Rattle.rules.specs.Schedule.{Place, message_place, turn}
use Rattle.rules.specs.declared.job.Job.{Job}
use Rattle.rules.specs.declared.job.Job.TheVariants.{BringUp, Tell, Stop, Hold, Free}
use Rattle.rules.specs.declared.row.Row.{Row}
use Rattle.rules.specs.declared.settings.Settings.{Settings}
use Rattle.head.specs.Table.{grant_in, codes_from, message_in}
use Rattle.line.proofs.Acts.{no_delay_value}
use Rattle.line.proofs.Cells.{Lists, Sparing, cell_core}
use Rattle.line.proofs.Codes.{codes-length, codes_at, place_one}
use Rattle.line.proofs.Drifting.{drift_core}
use Rattle.line.proofs.Invariant.{row, Home, Spares, Allowed, guard_of, GuardFits, NearAll, RowOk, Core}

has_some : (p : Place) (x : Option Place) → has x p.value ≡ true → x ≡ Some p
has_some p None e = absurd (both_ways false refl e)
has_some p (Some q) e = ap Some (place_one q p (eqb-true q.value p.value e))

module _ (lo : ℕ → ℕ) (s : Settings) (fits : GuardFits (guard_of s)) (rows : List Row) (F : ℕ) where
  abbrev codes : List ℕ
  codes = codes_from s rows F 1 53

  first_lists : Lists s rows F (53 * F) (53 * F + 27) (between 0 27 codes)
  first_lists i h =
      let long = codes-length s rows F 1 53 in
      let n : length (between 0 27 codes) ≡ 27 = length-between codes 0 27 (omega arith) in
      let l : i < 27 = omega arith in
      inr (
        i,
        omega arith,
        refl,
        omega arith,
        get_or-between codes 0 27 i 255 (omega arith) ∙ (ap (λ k. get_or codes k 255) (omega arith) ∙ (codes_at s rows F 1 53 i 255 (omega arith) ∙ ap (λ k. code_of (grant_in s rows F k)) (omega arith))),
      )

  second_lists : Lists s rows F (53 * F + 27) (53 * F + 53) (between 27 53 codes ++ 255 ∷ [])
  second_lists i h =
      let long = codes-length s rows F 1 53 in
      let n : length (between 27 53 codes) ≡ 26 = length-between codes 27 53 (omega arith) in
      let whole = length-append (between 27 53 codes) (255 ∷ []) in
      let l : i < 27 = omega arith in
      ⊎_elim
      (λ (x : i < 26).
      let y : i < length (between 27 53 codes) = omega arith in
      inr (
        27 + i,
        omega arith,
        omega arith,
        omega arith,
        get_or_append_left (between 27 53 codes) (255 ∷ []) 255 i y
            ∙ (get_or-between codes 27 53 i 255 (omega arith) ∙ (codes_at s rows F 1 53 (27 + i) 255 (omega arith) ∙ ap (λ k. code_of (grant_in s rows F k)) (omega arith))),
      ))
      (λ (x : 26 ≤ i).
      let z : i ≡ length (between 27 53 codes) + 0 = omega arith in
      inl (ap (λ k. get_or (between 27 53 codes ++ 255 ∷ []) k 255) z ∙ get_or-append-add (between 27 53 codes) (255 ∷ []) 0 255))
      (cases_lt i 26)

  -- what a running job says is allowed
  delay_allowed : (p : Place) (n : ℕ) (d : Option Delay) → delay_of n ≡ d → (n ≤ 32000 → n + lo (row rows p.value).serial.value ≤ 35392)
      → Allowed lo rows (delay_told p d)
  delay_allowed p n None e bound = tt
  delay_allowed p n (Some d) e bound =
      let value : d.value ≡ n = up_to_is 32000 n d e in
      let small : d.value ≤ 32000 = d.high in
      let b = bound (omega arith) in
      omega arith

  measured_allowed : (p : Place) (d : Option ℕ) → ((n : ℕ) → d ≡ Some n → n ≤ 32000 → n + lo (row rows p.value).serial.value ≤ 35392)
      → Allowed lo rows (measured_told p d)
  measured_allowed p None bound = tt
  measured_allowed p (Some n) bound = delay_allowed p n (delay_of n) refl (bound n refl)

  running_allowed : (j : Option Job) (k : ℕ) (p : Place) → (row rows p.value).running ≡ j → RowOk lo (row rows p.value)
      → Allowed lo rows (running_message s p (row rows p.value) j k)
  running_allowed None k p e ok = tt
  running_allowed (Some BringUp) k p e ok =
      let r = row rows p.value in
      let full : filled r ≡ true = full_by (filled r) refl in
      let under : p.value ≤ 63 = p.high in
      cond_both (eqb k 0) _ _ (Allowed lo rows) (λ _. no_delay_value)
      (λ _. cond_both (eqb k 1) _ _ (Allowed lo rows) (λ _. record { place = omega arith; full = full; serial = refl })
      (λ _. cond_both (eqb k 2) _ _ (Allowed lo rows)
      (λ _. (refl, clamped_keeps 252 p.value (omega arith), refl, clamped_keeps 252 (64 + p.value) (omega arith))) (λ _. tt)))
    where
      full_by : (b : Bool) → filled (row rows p.value) ≡ b → filled (row rows p.value) ≡ true
      full_by true f = f
      full_by false f = let v = sym e ∙ (ok.void f).0 in absurd cc
  running_allowed (Some Tell) k p e ok =
      cond_both (eqb k 0) _ _ (Allowed lo rows) (λ _. measured_allowed p (row rows p.value).delay ok.delay) (λ _. tt)
  running_allowed (Some Stop) k p e ok = cond_both (eqb k 0) _ _ (Allowed lo rows) (λ _. tt) (λ _. tt)
  running_allowed (Some Hold) k p e ok = cond_both (eqb k 0) _ _ (Allowed lo rows) (λ _. tt) (λ _. tt)
  running_allowed (Some Free) k p e ok = cond_both (eqb k 0) _ _ (Allowed lo rows) (λ _. tt) (λ _. tt)

  message_allowed : (j : ℕ) → ((q : ℕ) → RowOk lo (row rows q)) → Allowed lo rows (message_in s rows F j)
  message_allowed j ok =
      let p : Place = message_place F j in
      running_allowed (row rows p.value).running (turn F p.value / 3) p refl (ok p.value)

  -- and spares the ONUs of other places
  delay_spares : (p : Place) (d : Option Delay) (o : Onu) → has o.id p.value ≡ false → Spares (delay_told p d) o
  delay_spares p None o e = tt
  delay_spares p (Some d) o e = e

  measured_spares : (p : Place) (d : Option ℕ) (o : Onu) → has o.id p.value ≡ false → Spares (measured_told p d) o
  measured_spares p None o e = tt
  measured_spares p (Some n) o e = delay_spares p (delay_of n) o e

  running_spares : (j : Option Job) (k : ℕ) (p : Place) (r : Row) (o : Onu) → has o.id p.value ≡ false → Spares (running_message s p r j k) o
  running_spares None k p r o e = tt
  running_spares (Some BringUp) k p r o e =
      cond_both (eqb k 0) _ _ (λ m. Spares m o) (λ _. tt)
      (λ _. cond_both (eqb k 1) _ _ (λ m. Spares m o) (λ _. tt) (λ _. cond_both (eqb k 2) _ _ (λ m. Spares m o) (λ _. e) (λ _. tt)))
  running_spares (Some Tell) k p r o e = cond_both (eqb k 0) _ _ (λ m. Spares m o) (λ _. measured_spares p r.delay o e) (λ _. tt)
  running_spares (Some Stop) k p r o e = cond_both (eqb k 0) _ _ (λ m. Spares m o) (λ _. tt) (λ _. tt)
  running_spares (Some Hold) k p r o e = cond_both (eqb k 0) _ _ (λ m. Spares m o) (λ _. tt) (λ _. tt)
  running_spares (Some Free) k p r o e = cond_both (eqb k 0) _ _ (λ m. Spares m o) (λ _. tt) (λ _. tt)

  message_sparing : (j : ℕ) → ((p q n : ℕ) → Home rows p n → Home rows q n → p ≡ q) → Sparing lo s rows F (message_in s rows F j)
  message_sparing j unique o q g h e =
      by_id (message_place F j) (has o.id (message_place F j).value) refl e
    where
      by_id : (p : Place) (b : Bool) → has o.id p.value ≡ b → says s F q (row rows q.value) ≡ NoMessage → Spares (says s F p (row rows p.value)) o
      by_id p true y e =
          let same : p.value ≡ q.value = unique p.value q.value o.serial.value (g.id p (has_some p o.id y)) h in
          let quiet : says s F p (row rows p.value) ≡ NoMessage = ap (λ v. says s F v (row rows v.value)) (place_one p q same) ∙ e in
          subst (λ m. Spares m o) (sym quiet) tt
      by_id p false y e = running_spares (row rows p.value).running (turn F p.value / 3) p (row rows p.value) o y

  -- the two cells of a frame, and what the ONUs do by themselves in between
  pub frame_core : (oldest : ℕ) (os os₁ os₂ os₃ : List Onu) (bs b₁ b₂ : List Burst) → F ≤ oldest + 3 → oldest ≤ F
      → NearAll lo (guard_of s) os₁ → NearAll lo (guard_of s) os₃
      → Core lo s rows oldest (53 * F) os bs
      → Hears (53 * F) (between 0 27 codes) (Some (message_in s rows F 0)) os os₁ b₁
      → Drifts os₁ os₂
      → Hears (53 * F + 27) (between 27 53 codes ++ 255 ∷ []) (Some (message_in s rows F 1)) os₂ os₃ b₂
      → Core lo s rows oldest (53 * (F + 1)) os₃ (b₂ ++ (b₁ ++ bs))
  frame_core oldest os os₁ os₂ os₃ bs b₁ b₂ soon old near₁ near₃ c h₁ d h₂ =
      let a : Core lo s rows oldest (53 * F + 27) os₁ (b₁ ++ bs) =
      cell_core lo s fits rows F oldest (53 * F) (53 * F + 27) (between 0 27 codes) (message_in s rows F 0) os os₁ bs b₁
      first_lists (message_allowed 0 c.records) (message_sparing 0 c.unique) near₁ (omega arith) (omega arith) (omega arith) soon old c h₁ in
      let a' : Core lo s rows oldest (53 * F + 27) os₂ (b₁ ++ bs) = drift_core lo s rows oldest (53 * F + 27) os₁ os₂ (b₁ ++ bs) d a in
      let b : Core lo s rows oldest (53 * F + 53) os₃ (b₂ ++ (b₁ ++ bs)) =
      cell_core lo s fits rows F oldest (53 * F + 27) (53 * F + 53) (between 27 53 codes ++ 255 ∷ []) (message_in s rows F 1) os₂ os₃ (b₁ ++ bs) b₂
      second_lists (message_allowed 1 c.records) (message_sparing 1 c.unique) near₃ (omega arith) (omega arith) (omega arith) soon old a' h₂ in
      subst (λ n. Core lo s rows oldest n os₃ (b₂ ++ (b₁ ++ bs))) (omega arith) b
