-- What ONUs do by themselves between cells keeps the invariant.
use Rattle.std.proofs.Common.{◌≡◌, ℕ, List, sym, ap, ◌∙◌, subst, arith}
use Rattle.onu.specs.declared.state.Onu.{Onu}
use Rattle.plant.specs.Lawful.{Drifts}
use Rattle.plant.specs.declared.burst.Burst.{Burst}
use Rattle.rules.specs.declared.row.Row.{Row}
use Rattle.rules.specs.declared.settings.Settings.{Settings}
use Rattle.line.proofs.Acts.{moves_keep, moves_good}
use Rattle.line.proofs.Hearings.{drift_by, distinct_drift}
use Rattle.line.proofs.Invariant.{Home, Good, Keeps, guard_of, Fit, Held, Core}

pub drift_core : (lo : ℕ → ℕ) (s : Settings) (rows : List Row) (oldest upto : ℕ) (os os' : List Onu) (bs : List Burst) → Drifts os os'
    → Core lo s rows oldest upto os bs → Core lo s rows oldest upto os' bs
drift_core lo s rows oldest upto os os' bs d c =
    record {
      records = c.records;
      unique = c.unique;
      good = λ o' i. let w = drift_by d i in subst (Good lo rows) (sym w.3) (moves_good lo rows w.1 w.0 (c.good w.0 w.2));
      distinct = distinct_drift d c.distinct;
      service = λ q o' i serves h l.
          let w = drift_by d i in
          let o : Onu = w.0 in
          let keep : Keeps o o' = subst (Keeps o) (sym w.3) (moves_keep w.1 o) in
          let k = keep.kept l in
          let same : lo o'.serial.value ≡ lo o.serial.value = ap lo keep.same in
          let register : o'.register.value ≡ o.register.value = k.1 in
          let fit : Fit lo (guard_of s) o = c.service q o w.2 serves (subst (Home rows q) keep.same h) k.0 in
          record { late_enough = omega arith; soon_enough = omega arith };
      pending = λ b o' j i from ends e l.
          let w = drift_by d i in
          let o : Onu = w.0 in
          let keep : Keeps o o' = subst (Keeps o) (sym w.3) (moves_keep w.1 o) in
          let k = keep.kept l in
          let same : lo o'.serial.value ≡ lo o.serial.value = ap lo keep.same in
          let register : o'.register.value ≡ o.register.value = k.1 in
          let p : Held lo (guard_of s) b o = c.pending b o j w.2 from ends (e ∙ keep.same) k.0 in
          record { least = omega arith; most = omega arith };
      sound = c.sound;
      pairs = c.pairs;
    }
