-- What every head keeps, call by call.
use Rattle.std.proofs.Common.{◌≡◌, ℕ, suc, ◌+◌, ◌*◌, ◌<◌, ◌≤◌, ◌^◌, true, false, not, List, [], ◌∷◌, length, None, Ok, inl, inr, refl, sym, ap, ◌∙◌, subst, arith}
use Rattle.std.proofs.Math.Logic.{⊎_elim}
use Rattle.std.proofs.Math.ListN.{length-set}
use Rattle.std.proofs.lemmas.Bool.{both_ways, and_parts, ltb-true}
use Rattle.std.proofs.lemmas.List.{length-replicate}
use Rattle.std.specs.Prelude.{slice_set}
use Rattle.field.specs.declared.octets.Octets.{Octets}
use Rattle.rules.specs.Job.{begun}
use Rattle.rules.specs.Row.{Serial, blank, filled, entered, held, released}
use Rattle.rules.specs.Schedule.{starting}
use Rattle.rules.specs.Settings.{guard_fits, calendar_fits}
use Rattle.rules.specs.declared.row.Row.{Row}
use Rattle.head.specs.Steps.{fresh, place_row, set_up_answer, set_up_done, enter_answer, hold_answer, release_answer, send_answer, sent, sent_rows, settle_answer, settled}
use Rattle.head.specs.Table.{borne, settled_rows, records_from}
use Rattle.head.specs.declared.head.Head.{Head}
use Rattle.line.specs.Calls.{Call, set_up, enter, hold, release, look, send, settle, next}
use Rattle.line.specs.Kept.{after, KeptRow, KeptHead, Stays, HeadsStand}
use Rattle.line.proofs.Answers.{asked, ok_both}
use Rattle.line.proofs.Codes.{place_one}
use Rattle.line.proofs.Invariant.{row}
use Rattle.line.proofs.Keeping.{later_row, blank_row, entered_row, begun_row, held_row, released_row}
use Rattle.line.proofs.Overlap.{not_false, guard_chosen, held_filled, send_asked, settle_asked, blank_at}
use Rattle.line.proofs.Rows.{Same}
use Rattle.line.proofs.Tables.{begun-length, settled-length}
use Rattle.line.proofs.Twins.{row_known}
use Rattle.line.proofs.Places.{set_all, changed_all, settled_all, Sames, Alone, alone_same, alone_entered}
use Rattle.line.proofs.Rounds.{Busy, Good, idle_start, due_on, settled_good}

-- Heads.
record Inv (h : Head) : Type 0 where
  full : length h.table.rows ≡ 64
  oldest : ℕ
  counted : oldest + h.out ≡ h.frame
  few : h.out ≤ 4
  last : h.frame ≤ 2 ^ 48
  rows : (q : ℕ) → Good h.frame (53 * oldest) q (row h.table.rows q)
  alone : Alone h.table.rows
  guard : guard_fits h.settings.guard.value ≡ true
  calendar : calendar_fits h.settings.calendar ≡ true
  new : h.started ≡ false → (h.out ≡ 0) × ((q : ℕ) → row h.table.rows q ≡ blank)

-- what a call comes to
record Step (h h' : Head) : Type 0 where
  inv : Inv h'
  stays : Stays h h'

no_step : (h : Head) → Inv h → Step h h
no_step h i = record { inv = i; stays = record { started = λ t. (t, refl, omega arith); places = λ p f. (f, refl) } }

blank_good : (now n q : ℕ) → Good now n q blank
blank_good now n q = record { kept = blank_row now; due = inl refl }

fresh_inv : Inv fresh
fresh_inv =
    record {
      full = length-replicate 64 blank;
      oldest = 0;
      counted = refl;
      few = omega arith;
      last = omega arith;
      rows = λ q. subst (Good 0 0 q) (sym (blank_at q)) (blank_good 0 0 q);
      alone = λ p q x. absurd (both_ways _ (ap filled (blank_at p)) x);
      guard = refl;
      calendar = refl;
      new = λ _. (refl, blank_at);
    }

set_up_step : (h : Head) (guard : ℕ) (pattern : Octets 3) (first : ℕ) (calendar : List ℕ) → set_up_answer h guard first calendar ≡ Ok tt → Inv h
    → Step h (set_up_done h guard pattern first calendar)
set_up_step h guard pattern first calendar e i =
    let a = asked _ _ _ _ e in
    let b = asked _ _ _ _ a.1 in
    let c = asked _ _ _ _ b.1 in
    let d = asked _ _ _ _ c.1 in
    let free : h.started ≡ false = not_false h.started a.0 in
    let u = i.new free in
    let none_out : h.out ≡ 0 = u.0 in
    let low : first < 2 ^ 48 = ltb-true _ _ (and_parts _ _ c.0).1 in
    record {
      inv = record {
        full = i.full;
        oldest = first;
        counted = omega arith;
        few = i.few;
        last = omega arith;
        rows = λ q. subst (Good first (53 * first) q) (sym (u.1 q)) (blank_good first (53 * first) q);
        alone = i.alone;
        guard = ap guard_fits (guard_chosen guard b.0) ∙ b.0;
        calendar = d.0;
        new = λ _. u;
      };
      stays = record { started = λ t. absurd (both_ways _ free t); places = λ p f. (f, refl) };
    }

enter_step : (h : Head) (place : ℕ) (serial : Serial) → place < 64 → filled (row h.table.rows place) ≡ false → borne serial h.table.rows ≡ false → Inv h
    → Step h (record h { table = record { rows = slice_set h.table.rows place (entered serial) }; started = true })
enter_step h place serial low free new i =
    let rows = h.table.rows in
    let full : length rows ≡ 64 = i.full in
    let few : place < length rows = omega arith in
    record {
      inv = record {
        full = length-set rows place (entered serial) ∙ i.full;
        oldest = i.oldest;
        counted = i.counted;
        few = i.few;
        last = i.last;
        rows = set_all (Good h.frame (53 * i.oldest)) rows place (entered serial) few (record { kept = entered_row h.frame serial; due = inl refl }) (λ q _. i.rows q);
        alone = alone_entered rows place serial few new i.alone;
        guard = i.guard;
        calendar = i.calendar;
        new = λ t. absurd (both_ways true t refl);
      };
      stays = record {
        started = λ t. (refl, refl, omega arith);
        places = λ p. set_all (λ q x. filled (row rows q) ≡ true → (filled x ≡ true) × (x.serial.value ≡ (row rows q).serial.value)) rows place (entered serial) few
            (λ f. absurd (both_ways _ free f)) (λ q _ f. (f, refl)) p.value;
      };
    }

-- hold and release
write_step : (h : Head) (place : ℕ) (r : Row) → place < 64 → filled (row h.table.rows place) ≡ true → Same (row h.table.rows place) r
    → (KeptRow h.frame (row h.table.rows place) → KeptRow h.frame r) → r.running ≡ None → Inv h
    → Step h (record h { table = record { rows = slice_set h.table.rows place r } })
write_step h place r low there same keeps idle i =
    let rows = h.table.rows in
    let full : length rows ≡ 64 = i.full in
    let few : place < length rows = omega arith in
    let sames : Sames rows (slice_set rows place r) = set_all (λ q x. Same (row rows q) x) rows place r few same (λ q _. (refl, refl)) in
    record {
      inv = record {
        full = length-set rows place r ∙ i.full;
        oldest = i.oldest;
        counted = i.counted;
        few = i.few;
        last = i.last;
        rows = set_all (Good h.frame (53 * i.oldest)) rows place r few (record { kept = keeps (i.rows place).kept; due = inl idle }) (λ q _. i.rows q);
        alone = alone_same rows _ sames i.alone;
        guard = i.guard;
        calendar = i.calendar;
        new = λ t. absurd (both_ways _ (ap filled ((i.new t).1 place)) there);
      };
      stays = record { started = λ t. (t, refl, omega arith); places = λ p f. ((sames p.value).0 ∙ f, (sames p.value).1) };
    }

later_good : (now n q : ℕ) (r : Row) → Good now n q r → Good (now + 1) n q r
later_good now n q r g =
    record {
      kept = later_row now (now + 1) r (omega arith) g.kept;
      due = ⊎_elim (λ idle. inl idle)
          (λ (b : Busy now n q). let sent : b.start < now = b.sent in
          inr (record { place = b.place; at = b.at; start = b.start; starts = b.starts; sent = omega arith; due = b.due }))
          g.due;
    }

send_step : (h : Head) → h.out < 4 → h.frame < 2 ^ 48 → Inv h → Step h (sent h)
send_step h few low i =
    let rows = h.table.rows in
    let at : i.oldest + h.out ≡ h.frame = i.counted in
    let sames : Sames rows (sent_rows h) =
    changed_all (λ q x. Same (row rows q) x) (λ q x. Same (row rows q) x) (starting h.frame) begun rows i.full (λ p s k. k) (λ q r _ k. k) (λ q. (refl, refl)) in
    record {
      inv = record {
        full = begun-length h.frame rows ∙ i.full;
        oldest = i.oldest;
        counted = omega arith;
        few = omega arith;
        last = omega arith;
        rows = changed_all (Good h.frame (53 * i.oldest)) (Good (h.frame + 1) (53 * i.oldest)) (starting h.frame) begun rows i.full
            (λ p s g.
            let r = row rows p.value in
            let idle : r.running ≡ None = idle_start h.frame i.oldest h.out p.value p r.running at (omega arith) s refl g.due in
            record {
              kept = later_row h.frame (h.frame + 1) (begun r) (omega arith) (begun_row h.frame r idle g.kept);
              due = inr (record { place = p; at = refl; start = h.frame; starts = s; sent = omega arith; due = omega arith });
            })
            (λ q r _ g. later_good h.frame (53 * i.oldest) q r g) i.rows;
        alone = alone_same rows _ sames i.alone;
        guard = i.guard;
        calendar = i.calendar;
        new = λ t. absurd (both_ways true t refl);
      };
      stays = record { started = λ t. (refl, refl, omega arith); places = λ p f. ((sames p.value).0 ∙ f, (sames p.value).1) };
    }

settle_step : (h : Head) (docket : ℕ) (report : List ℕ) → 0 < h.out → docket + h.out ≡ h.frame → Inv h → Step h (settled h docket report)
settle_step h docket report some here i =
    let rows = h.table.rows in
    let s = h.settings in
    let at : i.oldest + h.out ≡ h.frame = i.counted in
    let most : h.out ≤ 4 = i.few in
    let sames : Sames rows (settled_rows s h.frame docket 1 (records_from report 0 53) rows) =
    settled_all (λ k q x. Same (row rows q) x) s h.frame docket
    (λ k p x r _ _ y. let z = row_known s.guard.value h.frame docket (suc k) x r in (ap not (sym z.empty) ∙ y.0, ap (λ (n : Serial). n.value) (sym z.serial) ∙ y.1))
    (λ k q r _ _ y. y) report 53 0 rows refl i.full (λ q. (refl, refl)) in
    record {
      inv = record {
        full = settled-length s h.frame docket 1 (records_from report 0 53) rows ∙ i.full;
        oldest = docket + 1;
        counted = omega arith;
        few = omega arith;
        last = i.last;
        rows = λ q. subst (λ n. Good h.frame n q (row (settled_rows s h.frame docket 1 (records_from report 0 53) rows) q)) (omega arith)
            (settled_all (λ k. Good h.frame (53 * docket + k)) s h.frame docket
            (λ k p x r few own g. settled_good s h.frame docket k p x r few own g)
            (λ k q r few other g. record { kept = g.kept; due = due_on s h.frame docket k q r.running few (λ _. other) g.due })
            report 53 0 rows refl i.full
            (λ n. subst (λ m. Good h.frame m n (row rows n)) (omega arith) (i.rows n)) q);
        alone = alone_same rows _ sames i.alone;
        guard = i.guard;
        calendar = i.calendar;
        new = λ t. (let u : h.out ≡ 0 = (i.new t).0 in absurd (omega arith));
      };
      stays = record { started = λ t. (t, refl, omega arith); places = λ p f. ((sames p.value).0 ∙ f, (sames p.value).1) };
    }

call_step : (c : Call) (h : Head) → Inv h → Step h (next c h)
call_step (set_up guard pattern first calendar) h i =
    ok_both (set_up_answer h guard first calendar) _ h (Step h) (λ _ e. set_up_step h guard pattern first calendar e i) (λ _ _. no_step h i)
call_step (enter place serial) h i =
    ok_both (enter_answer h place serial) _ h (Step h)
    (λ _ e.
    let a = asked _ _ _ _ e in
    let b = asked _ _ _ _ a.1 in
    let d = asked _ _ _ _ b.1 in
    enter_step h place serial (ltb-true _ _ a.0) (not_false _ b.0) (not_false _ d.0) i)
    (λ _ _. no_step h i)
call_step (hold place) h i =
    ok_both (hold_answer h place) _ h (Step h)
    (λ _ e.
    let a = asked _ _ _ _ e in
    let b = asked _ _ _ _ a.1 in
    let full = (and_parts _ _ b.0).0 in
    write_step h place (held (place_row h place)) (ltb-true _ _ a.0) full (sym full, refl) (held_row h.frame _) refl i)
    (λ _ _. no_step h i)
call_step (release place) h i =
    ok_both (release_answer h place) _ h (Step h)
    (λ _ e.
    let a = asked _ _ _ _ e in
    let b = asked _ _ _ _ a.1 in
    let full = held_filled (place_row h place).phase b.0 in
    write_step h place (released (place_row h place)) (ltb-true _ _ a.0) full (sym full, refl) (released_row h.frame _) refl i)
    (λ _ _. no_step h i)
call_step (look place) h i = no_step h i
call_step (send buffer) h i =
    ok_both (send_answer h (length buffer)) _ h (Step h) (λ d e. let a = send_asked h (length buffer) d e in send_step h a.0 a.1 i) (λ _ _. no_step h i)
call_step (settle docket report) h i =
    ok_both (settle_answer h docket (length report)) _ h (Step h)
    (λ _ e. let a = settle_asked h docket (length report) e in settle_step h docket report a.0 a.1 i) (λ _ _. no_step h i)

-- two steps in a row
both_steps : (g h k : Head) → Step g h → Step h k → Step g k
both_steps g h k a b =
    record {
      inv = b.inv;
      stays = record {
        started = λ t. let x = a.stays.started t in let y = b.stays.started x.0 in let l : g.frame ≤ h.frame = x.2 in let m : h.frame ≤ k.frame = y.2 in (y.0, y.1 ∙ x.1, omega arith);
        places = λ p f. let x = a.stays.places p f in let y = b.stays.places p x.0 in (y.0, y.1 ∙ x.1);
      };
    }

calls_step : (cs : List Call) (h : Head) → Inv h → Step h (after cs h)
calls_step [] h i = no_step h i
calls_step (c ∷ cs) h i = let s = call_step c h i in both_steps h (next c h) (after cs (next c h)) s (calls_step cs (next c h) s.inv)

kept : (h : Head) → Inv h → KeptHead h
kept h i =
    record {
      full = i.full;
      rows = λ p. (i.rows p.value).kept;
      alone = λ p q x y e. place_one p q (i.alone p.value q.value x y e);
      rounds = λ p e. idle_start h.frame i.oldest h.out p.value p (row h.table.rows p.value).running i.counted i.few e refl (i.rows p.value).due;
      few = i.few;
      sent = (let a : i.oldest + h.out ≡ h.frame = i.counted in omega arith);
      last = i.last;
      guard = i.guard;
      calendar = i.calendar;
      new = λ t. ((i.new t).0, λ p. (i.new t).1 p.value);
    }

pub heads_stand : HeadsStand
heads_stand =
    record {
      keeps = λ cs. kept (after cs fresh) (calls_step cs fresh fresh_inv).inv;
      stays = λ cs ds. (calls_step ds (after cs fresh) (calls_step cs fresh fresh_inv).inv).stays;
    }
