-- No two bursts of a succession overlap: the invariant under each call, and the law.
use Rattle.std.proofs.Common.{◌≡◌, ℕ, ◌+◌, ◌*◌, ◌<◌, ◌≤◌, ◌^◌, Bool, true, false, not, cond, List, [], ◌∷◌, ◌++◌, length, replicate, Some, None, Ok, ◌⊎◌, inl, inr, refl, sym, ap, ◌∙◌, subst, arith}
use Rattle.std.proofs.Math.Logic.{⊎_elim}
use Rattle.std.proofs.Math.ListN.{length-set}
use Rattle.std.proofs.lemmas.Bool.{both_ways, and_parts, cases_lt, ltb-true, eqb-true}
use Rattle.std.proofs.lemmas.Bool.Decides.{nat_tests}
use Rattle.std.proofs.lemmas.List.{get_or-replicate, get_or_past, length-replicate}
use Rattle.std.specs.List.{All, AllPairs, between}
use Rattle.std.specs.Prelude.{slice_set}
use Rattle.field.proofs.Bounds.{within_in}
use Rattle.field.proofs.Runs.{all_picked}
use Rattle.field.specs.Bounded.{within}
use Rattle.field.specs.Octets.{grants_of}
use Rattle.field.specs.declared.octets.Octets.{Octets}
use Rattle.head.specs.Steps.{fresh, place_row, chosen, set_up_answer, set_up_done, set_up_head, enter_answer, enter_head, hold_answer, hold_head, release_answer, release_head, send_answer, sent_rows, sent_frame, sent_bytes, sent, settle_answer, settled, settle_head}
use Rattle.head.specs.Table.{codes_from, message_in, settled_rows, records_from}
use Rattle.head.specs.declared.docket.Docket.{Docket}
use Rattle.head.specs.declared.head.Head.{Head}
use Rattle.onu.specs.declared.state.Onu.{Onu}
use Rattle.plant.specs.Lawful.{Does, Lawful, HearsCell, Hears, Drifts}
use Rattle.plant.specs.Overlap.{Apart}
use Rattle.plant.specs.declared.burst.Burst.{Burst}
use Rattle.rules.specs.Row.{Serial, blank, is_empty, is_held, filled, serving, entered, held, released}
use Rattle.rules.specs.Settings.{guard_fits}
use Rattle.rules.specs.Settings as settings
use Rattle.rules.specs.declared.row.Phase.{Phase}
use Rattle.rules.specs.declared.row.Phase.TheVariants.{Empty, Held, Waiting, InService}
use Rattle.rules.specs.declared.row.Row.{Row}
use Rattle.rules.specs.declared.settings.Settings.{Settings}
use Rattle.line.specs.Calls.{Call, set_up, enter, hold, release, look, send, settle, next}
use Rattle.line.specs.NoOverlap.{opening, NoOverlap}
use Rattle.line.specs.Payload.{payload}
use Rattle.line.specs.Run.{HeardCell, all_bursts, New, Distinct, Honest, NoFrame, Run, begins, drifts, calls, sends}
use Rattle.line.proofs.Acts.{new_good}
use Rattle.line.proofs.Answers.{asked, ok_both, ok_is}
use Rattle.line.proofs.Bursts.{among_one, among_none, all_among, all_pairs}
use Rattle.line.proofs.Drifting.{drift_core}
use Rattle.line.proofs.Codes.{codes-length}
use Rattle.line.proofs.Frames.{frame_core}
use Rattle.line.proofs.Invariant.{Among, here, there, row, GuardFits, NearAll, Fair, RowOk, Pairwise, Core}
use Rattle.line.proofs.Least.{fair}
use Rattle.line.proofs.Tables.{begun_core, held_core, released_core, entered_core, settled_core, none_serving, begun-length, settled-length}
use Rattle.line.proofs.Written.{payload-length, first_grants, second_grants, first_message, second_message}

-- before an entry or a frame nothing was heard, and nobody is in service
abbrev pub Untouched : Head → List HeardCell → Type 0
Untouched h cells = h.started ≡ false → (h.out ≡ 0) × (cells ≡ []) × ((q : ℕ) → serving (row h.table.rows q) ≡ false)

pub record Inv (lo : ℕ → ℕ) (h : Head) (os : List Onu) (cells : List HeardCell) : Type 0 where
  pub oldest : ℕ
  pub counted : oldest + h.out ≡ h.frame
  pub guard : GuardFits h.settings.guard.value
  pub whole : length h.table.rows ≡ 64
  pub untouched : Untouched h cells
  pub core : Core lo h.settings h.table.rows oldest (53 * h.frame) os (all_bursts cells)

drift_inv : (lo : ℕ → ℕ) (h : Head) (os os' : List Onu) (cells : List HeardCell) → Drifts os os' → Inv lo h os cells → Inv lo h os' cells
drift_inv lo h os os' cells d i =
    record {
      oldest = i.oldest;
      counted = i.counted;
      guard = i.guard;
      whole = i.whole;
      untouched = i.untouched;
      core = drift_core lo h.settings h.table.rows i.oldest (53 * h.frame) os os' (all_bursts cells) d i.core;
    }

-- Set-up
pub not_false : (b : Bool) → not b ≡ true → b ≡ false
not_false true e = absurd (both_ways false refl e)
not_false false e = refl

guards : (n : ℕ) → guard_fits n ≡ true → GuardFits n
guards n e = grind (arith, nat_tests)

-- a guard between the bounds is itself
within_chosen : (n : ℕ) → 4 ≤ n → n ≤ 24 → (chosen (within 4 24 n)).value ≡ n
within_chosen n low high = ap (λ g. (chosen g).value) (within_in 4 24 n low high)

pub guard_chosen : (n : ℕ) → guard_fits n ≡ true → (chosen (settings.guard_of n)).value ≡ n
guard_chosen n e =
    ap (λ b. (chosen (cond b (within 4 24 n) None)).value) e ∙ within_chosen n (grind (arith, nat_tests)) (grind (arith, nat_tests))

set_up_asked : (h : Head) (guard first : ℕ) (calendar : List ℕ) → set_up_answer h guard first calendar ≡ Ok tt → (h.started ≡ false) × (guard_fits guard ≡ true)
set_up_asked h guard first calendar e =
    let a = asked _ _ _ _ e in
    let b = asked _ _ _ _ a.1 in
    (not_false h.started a.0, b.0)

set_up_inv : (lo : ℕ → ℕ) (h : Head) (os : List Onu) (cells : List HeardCell) (guard : ℕ) (pattern : Octets 3) (first : ℕ) (calendar : List ℕ)
    → Inv lo h os cells → Inv lo (set_up_head h guard pattern first calendar) os cells
set_up_inv lo h os cells guard pattern first calendar i =
    ok_both (set_up_answer h guard first calendar) (set_up_done h guard pattern first calendar) h (λ x. Inv lo x os cells)
    (λ _ e.
    let a = set_up_asked h guard first calendar e in
    let u = i.untouched a.0 in
    let none_out : h.out ≡ 0 = u.0 in
    let nobody : (b : Burst) → Among b (all_bursts cells) → ⊥ = λ b m. among_none (subst (λ l. Among b (all_bursts l)) u.1 m) in
    let c = i.core in
    record {
      oldest = first;
      counted = omega arith;
      guard = subst GuardFits (sym (guard_chosen guard a.1)) (guards guard a.1);
      whole = i.whole;
      untouched = λ _. u;
      core = record {
        records = c.records;
        unique = c.unique;
        good = c.good;
        distinct = c.distinct;
        service = λ q o _ serves. absurd (both_ways _ (u.2 q) serves);
        pending = λ b o m. absurd (nobody b m);
        sound = λ b m. absurd (nobody b m);
        pairs = subst (λ l. Pairwise (chosen (settings.guard_of guard)).value (all_bursts l)) (sym u.1) tt;
      };
    })
    (λ _ _. i)

-- Enter, hold and release
pub held_filled : (p : Phase) → is_held p ≡ true → not (is_empty p) ≡ true
held_filled Empty e = absurd (both_ways false refl e)
held_filled Held e = refl
held_filled Waiting e = absurd (both_ways false refl e)
held_filled InService e = absurd (both_ways false refl e)

-- a record written out of service leaves an untouched head untouched
still : (h : Head) (cells : List HeardCell) (p : ℕ) (r : Row) → serving r ≡ false → Untouched h cells → h.started ≡ false
    → (h.out ≡ 0) × (cells ≡ []) × ((q : ℕ) → serving (row (slice_set h.table.rows p r) q) ≡ false)
still h cells p r e u t = let w = u t in (w.0, w.1, none_serving h.table.rows p r e w.2)

enter_inv : (lo : ℕ → ℕ) (h : Head) (os : List Onu) (cells : List HeardCell) (place : ℕ) (serial : Serial) → Inv lo h os cells
    → Inv lo (enter_head h place serial) os cells
enter_inv lo h os cells place serial i =
    ok_both (enter_answer h place serial) _ h (λ x. Inv lo x os cells)
    (λ _ e.
    let a = asked _ _ _ _ e in
    let b = asked _ _ _ _ a.1 in
    let d = asked _ _ _ _ b.1 in
    record {
      oldest = i.oldest;
      counted = i.counted;
      guard = i.guard;
      whole = length-set h.table.rows place (entered serial) ∙ i.whole;
      untouched = λ t. absurd (both_ways true t refl);
      core = entered_core lo h.settings i.oldest (53 * h.frame) os (all_bursts cells) h.table.rows place serial i.whole (not_false _ b.0) (not_false _ d.0) i.core;
    })
    (λ _ _. i)

hold_inv : (lo : ℕ → ℕ) (h : Head) (os : List Onu) (cells : List HeardCell) (place : ℕ) → Inv lo h os cells → Inv lo (hold_head h place) os cells
hold_inv lo h os cells place i =
    ok_both (hold_answer h place) _ h (λ x. Inv lo x os cells)
    (λ _ e.
    let a = asked _ _ _ _ e in
    let b = asked _ _ _ _ a.1 in
    let full = (and_parts _ _ b.0).0 in
    record {
      oldest = i.oldest;
      counted = i.counted;
      guard = i.guard;
      whole = length-set h.table.rows place (held (place_row h place)) ∙ i.whole;
      untouched = still h cells place (held (place_row h place)) refl i.untouched;
      core = held_core lo h.settings i.oldest (53 * h.frame) os (all_bursts cells) h.table.rows place full i.core;
    })
    (λ _ _. i)

release_inv : (lo : ℕ → ℕ) (h : Head) (os : List Onu) (cells : List HeardCell) (place : ℕ) → Inv lo h os cells → Inv lo (release_head h place) os cells
release_inv lo h os cells place i =
    ok_both (release_answer h place) _ h (λ x. Inv lo x os cells)
    (λ _ e.
    let a = asked _ _ _ _ e in
    let b = asked _ _ _ _ a.1 in
    let full = held_filled (place_row h place).phase b.0 in
    record {
      oldest = i.oldest;
      counted = i.counted;
      guard = i.guard;
      whole = length-set h.table.rows place (released (place_row h place)) ∙ i.whole;
      untouched = still h cells place (released (place_row h place)) refl i.untouched;
      core = released_core lo h.settings i.oldest (53 * h.frame) os (all_bursts cells) h.table.rows place full i.core;
    })
    (λ _ _. i)

-- Send: what the plant hears are the grants and messages of the frame
pub frame_codes : (h : Head) → (sent_frame h).grants.codes ≡ codes_from h.settings (sent_rows h) h.frame 1 53
unfolding grants_of
frame_codes h = sym (all_picked 53 (codes_from h.settings (sent_rows h) h.frame 1 53) (codes-length h.settings (sent_rows h) h.frame 1 53))

pub send_asked : (h : Head) (n : ℕ) (d : Docket) → send_answer h n ≡ Ok d → (h.out < 4) × (h.frame < 2 ^ 48)
send_asked h n d e =
    let a = asked _ _ _ _ e in
    let b = asked _ _ _ _ a.1 in
    let c = asked _ _ _ _ b.1 in
    (ltb-true _ _ b.0, ltb-true _ _ c.0)

module _ {P : Type 0} (means : P → List Onu) (does : Does P) (lawful : Lawful means does) where
  heard_first : (h : Head) (q q' : P) (new : List Burst) → h.frame < 2 ^ 48 → does q (payload 0 (sent_bytes h)) (53 * h.frame) q' new
      → Hears (53 * h.frame) (between 0 27 (codes_from h.settings (sent_rows h) h.frame 1 53)) (Some (message_in h.settings (sent_rows h) h.frame 0)) (means q) (means q') new
  heard_first h q q' new few d =
      let f = sent_frame h in
      let x : HearsCell (payload 0 (sent_bytes h)) (53 * h.frame) (means q) (means q') new =
      lawful q q' (payload 0 (sent_bytes h)) (53 * h.frame) new (payload-length f 0 (omega arith)) (omega arith) d in
      let g = first_grants f ∙ ap (between 0 27) (frame_codes h) in
      subst (λ gs. Hears (53 * h.frame) gs (Some f.first) (means q) (means q') new) g
      (subst (λ m. Hears (53 * h.frame) (Rattle.plant.specs.Heard.heard_grants (payload 0 (sent_bytes h))) m (means q) (means q') new) (first_message f) x)

  heard_second : (h : Head) (q q' : P) (new : List Burst) → h.frame < 2 ^ 48 → does q (payload 1 (sent_bytes h)) (53 * h.frame + 27) q' new
      → Hears (53 * h.frame + 27) (between 27 53 (codes_from h.settings (sent_rows h) h.frame 1 53) ++ 255 ∷ []) (Some (message_in h.settings (sent_rows h) h.frame 1)) (means q) (means q') new
  heard_second h q q' new few d =
      let f = sent_frame h in
      let x : HearsCell (payload 1 (sent_bytes h)) (53 * h.frame + 27) (means q) (means q') new =
      lawful q q' (payload 1 (sent_bytes h)) (53 * h.frame + 27) new (payload-length f 1 (omega arith)) (omega arith) d in
      let g = second_grants f ∙ ap (λ cs. between 27 53 cs ++ 255 ∷ []) (frame_codes h) in
      subst (λ gs. Hears (53 * h.frame + 27) gs (Some f.second) (means q) (means q') new) g
      (subst (λ m. Hears (53 * h.frame + 27) (Rattle.plant.specs.Heard.heard_grants (payload 1 (sent_bytes h))) m (means q) (means q') new) (second_message f) x)

send_inv : (lo : ℕ → ℕ) (h : Head) (os os₁ os₂ os₃ : List Onu) (cells : List HeardCell) (b₁ b₂ : List Burst) → h.out < 4
    → NearAll lo h.settings.guard.value os₁ → NearAll lo h.settings.guard.value os₃
    → Hears (53 * h.frame) (between 0 27 (codes_from h.settings (sent_rows h) h.frame 1 53)) (Some (message_in h.settings (sent_rows h) h.frame 0)) os os₁ b₁
    → Drifts os₁ os₂
    → Hears (53 * h.frame + 27) (between 27 53 (codes_from h.settings (sent_rows h) h.frame 1 53) ++ 255 ∷ []) (Some (message_in h.settings (sent_rows h) h.frame 1)) os₂ os₃ b₂
    → Inv lo h os cells
    → Inv lo (sent h) os₃ (record { guard = h.settings.guard.value; onus = os₃; bursts = b₂ } ∷ record { guard = h.settings.guard.value; onus = os₁; bursts = b₁ } ∷ cells)
send_inv lo h os os₁ os₂ os₃ cells b₁ b₂ few near₁ near₃ h₁ d h₂ i =
    let at : i.oldest + h.out ≡ h.frame = i.counted in
    let c : Core lo h.settings (sent_rows h) i.oldest (53 * h.frame) os (all_bursts cells) =
    begun_core lo h.settings i.oldest (53 * h.frame) os (all_bursts cells) h.frame h.table.rows i.core in
    record {
      oldest = i.oldest;
      counted = omega arith;
      guard = i.guard;
      whole = begun-length h.frame h.table.rows ∙ i.whole;
      untouched = λ t. absurd (both_ways true t refl);
      core = frame_core lo h.settings i.guard (sent_rows h) h.frame i.oldest os os₁ os₂ os₃ (all_bursts cells) b₁ b₂ (omega arith) (omega arith) near₁ near₃ c h₁ d h₂;
    }

-- Settle
pub settle_asked : (h : Head) (docket n : ℕ) → settle_answer h docket n ≡ Ok tt → (0 < h.out) × (docket + h.out ≡ h.frame)
settle_asked h docket n e =
    let a = asked _ _ _ _ e in
    let b = and_parts _ _ a.0 in
    (ltb-true _ _ b.0, eqb-true _ _ b.1)

-- once settled, a frame's bursts are pending no more
core_on : (lo : ℕ → ℕ) (s : Settings) (rows : List Row) (a b upto : ℕ) (os : List Onu) (bs : List Burst) → a ≤ b → Core lo s rows a upto os bs
    → Core lo s rows b upto os bs
core_on lo s rows a b upto os bs le c =
    record {
      records = c.records;
      unique = c.unique;
      good = c.good;
      distinct = c.distinct;
      service = c.service;
      pending = λ x o j i from. c.pending x o j i (omega arith);
      sound = c.sound;
      pairs = c.pairs;
    }

settle_inv : (lo : ℕ → ℕ) (h : Head) (os : List Onu) (cells : List HeardCell) (docket : ℕ) (report : List ℕ)
    → Honest cells (settle docket report) h → Inv lo h os cells → Inv lo (settle_head h docket report) os cells
settle_inv lo h os cells docket report honest i =
    ok_both (settle_answer h docket (length report)) (settled h docket report) h (λ x. Inv lo x os cells)
    (λ a e.
    let b = settle_asked h docket (length report) e in
    let some : 0 < h.out = b.0 in
    let here_ : docket + h.out ≡ h.frame = b.1 in
    let at : i.oldest + h.out ≡ h.frame = i.counted in
    let is : i.oldest ≡ docket = omega arith in
    let c : Core lo h.settings h.table.rows docket (53 * h.frame) os (all_bursts cells) =
    subst (λ n. Core lo h.settings h.table.rows n (53 * h.frame) os (all_bursts cells)) is i.core in
    let d = settled_core lo h.settings docket (53 * h.frame) os (all_bursts cells) h.table.rows h.frame report i.guard c (honest e) in
    record {
      oldest = docket + 1;
      counted = omega arith;
      guard = i.guard;
      whole = settled-length h.settings h.frame docket 1 (records_from report 0 53) h.table.rows ∙ i.whole;
      untouched = λ t. let u : h.out ≡ 0 = (i.untouched t).0 in absurd (omega arith);
      core = core_on lo h.settings (settled_rows h.settings h.frame docket 1 (records_from report 0 53) h.table.rows) docket (docket + 1) (53 * h.frame) os (all_bursts cells) (omega arith) d;
    })
    (λ _ _. i)

-- The start
pub blank_at : (q : ℕ) → row (replicate 64 blank) q ≡ blank
blank_at q =
    ⊎_elim (λ l. get_or-replicate 64 q blank blank l)
    (λ l. get_or_past (replicate 64 blank) q blank (subst (λ n. n ≤ q) (sym (length-replicate 64 blank)) l)) (cases_lt q 64)

blank_ok : (lo : ℕ → ℕ) → RowOk lo blank
blank_ok lo = record { delay = λ d e. absurd cc; calm = λ e. absurd (both_ways false refl e); void = λ _. (refl, refl) }

start_inv : (lo : ℕ → ℕ) (os : List Onu) → All New os → Distinct os → Inv lo fresh os []
start_inv lo os a d =
    let empty : (q : ℕ) → filled (row (replicate 64 blank) q) ≡ false = λ q. ap filled (blank_at q) in
    let idle : (q : ℕ) → serving (row (replicate 64 blank) q) ≡ false = λ q. ap serving (blank_at q) in
    record {
      oldest = 0;
      counted = refl;
      guard = inl refl;
      whole = length-replicate 64 blank;
      untouched = λ _. (refl, refl, idle);
      core = record {
        records = λ q. subst (RowOk lo) (sym (blank_at q)) (blank_ok lo);
        unique = λ p q n x y. absurd (both_ways _ (empty p) x.full);
        good = λ o i. new_good lo (replicate 64 blank) o (all_among New i a);
        distinct = d;
        service = λ q o i serves. absurd (both_ways _ (idle q) serves);
        pending = λ b o m. absurd (among_none m);
        sound = λ b m. absurd (among_none m);
        pairs = tt;
      };
    }

-- One call, an accepted send left out
call_inv : (lo : ℕ → ℕ) (h : Head) (os : List Onu) (cells : List HeardCell) (c : Call) → NoFrame c h → Honest cells c h → Inv lo h os cells
    → Inv lo (next c h) os cells
call_inv lo h os cells (set_up guard pattern first calendar) plain honest i = set_up_inv lo h os cells guard pattern first calendar i
call_inv lo h os cells (enter place serial) plain honest i = enter_inv lo h os cells place serial i
call_inv lo h os cells (hold place) plain honest i = hold_inv lo h os cells place i
call_inv lo h os cells (release place) plain honest i = release_inv lo h os cells place i
call_inv lo h os cells (look place) plain honest i = i
call_inv lo h os cells (send buffer) plain honest i =
    ok_both (send_answer h (length buffer)) (sent h) h (λ x. Inv lo x os cells) (λ d e. absurd (plain d e)) (λ _ _. i)
call_inv lo h os cells (settle docket report) plain honest i = settle_inv lo h os cells docket report honest i

-- The guard is the head's from the first frame on
abbrev OneGuard : ℕ → List HeardCell → Type 0
OneGuard G cells = (c : HeardCell) → Among c cells → c.guard ≡ G

abbrev OpenedBy : Head → List HeardCell → Type 0
OpenedBy h cells = (h.started ≡ false → cells ≡ []) × OneGuard h.settings.guard.value cells

one_none : (G : ℕ) → OneGuard G []
one_none G c m = absurd (among_none m)

one_more : (G : ℕ) (c : HeardCell) (cells : List HeardCell) → c.guard ≡ G → OneGuard G cells → OneGuard G (c ∷ cells)
one_more G c cells e one x m = ⊎_elim (λ y. ap (λ z. z.guard) y ∙ e) (λ y. one x y) (among_one m)

call_opened : (h : Head) (cells : List HeardCell) (c : Call) → NoFrame c h → OpenedBy h cells → OpenedBy (next c h) cells
call_opened h cells (set_up guard pattern first calendar) plain o =
    ok_both (set_up_answer h guard first calendar) _ h (λ x. OpenedBy x cells)
    (λ _ e.
    let n = o.0 (set_up_asked h guard first calendar e).0 in
    ((λ _. n), subst (OneGuard (chosen (settings.guard_of guard)).value) (sym n) (one_none (chosen (settings.guard_of guard)).value)))
    (λ _ _. o)
call_opened h cells (enter place serial) plain o =
    ok_both (enter_answer h place serial) _ h (λ x. OpenedBy x cells) (λ _ _. ((λ t. absurd (both_ways true t refl)), o.1)) (λ _ _. o)
call_opened h cells (hold place) plain o = ok_both (hold_answer h place) _ h (λ x. OpenedBy x cells) (λ _ _. o) (λ _ _. o)
call_opened h cells (release place) plain o = ok_both (release_answer h place) _ h (λ x. OpenedBy x cells) (λ _ _. o) (λ _ _. o)
call_opened h cells (look place) plain o = o
call_opened h cells (send buffer) plain o =
    ok_both (send_answer h (length buffer)) (sent h) h (λ x. OpenedBy x cells) (λ d e. absurd (plain d e)) (λ _ _. o)
call_opened h cells (settle docket report) plain o =
    ok_both (settle_answer h docket (length report)) _ h (λ x. OpenedBy x cells) (λ _ _. o) (λ _ _. o)

module _ {P : Type 0} (means : P → List Onu) (does : Does P) (lawful : Lawful means does) where
  opened : {h : Head} {q : P} {cells : List HeardCell} → Run means does h q cells → OpenedBy h cells
  opened (begins q a d) = ((λ _. refl), one_none 4)
  opened (drifts q' r d) = opened r
  opened (calls {h = h} {cells = cells} c r plain honest) = call_opened h cells c plain (opened r)
  opened (sends {h = h} {cells = cells} buffer d q₁ q₂ q₃ b₁ b₂ r e x y z) =
      let o = opened r in
      let G = h.settings.guard.value in
      subst (λ k. OpenedBy k (record { guard = G; onus = means q₃; bursts = b₂ } ∷ record { guard = G; onus = means q₁; bursts = b₁ } ∷ cells))
      (sym (ok_is (send_answer h (length buffer)) d (sent h) h e))
      ((λ t. absurd (both_ways true t refl)), one_more G _ _ refl (one_more G _ _ refl o.1))

  -- every cell has one guard
  run_inv : (lo : ℕ → ℕ) (G : ℕ) {h : Head} {q : P} {cells : List HeardCell} → Run means does h q cells → OneGuard G cells → Fair lo G cells → Inv lo h (means q) cells
  run_inv lo G (begins q a d) one fair_ = start_inv lo (means q) a d
  run_inv lo G (drifts {h = h} {q = q} {cells = cells} q' r d) one fair_ = drift_inv lo h (means q) (means q') cells d (run_inv lo G r one fair_)
  run_inv lo G (calls {h = h} {q = q} {cells = cells} c r plain honest) one fair_ = call_inv lo h (means q) cells c plain honest (run_inv lo G r one fair_)
  run_inv lo G (sends {h = h} {q = q} {cells = cells} buffer d q₁ q₂ q₃ b₁ b₂ r e x y z) one fair_ =
      let g : h.settings.guard.value ≡ G = one _ here in
      let a = send_asked h (length buffer) d e in
      let i = run_inv lo G r (λ c m. one c (there (there m))) (λ c m. fair_ c (there (there m))) in
      subst (λ k. Inv lo k (means q₃) (record { guard = h.settings.guard.value; onus = means q₃; bursts = b₂ } ∷ record { guard = h.settings.guard.value; onus = means q₁; bursts = b₁ } ∷ cells))
      (sym (ok_is (send_answer h (length buffer)) d (sent h) h e))
      (send_inv lo h (means q) (means q₁) (means q₂) (means q₃) cells b₁ b₂ a.0
      (subst (λ n. NearAll lo n (means q₁)) (sym g) (fair_ _ (there here)))
      (subst (λ n. NearAll lo n (means q₃)) (sym g) (fair_ _ here))
      (heard_first means does lawful h q q₁ b₁ a.1 x) y (heard_second means does lawful h q₂ q₃ b₂ a.1 z) i)

  opening_is : (G : ℕ) (cells : List HeardCell) → OneGuard G cells → (cells ≡ []) ⊎ (opening cells ≡ G)
  opening_is G [] one = inl refl
  opening_is G (c ∷ []) one = inr (one c here)
  opening_is G (c ∷ d ∷ cells) one =
      ⊎_elim (λ e. absurd cc) (λ e. inr e) (opening_is G (d ∷ cells) (λ x m. one x (there m)))

  pub no_overlap : NoOverlap means does
  no_overlap h q cells r steady =
      let o = opened r in
      let w = fair (opening cells) cells steady in
      ⊎_elim
      (λ e. subst (λ l. AllPairs (Apart (opening l)) (all_bursts l)) (sym e) (all_pairs 4 [] tt))
      (λ e. all_pairs (opening cells) (all_bursts cells)
      (subst (λ G. Pairwise G (all_bursts cells)) (sym e)
      (run_inv w.0 h.settings.guard.value r o.1 (subst (λ G. Fair w.0 G cells) e w.1)).core.pairs))
      (opening_is h.settings.guard.value cells o.1)
