-- One place's reports tell the others nothing.
use Rattle.std.proofs.Common.{◌≡◌, ◌≢◌, ℕ, zero, suc, ◌+◌, ◌-◌, ◌*◌, ◌<◌, ◌≤◌, Bool, true, false, cond, eqb, List, [], ◌∷◌, length, get_or, nat_lt, Some, None, Option, Ok, Err, Result, refl, sym, ap, ◌∙◌, subst, ⊎_elim, arith, add-one}
use Rattle.std.proofs.Math.Path.{ap₂}
use Rattle.std.proofs.Math.ListN.{set}
use Rattle.std.specs.List.{between}
use Rattle.std.proofs.lemmas.Bool.{cases_lt, cases_eq, cond_both, and_parts}
use Rattle.std.proofs.lemmas.List.{get_or-set_same, get_or-set_other, length-set, set_past}
use Rattle.std.proofs.lemmas.List.FromFn.{get_or-map-range_with_len}
use Rattle.field.specs.Grant.{code_of}
use Rattle.field.specs.Octets.{grants_of}
use Rattle.message.specs.Downstream.{bytes_of}
use Rattle.report.specs.Record.{record_of}
use Rattle.report.specs.declared.record.Record.{Record}
use Rattle.rules.specs.Alarm.{counted, alarms_reached, counts_after, cause_of, by_cause, with_counts}
use Rattle.rules.specs.Grant.{slot_grant}
use Rattle.rules.specs.Job.{begun, says, measured, by_measure, confirmed, failed, failed_lit, is_dark, lit, served, job_ends}
use Rattle.rules.specs.Row.{Serial, blank, is_empty, is_held, in_service, serving, entered, held, released}
use Rattle.rules.specs.Schedule.{Place, owner, message_place, starting, window, last}
use Rattle.rules.specs.Settle.{counts, row_after}
use Rattle.rules.specs.declared.alarm.Alarms.{Alarms}
use Rattle.rules.specs.declared.alarm.Cause.{Cause}
use Rattle.rules.specs.declared.job.Job.{Job}
use Rattle.rules.specs.declared.job.Job.TheVariants.{BringUp, Tell, Stop, Hold, Free}
use Rattle.rules.specs.declared.row.Phase.{Phase}
use Rattle.rules.specs.declared.row.Phase.TheVariants.{Empty, Held, Waiting, InService}
use Rattle.rules.specs.declared.row.Row.{Row}
use Rattle.rules.specs.declared.settings.Settings.{Settings}
use Rattle.head.specs.Steps.{fresh, with_rows, on_ok, ask, view_of, set_up_answer, enter_answer, hold_answer, release_answer, send_answer, sent_rows, sent_frame, sent_bytes, settle_answer, settle_head, handed_back}
use Rattle.head.specs.Table.{changed_if, begun_rows, place_grant, grant_in, message_in, codes_from, borne, settled_one, settled_rows, records_from}
use Rattle.head.specs.declared.docket.Docket.{Docket}
use Rattle.head.specs.declared.head.Head.{Head}
use Rattle.head.specs.declared.refusal.Refusal.{Refusal}
use Rattle.head.specs.declared.refusal.Refusal.TheVariants as why
use Rattle.line.proofs.Codes.{codes_at, place_one}
use Rattle.line.specs.Calls.{Call, set_up, enter, hold, release, look, send, settle, next, answered, seen, settled}
use Rattle.line.specs.Independence.{Alike, none, same, reports, SameFrame, SameWritten, SameSaid, SameOthers, Agree, Independence}
use Rattle.line.specs.Payload.{granted_byte, message_bytes}
use Rattle.line.proofs.Written.{granted_is, first_message_is, second_message_is}

-- what a `Some` holds
some_same : {A : Type 0} {x y : A} → Some x ≡ Some y → x ≡ y
some_same e = cc

-- Rows.

-- what enter, hold and release ask of a record: no report changes it
pub record Known (r r' : Row) : Type 0 where
  pub serial : r.serial ≡ r'.serial
  pub empty : is_empty r.phase ≡ is_empty r'.phase
  pub held : is_held r.phase ≡ is_held r'.phase

-- the records of place q in two tables: p's may differ
record Near (p : Place) (q : ℕ) (r r' : Row) : Type 0 where
  same : q ≢ p.value → r ≡ r'
  known : Known r r'

-- a record is known as itself
known_refl : (r : Row) → Known r r
known_refl r = record { serial = refl; empty = refl; held = refl }

-- and so is one in two tables
near_refl : (p : Place) (q : ℕ) (r : Row) → Near p q r r
near_refl p q r = record { same = λ _. refl; known = known_refl r }

-- serial number and phase are kept
same_phase : {r r' : Row} → r.serial ≡ r'.serial → r.phase ≡ r'.phase → Known r r'
same_phase s e = record { serial = s; empty = ap is_empty e; held = ap is_held e }

-- two rows known alike, after each became another known alike
known_after : (a b c d : Row) → Known a b → Known a c → Known b d → Known c d
known_after a b c d x y z = record { serial = sym y.serial ∙ x.serial ∙ z.serial; empty = sym y.empty ∙ x.empty ∙ z.empty; held = sym y.held ∙ x.held ∙ z.held }

-- a place that waits is served, and is neither empty nor held before and after
lit_known : (ph : Phase) → (is_empty ph ≡ is_empty (lit ph)) × (is_held ph ≡ is_held (lit ph))
lit_known Empty = (refl, refl)
lit_known Held = (refl, refl)
lit_known Waiting = (refl, refl)
lit_known InService = (refl, refl)

-- a place in service is neither empty nor held
serving_known : (ph : Phase) → in_service ph ≡ true → (is_empty ph ≡ false) × (is_held ph ≡ false)
serving_known Empty e = cc
serving_known Held e = cc
serving_known Waiting e = cc
serving_known InService e = (refl, refl)

-- a failure changes jobs, alarms and counts
failed_known : (dark : Bool) (r : Row) → Known r (failed_lit dark r)
failed_known true r = same_phase refl refl
failed_known false r = same_phase refl refl

-- bring-up that measured or not
measure_known : (o : Option ℕ) (x : Record) (r : Row) → Known r (by_measure o x r)
measure_known None x r = failed_known (is_dark x.light) r
measure_known (Some d) x r = same_phase refl refl

-- telling that succeeds or fails
told_known : (good : Bool) (now : ℕ) (x : Record) (r : Row) → Known r (cond good (served now r) (failed x r))
told_known true now x r = record { serial = refl; empty = (lit_known r.phase).0; held = (lit_known r.phase).1 }
told_known false now x r = failed_known (is_dark x.light) r

-- a job that ends
job_known : (j : Option Job) (guard now : ℕ) (x : Record) (r : Row) → Known r (job_ends j guard now x r)
job_known None guard now x r = known_refl r
job_known (Some BringUp) guard now x r = measure_known (measured x r) x r
job_known (Some Tell) guard now x r = told_known (confirmed guard x) now x r
job_known (Some Stop) guard now x r = same_phase refl refl
job_known (Some Hold) guard now x r = same_phase refl refl
job_known (Some Free) guard now x r = same_phase refl refl

-- an alarm ends service, so that a place in service waits
cause_known : (o : Option Cause) (a : Alarms) (r : Row) → serving r ≡ true → Known r (by_cause o a r)
cause_known None a r e = known_refl r
cause_known (Some c) a r e = record { serial = refl; empty = (serving_known r.phase e).0; held = (serving_known r.phase e).1 }

-- a record that counts
counted_known : (guard : ℕ) (ploam : Bool) (x : Record) (r : Row) → serving r ≡ true → Known r (counted guard ploam x r)
counted_known guard ploam x r e =
    let c = counts_after ploam x.light r.counts in
    let a = alarms_reached guard x c r.alarms.suf in
    let k = cause_known (cause_of a) a (with_counts c r) e in
    record { serial = k.serial; empty = k.empty; held = k.held }

-- a record of a report, whatever it says
pub row_known : (guard now F X : ℕ) (x : Record) (r : Row) → Known r (row_after guard now F X x r)
row_known guard now F X x r =
    cond_both (window F X) (cond (last F X) (job_ends r.running guard now x r) r) (cond (counts F r) (counted guard (eqb X 1) x r) r) (Known r)
    (λ _. cond_both (last F X) (job_ends r.running guard now x r) r (Known r) (λ _. job_known r.running guard now x r) (λ _. known_refl r))
    (λ _. cond_both (counts F r) (counted guard (eqb X 1) x r) r (Known r) (λ e. counted_known guard (eqb X 1) x r (and_parts _ _ e).0) (λ _. known_refl r))

-- two records of a report, the same if the place is not p
row_near : (p : Place) (q guard now F X : ℕ) (x y : Record) (r r' : Row) → (q ≢ p.value → x ≡ y) → Near p q r r'
    → Near p q (row_after guard now F X x r) (row_after guard now F X y r')
row_near p q guard now F X x y r r' e n = record {
  same = λ ne. ap₂ (row_after guard now F X) (e ne) (n.same ne);
  known = known_after r r' _ _ n.known (row_known guard now F X x r) (row_known guard now F X y r');
}

-- Tables.

-- two tables of 64 records, like each other place by place
record Nears (p : Place) (rs rs' : List Row) : Type 0 where
  full : length rs ≡ 64
  full' : length rs' ≡ 64
  each : (q : ℕ) → Near p q (get_or rs q blank) (get_or rs' q blank)

-- at the place that is written, if the tables have it
set_near : (p : Place) (rs rs' : List Row) (i : ℕ) (v v' : Row) → length rs ≡ length rs' → Near p i v v' → Near p i (get_or rs i blank) (get_or rs' i blank)
    → Near p i (get_or (set rs i v) i blank) (get_or (set rs' i v') i blank)
set_near p rs rs' i v v' e x y =
    ⊎_elim
    (λ (l : i < length rs). let l' : i < length rs' = omega arith in rw (get_or-set_same rs i v blank l, get_or-set_same rs' i v' blank l') x)
    (λ (g : length rs ≤ i). let g' : length rs' ≤ i = omega arith in rw (set_past rs i v g, set_past rs' i v' g') y)
    (cases_lt i (length rs))

-- one place's record is written in both
nears_set : (p : Place) (rs rs' : List Row) (i : ℕ) (v v' : Row) → Nears p rs rs' → Near p i v v' → Nears p (set rs i v) (set rs' i v')
nears_set p rs rs' i v v' n x =
    let y = set_near p rs rs' i v v' (n.full ∙ sym n.full') x (n.each i) in record {
      full = length-set rs i v ∙ n.full;
      full' = length-set rs' i v' ∙ n.full';
      each = λ k.
          ⊎_elim
          (λ (e : k ≡ i). subst (λ m. Near p m (get_or (set rs i v) m blank) (get_or (set rs' i v') m blank)) (sym e) y)
          (λ (ne : k ≢ i). rw (get_or-set_other rs i k v blank ne, get_or-set_other rs' i k v' blank ne) (n.each k))
          (cases_eq k i);
    }

-- the record of one place, or of none, becomes another
changed_near : (p : Place) (o : Option Place) (f g : Row → Row) (rs rs' : List Row)
    → ((q : Place) → o ≡ Some q → (r r' : Row) → Near p q.value r r' → Near p q.value (f r) (g r'))
    → Nears p rs rs' → Nears p (changed_if o f rs) (changed_if o g rs')
changed_near p None f g rs rs' e n = n
changed_near p (Some q) f g rs rs' e n = nears_set p rs rs' q.value _ _ n (e q refl _ _ (n.each q.value))

-- one record of two reports, the same if its slot is not p's
one_near : (p : Place) (s : Settings) (now F X : ℕ) (x y : Record) (rs rs' : List Row) → (owner s F X ≢ Some p → x ≡ y) → Nears p rs rs'
    → Nears p (settled_one s now F X x rs) (settled_one s now F X y rs')
one_near p s now F X x y rs rs' e n =
    changed_near p (owner s F X) (row_after s.guard.value now F X x) (row_after s.guard.value now F X y) rs rs'
    (λ q is r r'. row_near p q.value s.guard.value now F X x y r r' (λ ne. e (λ z. ne (ap (λ (o : Place). o.value) (some_same (sym is ∙ z))))))
    n

-- what two reports say in the slots that are not p's
abbrev Others : Place → Settings → (F : ℕ) → (a b : List ℕ) → Type 0
Others p s F a b = (k : ℕ) → k < 53 → owner s F (k + 1) ≢ Some p → between (18 * k) (18 * k + 18) a ≡ between (18 * k) (18 * k + 18) b

-- all records from slot k on
settled_near : (p : Place) (s : Settings) (now F : ℕ) (a b : List ℕ) → Others p s F a b → (k n : ℕ) (rs rs' : List Row) → k + n ≤ 53 → Nears p rs rs'
    → Nears p (settled_rows s now F (suc k) (records_from a k n) rs) (settled_rows s now F (suc k) (records_from b k n) rs')
unfolding settled_rows records_from
settled_near p s now F a b e k zero rs rs' l n = n
settled_near p s now F a b e k (suc m) rs rs' l n =
    settled_near p s now F a b e (suc k) m _ _ (omega arith)
    (one_near p s now F (suc k) _ _ rs rs' (λ ne. ap record_of (e k (omega arith) (rw add-one ne))) n)

-- a round begins
begun_near : (p : Place) (q : ℕ) (r r' : Row) → Near p q r r' → Near p q (begun r) (begun r')
begun_near p q r r' n = record { same = λ ne. ap begun (n.same ne); known = record { serial = n.known.serial; empty = n.known.empty; held = n.known.held } }

-- a place is held
held_near : (p : Place) (q : ℕ) (r r' : Row) → Near p q r r' → Near p q (held r) (held r')
held_near p q r r' n = record { same = λ ne. ap held (n.same ne); known = record { serial = n.known.serial; empty = refl; held = refl } }

-- a place is released
released_near : (p : Place) (q : ℕ) (r r' : Row) → Near p q r r' → Near p q (released r) (released r')
released_near p q r r' n = record { same = λ ne. ap released (n.same ne); known = record { serial = n.known.serial; empty = refl; held = refl } }

-- the round that starts with a frame
begun_rows_near : (p : Place) (F : ℕ) (rs rs' : List Row) → Nears p rs rs' → Nears p (begun_rows F rs) (begun_rows F rs')
begun_rows_near p F rs rs' n = changed_near p (starting F) begun begun rs rs' (λ q is r r'. begun_near p q.value r r') n

-- whether a serial number is entered anywhere
borne_near : (n : Serial) (rs rs' : List Row) → length rs ≡ length rs' → ((q : ℕ) → Known (get_or rs q blank) (get_or rs' q blank)) → borne n rs ≡ borne n rs'
borne_near n [] [] l k = refl
borne_near n [] (r ∷ rs') l k = absurd (omega arith)
borne_near n (r ∷ rs) [] l k = absurd (omega arith)
borne_near n (r ∷ rs) (r' ∷ rs') l k =
    let h : Known r r' = k 0 in
    let t : borne n rs ≡ borne n rs' = borne_near n rs rs' (omega arith) (λ q. k (suc q)) in
    rw (h.serial, h.empty, t)

-- Heads.

-- the second head is the first with records of its own, which are p's at most
record Like (p : Place) (h h' : Head) : Type 0 where
  rest : h' ≡ with_rows h'.table.rows h
  rows : Nears p h.table.rows h'.table.rows

-- so what holds of the first with any such records holds of the second
by_rows : {p : Place} {h h' : Head} (P : Head → Type 0) → Like p h h' → ((rs : List Row) → Nears p h.table.rows rs → P (with_rows rs h)) → P h'
by_rows {h' = h'} P l f = subst P (sym l.rest) (f h'.table.rows l.rows)

-- a refused call changes neither head, and both refuse or neither
like_ok : {A : Type 0} (p : Place) (h x x' : Head) (rs : List Row) (a b : Result A Refusal) → a ≡ b → Nears p h.table.rows rs → Like p x x'
    → Like p (on_ok a x h) (on_ok b x' (with_rows rs h))
like_ok {A} p h x x' rs a b e n l = subst (λ c. Like p (on_ok a x h) (on_ok c x' (with_rows rs h))) e (both a)
  where
    both : (c : Result A Refusal) → Like p (on_ok c x h) (on_ok c x' (with_rows rs h))
    both (Ok t) = l
    both (Err t) = record { rest = refl; rows = n }

-- the records of all other places are the same
others : (p : Place) (h h' : Head) → Like p h h' → SameOthers p h h'
others p h h' l = record { full = l.rows.full; full' = l.rows.full'; same = λ q ne. (l.rows.each q.value).same ne }

-- a new head is like itself
fresh_like : (p : Place) → Like p fresh fresh
fresh_like p = record { rest = refl; rows = record { full = refl; full' = refl; each = λ q. near_refl p q _ } }

-- What a frame says.

-- 53 grants have the codes that they were made from
grants_at : (xs : List ℕ) (k : ℕ) → k < 53 → get_or (grants_of 53 xs).codes k 0 ≡ get_or xs k 0
unfolding grants_of
grants_at xs k h = get_or-map-range_with_len (λ m. get_or xs m 0) 0 53 k k 0 h (omega arith)

-- the grant of X in a head's next frame
sent_grant : (h : Head) (X : ℕ) → 1 ≤ X → X ≤ 53 → granted_byte (sent_bytes h) X ≡ code_of (grant_in h.settings (sent_rows h) h.frame X)
sent_grant h X low high =
    let e : 1 + (X - 1) ≡ X = omega arith in
    granted_is (sent_frame h) X low high
    ∙ grants_at (codes_from h.settings (sent_rows h) h.frame 1 53) (X - 1) (omega arith)
    ∙ codes_at h.settings (sent_rows h) h.frame 1 53 (X - 1) 0 (omega arith)
    ∙ ap (λ m. code_of (grant_in h.settings (sent_rows h) h.frame m)) e

-- what is granted to a place that is not p
place_near : (p : Place) (F X : ℕ) (rs rs' : List Row) (o : Option Place) → Nears p rs rs' → o ≢ Some p → place_grant F X rs o ≡ place_grant F X rs' o
place_near p F X rs rs' None n ne = refl
place_near p F X rs rs' (Some q) n ne = ap (slot_grant F X q) ((n.each q.value).same (λ e. ne (ap Some (place_one q p e))))

-- the message of a cell whose turn is not p's
message_near : (p : Place) (s : Settings) (F j : ℕ) (rs rs' : List Row) → Nears p rs rs' → message_place F j ≢ p → message_in s rs F j ≡ message_in s rs' F j
message_near p s F j rs rs' n ne = ap (says s F (message_place F j)) ((n.each (message_place F j).value).same (λ e. ne (place_one (message_place F j) p e)))

-- the bytes of the two messages
messages_near : (p : Place) (h : Head) (rs : List Row) → Nears p (sent_rows h) (sent_rows (with_rows rs h)) → (j : ℕ) → j < 2 → message_place h.frame j ≢ p
    → message_bytes j (sent_bytes h) ≡ message_bytes j (sent_bytes (with_rows rs h))
messages_near p h rs n zero l ne =
    first_message_is (sent_frame h) ∙ ap bytes_of (message_near p h.settings h.frame 0 _ _ n ne) ∙ sym (first_message_is (sent_frame (with_rows rs h)))
messages_near p h rs n (suc zero) l ne =
    second_message_is (sent_frame h) ∙ ap bytes_of (message_near p h.settings h.frame 1 _ _ n ne) ∙ sym (second_message_is (sent_frame (with_rows rs h)))
messages_near p h rs n (suc (suc j)) l ne = absurd (omega arith)

-- the bytes of the frame
frame_near : (p : Place) (h : Head) (rs : List Row) → Nears p h.table.rows rs → SameFrame h.settings p h.frame (sent_bytes h) (sent_bytes (with_rows rs h))
frame_near p h rs n =
    let m : Nears p (sent_rows h) (sent_rows (with_rows rs h)) = begun_rows_near p h.frame h.table.rows rs n in record {
      grants = λ X low high ne.
          sent_grant h X low high
          ∙ ap code_of (place_near p h.frame X (sent_rows h) (sent_rows (with_rows rs h)) (owner h.settings h.frame X) m ne)
          ∙ sym (sent_grant (with_rows rs h) X low high);
      messages = messages_near p h rs m;
    }

-- what a send leaves in the buffer
written_near : (s : Settings) (p : Place) (F : ℕ) (a : Result Docket Refusal) (x y b : List ℕ) → SameFrame s p F x y → SameWritten s p F a (on_ok a x b) (on_ok a y b)
written_near s p F (Ok d) x y b e = e
written_near s p F (Err w) x y b e = refl

-- Calls: on both heads the same is said, and they stay alike.
abbrev Step : Place → (c d : Call) → (h h' : Head) → Type 0
Step p c d h h' = SameSaid p c d h h' × Like p (next c h) (next d h')

-- two reports that are the same but in p's slots
report_step : (p : Place) (docket : ℕ) (a b : List ℕ) (h : Head) → length a ≡ length b → Others p h.settings docket a b → (rs : List Row)
    → Nears p h.table.rows rs → Step p (settle docket a) (settle docket b) h (with_rows rs h)
report_step p docket a b h l e rs n =
    let q : settle_answer h docket (length a) ≡ settle_answer h docket (length b) = ap (settle_answer h docket) l in
    let m = settled_near p h.settings h.frame docket a b e 0 53 h.table.rows rs (omega arith) n in
    (ap (λ w. settled (handed_back docket w)) q, like_ok p h _ _ rs _ _ q n (record { rest = refl; rows = m }))

-- one call, whatever it is
step : (p : Place) (c : Call) (h : Head) (rs : List Row) → Nears p h.table.rows rs → Step p c c h (with_rows rs h)
step p (set_up guard pattern first calendar) h rs n =
    (refl, like_ok p h _ _ rs (set_up_answer h guard first calendar) _ refl n (record { rest = refl; rows = n }))
step p (enter q serial) h rs n =
    let k : Known (get_or h.table.rows q blank) (get_or rs q blank) = (n.each q).known in
    let b : borne serial h.table.rows ≡ borne serial rs = borne_near serial h.table.rows rs (n.full ∙ sym n.full') (λ i. (n.each i).known) in
    let e : enter_answer h q serial ≡ enter_answer (with_rows rs h) q serial = rw (k.empty, b) in
    let m = nears_set p h.table.rows rs q _ _ n (near_refl p q (entered serial)) in
    (ap answered e, like_ok p h _ _ rs _ _ e n (record { rest = refl; rows = m }))
step p (hold q) h rs n =
    let k : Known (get_or h.table.rows q blank) (get_or rs q blank) = (n.each q).known in
    let e : hold_answer h q ≡ hold_answer (with_rows rs h) q = rw (k.empty, k.held) in
    let m = nears_set p h.table.rows rs q _ _ n (held_near p q _ _ (n.each q)) in
    (ap answered e, like_ok p h _ _ rs _ _ e n (record { rest = refl; rows = m }))
step p (release q) h rs n =
    let k : Known (get_or h.table.rows q blank) (get_or rs q blank) = (n.each q).known in
    let e : release_answer h q ≡ release_answer (with_rows rs h) q = rw k.held in
    let m = nears_set p h.table.rows rs q _ _ n (released_near p q _ _ (n.each q)) in
    (ap answered e, like_ok p h _ _ rs _ _ e n (record { rest = refl; rows = m }))
step p (look q) h rs n =
    ((λ ne. ap (λ (r : Row). seen (ask (nat_lt q 64) why.Place (Ok (view_of r)))) ((n.each q).same ne)), record { rest = refl; rows = n })
step p (send buffer) h rs n =
    let m = begun_rows_near p h.frame h.table.rows rs n in (
      (refl, written_near h.settings p h.frame (send_answer h (length buffer)) _ _ buffer (frame_near p h rs n)),
      like_ok p h _ _ rs (send_answer h (length buffer)) _ refl n (record { rest = refl; rows = m }),
    )
step p (settle docket report) h rs n = report_step p docket report report h refl (λ _ _ _. refl) rs n

-- Successions: two alike successions, from like heads on
twins : (p : Place) {h : Head} (h' : Head) {cs ds : List Call} → Alike p h cs ds → Like p h h' → Agree p h h' cs ds
twins p h' none l = tt
twins p {h} h' (same c a) l =
    let t = by_rows (Step p c c h) l (step p c h) in
    (t.0, others p _ _ t.1, twins p (next c h') a t.1)
twins p {h} h' (reports docket x y e a) l =
    let t = by_rows (Step p (settle docket x) (settle docket y) h) l (report_step p docket x y h (e.whole ∙ sym e.whole') e.same) in
    (t.0, others p _ _ t.1, twins p (settle_head h' docket y) a t.1)

-- the law: two new heads are alike
pub independence : Independence
independence p cs ds a = twins p fresh a (fresh_like p)
