-- What a frame out and a report in make of the dockets that are out.
use Rattle.std.proofs.Common.{◌≡◌, ℕ, suc, ◌+◌, ◌-◌, ◌^◌, ◌<◌, ◌≤◌, Bool, true, false, ◌&&◌, ◌||◌, List, [], ◌∷◌, ◌++◌, length, get_or, Ok, Err, refl, sym, ap, subst, ◌∙◌, arith}
use Rattle.std.proofs.lemmas.List.{length-append}
use Rattle.std.specs.List.{remove}
use Rattle.std.specs.Prelude.{nat_eq, nat_lt}
use Rattle.head.specs.Steps.{ask, send_answer, sent, settle_answer, settle_head, settled, is_oldest, handed_back}
use Rattle.head.specs.declared.docket.Docket.{Docket}
use Rattle.head.specs.declared.head.Head.{Head}
use Rattle.head.specs.declared.refusal.Refusal.TheVariants as why
use Rattle.line.proofs.Answers.{asked, ok_is}
use Rattle.plant.specs.declared.burst.Burst.{Burst}
use Rattle.receiver.proofs.Lengths.{reported-length}
use Rattle.receiver.specs.Receiver.{reported}
use Rattle.floor.specs.Dockets.{in_turn, held_for, all_held}

left : (u v : Bool) → (u && v) ≡ true → u ≡ true
left true v e = refl
left false v e = cc

right : (u v : Bool) → (u && v) ≡ true → v ≡ true
right true v e = e
right false v e = absurd cc

both : (u v : Bool) → u ≡ true → v ≡ true → (u && v) ≡ true
both true v e h = h
both false v e h = cc

equal : (m n : ℕ) → nat_eq m n ≡ true → m ≡ n
equal m n e = grind arith

same : (m n : ℕ) → m ≡ n → nat_eq m n ≡ true
same m n e = grind arith

module _ (f o : ℕ) (s : Bool) (ds : List Docket) (k : held_for f o s ds ≡ true) where
  turn : in_turn f ds ≡ true
  turn = left (in_turn f ds) (nat_eq (length ds) o && (s || nat_eq o 0)) k

  more : (nat_eq (length ds) o && (s || nat_eq o 0)) ≡ true
  more = right (in_turn f ds) (nat_eq (length ds) o && (s || nat_eq o 0)) k

  count : length ds ≡ o
  count = equal (length ds) o (left (nat_eq (length ds) o) (s || nat_eq o 0) more)

  begun : (s || nat_eq o 0) ≡ true
  begun = right (nat_eq (length ds) o) (s || nat_eq o 0) more

make : (f o : ℕ) (s : Bool) (ds : List Docket) → in_turn f ds ≡ true → length ds ≡ o → (s || nat_eq o 0) ≡ true → held_for f o s ds ≡ true
make f o s ds t c b =
    both (in_turn f ds) (nat_eq (length ds) o && (s || nat_eq o 0)) t (both (nat_eq (length ds) o) (s || nat_eq o 0) (same (length ds) o c) b)

turn_more : (f : ℕ) (ds : List Docket) (d : Docket) → d.frame ≡ f → in_turn f ds ≡ true → in_turn (f + 1) (ds ++ d ∷ []) ≡ true
turn_more f [] d e t = both (nat_eq (d.frame + 1) (f + 1)) true (same (d.frame + 1) (f + 1) (omega (arith, e))) refl
turn_more f (c ∷ ds) d e t =
    let len : length (ds ++ d ∷ []) ≡ length ds + 1 = length-append ds (d ∷ []) in
    let n : c.frame + suc (length ds) ≡ f = equal (c.frame + suc (length ds)) f (left _ (in_turn f ds) t) in
    both (nat_eq (c.frame + suc (length (ds ++ d ∷ []))) (f + 1)) (in_turn (f + 1) (ds ++ d ∷ []))
    (same (c.frame + suc (length (ds ++ d ∷ []))) (f + 1) (omega (arith, len, n))) (turn_more f ds d e (right (nat_eq (c.frame + suc (length ds)) f) (in_turn f ds) t))

sent_frame : (h : Head) (d : Docket) → send_answer h 96 ≡ Ok d → d.frame ≡ h.frame
sent_frame h d e =
    let a = asked (nat_lt h.out 4) why.Dockets _ d e in
    let b = asked (nat_lt h.frame (2 ^ 48)) why.Frame _ d a.1 in
    cc

held_more : (h : Head) (d : Docket) (ds : List Docket) → send_answer h 96 ≡ Ok d → all_held h ds ≡ true → all_held (sent h) (ds ++ d ∷ []) ≡ true
held_more h d ds e k =
    let len : length (ds ++ d ∷ []) ≡ length ds + 1 = length-append ds (d ∷ []) in
    make (h.frame + 1) (h.out + 1) true (ds ++ d ∷ []) (turn_more h.frame ds d (sent_frame h d e) (turn h.frame h.out h.started ds k))
    (omega (arith, len, count h.frame h.out h.started ds k)) refl

-- a frame more is out
pub held_sent : (h to : Head) (d : Docket) (ds all : List Docket) → send_answer h 96 ≡ Ok d → to ≡ sent h → all ≡ ds ++ d ∷ []
    → all_held h ds ≡ true → all_held to all ≡ true
held_sent h to d ds all a e i k =
    subst (λ (x : Head). all_held x all ≡ true) (sym e) (subst (λ (xs : List Docket). all_held (sent h) xs ≡ true) (sym i) (held_more h d ds a k))

-- the first of them is the oldest
oldest : (h : Head) (d : Docket) (ds : List Docket) → all_held h (d ∷ ds) ≡ true → is_oldest h d.frame ≡ true
oldest h d ds k =
    let c : suc (length ds) ≡ h.out = count h.frame h.out h.started (d ∷ ds) k in
    let n : d.frame + suc (length ds) ≡ h.frame = equal (d.frame + suc (length ds)) h.frame (left _ (in_turn h.frame ds) (turn h.frame h.out h.started (d ∷ ds) k)) in
    both (nat_lt 0 h.out) (nat_eq (d.frame + h.out) h.frame) (grind (arith, c)) (same (d.frame + h.out) h.frame (omega (arith, c, n)))

settle_succeeds : (h : Head) (d : Docket) (ds : List Docket) → all_held h (d ∷ ds) ≡ true → settle_answer h d.frame 954 ≡ Ok tt
settle_succeeds h d ds k = ap (λ (b : Bool). ask b why.Docket (Ok tt)) (oldest h d ds k)

started : (s : Bool) (o : ℕ) → 1 ≤ o → (s || nat_eq o 0) ≡ true → (s || nat_eq (o - 1) 0) ≡ true
started true o h b = refl
started false o h b = absurd (omega (arith, h, equal o 0 b))

held_settled : (h : Head) (d : Docket) (ds : List Docket) (report : List ℕ) → all_held h (d ∷ ds) ≡ true → all_held (settled h d.frame report) ds ≡ true
held_settled h d ds report k =
    let c : suc (length ds) ≡ h.out = count h.frame h.out h.started (d ∷ ds) k in
    make h.frame (h.out - 1) h.started ds (right _ (in_turn h.frame ds) (turn h.frame h.out h.started (d ∷ ds) k)) (omega (arith, c))
    (started h.started h.out (omega (arith, c)) (begun h.frame h.out h.started (d ∷ ds) k))

held_taken : (h : Head) (ds : List Docket) (d : Docket) (report : List ℕ) → 0 < length ds → d ≡ get_or ds 0 d → length report ≡ 954
    → all_held h ds ≡ true → all_held (settle_head h d.frame report) (remove ds 0) ≡ true
held_taken h [] d report some e len k = absurd (omega (arith, some))
held_taken h (c ∷ ds) d report some e len k =
    let a : settle_answer h c.frame (length report) ≡ Ok tt = rw len (settle_succeeds h c ds k) in
    let b : settle_head h c.frame report ≡ settled h c.frame report = ok_is (settle_answer h c.frame (length report)) tt (settled h c.frame report) h a in
    subst (λ (x : Docket). all_held (settle_head h x.frame report) ds ≡ true) (sym e)
    (subst (λ (x : Head). all_held x ds ≡ true) (sym b) (held_settled h c ds report k))

-- the oldest is settled and taken away
pub held_after : (h to : Head) (ds rest : List Docket) (d : Docket) (bs : List Burst) (marks : List ℕ) → 0 < length ds → d ≡ get_or ds 0 d
    → to ≡ settle_head h d.frame (reported d.frame bs marks 53) → rest ≡ remove ds 0 → all_held h ds ≡ true → all_held to rest ≡ true
held_after h to ds rest d bs marks some first e i k =
    subst (λ (x : Head). all_held x rest ≡ true) (sym e)
    (subst (λ (xs : List Docket). all_held (settle_head h d.frame (reported d.frame bs marks 53)) xs ≡ true) (sym i)
    (held_taken h ds d (reported d.frame bs marks 53) some first (reported-length d.frame bs marks 53) k))

last_frame : (f : ℕ) (ds : List Docket) (d : Docket) → in_turn f (ds ++ d ∷ []) ≡ true → suc d.frame ≡ f
last_frame f [] d t = let e : d.frame + 1 ≡ f = equal (d.frame + 1) f (left _ true t) in omega (arith, e)
last_frame f (c ∷ ds) d t = last_frame f ds d (right (nat_eq (c.frame + suc (length (ds ++ d ∷ []))) f) (in_turn f (ds ++ d ∷ [])) t)

newest_refused : (h : Head) (d : Docket) (ds all : List Docket) → all ≡ ds ++ d ∷ [] → 2 ≤ length all → all_held h all ≡ true
    → settle_answer h d.frame 954 ≡ Err why.Docket
newest_refused h d ds all i some k =
    let j : all_held h (ds ++ d ∷ []) ≡ true = subst (λ (xs : List Docket). all_held h xs ≡ true) i k in
    let l : length all ≡ length ds + 1 = ap length i ∙ length-append ds (d ∷ []) in
    let c : length ds + 1 ≡ h.out = sym (length-append ds (d ∷ [])) ∙ count h.frame h.out h.started (ds ++ d ∷ []) j in
    let n : suc d.frame ≡ h.frame = last_frame h.frame ds d (turn h.frame h.out h.started (ds ++ d ∷ []) j) in
    let e : is_oldest h d.frame ≡ false = grind (arith, c, n, some, l) in
    ap (λ (b : Bool). ask b why.Docket (Ok tt)) e

not_both : (f : ℕ) (u : Unit {0}) → handed_back f (Err why.Docket) ≡ Ok u → ⊥
not_both f u e = absurd cc

-- with an older one out, the newest is not settled
pub newest_stays : (h : Head) (d : Docket) (ds all : List Docket) (u : Unit {0}) → all ≡ ds ++ d ∷ [] → 2 ≤ length all → all_held h all ≡ true
    → handed_back d.frame (settle_answer h d.frame 954) ≡ Ok u → ⊥
newest_stays h d ds all u i some k e = not_both d.frame u (ap (handed_back d.frame) (sym (newest_refused h d ds all i some k)) ∙ e)
