-- Calls on a head whose frames a bench ONU hears.
use Rattle.std.proofs.Common.{◌≡◌, ℕ, ◌+◌, ◌*◌, ◌<◌, ◌^◌, List, [], ◌∷◌, ◌++◌, length, replicate, Some, Ok, sym, ap, ◌∙◌, subst}
use Rattle.std.specs.List.{between}
use Rattle.std.proofs.lemmas.Bool.{lt-ltb, eq-eqb}
use Rattle.message.specs.declared.downstream.Downstream.{Downstream}
use Rattle.plant.proofs.Lists.{drifts_still}
use Rattle.plant.specs.Heard.{heard_grants, heard_message}
use Rattle.plant.specs.Lawful.{acted, answers, steady}
use Rattle.plant.specs.declared.burst.Burst.{Burst}
use Rattle.bench.specs.Bench.{quiet, woken, ticked, after_cell, BenchDoes}
use Rattle.bench.specs.declared.machine.Machine.{Machine}
use Rattle.head.specs.Steps.{send_answer, sent_rows, sent_frame, sent_bytes, sent, settle_answer, settled, settle_head}
use Rattle.head.specs.Table.{codes_from, message_in}
use Rattle.head.specs.declared.docket.Docket.{Docket}
use Rattle.head.specs.declared.head.Head.{Head}
use Rattle.line.proofs.Answers.{ok_is}
use Rattle.line.proofs.Overlap.{frame_codes}
use Rattle.line.proofs.Written.{first_grants, second_grants, first_message, second_message}
use Rattle.line.specs.Calls.{settle}
use Rattle.line.specs.Payload.{payload}
use Rattle.line.specs.Run.{HeardCell, all_bursts, TrueReport, Run, calls, sends}
use Rattle.history.specs.History.{means}
use Rattle.history.proofs.Stages.{after_message}

-- what the ONU answers to these grants
abbrev pub answered : Machine → ℕ → List ℕ → List Burst
answered q n gs = answers (steady (quiet (woken q))) (woken q) n gs

-- the machine after a payload goes by its message alone
machine_after : (q : Machine) (p : List ℕ) (m : Downstream) → heard_message p ≡ Some m → after_message m q ≡ after_cell q p
unfolding after_cell
machine_after q p m e = ap (λ x. ticked (acted x (woken q)) q.ranging q.popup) (sym e)

-- what the bench does of a payload, by its grants and its message
bench_hears : (q : Machine) (n : ℕ) (p gs : List ℕ) (m : Downstream) → heard_grants p ≡ gs → heard_message p ≡ Some m → BenchDoes q p n (after_message m q) (answered q n gs)
bench_hears q n p gs m e f = (machine_after q p m f, ap (answered q n) (sym e))

-- what a frame of this head grants and says
abbrev pub codes_in : Head → List ℕ
codes_in h = codes_from h.settings (sent_rows h) h.frame 1 53

abbrev pub message_of : Head → ℕ → Downstream
message_of h j = message_in h.settings (sent_rows h) h.frame j

-- the cell that was heard
abbrev pub cell : Head → Machine → List Burst → HeardCell
cell h q bs = record { guard = h.settings.guard.value; onus = means q; bursts = bs }

-- a send into 96 bytes is accepted
send_fits : (h : Head) → h.out < 4 → h.frame < 2 ^ 48 → send_answer h 96 ≡ Ok (record { frame = h.frame })
send_fits h a b = rw (lt-ltb h.out 4 a, lt-ltb h.frame (2 ^ 48) b)

-- a frame with these codes and messages is sent
pub sent_run : (h : Head) (q : Machine) (cells : List HeardCell) (gs : List ℕ) (m₀ m₁ : Downstream) → h.out < 4 → h.frame < 2 ^ 48
    → codes_in h ≡ gs → message_of h 0 ≡ m₀ → message_of h 1 ≡ m₁ → Run means BenchDoes h q cells
    → Run means BenchDoes (sent h) (after_message m₁ (after_message m₀ q))
    (cell h (after_message m₁ (after_message m₀ q)) (answered (after_message m₀ q) (53 * h.frame + 27) (between 27 53 gs ++ 255 ∷ []))
    ∷ cell h (after_message m₀ q) (answered q (53 * h.frame) (between 0 27 gs)) ∷ cells)
sent_run h q cells gs m₀ m₁ few soon e e₀ e₁ r =
    let f = sent_frame h in
    let d : Docket = record { frame = h.frame } in
    let q₁ : Machine = after_message m₀ q in
    let fits : send_answer h 96 ≡ Ok d = send_fits h few soon in
    let x = bench_hears q (53 * h.frame) (payload 0 (sent_bytes h)) (between 0 27 gs) m₀
    (first_grants f ∙ ap (between 0 27) (frame_codes h ∙ e)) (first_message f ∙ ap Some e₀) in
    let y = bench_hears q₁ (53 * h.frame + 27) (payload 1 (sent_bytes h)) (between 27 53 gs ++ 255 ∷ []) m₁
    (second_grants f ∙ ap (λ (cs : List ℕ). between 27 53 cs ++ 255 ∷ []) (frame_codes h ∙ e)) (second_message f ∙ ap Some e₁) in
    let run = sends (replicate 96 0) d q₁ q₁ (after_message m₁ q₁) (answered q (53 * h.frame) (between 0 27 gs)) (answered q₁ (53 * h.frame + 27) (between 27 53 gs ++ 255 ∷ [])) r
    fits x (drifts_still (means q₁)) y in
    subst (λ k. Run means BenchDoes k (after_message m₁ q₁)
    (cell h (after_message m₁ q₁) (answered q₁ (53 * h.frame + 27) (between 27 53 gs ++ 255 ∷ [])) ∷ cell h q₁ (answered q (53 * h.frame) (between 0 27 gs)) ∷ cells))
    (ok_is (send_answer h 96) d (sent h) h fits) run

-- so is a settle of the oldest docket
settle_fits : (h : Head) (F : ℕ) → 0 < h.out → F + h.out ≡ h.frame → settle_answer h F 954 ≡ Ok tt
settle_fits h F a b = rw (lt-ltb 0 h.out a, eq-eqb (F + h.out) h.frame b)

-- what the head then is
pub settle_is : (h : Head) (F : ℕ) (report : List ℕ) → 0 < h.out → F + h.out ≡ h.frame → length report ≡ 954 → settle_head h F report ≡ settled h F report
settle_is h F report a b l =
    let fits : settle_answer h F (length report) ≡ Ok tt = rw l (settle_fits h F a b) in
    ok_is (settle_answer h F (length report)) tt (settled h F report) h fits

-- a true report is settled
pub settled_run : (h : Head) (q : Machine) (cells : List HeardCell) (F : ℕ) (report : List ℕ) → 0 < h.out → F + h.out ≡ h.frame → length report ≡ 954
    → TrueReport (all_bursts cells) F report → Run means BenchDoes h q cells → Run means BenchDoes (settled h F report) q cells
settled_run h q cells F report a b l t r =
    subst (λ k. Run means BenchDoes k q cells) (settle_is h F report a b l) (calls (settle F report) r tt (λ e. t))
