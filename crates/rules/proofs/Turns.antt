-- Where message turns lie, and what is said in them.
use Rattle.std.proofs.Common.{◌≡◌, ℕ, zero, suc, ◌+◌, ◌-◌, ◌*◌, ◌/◌, ◌%◌, ◌<◌, ◌≤◌, eqb, false, List, [], ◌∷◌, length, Some, refl, ap, ◌∙◌, arith}
use Rattle.std.proofs.lemmas.Bool.{ne_eqb}
use Rattle.message.specs.declared.downstream.Downstream.{Downstream}
use Rattle.rules.proofs.Geometry.{is_place, place_is, starts_in}
use Rattle.rules.specs.Facts.{messages, message_at, thrice, OneTurn, MessagesStand}
use Rattle.rules.specs.Job.{job_message, running_message, says}
use Rattle.rules.specs.Schedule.{Place, starting, turn}
use Rattle.rules.specs.declared.job.Job.{Job}
use Rattle.rules.specs.declared.job.Job.TheVariants.{BringUp, Tell, Stop, Hold, Free}
use Rattle.rules.specs.declared.row.Row.{Row}
use Rattle.rules.specs.declared.settings.Settings.{Settings}

-- a number is no smaller one
other : (k m : ℕ) → m < k → eqb k m ≡ false
other k m l = ne_eqb k m (λ e. omega arith)

listed : (s : Settings) (p : Place) (r : Row) (job : Job) (k : ℕ) → job_message s p r job k ≡ message_at (messages s p r job) k
listed s p r BringUp zero = refl
listed s p r BringUp (suc zero) = refl
listed s p r BringUp (suc (suc zero)) = refl
listed s p r BringUp (suc (suc (suc k))) =
    let n : ℕ = suc (suc (suc k)) in
    let a : eqb n 0 ≡ false = other n 0 (omega arith) in
    let b : eqb n 1 ≡ false = other n 1 (omega arith) in
    let c : eqb n 2 ≡ false = other n 2 (omega arith) in rw (a, b, c)
listed s p r Tell zero = refl
listed s p r Tell (suc k) = rw (other (suc k) 0 (omega arith))
listed s p r Stop zero = refl
listed s p r Stop (suc k) = rw (other (suc k) 0 (omega arith))
listed s p r Hold zero = refl
listed s p r Hold (suc k) = rw (other (suc k) 0 (omega arith))
listed s p r Free zero = refl
listed s p r Free (suc k) = rw (other (suc k) 0 (omega arith))

-- the frame among 32 whose two message cells are of place q and of its neighbour
turn_frame : (A q : ℕ) → q ≤ 63 → (F : ℕ) × (A ≤ F) × (F < A + 32) × ((2 * F + q % 2) % 64 ≡ q)
turn_frame A q h =
    let d : ℕ = (q / 2 + 32 - A % 32) % 32 in
    let F : ℕ = A + d in
    let low : d < 32 = omega arith in
    let m : F % 32 ≡ q / 2 = omega arith in
    (F, omega arith, omega arith, omega arith)

one_frame : (A q F j G k : ℕ) → (2 * F + j) % 64 ≡ q → (2 * G + k) % 64 ≡ q → A ≤ F → F < A + 32 → A ≤ G → G < A + 32 → j < 2 → k < 2
    → (G ≡ F) × (k ≡ j)
one_frame A q F j G k x y a b c d e f = (omega arith, omega arith)

one_turn : (p : Place) (A : ℕ) → (F : ℕ) × (j : ℕ) × OneTurn p A F j
one_turn p A =
    let q = p.value in
    let t = turn_frame A q p.high in
    let F = t.0 in
    let cell : q % 2 < 2 = omega arith in (
      F,
      q % 2,
      record {
        from = t.1;
        before = t.2;
        cell = cell;
        its = is_place (2 * F + q % 2) p t.3;
        only = λ G k a b c e. one_frame A q F (q % 2) G k t.3 (place_is (2 * G + k) p e) t.1 t.2 a b cell c;
      },
    )

-- turn i is in the i-th 32 frames
turn_is : (S i F q : ℕ) → q ≤ 63 → S % 1024 ≡ (16 * q + 23) % 1024 → i < 32 → S + 32 * i ≤ F → F < S + 32 * i + 32 → turn F q ≡ i
turn_is S i F q h e l a b =
    let age : (F % 1024 + 2048 - (16 * q + 23)) % 1024 ≡ F - S = omega arith in omega arith

said : (s : Settings) (p : Place) (r : Row) (job : Job) (S i F j : ℕ) → starting S ≡ Some p → i < 32 → OneTurn p (S + 32 * i) F j
    → r.running ≡ Some job → says s F p r ≡ message_at (messages s p r job) (i / 3)
said s p r job S i F j e l t is =
    ap (λ o. running_message s p r o (turn F p.value / 3)) is
    ∙ ap (λ n. job_message s p r job (n / 3)) (turn_is S i F p.value p.high (starts_in S p e) l t.from t.before)
    ∙ listed s p r job (i / 3)

thirds : (ms : List Downstream) (i : ℕ) → message_at ms (i / 3) ≡ message_at (thrice ms) i
thirds [] i = refl
thirds (m ∷ ms) zero = refl
thirds (m ∷ ms) (suc zero) = refl
thirds (m ∷ ms) (suc (suc zero)) = refl
thirds (m ∷ ms) (suc (suc (suc i))) =
    let e : suc (suc (suc i)) / 3 ≡ suc (i / 3) = omega arith in ap (message_at (m ∷ ms)) e ∙ thirds ms i

room : (s : Settings) (p : Place) (r : Row) (job : Job) → length (thrice (messages s p r job)) ≤ 9
room s p r BringUp = omega arith
room s p r Tell = omega arith
room s p r Stop = omega arith
room s p r Hold = omega arith
room s p r Free = omega arith

pub messages_stand : MessagesStand
messages_stand =
    record {
      listed = listed;
      turns = λ p S i e l. one_turn p (S + 32 * i);
      said = said;
      thirds = thirds;
      room = room;
      idle = λ s p r F e. ap (λ o. running_message s p r o (turn F p.value / 3)) e;
    }
