-- Rows of grants, and the bursts that answer them.
use Rattle.std.proofs.Common.{◌≡◌, ℕ, zero, suc, ◌+◌, ◌<◌, ◌≤◌, Bool, true, false, cond, List, [], ◌∷◌, ◌++◌, length, get_or, take, replicate, is_ok, Some, None, Option, sym, refl, ap, ◌∙◌, subst, append_assoc, append-nil, add-zero, arith, length-append}
use lib.ListN.{length-replicate}
use Rattle.std.proofs.lemmas.List.Edits.{length-between}
use Rattle.std.proofs.lemmas.List.{take_more, length-take-le}
use Rattle.field.proofs.Codes.{grant_again}
use Rattle.field.specs.Grant.{code_of, grant_of}
use Rattle.field.specs.declared.grant.Grant.{Grant}
use Rattle.field.specs.declared.grant.Grant.TheVariants.{Idle}
use Rattle.field.specs.declared.octets.Octets.{Octets}
use Rattle.cell.specs.Reader.{group_of, size_of, group_checked}
use Rattle.cell.specs.declared.fault.Group.{Group}
use Rattle.cell.specs.declared.fault.Group.TheVariants.{First, Second, Third, Fourth}
use Rattle.onu.specs.Answer.{kind_for}
use Rattle.onu.specs.declared.answer.Kind.{Kind}
use Rattle.onu.specs.declared.state.Onu.{Onu}
use Rattle.plant.specs.declared.burst.Burst.{Burst}
use Rattle.plant.specs.Heard.{heard_group, heard_grants}
use Rattle.plant.specs.Lawful.{answer_to, answers, steady}

module _ (says : ℕ → Octets 12) (o : Onu) where
  pub answers_none : (n : ℕ) → answers says o n [] ≡ []
  unfolding answers
  answers_none n = refl

  pub answers_cons : (n g : ℕ) (gs : List ℕ) → answers says o n (g ∷ gs) ≡ answer_to (kind_for (grant_of g) o) (says n) o n ++ answers says o (suc n) gs
  unfolding answers
  answers_cons n g gs = refl

  pub answers_one : (n g : ℕ) → answers says o n (g ∷ []) ≡ answer_to (kind_for (grant_of g) o) (says n) o n
  answers_one n g = answers_cons n g [] ∙ ap (λ (bs : List Burst). answer_to (kind_for (grant_of g) o) (says n) o n ++ bs) (answers_none (suc n)) ∙ append-nil _

  pub answers-append : (n : ℕ) (gs hs : List ℕ) → answers says o n (gs ++ hs) ≡ answers says o n gs ++ answers says o (n + length gs) hs
  unfolding answers
  answers-append n [] hs = rw add-zero
  answers-append n (g ∷ gs) hs =
      let e : suc n + length gs ≡ n + suc (length gs) = omega arith in
      let a = answer_to (kind_for (grant_of g) o) (says n) o n in
      let k : answers says o (suc n) (gs ++ hs) ≡ answers says o (suc n) gs ++ answers says o (n + suc (length gs)) hs =
      subst (λ (m : ℕ). answers says o (suc n) (gs ++ hs) ≡ answers says o (suc n) gs ++ answers says o m hs) e (answers-append (suc n) gs hs) in
      ap (λ (bs : List Burst). a ++ bs) k ∙ sym (append_assoc a (answers says o (suc n) gs) (answers says o (n + suc (length gs)) hs))

  pub answers_more : (n : ℕ) (gs : List ℕ) (i : ℕ) → i < length gs
      → answers says o n (take (i + 1) gs) ≡ answers says o n (take i gs) ++ answer_to (kind_for (grant_of (get_or gs i 0)) o) (says (n + i)) o (n + i)
  answers_more n gs i h =
      let l : length (take i gs) ≡ i = length-take-le i gs (omega arith) in
      ap (answers says o n) (take_more gs i 0 h)
      ∙ answers-append n (take i gs) (get_or gs i 0 ∷ [])
      ∙ ap (λ (k : ℕ). answers says o n (take i gs) ++ answers says o (n + k) (get_or gs i 0 ∷ [])) l
      ∙ ap (λ (bs : List Burst). answers says o n (take i gs) ++ bs) (answers_one (n + i) (get_or gs i 0))

  -- nobody answers an idle grant
  pub answers_idle : (n k : ℕ) → answers says o n (replicate k (code_of Idle)) ≡ []
  unfolding answers
  answers_idle n zero = refl
  answers_idle n (suc k) =
      ap (λ (g : Grant). answer_to (kind_for g o) (says n) o n ++ answers says o (suc n) (replicate k (code_of Idle))) (grant_again Idle) ∙ answers_idle (suc n) k

  one_few : (k : Option Kind) (free : Octets 12) (n : ℕ) → length (answer_to k free o n) ≤ 1
  one_few None free n = omega arith
  one_few (Some k) free n = omega arith

  pub answers_few : (n : ℕ) (gs : List ℕ) → length (answers says o n gs) ≤ length gs
  unfolding answers
  answers_few n [] = omega arith
  answers_few n (g ∷ gs) =
      let h = answers_few (suc n) gs in
      let k = one_few (kind_for (grant_of g) o) (says n) n in
      simp length-append (omega arith)

pub steady_more : (m : Octets 12) (o : Onu) (n : ℕ) (gs : List ℕ) (i : ℕ) → i < length gs
    → answers (steady m) o n (take (i + 1) gs) ≡ answers (steady m) o n (take i gs) ++ answer_to (kind_for (grant_of (get_or gs i 0)) o) m o (n + i)
unfolding steady
steady_more m o n gs i h = answers_more (steady m) o n gs i h

group_case : (v : Bool) (n : ℕ) (gs : List ℕ) → length gs ≡ n → length (cond v gs (replicate n (code_of Idle))) ≡ n
group_case true n gs h = h
group_case false n gs h = length-replicate n (code_of Idle)

group-length : (g : Group) (b : List ℕ) → length b ≡ 48 → length (group_of g b) ≡ size_of g
group-length First b l = length-between b 3 10 (omega arith)
group-length Second b l = length-between b 11 18 (omega arith)
group-length Third b l = length-between b 19 26 (omega arith)
group-length Fourth b l = length-between b 27 33 (omega arith)

pub heard_group-length : (g : Group) (b : List ℕ) → length b ≡ 48 → length (heard_group g b) ≡ size_of g
unfolding heard_group
heard_group-length g b l = group_case (is_ok (group_checked g b)) (size_of g) (group_of g b) (group-length g b l)

pub heard-length : (b : List ℕ) → length b ≡ 48 → length (heard_grants b) ≡ 27
unfolding heard_grants
heard-length b l =
    let p : length (heard_group First b) ≡ 7 = heard_group-length First b l in
    let q : length (heard_group Second b) ≡ 7 = heard_group-length Second b l in
    let r : length (heard_group Third b) ≡ 7 = heard_group-length Third b l in
    let s : length (heard_group Fourth b) ≡ 6 = heard_group-length Fourth b l in
    simp length-append (omega arith)

-- a cell's answers, group by group
pub answers_cell : (says : ℕ → Octets 12) (o : Onu) (n : ℕ) (b : List ℕ) → length b ≡ 48
    → answers says o n (heard_grants b)
    ≡ answers says o n (heard_group First b) ++ (answers says o (n + 7) (heard_group Second b) ++ (answers says o (n + 14) (heard_group Third b) ++ answers says o (n + 21) (heard_group Fourth b)))
unfolding heard_grants
answers_cell says o n b l =
    let p : length (heard_group First b) ≡ 7 = heard_group-length First b l in
    let q : length (heard_group Second b) ≡ 7 = heard_group-length Second b l in
    let r : length (heard_group Third b) ≡ 7 = heard_group-length Third b l in
    let e : (n + 7) + 7 ≡ n + 14 = omega arith in
    let f : (n + 14) + 7 ≡ n + 21 = omega arith in
    rw (answers-append says o n (heard_group First b), p, answers-append says o (n + 7) (heard_group Second b), q, e, answers-append says o (n + 14) (heard_group Third b), r, f)
