-- What reports say in the slots of one place changes nothing for anybody else.
use Rattle.std.specs.Prelude.{◌≡◌, ◌≢◌, ℕ, ◌+◌, ◌*◌, ◌<◌, ◌≤◌, List, [], ◌∷◌, length, Some, Ok, Err, Result}
use Rattle.std.specs.List.{between}
use Rattle.head.specs.Steps.{fresh, send_answer, send_buffer, settle_head}
use Rattle.head.specs.Table.{row_at}
use Rattle.head.specs.declared.docket.Docket.{Docket}
use Rattle.head.specs.declared.head.Head.{Head}
use Rattle.head.specs.declared.refusal.Refusal.{Refusal}
use Rattle.rules.specs.Schedule.{Place, owner, message_place}
use Rattle.rules.specs.declared.settings.Settings.{Settings}
use Rattle.line.specs.Calls.{Call, look, send, settle, said, next}
use Rattle.line.specs.Payload.{granted_byte, message_bytes}

-- two reports of frame F: 954 bytes each, and the same 18 bytes for every slot that is not p's
pub record SameReport (s : Settings) (p : Place) (F : ℕ) (a b : List ℕ) : Type 0 where
  pub whole : length a ≡ 954
  pub whole' : length b ≡ 954
  pub same : (k : ℕ) → k < 53 → owner s F (k + 1) ≢ Some p → between (18 * k) (18 * k + 18) a ≡ between (18 * k) (18 * k + 18) b

-- Two successions of calls, from a head on: the same but for what reports say in p's slots of the docket's frame.
-- Whose slot is whose goes by the first succession's settings; reports never change them.
pub data Alike (p : Place) : Head → List Call → List Call → Type 0 where
  none : {h : Head} → Alike p h [] []
  same : {h : Head} (c : Call) {cs ds : List Call} → Alike p (next c h) cs ds → Alike p h (c ∷ cs) (c ∷ ds)
  reports : {h : Head} (docket : ℕ) (a b : List ℕ) {cs ds : List Call} → SameReport h.settings p docket a b
      → Alike p (settle_head h docket a) cs ds → Alike p h (settle docket a ∷ cs) (settle docket b ∷ ds)

-- two frames' bytes: the same grants but in p's slots, and the same messages but p's
pub record SameFrame (s : Settings) (p : Place) (F : ℕ) (a b : List ℕ) : Type 0 where
  pub grants : (X : ℕ) → 1 ≤ X → X ≤ 53 → owner s F X ≢ Some p → granted_byte a X ≡ granted_byte b X
  pub messages : (j : ℕ) → j < 2 → message_place F j ≢ p → message_bytes j a ≡ message_bytes j b

-- what a send writes: a frame, or nothing, so that the buffer is as it was
abbrev pub SameWritten : Settings → Place → ℕ → Result Docket Refusal → (a b : List ℕ) → Type 0
SameWritten s p F (Ok docket) a b = SameFrame s p F a b
SameWritten s p F (Err why) a b = a ≡ b

-- the same is answered, but to a look at p, and the same is written, but what is p's
abbrev pub SameSaid : Place → (c d : Call) → (h h' : Head) → Type 0
SameSaid p (look place) d h h' = place ≢ p.value → said (look place) h ≡ said d h'
SameSaid p (send buffer) d h h' =
    (said (send buffer) h ≡ said d h') × SameWritten h.settings p h.frame (send_answer h (length buffer)) (send_buffer h buffer) (send_buffer h' buffer)
SameSaid p c d h h' = said c h ≡ said d h'

-- both tables have 64 records, and those of all other places are equal, whole
pub record SameOthers (p : Place) (h h' : Head) : Type 0 where
  pub full : length h.table.rows ≡ 64
  pub full' : length h'.table.rows ≡ 64
  pub same : (q : Place) → q.value ≢ p.value → row_at h.table.rows q ≡ row_at h'.table.rows q

-- call by call, the same is said and the others' records are the same afterwards
abbrev pub Agree : Place → (h h' : Head) → (cs ds : List Call) → Type 0
Agree p h h' [] [] = Unit {0}
Agree p h h' [] (d ∷ ds) = ⊥
Agree p h h' (c ∷ cs) [] = ⊥
Agree p h h' (c ∷ cs) (d ∷ ds) = SameSaid p c d h h' × SameOthers p (next c h) (next d h') × Agree p (next c h) (next d h') cs ds

-- for each place, and any two successions on a new head that are alike but for its reports
abbrev pub Independence : Type 0
Independence = (p : Place) (cs ds : List Call) → Alike p fresh cs ds → Agree p fresh fresh cs ds
