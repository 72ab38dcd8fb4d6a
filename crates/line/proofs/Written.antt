-- What a written frame holds, and what is heard of it.
use Rattle.std.proofs.Common.{◌≡◌, ℕ, zero, suc, ◌+◌, ◌-◌, ◌<◌, ◌≤◌, Bool, true, false, leb, List, [], ◌∷◌, ◌++◌, length, map, get_or, Some, Ok, refl, sym, ap, ◌∙◌, ⊎_elim, arith}
use Rattle.std.specs.List.{between, range_with_len}
use Rattle.std.proofs.lemmas.Bool.{cases_lt, le-leb, lt-leb}
use Rattle.std.proofs.lemmas.List.{length-append, get_or_append_left}
use Rattle.std.proofs.lemmas.List.Edits.{length-between, get_or-between}
use Rattle.std.proofs.lemmas.List.FromFn.{get_or-map-range_with_len}
use Rattle.field.specs.Octets.{picked, grants_of}
use Rattle.field.proofs.Runs.{all_picked}
use Rattle.message.specs.Downstream.{downstream_of, bytes_of}
use Rattle.message.specs.Laws.{read_back}
use Rattle.message.specs.declared.downstream.Downstream.{Downstream}
use Rattle.message.proofs.Twelve.{twelve}
use Rattle.cell.specs.Reader.{message_part}
use Rattle.payload.specs.Cell.{cell_bytes}
use Rattle.payload.specs.Frame.{first_cell, second_cell, frame_bytes}
use Rattle.payload.specs.declared.contents.Contents.{Contents}
use Rattle.payload.specs.declared.frame.Frame.{Frame}
use Rattle.payload.proofs.CellAgain.{fits_itself, out, cell_out, cell-length}
use Rattle.payload.proofs.FrameAgain.{halves_again}
use Rattle.plant.specs.Heard.{heard_group, heard_grants, heard_message}
use Rattle.line.specs.Payload.{payload, grant_byte, granted_byte, message_bytes}

-- A cell that is written out: what is heard of it, and where its bytes are.

-- all four check bytes fit, so no grant is lost
out_grants : (first : Bool) (codes bytes : List ℕ) → heard_grants (out first codes bytes) ≡ picked 0 27 codes
unfolding heard_grants heard_group
out_grants first codes bytes = simp fits_itself

-- the message's check byte fits
out_message : (first : Bool) (codes bytes : List ℕ) (m : Downstream) → downstream_of (picked 0 12 bytes) ≡ Ok m → heard_message (out first codes bytes) ≡ Some m
unfolding heard_message
out_message first codes bytes m e = simp fits_itself (rw e)

-- the 27 grant bytes, in order
out_codes : (first : Bool) (codes bytes : List ℕ) → map (grant_byte (out first codes bytes)) (range_with_len 0 27) ≡ picked 0 27 codes
out_codes first codes bytes = refl

-- A cell that is written.

-- its 27 grants are heard
cell_grants : (c : Contents) → heard_grants (cell_bytes c) ≡ c.grants.codes
cell_grants c = ap heard_grants (cell_out c) ∙ out_grants c.first c.grants.codes (bytes_of c.message) ∙ sym (all_picked 27 c.grants.codes c.grants.full)

-- its message is heard
cell_message : (c : Contents) → heard_message (cell_bytes c) ≡ Some c.message
cell_message c =
    ap heard_message (cell_out c)
    ∙ out_message c.first c.grants.codes (bytes_of c.message) c.message (ap downstream_of (sym (all_picked 12 (bytes_of c.message) (twelve c.message))) ∙ read_back c.message)

-- its k-th grant byte
cell_code : (c : Contents) (k : ℕ) → k < 27 → grant_byte (cell_bytes c) k ≡ get_or c.grants.codes k 0
cell_code c k h =
    ap (λ b. grant_byte b k) (cell_out c)
    ∙ sym (get_or-map-range_with_len (grant_byte (out c.first c.grants.codes (bytes_of c.message))) 0 27 k k 0 h (omega arith))
    ∙ ap (λ (xs : List ℕ). get_or xs k 0) (out_codes c.first c.grants.codes (bytes_of c.message) ∙ sym (all_picked 27 c.grants.codes c.grants.full))

-- its twelve message bytes
cell_said : (c : Contents) → message_part (cell_bytes c) ≡ bytes_of c.message
cell_said c = ap message_part (cell_out c) ∙ sym (all_picked 12 (bytes_of c.message) (twelve c.message))

-- The two cells of a frame.

-- the first 48 bytes
payload_first : (f : Frame) → payload 0 (frame_bytes f) ≡ cell_bytes (first_cell f)
unfolding frame_bytes
payload_first f = (halves_again (cell_bytes (first_cell f)) (cell_bytes (second_cell f)) (cell-length (first_cell f)) (cell-length (second_cell f))).0

-- the last 48 bytes
payload_second : (f : Frame) → payload 1 (frame_bytes f) ≡ cell_bytes (second_cell f)
unfolding frame_bytes
payload_second f = (halves_again (cell_bytes (first_cell f)) (cell_bytes (second_cell f)) (cell-length (first_cell f)) (cell-length (second_cell f))).1

-- 53 codes are parted into 27, and 26 with one more
half-length : (p : List ℕ) (z : ℕ) → length p ≡ 53 → (length (between 0 27 p) ≡ 27) × (length (between 27 53 p) ≡ 26) × (length (between 27 53 p ++ z ∷ []) ≡ 27)
half-length p z h =
    let m : length (between 27 53 p) ≡ 26 = length-between p 27 53 (omega arith) in
    (length-between p 0 27 (omega arith), m, length-append (between 27 53 p) (z ∷ []) ∙ omega arith)

-- the codes of the first cell
first_codes : (f : Frame) → (first_cell f).grants.codes ≡ between 0 27 f.grants.codes
unfolding first_cell grants_of
first_codes f = sym (all_picked 27 (between 0 27 f.grants.codes) (half-length f.grants.codes 255 f.grants.full).0)

-- the codes of the second cell, the idle one last
second_codes : (f : Frame) → (second_cell f).grants.codes ≡ between 27 53 f.grants.codes ++ 255 ∷ []
unfolding second_cell grants_of
second_codes f = sym (all_picked 27 (between 27 53 f.grants.codes ++ 255 ∷ []) (half-length f.grants.codes 255 f.grants.full).2)

-- the message of the first cell
first_is : (f : Frame) → (first_cell f).message ≡ f.first
unfolding first_cell
first_is f = refl

-- the message of the second cell
second_is : (f : Frame) → (second_cell f).message ≡ f.second
unfolding second_cell
second_is f = refl

-- each payload has 48 bytes
pub payload-length : (f : Frame) (j : ℕ) → j < 2 → length (payload j (frame_bytes f)) ≡ 48
payload-length f zero h = ap length (payload_first f) ∙ cell-length (first_cell f)
payload-length f (suc zero) h = ap length (payload_second f) ∙ cell-length (second_cell f)
payload-length f (suc (suc j)) h = absurd (omega arith)

-- the grants of the first cell, and of the second with the idle one
pub first_grants : (f : Frame) → heard_grants (payload 0 (frame_bytes f)) ≡ between 0 27 f.grants.codes
first_grants f = ap heard_grants (payload_first f) ∙ cell_grants (first_cell f) ∙ first_codes f

pub second_grants : (f : Frame) → heard_grants (payload 1 (frame_bytes f)) ≡ between 27 53 f.grants.codes ++ 255 ∷ []
second_grants f = ap heard_grants (payload_second f) ∙ cell_grants (second_cell f) ∙ second_codes f

-- the messages of both cells
pub first_message : (f : Frame) → heard_message (payload 0 (frame_bytes f)) ≡ Some f.first
first_message f = ap heard_message (payload_first f) ∙ cell_message (first_cell f) ∙ ap Some (first_is f)

pub second_message : (f : Frame) → heard_message (payload 1 (frame_bytes f)) ≡ Some f.second
second_message f = ap heard_message (payload_second f) ∙ cell_message (second_cell f) ∙ ap Some (second_is f)

-- Byte by byte.

-- a grant byte of the first cell
first_grant : (f : Frame) (k : ℕ) → k < 27 → grant_byte (payload 0 (frame_bytes f)) k ≡ get_or f.grants.codes k 0
first_grant f k h =
    ap (λ b. grant_byte b k) (payload_first f) ∙ cell_code (first_cell f) k h
    ∙ ap (λ (xs : List ℕ). get_or xs k 0) (first_codes f)
    ∙ get_or-between f.grants.codes 0 27 k 0 (omega arith)
    ∙ ap (λ n. get_or f.grants.codes n 0) (omega arith)

-- a grant byte of the second cell, not the idle one
second_grant : (f : Frame) (k : ℕ) → k < 26 → grant_byte (payload 1 (frame_bytes f)) k ≡ get_or f.grants.codes (27 + k) 0
second_grant f k h =
    let l = half-length f.grants.codes 255 f.grants.full in
    ap (λ b. grant_byte b k) (payload_second f) ∙ cell_code (second_cell f) k (omega arith)
    ∙ ap (λ (xs : List ℕ). get_or xs k 0) (second_codes f)
    ∙ get_or_append_left (between 27 53 f.grants.codes) (255 ∷ []) 0 k (omega arith)
    ∙ get_or-between f.grants.codes 27 53 k 0 (omega arith)

-- the grant byte of X
pub granted_is : (f : Frame) (X : ℕ) → 1 ≤ X → X ≤ 53 → granted_byte (frame_bytes f) X ≡ get_or f.grants.codes (X - 1) 0
granted_is f X low high =
    ⊎_elim
    (λ (h : X < 28). let t : leb X 27 ≡ true = le-leb X 27 (omega arith) in rw t (first_grant f (X - 1) (omega arith)))
    (λ (h : 28 ≤ X). let t : leb X 27 ≡ false = lt-leb X 27 (omega arith) in let e : 27 + (X - 28) ≡ X - 1 = omega arith in
    rw t (second_grant f (X - 28) (omega arith) ∙ ap (λ n. get_or f.grants.codes n 0) e))
    (cases_lt X 28)

-- the twelve bytes of both messages
pub first_message_is : (f : Frame) → message_bytes 0 (frame_bytes f) ≡ bytes_of f.first
first_message_is f = ap message_part (payload_first f) ∙ cell_said (first_cell f) ∙ ap bytes_of (first_is f)

pub second_message_is : (f : Frame) → message_bytes 1 (frame_bytes f) ≡ bytes_of f.second
second_message_is f = ap message_part (payload_second f) ∙ cell_said (second_cell f) ∙ ap bytes_of (second_is f)
