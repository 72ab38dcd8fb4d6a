-- What holds of reading and writing together, and figures worked by hand.
use Rattle.std.specs.Prelude.{◌≡◌, ℕ, ◌+◌, ◌/◌, ◌<◌, true, List, [], ◌∷◌, ◌++◌, map, replicate, None, Ok}
use Rattle.std.proofs.Common.{lit≤}
use Rattle.std.specs.List.{range_with_len}
use Rattle.field.specs.Bytes.{at}
use Rattle.field.specs.Check.{check_of}
use Rattle.field.specs.Delay.{Delay, delay_of}
use Rattle.field.specs.declared.bounded.Bounded.{Bounded}
use Rattle.field.specs.declared.number.Number.{Number}
use Rattle.message.specs.Downstream.{downstream_of, bytes_of}
use Rattle.message.specs.Kept.{Kept}
use Rattle.message.specs.declared.downstream.Address.TheVariants.{All}
use Rattle.message.specs.declared.downstream.Downstream.TheVariants.{AssignPonId, RangingTime, GrantAllocation, DeactivatePonId}
use Rattle.cell.specs.Reader.{first_of, message_part}
use Rattle.payload.specs.Cell.{cell_of, cell_bytes}
use Rattle.payload.specs.Frame.{frame_of, frame_bytes}
use Rattle.payload.specs.declared.contents.Contents.{Contents}
use Rattle.payload.specs.declared.frame.Frame.{Frame}

-- reading what was written gives the contents back, whatever they are
abbrev pub ReadingUndoesWriting : Type 0
ReadingUndoesWriting = ((c : Contents) → cell_of (cell_bytes c) ≡ Ok c) × ((f : Frame) → frame_of (frame_bytes f) ≡ Ok f)

-- the bytes of the 27 grants
abbrev pub grant_bytes : List ℕ → List ℕ
grant_bytes b = map (λ k. at b (k + 3 + k / 7)) (range_with_len 0 27)

-- writing what was read gives the same frame bit, the same grants, and the message's bytes wherever it specifies them
abbrev pub WritingKeeps : Type 0
WritingKeeps =
    (b : List ℕ) → ((k : ℕ) → at b k < 256) → (c : Contents) → cell_of b ≡ Ok c →
    (first_of (cell_bytes c) ≡ first_of b) × (grant_bytes (cell_bytes c) ≡ grant_bytes b)
    × (message_part (cell_bytes c) ≡ bytes_of c.message) × Kept (message_part b) c.message

-- place 5: its PON_ID, its codes for data and for PLOAM cells
abbrev pub five : Bounded 0 63
five = record { value = 5; low = lit≤ tt; high = lit≤ tt }

abbrev pub data_five : Bounded 0 252
data_five = record { value = 5; low = lit≤ tt; high = lit≤ tt }

abbrev pub ploam_five : Bounded 0 252
ploam_five = record { value = 69; low = lit≤ tt; high = lit≤ tt }

-- the serial number of vendor ABCD with the bytes 01 02 03 04
abbrev pub abcd : Number 18446744073709551615
abcd = record { value = 0x4142434401020304; high = lit≤ tt }

abbrev pub delay15392 : Delay
delay15392 = record { value = 15392; high = lit≤ tt }

-- figures worked by hand
abbrev pub Figures : Type 0
Figures =
    (check_of (replicate 6 0 ++ 0x0D ∷ []) ≡ 0x23)
    × (check_of (0x31 ∷ 0x32 ∷ 0x33 ∷ 0x34 ∷ 0x35 ∷ 0x36 ∷ 0x37 ∷ 0x38 ∷ 0x39 ∷ []) ≡ 0xF4)
    × (bytes_of (AssignPonId five abcd) ≡ 64 ∷ 5 ∷ 5 ∷ 0x41 ∷ 0x42 ∷ 0x43 ∷ 0x44 ∷ 1 ∷ 2 ∷ 3 ∷ 4 ∷ 0 ∷ [])
    × (bytes_of (RangingTime five delay15392) ≡ 5 ∷ 3 ∷ 0 ∷ 0x3C ∷ 0x20 ∷ replicate 7 0)
    × (bytes_of (GrantAllocation five (record { code = data_five; active = true }) (record { code = ploam_five; active = true })) ≡ 5 ∷ 10 ∷ 5 ∷ 1 ∷ 69 ∷ 1 ∷ replicate 6 0)
    × (downstream_of (64 ∷ 6 ∷ replicate 10 0) ≡ Ok (DeactivatePonId All))
    × (delay_of 32001 ≡ None)
