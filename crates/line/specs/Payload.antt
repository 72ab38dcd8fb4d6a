-- Where a frame's 96 bytes have its grants and its messages.
use Rattle.std.specs.Prelude.{ℕ, ◌+◌, ◌-◌, ◌*◌, ◌/◌, cond, List, nat_le}
use Rattle.std.specs.List.{between}
use Rattle.field.specs.Bytes.{at}
use Rattle.cell.specs.Reader.{message_part}

-- the payload of cell j, 0 or 1
abbrev pub payload : (j : ℕ) → List ℕ → List ℕ
payload j b = between (48 * j) (48 * j + 48) b

-- the k-th grant of a payload, from 0: seven to a group, and a check byte after each group
abbrev pub grant_byte : List ℕ → ℕ → ℕ
grant_byte b k = at b (k + 3 + k / 7)

-- the grant of X: the first cell has X 1 to 27
abbrev pub granted_byte : List ℕ → ℕ → ℕ
granted_byte b X = cond (nat_le X 27) (grant_byte (payload 0 b) (X - 1)) (grant_byte (payload 1 b) (X - 28))

-- the twelve bytes of cell j's message
abbrev pub message_bytes : (j : ℕ) → List ℕ → List ℕ
message_bytes j b = message_part (payload j b)
