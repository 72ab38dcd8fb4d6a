-- What is said of a line that stops being one.
use Rattle.std.specs.Prelude.{ℕ, ◌*◌, min, List, ◌++◌, codes, decimal}
use Rattle.keyed.specs.declared.key.Key.{Key}
use Rattle.keyed.specs.Names.{key_name}
use Rattle.cell_line.specs.declared.wanted.Wanted.{Wanted}
use Rattle.cell_line.specs.declared.wanted.Wanted.TheVariants as wanted

abbrev pub wanted_text : Wanted → List ℕ
wanted_text wanted.Cell = codes "expected cell"
wanted_text (wanted.Flag k) = codes "expected " ++ (key_name k ++ (codes "=0 or " ++ (key_name k ++ codes "=1")))
wanted_text (wanted.Number k low high) = codes "expected " ++ (key_name k ++ (codes "=" ++ (decimal low ++ (codes ".." ++ decimal high))))
wanted_text (wanted.Digits k count) = codes "expected " ++ (key_name k ++ (codes "=" ++ (decimal count ++ codes " hex digits")))
wanted_text wanted.Address = codes "expected pon_id=0..63 or pon_id=all"
wanted_text wanted.Access = codes "expected access=deny, access=allow or access=allow_all"
wanted_text wanted.GrantList = codes "expected grants=.."
wanted_text wanted.GrantName = codes "expected a grant: 0..252, ranging, unassigned or idle"
wanted_text wanted.RunLength = codes "expected a run of 2..27 grants"
wanted_text wanted.JoinedRun = codes "expected equal grants as one run"
wanted_text wanted.AllGrants = codes "expected 27 grants"
wanted_text wanted.MessageName = codes "expected a message name"
wanted_text wanted.LineEnd = codes "expected the end of the line"

-- what is wanted after a key
abbrev pub AfterKey : Type 0
AfterKey = Key → Wanted

-- 0 or 1, a number, two digits for each of so many bytes, an address, a name
abbrev pub a_flag : AfterKey
a_flag k = wanted.Flag k

abbrev pub a_number : (low high : ℕ) → AfterKey
a_number low high k = wanted.Number k low high

abbrev pub digits : ℕ → AfterKey
digits bytes k = wanted.Digits k (min (bytes * 2) 18446744073709551615)

abbrev pub an_address : AfterKey
an_address k = wanted.Address

abbrev pub a_name : AfterKey
a_name k = wanted.MessageName
