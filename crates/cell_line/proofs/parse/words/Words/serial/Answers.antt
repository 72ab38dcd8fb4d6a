use Rattle.std.proofs.Common.{rules, subst, ◌≡◌, arith, ap, ◌∙◌, sym, length, get_or, ℕ, ◌<◌}
use Rattle.std.proofs.lemmas.Nat.{be_bytes_8}
use Rattle.field.specs.Bytes.{number_bytes}
use Rattle.field.proofs.Bounds.{capped-value}
use Rattle.keyed.specs.Fields.{octets}
use Rattle.keyed.specs.declared.key.Key.TheVariants as key
use Rattle.keyed.specs.Words.{FirstWord}
use Rattle.cell_line.specs.Line.{field_word, left}
use Rattle.cell_line.proofs.parse.words.Words.serial.Goals as goal

pub returns : goal.returns
returns c =
    let eight : length c.in_ok-bytes.bytes ≡ 8 = search rules in
    let small : (i : ℕ) → get_or c.in_ok-bytes.bytes i 0 < 256 = search rules in
    let again : number_bytes c.from_be_bytes.result ≡ c.in_ok-bytes.bytes = be_bytes_8 c.in_ok-bytes.bytes c.from_be_bytes.result eight small c.from_be_bytes.ensures in
    let value : c.saturating.result.value ≡ c.from_be_bytes.result =
    ap (λ n. n.value) c.saturating.ensures ∙ capped-value 18446744073709551615 c.from_be_bytes.result (omega arith) in
    subst (λ bytes. FirstWord (left c.args.self.now) (field_word (octets key.Serial bytes)) (left c.field.new.self)) (sym (ap number_bytes value ∙ again)) c.in_ok-bytes.ensures
