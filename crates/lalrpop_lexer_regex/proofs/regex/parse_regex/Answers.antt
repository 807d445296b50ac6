use Rattle.std.proofs.Common.{◌≡◌, ◌-◌, length, ap, ◌∙◌, arith}
use Rattle.std.specs.Prelude.{encode_utf8_all}
use Rattle.std.proofs.lemmas.Str.{encodes-chars}
use Rattle.lalrpop_lexer_regex.proofs.PlaceLemmas.{encodes_within}
use Rattle.lalrpop_lexer_regex.proofs.regex.parse_regex.Goals as goal

pub fault_byte-at-requires : goal.fault_byte-at-requires
fault_byte-at-requires c =
    let e : encode_utf8_all c.deref-in-Err-Fault.result.now ≡ c.args.text.now =
    ap encode_utf8_all (c.deref-in-Err-Fault.ensures.value ∙ c.in-Ok.ensures) ∙ encodes-chars c.args.text.now c.utf8.text in
    omega (arith, ap length e)

pub prove-unreachable-requires : goal.prove-unreachable-requires
prove-unreachable-requires c =
    let cs = c.deref-in-Err-Fault.result.now in
    let e : encode_utf8_all cs ≡ c.args.text.now =
    ap encode_utf8_all (c.deref-in-Err-Fault.ensures.value ∙ c.in-Ok.ensures) ∙ encodes-chars c.args.text.now c.utf8.text in
    omega (arith, ap length e, encodes_within cs (length cs - c.in-Err-Fault.left))
