use Rattle.std.proofs.Common.{ap, arith, rules}
use lib.Utf8.{encode}
use Rattle.json.specs.Print.{escape_byte, escape}
use Rattle.lalrpop_json_values.proofs.EscapeLemmas.{escaped-ascii, escaped-char}
use Rattle.lalrpop_json_values.proofs.json_text.write_escaped_char.Goals as goal

pub returns-in-34 : goal.returns-in-34
unfolding escape_byte encode
returns-in-34 g c = rw (ap (λ x. escape (encode x)) c.in-34.is) (search rules)

pub returns-in-92 : goal.returns-in-92
unfolding escape_byte encode
returns-in-92 g c = rw (ap (λ x. escape (encode x)) c.in-92.is) (search rules)

pub returns-in-0-to-31 : goal.returns-in-0-to-31
returns-in-0-to-31 g c = rw (escaped-ascii c.args.c (omega arith)) (search rules)

pub returns-in_default : goal.returns-in_default
returns-in_default g c =
    let e = escaped-char c.args.c (omega arith) (λ h. omega arith) (λ h. omega arith) in
    rw e (search rules)
