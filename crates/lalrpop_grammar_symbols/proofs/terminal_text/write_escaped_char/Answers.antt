use Rattle.std.proofs.Common.{ap, ◌∙◌, arith, rules}
use lib.Utf8.{encode}
use Rattle.lalrpop_grammar_symbols.specs.Texts.{escape_byte, escape}
use Rattle.lalrpop_grammar_symbols.proofs.EscapeLemmas.{escaped-ascii, escaped-char, escaped_byte-control}
use Rattle.lalrpop_grammar_symbols.proofs.terminal_text.write_escaped_char.Goals as goal

pub returns-in-34 : goal.returns-in-34
unfolding escape_byte encode
returns-in-34 g c = rw (ap (λ x. escape (encode x)) c.in-34.is) (search rules)

pub returns-in-92 : goal.returns-in-92
unfolding escape_byte encode
returns-in-92 g c = rw (ap (λ x. escape (encode x)) c.in-92.is) (search rules)

pub returns-in-10 : goal.returns-in-10
unfolding escape_byte encode
returns-in-10 g c = rw (ap (λ x. escape (encode x)) c.in-10.is) (search rules)

pub returns-in-13 : goal.returns-in-13
unfolding escape_byte encode
returns-in-13 g c = rw (ap (λ x. escape (encode x)) c.in-13.is) (search rules)

pub returns-in-9 : goal.returns-in-9
unfolding escape_byte encode
returns-in-9 g c = rw (ap (λ x. escape (encode x)) c.in-9.is) (search rules)

pub returns-in-0-to-31 : goal.returns-in-0-to-31
returns-in-0-to-31 g c =
    let e = escaped-ascii c.args.c (omega arith)
    ∙ escaped_byte-control c.args.c (omega arith) (λ h. omega arith) (λ h. omega arith) (λ h. omega arith) in
    rw e (search rules)

pub returns-in_default : goal.returns-in_default
returns-in_default g c =
    let e = escaped-char c.args.c (omega arith) (λ h. omega arith) (λ h. omega arith) in
    rw e (search rules)
