use Rattle.std.proofs.Common.{arith}
use Rattle.lalrpop_grammar_symbols.proofs.EscapeLemmas.{escaped-char}
use Rattle.lalrpop_grammar_symbols.proofs.terminal_text.is_escaped.Goals as goal

pub returns-in_default : goal.returns-in_default
returns-in_default c = λ _. escaped-char c.args.c (omega arith) (λ h. omega arith) (λ h. omega arith)
