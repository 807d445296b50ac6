-- The orders of names and of terminals tell equal ones; for the maps of the lowered grammar.
use Rattle.std.proofs.Common.{◌≡◌, ap, refl}
use Rattle.std.specs.Bool.{Decides}
use Rattle.std.specs.Ordering.{is_eq}
use Rattle.lalrpop_grammar_symbols.specs.contracts.names.NonterminalStringOrd.TheImpl as names
use Rattle.lalrpop_grammar_symbols.specs.contracts.terminal.TerminalLiteralOrd.TheImpl as literals
use Rattle.lalrpop_grammar_symbols.specs.contracts.terminal.TerminalStringOrd.TheImpl as terminals
use Rattle.lalrpop_grammar_symbols.specs.declared.names.NonterminalString.{NonterminalString}
use Rattle.lalrpop_grammar_symbols.specs.declared.terminal.TerminalLiteral.{TerminalLiteral}
use Rattle.lalrpop_grammar_symbols.specs.declared.terminal.TerminalLiteral.TheVariants as literal
use Rattle.lalrpop_grammar_symbols.specs.declared.terminal.TerminalString.{TerminalString}
use Rattle.lalrpop_grammar_symbols.specs.declared.terminal.TerminalString.TheVariants as terminal
use Rattle.lalrpop_norm_tyinfer.specs.TypeFaults.{nonterminal_of}
use Rattle.lalrpop_grammar_symbols.proofs.ComparedLemmas.{same_text}

-- the comparison of names of nonterminals finds them equal exactly where they are
pub equal_names : (a b : NonterminalString) → Decides (is_eq ((names.ghosts).cmp a b)) (a ≡ b)
equal_names a b = (λ e. ap nonterminal_of ((same_text a.0 b.0).0 e), λ e. (same_text a.0 b.0).1 (ap (λ n. n.0) e))

equal_literals : (a b : TerminalLiteral) → Decides (is_eq ((literals.ghosts).cmp a b)) (a ≡ b)
equal_literals (literal.Quoted s) (literal.Quoted t) =
    (λ e. ap literal.Quoted ((same_text s t).0 e), λ e. (same_text s t).1 (let same : s ≡ t = cc in same))
equal_literals (literal.Quoted s) (literal.Regex t) = (λ e. cc, λ e. cc)
equal_literals (literal.Regex s) (literal.Quoted t) = (λ e. cc, λ e. cc)
equal_literals (literal.Regex s) (literal.Regex t) =
    (λ e. ap literal.Regex ((same_text s t).0 e), λ e. (same_text s t).1 (let same : s ≡ t = cc in same))

-- the comparison of terminals finds them equal exactly where they are
pub equal_terminals : (a b : TerminalString) → Decides (is_eq ((terminals.ghosts).cmp a b)) (a ≡ b)
equal_terminals (terminal.Literal l) (terminal.Literal m) =
    (λ e. ap terminal.Literal ((equal_literals l m).0 e), λ e. (equal_literals l m).1 (let same : l ≡ m = cc in same))
equal_terminals (terminal.Literal l) (terminal.Bare n) = (λ e. cc, λ e. cc)
equal_terminals (terminal.Literal l) terminal.Error = (λ e. cc, λ e. cc)
equal_terminals (terminal.Bare n) (terminal.Literal l) = (λ e. cc, λ e. cc)
equal_terminals (terminal.Bare m) (terminal.Bare n) =
    (λ e. ap terminal.Bare ((same_text m n).0 e), λ e. (same_text m n).1 (let same : m ≡ n = cc in same))
equal_terminals (terminal.Bare n) terminal.Error = (λ e. cc, λ e. cc)
equal_terminals terminal.Error (terminal.Literal l) = (λ e. cc, λ e. cc)
equal_terminals terminal.Error (terminal.Bare n) = (λ e. cc, λ e. cc)
equal_terminals terminal.Error terminal.Error = (λ e. refl, λ e. refl)
