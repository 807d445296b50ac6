-- Which terminals have a spelling as that of a token: for the function that tells it.
use Rattle.std.proofs.Common.{◌≡◌, ◌↔◌, ℕ, List, IsTrue, true, refl}
use Rattle.lalrpop_grammar_symbols.specs.declared.terminal.TerminalLiteral.{TerminalLiteral}
use Rattle.lalrpop_grammar_symbols.specs.declared.terminal.TerminalString.{TerminalString}
use Rattle.lalrpop_grammar_symbols.specs.declared.terminal.TerminalString.TheVariants as terminals
use Rattle.lalrpop_json_values.specs.Scalars.{is_name}
use Rattle.lalrpop_json_symbols.specs.Readable.{IsReadableTerminal}

abbrev Parts : TerminalString → Type 0
Parts (terminals.Literal l) = Unit {0}
Parts (terminals.Bare n) = IsTrue (is_name n)
Parts terminals.Error = ⊥

terminal_parts : (t : TerminalString) → IsReadableTerminal t → Parts t
terminal_parts t (IsReadableTerminal.literal l e) = rw e tt
terminal_parts t (IsReadableTerminal.bare n e is) = rw e is

-- a literal has a spelling as a token's terminal
pub of_literal : (t : TerminalString) (l : TerminalLiteral) → t ≡ terminals.Literal l → IsTrue true ↔ IsReadableTerminal t
of_literal t l e = ((λ is. IsReadableTerminal.literal l e), (λ is. refl))

-- a bare name has a spelling as a token's terminal where its text is a name
pub of_bare : (t : TerminalString) (n : List ℕ) → t ≡ terminals.Bare n → IsTrue (is_name n) ↔ IsReadableTerminal t
of_bare t n e = (
  (λ is. IsReadableTerminal.bare n e is),
  (λ is. let parts : Parts (terminals.Bare n) = rw e at (terminal_parts t is) in parts),
)
