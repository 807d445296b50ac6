-- What stands in a map at a name or at a terminal, the map with a value put there, and values that are redirected.
use Rattle.std.specs.Prelude.{Bool, List, Option, cond}
use Rattle.std.specs.BTreeMap.{insert_entry, is_at}
use Rattle.std.specs.Map.{lookup}
use Rattle.lalrpop_grammar_symbols.specs.contracts.names.NonterminalStringOrd.TheImpl as names
use Rattle.lalrpop_grammar_symbols.specs.contracts.terminal.TerminalStringOrd.TheImpl as terminals
use Rattle.lalrpop_grammar_symbols.specs.declared.names.NonterminalString.{NonterminalString}
use Rattle.lalrpop_grammar_symbols.specs.declared.terminal.TerminalString.{TerminalString}

abbrev pub at_name : {X : Type 0} → NonterminalString → List (NonterminalString × X) → Option X
at_name n es = lookup (is_at ((names.ghosts).cmp n)) es

abbrev pub with_name : {X : Type 0} → List (NonterminalString × X) → NonterminalString → X → List (NonterminalString × X)
with_name es n x = insert_entry (names.ghosts).cmp es n x

abbrev pub at_terminal : {X : Type 0} → TerminalString → List (TerminalString × X) → Option X
at_terminal t es = lookup (is_at ((terminals.ghosts).cmp t)) es

abbrev pub with_terminal : {X : Type 0} → List (TerminalString × X) → TerminalString → X → List (TerminalString × X)
with_terminal es t x = insert_entry (terminals.ghosts).cmp es t x

-- the value, or the other in place of one that equals the first
abbrev pub swapped : {X : Type 0} → (X → X → Bool) → X → X → X → X
swapped eq from to x = cond (eq x from) to x
