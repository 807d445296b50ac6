-- What any lowered grammar is, so that tables can be made of it.
use Rattle.std.specs.Prelude.{◌≡◌, ◌<◌, length}
use Rattle.std.specs.List.Sorted.{IsStrictlySortedBy}
use Rattle.lalrpop_grammar_symbols.specs.contracts.terminal.TerminalStringOrd.TheImpl as terminals
use Rattle.lalrpop_grammar_symbols.specs.declared.names.NonterminalString.{NonterminalString}
use Rattle.lalrpop_grammar_symbols.specs.declared.terminal.TerminalString.{TerminalString}
use Rattle.lalrpop_grammar_language.specs.Among.{Among}
use Rattle.lalrpop_grammar_repr.specs.declared.grammar.Grammar.{Grammar}
use Rattle.lalrpop_grammar_repr.specs.declared.production.NonterminalData.{NonterminalData}
use Rattle.lalrpop_grammar_repr.specs.declared.production.Production.{Production}
use Rattle.lalrpop_grammar_repr.specs.declared.production.Symbol.TheVariants as symbols
use Rattle.lalrpop_norm_lower.specs.LoweredLists.{with_places}

-- Its terminals ascend and are numbered by their places, and each that stands on a right side is one of them. Each production
-- stands under the name of its nonterminal, and its action is one of the grammar's.
pub record IsReadyForTables (g : Grammar) : Type 0 where
  pub ascending : IsStrictlySortedBy (terminals.ghosts).cmp g.terminals.all
  pub numbered : g.terminals.bits ≡ with_places 0 g.terminals.all
  pub known : (n : NonterminalString) (d : NonterminalData) (p : Production) (t : TerminalString) → Among g.nonterminals (n, d)
      → Among d.productions p → Among p.symbols (symbols.Terminal t) → Among g.terminals.all t
  pub named : (n : NonterminalString) (d : NonterminalData) (p : Production) → Among g.nonterminals (n, d)
      → Among d.productions p → p.nonterminal ≡ n
  pub actions : (n : NonterminalString) (d : NonterminalData) (p : Production) → Among g.nonterminals (n, d)
      → Among d.productions p → p.action.0 < length g.action_fn_defns
