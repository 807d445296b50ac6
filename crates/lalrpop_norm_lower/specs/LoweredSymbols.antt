-- Symbols of right sides over names, and what definitions see of the lowered grammar's productions.
use Rattle.std.specs.Prelude.{List, [], ◌∷◌, ◌++◌, flat_map, map}
use Rattle.lalrpop_grammar_symbols.specs.Symbols.{Text, Sym, WrittenSymbol, Closed}
use Rattle.lalrpop_grammar_symbols.specs.Views.{terminal_view}
use Rattle.lalrpop_grammar_symbols.specs.declared.names.NonterminalString.{NonterminalString}
use Rattle.lalrpop_grammar_language.specs.Expansion.{GrammarSymbol, Nonterminal}
use Rattle.lalrpop_grammar_repr.specs.declared.production.NonterminalData.{NonterminalData}
use Rattle.lalrpop_grammar_repr.specs.declared.production.Production.{Production}
use Rattle.lalrpop_grammar_repr.specs.declared.production.Symbol.{Symbol}
use Rattle.lalrpop_grammar_repr.specs.declared.production.Symbol.TheVariants as symbols
use Rattle.lalrpop_norm_theory.specs.Productions.{NamedProduction}

-- what a symbol of an expanded grammar is on a right side: a rule or a terminal, maybe named or chosen; there is no other
abbrev pub lowered_symbol : WrittenSymbol → List (GrammarSymbol Text)
lowered_symbol (Sym.terminal p t) = GrammarSymbol.terminal t ∷ []
lowered_symbol (Sym.nonterminal p n) = GrammarSymbol.nonterminal n ∷ []
lowered_symbol (Sym.choose p x) = lowered_symbol x
lowered_symbol (Sym.name p mutable n x) = lowered_symbol x
lowered_symbol (Sym.ambiguous_id p n) = []
lowered_symbol (Sym.macro p n args) = []
lowered_symbol (Sym.expr p xs) = []
lowered_symbol (Sym.repeat p op x) = []
lowered_symbol (Sym.lookahead p) = []
lowered_symbol (Sym.lookbehind p) = []
lowered_symbol (Sym.error p) = []

abbrev pub lowered_side : List WrittenSymbol → List (GrammarSymbol Text)
lowered_side = flat_map lowered_symbol

-- the names of the lowered grammar's nonterminals: a start has the prefix before the name of its rule, a rule has its own
abbrev pub lowered_name : Text → Nonterminal → Text
lowered_name prefix (Nonterminal.start n) = prefix ++ n
lowered_name prefix (Nonterminal.closed (Closed.call n args level)) = n
lowered_name prefix (Nonterminal.closed (Closed.terminal t)) = []
lowered_name prefix (Nonterminal.closed (Closed.repeat op x)) = []
lowered_name prefix (Nonterminal.closed (Closed.group xs)) = []
lowered_name prefix (Nonterminal.closed (Closed.choose x)) = []
lowered_name prefix (Nonterminal.closed (Closed.name m n x)) = []
lowered_name prefix (Nonterminal.closed Closed.lookahead) = []
lowered_name prefix (Nonterminal.closed Closed.lookbehind) = []
lowered_name prefix (Nonterminal.closed Closed.faulty) = []

abbrev pub named_symbol : Symbol → GrammarSymbol Text
named_symbol (symbols.Nonterminal n) = GrammarSymbol.nonterminal n.0
named_symbol (symbols.Terminal t) = GrammarSymbol.terminal (terminal_view t)

abbrev pub named_production : Production → NamedProduction
named_production p = record { nonterminal = p.nonterminal.0; symbols = map named_symbol p.symbols; action = p.action.0 }

abbrev pub productions_at : NonterminalString × NonterminalData → List NamedProduction
productions_at e = map named_production e.1.productions

-- The productions of a lowered grammar: those of each nonterminal in their order, nonterminals in the order of their names.
abbrev pub named_productions : List (NonterminalString × NonterminalData) → List NamedProduction
named_productions = flat_map productions_at
