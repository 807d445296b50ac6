-- The types of terminals: each that stands in an alternative, or that an entry of a tokenizer maps to, has a text's.
use Rattle.std.specs.Prelude.{◌≡◌, ◌≢◌, ◌⊎◌, List, [], ◌∷◌, ◌++◌, Option, Some, None, IsSomeAnd, flat_map, map}
use Rattle.std.specs.Borrow.{Bor}
use Rattle.lalrpop_grammar_symbols.specs.Symbols.{Terminal, WrittenSymbol, Sym}
use Rattle.lalrpop_grammar_symbols.specs.Views.{terminal_view}
use Rattle.lalrpop_grammar_symbols.specs.declared.terminal.TerminalString.{TerminalString}
use Rattle.lalrpop_grammar.specs.WrittenGrammar.{Alternative, EntryMapping, Grammar, InternEntry, Rule, WrittenItem, rules_of}
use Rattle.lalrpop_grammar_language.specs.Among.{Among}
use Rattle.lalrpop_grammar_repr.specs.Maps.{at_terminal}
use Rattle.lalrpop_grammar.specs.declared.types.type_repr.TypeRepr.{TypeRepr}
use Rattle.lalrpop_norm_theory.specs.Types.{text_type}
use Rattle.lalrpop_norm_tyinfer.specs.GroundViews.{type_repr_view}

-- the terminal that the symbol is, maybe named or chosen
abbrev pub inner_terminals : WrittenSymbol → List Terminal
inner_terminals (Sym.terminal p t) = t ∷ []
inner_terminals (Sym.choose p x) = inner_terminals x
inner_terminals (Sym.name p mutable n x) = inner_terminals x
inner_terminals (Sym.nonterminal p n) = []
inner_terminals (Sym.ambiguous_id p n) = []
inner_terminals (Sym.macro p n args) = []
inner_terminals (Sym.expr p xs) = []
inner_terminals (Sym.repeat p op x) = []
inner_terminals (Sym.lookahead p) = []
inner_terminals (Sym.lookbehind p) = []
inner_terminals (Sym.error p) = []

abbrev pub terminals_of_symbols : List WrittenSymbol → List Terminal
terminals_of_symbols = flat_map inner_terminals

abbrev pub terminals_of_alternatives : List Alternative → List Terminal
terminals_of_alternatives = flat_map (λ a. terminals_of_symbols a.expr)

abbrev pub terminals_of_rules : List Rule → List Terminal
terminals_of_rules = flat_map (λ r. terminals_of_alternatives r.alternatives)

-- those that the entries of a tokenizer map to
abbrev pub terminal_of_mapping : EntryMapping → List Terminal
terminal_of_mapping (EntryMapping.terminal t) = t ∷ []
terminal_of_mapping EntryMapping.skip = []

abbrev pub terminals_of_entries : List InternEntry → List Terminal
terminals_of_entries = flat_map (λ e. terminal_of_mapping e.mapping)

abbrev pub terminals_of_item : WrittenItem → List Terminal
terminals_of_item (WrittenItem.intern_token entries) = terminals_of_entries entries
terminals_of_item (WrittenItem.nonterminal r) = []
terminals_of_item (WrittenItem.match_token groups p) = []
terminals_of_item (WrittenItem.extern_token block) = []
terminals_of_item (WrittenItem.import text) = []

abbrev pub terminals_of_items : List WrittenItem → List Terminal
terminals_of_items = flat_map terminals_of_item

abbrev pub grammar_terminals : Grammar → List Terminal
grammar_terminals g = terminals_of_rules (rules_of g.items) ++ terminals_of_items g.items

abbrev pub terminal_list : Option (Bor TerminalString) → List Terminal
terminal_list None = []
terminal_list (Some t) = terminal_view t.now ∷ []

abbrev pub found_terminals : List (Bor TerminalString) → List Terminal
found_terminals = map (λ t. terminal_view t.now)

-- each of these has the type, and no other terminal has one
pub record AreTerminalTypes (ts : List Terminal) (table : List (TerminalString × TypeRepr)) : Type 0 where
  pub typed : (t : TerminalString) → Among ts (terminal_view t) → IsSomeAnd (at_terminal t table) (λ u. type_repr_view u ≡ text_type)
  pub only : (t : TerminalString) (u : TypeRepr) → at_terminal t table ≡ Some u → Among ts (terminal_view t)

abbrev pub HasTerminalTypes : Grammar → List (TerminalString × TypeRepr) → Type 0
HasTerminalTypes g table = AreTerminalTypes (grammar_terminals g) table

-- the table with the terminal's type, where it had none for it
pub record IsWithTerminal (t : TerminalString) (old new : List (TerminalString × TypeRepr)) : Type 0 where
  pub there : IsSomeAnd (at_terminal t new) (λ u. (at_terminal t old ≡ Some u) ⊎ (type_repr_view u ≡ text_type))
  pub others : (s : TerminalString) → s ≢ t → at_terminal s new ≡ at_terminal s old
