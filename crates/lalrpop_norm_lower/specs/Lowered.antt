-- What the lowered grammar of an expanded one is.
use Rattle.std.specs.Prelude.{◌≡◌, ◌⊎◌, ◌↔◌, ◌<◌, Bool, true, List, [], ◌∷◌, ◌++◌, IsSomeAnd, Option}
use Rattle.std.specs.Prelude.{codes, Some, None, is_some, length, map, option_map, slice_get}
use Rattle.std.specs.List.Sorted.{IsStrictlySortedBy}
use Rattle.lalrpop_grammar_symbols.specs.Symbols.{Text}
use Rattle.lalrpop_grammar_symbols.specs.Views.{span_view, terminal_view}
use Rattle.lalrpop_grammar_symbols.specs.contracts.terminal.TerminalStringOrd.TheImpl as terminals
use Rattle.lalrpop_grammar_symbols.specs.declared.names.NonterminalString.{NonterminalString}
use Rattle.lalrpop_grammar_symbols.specs.declared.terminal.TerminalString.{TerminalString}
use Rattle.lalrpop_grammar.specs.Items.{first_in, intern_in}
use Rattle.lalrpop_grammar.specs.Views.{attribute_view, origin_view}
use Rattle.lalrpop_grammar.specs.WrittenGrammar.{Action, Alternative, Grammar, Origin, Rule, rules_of}
use Rattle.lalrpop_grammar.specs.declared.grammar.Grammar as written
use Rattle.lalrpop_grammar.specs.declared.intern_token.InternToken.{InternToken}
use Rattle.lalrpop_grammar.specs.declared.intern_token.MatchEntry.{MatchEntry}
use Rattle.lalrpop_grammar_language.specs.Among.{Among}
use Rattle.lalrpop_grammar_language.specs.Enabled.{Choice, EnabledGrammar, EnabledRule, has_attr}
use Rattle.lalrpop_grammar_language.specs.Expansion.{GrammarSymbol, InExpansion, Nonterminal}
use Rattle.lalrpop_grammar_repr.specs.Algorithms.{has_lalr}
use Rattle.lalrpop_grammar_repr.specs.Maps.{at_name, at_terminal}
use Rattle.lalrpop_grammar_repr.specs.Productions.{IsAlone}
use Rattle.lalrpop_grammar_repr.specs.declared.production.NonterminalData.{NonterminalData}
use Rattle.lalrpop_grammar_repr.specs.declared.production.Production.{Production}
use Rattle.lalrpop_grammar_repr.specs.declared.terminal_set.TerminalSet.{TerminalSet}
use Rattle.lalrpop_grammar_repr.specs.declared.types.Types.{Types}
use Rattle.lalrpop_grammar.specs.declared.types.type_repr.TypeRepr.{TypeRepr}
use Rattle.lalrpop_norm_theory.specs.Between.{grammar_between}
use Rattle.lalrpop_norm_theory.specs.Inlined.{IsInlined}
use Rattle.lalrpop_norm_theory.specs.Premises.{IsExpanded}
use Rattle.lalrpop_norm_theory.specs.Productions.{AreProductions, IsOriginBefore, NamedProduction}
use Rattle.lalrpop_norm_tyinfer.specs.TerminalTypes.{HasTerminalTypes, grammar_terminals}
use Rattle.lalrpop_norm_tyinfer.specs.TypeFaults.{nonterminal_of}
use Rattle.lalrpop_norm_lower.specs.Definitions.{definition_of, type_in_table}
use Rattle.lalrpop_norm_lower.specs.LoweredLists.{gets_start, with_places}
use Rattle.lalrpop_norm_lower.specs.LoweredSymbols.{lowered_name, lowered_side, named_productions, named_symbol}
use Rattle.lalrpop_norm_lower.specs.NumberOrders.{AreNumberedAlong, names_in_order}
use Rattle.lalrpop_norm_lower.specs.declared.lowering.Normalized.{Normalized}

-- what lowering rests on

-- the later of two alternatives has the later choice
abbrev pub AreChoicesInOrder : List Choice → Type 0
AreChoicesInOrder [] = Unit {0}
AreChoicesInOrder (c ∷ cs) = ((later : Choice) → Among cs later → IsOriginBefore c.origin later.origin) × AreChoicesInOrder cs

-- An expanded grammar in which each rule's alternatives stand in the order of their origins and no rule's name begins with
-- the prefix, with types for its rules and its terminals.
pub record IsLowerable (finds : Text → Text → Option Bool) (w : Grammar) (types : Types) : Type 0 where
  pub expanded : IsExpanded (grammar_between finds w)
  pub ordered : (r : EnabledRule) → Among (grammar_between finds w).rules r → AreChoicesInOrder r.choices
  pub free_prefix : (r : Rule) (n : Text) → Among (rules_of w.items) r → r.name ≡ w.prefix ++ n → ⊥
  pub terminals : HasTerminalTypes w types.terminal_types
  pub typed : (r : Rule) → Among (rules_of w.items) r → is_some (at_name (nonterminal_of r.name) types.nonterminal_types) ≡ true

-- what is made of rules

-- the name of a rule's start
abbrev pub start_of : Grammar → Rule → NonterminalString
start_of w r = nonterminal_of (w.prefix ++ r.name)

-- The production is that of an alternative: its action stands for the alternative's choice, gives the rule's type, and does
-- what is written there.
pub record IsLoweredAlternative (made : Normalized) (table : List (NonterminalString × TypeRepr)) (r : Rule) (a : Alternative)
    (p : Production) : Type 0 where
  pub nonterminal_is : p.nonterminal ≡ nonterminal_of r.name
  pub symbols_are : map named_symbol p.symbols ≡ lowered_side a.expr
  pub span_is : span_view p.span ≡ a.span
  pub origin_is : option_map origin_view (slice_get made.origins p.action.0) ≡ Some a.origin
  pub definition_is : slice_get made.grammar.action_fn_defns p.action.0
      ≡ Some (definition_of (type_in_table table r.name) a.action)

-- one production for each alternative, in order
abbrev pub AreLoweredAlternatives : Normalized → List (NonterminalString × TypeRepr) → Rule → List Alternative → List Production
    → Type 0
AreLoweredAlternatives made table r [] [] = Unit {0}
AreLoweredAlternatives made table r [] (p ∷ ps) = ⊥
AreLoweredAlternatives made table r (a ∷ rest) [] = ⊥
AreLoweredAlternatives made table r (a ∷ rest) (p ∷ ps) =
    IsLoweredAlternative made table r a p × AreLoweredAlternatives made table r rest ps

pub record IsLoweredRule (made : Normalized) (table : List (NonterminalString × TypeRepr)) (r : Rule) (d : NonterminalData) :
    Type 0 where
  pub name_is : d.name ≡ nonterminal_of r.name
  pub attributes_are : map attribute_view d.attributes ≡ r.attributes
  pub span_is : span_view d.span ≡ r.span
  pub productions_are : AreLoweredAlternatives made table r r.alternatives d.productions

-- The start of a rule: it has the one production of the rule alone, whose action is the default.
pub record IsLoweredStart (made : Normalized) (table : List (NonterminalString × TypeRepr)) (w : Grammar) (r : Rule)
    (d : NonterminalData) : Type 0 where
  pub name_is : d.name ≡ start_of w r
  pub attributes_are : d.attributes ≡ []
  pub span_is : span_view d.span ≡ r.span
  pub production : Production
  pub productions_are : d.productions ≡ production ∷ []
  pub nonterminal_is : production.nonterminal ≡ start_of w r
  pub symbols_are : map named_symbol production.symbols ≡ GrammarSymbol.nonterminal r.name ∷ []
  pub production_span_is : span_view production.span ≡ r.span
  pub origin_is : option_map origin_view (slice_get made.origins production.action.0) ≡ Some Origin.start
  pub definition_is : slice_get made.grammar.action_fn_defns production.action.0
      ≡ Some (definition_of (type_in_table table r.name) Action.default)

-- the rule has that start
pub record HasStartNamed (w : Grammar) (r : Rule) (n : NonterminalString) : Type 0 where
  pub rule : Among (rules_of w.items) r
  pub starts : gets_start r ≡ true
  pub name_is : n ≡ start_of w r

-- the nonterminal is a rule or a start
abbrev pub IsLoweredName : Grammar → NonterminalString → Type 0
IsLoweredName w n =
    ((r : Rule) × Among (rules_of w.items) r × (n ≡ nonterminal_of r.name)) ⊎ ((r : Rule) × HasStartNamed w r n)

-- the nonterminals: one for each rule and each start, and no other; no start stands on a right side
pub record AreLoweredNonterminals (w : Grammar) (table : List (NonterminalString × TypeRepr)) (made : Normalized) : Type 0 where
  pub rules : (r : Rule) → Among (rules_of w.items) r
      → IsSomeAnd (at_name (nonterminal_of r.name) made.grammar.nonterminals) (IsLoweredRule made table r)
  pub starts : (r : Rule) → Among (rules_of w.items) r → gets_start r ≡ true
      → IsSomeAnd (at_name (start_of w r) made.grammar.nonterminals) (IsLoweredStart made table w r)
  pub no_other : (n : NonterminalString) (d : NonterminalData) → at_name n made.grammar.nonterminals ≡ Some d → IsLoweredName w n
  pub alone : (r : Rule) → Among (rules_of w.items) r → IsAlone (start_of w r) made.grammar.nonterminals

-- its attributes say that it is inlined
abbrev pub says_inline : NonterminalData → Bool
says_inline d = has_attr (codes "inline") (map attribute_view d.attributes)

-- each nonterminal of the expansion is there, and says so exactly where it is inlined
abbrev pub AreInlinedAsMarked : EnabledGrammar → Text → List (NonterminalString × NonterminalData) → Type 0
AreInlinedAsMarked g prefix nonterminals =
    (x : Nonterminal) → InExpansion g x
    → IsSomeAnd (at_name (nonterminal_of (lowered_name prefix x)) nonterminals) (λ d. (says_inline d ≡ true) ↔ IsInlined g x)

-- which starts are listed, by the names of their rules
pub record AreListedStarts (w : Grammar) (listed : List (NonterminalString × NonterminalString)) : Type 0 where
  pub every : (r : Rule) → Among (rules_of w.items) r → gets_start r ≡ true
      → at_name (nonterminal_of r.name) listed ≡ Some (start_of w r)
  pub no_other : (n start : NonterminalString) → at_name n listed ≡ Some start
      → (r : Rule) × HasStartNamed w r start × (n ≡ nonterminal_of r.name)

-- The types that were given, and those of starts: each has the type of its rule.
pub record AreLoweredTypes (w : Grammar) (types made : Types) : Type 0 where
  pub terminals : made.terminal_types ≡ types.terminal_types
  pub starts : (r : Rule) → Among (rules_of w.items) r → gets_start r ≡ true
      → at_name (start_of w r) made.nonterminal_types ≡ at_name (nonterminal_of r.name) types.nonterminal_types
  pub others : (n : NonterminalString) → ((r : Rule) → HasStartNamed w r n → ⊥)
      → at_name n made.nonterminal_types ≡ at_name n types.nonterminal_types

-- The terminals of right sides, and those that entries map to: ascending, each once, and numbered by their places.
pub record AreLoweredTerminals (w : Grammar) (set : TerminalSet) : Type 0 where
  pub ascending : IsStrictlySortedBy (terminals.ghosts).cmp set.all
  pub members : (t : TerminalString) → Among set.all t ↔ Among (grammar_terminals w) (terminal_view t)
  pub numbered : set.bits ≡ with_places 0 set.all

-- the symbol of a right side is one of the grammar's, and has a type
abbrev pub IsLoweredSymbol : Normalized → GrammarSymbol Text → Type 0
IsLoweredSymbol made (GrammarSymbol.nonterminal n) = is_some (at_name (nonterminal_of n) made.grammar.nonterminals) ≡ true
IsLoweredSymbol made (GrammarSymbol.terminal t) =
    (u : TerminalString) × (terminal_view u ≡ t) × Among made.grammar.terminals.all u

-- each symbol of a production is one of the grammar's, and its action has a definition
pub record AreSidesThere (made : Normalized) : Type 0 where
  pub symbols : (p : NamedProduction) (x : GrammarSymbol Text) → Among (named_productions made.grammar.nonterminals) p
      → Among p.symbols x → IsLoweredSymbol made x
  pub actions : (p : NamedProduction) → Among (named_productions made.grammar.nonterminals) p
      → p.action < length made.grammar.action_fn_defns
  pub as_many : length made.grammar.action_fn_defns ≡ length made.origins

-- each nonterminal and each terminal has a type
pub record HasTypesOfAll (made : Normalized) : Type 0 where
  pub nonterminals : (n : NonterminalString) (d : NonterminalData) → at_name n made.grammar.nonterminals ≡ Some d
      → is_some (at_name n made.grammar.types.nonterminal_types) ≡ true
  pub terminals : (t : TerminalString) → Among made.grammar.terminals.all t
      → is_some (at_terminal t made.grammar.types.terminal_types) ≡ true

-- The lowered grammar of an expanded one.
pub record IsLowered (g : EnabledGrammar) (w : Grammar) (types : Types) (made : Normalized) : Type 0 where
  pub productions : AreProductions g (lowered_name w.prefix) (named_productions made.grammar.nonterminals)
      (map origin_view made.origins)
  -- actions are numbered along the starts and then the rules
  pub numbered : AreNumberedAlong (names_in_order w.prefix (rules_of w.items)) (named_productions made.grammar.nonterminals)
  pub nonterminals : AreLoweredNonterminals w types.nonterminal_types made
  pub inlined : AreInlinedAsMarked g w.prefix made.grammar.nonterminals
  pub starts : AreListedStarts w made.grammar.start_nonterminals
  pub types_are : AreLoweredTypes w types made.grammar.types
  pub typed : HasTypesOfAll made
  pub terminals : AreLoweredTerminals w made.grammar.terminals
  pub sides : AreSidesThere made

-- the entries of the first tokenizer, if there is one
abbrev pub entries_or_none : Option InternToken → List MatchEntry
entries_or_none None = []
entries_or_none (Some tokens) = tokens.match_entries

-- what is kept of any grammar: its prefix, its algorithm and the entries of its tokenizer
pub record KeepsTheRest (g : written.Grammar) (made : Normalized) : Type 0 where
  pub prefix : made.grammar.prefix ≡ g.prefix
  pub algorithm : made.grammar.algorithm.lalr ≡ has_lalr g.attributes
  pub entries : made.entries ≡ entries_or_none (first_in intern_in g.items)
