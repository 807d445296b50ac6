-- What definitions see of a lowered grammar with its tokenizer, and what lowering gives of an expanded grammar; for the chain of
-- all passes.
use Rattle.std.specs.Prelude.{◌≡◌, ◌⊎◌, ◌↔◌, true, Bool, List, [], ◌++◌, Some, None, IsSomeAnd}
use Rattle.std.specs.Prelude.{codes, length, map, slice_get}
use Rattle.lalrpop_grammar_symbols.specs.Symbols.{Text, TextSpan, Terminal, Closed, Closeds}
use Rattle.lalrpop_grammar_symbols.specs.declared.names.NonterminalString.{NonterminalString}
use Rattle.lalrpop_grammar_symbols.specs.declared.terminal.TerminalString.{TerminalString}
use Rattle.lalrpop_grammar.specs.WrittenGrammar.{Action, Alternative, Attr, EntryMapping, InternEntry, Origin, Grammar, Rule}
use Rattle.lalrpop_grammar.specs.WrittenGrammar.{rules_of}
use Rattle.lalrpop_grammar_language.specs.Among.{Among}
use Rattle.lalrpop_grammar_language.specs.Enabled.{Choice, EnabledGrammar, EnabledRule, has_attr}
use Rattle.lalrpop_grammar_language.specs.Expansion.{GrammarSymbol, Nonterminal, InExpansion}
use Rattle.lalrpop_grammar_repr.specs.Maps.{at_name}
use Rattle.lalrpop_grammar_repr.specs.declared.action.ActionFnDefn.{ActionFnDefn}
use Rattle.lalrpop_grammar.specs.declared.types.type_repr.TypeRepr.{TypeRepr}
use Rattle.lalrpop_norm_theory.specs.Productions.{NamedProduction, AreProductions}
use Rattle.lalrpop_norm_tyinfer.specs.TerminalTypes.{AreTerminalTypes}
use Rattle.lalrpop_norm_tyinfer.specs.TypeFaults.{nonterminal_of}
use Rattle.lalrpop_norm_lower.specs.Definitions.{definition_of}
use Rattle.lalrpop_norm_lower.specs.NumberOrders.{AreNumberedAlong, names_in_order}
use Rattle.lalrpop_norm_chain.specs.PremiseLaws.{entries_of_items}

-- A lowered grammar: its productions, each with where it stands too, the origins and the definitions of their actions, the names of
-- its nonterminals, each with where it stands and with its attributes too, of its starts beside those of their rules, and of what is
-- inlined, its terminals, the types of its nonterminals and of its terminals, whether LALR is asked for, and the tokenizer's entries.
pub record LoweredGrammar : Type 0 where
  pub prefix : Text
  pub productions : List NamedProduction
  pub spans : List (NamedProduction × TextSpan)
  pub origins : List Origin
  pub definitions : List ActionFnDefn
  pub nonterminals : List Text
  pub places : List (Text × TextSpan)
  pub attributes : List (Text × List Attr)
  pub starts : List (Text × Text)
  pub inlined : List Text
  pub terminals : List Terminal
  pub types : List (NonterminalString × TypeRepr)
  pub terminal_types : List (TerminalString × TypeRepr)
  pub lalr : Bool
  pub entries : List InternEntry

-- the name of a rule's start
abbrev pub start_name : Text → Text → Text
start_name prefix n = prefix ++ n

-- the terminal stands on a right side, or is what the matches of an entry become
abbrev pub IsTerminalOf : LoweredGrammar → Terminal → Type 0
IsTerminalOf v t =
    ((p : NamedProduction) × Among v.productions p × Among p.symbols (GrammarSymbol.terminal t))
    ⊎ ((e : InternEntry) × Among v.entries e × (e.mapping ≡ EntryMapping.terminal t))

-- The production's action is defined: it gives the nonterminal's type, and does this.
abbrev pub HasDefinition : LoweredGrammar → NamedProduction → Action → Type 0
HasDefinition v p a =
    IsSomeAnd (at_name (nonterminal_of p.nonterminal) v.types) (λ t. slice_get v.definitions p.action ≡ Some (definition_of t a))

-- The production is that of an alternative of an expanded grammar's rule, and does what is written there.
pub record IsRuleProduction (h : EnabledGrammar) (v : LoweredGrammar) (p : NamedProduction) : Type 0 where
  pub rule : EnabledRule
  pub choice : Choice
  pub rule_there : Among h.rules rule
  pub choice_there : Among rule.choices choice
  pub nonterminal_is : p.nonterminal ≡ rule.name
  pub origin_is : slice_get v.origins p.action ≡ Some choice.origin
  pub definition : HasDefinition v p choice.action

-- it is that of a start, and has no user code
pub record IsStartProduction (h : EnabledGrammar) (v : LoweredGrammar) (p : NamedProduction) : Type 0 where
  pub name : Text
  pub start_there : InExpansion h (Nonterminal.start name)
  pub nonterminal_is : p.nonterminal ≡ start_name v.prefix name
  pub definition : HasDefinition v p Action.default

-- The production of an alternative stands there, where the alternative does.
pub record IsAlternativeSpan (g : Grammar) (v : LoweredGrammar) (p : NamedProduction) (s : TextSpan) : Type 0 where
  pub rule : Rule
  pub alternative : Alternative
  pub rule_there : Among (rules_of g.items) rule
  pub alternative_there : Among rule.alternatives alternative
  pub nonterminal_is : p.nonterminal ≡ rule.name
  pub origin_is : slice_get v.origins p.action ≡ Some alternative.origin
  pub span_is : alternative.span ≡ s

-- the production of a start stands there, where the start's rule does
pub record IsStartSpan (g : Grammar) (h : EnabledGrammar) (v : LoweredGrammar) (p : NamedProduction) (s : TextSpan) : Type 0 where
  pub rule : Rule
  pub rule_there : Among (rules_of g.items) rule
  pub start_there : InExpansion h (Nonterminal.start rule.name)
  pub nonterminal_is : p.nonterminal ≡ start_name v.prefix rule.name
  pub origin_is : slice_get v.origins p.action ≡ Some Origin.start
  pub span_is : rule.span ≡ s

-- What lowering gives of an expanded grammar h, which stands for g, by the types of its rules.
pub record IsLoweredFrom (g : Grammar) (h : EnabledGrammar) (inferred : List (NonterminalString × TypeRepr)) (v : LoweredGrammar) :
    Type 0 where
  -- a rule is named as it is, a start by the prefix too
  pub name_of : Nonterminal → Text
  pub rule_names : (n : Text) → name_of (Nonterminal.closed (Closed.call n Closeds.none None)) ≡ n
  pub start_names : (n : Text) → name_of (Nonterminal.start n) ≡ start_name v.prefix n
  pub prefix_is : v.prefix ≡ g.prefix
  pub productions : AreProductions h name_of v.productions v.origins
  -- actions are numbered along the starts and then the rules
  pub numbered : AreNumberedAlong (names_in_order g.prefix (rules_of g.items)) v.productions
  pub actions : (p : NamedProduction) → Among v.productions p → IsRuleProduction h v p ⊎ IsStartProduction h v p
  pub no_other_definition : length v.definitions ≡ length v.origins
  -- each production and each nonterminal stands somewhere
  pub each_span : map (λ e. e.0) v.spans ≡ v.productions
  pub spans : (p : NamedProduction) (s : TextSpan) → Among v.spans (p, s) → IsAlternativeSpan g v p s ⊎ IsStartSpan g h v p s
  pub each_place : map (λ e. e.0) v.places ≡ v.nonterminals
  pub rule_places : (r : Rule) (s : TextSpan) → Among (rules_of g.items) r → Among v.places (r.name, s) → s ≡ r.span
  pub start_places : (r : Rule) (s : TextSpan) → Among (rules_of g.items) r → InExpansion h (Nonterminal.start r.name)
      → Among v.places (start_name v.prefix r.name, s) → s ≡ r.span
  pub each_attributes : map (λ e. e.0) v.attributes ≡ v.nonterminals
  pub rule_attributes : (r : Rule) (as_ : List Attr) → Among (rules_of g.items) r → Among v.attributes (r.name, as_)
      → as_ ≡ r.attributes
  pub start_attributes : (r : Rule) (as_ : List Attr) → Among (rules_of g.items) r → InExpansion h (Nonterminal.start r.name)
      → Among v.attributes (start_name v.prefix r.name, as_) → as_ ≡ []
  pub nonterminals : (n : Text) → Among v.nonterminals n ↔ ((x : Nonterminal) × InExpansion h x × (name_of x ≡ n))
  pub starts : (n m : Text) → Among v.starts (n, m) ↔ (InExpansion h (Nonterminal.start n) × (m ≡ start_name v.prefix n))
  pub inlined : (r : EnabledRule) → Among h.rules r → Among v.inlined r.name ↔ (r.inlined ≡ true)
  pub no_start_inlined : (n : Text) → InExpansion h (Nonterminal.start n) → Among v.inlined (start_name v.prefix n) → ⊥
  pub no_other_inlined : (n : Text) → Among v.inlined n → Among v.nonterminals n
  pub terminals : (t : Terminal) → Among v.terminals t ↔ IsTerminalOf v t
  -- each terminal has a text's type, and the types of nonterminals are those that were inferred; a start's is its rule's
  pub terminal_types : AreTerminalTypes v.terminals v.terminal_types
  pub rule_types : (r : EnabledRule) → Among h.rules r
      → at_name (nonterminal_of r.name) v.types ≡ at_name (nonterminal_of r.name) inferred
  pub start_types : (n : Text) → InExpansion h (Nonterminal.start n)
      → at_name (nonterminal_of (start_name v.prefix n)) v.types ≡ at_name (nonterminal_of n) v.types
  pub no_other_type : (n : Text) (t : TypeRepr) → at_name (nonterminal_of n) v.types ≡ Some t
      → (at_name (nonterminal_of n) inferred ≡ Some t)
      ⊎ ((m : Text) × InExpansion h (Nonterminal.start m) × (n ≡ start_name v.prefix m))
  pub lalr : v.lalr ≡ has_attr (codes "LALR") g.attributes
  pub entries : v.entries ≡ entries_of_items g.items
