-- What a normalized grammar is, over the written grammar and the features; and that the passes one after the other make one.
use Rattle.std.specs.Prelude.{◌≡◌, ◌↔◌, Bool, List, Option, Some, None, IsSomeAnd, codes, length, map}
use Rattle.lalrpop_grammar_symbols.specs.Symbols.{Text, TextSpan, Terminal, Closed, Closeds}
use Rattle.lalrpop_grammar_symbols.specs.declared.names.NonterminalString.{NonterminalString}
use Rattle.lalrpop_grammar.specs.WrittenGrammar.{Action, Attr, Grammar}
use Rattle.lalrpop_grammar_language.specs.Among.{Among}
use Rattle.lalrpop_grammar_language.specs.Enabled.{EnabledGrammar, EnabledRule, IsRule, has_attr, enabled_grammar}
use Rattle.lalrpop_grammar_language.specs.Levels.{loosest}
use Rattle.lalrpop_grammar_language.specs.Expansion.{GrammarSymbol, Nonterminal, InExpansion, RightSide, WrittenLabel}
use Rattle.lalrpop_grammar_repr.specs.Maps.{at_name}
use Rattle.lalrpop_grammar.specs.declared.types.type_repr.TypeRepr.{TypeRepr}
use Rattle.lalrpop_lexer_pattern.specs.Wins.{HasNoTie}
use Rattle.lalrpop_norm_theory.specs.Keys.{leveled_key_text}
use Rattle.lalrpop_norm_theory.specs.NamesByUse.{IsNamingByUse}
use Rattle.lalrpop_norm_theory.specs.Productions.{NamedProduction, AreProductions, StandsForLabel}
use Rattle.lalrpop_norm_theory.specs.Inlined.{IsInlined}
use Rattle.lalrpop_norm_theory.specs.Types.{GroundType, IsGrounded}
use Rattle.lalrpop_norm_token_check.specs.Blocks.{block_groups}
use Rattle.lalrpop_norm_token_check.specs.Patterns.{first_refused, entry_patterns, entry_precedences}
use Rattle.lalrpop_norm_tyinfer.specs.GroundViews.{type_repr_view}
use Rattle.lalrpop_norm_tyinfer.specs.TerminalTypes.{AreTerminalTypes}
use Rattle.lalrpop_norm_tyinfer.specs.TypeFaults.{nonterminal_of}
use Rattle.lalrpop_norm_chain.specs.UsedLiterals.{AreFullExpansionEntries}
use Rattle.lalrpop_norm_chain.specs.ActionOrders.{IsActionOrder}
use Rattle.lalrpop_norm_chain.specs.Actions.{ChoiceDoes}
use Rattle.lalrpop_norm_chain.specs.Lowered.{LoweredGrammar, start_name, HasDefinition, IsTerminalOf}
use Rattle.lalrpop_norm_chain.specs.Chains.{IsChain}
use Rattle.lalrpop_norm_chain.specs.OwnAttributes.{HasOwnAttributes}
use Rattle.lalrpop_norm_chain.specs.Spans.{HasOwnSpan, StandsByChoice}

-- The table has the type of each nonterminal by its name, and no other: the one that it can have, and a start its rule's.
pub record HasExpansionTypes (g : EnabledGrammar) (name_of : Nonterminal → Text) (table : List (NonterminalString × TypeRepr)) :
    Type 0 where
  pub typed : (x : Closed) → InExpansion g (Nonterminal.closed x)
      → IsSomeAnd (at_name (nonterminal_of (name_of (Nonterminal.closed x))) table) (λ t. IsGrounded g x (type_repr_view t))
  pub once : (x : Closed) (t u : GroundType) → InExpansion g (Nonterminal.closed x) → IsGrounded g x t → IsGrounded g x u → t ≡ u
  pub starts : (n : Text) (r : EnabledRule) → InExpansion g (Nonterminal.start n) → IsRule g n r
      → at_name (nonterminal_of (name_of (Nonterminal.start n))) table
      ≡ at_name (nonterminal_of (name_of (Nonterminal.closed (Closed.call n Closeds.none (loosest r))))) table
  pub no_other : (n : Text) (t : TypeRepr) → at_name (nonterminal_of n) table ≡ Some t
      → (x : Nonterminal) × InExpansion g x × (name_of x ≡ n)

-- Each production's action is defined: it gives the nonterminal's type, has user code exactly where the written choice has some,
-- that code, and may fail exactly where that says so. There is no other definition.
pub record HasWrittenActions (g : EnabledGrammar) (name_of : Nonterminal → Text) (v : LoweredGrammar) : Type 0 where
  pub defined : (p : NamedProduction) (label : WrittenLabel) (side : RightSide) → Among v.productions p
      → StandsForLabel g name_of v.origins p label side → (a : Action) × ChoiceDoes g label.head label.choice a × HasDefinition v p a
  pub no_other : length v.definitions ≡ length v.origins

-- Each production stands somewhere, that of a written alternative where the alternative does, another one where its nonterminal does.
-- Each nonterminal stands somewhere, that of a rule where the rule does, and that of a repeat, a group or a lookaround where it is met.
pub record HasWrittenSpans (finds : Text → Text → Option Bool) (features : List Text) (w : Grammar) (g : EnabledGrammar)
    (name_of : Nonterminal → Text) (v : LoweredGrammar) : Type 0 where
  pub each : map (λ e. e.0) v.spans ≡ v.productions
  pub stands : (p : NamedProduction) (label : WrittenLabel) (side : RightSide) (s own : TextSpan) → Among v.spans (p, s)
      → StandsForLabel g name_of v.origins p label side → Among v.places (p.nonterminal, own)
      → StandsByChoice features w own label.choice s
  pub each_place : map (λ e. e.0) v.places ≡ v.nonterminals
  pub places : (x : Nonterminal) (own : TextSpan) → InExpansion g x → Among v.places (name_of x, own)
      → HasOwnSpan finds features w x own

-- Each nonterminal has its own attributes, by where it stands.
pub record HasWrittenAttributes (features : List Text) (w : Grammar) (g : EnabledGrammar) (name_of : Nonterminal → Text)
    (v : LoweredGrammar) : Type 0 where
  pub each : map (λ e. e.0) v.attributes ≡ v.nonterminals
  pub own : (x : Nonterminal) (p : TextSpan) (as_ : List Attr) → InExpansion g x → Among v.places (name_of x, p)
      → Among v.attributes (name_of x, as_) → HasOwnAttributes features w x p as_

-- The lowered grammar is the written one's, with what the features leave of it.
pub record IsNormalized (finds : Text → Text → Option Bool) (features : List Text) (w : Grammar) (v : LoweredGrammar) : Type 0 where
  -- names of the expansion's nonterminals, given in order of first use, which the fields below speak by
  pub name_of : Nonterminal → Text
  pub naming : IsNamingByUse (leveled_key_text (enabled_grammar finds features w)) w.prefix (enabled_grammar finds features w) name_of
  pub prefix : v.prefix ≡ w.prefix
  -- one production, origin and action for each written choice
  pub productions : AreProductions (enabled_grammar finds features w) name_of v.productions v.origins
  pub actions : HasWrittenActions (enabled_grammar finds features w) name_of v
  pub spans : HasWrittenSpans finds features w (enabled_grammar finds features w) name_of v
  pub attributes : HasWrittenAttributes features w (enabled_grammar finds features w) name_of v
  pub nonterminals : (n : Text) → Among v.nonterminals n
      ↔ ((x : Nonterminal) × InExpansion (enabled_grammar finds features w) x × (name_of x ≡ n))
  -- the actions are numbered one nonterminal after the other, in order of first use
  pub order : IsActionOrder (enabled_grammar finds features w) name_of v.productions
  -- a start for each public rule that is no macro, and none on a right side
  pub starts : (n m : Text) → Among v.starts (n, m)
      ↔ (InExpansion (enabled_grammar finds features w) (Nonterminal.start n) × (m ≡ start_name w.prefix n))
  pub starts_alone : (n : Text) (p : NamedProduction) → InExpansion (enabled_grammar finds features w) (Nonterminal.start n)
      → Among v.productions p → Among p.symbols (GrammarSymbol.nonterminal (start_name w.prefix n)) → ⊥
  pub inlined : (x : Nonterminal) → InExpansion (enabled_grammar finds features w) x
      → Among v.inlined (name_of x) ↔ IsInlined (enabled_grammar finds features w) x
  pub no_other_inlined : (n : Text) → Among v.inlined n → Among v.nonterminals n
  pub terminals : (t : Terminal) → Among v.terminals t ↔ IsTerminalOf v t
  pub types : HasExpansionTypes (enabled_grammar finds features w) name_of v.types
  -- each terminal has the type `&'input str`, and nothing else has one
  pub terminal_types : AreTerminalTypes v.terminals v.terminal_types
  pub lalr : v.lalr ≡ has_attr (codes "LALR") w.attributes
  -- the tokenizer's entries, none of which is refused, and no two tie
  pub entries : AreFullExpansionEntries (enabled_grammar finds features w) (block_groups w.items) v.entries
  pub none_refused : first_refused v.entries ≡ None
  pub unambiguous : HasNoTie (entry_patterns v.entries) (entry_precedences v.entries)

-- where each pass says what it promises, the last one's grammar is normalized
abbrev pub ChainsNormalize : Type 0
ChainsNormalize =
    (finds : Text → Text → Option Bool) (features : List Text) (w : Grammar) (v : LoweredGrammar) → IsChain finds features w v
    → IsNormalized finds features w v
