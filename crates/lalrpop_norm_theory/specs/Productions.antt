-- The productions of an expansion, before inlining, with names for its nonterminals and an action number for each.
use Rattle.std.specs.Prelude.{ℕ, ◌≡◌, ◌<◌, List, Some, length, slice_get}
use Rattle.lalrpop_grammar_symbols.specs.Symbols.{Text}
use Rattle.lalrpop_grammar.specs.WrittenGrammar.{Origin}
use Rattle.lalrpop_grammar_language.specs.Among.{Among}
use Rattle.lalrpop_grammar_language.specs.Enabled.{EnabledGrammar}
use Rattle.lalrpop_grammar_language.specs.Expansion.{GrammarSymbol, Nonterminal, RightSide, InExpansion, WrittenLabel}
use Rattle.lalrpop_grammar_language.specs.Expansion.{IsWrittenProduction}
use Rattle.lalrpop_norm_theory.specs.Same.{rename_side}

-- a production over names
pub record NamedProduction : Type 0 where
  pub nonterminal : Text
  pub symbols : List (GrammarSymbol Text)
  pub action : ℕ

-- The production is the expansion's of that label, under the names, and its action tells the written choice.
pub record StandsForLabel (g : EnabledGrammar) (name_of : Nonterminal → Text) (origins : List Origin) (p : NamedProduction)
    (label : WrittenLabel) (side : RightSide) : Type 0 where
  pub in_expansion : InExpansion g label.head
  pub produced : IsWrittenProduction g label side
  pub nonterminal_is : p.nonterminal ≡ name_of label.head
  pub symbols_are : p.symbols ≡ rename_side name_of side
  pub origin_is : slice_get origins p.action ≡ Some label.choice

-- The order of one nonterminal's choices: alternatives by their places, then the pass-down; one before one more; none
-- before some of `X*`; some before none of `X?`.
abbrev pub IsOriginBefore : Origin → Origin → Type 0
IsOriginBefore (Origin.alternative n args i) (Origin.alternative m others j) = i < j
IsOriginBefore (Origin.alternative n args i) Origin.pass_down = Unit {0}
IsOriginBefore Origin.plus_one Origin.plus_more = Unit {0}
IsOriginBefore Origin.star_none Origin.star_some = Unit {0}
IsOriginBefore Origin.opt_some Origin.opt_none = Unit {0}
IsOriginBefore _ _ = ⊥

-- The later of two productions of one nonterminal has the later choice and the greater action.
pub record IsInOrder (origins : List Origin) (p q : NamedProduction) : Type 0 where
  pub choices : (o later : Origin) → slice_get origins p.action ≡ Some o → slice_get origins q.action ≡ Some later
      → IsOriginBefore o later
  pub actions : p.action < q.action

-- One production and one origin for each label of the expansion, and an action of its own for each. Productions of equal
-- symbols stay apart where their labels differ: so a label is told by the nonterminal and the origin together.
pub record AreProductions (g : EnabledGrammar) (name_of : Nonterminal → Text) (productions : List NamedProduction)
    (origins : List Origin) : Type 0 where
  pub every : (label : WrittenLabel) (side : RightSide) → InExpansion g label.head → IsWrittenProduction g label side
      → (i : ℕ) × (p : NamedProduction) × (slice_get productions i ≡ Some p) × StandsForLabel g name_of origins p label side
  pub no_other : (p : NamedProduction) → Among productions p
      → (label : WrittenLabel) × (side : RightSide) × StandsForLabel g name_of origins p label side
  pub once : (i j : ℕ) (p q : NamedProduction) → slice_get productions i ≡ Some p → slice_get productions j ≡ Some q
      → p.nonterminal ≡ q.nonterminal → slice_get origins p.action ≡ slice_get origins q.action → i ≡ j
  pub own_action : (i j : ℕ) (p q : NamedProduction) → slice_get productions i ≡ Some p → slice_get productions j ≡ Some q
      → p.action ≡ q.action → i ≡ j
  pub in_order : (i j : ℕ) (p q : NamedProduction) → i < j → slice_get productions i ≡ Some p → slice_get productions j ≡ Some q
      → p.nonterminal ≡ q.nonterminal → IsInOrder origins p q
  pub no_other_origin : length origins ≡ length productions
