-- The rule of a macro in an instance: the alternatives whose conditions hold, in order, and what else is kept of the macro.
use Rattle.std.specs.Prelude.{◌≡◌, ◌⊎◌, Bool, false, List, [], ◌∷◌, ◌++◌, Option, None}
use Rattle.lalrpop_grammar_symbols.specs.Symbols.{Text, Argument, Closed, Closeds, WrittenSymbol}
use Rattle.lalrpop_grammar.specs.WrittenGrammar.{Alternative, Condition, Origin, Rule, Ty}
use Rattle.lalrpop_grammar_language.specs.Enabled.{EnabledGrammar, EnabledRule, choice_of}
use Rattle.lalrpop_grammar_language.specs.Closing.{Binding, right_side}
use Rattle.lalrpop_grammar_language.specs.Expansion.{origin_with}

-- An alternative becomes another one: it keeps its action and its span, its symbols are written for these closed ones, its origin
-- carries the arguments, and no condition and no attribute is left.
pub record IsInstanceBy (symbols : List Closed → List WrittenSymbol → Type 0)
    (args : List Argument) (side : List Closed) (a b : Alternative) : Type 0 where
  pub span : b.span ≡ a.span
  pub symbols_are : symbols side b.expr
  pub unconditional : b.condition ≡ None
  pub action : b.action ≡ a.action
  pub no_attributes : b.attributes ≡ []
  pub origin : b.origin ≡ origin_with args a.origin

-- Of the alternatives those whose conditions hold become others, in order; the rest is left out.
abbrev pub AreInstancesBy : (Option Condition → Type 0) → (Alternative → Alternative → Type 0) → List Alternative
    → List Alternative → Type 0
AreInstancesBy held becomes [] bs = bs ≡ []
AreInstancesBy held becomes (a ∷ as_) bs =
    (held a.condition × (b : Alternative) × (rest : List Alternative) × (bs ≡ b ∷ rest) × becomes a b
    × AreInstancesBy held becomes as_ rest)
    ⊎ ((held a.condition → ⊥) × AreInstancesBy held becomes as_ bs)

-- one more is put behind those before it, where its condition holds
abbrev pub PutsInstance : (Option Condition → Type 0) → (Alternative → Alternative → Type 0) → Alternative → List Alternative
    → List Alternative → Type 0
PutsInstance held becomes a old new =
    (held a.condition × (b : Alternative) × (new ≡ old ++ b ∷ []) × becomes a b) ⊎ ((held a.condition → ⊥) × (new ≡ old))

-- the closed symbols of an alternative of a rule without levels
abbrev pub flat_side : EnabledGrammar → EnabledRule → Binding → Alternative → List Closed
flat_side g r b a = right_side g r b (choice_of (Origin.start, a), None)

-- an instance is private; a rule without parameters may be used as it was
abbrev pub stays_public : Closeds → Bool → Bool
stays_public Closeds.none b = b
stays_public (Closeds.more x xs) b = false

-- The rule of a call: the called rule in an instance, under that name. Its declared type, and the alternatives whose conditions
-- hold, become others.
pub record IsInstanceRule (declares : Option Ty → Option Ty → Type 0) (held : Option Condition → Type 0)
    (becomes : Alternative → Alternative → Type 0) (args : Closeds) (n : Text) (written made : Rule) : Type 0 where
  pub name : made.name ≡ n
  pub public : made.public ≡ stays_public args written.public
  pub attributes : made.attributes ≡ written.attributes
  pub span : made.span ≡ written.span
  pub parameters : made.parameters ≡ []
  pub declared : declares written.declared made.declared
  pub alternatives : AreInstancesBy held becomes written.alternatives made.alternatives
