-- The productions of a grammar's expansion with their actions in order. Where nonterminals are inlined one after another, each production that
-- a step changes gets a new number: so labels that are changed last in an earlier step come first, and those of one step in the order in which
-- their productions stand.
use Rattle.std.specs.Prelude.{ℕ, zero, suc, ◌<◌, ◌≤◌, ◌≡◌, ◌⊎◌, Contains, List, Option, Some, None, take}
use Rattle.lalrpop_grammar.specs.WrittenGrammar.{Grammar, Origin}
use Rattle.lalrpop_grammar_language.specs.Among.{Among}
use Rattle.lalrpop_grammar_language.specs.Expansion.{Nonterminal}
use Rattle.lalrpop_grammar_language.specs.Labels.{Inlinings, Label}
use Rattle.lalrpop_norm_theory.specs.Productions.{IsOriginBefore}
use Rattle.lalrpop_lr1_theory.specs.Productions.{Production}
use Rattle.lalrpop_run_theory.specs.TextAnswers.{AreExpansionOf}
use Rattle.lalrpop_run.specs.Asked.{Asked, enabled}
use Rattle.lalrpop_run.specs.NonterminalOrders.{IsNonterminalOrder}

-- the nonterminal of a label
abbrev pub label_head : {N C : Type 0} → Label N C → N
label_head (Label.choose x choice inlinings) = x

-- what is inlined at a place of the right side that was chosen; nothing where its symbol is kept
abbrev pub inlined_at : {N C : Type 0} → Inlinings N C → ℕ → Option (Label N C)
inlined_at Inlinings.none i = None
inlined_at (Inlinings.kept inlinings) zero = None
inlined_at (Inlinings.kept inlinings) (suc i) = inlined_at inlinings i
inlined_at (Inlinings.inlined label inlinings) zero = Some label
inlined_at (Inlinings.inlined label inlinings) (suc i) = inlined_at inlinings i

-- after some steps the one is inlined, and the other isn't yet
abbrev pub IsInlinedSooner : {N : Type 0} → List N → N → N → Type 0
IsInlinedSooner order x y = (steps : ℕ) × Among (take steps order) x × (Among (take steps order) y → ⊥)

-- a place of the one is replaced no later than a place of the other: in an earlier step, or in the same one and not further to the right
abbrev pub IsReplacedFirst : {N : Type 0} → List N → ℕ → N → ℕ → N → Type 0
IsReplacedFirst order i x j y =
    ((steps : ℕ) × Among (take steps order) x × (Among (take steps order) y → ⊥)) ⊎ ((x ≡ y) × (i ≤ j))

-- of all places at which the two differ none is replaced before this one of the nonterminal
abbrev pub DifferFirstAt : {N C : Type 0} → List N → Inlinings N C → Inlinings N C → ℕ → N → Type 0
DifferFirstAt {N = N} {C = C} order inlinings others i x =
    (j : ℕ) (label other : Label N C) → inlined_at inlinings j ≡ Some label → inlined_at others j ≡ Some other
    → (label ≡ other) ⊎ (((steps : ℕ) × Among (take steps order) x × (Among (take steps order) (label_head label) → ⊥))
    ⊎ ((x ≡ label_head label) × (i ≤ j)))

-- The production of the label stands first among those of its nonterminal: by the choice; or, where that is the same, by what is inlined at the
-- place that is replaced first of those at which they differ.
pub data IsLabelBefore (N : Type 0) (C : Type 0) (IsBefore : C → C → Type 0) (order : List N) : Label N C → Label N C → Type 0 where
  by_choice : (x : N) (c d : C) (inlinings others : Inlinings N C) → IsBefore c d
      → IsLabelBefore N C IsBefore order (Label.choose x c inlinings) (Label.choose x d others)
  by_inlined : (x : N) (c : C) (inlinings others : Inlinings N C) (i : ℕ) (label other : Label N C)
      → inlined_at inlinings i ≡ Some label → inlined_at others i ≡ Some other → IsLabelBefore N C IsBefore order label other
      → DifferFirstAt order inlinings others i (label_head label)
      → IsLabelBefore N C IsBefore order (Label.choose x c inlinings) (Label.choose x c others)

-- so many steps inline all that is inlined on the label's own right side
abbrev pub IsMadeWithin : {N C : Type 0} → List N → ℕ → Label N C → Type 0
IsMadeWithin {N = N} {C = C} order steps (Label.choose x choice inlinings) =
    (i : ℕ) (label : Label N C) → inlined_at inlinings i ≡ Some label → Among (take steps order) (label_head label)

-- after some steps the one is made, and the other isn't yet
abbrev pub IsMadeSooner : {N C : Type 0} → List N → Label N C → Label N C → Type 0
IsMadeSooner order label other = (steps : ℕ) × IsMadeWithin order steps label × (IsMadeWithin order steps other → ⊥)

-- The label's action has the smaller number: it's made in an earlier step, or in the same one and stands first.
abbrev pub IsNumberedBefore : (N : Type 0) (C : Type 0) → (C → C → Type 0) → List N → Label N C → Label N C → Type 0
IsNumberedBefore N C IsBefore order label other =
    ((steps : ℕ) × IsMadeWithin order steps label × (IsMadeWithin order steps other → ⊥))
    ⊎ ((((steps : ℕ) × IsMadeWithin order steps other × (IsMadeWithin order steps label → ⊥)) → ⊥)
    × IsLabelBefore N C IsBefore order label other)

-- The productions are those of the grammar's expansion, and the actions of one nonterminal's are numbered in the order of their labels.
pub record AreItsProductions (q : Asked) (w : Grammar) (grammar : List Production) : Type 0 where
  pub expansion : AreExpansionOf q.finds q.features w grammar
  pub order : List Nonterminal
  pub is_order : IsNonterminalOrder (enabled q w) expansion.name_of order
  pub in_order : (p r : Production) → Contains grammar p → Contains grammar r → p.left ≡ r.left → p.action < r.action
      → IsNumberedBefore Nonterminal Origin IsOriginBefore order (expansion.label_of p.action) (expansion.label_of r.action)
