-- Which items with the dot in front a list has: for the test that they are the productions of just the marked names.
use Rattle.std.specs.Prelude.{ℕ, ◌≡◌, ◌↔◌, Bool, List, Contains, Some, slice_get}
use Rattle.lalrpop_grammar_symbols.specs.Symbols.{Text}
use Rattle.lalrpop_lr1_theory.specs.Productions as theory
use Rattle.lalrpop_lr1_core.specs.declared.item.Item.{Item}
use Rattle.lalrpop_lr1_first.specs.NumberedGrammars.{table_productions}
use Rattle.lalrpop_lr1_first.specs.declared.numbered.Numbered.{Numbered}
use Rattle.lalrpop_lr1_barren.specs.Clauses.{IsMarked}
use Rattle.lalrpop_lr1_check_lookaheads.specs.ListTests.{HoldsAtEach}
use Rattle.lalrpop_lr1_check.specs.MarkGains.{IsMarkOfSome}
use Rattle.lalrpop_lr1_check.specs.NamesBehind.{HasSeenItem}

-- where the dot is in front, the production is one of the table's
abbrev pub IsKnownUnmoved : {L : Type 0} → Numbered → Item L → Type 0
IsKnownUnmoved table item = item.index ≡ 0 → Contains (table_productions table) item.production.now

-- the dot is in front, and the production has this number
abbrev pub IsUnmovedAt : {L : Type 0} → Numbered → Item L → ℕ → Type 0
IsUnmovedAt table item r = (item.index ≡ 0) × (slice_get (table_productions table) r ≡ Some item.production.now)

-- the items with the dot in front are the table's productions of just the marked names
pub record AreUnmovedOf {L : Type 0} (table : Numbered) (names : List Bool) (items : List (Item L)) : Type 0 where
  pub known : HoldsAtEach (λ _ item. IsKnownUnmoved table item) items
  pub marked : HoldsAtEach (λ r rule. IsMarkOfSome (IsUnmovedAt table) items r ↔ IsMarked names rule.left) table.rules.items

-- the items with the dot in front are the productions of just these names, as the theory sees them
abbrev pub AreItemsOf : {L : Type 0} → (theory.Production → Type 0) → List (Item L) → (Text → Type 0) → Type 0
AreItemsOf G items Name = (q : theory.Production) → HasSeenItem items q 0 ↔ (G q × Name q.left)
