-- The core of a state: its items without their lookaheads, in order. For putting states together.
use Rattle.std.specs.Prelude.{ℕ, List, map}
use Rattle.std.specs.Borrow.{Bor}
use Rattle.lalrpop_grammar_repr.specs.declared.production.Production.{Production}
use Rattle.lalrpop_lr1_core.specs.declared.item.Item.{Item}
use Rattle.lalrpop_lr1_core.specs.declared.state.State.{State}

-- a production with the place of a dot
abbrev pub DottedProduction : Type 0
DottedProduction = Production × ℕ

abbrev pub dotted_production : {L : Type 0} → Item L → DottedProduction
dotted_production item = (item.production.now, item.index)

-- the core of some items, and of a state
abbrev pub items_core : {L : Type 0} → List (Item L) → List DottedProduction
items_core items = map dotted_production items

abbrev pub core_in_state : {L : Type 0} → State L → List DottedProduction
core_in_state state = items_core state.items.vec

-- the core that a list of references tells
abbrev pub listed_dotted : Bor Production × ℕ → DottedProduction
listed_dotted c = (c.0.now, c.1)

abbrev pub listed_core : List (Bor Production × ℕ) → List DottedProduction
listed_core list = map listed_dotted list
