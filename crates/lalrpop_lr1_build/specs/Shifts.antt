-- The items of a state with the dot moved over a symbol, by the symbol's number: kernels of the states to which it leads.
use Rattle.std.specs.Prelude.{ℕ, ◌+◌, List, [], Option, Some, None, if◌then◌else◌, filter_map, slice_get}
use Rattle.lalrpop_sets.specs.Tokens.{is_number}
use Rattle.lalrpop_lr1_first.specs.declared.place.Place.{Place}
use Rattle.lalrpop_lr1_first.specs.declared.place.Place.TheVariants as places
use Rattle.lalrpop_lr1_build.specs.declared.states.kernel.StateKernel.{StateKernel}

-- the number of the symbol that stands at a place
abbrev pub symbol_in : Option Place → Option ℕ
symbol_in None = None
symbol_in (Some (places.End r)) = None
symbol_in (Some (places.Symbol s)) = Some s

abbrev pub symbol_behind : List Place → ℕ → Option ℕ
symbol_behind all i = symbol_in (slice_get all i)

-- the item with its dot moved over the symbol, if that stands behind it
abbrev pub shifted_over : {L : Type 0} → List Place → ℕ → ℕ × L → Option (ℕ × L)
shifted_over all s item = if is_number (symbol_behind all item.0) s then Some (item.0 + 1, item.1) else None

abbrev pub shifted_items : {L : Type 0} → List Place → ℕ → List (ℕ × L) → List (ℕ × L)
shifted_items all s items = filter_map (shifted_over all s) items

-- the items of the group at a number, or none
abbrev pub items_in : {L : Type 0} → Option (StateKernel L) → List (ℕ × L)
items_in None = []
items_in (Some group) = group.items

abbrev pub items_of_group : {L : Type 0} → List (StateKernel L) → ℕ → List (ℕ × L)
items_of_group groups s = items_in (slice_get groups s)
