-- What stands before and behind the dot of an item, and which prefix, rest and name the items of a state tell.
use Rattle.std.specs.Prelude.{ℕ, ◌+◌, Bool, List, [], ◌∷◌, length, map, take, drop, filter, nat_lt, slice_get}
use Rattle.std.specs.Prelude.{Option, Some, None, if◌then◌else◌, option_map}
use Rattle.std.specs.Borrow.{Bor}
use Rattle.std.specs.List.{list_all}
use Rattle.std.specs.Str.{bytes_eq}
use Rattle.lalrpop_grammar_symbols.specs.declared.names.NonterminalString.{NonterminalString}
use Rattle.lalrpop_grammar_repr.specs.declared.production.Symbol.{Symbol}
use Rattle.lalrpop_lr1_core.specs.declared.item.Item.{Item}

-- the symbols before the dot
abbrev pub before_dot : {L : Type 0} → Item L → List Symbol
before_dot item = take item.index item.production.now.symbols

-- the symbols behind the dot
abbrev pub behind_dot : {L : Type 0} → Item L → List Symbol
behind_dot item = drop item.index item.production.now.symbols

-- the symbol right behind the dot
abbrev pub at_dot : {L : Type 0} → Item L → Option Symbol
at_dot item = slice_get item.production.now.symbols item.index

-- the symbols behind that one
abbrev pub behind_cursor : {L : Type 0} → Item L → List Symbol
behind_cursor item = drop (item.index + 1) item.production.now.symbols

-- the item with its dot one place further
abbrev pub moved_item : {L : Type 0} → Item L → Item L
moved_item item = record item { index = item.index + 1 }

-- the symbol right behind the dot with those behind it, and with the item whose dot stands behind it
abbrev pub symbol_and_rest : {L : Type 0} → Item L → Option (Symbol × List Symbol)
symbol_and_rest item = option_map (λ s. (s, behind_cursor item)) (at_dot item)

abbrev pub symbol_and_item : {L : Type 0} → Item L → Option (Symbol × Item L)
symbol_and_item item = option_map (λ s. (s, moved_item item)) (at_dot item)

-- the symbol at a place, with the place behind it
abbrev pub symbol_and_place : List Symbol → ℕ → Option (Symbol × ℕ)
symbol_and_place symbols dot = option_map (λ s. (s, dot + 1)) (slice_get symbols dot)

-- the same, lent
abbrev pub lent_symbols : Option (Bor Symbol × Bor (List Symbol)) → Option (Symbol × List Symbol)
lent_symbols parts = option_map (λ p. (p.0.now, p.1.now)) parts

abbrev pub lent_item : {L : Type 0} → Option (Bor Symbol × Item L) → Option (Symbol × Item L)
lent_item parts = option_map (λ p. (p.0.now, p.1)) parts

abbrev pub lent_place : Option (Bor Symbol × ℕ) → Option (Symbol × ℕ)
lent_place parts = option_map (λ p. (p.0.now, p.1)) parts

-- the dot isn't in front
abbrev pub has_moved : {L : Type 0} → Item L → Bool
has_moved item = nat_lt 0 item.index

-- of two lists the shorter, the first where they are as long
abbrev pub shorter_of : {X : Type 0} → List X → List X → List X
shorter_of xs ys = if nat_lt (length ys) (length xs) then ys else xs

-- of two lists the longer, the second where they are as long
abbrev pub longer_of : {X : Type 0} → List X → List X → List X
longer_of xs ys = if nat_lt (length ys) (length xs) then xs else ys

-- one of two, by a choice, where both are there
abbrev pub either_by : {X : Type 0} → (X → X → X) → Option X → Option X → Option X
either_by choose None y = y
either_by choose (Some x) None = Some x
either_by choose (Some x) (Some y) = Some (choose x y)

-- the first shortest of the lists
abbrev pub first_shortest : {X : Type 0} → List (List X) → Option (List X)
first_shortest [] = None
first_shortest (xs ∷ lists) = either_by shorter_of (Some xs) (first_shortest lists)

-- the longest of the lists, the last of these
abbrev pub last_longest : {X : Type 0} → List (List X) → Option (List X)
last_longest [] = None
last_longest (xs ∷ lists) = either_by longer_of (Some xs) (last_longest lists)

-- the name that all of them are
abbrev pub one_name : List NonterminalString → Option NonterminalString
one_name [] = None
one_name (n ∷ names) = if list_all (λ m. bytes_eq n.0 m.0) (n ∷ names) then Some n else None

-- the prefixes of the items
abbrev pub prefixes : {L : Type 0} → List (Item L) → List (List Symbol)
prefixes items = map before_dot items

-- those of the items with the dot not in front
abbrev pub moved_prefixes : {L : Type 0} → List (Item L) → List (List Symbol)
moved_prefixes items = map before_dot (filter has_moved items)

-- what stands behind the dot, of these items
abbrev pub moved_rests : {L : Type 0} → List (Item L) → List (List Symbol)
moved_rests items = map behind_dot (filter has_moved items)

-- the left sides of these items
abbrev pub moved_names : {L : Type 0} → List (Item L) → List NonterminalString
moved_names items = map (λ item. item.production.now.nonterminal) (filter has_moved items)
