-- Computed: A = B "C"; B = "D" or empty; X = "E", by numbers. Names A, B, X are 0, 1, 2; "C", "D", "E" are 3, 4, 5, and as tokens
-- 0, 1, 2; the end is 3.
use Rattle.std.proofs.Common.{◌≡◌, ℕ, true, false, List, [], ◌∷◌, Some, None, refl}
use Rattle.lalrpop_sets.specs.AscendingLists.{has}
use Rattle.lalrpop_lr1_first.specs.ClosureTables.{name_first, started_items}
use Rattle.lalrpop_lr1_first.specs.Flows.{comes, slot_marks}
use Rattle.lalrpop_lr1_first.specs.Numbers.{says}
use Rattle.lalrpop_lr1_first.specs.Tables.{end_until, rest_of}
use Rattle.lalrpop_lr1_first.specs.declared.place.NumberedRule.{NumberedRule}
use Rattle.lalrpop_lr1_first.specs.declared.place.Place.{Place}
use Rattle.lalrpop_lr1_first.specs.declared.place.Place.TheVariants as places

sets : List (List ℕ)
sets = (0 ∷ 1 ∷ []) ∷ (1 ∷ 3 ∷ []) ∷ (2 ∷ []) ∷ (0 ∷ []) ∷ (1 ∷ []) ∷ (2 ∷ []) ∷ []

-- a table in which B isn't empty
wrong : List (List ℕ)
wrong = (0 ∷ 1 ∷ []) ∷ (1 ∷ []) ∷ (2 ∷ []) ∷ (0 ∷ []) ∷ (1 ∷ []) ∷ (2 ∷ []) ∷ []

-- `B X` begins with "D" or "E"
begins_with_d : says sets 3 (1 ∷ 2 ∷ []) 1 ≡ true
unfolding sets
begins_with_d = refl

begins_with_e : says sets 3 (1 ∷ 2 ∷ []) 2 ≡ true
unfolding sets
begins_with_e = refl

-- not with "C", and isn't empty
not_with_c : says sets 3 (1 ∷ 2 ∷ []) 0 ≡ false
unfolding sets
not_with_c = refl

not_empty : says sets 3 (1 ∷ 2 ∷ []) 3 ≡ false
unfolding sets
not_empty = refl

-- nothing is empty; B may be
nothing_is_empty : says sets 3 [] 3 ≡ true
nothing_is_empty = refl

b_may_be_empty : says sets 3 (1 ∷ []) 3 ≡ true
unfolding sets
b_may_be_empty = refl

-- the wrong table misses "E"
wrong_misses : says wrong 3 (1 ∷ 2 ∷ []) 2 ≡ false
unfolding wrong
wrong_misses = refl

-- what may follow takes the place of the end alone
follows_nothing : comes true 3 (3 ∷ []) (2 ∷ []) 2 ≡ true
follows_nothing = refl

end_is_replaced : comes true 3 (3 ∷ []) (2 ∷ []) 3 ≡ false
end_is_replaced = refl

first_hides : comes true 3 (1 ∷ []) (2 ∷ []) 2 ≡ false
first_hides = refl

-- without lookaheads nothing comes, and what is there has its own mark
nothing_comes : comes false 3 (1 ∷ []) [] 1 ≡ false
nothing_comes = refl

is_there : has (slot_marks (λ (l : List ℕ). l) 5 (Some [])) 5 ≡ true
is_there = refl

-- places: B "C" and its end, "D" and its end, the empty side
laid : List Place
laid = places.Symbol 1 ∷ places.Symbol 3 ∷ places.End 0 ∷ places.Symbol 4 ∷ places.End 1 ∷ places.End 2 ∷ []

side_of_a : rest_of laid 0 ≡ 1 ∷ 3 ∷ []
unfolding laid
side_of_a = refl

behind_b : rest_of laid 1 ≡ 3 ∷ []
unfolding laid
behind_b = refl

at_the_end : rest_of laid 2 ≡ []
unfolding laid
at_the_end = refl

ends_the_first : end_until laid ≡ Some 0
unfolding laid
ends_the_first = refl

-- a name stands first, or a terminal, or nothing
name_stands : name_first 3 (1 ∷ 3 ∷ []) ≡ Some 1
name_stands = refl

terminal_stands : name_first 3 (3 ∷ []) ≡ None
terminal_stands = refl

-- two rules of B are started where B has something
b_rules : List NumberedRule
b_rules = record { left = 0; start = 0 } ∷ record { left = 1; start = 3 } ∷ record { left = 1; start = 5 } ∷ []

b_is_started : started_items {L = List ℕ} (None ∷ Some (2 ∷ []) ∷ None ∷ []) b_rules ≡ (3, 2 ∷ []) ∷ (5, 2 ∷ []) ∷ []
unfolding b_rules
b_is_started = refl
