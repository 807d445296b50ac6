-- In which order nonterminals are inlined: by name, depth first, those that one names before it, last named first.
use Rattle.std.specs.Prelude.{◌≡◌, ◌↔◌, true, List, [], ◌∷◌, ◌++◌, reverse}
use Rattle.lalrpop_grammar_symbols.specs.Symbols.{Text}
use Rattle.lalrpop_grammar_language.specs.Among.{Among}
use Rattle.lalrpop_lr1_inline.specs.InlinedNames.{NonterminalEntries, inlined_named_by, inlined_names, is_inlined_name}

-- A walk over names, one after another: one was met before, or it is met for the first time, and then first what it names is
-- walked, and then what follows.
pub data OrderWalk : Type 0 where
  no_more : OrderWalk
  met_before : OrderWalk → OrderWalk
  met_first : Text → OrderWalk → OrderWalk → OrderWalk

-- the names that the walk meets for the first time, each behind those that it names
abbrev pub order_of_walk : OrderWalk → List Text
order_of_walk OrderWalk.no_more = []
order_of_walk (OrderWalk.met_before rest) = order_of_walk rest
order_of_walk (OrderWalk.met_first n inside rest) = order_of_walk inside ++ n ∷ order_of_walk rest

-- a walk over these names, where the others were met before
abbrev pub IsOrderWalk : NonterminalEntries → List Text → List Text → OrderWalk → Type 0
IsOrderWalk g before [] OrderWalk.no_more = Unit {0}
IsOrderWalk g before [] (OrderWalk.met_before rest) = ⊥
IsOrderWalk g before [] (OrderWalk.met_first m inside rest) = ⊥
IsOrderWalk g before (n ∷ ns) OrderWalk.no_more = ⊥
IsOrderWalk g before (n ∷ ns) (OrderWalk.met_before rest) = Among before n × IsOrderWalk g before ns rest
IsOrderWalk g before (n ∷ ns) (OrderWalk.met_first m inside rest) =
    (m ≡ n) × (Among before n → ⊥) × IsOrderWalk g before (reverse (inlined_named_by g n)) inside
    × IsOrderWalk g (before ++ order_of_walk inside ++ n ∷ []) ns rest

-- the order in which a grammar's nonterminals are inlined
abbrev pub IsInliningOrder : NonterminalEntries → List Text → Type 0
IsInliningOrder g order = (w : OrderWalk) × IsOrderWalk g [] (inlined_names g) w × (order_of_walk w ≡ order)

-- it has each inlined nonterminal, and nothing else
abbrev pub HasAllInlined : NonterminalEntries → List Text → Type 0
HasAllInlined g order = (n : Text) → (is_inlined_name g n ≡ true) ↔ Among order n

-- it has none twice
abbrev pub HasNameOnce : List Text → Type 0
HasNameOnce order = (front : List Text) (n : Text) (back : List Text) → order ≡ front ++ n ∷ back →
    (Among front n → ⊥) × (Among back n → ⊥)

-- what one names stands before it
abbrev pub HasNamedFirst : NonterminalEntries → List Text → Type 0
HasNamedFirst g order =
    (front : List Text) (n : Text) (back : List Text) (m : Text) → order ≡ front ++ n ∷ back → Among (inlined_named_by g n) m →
    Among front m
