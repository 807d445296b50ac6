-- Computed examples of what may be wrong with levels, each with its place, and of what isn't wrong.
use Prim.Native.String.{String}
use Rattle.std.proofs.Common.{◌≡◌, ℕ, List, [], ◌∷◌, refl, ap, true, false}
use Rattle.std.specs.Prelude.{codes, Some, None, ◌==◌}
use Rattle.std.specs.List.{list_any}
use Rattle.std.proofs.lemmas.Bool.{true≢false}
use Rattle.lalrpop_grammar.specs.WrittenGrammar.{Attr, Attrs, Alternative, Grammar}
use Rattle.lalrpop_grammar_language.specs.Levels.{Assoc}
use Rattle.lalrpop_grammar_language.proofs.WrittenTreeLemmas.{lit, with, grammar}
use Rattle.lalrpop_norm_theory.specs.LevelFaults.{LevelFault, side_of, level_faults, HasRightLevels}
use Rattle.lalrpop_norm_theory.proofs.ExamplesOfLevels.{item, five_levels, parameter_named}

-- attributes with their places: of all, then of what is in the parentheses
abbrev said : String → String → ℕ → String → Attr
said id key place text =
    Attr.paren (place, 90) (codes id) (Attrs.more (Attr.equal (place, 91) (codes key) (codes text)) Attrs.none)

abbrev level_at : ℕ → String → Attr
level_at place text = said "precedence" "level" place text

abbrev side_at : ℕ → String → Attr
side_at place text = said "assoc" "side" place text

abbrev alternative_at : ℕ → List Attr → Alternative
alternative_at place attributes = record (with attributes (lit "a" ∷ [])) { span = (place, 92) }

-- a grammar of one rule with these alternatives
abbrev rule_with : List Alternative → Grammar
rule_with alternatives = grammar (item true "E" [] alternatives ∷ [])

-- nothing is wrong with these
right_levels : HasRightLevels five_levels
right_levels = refl

right_macro : HasRightLevels parameter_named
right_macro = refl

-- the first alternative needs a level, a later one doesn't
first_without_level : level_faults (rule_with (alternative_at 1 [] ∷ alternative_at 2 (level_at 3 "1" ∷ []) ∷ []))
    ≡ LevelFault.needs_level (1, 92) ∷ []
first_without_level = refl

later_without_level : HasRightLevels (rule_with (alternative_at 1 (level_at 3 "1" ∷ []) ∷ alternative_at 2 [] ∷ []))
later_without_level = refl

no_level_at_all : HasRightLevels (rule_with (alternative_at 1 [] ∷ alternative_at 2 [] ∷ []))
no_level_at_all = refl

-- numbers: decimal digits alone, below 2^32
signed_number : level_faults (rule_with (alternative_at 1 (level_at 3 "+1" ∷ []) ∷ [])) ≡ LevelFault.no_number (3, 91) ∷ []
signed_number = refl

empty_number : level_faults (rule_with (alternative_at 1 (level_at 3 "" ∷ []) ∷ [])) ≡ LevelFault.no_number (3, 91) ∷ []
empty_number = refl

great_number : level_faults (rule_with (alternative_at 1 (level_at 3 "4294967296" ∷ []) ∷ [])) ≡ LevelFault.no_number (3, 91) ∷ []
great_number = refl

greatest_number : HasRightLevels (rule_with (alternative_at 1 (level_at 3 "4294967295" ∷ []) ∷ []))
greatest_number = refl

zeros_in_front : HasRightLevels (rule_with (alternative_at 1 (level_at 3 "007" ∷ []) ∷ alternative_at 1 (level_at 3 "7" ∷ []) ∷ []))
zeros_in_front = refl

-- a second level of an alternative doesn't count, and is looked at
second_number : level_faults (rule_with (alternative_at 1 (level_at 3 "1" ∷ level_at 5 "x" ∷ []) ∷ []))
    ≡ LevelFault.no_number (5, 91) ∷ []
second_number = refl

-- sides: one of the four words, where the rule has levels
unknown_side : level_faults (rule_with (alternative_at 1 (level_at 3 "1" ∷ [])
    ∷ alternative_at 2 (level_at 4 "2" ∷ side_at 5 "up" ∷ []) ∷ []))
    ≡ LevelFault.no_side (5, 91) ∷ []
unknown_side = refl

known_sides : HasRightLevels (rule_with (alternative_at 1 (level_at 3 "1" ∷ []) ∷ alternative_at 2
    (level_at 4 "2" ∷ side_at 5 "none" ∷ [])
    ∷ alternative_at 6 (side_at 7 "all" ∷ []) ∷ alternative_at 8 (side_at 9 "left" ∷ []) ∷ alternative_at 10
    (side_at 11 "right" ∷ []) ∷ []))
known_sides = refl

without_levels : HasRightLevels (rule_with (alternative_at 1 (side_at 2 "up" ∷ []) ∷ []))
without_levels = refl

-- none at the tightest level, which need not be the first
side_on_tightest : level_faults (rule_with (alternative_at 1 (level_at 3 "1" ∷ side_at 5 "left" ∷ []) ∷ []))
    ≡ LevelFault.side_on_tightest (5, 91) ∷ []
side_on_tightest = refl

side_on_later_tightest : level_faults (rule_with (alternative_at 1 (level_at 3 "5" ∷ side_at 5 "left" ∷ [])
    ∷ alternative_at 2 (level_at 4 "2" ∷ []) ∷ alternative_at 6 (side_at 7 "none" ∷ []) ∷ []))
    ≡ LevelFault.side_on_tightest (7, 91) ∷ []
side_on_later_tightest = refl

-- a place of the whole attribute, and one of an alternative, are refused
abbrev ends_of : List LevelFault → List ℕ
ends_of [] = []
ends_of (LevelFault.needs_level p ∷ more) = p.1 ∷ []
ends_of (LevelFault.no_number p ∷ more) = p.1 ∷ []
ends_of (LevelFault.side_on_tightest p ∷ more) = p.1 ∷ []
ends_of (LevelFault.no_side p ∷ more) = p.1 ∷ []

whole_attribute_refused : level_faults (rule_with (alternative_at 1 (level_at 3 "+1" ∷ []) ∷ [])) ≡ LevelFault.no_number (3, 90)
    ∷ [] → ⊥
whole_attribute_refused e = let t : true ≡ false = ap (λ l. list_any (λ n. n == 91) (ends_of l)) e in true≢false t

no_fault_refused : HasRightLevels (rule_with (alternative_at 1 (level_at 3 "+1" ∷ []) ∷ [])) → ⊥
no_fault_refused e = let t : true ≡ false = ap (λ l. list_any (λ n. n == 91) (ends_of l)) e in true≢false t

-- an unknown side isn't the side that says none
none_is_known : side_of (codes "none") ≡ Some Assoc.non_assoc
none_is_known = refl

other_is_unknown : side_of (codes "None") ≡ None
other_is_unknown = refl
