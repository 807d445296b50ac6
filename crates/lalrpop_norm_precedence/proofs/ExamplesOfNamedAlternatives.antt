-- Computed examples of symbols under the names of levels, and of the rules of a rule's levels.
use Rattle.std.proofs.Common.{◌≡◌, List, [], ◌∷◌, refl, true}
use Rattle.std.specs.Prelude.{None, codes}
use Rattle.lalrpop_grammar_symbols.specs.Symbols.{Closed, WrittenSymbol}
use Rattle.lalrpop_grammar.specs.WrittenGrammar.{Rule}
use Rattle.lalrpop_grammar_language.proofs.WrittenTreeLemmas.{lit, id, of_macro, level, side, with}
use Rattle.lalrpop_grammar_language.specs.Levels.{Assoc}
use Rattle.lalrpop_norm_theory.specs.LeveledGrammar.{leveled_rules}
use Rattle.lalrpop_norm_theory.proofs.ExamplesOfLevels.{at, names, nonterminal, written_rule}
use Rattle.lalrpop_norm_precedence.specs.NamedAlternatives.{OccurrenceNaming, symbols_by_naming}
use Rattle.lalrpop_norm_precedence.specs.LevelBuckets.{of_level, ranked_from}
use Rattle.lalrpop_norm_precedence.specs.RulesByNames.{all_rules_by_names}

abbrev naming : OccurrenceNaming
naming = record { binding = []; owner = codes "E"; reached = codes "E2"; others = codes "E1" }

abbrev product : List WrittenSymbol
product = nonterminal "E" ∷ lit "*" ∷ nonterminal "E" ∷ []

-- the first occurrence has the alternative's own level, the last, none or each
left : symbols_by_naming naming Assoc.left product ≡ nonterminal "E2" ∷ lit "*" ∷ nonterminal "E1" ∷ []
left = refl

right : symbols_by_naming naming Assoc.right product ≡ nonterminal "E1" ∷ lit "*" ∷ nonterminal "E2" ∷ []
right = refl

neither : symbols_by_naming naming Assoc.non_assoc product ≡ nonterminal "E1" ∷ lit "*" ∷ nonterminal "E1" ∷ []
neither = refl

each : symbols_by_naming naming Assoc.fully_assoc product ≡ nonterminal "E2" ∷ lit "*" ∷ nonterminal "E2" ∷ []
each = refl

-- an argument comes after the call in which it stands
call : symbols_by_naming naming Assoc.right (of_macro "E" (nonterminal "E" ∷ []) ∷ [])
    ≡ of_macro "E1" (nonterminal "E2" ∷ []) ∷ []
call = refl

-- a parameter of the rule's name is left as it is, and is no occurrence
hidden : symbols_by_naming (record naming { binding = (codes "E", Closed.faulty) ∷ [] }) Assoc.left (id "E" ∷ nonterminal "E" ∷ [])
    ≡ id "E" ∷ nonterminal "E2" ∷ []
hidden = refl

-- E = { L1 "n", L2 left E "*" E, "x", L1 "y" }
abbrev two_levels : Rule
two_levels = written_rule true "E" [] (at "E" 0 (with (level "1" ∷ []) (lit "n" ∷ []))
    ∷ at "E" 1 (with (level "2" ∷ side "left" ∷ []) product) ∷ at "E" 2 (with [] (lit "x" ∷ []))
    ∷ at "E" 3 (with (level "1" ∷ []) (lit "y" ∷ [])) ∷ [])

-- the rules under the names of the levels are those of the leveled grammar
by_names : all_rules_by_names two_levels [] (λ j. of_level j (ranked_from None two_levels.alternatives))
    ((2, codes "E") ∷ (1, codes "E1") ∷ [])
    ≡ leveled_rules (names (("E", 1, "E1") ∷ [])) two_levels
by_names = refl
