-- Computed examples of what the search for calls and keys tells, and near misses.
use Rattle.std.proofs.Common.{◌≡◌, [], ◌∷◌, refl}
use Rattle.std.specs.Prelude.{List, None, Some, codes}
use Rattle.lalrpop_grammar_symbols.specs.Symbols.{Closed, Closeds, Terminal, WrittenSymbol}
use Rattle.lalrpop_grammar.specs.WrittenGrammar.{WrittenItem, rules_of}
use Rattle.lalrpop_grammar_language.specs.Enabled.{EnabledGrammar, enabled_grammar}
use Rattle.lalrpop_grammar_language.proofs.WrittenTreeLemmas.{alt, finds, grammar, here, id, in_group, lit, macro_of, many_of, of_macro}
use Rattle.lalrpop_grammar_language.proofs.WrittenTreeLemmas.{rule_of}
use Rattle.lalrpop_norm_keys.specs.Arity.{arity_faults}
use Rattle.lalrpop_norm_keys.specs.FoundCalls.{plain_calls}
use Rattle.lalrpop_norm_keys.specs.MacroFaults.{IsQuotedLiteral}

-- M<T> = T; S = what is given
abbrev calling : WrittenSymbol → List WrittenItem
calling x = macro_of "M" ("T" ∷ []) (alt (id "T" ∷ []) ∷ []) ∷ rule_of "S" (alt (x ∷ []) ∷ []) ∷ []

abbrev rules : List WrittenItem → EnabledGrammar
rules items = enabled_grammar finds [] (grammar items)

abbrev two_given : List WrittenItem
two_given = calling (many_of (of_macro "M" (lit "a" ∷ lit "b" ∷ [])))

abbrev one_given : List WrittenItem
one_given = calling (many_of (of_macro "M" (in_group (lit "a" ∷ lit "b" ∷ []) ∷ [])))

-- one argument too many, inside a repeat
two_refused : arity_faults (rules two_given) (rules_of two_given) ≡ here ∷ []
two_refused = refl

-- a group of two is one argument
one_taken : arity_faults (rules one_given) (rules_of one_given) ≡ []
one_taken = refl

-- one that stands as an argument is looked at, too
argument_refused : arity_faults (rules (calling (of_macro "M" (of_macro "M" [] ∷ []))))
    (rules_of (calling (of_macro "M" (of_macro "M" [] ∷ [])))) ≡ here ∷ []
argument_refused = refl

-- the search begins at rules without parameters alone
begins_at_rules : plain_calls (rules_of one_given) ≡ Closed.call (codes "S") Closeds.none None ∷ []
begins_at_rules = refl

-- a condition is asked of a quoted literal alone
literal_asked : IsQuotedLiteral (Some (Closed.terminal (Terminal.quoted (codes "all"))))
literal_asked = tt

pattern_not_asked : IsQuotedLiteral (Some (Closed.terminal (Terminal.regex (codes "all")))) → ⊥
pattern_not_asked h = h

rule_not_asked : IsQuotedLiteral (Some (Closed.call (codes "all") Closeds.none None)) → ⊥
rule_not_asked h = h

nothing_not_asked : IsQuotedLiteral None → ⊥
nothing_not_asked h = h
