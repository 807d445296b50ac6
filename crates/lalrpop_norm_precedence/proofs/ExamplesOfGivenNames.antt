-- Computed examples of the names that levels are given.
use Rattle.std.specs.Fmt.{digits}
use Rattle.std.proofs.Common.{◌≡◌, ℕ, List, [], ◌∷◌, refl, false}
use Rattle.std.specs.Prelude.{codes, map}
use Rattle.lalrpop_grammar_symbols.specs.Symbols.{Text}
use Rattle.lalrpop_grammar.specs.WrittenGrammar.{Grammar, rules_of}
use Rattle.lalrpop_grammar_language.proofs.WrittenTreeLemmas.{lit, id, level, with, alt, grammar}
use Rattle.lalrpop_norm_theory.specs.LevelNames.{times_taken}
use Rattle.lalrpop_norm_theory.proofs.ExamplesOfLevels.{at, item, parameter_named}
use Rattle.lalrpop_norm_precedence.specs.GivenNames.{Times, given_tables, taken_behind_plain}

-- rules' names are taken, and for macros what plain rules take
abbrev names_taken : Grammar → Times
names_taken g = λ t. times_taken t (map (λ r. r.name) (rules_of g.items))

abbrev tables_of : Grammar → List (List (ℕ × Text))
tables_of g = given_tables (rules_of g.items) (names_taken g) (taken_behind_plain (rules_of g.items) (names_taken g))

-- E = { L1 "a", L2 "b", L3 "c" }; E2 = "d": a rule has the text of a level
abbrev beside_rule : Grammar
beside_rule = grammar (item false "E" [] (at "E" 0 (with (level "1" ∷ []) (lit "a" ∷ []))
    ∷ at "E" 1 (with (level "2" ∷ []) (lit "b" ∷ [])) ∷ at "E" 2 (with (level "3" ∷ []) (lit "c" ∷ [])) ∷ [])
    ∷ item false "E2" [] (at "E2" 0 (alt (lit "d" ∷ [])) ∷ []) ∷ [])

beside_rule_tables : tables_of beside_rule
    ≡ ((3, codes "E") ∷ (2, codes "E2~2") ∷ (1, codes "E1") ∷ []) ∷ [] ∷ []
unfolding digits
beside_rule_tables = refl

-- E = { L11 "a", L12 "b" }; E1 = { L1 "c", L2 "d" }: two levels have one text
abbrev one_text : Grammar
one_text = grammar (item false "E" [] (at "E" 0 (with (level "11" ∷ []) (lit "a" ∷ []))
    ∷ at "E" 1 (with (level "12" ∷ []) (lit "b" ∷ [])) ∷ [])
    ∷ item false "E1" [] (at "E1" 0 (with (level "1" ∷ []) (lit "c" ∷ []))
    ∷ at "E1" 1 (with (level "2" ∷ []) (lit "d" ∷ [])) ∷ []) ∷ [])

one_text_tables : tables_of one_text
    ≡ ((12, codes "E") ∷ (11, codes "E11") ∷ []) ∷ ((2, codes "E1") ∷ (1, codes "E11~2") ∷ []) ∷ []
unfolding digits
one_text_tables = refl

-- E<E1> = { L1 E1, L2 left E<E1> "+" E<E1> } beside a rule: its own parameter is taken, too
parameter_tables : tables_of parameter_named ≡ [] ∷ ((2, codes "E") ∷ (1, codes "E1~2") ∷ []) ∷ []
unfolding digits
parameter_tables = refl

-- X<T> = { L12 T, L13 "x" }; X1 = { L2 "a", L3 "b" }: a macro's level waits for that of a plain rule
abbrev macro_first : Grammar
macro_first = grammar (item false "X" ("T" ∷ []) (at "X" 0 (with (level "12" ∷ []) (id "T" ∷ []))
    ∷ at "X" 1 (with (level "13" ∷ []) (lit "x" ∷ [])) ∷ [])
    ∷ item false "X1" [] (at "X1" 0 (with (level "2" ∷ []) (lit "a" ∷ []))
    ∷ at "X1" 1 (with (level "3" ∷ []) (lit "b" ∷ [])) ∷ []) ∷ [])

macro_first_tables : tables_of macro_first
    ≡ ((13, codes "X") ∷ (12, codes "X12~2") ∷ []) ∷ ((3, codes "X1") ∷ (2, codes "X12") ∷ []) ∷ []
unfolding digits
macro_first_tables = refl
