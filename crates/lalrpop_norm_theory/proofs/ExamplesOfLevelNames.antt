-- Computed examples of the names of levels, and names that are refused.
use Prim.Native.String.{String}
use Rattle.std.specs.Fmt.{digits}
use Rattle.std.specs.Str.{bytes_eq}
use Rattle.std.proofs.Common.{◌≡◌, ℕ, List, [], ◌∷◌, refl, ap, sym, true, false, inl, inr}
use Rattle.std.specs.Prelude.{codes, map, length}
use Rattle.std.proofs.lemmas.Bool.{true≢false}
use Rattle.lalrpop_grammar_symbols.specs.Symbols.{Text}
use Rattle.lalrpop_grammar.specs.WrittenGrammar.{Rule, Grammar, rules_of}
use Rattle.lalrpop_grammar_language.specs.Among.{Among}
use Rattle.lalrpop_grammar_language.specs.Enabled.{has_text}
use Rattle.lalrpop_grammar_language.specs.Levels.{loosest}
use Rattle.lalrpop_grammar_language.proofs.WrittenTreeLemmas.{lit, id, level, side, with, alt, texts, grammar}
use Rattle.lalrpop_norm_theory.specs.Between.{rule_between}
use Rattle.lalrpop_norm_theory.proofs.AmongLemmas.{all-among}
use Rattle.lalrpop_norm_theory.specs.LevelRules.{level_name}
use Rattle.lalrpop_norm_theory.specs.LeveledGrammar.{leveled_grammar}
use Rattle.lalrpop_norm_theory.specs.LevelNames.{AreLevelNames, tighter_levels, plain_levels, leveled_keys}
use Rattle.lalrpop_norm_theory.proofs.ExamplesOfLevels.{at, item, nonterminal, names, parameter_named, five_levels, five_names}

-- the names of the rules, in order
abbrev rule_names : Grammar → List Text
rule_names g = map (λ r. r.name) (rules_of g.items)

abbrev IsKept : (Text → ℕ → Text) → Rule → Type 0
IsKept f r = level_name f r.name (loosest (rule_between r)) ≡ r.name

abbrev IsUnhidden : (Text → ℕ → Text) → Rule → Type 0
IsUnhidden f r = (j : ℕ) → Among (tighter_levels r) j → has_text (f r.name j) r.parameters ≡ false

-- five levels are called by their numbers, the loosest by the rule's name
five : rule_names (leveled_grammar five_names five_levels) ≡ texts ("E" ∷ "E4" ∷ "E3" ∷ "E2" ∷ "E1" ∷ [])
five = refl

five_named : AreLevelNames five_levels five_names
unfolding digits
five_named = record {
  loosest_kept = all-among (IsKept five_names) (rules_of five_levels.items) (refl, tt);
  plain = (refl, (refl, (refl, (refl, tt))));
  of_macros = tt;
  apart = (refl, (refl, (refl, (refl, (refl, tt)))));
  not_hidden = λ r j i l. all-among (IsUnhidden five_names) (rules_of five_levels.items) (λ j l. refl, tt) r i j l;
}

-- pub E1 = { L1 "a", L2 E1 "b", L3 E1 "c" }; E = { L1 "a", L12 E "x", L13 E "y" }: E at 12 and E1 at 2 print alike, and so do
-- E at 1 and the rule E1
abbrev crossed : Grammar
crossed = grammar (item true "E1" [] (at "E1" 0 (with (level "1" ∷ []) (lit "a" ∷ []))
    ∷ at "E1" 1 (with (level "2" ∷ []) (nonterminal "E1" ∷ lit "b" ∷ []))
    ∷ at "E1" 2 (with (level "3" ∷ []) (nonterminal "E1" ∷ lit "c" ∷ [])) ∷ [])
    ∷ item false "E" [] (at "E" 0 (with (level "1" ∷ []) (lit "a" ∷ []))
    ∷ at "E" 1 (with (level "12" ∷ []) (nonterminal "E" ∷ lit "x" ∷ []))
    ∷ at "E" 2 (with (level "13" ∷ []) (nonterminal "E" ∷ lit "y" ∷ [])) ∷ []) ∷ [])

-- the names, with that of E at level 12 as given
abbrev crossed_by : String → Text → ℕ → Text
crossed_by twelve = names (("E1", 3, "E1") ∷ ("E1", 2, "E12") ∷ ("E1", 1, "E11") ∷ ("E", 12, twelve) ∷ ("E", 1, "E1~2") ∷ [])

crossed_rules : rule_names (leveled_grammar (crossed_by "E12~2") crossed)
    ≡ texts ("E1" ∷ "E12" ∷ "E11" ∷ "E" ∷ "E12~2" ∷ "E1~2" ∷ [])
crossed_rules = refl

crossed_named : AreLevelNames crossed (crossed_by "E12~2")
unfolding digits
crossed_named = record {
  loosest_kept = all-among (IsKept (crossed_by "E12~2")) (rules_of crossed.items) (refl, (refl, tt));
  plain = (refl, (refl, (refl, (refl, tt))));
  of_macros = tt;
  apart = (refl, (refl, (refl, (refl, (refl, (refl, tt))))));
  not_hidden = λ r j i l.
      all-among (IsUnhidden (crossed_by "E12~2")) (rules_of crossed.items) (λ j l. refl, (λ j l. refl, tt)) r i j l;
}

-- one name for two levels is refused, and a number that is left out
one_name_refused : AreLevelNames crossed (crossed_by "E12") → ⊥
one_name_refused w = true≢false w.apart.1.0

left_out_refused : AreLevelNames crossed (crossed_by "E12~3") → ⊥
unfolding digits
left_out_refused w = true≢false (sym (ap (λ t. bytes_eq t (codes "E12~2")) w.plain.1.1.0))

-- pub Expr = { L1 Expr2, L2 left Expr "*" Expr, L3 left Expr "+" Expr }; Expr2 = "n": a rule's name is taken
abbrev beside_rule : Grammar
beside_rule = grammar (item true "Expr" [] (at "Expr" 0 (with (level "1" ∷ []) (nonterminal "Expr2" ∷ []))
    ∷ at "Expr" 1 (with (level "2" ∷ side "left" ∷ []) (nonterminal "Expr" ∷ lit "*" ∷ nonterminal "Expr" ∷ []))
    ∷ at "Expr" 2 (with (level "3" ∷ side "left" ∷ []) (nonterminal "Expr" ∷ lit "+" ∷ nonterminal "Expr" ∷ [])) ∷ [])
    ∷ item false "Expr2" [] (at "Expr2" 0 (alt (lit "n" ∷ [])) ∷ []) ∷ [])

abbrev beside_by : String → Text → ℕ → Text
beside_by two = names (("Expr", 2, two) ∷ ("Expr", 1, "Expr1") ∷ [])

beside_rules : rule_names (leveled_grammar (beside_by "Expr2~2") beside_rule) ≡ texts
    ("Expr" ∷ "Expr2~2" ∷ "Expr1" ∷ "Expr2" ∷ [])
beside_rules = refl

beside_named : AreLevelNames beside_rule (beside_by "Expr2~2")
unfolding digits
beside_named = record {
  loosest_kept = all-among (IsKept (beside_by "Expr2~2")) (rules_of beside_rule.items) (refl, (refl, tt));
  plain = (refl, (refl, tt));
  of_macros = tt;
  apart = (refl, (refl, (refl, (refl, tt))));
  not_hidden = λ r j i l.
      all-among (IsUnhidden (beside_by "Expr2~2")) (rules_of beside_rule.items) (λ j l. refl, (λ j l. refl, tt)) r i j l;
}

-- the rule's own name is refused for the level
name_of_rule_refused : AreLevelNames beside_rule (beside_by "Expr2") → ⊥
name_of_rule_refused w = true≢false w.apart.1.0

-- E = { L1 "a", L2 "b", L3 "c" }; E2<T> = T: so is a macro's
abbrev beside_macro : Grammar
beside_macro = grammar (item false "E" [] (at "E" 0 (with (level "1" ∷ []) (lit "a" ∷ []))
    ∷ at "E" 1 (with (level "2" ∷ []) (lit "b" ∷ [])) ∷ at "E" 2 (with (level "3" ∷ []) (lit "c" ∷ [])) ∷ [])
    ∷ item false "E2" ("T" ∷ []) (at "E2" 0 (alt (id "T" ∷ [])) ∷ []) ∷ [])

name_of_macro_refused : AreLevelNames beside_macro (names (("E", 2, "E2") ∷ ("E", 1, "E1") ∷ [])) → ⊥
name_of_macro_refused w = true≢false w.apart.1.0

-- E<E1> = { L1 E1, L2 left E<E1> "+" E<E1> }: so is the macro's own parameter, while a number is free
hidden_refused : AreLevelNames parameter_named (names (("E", 1, "E1") ∷ [])) → ⊥
hidden_refused w = true≢false (w.not_hidden _ 1 (inr (inl refl)) (inl refl))

parameter_named_so : AreLevelNames parameter_named (names (("E", 1, "E1~2") ∷ []))
unfolding digits
parameter_named_so = record {
  loosest_kept = all-among (IsKept (names (("E", 1, "E1~2") ∷ []))) (rules_of parameter_named.items) (refl, (refl, tt));
  plain = tt;
  of_macros = (refl, tt);
  apart = (refl, (refl, (refl, tt)));
  not_hidden = λ r j i l. all-among (IsUnhidden (names (("E", 1, "E1~2") ∷ []))) (rules_of parameter_named.items)
      (λ j l. refl, (all-among UnhiddenE (1 ∷ []) (refl, tt), tt)) r i j l;
}
  where
    UnhiddenE : ℕ → Type 0
    UnhiddenE j = has_text (names (("E", 1, "E1~2") ∷ []) (codes "E") j) (texts ("E1" ∷ [])) ≡ false

-- and no number is left out before it
number_of_macro_refused : AreLevelNames parameter_named (names (("E", 1, "E1~8") ∷ [])) → ⊥
unfolding digits
number_of_macro_refused w = true≢false (sym (ap (λ t. bytes_eq t (codes "E1~2")) w.of_macros.0))

-- macros' levels wait for those of plain rules: X<T> = { L12 .., L13 .. } beside X1 = { L2 .., L3 .. }
abbrev macro_first : Grammar
macro_first = grammar (item false "X" ("T" ∷ []) (at "X" 0 (with (level "12" ∷ []) (id "T" ∷ []))
    ∷ at "X" 1 (with (level "13" ∷ []) (lit "x" ∷ [])) ∷ [])
    ∷ item false "X1" [] (at "X1" 0 (with (level "2" ∷ []) (lit "a" ∷ [])) ∷ at "X1" 1 (with (level "3" ∷ []) (lit "b" ∷ []))
    ∷ [])
    ∷ [])

plain_alone : plain_levels macro_first ≡ (codes "X1", 2) ∷ []
plain_alone = refl

macro_first_refused : AreLevelNames macro_first (names (("X", 12, "X12") ∷ ("X1", 2, "X12~2") ∷ [])) → ⊥
unfolding digits
macro_first_refused w = true≢false (sym (ap (λ t. bytes_eq t (codes "X12")) w.plain.0))

-- a macro's level has the number behind theirs, and no other
macro_alone_refused : AreLevelNames macro_first (names (("X", 12, "X12") ∷ ("X1", 2, "X12") ∷ [])) → ⊥
unfolding digits
macro_alone_refused w = true≢false (sym (ap (λ t. bytes_eq t (codes "X12~2")) w.of_macros.0))

keys_in_order : length (leveled_keys crossed) ≡ 6
keys_in_order = refl
