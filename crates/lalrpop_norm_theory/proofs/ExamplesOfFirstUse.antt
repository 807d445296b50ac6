-- Computed examples of keys in order of first use and of names that are given in it, and lists and names that are refused.
use Prim.Native.String.{String}
use Rattle.std.specs.Fmt.{digits}
use Rattle.std.proofs.Common.{◌≡◌, ℕ, List, [], ◌∷◌, refl, ap, sym, subst, length, arith}
use Rattle.std.specs.Prelude.{Option, Some, None, codes}
use Rattle.lalrpop_grammar_symbols.specs.Symbols.{Text, Closed, Closeds, Terminal, Sym, Op}
use Rattle.lalrpop_grammar.specs.WrittenGrammar.{ConditionTest, WrittenItem}
use Rattle.lalrpop_grammar_language.specs.Enabled.{EnabledGrammar, enabled_grammar}
use Rattle.lalrpop_grammar_language.specs.Expansion.{Nonterminal}
use Rattle.lalrpop_grammar_language.proofs.WrittenTreeLemmas.{here, lit, id, of_macro, in_group, many_of, some_of, maybe, level, side}
use Rattle.lalrpop_grammar_language.proofs.WrittenTreeLemmas.{with, alt, on_K, rule_of, macro_of, grammar, finds}
use Rattle.lalrpop_norm_theory.specs.Keys.{leveled_key_text, with_number}
use Rattle.lalrpop_norm_theory.specs.LevelNames.{times_taken}
use Rattle.lalrpop_norm_theory.specs.UsedKeys.{AreKeysByUse, written_keys}
use Rattle.lalrpop_norm_theory.specs.NamesByUse.{AreNumberedByUse, IsNamingByUse, texts_of_rules}
use Rattle.lalrpop_norm_theory.proofs.NamingListLemmas.{name_by, naming-is}
use Rattle.lalrpop_norm_theory.proofs.UsedKeyLemmas.{keys_one_order}
use Rattle.lalrpop_norm_theory.proofs.UsedListLemmas.{keys-by-use}

abbrev rules : List WrittenItem → EnabledGrammar
rules items = enabled_grammar finds [] (grammar items)

abbrev quoted : String → Closed
quoted s = Closed.terminal (Terminal.quoted (codes s))

abbrev of_rule : String → Option ℕ → Closed
of_rule n l = Closed.call (codes n) Closeds.none l

abbrev of_one : String → Closed → Closed
of_one n x = Closed.call (codes n) (Closeds.more x Closeds.none) None

abbrev star_of : Closed → Closed
star_of x = Closed.repeat Op.star x

abbrev plus_of : Closed → Closed
plus_of x = Closed.repeat Op.plus x

abbrev maybe_of : Closed → Closed
maybe_of x = Closed.repeat Op.question x

-- S = ("a"* "b")+ "a"+ @L: from outside in, and `"a"+` where `"a"*` is written
abbrev nested : EnabledGrammar
nested = rules (rule_of "S" (alt (some_of (in_group (many_of (lit "a") ∷ lit "b" ∷ [])) ∷ some_of (lit "a")
    ∷ Sym.lookahead here ∷ []) ∷ []) ∷ [])

abbrev inside : Closed
inside = Closed.group (Closeds.more (star_of (quoted "a")) (Closeds.more (quoted "b") Closeds.none))

abbrev nested_keys : List Closed
nested_keys = plus_of inside ∷ inside ∷ star_of (quoted "a") ∷ plus_of (quoted "a") ∷ Closed.lookahead ∷ []

nested_in_order : AreKeysByUse nested nested_keys
nested_in_order = keys-by-use nested nested_keys refl

-- from inside out is refused
inside_out_refused : AreKeysByUse nested (inside ∷ plus_of inside ∷ star_of (quoted "a") ∷ plus_of (quoted "a")
    ∷ Closed.lookahead ∷ []) → ⊥
inside_out_refused w =
    let e = keys_one_order nested nested_keys (inside ∷ plus_of inside ∷ star_of (quoted "a") ∷ plus_of (quoted "a")
    ∷ Closed.lookahead ∷ []) nested_in_order w in cc

-- and so is a list that lacks one
one_less_refused : AreKeysByUse nested (plus_of inside ∷ inside ∷ star_of (quoted "a") ∷ plus_of (quoted "a") ∷ []) → ⊥
one_less_refused w =
    let e = keys_one_order nested nested_keys (plus_of inside ∷ inside ∷ star_of (quoted "a") ∷ plus_of (quoted "a") ∷ [])
    nested_in_order w in cc

-- S = M<"a"> "x"*; T = N<"b">; M<X> = N<X> X?; N<Y> = Y+: macros that call macros, in breadth
abbrev calling : EnabledGrammar
calling = rules (rule_of "S" (alt (of_macro "M" (lit "a" ∷ []) ∷ many_of (lit "x") ∷ []) ∷ [])
    ∷ rule_of "T" (alt (of_macro "N" (lit "b" ∷ []) ∷ []) ∷ [])
    ∷ macro_of "M" ("X" ∷ []) (alt (of_macro "N" (id "X" ∷ []) ∷ maybe (id "X") ∷ []) ∷ [])
    ∷ macro_of "N" ("Y" ∷ []) (alt (some_of (id "Y") ∷ []) ∷ []) ∷ [])

abbrev calling_keys : List Closed
calling_keys = of_one "M" (quoted "a") ∷ star_of (quoted "x") ∷ plus_of (quoted "x") ∷ of_one "N" (quoted "b")
    ∷ of_one "N" (quoted "a") ∷ maybe_of (quoted "a") ∷ plus_of (quoted "b") ∷ plus_of (quoted "a") ∷ []

calling_in_order : AreKeysByUse calling calling_keys
calling_in_order = keys-by-use calling calling_keys refl

-- in depth is refused
abbrev keys_in_depth : List Closed
keys_in_depth = of_one "M" (quoted "a") ∷ of_one "N" (quoted "a") ∷ plus_of (quoted "a") ∷ maybe_of (quoted "a")
    ∷ star_of (quoted "x") ∷ plus_of (quoted "x") ∷ of_one "N" (quoted "b") ∷ plus_of (quoted "b") ∷ []

depth_refused : AreKeysByUse calling keys_in_depth → ⊥
depth_refused w = let e = keys_one_order calling calling_keys keys_in_depth calling_in_order w in cc

-- S = M<"a">; M<K> = { K* if K == "b", K+ if K == "a", K? if K == "a" }: what may not be chosen uses nothing
abbrev conditions : EnabledGrammar
conditions = rules (rule_of "S" (alt (of_macro "M" (lit "a" ∷ []) ∷ []) ∷ [])
    ∷ macro_of "M" ("K" ∷ []) (on_K ConditionTest.equals "b" (many_of (id "K") ∷ [])
    ∷ on_K ConditionTest.equals "a" (some_of (id "K") ∷ []) ∷ on_K ConditionTest.equals "a" (maybe (id "K") ∷ []) ∷ []) ∷ [])

abbrev conditions_keys : List Closed
conditions_keys = of_one "M" (quoted "a") ∷ plus_of (quoted "a") ∷ maybe_of (quoted "a") ∷ []

conditions_in_order : AreKeysByUse conditions conditions_keys
conditions_in_order = keys-by-use conditions conditions_keys refl

-- the repeat under the condition that doesn't hold is refused
unchosen_refused : AreKeysByUse conditions (of_one "M" (quoted "a") ∷ star_of (quoted "a") ∷ plus_of (quoted "a")
    ∷ maybe_of (quoted "a") ∷ []) → ⊥
unchosen_refused w =
    let e = keys_one_order conditions conditions_keys (of_one "M" (quoted "a") ∷ star_of (quoted "a") ∷ plus_of (quoted "a")
    ∷ maybe_of (quoted "a") ∷ []) conditions_in_order w in cc

-- E = { L1 "a", L2 E2* "b", L3 none E* "c" }; E2 = "d": the loosest level first
abbrev beside : EnabledGrammar
beside = rules (rule_of "E" (with (level "1" ∷ []) (lit "a" ∷ []) ∷ with (level "2" ∷ []) (many_of (id "E2") ∷ lit "b" ∷ [])
    ∷ with (level "3" ∷ side "none" ∷ []) (many_of (id "E") ∷ lit "c" ∷ []) ∷ [])
    ∷ rule_of "E2" (alt (lit "d" ∷ []) ∷ []) ∷ [])

abbrev beside_keys : List Closed
beside_keys = star_of (of_rule "E" (Some 2)) ∷ plus_of (of_rule "E" (Some 2)) ∷ star_of (of_rule "E2" None)
    ∷ plus_of (of_rule "E2" None) ∷ []

beside_written : written_keys beside
    ≡ of_rule "E" (Some 3) ∷ of_rule "E" (Some 2) ∷ of_rule "E" (Some 1) ∷ of_rule "E2" None ∷ []
beside_written = refl

beside_in_order : AreKeysByUse beside beside_keys
beside_in_order = keys-by-use beside beside_keys refl

-- S = E<"a"> @R; E<T> = { L1 T*, L2 left E<T> "+" E<T> }: an instance passes down to one at the next tighter level
abbrev instances : EnabledGrammar
instances = rules (rule_of "S" (alt (of_macro "E" (lit "a" ∷ []) ∷ Sym.lookbehind here ∷ []) ∷ [])
    ∷ macro_of "E" ("T" ∷ []) (with (level "1" ∷ []) (many_of (id "T") ∷ [])
    ∷ with (level "2" ∷ side "left" ∷ []) (of_macro "E" (id "T" ∷ []) ∷ lit "+" ∷ of_macro "E" (id "T" ∷ []) ∷ []) ∷ []) ∷ [])

abbrev at_level : Option ℕ → Closed
at_level l = Closed.call (codes "E") (Closeds.more (quoted "a") Closeds.none) l

abbrev instances_keys : List Closed
instances_keys = at_level (Some 2) ∷ Closed.lookbehind ∷ at_level (Some 1) ∷ star_of (quoted "a") ∷ plus_of (quoted "a") ∷ []

instances_in_order : AreKeysByUse instances instances_keys
instances_in_order = keys-by-use instances instances_keys refl

-- names

-- the names of the nonterminals by these numbers
abbrev beside_name : List (Closed × ℕ) → Nonterminal → Text
beside_name numbers = name_by (leveled_key_text beside) (codes "__") numbers

abbrev key : Closed → Nonterminal
key x = Nonterminal.closed x

abbrev beside_nonterminals : List Nonterminal
beside_nonterminals = Nonterminal.start (codes "E") ∷ Nonterminal.start (codes "E2") ∷ key (of_rule "E" (Some 3))
    ∷ key (of_rule "E" (Some 2)) ∷ key (of_rule "E" (Some 1)) ∷ key (of_rule "E2" None) ∷ key (star_of (of_rule "E2" None))
    ∷ key (plus_of (of_rule "E2" None)) ∷ key (star_of (of_rule "E" (Some 2))) ∷ key (plus_of (of_rule "E" (Some 2))) ∷ []

-- the level E2 beside the rule of that name; of the repeats that are called alike that of the level is used first
abbrev beside_numbers : List (Closed × ℕ)
beside_numbers = (of_rule "E" (Some 2), 1) ∷ (star_of (of_rule "E2" None), 1) ∷ (plus_of (of_rule "E2" None), 1) ∷ []

beside_named : IsNamingByUse (leveled_key_text beside) (codes "__") beside (beside_name beside_numbers)
unfolding digits
beside_named = record {
  naming = naming-is beside (leveled_key_text beside) (codes "__") beside_numbers 3 beside_nonterminals refl refl refl;
  levels = (refl, (refl, tt));
  others = beside_keys;
  in_order = beside_in_order;
  numbered = (refl, (refl, (refl, (refl, tt))));
}

-- the same with the repeats' numbers turned is refused
abbrev turned_numbers : List (Closed × ℕ)
turned_numbers = (of_rule "E" (Some 2), 1) ∷ (star_of (of_rule "E" (Some 2)), 1) ∷ (plus_of (of_rule "E" (Some 2)), 1) ∷ []

turned_refused : IsNamingByUse (leveled_key_text beside) (codes "__") beside (beside_name turned_numbers) → ⊥
unfolding digits
turned_refused w = go w.others (keys_one_order beside beside_keys w.others beside_in_order w.in_order) w.numbered
  where
    go : (others : List Closed) → beside_keys ≡ others
        → AreNumberedByUse (leveled_key_text beside) (λ x. beside_name turned_numbers (key x)) (texts_of_rules (leveled_key_text beside) beside)
        others → ⊥
    go [] e n = cc
    go (x ∷ xs) e n =
        let same : star_of (of_rule "E" (Some 2)) ≡ x = cc in
        let first : codes "E2*~2" ≡ codes "E2*" = subst (λ z. beside_name turned_numbers (key z)
        ≡ with_number (leveled_key_text beside z) (times_taken (leveled_key_text beside z) (texts_of_rules (leveled_key_text beside) beside)))
        (sym same) n.0 in
        let sizes : ◌≡◌ {A = ℕ} 5 3 = ap length first in omega (arith, sizes)
