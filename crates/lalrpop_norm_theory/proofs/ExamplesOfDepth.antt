-- Computed examples of calls too deep for a limit, and near misses.
use Prim.Native.String.{String}
use Rattle.std.proofs.Common.{◌≡◌, ℕ, zero, suc, [], ◌∷◌, refl, inl, inr, arith}
use Rattle.std.specs.Prelude.{Some, None, codes, ◌≤◌}
use Rattle.lalrpop_grammar_symbols.specs.Symbols.{Closed, Closeds, Terminal}
use Rattle.lalrpop_grammar.specs.WrittenGrammar.{ConditionTest}
use Rattle.lalrpop_grammar_language.specs.Enabled.{EnabledGrammar, enabled_grammar}
use Rattle.lalrpop_grammar_language.proofs.WrittenTreeLemmas.{lit, id, of_macro, in_group, many_of, level, with, alt, on_K, rule_of}
use Rattle.lalrpop_grammar_language.proofs.WrittenTreeLemmas.{macro_of, grammar, finds}
use Rattle.lalrpop_norm_theory.specs.Depth.{calls_in, HasCallChain, HasDepth, IsTooDeep}
use Rattle.lalrpop_norm_theory.proofs.ExpansionListLemmas.{calls_at, is_too_deep, is_not_too_deep, listed-chain}

abbrev quoted : String → Closed
quoted s = Closed.terminal (Terminal.quoted (codes s))

abbrev of_one : String → Closed → Closed
of_one n x = Closed.call (codes n) (Closeds.more x Closeds.none) None

abbrev pair : Closed → Closed → Closed
pair x y = Closed.group (Closeds.more x (Closeds.more y Closeds.none))

-- A<I> = "a" B<("." I)>; B<I> = "b" C<("," I)>; C<I> = "c" I; D = A<"d"> B<"d"> C<"d">
abbrev three_deep : EnabledGrammar
three_deep = enabled_grammar finds [] (grammar (
    macro_of "A" ("I" ∷ []) (alt (lit "a" ∷ of_macro "B" (in_group (lit "." ∷ id "I" ∷ []) ∷ []) ∷ []) ∷ [])
    ∷ macro_of "B" ("I" ∷ []) (alt (lit "b" ∷ of_macro "C" (in_group (lit "," ∷ id "I" ∷ []) ∷ []) ∷ []) ∷ [])
    ∷ macro_of "C" ("I" ∷ []) (alt (lit "c" ∷ id "I" ∷ []) ∷ [])
    ∷ rule_of "D" (alt (of_macro "A" (lit "d" ∷ []) ∷ of_macro "B" (lit "d" ∷ []) ∷ of_macro "C" (lit "d" ∷ []) ∷ [])
    ∷ []) ∷ []))

-- C<("," ("." "d"))>
abbrev deepest : Closed
deepest = of_one "C" (pair (quoted ",") (pair (quoted ".") (quoted "d")))

-- B<"d"> stands in the rule and in no instance; C<("," "d")> in B<"d">
first_round : calls_at three_deep 1 ≡ of_one "A" (quoted "d") ∷ of_one "B" (quoted "d") ∷ of_one "C" (quoted "d") ∷ []
first_round = refl

second_round : calls_at three_deep 2 ≡ of_one "B" (pair (quoted ".") (quoted "d")) ∷ of_one "C" (pair (quoted ",") (quoted "d")) ∷ []
second_round = refl

third_round : calls_at three_deep 3 ≡ deepest ∷ []
third_round = refl

too_deep_for_two : IsTooDeep three_deep 2 deepest
too_deep_for_two = is_too_deep three_deep 2 3 deepest refl refl

not_too_deep_for_three : (x : Closed) → IsTooDeep three_deep 3 x → ⊥
not_too_deep_for_three = is_not_too_deep three_deep 3 refl

-- D = A<"d">; A<I> = B<C<I>>; B<I> = "b"; C<I> = "c": as an argument alone a call occurs nowhere
abbrev argument_alone : EnabledGrammar
argument_alone = enabled_grammar finds [] (grammar (rule_of "D" (alt (of_macro "A" (lit "d" ∷ []) ∷ []) ∷ [])
    ∷ macro_of "A" ("I" ∷ []) (alt (of_macro "B" (of_macro "C" (id "I" ∷ []) ∷ []) ∷ []) ∷ [])
    ∷ macro_of "B" ("I" ∷ []) (alt (lit "b" ∷ []) ∷ []) ∷ macro_of "C" ("I" ∷ []) (alt (lit "c" ∷ []) ∷ []) ∷ []))

not_in_arguments : calls_in (of_one "B" (of_one "C" (quoted "d"))) ≡ of_one "B" (of_one "C" (quoted "d")) ∷ []
not_in_arguments = refl

argument_not_called : calls_at argument_alone 2 ≡ of_one "B" (of_one "C" (quoted "d")) ∷ []
argument_not_called = refl

nothing_deeper : calls_at argument_alone 3 ≡ []
nothing_deeper = refl

argument_not_deep : (x : Closed) → IsTooDeep argument_alone 2 x → ⊥
argument_not_deep = is_not_too_deep argument_alone 2 refl

-- where the instance uses its parameter, the argument occurs: B<I> = I
abbrev argument_used : EnabledGrammar
argument_used = enabled_grammar finds [] (grammar (rule_of "D" (alt (of_macro "A" (lit "d" ∷ []) ∷ []) ∷ [])
    ∷ macro_of "A" ("I" ∷ []) (alt (of_macro "B" (of_macro "C" (id "I" ∷ []) ∷ []) ∷ []) ∷ [])
    ∷ macro_of "B" ("I" ∷ []) (alt (many_of (in_group (id "I" ∷ lit "b" ∷ [])) ∷ []) ∷ [])
    ∷ macro_of "C" ("I" ∷ []) (alt (lit "c" ∷ []) ∷ []) ∷ []))

argument_too_deep : IsTooDeep argument_used 2 (of_one "C" (quoted "d"))
argument_too_deep = is_too_deep argument_used 2 3 (of_one "C" (quoted "d")) refl refl

-- S = { A<"a">, B<"a"> }; A<T> = B<T>; B<T> = T: the shortest chain counts
abbrev two_ways : EnabledGrammar
two_ways = enabled_grammar finds [] (grammar (
    rule_of "S" (alt (of_macro "A" (lit "a" ∷ []) ∷ []) ∷ alt (of_macro "B" (lit "a" ∷ []) ∷ []) ∷ [])
    ∷ macro_of "A" ("T" ∷ []) (alt (of_macro "B" (id "T" ∷ []) ∷ []) ∷ [])
    ∷ macro_of "B" ("T" ∷ []) (alt (id "T" ∷ []) ∷ []) ∷ []))

longer_chain_too : HasCallChain two_ways 2 (of_one "B" (quoted "a"))
longer_chain_too = listed-chain two_ways 2 (of_one "B" (quoted "a")) (inl refl)

least_depth : HasDepth two_ways 1 (of_one "B" (quoted "a"))
least_depth = record {
  chain = listed-chain two_ways 1 (of_one "B" (quoted "a")) (inr (inl refl));
  shortest = at_least;
}
  where
    at_least : (k : ℕ) → HasCallChain two_ways k (of_one "B" (quoted "a")) → 1 ≤ k
    at_least zero c = absurd c
    at_least (suc k) c = omega arith

not_the_least : HasDepth two_ways 2 (of_one "B" (quoted "a")) → ⊥
not_the_least d = let e : 2 ≤ 1 = d.shortest 1 least_depth.chain in omega (arith, e)

not_too_deep_for_one : (x : Closed) → IsTooDeep two_ways 1 x → ⊥
not_too_deep_for_one = is_not_too_deep two_ways 1 refl

-- S = E<"a">; E<T> = { L1 T, L2 T "x", L3 T "y" }: each pass-down in an instance deepens by one
abbrev passes_down : EnabledGrammar
passes_down = enabled_grammar finds [] (grammar (rule_of "S" (alt (of_macro "E" (lit "a" ∷ []) ∷ []) ∷ [])
    ∷ macro_of "E" ("T" ∷ []) (with (level "1" ∷ []) (id "T" ∷ []) ∷ with (level "2" ∷ []) (id "T" ∷ lit "x" ∷ [])
    ∷ with (level "3" ∷ []) (id "T" ∷ lit "y" ∷ []) ∷ []) ∷ []))

abbrev e_at : ℕ → Closed
e_at n = Closed.call (codes "E") (Closeds.more (quoted "a") Closeds.none) (Some n)

tightest_too_deep : IsTooDeep passes_down 2 (e_at 1)
tightest_too_deep = is_too_deep passes_down 2 3 (e_at 1) refl refl

levels_fit_three : (x : Closed) → IsTooDeep passes_down 3 x → ⊥
levels_fit_three = is_not_too_deep passes_down 3 refl

-- E = { L1 "a", L2 "b", L3 "c" }: in a rule that is no macro a pass-down is no call
abbrev no_macro : EnabledGrammar
no_macro = enabled_grammar finds []
    (grammar (rule_of "E" (with (level "1" ∷ []) (lit "a" ∷ []) ∷ with (level "2" ∷ []) (lit "b" ∷ [])
    ∷ with (level "3" ∷ []) (lit "c" ∷ []) ∷ []) ∷ []))

no_calls : (x : Closed) → IsTooDeep no_macro 0 x → ⊥
no_calls = is_not_too_deep no_macro 0 refl

-- S = A<"a">; A<T> = "b" A<(T "x")>: no limit is enough
abbrev endless : EnabledGrammar
endless = enabled_grammar finds [] (grammar (rule_of "S" (alt (of_macro "A" (lit "a" ∷ []) ∷ []) ∷ [])
    ∷ macro_of "A" ("T" ∷ []) (alt (lit "b" ∷ of_macro "A" (in_group (id "T" ∷ lit "x" ∷ []) ∷ []) ∷ []) ∷ []) ∷ []))

endless_too_deep : IsTooDeep endless 3 (of_one "A" (pair (pair (pair (quoted "a") (quoted "x")) (quoted "x")) (quoted "x")))
endless_too_deep =
    is_too_deep endless 3 4 (of_one "A" (pair (pair (pair (quoted "a") (quoted "x")) (quoted "x")) (quoted "x"))) refl refl

-- S = A<"a">; A<T> = { T, A<T> "x" }: a call of itself is no other call
abbrev recursive : EnabledGrammar
recursive = enabled_grammar finds [] (grammar (rule_of "S" (alt (of_macro "A" (lit "a" ∷ []) ∷ []) ∷ [])
    ∷ macro_of "A" ("T" ∷ []) (alt (id "T" ∷ []) ∷ alt (of_macro "A" (id "T" ∷ []) ∷ lit "x" ∷ []) ∷ []) ∷ []))

one_is_enough : (x : Closed) → IsTooDeep recursive 1 x → ⊥
one_is_enough = is_not_too_deep recursive 1 refl

zero_is_not : IsTooDeep recursive 0 (of_one "A" (quoted "a"))
zero_is_not = is_too_deep recursive 0 1 (of_one "A" (quoted "a")) refl refl

-- S = E<"n">; E<K> = { "n" if K == "n", F<K> if K == "m" }; F<T> = T: an alternative whose condition fails calls nothing
abbrev conditional : EnabledGrammar
conditional = enabled_grammar finds [] (grammar (rule_of "S" (alt (of_macro "E" (lit "n" ∷ []) ∷ []) ∷ [])
    ∷ macro_of "E" ("K" ∷ []) (on_K ConditionTest.equals "n" (lit "n" ∷ [])
    ∷ on_K ConditionTest.equals "m" (of_macro "F" (id "K" ∷ []) ∷ [])
    ∷ []) ∷ macro_of "F" ("T" ∷ []) (alt (id "T" ∷ []) ∷ []) ∷ []))

no_call_under_false : (x : Closed) → IsTooDeep conditional 1 x → ⊥
no_call_under_false = is_not_too_deep conditional 1 refl
