-- Computed examples of leveled grammars, and answers that are refused.
use Prim.Native.String.{String}
use Rattle.std.specs.Str.{bytes_eq}
use Rattle.std.proofs.Common.{◌≡◌, ℕ, List, [], ◌∷◌, refl, ap, sym, Bool, true, false}
use Rattle.std.specs.Prelude.{Option, Some, None, codes, map, ◌==◌, ◌&&◌, if◌then◌else◌}
use Rattle.std.proofs.lemmas.Bool.{true≢false}
use Rattle.lalrpop_grammar_symbols.specs.Symbols.{Text, WrittenSymbol, Sym}
use Rattle.lalrpop_grammar.specs.WrittenGrammar.{Action, Origin, Alternative, Condition, ConditionTest, Rule, WrittenItem, Grammar}
use Rattle.lalrpop_grammar.specs.WrittenGrammar.{rules_of}
use Rattle.lalrpop_grammar_language.proofs.WrittenTreeLemmas.{here, lit, id, of_macro, many_of, in_group, level, side, with, alt, if_so}
use Rattle.lalrpop_grammar_language.proofs.WrittenTreeLemmas.{of_parts, texts, grammar}
use Rattle.lalrpop_norm_theory.specs.LeveledGrammar.{falling_levels, leveled_grammar}

-- short ways to write resolved grammars

abbrev pub in_rule : Text → ℕ → Alternative → Alternative
in_rule n place a = record a { origin = Origin.alternative n [] place }

-- the alternative of the rule at a place
abbrev pub at : String → ℕ → Alternative → Alternative
at n place a = in_rule (codes n) place a

-- a name that is resolved to a rule
abbrev pub nonterminal : String → WrittenSymbol
nonterminal n = Sym.nonterminal here (codes n)

-- a rule without attributes and without a declared type, at the one place of the examples
abbrev pub written_rule : Bool → String → List String → List Alternative → Rule
written_rule public n parameters alternatives = record {
  public = public;
  name = codes n;
  attributes = [];
  span = here;
  parameters = texts parameters;
  declared = None;
  alternatives = alternatives;
}

-- a rule of that kind as an item of a grammar
abbrev pub item : Bool → String → List String → List Alternative → WrittenItem
item public n parameters alternatives = WrittenItem.nonterminal (written_rule public n parameters alternatives)

-- the names of levels: those that are listed, else the rule's
abbrev pub names : List (String × ℕ × String) → Text → ℕ → Text
names [] n l = n
names (k ∷ ks) n l = if bytes_eq n (codes k.0) && (l == k.1) then codes k.2 else names ks n l

-- a pass to a tighter level, last in its rule
abbrev pub down : WrittenSymbol → Alternative
down x = record {
  span = here;
  expr = x ∷ [];
  condition = None;
  action = Action.default;
  attributes = [];
  origin = Origin.pass_down;
}

-- levels are put in order, each once
falling : falling_levels (3 ∷ 1 ∷ 3 ∷ 12 ∷ 1 ∷ []) ≡ 12 ∷ 3 ∷ 1 ∷ []
falling = refl

-- pub E = { L1 "n", L2 left E "*" E, L3 right E "^" E, L4 none E "<" E, L5 all E "," E }
abbrev pub five_levels : Grammar
five_levels = grammar (item true "E" [] (at "E" 0 (with (level "1" ∷ []) (lit "n" ∷ []))
    ∷ at "E" 1 (with (level "2" ∷ side "left" ∷ []) (nonterminal "E" ∷ lit "*" ∷ nonterminal "E" ∷ []))
    ∷ at "E" 2 (with (level "3" ∷ side "right" ∷ []) (nonterminal "E" ∷ lit "^" ∷ nonterminal "E" ∷ []))
    ∷ at "E" 3 (with (level "4" ∷ side "none" ∷ []) (nonterminal "E" ∷ lit "<" ∷ nonterminal "E" ∷ []))
    ∷ at "E" 4 (with (level "5" ∷ side "all" ∷ []) (nonterminal "E" ∷ lit "," ∷ nonterminal "E" ∷ [])) ∷ []) ∷ [])

-- the names of those levels: each has its number behind it, and the loosest, 5, keeps the name of the rule
abbrev pub five_names : Text → ℕ → Text
five_names = names (("E", 1, "E1") ∷ ("E", 2, "E2") ∷ ("E", 3, "E3") ∷ ("E", 4, "E4") ∷ [])

-- what they become: as given, whether tighter levels are public, and where the loosest passes down
abbrev five_rules : Bool → String → ℕ → Grammar
five_rules tight_public to place = grammar (item true "E" []
    (at "E" place (alt (nonterminal "E" ∷ lit "," ∷ nonterminal "E" ∷ [])) ∷ down (nonterminal to) ∷ [])
    ∷ item tight_public "E4" [] (at "E" 3 (alt (nonterminal "E3" ∷ lit "<" ∷ nonterminal "E3" ∷ [])) ∷ down (nonterminal "E3")
    ∷ [])
    ∷ item tight_public "E3" [] (at "E" 2 (alt (nonterminal "E2" ∷ lit "^" ∷ nonterminal "E3" ∷ [])) ∷ down (nonterminal "E2")
    ∷ [])
    ∷ item tight_public "E2" [] (at "E" 1 (alt (nonterminal "E2" ∷ lit "*" ∷ nonterminal "E1" ∷ [])) ∷ down (nonterminal "E1")
    ∷ [])
    ∷ item tight_public "E1" [] (at "E" 0 (alt (lit "n" ∷ [])) ∷ []) ∷ [])

five_leveled : leveled_grammar five_names five_levels ≡ five_rules false "E4" 4
five_leveled = refl

-- levels that others see are refused
abbrev publics : Grammar → List Bool
publics g = map (λ r. r.public) (rules_of g.items)

abbrev second_public : Grammar → Bool
second_public g = second (publics g)
  where
    second : List Bool → Bool
    second (a ∷ b ∷ more) = b
    second (a ∷ []) = false
    second [] = false

public_levels_refused : leveled_grammar five_names five_levels ≡ five_rules true "E4" 4 → ⊥
public_levels_refused e = let t : false ≡ true = ap second_public e in true≢false (sym t)

-- and so are a pass from the loosest to the tightest, and places counted anew
abbrev loosest_alternatives : Grammar → List Alternative
loosest_alternatives g = of_first (rules_of g.items)
  where
    of_first : List Rule → List Alternative
    of_first [] = []
    of_first (r ∷ rs) = r.alternatives

abbrev passes_to : Text → Grammar → Bool
passes_to n g = last (loosest_alternatives g)
  where
    of_symbols : List WrittenSymbol → Bool
    of_symbols (Sym.nonterminal p m ∷ xs) = bytes_eq n m
    of_symbols xs = false

    last : List Alternative → Bool
    last [] = false
    last (a ∷ []) = of_symbols a.expr
    last (a ∷ b ∷ more) = last (b ∷ more)

pass_to_tightest_refused : leveled_grammar five_names five_levels ≡ five_rules false "E1" 4 → ⊥
pass_to_tightest_refused e = let t : true ≡ false = ap (passes_to (codes "E4")) e in true≢false t

abbrev first_place : Grammar → ℕ
first_place g = of_first (loosest_alternatives g)
  where
    place_of : Origin → ℕ
    place_of (Origin.alternative n args place) = place
    place_of o = 9

    of_first : List Alternative → ℕ
    of_first [] = 9
    of_first (a ∷ more) = place_of a.origin

new_places_refused : leveled_grammar five_names five_levels ≡ five_rules false "E4" 0 → ⊥
new_places_refused e = let t : true ≡ false = ap (λ g. first_place g == 4) e in true≢false t

-- pub E = { L3 left E "+" E, E "-" E, L1 "n" if .., L3 E "or" E }: levels in any order; one without a level has that of the one before
-- it, with its side; a level that is written again sets the side to all; conditions stay
abbrev condition : Option Condition
condition = Some (record { place = here; parameter = codes "K"; test = ConditionTest.equals; against = codes "k" })

abbrev of_K : String → WrittenSymbol
of_K n = of_macro n (id "K" ∷ [])

abbrev unordered : Grammar
unordered = grammar (item true "E" ("K" ∷ [])
    (at "E" 0 (with (level "3" ∷ side "left" ∷ []) (of_K "E" ∷ lit "+" ∷ of_K "E" ∷ []))
    ∷ at "E" 1 (alt (of_K "E" ∷ lit "-" ∷ of_K "E" ∷ []))
    ∷ at "E" 2 (if_so (level "1" ∷ of_parts "other" [] ∷ []) condition (lit "n" ∷ []))
    ∷ at "E" 3 (with (level "3" ∷ []) (of_K "E" ∷ lit "or" ∷ of_K "E" ∷ [])) ∷ []) ∷ [])

unordered_leveled : leveled_grammar (names (("E", 1, "E1") ∷ [])) unordered
    ≡ grammar (item true "E" ("K" ∷ []) (at "E" 0 (alt (of_K "E" ∷ lit "+" ∷ of_K "E1" ∷ []))
    ∷ at "E" 1 (alt (of_K "E" ∷ lit "-" ∷ of_K "E1" ∷ [])) ∷ at "E" 3 (alt (of_K "E" ∷ lit "or" ∷ of_K "E" ∷ []))
    ∷ down (of_K "E1") ∷ [])
    ∷ item false "E1" ("K" ∷ []) (at "E" 2 (if_so (of_parts "other" [] ∷ []) condition (lit "n" ∷ [])) ∷ []) ∷ [])
unordered_leveled = refl

-- pub E = { L1 "n", L2 right (C<E> ",")* E C<E> }; C<T> = T; S = E "." : occurrences stand in groups, repeats and arguments, the
-- last of them in an argument; outside the rule's name stays, and so do rules without levels
abbrev arguments : Grammar
arguments = grammar (item true "E" [] (at "E" 0 (with (level "1" ∷ []) (lit "n" ∷ []))
    ∷ at "E" 1 (with (level "2" ∷ side "right" ∷ []) (many_of (in_group (of_macro "C" (nonterminal "E" ∷ []) ∷ lit "," ∷ []))
    ∷ nonterminal "E" ∷ of_macro "C" (nonterminal "E" ∷ []) ∷ [])) ∷ [])
    ∷ item false "C" ("T" ∷ []) (at "C" 0 (alt (id "T" ∷ [])) ∷ [])
    ∷ item false "S" [] (at "S" 0 (with (side "up" ∷ []) (nonterminal "E" ∷ lit "." ∷ [])) ∷ []) ∷ [])

arguments_leveled : leveled_grammar (names (("E", 1, "E1") ∷ [])) arguments
    ≡ grammar (item true "E" [] (at "E" 1 (alt (many_of (in_group (of_macro "C" (nonterminal "E1" ∷ []) ∷ lit "," ∷ []))
    ∷ nonterminal "E1" ∷ of_macro "C" (nonterminal "E" ∷ []) ∷ [])) ∷ down (nonterminal "E1") ∷ [])
    ∷ item false "E1" [] (at "E" 0 (alt (lit "n" ∷ [])) ∷ [])
    ∷ item false "C" ("T" ∷ []) (at "C" 0 (alt (id "T" ∷ [])) ∷ [])
    ∷ item false "S" [] (at "S" 0 (with (side "up" ∷ []) (nonterminal "E" ∷ lit "." ∷ [])) ∷ []) ∷ [])
arguments_leveled = refl

-- E<T> = { L1 T, L2 left E<E<T>> }: a call stands before its arguments
call_first : leveled_grammar (names (("E", 1, "E1") ∷ [])) (grammar (item false "E" ("T" ∷ [])
    (at "E" 0 (with (level "1" ∷ []) (id "T" ∷ []))
    ∷ at "E" 1 (with (level "2" ∷ side "left" ∷ []) (of_macro "E" (of_macro "E" (id "T" ∷ []) ∷ []) ∷ [])) ∷ []) ∷ []))
    ≡ grammar (item false "E" ("T" ∷ []) (at "E" 1 (alt (of_macro "E" (of_macro "E1" (id "T" ∷ []) ∷ []) ∷ []))
    ∷ down (of_macro "E1" (id "T" ∷ [])) ∷ [])
    ∷ item false "E1" ("T" ∷ []) (at "E" 0 (alt (id "T" ∷ [])) ∷ []) ∷ [])
call_first = refl

-- pub S = E<"a">; E<E1> = { L1 E1, L2 left E<E1> "+" E<E1> }: the level's macro has another name than the parameter, which stays
abbrev pub parameter_named : Grammar
parameter_named = grammar (item true "S" [] (at "S" 0 (alt (of_macro "E" (lit "a" ∷ []) ∷ [])) ∷ [])
    ∷ item false "E" ("E1" ∷ []) (at "E" 0 (with (level "1" ∷ []) (id "E1" ∷ []))
    ∷ at "E" 1 (with (level "2" ∷ side "left" ∷ [])
    (of_macro "E" (id "E1" ∷ []) ∷ lit "+" ∷ of_macro "E" (id "E1" ∷ []) ∷ []))
    ∷ []) ∷ [])

parameter_leveled : leveled_grammar (names (("E", 1, "E1~2") ∷ [])) parameter_named
    ≡ grammar (item true "S" [] (at "S" 0 (alt (of_macro "E" (lit "a" ∷ []) ∷ [])) ∷ [])
    ∷ item false "E" ("E1" ∷ []) (at "E" 1 (alt (of_macro "E" (id "E1" ∷ []) ∷ lit "+" ∷ of_macro "E1~2" (id "E1" ∷ []) ∷ []))
    ∷ down (of_macro "E1~2" (id "E1" ∷ [])) ∷ [])
    ∷ item false "E1~2" ("E1" ∷ []) (at "E" 0 (alt (id "E1" ∷ [])) ∷ []) ∷ [])
parameter_leveled = refl

-- E<E, F> = { L1 F, L2 left E "+" E }: a parameter hides the rule, and is no occurrence of it
own_parameter : leveled_grammar (names (("E", 1, "E1") ∷ [])) (grammar (item false "E" ("E" ∷ "F" ∷ [])
    (at "E" 0 (with (level "1" ∷ []) (id "F" ∷ []))
    ∷ at "E" 1 (with (level "2" ∷ side "left" ∷ []) (id "E" ∷ lit "+" ∷ id "E" ∷ [])) ∷ []) ∷ []))
    ≡ grammar (item false "E" ("E" ∷ "F" ∷ []) (at "E" 1 (alt (id "E" ∷ lit "+" ∷ id "E" ∷ []))
    ∷ down (of_macro "E1" (id "E" ∷ id "F" ∷ [])) ∷ [])
    ∷ item false "E1" ("E" ∷ "F" ∷ []) (at "E" 0 (alt (id "F" ∷ [])) ∷ []) ∷ [])
own_parameter = refl

-- one level alone: each occurrence is the whole rule, and nothing passes down
one_level : leveled_grammar (names []) (grammar (item true "E" [] (at "E" 0 (with (level "7" ∷ []) (nonterminal "E" ∷ lit "a" ∷ []))
    ∷ []) ∷ []))
    ≡ grammar (item true "E" [] (at "E" 0 (alt (nonterminal "E" ∷ lit "a" ∷ [])) ∷ []) ∷ [])
one_level = refl

-- nothing, and a rule without alternatives
empty_rule : leveled_grammar (names []) (grammar (item true "E" [] [] ∷ [])) ≡ grammar (item true "E" [] [] ∷ [])
empty_rule = refl
