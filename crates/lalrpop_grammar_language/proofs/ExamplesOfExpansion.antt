-- Computed examples of closed symbols and of labelled productions, and near misses that are none.
use Prim.Native.String.{String}
use Rattle.std.proofs.Common.{◌≡◌, ◌≢◌, ℕ, List, [], ◌∷◌, refl, ap, inl, inr, arith}
use Rattle.std.specs.Prelude.{Some, None, codes, map}
use Rattle.lalrpop_grammar_symbols.specs.Symbols.{Closed, Terminal, Op, Closeds, Sym}
use Rattle.lalrpop_grammar.specs.WrittenGrammar.{Origin, ConditionTest}
use Rattle.lalrpop_grammar_language.specs.Enabled.{EnabledGrammar, EnabledRule, enabled_grammar, rules_named}
use Rattle.lalrpop_grammar_language.specs.Levels.{ranked_choices}
use Rattle.lalrpop_grammar_language.specs.Closing.{right_side}
use Rattle.lalrpop_grammar_language.specs.Expansion.{RightSide, grammar_symbol, Produces, IsWrittenProduction, WrittenLabel, GrammarSymbol}
use Rattle.lalrpop_grammar_language.specs.Expansion.{Nonterminal}
use Rattle.lalrpop_grammar_language.proofs.WrittenTreeLemmas.{here, lit, id, of_macro, some_of, level, side, with, alt, if_so, rule_of}
use Rattle.lalrpop_grammar_language.proofs.WrittenTreeLemmas.{macro_of, grammar, finds}

abbrev l : String → Closed
l s = Closed.terminal (Terminal.quoted (codes s))

abbrev sides_of : EnabledGrammar → List EnabledRule → List (List Closed)
sides_of g [] = []
sides_of g (r ∷ rs) = map (λ p. right_side g r [] p) (ranked_choices r)

-- E = { L1 "n", L2 right E "?" E ":" E, L3 left M<E> E+ "-" E }; M<T> = T "x" E
abbrev levels : EnabledGrammar
levels = enabled_grammar finds [] (grammar (rule_of "E" (
    with (level "1" ∷ []) (lit "n" ∷ [])
    ∷ with (level "2" ∷ side "right" ∷ []) (id "E" ∷ lit "?" ∷ id "E" ∷ lit ":" ∷ id "E" ∷ [])
    ∷ with (level "3" ∷ side "left" ∷ []) (of_macro "M" (id "E" ∷ []) ∷ some_of (id "E") ∷ lit "-" ∷ id "E" ∷ []) ∷ [])
    ∷ macro_of "M" ("T" ∷ []) (alt (id "T" ∷ lit "x" ∷ id "E" ∷ []) ∷ []) ∷ []))

abbrev e_at : ℕ → Closed
e_at n = Closed.call (codes "E") Closeds.none (Some n)

-- `right` gives the last occurrence the level itself, `left` the first, which is an argument here
closed_symbols : sides_of levels (rules_named levels (codes "E"))
    ≡ (l "n" ∷ [])
    ∷ (e_at 1 ∷ l "?" ∷ e_at 1 ∷ l ":" ∷ e_at 2 ∷ [])
    ∷ (Closed.call (codes "M") (Closeds.more (e_at 3) Closeds.none) None ∷ Closed.repeat Op.plus (e_at 2) ∷ l "-" ∷ e_at 2 ∷
    []) ∷ []
closed_symbols = refl

abbrev instance_sides : List EnabledRule → List (List Closed)
instance_sides [] = []
instance_sides (r ∷ rs) = map (λ p. right_side levels r ((codes "T", e_at 2) ∷ []) p) (ranked_choices r)

-- in an instance the parameter keeps its level, and another occurrence is at the loosest
closed_instance : instance_sides (rules_named levels (codes "M")) ≡ (e_at 2 ∷ l "x" ∷ e_at 3 ∷ []) ∷ []
closed_instance = refl

-- S = { "a", "a" }
abbrev alike : EnabledGrammar
alike = enabled_grammar finds [] (grammar (rule_of "S" (alt (lit "a" ∷ []) ∷ alt (lit "a" ∷ []) ∷ []) ∷ []))

abbrev label : ℕ → WrittenLabel
label place = record {
  head = Nonterminal.closed (Closed.call (codes "S") Closeds.none None);
  choice = Origin.alternative (codes "S") [] place;
}

abbrev a_side : RightSide
a_side = GrammarSymbol.terminal (Terminal.quoted (codes "a")) ∷ []

-- two productions with equal symbols have labels of their own
first_label : IsWrittenProduction alike (label 0) a_side
first_label = inl (record {
  rule = _;
  choice = _;
  fits = record { rule = refl; arguments = refl; written = inl refl; leveled = refl; holds = tt };
  level_is = refl;
  origin_is = refl;
  side_is = refl;
})

second_label : IsWrittenProduction alike (label 1) a_side
second_label = inl (record {
  rule = _;
  choice = _;
  fits = record { rule = refl; arguments = refl; written = inr (inl refl); leveled = refl; holds = tt };
  level_is = refl;
  origin_is = refl;
  side_is = refl;
})

different_labels : label 0 ≢ label 1
different_labels e =
    let f : Origin.alternative (codes "S") [] 0 ≡ Origin.alternative (codes "S") [] 1 = ap (λ x. x.choice) e in
    let places : ◌≡◌ {A = ℕ} 0 1 = cc in
    omega (arith, places)

-- the start's production
start_label : Produces alike (Nonterminal.start (codes "S")) Origin.start
    (GrammarSymbol.nonterminal (Nonterminal.closed (Closed.call (codes "S") Closeds.none None)) ∷ [])
start_label = (_, refl, refl, refl, refl, refl)

-- E<K> = { L1 "n" if K == "x", L2 "m" }
abbrev emptied : EnabledGrammar
emptied = enabled_grammar finds [] (grammar (macro_of "E" ("K" ∷ []) (
    if_so (level "1" ∷ []) (Some (record { place = here; parameter = codes "K"; test = ConditionTest.equals; against = codes "x" }))
    (lit "n" ∷ [])
    ∷ with (level "2" ∷ []) (lit "m" ∷ []) ∷ []) ∷ []))

abbrev E_at : String → ℕ → Closed
E_at s n = Closed.call (codes "E") (Closeds.more (l s) Closeds.none) (Some n)

-- no macro is a start
no_macro_start : (o : Origin) (side : RightSide) → Produces emptied (Nonterminal.start (codes "E")) o side → ⊥
no_macro_start o side m =
    let none = m.2 in
    let rule_is : rules_named emptied (codes "E") ≡ m.0 ∷ [] = m.1 in
    let parameters : codes "K" ∷ [] ≡ m.0.parameters = ap parameters_of rule_is in
    cc
  where
    parameters_of : List EnabledRule → List (List ℕ)
    parameters_of [] = []
    parameters_of (r ∷ rs) = r.parameters

-- the tighter level is passed down to, though the condition empties it
passed_down : Produces emptied (Nonterminal.closed (E_at "y" 2)) Origin.pass_down
    (GrammarSymbol.nonterminal (Nonterminal.closed (E_at "y" 1)) ∷ [])
passed_down = inr (record {
  rule = _;
  is_rule = refl;
  arguments = refl;
  from = 2;
  to = 1;
  from_is = refl;
  to_is = refl;
  origin_is = refl;
  side_is = refl;
})

tighter_there : Produces emptied (Nonterminal.closed (E_at "x" 1))
    (Origin.alternative (codes "E") (Sym.terminal tt (Terminal.quoted (codes "x")) ∷ []) 0)
    (GrammarSymbol.terminal (Terminal.quoted (codes "n")) ∷ [])
tighter_there = inl (record {
  rule = _;
  choice = _;
  fits = record { rule = refl; arguments = refl; written = inl refl; leveled = refl; holds = refl };
  level_is = refl;
  origin_is = refl;
  side_is = refl;
})

-- names and choices leave no trace in a right side, and are part of a symbol
choices_transparent : grammar_symbol (Closed.choose (l "a")) ≡ grammar_symbol (l "a")
choices_transparent = refl

choices_kept : Closed.repeat Op.plus (Closed.choose (l "a")) ≢ Closed.repeat Op.plus (l "a")
choices_kept e = let f : Closed.choose (l "a") ≡ l "a" = cc in cc
