-- Computed examples of what the pass over macros tells, and near misses.
use Rattle.std.proofs.Common.{◌≡◌, List, [], ◌∷◌, refl, ap, sym, ◌∙◌, inl, inr, ◌⊎◌, subst, arith}
use Rattle.std.specs.Prelude.{Bool, true, false, is_none, Some, None, Option, codes}
use Rattle.std.specs.List.{list_all}
use Rattle.std.proofs.lemmas.Bool.{true≢false}
use Rattle.lalrpop_grammar_symbols.specs.Symbols.{Text, TextSpan, Terminal, WrittenSymbol, Closed, Closeds}
use Rattle.lalrpop_grammar_symbols.specs.declared.span.Span.{Span}
use Rattle.lalrpop_grammar.specs.WrittenGrammar.{Condition, ConditionTest, Grammar, Origin}
use Rattle.lalrpop_grammar_language.specs.Among.{Among}
use Rattle.lalrpop_grammar_language.specs.Enabled.{EnabledGrammar, EnabledRule, Choice, IsRule, choice_of}
use Rattle.lalrpop_grammar_language.specs.Levels.{Rank, ranked_choices}
use Rattle.lalrpop_grammar_language.specs.Closing.{Binding}
use Rattle.lalrpop_grammar_language.specs.Admitting.{bind}
use Rattle.lalrpop_grammar_language.specs.Expansion.{Nonterminal}
use Rattle.lalrpop_grammar_language.proofs.WrittenTreeLemmas.{alt, finds, grammar, here, id, lit, macro_of, of_macro, on_K, rule_of}
use Rattle.lalrpop_grammar_repr.specs.declared.norm_error.NormError.{NormError}
use Rattle.lalrpop_grammar_repr.specs.declared.norm_error.NormErrorKind.{NormErrorKind}
use Rattle.lalrpop_grammar_repr.specs.declared.norm_error.NormErrorKind.TheVariants as kinds
use Rattle.lalrpop_grammar_repr.specs.declared.session.NormFault.TheVariants as faults
use Rattle.lalrpop_norm_theory.specs.Between.{grammar_between}
use Rattle.lalrpop_norm_theory.proofs.ClosedComparisonLemmas.{all-each}
use Rattle.lalrpop_norm_theory.proofs.ExpansionListLemmas.{is_not_too_deep, is_root, is_too_deep, listed-chain, root-listed, rule_there}
use Rattle.lalrpop_grammar_rules.specs.Finding.{IsSearch}
use Rattle.lalrpop_norm_theory.specs.CallPlaces.{CountedSymbol, IsPlaceBelow, IsPlaceInSide, IsPlaceOfCall, place_of_symbol}
use Rattle.lalrpop_norm_theory.specs.CallPlaces.{symbols_within}
use Rattle.lalrpop_norm_keys.specs.FoundCalls.{TellsOfMadeCall}
use Rattle.lalrpop_norm_keys.specs.MacroFaults.{ConditionError, TellsOfAlternative}
use Rattle.lalrpop_norm_chain.specs.MadeConditions.{HasWrongCondition}
use Rattle.lalrpop_norm_macros.specs.MacroPass.{HasNoMacroFault, TellsDepth, TellsOfMacros}

abbrev never : Text → Bool
never t = false

abbrev error_of : NormErrorKind → Span → NormError
error_of kind s = record { kind = kind; span = s }

-- no alternative of the rule has a condition
abbrev unconditional : EnabledRule → Bool
unconditional r = list_all (λ (p : Choice × Option Rank). is_none p.0.condition) (ranked_choices r)

none_asked : (g : EnabledGrammar) → list_all unconditional g.rules ≡ true → (deep : Text → Bool) (e : ConditionError)
    → HasWrongCondition g deep e → ⊥
none_asked g all deep e u =
    let r = all-each unconditional g.rules all u.there.rule (rule_there g u.name u.there.rule u.there.is_rule).0 in
    let c = all-each (λ (p : Choice × Option Rank). is_none p.0.condition) (ranked_choices u.there.rule) r u.there.choice
    u.there.among in
    true≢false (sym c ∙ ap is_none u.there.condition)

-- S = M<what is given>; M<T> = { T, M<T> "x" }
abbrev recursive : List WrittenSymbol → Grammar
recursive args = grammar (rule_of "S" (alt (of_macro "M" args ∷ []) ∷ [])
    ∷ macro_of "M" ("T" ∷ []) (alt (id "T" ∷ []) ∷ alt (of_macro "M" (id "T" ∷ []) ∷ lit "x" ∷ []) ∷ []) ∷ [])

abbrev one : Grammar
one = recursive (lit "a" ∷ [])

abbrev call : Closed
call = Closed.call (codes "M") (Closeds.more (Closed.terminal (Terminal.quoted (codes "a"))) Closeds.none) None

-- a call of itself is no other call, so one is deep enough
nothing_wrong : HasNoMacroFault finds never 1 one
nothing_wrong = record {
  arity = refl;
  depth = is_not_too_deep (grammar_between finds one) 1 refl;
  conditions = none_asked (grammar_between finds one) refl never;
}

-- but none isn't, and the call is told where S has it
abbrev called : WrittenSymbol
called = of_macro "M" (lit "a" ∷ [])

abbrev start_call : Closed
start_call = Closed.call (codes "S") Closeds.none None

abbrev start_choice : Choice
start_choice = choice_of (Origin.start, alt (called ∷ []))

abbrev start_rule : EnabledRule
start_rule = record {
  name = codes "S";
  public = true;
  inlined = false;
  parameters = [];
  declared = None;
  choices = start_choice ∷ [];
}

call_placed : IsPlaceBelow (grammar_between finds one) 0 call here
call_placed = (
  start_call,
  is_root (grammar_between finds one) (Nonterminal.closed start_call) (inr (inl refl)),
  record {
    name = codes "S";
    args = Closeds.none;
    level = None;
    call_is = refl;
    rule = start_rule;
    choice = (start_choice, None);
    fits = record { rule = refl; arguments = refl; written = inl refl; leveled = refl; holds = tt };
    level_is = refl;
    place = record {
      top = (0, called);
      among = inl refl;
      sound = refl;
      innermost = record {
        symbol = (0, called);
        stands = inl refl;
        has_call = inl refl;
        innermost = λ z i c. i;
        place = refl;
      };
    };
  },
)

abbrev at_start : Span
at_start = record { 0 = 0; 1 = 0 }

depth_told : TellsOfMacros finds never 0 one (faults.Norm (error_of (kinds.MacroDepth 0) at_start))
depth_told = TellsOfMacros.depth (refl, (call, is_too_deep (grammar_between finds one) 0 1 call refl refl, call_placed))

none_refused : HasNoMacroFault finds never 0 one → ⊥
none_refused h = h.depth call (is_too_deep (grammar_between finds one) 0 1 call refl refl)

-- nor is it told elsewhere
module _ (x : Closed) (p : TextSpan) where
  in_side : (b : Binding) (z : CountedSymbol) → ((0, called) ≡ z) ⊎ ⊥ → (y : CountedSymbol)
      → (z ≡ y) ⊎ Among (symbols_within b (codes "S") z.0 z.1) y → place_of_symbol y.1 ≡ p → p ≡ here
  in_side b z (inl e) y (inl f) at = sym at ∙ ap (λ (v : CountedSymbol). place_of_symbol v.1) (sym (e ∙ f))
  in_side b z (inl e) y (inr i) at =
      absurd (subst (λ (v : CountedSymbol). Among (symbols_within b (codes "S") v.0 v.1) y) (sym e) i)
  in_side b z (inr i) y k at = absurd i

  in_choice : (b : Binding) (c : Choice × Option Rank) → ((start_choice, None) ≡ c) ⊎ ⊥
      → IsPlaceInSide (grammar_between finds one) start_rule b c x p → p ≡ here
  in_choice b c (inl e) q =
      let s = subst (λ d. IsPlaceInSide (grammar_between finds one) start_rule b d x p) (sym e) q in
      in_side b s.top s.among s.innermost.symbol s.innermost.stands s.innermost.place
  in_choice b c (inr i) q = absurd i

  in_call : IsPlaceOfCall (grammar_between finds one) start_call x p → p ≡ here
  in_call q =
      let call_is : Closed.call (codes "S") Closeds.none None ≡ Closed.call q.name q.args q.level = q.call_is in
      let name : codes "S" ≡ q.name = cc in
      let only : start_rule ∷ [] ≡ q.rule ∷ [] = subst (λ n. IsRule (grammar_between finds one) n q.rule) (sym name) q.fits.rule in
      let same : start_rule ≡ q.rule = cc in
      in_choice (bind q.rule q.args) q.choice
      (subst (λ (r : EnabledRule). Among (ranked_choices r) q.choice) (sym same) q.fits.written)
      (subst (λ r. IsPlaceInSide (grammar_between finds one) r (bind q.rule q.args) q.choice x p) (sym same) q.place)

  placed_here : IsPlaceBelow (grammar_between finds one) 0 x p → p ≡ here
  placed_here (y, r, q) = go (root-listed (grammar_between finds one) (Nonterminal.closed y) r)
    where
      go : (Nonterminal.start (codes "S") ≡ Nonterminal.closed y) ⊎ ((Nonterminal.closed start_call ≡ Nonterminal.closed y) ⊎ ⊥)
          → p ≡ here
      go (inl e) = cc
      go (inr (inl e)) =
          let same : start_call ≡ y = cc in in_call (subst (λ v. IsPlaceOfCall (grammar_between finds one) v x p) (sym same) q)
      go (inr (inr i)) = absurd i

abbrev elsewhere : Span
elsewhere = record { 0 = 1; 1 = 1 }

other_place_refused : TellsDepth (grammar_between finds one) 0 (faults.Norm (error_of (kinds.MacroDepth 0) elsewhere)) → ⊥
other_place_refused t =
    let e : (1, 1) ≡ here = placed_here t.1.0 (1, 1) t.1.2 in
    let wrong : 1 ≡ 0 = ap (λ (q : TextSpan). q.0) e in omega (arith, wrong)

-- another depth isn't told, nor one that is kept
other_depth_refused : (s : Span) → TellsDepth (grammar_between finds one) 0 (faults.Norm (error_of (kinds.MacroDepth 1) s)) → ⊥
other_depth_refused s t = let e : kinds.MacroDepth 1 ≡ kinds.MacroDepth 0 = t.0 in cc

kept_depth_refused : (s : Span) → TellsDepth (grammar_between finds one) 1 (faults.Norm (error_of (kinds.MacroDepth 1) s)) → ⊥
kept_depth_refused s t = is_not_too_deep (grammar_between finds one) 1 refl t.1.0 t.1.1

-- two arguments for one parameter
number_told : TellsOfMacros finds never 1 (recursive (lit "a" ∷ lit "b" ∷ []))
    (faults.Norm (error_of kinds.WrongNumberOfArguments (record { 0 = 0; 1 = 0 })))
number_told = TellsOfMacros.arity (refl, inl refl)

-- S = E<"n">; E<K> = "n" if K == "n": the condition limit is told of a search alone
abbrev asking : ConditionTest → Grammar
asking test = grammar (rule_of "S" (alt (of_macro "E" (lit "n" ∷ []) ∷ []) ∷ [])
    ∷ macro_of "E" ("K" ∷ []) (on_K test "n" (lit "n" ∷ []) ∷ []) ∷ [])

abbrev asked_call : Closed
asked_call = Closed.call (codes "E") (Closeds.more (Closed.terminal (Terminal.quoted (codes "n"))) Closeds.none) None

limit_told : TellsOfMacros finds never 1 (asking ConditionTest.matches) faults.ConditionLimit
limit_told = TellsOfMacros.condition (
  codes "E",
  Closeds.more (Closed.terminal (Terminal.quoted (codes "n"))) Closeds.none,
  inr (1, listed-chain (grammar_between finds (asking ConditionTest.matches)) 1 asked_call (inl refl)),
  (_, _, record { rule = _; is_rule = refl; among = inl refl; binding_is = refl }, tt),
)

abbrev is_equality : ConditionTest → Bool
is_equality ConditionTest.equals = true
is_equality ConditionTest.not_equals = false
is_equality ConditionTest.matches = false
is_equality ConditionTest.not_matches = false

abbrev compares : Option Condition → Bool
compares None = true
compares (Some c) = is_equality c.test

abbrev compares_alone : EnabledRule → Bool
compares_alone r = list_all (λ (c : Choice). compares c.condition) r.choices

no_limit : (g : EnabledGrammar) → list_all compares_alone g.rules ≡ true → (deep : Text → Bool)
    → TellsOfMadeCall g deep faults.ConditionLimit → ⊥
no_limit g all deep (n, args, made, (c, b, asked, told)) =
    let r = all-each compares_alone g.rules all asked.rule (rule_there g n asked.rule asked.is_rule).0 in
    of_condition c.condition (all-each (λ (c : Choice). compares c.condition) asked.rule.choices r c asked.among) told
  where
    of_test : (t : Condition) → (k : ConditionTest) → t.test ≡ k → compares (Some t) ≡ true → IsSearch k → ⊥
    of_test t ConditionTest.equals e h s = s
    of_test t ConditionTest.not_equals e h s = s
    of_test t ConditionTest.matches e h s = true≢false (sym h ∙ ap is_equality e)
    of_test t ConditionTest.not_matches e h s = true≢false (sym h ∙ ap is_equality e)

    of_condition : (o : Option Condition) → compares o ≡ true → TellsOfAlternative g.finds deep b o faults.ConditionLimit → ⊥
    of_condition None h t = cc
    of_condition (Some t) h s = of_test t t.test refl h s

limit_refused : TellsOfMacros finds never 1 (asking ConditionTest.equals) faults.ConditionLimit → ⊥
limit_refused (TellsOfMacros.arity t) = t
limit_refused (TellsOfMacros.depth t) = t
limit_refused (TellsOfMacros.condition t) = no_limit (grammar_between finds (asking ConditionTest.equals)) refl never t
