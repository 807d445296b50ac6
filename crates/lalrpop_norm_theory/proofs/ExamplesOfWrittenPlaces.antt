-- Computed examples of where calls stand in written grammars, and near misses.
use Rattle.std.proofs.Common.{◌≡◌, ℕ, ◌+◌, [], ◌∷◌, refl, ap, sym, ◌∙◌, subst, true, false}
use Rattle.std.proofs.Common.{inl, inr, ◌⊎◌, arith}
use Rattle.std.specs.Prelude.{Option, Some, None, codes}
use Rattle.lalrpop_grammar_symbols.specs.Symbols.{Text, Closed, Closeds, Op, Sym, Terminal, TextSpan, WrittenSymbol, syms}
use Rattle.lalrpop_grammar.specs.WrittenGrammar.{Action, Grammar, Origin, Rule, WrittenItem, rules_of}
use Rattle.lalrpop_grammar_language.specs.Among.{Among}
use Rattle.lalrpop_grammar_language.specs.Enabled.{Choice, EnabledGrammar, EnabledRule, IsRule, enabled_grammar, enabled_rule}
use Rattle.lalrpop_grammar_language.specs.Levels.{Assoc, Rank, ranked_choices}
use Rattle.lalrpop_grammar_language.specs.Closing.{Binding, Scope, scope_of}
use Rattle.lalrpop_grammar_language.specs.Admitting.{bind, rank_level}
use Rattle.lalrpop_grammar_language.specs.Expansion.{Nonterminal}
use Rattle.lalrpop_grammar_language.proofs.WrittenTreeLemmas.{alt, finds, grammar, here, id, level, lit, macro_of, of_macro, rule_of, with}
use Rattle.lalrpop_norm_theory.specs.Between.{enabled_part, without_disabled}
use Rattle.lalrpop_norm_theory.proofs.ExpansionListLemmas.{chain-listed, is_root, listed-chain, root-listed, roots}
use Rattle.lalrpop_norm_theory.proofs.ExpansionListLemmas as lists
use Rattle.lalrpop_norm_theory.proofs.LevelOrderLemmas.{one_rule}
use Rattle.lalrpop_norm_theory.specs.CallPlaces.{CountedSymbol, IsInnermost, IsPlaceInSide, IsPlaceOfCall, calls_at, counted_symbols}
use Rattle.lalrpop_norm_theory.specs.CallPlaces.{place_of_symbol, symbols_within}
use Rattle.lalrpop_norm_theory.specs.WrittenPlaces.{IsWrittenIn, IsWrittenPlace}
use Rattle.lalrpop_norm_theory.proofs.OccurringLemmas.{written_made}

abbrev place : ℕ → TextSpan
place n = (n, n + 1)

-- S = ("a" M<N<"b">>)*, the repeat at 1, the group at 2, the call at 4 and its argument at 5; M<T> = T?, the repeat at 11 and the
-- name at 12; N<T> = T
abbrev argument : WrittenSymbol
argument = Sym.macro (place 5) (codes "N") (syms (lit "b" ∷ []))

abbrev called : WrittenSymbol
called = Sym.macro (place 4) (codes "M") (syms (argument ∷ []))

abbrev in_repeat : WrittenSymbol
in_repeat = Sym.repeat (place 1) Op.star (Sym.expr (place 2) (syms (lit "a" ∷ called ∷ [])))

abbrev maybe_named : WrittenSymbol
maybe_named = Sym.repeat (place 11) Op.question (Sym.ambiguous_id (place 12) (codes "T"))

abbrev nested : Grammar
nested = grammar (rule_of "S" (alt (in_repeat ∷ []) ∷ []) ∷ macro_of "M" ("T" ∷ []) (alt (maybe_named ∷ []) ∷ [])
    ∷ macro_of "N" ("T" ∷ []) (alt (id "T" ∷ []) ∷ []) ∷ [])

abbrev g : EnabledGrammar
g = enabled_grammar finds [] nested

-- N<"b">, M<N<"b">> and S
abbrev inner_call : Closed
inner_call = Closed.call (codes "N") (Closeds.more (Closed.terminal (Terminal.quoted (codes "b"))) Closeds.none) None

abbrev outer_call : Closed
outer_call = Closed.call (codes "M") (Closeds.more inner_call Closeds.none) None

abbrev the_rule : Closed
the_rule = Closed.call (codes "S") Closeds.none None

abbrev one_choice : Text → WrittenSymbol → Choice
one_choice n x = record {
  origin = Origin.alternative n [] 0;
  expr = x ∷ [];
  condition = None;
  action = Action.user (codes "()");
  attributes = [];
}

abbrev s_rule : EnabledRule
s_rule = record {
  name = codes "S";
  public = true;
  inlined = false;
  parameters = [];
  declared = None;
  choices = one_choice (codes "S") in_repeat ∷ [];
}

abbrev m_rule : EnabledRule
m_rule = record {
  name = codes "M";
  public = true;
  inlined = false;
  parameters = codes "T" ∷ [];
  declared = None;
  choices = one_choice (codes "M") maybe_named ∷ [];
}

-- a call in a group in a repeat is told at its own place
call_in_group : IsWrittenPlace finds [] nested 0 outer_call (place 4)
call_in_group = (
  the_rule,
  is_root g (Nonterminal.closed the_rule) (inr (inl refl)),
  inl (record {
    name = codes "S";
    args = Closeds.none;
    level = None;
    call_is = refl;
    rule = s_rule;
    choice = (one_choice (codes "S") in_repeat, None);
    fits = record { rule = refl; arguments = refl; written = inl refl; leveled = refl; holds = tt };
    level_is = refl;
    place = record {
      top = (0, in_repeat);
      among = inl refl;
      sound = refl;
      innermost = record {
        symbol = (0, called);
        stands = inr (inr (inr (inl refl)));
        has_call = inl refl;
        innermost = λ z i c. i;
        place = refl;
      };
    };
  }),
)

-- one that comes by a parameter, at the parameter's name
call_by_parameter : IsWrittenPlace finds [] nested 1 inner_call (place 12)
call_by_parameter = (
  outer_call,
  listed-chain g 1 outer_call (inl refl),
  inl (record {
    name = codes "M";
    args = Closeds.more inner_call Closeds.none;
    level = None;
    call_is = refl;
    rule = m_rule;
    choice = (one_choice (codes "M") maybe_named, None);
    fits = record { rule = refl; arguments = refl; written = inl refl; leveled = refl; holds = tt };
    level_is = refl;
    place = record {
      top = (0, maybe_named);
      among = inl refl;
      sound = refl;
      innermost = record {
        symbol = (0, Sym.ambiguous_id (place 12) (codes "T"));
        stands = inr (inl refl);
        has_call = inl refl;
        innermost = λ z i c. i;
        place = refl;
      };
    };
  }),
)

-- S = E<"a">; E<T> = { L1 T, L2 T "x" }, the macro at 20
abbrev e_rule : Rule
e_rule = record {
  public = true;
  name = codes "E";
  attributes = [];
  span = place 20;
  parameters = codes "T" ∷ [];
  declared = None;
  alternatives = with (level "1" ∷ []) (id "T" ∷ []) ∷ with (level "2" ∷ []) (id "T" ∷ lit "x" ∷ []) ∷ [];
}

abbrev two_levels : Grammar
two_levels = grammar (rule_of "S" (alt (of_macro "E" (lit "a" ∷ []) ∷ []) ∷ []) ∷ WrittenItem.nonterminal e_rule ∷ [])

abbrev h : EnabledGrammar
h = enabled_grammar finds [] two_levels

abbrev e_args : Closeds
e_args = Closeds.more (Closed.terminal (Terminal.quoted (codes "a"))) Closeds.none

abbrev e_at : ℕ → Closed
e_at n = Closed.call (codes "E") e_args (Some n)

-- what a macro passes down to is told at the macro
passed_down : IsWrittenPlace finds [] two_levels 1 (e_at 1) (place 20)
passed_down = (
  e_at 2,
  listed-chain h 1 (e_at 2) (inl refl),
  inr (record {
    name = codes "E";
    args = e_args;
    from = 2;
    to = 1;
    from_is = refl;
    to_is = refl;
    rule = enabled_rule [] e_rule;
    is_rule = refl;
    arguments = refl;
    is_macro = λ none. cc;
    passes = refl;
    written = enabled_part [] e_rule;
    among = inr (inl refl);
    name_is = refl;
    span_is = refl;
  }),
)

-- near misses

-- a place in a call is one in an alternative of its rule, of that level
in_rule : (k : EnabledGrammar) (n : Text) (args : Closeds) (l : Option ℕ) (x : Closed) (p : TextSpan) (r : EnabledRule) →
    IsRule k n r → IsPlaceOfCall k (Closed.call n args l) x p →
    (c : Choice × Option Rank) × Among (ranked_choices r) c × (rank_level c.1 ≡ l) × IsPlaceInSide k r (bind r args) c x p
in_rule k n args l x p r i m =
    let e : Closed.call n args l ≡ Closed.call m.name m.args m.level = m.call_is in
    let name_is : m.name ≡ n = cc in
    let args_are : m.args ≡ args = cc in
    let level_is : m.level ≡ l = cc in
    let rule_is : m.rule ≡ r = one_rule k n m.rule r (subst (λ (t : Text). IsRule k t m.rule) name_is m.fits.rule) i in (
      m.choice,
      subst (λ (q : EnabledRule). Among (ranked_choices q) m.choice) rule_is m.fits.written,
      m.level_is ∙ level_is,
      subst (λ (a : Closeds). IsPlaceInSide k r (bind r a) m.choice x p) args_are
          (subst (λ (q : EnabledRule). IsPlaceInSide k q (bind q m.args) m.choice x p) rule_is m.place),
    )

abbrev s_scope : Scope
s_scope = scope_of g s_rule [] (one_choice (codes "S") in_repeat) None

-- the group has the call too, but isn't the innermost symbol that has it
group_refused : IsWrittenPlace finds [] nested 0 outer_call (place 2) → ⊥
group_refused (y, made, m) = of_root (root-listed g (Nonterminal.closed y) made) m
  where
    inside : IsInnermost s_scope (0, in_repeat) outer_call (place 2) → ⊥
    inside n = go n.symbol n.stands n.innermost n.place
      where
        not_there : (v z : CountedSymbol) (k : ℕ) → v ≡ z → place_of_symbol v.1 ≡ place k → place_of_symbol z.1 ≡ place 2 →
            k ≡ 2
        not_there v z k e a p =
            ap (λ (q : TextSpan). q.0) (sym a ∙ ap (λ (u : CountedSymbol). place_of_symbol u.1) e ∙ p)

        go : (z : CountedSymbol) → ((0, in_repeat) ≡ z) ⊎ Among (symbols_within [] (codes "S") 0 in_repeat) z →
            ((v : CountedSymbol) → Among (symbols_within [] (codes "S") z.0 z.1) v → Among (calls_at s_scope v) outer_call → ⊥) →
            place_of_symbol z.1 ≡ place 2 → ⊥
        go z (inl e) none p = let wrong = not_there (0, in_repeat) z 1 e refl p in omega (arith, wrong)
        go z (inr (inl e)) none p =
            subst (λ (u : CountedSymbol). (v : CountedSymbol) → Among (symbols_within [] (codes "S") u.0 u.1) v →
            Among (calls_at s_scope v) outer_call → ⊥) (sym e) none (0, called) (inr (inl refl)) (inl refl)
        go z (inr (inr (inl e))) none p =
            let wrong : 0 ≡ 2 = ap (λ (q : TextSpan). q.0) (ap (λ (u : CountedSymbol). place_of_symbol u.1) e ∙ p) in
            omega (arith, wrong)
        go z (inr (inr (inr (inl e)))) none p = let wrong = not_there (0, called) z 4 e refl p in omega (arith, wrong)
        go z (inr (inr (inr (inr i)))) none p = i

    of_top : (t : CountedSymbol) → Among (counted_symbols [] (codes "S") 0 (in_repeat ∷ [])) t →
        IsInnermost s_scope t outer_call (place 2) → ⊥
    of_top t (inl e) n = inside (subst (λ (z : CountedSymbol). IsInnermost s_scope z outer_call (place 2)) (sym e) n)
    of_top t (inr i) n = i

    of_choice : (c : Choice × Option Rank) → Among (ranked_choices s_rule) c →
        IsPlaceInSide g s_rule [] c outer_call (place 2) → ⊥
    of_choice c (inl e) i =
        let s = subst (λ (q : Choice × Option Rank). IsPlaceInSide g s_rule [] q outer_call (place 2)) (sym e) i in
        of_top s.top s.among s.innermost
    of_choice c (inr j) i = j

    in_the_rule : IsWrittenIn g (without_disabled [] nested) the_rule outer_call (place 2) → ⊥
    in_the_rule (inl n) =
        let u = in_rule g (codes "S") Closeds.none None outer_call (place 2) s_rule refl n in of_choice u.0 u.1 u.3
    in_the_rule (inr n) =
        let e : Closed.call (codes "S") Closeds.none None ≡ Closed.call n.name n.args (Some n.from) = n.from_is in
        let wrong : None ≡ Some n.from = cc in cc

    of_root : Among (roots g) (Nonterminal.closed y) → IsWrittenIn g (without_disabled [] nested) y outer_call (place 2) → ⊥
    of_root (inl e) n = cc
    of_root (inr (inl e)) n =
        let same : the_rule ≡ y = cc in
        in_the_rule (subst (λ (v : Closed). IsWrittenIn g (without_disabled [] nested) v outer_call (place 2)) (sym same) n)
    of_root (inr (inr i)) n = i

-- an argument is no call there
argument_refused : IsWrittenPlace finds [] nested 0 inner_call (place 5) → ⊥
argument_refused m = go (chain-listed g 1 inner_call (written_made g (without_disabled [] nested) 0 inner_call (place 5) m))
  where
    go : Among (lists.calls_at g 1) inner_call → ⊥
    go (inl e) = let wrong : outer_call ≡ inner_call = e in cc
    go (inr i) = i

abbrev e_enabled : EnabledRule
e_enabled = enabled_rule [] e_rule

abbrev e_binding : Binding
e_binding = bind e_enabled e_args

-- L2 T "x", with its rank
abbrev loose_choice : Choice × Option Rank
loose_choice = (
  record {
    origin = Origin.alternative (codes "E") [] 1;
    expr = id "T" ∷ lit "x" ∷ [];
    condition = None;
    action = Action.user (codes "()");
    attributes = level "2" ∷ [];
  },
  Some (record { level = 2; side = Assoc.fully_assoc }),
)

abbrev e_scope : Scope
e_scope = scope_of h e_enabled e_binding loose_choice.0 loose_choice.1

-- what a macro passes down to stands at the macro, and at none of the symbols of that level
pass_refused : IsWrittenPlace finds [] two_levels 1 (e_at 1) here → ⊥
pass_refused (y, made, m) = of_call (chain-listed h 1 y made) m
  where
    of_symbol : (z : CountedSymbol) → symbols_within e_binding (codes "E") z.0 z.1 ≡ [] → calls_at e_scope z ≡ [] →
        IsInnermost e_scope z (e_at 1) here → ⊥
    of_symbol z alone none n = go n.stands
      where
        go : (z ≡ n.symbol) ⊎ Among (symbols_within e_binding (codes "E") z.0 z.1) n.symbol → ⊥
        go (inl e) =
            subst (λ l. Among l (e_at 1)) none
            (subst (λ (v : CountedSymbol). Among (calls_at e_scope v) (e_at 1)) (sym e) n.has_call)
        go (inr i) = subst (λ l. Among l n.symbol) alone i

    of_top : (t : CountedSymbol) → Among (counted_symbols e_binding (codes "E") 0 (id "T" ∷ lit "x" ∷ [])) t →
        IsInnermost e_scope t (e_at 1) here → ⊥
    of_top t (inl e) n = of_symbol (0, id "T") refl refl (subst (λ (z : CountedSymbol). IsInnermost e_scope z (e_at 1) here) (sym e) n)
    of_top t (inr (inl e)) n =
        of_symbol (0, lit "x") refl refl (subst (λ (z : CountedSymbol). IsInnermost e_scope z (e_at 1) here) (sym e) n)
    of_top t (inr (inr i)) n = i

    level_or : Option ℕ → ℕ
    level_or None = 0
    level_or (Some n) = n

    of_choice : (c : Choice × Option Rank) → Among (ranked_choices e_enabled) c → rank_level c.1 ≡ Some 2 →
        IsPlaceInSide h e_enabled e_binding c (e_at 1) here → ⊥
    of_choice c (inl e) l i =
        let wrong : 1 ≡ 2 = ap level_or (ap (λ (q : Choice × Option Rank). rank_level q.1) e ∙ l) in omega (arith, wrong)
    of_choice c (inr (inl e)) l i =
        let s = subst (λ (q : Choice × Option Rank). IsPlaceInSide h e_enabled e_binding q (e_at 1) here) (sym e) i in
        of_top s.top s.among s.innermost
    of_choice c (inr (inr j)) l i = j

    first_or : Text → ℕ
    first_or [] = 0
    first_or (c ∷ cs) = c

    of_written : (n : Text) (r : Rule) → codes "E" ≡ n → r.name ≡ n → r.span ≡ here →
        Among (rules_of (without_disabled [] two_levels).items) r → ⊥
    of_written n r call name span (inl e) =
        let same : codes "S" ≡ codes "E" = ap (λ (q : Rule). q.name) e ∙ name ∙ sym call in
        let wrong : 83 ≡ 69 = ap first_or same in omega (arith, wrong)
    of_written n r call name span (inr (inl e)) =
        let wrong : 20 ≡ 0 = ap (λ (q : TextSpan). q.0) (ap (λ (q : Rule). q.span) e ∙ span) in omega (arith, wrong)
    of_written n r call name span (inr (inr i)) = i

    in_macro : IsWrittenIn h (without_disabled [] two_levels) (e_at 2) (e_at 1) here → ⊥
    in_macro (inl n) =
        let u = in_rule h (codes "E") e_args (Some 2) (e_at 1) here e_enabled refl n in of_choice u.0 u.1 u.2 u.3
    in_macro (inr n) =
        let e : Closed.call (codes "E") e_args (Some 2) ≡ Closed.call n.name n.args (Some n.from) = n.from_is in
        let called : codes "E" ≡ n.name = cc in
        of_written n.name n.written called n.name_is n.span_is n.among

    of_call : Among (lists.calls_at h 1) y → IsWrittenIn h (without_disabled [] two_levels) y (e_at 1) here → ⊥
    of_call (inl e) n =
        in_macro (subst (λ (v : Closed). IsWrittenIn h (without_disabled [] two_levels) v (e_at 1) here) (sym e) n)
    of_call (inr i) n = i
