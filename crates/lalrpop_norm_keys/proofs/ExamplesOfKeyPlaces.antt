-- Computed examples of where keys are met in written grammars, and near misses.
use Rattle.std.proofs.Common.{◌≡◌, ℕ, ◌+◌, List, [], ◌∷◌, refl, ap, sym, subst, true, false, inl, inr}
use Rattle.std.proofs.Common.{◌⊎◌, arith}
use Rattle.std.specs.Prelude.{Option, None, codes}
use Rattle.lalrpop_grammar_symbols.specs.Symbols.{Text, Closed, Closeds, Op, Sym, Terminal, TextSpan, WrittenSymbol, syms}
use Rattle.lalrpop_grammar.specs.WrittenGrammar.{Action, Grammar, Origin}
use Rattle.lalrpop_grammar_language.specs.Among.{Among}
use Rattle.lalrpop_grammar_language.specs.Enabled.{Choice, EnabledGrammar, EnabledRule, IsRule, enabled_grammar}
use Rattle.lalrpop_grammar_language.specs.Levels.{Rank, ranked_choices}
use Rattle.lalrpop_grammar_language.specs.Admitting.{bind}
use Rattle.lalrpop_grammar_language.specs.Expansion.{Nonterminal}
use Rattle.lalrpop_grammar_language.proofs.WrittenTreeLemmas.{alt, finds, grammar, macro_of, rule_of}
use Rattle.lalrpop_norm_theory.proofs.ExpansionListLemmas.{all-of, reached-in}
use Rattle.lalrpop_norm_theory.proofs.LevelOrderLemmas.{one_rule}
use Rattle.lalrpop_norm_keys.specs.MetKeys.{MetKey}
use Rattle.lalrpop_norm_keys.specs.KeyPlaces.{IsKeyPlaceIn, IsWrittenKeyPlace, keys_met_in_side}

abbrev place : ℕ → TextSpan
place n = (n, n + 1)

abbrev lit_at : ℕ → Text → WrittenSymbol
lit_at n t = Sym.terminal (place n) (Terminal.quoted t)

-- S = ("a"* "b")+ M<"c"*>, the repeat outside at 1, the group at 2, the one inside at 3, the call at 6 and its argument at 7;
-- M<T> = T "x"+, the name at 12 and the repeat at 13
abbrev twice_repeated : WrittenSymbol
twice_repeated =
    Sym.repeat (place 1) Op.plus (Sym.expr (place 2)
    (syms (Sym.repeat (place 3) Op.star (lit_at 4 (codes "a")) ∷ lit_at 5 (codes "b") ∷ [])))

abbrev called : WrittenSymbol
called = Sym.macro (place 6) (codes "M") (syms (Sym.repeat (place 7) Op.star (lit_at 8 (codes "c")) ∷ []))

abbrev s_symbols : List WrittenSymbol
s_symbols = twice_repeated ∷ called ∷ []

abbrev m_symbols : List WrittenSymbol
m_symbols = Sym.ambiguous_id (place 12) (codes "T") ∷ Sym.repeat (place 13) Op.plus (lit_at 14 (codes "x")) ∷ []

abbrev written : Grammar
written = grammar (rule_of "S" (alt s_symbols ∷ []) ∷ macro_of "M" ("T" ∷ []) (alt m_symbols ∷ []) ∷ [])

abbrev g : EnabledGrammar
g = enabled_grammar finds [] written

-- its keys

abbrev quoted : Text → Closed
quoted t = Closed.terminal (Terminal.quoted t)

abbrev some_of : Text → Closed
some_of t = Closed.repeat Op.plus (quoted t)

abbrev many_of : Text → Closed
many_of t = Closed.repeat Op.star (quoted t)

abbrev the_group : Closed
the_group = Closed.group (Closeds.more (many_of (codes "a")) (Closeds.more (quoted (codes "b")) Closeds.none))

abbrev some_groups : Closed
some_groups = Closed.repeat Op.plus the_group

abbrev m_args : Closeds
m_args = Closeds.more (many_of (codes "c")) Closeds.none

abbrev the_call : Closed
the_call = Closed.call (codes "M") m_args None

abbrev the_rule : Closed
the_rule = Closed.call (codes "S") Closeds.none None

abbrev one_choice : Text → List WrittenSymbol → Choice
one_choice n xs = record {
  origin = Origin.alternative n [] 0;
  expr = xs;
  condition = None;
  action = Action.user (codes "()");
  attributes = [];
}

abbrev s_rule : EnabledRule
s_rule = record {
  name = codes "S";
  public = true;
  inlined = false;
  parameters = [];
  declared = None;
  choices = one_choice (codes "S") s_symbols ∷ [];
}

abbrev m_rule : EnabledRule
m_rule = record {
  name = codes "M";
  public = true;
  inlined = false;
  parameters = codes "T" ∷ [];
  declared = None;
  choices = one_choice (codes "M") m_symbols ∷ [];
}

abbrev s_met : List MetKey
s_met =
    (some_groups, place 1) ∷ (the_group, place 2) ∷ (many_of (codes "a"), place 3) ∷ (some_of (codes "a"), place 3)
    ∷ (the_call, place 6) ∷ []

abbrev m_met : List MetKey
m_met = (many_of (codes "c"), place 12) ∷ (some_of (codes "c"), place 12) ∷ (some_of (codes "x"), place 13) ∷ []

met_in_s : keys_met_in_side g s_rule [] (one_choice (codes "S") s_symbols, None) ≡ s_met
met_in_s = refl

met_in_m : keys_met_in_side g m_rule (bind m_rule m_args) (one_choice (codes "M") m_symbols, None) ≡ m_met
met_in_m = refl

-- in a rule a key is met at its own symbol, whatever this stands in
place_in_rule : (x : Closed) (p : TextSpan) → Among s_met (x, p) → IsWrittenKeyPlace finds [] written x p
place_in_rule x p i = (
  the_rule,
  reached-in g 0 (Nonterminal.closed the_rule) (inr (inl refl)),
  record {
    name = codes "S";
    args = Closeds.none;
    level = None;
    call_is = refl;
    rule = s_rule;
    choice = (one_choice (codes "S") s_symbols, None);
    fits = record { rule = refl; arguments = refl; written = inl refl; leveled = refl; holds = tt };
    level_is = refl;
    met = i;
  },
)

own_symbol : IsWrittenKeyPlace finds [] written (many_of (codes "a")) (place 3)
own_symbol = place_in_rule (many_of (codes "a")) (place 3) (inr (inr (inl refl)))

-- and so is one in the alternative of a macro that is called
place_in_macro : (x : Closed) (p : TextSpan) → Among m_met (x, p) → IsWrittenKeyPlace finds [] written x p
place_in_macro x p i = (
  the_call,
  reached-in g 1 (Nonterminal.closed the_call) (inr (inr (inr (inr (inl refl))))),
  record {
    name = codes "M";
    args = m_args;
    level = None;
    call_is = refl;
    rule = m_rule;
    choice = (one_choice (codes "M") m_symbols, None);
    fits = record { rule = refl; arguments = refl; written = inl refl; leveled = refl; holds = tt };
    level_is = refl;
    met = i;
  },
)

in_a_macro : IsWrittenKeyPlace finds [] written (some_of (codes "x")) (place 13)
in_a_macro = place_in_macro (some_of (codes "x")) (place 13) (inr (inr (inl refl)))

-- what comes by a parameter is met at the parameter's name
by_parameter : IsWrittenKeyPlace finds [] written (many_of (codes "c")) (place 12)
by_parameter = place_in_macro (many_of (codes "c")) (place 12) (inl refl)

-- near misses

abbrev nonterminals : List Nonterminal
nonterminals =
    Nonterminal.start (codes "S") ∷ Nonterminal.closed the_rule ∷ Nonterminal.closed the_call ∷ Nonterminal.closed some_groups
    ∷ Nonterminal.closed the_group ∷ Nonterminal.closed (many_of (codes "a")) ∷ Nonterminal.closed (some_of (codes "a"))
    ∷ Nonterminal.closed (many_of (codes "c")) ∷ Nonterminal.closed (some_of (codes "c"))
    ∷ Nonterminal.closed (some_of (codes "x")) ∷ []

-- what is met in a call is met in an alternative of its rule
in_rule : (n : Text) (args : Closeds) (x : Closed) (p : TextSpan) (r : EnabledRule) → IsRule g n r →
    IsKeyPlaceIn g (Closed.call n args None) x p →
    (c : Choice × Option Rank) × Among (ranked_choices r) c × Among (keys_met_in_side g r (bind r args) c) (x, p)
in_rule n args x p r i m =
    let e : Closed.call n args None ≡ Closed.call m.name m.args m.level = m.call_is in
    let name_is : m.name ≡ n = cc in
    let args_are : m.args ≡ args = cc in
    let rule_is : m.rule ≡ r = one_rule g n m.rule r (subst (λ (t : Text). IsRule g t m.rule) name_is m.fits.rule) i in (
      m.choice,
      subst (λ (q : EnabledRule). Among (ranked_choices q) m.choice) rule_is m.fits.written,
      subst (λ (a : Closeds). Among (keys_met_in_side g r (bind r a) m.choice) (x, p)) args_are
          (subst (λ (q : EnabledRule). Among (keys_met_in_side g q (bind q m.args) m.choice) (x, p)) rule_is m.met),
    )

in_s : (x : Closed) (p : TextSpan) → IsKeyPlaceIn g the_rule x p → Among s_met (x, p)
in_s x p m = let u = in_rule (codes "S") Closeds.none x p s_rule refl m in of_choice u.0 u.1 u.2
  where
    of_choice : (c : Choice × Option Rank) → Among (ranked_choices s_rule) c →
        Among (keys_met_in_side g s_rule (bind s_rule Closeds.none) c) (x, p) → Among s_met (x, p)
    of_choice c (inl e) i =
        subst (λ (q : Choice × Option Rank). Among (keys_met_in_side g s_rule (bind s_rule Closeds.none) q) (x, p)) (sym e) i
    of_choice c (inr j) i = absurd j

in_m : (x : Closed) (p : TextSpan) → IsKeyPlaceIn g the_call x p → Among m_met (x, p)
in_m x p m = let u = in_rule (codes "M") m_args x p m_rule refl m in of_choice u.0 u.1 u.2
  where
    of_choice : (c : Choice × Option Rank) → Among (ranked_choices m_rule) c →
        Among (keys_met_in_side g m_rule (bind m_rule m_args) c) (x, p) → Among m_met (x, p)
    of_choice c (inl e) i =
        subst (λ (q : Choice × Option Rank). Among (keys_met_in_side g m_rule (bind m_rule m_args) q) (x, p)) (sym e) i
    of_choice c (inr j) i = absurd j

-- no repeat or group has an alternative
no_call : (y x : Closed) (p : TextSpan) → ((n : Text) (args : Closeds) (l : Option ℕ) → y ≡ Closed.call n args l → ⊥) →
    IsKeyPlaceIn g y x p → ⊥
no_call y x p other m = other m.name m.args m.level m.call_is

all_places : (x : Closed) (p : TextSpan) → IsWrittenKeyPlace finds [] written x p → Among s_met (x, p) ⊎ Among m_met (x, p)
all_places x p (y, made, m) = go (all-of g nonterminals refl (Nonterminal.closed y) made)
  where
    of_shape : (z : Closed) → Nonterminal.closed z ≡ Nonterminal.closed y →
        ((n : Text) (args : Closeds) (l : Option ℕ) → z ≡ Closed.call n args l → ⊥) → Among s_met (x, p) ⊎ Among m_met (x, p)
    of_shape z e other =
        let same : z ≡ y = cc in absurd (no_call z x p other (subst (λ (c : Closed). IsKeyPlaceIn g c x p) (sym same) m))

    go : Among nonterminals (Nonterminal.closed y) → Among s_met (x, p) ⊎ Among m_met (x, p)
    go (inl e) = cc
    go (inr (inl e)) =
        let same : the_rule ≡ y = cc in inl (in_s x p (subst (λ (c : Closed). IsKeyPlaceIn g c x p) (sym same) m))
    go (inr (inr (inl e))) =
        let same : the_call ≡ y = cc in inr (in_m x p (subst (λ (c : Closed). IsKeyPlaceIn g c x p) (sym same) m))
    go (inr (inr (inr (inl e)))) = of_shape some_groups e (λ n args l d. cc)
    go (inr (inr (inr (inr (inl e))))) = of_shape the_group e (λ n args l d. cc)
    go (inr (inr (inr (inr (inr (inl e)))))) = of_shape (many_of (codes "a")) e (λ n args l d. cc)
    go (inr (inr (inr (inr (inr (inr (inl e))))))) = of_shape (some_of (codes "a")) e (λ n args l d. cc)
    go (inr (inr (inr (inr (inr (inr (inr (inl e)))))))) = of_shape (many_of (codes "c")) e (λ n args l d. cc)
    go (inr (inr (inr (inr (inr (inr (inr (inr (inl e))))))))) = of_shape (some_of (codes "c")) e (λ n args l d. cc)
    go (inr (inr (inr (inr (inr (inr (inr (inr (inr (inl e)))))))))) = of_shape (some_of (codes "x")) e (λ n args l d. cc)
    go (inr (inr (inr (inr (inr (inr (inr (inr (inr (inr i)))))))))) = absurd i

abbrev begin_of : MetKey → ℕ
begin_of m = m.1.0

-- the repeat outside has the key too, but isn't the innermost symbol that has it
outer_refused : IsWrittenKeyPlace finds [] written (many_of (codes "a")) (place 1) → ⊥
outer_refused m = go (all_places (many_of (codes "a")) (place 1) m)
  where
    go : Among s_met (many_of (codes "a"), place 1) ⊎ Among m_met (many_of (codes "a"), place 1) → ⊥
    go (inl (inl e)) = let wrong : some_groups ≡ many_of (codes "a") = ap (λ (k : MetKey). k.0) e in cc
    go (inl (inr (inl e))) = let wrong : 2 ≡ 1 = ap begin_of e in omega (arith, wrong)
    go (inl (inr (inr (inl e)))) = let wrong : 3 ≡ 1 = ap begin_of e in omega (arith, wrong)
    go (inl (inr (inr (inr (inl e))))) = let wrong : 3 ≡ 1 = ap begin_of e in omega (arith, wrong)
    go (inl (inr (inr (inr (inr (inl e)))))) = let wrong : 6 ≡ 1 = ap begin_of e in omega (arith, wrong)
    go (inl (inr (inr (inr (inr (inr i)))))) = i
    go (inr (inl e)) = let wrong : 12 ≡ 1 = ap begin_of e in omega (arith, wrong)
    go (inr (inr (inl e))) = let wrong : 12 ≡ 1 = ap begin_of e in omega (arith, wrong)
    go (inr (inr (inr (inl e)))) = let wrong : 13 ≡ 1 = ap begin_of e in omega (arith, wrong)
    go (inr (inr (inr (inr i)))) = i

-- and what comes by a parameter isn't met where it is an argument
argument_refused : IsWrittenKeyPlace finds [] written (many_of (codes "c")) (place 7) → ⊥
argument_refused m = go (all_places (many_of (codes "c")) (place 7) m)
  where
    go : Among s_met (many_of (codes "c"), place 7) ⊎ Among m_met (many_of (codes "c"), place 7) → ⊥
    go (inl (inl e)) = let wrong : 1 ≡ 7 = ap begin_of e in omega (arith, wrong)
    go (inl (inr (inl e))) = let wrong : 2 ≡ 7 = ap begin_of e in omega (arith, wrong)
    go (inl (inr (inr (inl e)))) = let wrong : 3 ≡ 7 = ap begin_of e in omega (arith, wrong)
    go (inl (inr (inr (inr (inl e))))) = let wrong : 3 ≡ 7 = ap begin_of e in omega (arith, wrong)
    go (inl (inr (inr (inr (inr (inl e)))))) = let wrong : 6 ≡ 7 = ap begin_of e in omega (arith, wrong)
    go (inl (inr (inr (inr (inr (inr i)))))) = i
    go (inr (inl e)) = let wrong : 12 ≡ 7 = ap begin_of e in omega (arith, wrong)
    go (inr (inr (inl e))) = let wrong : 12 ≡ 7 = ap begin_of e in omega (arith, wrong)
    go (inr (inr (inr (inl e)))) = let wrong : 13 ≡ 7 = ap begin_of e in omega (arith, wrong)
    go (inr (inr (inr (inr i)))) = i
