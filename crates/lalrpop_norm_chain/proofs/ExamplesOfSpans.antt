-- Computed examples of where productions and nonterminals stand, and near misses.
use Rattle.std.proofs.Common.{◌≡◌, ℕ, List, [], ◌∷◌, refl, ap, sym, ◌∙◌, subst, inl, inr, arith, true, false}
use Rattle.std.specs.Prelude.{Option, None, codes}
use Rattle.lalrpop_grammar_symbols.specs.Symbols.{Closed, Closeds, Op, Sym, Terminal, Text, TextSpan, WrittenSymbol, syms}
use Rattle.lalrpop_grammar.specs.WrittenGrammar.{Action, Alternative, Grammar, Origin, Rule, WrittenItem, rules_of}
use Rattle.lalrpop_grammar_language.specs.Among.{Among}
use Rattle.lalrpop_grammar_language.specs.Enabled.{Choice, EnabledGrammar, EnabledRule, IsRule, at_places, enabled_grammar}
use Rattle.lalrpop_grammar_language.specs.Levels.{Rank, ranked_choices}
use Rattle.lalrpop_grammar_language.specs.Admitting.{bind}
use Rattle.lalrpop_grammar_language.specs.Expansion.{InExpansion, Nonterminal}
use Rattle.lalrpop_grammar_language.proofs.WrittenTreeLemmas.{alt, cfg, feature, finds, grammar, here, lit, rule_of}
use Rattle.lalrpop_norm_theory.proofs.ExpansionListLemmas.{all-of, reached-in}
use Rattle.lalrpop_norm_keys.specs.KeyPlaces.{IsKeyPlaceIn, keys_met_in_side}
use Rattle.lalrpop_norm_keys.specs.MetKeys.{MetKey}
use Rattle.lalrpop_norm_keys.proofs.MadeKeyLemmas.{placed_made}
use Rattle.lalrpop_norm_theory.proofs.LevelOrderLemmas.{one_rule}
use Rattle.lalrpop_norm_chain.specs.Spans.{HasOwnSpan, IsAddedOrigin, StandsByChoice}

-- S = "a" | "b" | "c", whose last alternative asks for a feature
abbrev two_and_one : Grammar
two_and_one = grammar (WrittenItem.nonterminal (record {
  public = false;
  name = codes "S";
  attributes = [];
  span = (1, 9);
  parameters = [];
  declared = None;
  alternatives = record {
    span = (1, 2);
    expr = lit "a" ∷ [];
    condition = None;
    action = Action.default;
    attributes = [];
    origin = Origin.start;
  }
      ∷ record {
        span = (3, 4);
        expr = lit "b" ∷ [];
        condition = None;
        action = Action.default;
        attributes = [];
        origin = Origin.start;
      }
      ∷ record {
        span = (5, 6);
        expr = lit "c" ∷ [];
        condition = None;
        action = Action.default;
        attributes = cfg (feature "x") ∷ [];
        origin = Origin.start;
      } ∷ [];
}) ∷ [])

abbrev at : ℕ → Origin
at i = Origin.alternative (codes "S") [] i

first_stands : StandsByChoice [] two_and_one (1, 9) (at 0) (1, 2)
first_stands = record {
  rule = _;
  alternative = _;
  rule_there = inl refl;
  rule_enabled = refl;
  name_is = refl;
  at = inl refl;
  enabled = refl;
  span_is = refl;
}

second_stands : StandsByChoice [] two_and_one (1, 9) (at 1) (3, 4)
second_stands = record {
  rule = _;
  alternative = _;
  rule_there = inl refl;
  rule_enabled = refl;
  name_is = refl;
  at = inr (inl refl);
  enabled = refl;
  span_is = refl;
}

third_with_feature : StandsByChoice (codes "x" ∷ []) two_and_one (1, 9) (at 2) (5, 6)
third_with_feature = record {
  rule = _;
  alternative = _;
  rule_there = inl refl;
  rule_enabled = refl;
  name_is = refl;
  at = inr (inr (inl refl));
  enabled = refl;
  span_is = refl;
}

-- what passes add stands where its nonterminal does, and a nonterminal where its rule does

pass_stands : StandsByChoice [] two_and_one (1, 9) Origin.pass_down (1, 9)
pass_stands = refl

rule_stands : HasOwnSpan finds [] two_and_one (Nonterminal.closed (Closed.call (codes "S") Closeds.none None)) (1, 9)
rule_stands = record { rule = _; rule_there = inl refl; enabled = refl; name_is = refl; span_is = refl }

-- near misses

abbrev place_of : Origin → ℕ
place_of (Origin.alternative n args place) = place
place_of _ = 0

abbrev first_of : TextSpan → ℕ
first_of p = p.0

abbrev Placed : Type 0
Placed = Origin × Alternative

abbrev alternatives_of : List Rule → List Alternative
alternatives_of [] = []
alternatives_of (r ∷ rs) = r.alternatives

abbrev written_ones : List Alternative
written_ones = alternatives_of (rules_of two_and_one.items)

-- the place of another alternative
other_refused : StandsByChoice [] two_and_one (1, 9) (at 0) (3, 4) → ⊥
other_refused h = go h.rule h.alternative h.rule_there h.at h.span_is
  where
    of_one : (b : Alternative) → b.span ≡ (3, 4) → Among {A = Placed} (at_places (codes "S") 0 written_ones) (at 0, b) → ⊥
    of_one b e (inl f) =
        let byte : ◌≡◌ {A = ℕ} 1 3 = ap (λ (x : Placed). first_of x.1.span) f ∙ ap first_of e in omega (arith, byte)
    of_one b e (inr (inl f)) = let place : ◌≡◌ {A = ℕ} 1 0 = ap (λ (x : Placed). place_of x.0) f in omega (arith, place)
    of_one b e (inr (inr (inl f))) = let place : ◌≡◌ {A = ℕ} 2 0 = ap (λ (x : Placed). place_of x.0) f in omega (arith, place)
    of_one b e (inr (inr (inr m))) = absurd m

    go : (r : Rule) (b : Alternative) → Among (rules_of two_and_one.items) r →
        Among {A = Placed} (at_places (codes "S") 0 r.alternatives) (at 0, b) → b.span ≡ (3, 4) → ⊥
    go r b (inl d) i e =
        of_one b e (subst (λ (x : Rule). Among {A = Placed} (at_places (codes "S") 0 x.alternatives) (at 0, b)) (sym d) i)
    go r b (inr m) i e = absurd m

pass_elsewhere_refused : StandsByChoice [] two_and_one (1, 9) Origin.pass_down (3, 4) → ⊥
pass_elsewhere_refused e = let byte : ◌≡◌ {A = ℕ} 3 1 = ap first_of e in omega (arith, byte)

repeat_elsewhere_refused : StandsByChoice [] two_and_one (1, 9) Origin.star_none (3, 4) → ⊥
repeat_elsewhere_refused e = let byte : ◌≡◌ {A = ℕ} 3 1 = ap first_of e in omega (arith, byte)

-- the rule elsewhere, and a rule that isn't there
rule_elsewhere_refused : HasOwnSpan finds [] two_and_one (Nonterminal.start (codes "S")) (1, 2) → ⊥
rule_elsewhere_refused h = go h.rule h.rule_there h.span_is
  where
    go : (r : Rule) → Among (rules_of two_and_one.items) r → r.span ≡ (1, 2) → ⊥
    go r (inl d) e =
        let byte : ◌≡◌ {A = ℕ} 9 2 = ap (λ (p : TextSpan). p.1) (ap (λ (x : Rule). x.span) d ∙ e) in omega (arith, byte)
    go r (inr m) e = absurd m

-- a choice of an alternative or of a pass isn't added
pass_not_added : IsAddedOrigin Origin.pass_down → ⊥
pass_not_added h = h

alternative_not_added : IsAddedOrigin (at 0) → ⊥
alternative_not_added h = h

-- a repeat and a group stand at their own symbols

-- S = ("a" "b")+, the repeat at 2 to 9 and the group at 2 to 8
abbrev one_or_more : WrittenSymbol
one_or_more = Sym.repeat (2, 9) Op.plus (Sym.expr (2, 8) (syms (lit "a" ∷ lit "b" ∷ [])))

-- the grammar of the rule S alone: a repeat of a group of "a" and "b"
abbrev pub grouped : Grammar
grouped = grammar (rule_of "S" (alt (one_or_more ∷ []) ∷ []) ∷ [])

abbrev at_grouped : EnabledGrammar
at_grouped = enabled_grammar finds [] grouped

abbrev the_rule : Closed
the_rule = Closed.call (codes "S") Closeds.none None

-- the closed group of "a" and "b"
abbrev pub the_group : Closed
the_group =
    Closed.group (Closeds.more (Closed.terminal (Terminal.quoted (codes "a")))
    (Closeds.more (Closed.terminal (Terminal.quoted (codes "b"))) Closeds.none))

abbrev some_groups : Closed
some_groups = Closed.repeat Op.plus the_group

abbrev the_choice : Choice
the_choice = record {
  origin = Origin.alternative (codes "S") [] 0;
  expr = one_or_more ∷ [];
  condition = None;
  action = Action.user (codes "()");
  attributes = [];
}

abbrev s_rule : EnabledRule
s_rule = record {
  name = codes "S";
  public = true;
  inlined = false;
  parameters = [];
  declared = None;
  choices = the_choice ∷ [];
}

abbrev s_met : List MetKey
s_met = (some_groups, (2, 9)) ∷ (the_group, (2, 8)) ∷ []

key_stands : (x : Closed) (p : TextSpan) → Among s_met (x, p) → IsKeyPlaceIn at_grouped the_rule x p
key_stands x p i = record {
  name = codes "S";
  args = Closeds.none;
  level = None;
  call_is = refl;
  rule = s_rule;
  choice = (the_choice, None);
  fits = record { rule = refl; arguments = refl; written = inl refl; leveled = refl; holds = tt };
  level_is = refl;
  met = i;
}

rule_made : InExpansion at_grouped (Nonterminal.closed the_rule)
rule_made = reached-in at_grouped 0 (Nonterminal.closed the_rule) (inr (inl refl))

repeat_stands : HasOwnSpan finds [] grouped (Nonterminal.closed some_groups) (2, 9)
repeat_stands = (the_rule, rule_made, key_stands some_groups (2, 9) (inl refl))

group_stands : HasOwnSpan finds [] grouped (Nonterminal.closed the_group) (2, 8)
group_stands = (the_rule, rule_made, key_stands the_group (2, 8) (inr (inl refl)))

-- and nowhere else

abbrev nonterminals : List Nonterminal
nonterminals =
    Nonterminal.start (codes "S") ∷ Nonterminal.closed the_rule ∷ Nonterminal.closed some_groups ∷ Nonterminal.closed the_group ∷ []

-- the group is in the expansion of that grammar
pub group_made : InExpansion at_grouped (Nonterminal.closed the_group)
group_made = placed_made at_grouped the_group (2, 8) group_stands

in_s : (p : TextSpan) → IsKeyPlaceIn at_grouped the_rule the_group p → Among s_met (the_group, p)
in_s p m =
    let e : Closed.call (codes "S") Closeds.none None ≡ Closed.call m.name m.args m.level = m.call_is in
    let name_is : m.name ≡ codes "S" = cc in
    let args_are : m.args ≡ Closeds.none = cc in
    let rule_is : m.rule ≡ s_rule =
    one_rule at_grouped (codes "S") m.rule s_rule (subst (λ (t : Text). IsRule at_grouped t m.rule) name_is m.fits.rule) refl in
    of_choice m.choice (subst (λ (q : EnabledRule). Among (ranked_choices q) m.choice) rule_is m.fits.written)
    (subst (λ (a : Closeds). Among (keys_met_in_side at_grouped s_rule (bind s_rule a) m.choice) (the_group, p)) args_are
    (subst (λ (q : EnabledRule). Among (keys_met_in_side at_grouped q (bind q m.args) m.choice) (the_group, p)) rule_is m.met))
  where
    of_choice : (c : Choice × Option Rank) → Among (ranked_choices s_rule) c
        → Among (keys_met_in_side at_grouped s_rule (bind s_rule Closeds.none) c) (the_group, p) → Among s_met (the_group, p)
    of_choice c (inl e) i =
        subst (λ (q : Choice × Option Rank). Among (keys_met_in_side at_grouped s_rule (bind s_rule Closeds.none) q) (the_group, p))
        (sym e) i
    of_choice c (inr j) i = absurd j

only_there : (p : TextSpan) → HasOwnSpan finds [] grouped (Nonterminal.closed the_group) p → (2, 8) ≡ p
only_there p (y, made, m) = go (all-of at_grouped nonterminals refl (Nonterminal.closed y) made)
  where
    of_met : Among s_met (the_group, p) → (2, 8) ≡ p
    of_met (inl e) = let wrong : some_groups ≡ the_group = ap (λ (k : MetKey). k.0) e in cc
    of_met (inr (inl e)) = ap (λ (k : MetKey). k.1) e
    of_met (inr (inr i)) = absurd i

    of_shape : (z : Closed) → Nonterminal.closed z ≡ Nonterminal.closed y
        → ((n : Text) (args : Closeds) (l : Option ℕ) → z ≡ Closed.call n args l → ⊥) → (2, 8) ≡ p
    of_shape z e other = let same : z ≡ y = cc in absurd (other m.name m.args m.level (same ∙ m.call_is))

    go : Among nonterminals (Nonterminal.closed y) → (2, 8) ≡ p
    go (inl e) = cc
    go (inr (inl e)) =
        let same : the_rule ≡ y = cc in
        of_met (in_s p (subst (λ (c : Closed). IsKeyPlaceIn at_grouped c the_group p) (sym same) m))
    go (inr (inr (inl e))) = of_shape some_groups e (λ n args l d. cc)
    go (inr (inr (inr (inl e)))) = of_shape the_group e (λ n args l d. cc)
    go (inr (inr (inr (inr i)))) = absurd i

-- the repeat's symbol isn't the group's
group_at_repeat_refused : HasOwnSpan finds [] grouped (Nonterminal.closed the_group) (2, 9) → ⊥
group_at_repeat_refused h =
    let byte : ◌≡◌ {A = ℕ} 8 9 = ap (λ (p : TextSpan). p.1) (only_there (2, 9) h) in omega (arith, byte)

-- nor is the grammar's place
pub group_at_grammar_refused : HasOwnSpan finds [] grouped (Nonterminal.closed the_group) here → ⊥
group_at_grammar_refused h = let byte : ◌≡◌ {A = ℕ} 2 0 = ap first_of (only_there here h) in omega (arith, byte)
