-- Computed examples of faults that stand in a written grammar, and of what stands in none.
use Prim.Native.String.{String}
use Rattle.std.proofs.Common.{◌≡◌, ℕ, List, [], ◌∷◌, ◌++◌, refl, ap, sym, ◌∙◌, subst, inl, inr, Bool, true, false}
use Rattle.std.proofs.Common.{arith, map, suc, zero, ◌⊎◌}
use Rattle.std.specs.Prelude.{not, codes, flat_map, Option, Some, None}
use Rattle.std.specs.List.{list_all}
use Rattle.std.proofs.lemmas.Bool.{true≢false}
use Rattle.lalrpop_grammar_symbols.specs.Symbols.{Text, TextSpan, WrittenSymbol, Closed, Closeds}
use Rattle.lalrpop_grammar.specs.WrittenGrammar.{Alternative, Attr, Attrs, Grammar, Rule, WrittenEntry, rules_of, Condition}
use Rattle.lalrpop_grammar.specs.WrittenGrammar.{Action, ConditionTest, Origin, WrittenItem}
use Rattle.lalrpop_grammar_language.specs.Among.{Among}
use Rattle.lalrpop_grammar_language.specs.Enabled.{bares_of, has_text, EnabledGrammar, enabled_grammar, Choice, EnabledRule, IsRule}
use Rattle.lalrpop_grammar_language.specs.Enabled.{enabled_rule, rules_named}
use Rattle.lalrpop_grammar_language.proofs.WrittenTreeLemmas.{finds, grammar, lit, rule_of, with, here, alt, id, macro_of, of_macro, on_K}
use Rattle.lalrpop_grammar_repr.specs.declared.norm_error.NormErrorKind.TheVariants as kinds
use Rattle.lalrpop_norm_theory.specs.Between.{grammar_between, without_disabled}
use Rattle.lalrpop_norm_theory.proofs.ClosedComparisonLemmas.{all-each}
use Rattle.lalrpop_norm_theory.specs.NameFaults.{IsTwice, IsDuplicate, NameFault}
use Rattle.lalrpop_norm_prevalidate.specs.Attributes.{unknown_attributes}
use Rattle.lalrpop_norm_prevalidate.specs.Blocks.{later_blocks, public_inlines}
use Rattle.lalrpop_norm_prevalidate.specs.Entries.{IsListedAgain, entries_in_items}
use Rattle.lalrpop_norm_prevalidate.specs.Faults.{CheckStands, HasNoCheckFault}
use Rattle.lalrpop_norm_prevalidate.specs.Labels.{misplaced_in_alternative, misplaced_in_rule, misplaced_labels}
use Rattle.lalrpop_norm_prevalidate.specs.Names.{SpannedName, has_prefix, names_in_alternative, names_in_item, names_in_rule}
use Rattle.lalrpop_grammar_language.specs.Expansion.{Nonterminal, InExpansion}
use Rattle.lalrpop_grammar_repr.specs.declared.norm_error.NormErrorKind.{NormErrorKind}
use Rattle.lalrpop_norm_theory.proofs.ExpansionListLemmas.{calls_at, calls_from, listed-chain, roots, chain-listed, root-listed}
use Rattle.lalrpop_norm_theory.proofs.ExpansionListLemmas.{reached-in, all-of}
use Rattle.lalrpop_norm_keys.specs.Arity.{arity_faults}
use Rattle.lalrpop_norm_keys.specs.MacroFaults.{ConditionError, condition_error}
use Rattle.lalrpop_norm_chain.specs.MadeConditions.{HasConditionWhere, HasWrongCondition, IsMade}
use Rattle.lalrpop_grammar_language.specs.Levels.{Rank, ranked_choices, tighter}
use Rattle.std.specs.Fmt.{digits}
use Rattle.lalrpop_norm_theory.specs.Keys.{leveled_key_text}
use Rattle.lalrpop_norm_theory.specs.Types.{GroundType, GroundTypes, text_type, IsGrounded}
use Rattle.lalrpop_norm_theory.proofs.NamingListLemmas.{name_by, naming-is}
use Rattle.lalrpop_norm_theory.proofs.UsedListLemmas.{keys-by-use}
use Rattle.lalrpop_norm_theory.proofs.DerivableTypeLemmas.{type-in-table}
use Rattle.lalrpop_norm_chain.specs.WrittenTypeFaults.{IsCallAt, IsDisagreeing, IsGivenBy, IsUntyped, OwnAlternative}
use Rattle.lalrpop_norm_chain.specs.StandingFaults.{IsRightToNames, IsStandingFault}
use Rattle.lalrpop_norm_chain.specs.TokenFaults.{TokenFaultInWritten, enabled_places}
use Rattle.lalrpop_norm_chain.proofs.TwoAlternativeLemmas.{disagreeing_types}

-- where these lists are empty and no name begins with the prefix, the first pass finds nothing

module _ (g : Grammar) (blocks : later_blocks g.items ≡ []) (attributes : unknown_attributes g.attributes g.items ≡ [])
    (inlines : public_inlines g.items ≡ [])
    (names : list_all (λ (t : SpannedName). not (has_prefix g.prefix t.0)) (flat_map names_in_item g.items) ≡ true)
    (labels : misplaced_labels g.items ≡ []) (entries : entries_in_items g.items ≡ []) where
  nowhere : {A : Type 0} (l : List A) (x : A) → l ≡ [] → Among l x → ⊥
  nowhere l x e m = subst (λ k. Among k x) e m

  not_again : (es : List WrittenEntry) (p : TextSpan) → es ≡ [] → IsListedAgain es p → ⊥
  not_again es p e h = go h.before (sym e ∙ h.whole)
    where
      go : (before : List WrittenEntry) → [] ≡ before ++ h.later ∷ h.after → ⊥
      go [] f = cc
      go (b ∷ bs) f = cc

  no_checks : HasNoCheckFault g
  no_checks kinds.SecondMatchBlock p h = nowhere _ p blocks h
  no_checks (kinds.UnknownAttribute name) p h = nowhere _ h.attribute attributes h.among
  no_checks kinds.PublicInline p h = nowhere _ p inlines h
  no_checks kinds.ReservedPrefix p h =
      let free : not (has_prefix g.prefix h.told.0) ≡ true =
      all-each (λ (t : SpannedName). not (has_prefix g.prefix t.0)) (flat_map names_in_item g.items) names h.told h.among in
      true≢false (sym free ∙ ap not h.begins)
  no_checks kinds.NamedNotAllowed p h = nowhere _ p labels h
  no_checks kinds.EntryTwice p h = not_again (entries_in_items g.items) p entries h
  no_checks (kinds.DuplicateDefinition name) p h = h
  no_checks kinds.FirstWithoutLevel p h = h
  no_checks kinds.LevelIsNoNumber p h = h
  no_checks kinds.SideOnTightestLevel p h = h
  no_checks kinds.UnknownSide p h = h
  no_checks (kinds.NoDefinition name) p h = h
  no_checks kinds.WrongNumberOfArguments p h = h
  no_checks kinds.MacroAsRule p h = h
  no_checks (kinds.MacroDepth limit) p h = h
  no_checks kinds.ConditionOnOther p h = h
  no_checks kinds.ConditionPattern p h = h
  no_checks (kinds.NotInMatchBlock literal) p h = h
  no_checks (kinds.PatternRefused literal) p h = h
  no_checks (kinds.SameText first second) p h = h
  no_checks kinds.TypesDisagree p h = h
  no_checks (kinds.NoType name) p h = h
  no_checks kinds.TooManyActions p h = h
  no_checks (kinds.CyclicInline name) p h = h

-- one rule without parameters shares its name with nothing
module _ (g : Grammar) (r : Rule) (one : rules_of g.items ≡ r ∷ []) (plain : r.parameters ≡ []) (bare : bares_of g.items ≡ [])
  where
    alone : (n : Text) (p : TextSpan) → IsDuplicate g n p → ⊥
    alone n p (IsDuplicate.of_rules before q after whole h) = go before (sym one ∙ whole) h
      where
        go : (before : List Rule) → r ∷ [] ≡ before ++ q ∷ after → has_text q.name (map (λ o. o.name) before) ≡ true → ⊥
        go [] e f = true≢false (sym f)
        go (b ∷ []) e f = cc
        go (b ∷ c ∷ bs) e f = cc
    alone n p (IsDuplicate.of_mapped q i h) = true≢false (sym h ∙ ap (has_text q.name) bare)
    alone n p (IsDuplicate.of_parameters q m i h) = go (subst (λ (l : List Rule). Among l q) one i)
      where
        go : Among (r ∷ []) q → ⊥
        go (inl e) = subst (IsTwice m) (ap (λ (o : Rule). o.parameters) (sym e) ∙ plain) h
        go (inr k) = absurd k

-- E = { "a", L1 "b" }: the first alternative has no level
abbrev level_at : ℕ → String → Attr
level_at place text =
    Attr.paren (place, 90) (codes "precedence") (Attrs.more (Attr.equal (place, 91) (codes "level") (codes text)) Attrs.none)

abbrev alternative_at : ℕ → List Attr → List WrittenSymbol → Alternative
alternative_at place attributes symbols = record (with attributes symbols) { span = (place, 92) }

abbrev without_level : List WrittenSymbol → Grammar
without_level symbols = grammar (rule_of "E" (alternative_at 1 [] symbols
    ∷ alternative_at 2 (level_at 3 "1" ∷ []) (lit "b" ∷ []) ∷ []) ∷ [])

abbrev never : Text → Bool
never t = false

right_before : IsRightToNames [] (without_level (lit "a" ∷ []))
unfolding names_in_item names_in_rule names_in_alternative misplaced_in_rule misplaced_in_alternative
right_before = record {
  checks = no_checks (without_level (lit "a" ∷ [])) refl refl refl refl refl refl;
  names = record { no_duplicates = alone (without_disabled [] (without_level (lit "a" ∷ []))) _ refl refl refl; no_faults = refl };
}

level_stands : IsStandingFault finds never [] 10 (without_level (lit "a" ∷ [])) kinds.FirstWithoutLevel (1, 92)
level_stands = IsStandingFault.level kinds.FirstWithoutLevel (1, 92) right_before (inl refl)

-- E = { X, L1 "b" }, where nothing has the name X: that stands, and nothing of levels does
checks_before : HasNoCheckFault (without_level (id "X" ∷ []))
unfolding names_in_item names_in_rule names_in_alternative misplaced_in_rule misplaced_in_alternative
checks_before = no_checks (without_level (id "X" ∷ [])) refl refl refl refl refl refl

unknown_stands : IsStandingFault finds never [] 10 (without_level (id "X" ∷ [])) (kinds.NoDefinition (codes "X")) here
unknown_stands = IsStandingFault.no_definition (codes "X") here checks_before (inl refl)

wrong_names : IsRightToNames [] (without_level (id "X" ∷ [])) → ⊥
wrong_names h = subst (λ l. Among l (NameFault.unknown (codes "X") here)) h.names.no_faults (inl refl)

hidden_refused : (kind : NormErrorKind) (p : TextSpan) → kind ≡ kinds.FirstWithoutLevel →
    IsStandingFault finds never [] 10 (without_level (id "X" ∷ [])) kind p → ⊥
hidden_refused kind p e (IsStandingFault.check k q h) = checks_before k q h
hidden_refused kind p e (IsStandingFault.duplicate n q a h) = cc
hidden_refused kind p e (IsStandingFault.no_definition n q a h) = cc
hidden_refused kind p e (IsStandingFault.macro_as_rule q a h) = cc
hidden_refused kind p e (IsStandingFault.level k q a h) = wrong_names a
hidden_refused kind p e (IsStandingFault.arity q a h) = cc
hidden_refused kind p e (IsStandingFault.depth x q a h at) = cc
hidden_refused kind p e (IsStandingFault.condition k q a h) = wrong_names a.before
hidden_refused kind p e (IsStandingFault.token k q a h) = wrong_names a.before.before
hidden_refused kind p e (IsStandingFault.types_disagree q a h) = cc
hidden_refused kind p e (IsStandingFault.no_type n q a h) = cc

-- S = X; X = "x"; M<K> = "c" if K == "x", which is called with what is given

abbrev calls : WrittenSymbol → EnabledGrammar
calls x = enabled_grammar finds [] (grammar (rule_of "S" (alt (x ∷ []) ∷ []) ∷ rule_of "X" (alt (lit "x" ∷ []) ∷ [])
    ∷ macro_of "M" ("K" ∷ []) (on_K ConditionTest.equals "x" (lit "c" ∷ []) ∷ []) ∷ []))

abbrev asked : Condition
asked = record { place = here; parameter = codes "K"; test = ConditionTest.equals; against = codes "x" }

abbrev of_M : Closed → Closed
of_M x = Closed.call (codes "M") (Closeds.more x Closeds.none) None

-- called with a rule: the condition asks something else than a literal
abbrev with_rule : EnabledGrammar
with_rule = calls (of_macro "M" (id "X" ∷ []))

wrong_condition : HasWrongCondition with_rule never (ConditionError.no_literal here)
wrong_condition = record {
  name = codes "M";
  args = Closeds.more (Closed.call (codes "X") Closeds.none None) Closeds.none;
  level = None;
  made = inr (1, listed-chain with_rule 1 (of_M (Closed.call (codes "X") Closeds.none None)) (inl refl));
  condition = asked;
  value = Some (Closed.call (codes "X") Closeds.none None);
  there = record { rule = _; is_rule = refl; choice = _; among = inl refl; level_is = refl; condition = refl; value_is = refl };
  holds = (refl, λ u. u);
}

-- called by nothing: no condition is asked, whatever is asked of it
abbrev uncalled : EnabledGrammar
uncalled = calls (id "X")

no_calls : (k : ℕ) → calls_at uncalled k ≡ []
no_calls zero = refl
no_calls (suc zero) = refl
no_calls (suc (suc k)) = ap (flat_map (calls_from uncalled)) (no_calls (suc k))

abbrev called : Nonterminal → Text
called (Nonterminal.closed (Closed.call n args level)) = n
called _ = []

root_name : (n : Text) (args : Closeds) (level : Option ℕ) → Among (roots uncalled) (Nonterminal.closed (Closed.call n args level)) →
    (n ≡ codes "S") ⊎ (n ≡ codes "X")
root_name n args level (inl e) = cc
root_name n args level (inr (inl e)) = inl (sym (ap called e))
root_name n args level (inr (inr (inl e))) = cc
root_name n args level (inr (inr (inr (inl e)))) = inr (sym (ap called e))
root_name n args level (inr (inr (inr (inr m)))) = absurd m

abbrev first_choices : List EnabledRule → List (Choice × Option Rank)
first_choices [] = []
first_choices (r ∷ rs) = ranked_choices r

no_condition : (n : Text) (r : EnabledRule) (t : Condition) (c : Choice × Option Rank) → (n ≡ codes "S") ⊎ (n ≡ codes "X") →
    IsRule uncalled n r → Among (ranked_choices r) c → c.0.condition ≡ Some t → ⊥
no_condition n r t c (inl e) is m h = go (subst (λ (l : List (Choice × Option Rank)). Among l c)
    (sym (ap first_choices (subst (λ (k : Text). IsRule uncalled k r) e is))) m)
  where
    go : Among (first_choices (rules_named uncalled (codes "S"))) c → ⊥
    go (inl f) = let none : None ≡ Some t = ap (λ (x : Choice × Option Rank). x.0.condition) f ∙ h in cc
    go (inr k) = absurd k
no_condition n r t c (inr e) is m h = go (subst (λ (l : List (Choice × Option Rank)). Among l c)
    (sym (ap first_choices (subst (λ (k : Text). IsRule uncalled k r) e is))) m)
  where
    go : Among (first_choices (rules_named uncalled (codes "X"))) c → ⊥
    go (inl f) = let none : None ≡ Some t = ap (λ (x : Choice × Option Rank). x.0.condition) f ∙ h in cc
    go (inr k) = absurd k

uncalled_refused : (P : Condition → Option Closed → Type 0) → HasConditionWhere uncalled P → ⊥
uncalled_refused P h = go h.made
  where
    go : IsMade uncalled (Closed.call h.name h.args h.level) → ⊥
    go (inl root) =
        no_condition h.name h.there.rule h.condition h.there.choice
        (root_name h.name h.args h.level (root-listed uncalled (Nonterminal.closed (Closed.call h.name h.args h.level)) root))
        h.there.is_rule h.there.among h.there.condition
    go (inr (k, chain)) =
        subst (λ (l : List Closed). Among l (Closed.call h.name h.args h.level)) (no_calls k)
        (chain-listed uncalled k (Closed.call h.name h.args h.level) chain)

-- numbers of arguments, with their places
abbrev giving : List WrittenSymbol → List TextSpan
giving args = arity_faults uncalled (rules_of (rule_of "S" (alt (of_macro "M" args ∷ []) ∷ []) ∷ []))

two_given : giving (lit "a" ∷ lit "b" ∷ []) ≡ here ∷ []
two_given = refl

one_given : giving (lit "a" ∷ []) ≡ []
one_given = refl

-- types: X = { "a", "b" X } at bytes 1 to 8 has two, X = { "a", X } one, and X = X none

abbrev default : List WrittenSymbol → Alternative
default symbols = record (alt symbols) { action = Action.default }

abbrev rule_at : Bool → String → TextSpan → List Alternative → Rule
rule_at public n span alternatives = record {
  public = public;
  name = codes n;
  attributes = [];
  span = span;
  parameters = [];
  declared = None;
  alternatives = alternatives;
}

abbrev rule_X : List Alternative → Rule
rule_X alternatives = rule_at false "X" (1, 8) alternatives

abbrev of_X : List Alternative → Grammar
of_X alternatives = grammar (WrittenItem.nonterminal (rule_X alternatives) ∷ [])

abbrev enabled_of : Grammar → EnabledGrammar
enabled_of w = enabled_grammar finds [] w

abbrev x : Closed
x = Closed.call (codes "X") Closeds.none None

abbrev disagreeing : Grammar
disagreeing = of_X (default (lit "a" ∷ []) ∷ default (lit "b" ∷ id "X" ∷ []) ∷ [])

abbrev two_texts : GroundType
two_texts = GroundType.tuple (GroundTypes.more text_type (GroundTypes.more text_type GroundTypes.none))

first_type : IsGrounded (enabled_of disagreeing) x text_type
first_type = (
  2,
  (
    reached-in (enabled_of disagreeing) 0 (Nonterminal.closed x) (inl refl),
    inr (inl (record {
      rule = _;
      choice = _;
      fits = record { rule = refl; arguments = refl; written = inl refl; leveled = refl; holds = tt };
      undeclared = refl;
      level_is = refl;
      no_code = refl;
      type_is = refl;
    })),
  ),
)

second_type : IsGrounded (enabled_of disagreeing) x two_texts
unfolding first_type
second_type = (
  3,
  (
    reached-in (enabled_of disagreeing) 0 (Nonterminal.closed x) (inl refl),
    inr (inl (record {
      rule = _;
      choice = _;
      fits = record { rule = refl; arguments = refl; written = inr (inl refl); leveled = refl; holds = tt };
      undeclared = refl;
      level_is = refl;
      no_code = refl;
      type_is = (_, refl, (refl, (first_type.1, tt)));
    })),
  ),
)

-- alternatives, and the places at which they are written

abbrev choice_at : String → ℕ → List WrittenSymbol → Choice × Option Rank
choice_at n place symbols = (
  record {
    origin = Origin.alternative (codes n) [] place;
    expr = symbols;
    condition = None;
    action = Action.default;
    attributes = [];
  },
  None,
)

abbrev place_in : Origin → ℕ
place_in (Origin.alternative n args place) = place
place_in _ = 9

abbrev own_place : OwnAlternative → ℕ
own_place (OwnAlternative.written c) = place_in c.0.origin
own_place OwnAlternative.pass_down = 9

abbrev call_of_X : (alternatives : List Alternative) → InExpansion (enabled_of (of_X alternatives)) (Nonterminal.closed x)
    → IsCallAt (enabled_of (of_X alternatives)) (of_X alternatives) x (1, 8)
call_of_X alternatives i = record {
  name = codes "X";
  args = Closeds.none;
  level = None;
  is_call = refl;
  in_expansion = i;
  rule = rule_X alternatives;
  among = inl refl;
  name_is = refl;
  span_is = refl;
}

two_stand : IsDisagreeing (enabled_of disagreeing) disagreeing (1, 8)
two_stand = record {
  symbol = x;
  at = call_of_X _ (reached-in (enabled_of disagreeing) 0 (Nonterminal.closed x) (inl refl));
  one = OwnAlternative.written (choice_at "X" 0 (lit "a" ∷ []));
  other = OwnAlternative.written (choice_at "X" 1 (lit "b" ∷ id "X" ∷ []));
  apart = λ e. let places : 0 ≡ 1 = ap own_place e in omega (arith, places);
  first = text_type;
  second = two_texts;
  differ = λ e. cc;
  one_gives = (
    record {
      rule = _;
      choice = _;
      fits = record { rule = refl; arguments = refl; written = inl refl; leveled = refl; holds = tt };
      undeclared = refl;
      level_is = refl;
      no_code = refl;
      type_is = (1, refl);
    },
    refl,
  );
  other_gives = (
    record {
      rule = _;
      choice = _;
      fits = record { rule = refl; arguments = refl; written = inr (inl refl); leveled = refl; holds = tt };
      undeclared = refl;
      level_is = refl;
      no_code = refl;
      type_is = (_, refl, ((1, refl), (first_type, tt)));
    },
    refl,
  );
}

abbrev itself : Grammar
itself = of_X (default (lit "a" ∷ []) ∷ default (id "X" ∷ []) ∷ [])

one_refused : (p : TextSpan) → IsDisagreeing (enabled_of itself) itself p → ⊥
one_refused p h = go (all-of (enabled_of itself) (Nonterminal.closed x ∷ []) refl (Nonterminal.closed h.symbol) h.at.in_expansion)
  where
    only : (t : GroundType) → IsGrounded (enabled_of itself) x t → Some text_type ≡ Some t
    only t k = type-in-table (enabled_of itself) ((x, text_type) ∷ []) (Nonterminal.closed x ∷ []) refl x t k

    go : Among (Nonterminal.closed x ∷ []) (Nonterminal.closed h.symbol) → ⊥
    go (inr m) = absurd m
    go (inl e) =
        let same : h.symbol ≡ x = cc in
        let types = disagreeing_types (enabled_of itself) itself p h in
        let one = only h.first (subst (λ (y : Closed). IsGrounded (enabled_of itself) y h.first) same types.0) in
        let two = only h.second (subst (λ (y : Closed). IsGrounded (enabled_of itself) y h.second) same types.1) in
        let both : Some h.first ≡ Some h.second = sym one ∙ two in
        h.differ (let f : h.first ≡ h.second = cc in f)

-- S = X at bytes 1 to 5, X = { "a", "b" "c" } at 6 to 20: X's alternatives disagree; S has both types, by one alternative

abbrev reader : Rule
reader = rule_at true "S" (1, 5) (default (id "X" ∷ []) ∷ [])

abbrev two_ways : Rule
two_ways = rule_at false "X" (6, 20) (default (lit "a" ∷ []) ∷ default (lit "b" ∷ lit "c" ∷ []) ∷ [])

abbrev inheriting : Grammar
inheriting = grammar (WrittenItem.nonterminal reader ∷ WrittenItem.nonterminal two_ways ∷ [])

x_there : InExpansion (enabled_of inheriting) (Nonterminal.closed x)
x_there = reached-in (enabled_of inheriting) 0 (Nonterminal.closed x) (inr (inr (inl refl)))

one_text : IsGrounded (enabled_of inheriting) x text_type
one_text = (
  2,
  (
    x_there,
    inr (inl (record {
      rule = _;
      choice = _;
      fits = record { rule = refl; arguments = refl; written = inl refl; leveled = refl; holds = tt };
      undeclared = refl;
      level_is = refl;
      no_code = refl;
      type_is = refl;
    })),
  ),
)

pair_of_texts : IsGrounded (enabled_of inheriting) x two_texts
pair_of_texts = (
  2,
  (
    x_there,
    inr (inl (record {
      rule = _;
      choice = _;
      fits = record { rule = refl; arguments = refl; written = inr (inl refl); leveled = refl; holds = tt };
      undeclared = refl;
      level_is = refl;
      no_code = refl;
      type_is = (_, refl, (refl, (refl, tt)));
    })),
  ),
)

own_alternatives_stand : IsDisagreeing (enabled_of inheriting) inheriting (6, 20)
own_alternatives_stand = record {
  symbol = x;
  at = record {
    name = codes "X";
    args = Closeds.none;
    level = None;
    is_call = refl;
    in_expansion = x_there;
    rule = two_ways;
    among = inr (inl refl);
    name_is = refl;
    span_is = refl;
  };
  one = OwnAlternative.written (choice_at "X" 0 (lit "a" ∷ []));
  other = OwnAlternative.written (choice_at "X" 1 (lit "b" ∷ lit "c" ∷ []));
  apart = λ e. let places : 0 ≡ 1 = ap own_place e in omega (arith, places);
  first = text_type;
  second = two_texts;
  differ = λ e. cc;
  one_gives = (
    record {
      rule = _;
      choice = _;
      fits = record { rule = refl; arguments = refl; written = inl refl; leveled = refl; holds = tt };
      undeclared = refl;
      level_is = refl;
      no_code = refl;
      type_is = (1, refl);
    },
    refl,
  );
  other_gives = (
    record {
      rule = _;
      choice = _;
      fits = record { rule = refl; arguments = refl; written = inr (inl refl); leveled = refl; holds = tt };
      undeclared = refl;
      level_is = refl;
      no_code = refl;
      type_is = (_, refl, ((1, refl), ((1, refl), tt)));
    },
    refl,
  );
}

-- S's types are those of X
s_has : (t : GroundType) → IsGrounded (enabled_of inheriting) x t →
    IsGrounded (enabled_of inheriting) (Closed.call (codes "S") Closeds.none None) t
s_has t (k, h) = (
  suc k,
  (
    reached-in (enabled_of inheriting) 0 (Nonterminal.closed (Closed.call (codes "S") Closeds.none None)) (inr (inl refl)),
    inr (inl (record {
      rule = _;
      choice = _;
      fits = record { rule = refl; arguments = refl; written = inl refl; leveled = refl; holds = tt };
      undeclared = refl;
      level_is = refl;
      no_code = refl;
      type_is = h;
    })),
  ),
)

abbrev first_rule : List EnabledRule → EnabledRule
first_rule [] = enabled_rule [] reader
first_rule (r ∷ rs) = r

-- and its rule has one alternative
s_rule : (r : EnabledRule) → IsRule (enabled_of inheriting) (codes "S") r → enabled_rule [] reader ≡ r
s_rule r e = ap first_rule e

s_alternative : (args : Closeds) (level : Option ℕ) (a : OwnAlternative) (t : GroundType) →
    IsGivenBy (enabled_of inheriting) (codes "S") args level a t → OwnAlternative.written (choice_at "S" 0 (id "X" ∷ [])) ≡ a
s_alternative args level (OwnAlternative.written c) t m =
    ap OwnAlternative.written (only m.0.choice (subst (λ (r : EnabledRule). Among (ranked_choices r) m.0.choice)
    (sym (s_rule m.0.rule m.0.fits.rule)) m.0.fits.written) ∙ m.1)
  where
    only : (p : Choice × Option Rank) → Among (choice_at "S" 0 (id "X" ∷ []) ∷ []) p → choice_at "S" 0 (id "X" ∷ []) ≡ p
    only p (inl e) = e
    only p (inr i) = absurd i
s_alternative args level OwnAlternative.pass_down t m =
    let none : None ≡ Some m.to = ap (λ (r : EnabledRule). tighter r m.from) (s_rule m.rule m.is_rule) ∙ m.to_is in cc

s_named : (r : Rule) → Among (rules_of inheriting.items) r → r.span ≡ (1, 5) → r.name ≡ codes "S"
s_named r (inl e) s = ap (λ (q : Rule). q.name) (sym e)
s_named r (inr (inl e)) s =
    let starts : 6 ≡ 1 = ap (λ (q : Rule). q.span.0) e ∙ ap (λ (p : TextSpan). p.0) s in absurd (omega (arith, starts))
s_named r (inr (inr i)) s = absurd i

inherited_refused : IsDisagreeing (enabled_of inheriting) inheriting (1, 5) → ⊥
inherited_refused h =
    let named : h.at.name ≡ codes "S" = sym h.at.name_is ∙ s_named h.at.rule h.at.among h.at.span_is in
    let one = s_alternative h.at.args h.at.level h.one h.first
    (subst (λ (n : Text). IsGivenBy (enabled_of inheriting) n h.at.args h.at.level h.one h.first) named h.one_gives) in
    let other = s_alternative h.at.args h.at.level h.other h.second
    (subst (λ (n : Text). IsGivenBy (enabled_of inheriting) n h.at.args h.at.level h.other h.second) named h.other_gives) in
    h.apart (sym one ∙ other)

-- so nothing says of S that its alternatives disagree
not_at_reader : (kind : NormErrorKind) (p : TextSpan) → kind ≡ kinds.TypesDisagree → p ≡ (1, 5) →
    IsStandingFault finds never [] 10 inheriting kind p → ⊥
not_at_reader kind p e s (IsStandingFault.check k q h) = subst (λ (x : NormErrorKind). CheckStands x q inheriting) e h
not_at_reader kind p e s (IsStandingFault.duplicate n q a h) = cc
not_at_reader kind p e s (IsStandingFault.no_definition n q a h) = cc
not_at_reader kind p e s (IsStandingFault.macro_as_rule q a h) = cc
not_at_reader kind p e s (IsStandingFault.level k q a h) = h
not_at_reader kind p e s (IsStandingFault.arity q a h) = cc
not_at_reader kind p e s (IsStandingFault.depth x q a h at) = cc
not_at_reader kind p e s (IsStandingFault.condition k q a h) =
    let told : HasWrongCondition (grammar_between finds inheriting) never ConditionError.other =
    subst (λ (x : NormErrorKind). HasWrongCondition (grammar_between finds inheriting) never (condition_error x q)) e h in
    told.holds
not_at_reader kind p e s (IsStandingFault.token k q a h) =
    subst (λ (x : NormErrorKind). TokenFaultInWritten (enabled_places [] inheriting) (enabled_of inheriting) inheriting x q) e h
not_at_reader kind p e s (IsStandingFault.types_disagree q a h) =
    inherited_refused (subst (λ (x : TextSpan). IsDisagreeing (enabled_of inheriting) inheriting x) s h)
not_at_reader kind p e s (IsStandingFault.no_type n q a h) = cc

abbrev circular : Grammar
circular = of_X (default (id "X" ∷ []) ∷ [])

none_stands : IsUntyped (enabled_of circular) (codes "__") circular (codes "X") (1, 8)
unfolding digits
none_stands = record {
  call = record {
    symbol = x;
    at = call_of_X _ (reached-in (enabled_of circular) 0 (Nonterminal.closed x) (inl refl));
    no_type = λ t h. let e : None ≡ Some t = type-in-table (enabled_of circular) [] (Nonterminal.closed x ∷ []) refl x t h in cc;
  };
  name_of = name_by (leveled_key_text (enabled_of circular)) (codes "__") [];
  naming = record {
    naming = naming-is (enabled_of circular) (leveled_key_text (enabled_of circular)) (codes "__") [] 1 (Nonterminal.closed x ∷ [])
        refl refl refl;
    levels = tt;
    others = [];
    in_order = keys-by-use (enabled_of circular) [] refl;
    numbered = tt;
  };
  called = refl;
}
