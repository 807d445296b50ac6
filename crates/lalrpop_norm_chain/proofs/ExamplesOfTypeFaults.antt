-- Computed examples of two alternatives that disagree, and of two that don't, where one has two types and the other none.
use Prim.Native.String.{String}
use Rattle.std.proofs.Common.{◌≡◌, ℕ, zero, suc, List, [], ◌∷◌, refl, ap, sym, ◌∙◌, subst, inl, inr, false, arith}
use Rattle.std.specs.Prelude.{codes, Option, Some, None}
use Rattle.lalrpop_grammar_symbols.specs.Symbols.{Text, TextSpan, WrittenSymbol, Closed, Closeds}
use Rattle.lalrpop_grammar.specs.WrittenGrammar.{Action, Alternative, Grammar, Origin, Rule, WrittenItem, rules_of}
use Rattle.lalrpop_grammar_language.specs.Admitting.{bind}
use Rattle.lalrpop_grammar_language.specs.Among.{Among}
use Rattle.lalrpop_grammar_language.specs.Closing.{right_side}
use Rattle.lalrpop_grammar_language.specs.Enabled.{Choice, EnabledGrammar, EnabledRule, IsRule, enabled_grammar, enabled_rule}
use Rattle.lalrpop_grammar_language.specs.Expansion.{Nonterminal}
use Rattle.lalrpop_grammar_language.specs.Levels.{Rank, ranked_choices, tighter}
use Rattle.lalrpop_grammar_language.proofs.WrittenTreeLemmas.{alt, finds, grammar, id, lit}
use Rattle.lalrpop_norm_theory.specs.Types.{CallStep, GroundType, GroundTypes, HaveTupleType, IsGrounded, IsGroundedIn, chosen_or_all}
use Rattle.lalrpop_norm_theory.specs.Types.{text_type}
use Rattle.lalrpop_norm_theory.proofs.ExpansionListLemmas.{reached-in}
use Rattle.lalrpop_norm_chain.specs.WrittenTypeFaults.{IsDisagreeing, IsGivenBy, OwnAlternative}

abbrev default : List WrittenSymbol → Alternative
default symbols = record (alt symbols) { action = Action.default }

abbrev rule_at : String → TextSpan → List Alternative → Rule
rule_at n span alternatives = record {
  public = false;
  name = codes n;
  attributes = [];
  span = span;
  parameters = [];
  declared = None;
  alternatives = alternatives;
}

abbrev choice_at : String → ℕ → List WrittenSymbol → Choice × Option Rank
choice_at n place symbols = (
  record {
    origin = Origin.alternative (codes n) [] place;
    expr = symbols;
    condition = None;
    action = Action.default;
    attributes = [];
  },
  None,
)

-- S = { X, Z } at bytes 1 to 5, X = { "a", "b" "c" } at 6 to 20, Z = Z at 21 to 25

abbrev of_both : Rule
of_both = rule_at "S" (1, 5) (default (id "X" ∷ []) ∷ default (id "Z" ∷ []) ∷ [])

abbrev two_ways : Rule
two_ways = rule_at "X" (6, 20) (default (lit "a" ∷ []) ∷ default (lit "b" ∷ lit "c" ∷ []) ∷ [])

abbrev circular : Rule
circular = rule_at "Z" (21, 25) (default (id "Z" ∷ []) ∷ [])

abbrev beside : Grammar
beside = grammar (WrittenItem.nonterminal of_both ∷ WrittenItem.nonterminal two_ways ∷ WrittenItem.nonterminal circular ∷ [])

abbrev enabled : EnabledGrammar
enabled = enabled_grammar finds [] beside

-- the alternatives of X disagree

abbrev X : Closed
X = Closed.call (codes "X") Closeds.none None

abbrev two_texts : GroundType
two_texts = GroundType.tuple (GroundTypes.more text_type (GroundTypes.more text_type GroundTypes.none))

abbrev place_in : Origin → ℕ
place_in (Origin.alternative n args place) = place
place_in _ = 9

abbrev own_place : OwnAlternative → ℕ
own_place (OwnAlternative.written c) = place_in c.0.origin
own_place OwnAlternative.pass_down = 9

own_alternatives_stand : IsDisagreeing enabled beside (6, 20)
own_alternatives_stand = record {
  symbol = X;
  at = record {
    name = codes "X";
    args = Closeds.none;
    level = None;
    is_call = refl;
    in_expansion = reached-in enabled 0 (Nonterminal.closed X) (inr (inl refl));
    rule = two_ways;
    among = inr (inl refl);
    name_is = refl;
    span_is = refl;
  };
  one = OwnAlternative.written (choice_at "X" 0 (lit "a" ∷ []));
  other = OwnAlternative.written (choice_at "X" 1 (lit "b" ∷ lit "c" ∷ []));
  apart = λ e. let places : 0 ≡ 1 = ap own_place e in omega (arith, places);
  first = text_type;
  second = two_texts;
  differ = λ e. cc;
  one_gives = (
    record {
      rule = _;
      choice = _;
      fits = record { rule = refl; arguments = refl; written = inl refl; leveled = refl; holds = tt };
      undeclared = refl;
      level_is = refl;
      no_code = refl;
      type_is = (1, refl);
    },
    refl,
  );
  other_gives = (
    record {
      rule = _;
      choice = _;
      fits = record { rule = refl; arguments = refl; written = inr (inl refl); leveled = refl; holds = tt };
      undeclared = refl;
      level_is = refl;
      no_code = refl;
      type_is = (_, refl, ((1, refl), ((1, refl), tt)));
    },
    refl,
  );
}

-- S has each type of X
has_both : (t : GroundType) → IsGrounded enabled X t → IsGrounded enabled (Closed.call (codes "S") Closeds.none None) t
has_both t (k, h) = (
  suc k,
  (
    reached-in enabled 0 (Nonterminal.closed (Closed.call (codes "S") Closeds.none None)) (inl refl),
    inr (inl (record {
      rule = _;
      choice = _;
      fits = record { rule = refl; arguments = refl; written = inl refl; leveled = refl; holds = tt };
      undeclared = refl;
      level_is = refl;
      no_code = refl;
      type_is = h;
    })),
  ),
)

abbrev first_or : EnabledRule → List EnabledRule → EnabledRule
first_or d [] = d
first_or d (r ∷ rs) = r

abbrev S : EnabledRule
S = enabled_rule [] of_both

abbrev Z : EnabledRule
Z = enabled_rule [] circular

is_S : (r : EnabledRule) → IsRule enabled (codes "S") r → S ≡ r
is_S r e = ap (first_or S) e

is_Z : (r : EnabledRule) → IsRule enabled (codes "Z") r → Z ≡ r
is_Z r e = ap (first_or Z) e

-- Z has no type
no_type : (k : ℕ) (t : GroundType) → IsGroundedIn enabled k (Closed.call (codes "Z") Closeds.none None) t → ⊥
no_type zero t h = absurd h
no_type (suc k) t h = go (no_type k t) h.1
  where
    by_itself : (IsGroundedIn enabled k (Closed.call (codes "Z") Closeds.none None) t → ⊥) → (p : Choice × Option Rank) →
        Among (choice_at "Z" 0 (id "Z" ∷ []) ∷ []) p →
        HaveTupleType (IsGroundedIn enabled k) (chosen_or_all (right_side enabled Z (bind Z Closeds.none) p)) t → ⊥
    by_itself sooner p (inl e) typed =
        sooner
        (subst (λ q. HaveTupleType (IsGroundedIn enabled k) (chosen_or_all (right_side enabled Z (bind Z Closeds.none) q)) t) (sym e)
        typed)
    by_itself sooner p (inr i) typed = absurd i

    go : (IsGroundedIn enabled k (Closed.call (codes "Z") Closeds.none None) t → ⊥) →
        CallStep enabled (IsGroundedIn enabled k) (codes "Z") Closeds.none None t → ⊥
    go sooner (inl d) =
        let none : None ≡ Some d.written = ap (λ (r : EnabledRule). r.declared) (is_Z d.rule d.is_rule) ∙ d.declared in cc
    go sooner (inr (inl d)) =
        let same = sym (is_Z d.rule d.fits.rule) in
        by_itself sooner d.choice (subst (λ r. Among (ranked_choices r) d.choice) same d.fits.written)
        (subst (λ r. HaveTupleType (IsGroundedIn enabled k) (chosen_or_all (right_side enabled r (bind r Closeds.none) d.choice)) t) same
        d.type_is)
    go sooner (inr (inr d)) = let none : None ≡ Some d.from = d.from_is in cc

-- so S has types by its first alternative alone
only_first : (args : Closeds) (level : Option ℕ) (a : OwnAlternative) (t : GroundType) → IsGivenBy enabled (codes "S") args level a t →
    OwnAlternative.written (choice_at "S" 0 (id "X" ∷ [])) ≡ a
only_first args level (OwnAlternative.written c) t m =
    let same = sym (is_S m.0.rule m.0.fits.rule) in
    ap OwnAlternative.written (go m.0.choice (subst (λ r. Among (ranked_choices r) m.0.choice) same m.0.fits.written)
    (subst (λ r. HaveTupleType (IsGrounded enabled) (chosen_or_all (right_side enabled r (bind r args) m.0.choice)) t) same m.0.type_is)
    ∙ m.1)
  where
    go : (p : Choice × Option Rank) → Among (choice_at "S" 0 (id "X" ∷ []) ∷ choice_at "S" 1 (id "Z" ∷ []) ∷ []) p →
        HaveTupleType (IsGrounded enabled) (chosen_or_all (right_side enabled S (bind S args) p)) t → choice_at "S" 0 (id "X" ∷ []) ≡ p
    go p (inl e) typed = e
    go p (inr (inl e)) typed =
        let of_Z : IsGrounded enabled (Closed.call (codes "Z") Closeds.none None) t =
        subst (λ q. HaveTupleType (IsGrounded enabled) (chosen_or_all (right_side enabled S (bind S args) q)) t) (sym e) typed in
        absurd (no_type of_Z.0 t of_Z.1)
    go p (inr (inr i)) typed = absurd i
only_first args level OwnAlternative.pass_down t m =
    let none : None ≡ Some m.to = ap (λ (r : EnabledRule). tighter r m.from) (is_S m.rule m.is_rule) ∙ m.to_is in cc

called_S : (r : Rule) → Among (rules_of beside.items) r → r.span ≡ (1, 5) → r.name ≡ codes "S"
called_S r (inl e) s = ap (λ (q : Rule). q.name) (sym e)
called_S r (inr (inl e)) s =
    let starts : 6 ≡ 1 = ap (λ (q : Rule). q.span.0) e ∙ ap (λ (p : TextSpan). p.0) s in absurd (omega (arith, starts))
called_S r (inr (inr (inl e))) s =
    let starts : 21 ≡ 1 = ap (λ (q : Rule). q.span.0) e ∙ ap (λ (p : TextSpan). p.0) s in absurd (omega (arith, starts))
called_S r (inr (inr (inr i))) s = absurd i

-- and its alternatives don't disagree, though it has two types
beside_refused : IsDisagreeing enabled beside (1, 5) → ⊥
beside_refused h =
    let named : h.at.name ≡ codes "S" = sym h.at.name_is ∙ called_S h.at.rule h.at.among h.at.span_is in
    let one = only_first h.at.args h.at.level h.one h.first
    (subst (λ (n : Text). IsGivenBy enabled n h.at.args h.at.level h.one h.first) named h.one_gives) in
    let other = only_first h.at.args h.at.level h.other h.second
    (subst (λ (n : Text). IsGivenBy enabled n h.at.args h.at.level h.other h.second) named h.other_gives) in
    h.apart (sym one ∙ other)
