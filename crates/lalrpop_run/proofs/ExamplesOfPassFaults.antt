-- Computed examples: of `S = "a"`, public or private, no pass tells a fault, and nothing else stands against the public one but what
-- inlining may tell; a public rule that is inlined is told.
use Rattle.std.proofs.Common.{◌≡◌, ℕ, zero, suc, ◌<◌, ◌≤◌, List, [], ◌∷◌, ◌++◌, length, refl, ap, sym, ◌∙◌, subst, inl, inr, ◌⊎◌, arith}
use Rattle.std.proofs.Common.{Bool, true, false, Option, Some, None, rules}
use Rattle.std.specs.Prelude.{codes}
use Rattle.lalrpop_grammar_symbols.specs.Symbols.{Closed, Closeds, Terminal, Text, TextSpan}
use Rattle.lalrpop_grammar_symbols.specs.Views.{literal_view}
use Rattle.lalrpop_grammar.specs.WrittenGrammar.{Action, Grammar, InternEntry, Origin, Rule, Ty, Tys, WrittenEntry}
use Rattle.lalrpop_grammar_language.specs.Among.{Among}
use Rattle.lalrpop_grammar_language.specs.Closing.{Scope}
use Rattle.lalrpop_grammar_language.specs.Enabled.{Choice, EnabledGrammar, EnabledRule, IsRule, enabled_grammar}
use Rattle.lalrpop_grammar_language.specs.Expansion.{GrammarSymbol, InExpansion, Nonterminal, Produces, RightSide, WrittenLabel}
use Rattle.lalrpop_grammar_language.specs.Derivations.{Derivation, Derivations, IsDerivationOf}
use Rattle.lalrpop_grammar_language.specs.Levels.{Rank, ranked_choices}
use Rattle.lalrpop_grammar_language.proofs.WrittenTreeLemmas.{alt, finds, grammar, here, lit}
use Rattle.lalrpop_grammar_repr.specs.declared.norm_error.NormErrorKind.{NormErrorKind}
use Rattle.lalrpop_grammar_repr.specs.declared.norm_error.NormErrorKind.TheVariants as kinds
use Rattle.lalrpop_norm.specs.Normalizing.{HasTooManyLabels, IsWrittenFault}
use Rattle.lalrpop_norm_chain.specs.MadeConditions.{HasWrongCondition}
use Rattle.lalrpop_norm_chain.specs.StandingFaults.{IsStandingFault}
use Rattle.lalrpop_norm_chain.specs.TokenFaults.{TokenFaultInWritten, enabled_places}
use Rattle.lalrpop_norm_chain.specs.UsedLiterals.{AreFullExpansionEntries, AreUsedLiterals, IsUsedLiteral}
use Rattle.lalrpop_norm_chain.specs.WrittenTypeFaults.{HasNoTypeAt, IsDisagreeing}
use Rattle.lalrpop_norm_chain.proofs.TokenFaultLemmas.{one_list}
use Rattle.lalrpop_norm_chain.proofs.TwoAlternativeLemmas.{disagreeing_types}
use Rattle.lalrpop_norm_keys.specs.MacroFaults.{ConditionError}
use Rattle.lalrpop_norm_keys.specs.Tables.{HasEachOnce}
use Rattle.lalrpop_norm_prevalidate.specs.Faults.{CheckStands}
use Rattle.lalrpop_norm_prevalidate.specs.Labels.{misplaced_in_alternative, misplaced_in_rule}
use Rattle.lalrpop_norm_prevalidate.specs.Names.{SpannedName, has_prefix, names_in_alternative, names_in_item, names_in_rule}
use Rattle.lalrpop_norm_theory.specs.Between.{grammar_between, without_disabled}
use Rattle.lalrpop_norm_theory.specs.Depth.{HasCallChain, IsTooDeep}
use Rattle.lalrpop_norm_theory.specs.Inlined.{IsInlined}
use Rattle.lalrpop_norm_theory.specs.NameFaults.{IsDuplicate, IsTwice}
use Rattle.lalrpop_norm_theory.specs.Premises.{IsNoRecovery}
use Rattle.lalrpop_norm_theory.specs.Types.{CallStep, GroundType, GroundTypes, IsGrounded, IsGroundedIn, IsTypeOf, type_scope}
use Rattle.lalrpop_norm_theory.proofs.AmongLemmas.{all-among}
use Rattle.lalrpop_norm_theory.proofs.ExpansionListLemmas.{all-of, is_not_too_deep, rule_there}
use Rattle.lalrpop_norm_theory.proofs.ProductionListLemmas.{is_production, listed}
use Rattle.lalrpop_norm_theory.proofs.RowListLemmas.{reached-each}
use Rattle.lalrpop_norm_token_check.specs.Entries.{own_entry, tokenizer_entries}
use Rattle.lalrpop_norm_token_check.specs.Patterns.{first_refused}
use Rattle.lalrpop_run_prepare.specs.Carried.{IsCarried}
use Rattle.lalrpop_run_theory.specs.Barren.{HasNoBarren, IsReachedFrom, IsWrittenStart}
use Rattle.lalrpop_run_theory.specs.TextAnswers.{TextAnswer}
use Rattle.lalrpop_run_theory.proofs.BarrenLemmas.{written_start_once}
use Rattle.lalrpop_run_theory.proofs.ExamplesOfExpansions.{inline, n, place, rule, start, t}
use Rattle.lalrpop_run.specs.Asked.{Refusal, WrittenAnswer}
use Rattle.lalrpop_run.specs.InlineCycles.{IsCyclic}
use Rattle.lalrpop_run.specs.ListedFaults.{HasNoPassFault, IsFaultless, IsListedFault}
use Rattle.lalrpop_run.specs.RightAnswer.{IsRightAnswerTo}
use Rattle.lalrpop_run.proofs.ExamplesOfInliningNumbers.{word_numbers}
use Rattle.lalrpop_run.proofs.ExamplesOfOneWord.{a, kept_where_unmarked, one_word, rule_of_word, the_choice, unit_rule, word_of}
use Rattle.lalrpop_run.proofs.ExamplesOfRightAnswers.{asked, asked_within}
use Rattle.lalrpop_run.proofs.ExamplesOfUncarried.{AreCalm, IsCalm, calm_rules, only_rules}
use Rattle.lalrpop_run.proofs.InlineCycleLemmas.{first_inlined}
use Rattle.lalrpop_run.proofs.OneAnswerLemmas.{parsed_where_answered}

abbrev of_word : Bool → EnabledGrammar
of_word public = enabled_grammar finds [] (word_of public)

abbrev left : Bool → Grammar
left public = without_disabled [] (word_of public)

abbrev S : Closed
S = Closed.call (codes "S") Closeds.none None

-- the first pass finds nothing
no_attribute : (public : Bool) (name : Text) (p : TextSpan) → CheckStands (kinds.UnknownAttribute name) p (word_of public) → ⊥
no_attribute public name p h = h.among

no_reserved : (public : Bool) (p : TextSpan) → CheckStands kinds.ReservedPrefix p (word_of public) → ⊥
unfolding names_in_item names_in_rule names_in_alternative
no_reserved public p h = go h.told h.among h.begins
  where
    go : (told : SpannedName) → Among {A = SpannedName} ((codes "S", here) ∷ []) told → has_prefix (codes "__") told.0 ≡ true → ⊥
    go told (inr i) e = absurd i
    go told (inl i) e =
        let wrong : false ≡ true = ap (λ (k : SpannedName). has_prefix (codes "__") k.0) i ∙ e in
        cc

no_entries : (public : Bool) (p : TextSpan) → CheckStands kinds.EntryTwice p (word_of public) → ⊥
no_entries public p h = go h.before h.later h.after h.whole
  where
    go : (before : List WrittenEntry) (later : WrittenEntry) (after : List WrittenEntry) → [] ≡ before ++ later ∷ after → ⊥
    go [] later after e = cc
    go (x ∷ before) later after e = cc

no_inline : (public : Bool) (p : TextSpan) → CheckStands kinds.PublicInline p (word_of public) → ⊥
no_inline true p h = h
no_inline false p h = h

no_label : (public : Bool) (p : TextSpan) → CheckStands kinds.NamedNotAllowed p (word_of public) → ⊥
unfolding misplaced_in_rule misplaced_in_alternative
no_label public p h = h

not_checked : (public : Bool) (kind : NormErrorKind) (p : TextSpan) → CheckStands kind p (word_of public) → ⊥
not_checked public (kinds.UnknownAttribute name) p h = no_attribute public name p h
not_checked public kinds.ReservedPrefix p h = no_reserved public p h
not_checked public kinds.EntryTwice p h = no_entries public p h
not_checked public kinds.PublicInline p h = no_inline public p h
not_checked public kinds.NamedNotAllowed p h = no_label public p h
not_checked public _ p h = h

-- names stand once
not_twice : (public : Bool) (m : Text) (p : TextSpan) → IsDuplicate (left public) m p → ⊥
not_twice public m p (IsDuplicate.of_rules [] r after e h) = let wrong : false ≡ true = h in cc
not_twice public m p (IsDuplicate.of_rules (q ∷ []) r after e h) = cc
not_twice public m p (IsDuplicate.of_rules (q ∷ s ∷ before) r after e h) = cc
not_twice public m p (IsDuplicate.of_mapped r i h) = let wrong : false ≡ true = h in cc
not_twice public m p (IsDuplicate.of_parameters r x (inr i) h) = absurd i
not_twice public m p (IsDuplicate.of_parameters r x (inl e) h) =
    subst (IsTwice x) (ap (λ (q : Rule). q.parameters) (sym e)) h

-- no macro is called
no_chain : (public : Bool) (k : ℕ) (x : Closed) → HasCallChain (of_word public) k x → ⊥
no_chain public k x h = go public (record { steps = k; chain = h; none_short = none })
  where
    none : (j : ℕ) → j ≤ 0 → HasCallChain (of_word public) j x → ⊥
    none zero l c = c
    none (suc j) l c = omega (arith, l)

    go : (b : Bool) → IsTooDeep (of_word b) 0 x → ⊥
    go true = is_not_too_deep (of_word true) 0 refl x
    go false = is_not_too_deep (of_word false) 0 refl x

-- no alternative has a condition
abbrev between : Bool → EnabledGrammar
between public = grammar_between finds (left public)

abbrev choice_between : Choice
choice_between = record {
  origin = place "S" 0;
  expr = lit "a" ∷ [];
  condition = None;
  action = Action.user (codes "()");
  attributes = [];
}

no_condition : (public : Bool) (e : ConditionError) → HasWrongCondition (between public) (λ x. false) e → ⊥
no_condition public e h =
    let at = h.there in
    go at.rule (rule_there (between public) h.name at.rule at.is_rule).0 at.choice at.among at.condition
  where
    of_choice : (choice : Choice × Option Rank) → Among {A = Choice × Option Rank} ((choice_between, None) ∷ []) choice →
        choice.0.condition ≡ Some h.condition → ⊥
    of_choice choice (inr i) f = absurd i
    of_choice choice (inl i) f =
        let wrong : None ≡ Some h.condition = ap (λ (c : Choice × Option Rank). c.0.condition) i ∙ f in
        cc

    go : (q : EnabledRule) → Among (between public).rules q → (choice : Choice × Option Rank) → Among (ranked_choices q) choice →
        choice.0.condition ≡ Some h.condition → ⊥
    go q (inr i) choice among f = absurd i
    go q (inl i) choice among f = of_choice choice (subst (λ z. Among (ranked_choices z) choice) (sym i) among) f

-- the rule is the only symbol of the expansion, but for the start
is_rule_S : (public : Bool) (x : Closed) → InExpansion (of_word public) (Nonterminal.closed x) → S ≡ x
is_rule_S true x i = go (all-of (of_word true) (start ∷ rule "S" ∷ []) refl (Nonterminal.closed x) i)
  where
    go : Among (start ∷ rule "S" ∷ []) (Nonterminal.closed x) → S ≡ x
    go (inl e) = cc
    go (inr (inl e)) = cc
    go (inr (inr k)) = absurd k
is_rule_S false x i = go (all-of (of_word false) (rule "S" ∷ []) refl (Nonterminal.closed x) i)
  where
    go : Among (rule "S" ∷ []) (Nonterminal.closed x) → S ≡ x
    go (inl e) = cc
    go (inr k) = absurd k

S_there : (public : Bool) → InExpansion (of_word public) (rule "S")
S_there true = reached-each (of_word true) 1 (rule "S" ∷ []) refl (rule "S") (inl refl)
S_there false = reached-each (of_word false) 1 (rule "S" ∷ []) refl (rule "S") (inl refl)

-- and uses one literal
abbrev Chosen : Type 0
Chosen = Origin × RightSide

side_of_S : (public : Bool) (o : Origin) (side : RightSide) → Produces (of_word public) (rule "S") o side →
    (place "S" 0 ≡ o) × (t "a" ∷ [] ≡ side)
side_of_S public o side h = go (listed (of_word public) (rule "S") o side h)
  where
    go : Among {A = Chosen} ((place "S" 0, t "a" ∷ []) ∷ []) (o, side) → (place "S" 0 ≡ o) × (t "a" ∷ [] ≡ side)
    go (inl e) = (ap (λ (c : Chosen). c.0) e, ap (λ (c : Chosen). c.1) e)
    go (inr i) = absurd i

side_of_start : (m : Text) (public : Bool) (o : Origin) (side : RightSide) → InExpansion (of_word public) (Nonterminal.start m) →
    Produces (of_word public) (Nonterminal.start m) o side → (start ≡ Nonterminal.start m) × (Origin.start ≡ o) × (n (rule "S") ∷ [] ≡ side)
side_of_start m true o side i h = search rules
side_of_start m false o side i h = search rules

-- a label of the expansion is the start's or the rule's
abbrev label_of_S : WrittenLabel
label_of_S = record { head = rule "S"; choice = place "S" 0 }

abbrev label_of_start : WrittenLabel
label_of_start = record { head = start; choice = Origin.start }

one_of_two : (public : Bool) (head : Nonterminal) (o : Origin) (side : RightSide) → InExpansion (of_word public) head →
    Produces (of_word public) head o side →
    (label_of_S ≡ record { head = head; choice = o }) ⊎ (label_of_start ≡ record { head = head; choice = o })
one_of_two public (Nonterminal.start m) o side i h =
    let r = side_of_start m public o side i h in
    inr (ap (λ z. record { head = z; choice = Origin.start }) r.0 ∙ ap (λ z. record { head = Nonterminal.start m; choice = z }) r.1)
one_of_two public (Nonterminal.closed x) o side i h =
    let same = is_rule_S public x i in
    let r = side_of_S public o side (subst (λ z. Produces (of_word public) (Nonterminal.closed z) o side) (sym same) h) in
    inl (ap (λ z. record { head = Nonterminal.closed z; choice = place "S" 0 }) same
    ∙ ap (λ z. record { head = Nonterminal.closed x; choice = z }) r.0)

-- so there are few
at_most_two : {A : Type 0} (x y : A) (xs : List A) → ((z : A) → Among xs z → (x ≡ z) ⊎ (y ≡ z)) → HasEachOnce xs → length xs ≤ 2
at_most_two x y [] f once = omega arith
at_most_two x y (p ∷ []) f once = omega arith
at_most_two x y (p ∷ q ∷ []) f once = omega arith
at_most_two {A = A} x y (p ∷ q ∷ s ∷ xs) f once =
    absurd (go (f p (inl refl)) (f q (inr (inl refl))) (f s (inr (inr (inl refl)))))
  where
    go : (x ≡ p) ⊎ (y ≡ p) → (x ≡ q) ⊎ (y ≡ q) → (x ≡ s) ⊎ (y ≡ s) → ⊥
    go (inl d) (inl e) g = once.0 (inl (sym e ∙ d))
    go (inr d) (inr e) g = once.0 (inl (sym e ∙ d))
    go (inl d) (inr e) (inl g) = once.0 (inr (inl (sym g ∙ d)))
    go (inl d) (inr e) (inr g) = once.1.0 (inl (sym g ∙ e))
    go (inr d) (inl e) (inl g) = once.1.0 (inl (sym g ∙ e))
    go (inr d) (inl e) (inr g) = once.0 (inr (inl (sym g ∙ d)))

few_labels : (public : Bool) → HasTooManyLabels (of_word public) → ⊥
few_labels public h =
    let few : length h.labels ≤ 2 = at_most_two label_of_S label_of_start h.labels known h.once in
    omega (arith, few, h.many)
  where
    known : (z : WrittenLabel) → Among h.labels z → (label_of_S ≡ z) ⊎ (label_of_start ≡ z)
    known z i = let k = h.each z i in one_of_two public z.head z.choice k.1 k.0 k.2

-- the literals that are used
pub used_is : (public : Bool) (u : Terminal) → IsUsedLiteral (of_word public) u → u ≡ a
used_is public u h = go h.head h.in_expansion h.produced
  where
    of_side : (side : RightSide) → Among side (GrammarSymbol.terminal u) → t "a" ∷ [] ≡ side → u ≡ a
    of_side side i e = among (subst (λ z. Among z (GrammarSymbol.terminal u)) (sym e) i)
      where
        among : Among (t "a" ∷ []) (GrammarSymbol.terminal u) → u ≡ a
        among (inl f) = let same : a ≡ u = cc in sym same
        among (inr k) = absurd k

    of_start : (side : RightSide) → Among side (GrammarSymbol.terminal u) → n (rule "S") ∷ [] ≡ side → u ≡ a
    of_start side i e = among (subst (λ z. Among z (GrammarSymbol.terminal u)) (sym e) i)
      where
        among : Among (n (rule "S") ∷ []) (GrammarSymbol.terminal u) → u ≡ a
        among (inl f) = cc
        among (inr k) = absurd k

    go : (head : Nonterminal) → InExpansion (of_word public) head → Produces (of_word public) head h.origin h.side → u ≡ a
    go (Nonterminal.start m) i k = of_start h.side h.among (side_of_start m public h.origin h.side i k).2
    go (Nonterminal.closed x) i k =
        let same = is_rule_S public x i in
        let own = subst (λ z. Produces (of_word public) (Nonterminal.closed z) h.origin h.side) (sym same) k in
        of_side h.side h.among (side_of_S public h.origin h.side own).1

pub used_of_word : (public : Bool) → AreUsedLiterals (of_word public) (a ∷ [])
used_of_word public = record { ascending = (tt, tt); each = λ u. (uses u, λ h. inl (sym (used_is public u h))) }
  where
    uses : (u : Terminal) → Among (a ∷ []) u → IsUsedLiteral (of_word public) u
    uses u (inr i) = absurd i
    uses u (inl e) = subst (IsUsedLiteral (of_word public)) e (record {
      literal = tt;
      head = rule "S";
      origin = place "S" 0;
      side = t "a" ∷ [];
      in_expansion = S_there public;
      produced = is_production (of_word public) (rule "S") (place "S" 0) (t "a" ∷ []) (inl refl);
      among = inl refl;
    })

-- nothing is wrong with it
entries_are : (public : Bool) (entries : List InternEntry) → AreFullExpansionEntries (of_word public) None entries →
    entries ≡ own_entry 1 a ∷ []
entries_are public entries h =
    h.listed.entries_are
    ∙ ap (tokenizer_entries None) (one_list (of_word public) h.listed.used (a ∷ []) h.listed.are_used (used_of_word public))

no_wrong_literal : (public : Bool) (kind : NormErrorKind) (p : TextSpan) →
    TokenFaultInWritten (enabled_places [] (word_of public)) (of_word public) (word_of public) kind p → ⊥
no_wrong_literal public (kinds.NotInMatchBlock l) p h = let wrong : None ≡ Some (literal_view l) = h.first_is in cc
no_wrong_literal public (kinds.PatternRefused l) p h =
    let wrong : None ≡ Some (literal_view l) = ap first_refused (sym (entries_are public h.entries h.are_full)) ∙ h.first_is in
    cc
no_wrong_literal public (kinds.SameText l m) p h =
    let ties = h.tied.tie.ties in
    let same = entries_are public h.entries h.are_full in
    let second : h.tied.two < length h.entries = search rules in
    search rules
no_wrong_literal public _ p h = h

-- the rule has the type that it declares, and no other
abbrev unit_type : GroundType
unit_type = GroundType.tuple GroundTypes.none

type_is : (public : Bool) (u : GroundType) → IsGrounded (of_word public) S u → u ≡ unit_type
type_is public u (zero, h) = absurd h
type_is public u (suc k, h) = go h.1
  where
    declared : (q : EnabledRule) → IsRule (of_word public) (codes "S") q → q.declared ≡ Some (Ty.tuple Tys.none)
    declared q e = let same : rule_of_word public ≡ q = cc in sym (ap (λ (z : EnabledRule). z.declared) same)

    of_type : (s : Scope) (y : Ty) → Ty.tuple Tys.none ≡ y → IsTypeOf (IsGroundedIn (of_word public) k) s y u → u ≡ unit_type
    of_type s y e f = tuple (subst (λ z. IsTypeOf (IsGroundedIn (of_word public) k) s z u) (sym e) f)
      where
        tuple : IsTypeOf (IsGroundedIn (of_word public) k) s (Ty.tuple Tys.none) u → u ≡ unit_type
        tuple (GroundTypes.none, e, f) = e
        tuple (GroundTypes.more x xs, e, f) = absurd f

    go : CallStep (of_word public) (IsGroundedIn (of_word public) k) (codes "S") Closeds.none None u → u ≡ unit_type
    go (inl d) =
        let both : Some (Ty.tuple Tys.none) ≡ Some d.written = sym (declared d.rule d.is_rule) ∙ d.declared in
        let same : Ty.tuple Tys.none ≡ d.written = cc in
        of_type (type_scope (of_word public) d.rule Closeds.none) d.written same d.type_is
    go (inr (inl d)) =
        let wrong : Some (Ty.tuple Tys.none) ≡ None = sym (declared d.rule d.fits.rule) ∙ d.undeclared in
        cc
    go (inr (inr d)) =
        let wrong : Some (Ty.tuple Tys.none) ≡ None = sym (declared d.rule d.is_rule) ∙ d.undeclared in
        cc

types_agree : (public : Bool) (p : TextSpan) → IsDisagreeing (of_word public) (left public) p → ⊥
types_agree public p h =
    let at = h.at in
    let called : InExpansion (of_word public) (Nonterminal.closed h.symbol) = at.in_expansion in
    let same = is_rule_S public h.symbol called in
    let both = disagreeing_types (of_word public) (left public) p h in
    let first = type_is public h.first (subst (λ z. IsGrounded (of_word public) z h.first) (sym same) both.0) in
    let second = type_is public h.second (subst (λ z. IsGrounded (of_word public) z h.second) (sym same) both.1) in
    h.differ (first ∙ sym second)

typed : (public : Bool) (p : TextSpan) → HasNoTypeAt (of_word public) (left public) p → ⊥
typed public p h =
    let same = is_rule_S public h.symbol h.at.in_expansion in
    h.no_type unit_type (subst (λ z. IsGrounded (of_word public) z unit_type) same (
      1,
      (
        S_there public,
        inl (record {
          rule = rule_of_word public;
          is_rule = refl;
          written = Ty.tuple Tys.none;
          declared = refl;
          type_is = (GroundTypes.none, refl, tt);
        }),
      ),
    ))

-- so no fault stands
none_written : (public : Bool) (kind : NormErrorKind) (p : TextSpan)
    → IsWrittenFault finds (λ x. false) [] 200 (word_of public) kind p → ⊥
none_written public kind p (IsWrittenFault.standing k s h) = go k s h
  where
    go : (kind : NormErrorKind) (p : TextSpan) → IsStandingFault finds (λ x. false) [] 200 (word_of public) kind p → ⊥
    go kind p (IsStandingFault.check k s h) = not_checked public k s h
    go kind p (IsStandingFault.duplicate m s c h) = not_twice public m s h
    go kind p (IsStandingFault.no_definition m s c h) = h
    go kind p (IsStandingFault.macro_as_rule s c h) = h
    go kind p (IsStandingFault.level k s c h) = h
    go kind p (IsStandingFault.arity s c h) = h
    go kind p (IsStandingFault.depth x s c h w) = no_chain public h.steps x h.chain
    go kind p (IsStandingFault.condition k s c h) = no_condition public _ h
    go kind p (IsStandingFault.token k s c h) = no_wrong_literal public k s h
    go kind p (IsStandingFault.types_disagree s c h) = types_agree public s h
    go kind p (IsStandingFault.no_type m s c h) = typed public s h.call
none_written public kind p (IsWrittenFault.actions s c h e) = few_labels public h

pub no_pass_fault : (limit : ℕ) (public : Bool) → HasNoPassFault (asked_within limit) (word_of public)
no_pass_fault limit public = record { none = none_written public; typed = typed public }

pub word_carried : (public : Bool) → IsCarried finds [] (word_of public)
word_carried public = record {
  no_extern = only_rules (word_of public) refl;
  no_recovery = calm_rules (of_word public) (all-among AreCalm (of_word public).rules
      (all-among IsCalm (the_choice ∷ []) (all-among IsNoRecovery (lit "a" ∷ []) (tt, tt), tt), tt));
}

-- the start reaches itself alone, and isn't barren
none_barren : HasNoBarren (of_word true) (codes "S")
none_barren from x h reached = subst HasTree (only_S from x h reached) the_tree
  where
    HasTree : Nonterminal → Type 0
    HasTree y = (d : Derivation) × IsDerivationOf (of_word true) (GrammarSymbol.nonterminal y) d

    the_tree : HasTree (rule "S")
    the_tree = (
      Derivation.node (rule "S") (place "S" 0) (Derivations.more (Derivation.leaf a (0, 1)) Derivations.none),
      (refl, t "a" ∷ [], is_production (of_word true) (rule "S") (place "S" 0) (t "a" ∷ []) (inl refl), (refl, tt)),
    )

    starts : IsWrittenStart (of_word true) (codes "S") (rule "S")
    starts = record { rule = rule_of_word true; is_rule = refl; no_macro = refl; start_is = refl }

    only_S : (from x : Nonterminal) → IsWrittenStart (of_word true) (codes "S") from → IsReachedFrom (of_word true) from x → rule "S" ≡ x
    only_S from x h IsReachedFrom.itself = written_start_once (of_word true) (codes "S") (rule "S") from starts h
    only_S from x h (IsReachedFrom.onward y o side z k m among) =
        let own = subst (λ q. Produces (of_word true) q o side) (sym (only_S from y h k)) m in
        go (subst (λ q. Among q (n x)) (sym (side_of_S true o side own).1) among)
      where
        go : Among (t "a" ∷ []) (n x) → rule "S" ≡ x
        go (inl e) = cc
        go (inr i) = absurd i

-- nothing is inlined
word_acyclic : (x : Nonterminal) → IsCyclic (of_word true) x → ⊥
word_acyclic x h = go (all-of (of_word true) (start ∷ rule "S" ∷ []) refl x h.0) (first_inlined (of_word true) x x h.1)
  where
    go : Among (start ∷ rule "S" ∷ []) x → IsInlined (of_word true) x → ⊥
    go (inl e) k = subst (IsInlined (of_word true)) (sym e) k
    go (inr (inl e)) k = kept_where_unmarked (of_word true) (rule "S") refl (subst (IsInlined (of_word true)) (sym e) k)
    go (inr (inr i)) k = absurd i

pub word_faultless : (limit : ℕ) → IsFaultless (asked_within limit) one_word
word_faultless limit = record {
  lowerable = record { carried = word_carried true; faultless = no_pass_fault limit true; starts = refl };
  inlinable = record { acyclic = word_acyclic; numbers = word_numbers };
  none_barren = none_barren;
}

-- #[inline] pub S = "a"
abbrev public_inline : Grammar
public_inline = grammar (unit_rule true (inline ∷ []) "S" [] (alt (lit "a" ∷ []) ∷ []) ∷ [])

inline_carried : IsCarried finds [] public_inline
inline_carried = record {
  no_extern = only_rules public_inline refl;
  no_recovery = calm_rules (enabled_grammar finds [] public_inline) (all-among AreCalm (enabled_grammar finds [] public_inline).rules
      (all-among IsCalm (the_choice ∷ []) (all-among IsNoRecovery (lit "a" ∷ []) (tt, tt), tt), tt));
}

inline_stands : IsWrittenFault asked.finds asked.deep asked.features asked.macro_limit public_inline kinds.PublicInline here
inline_stands = IsWrittenFault.standing kinds.PublicInline here (IsStandingFault.check kinds.PublicInline here (inl refl))

pub public_inline_told : (text : List ℕ) →
    IsRightAnswerTo asked public_inline text (WrittenAnswer.refused (Refusal.fault kinds.PublicInline here))
public_inline_told text =
    IsRightAnswerTo.fault (Refusal.fault kinds.PublicInline here)
    (IsListedFault.passes kinds.PublicInline here inline_carried inline_stands)

pub answer_beside_a_pass_fault : (text : List ℕ) (answer : TextAnswer) →
    IsRightAnswerTo asked public_inline text (WrittenAnswer.to_text answer) → ⊥
answer_beside_a_pass_fault text answer h =
    (parsed_where_answered asked public_inline text answer h).faultless.lowerable.faultless.none kinds.PublicInline here inline_stands
