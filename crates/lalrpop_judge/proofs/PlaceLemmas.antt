-- The alternatives of a rule by their places: for the choosing of the one that a node names.
use Rattle.std.proofs.Common.{◌≡◌, ℕ, zero, suc, ◌+◌, List, [], ◌∷◌, Option, Some, None, refl, ap, sym, ◌∙◌, map}
use Rattle.std.proofs.Common.{inl, inr, arith}
use Rattle.std.specs.Prelude.{filter, slice_get, option_map}
use Rattle.lalrpop_grammar_symbols.specs.Symbols.{Text}
use Rattle.lalrpop_grammar.specs.WrittenGrammar.{Origin}
use Rattle.lalrpop_grammar.specs.Views.{alternative_view}
use Rattle.lalrpop_grammar_language.specs.Among.{Among}
use Rattle.lalrpop_grammar_language.specs.Enabled.{Choice, EnabledRule, choice_of, has_name, rules_named, EnabledGrammar}
use Rattle.lalrpop_grammar_language.specs.Levels as pure
use Rattle.lalrpop_grammar_language.proofs.PlaceLemmas.{among_filter, same_text-eq}
use Rattle.lalrpop_grammar_rules.specs.Details.{ChoiceDetail, Kept, choice_view, choices_view, choice_detail, enabled_rule_view, tighter_in}
use Rattle.lalrpop_grammar_rules.specs.Ranks.{rank_view}
use Rattle.lalrpop_grammar_rules.specs.RuleTable.{IsOnly, rules_view}
use Rattle.lalrpop_grammar_rules.specs.declared.rule.EnabledRule as kept
use Rattle.lalrpop_grammar_rules.specs.declared.table.Rules as table
use Rattle.lalrpop_judge.specs.Placed.{IsPlacedAt, IsPlaced, placed_view, rule_in}
use Rattle.lalrpop_judge.specs.declared.choosing.Placed.{Placed}
use Rattle.lalrpop_grammar_rules.specs.declared.rule.Choice as program

among_on : {A : Type 0} (xs ys : List A) (x y : A) → xs ≡ ys → x ≡ y → Among xs x → Among ys y
among_on xs ys x y e f a = rw (← e, ← f) a

-- a rule that is alone under a name has it
pub name_is : (g : EnabledGrammar) (n : Text) (r : EnabledRule) → rules_named g n ≡ r ∷ [] → r.name ≡ n
name_is g n r only =
    let one : Among (filter (has_name n) g.rules) r = rw only (inl refl) in
    same_text-eq r.name n (among_filter (has_name n) g.rules r one).1

among_detailed : (levels : List ℕ) (ps : List (Choice × Option pure.Rank)) (p : Choice × Option pure.Rank) → Among ps p
    → Among (map (choice_detail levels) ps) (choice_detail levels p)
among_detailed levels [] p a = absurd a
among_detailed levels (q ∷ ps) p (inl e) = inl (ap (choice_detail levels) e)
among_detailed levels (q ∷ ps) p (inr a) = inr (among_detailed levels ps p a)

-- an alternative that is kept is one with its rank
pub among_ranked : (levels : List ℕ) (ps : List (Choice × Option pure.Rank)) (d : ChoiceDetail)
    → Among (map (choice_detail levels) ps) d
    → Among ps (d.0, d.1.0) × (d.1.1 ≡ tighter_in levels d.1.0)
among_ranked levels [] d a = absurd a
among_ranked levels (q ∷ ps) d (inl e) = (
  inl (ap (λ (x : ChoiceDetail). (x.0, x.1.0)) e),
  sym (ap (λ (x : ChoiceDetail). x.1.1) e) ∙ ap (λ (x : ChoiceDetail). tighter_in levels x.1.0) e,
)
among_ranked levels (q ∷ ps) d (inr a) = let r = among_ranked levels ps d a in (inr r.0, r.1)

-- the alternative at a place is one of those that are kept
pub kept_at : (name : Text) (k : ℕ) (cs : List (Option program.Choice)) (i : ℕ) (c : program.Choice)
    → slice_get cs i ≡ Some (Some c)
    → Among (choices_view name k cs) (choice_view name (k + i) c)
kept_at name k [] i c e = absurd (cc)
kept_at name k (None ∷ cs) zero c e = absurd (cc)
kept_at name k (None ∷ cs) (suc i) c e =
    let at : (k + 1) + i ≡ k + suc i = omega arith in rw at at (kept_at name (k + 1) cs i c e)
kept_at name k (Some d ∷ cs) zero c e =
    let same : d ≡ c = cc in let at : k ≡ k + 0 = omega arith in
    inl (ap (λ x. choice_view name k x) same ∙ ap (λ j. choice_view name j c) at)
kept_at name k (Some d ∷ cs) (suc i) c e =
    let at : (k + 1) + i ≡ k + suc i = omega arith in inr (rw at at (kept_at name (k + 1) cs i c e))

-- where one of those that are kept is written
record IsWritten (name : Text) (k : ℕ) (cs : List (Option program.Choice)) (d : ChoiceDetail) : Type 0 where
  pub index : ℕ
  pub choice : program.Choice
  pub at : slice_get cs index ≡ Some (Some choice)
  pub detail_is : d ≡ choice_view name (k + index) choice

written_later : (name : Text) (k : ℕ) (o : Option program.Choice) (cs : List (Option program.Choice)) (d : ChoiceDetail)
    → IsWritten name (k + 1) cs d → IsWritten name k (o ∷ cs) d
written_later name k o cs d w =
    let there : (k + 1) + w.index ≡ k + suc w.index = omega arith in
    record { index = suc w.index; choice = w.choice; at = w.at; detail_is = w.detail_is ∙ ap (λ j. choice_view name j w.choice) there }

written_at : (name : Text) (k : ℕ) (cs : List (Option program.Choice)) (d : ChoiceDetail) → Among (choices_view name k cs) d
    → IsWritten name k cs d
written_at name k [] d a = absurd a
written_at name k (None ∷ cs) d a = written_later name k None cs d (written_at name (k + 1) cs d a)
written_at name k (Some c ∷ cs) d (inl e) =
    let at : k ≡ k + 0 = omega arith in
    record { index = 0; choice = c; at = refl; detail_is = sym e ∙ ap (λ j. choice_view name j c) at }
written_at name k (Some c ∷ cs) d (inr a) = written_later name k (Some c) cs d (written_at name (k + 1) cs d a)

-- one that tells the place is written there
pub placed_there : (name n : Text) (cs : List (Option program.Choice)) (levels : List ℕ) (ps : List (Choice × Option pure.Rank))
    → choices_view name 0 cs ≡ map (choice_detail levels) ps → (q : Choice × Option pure.Rank) (place : ℕ) → Among ps q
    → q.0.origin ≡ Origin.alternative n [] place
    → (c : program.Choice) × (slice_get cs place ≡ Some (Some c))
    × (q ≡ (choice_of (Origin.alternative name [] place, alternative_view c.alternative.now), option_map rank_view c.rank))
placed_there name n cs levels ps kept q place a at =
    let w = written_at name 0 cs (choice_detail levels q) (rw kept (among_detailed levels ps q a)) in
    let told : Origin.alternative n [] place ≡ Origin.alternative name [] (0 + w.index) =
    sym at ∙ ap (λ (x : ChoiceDetail). x.0.origin) w.detail_is in
    let same : place ≡ 0 + w.index = cc in
    let there : w.index ≡ place = omega (arith, same) in (
      w.choice,
      rw there at w.at,
      ap (λ (x : ChoiceDetail). (x.0, x.1.0)) w.detail_is
          ∙ ap (λ j. (
            choice_of (Origin.alternative name [] j, alternative_view w.choice.alternative.now),
            option_map rank_view w.choice.rank,
          )) (sym same),
    )

module _ (t : table.Rules) (n : Text) (place : ℕ) where
  module _ (r : kept.EnabledRule) (only : IsOnly t n r) where
    abbrev the_rule : EnabledRule
    the_rule = enabled_rule_view t.features.now r

    kept_choices : choices_view (r.written.now).name.0 0 r.choices
        ≡ map (choice_detail (pure.levels the_rule)) (pure.ranked_choices the_rule)
    kept_choices = ap (λ (q : Kept). q.1.1.1) only.1

    -- a rule without an alternative at the place
    pub none_placed : ((c : program.Choice) → slice_get r.choices place ≡ Some (Some c) → ⊥) → IsPlacedAt t n place None
    none_placed refused = λ s q is a at.
        let same : s ≡ the_rule = cc (is, only.0) in
        let there = placed_there (r.written.now).name.0 n r.choices (pure.levels the_rule) (pure.ranked_choices the_rule) kept_choices q
        place (rw same at a) at in
        refused there.0 there.1

  module _ (p : Placed) (only : IsOnly t n p.rule.now) (at : slice_get p.rule.now.choices place ≡ Some (Some p.choice.now)) where
    abbrev name : Text
    name = (p.rule.now.written.now).name.0

    abbrev found : EnabledRule
    found = rule_in t p

    named_so : name ≡ n
    named_so = name_is (rules_view t) n found only.0

    here : Among (map (choice_detail (pure.levels found)) (pure.ranked_choices found)) (choice_view n place p.choice.now)
    here =
        let zero_on : 0 + place ≡ place = omega arith in
        among_on (choices_view name 0 p.rule.now.choices) (map (choice_detail (pure.levels found)) (pure.ranked_choices found))
        (choice_view name (0 + place) p.choice.now) (choice_view n place p.choice.now) (kept_choices p.rule.now only)
        (ap (λ j. choice_view name j p.choice.now) zero_on ∙ ap (λ m. choice_view m place p.choice.now) named_so)
        (kept_at name 0 p.rule.now.choices place p.choice.now at)

    only_one : (q : Choice × Option pure.Rank) → Among (pure.ranked_choices found) q → q.0.origin ≡ Origin.alternative n [] place
        → q ≡ placed_view n place p
    only_one q a told =
        let there = placed_there name n p.rule.now.choices (pure.levels found) (pure.ranked_choices found) (kept_choices p.rule.now only) q
        place a told in
        let same : there.0 ≡ p.choice.now = cc (there.1, at) in
        there.2 ∙ ap (λ m. (
          choice_of (Origin.alternative m [] place, alternative_view there.0.alternative.now),
          option_map rank_view there.0.rank,
        )) named_so
        ∙ ap (λ (c : program.Choice).
        (choice_of (Origin.alternative n [] place, alternative_view c.alternative.now), option_map rank_view c.rank)) same

    -- the alternative at the place
    pub is_placed : IsPlaced t n place p
    is_placed =
        let ranked = among_ranked (pure.levels found) (pure.ranked_choices found) (choice_view n place p.choice.now) here in
        record { only = only; among = ranked.0; tighter = ranked.1; alone = only_one }
