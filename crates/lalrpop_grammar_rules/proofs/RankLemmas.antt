-- Levels and ranks of a rule's alternatives, place by place: for the making of an enabled rule.
use Rattle.std.proofs.Common.{◌≡◌, ℕ, ◌+◌, suc, Bool, true, false, ◌||◌, ◌&&◌, List, [], ◌∷◌}
use Rattle.std.proofs.Common.{IsPermutation, ◌++◌, Option, Some, None, refl, ap, sym, ◌∙◌, map, length, drop, arith}
use Rattle.std.proofs.lemmas.List.{append_assoc}
use Rattle.std.specs.Prelude.{filter, filter_map, if◌then◌else◌, codes, option_map, nat_lt}
use Rattle.std.specs.List.{list_any}
use Rattle.lalrpop_grammar_symbols.specs.Symbols.{Text}
use Rattle.lalrpop_grammar.specs.WrittenGrammar.{Alternative, Origin}
use Rattle.lalrpop_grammar.specs.Views.{alternative_view, nonterminal_view}
use Rattle.lalrpop_grammar.specs.declared.nonterminal.NonterminalData.{NonterminalData}
use Rattle.lalrpop_grammar.specs.declared.alternative.Alternative as program
use Rattle.lalrpop_grammar_language.specs.Enabled.{Choice as PureChoice, EnabledRule as PureRule, is_active, has_attr, at_places, choice_of}
use Rattle.lalrpop_grammar_language.specs.Enabled.{enabled_choices, enabled_rule}
use Rattle.lalrpop_grammar_language.specs.Levels as pure
use Rattle.lalrpop_grammar_rules.proofs.GreatestLemmas.{greatest_moved, greatest_same}
use Rattle.lalrpop_grammar_rules.specs.Ranks.{rank_view}
use Rattle.lalrpop_grammar_rules.specs.declared.levels.Rank.{Rank}
use Rattle.lalrpop_grammar_rules.specs.Details.{IsRanked, Kept, and_level, choice_details, choices_view, choice_detail, details, is_leveled}
use Rattle.lalrpop_grammar_rules.specs.Details.{last_of, level_of_rank, levels_in, next_rank, ranked_view, ranked_choices_from}
use Rattle.lalrpop_grammar_rules.specs.Details.{with_tighter_level, tighter_in}
use Rattle.lalrpop_grammar_rules.specs.declared.rule.Choice.{Choice}
use Rattle.lalrpop_grammar_rules.specs.declared.rule.Ranked.{Ranked}

abbrev has_level : PureChoice → Bool
has_level c = has_attr (codes "precedence") c.attributes

level_step : (b : Bool) (p : Origin × Alternative) (ps : List (Origin × Alternative))
    → list_any has_level (map choice_of (if b then p ∷ ps else ps))
    ≡ ((b && has_attr (codes "precedence") p.1.attributes) || list_any has_level (map choice_of ps))
level_step true p ps = refl
level_step false p ps = refl

-- an enabled choice says a level where an enabled alternative does
pub levels_by_places : (f : List Text) (name : Text) (k : ℕ) (alts : List Alternative)
    → list_any has_level (enabled_choices f (at_places name k alts)) ≡ list_any (is_leveled f) alts
levels_by_places f name k [] = refl
levels_by_places f name k (a ∷ more) =
    level_step (is_active f a.attributes) (Origin.alternative name [] k, a)
    (filter (λ p. is_active f p.1.attributes) (at_places name (k + 1) more))
    ∙ ap (λ b. is_leveled f a || b) (levels_by_places f name (k + 1) more)

ranked-leveled : (last : Option pure.Rank) (cs : List PureChoice) → ranked_choices_from true last cs ≡ pure.with_ranks last cs
ranked-leveled last [] = refl
ranked-leveled last (c ∷ cs) = ap (λ l. (c, next_rank true last c) ∷ l) (ranked-leveled (next_rank true last c) cs)

ranked-flat : (last : Option pure.Rank) (cs : List PureChoice) → ranked_choices_from false last cs ≡ map (λ c. (c, None)) cs
ranked-flat last [] = refl
ranked-flat last (c ∷ cs) = ap (λ l. (c, None) ∷ l) (ranked-flat None cs)

by_levels : (b : Bool) (cs : List PureChoice)
    → ranked_choices_from b None cs ≡ (if b then pure.with_ranks None cs else map (λ c. (c, None)) cs)
by_levels true cs = ranked-leveled None cs
by_levels false cs = ranked-flat None cs

-- the alternatives with their ranks
pub ranked_is : (r : PureRule) → ranked_choices_from (pure.has_levels r) None r.choices ≡ pure.ranked_choices r
ranked_is r = by_levels (pure.has_levels r) r.choices

-- one alternative more at the end
pub ranked_at-push : (name : Text) (k : ℕ) (xs : List (Option Ranked)) (x : Option Ranked)
    → ranked_view name k (xs ++ x ∷ []) ≡ ranked_view name k xs ++ ranked_view name (k + length xs) (x ∷ [])
ranked_at-push name k [] x = let at : k ≡ k + 0 = omega arith in ap (λ j. ranked_view name j (x ∷ [])) at
ranked_at-push name k (None ∷ xs) x =
    let at : (k + 1) + length xs ≡ k + suc (length xs) = omega arith in
    ranked_at-push name (k + 1) xs x ∙ ap (λ j. ranked_view name (k + 1) xs ++ ranked_view name j (x ∷ [])) at
ranked_at-push name k (Some c ∷ xs) x =
    let at : (k + 1) + length xs ≡ k + suc (length xs) = omega arith in
    ap (λ l. (choice_of (Origin.alternative name [] k, alternative_view c.alternative.now), option_map rank_view c.rank) ∷ l)
    (ranked_at-push name (k + 1) xs x ∙ ap (λ j. ranked_view name (k + 1) xs ++ ranked_view name j (x ∷ [])) at)

abbrev level_said : PureChoice × Option pure.Rank → Option ℕ
level_said p = option_map (λ k. k.level) p.1

one_level : (c : PureChoice) (o : Option Rank) (ps : List (PureChoice × Option pure.Rank))
    → filter_map level_said ((c, option_map rank_view o) ∷ ps) ≡ and_level (level_of_rank o) (filter_map level_said ps)
one_level c None ps = refl
one_level c (Some r) ps = refl

-- the levels of the alternatives
levels_step : (name : Text) (k : ℕ) (c : Option Ranked) (cs : List (Option Ranked))
    → ((n : ℕ) → filter_map level_said (ranked_view name n cs) ≡ levels_in cs)
    → filter_map level_said (ranked_view name k (c ∷ cs)) ≡ levels_in (c ∷ cs)
levels_step name k None cs rest = rest (k + 1)
levels_step name k (Some c) cs rest =
    one_level (choice_of (Origin.alternative name [] k, alternative_view c.alternative.now)) c.rank (ranked_view name (k + 1) cs)
    ∙ ap (λ l. and_level (level_of_rank c.rank) l) (rest (k + 1))

pub levels_are : (name : Text) (k : ℕ) (cs : List (Option Ranked))
    → filter_map level_said (ranked_view name k cs) ≡ levels_in cs
levels_are name k [] = refl
levels_are name k (c ∷ cs) = levels_step name k c cs (λ n. levels_are name n cs)

tighten_step : (levels : List ℕ) (name : Text) (k : ℕ) (c : Option Ranked) (cs : List (Option Ranked))
    → ((n : ℕ) → choices_view name n (map (with_tighter_level levels) cs) ≡ map (choice_detail levels) (ranked_view name n cs))
    → choices_view name k (map (with_tighter_level levels) (c ∷ cs)) ≡ map (choice_detail levels) (ranked_view name k (c ∷ cs))
tighten_step levels name k None cs rest = rest (k + 1)
tighten_step levels name k (Some c) cs rest =
    ap (λ l. (
      choice_of (Origin.alternative name [] k, alternative_view c.alternative.now),
      (option_map rank_view c.rank, tighter_in levels (option_map rank_view c.rank)),
    ) ∷ l) (rest (k + 1))

-- alternatives with the next tighter levels are what they are seen as
pub tightened_are : (levels : List ℕ) (name : Text) (k : ℕ) (cs : List (Option Ranked))
    → choices_view name k (map (with_tighter_level levels) cs) ≡ map (choice_detail levels) (ranked_view name k cs)
tightened_are levels name k [] = refl
tightened_are levels name k (c ∷ cs) = tighten_step levels name k c cs (λ n. tightened_are levels name n cs)

module _ (ls ms : List ℕ)
    (same : (n : ℕ) → pure.greatest (filter (λ k. nat_lt k n) ls) ≡ pure.greatest (filter (λ k. nat_lt k n) ms)) where
  tighter_alike : (o : Option pure.Rank) → tighter_in ls o ≡ tighter_in ms o
  tighter_alike None = refl
  tighter_alike (Some k) = same k.level

  choice_alike : (c : Option Ranked) → with_tighter_level ls c ≡ with_tighter_level ms c
  choice_alike None = refl
  choice_alike (Some c) =
      ap (λ t. Some (record { alternative = c.alternative; rank = c.rank; tighter = t })) (tighter_alike (option_map rank_view c.rank))

  -- levels in another order make no difference
  pub choices_alike : (cs : List (Option Ranked)) → map (with_tighter_level ls) cs ≡ map (with_tighter_level ms) cs
  choices_alike [] = refl
  choices_alike (c ∷ cs) =
      ap (λ x. x ∷ map (with_tighter_level ls) cs) (choice_alike c) ∙ ap (λ l. with_tighter_level ms c ∷ l) (choices_alike cs)

module _ (f : List Text) (name : Text) (i : ℕ) (a : Alternative) (more : List Alternative) (has : Bool) where
  abbrev behind : List PureChoice
  behind = enabled_choices f (at_places name (i + 1) more)

  step_off : (b : Bool) → b ≡ false
      → map choice_of (if b then (Origin.alternative name [] i, a) ∷ filter (λ p. is_active f p.1.attributes)
      (at_places name (i + 1) more) else filter (λ p. is_active f p.1.attributes) (at_places name (i + 1) more)) ≡ behind
  step_off true e = absurd (cc)
  step_off false e = refl

  step_on : (b : Bool) → b ≡ true
      → map choice_of (if b then (Origin.alternative name [] i, a) ∷ filter (λ p. is_active f p.1.attributes)
      (at_places name (i + 1) more) else filter (λ p. is_active f p.1.attributes) (at_places name (i + 1) more))
      ≡ choice_of (Origin.alternative name [] i, a) ∷ behind
  step_on true e = refl
  step_on false e = absurd (cc)

  same_next : (h : Bool) (last : Option pure.Rank)
      → next_rank h last (choice_of (Origin.alternative name [] i, a)) ≡ next_rank h last (choice_of (Origin.start, a))
  same_next true last = refl
  same_next false last = refl

  -- one place more
  pub one_place : (x : Option Ranked) (last : Option Rank) → IsRanked f a has (option_map rank_view last) x
      → ranked_choices_from has (option_map rank_view last) (enabled_choices f (at_places name i (a ∷ more)))
      ≡ ranked_view name i (x ∷ []) ++ ranked_choices_from has (option_map rank_view (last_of x last)) behind
  one_place None last off = ap (ranked_choices_from has (option_map rank_view last)) (step_off (is_active f a.attributes) off)
  one_place (Some c) last on =
      let next : option_map rank_view c.rank ≡ next_rank has (option_map rank_view last) (choice_of (Origin.alternative name [] i, a)) =
      on.2 ∙ sym (same_next has (option_map rank_view last)) in
      ap (ranked_choices_from has (option_map rank_view last)) (step_on (is_active f a.attributes) on.0)
      ∙ ap (λ r. (choice_of (Origin.alternative name [] i, a), r) ∷ ranked_choices_from has r behind) (sym next)
      ∙ ap (λ z. (choice_of (Origin.alternative name [] i, z), option_map rank_view c.rank) ∷ ranked_choices_from has
      (option_map rank_view c.rank) behind) (sym on.1)

-- the same, after the places that were passed
pub place_on : {X : Type 0} (whole front here old new : List X) → whole ≡ front ++ old → old ≡ here ++ new
    → whole ≡ (front ++ here) ++ new
place_on whole front here old new e f = e ∙ ap (λ l. front ++ l) f ∙ sym (append_assoc front here new)

module _ (f : List Text) (has : Bool) (alts : List program.Alternative) (i : ℕ) (a : program.Alternative) (found : List (Option Ranked))
    (x : Option Ranked)
    (last : Option Rank) (here : drop i alts ≡ a ∷ drop (i + 1) alts) (as_many : length found ≡ i)
    (is : IsRanked f (alternative_view a) has (option_map rank_view last) x) (name : Text)
    (whole : List (PureChoice × Option pure.Rank)) where
  abbrev left : ℕ → List PureChoice
  left k = enabled_choices f (at_places name k (map alternative_view (drop k alts)))

  -- one alternative more was passed
  pub place_step : whole ≡ ranked_view name 0 found ++ ranked_choices_from has (option_map rank_view last) (left i)
      → whole ≡ ranked_view name 0 (found ++ x ∷ []) ++ ranked_choices_from has (option_map rank_view (last_of x last)) (left (i + 1))
  place_step before =
      let split : left i ≡ enabled_choices f (at_places name i (alternative_view a ∷ map alternative_view (drop (i + 1) alts))) =
      ap (λ l. enabled_choices f (at_places name i (map alternative_view l))) here in
      let at : 0 + length found ≡ i = omega (arith, as_many) in
      let pushed : ranked_view name 0 (found ++ x ∷ []) ≡ ranked_view name 0 found ++ ranked_view name i (x ∷ []) =
      ranked_at-push name 0 found x ∙ ap (λ j. ranked_view name 0 found ++ ranked_view name j (x ∷ [])) at in
      rw pushed (place_on whole (ranked_view name 0 found) (ranked_view name i (x ∷ []))
      (ranked_choices_from has (option_map rank_view last) (left i))
      (ranked_choices_from has (option_map rank_view (last_of x last)) (left (i + 1))) before
      (ap (ranked_choices_from has (option_map rank_view last)) split
      ∙ one_place f name i (alternative_view a) (map alternative_view (drop (i + 1) alts)) has x last is))

module _ (f : List Text) (w : NonterminalData) (has : Bool) (found : List (Option Ranked)) (levels : List ℕ) (loosest : Option ℕ)
    (choices : List (Option Choice))
    (has_is : has ≡ list_any (is_leveled f) (map alternative_view w.alternatives))
    (found_is : (name : Text)
    → ranked_view name 0 found
    ≡ ranked_choices_from has None (enabled_choices f (at_places name 0 (map alternative_view w.alternatives))))
    (levels_are_those : IsPermutation (levels_in found) levels) (loosest_is : loosest ≡ pure.greatest levels)
    (choices_is : choices ≡ map (with_tighter_level levels) found) where
  abbrev the_rule : PureRule
  the_rule = enabled_rule f (nonterminal_view w)

  leveled : has ≡ pure.has_levels the_rule
  leveled = has_is ∙ sym (levels_by_places f w.name.0 0 (map alternative_view w.alternatives))

  all_ranked : ranked_view w.name.0 0 found ≡ pure.ranked_choices the_rule
  all_ranked = found_is w.name.0 ∙ ap (λ h. ranked_choices_from h None the_rule.choices) leveled ∙ ranked_is the_rule

  all_levels : levels_in found ≡ pure.levels the_rule
  all_levels =
      sym (levels_are w.name.0 0 found)
      ∙ ap (filter_map level_said) all_ranked

  all_detailed : choices_view w.name.0 0 choices ≡ choice_details the_rule
  all_detailed =
      ap (choices_view w.name.0 0) (choices_is
      ∙ choices_alike levels (levels_in found) (λ n. greatest_moved (λ k. nat_lt k n) (levels_in found) levels levels_are_those) found)
      ∙ tightened_are (levels_in found) w.name.0 0 found
      ∙ ap (map (choice_detail (levels_in found))) all_ranked
      ∙ ap (λ l. map (choice_detail l) (pure.ranked_choices the_rule)) all_levels

  -- what is kept of a rule
  pub kept : ◌≡◌ {A = Kept} (the_rule, (has, (loosest, choices_view w.name.0 0 choices))) (details the_rule)
  kept =
      let l : loosest ≡ pure.loosest the_rule =
      loosest_is ∙ (greatest_same (levels_in found) levels levels_are_those ∙ ap pure.greatest all_levels) in
      rw (leveled, l, all_detailed) refl
