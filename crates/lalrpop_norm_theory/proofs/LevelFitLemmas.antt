-- What an alternative becomes in the rule of its level, and back; for the laws of levels.
use Rattle.std.proofs.Common.{◌≡◌, ℕ, List, [], ◌∷◌, refl, ap, sym, ◌∙◌, subst, Bool, false, length}
use Rattle.std.specs.Prelude.{Option, Some, None, map, zip, option_map, is_some}
use Rattle.lalrpop_grammar_symbols.specs.Symbols.{Text, Terminal, Closed, Closeds, closed_list}
use Rattle.lalrpop_grammar.specs.WrittenGrammar.{Action, Condition, ConditionTest, Origin, Rule, Grammar, rules_of}
use Rattle.lalrpop_grammar_language.specs.Among.{Among}
use Rattle.lalrpop_grammar_language.specs.Enabled.{EnabledGrammar, EnabledRule, Choice}
use Rattle.lalrpop_grammar_language.specs.Levels.{Rank, has_levels, tighter, ranked_choices}
use Rattle.lalrpop_grammar_language.specs.Closing.{parameter_value, right_side}
use Rattle.lalrpop_grammar_language.specs.Conditions.{PassesTest, HoldsOf, Holds}
use Rattle.lalrpop_grammar_language.specs.Admitting.{Fits, bind, rank_level}
use Rattle.lalrpop_grammar_language.specs.Expansion.{HasLevel}
use Rattle.lalrpop_norm_theory.specs.Between.{rule_between}
use Rattle.lalrpop_grammar_language.proofs.AmongLemmas.{map_among}
use Rattle.lalrpop_norm_theory.proofs.LevelLemmas.{ranked_flat}
use Rattle.lalrpop_norm_theory.specs.LevelRules.{level_name, by_level_names, all_by_level_names}
use Rattle.lalrpop_norm_theory.specs.LeveledGrammar.{leveled_alternative, pass_down_to, rule_at_level}
use Rattle.lalrpop_norm_theory.specs.LevelLaws.{IsLevelable}
use Rattle.lalrpop_norm_theory.proofs.LeveledRuleLemmas.{rule_of_key, key_rule, level_of_leveled}
use Rattle.lalrpop_norm_theory.proofs.LevelAttrLemmas.{flat_key, key_parameters}
use Rattle.lalrpop_norm_theory.proofs.LevelChoiceLemmas.{choice_between, ranked_choice, ranked_alternative, choice_listed}
use Rattle.lalrpop_norm_theory.proofs.LevelChoiceLemmas.{IsLevelChoice, level_choice, alternative_there, pass_down_there}
use Rattle.lalrpop_norm_theory.proofs.LevelNameLemmas.{before, after, own_rule}
use Rattle.lalrpop_norm_theory.proofs.LevelBindingLemmas.{renamed_length, renamed_value}
use Rattle.lalrpop_norm_theory.proofs.LevelClosingLemmas.{leveled_side, unleveled_side, pass_side}
use Rattle.lalrpop_norm_theory.proofs.WellLeveledLemmas.{AreWell, all_well_sound}

-- conditions: a quoted literal stays one, and no other symbol becomes one

passes_after : (g h : EnabledGrammar) → h.finds ≡ g.finds → (t : ConditionTest) (text against : Text) →
    PassesTest g t text against →
    PassesTest h t text against
passes_after g h e ConditionTest.equals text against p = p
passes_after g h e ConditionTest.not_equals text against p = p
passes_after g h e ConditionTest.matches text against p = ap (λ finds. finds against text) e ∙ p
passes_after g h e ConditionTest.not_matches text against p = ap (λ finds. finds against text) e ∙ p

value_after : (g h : EnabledGrammar) → h.finds ≡ g.finds → (f : Text → ℕ → Text) (c : Condition) (o : Option Closed) →
    HoldsOf g c o →
    HoldsOf h c (option_map (by_level_names f) o)
value_after g h e f c None p = p
value_after g h e f c (Some (Closed.terminal (Terminal.quoted t))) p = passes_after g h e c.test t c.against p
value_after g h e f c (Some (Closed.terminal (Terminal.regex t))) p = p
value_after g h e f c (Some (Closed.terminal (Terminal.bare n))) p = p
value_after g h e f c (Some (Closed.terminal Terminal.error)) p = p
value_after g h e f c (Some (Closed.call n args level)) p = p
value_after g h e f c (Some (Closed.repeat op x)) p = p
value_after g h e f c (Some (Closed.group xs)) p = p
value_after g h e f c (Some (Closed.choose x)) p = p
value_after g h e f c (Some (Closed.name m n x)) p = p
value_after g h e f c (Some Closed.lookahead) p = p
value_after g h e f c (Some Closed.lookbehind) p = p
value_after g h e f c (Some Closed.faulty) p = p

value_before : (g h : EnabledGrammar) → g.finds ≡ h.finds → (f : Text → ℕ → Text) (c : Condition) (o : Option Closed) →
    HoldsOf h c (option_map (by_level_names f) o) → HoldsOf g c o
value_before g h e f c None p = p
value_before g h e f c (Some (Closed.terminal (Terminal.quoted t))) p = passes_after h g e c.test t c.against p
value_before g h e f c (Some (Closed.terminal (Terminal.regex t))) p = p
value_before g h e f c (Some (Closed.terminal (Terminal.bare n))) p = p
value_before g h e f c (Some (Closed.terminal Terminal.error)) p = p
value_before g h e f c (Some (Closed.call n args level)) p = p
value_before g h e f c (Some (Closed.repeat op x)) p = p
value_before g h e f c (Some (Closed.group xs)) p = p
value_before g h e f c (Some (Closed.choose x)) p = p
value_before g h e f c (Some (Closed.name m n x)) p = p
value_before g h e f c (Some Closed.lookahead) p = p
value_before g h e f c (Some Closed.lookbehind) p = p
value_before g h e f c (Some Closed.faulty) p = p

holds_after : (finds : Text → Text → Option Bool) (g : Grammar) (f : Text → ℕ → Text) (r q : EnabledRule) →
    q.parameters ≡ r.parameters →
    (args : Closeds) (c : Option Condition) → Holds (before finds g) (bind r args) c →
    Holds (after finds g f) (bind q (all_by_level_names f args)) c
holds_after finds g f r q e args None h = tt
holds_after finds g f r q e args (Some c) h =
    subst (HoldsOf (after finds g f) c)
    (sym (ap (λ ps. parameter_value (zip ps (closed_list (all_by_level_names f args))) c.parameter) e
    ∙ renamed_value f r.parameters args c.parameter))
    (value_after (before finds g) (after finds g f) refl f c (parameter_value (bind r args) c.parameter) h)

holds_before : (finds : Text → Text → Option Bool) (g : Grammar) (f : Text → ℕ → Text) (r q : EnabledRule) →
    q.parameters ≡ r.parameters →
    (args : Closeds) (c : Option Condition) → Holds (after finds g f) (bind q (all_by_level_names f args)) c →
    Holds (before finds g) (bind r args) c
holds_before finds g f r q e args None h = tt
holds_before finds g f r q e args (Some c) h =
    value_before (before finds g) (after finds g f) refl f c (parameter_value (bind r args) c.parameter)
    (subst (HoldsOf (after finds g f) c)
    (ap (λ ps. parameter_value (zip ps (closed_list (all_by_level_names f args))) c.parameter) e
    ∙ renamed_value f r.parameters args c.parameter) h)

-- a call whose arguments are well, as many as the rule has parameters, at a level that it has
pub record IsCallOf (finds : Text → Text → Option Bool) (g : Grammar) (r : Rule) (args : Closeds) (level : Option ℕ) : Type 0 where
  pub among : Among (rules_of g.items) r
  pub many : length (closed_list args) ≡ length r.parameters
  pub well : AreWell (before finds g) args
  pub has_level : HasLevel (rule_between r) level

-- in a rule without levels each alternative stands without a rank
pub flat_written : (q : EnabledRule) → has_levels q ≡ false → (c : Choice) → Among q.choices c →
    Among (ranked_choices q) (c, None)
flat_written q flat c i = subst (λ ps. Among ps (c, None)) (sym (ranked_flat q flat)) (map_among (λ d. (d, None)) q.choices c i)

-- the rule of a level, as it stands in the leveled grammar
abbrev pub level_rule : (Text → ℕ → Text) → Rule → Option ℕ → EnabledRule
level_rule f r level = rule_between (rule_of_key f r level)

-- the right side of a choice, in the written rule and in the level's
abbrev pub side_here : (Text → Text → Option Bool) → Grammar → Rule → Closeds → Choice × Option Rank → List Closed
side_here finds g r args p = right_side (before finds g) (rule_between r) (bind (rule_between r) args) p

-- the right side of a choice of the level's rule, with the arguments under the names of the levels
abbrev pub side_there : (Text → Text → Option Bool) → Grammar → (Text → ℕ → Text) → Rule → Closeds → Option ℕ →
    Choice → List Closed
side_there finds g f r args level c =
    right_side (after finds g f) (level_rule f r level) (bind (level_rule f r level) (all_by_level_names f args)) (c, None)

-- the choice of the level's rule does what the alternative does
pub record StandsThere (finds : Text → Text → Option Bool) (g : Grammar) (f : Text → ℕ → Text) (r : Rule) (args : Closeds)
    (level : Option ℕ) (p : Choice × Option Rank) (c : Choice) : Type 0 where
  pub origin : c.origin ≡ p.0.origin
  pub condition : c.condition ≡ p.0.condition
  pub action : c.action ≡ p.0.action
  pub side : side_there finds g f r args level c ≡ map (by_level_names f) (side_here finds g r args p)

-- each alternative of the level has such a choice
pub choice_forth : (finds : Text → Text → Option Bool) (g : Grammar) (f : Text → ℕ → Text) → IsLevelable finds g f →
    (r : Rule) (args : Closeds) (level : Option ℕ) → IsCallOf finds g r args level → (p : Choice × Option Rank) →
    Among (ranked_choices (rule_between r)) p → rank_level p.1 ≡ level →
    (c : Choice) × Among (level_rule f r level).choices c × StandsThere finds g f r args level p c
choice_forth finds g f w r args None call (c, None) there e =
    let listed = choice_listed (rule_between r) (c, None) there in (
      c,
      listed,
      record {
        origin = refl;
        condition = refl;
        action = refl;
        side = unleveled_side finds g f w r call.among call.has_level args call.many c listed;
      },
    )
choice_forth finds g f w r args None call (c, Some k) there e = cc
choice_forth finds g f w r args (Some j) call (c, None) there e = cc
choice_forth finds g f w r args (Some j) call (c, Some k) there e =
    let a = ranked_alternative r (c, Some k) there in
    let d = choice_between (leveled_alternative f r (a.0, Some k)) in
    let same : k.level ≡ j = cc in (
      d,
      subst (λ l. Among (rule_between (rule_at_level f r l)).choices d) same (alternative_there f r a.0 k a.1),
      record {
        origin = ap (λ x. x.origin) a.2;
        condition = ap (λ x. x.condition) a.2;
        action = ap (λ x. x.action) a.2;
        side = leveled_side finds g f w r call.among args call.many a.0 k a.1 j
            ∙ ap (λ x. map (by_level_names f) (side_here finds g r args (x, Some k))) a.2;
      },
    )

-- what a choice of the level's rule stands for: an alternative of the level, or the pass to the next tighter one
pub data StandsFor (finds : Text → Text → Option Bool) (g : Grammar) (f : Text → ℕ → Text) (r : Rule) (args : Closeds)
    (level : Option ℕ) (c : Choice) : Type 0 where
  alternative : (p : Choice × Option Rank) → Among (ranked_choices (rule_between r)) p → rank_level p.1 ≡ level →
      is_some p.1 ≡ has_levels (rule_between r) → StandsThere finds g f r args level p c → StandsFor finds g f r args level c
  pass_down : (from to : ℕ) → level ≡ Some from → tighter (rule_between r) from ≡ Some to →
      c.origin ≡ Origin.pass_down → side_there finds g f r args level c
      ≡ Closed.call (f r.name to) (all_by_level_names f args) None ∷ [] →
      StandsFor finds g f r args level c

-- each choice of a level's rule stands for an alternative of the level or for the pass to the next tighter one
pub choice_back : (finds : Text → Text → Option Bool) (g : Grammar) (f : Text → ℕ → Text) → IsLevelable finds g f →
    (r : Rule) (args : Closeds) (level : Option ℕ) → IsCallOf finds g r args level → (c : Choice) →
    Among (level_rule f r level).choices c → StandsFor finds g f r args level c
choice_back finds g f w r args None call c i =
    StandsFor.alternative (c, None) (flat_written (rule_between r) call.has_level c i) refl (sym call.has_level) (record {
      origin = refl;
      condition = refl;
      action = refl;
      side = unleveled_side finds g f w r call.among call.has_level args call.many c i;
    })
choice_back finds g f w r args (Some j) call c i = go (level_choice f r j c i)
  where
    go : IsLevelChoice f r j c → StandsFor finds g f r args (Some j) c
    go (IsLevelChoice.alternative a k there e same) =
        StandsFor.alternative (choice_between a, Some k) (ranked_choice r a (Some k) there) (ap Some e)
        (sym (level_of_leveled (rule_between r) j call.has_level)) (record {
          origin = ap (λ x. x.origin) (sym same);
          condition = ap (λ x. x.condition) (sym same);
          action = ap (λ x. x.action) (sym same);
          side = ap (λ x. side_there finds g f r args (Some j) x) (sym same)
              ∙ leveled_side finds g f w r call.among args call.many a k there j;
        })
    go (IsLevelChoice.pass_down to t same) =
        StandsFor.pass_down j to refl t (ap (λ x. x.origin) (sym same)) (ap (λ x. side_there finds g f r args (Some j) x) (sym same)
        ∙ pass_side finds g f w r call.among args call.many (all_well_sound (before finds g) args call.well) j to call.has_level t)

-- the pass to the next tighter level is there
pub pass_forth : (finds : Text → Text → Option Bool) (g : Grammar) (f : Text → ℕ → Text) → IsLevelable finds g f →
    (r : Rule) (args : Closeds) (from to : ℕ) → IsCallOf finds g r args (Some from) → tighter (rule_between r) from ≡ Some to →
    (c : Choice) × Among (level_rule f r (Some from)).choices c × (c.origin ≡ Origin.pass_down) × (c.condition ≡ None)
    × (c.action ≡ Action.default)
    × (side_there finds g f r args (Some from) c ≡ Closed.call (f r.name to) (all_by_level_names f args) None ∷ [])
pass_forth finds g f w r args from to call t = (
  choice_between (pass_down_to f r to),
  pass_down_there f r from to t,
  refl,
  refl,
  refl,
  pass_side finds g f w r call.among args call.many (all_well_sound (before finds g) args call.well) from to call.has_level t,
)

-- choices that fit

-- a choice of the level's rule whose condition holds fits the call of that rule
pub fits_there : (finds : Text → Text → Option Bool) (g : Grammar) (f : Text → ℕ → Text) → IsLevelable finds g f →
    (r : Rule) (args : Closeds) (level : Option ℕ) → IsCallOf finds g r args level → (c : Choice) →
    Among (level_rule f r level).choices c →
    Holds (after finds g f) (bind (level_rule f r level) (all_by_level_names f args)) c.condition →
    Fits (after finds g f) (level_name f r.name level) (all_by_level_names f args) (level_rule f r level) (c, None)
fits_there finds g f w r args level call c i holds =
    let flat = flat_key f r level call.has_level in
    record {
      rule = key_rule finds g f w.names r level call.among call.has_level;
      arguments = renamed_length f args ∙ call.many ∙ ap length (sym (key_parameters f r level));
      written = flat_written (level_rule f r level) flat c i;
      leveled = sym flat;
      holds = holds;
    }

-- where the condition of an alternative holds, so does that of the choice that does what it does
pub holds_there : (finds : Text → Text → Option Bool) (g : Grammar) (f : Text → ℕ → Text) (r : Rule) (args : Closeds)
    (level : Option ℕ) (p : Choice × Option Rank) (c : Choice) → StandsThere finds g f r args level p c →
    Holds (before finds g) (bind (rule_between r) args) p.0.condition →
    Holds (after finds g f) (bind (level_rule f r level) (all_by_level_names f args)) c.condition
holds_there finds g f r args level p c s holds =
    subst (λ x. Holds (after finds g f) (bind (level_rule f r level) (all_by_level_names f args)) x) (sym s.condition)
    (holds_after finds g f (rule_between r) (level_rule f r level) (key_parameters f r level) args p.0.condition holds)

-- an alternative fits the call where the condition of the choice that does what it does holds
pub fits_here : (finds : Text → Text → Option Bool) (g : Grammar) (f : Text → ℕ → Text) → IsLevelable finds g f →
    (r : Rule) (args : Closeds) (level : Option ℕ) → IsCallOf finds g r args level → (p : Choice × Option Rank) (c : Choice) →
    Among (ranked_choices (rule_between r)) p → is_some p.1 ≡ has_levels (rule_between r) →
    StandsThere finds g f r args level p c →
    Holds (after finds g f) (bind (level_rule f r level) (all_by_level_names f args)) c.condition →
    Fits (before finds g) r.name args (rule_between r) p
fits_here finds g f w r args level call p c there leveled s holds = record {
  rule = own_rule finds g f w r call.among;
  arguments = call.many;
  written = there;
  leveled = leveled;
  holds = holds_before finds g f (rule_between r) (level_rule f r level) (key_parameters f r level) args p.0.condition
      (subst (λ x. Holds (after finds g f) (bind (level_rule f r level) (all_by_level_names f args)) x) s.condition holds);
}
