-- What is in the expansion has the same types under the names of the levels; for the law of types.
use Rattle.std.proofs.Common.{◌≡◌, ℕ, zero, suc, refl, ap, sym, ◌∙◌, subst, Bool, inl, inr}
use Rattle.std.specs.Prelude.{Option, Some, None, ◌↔◌}
use Rattle.lalrpop_grammar_symbols.specs.Symbols.{Text, Terminal, Closed, Closeds, closed_list}
use Rattle.lalrpop_grammar.specs.WrittenGrammar.{Action, Rule, Grammar}
use Rattle.lalrpop_grammar_language.specs.Among.{Among}
use Rattle.lalrpop_grammar_language.specs.Enabled.{EnabledRule, Choice}
use Rattle.lalrpop_grammar_language.specs.Levels.{Rank, tighter, ranked_choices}
use Rattle.lalrpop_grammar_language.specs.Closing.{right_side}
use Rattle.lalrpop_grammar_language.specs.Conditions.{Holds}
use Rattle.lalrpop_grammar_language.specs.Admitting.{bind}
use Rattle.lalrpop_grammar_language.specs.Expansion.{Nonterminal, InExpansion}
use Rattle.lalrpop_norm_theory.specs.Between.{rule_between}
use Rattle.lalrpop_norm_theory.specs.Types.{GroundType, is_chosen, chosen_or_all, HaveTupleType, IsTypeOf, type_scope}
use Rattle.lalrpop_norm_theory.specs.Types.{CallStep, TypeStep, IsGroundedIn, IsGrounded}
use Rattle.lalrpop_norm_theory.proofs.LevelLemmas.{no_rank}
use Rattle.lalrpop_norm_theory.specs.LevelRules.{level_name, by_level_names, all_by_level_names}
use Rattle.lalrpop_norm_theory.specs.LevelLaws.{IsLevelable}
use Rattle.lalrpop_norm_theory.proofs.LevelOrderLemmas.{one_rule}
use Rattle.lalrpop_norm_theory.proofs.LeveledRuleLemmas.{key_rule}
use Rattle.lalrpop_norm_theory.proofs.LevelAttrLemmas.{flat_key, key_declared}
use Rattle.lalrpop_norm_theory.proofs.LevelChoiceLemmas.{choice_listed}
use Rattle.lalrpop_norm_theory.proofs.RightLevelLemmas.{rank_of, tighter_present}
use Rattle.lalrpop_norm_theory.proofs.LevelNameLemmas.{before, after, own_rule}
use Rattle.lalrpop_norm_theory.proofs.LevelBindingLemmas.{renamed_list}
use Rattle.lalrpop_norm_theory.proofs.LevelClosingLemmas.{scope_before}
use Rattle.lalrpop_norm_theory.proofs.LevelFitLemmas.{IsCallOf}
use Rattle.lalrpop_norm_theory.proofs.LevelExpansionLemmas.{well_in, well_scope, well_call, call_of}
use Rattle.lalrpop_norm_theory.proofs.WellLeveledLemmas.{IsWell, IsWellOrFaulty, AreWell, well_listed, close_list_well}
use Rattle.lalrpop_norm_theory.proofs.LevelFitLemmas.{level_rule, side_here, side_there, choice_forth, StandsFor}
use Rattle.lalrpop_norm_theory.proofs.LevelFitLemmas.{choice_back, pass_forth, fits_there, holds_there, fits_here}
use Rattle.lalrpop_norm_theory.proofs.ReachLemmas.{IsWellIfSound, closed_reached, closed_reached_from}
use Rattle.lalrpop_norm_theory.proofs.TypeListLemmas.{Typing, tuple_forth, tuple_back}
use Rattle.lalrpop_norm_theory.proofs.DeclaredLemmas.{well_if_sound, declared_forth, declared_back}

abbrev IsForth : (Text → ℕ → Text) → Typing → Typing → Type 0
IsForth f P Q = (x : Closed) (t : GroundType) → P x t → Q (by_level_names f x) t

abbrev IsBack : (Text → Text → Option Bool) → Grammar → (Text → ℕ → Text) → Typing → Typing → Type 0
IsBack finds g f P Q = (x : Closed) → IsWellIfSound (before finds g) x → (t : GroundType) → Q (by_level_names f x) t → P x t

pub chosen-leveled : (f : Text → ℕ → Text) (x : Closed) → is_chosen (by_level_names f x) ≡ is_chosen x
chosen-leveled f (Closed.terminal t) = refl
chosen-leveled f (Closed.call n args level) = refl
chosen-leveled f (Closed.repeat op x) = refl
chosen-leveled f (Closed.group xs) = refl
chosen-leveled f (Closed.choose x) = refl
chosen-leveled f (Closed.name m n x) = refl
chosen-leveled f Closed.lookahead = refl
chosen-leveled f Closed.lookbehind = refl
chosen-leveled f Closed.faulty = refl

-- a step for a call

abbrev StepThere : (Text → Text → Option Bool) → Grammar → (Text → ℕ → Text) → Typing → Rule → Closeds →
    Option ℕ →
    GroundType → Type 0
StepThere finds g f Q r args level t = CallStep (after finds g f) Q (level_name f r.name level) (all_by_level_names f args) None t

undeclared_there : (f : Text → ℕ → Text) (r : Rule) (level : Option ℕ) (e : EnabledRule) → e ≡ rule_between r →
    e.declared ≡ None → (level_rule f r level).declared ≡ None
undeclared_there f r level e same h = key_declared f r level ∙ ap (λ x. x.declared) (sym same) ∙ h

call_step_forth : (finds : Text → Text → Option Bool) (g : Grammar) (f : Text → ℕ → Text) → IsLevelable finds g f →
    (P Q : Typing) → IsForth f P Q → (r : Rule) (args : Closeds) (level : Option ℕ) → IsCallOf finds g r args level →
    (t : GroundType) → CallStep (before finds g) P r.name args level t → StepThere finds g f Q r args level t
call_step_forth finds g f w P Q forth r args level call t (inl m) =
    let same : m.rule ≡ rule_between r =
    one_rule (before finds g) r.name m.rule (rule_between r) m.is_rule (own_rule finds g f w r call.among) in
    let declared : r.declared ≡ Some m.written = ap (λ e. e.declared) (sym same) ∙ m.declared in
    inl (record {
      rule = level_rule f r level;
      is_rule = key_rule finds g f w.names r level call.among call.has_level;
      written = m.written;
      declared = key_declared f r level ∙ declared;
      type_is = declared_forth finds g f w P Q forth r args level call m.written declared t
          (subst (λ e. IsTypeOf P (type_scope (before finds g) e args) m.written t) same m.type_is);
    })
call_step_forth finds g f w P Q forth r args level call t (inr (inl m)) =
    let same : m.rule ≡ rule_between r =
    one_rule (before finds g) r.name m.rule (rule_between r) m.fits.rule (own_rule finds g f w r call.among) in
    let there = subst (λ e. Among (ranked_choices e) m.choice) same m.fits.written in
    let holds = subst (λ e. Holds (before finds g) (bind e args) m.choice.0.condition) same m.fits.holds in
    let c = choice_forth finds g f w r args level call m.choice there m.level_is in
    inr (inl (record {
      rule = level_rule f r level;
      choice = (c.0, None);
      fits = fits_there finds g f w r args level call c.0 c.1 (holds_there finds g f r args level m.choice c.0 c.2 holds);
      undeclared = undeclared_there f r level m.rule same m.undeclared;
      level_is = refl;
      no_code = c.2.action ∙ m.no_code;
      type_is = tuple_forth (by_level_names f) (chosen-leveled f) P Q forth (side_here finds g r args m.choice)
          (side_there finds g f r args level c.0) c.2.side t
          (subst (λ e. HaveTupleType P (chosen_or_all (right_side (before finds g) e (bind e args) m.choice)) t) same m.type_is);
    }))
call_step_forth finds g f w P Q forth r args level call t (inr (inr m)) =
    let same : m.rule ≡ rule_between r =
    one_rule (before finds g) r.name m.rule (rule_between r) m.is_rule (own_rule finds g f w r call.among) in
    let down : tighter (rule_between r) m.from ≡ Some m.to = ap (λ e. tighter e m.from) (sym same) ∙ m.to_is in
    let at : IsCallOf finds g r args (Some m.from) = subst (λ l. IsCallOf finds g r args l) m.from_is call in
    let c = pass_forth finds g f w r args m.from m.to at down in
    let holds : Holds (after finds g f) (bind (level_rule f r (Some m.from)) (all_by_level_names f args)) c.0.condition =
    subst (λ x. Holds (after finds g f) (bind (level_rule f r (Some m.from)) (all_by_level_names f args)) x) (sym c.3) tt in
    let found : StepThere finds g f Q r args (Some m.from) t =
    inr (inl (record {
      rule = level_rule f r (Some m.from);
      choice = (c.0, None);
      fits = fits_there finds g f w r args (Some m.from) at c.0 c.1 holds;
      undeclared = undeclared_there f r (Some m.from) m.rule same m.undeclared;
      level_is = refl;
      no_code = c.4;
      type_is = subst (λ l. HaveTupleType Q (chosen_or_all l) t) (sym c.5)
          (forth (Closed.call r.name args (Some m.to)) t m.type_is);
    })) in
    subst (λ l. StepThere finds g f Q r args l t) (sym m.from_is) found

-- and back

side_well : (finds : Text → Text → Option Bool) (g : Grammar) (f : Text → ℕ → Text) → IsLevelable finds g f →
    (r : Rule) (args : Closeds) (level : Option ℕ) → IsCallOf finds g r args level → (p : Choice × Option Rank) →
    Among (ranked_choices (rule_between r)) p → (x : Closed) → Among (side_here finds g r args p) x →
    IsWellIfSound (before finds g) x
side_well finds g f w r args level call p there x i =
    well_if_sound finds g x
    (close_list_well (scope_before finds g r args p.0 p.1)
    (well_scope finds g f w r call.among args call.well p.0 p.1 (rank_of (rule_between r) p.0 p.1 there)) 0 p.0.expr x i)

choice_step : (finds : Text → Text → Option Bool) (g : Grammar) (f : Text → ℕ → Text) → IsLevelable finds g f →
    (P Q : Typing) → IsBack finds g f P Q → (r : Rule) (args : Closeds) (level : Option ℕ) → IsCallOf finds g r args level →
    (t : GroundType) → r.declared ≡ None → (c : Choice) → c.action ≡ Action.default →
    Holds (after finds g f) (bind (level_rule f r level) (all_by_level_names f args)) c.condition →
    HaveTupleType Q (chosen_or_all (side_there finds g f r args level c)) t → StandsFor finds g f r args level c →
    CallStep (before finds g) P r.name args level t
choice_step finds g f w P Q back r args level call t undeclared c no_code holds typed (StandsFor.alternative p there e leveled s) =
    inr (inl (record {
      rule = rule_between r;
      choice = p;
      fits = fits_here finds g f w r args level call p c there leveled s holds;
      undeclared = undeclared;
      level_is = e;
      no_code = sym s.action ∙ no_code;
      type_is = tuple_back (by_level_names f) (chosen-leveled f) (IsWellIfSound (before finds g)) P Q back (side_here finds g r args p)
          (side_there finds g f r args level c) s.side (side_well finds g f w r args level call p there) t typed;
    }))
choice_step finds g f w P Q back r args level call t undeclared c no_code holds typed (StandsFor.pass_down from to e down passes s) =
    let next : IsCallOf finds g r args (Some to) = record {
      among = call.among;
      many = call.many;
      well = call.well;
      has_level = tighter_present (rule_between r) from to down;
    } in
    inr (inr (record {
      rule = rule_between r;
      is_rule = own_rule finds g f w r call.among;
      undeclared = undeclared;
      from = from;
      to = to;
      from_is = e;
      to_is = down;
      type_is = back (Closed.call r.name args (Some to)) (λ h. well_call finds g f w r args (Some to) next) t
          (subst (λ l. HaveTupleType Q (chosen_or_all l) t) s typed);
    }))

call_step_back : (finds : Text → Text → Option Bool) (g : Grammar) (f : Text → ℕ → Text) → IsLevelable finds g f →
    (P Q : Typing) → IsBack finds g f P Q → (r : Rule) (args : Closeds) (level : Option ℕ) → IsCallOf finds g r args level →
    (t : GroundType) → StepThere finds g f Q r args level t → CallStep (before finds g) P r.name args level t
call_step_back finds g f w P Q back r args level call t (inl m) =
    let q = level_rule f r level in
    let same : m.rule ≡ q =
    one_rule (after finds g f) (level_name f r.name level) m.rule q m.is_rule
    (key_rule finds g f w.names r level call.among call.has_level) in
    let declared : r.declared ≡ Some m.written =
    sym (key_declared f r level) ∙ ap (λ e. e.declared) (sym same) ∙ m.declared in
    inl (record {
      rule = rule_between r;
      is_rule = own_rule finds g f w r call.among;
      written = m.written;
      declared = declared;
      type_is = declared_back finds g f w P Q back r args level call m.written declared t
          (subst (λ e. IsTypeOf Q (type_scope (after finds g f) e (all_by_level_names f args)) m.written t) same m.type_is);
    })
call_step_back finds g f w P Q back r args level call t (inr (inl m)) =
    let q = level_rule f r level in
    let given = all_by_level_names f args in
    let same : m.rule ≡ q =
    one_rule (after finds g f) (level_name f r.name level) m.rule q m.fits.rule
    (key_rule finds g f w.names r level call.among call.has_level) in
    let there = subst (λ e. Among (ranked_choices e) m.choice) same m.fits.written in
    let rank : m.choice.1 ≡ None = no_rank q m.choice (flat_key f r level call.has_level) there in
    let pair : m.choice ≡ (m.choice.0, None) = ap (λ a. (m.choice.0, a)) rank in
    let typed = subst (λ p. HaveTupleType Q (chosen_or_all (right_side (after finds g f) q (bind q given) p)) t) pair
    (subst (λ e. HaveTupleType Q (chosen_or_all (right_side (after finds g f) e (bind e given) m.choice)) t) same m.type_is) in
    choice_step finds g f w P Q back r args level call t
    (sym (key_declared f r level) ∙ ap (λ e. e.declared) (sym same) ∙ m.undeclared) m.choice.0 m.no_code
    (subst (λ e. Holds (after finds g f) (bind e given) m.choice.0.condition) same m.fits.holds) typed
    (choice_back finds g f w r args level call m.choice.0 (choice_listed q m.choice there))
call_step_back finds g f w P Q back r args level call t (inr (inr m)) = let e : None ≡ Some m.from = m.from_is in cc

-- a step for any symbol

call_well : (finds : Text → Text → Option Bool) (g : Grammar) (n : Text) (args : Closeds) (level : Option ℕ) →
    IsWellOrFaulty (before finds g) (Closed.call n args level) → IsWell (before finds g) (Closed.call n args level)
call_well finds g n args level (inl e) = cc
call_well finds g n args level (inr h) = h

group_well : (finds : Text → Text → Option Bool) (g : Grammar) (xs : Closeds) →
    IsWellOrFaulty (before finds g) (Closed.group xs) → AreWell (before finds g) xs
group_well finds g xs (inl e) = cc
group_well finds g xs (inr h) = h

step_forth : (finds : Text → Text → Option Bool) (g : Grammar) (f : Text → ℕ → Text) → IsLevelable finds g f →
    (P Q : Typing) → IsForth f P Q → (x : Closed) (t : GroundType) → TypeStep (before finds g) P x t →
    TypeStep (after finds g f) Q (by_level_names f x) t
step_forth finds g f w P Q forth (Closed.terminal (Terminal.quoted u)) t h = h
step_forth finds g f w P Q forth (Closed.terminal (Terminal.regex u)) t h = h
step_forth finds g f w P Q forth (Closed.terminal (Terminal.bare u)) t h = h
step_forth finds g f w P Q forth (Closed.terminal Terminal.error) t h = h
step_forth finds g f w P Q forth (Closed.call n args level) t h =
    let u = call_of finds g n args level
    (call_well finds g n args level (well_in finds g f w (Nonterminal.closed (Closed.call n args level)) h.0)) in (
      closed_reached finds g f w (Closed.call n args level) h.0,
      subst (λ m. CallStep (after finds g f) Q (level_name f m level) (all_by_level_names f args) None t) u.2
          (call_step_forth finds g f w P Q forth u.0 args level u.1 t
          (subst (λ m. CallStep (before finds g) P m args level t) (sym u.2) h.1)),
    )
step_forth finds g f w P Q forth (Closed.repeat op x) t h =
    (closed_reached finds g f w (Closed.repeat op x) h.0, h.1, h.2, forth x h.1 h.3)
step_forth finds g f w P Q forth (Closed.group xs) t h = (
  closed_reached finds g f w (Closed.group xs) h.0,
  tuple_forth (by_level_names f) (chosen-leveled f) P Q forth (closed_list xs) (closed_list (all_by_level_names f xs))
      (renamed_list f xs) t h.1,
)
step_forth finds g f w P Q forth (Closed.choose x) t h = forth x t h
step_forth finds g f w P Q forth (Closed.name m n x) t h = forth x t h
step_forth finds g f w P Q forth Closed.lookahead t h = (closed_reached finds g f w Closed.lookahead h.0, h.1)
step_forth finds g f w P Q forth Closed.lookbehind t h = (closed_reached finds g f w Closed.lookbehind h.0, h.1)
step_forth finds g f w P Q forth Closed.faulty t h = absurd h

step_back : (finds : Text → Text → Option Bool) (g : Grammar) (f : Text → ℕ → Text) → IsLevelable finds g f →
    (P Q : Typing) → IsBack finds g f P Q → (x : Closed) → IsWellIfSound (before finds g) x → (t : GroundType) →
    TypeStep (after finds g f) Q (by_level_names f x) t → TypeStep (before finds g) P x t
step_back finds g f w P Q back (Closed.terminal (Terminal.quoted u)) each t h = h
step_back finds g f w P Q back (Closed.terminal (Terminal.regex u)) each t h = h
step_back finds g f w P Q back (Closed.terminal (Terminal.bare u)) each t h = h
step_back finds g f w P Q back (Closed.terminal Terminal.error) each t h = h
step_back finds g f w P Q back (Closed.call n args level) each t h =
    let i = closed_reached_from finds g f w (Closed.call n args level) each h.0 in
    let u = call_of finds g n args level
    (call_well finds g n args level (well_in finds g f w (Nonterminal.closed (Closed.call n args level)) i)) in (
      i,
      subst (λ m. CallStep (before finds g) P m args level t) u.2
          (call_step_back finds g f w P Q back u.0 args level u.1 t
          (subst (λ m. CallStep (after finds g f) Q (level_name f m level) (all_by_level_names f args) None t) (sym u.2) h.1)),
    )
step_back finds g f w P Q back (Closed.repeat op x) each t h =
    (closed_reached_from finds g f w (Closed.repeat op x) each h.0, h.1, h.2, back x each h.1 h.3)
step_back finds g f w P Q back (Closed.group xs) each t h =
    let i = closed_reached_from finds g f w (Closed.group xs) each h.0 in
    let well = group_well finds g xs (well_in finds g f w (Nonterminal.closed (Closed.group xs)) i) in (
      i,
      tuple_back (by_level_names f) (chosen-leveled f) (IsWellIfSound (before finds g)) P Q back (closed_list xs)
          (closed_list (all_by_level_names f xs))
          (renamed_list f xs) (λ x j k. well_listed (before finds g) xs well x j) t h.1,
    )
step_back finds g f w P Q back (Closed.choose x) each t h = back x each t h
step_back finds g f w P Q back (Closed.name m n x) each t h = back x each t h
step_back finds g f w P Q back Closed.lookahead each t h = (closed_reached_from finds g f w Closed.lookahead each h.0, h.1)
step_back finds g f w P Q back Closed.lookbehind each t h = (closed_reached_from finds g f w Closed.lookbehind each h.0, h.1)
step_back finds g f w P Q back Closed.faulty each t h = absurd h

-- so many steps

types_forth : (finds : Text → Text → Option Bool) (g : Grammar) (f : Text → ℕ → Text) → IsLevelable finds g f →
    (k : ℕ) (x : Closed) (t : GroundType) → IsGroundedIn (before finds g) k x t →
    IsGroundedIn (after finds g f) k (by_level_names f x) t
types_forth finds g f w zero x t h = absurd h
types_forth finds g f w (suc k) x t h =
    step_forth finds g f w (IsGroundedIn (before finds g) k) (IsGroundedIn (after finds g f) k)
    (λ y u i. types_forth finds g f w k y u i) x t h

types_back : (finds : Text → Text → Option Bool) (g : Grammar) (f : Text → ℕ → Text) → IsLevelable finds g f →
    (k : ℕ) (x : Closed) → IsWellIfSound (before finds g) x → (t : GroundType) →
    IsGroundedIn (after finds g f) k (by_level_names f x) t → IsGroundedIn (before finds g) k x t
types_back finds g f w zero x each t h = absurd h
types_back finds g f w (suc k) x each t h =
    step_back finds g f w (IsGroundedIn (before finds g) k) (IsGroundedIn (after finds g f) k)
    (λ y e u i. types_back finds g f w k y e u i) x each t h

-- the types are the same
pub levels_keep : (finds : Text → Text → Option Bool) (g : Grammar) (f : Text → ℕ → Text) → IsLevelable finds g f →
    (x : Closed) (t : GroundType) → InExpansion (before finds g) (Nonterminal.closed x) →
    IsGrounded (before finds g) x t ↔ IsGrounded (after finds g f) (by_level_names f x) t
levels_keep finds g f w x t i =
    let each = well_if_sound finds g x (well_in finds g f w (Nonterminal.closed x) i) in (
      λ h. (h.0, types_forth finds g f w h.0 x t h.1),
      λ h. (h.0, types_back finds g f w h.0 x each t h.1),
    )
