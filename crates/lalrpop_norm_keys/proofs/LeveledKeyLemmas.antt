-- Places of keys go back over levels; for the law of places at levels.
use Rattle.std.proofs.Common.{◌≡◌, ℕ, List, [], ◌∷◌, refl, ap, sym, ◌∙◌, subst, Bool, inl, inr}
use Rattle.std.specs.Prelude.{Option, Some, None, is_some, map}
use Rattle.lalrpop_grammar_symbols.specs.Symbols.{Text, TextSpan, WrittenSymbol, Closed, Closeds, closed_list, syms}
use Rattle.lalrpop_grammar_symbols.specs.Subsymbols.{subsymbols_of}
use Rattle.lalrpop_grammar.specs.WrittenGrammar.{Alternative, Rule, Grammar}
use Rattle.lalrpop_grammar_language.specs.Among.{Among}
use Rattle.lalrpop_grammar_language.specs.Enabled.{EnabledRule, Choice, IsRule}
use Rattle.lalrpop_grammar_language.specs.Levels.{Rank, allowed_level, has_levels, ranked_choices}
use Rattle.lalrpop_grammar_language.specs.Closing.{Scope}
use Rattle.lalrpop_grammar_language.specs.Conditions.{Holds}
use Rattle.lalrpop_grammar_language.specs.Admitting.{bind, rank_level}
use Rattle.lalrpop_grammar_language.specs.Expansion.{Nonterminal, InExpansion}
use Rattle.lalrpop_grammar_rules.specs.Views.{closeds}
use Rattle.lalrpop_norm_theory.specs.Between.{rule_between}
use Rattle.lalrpop_norm_theory.proofs.LevelLemmas.{no_rank, no_loosest}
use Rattle.lalrpop_norm_theory.specs.LevelRules.{level_name, by_level_names, all_by_level_names, rename_listed_occurrences}
use Rattle.lalrpop_norm_theory.specs.LeveledGrammar.{leveled_alternative, occurrence_scope, own_call}
use Rattle.lalrpop_norm_theory.specs.LeveledGrammar.{parameters_alone, ranked_alternatives}
use Rattle.lalrpop_norm_theory.specs.LevelLaws.{nonterminal_by_level, IsLevelable}
use Rattle.lalrpop_norm_theory.proofs.LevelOrderLemmas.{one_rule}
use Rattle.lalrpop_norm_theory.proofs.LeveledRuleLemmas.{key_rule, level_of_leveled}
use Rattle.lalrpop_norm_theory.proofs.LevelAttrLemmas.{flat_key}
use Rattle.lalrpop_norm_theory.proofs.RenameLemmas.{RenameAlike, rename_listed_alike, listed_stay, counted_alike}
use Rattle.lalrpop_norm_theory.proofs.LevelBindingLemmas.{hide_alike}
use Rattle.lalrpop_norm_theory.proofs.LevelChoiceLemmas.{choice_between, ranked_choice, choice_listed, IsLevelChoice, level_choice}
use Rattle.lalrpop_norm_theory.proofs.LevelNameLemmas.{before, after}
use Rattle.lalrpop_norm_theory.proofs.LevelClosingLemmas.{scope_before, leveled_side, unleveled_side, pass_side}
use Rattle.lalrpop_norm_theory.proofs.LevelFitLemmas.{IsCallOf, StandsThere, fits_here, flat_written, level_rule, side_here, side_there}
use Rattle.lalrpop_norm_theory.proofs.LevelExpansionLemmas.{call_of, reached_from, well_in}
use Rattle.lalrpop_norm_theory.proofs.WellLeveledLemmas.{IsWellOrFaulty, all_well_sound}
use Rattle.lalrpop_norm_keys.specs.MetKeys.{MetKey, keys_met_in_row}
use Rattle.lalrpop_norm_keys.specs.KeyPlaces.{IsKeyPlace, IsKeyPlaceIn, IsShapeKey, keys_met_in_side}
use Rattle.lalrpop_norm_keys.proofs.RenamedKeyLemmas.{renamed_back}

-- In the pass to a tighter level no repeat, group or lookaround is met.
own_call_meets : (span : TextSpan) (n : Text) (ps : List Text) (m : Text) (args : Closeds) (level : Option ℕ) (y : Closed)
    (p : TextSpan) → IsShapeKey y →
    Among (keys_met_in_row (syms (own_call span n ps ∷ [])) (closeds (Closed.call m args level ∷ []))) (y, p) → ⊥
own_call_meets span n [] m args level y p shape (inl e) = subst IsShapeKey (sym (ap (λ (k : MetKey). k.0) e)) shape
own_call_meets span n [] m args level y p shape (inr i) = i
own_call_meets span n (q ∷ qs) m args level y p shape (inl e) = subst IsShapeKey (sym (ap (λ (k : MetKey). k.0) e)) shape
own_call_meets span n (q ∷ qs) m args level y p shape (inr i) = i

module _ (finds : Text → Text → Option Bool) (g : Grammar) (f : Text → ℕ → Text) (w : IsLevelable finds g f) where
  -- a key here with that name there, which is met in the call of the rule
  abbrev MetFor : Rule → Closeds → Option ℕ → Closed → TextSpan → Type 0
  MetFor r args level y p =
      (x : Closed) × (y ≡ by_level_names f x) × IsKeyPlaceIn (before finds g) (Closed.call r.name args level) x p

  -- the keys that are met in a choice of the rule of a level
  abbrev met_there : Rule → Closeds → Option ℕ → Choice → List MetKey
  met_there r args level c = keys_met_in_row (syms c.expr) (closeds (side_there finds g f r args level c))

  -- in an alternative whose occurrences are renamed
  alternative_met : (r : Rule) (args : Closeds) (level : Option ℕ) → IsCallOf finds g r args level → (c : Choice × Option Rank) →
      Among (ranked_choices (rule_between r)) c → rank_level c.1 ≡ level → is_some c.1 ≡ has_levels (rule_between r) →
      (d : Choice) → StandsThere finds g f r args level c d → (s : Scope) → d.expr ≡ rename_listed_occurrences f s 0 c.0.expr →
      Holds (after finds g f) (bind (level_rule f r level) (all_by_level_names f args)) d.condition → (y : Closed) (p : TextSpan) →
      Among (met_there r args level d) (y, p) → MetFor r args level y p
  alternative_met r args level call c there ranked leveled d stands s same holds y p i =
      let side = side_here finds g r args c in
      let u = renamed_back f s c.0.expr side y p
      (subst (λ (l : List WrittenSymbol). Among (keys_met_in_row (syms l) (closeds (map (by_level_names f) side))) (y, p)) same
      (subst (λ (l : List Closed). Among (keys_met_in_row (syms d.expr) (closeds l)) (y, p)) stands.side i)) in (
        u.0,
        u.1,
        record {
          name = r.name;
          args = args;
          level = level;
          call_is = refl;
          rule = rule_between r;
          choice = c;
          fits = fits_here finds g f w r args level call c d there leveled stands holds;
          level_is = ranked;
          met = u.2;
        },
      )

  -- in a choice of the rule of a level
  met_in_choice : (r : Rule) (args : Closeds) (level : Option ℕ) → IsCallOf finds g r args level → (c : Choice) →
      Among (level_rule f r level).choices c →
      Holds (after finds g f) (bind (level_rule f r level) (all_by_level_names f args)) c.condition → (y : Closed) (p : TextSpan) →
      IsShapeKey y → Among (met_there r args level c) (y, p) → MetFor r args level y p
  met_in_choice r args None call c i holds y p shape m =
      let stands : StandsThere finds g f r args None (c, None) c = record {
        origin = refl;
        condition = refl;
        action = refl;
        side = unleveled_side finds g f w r call.among call.has_level args call.many c i;
      } in
      let s = scope_before finds g r args c None in
      alternative_met r args None call (c, None) (flat_written (rule_between r) call.has_level c i) refl (sym call.has_level) c stands s
      (sym (listed_stay f s (λ k. no_loosest (rule_between r) call.has_level) 0 c.expr)) holds y p m
  met_in_choice r args (Some j) call c i holds y p shape m = go (level_choice f r j c i)
    where
      of_alternative : (a : Alternative) (k : Rank) → Among (ranked_alternatives r) (a, Some k) → k.level ≡ j →
          choice_between (leveled_alternative f r (a, Some k)) ≡ c → MetFor r args (Some j) y p
      of_alternative a k there e same =
          let ranked = ranked_choice r a (Some k) there in
          let s = scope_before finds g r args (choice_between a) (Some k) in
          let hide = hide_alike r.parameters (closed_list args) call.many in
          let alike : RenameAlike s (occurrence_scope r a (Some k)) = record {
            owners = refl;
            hide = hide;
            levels = λ l. ap (λ n. allowed_level (rule_between r) (Some k) n l)
                (counted_alike (bind (rule_between r) args) (parameters_alone r.parameters) r.name hide (subsymbols_of (syms a.expr)));
          } in
          let stands : StandsThere finds g f r args (Some j) (choice_between a, Some k) c = record {
            origin = ap (λ (x : Choice). x.origin) (sym same);
            condition = ap (λ (x : Choice). x.condition) (sym same);
            action = ap (λ (x : Choice). x.action) (sym same);
            side = ap (λ (x : Choice). side_there finds g f r args (Some j) x) (sym same)
                ∙ leveled_side finds g f w r call.among args call.many a k there j;
          } in
          let renamed : c.expr ≡ rename_listed_occurrences f s 0 a.expr =
          ap (λ (x : Choice). x.expr) (sym same) ∙ rename_listed_alike f s (occurrence_scope r a (Some k)) alike 0 a.expr in
          alternative_met r args (Some j) call (choice_between a, Some k) ranked (ap Some e)
          (sym (level_of_leveled (rule_between r) j call.has_level)) c stands s renamed holds y p m

      go : IsLevelChoice f r j c → MetFor r args (Some j) y p
      go (IsLevelChoice.alternative a k there e same) = of_alternative a k there e same
      go (IsLevelChoice.pass_down to t same) =
          absurd (own_call_meets r.span (f r.name to) r.parameters (f r.name to) (all_by_level_names f args) None y p shape
          (subst (λ (l : List Closed).
          Among (keys_met_in_row (syms (own_call r.span (f r.name to) r.parameters ∷ [])) (closeds l)) (y, p))
          (pass_side finds g f w r call.among args call.many (all_well_sound (before finds g) args call.well) j to call.has_level t)
          (subst (λ (x : Choice). Among (met_there r args (Some j) x) (y, p)) (sym same) m)))

  -- in a call
  met_in_call : (r : Rule) (args : Closeds) (level : Option ℕ) → IsCallOf finds g r args level → (y : Closed) (p : TextSpan) →
      IsShapeKey y → IsKeyPlaceIn (after finds g f) (by_level_names f (Closed.call r.name args level)) y p → MetFor r args level y p
  met_in_call r args level call y p shape m =
      met_in_choice r args level call m.choice.0 (choice_listed q m.choice there) holds y p shape placed
    where
      q : EnabledRule
      q = level_rule f r level

      given : Closeds
      given = all_by_level_names f args

      name_is : m.name ≡ level_name f r.name level
      name_is = let e : Closed.call (level_name f r.name level) given None ≡ Closed.call m.name m.args m.level = m.call_is in cc

      args_are : m.args ≡ given
      args_are = let e : Closed.call (level_name f r.name level) given None ≡ Closed.call m.name m.args m.level = m.call_is in cc

      named : IsRule (after finds g f) m.name q
      named =
          subst (λ (t : Text). IsRule (after finds g f) t q) (sym name_is)
          (key_rule finds g f w.names r level call.among call.has_level)

      rule_is : m.rule ≡ q
      rule_is = one_rule (after finds g f) m.name m.rule q m.fits.rule named

      there : Among (ranked_choices q) m.choice
      there = subst (λ (e : EnabledRule). Among (ranked_choices e) m.choice) rule_is m.fits.written

      pair : m.choice ≡ (m.choice.0, None)
      pair = ap (λ (a : Option Rank). (m.choice.0, a)) (no_rank q m.choice (flat_key f r level call.has_level) there)

      holds : Holds (after finds g f) (bind q given) m.choice.0.condition
      holds =
          subst (λ (a : Closeds). Holds (after finds g f) (bind q a) m.choice.0.condition) args_are
          (subst (λ (e : EnabledRule). Holds (after finds g f) (bind e m.args) m.choice.0.condition) rule_is m.fits.holds)

      placed : Among (met_there r args level m.choice.0) (y, p)
      placed =
          subst (λ (c : Choice × Option Rank). Among (keys_met_in_side (after finds g f) q (bind q given) c) (y, p)) pair
          (subst (λ (a : Closeds). Among (keys_met_in_side (after finds g f) q (bind q a) m.choice) (y, p)) args_are
          (subst (λ (e : EnabledRule). Among (keys_met_in_side (after finds g f) e (bind e m.args) m.choice) (y, p)) rule_is m.met))

  -- in what is made
  met_back : (z : Closed) → IsWellOrFaulty (before finds g) z → (y : Closed) (p : TextSpan) → IsShapeKey y →
      IsKeyPlaceIn (after finds g f) (by_level_names f z) y p →
      (x : Closed) × (y ≡ by_level_names f x) × IsKeyPlaceIn (before finds g) z x p
  met_back z (inl e) y p shape n =
      let wrong : Closed.faulty ≡ Closed.call n.name n.args n.level = sym (ap (by_level_names f) e) ∙ n.call_is in cc
  met_back (Closed.call m args level) (inr h) y p shape n =
      let u = call_of finds g m args level h in
      subst (λ (t : Text). (x : Closed) × (y ≡ by_level_names f x) × IsKeyPlaceIn (before finds g) (Closed.call t args level) x p)
      u.2 (met_in_call u.0 args level u.1 y p shape
      (subst (λ (t : Text). IsKeyPlaceIn (after finds g f) (by_level_names f (Closed.call t args level)) y p) (sym u.2) n))
  met_back (Closed.terminal t) (inr h) y p shape n = let wrong : Closed.terminal t ≡ Closed.call n.name n.args n.level = n.call_is in cc
  met_back (Closed.repeat op v) (inr h) y p shape n =
      let wrong : Closed.repeat op (by_level_names f v) ≡ Closed.call n.name n.args n.level = n.call_is in cc
  met_back (Closed.group vs) (inr h) y p shape n =
      let wrong : Closed.group (all_by_level_names f vs) ≡ Closed.call n.name n.args n.level = n.call_is in cc
  met_back (Closed.choose v) (inr h) y p shape n =
      let wrong : Closed.choose (by_level_names f v) ≡ Closed.call n.name n.args n.level = n.call_is in cc
  met_back (Closed.name b t v) (inr h) y p shape n =
      let wrong : Closed.name b t (by_level_names f v) ≡ Closed.call n.name n.args n.level = n.call_is in cc
  met_back Closed.lookahead (inr h) y p shape n = let wrong : Closed.lookahead ≡ Closed.call n.name n.args n.level = n.call_is in cc
  met_back Closed.lookbehind (inr h) y p shape n = let wrong : Closed.lookbehind ≡ Closed.call n.name n.args n.level = n.call_is in cc
  met_back Closed.faulty (inr h) y p shape n = absurd h

  -- what is made there is made here
  made_from : (y : Closed) → InExpansion (after finds g f) (Nonterminal.closed y) →
      (z : Closed) × InExpansion (before finds g) (Nonterminal.closed z) × (y ≡ by_level_names f z)
  made_from y i = let u = reached_from finds g f w i.0 (Nonterminal.closed y) i.1 in go u.0 u.1 u.2
    where
      go : (v : Nonterminal) → InExpansion (before finds g) v → Nonterminal.closed y ≡ nonterminal_by_level f v →
          (z : Closed) × InExpansion (before finds g) (Nonterminal.closed z) × (y ≡ by_level_names f z)
      go (Nonterminal.start n) j e = cc
      go (Nonterminal.closed v) j e = let same : y ≡ by_level_names f v = cc in (v, j, same)

  -- the place of a key in the grammar in which each level has a rule of its own
  pub leveled_key_place : (y : Closed) (p : TextSpan) → IsShapeKey y → IsKeyPlace (after finds g f) y p →
      (x : Closed) × (y ≡ by_level_names f x) × IsKeyPlace (before finds g) x p
  leveled_key_place y p shape (v, made, place) =
      let u = made_from v made in
      let r = met_back u.0 (well_in finds g f w (Nonterminal.closed u.0) u.1) y p shape
      (subst (λ (c : Closed). IsKeyPlaceIn (after finds g f) c y p) u.2 place) in
      (r.0, r.1, (u.0, u.1, r.2))
