-- An alternative of an expanded rule that gives it a type is one of the written call that the rule stands for; for the faults of types.
use Rattle.std.proofs.Common.{◌≡◌, ℕ, zero, suc, List, [], ◌∷◌, refl, ap, sym, ◌∙◌, subst, Bool, inl, inr}
use Rattle.std.specs.Prelude.{Option, Some, None, is_some, option_map}
use Rattle.lalrpop_grammar_symbols.specs.Symbols.{Text, Terminal, Closed, Closeds}
use Rattle.lalrpop_grammar.specs.WrittenGrammar.{Action, Origin, Rule, Grammar, Ty}
use Rattle.lalrpop_grammar_language.specs.Admitting.{Fits, argument_list, bind, rank_level}
use Rattle.lalrpop_grammar_language.specs.Among.{Among}
use Rattle.lalrpop_grammar_language.specs.Closing.{Scope, right_side}
use Rattle.lalrpop_grammar_language.specs.Conditions.{Holds}
use Rattle.lalrpop_grammar_language.specs.Enabled.{Choice, EnabledGrammar, EnabledRule, enabled_grammar}
use Rattle.lalrpop_grammar_language.specs.Expansion.{InExpansion, Nonterminal, origin_with}
use Rattle.lalrpop_grammar_language.specs.Levels.{Rank, ranked_choices, tighter}
use Rattle.lalrpop_grammar_language.proofs.PlaceLemmas.{among_map}
use Rattle.lalrpop_norm_theory.specs.Between.{grammar_between, rule_between, without_disabled}
use Rattle.lalrpop_norm_theory.specs.KeyRules.{AreInstanceChoices, IsMacroExpansion, by_name}
use Rattle.lalrpop_norm_theory.specs.KeyTypes.{DeclareKeyTypes, HasKeyRule, IsPutDeclaration}
use Rattle.lalrpop_norm_theory.specs.LevelLaws.{IsLevelable}
use Rattle.lalrpop_norm_theory.specs.LeveledGrammar.{leveled_grammar}
use Rattle.lalrpop_norm_theory.specs.LevelRules.{all_by_level_names, by_level_names, level_name}
use Rattle.lalrpop_norm_theory.specs.Resolving.{defined_names, resolved_type}
use Rattle.lalrpop_norm_theory.specs.Same.{SameExpansion}
use Rattle.lalrpop_norm_theory.specs.Types.{ByDefault, ByTighterLevel, GroundType, HaveTupleType, IsGrounded, IsGroundedIn, SameTypes}
use Rattle.lalrpop_norm_theory.specs.Types.{chosen_or_all, type_scope}
use Rattle.lalrpop_norm_theory.proofs.DeclaredLemmas.{well_if_sound}
use Rattle.lalrpop_norm_theory.proofs.DroppedPlaceLemmas.{cfg_change, changed as dropping_changes, replaces as dropping_replaces}
use Rattle.lalrpop_norm_theory.proofs.DroppingLemmas.{dropping_expansion, dropping_types}
use Rattle.lalrpop_norm_theory.proofs.KeyClosingLemmas.{side_named}
use Rattle.lalrpop_norm_theory.proofs.KeyStepLemmas.{macros_keep_types}
use Rattle.lalrpop_norm_theory.proofs.LevelAttrLemmas.{flat_key, key_declared}
use Rattle.lalrpop_norm_theory.proofs.LevelChoiceLemmas.{choice_listed}
use Rattle.lalrpop_norm_theory.proofs.LevelClosingLemmas.{scope_before}
use Rattle.lalrpop_norm_theory.proofs.LevelExpansionLemmas.{call_of, well_call, well_in, well_scope}
use Rattle.lalrpop_norm_theory.proofs.LevelFitLemmas.{IsCallOf, StandsFor, choice_back, fits_here, level_rule, side_here, side_there}
use Rattle.lalrpop_norm_theory.proofs.LevelLemmas.{no_rank}
use Rattle.lalrpop_norm_theory.proofs.LevelNameLemmas.{after, before, own_rule}
use Rattle.lalrpop_norm_theory.proofs.LevelOrderLemmas.{one_rule}
use Rattle.lalrpop_norm_theory.proofs.LevelTypeLemmas.{chosen-leveled, levels_keep}
use Rattle.lalrpop_norm_theory.proofs.LeveledRuleLemmas.{key_rule}
use Rattle.lalrpop_norm_theory.proofs.MacroTypeLemmas.{StandsForChoice, call_parts, chosen-named}
use Rattle.lalrpop_norm_theory.proofs.ReachLemmas.{IsWellIfSound, closed_reached_from}
use Rattle.lalrpop_norm_theory.proofs.ReplacedNameLemmas.{keeps_sides}
use Rattle.lalrpop_norm_theory.proofs.ResolvedPlaceLemmas.{changed as resolving_changes, replaces as resolving_replaces}
use Rattle.lalrpop_norm_theory.proofs.ResolvingLemmas.{name_change, resolving_expansion, resolving_types}
use Rattle.lalrpop_norm_theory.proofs.RightLevelLemmas.{rank_of, tighter_present}
use Rattle.lalrpop_norm_theory.proofs.RuleChangeLemmas.{HasChangedRules, KeepsSides, RuleChange, changed_pair, changed_rule}
use Rattle.lalrpop_norm_theory.proofs.RuleChangeLemmas.{fits_before, ranked_kept, rule_before, tighter_kept}
use Rattle.lalrpop_norm_theory.proofs.TypeListLemmas.{AreTypedOver, tuple_back, tuple_over}
use Rattle.lalrpop_norm_theory.proofs.WellLeveledLemmas.{IsWellOrFaulty, close_list_well}
use Rattle.lalrpop_norm_chain.specs.Chains.{IsMacroChain}
use Rattle.lalrpop_norm_chain.specs.PremiseLaws.{resolved_part}
use Rattle.lalrpop_norm_chain.specs.WrittenTypeFaults.{IsGivenBy, OwnAlternative}
use Rattle.lalrpop_norm_chain.proofs.FrontLemmas.{levelable}

-- the choice that the alternative tells
abbrev pub told_origin : OwnAlternative → Origin
told_origin (OwnAlternative.written p) = p.0.origin
told_origin OwnAlternative.pass_down = Origin.pass_down

-- an alternative that gives the call the type and tells this choice
pub record TellsGiver (g : EnabledGrammar) (n : Text) (args : Closeds) (level : Option ℕ) (o : Origin) (t : GroundType) : Type 0 where
  pub own : OwnAlternative
  pub gives : IsGivenBy g n args level own t
  pub told : o ≡ told_origin own

-- where two grammars have one expansion, and each symbol of it the same types, each symbol that has one has it in both

module _ (g h : EnabledGrammar) (same : SameExpansion g h (λ x. x)) (types : SameTypes g h (λ x. x)) where
  reached_before : (x : Closed) (t : GroundType) → InExpansion h (Nonterminal.closed x) → IsGrounded h x t → IsGrounded g x t
  reached_before x t i =
      let u = same.no_other (Nonterminal.closed x) i in (types x t (subst (InExpansion g) (sym u.2) u.1)).1

  grounded_in_before : (k : ℕ) (x : Closed) (t : GroundType) → IsGroundedIn h k x t → IsGrounded g x t
  grounded_in_before zero x t i = absurd i
  grounded_in_before (suc k) (Closed.terminal (Terminal.quoted u)) t i = (1, i)
  grounded_in_before (suc k) (Closed.terminal (Terminal.regex u)) t i = (1, i)
  grounded_in_before (suc k) (Closed.terminal (Terminal.bare u)) t i = (1, i)
  grounded_in_before (suc k) (Closed.terminal Terminal.error) t i = absurd i
  grounded_in_before (suc k) (Closed.call n args level) t i = reached_before (Closed.call n args level) t i.0 (suc k, i)
  grounded_in_before (suc k) (Closed.repeat op x) t i = reached_before (Closed.repeat op x) t i.0 (suc k, i)
  grounded_in_before (suc k) (Closed.group xs) t i = reached_before (Closed.group xs) t i.0 (suc k, i)
  grounded_in_before (suc k) (Closed.choose x) t i = let u = grounded_in_before k x t i in (suc u.0, u.1)
  grounded_in_before (suc k) (Closed.name m n x) t i = let u = grounded_in_before k x t i in (suc u.0, u.1)
  grounded_in_before (suc k) Closed.lookahead t i = reached_before Closed.lookahead t i.0 (suc k, i)
  grounded_in_before (suc k) Closed.lookbehind t i = reached_before Closed.lookbehind t i.0 (suc k, i)
  grounded_in_before (suc k) Closed.faulty t i = absurd i

  all_before : (xs : List Closed) → AreTypedOver (IsGrounded h) (IsGrounded g) xs xs
  all_before [] = tt
  all_before (x ∷ xs) = (λ t i. grounded_in_before i.0 x t i.1, all_before xs)

  -- rules that are changed in declared types, symbols and attributes alone
  module _ (w : RuleChange) (k : HasChangedRules w g h) (s : KeepsSides w g h)
      (undeclared : (r : EnabledRule) → w.declared r ≡ None → r.declared ≡ None) where
    choice_before : (n : Text) (args : Closeds) (level : Option ℕ) (t : GroundType) (c : ByDefault (IsGrounded h) h n args level t) →
        TellsGiver g n args level c.choice.0.origin t
    choice_before n args level t c =
        let b = rule_before w g h k n c.rule c.fits.rule in
        let p = among_map (changed_pair w b.0) (ranked_choices b.0) c.choice
        (subst (λ ps. Among ps c.choice) (ranked_kept w k.ranks b.0)
        (subst (λ e. Among (ranked_choices e) c.choice) (sym b.2) c.fits.written)) in
        let typed : HaveTupleType (IsGrounded h) (chosen_or_all (right_side g b.0 (bind b.0 args) p.0)) t =
        subst (λ l. HaveTupleType (IsGrounded h) (chosen_or_all l) t) (s n b.0 b.1 args p.0)
        (subst (λ e. HaveTupleType (IsGrounded h) (chosen_or_all (right_side h (changed_rule w b.0) (bind b.0 args) e)) t) (sym p.2)
        (subst (λ e. HaveTupleType (IsGrounded h) (chosen_or_all (right_side h e (bind e args) c.choice)) t) (sym b.2) c.type_is)) in
        record {
          own = OwnAlternative.written p.0;
          gives = (
            record {
              rule = b.0;
              choice = p.0;
              fits = fits_before w g h k n args b.0 p.0 b.1 p.1
                  (subst (λ e. Fits h n args (changed_rule w b.0) e) (sym p.2)
                  (subst (λ e. Fits h n args e c.choice) (sym b.2) c.fits));
              undeclared = undeclared b.0 (ap (λ (e : EnabledRule). e.declared) b.2 ∙ c.undeclared);
              level_is = ap (λ (e : Choice × Option Rank). rank_level e.1) p.2 ∙ c.level_is;
              no_code = ap (λ (e : Choice × Option Rank). e.0.action) p.2 ∙ c.no_code;
              type_is = tuple_over (IsGrounded h) (IsGrounded g) (chosen_or_all (right_side g b.0 (bind b.0 args) p.0))
                  (chosen_or_all (right_side g b.0 (bind b.0 args) p.0)) t
                  (all_before (chosen_or_all (right_side g b.0 (bind b.0 args) p.0))) typed;
            },
            refl,
          );
          told = sym (ap (λ (e : Choice × Option Rank). e.0.origin) p.2);
        }

    pass_before : (n : Text) (args : Closeds) (level : Option ℕ) (t : GroundType) → ByTighterLevel (IsGrounded h) h n args level t →
        ByTighterLevel (IsGrounded g) g n args level t
    pass_before n args level t c =
        let b = rule_before w g h k n c.rule c.is_rule in
        record {
          rule = b.0;
          is_rule = b.1;
          undeclared = undeclared b.0 (ap (λ (e : EnabledRule). e.declared) b.2 ∙ c.undeclared);
          from = c.from;
          to = c.to;
          from_is = c.from_is;
          to_is = sym (tighter_kept w k.ranks b.0 c.from) ∙ ap (λ (e : EnabledRule). tighter e c.from) b.2 ∙ c.to_is;
          type_is = grounded_in_before c.type_is.0 (Closed.call n args (Some c.to)) t c.type_is.1;
        }

    giver_before : (n : Text) (args : Closeds) (level : Option ℕ) (o : Origin) (t : GroundType) → TellsGiver h n args level o t →
        TellsGiver g n args level o t
    giver_before n args level o t u = go u.own u.gives u.told
      where
        go : (a : OwnAlternative) → IsGivenBy h n args level a t → o ≡ told_origin a → TellsGiver g n args level o t
        go (OwnAlternative.written q) c e =
            let v = choice_before n args level t c.0 in
            record {
              own = v.own;
              gives = v.gives;
              told = e ∙ sym (ap (λ (x : Choice × Option Rank). x.0.origin) c.1) ∙ v.told;
            }
        go OwnAlternative.pass_down c e =
            record { own = OwnAlternative.pass_down; gives = pass_before n args level t c; told = e }

none_mapped : (f : Ty → Ty) (o : Option Ty) → option_map f o ≡ None → o ≡ None
none_mapped f None e = refl
none_mapped f (Some y) e = cc

-- rules of levels

module _ (finds : Text → Text → Option Bool) (g : Grammar) (f : Text → ℕ → Text) (w : IsLevelable finds g f) where
  reached_level : (x : Closed) → IsWellIfSound (before finds g) x → (t : GroundType) →
      InExpansion (after finds g f) (Nonterminal.closed (by_level_names f x)) → IsGrounded (after finds g f) (by_level_names f x) t →
      IsGrounded (before finds g) x t
  reached_level x each t i = (levels_keep finds g f w x t (closed_reached_from finds g f w x each i)).1

  grounded_in_level : (k : ℕ) (x : Closed) → IsWellIfSound (before finds g) x → (t : GroundType) →
      IsGroundedIn (after finds g f) k (by_level_names f x) t → IsGrounded (before finds g) x t
  grounded_in_level zero x each t i = absurd i
  grounded_in_level (suc k) (Closed.terminal (Terminal.quoted u)) each t i = (1, i)
  grounded_in_level (suc k) (Closed.terminal (Terminal.regex u)) each t i = (1, i)
  grounded_in_level (suc k) (Closed.terminal (Terminal.bare u)) each t i = (1, i)
  grounded_in_level (suc k) (Closed.terminal Terminal.error) each t i = absurd i
  grounded_in_level (suc k) (Closed.call n args level) each t i = reached_level (Closed.call n args level) each t i.0 (suc k, i)
  grounded_in_level (suc k) (Closed.repeat op x) each t i = reached_level (Closed.repeat op x) each t i.0 (suc k, i)
  grounded_in_level (suc k) (Closed.group xs) each t i = reached_level (Closed.group xs) each t i.0 (suc k, i)
  grounded_in_level (suc k) (Closed.choose x) each t i = let u = grounded_in_level k x each t i in (suc u.0, u.1)
  grounded_in_level (suc k) (Closed.name m n x) each t i = let u = grounded_in_level k x each t i in (suc u.0, u.1)
  grounded_in_level (suc k) Closed.lookahead each t i = reached_level Closed.lookahead each t i.0 (suc k, i)
  grounded_in_level (suc k) Closed.lookbehind each t i = reached_level Closed.lookbehind each t i.0 (suc k, i)
  grounded_in_level (suc k) Closed.faulty each t i = absurd i

  grounded_level : (x : Closed) → IsWellIfSound (before finds g) x → (t : GroundType) →
      IsGrounded (after finds g f) (by_level_names f x) t → IsGrounded (before finds g) x t
  grounded_level x each t i = grounded_in_level i.0 x each t i.1

  side_well : (r : Rule) (args : Closeds) (level : Option ℕ) → IsCallOf finds g r args level → (p : Choice × Option Rank) →
      Among (ranked_choices (rule_between r)) p → (x : Closed) → Among (side_here finds g r args p) x →
      IsWellIfSound (before finds g) x
  side_well r args level call p there x i =
      well_if_sound finds g x
      (close_list_well (scope_before finds g r args p.0 p.1)
      (well_scope finds g f w r call.among args call.well p.0 p.1 (rank_of (rule_between r) p.0 p.1 there)) 0 p.0.expr x i)

  stands_for : (r : Rule) (args : Closeds) (level : Option ℕ) → IsCallOf finds g r args level → (t : GroundType) →
      r.declared ≡ None → (c : Choice) → c.action ≡ Action.default →
      Holds (after finds g f) (bind (level_rule f r level) (all_by_level_names f args)) c.condition →
      HaveTupleType (IsGrounded (after finds g f)) (chosen_or_all (side_there finds g f r args level c)) t →
      StandsFor finds g f r args level c → TellsGiver (before finds g) r.name args level c.origin t
  stands_for r args level call t undeclared c no_code holds typed (StandsFor.alternative p there e leveled s) = record {
    own = OwnAlternative.written p;
    gives = (
      record {
        rule = rule_between r;
        choice = p;
        fits = fits_here finds g f w r args level call p c there leveled s holds;
        undeclared = undeclared;
        level_is = e;
        no_code = sym s.action ∙ no_code;
        type_is = tuple_back (by_level_names f) (chosen-leveled f) (IsWellIfSound (before finds g)) (IsGrounded (before finds g))
            (IsGrounded (after finds g f)) grounded_level (side_here finds g r args p) (side_there finds g f r args level c) s.side
            (side_well r args level call p there) t typed;
      },
      refl,
    );
    told = s.origin;
  }
  stands_for r args level call t undeclared c no_code holds typed (StandsFor.pass_down from to e down passes s) =
      let next : IsCallOf finds g r args (Some to) = record {
        among = call.among;
        many = call.many;
        well = call.well;
        has_level = tighter_present (rule_between r) from to down;
      } in
      record {
        own = OwnAlternative.pass_down;
        gives = record {
          rule = rule_between r;
          is_rule = own_rule finds g f w r call.among;
          undeclared = undeclared;
          from = from;
          to = to;
          from_is = e;
          to_is = down;
          type_is = grounded_level (Closed.call r.name args (Some to)) (λ h. well_call finds g f w r args (Some to) next) t
              (subst (λ l. HaveTupleType (IsGrounded (after finds g f)) (chosen_or_all l) t) s typed);
        };
        told = passes;
      }

  giver_leveled : (r : Rule) (args : Closeds) (level : Option ℕ) → IsCallOf finds g r args level → (t : GroundType)
      (m : ByDefault (IsGrounded (after finds g f)) (after finds g f) (level_name f r.name level) (all_by_level_names f args) None t) →
      TellsGiver (before finds g) r.name args level m.choice.0.origin t
  giver_leveled r args level call t m =
      let e = level_rule f r level in
      let given = all_by_level_names f args in
      let same : m.rule ≡ e =
      one_rule (after finds g f) (level_name f r.name level) m.rule e m.fits.rule
      (key_rule finds g f w.names r level call.among call.has_level) in
      let there = subst (λ x. Among (ranked_choices x) m.choice) same m.fits.written in
      let rank : m.choice.1 ≡ None = no_rank e m.choice (flat_key f r level call.has_level) there in
      let pair : m.choice ≡ (m.choice.0, None) = ap (λ a. (m.choice.0, a)) rank in
      let typed =
      subst (λ p. HaveTupleType (IsGrounded (after finds g f)) (chosen_or_all (right_side (after finds g f) e (bind e given) p)) t) pair
      (subst (λ x. HaveTupleType (IsGrounded (after finds g f)) (chosen_or_all (right_side (after finds g f) x (bind x given) m.choice)) t)
      same m.type_is) in
      stands_for r args level call t (sym (key_declared f r level) ∙ ap (λ (x : EnabledRule). x.declared) (sym same) ∙ m.undeclared)
      m.choice.0 m.no_code (subst (λ x. Holds (after finds g f) (bind x given) m.choice.0.condition) same m.fits.holds) typed
      (choice_back finds g f w r args level call m.choice.0 (choice_listed e m.choice there))

-- rules of keys

-- the alternative of the macro that the choice of an instance stands for, and that it tells
abbrev InstanceSource : EnabledGrammar → (Closed → Text) → EnabledRule → Closeds → List (Choice × Option Rank) → Choice → Type 0
InstanceSource g f r args ps c =
    (p : Choice × Option Rank) × Among ps p × StandsForChoice g f r args p c
    × (c.origin ≡ origin_with (argument_list g.spelled args) p.0.origin)

instance_source : (g : EnabledGrammar) (f : Closed → Text) (r : EnabledRule) (args : Closeds) (ps : List (Choice × Option Rank))
    (cs : List Choice) → AreInstanceChoices g f r args ps cs → (c : Choice) → Among cs c → InstanceSource g f r args ps c
instance_source g f r args [] cs i c j = absurd (subst (λ (l : List Choice). Among l c) i j)
instance_source g f r args (q ∷ ps) cs (inl i) c j =
    go (subst (λ (l : List Choice). Among l c) i.3 j) (λ k. instance_source g f r args ps i.2 i.5 c k)
  where
    go : Among (i.1 ∷ i.2) c → (Among i.2 c → InstanceSource g f r args ps c) → InstanceSource g f r args (q ∷ ps) c
    go (inl e) later = (
      q,
      inl refl,
      subst (λ d. StandsForChoice g f r args q d) e
          (record { holds = i.0; action = i.6; free = i.4.unconditional; put = i.4.symbols }),
      ap (λ (x : Choice). x.origin) (sym e) ∙ i.4.origin,
    )
    go (inr k) later = let u = later k in (u.0, inr u.1, u.2, u.3)
instance_source g f r args (q ∷ ps) cs (inr i) c j =
    let u = instance_source g f r args ps cs i.1 c j in (u.0, inr u.1, u.2, u.3)

module _ (g h : EnabledGrammar) (f : Closed → Text) (keys : List Closed) (w : IsMacroExpansion g h f keys)
    (d : DeclareKeyTypes g h f keys) where
  reached_key : (x : Closed) → Among keys x → (t : GroundType) → IsGrounded h (by_name f x) t → IsGrounded g x t
  reached_key x i t = (macros_keep_types g h f keys w d x t (w.reached x i)).1

  grounded_in_key : (k : ℕ) (x : Closed) → HasKeyRule keys x → (t : GroundType) → IsGroundedIn h k (by_name f x) t → IsGrounded g x t
  grounded_in_key zero x has t i = absurd i
  grounded_in_key (suc k) (Closed.terminal (Terminal.quoted u)) has t i = (1, i)
  grounded_in_key (suc k) (Closed.terminal (Terminal.regex u)) has t i = (1, i)
  grounded_in_key (suc k) (Closed.terminal (Terminal.bare u)) has t i = (1, i)
  grounded_in_key (suc k) (Closed.terminal Terminal.error) has t i = absurd i
  grounded_in_key (suc k) (Closed.call n args level) has t i = reached_key (Closed.call n args level) has t (suc k, i)
  grounded_in_key (suc k) (Closed.repeat op x) has t i = reached_key (Closed.repeat op x) has t (suc k, i)
  grounded_in_key (suc k) (Closed.group xs) has t i = reached_key (Closed.group xs) has t (suc k, i)
  grounded_in_key (suc k) (Closed.choose x) has t i = let u = grounded_in_key k x has t i in (suc u.0, u.1)
  grounded_in_key (suc k) (Closed.name m n x) has t i = let u = grounded_in_key k x has t i in (suc u.0, u.1)
  grounded_in_key (suc k) Closed.lookahead has t i = reached_key Closed.lookahead has t (suc k, i)
  grounded_in_key (suc k) Closed.lookbehind has t i = reached_key Closed.lookbehind has t (suc k, i)
  grounded_in_key (suc k) Closed.faulty has t i = absurd i

  grounded_key : (x : Closed) → HasKeyRule keys x → (t : GroundType) → IsGrounded h (by_name f x) t → IsGrounded g x t
  grounded_key x has t i = grounded_in_key i.0 x has t i.1

  no_declaration : (s : Scope) (o p : Option Ty) → IsPutDeclaration g.bares f keys s o p → p ≡ None → o ≡ None
  no_declaration s None p i e = refl
  no_declaration s (Some y) p i e = let none : Some i.0 ≡ None = sym i.1 ∙ e in cc

  -- an alternative of a macro that gives an instance its type, told but for the arguments
  abbrev IsOfMacro : Text → Closeds → GroundType → Origin → Type 0
  IsOfMacro n args t o =
      (b : ByDefault (IsGrounded g) g n args None t) × (o ≡ origin_with (argument_list g.spelled args) b.choice.0.origin)

  giver_of_key : (n : Text) (args : Closeds) → Among keys (Closed.call n args None) → (t : GroundType)
      (m : ByDefault (IsGrounded h) h (f (Closed.call n args None)) Closeds.none None t) → IsOfMacro n args t m.choice.0.origin
  giver_of_key n args k t m =
      let u = w.rules (Closed.call n args None) k in
      let e : EnabledRule = u.0 in
      let one : m.rule ≡ e = one_rule h (f (Closed.call n args None)) m.rule e m.fits.rule u.1 in
      let there = subst (λ x. Among (ranked_choices x) m.choice) one m.fits.written in
      let alone : m.choice.1 ≡ None = no_rank e m.choice u.2.no_levels there in
      let pair : m.choice ≡ (m.choice.0, None) = ap (λ a. (m.choice.0, a)) alone in
      let typed =
      subst (λ p. HaveTupleType (IsGrounded h) (chosen_or_all (right_side h e (bind e Closeds.none) p)) t) pair
      (subst (λ x. HaveTupleType (IsGrounded h) (chosen_or_all (right_side h x (bind x Closeds.none) m.choice)) t) one m.type_is) in
      let undeclared : e.declared ≡ None = ap (λ (x : EnabledRule). x.declared) (sym one) ∙ m.undeclared in
      let made = u.2.choices in
      let r : EnabledRule = made.0 in
      let decl = d (Closed.call n args None) e k u.1 in
      let same : decl.0 ≡ r = one_rule g n decl.0 r decl.1 made.1 in
      let p = instance_source g f r args (ranked_choices r) e.choices made.3 m.choice.0 (choice_listed e m.choice there) in
      let flat = w.no_levels n r made.1 in
      let rank : p.0.1 ≡ None = no_rank r p.0 flat p.1 in
      let fits : Fits g n args r p.0 = record {
        rule = made.1;
        arguments = made.2;
        written = p.1;
        leveled = ap is_some rank ∙ sym flat;
        holds = p.2.holds;
      } in
      let side = right_side g r (bind r args) p.0 in
      let has = call_parts g h f keys w n args k r p.0 fits rank in (
        record {
          rule = r;
          choice = p.0;
          fits = fits;
          undeclared = ap (λ (x : EnabledRule). x.declared) (sym same)
              ∙ no_declaration (type_scope g decl.0 args) decl.0.declared e.declared decl.2 undeclared;
          level_is = ap rank_level rank;
          no_code = sym p.2.action ∙ m.no_code;
          type_is = tuple_back (by_name f) (chosen-named f) (HasKeyRule keys) (IsGrounded g) (IsGrounded h) grounded_key side
              (right_side h e (bind e Closeds.none) (m.choice.0, None))
              (side_named g h f keys w e u.2.no_levels (bind e Closeds.none) m.choice.0 side has p.2.put) has t typed;
        },
        p.3,
      )

-- the passes up to macros

module _ (finds : Text → Text → Option Bool) (features : List Text) (w leveled expanded : Grammar)
    (c : IsMacroChain finds features w leveled expanded) where
  abbrev old : EnabledGrammar
  old = enabled_grammar finds features w

  abbrev mid : EnabledGrammar
  mid = grammar_between finds leveled

  abbrev new : EnabledGrammar
  new = grammar_between finds expanded

  abbrev left : Grammar
  left = without_disabled features w

  abbrev resolved : Grammar
  resolved = resolved_part features w

  abbrev at_left : EnabledGrammar
  at_left = grammar_between finds left

  abbrev at_resolved : EnabledGrammar
  at_resolved = grammar_between finds resolved

  abbrev named_level : Text → ℕ → Text
  named_level = c.levels.names

  abbrev named_key : Closed → Text
  named_key = c.macros.key_of

  -- the rule of a call that is in the expansion
  pub call_rule : (n : Text) (args : Closeds) (level : Option ℕ) → InExpansion old (Nonterminal.closed (Closed.call n args level)) →
      (r : Rule) × IsCallOf finds resolved r args level × (r.name ≡ n)
  call_rule n args level i =
      go (well_in finds resolved named_level (levelable finds features w leveled expanded c)
      (Nonterminal.closed (Closed.call n args level))
      ((resolving_expansion finds left).there (Nonterminal.closed (Closed.call n args level))
      ((dropping_expansion finds features w c.read).there (Nonterminal.closed (Closed.call n args level)) i)))
    where
      go : IsWellOrFaulty (grammar_between finds resolved) (Closed.call n args level) →
          (r : Rule) × IsCallOf finds resolved r args level × (r.name ≡ n)
      go (inl e) = cc
      go (inr h) = call_of finds resolved n args level h

  -- names that are resolved, and what is disabled
  giver_resolved : (n : Text) (args : Closeds) (level : Option ℕ) (o : Origin) (t : GroundType) →
      TellsGiver at_resolved n args level o t → TellsGiver old n args level o t
  giver_resolved n args level o t u =
      giver_before old at_left (dropping_expansion finds features w c.read) (dropping_types finds features w c.read) cfg_change
      (dropping_changes finds features w c.read)
      (keeps_sides cfg_change old at_left (dropping_replaces finds features w c.read)) (λ x e. e) n args level o t
      (giver_before at_left at_resolved (resolving_expansion finds left) (resolving_types finds left) (name_change (defined_names left))
      (resolving_changes finds left)
      (keeps_sides (name_change (defined_names left)) at_left at_resolved (resolving_replaces finds left))
      (λ x e. none_mapped (resolved_type (defined_names left) x.parameters) x.declared e) n args level o t u)

  -- the choice that an alternative tells, in an instance
  abbrev pub origin_given : Closeds → OwnAlternative → Origin
  origin_given args a = origin_with (argument_list mid.spelled (all_by_level_names named_level args)) (told_origin a)

  -- an alternative that gives the call the type, which the origin tells
  pub record StandsForGiver (n : Text) (args : Closeds) (level : Option ℕ) (o : Origin) (t : GroundType) : Type 0 where
    pub own : OwnAlternative
    pub gives : IsGivenBy old n args level own t
    pub told : o ≡ origin_given args own

  -- what gives the rule of a level its type
  abbrev IsToldAtLevel : Grammar → Text → Closeds → Option ℕ → GroundType → Type 0
  IsToldAtLevel x n args level t =
      (m : ByDefault (IsGrounded (grammar_between finds x)) (grammar_between finds x) (level_name named_level n level)
      (all_by_level_names named_level args) None t) → TellsGiver at_resolved n args level m.choice.0.origin t

  giver_of_level : (r : Rule) (n : Text) (args : Closeds) (level : Option ℕ) → r.name ≡ n → IsCallOf finds resolved r args level →
      (t : GroundType) → IsToldAtLevel leveled n args level t
  giver_of_level r n args level e call t =
      subst (λ (x : Grammar). IsToldAtLevel x n args level t) (sym c.levels.value)
      (subst (λ (z : Text). IsToldAtLevel (leveled_grammar named_level resolved) z args level t) e
      (giver_leveled finds resolved named_level (levelable finds features w leveled expanded c) r args level call t))

  -- what gives the rule of a call's key its type
  pub giver_stands : (n : Text) (args : Closeds) (level : Option ℕ) →
      InExpansion old (Nonterminal.closed (Closed.call n args level)) →
      Among c.macros.keys (by_level_names named_level (Closed.call n args level)) → (t : GroundType)
      (b : ByDefault (IsGrounded new) new (named_key (by_level_names named_level (Closed.call n args level))) Closeds.none None t) →
      StandsForGiver n args level b.choice.0.origin t
  giver_stands n args level i k t b =
      let xs = all_by_level_names named_level args in
      let r = call_rule n args level i in
      let u =
      giver_of_key mid new named_key c.macros.keys c.macros.expansion c.macros.types (level_name named_level n level) xs k t b in
      let v =
      giver_resolved n args level u.0.choice.0.origin t (giver_of_level r.0 n args level r.2 r.1 t u.0) in
      record { own = v.own; gives = v.gives; told = u.1 ∙ ap (origin_with (argument_list mid.spelled xs)) v.told }
