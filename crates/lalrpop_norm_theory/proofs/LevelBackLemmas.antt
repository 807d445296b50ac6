-- Places of calls go back over levels, and a pass to a tighter level stands at its rule; for the law of places at levels.
use Rattle.std.proofs.Common.{◌≡◌, ℕ, zero, suc, List, [], ◌∷◌, refl, ap, sym, ◌∙◌, subst, cond, Bool, false}
use Rattle.std.proofs.Common.{true, inl, inr, ◌⊎◌, length}
use Rattle.std.specs.Prelude.{Option, Some, None}
use Rattle.lalrpop_grammar_symbols.specs.Symbols.{Text, TextSpan, WrittenSymbol, Closed, Closeds, closed_list, syms}
use Rattle.lalrpop_grammar_symbols.specs.Subsymbols.{subsymbols_of}
use Rattle.lalrpop_grammar.specs.WrittenGrammar.{Alternative, Rule, Grammar, rules_of}
use Rattle.lalrpop_grammar_language.specs.Among.{Among}
use Rattle.lalrpop_grammar_language.specs.Enabled.{EnabledRule, Choice, IsRule}
use Rattle.lalrpop_grammar_language.specs.Levels.{Rank, has_levels, tighter, ranked_choices, allowed_level}
use Rattle.lalrpop_grammar_language.specs.Closing.{Binding, Scope, close, is_sound, occurrences_in, sound_or_faulty}
use Rattle.lalrpop_grammar_language.specs.Conditions.{Holds}
use Rattle.lalrpop_grammar_language.specs.Admitting.{bind}
use Rattle.lalrpop_grammar_language.specs.Expansion.{Nonterminal, IsRoot, InExpansion}
use Rattle.lalrpop_norm_theory.specs.Between.{rule_between}
use Rattle.lalrpop_norm_theory.specs.Depth.{calls_in}
use Rattle.lalrpop_grammar_language.proofs.AmongLemmas.{map_among}
use Rattle.lalrpop_norm_theory.proofs.LevelLemmas.{no_rank, no_loosest}
use Rattle.lalrpop_norm_theory.specs.LevelRules.{level_name, by_level_names, all_by_level_names, rename_listed_occurrences}
use Rattle.lalrpop_norm_theory.proofs.KeyTableLemmas.{chain_reached}
use Rattle.lalrpop_norm_theory.proofs.LevelRuleLemmas.{sound-renamed}
use Rattle.lalrpop_norm_theory.specs.LeveledGrammar.{ranked_alternatives, occurrence_scope, parameters_alone, leveled_alternative}
use Rattle.lalrpop_norm_theory.specs.LeveledGrammar.{own_call, pass_down_to, rule_at_level}
use Rattle.lalrpop_norm_theory.specs.LevelLaws.{nonterminal_by_level, IsLevelable}
use Rattle.lalrpop_norm_theory.proofs.LevelOrderLemmas.{one_rule}
use Rattle.lalrpop_norm_theory.proofs.LeveledRuleLemmas.{key_rule, level_of_leveled}
use Rattle.lalrpop_norm_theory.proofs.LevelAttrLemmas.{flat_key, flat_at_level}
use Rattle.lalrpop_norm_theory.proofs.RightLevelLemmas.{has_loosest, IsRankOf, rank_of, allowed_present}
use Rattle.lalrpop_norm_theory.proofs.RenameLemmas.{RenameAlike, rename_listed_alike, listed_stay, counted_alike, NamesAreThere}
use Rattle.lalrpop_norm_theory.proofs.RenameLemmas.{AreResolvedInside, listed_resolved_after}
use Rattle.lalrpop_norm_theory.proofs.LevelBindingLemmas.{hide_alike}
use Rattle.lalrpop_norm_theory.proofs.LevelChoiceLemmas.{choice_between, ranked_choice, choice_listed, IsLevelChoice, level_choice}
use Rattle.lalrpop_norm_theory.proofs.LevelNameLemmas.{before, after, own_rule, names_there}
use Rattle.lalrpop_norm_theory.proofs.LevelClosingLemmas.{scope_before, scope_after, leveled_scope, binds, leveled_side}
use Rattle.lalrpop_norm_theory.proofs.LevelClosingLemmas.{unleveled_side, pass_side}
use Rattle.lalrpop_norm_theory.proofs.LevelFitLemmas.{IsCallOf, flat_written, level_rule, side_there, StandsThere, fits_here}
use Rattle.lalrpop_norm_theory.proofs.LevelExpansionLemmas.{call_of, root_back, well_in}
use Rattle.lalrpop_norm_theory.proofs.WellLeveledLemmas.{IsWellOrFaulty, all_well_sound}
use Rattle.lalrpop_norm_theory.proofs.ChainLemmas.{same_chains}
use Rattle.lalrpop_norm_theory.specs.CallPlaces.{CountedSymbol, IsInnermost, IsMadeAt, IsPlaceBelow, IsPlaceInSide, IsPlaceOfCall}
use Rattle.lalrpop_norm_theory.specs.CallPlaces.{calls_at, counted_symbols, place_of_symbol, symbols_within}
use Rattle.lalrpop_norm_theory.specs.WrittenPlaces.{IsWrittenIn, IsWrittenBelow}
use Rattle.lalrpop_norm_theory.proofs.InnermostLemmas.{side_back}
use Rattle.lalrpop_norm_theory.proofs.LevelPlaceLemmas.{IsRenamed, listed_written, renamed_goes_back}

-- the pass to a tighter level, as it is written

own_call_alone : (b : Binding) (o : Text) (k : ℕ) (span : TextSpan) (n : Text) (ps : List Text) (u : CountedSymbol) →
    Among (symbols_within b o k (own_call span n ps)) u → ⊥
own_call_alone b o k span n [] u i = i
own_call_alone b o k span n (p ∷ ps) u i = i

own_call_place : (span : TextSpan) (n : Text) (ps : List Text) → place_of_symbol (own_call span n ps) ≡ span
own_call_place span n [] = refl
own_call_place span n (p ∷ ps) = refl

sound_one : (b : Bool) (x y : Closed) → b ≡ true → cond b x Closed.faulty ≡ y → x ≡ y
sound_one true x y e f = f
sound_one false x y e f = cc

module _ (finds : Text → Text → Option Bool) (g : Grammar) (f : Text → ℕ → Text) (w : IsLevelable finds g f) where
  -- a call here with that name there, which is written in the call of the rule
  abbrev WrittenFor : Rule → Closeds → Option ℕ → Closed → TextSpan → Type 0
  WrittenFor r args level y p =
      (x : Closed) × (y ≡ by_level_names f x) × IsWrittenIn (before finds g) g (Closed.call r.name args level) x p

  -- a place in an alternative whose occurrences are renamed
  choice_place : (r : Rule) (args : Closeds) (level : Option ℕ) → IsCallOf finds g r args level → (c : Choice)
      (rank : Option Rank) → Among (rule_between r).choices c → IsRankOf (rule_between r) rank → (q : EnabledRule) →
      q.parameters ≡ r.parameters → has_levels q ≡ false → (d : Choice) →
      d.expr ≡ rename_listed_occurrences f (scope_before finds g r args c rank) 0 c.expr → (y : Closed) (p : TextSpan) →
      IsPlaceInSide (after finds g f) q (bind q (all_by_level_names f args)) (d, None) y p →
      (x : Closed) × (y ≡ by_level_names f x)
      × IsPlaceInSide (before finds g) (rule_between r) (bind (rule_between r) args) (c, rank) x p
  choice_place r args level call c rank there ranked q e flat d same y p i =
      let s = scope_before finds g r args c rank in
      let t = scope_after finds g f q args d in
      let names : NamesAreThere f s (after finds g f) r.parameters =
      names_there finds g f w r call.among (bind (rule_between r) args)
      (allowed_level (rule_between r) rank (occurrences_in (bind (rule_between r) args) r.name (syms c.expr)))
      (λ k. allowed_present (rule_between r) (has_loosest g w.right r call.among) rank ranked
      (occurrences_in (bind (rule_between r) args) r.name (syms c.expr)) k) in
      let inside : AreResolvedInside (before finds g) (rule_between r) (syms c.expr) =
      λ v j. w.resolved.symbols (rule_between r) c v
      (record { rule = map_among rule_between (rules_of g.items) r call.among; choice = there; symbol = j }) in
      let resolved = listed_resolved_after f s t (rule_between r) names (binds finds g f r args c rank q e call.many d) 0 c.expr inside in
      side_back (before finds g) (after finds g f) (rule_between r) q (bind (rule_between r) args)
      (bind q (all_by_level_names f args)) (c, rank) (d, None) (by_level_names f) (IsRenamed f s t)
      (renamed_goes_back f s t (leveled_scope finds g f w r args c rank q e flat d names)) (sound-renamed f)
      (λ v m. listed_written f s t 0 0 c.expr resolved v
      (subst (λ xs. Among (counted_symbols t.binding t.owner 0 xs) v) same m)) y p i

  -- in the rule's pass to a tighter level
  passed_place : (r : Rule) (args : Closeds) (j to : ℕ) → IsCallOf finds g r args (Some j) →
      tighter (rule_between r) j ≡ Some to → (y : Closed) (p : TextSpan) →
      IsPlaceInSide (after finds g f) (rule_between (rule_at_level f r j))
      (bind (rule_between (rule_at_level f r j)) (all_by_level_names f args)) (choice_between (pass_down_to f r to), None) y p →
      WrittenFor r args (Some j) y p
  passed_place r args j to call t y p m = of_top m.top m.among m.sound m.innermost
    where
      q : EnabledRule
      q = rule_between (rule_at_level f r j)

      s : Scope
      s = scope_after finds g f q args (choice_between (pass_down_to f r to))

      own : WrittenSymbol
      own = own_call r.span (f r.name to) r.parameters

      target : Closed
      target = Closed.call (f r.name to) (all_by_level_names f args) None

      side : sound_or_faulty (close s 0 own) ∷ [] ≡ target ∷ []
      side =
          pass_side finds g f w r call.among args call.many (all_well_sound (before finds g) args call.well) j to call.has_level t

      of_args : (xs : Closeds) → length (closed_list xs) ≡ length r.parameters →
          Among (calls_in (Closed.call (f r.name to) (all_by_level_names f xs) None)) y → xs ≡ args → r.span ≡ p →
          WrittenFor r args (Some j) y p
      of_args Closeds.none many i e at = absurd i
      of_args (Closeds.more a rest) many (inr i) e at = absurd i
      of_args (Closeds.more a rest) many (inl i) e at = (
        Closed.call r.name args (Some to),
        sym i ∙ ap (λ xs. by_level_names f (Closed.call r.name xs (Some to))) e,
        inr (record {
          name = r.name;
          args = args;
          from = j;
          to = to;
          from_is = refl;
          to_is = refl;
          rule = rule_between r;
          is_rule = own_rule finds g f w r call.among;
          arguments = call.many;
          is_macro = λ none. let wrong : suc (length (closed_list rest)) ≡ 0 = many ∙ ap length none in cc;
          passes = t;
          written = r;
          among = call.among;
          name_is = refl;
          span_is = at;
        }),
      )

      of_symbol : (u : CountedSymbol) → (0, own) ≡ u → is_sound (close s 0 own) ≡ true → Among (calls_at s u) y →
          place_of_symbol u.1 ≡ p → WrittenFor r args (Some j) y p
      of_symbol u e sound has at =
          let one : sound_or_faulty (close s 0 own) ≡ target = cc (side) in
          let closed : close s 0 own ≡ target = sound_one (is_sound (close s 0 own)) (close s 0 own) target sound one in
          of_args args call.many
          (subst (λ c. Among (calls_in c) y) closed (subst (λ (z : CountedSymbol). Among (calls_at s z) y) (sym e) has)) refl
          (sym (own_call_place r.span (f r.name to) r.parameters) ∙ ap (λ (z : CountedSymbol). place_of_symbol z.1) e ∙ at)

      of_top : (top : CountedSymbol) → ((0, own) ≡ top) ⊎ ⊥ → is_sound (close s top.0 top.1) ≡ true →
          IsInnermost s top y p → WrittenFor r args (Some j) y p
      of_top top (inr i) sound n = absurd i
      of_top top (inl e) sound n = go n.stands
        where
          go : (top ≡ n.symbol) ⊎ Among (symbols_within s.binding s.owner top.0 top.1) n.symbol → WrittenFor r args (Some j) y p
          go (inl same) =
              of_symbol n.symbol (e ∙ same) (subst (λ (z : CountedSymbol). is_sound (close s z.0 z.1) ≡ true) (sym e) sound)
              n.has_call n.place
          go (inr i) =
              absurd (own_call_alone s.binding s.owner 0 r.span (f r.name to) r.parameters n.symbol
              (subst (λ (z : CountedSymbol). Among (symbols_within s.binding s.owner z.0 z.1) n.symbol) (sym e) i))

  -- in a choice of the rule of a level
  place_in_choice : (r : Rule) (args : Closeds) (level : Option ℕ) → IsCallOf finds g r args level → (c : Choice) →
      Among (level_rule f r level).choices c →
      Holds (after finds g f) (bind (level_rule f r level) (all_by_level_names f args)) c.condition → (y : Closed) (p : TextSpan) →
      IsPlaceInSide (after finds g f) (level_rule f r level) (bind (level_rule f r level) (all_by_level_names f args)) (c, None) y p →
      WrittenFor r args level y p
  place_in_choice r args None call c i holds y p m =
      let there = flat_written (rule_between r) call.has_level c i in
      let stands : StandsThere finds g f r args None (c, None) c = record {
        origin = refl;
        condition = refl;
        action = refl;
        side = unleveled_side finds g f w r call.among call.has_level args call.many c i;
      } in
      let same = sym (listed_stay f (scope_before finds g r args c None) (λ k. no_loosest (rule_between r) call.has_level) 0 c.expr) in
      let u = choice_place r args None call c None i tt (rule_between r) refl call.has_level c same y p m in (
        u.0,
        u.1,
        inl (record {
          name = r.name;
          args = args;
          level = None;
          call_is = refl;
          rule = rule_between r;
          choice = (c, None);
          fits = fits_here finds g f w r args None call (c, None) c there (sym call.has_level) stands holds;
          level_is = refl;
          place = u.2;
        }),
      )
  place_in_choice r args (Some j) call c i holds y p m = go (level_choice f r j c i)
    where
      q : EnabledRule
      q = rule_between (rule_at_level f r j)

      of_alternative : (a : Alternative) (k : Rank) → Among (ranked_alternatives r) (a, Some k) → k.level ≡ j →
          choice_between (leveled_alternative f r (a, Some k)) ≡ c → WrittenFor r args (Some j) y p
      of_alternative a k there e same =
          let ranked = ranked_choice r a (Some k) there in
          let s = scope_before finds g r args (choice_between a) (Some k) in
          let hide = hide_alike r.parameters (closed_list args) call.many in
          let alike : RenameAlike s (occurrence_scope r a (Some k)) = record {
            owners = refl;
            hide = hide;
            levels = λ l. ap (λ n. allowed_level (rule_between r) (Some k) n l)
                (counted_alike (bind (rule_between r) args) (parameters_alone r.parameters) r.name hide (subsymbols_of (syms a.expr)));
          } in
          let stands : StandsThere finds g f r args (Some j) (choice_between a, Some k) c = record {
            origin = ap (λ (x : Choice). x.origin) (sym same);
            condition = ap (λ (x : Choice). x.condition) (sym same);
            action = ap (λ (x : Choice). x.action) (sym same);
            side = ap (λ (x : Choice). side_there finds g f r args (Some j) x) (sym same)
                ∙ leveled_side finds g f w r call.among args call.many a k there j;
          } in
          let renamed : c.expr ≡ rename_listed_occurrences f s 0 a.expr =
          ap (λ (x : Choice). x.expr) (sym same) ∙ rename_listed_alike f s (occurrence_scope r a (Some k)) alike 0 a.expr in
          let u = choice_place r args (Some j) call (choice_between a) (Some k)
          (choice_listed (rule_between r) (choice_between a, Some k) ranked)
          (rank_of (rule_between r) (choice_between a) (Some k) ranked) q refl (flat_at_level f r j) c renamed y p m in (
            u.0,
            u.1,
            inl (record {
              name = r.name;
              args = args;
              level = Some j;
              call_is = refl;
              rule = rule_between r;
              choice = (choice_between a, Some k);
              fits = fits_here finds g f w r args (Some j) call (choice_between a, Some k) c ranked
                  (sym (level_of_leveled (rule_between r) j call.has_level)) stands holds;
              level_is = ap Some e;
              place = u.2;
            }),
          )

      go : IsLevelChoice f r j c → WrittenFor r args (Some j) y p
      go (IsLevelChoice.alternative a k there e same) = of_alternative a k there e same
      go (IsLevelChoice.pass_down to t same) =
          passed_place r args j to call t y p
          (subst (λ (x : Choice). IsPlaceInSide (after finds g f) q (bind q (all_by_level_names f args)) (x, None) y p) (sym same) m)

  -- in a call
  place_in_call : (r : Rule) (args : Closeds) (level : Option ℕ) → IsCallOf finds g r args level → (y : Closed) (p : TextSpan) →
      IsPlaceOfCall (after finds g f) (by_level_names f (Closed.call r.name args level)) y p → WrittenFor r args level y p
  place_in_call r args level call y p m = of_choice m.choice.0 listed holds placed
    where
      q : EnabledRule
      q = level_rule f r level

      given : Closeds
      given = all_by_level_names f args

      name_is : m.name ≡ level_name f r.name level
      name_is = let e : Closed.call (level_name f r.name level) given None ≡ Closed.call m.name m.args m.level = m.call_is in cc

      args_are : m.args ≡ given
      args_are = let e : Closed.call (level_name f r.name level) given None ≡ Closed.call m.name m.args m.level = m.call_is in cc

      named : IsRule (after finds g f) m.name q
      named =
          subst (λ (t : Text). IsRule (after finds g f) t q) (sym name_is)
          (key_rule finds g f w.names r level call.among call.has_level)

      rule_is : m.rule ≡ q
      rule_is = one_rule (after finds g f) m.name m.rule q m.fits.rule named

      there : Among (ranked_choices q) m.choice
      there = subst (λ (e : EnabledRule). Among (ranked_choices e) m.choice) rule_is m.fits.written

      pair : m.choice ≡ (m.choice.0, None)
      pair = ap (λ (a : Option Rank). (m.choice.0, a)) (no_rank q m.choice (flat_key f r level call.has_level) there)

      listed : Among q.choices m.choice.0
      listed = choice_listed q m.choice there

      holds : Holds (after finds g f) (bind q given) m.choice.0.condition
      holds =
          subst (λ (a : Closeds). Holds (after finds g f) (bind q a) m.choice.0.condition) args_are
          (subst (λ (e : EnabledRule). Holds (after finds g f) (bind e m.args) m.choice.0.condition) rule_is m.fits.holds)

      placed : IsPlaceInSide (after finds g f) q (bind q given) (m.choice.0, None) y p
      placed =
          subst (λ (c : Choice × Option Rank). IsPlaceInSide (after finds g f) q (bind q given) c y p) pair
          (subst (λ (a : Closeds). IsPlaceInSide (after finds g f) q (bind q a) m.choice y p) args_are
          (subst (λ (e : EnabledRule). IsPlaceInSide (after finds g f) e (bind e m.args) m.choice y p) rule_is m.place))

      of_choice : (c : Choice) → Among q.choices c → Holds (after finds g f) (bind q given) c.condition →
          IsPlaceInSide (after finds g f) q (bind q given) (c, None) y p → WrittenFor r args level y p
      of_choice c i h n = place_in_choice r args level call c i h y p n

  -- in what is made
  place_back : (z : Closed) → InExpansion (before finds g) (Nonterminal.closed z) → (y : Closed) (p : TextSpan) →
      IsPlaceOfCall (after finds g f) (by_level_names f z) y p →
      (x : Closed) × (y ≡ by_level_names f x) × IsWrittenIn (before finds g) g z x p
  place_back z i y p m = go z (well_in finds g f w (Nonterminal.closed z) i) m
    where
      go : (v : Closed) → IsWellOrFaulty (before finds g) v → IsPlaceOfCall (after finds g f) (by_level_names f v) y p →
          (x : Closed) × (y ≡ by_level_names f x) × IsWrittenIn (before finds g) g v x p
      go v (inl e) n = let wrong : Closed.faulty ≡ Closed.call n.name n.args n.level = sym (ap (by_level_names f) e) ∙ n.call_is in cc
      go (Closed.call m args level) (inr h) n =
          let u = call_of finds g m args level h in
          subst (λ (t : Text). (x : Closed) × (y ≡ by_level_names f x) × IsWrittenIn (before finds g) g (Closed.call t args level) x p)
          u.2 (place_in_call u.0 args level u.1 y p
          (subst (λ (t : Text). IsPlaceOfCall (after finds g f) (by_level_names f (Closed.call t args level)) y p) (sym u.2) n))
      go (Closed.terminal t) (inr h) n = let wrong : Closed.terminal t ≡ Closed.call n.name n.args n.level = n.call_is in cc
      go (Closed.repeat op v) (inr h) n =
          let wrong : Closed.repeat op (by_level_names f v) ≡ Closed.call n.name n.args n.level = n.call_is in cc
      go (Closed.group vs) (inr h) n =
          let wrong : Closed.group (all_by_level_names f vs) ≡ Closed.call n.name n.args n.level = n.call_is in cc
      go (Closed.choose v) (inr h) n =
          let wrong : Closed.choose (by_level_names f v) ≡ Closed.call n.name n.args n.level = n.call_is in cc
      go (Closed.name b t v) (inr h) n =
          let wrong : Closed.name b t (by_level_names f v) ≡ Closed.call n.name n.args n.level = n.call_is in cc
      go Closed.lookahead (inr h) n = let wrong : Closed.lookahead ≡ Closed.call n.name n.args n.level = n.call_is in cc
      go Closed.lookbehind (inr h) n = let wrong : Closed.lookbehind ≡ Closed.call n.name n.args n.level = n.call_is in cc
      go Closed.faulty (inr h) n = absurd h

  -- what is made there is made here
  made_back : (depth : ℕ) (y : Closed) → IsMadeAt (after finds g f) depth y →
      (z : Closed) × IsMadeAt (before finds g) depth z × InExpansion (before finds g) (Nonterminal.closed z) × (y ≡ by_level_names f z)
  made_back zero y r = let b = root_back finds g f w (Nonterminal.closed y) r in go b.0 b.1 b.2
    where
      go : (v : Nonterminal) → IsRoot (before finds g) v → Nonterminal.closed y ≡ nonterminal_by_level f v →
          (z : Closed) × IsRoot (before finds g) (Nonterminal.closed z) × InExpansion (before finds g) (Nonterminal.closed z)
          × (y ≡ by_level_names f z)
      go (Nonterminal.start n) q e = cc
      go (Nonterminal.closed v) q e = let same : y ≡ by_level_names f v = cc in (v, q, (zero, q), same)
  made_back (suc k) y c =
      let u = (same_chains finds g f w).no_other (suc k) y c in
      (u.0, u.1, chain_reached (before finds g) (suc k) u.0 u.1, u.2)

  -- the place of a call in the grammar in which each level has a rule of its own
  pub leveled_place : (depth : ℕ) (y : Closed) (p : TextSpan) → IsPlaceBelow (after finds g f) depth y p →
      (x : Closed) × (y ≡ by_level_names f x) × IsWrittenBelow (before finds g) g depth x p
  leveled_place depth y p (v, made, place) =
      let u = made_back depth v made in
      let r = place_back u.0 u.2 y p (subst (λ (c : Closed). IsPlaceOfCall (after finds g f) c y p) u.3 place) in
      (r.0, r.1, (u.0, u.1, r.2))
