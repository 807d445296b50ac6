-- The rules that the program writes are finished rules of the grammar between two passes, and what is told of a condition is told of
-- a call that is made; for the rules of all keys.
use Rattle.std.proofs.Common.{◌≡◌, ℕ, ◌+◌, List, [], ◌∷◌, refl, ap, sym, ◌∙◌, subst, inl, inr, map, length}
use Rattle.std.specs.Prelude.{◌⊎◌, Bool, false, Option, Some, None, Result, Ok, Err, IfErr}
use Rattle.lalrpop_grammar_symbols.specs.Symbols.{Text, TextSpan, Op, Closed, Closeds, closed_list}
use Rattle.lalrpop_grammar_symbols.specs.declared.span.Span.{Span}
use Rattle.lalrpop_grammar.specs.WrittenGrammar.{Alternative, Condition, Grammar, Rule, rules_of}
use Rattle.lalrpop_grammar.specs.Views.{grammar_view}
use Rattle.lalrpop_grammar_language.specs.Among.{Among}
use Rattle.lalrpop_grammar_language.specs.Enabled.{EnabledGrammar, EnabledRule, Choice, IsRule, choice_of, enabled_grammar, enabled_rule}
use Rattle.lalrpop_grammar_language.specs.Levels.{Rank, has_levels, ranked_choices}
use Rattle.lalrpop_grammar_language.specs.Closing.{Binding, right_side}
use Rattle.lalrpop_grammar_language.specs.Conditions.{Holds}
use Rattle.lalrpop_grammar_language.specs.Admitting.{Fits, argument_list, bind}
use Rattle.lalrpop_grammar_language.specs.Expansion.{IsRoot, Nonterminal, grammar_symbol, origin_with}
use Rattle.lalrpop_norm_theory.specs.Between.{grammar_between, rule_between, with_origins}
use Rattle.lalrpop_norm_theory.specs.Depth.{HasCallChain}
use Rattle.lalrpop_norm_theory.specs.Premises.{HasNoLevels}
use Rattle.lalrpop_norm_theory.specs.Rounds.{AreCallsToDepth}
use Rattle.lalrpop_grammar_language.proofs.AmongLemmas.{map_among}
use Rattle.lalrpop_grammar_language.proofs.StepLemmas.{among_right}
use Rattle.lalrpop_grammar_language.proofs.StepLemmas.{among_left}
use Rattle.lalrpop_norm_theory.proofs.ExpansionListLemmas.{rule_there}
use Rattle.lalrpop_norm_theory.proofs.LevelLemmas.{ranked_flat}
use Rattle.lalrpop_norm_theory.specs.KeyTables.{IsKeyTable, keys_in, keys_in_all}
use Rattle.lalrpop_grammar_rules.specs.RuleTable.{rules_with}
use Rattle.lalrpop_grammar_repr.specs.declared.session.NormFault.{NormFault}
use Rattle.lalrpop_grammar_repr.specs.declared.session.NormFault.TheVariants as faults
use Rattle.lalrpop_norm_keys.specs.Tables.{table_keys}
use Rattle.lalrpop_norm_keys.specs.FoundCalls.{TellsOfMadeCall}
use Rattle.lalrpop_norm_keys.specs.Instances.{IsAskedIn}
use Rattle.lalrpop_norm_keys.specs.MacroFaults.{TellsOfAlternative}
use Rattle.lalrpop_norm_keys.specs.TableLaws.{HasAllActive}
use Rattle.lalrpop_norm_keys.proofs.PlainGrammarLemmas.{table_alike}
use Rattle.lalrpop_norm_keys.proofs.PremiseLemmas.{flat_back}
use Rattle.lalrpop_norm_macros.specs.AddedRules.{AddedChoice, AreAddedAlternatives, IsAddedRule, IsAddedType, added_choices}
use Rattle.lalrpop_norm_macros.specs.FinishedRules.{AreRulesFrom, BecomesInInstance, IsCalledBy, IsFinishedRule}
use Rattle.lalrpop_norm_macros.specs.FinishedRules.{IsRepeatType}
use Rattle.lalrpop_norm_macros.specs.InstanceRules.{AreInstancesBy}
use Rattle.lalrpop_norm_macros.specs.KeyDeclarations.{BindsMapped}
use Rattle.lalrpop_norm_macros.specs.KeyInstances.{BecomesUnder}
use Rattle.lalrpop_norm_macros.specs.KeyNaming.{AreSymbolsFor, SpellsNames}
use Rattle.lalrpop_norm_macros.specs.KeyedSymbols.{AreKeyed, AreWrittenByName}
use Rattle.lalrpop_norm_macros.specs.RulesUnder.{IsAddedRuleUnder, IsInstanceRuleUnder}
use Rattle.lalrpop_norm_macros.specs.UsableSymbols.{AreUsable, IsRightGrammar, IsUsable}
use Rattle.lalrpop_norm_macros.specs.WrittenKeys.{AreRulesOfKeys, IsCalledRule, IsRuleOfKey, TellsOfOneKey, span_of_key}
use Rattle.lalrpop_norm_macros.specs.KeyRuleLaws.{AreRulesUnderNames, TellsOfRightKeys}
use Rattle.lalrpop_norm_macros.specs.WrittenRules.{HasWritten, spelled_by, spelled_in, written_at}
use Rattle.lalrpop_norm_macros.specs.declared.key_symbols.names.KeyNames.{KeyNames}
use Rattle.lalrpop_norm_macros.specs.declared.key_rules.rules.KeyRules.{KeyRules}
use Rattle.lalrpop_norm_macros.proofs.AlikeLemmas.{called, declaration_alike, holds_alike, listed_alike, side_alike, spelled_alike}
use Rattle.lalrpop_norm_macros.proofs.UsableKeyLemmas.{all_keyed, call_holder, inside_there, key_is_key, key_usable, rule_side_usable}
use Rattle.lalrpop_norm_macros.proofs.UsableKeyLemmas.{usable_mapped}
use Rattle.lalrpop_norm_macros.proofs.UsableLemmas.{listed_usable, zip_usable}

-- alternatives one by one
becomes_list : (held one : Option Condition → Type 0) (was is : Alternative → Alternative → Type 0) (as_ bs : List Alternative)
    → ((c : Option Condition) → held c → one c) → ((c : Option Condition) → one c → held c)
    → ((a b : Alternative) → Among as_ a → held a.condition → was a b → is a b) → AreInstancesBy held was as_ bs
    → AreInstancesBy one is as_ bs
becomes_list held one was is [] bs there back to e = e
becomes_list held one was is (a ∷ as_) bs there back to (inl (h, b, rest, e, m, more)) =
    inl (
      there a.condition h,
      b,
      rest,
      e,
      to a b (inl refl) h m,
      becomes_list held one was is as_ rest there back (λ x y i. to x y (inr i)) more,
    )
becomes_list held one was is (a ∷ as_) bs there back to (inr (h, more)) =
    inr ((λ k. h (back a.condition k)), becomes_list held one was is as_ bs there back (λ x y i. to x y (inr i)) more)

added_list : (k : KeyNames) (bares : List Text) (f : Closed → Text) → SpellsNames k f → (p : TextSpan) (cs : List AddedChoice)
    (bs : List Alternative) → ((c : AddedChoice) → Among cs c → AreKeyed bares (table_keys k.keys.now) c.symbols)
    → AreAddedAlternatives (AreSymbolsFor k) p cs bs → AreAddedAlternatives (AreWrittenByName bares f (table_keys k.keys.now)) p cs bs
added_list k bares f spelled p [] bs w e = e
added_list k bares f spelled p (c ∷ cs) bs w (a, rest, e, m, more) = (
  a,
  rest,
  e,
  record {
    span = m.span;
    symbols_are = m.symbols_are bares f spelled (w c (inl refl));
    unconditional = m.unconditional;
    action = m.action;
    no_attributes = m.no_attributes;
    origin = m.origin;
  },
  added_list k bares f spelled p cs rest (λ d i. w d (inr i)) more,
)

-- the called rule of a key, as it is written, between two passes and in the table
pub record IsCallOf (c : KeyRules) (finds : Text → Text → Option Bool) (w : Grammar) (n : Text) (args : Closeds) (level : Option ℕ)
    (written : Rule) : Type 0 where
  pub called_by : IsCalledBy (grammar_between finds w) (rules_of w.items) n args level written
  pub by_table : IsCalledRule c finds n args written
  pub plain : has_levels (enabled_rule c.rules.now.features.now written) ≡ false
  pub between : has_levels (rule_between written) ≡ false

module _ (c : KeyRules) (finds : Text → Text → Option Bool) (w : Grammar) (same : grammar_view c.rules.now.grammar.now ≡ w)
    (written_are : HasWritten c.written.now (rules_of w.items)) (active : HasAllActive c.rules.now.features.now (rules_of w.items))
    (right : IsRightGrammar (grammar_between finds w)) (flat : HasNoLevels (grammar_between finds w))
    (depth : ℕ) (calls : List Closed) (found_calls : AreCallsToDepth (grammar_between finds w) depth calls [])
    (table : IsKeyTable (grammar_between finds w) calls (table_keys c.names.now.keys.now)) where
  abbrev features : List Text
  features = c.rules.now.features.now

  abbrev g : EnabledGrammar
  g = grammar_between finds w

  abbrev keys : List Closed
  keys = table_keys c.names.now.keys.now

  abbrev t : EnabledGrammar
  t = enabled_grammar finds features w

  table_is : rules_with finds c.rules.now ≡ t
  table_is = ap (λ v. enabled_grammar finds features v) same

  call_of : (n : Text) (args : Closeds) (level : Option ℕ) → Among keys (Closed.call n args level)
      → (written : Rule) × IsCallOf c finds w n args level written
  call_of n args level i =
      let r = (call_holder g right flat depth calls keys found_calls table n args level i).0 in
      let v = called features n (rules_of w.items) r.rule active r.is_rule in
      let here : IsRule g n (rule_between v.0) = subst (IsRule g n) (sym v.3) r.is_rule in
      let there : IsRule t n (enabled_rule features v.0) = v.4 in (
        v.0,
        record {
          called_by = record {
            among = v.2;
            is_rule = here;
            arguments = r.arguments ∙ ap (λ (q : EnabledRule). length q.parameters) (sym v.3);
            flat = r.flat;
          };
          by_table = record {
            found = written_are n ∙ v.1;
            is_rule = subst (λ h. IsRule h n (enabled_rule features v.0)) (sym table_is) there;
            arguments = r.arguments ∙ ap (λ (q : EnabledRule). length q.parameters) (sym v.3);
          };
          plain = flat_back t g (table_alike finds features w active) flat (enabled_rule features v.0)
              (rule_there t n (enabled_rule features v.0) there).0;
          between = flat (rule_between v.0) (rule_there g n (rule_between v.0) here).0;
        },
      )

  module _ (f : Closed → Text) (spelled : SpellsNames c.names.now f) where
    -- the symbols of an alternative whose condition holds can be written by names
    side_keyed : (n : Text) (args : Closeds) (level : Option ℕ) (written : Rule) → Among keys (Closed.call n args level)
        → IsCallOf c finds w n args level written → (a : Alternative) → Among written.alternatives a
        → Holds g (bind (rule_between written) args) a.condition
        → AreKeyed g.bares keys (right_side g (rule_between written) (bind (rule_between written) args) (choice_of (a.origin, a), None))
    side_keyed n args level written i m a j holds =
        let r = rule_between written in
        let p : Choice × Option Rank = (choice_of (a.origin, a), None) in
        let there : Among (ranked_choices r) p =
        subst (λ ps. Among ps p) (sym (ranked_flat r m.between))
        (map_among (λ (c : Choice). (c, None)) r.choices (choice_of (a.origin, a))
        (map_among choice_of (with_origins written.alternatives) (a.origin, a)
        (map_among (λ (z : Alternative). (z.origin, z)) written.alternatives a j))) in
        let fits : Fits g n args r p = record {
          rule = m.called_by.is_rule;
          arguments = m.called_by.arguments;
          written = there;
          leveled = sym m.between;
          holds = holds;
        } in
        let held = call_holder g right flat depth calls keys found_calls table n args level i in
        all_keyed g.bares keys (right_side g r (bind r args) p)
        (λ x k. rule_side_usable g right flat n args r m.called_by.is_rule
        (key_usable g right flat depth calls keys found_calls table (Closed.call n args level) i) m.called_by.arguments p there x k)
        (λ x z k l. table.complete (Closed.call n args level) z held.1 (record {
          origin = origin_with (argument_list g.spelled args) a.origin;
          side = map grammar_symbol (right_side g r (bind r args) p);
          symbol = x;
          produced = inl (record {
            rule = r;
            choice = p;
            fits = fits;
            level_is = sym m.called_by.flat;
            origin_is = refl;
            side_is = refl;
          });
          in_side = map_among grammar_symbol (right_side g r (bind r args) p) x k;
          stands = l;
        }))

    -- the rule of a call
    module _ (n : Text) (args : Closeds) (level : Option ℕ) (p : TextSpan) (q : Rule) (i : Among keys (Closed.call n args level))
        (h : IsRuleOfKey c finds (Closed.call n args level) (f (Closed.call n args level)) p q) (written : Rule)
        (m : IsCallOf c finds w n args level written) where
      abbrev r : EnabledRule
      r = enabled_rule features written

      abbrev b : Binding
      b = bind r args

      by_table : IsInstanceRuleUnder c.names.now t r args b (argument_list (spelled_in c.written.now) args)
          (f (Closed.call n args level)) written q
      by_table =
          subst (λ k. IsInstanceRuleUnder c.names.now k r args b (argument_list (spelled_in c.written.now) args)
          (f (Closed.call n args level)) written q) table_is (h written m.by_table)

      usable : AreUsable g.bares args
      usable = key_usable g right flat depth calls keys found_calls table (Closed.call n args level) i

      binds : BindsMapped g.bares b
      binds z j =
          usable_mapped g.bares z.1
          (zip_usable g.bares written.parameters (closed_list args) (listed_usable g.bares args usable) z j)

      arguments_same : argument_list (spelled_in c.written.now) args ≡ argument_list g.spelled args
      arguments_same =
          listed_alike (spelled_in c.written.now) g.spelled
          (λ m. ap (λ o. spelled_by o m) (written_are m) ∙ spelled_alike m (rules_of w.items)) args

      becomes : (a x : Alternative) → Among written.alternatives a → Holds t b a.condition
          → BecomesUnder c.names.now t r b (argument_list (spelled_in c.written.now) args) a x
          → BecomesInInstance g f keys (rule_between written) args a x
      becomes a x j holds d =
          let symbols = subst (λ side. AreSymbolsFor c.names.now side x.expr)
          (side_alike finds features w active written b m.plain m.between a) d.symbols_are in
          record {
            span = d.span;
            symbols_are = symbols g.bares f spelled
                (side_keyed n args level written i m a j (holds_alike t g refl b a.condition holds));
            unconditional = d.unconditional;
            action = d.action;
            no_attributes = d.no_attributes;
            origin = d.origin ∙ ap (λ l. origin_with l a.origin) arguments_same;
          }

      finished_call : IsFinishedRule g (rules_of w.items) f keys (Closed.call n args level) p q
      finished_call = (
        written,
        m.called_by,
        record {
          name = by_table.name;
          public = by_table.public;
          attributes = by_table.attributes;
          span = by_table.span;
          parameters = by_table.parameters;
          declared = declaration_alike finds features w active written b m.plain m.between f keys written.declared q.declared
              (by_table.declared f spelled binds);
          alternatives = becomes_list (Holds t b) (Holds g b)
              (BecomesUnder c.names.now t r b (argument_list (spelled_in c.written.now) args))
              (BecomesInInstance g f keys (rule_between written) args) written.alternatives q.alternatives
              (λ o. holds_alike t g refl b o) (λ o. holds_alike g t refl b o) becomes by_table.alternatives;
        },
      )

    call_finished : (n : Text) (args : Closeds) (level : Option ℕ) (p : TextSpan) (q : Rule) → Among keys (Closed.call n args level)
        → IsRuleOfKey c finds (Closed.call n args level) (f (Closed.call n args level)) p q
        → IsFinishedRule g (rules_of w.items) f keys (Closed.call n args level) p q
    call_finished n args level p q i h = let v = call_of n args level i in finished_call n args level p q i h v.0 v.1

    -- the symbols of added alternatives can be written by names
    inside_keyed : (x y : Closed) → IsUsable g.bares y → ((z : Closed) → Among (keys_in y) z → Among keys z)
        → AreKeyed g.bares keys (y ∷ [])
    inside_keyed x y u there = all_keyed g.bares keys (y ∷ []) one_usable one_there
      where
        one_usable : (v : Closed) → Among (y ∷ []) v → IsUsable g.bares v
        one_usable v (inl e) = subst (IsUsable g.bares) e u
        one_usable v (inr j) = absurd j

        one_there : (v z : Closed) → Among (y ∷ []) v → Among (keys_in v) z → Among keys z
        one_there v z (inl e) j = there z (subst (λ l. Among (keys_in l) z) (sym e) j)
        one_there v z (inr j) l = absurd j

    group_keyed : (xs : Closeds) → AreUsable g.bares xs
        → ((z : Closed) → Among (keys_in_all xs) z → Among keys z)
        → AreKeyed g.bares keys (closed_list xs)
    group_keyed xs u there =
        all_keyed g.bares keys (closed_list xs) (λ x i. listed_usable g.bares xs u x i) (λ x z i j. there z (listed_key xs x z i j))
      where
        listed_key : (ys : Closeds) (x z : Closed) → Among (closed_list ys) x → Among (keys_in x) z
            → Among (keys_in_all ys) z
        listed_key Closeds.none x z i j = absurd i
        listed_key (Closeds.more y ys) x z (inl e) j =
            among_left (keys_in y) (keys_in_all ys) z
            (subst (λ l. Among (keys_in l) z) (sym e) j)
        listed_key (Closeds.more y ys) x z (inr i) j =
            among_right (keys_in y) (keys_in_all ys) z (listed_key ys x z i j)

    choices_keyed : (x : Closed) → Among keys x → (d : AddedChoice) → Among (added_choices x) d → AreKeyed g.bares keys d.symbols
    choices_keyed (Closed.repeat Op.plus x) i d j = go j
      where
        u : IsUsable g.bares x
        u = key_usable g right flat depth calls keys found_calls table (Closed.repeat Op.plus x) i

        there : (z : Closed) → Among (keys_in (Closed.repeat Op.plus x)) z → Among keys z
        there = inside_there g right flat depth calls keys found_calls table (Closed.repeat Op.plus x) i tt

        one : AreKeyed g.bares keys (x ∷ [])
        one = inside_keyed x x u (λ z k. there z (inr k))

        itself : AreKeyed g.bares keys (Closed.repeat Op.plus x ∷ [])
        itself = inside_keyed x (Closed.repeat Op.plus x) u there

        go : Among (added_choices (Closed.repeat Op.plus x)) d → AreKeyed g.bares keys d.symbols
        go (inl e) = subst (λ (a : AddedChoice). AreKeyed g.bares keys a.symbols) e one
        go (inr (inl e)) = subst (λ (a : AddedChoice). AreKeyed g.bares keys a.symbols) e (itself.0, itself.1, one)
        go (inr (inr k)) = absurd k
    choices_keyed (Closed.repeat Op.star x) i d j = go j
      where
        there : (z : Closed) → Among (keys_in (Closed.repeat Op.star x)) z → Among keys z
        there = inside_there g right flat depth calls keys found_calls table (Closed.repeat Op.star x) i tt

        plus : AreKeyed g.bares keys (Closed.repeat Op.plus x ∷ [])
        plus = inside_keyed x (Closed.repeat Op.plus x)
            (key_usable g right flat depth calls keys found_calls table (Closed.repeat Op.star x) i) (λ z k. there z (inr k))

        go : Among (added_choices (Closed.repeat Op.star x)) d → AreKeyed g.bares keys d.symbols
        go (inl e) = subst (λ (a : AddedChoice). AreKeyed g.bares keys a.symbols) e tt
        go (inr (inl e)) = subst (λ (a : AddedChoice). AreKeyed g.bares keys a.symbols) e plus
        go (inr (inr k)) = absurd k
    choices_keyed (Closed.repeat Op.question x) i d j = go j
      where
        there : (z : Closed) → Among (keys_in (Closed.repeat Op.question x)) z → Among keys z
        there = inside_there g right flat depth calls keys found_calls table (Closed.repeat Op.question x) i tt

        one : AreKeyed g.bares keys (x ∷ [])
        one =
            inside_keyed x x (key_usable g right flat depth calls keys found_calls table (Closed.repeat Op.question x) i)
            (λ z k. there z (inr k))

        go : Among (added_choices (Closed.repeat Op.question x)) d → AreKeyed g.bares keys d.symbols
        go (inl e) = subst (λ (a : AddedChoice). AreKeyed g.bares keys a.symbols) e one
        go (inr (inl e)) = subst (λ (a : AddedChoice). AreKeyed g.bares keys a.symbols) e tt
        go (inr (inr k)) = absurd k
    choices_keyed (Closed.group xs) i d (inl e) =
        subst (λ (a : AddedChoice). AreKeyed g.bares keys a.symbols) e
        (group_keyed xs (key_usable g right flat depth calls keys found_calls table (Closed.group xs) i)
        (λ z k. inside_there g right flat depth calls keys found_calls table (Closed.group xs) i tt z (inr k)))
    choices_keyed (Closed.group xs) i d (inr k) = absurd k
    choices_keyed Closed.lookahead i d (inl e) = subst (λ (a : AddedChoice). AreKeyed g.bares keys a.symbols) e tt
    choices_keyed Closed.lookahead i d (inr k) = absurd k
    choices_keyed Closed.lookbehind i d (inl e) = subst (λ (a : AddedChoice). AreKeyed g.bares keys a.symbols) e tt
    choices_keyed Closed.lookbehind i d (inr k) = absurd k
    choices_keyed (Closed.terminal u) i d j = absurd j
    choices_keyed (Closed.call n args level) i d j = absurd j
    choices_keyed (Closed.choose x) i d j = absurd j
    choices_keyed (Closed.name m n x) i d j = absurd j
    choices_keyed Closed.faulty i d j = absurd j

    -- what is repeated can be
    repeated_keyed : (op : Op) (x : Closed) → Among keys (Closed.repeat op x) → AreKeyed g.bares keys (x ∷ [])
    repeated_keyed Op.plus x i =
        inside_keyed x x (key_usable g right flat depth calls keys found_calls table (Closed.repeat Op.plus x) i)
        (λ z k. inside_there g right flat depth calls keys found_calls table (Closed.repeat Op.plus x) i tt z (inr k))
    repeated_keyed Op.star x i =
        inside_keyed x x (key_usable g right flat depth calls keys found_calls table (Closed.repeat Op.star x) i)
        (λ z k. inside_there g right flat depth calls keys found_calls table (Closed.repeat Op.star x) i tt z (inr (inr k)))
    repeated_keyed Op.question x i =
        inside_keyed x x (key_usable g right flat depth calls keys found_calls table (Closed.repeat Op.question x) i)
        (λ z k. inside_there g right flat depth calls keys found_calls table (Closed.repeat Op.question x) i tt z (inr k))

    added_finished : (x : Closed) (p : TextSpan) (q : Rule) → Among keys x
        → IsAddedType (IsRepeatType g.bares f) x q.declared → IsAddedRuleUnder c.names.now x (f x) p q
        → IsAddedRule (AreWrittenByName g.bares f keys) (IsRepeatType g.bares f) x (f x) p q
    added_finished x p q i declared m = record {
      name = m.name;
      private = m.private;
      attributes = m.attributes;
      span = m.span;
      parameters = m.parameters;
      declared = declared;
      alternatives = added_list c.names.now g.bares f spelled p (added_choices x) q.alternatives (choices_keyed x i) m.alternatives;
    }

    -- the rule of a key
    pub key_finished : (x : Closed) (p : TextSpan) (q : Rule) → Among keys x → IsRuleOfKey c finds x (f x) p q
        → IsFinishedRule g (rules_of w.items) f keys x p q
    key_finished (Closed.call n args level) p q i m = call_finished n args level p q i m
    key_finished (Closed.repeat op x) p q i m =
        let d = m.declared in
        added_finished (Closed.repeat op x) p q i (d.0, d.1, d.2 g.bares f spelled (repeated_keyed op x i)) m
    key_finished (Closed.group xs) p q i m = added_finished (Closed.group xs) p q i m.declared m
    key_finished Closed.lookahead p q i m = added_finished Closed.lookahead p q i m.declared m
    key_finished Closed.lookbehind p q i m = added_finished Closed.lookbehind p q i m.declared m
    key_finished (Closed.terminal u) p q i m = absurd (key_is_key g right flat depth calls keys found_calls table (Closed.terminal u) i)
    key_finished (Closed.choose x) p q i m = absurd (key_is_key g right flat depth calls keys found_calls table (Closed.choose x) i)
    key_finished (Closed.name a n x) p q i m = absurd (key_is_key g right flat depth calls keys found_calls table (Closed.name a n x) i)
    key_finished Closed.faulty p q i m = absurd (key_is_key g right flat depth calls keys found_calls table Closed.faulty i)

    pub rules_finished : (P : ℕ → TextSpan) (k : ℕ) (xs : List Closed) (rs : List Rule)
        → ((x : Closed) → Among xs x → Among keys x)
        → AreRulesFrom (λ i x q. IsRuleOfKey c finds x (f x) (P i) q) k xs rs
        → AreRulesFrom (λ i x q. IsFinishedRule g (rules_of w.items) f keys x (P i) q) k xs rs
    rules_finished P k [] rs there e = e
    rules_finished P k (x ∷ xs) rs there (r, rest, e, m, more) =
        (r, rest, e, key_finished x (P k) r (there x (inl refl)) m, rules_finished P (k + 1) xs rest (λ y i. there y (inr i)) more)

  -- what is told of a key's condition is told of a call that is made
  tells_of_rule : (deep : Text → Bool) (n : Text) (args : Closeds) (level : Option ℕ) → Among keys (Closed.call n args level)
      → (fault : NormFault) (written : Rule) (r : EnabledRule) → written_at c.written.now n ≡ Some written
      → IsRule (rules_with finds c.rules.now) n r → (a : Alternative) → Among written.alternatives a
      → TellsOfAlternative finds deep (bind r args) a.condition fault
      → (m : Text) × (as_ : Closeds) × (IsRoot g (Nonterminal.closed (Closed.call m as_ None))
      ⊎ ((k : ℕ) × HasCallChain g k (Closed.call m as_ None))) × ((d : Choice) × (b : Binding)
      × IsAskedIn g m as_ d b × TellsOfAlternative g.finds deep b d.condition fault)
  tells_of_rule deep n args level i fault written called_one there is_rule a j told =
      let v = call_of n args level i in
      let found : Some v.0 ≡ Some written = sym v.1.by_table.found ∙ there in
      let one : v.0 ≡ written = cc in
      let rules : enabled_rule features v.0 ∷ [] ≡ called_one ∷ [] = sym v.1.by_table.is_rule ∙ is_rule in
      let same_rule : enabled_rule features v.0 ≡ called_one = cc in
      let bound : bind called_one args ≡ bind (rule_between written) args =
      ap (λ (q : EnabledRule). bind q args) (sym same_rule) ∙ ap (λ (q : Rule). bind (rule_between q) args) one in
      let held = (call_holder g right flat depth calls keys found_calls table n args level i).1 in (
        n,
        args,
        made (subst (λ l. IsRoot g (Nonterminal.closed (Closed.call n args l)) ⊎ Among calls (Closed.call n args l))
            v.1.called_by.flat held),
        (
          choice_of (a.origin, a),
          bind (rule_between written) args,
          record {
            rule = rule_between written;
            is_rule = subst (λ q. IsRule g n (rule_between q)) one v.1.called_by.is_rule;
            among = map_among choice_of (with_origins written.alternatives) (a.origin, a)
                (map_among (λ (z : Alternative). (z.origin, z)) written.alternatives a j);
            binding_is = refl;
          },
          subst (λ b. TellsOfAlternative finds deep b a.condition fault) bound told,
        ),
      )
    where
      made : IsRoot g (Nonterminal.closed (Closed.call n args None)) ⊎ Among calls (Closed.call n args None)
          → IsRoot g (Nonterminal.closed (Closed.call n args None)) ⊎ ((k : ℕ) × HasCallChain g k (Closed.call n args None))
      made (inl r) = inl r
      made (inr l) = let ch = found_calls.chains (Closed.call n args None) l in inr (ch.0, ch.2)

  pub tells_of_key : (deep : Text → Bool) (fault : NormFault) → TellsOfOneKey c finds deep keys fault → TellsOfMadeCall g deep fault
  tells_of_key deep faults.Memory t = tt
  tells_of_key deep (faults.Norm e) (x, i, (n, args, level, is, (written, r, there, is_rule, (a, j, t)))) =
      tells_of_rule deep n args level (subst (Among keys) is i) (faults.Norm e) written r there is_rule a j t
  tells_of_key deep faults.ConditionLimit (x, i, (n, args, level, is, (written, r, there, is_rule, (a, j, t)))) =
      tells_of_rule deep n args level (subst (Among keys) is i) faults.ConditionLimit written r there is_rule a j t

-- the rules of all keys
pub finished_of : (c : KeyRules) (finds : Text → Text → Option Bool) (w : Grammar) (spans : List Span) (p : TextSpan) (ys : List Closed)
    → grammar_view c.rules.now.grammar.now ≡ w → HasWritten c.written.now (rules_of w.items)
    → ys ≡ table_keys c.names.now.keys.now
    → (made : List Rule) → AreRulesOfKeys c finds spans p ys made
    → AreRulesUnderNames finds c.rules.now.features.now w (table_keys c.names.now.keys.now) c.names.now.names.now (span_of_key spans p)
    made
finished_of c finds w spans p ys same are all made m = λ known f named.
    rules_finished c finds w same are known.active known.right known.flat known.depth known.calls known.found known.table f named
    (span_of_key spans p) 0 (table_keys c.names.now.keys.now) made (λ x i. i)
    (subst (λ l. AreRulesFrom (λ i x r. IsRuleOfKey c finds x (f x) (span_of_key spans p i) r) 0 l made) all (m f named))

-- a fault told of a key of the table is told of a call that is made, where the grammar has right keys
pub told_of : {T : Type 0} (c : KeyRules) (finds : Text → Text → Option Bool) (deep : Text → Bool) (w : Grammar) (ys : List Closed)
    → grammar_view c.rules.now.grammar.now ≡ w → HasWritten c.written.now (rules_of w.items)
    → ys ≡ table_keys c.names.now.keys.now
    → (res : Result T NormFault) → IfErr res (TellsOfOneKey c finds deep ys)
    → IfErr res (TellsOfRightKeys finds deep c.rules.now.features.now w (table_keys c.names.now.keys.now))
told_of c finds deep w ys same are all (Ok x) t = t
told_of c finds deep w ys same are all (Err e) t = λ known.
    tells_of_key c finds w same are known.active known.right known.flat known.depth known.calls known.found known.table deep e
    (subst (λ l. TellsOfOneKey c finds deep l e) all t)
