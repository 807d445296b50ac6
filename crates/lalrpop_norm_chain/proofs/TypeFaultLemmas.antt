-- The faults of types that are told of the expanded grammar stand in the written one; for the faults that stand there.
use Rattle.std.proofs.Common.{◌≡◌, ℕ, List, [], ◌∷◌, refl, ap, sym, ◌∙◌, subst, Bool, true, false}
use Rattle.std.proofs.Common.{inl, inr, ◌⊎◌}
use Rattle.std.specs.Prelude.{Option, Some, None, IsSomeAnd, codes, filter, map, ◌↔◌}
use Rattle.std.proofs.lemmas.Bool.{true≢false, false_from_ne_true}
use Rattle.lalrpop_grammar_symbols.specs.Symbols.{Text, TextSpan, Op, Argument, Closed, Closeds}
use Rattle.lalrpop_grammar_symbols.specs.declared.names.NonterminalString.{NonterminalString}
use Rattle.lalrpop_grammar.specs.WrittenGrammar.{Alternative, Origin, Rule, Grammar, Ty, Tys, rules_of}
use Rattle.lalrpop_grammar_language.specs.Among.{Among}
use Rattle.lalrpop_grammar_language.specs.Enabled.{EnabledGrammar, EnabledRule, Choice, IsRule, has_text, choice_of, enabled_grammar}
use Rattle.lalrpop_grammar_language.specs.Levels.{Rank, ranked_choices, tighter}
use Rattle.lalrpop_grammar_language.specs.Admitting.{argument_list}
use Rattle.lalrpop_grammar_language.specs.Expansion.{Nonterminal, InExpansion, origin_with}
use Rattle.lalrpop_grammar_language.proofs.PlaceLemmas.{among_filter, among_map}
use Rattle.lalrpop_grammar_repr.specs.Maps.{at_name}
use Rattle.lalrpop_grammar.specs.declared.types.type_repr.TypeRepr.{TypeRepr}
use Rattle.lalrpop_norm_theory.specs.Between.{with_origins, rule_between, grammar_between, without_disabled}
use Rattle.lalrpop_norm_theory.specs.Premises.{AreDifferent}
use Rattle.lalrpop_norm_theory.specs.Types.{GroundType, place_type, IsGrounded}
use Rattle.lalrpop_grammar_language.proofs.AmongLemmas.{map_among}
use Rattle.lalrpop_grammar_language.proofs.OrderLemmas.{among_parts}
use Rattle.lalrpop_norm_theory.proofs.ExpansionListLemmas.{rule_there}
use Rattle.lalrpop_norm_theory.proofs.LevelLemmas.{ranked_flat}
use Rattle.lalrpop_norm_theory.proofs.TypeLemmas.{step_grounded}
use Rattle.lalrpop_norm_theory.specs.KeyRules.{IsKey, by_name, AreKeyChoices, AreTwoChoices}
use Rattle.lalrpop_norm_theory.specs.LevelRules.{level_name, by_level_names}
use Rattle.lalrpop_norm_theory.proofs.KeyRuleLemmas.{key_called}
use Rattle.lalrpop_norm_theory.specs.LeveledGrammar.{ranked_alternatives, has_rank_level, leveled_alternative, level_alternatives}
use Rattle.lalrpop_norm_theory.specs.LeveledGrammar.{pass_downs, leveled_grammar}
use Rattle.lalrpop_norm_theory.specs.LevelLaws.{nonterminal_by_level, TellsOwnRules}
use Rattle.lalrpop_norm_theory.proofs.LevelChoiceLemmas.{choice_listed}
use Rattle.lalrpop_norm_theory.proofs.LevelOrderLemmas.{one_rule}
use Rattle.lalrpop_grammar_language.proofs.AmongLemmas.{text_found}
use Rattle.lalrpop_norm_theory.proofs.LeveledRuleLemmas.{rule_of_key, rules_of-leveled, names_differ, key_there}
use Rattle.lalrpop_norm_theory.specs.KeyTypes.{IsKeyDeclaration, repeat_ty}
use Rattle.lalrpop_norm_theory.proofs.KeyStepLemmas.{macros_keep_types}
use Rattle.lalrpop_norm_tyinfer.specs.GroundViews.{type_repr_view}
use Rattle.lalrpop_norm_tyinfer.specs.TypeFaults.{rule_symbol, nonterminal_of, HasNoType, is_part_rule, is_part_choice}
use Rattle.lalrpop_norm_tyinfer.specs.TypeFaults.{is_part_origin}
use Rattle.lalrpop_norm_tyinfer.specs.TypeFaults.{IsUntypedRule, HasDisagreeingAlternatives, HasRuleTypes}
use Rattle.lalrpop_norm_chain.specs.PremiseLaws.{resolved_part}
use Rattle.lalrpop_norm_chain.specs.Chains.{IsMacroChain}
use Rattle.lalrpop_norm_chain.proofs.SourceLemmas.{resolved_source, leveled_source}
use Rattle.lalrpop_norm_chain.proofs.PlainNameLemmas.{read_tells_resolved}
use Rattle.lalrpop_norm_chain.proofs.ActiveLemmas.{zip_front}
use Rattle.lalrpop_norm_chain.proofs.OrderLemmas.{instance_from}
use Rattle.lalrpop_norm_chain.proofs.FrontLemmas.{closed_to}
use Rattle.lalrpop_norm_chain.proofs.FrontLemmas.{has_rule, key_named, same_leveled, types_expanded, written_by_use}
use Rattle.lalrpop_norm_chain.specs.WrittenTypeFaults.{HasNoTypeAt, IsCallAt, IsDisagreeing, IsUntyped}
use Rattle.lalrpop_norm_chain.proofs.PartTypeLemmas.{key_typed}
use Rattle.lalrpop_norm_chain.proofs.OwnAlternativeLemmas.{call_rule}
use Rattle.lalrpop_norm_chain.proofs.TwoAlternativeLemmas.{disagreeing_types, same_choice, two_givers, written_in}
use Rattle.lalrpop_norm_chain.proofs.SpanLemmas.{key_span}

-- where names differ, a rule is found by its name

names_of : (rs : List Rule) → map (λ (e : EnabledRule). e.name) (map rule_between rs) ≡ map (λ (r : Rule). r.name) rs
names_of [] = refl
names_of (r ∷ rs) = ap (λ l. r.name ∷ l) (names_of rs)

one_by_name : (rs : List Rule) → AreDifferent (map (λ (r : Rule). r.name) rs) → (a b : Rule) → Among rs a → Among rs b →
    a.name ≡ b.name → a ≡ b
one_by_name [] d a b i j e = absurd i
one_by_name (r ∷ rs) d a b (inl f) (inl k) e = sym f ∙ k
one_by_name (r ∷ rs) d a b (inl f) (inr j) e = absurd (clash r rs d.0 b j (ap (λ (x : Rule). x.name) f ∙ e))
  where
    clash : (r : Rule) (rs : List Rule) → has_text r.name (map (λ (x : Rule). x.name) rs) ≡ false → (b : Rule) → Among rs b →
        r.name ≡ b.name → ⊥
    clash r rs none b j same =
        true≢false (sym (text_found b.name (map (λ (x : Rule). x.name) rs) (map_among (λ (x : Rule). x.name) rs b j))
        ∙ ap (λ t. has_text t (map (λ (x : Rule). x.name) rs)) (sym same) ∙ none)
one_by_name (r ∷ rs) d a b (inr i) (inl k) e = absurd (clash r rs d.0 a i (ap (λ (x : Rule). x.name) k ∙ sym e))
  where
    clash : (r : Rule) (rs : List Rule) → has_text r.name (map (λ (x : Rule). x.name) rs) ≡ false → (b : Rule) → Among rs b →
        r.name ≡ b.name → ⊥
    clash r rs none b j same =
        true≢false (sym (text_found b.name (map (λ (x : Rule). x.name) rs) (map_among (λ (x : Rule). x.name) rs b j))
        ∙ ap (λ t. has_text t (map (λ (x : Rule). x.name) rs)) (sym same) ∙ none)
one_by_name (r ∷ rs) d a b (inr i) (inr j) e = one_by_name rs d.1 a b i j e

key_name_is : (f : Text → ℕ → Text) (r : Rule) (level : Option ℕ) → (rule_of_key f r level).name ≡ level_name f r.name level
key_name_is f r None = refl
key_name_is f r (Some j) = refl

-- which rules are those of repeats and groups

first_choice : (q : Rule) (e : EnabledRule) → rule_between q ≡ e → (c : Choice) (cs : List Choice) → e.choices ≡ c ∷ cs →
    (a : Alternative) × (rest : List Alternative) × (q.alternatives ≡ a ∷ rest) × (a.origin ≡ c.origin)
first_choice q e same c cs is = go q.alternatives refl
  where
    go : (l : List Alternative) → q.alternatives ≡ l →
        (a : Alternative) × (rest : List Alternative) × (q.alternatives ≡ a ∷ rest) × (a.origin ≡ c.origin)
    go [] n =
        let none : [] ≡ c ∷ cs = ap (λ (x : List Alternative). map choice_of (with_origins x)) (sym n)
        ∙ ap (λ (x : EnabledRule). x.choices) same ∙ is in
        cc
    go (a ∷ rest) n =
        let list : map choice_of (with_origins (a ∷ rest)) ≡ c ∷ cs =
        ap (λ (x : List Alternative). map choice_of (with_origins x)) (sym n) ∙ ap (λ (x : EnabledRule). x.choices) same ∙ is in
        let front : choice_of (a.origin, a) ≡ c = cc in
        (a, rest, n, ap (λ (x : Choice). x.origin) front)

part_of : (q : Rule) (e : EnabledRule) → rule_between q ≡ e → (c : Choice) (cs : List Choice) → e.choices ≡ c ∷ cs →
    (o : Origin) → c.origin ≡ o → is_part_rule q ≡ is_part_origin o
part_of q e same c cs is o f =
    let u = first_choice q e same c cs is in
    ap is_part_choice u.2 ∙ ap is_part_origin (u.3 ∙ f)

-- alternatives of written rules and of levels are no parts

module _ (f : Text → ℕ → Text) (g : Grammar) (tells : TellsOwnRules g) where
  told_no_part : (r : Rule) → Among (rules_of g.items) r → (a : Alternative) → Among r.alternatives a →
      is_part_origin a.origin ≡ false
  told_no_part r i a j = ap is_part_origin (tells r a i j).1

  of_level : (r : Rule) (j : ℕ) → Among (rules_of g.items) r → (a : Alternative) → Among (level_alternatives f r j) a →
      is_part_origin a.origin ≡ false
  of_level r j i a m =
      let v = among_map (leveled_alternative f r) (filter (λ p. has_rank_level j p.1) (ranked_alternatives r)) a m in
      let t = among_filter (λ p. has_rank_level j p.1) (ranked_alternatives r) v.0 v.1 in
      let listed : Among r.alternatives v.0.0 =
      zip_front r.alternatives (map (λ p. p.1) (ranked_choices (rule_between r))) v.0 t.0 in
      ap (λ (b : Alternative). is_part_origin b.origin) (sym v.2) ∙ told_no_part r i v.0.0 listed

  of_pass : (r : Rule) (o : Option ℕ) (a : Alternative) → Among (pass_downs f r o) a → is_part_origin a.origin ≡ false
  of_pass r None a m = absurd m
  of_pass r (Some to) a (inl e) = ap (λ (b : Alternative). is_part_origin b.origin) (sym e)
  of_pass r (Some to) a (inr m) = absurd m

  of_key : (r : Rule) (level : Option ℕ) → Among (rules_of g.items) r → (a : Alternative) →
      Among (rule_of_key f r level).alternatives a → is_part_origin a.origin ≡ false
  of_key r None i a m = told_no_part r i a m
  of_key r (Some j) i a m = go (among_parts (level_alternatives f r j) (pass_downs f r (tighter (rule_between r) j)) a m)
    where
      go : Among (level_alternatives f r j) a ⊎ Among (pass_downs f r (tighter (rule_between r) j)) a →
          is_part_origin a.origin ≡ false
      go (inl n) = of_level r j i a n
      go (inr n) = of_pass r (tighter (rule_between r) j) a n

  choice_no_part : (finds : Text → Text → Option Bool) (e : EnabledRule) →
      Among (grammar_between finds (leveled_grammar f g)).rules e →
      (c : Choice) → Among e.choices c → is_part_origin c.origin ≡ false
  choice_no_part finds e i c j =
      let q = among_map rule_between (rules_of (leveled_grammar f g).items) e i in
      let u = leveled_source f g q.0 q.1 in
      let v = among_map choice_of (with_origins q.0.alternatives) c (subst (λ (x : EnabledRule). Among x.choices c) (sym q.2) j) in
      let a = among_map (λ (b : Alternative). (b.origin, b)) q.0.alternatives v.0 v.1 in
      ap is_part_origin (sym (ap (λ (p : Origin × Alternative). p.0) a.2 ∙ ap (λ (x : Choice). x.origin) v.2))
      ∙ of_key u.rule u.level u.among a.0 (subst (λ (x : Rule). Among x.alternatives a.0) (sym u.is_it) a.1)

arguments_no_part : (args : List Argument) (o : Origin) → is_part_origin (origin_with args o) ≡ is_part_origin o
arguments_no_part args Origin.start = refl
arguments_no_part args (Origin.alternative n old place) = refl
arguments_no_part args Origin.pass_down = refl
arguments_no_part args Origin.plus_one = refl
arguments_no_part args Origin.plus_more = refl
arguments_no_part args Origin.star_none = refl
arguments_no_part args Origin.star_some = refl
arguments_no_part args Origin.opt_none = refl
arguments_no_part args Origin.opt_some = refl
arguments_no_part args Origin.group = refl
arguments_no_part args Origin.look = refl

-- `usize`, as the rules of lookarounds declare it
abbrev place_ty : Ty
place_ty = Ty.nominal (codes "usize") Tys.none

-- the passes up to macros

module _ (finds : Text → Text → Option Bool) (features : List Text) (w leveled expanded : Grammar)
    (c : IsMacroChain finds features w leveled expanded) where
  abbrev old : EnabledGrammar
  old = enabled_grammar finds features w

  abbrev mid : EnabledGrammar
  mid = grammar_between finds leveled

  abbrev new : EnabledGrammar
  new = grammar_between finds expanded

  abbrev d : Grammar
  d = without_disabled features w

  abbrev named_level : Text → ℕ → Text
  named_level = c.levels.names

  abbrev named_key : Closed → Text
  named_key = c.macros.key_of

  rule_named : (q : Rule) → Among (rules_of expanded.items) q → IsRule new q.name (rule_between q)
  rule_named q i = c.macros.expanded.rules (rule_between q) (map_among rule_between (rules_of expanded.items) q i)

  -- the key that a rule is of, and what that stands for in the written grammar
  pub record FromKey (q : Rule) : Type 0 where
    pub key : Closed
    pub among : Among c.macros.keys key
    pub name_is : q.name ≡ named_key key
    pub source : Closed
    pub in_expansion : InExpansion old (Nonterminal.closed source)
    pub key_is : key ≡ by_level_names named_level source

  from_key : (q : Rule) → Among (rules_of expanded.items) q → FromKey q
  from_key q i =
      let x = c.macros.expansion.no_other q.name (rule_between q) (rule_named q i) in
      let y = (same_leveled finds features w leveled expanded c).no_other (Nonterminal.closed x.0) (c.macros.expansion.reached x.0 x.1) in
      go x.0 x.1 x.2 y.0 y.1 y.2
    where
      go : (x : Closed) → Among c.macros.keys x → q.name ≡ named_key x → (y : Nonterminal) → InExpansion old y →
          Nonterminal.closed x ≡ nonterminal_by_level named_level y → FromKey q
      go x k n (Nonterminal.start m) j e = cc
      go x k n (Nonterminal.closed z) j e =
          let same : x ≡ by_level_names named_level z = cc in
          record { key = x; among = k; name_is = n; source = z; in_expansion = j; key_is = same }

  symbol_of_key : (q : Rule) (u : FromKey q) → by_name named_key u.key ≡ rule_symbol q.name
  symbol_of_key q u = key_called named_key u.key (c.macros.expansion.keys_only u.key u.among) ∙ ap rule_symbol (sym u.name_is)

  grounded_key : (q : Rule) (u : FromKey q) (t : GroundType) → IsGrounded mid u.key t ↔ IsGrounded new (rule_symbol q.name) t
  grounded_key q u t =
      let both = macros_keep_types mid new named_key c.macros.keys c.macros.expansion c.macros.types u.key t
      (c.macros.expansion.reached u.key u.among) in (
        λ h. subst (λ (y : Closed). IsGrounded new y t) (symbol_of_key q u) (both.0 h),
        λ h. both.1 (subst (λ (y : Closed). IsGrounded new y t) (sym (symbol_of_key q u)) h),
      )

  grounded_source : (q : Rule) (u : FromKey q) (t : GroundType) → IsGrounded new (rule_symbol q.name) t → IsGrounded old u.source t
  grounded_source q u t h =
      (types_expanded finds features w leveled expanded c u.source t u.in_expansion).1
      (subst (λ (y : Closed). IsGrounded new y t) (sym (ap (by_name named_key) (sym u.key_is) ∙ symbol_of_key q u)) h)

  source_grounded : (q : Rule) (u : FromKey q) (t : GroundType) → IsGrounded old u.source t → IsGrounded new (rule_symbol q.name) t
  source_grounded q u t h =
      subst (λ (y : Closed). IsGrounded new y t) (ap (by_name named_key) (sym u.key_is) ∙ symbol_of_key q u)
      ((types_expanded finds features w leveled expanded c u.source t u.in_expansion).0 h)

  -- where the rule of a call is written

  all_differ : AreDifferent (map (λ (r : Rule). r.name) (rules_of (leveled_grammar named_level (resolved_part features w)).items))
  all_differ =
      subst AreDifferent (names_of (rules_of (leveled_grammar named_level (resolved_part features w)).items))
      (names_differ finds (resolved_part features w) named_level c.levels.are_names)

  at_rule : (n : Text) (args : Closeds) (level : Option ℕ) → InExpansion old (Nonterminal.closed (Closed.call n args level)) →
      (r : Rule) → Among (rules_of leveled.items) r → r.name ≡ level_name named_level n level → (p : TextSpan) → p ≡ r.span →
      IsCallAt old d (Closed.call n args level) p
  at_rule n args level i r j name_is p span_is =
      let g = resolved_part features w in
      let u = call_rule finds features w leveled expanded c n args level i in
      let key : Among (rules_of (leveled_grammar named_level g).items) (rule_of_key named_level u.0 level) =
      subst (λ (rs : List Rule). Among rs (rule_of_key named_level u.0 level)) (sym (rules_of-leveled named_level g.items))
      (key_there named_level (rules_of g.items) u.0 level u.1.among u.1.has_level) in
      let here : Among (rules_of (leveled_grammar named_level g).items) r =
      subst (λ (h : Grammar). Among (rules_of h.items) r) c.levels.value j in
      let same : r ≡ rule_of_key named_level u.0 level =
      one_by_name (rules_of (leveled_grammar named_level g).items) all_differ r (rule_of_key named_level u.0 level) here key
      (name_is ∙ ap (λ (t : Text). level_name named_level t level) (sym u.2) ∙ sym (key_name_is named_level u.0 level)) in
      let s = resolved_source (without_disabled features w) u.0 u.1.among in
      record {
        name = n;
        args = args;
        level = level;
        is_call = refl;
        in_expansion = i;
        rule = s.0;
        among = s.1;
        name_is = ap (λ (x : Rule). x.name) s.2 ∙ u.2;
        span_is = ap (λ (x : Rule). x.span) s.2 ∙ sym (key_span named_level u.0 level) ∙ ap (λ (x : Rule). x.span) (sym same)
            ∙ sym span_is;
      }

  call_at : (q : Rule) → Among (rules_of expanded.items) q → (u : FromKey q) → (m : Text) (xs : Closeds) (l : Option ℕ) →
      u.key ≡ Closed.call m xs l → IsCallAt old d u.source q.span
  call_at q i u m xs l e =
      go l (subst (Among c.macros.keys) e u.among) (u.name_is ∙ ap named_key e) u.source u.in_expansion (sym u.key_is ∙ e)
    where
      of_source : Among c.macros.keys (Closed.call m xs None) → q.name ≡ named_key (Closed.call m xs None) → (z : Closed) →
          InExpansion old (Nonterminal.closed z) → by_level_names named_level z ≡ Closed.call m xs None → IsCallAt old d z q.span
      of_source k n (Closed.call a args level) j f =
          let s = c.macros.rule_spans m xs q k i n in
          let name_is : level_name named_level a level ≡ m = cc in
          at_rule a args level j s.0 s.1 (s.2 ∙ sym name_is) q.span s.3
      of_source k n (Closed.terminal t) j f = cc
      of_source k n (Closed.repeat op z) j f = cc
      of_source k n (Closed.group zs) j f = cc
      of_source k n (Closed.choose z) j f = cc
      of_source k n (Closed.name b a z) j f = cc
      of_source k n Closed.lookahead j f = cc
      of_source k n Closed.lookbehind j f = cc
      of_source k n Closed.faulty j f = cc

      go : (o : Option ℕ) → Among c.macros.keys (Closed.call m xs o) → q.name ≡ named_key (Closed.call m xs o) → (z : Closed) →
          InExpansion old (Nonterminal.closed z) → by_level_names named_level z ≡ Closed.call m xs o → IsCallAt old d z q.span
      go None k n z j f = of_source k n z j f
      go (Some a) k n z j f = absurd ((c.macros.expansion.rules (Closed.call m xs (Some a)) k).2.choices)

  -- a rule that is no part is that of a call or of a lookaround

  key_rule_is : (q : Rule) → Among (rules_of expanded.items) q → (u : FromKey q) →
      rule_between q ≡ (c.macros.expansion.rules u.key u.among).0
  key_rule_is q i u =
      one_rule new (named_key u.key) (rule_between q) (c.macros.expansion.rules u.key u.among).0
      (subst (λ (t : Text). IsRule new t (rule_between q)) u.name_is (rule_named q i)) (c.macros.expansion.rules u.key u.among).1

  two_part : (q : Rule) (e : EnabledRule) → rule_between q ≡ e → (a b : Origin) (xs ys : List Closed) →
      AreTwoChoices mid.bares named_key a xs b ys e.choices → is_part_rule q ≡ is_part_origin a
  two_part q e same a b xs ys h = part_of q e same h.0 (h.1 ∷ []) h.2 a h.3.origin

  repeat_part : (op : Op) (y : Closed) (q : Rule) (e : EnabledRule) → rule_between q ≡ e →
      AreKeyChoices mid named_key (Closed.repeat op y) e.choices → is_part_rule q ≡ true
  repeat_part Op.plus y q e same h = two_part q e same Origin.plus_one Origin.plus_more (y ∷ []) (Closed.repeat Op.plus y ∷ y ∷ []) h
  repeat_part Op.star y q e same h = two_part q e same Origin.star_none Origin.star_some [] (Closed.repeat Op.plus y ∷ []) h
  repeat_part Op.question y q e same h = two_part q e same Origin.opt_some Origin.opt_none (y ∷ []) [] h

  group_part : (ys : Closeds) (q : Rule) (e : EnabledRule) → rule_between q ≡ e →
      AreKeyChoices mid named_key (Closed.group ys) e.choices → is_part_rule q ≡ true
  group_part ys q e same h = part_of q e same h.0 [] h.1 Origin.group h.2.origin

  -- the rule of a call is no part
  instance_no_part : (n : Text) (args : Closeds) (level : Option ℕ) (q : Rule) (e : EnabledRule) → rule_between q ≡ e →
      AreKeyChoices mid named_key (Closed.call n args level) e.choices → is_part_rule q ≡ false
  instance_no_part n args (Some l) q e same h = absurd h
  instance_no_part n args None q e same h = go q.alternatives refl
    where
      origin_no_part : (o : Choice) → Among e.choices o → is_part_origin o.origin ≡ false
      origin_no_part o i =
          let v = instance_from mid named_key h.0 args (ranked_choices h.0) e.choices h.3 o i in
          let flat = c.macros.expansion.no_levels n h.0 h.1 in
          let m = among_map (λ (x : Choice). (x, None)) h.0.choices v.0
          (subst (λ (l : List (Choice × Option Rank)). Among l v.0) (ranked_flat h.0 flat) v.1) in
          let listed : Among h.0.choices v.0.0 = subst (Among h.0.choices) (ap (λ (p : Choice × Option Rank). p.0) m.2) m.1 in
          let there : Among (grammar_between finds (leveled_grammar named_level (resolved_part features w))).rules h.0 =
          subst (λ (g : Grammar). Among (grammar_between finds g).rules h.0) c.levels.value (rule_there mid n h.0 h.1).0 in
          ap is_part_origin v.2 ∙ arguments_no_part (argument_list mid.spelled args) v.0.0.origin
          ∙ choice_no_part named_level (resolved_part features w) (read_tells_resolved features w c.read) finds h.0 there v.0.0 listed

      go : (l : List Alternative) → q.alternatives ≡ l → is_part_rule q ≡ false
      go [] f = ap is_part_choice f
      go (a ∷ rest) f =
          let first : Among (rule_between q).choices (choice_of (a.origin, a)) =
          subst (λ (l : List Alternative). Among (map choice_of (with_origins l)) (choice_of (a.origin, a))) (sym f) (inl refl) in
          ap is_part_choice f
          ∙ origin_no_part (choice_of (a.origin, a)) (subst (λ (x : EnabledRule). Among x.choices (choice_of (a.origin, a))) same first)

  pub data IsCallOrLook (x : Closed) : Type 0 where
    call : (n : Text) (args : Closeds) (level : Option ℕ) → x ≡ Closed.call n args level → IsCallOrLook x
    ahead : x ≡ Closed.lookahead → IsCallOrLook x
    behind : x ≡ Closed.lookbehind → IsCallOrLook x

  no_part_key : (q : Rule) (e : EnabledRule) → rule_between q ≡ e → (x : Closed) → IsKey x →
      AreKeyChoices mid named_key x e.choices →
      is_part_rule q ≡ false → IsCallOrLook x
  no_part_key q e same (Closed.call n args level) k h p = IsCallOrLook.call n args level refl
  no_part_key q e same (Closed.repeat op y) k h p = absurd (true≢false (sym (repeat_part op y q e same h) ∙ p))
  no_part_key q e same (Closed.group ys) k h p = absurd (true≢false (sym (group_part ys q e same h) ∙ p))
  no_part_key q e same Closed.lookahead k h p = IsCallOrLook.ahead refl
  no_part_key q e same Closed.lookbehind k h p = IsCallOrLook.behind refl
  no_part_key q e same (Closed.terminal t) k h p = absurd k
  no_part_key q e same (Closed.choose y) k h p = absurd k
  no_part_key q e same (Closed.name m n y) k h p = absurd k
  no_part_key q e same Closed.faulty k h p = absurd k

  kind_of : (q : Rule) → Among (rules_of expanded.items) q → (u : FromKey q) → is_part_rule q ≡ false → IsCallOrLook u.key
  kind_of q i u p =
      no_part_key q (c.macros.expansion.rules u.key u.among).0 (key_rule_is q i u) u.key (c.macros.expansion.keys_only u.key u.among)
      (c.macros.expansion.rules u.key u.among).2.choices p

  -- The rule of a repeat or a lookaround declares a type, and that of a group has one alternative: so one whose alternatives disagree
  -- is that of a call.
  abbrev IsSomeCall : Closed → Type 0
  IsSomeCall x = (n : Text) × (args : Closeds) × (level : Option ℕ) × (x ≡ Closed.call n args level)

  call_of_key : (q : Rule) → Among (rules_of expanded.items) q → HasDisagreeingAlternatives new q.name → (e : EnabledRule) →
      rule_between q ≡ e → (x : Closed) → IsKeyDeclaration mid named_key c.macros.keys x q.declared →
      AreKeyChoices mid named_key x e.choices → IsSomeCall x
  call_of_key q i t e same x d h = go x d h
    where
      is : IsRule new q.name (rule_between q)
      is = rule_named q i

      undeclared : q.declared ≡ None
      undeclared =
          ap (λ (r : EnabledRule). r.declared) (sym (one_rule new q.name t.first_by.rule (rule_between q) t.first_by.fits.rule is))
          ∙ t.first_by.undeclared

      not_declared : (y : Ty) → q.declared ≡ Some y → ⊥
      not_declared y f = let none : None ≡ Some y = sym undeclared ∙ f in cc

      first : Among (ranked_choices (rule_between q)) t.first_by.choice
      first = written_in finds features w leveled expanded c q is t.first t.first_by

      second : Among (ranked_choices (rule_between q)) t.second_by.choice
      second = written_in finds features w leveled expanded c q is t.second t.second_by

      alone : (o : Choice) → e.choices ≡ o ∷ [] → (p : Choice × Option Rank) → Among (ranked_choices (rule_between q)) p → o ≡ p.0
      alone o f p m =
          only (subst (λ (l : List Choice). Among l p.0) f
          (subst (λ (r : EnabledRule). Among r.choices p.0) same (choice_listed (rule_between q) p m)))
        where
          only : Among (o ∷ []) p.0 → o ≡ p.0
          only (inl k) = k
          only (inr k) = absurd k

      not_alone : (o : Choice) → e.choices ≡ o ∷ [] → ⊥
      not_alone o f =
          t.apart (same_choice finds features w leveled expanded c q i t.first_by.choice t.second_by.choice first second
          (ap (λ (k : Choice). k.origin) (sym (alone o f t.first_by.choice first) ∙ alone o f t.second_by.choice second)))

      go : (x : Closed) → IsKeyDeclaration mid named_key c.macros.keys x q.declared → AreKeyChoices mid named_key x e.choices →
          IsSomeCall x
      go (Closed.call n args level) d h = (n, args, level, refl)
      go (Closed.repeat op y) d h = absurd (not_declared (repeat_ty op d.0) d.1)
      go (Closed.group ys) d h = absurd (not_alone h.0 h.1)
      go Closed.lookahead d h = absurd (not_declared place_ty d)
      go Closed.lookbehind d h = absurd (not_declared place_ty d)
      go (Closed.terminal z) d h = absurd h
      go (Closed.choose y) d h = absurd h
      go (Closed.name m n y) d h = absurd h
      go Closed.faulty d h = absurd h

  -- two alternatives disagree

  pub disagreeing : (q : Rule) → Among (rules_of expanded.items) q → HasDisagreeingAlternatives new q.name → IsDisagreeing old d q.span
  disagreeing q i t =
      let u = from_key q i in
      let k =
      call_of_key q i t (c.macros.expansion.rules u.key u.among).0 (key_rule_is q i u) u.key
      (c.macros.types u.key (rule_between q) u.among (subst (λ (n : Text). IsRule new n (rule_between q)) u.name_is (rule_named q i)))
      (c.macros.expansion.rules u.key u.among).2.choices in
      let at = call_at q i u k.0 k.1 k.2 k.3 in
      let x : u.key ≡ by_level_names named_level (Closed.call at.name at.args at.level) =
      u.key_is ∙ ap (by_level_names named_level) at.is_call in
      let two =
      two_givers finds features w leveled expanded c q i (rule_named q i) t at.name at.args at.level
      (subst (λ (y : Closed). InExpansion old (Nonterminal.closed y)) at.is_call at.in_expansion)
      (subst (Among c.macros.keys) x u.among) (u.name_is ∙ ap named_key x) in
      record {
        symbol = u.source;
        at = at;
        one = two.one;
        other = two.other;
        apart = two.apart;
        first = two.first;
        second = two.second;
        differ = two.differ;
        one_gives = two.one_gives;
        other_gives = two.other_gives;
      }

  -- no type

  untyped_call : (q : Rule) → Among (rules_of expanded.items) q → HasNoType new q.name → is_part_rule q ≡ false →
      IsUntyped old w.prefix d q.name q.span
  untyped_call q i none p = let u = from_key q i in go u (kind_of q i u p)
    where
      go : (u : FromKey q) → IsCallOrLook u.key → IsUntyped old w.prefix d q.name q.span
      go u (IsCallOrLook.call n args level e) = record {
        call = record {
          symbol = u.source;
          at = call_at q i u n args level e;
          no_type = λ t h. none t (source_grounded q u t h);
        };
        name_of = key_named finds features w leveled expanded c;
        naming = written_by_use finds features w leveled expanded c;
        called = ap (λ (x : Closed). c.macros.name_of (Nonterminal.closed x))
            (sym u.key_is) ∙ c.macros.named u.key u.among ∙ sym u.name_is;
      }
      go u (IsCallOrLook.ahead e) =
          absurd (none place_type ((grounded_key q u place_type).0 (subst (λ (x : Closed). IsGrounded mid x place_type) (sym e)
          (step_grounded mid Closed.lookahead place_type
          (subst (λ (x : Closed). InExpansion mid (Nonterminal.closed x)) e (c.macros.expansion.reached u.key u.among), refl)))))
      go u (IsCallOrLook.behind e) =
          absurd (none place_type ((grounded_key q u place_type).0 (subst (λ (x : Closed). IsGrounded mid x place_type) (sym e)
          (step_grounded mid Closed.lookbehind place_type
          (subst (λ (x : Closed). InExpansion mid (Nonterminal.closed x)) e (c.macros.expansion.reached u.key u.among), refl)))))

  -- the rule of a key
  rule_of : (x : Closed) (k : Among c.macros.keys x) →
      (s : Rule) × Among (rules_of expanded.items) s × (rule_between s ≡ (c.macros.expansion.rules x k).0) × (s.name ≡ named_key x)
  rule_of x k =
      let v = c.macros.expansion.rules x k in
      let there = rule_there new (named_key x) v.0 v.1 in
      let s = among_map rule_between (rules_of expanded.items) v.0 there.0 in
      (s.0, s.1, s.2, ap (λ (e : EnabledRule). e.name) s.2 ∙ there.1)

  key_grounded : (x : Closed) (k : Among c.macros.keys x) (s : Rule) → s.name ≡ named_key x → (t : GroundType) →
      IsGrounded new (rule_symbol s.name) t → IsGrounded mid x t
  key_grounded x k s n t h =
      (macros_keep_types mid new named_key c.macros.keys c.macros.expansion c.macros.types x t (c.macros.expansion.reached x k)).1
      (subst (λ (y : Closed). IsGrounded new y t)
      (ap rule_symbol n ∙ sym (key_called named_key x (c.macros.expansion.keys_only x k))) h)

  -- no part is told to have none
  told_no_part_untyped : (q : Rule) → Among (rules_of expanded.items) q → IsUntypedRule new (rules_of expanded.items) q →
      is_part_rule q ≡ false
  told_no_part_untyped q i told =
      false_from_ne_true (is_part_rule q) (λ e.
      let u = from_key q i in
      key_typed mid new named_key c.macros.keys c.macros.expansion (λ n args level k none. calls e n args level k none) u.key u.among
      (λ t h. told.no_type t ((grounded_key q u t).0 h)))
    where
      calls : is_part_rule q ≡ true → (n : Text) (args : Closeds) (level : Option ℕ) →
          Among c.macros.keys (Closed.call n args level) →
          ((t : GroundType) → IsGrounded mid (Closed.call n args level) t → ⊥) → ⊥
      calls e n args level k none =
          let s = rule_of (Closed.call n args level) k in
          let part = told.no_part e s.0 s.1 (λ t h. none t (key_grounded (Closed.call n args level) k s.0 s.3 t h)) in
          true≢false (sym part ∙ instance_no_part n args level s.0 (c.macros.expansion.rules (Closed.call n args level) k).0 s.2
          (c.macros.expansion.rules (Closed.call n args level) k).2.choices)

  pub untyped : (q : Rule) → Among (rules_of expanded.items) q → IsUntypedRule new (rules_of expanded.items) q →
      IsUntyped old w.prefix d q.name q.span
  untyped q i told = untyped_call q i told.no_type (told_no_part_untyped q i told)

  -- where each rule has its one type, neither stands

  rule_at : (x : Closed) → InExpansion old (Nonterminal.closed x) →
      (s : Rule) × Among (rules_of expanded.items) s × (closed_to finds features w leveled expanded c x ≡ rule_symbol s.name)
  rule_at x i =
      let u = has_rule finds features w leveled expanded c x i in
      let there = rule_there new u.name u.rule u.is_rule in
      let s = among_map rule_between (rules_of expanded.items) u.rule there.0 in
      (s.0, s.1, u.becomes ∙ ap rule_symbol (sym (ap (λ (e : EnabledRule). e.name) s.2 ∙ there.1)))

  pub none_disagrees : (table : List (NonterminalString × TypeRepr)) → HasRuleTypes new (rules_of expanded.items) table →
      (p : TextSpan) → IsDisagreeing old d p → ⊥
  none_disagrees table types p t =
      let s = rule_at t.symbol t.at.in_expansion in
      let both = disagreeing_types old d p t in
      t.differ (types.once s.0 t.first t.second s.1
      (subst (λ (y : Closed). IsGrounded new y t.first) s.2
      ((types_expanded finds features w leveled expanded c t.symbol t.first t.at.in_expansion).0 both.0))
      (subst (λ (y : Closed). IsGrounded new y t.second) s.2
      ((types_expanded finds features w leveled expanded c t.symbol t.second t.at.in_expansion).0 both.1)))

  pub none_untyped : (table : List (NonterminalString × TypeRepr)) → HasRuleTypes new (rules_of expanded.items) table →
      (p : TextSpan) → HasNoTypeAt old d p → ⊥
  none_untyped table types p t =
      let s = rule_at t.symbol t.at.in_expansion in
      some_type (at_name (nonterminal_of s.0.name) table) (λ r. IsGrounded new (rule_symbol s.0.name) (type_repr_view r))
      (types.typed s.0 s.1) (λ r h. t.no_type (type_repr_view r)
      ((types_expanded finds features w leveled expanded c t.symbol (type_repr_view r) t.at.in_expansion).1
      (subst (λ (y : Closed). IsGrounded new y (type_repr_view r)) (sym s.2) h)))
    where
      some_type : (o : Option TypeRepr) (P : TypeRepr → Type 0) → IsSomeAnd o P → ((r : TypeRepr) → P r → ⊥) → ⊥
      some_type None P h k = absurd h
      some_type (Some r) P h k = k r h
