-- What alternatives do is what was written, from the reading to the rules of keys; for the law of chains.
use Rattle.std.proofs.Common.{◌≡◌, ℕ, List, [], ◌∷◌, refl, ap, sym, ◌∙◌, subst, inl, inr}
use Rattle.std.proofs.Common.{Bool}
use Rattle.std.specs.Prelude.{Option, Some, None, map}
use Rattle.lalrpop_grammar_symbols.specs.Symbols.{Argument, Closed, Closeds, Op, Text, TextSpan, closed_list}
use Rattle.lalrpop_grammar.specs.WrittenGrammar.{Action, Alternative, Grammar, Origin, rules_of}
use Rattle.lalrpop_grammar_language.specs.Among.{Among}
use Rattle.lalrpop_grammar_language.specs.Admitting.{argument_list}
use Rattle.lalrpop_grammar_language.specs.Enabled.{Choice, EnabledGrammar, EnabledRule, choice_of, enabled_grammar}
use Rattle.lalrpop_grammar_language.specs.Expansion.{Nonterminal, origin_with}
use Rattle.lalrpop_grammar_language.specs.Levels.{Rank, ranked_choices}
use Rattle.lalrpop_grammar_language.proofs.PlaceLemmas.{among_map}
use Rattle.lalrpop_norm_theory.specs.Between.{choice_without_cfg, grammar_between, rule_between, rule_without_cfg, with_origins}
use Rattle.lalrpop_norm_theory.specs.Between.{without_disabled}
use Rattle.lalrpop_norm_theory.specs.Premises.{IsReadGrammar}
use Rattle.lalrpop_grammar_language.proofs.AmongLemmas.{map_among}
use Rattle.lalrpop_norm_theory.proofs.BetweenLemmas.{rules_left}
use Rattle.lalrpop_norm_theory.proofs.ExpansionListLemmas.{rule_there}
use Rattle.lalrpop_norm_theory.specs.KeyRules.{AreInstanceChoices, AreKeyChoices, AreTwoChoices, IsOneChoice}
use Rattle.lalrpop_norm_theory.specs.LevelRules.{by_level_names}
use Rattle.lalrpop_norm_theory.specs.Resolving.{resolved_grammar}
use Rattle.lalrpop_norm_theory.specs.LeveledGrammar.{leveled_grammar}
use Rattle.lalrpop_norm_theory.proofs.LevelChoiceLemmas.{choice_listed}
use Rattle.lalrpop_norm_theory.proofs.ToldPlaceLemmas.{read_tells}
use Rattle.lalrpop_norm_chain.specs.Actions.{ChoiceDoes, DoesByChoice}
use Rattle.lalrpop_norm_chain.proofs.ToldLemmas.{AreToldBy, leveled_told, resolved_told}

module _ (w : EnabledGrammar) where
  -- an alternative does what the choice that it tells does in the written grammar
  abbrev Acts : Origin → Action → TextSpan → Type 0
  Acts o a p = DoesByChoice w o a

  -- the same said of choices
  abbrev pub ChoicesActAsTold : EnabledGrammar → Type 0
  ChoicesActAsTold g = (r : EnabledRule) (c : Choice) → Among g.rules r → Among r.choices c → DoesByChoice w c.origin c.action

  between_acts : (finds : Text → Text → Option Bool) (g : Grammar) → AreToldBy Acts (rules_of g.items)
      → ChoicesActAsTold (grammar_between finds g)
  between_acts finds g h r c i j =
      let u = among_map rule_between (rules_of g.items) r i in
      let v = among_map choice_of (with_origins u.0.alternatives) c (subst (λ (e : EnabledRule). Among e.choices c) (sym u.2) j) in
      let t = among_map (λ (a : Alternative). (a.origin, a)) u.0.alternatives v.0 v.1 in
      let same : choice_of (t.0.origin, t.0) ≡ c = ap choice_of t.2 ∙ v.2 in
      subst (λ (e : Choice). DoesByChoice w e.origin e.action) same (h u.0 t.0 u.1 t.1)

  -- rules of keys

  -- arguments leave what is told
  with_arguments : (args : List Argument) (o : Origin) (a : Action) → DoesByChoice w o a → DoesByChoice w (origin_with args o) a
  with_arguments args (Origin.alternative n old place) a h = h
  with_arguments args Origin.pass_down a h = h
  with_arguments args Origin.start a h = h
  with_arguments args Origin.plus_one a h = h
  with_arguments args Origin.plus_more a h = h
  with_arguments args Origin.star_none a h = h
  with_arguments args Origin.star_some a h = h
  with_arguments args Origin.opt_none a h = h
  with_arguments args Origin.opt_some a h = h
  with_arguments args Origin.group a h = h
  with_arguments args Origin.look a h = h

  instance_acts : (g : EnabledGrammar) (f : Closed → Text) (r : EnabledRule) (args : Closeds) (ps : List (Choice × Option Rank))
      (cs : List Choice) → ((p : Choice × Option Rank) → Among ps p → DoesByChoice w p.0.origin p.0.action)
      → AreInstanceChoices g f r args ps cs → (c : Choice) → Among cs c → DoesByChoice w c.origin c.action
  instance_acts g f r args [] cs k h c i = absurd (subst (λ (l : List Choice). Among l c) h i)
  instance_acts g f r args (q ∷ ps) cs k (inl h) c i =
      go (subst (λ (l : List Choice). Among l c) h.3 i) (λ j. instance_acts g f r args ps h.2 (λ p m. k p (inr m)) h.5 c j)
    where
      own : DoesByChoice w h.1.origin h.1.action
      own = subst (λ (o : Origin). DoesByChoice w o h.1.action) (sym h.4.origin)
          (subst (λ (a : Action). DoesByChoice w (origin_with (argument_list g.spelled args) q.0.origin) a) (sym h.6)
          (with_arguments (argument_list g.spelled args) q.0.origin q.0.action (k q (inl refl))))

      go : Among (h.1 ∷ h.2) c → (Among h.2 c → DoesByChoice w c.origin c.action) → DoesByChoice w c.origin c.action
      go (inl e) later = subst (λ (d : Choice). DoesByChoice w d.origin d.action) e own
      go (inr j) later = later j
  instance_acts g f r args (q ∷ ps) cs k (inr h) c i = instance_acts g f r args ps cs (λ p m. k p (inr m)) h.1 c i

  two_default : (bares : List Text) (f : Closed → Text) (o p : Origin) (xs ys : List Closed) (cs : List Choice)
      → AreTwoChoices bares f o xs p ys cs → (c : Choice) → Among cs c → c.action ≡ Action.default
  two_default bares f o p xs ys cs h c i = go (subst (λ (l : List Choice). Among l c) h.2 i)
    where
      go : Among (h.0 ∷ h.1 ∷ []) c → c.action ≡ Action.default
      go (inl e) = ap (λ (d : Choice). d.action) (sym e) ∙ h.5
      go (inr (inl e)) = ap (λ (d : Choice). d.action) (sym e) ∙ h.6
      go (inr (inr j)) = absurd j

  one_acts : (bares : List Text) (f : Closed → Text) (a : Action) (o : Origin) (xs : List Closed) (cs : List Choice)
      → IsOneChoice bares f a o xs cs → (c : Choice) → Among cs c → c.action ≡ a
  one_acts bares f a o xs cs h c i = go (subst (λ (l : List Choice). Among l c) h.1 i)
    where
      go : Among (h.0 ∷ []) c → c.action ≡ a
      go (inl e) = ap (λ (d : Choice). d.action) (sym e) ∙ h.3
      go (inr j) = absurd j

  -- the alternatives of a key do what its nonterminal's productions do
  pub key_acts : (g : EnabledGrammar) (f : Closed → Text) → ChoicesActAsTold g → (x : Closed) (cs : List Choice)
      → AreKeyChoices g f x cs → (c : Choice) → Among cs c → ChoiceDoes w (Nonterminal.closed x) c.origin c.action
  key_acts g f k (Closed.terminal t) cs h c i = absurd h
  key_acts g f k (Closed.call n args (Some level)) cs h c i = absurd h
  key_acts g f k (Closed.call n args None) cs h c i =
      let r : EnabledRule = h.0 in
      instance_acts g f r args (ranked_choices r) cs
      (λ p m. k r p.0 (rule_there g n r h.1).0 (choice_listed r p m)) h.3 c i
  key_acts g f k (Closed.repeat Op.plus x) cs h c i =
      two_default g.bares f Origin.plus_one Origin.plus_more (x ∷ []) (Closed.repeat Op.plus x ∷ x ∷ []) cs h c i
  key_acts g f k (Closed.repeat Op.star x) cs h c i =
      two_default g.bares f Origin.star_none Origin.star_some [] (Closed.repeat Op.plus x ∷ []) cs h c i
  key_acts g f k (Closed.repeat Op.question x) cs h c i =
      two_default g.bares f Origin.opt_some Origin.opt_none (x ∷ []) [] cs h c i
  key_acts g f k (Closed.group xs) cs h c i = one_acts g.bares f Action.default Origin.group (closed_list xs) cs h c i
  key_acts g f k (Closed.choose x) cs h c i = absurd h
  key_acts g f k (Closed.name m n x) cs h c i = absurd h
  key_acts g f k Closed.lookahead cs h c i = one_acts g.bares f Action.lookahead Origin.look [] cs h c i
  key_acts g f k Closed.lookbehind cs h c i = one_acts g.bares f Action.lookbehind Origin.look [] cs h c i
  key_acts g f k Closed.faulty cs h c i = absurd h

  -- under the names of levels productions do what they did
  pub acts_before : (f : Text → ℕ → Text) (x : Closed) (o : Origin) (a : Action)
      → ChoiceDoes w (Nonterminal.closed (by_level_names f x)) o a → ChoiceDoes w (Nonterminal.closed x) o a
  acts_before f (Closed.terminal t) o a h = h
  acts_before f (Closed.call n args level) o a h = h
  acts_before f (Closed.repeat op x) o a h = h
  acts_before f (Closed.group xs) o a h = h
  acts_before f (Closed.choose x) o a h = h
  acts_before f (Closed.name m n x) o a h = h
  acts_before f Closed.lookahead o a h = h
  acts_before f Closed.lookbehind o a h = h
  acts_before f Closed.faulty o a h = h

-- what is left under the features does what is written
left_acts : (finds : Text → Text → Option Bool) (features : List Text) (w : Grammar) → IsReadGrammar w
    → AreToldBy (Acts (enabled_grammar finds features w)) (rules_of (without_disabled features w).items)
left_acts finds features w read r a i j =
    let g = enabled_grammar finds features w in
    let told = read_tells features w read r a i j in
    let left : Among (map rule_between (rules_of (without_disabled features w).items)) (rule_between r) =
    map_among rule_between (rules_of (without_disabled features w).items) r i in
    let e = among_map rule_without_cfg g.rules (rule_between r)
    (subst (λ (l : List EnabledRule). Among l (rule_between r)) (rules_left features w.items read.items) left) in
    let listed : Among (rule_between r).choices (choice_of (a.origin, a)) =
    map_among choice_of (with_origins r.alternatives) (a.origin, a)
    (map_among (λ (b : Alternative). (b.origin, b)) r.alternatives a j) in
    let c = among_map choice_without_cfg e.0.choices (choice_of (a.origin, a))
    (subst (λ (q : EnabledRule). Among q.choices (choice_of (a.origin, a))) (sym e.2) listed) in
    subst (λ (o : Origin). DoesByChoice g o a.action) (sym told.1) (record {
      rule = e.0;
      choice = c.0;
      rule_there = e.1;
      name_is = ap (λ (q : EnabledRule). q.name) e.2;
      choice_there = c.1;
      at = ap (λ (d : Choice). d.origin) c.2 ∙ told.1;
      action_is = ap (λ (d : Choice). d.action) c.2;
    })

-- and so does the leveled grammar
pub leveled_part_acts : (finds : Text → Text → Option Bool) (features : List Text) (w : Grammar) (f : Text → ℕ → Text)
    → IsReadGrammar w → ChoicesActAsTold (enabled_grammar finds features w)
    (grammar_between finds (leveled_grammar f (resolved_grammar (without_disabled features w))))
leveled_part_acts finds features w f read =
    let g = enabled_grammar finds features w in
    between_acts g finds (leveled_grammar f (resolved_grammar (without_disabled features w)))
    (leveled_told (Acts g) (λ p. refl) f (resolved_grammar (without_disabled features w))
    (resolved_told (Acts g) (without_disabled features w) (left_acts finds features w read)))
