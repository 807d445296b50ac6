-- Alternatives stand by their origins, from the reading to the rules of keys; for the laws of what passes leave.
use Rattle.std.proofs.Common.{◌≡◌, ℕ, suc, ◌≤◌, ◌<◌, ◌+◌, List, [], ◌∷◌, ◌++◌, refl, ap, sym, ◌∙◌}
use Rattle.std.proofs.Common.{subst, cond, Bool, true, false, inl, inr, ◌⊎◌, arith}
use Rattle.std.specs.Prelude.{Option, Some, None, map, filter, zip}
use Rattle.lalrpop_grammar_symbols.specs.Symbols.{Text, Argument, Op, Closed, Closeds}
use Rattle.lalrpop_grammar.specs.WrittenGrammar.{Alternative, Origin, Rule, Grammar, rules_of}
use Rattle.lalrpop_grammar_language.specs.Among.{Among}
use Rattle.lalrpop_grammar_language.specs.Enabled.{EnabledGrammar, EnabledRule, Choice, IsRule, is_active, at_places, choice_of}
use Rattle.lalrpop_grammar_language.specs.Levels.{Rank, has_levels, ranked_choices, tighter}
use Rattle.lalrpop_grammar_language.specs.Admitting.{argument_list}
use Rattle.lalrpop_grammar_language.specs.Expansion.{origin_with}
use Rattle.lalrpop_grammar_language.proofs.PlaceLemmas.{among_map}
use Rattle.lalrpop_norm_theory.specs.Between.{with_origins, rule_between, grammar_between, alternative_without_cfg}
use Rattle.lalrpop_norm_theory.specs.Between.{without_disabled}
use Rattle.lalrpop_norm_theory.specs.Premises.{IsReadGrammar, IsExpanded}
use Rattle.lalrpop_norm_theory.specs.Productions.{IsOriginBefore}
use Rattle.lalrpop_grammar_language.proofs.OrderLemmas.{among_parts}
use Rattle.std.proofs.lemmas.List.{append-nil}
use Rattle.lalrpop_norm_theory.proofs.ExpansionListLemmas.{rule_there}
use Rattle.lalrpop_norm_theory.proofs.LevelLemmas.{ranked_flat}
use Rattle.lalrpop_norm_theory.specs.KeyRules.{AreKeyChoices, AreInstanceChoices, AreTwoChoices}
use Rattle.lalrpop_norm_theory.specs.KeyRules.{IsMacroExpansion}
use Rattle.lalrpop_norm_theory.specs.Resolving.{DefinedNames, defined_names, resolved_alternative, resolved_grammar}
use Rattle.lalrpop_norm_theory.specs.LeveledGrammar.{has_rank_level, leveled_alternative, level_alternatives}
use Rattle.lalrpop_norm_theory.specs.LeveledGrammar.{pass_down_to, pass_downs, leveled_grammar}
use Rattle.lalrpop_norm_theory.proofs.LevelOrderLemmas.{one_rule}
use Rattle.lalrpop_norm_theory.proofs.LeveledRuleLemmas.{rule_of_key}
use Rattle.lalrpop_norm_chain.specs.PremiseLaws.{AreInOrder, HasRulesInOrder}
use Rattle.lalrpop_norm_chain.proofs.SourceLemmas.{read_rule, left_source, resolved_source, leveled_source}

-- ascending places

-- the alternatives tell ascending places of some rule, from one on
abbrev Ascend : ℕ → List Alternative → Type 0
Ascend from [] = Unit {0}
Ascend from (a ∷ rest) = (n : Text) × (k : ℕ) × (from ≤ k) × (a.origin ≡ Origin.alternative n [] k) × Ascend (suc k) rest

later_on : (i j : ℕ) (l : List Alternative) → i ≤ j → Ascend j l → Ascend i l
later_on i j [] le h = tt
later_on i j (a ∷ l) le h = (h.0, h.1, omega (arith, le, h.2), h.3, h.4)

placed : (from : ℕ) (l : List Alternative) (a : Alternative) → Ascend from l → Among l a →
    (n : Text) × (k : ℕ) × (from ≤ k) × (a.origin ≡ Origin.alternative n [] k)
placed from [] a h i = absurd i
placed from (b ∷ l) a h (inl e) = (h.0, h.1, h.2, ap (λ (x : Alternative). x.origin) (sym e) ∙ h.3)
placed from (b ∷ l) a h (inr i) =
    let u = placed (suc h.1) l a h.4 i in let step = h.2 in let le = u.2 in (u.0, u.1, omega (arith, step, le), u.3)

-- an alternative and one of a later place
before_later : (o p : Origin) (n m : Text) (j k : ℕ) → o ≡ Origin.alternative n [] j → p ≡ Origin.alternative m [] k → j < k →
    IsOriginBefore o p
before_later o p n m j k e f lt =
    subst (λ (x : Origin). IsOriginBefore x p) (sym e)
    (subst (λ (x : Origin). IsOriginBefore (Origin.alternative n [] j) x) (sym f) lt)

-- such alternatives stand in order, and what passes to a tighter level stands behind them

abbrev pub choices_of : List Alternative → List Choice
choices_of l = map choice_of (with_origins l)

choice_from : (l : List Alternative) (c : Choice) → Among (choices_of l) c → (a : Alternative) × Among l a × (a.origin ≡ c.origin)
choice_from l c i =
    let u = among_map choice_of (with_origins l) c i in
    let v = among_map (λ (a : Alternative). (a.origin, a)) l u.0 u.1 in
    (v.0, v.1, ap (λ (p : Origin × Alternative). p.0) v.2 ∙ ap (λ (x : Choice). x.origin) u.2)

ordered : (from : ℕ) (l : List Alternative) → Ascend from l → AreInOrder (choices_of l)
ordered from [] h = tt
ordered from (a ∷ l) h = (
  λ c i. let u = choice_from l c i in
      let v = placed (suc h.1) l u.0 h.4 u.1 in
      let le = v.2 in
      before_later a.origin c.origin h.0 v.0 h.1 v.1 h.3 (sym u.2 ∙ v.3) (omega (arith, le)),
  ordered (suc h.1) l h.4,
)

ordered_down : (from : ℕ) (l : List Alternative) (b : Alternative) → Ascend from l → b.origin ≡ Origin.pass_down →
    AreInOrder (choices_of (l ++ b ∷ []))
ordered_down from [] b h e = (λ c i. absurd i, tt)
ordered_down from (a ∷ l) b h e = (
  λ c i. let u = choice_from (l ++ b ∷ []) c i in go c u.0 u.2 (among_parts l (b ∷ []) u.0 u.1),
  ordered_down (suc h.1) l b h.4 e,
)
  where
    go : (c : Choice) (x : Alternative) → x.origin ≡ c.origin → Among l x ⊎ Among (b ∷ []) x → IsOriginBefore a.origin c.origin
    go c x o (inl j) =
        let v = placed (suc h.1) l x h.4 j in
        let le = v.2 in
        before_later a.origin c.origin h.0 v.0 h.1 v.1 h.3 (sym o ∙ v.3) (omega (arith, le))
    go c x o (inr (inl k)) =
        let down : c.origin ≡ Origin.pass_down = sym o ∙ ap (λ (y : Alternative). y.origin) (sym k) ∙ e in
        subst (λ (y : Origin). IsOriginBefore y c.origin) (sym h.3)
        (subst (λ (y : Origin). IsOriginBefore (Origin.alternative h.0 [] h.1) y) (sym down) tt)
    go c x o (inr (inr k)) = absurd k

-- from the reading to the levels

first_of_pairs : Origin × Alternative → List (Origin × Alternative) → Origin
first_of_pairs d [] = d.0
first_of_pairs d (p ∷ ps) = p.0

rest_of_pairs : List (Origin × Alternative) → List (Origin × Alternative)
rest_of_pairs [] = []
rest_of_pairs (p ∷ ps) = ps

read_ascend : (features : List Text) (n : Text) (k : ℕ) (l : List Alternative) → with_origins l ≡ at_places n k l →
    Ascend k (map alternative_without_cfg (filter (λ a. is_active features a.attributes) l))
read_ascend features n k [] e = tt
read_ascend features n k (a ∷ l) e =
    let rest : with_origins l ≡ at_places n (k + 1) l = cc in
    go (is_active features a.attributes) (read_ascend features n (k + 1) l rest)
  where
    origin_is : a.origin ≡ Origin.alternative n [] k
    origin_is = let same : (a.origin, a) ≡ (Origin.alternative n [] k, a) = cc in ap (λ (p : Origin × Alternative). p.0) same

    others : List Alternative
    others = filter (λ b. is_active features b.attributes) l

    go : (b : Bool) → Ascend (k + 1) (map alternative_without_cfg others) →
        Ascend k (map alternative_without_cfg (cond b (a ∷ others) others))
    go true h = (n, k, omega arith, origin_is, later_on (suc k) (k + 1) (map alternative_without_cfg others) (omega arith) h)
    go false h = later_on k (k + 1) (map alternative_without_cfg others) (omega arith) h

resolved_ascend : (d : DefinedNames) (ps : List Text) (k : ℕ) (l : List Alternative) → Ascend k l →
    Ascend k (map (resolved_alternative d ps) l)
resolved_ascend d ps k [] h = tt
resolved_ascend d ps k (a ∷ l) h = (h.0, h.1, h.2, h.3, resolved_ascend d ps (suc h.1) l h.4)

level_ascend : (f : Text → ℕ → Text) (r : Rule) (j k : ℕ) (l : List Alternative) (ranks : List (Option Rank)) → Ascend k l →
    Ascend k (map (leveled_alternative f r) (filter (λ p. has_rank_level j p.1) (zip l ranks)))
level_ascend f r j k [] ranks h = tt
level_ascend f r j k (a ∷ l) [] h = tt
level_ascend f r j k (a ∷ l) (rank ∷ ranks) h =
    go (has_rank_level j rank) (level_ascend f r j (suc h.1) l ranks h.4)
  where
    others : List (Alternative × Option Rank)
    others = filter (λ p. has_rank_level j p.1) (zip l ranks)

    go : (b : Bool) → Ascend (suc h.1) (map (leveled_alternative f r) others) →
        Ascend k (map (leveled_alternative f r) (cond b ((a, rank) ∷ others) others))
    go true m = (h.0, h.1, h.2, h.3, m)
    go false m = later_on k (suc h.1) (map (leveled_alternative f r) others) (let le = h.2 in omega (arith, le)) m

resolved_part_ascends : (features : List Text) (w : Grammar) → IsReadGrammar w → (r : Rule) →
    Among (rules_of (resolved_grammar (without_disabled features w)).items) r → Ascend 0 r.alternatives
resolved_part_ascends features w read r i =
    let d = without_disabled features w in
    let q = resolved_source d r i in
    let p = left_source features w.items q.0 q.1 in
    let own : Ascend 0 q.0.alternatives =
    subst (λ (e : Rule). Ascend 0 e.alternatives) p.3
    (read_ascend features p.0.name 0 p.0.alternatives (read_rule w read p.0 p.1).places) in
    subst (λ (e : Rule). Ascend 0 e.alternatives) q.2
    (resolved_ascend (defined_names d) q.0.parameters 0 q.0.alternatives own)

-- in the leveled grammar they stand in order
pub leveled_ordered : (finds : Text → Text → Option Bool) (features : List Text) (w : Grammar) (f : Text → ℕ → Text) →
    IsReadGrammar w → HasRulesInOrder (grammar_between finds (leveled_grammar f (resolved_grammar (without_disabled features w))))
leveled_ordered finds features w f read e i =
    let g = resolved_grammar (without_disabled features w) in
    let r = among_map rule_between (rules_of (leveled_grammar f g).items) e i in
    let u = leveled_source f g r.0 r.1 in
    subst (λ (x : EnabledRule). AreInOrder x.choices) (ap rule_between u.is_it ∙ r.2)
    (of_key u.rule u.level (resolved_part_ascends features w read u.rule u.among))
  where
    of_level : (q : Rule) (j : ℕ) (o : Option ℕ) → Ascend 0 (level_alternatives f q j) →
        AreInOrder (choices_of (level_alternatives f q j ++ pass_downs f q o))
    of_level q j None h =
        subst (λ (l : List Alternative). AreInOrder (choices_of l)) (sym (append-nil (level_alternatives f q j)))
        (ordered 0 (level_alternatives f q j) h)
    of_level q j (Some to) h = ordered_down 0 (level_alternatives f q j) (pass_down_to f q to) h refl

    of_key : (q : Rule) (level : Option ℕ) → Ascend 0 q.alternatives → AreInOrder (rule_between (rule_of_key f q level)).choices
    of_key q None h = ordered 0 q.alternatives h
    of_key q (Some j) h =
        of_level q j (tighter (rule_between q) j)
        (level_ascend f q j 0 q.alternatives (map (λ p. p.1) (ranked_choices (rule_between q))) h)

-- rules of keys

-- arguments leave places as they are
with_arguments : (args : List Argument) (o p : Origin) → IsOriginBefore o p → IsOriginBefore (origin_with args o) (origin_with args p)
with_arguments args (Origin.alternative n old i) (Origin.alternative m others j) h = h
with_arguments args (Origin.alternative n old i) Origin.pass_down h = tt
with_arguments args Origin.plus_one Origin.plus_more h = tt
with_arguments args Origin.star_none Origin.star_some h = tt
with_arguments args Origin.opt_some Origin.opt_none h = tt
with_arguments args _ _ h = absurd h

-- what an alternative of an instance is of
pub instance_from : (g : EnabledGrammar) (f : Closed → Text) (r : EnabledRule) (args : Closeds) (ps : List (Choice × Option Rank))
    (cs : List Choice) → AreInstanceChoices g f r args ps cs → (c : Choice) → Among cs c →
    (p : Choice × Option Rank) × Among ps p × (c.origin ≡ origin_with (argument_list g.spelled args) p.0.origin)
instance_from g f r args [] cs h c i = absurd (subst (λ (l : List Choice). Among l c) h i)
instance_from g f r args (q ∷ ps) cs (inl h) c i =
    go (subst (λ (l : List Choice). Among l c) h.3 i) (λ k. instance_from g f r args ps h.2 h.5 c k)
  where
    go : Among (h.1 ∷ h.2) c → (Among h.2 c →
        (p : Choice × Option Rank) × Among ps p × (c.origin ≡ origin_with (argument_list g.spelled args) p.0.origin)) →
        (p : Choice × Option Rank) × Among (q ∷ ps) p × (c.origin ≡ origin_with (argument_list g.spelled args) p.0.origin)
    go (inl e) later = (q, inl refl, ap (λ (x : Choice). x.origin) (sym e) ∙ h.4.origin)
    go (inr k) later = let u = later k in (u.0, inr u.1, u.2)
instance_from g f r args (q ∷ ps) cs (inr h) c i =
    let u = instance_from g f r args ps cs h.1 c i in (u.0, inr u.1, u.2)

abbrev AreRankedInOrder : List (Choice × Option Rank) → Type 0
AreRankedInOrder [] = Unit {0}
AreRankedInOrder (p ∷ ps) =
    ((later : Choice × Option Rank) → Among ps later → IsOriginBefore p.0.origin later.0.origin) × AreRankedInOrder ps

instance_ordered : (g : EnabledGrammar) (f : Closed → Text) (r : EnabledRule) (args : Closeds) (ps : List (Choice × Option Rank))
    (cs : List Choice) → AreRankedInOrder ps → AreInstanceChoices g f r args ps cs → AreInOrder cs
instance_ordered g f r args [] cs o h = subst AreInOrder (sym h) tt
instance_ordered g f r args (q ∷ ps) cs o (inl h) =
    subst AreInOrder (sym h.3) (
      λ c i. let u = instance_from g f r args ps h.2 h.5 c i in
          subst (λ (x : Origin). IsOriginBefore x c.origin) (sym h.4.origin)
          (subst (λ (x : Origin). IsOriginBefore (origin_with (argument_list g.spelled args) q.0.origin) x) (sym u.2)
          (with_arguments (argument_list g.spelled args) q.0.origin u.0.0.origin (o.0 u.0 u.1))),
      instance_ordered g f r args ps h.2 o.1 h.5,
    )
instance_ordered g f r args (q ∷ ps) cs o (inr h) = instance_ordered g f r args ps cs o.1 h.1

unranked_ordered : (cs : List Choice) → AreInOrder cs → AreRankedInOrder (map (λ c. (c, None)) cs)
unranked_ordered [] o = tt
unranked_ordered (c ∷ cs) o = (
  λ p i. let u = among_map (λ (d : Choice). (d, None)) cs p i in
      subst (λ (x : Choice × Option Rank). IsOriginBefore c.origin x.0.origin) u.2 (o.0 u.0 u.1),
  unranked_ordered cs o.1,
)

two_ordered : (bares : List Text) (f : Closed → Text) (a b : Origin) (xs ys : List Closed) (cs : List Choice) →
    IsOriginBefore a b → AreTwoChoices bares f a xs b ys cs → AreInOrder cs
two_ordered bares f a b xs ys cs o h = subst AreInOrder (sym h.2) (λ c i. only c i, (λ c i. absurd i, tt))
  where
    only : (c : Choice) → Among (h.1 ∷ []) c → IsOriginBefore h.0.origin c.origin
    only c (inl e) =
        subst (λ (x : Origin). IsOriginBefore x c.origin) (sym h.3.origin)
        (subst (λ (x : Origin). IsOriginBefore a x) (sym (ap (λ (y : Choice). y.origin) (sym e) ∙ h.4.origin)) o)
    only c (inr k) = absurd k

key_ordered : (g : EnabledGrammar) (f : Closed → Text) → ((n : Text) (r : EnabledRule) → IsRule g n r → has_levels r ≡ false) →
    ((n : Text) (r : EnabledRule) → IsRule g n r → AreInOrder r.choices) → (x : Closed) (cs : List Choice) →
    AreKeyChoices g f x cs → AreInOrder cs
key_ordered g f flat o (Closed.terminal t) cs h = absurd h
key_ordered g f flat o (Closed.call n args (Some level)) cs h = absurd h
key_ordered g f flat o (Closed.call n args None) cs h =
    instance_ordered g f h.0 args (ranked_choices h.0) cs
    (subst AreRankedInOrder (sym (ranked_flat h.0 (flat n h.0 h.1))) (unranked_ordered h.0.choices (o n h.0 h.1))) h.3
key_ordered g f flat o (Closed.repeat Op.plus x) cs h =
    two_ordered g.bares f Origin.plus_one Origin.plus_more (x ∷ []) (Closed.repeat Op.plus x ∷ x ∷ []) cs tt h
key_ordered g f flat o (Closed.repeat Op.star x) cs h =
    two_ordered g.bares f Origin.star_none Origin.star_some [] (Closed.repeat Op.plus x ∷ []) cs tt h
key_ordered g f flat o (Closed.repeat Op.question x) cs h =
    two_ordered g.bares f Origin.opt_some Origin.opt_none (x ∷ []) [] cs tt h
key_ordered g f flat o (Closed.group xs) cs h = subst AreInOrder (sym h.1) (λ c i. absurd i, tt)
key_ordered g f flat o (Closed.choose x) cs h = absurd h
key_ordered g f flat o (Closed.name m n x) cs h = absurd h
key_ordered g f flat o Closed.lookahead cs h = subst AreInOrder (sym h.1) (λ c i. absurd i, tt)
key_ordered g f flat o Closed.lookbehind cs h = subst AreInOrder (sym h.1) (λ c i. absurd i, tt)
key_ordered g f flat o Closed.faulty cs h = absurd h

-- the alternatives of keys stand in order, where those of rules do
pub keys_ordered : (g h : EnabledGrammar) (f : Closed → Text) (keys : List Closed) → IsMacroExpansion g h f keys → IsExpanded h →
    HasRulesInOrder g → HasRulesInOrder h
keys_ordered g h f keys w expanded o q i =
    let named = expanded.rules q i in
    let x = w.no_other q.name q named in
    let u = w.rules x.0 x.1 in
    let same : q ≡ u.0 = one_rule h (f x.0) q u.0 (subst (λ (t : Text). IsRule h t q) x.2 named) u.1 in
    subst (λ (e : EnabledRule). AreInOrder e.choices) (sym same)
    (key_ordered g f w.no_levels (λ n r k. o r (rule_there g n r k).0) x.0 u.0.choices u.2.choices)
