-- Rules and alternatives stand where they are written, from the reading to the levels; for the law of chains.
use Rattle.std.proofs.Common.{◌≡◌, ℕ, List, [], refl, ap, sym, ◌∙◌, subst, inl, inr, ◌⊎◌}
use Rattle.std.proofs.Common.{map}
use Rattle.std.specs.Prelude.{Option, Some, None, filter}
use Rattle.lalrpop_grammar_symbols.specs.Symbols.{Text, TextSpan}
use Rattle.lalrpop_grammar.specs.WrittenGrammar.{Action, Alternative, Grammar, Origin, Rule, rules_of}
use Rattle.lalrpop_grammar_language.specs.Among.{Among}
use Rattle.lalrpop_grammar_language.specs.Enabled.{at_places, is_active}
use Rattle.lalrpop_grammar_language.specs.Expansion.{HasLevel}
use Rattle.lalrpop_grammar_language.specs.Levels.{ranked_choices, tighter}
use Rattle.lalrpop_grammar_language.proofs.PlaceLemmas.{among_filter, among_map}
use Rattle.lalrpop_norm_theory.specs.Between.{alternative_without_cfg, rule_between, without_disabled}
use Rattle.lalrpop_norm_theory.specs.Premises.{IsReadGrammar}
use Rattle.lalrpop_grammar_language.proofs.AmongLemmas.{flat_map_among}
use Rattle.lalrpop_grammar_language.proofs.AmongLemmas.{map_among}
use Rattle.lalrpop_grammar_language.proofs.OrderLemmas.{among_parts}
use Rattle.lalrpop_norm_theory.specs.LevelRules.{level_name}
use Rattle.lalrpop_norm_theory.specs.Resolving.{resolved_grammar}
use Rattle.lalrpop_norm_theory.specs.LeveledGrammar.{has_rank_level, level_alternatives, leveled_alternative, leveled_grammar}
use Rattle.lalrpop_norm_theory.specs.LeveledGrammar.{pass_downs, ranked_alternatives}
use Rattle.lalrpop_norm_theory.specs.LevelNames.{AreLevelNames, LeveledKey, leveled_keys, leveled_keys_of}
use Rattle.lalrpop_norm_theory.proofs.LeveledRuleLemmas.{rule_of_key, key_name}
use Rattle.lalrpop_norm_theory.proofs.ToldPlaceLemmas.{read_tells}
use Rattle.lalrpop_norm_theory.proofs.WellLeveledLemmas.{key_found, key_named, key_of_rule}
use Rattle.lalrpop_norm_chain.specs.OwnAttributes.{IsRuleAttributes}
use Rattle.lalrpop_norm_chain.specs.Spans.{IsRuleSpan, IsWrittenSpan}
use Rattle.lalrpop_norm_chain.proofs.ActiveLemmas.{zip_front}
use Rattle.lalrpop_norm_chain.proofs.PlainNameLemmas.{read_tells_resolved}
use Rattle.lalrpop_norm_chain.proofs.SourceLemmas.{left_source, leveled_source, read_rule, resolved_source}
use Rattle.lalrpop_norm_chain.proofs.ToldLemmas.{AreToldBy, leveled_told, resolved_told}

-- An alternative of a written rule tells its place, and one that passes to a tighter level stands where its rule does.
abbrev pub TellsPlace : Alternative → Type 0
TellsPlace a = (n : Text) × (place : ℕ) × (a.origin ≡ Origin.alternative n [] place)

-- an alternative of a rule tells its place, or passes to a tighter level and stands where the rule does
abbrev pub IsLeveledOf : Rule → Alternative → Type 0
IsLeveledOf r a = TellsPlace a ⊎ (a.origin ≡ Origin.pass_down) × (a.span ≡ r.span)

pub key_span : (f : Text → ℕ → Text) (r : Rule) (level : Option ℕ) → (rule_of_key f r level).span ≡ r.span
key_span f r None = refl
key_span f r (Some j) = refl

key_attributes : (f : Text → ℕ → Text) (r : Rule) (level : Option ℕ) → (rule_of_key f r level).attributes ≡ r.attributes
key_attributes f r None = refl
key_attributes f r (Some j) = refl

-- no two levels of rules have one name
same_rule : (g : Grammar) (f : Text → ℕ → Text) → AreLevelNames g f → (q r : Rule) (l k : Option ℕ)
    → Among (rules_of g.items) q → Among (rules_of g.items) r → HasLevel (rule_between q) l → HasLevel (rule_between r) k
    → level_name f q.name l ≡ level_name f r.name k → q.name ≡ r.name
same_rule g f names q r l k i j a b e =
    let first = key_found f (leveled_keys g) (q.name, l) names.apart
    (flat_map_among leveled_keys_of (rules_of g.items) q (q.name, l) i (key_of_rule q l a)) in
    let second = key_found f (leveled_keys g) (r.name, k) names.apart
    (flat_map_among leveled_keys_of (rules_of g.items) r (r.name, k) j (key_of_rule r k b)) in
    ap (λ (x : LeveledKey). x.0) (sym first ∙ ap (key_named f (leveled_keys g)) e ∙ second)

module _ (features : List Text) (w : Grammar) (read : IsReadGrammar w) where
  -- where an alternative stands, if it tells a place
  abbrev PlacedAt : Origin → TextSpan → Type 0
  PlacedAt (Origin.alternative n args place) p = IsWrittenSpan features w n place p
  PlacedAt Origin.pass_down p = Unit {0}
  PlacedAt Origin.start p = Unit {0}
  PlacedAt Origin.plus_one p = Unit {0}
  PlacedAt Origin.plus_more p = Unit {0}
  PlacedAt Origin.star_none p = Unit {0}
  PlacedAt Origin.star_some p = Unit {0}
  PlacedAt Origin.opt_none p = Unit {0}
  PlacedAt Origin.opt_some p = Unit {0}
  PlacedAt Origin.group p = Unit {0}
  PlacedAt Origin.look p = Unit {0}

  abbrev Stands : Origin → Action → TextSpan → Type 0
  Stands o a p = PlacedAt o p

  -- what is left under the features
  left_stands : AreToldBy Stands (rules_of (without_disabled features w).items)
  left_stands r a i j =
      let q = left_source features w.items r i in
      let told = read_tells features w read r a i j in
      let b = among_map alternative_without_cfg (filter (λ (c : Alternative). is_active features c.attributes) q.0.alternatives) a
      (subst (λ (e : Rule). Among e.alternatives a) (sym q.3) j) in
      let c = among_filter (λ (d : Alternative). is_active features d.attributes) q.0.alternatives b.0 b.1 in
      let name : q.0.name ≡ r.name = ap (λ (e : Rule). e.name) q.3 in
      let origin : b.0.origin ≡ Origin.alternative r.name [] told.0 = ap (λ (d : Alternative). d.origin) b.2 ∙ told.1 in
      let placed : Among (at_places q.0.name 0 q.0.alternatives) (b.0.origin, b.0) =
      subst (λ (l : List (Origin × Alternative)). Among l (b.0.origin, b.0)) (read_rule w read q.0 q.1).places
      (map_among (λ (d : Alternative). (d.origin, d)) q.0.alternatives b.0 c.0) in
      subst (λ (o : Origin). PlacedAt o a.span) (sym told.1) (record {
        rule = q.0;
        alternative = b.0;
        rule_there = q.1;
        rule_enabled = q.2;
        name_is = name;
        at = subst (λ (o : Origin). Among (at_places r.name 0 q.0.alternatives) (o, b.0)) origin
            (subst (λ (n : Text). Among (at_places n 0 q.0.alternatives) (b.0.origin, b.0)) name placed);
        enabled = c.1;
        span_is = ap (λ (d : Alternative). d.span) b.2;
      })

  abbrev resolved : Grammar
  resolved = resolved_grammar (without_disabled features w)

  -- the alternatives of the leveled grammar that tell a place
  pub leveled_stands : (f : Text → ℕ → Text) (r : Rule) (a : Alternative) (n : Text) (place : ℕ)
      → Among (rules_of (leveled_grammar f resolved).items) r → Among r.alternatives a → a.origin ≡ Origin.alternative n [] place
      → IsWrittenSpan features w n place a.span
  leveled_stands f r a n place i j e =
      subst (λ (o : Origin). PlacedAt o a.span) e
      (leveled_told Stands (λ p. tt) f resolved (resolved_told Stands (without_disabled features w) left_stands) r a i j)

  -- there are no others but those that pass to a tighter level
  pub leveled_alike : (f : Text → ℕ → Text) (r : Rule) (a : Alternative) → Among (rules_of (leveled_grammar f resolved).items) r
      → Among r.alternatives a → IsLeveledOf r a
  leveled_alike f r a i j =
      let u = leveled_source f resolved r i in
      subst (λ (e : Rule). IsLeveledOf e a) u.is_it
      (of_key u.rule u.level (λ b k. let told = read_tells_resolved features w read u.rule b u.among k in (u.rule.name, told.0, told.1))
      a (subst (λ (e : Rule). Among e.alternatives a) (sym u.is_it) j))
    where
      of_level : (q : Rule) (j : ℕ) → ((b : Alternative) → Among q.alternatives b → TellsPlace b) → (b : Alternative)
          → Among (level_alternatives f q j) b → TellsPlace b
      of_level q j k b m =
          let v = among_map (leveled_alternative f q) (filter (λ p. has_rank_level j p.1) (ranked_alternatives q)) b m in
          let t = among_filter (λ p. has_rank_level j p.1) (ranked_alternatives q) v.0 v.1 in
          let listed : Among q.alternatives v.0.0 =
          zip_front q.alternatives (map (λ p. p.1) (ranked_choices (rule_between q))) v.0 t.0 in
          let told = k v.0.0 listed in
          (told.0, told.1, ap (λ (x : Alternative). x.origin) (sym v.2) ∙ told.2)

      of_pass : (q : Rule) (j : ℕ) (o : Option ℕ) (b : Alternative) → Among (pass_downs f q o) b
          → IsLeveledOf (rule_of_key f q (Some j)) b
      of_pass q j None b m = absurd m
      of_pass q j (Some to) b (inl e) =
          inr (ap (λ (x : Alternative). x.origin) (sym e), ap (λ (x : Alternative). x.span) (sym e))
      of_pass q j (Some to) b (inr m) = absurd m

      of_either : (q : Rule) (j : ℕ) → ((b : Alternative) → Among q.alternatives b → TellsPlace b) → (b : Alternative)
          → Among (level_alternatives f q j) b ⊎ Among (pass_downs f q (tighter (rule_between q) j)) b
          → IsLeveledOf (rule_of_key f q (Some j)) b
      of_either q j k b (inl m) = inl (of_level q j k b m)
      of_either q j k b (inr m) = of_pass q j (tighter (rule_between q) j) b m

      of_key : (q : Rule) (level : Option ℕ) → ((b : Alternative) → Among q.alternatives b → TellsPlace b) → (b : Alternative)
          → Among (rule_of_key f q level).alternatives b → IsLeveledOf (rule_of_key f q level) b
      of_key q None k b m = inl (k b m)
      of_key q (Some j) k b m =
          of_either q j k b (among_parts (level_alternatives f q j) (pass_downs f q (tighter (rule_between q) j)) b m)

  -- the rule of a level has the rule's attributes
  pub leveled_rule_has : (f : Text → ℕ → Text) → AreLevelNames resolved f → (r q : Rule) (level : Option ℕ)
      → Among (rules_of (leveled_grammar f resolved).items) r → Among (rules_of resolved.items) q → HasLevel (rule_between q) level
      → r.name ≡ level_name f q.name level → IsRuleAttributes features w q.name r.attributes
  leveled_rule_has f names r q level i j has e =
      let u = leveled_source f resolved r i in
      let named : level_name f u.rule.name u.level ≡ level_name f q.name level =
      sym (key_name f u.rule u.level) ∙ ap (λ (x : Rule). x.name) u.is_it ∙ e in
      let same : u.rule.name ≡ q.name = same_rule resolved f names u.rule q u.level level u.among j u.has_level has named in
      let s = resolved_source (without_disabled features w) u.rule u.among in
      let t = left_source features w.items s.0 s.1 in
      record {
        rule = t.0;
        rule_there = t.1;
        enabled = t.2;
        name_is = ap (λ (x : Rule). x.name) t.3 ∙ ap (λ (x : Rule). x.name) s.2 ∙ same;
        attributes_are = ap (λ (x : Rule). x.attributes) t.3 ∙ ap (λ (x : Rule). x.attributes) s.2
            ∙ sym (key_attributes f u.rule u.level) ∙ ap (λ (x : Rule). x.attributes) u.is_it;
      }

  -- the rule of a level stands where the rule does
  pub leveled_rule_stands : (f : Text → ℕ → Text) → AreLevelNames resolved f → (r q : Rule) (level : Option ℕ)
      → Among (rules_of (leveled_grammar f resolved).items) r → Among (rules_of resolved.items) q → HasLevel (rule_between q) level
      → r.name ≡ level_name f q.name level → IsRuleSpan features w q.name r.span
  leveled_rule_stands f names r q level i j has e =
      let u = leveled_source f resolved r i in
      let named : level_name f u.rule.name u.level ≡ level_name f q.name level =
      sym (key_name f u.rule u.level) ∙ ap (λ (x : Rule). x.name) u.is_it ∙ e in
      let same : u.rule.name ≡ q.name = same_rule resolved f names u.rule q u.level level u.among j u.has_level has named in
      let s = resolved_source (without_disabled features w) u.rule u.among in
      let t = left_source features w.items s.0 s.1 in
      record {
        rule = t.0;
        rule_there = t.1;
        enabled = t.2;
        name_is = ap (λ (x : Rule). x.name) t.3 ∙ ap (λ (x : Rule). x.name) s.2 ∙ same;
        span_is = ap (λ (x : Rule). x.span) t.3 ∙ ap (λ (x : Rule). x.span) s.2 ∙ sym (key_span f u.rule u.level)
            ∙ ap (λ (x : Rule). x.span) u.is_it;
      }
