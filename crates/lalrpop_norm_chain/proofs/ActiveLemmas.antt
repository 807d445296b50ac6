-- No attribute that asks for features is left, so nothing is disabled whatever is asked; for the laws of what passes leave.
use Rattle.std.proofs.Common.{◌≡◌, ℕ, List, [], ◌∷◌, refl, ap, sym, ◌∙◌, subst, Bool, true, false, inl, inr, ◌⊎◌}
use Rattle.std.specs.Prelude.{◌&&◌, ◌||◌, not, Option, Some, None, filter, map, zip}
use Rattle.std.specs.List.{list_all}
use Rattle.std.proofs.lemmas.Bool.{true≢false}
use Rattle.lalrpop_grammar_symbols.specs.Symbols.{Text}
use Rattle.lalrpop_grammar.specs.WrittenGrammar.{Attr, Alternative, Rule, Grammar, rules_of}
use Rattle.lalrpop_grammar_language.specs.Among.{Among}
use Rattle.lalrpop_grammar_language.specs.Enabled.{is_true, only_one, attr_holds, is_active}
use Rattle.lalrpop_grammar_language.specs.Levels.{tighter, ranked_choices}
use Rattle.lalrpop_grammar_language.proofs.PlaceLemmas.{among_filter, among_map}
use Rattle.lalrpop_norm_theory.specs.Between.{rule_between, is_cfg, without_cfg, alternative_without_cfg, enabled_part}
use Rattle.lalrpop_norm_theory.specs.Between.{without_disabled}
use Rattle.lalrpop_grammar_language.proofs.OrderLemmas.{among_parts}
use Rattle.lalrpop_norm_theory.specs.Resolving.{defined_names, resolved_alternative, resolved_rule, resolved_grammar}
use Rattle.lalrpop_norm_theory.specs.LeveledGrammar.{ranked_alternatives, has_rank_level, says_rank, leveled_alternative}
use Rattle.lalrpop_norm_theory.specs.LeveledGrammar.{level_alternatives, pass_downs, leveled_grammar}
use Rattle.lalrpop_norm_theory.proofs.LeveledRuleLemmas.{rule_of_key}
use Rattle.lalrpop_norm_chain.proofs.SourceLemmas.{left_source, resolved_source, leveled_source}

-- none of the attributes asks for features
abbrev pub AreNoCfg : List Attr → Type 0
AreNoCfg attributes = (a : Attr) → Among attributes a → is_cfg a ≡ false

-- nor those of a rule and of its alternatives
pub record AsksNothing (r : Rule) : Type 0 where
  pub rule : AreNoCfg r.attributes
  pub alternatives : (a : Alternative) → Among r.alternatives a → AreNoCfg a.attributes

-- such attributes hold

holds_alone : (features : List Text) (a : Attr) → is_cfg a ≡ false → attr_holds features a ≡ true
holds_alone features (Attr.empty place id) e = ap not e
holds_alone features (Attr.equal place id text) e = ap not e
holds_alone features (Attr.paren place id parts) e = ap (λ (b : Bool). not b || is_true (only_one features parts)) e

-- attributes that ask for no features hold under any features
pub all_active : (features : List Text) (l : List Attr) → AreNoCfg l → is_active features l ≡ true
all_active features [] h = refl
all_active features (a ∷ l) h =
    ap (λ (b : Bool). b && list_all (attr_holds features) l) (holds_alone features a (h a (inl refl)))
    ∙ all_active features l (λ b i. h b (inr i))

-- what is left under features asks for none

not_true : (b : Bool) → not b ≡ true → b ≡ false
not_true false e = refl
not_true true e = absurd (true≢false (sym e))

cut : (l : List Attr) → AreNoCfg (without_cfg l)
cut l a i = not_true (is_cfg a) (among_filter (λ b. not (is_cfg b)) l a i).1

left_asks : (features : List Text) (w : Grammar) (r : Rule) → Among (rules_of (without_disabled features w).items) r →
    AsksNothing r
left_asks features w r i =
    let q = left_source features w.items r i in subst AsksNothing q.3 (of_part q.0)
  where
    of_part : (q : Rule) → AsksNothing (enabled_part features q)
    of_part q = record {
      rule = cut q.attributes;
      alternatives = λ a j.
          let u = among_map alternative_without_cfg (filter (λ b. is_active features b.attributes) q.alternatives) a j in
          subst (λ (b : Alternative). AreNoCfg b.attributes) u.2 (cut u.0.attributes);
    }

-- names that are resolved leave attributes as they are
resolved_asks : (g : Grammar) → ((r : Rule) → Among (rules_of g.items) r → AsksNothing r) → (r : Rule) →
    Among (rules_of (resolved_grammar g).items) r → AsksNothing r
resolved_asks g h r i =
    let q = resolved_source g r i in subst AsksNothing q.2 (of_rule q.0 (h q.0 q.1))
  where
    of_rule : (q : Rule) → AsksNothing q → AsksNothing (resolved_rule (defined_names g) q)
    of_rule q k = record {
      rule = k.rule;
      alternatives = λ a j.
          let u = among_map (resolved_alternative (defined_names g) q.parameters) q.alternatives a j in
          subst (λ (b : Alternative). AreNoCfg b.attributes) u.2 (k.alternatives u.0 u.1);
    }

-- and so do levels, but for those of levels and sides

-- the first part of a pair of two zipped lists is one of the first list
pub zip_front : {A B : Type 0} (xs : List A) (ys : List B) (p : A × B) → Among (zip xs ys) p → Among xs p.0
zip_front [] ys p i = absurd i
zip_front (x ∷ xs) [] p i = absurd i
zip_front (x ∷ xs) (y ∷ ys) p (inl e) = inl (ap (λ z. z.0) e)
zip_front (x ∷ xs) (y ∷ ys) p (inr i) = inr (zip_front xs ys p i)

leveled_asks : (f : Text → ℕ → Text) (g : Grammar) → ((r : Rule) → Among (rules_of g.items) r → AsksNothing r) →
    (r : Rule) →
    Among (rules_of (leveled_grammar f g).items) r → AsksNothing r
leveled_asks f g h r i =
    let u = leveled_source f g r i in subst AsksNothing u.is_it (of_key u.rule u.level (h u.rule u.among))
  where
    of_level : (q : Rule) (j : ℕ) (a : Alternative) → AsksNothing q → Among (level_alternatives f q j) a → AreNoCfg a.attributes
    of_level q j a k m =
        let v = among_map (leveled_alternative f q) (filter (λ p. has_rank_level j p.1) (ranked_alternatives q)) a m in
        let t = among_filter (λ p. has_rank_level j p.1) (ranked_alternatives q) v.0 v.1 in
        let listed : Among q.alternatives v.0.0 =
        zip_front q.alternatives (map (λ p. p.1) (ranked_choices (rule_between q))) v.0 t.0 in
        subst (λ (b : Alternative). AreNoCfg b.attributes) v.2
        (λ b n. k.alternatives v.0.0 listed b (among_filter (λ c. not (says_rank c)) v.0.0.attributes b n).0)

    of_pass : (q : Rule) (o : Option ℕ) (a : Alternative) → Among (pass_downs f q o) a → AreNoCfg a.attributes
    of_pass q None a m = absurd m
    of_pass q (Some to) a (inl e) = subst (λ (b : Alternative). AreNoCfg b.attributes) e (λ b n. absurd n)
    of_pass q (Some to) a (inr m) = absurd m

    of_alternative : (q : Rule) (j : ℕ) (a : Alternative) → AsksNothing q →
        Among (level_alternatives f q j) a ⊎ Among (pass_downs f q (tighter (rule_between q) j)) a → AreNoCfg a.attributes
    of_alternative q j a k (inl m) = of_level q j a k m
    of_alternative q j a k (inr m) = of_pass q (tighter (rule_between q) j) a m

    of_key : (q : Rule) (level : Option ℕ) → AsksNothing q → AsksNothing (rule_of_key f q level)
    of_key q None k = k
    of_key q (Some j) k = record {
      rule = k.rule;
      alternatives = λ a m. of_alternative q j a k
          (among_parts (level_alternatives f q j) (pass_downs f q (tighter (rule_between q) j)) a m);
    }

-- nothing of the leveled grammar asks for features
pub leveled_asks_nothing : (features : List Text) (w : Grammar) (f : Text → ℕ → Text) (r : Rule) →
    Among (rules_of (leveled_grammar f (resolved_grammar (without_disabled features w))).items) r → AsksNothing r
leveled_asks_nothing features w f r i =
    leveled_asks f (resolved_grammar (without_disabled features w))
    (λ q j. resolved_asks (without_disabled features w) (λ p k. left_asks features w p k) q j) r i
