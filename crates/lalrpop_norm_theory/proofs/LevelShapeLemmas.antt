-- Which levels are public, what stays where there are no levels, and sides; for the law of what levels leave.
use Rattle.std.specs.Str.{bytes_eq}
use Rattle.std.proofs.Common.{◌≡◌, ℕ, List, [], ◌∷◌, ◌++◌, refl, ap, sym, ◌∙◌, subst, cond, Bool, true, false}
use Rattle.std.proofs.Common.{inl, inr}
use Rattle.std.specs.Prelude.{Option, Some, None, map, flat_map, codes, ◌↔◌}
use Rattle.std.proofs.lemmas.Bool.{true≢false, and_parts, and_from, eqb-true, eq-eqb}
use Rattle.lalrpop_grammar_symbols.specs.Symbols.{Text}
use Rattle.lalrpop_grammar.specs.WrittenGrammar.{Rule, Grammar, WrittenItem, rules_of}
use Rattle.lalrpop_grammar_language.specs.Among.{Among}
use Rattle.lalrpop_grammar_language.specs.Enabled.{EnabledRule, IsRule}
use Rattle.lalrpop_grammar_language.specs.Levels.{Assoc, assoc_of, or_assoc, has_levels, loosest}
use Rattle.lalrpop_grammar_language.proofs.PlaceLemmas.{among_map, same_text-eq}
use Rattle.lalrpop_norm_theory.specs.Between.{rule_between}
use Rattle.lalrpop_norm_theory.specs.Premises.{HasNoLevels}
use Rattle.lalrpop_grammar_language.proofs.AmongLemmas.{map_among}
use Rattle.lalrpop_norm_theory.specs.LevelRules.{level_name}
use Rattle.lalrpop_norm_theory.specs.LeveledGrammar.{levels_in_order, is_the_level, rule_at_level, leveled_rules, leveled_item}
use Rattle.lalrpop_norm_theory.specs.LeveledGrammar.{leveled_grammar}
use Rattle.lalrpop_norm_theory.specs.LevelFaults.{side_of}
use Rattle.lalrpop_norm_theory.specs.LevelLaws.{IsLevelable}
use Rattle.lalrpop_norm_theory.proofs.LevelOrderLemmas.{one_named, one_rule}
use Rattle.lalrpop_norm_theory.proofs.LeveledRuleLemmas.{OfKey, rule_of_key, rule_key, key_rule, names_differ}
use Rattle.lalrpop_norm_theory.proofs.LevelAttrLemmas.{flat_key}
use Rattle.lalrpop_norm_theory.proofs.RightLevelLemmas.{has_loosest}
use Rattle.lalrpop_norm_theory.proofs.LevelNameLemmas.{before, after}

-- no levels are left
pub leveled_flat : (finds : Text → Text → Option Bool) (g : Grammar) (f : Text → ℕ → Text) → HasNoLevels (after finds g f)
leveled_flat finds g f q i =
    let u = rule_key finds g f q i in
    ap has_levels (sym (ap rule_between u.2.is_it ∙ u.1)) ∙ flat_key f u.2.rule u.2.level u.2.has_level

-- who is public

is_loosest : (j : ℕ) (o : Option ℕ) → is_the_level j o ≡ true → o ≡ Some j
is_loosest j None e = cc
is_loosest j (Some m) e = ap Some (sym (eqb-true j m e))

public_key : (finds : Text → Text → Option Bool) (g : Grammar) (f : Text → ℕ → Text) → IsLevelable finds g f → (r : Rule)
    (level : Option ℕ) → Among (rules_of g.items) r → (rule_between (rule_of_key f r level)).public ≡ true →
    (r.name ≡ (rule_between (rule_of_key f r level)).name) × (r.public ≡ true)
public_key finds g f w r None i e = (refl, e)
public_key finds g f w r (Some j) i e =
    let parts = and_parts r.public (is_the_level j (loosest (rule_between r))) e in
    let is : loosest (rule_between r) ≡ Some j = is_loosest j (loosest (rule_between r)) parts.1 in
    (sym (w.names.loosest_kept r i) ∙ ap (level_name f r.name) is, parts.0)

loosest_public : (f : Text → ℕ → Text) (r : Rule) → r.public ≡ true →
    (rule_between (rule_of_key f r (loosest (rule_between r)))).public ≡ true
loosest_public f r e = go (loosest (rule_between r)) refl
  where
    go : (o : Option ℕ) → loosest (rule_between r) ≡ o → (rule_between (rule_of_key f r o)).public ≡ true
    go None is = e
    go (Some m) is =
        and_from r.public (is_the_level m (loosest (rule_between r))) e (ap (is_the_level m) is ∙ eq-eqb m m refl)

-- a rule is public just where it has the name of a public written one
pub public_as_written : (finds : Text → Text → Option Bool) (g : Grammar) (f : Text → ℕ → Text) → IsLevelable finds g f →
    (q : EnabledRule) → Among (after finds g f).rules q →
    (q.public ≡ true) ↔ ((r : EnabledRule) × Among (before finds g).rules r × (r.name ≡ q.name) × (r.public ≡ true))
public_as_written finds g f w q i = (forth (rule_key finds g f q i), λ h. back h.0 h.1 h.2 h.3)
  where
    forth : ((k : Rule) × (rule_between k ≡ q) × OfKey f (rules_of g.items) k) → q.public ≡ true →
        (r : EnabledRule) × Among (before finds g).rules r × (r.name ≡ q.name) × (r.public ≡ true)
    forth u e =
        let same : rule_between (rule_of_key f u.2.rule u.2.level) ≡ q = ap rule_between u.2.is_it ∙ u.1 in
        let parts = public_key finds g f w u.2.rule u.2.level u.2.among (ap (λ p. p.public) same ∙ e) in (
          rule_between u.2.rule,
          map_among rule_between (rules_of g.items) u.2.rule u.2.among,
          parts.0 ∙ ap (λ p. p.name) same,
          parts.1,
        )

    back : (r : EnabledRule) → Among (before finds g).rules r → r.name ≡ q.name → r.public ≡ true → q.public ≡ true
    back r j n e =
        let u = among_map rule_between (rules_of g.items) r j in
        let o = rule_between (rule_of_key f u.0 (loosest (rule_between u.0))) in
        let named : IsRule (after finds g f) u.0.name o =
        subst (λ t. IsRule (after finds g f) t o) (w.names.loosest_kept u.0 u.1)
        (key_rule finds g f w.names u.0 (loosest (rule_between u.0)) u.1 (has_loosest g w.right u.0 u.1)) in
        let own : IsRule (after finds g f) q.name q = one_named (after finds g f).rules q (names_differ finds g f w.names) i in
        let names : u.0.name ≡ q.name = ap (λ p. p.name) u.2 ∙ n in
        let same : o ≡ q = one_rule (after finds g f) q.name o q (subst (λ t. IsRule (after finds g f) t o) names named) own in
        ap (λ p. p.public) (sym same) ∙ loosest_public f u.0 (ap (λ p. p.public) u.2 ∙ e)

-- without levels

rule_stays_whole : (f : Text → ℕ → Text) (r : Rule) → has_levels (rule_between r) ≡ false → leveled_rules f r ≡ r ∷ []
rule_stays_whole f r e = ap (λ b. cond b (map (rule_at_level f r) (levels_in_order (rule_between r))) (r ∷ [])) e

items_stay : (f : Text → ℕ → Text) (items : List WrittenItem) →
    ((r : Rule) → Among (rules_of items) r → has_levels (rule_between r) ≡ false) → flat_map (leveled_item f) items ≡ items
items_stay f [] flat = refl
items_stay f (WrittenItem.nonterminal r ∷ items) flat =
    ap (λ rs. map WrittenItem.nonterminal rs ++ flat_map (leveled_item f) items) (rule_stays_whole f r (flat r (inl refl)))
    ∙ ap (λ l. WrittenItem.nonterminal r ∷ l) (items_stay f items (λ q i. flat q (inr i)))
items_stay f (WrittenItem.match_token groups place ∷ items) flat =
    ap (λ l. WrittenItem.match_token groups place ∷ l) (items_stay f items flat)
items_stay f (WrittenItem.extern_token block ∷ items) flat = ap (λ l. WrittenItem.extern_token block ∷ l) (items_stay f items flat)
items_stay f (WrittenItem.intern_token entries ∷ items) flat = ap (λ l. WrittenItem.intern_token entries ∷ l) (items_stay f items flat)
items_stay f (WrittenItem.import text ∷ items) flat = ap (λ l. WrittenItem.import text ∷ l) (items_stay f items flat)

-- a grammar without levels stays as it is
pub without_levels_stays : (finds : Text → Text → Option Bool) (g : Grammar) (f : Text → ℕ → Text) →
    HasNoLevels (before finds g) →
    leveled_grammar f g ≡ g
without_levels_stays finds g f h =
    ap (λ l. record g { items = l }) (items_stay f g.items (λ r i. h (rule_between r) (map_among rule_between (rules_of g.items) r i)))

-- sides

-- a known side counts as it is written
pub sides : (t : Text) → assoc_of t ≡ or_assoc (side_of t) Assoc.non_assoc
sides t =
    go (bytes_eq t (codes "left")) (bytes_eq t (codes "right")) (bytes_eq t (codes "none")) (bytes_eq t (codes "all")) refl refl
  where
    go : (l r n a : Bool) → bytes_eq t (codes "none") ≡ n → bytes_eq t (codes "all") ≡ a →
        cond l Assoc.left (cond r Assoc.right (cond a Assoc.fully_assoc Assoc.non_assoc))
        ≡ or_assoc (cond l (Some Assoc.left) (cond r (Some Assoc.right) (cond n (Some Assoc.non_assoc)
        (cond a (Some Assoc.fully_assoc) None)))) Assoc.non_assoc
    go true r n a e h = refl
    go false true n a e h = refl
    go false false true true e h =
        absurd (true≢false (sym h ∙ ap (λ u. bytes_eq u (codes "all")) (same_text-eq t (codes "none") e)))
    go false false true false e h = refl
    go false false false true e h = refl
    go false false false false e h = refl
