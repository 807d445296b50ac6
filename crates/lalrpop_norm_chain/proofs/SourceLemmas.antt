-- The rules that dropping, resolving and levels leave, each by the rule that it was; for the laws of what passes leave.
use Rattle.std.proofs.Common.{◌≡◌, List, [], ◌∷◌, refl, ap, subst, cond, Bool, true, false, inl, inr}
use Rattle.std.specs.Prelude.{Some, None, ℕ, filter_map}
use Rattle.std.specs.List.{cons_option}
use Rattle.lalrpop_grammar_symbols.specs.Symbols.{Text}
use Rattle.lalrpop_grammar.specs.WrittenGrammar.{Rule, WrittenItem, Grammar, rules_of}
use Rattle.lalrpop_grammar_language.specs.Among.{Among}
use Rattle.lalrpop_grammar_language.specs.Enabled.{is_active}
use Rattle.lalrpop_grammar_language.proofs.PlaceLemmas.{among_map}
use Rattle.lalrpop_norm_theory.specs.Between.{enabled_part, enabled_item}
use Rattle.lalrpop_norm_theory.specs.Premises.{IsReadGrammar, IsReadRule}
use Rattle.lalrpop_norm_theory.specs.Resolving.{defined_names, resolved_rule, resolved_grammar}
use Rattle.lalrpop_norm_theory.proofs.ResolvingLemmas.{rules_resolved}
use Rattle.lalrpop_norm_theory.specs.LeveledGrammar.{leveled_grammar}
use Rattle.lalrpop_norm_theory.proofs.LeveledRuleLemmas.{OfKey, key_only, rules_of-leveled}

-- a rule is one of the items
pub rule_item : (items : List WrittenItem) (r : Rule) → Among (rules_of items) r → Among items (WrittenItem.nonterminal r)
rule_item [] r i = absurd i
rule_item (WrittenItem.nonterminal q ∷ items) r (inl e) = inl (ap WrittenItem.nonterminal e)
rule_item (WrittenItem.nonterminal q ∷ items) r (inr i) = inr (rule_item items r i)
rule_item (WrittenItem.match_token groups place ∷ items) r i = inr (rule_item items r i)
rule_item (WrittenItem.extern_token block ∷ items) r i = inr (rule_item items r i)
rule_item (WrittenItem.intern_token entries ∷ items) r i = inr (rule_item items r i)
rule_item (WrittenItem.import text ∷ items) r i = inr (rule_item items r i)

-- a rule that was read
pub read_rule : (w : Grammar) → IsReadGrammar w → (r : Rule) → Among (rules_of w.items) r → IsReadRule r
read_rule w read r i = read.items (WrittenItem.nonterminal r) (rule_item w.items r i)

-- a rule that is left is what is enabled of a rule
pub left_source : (features : List Text) (items : List WrittenItem) (r : Rule) →
    Among (rules_of (filter_map (enabled_item features) items)) r →
    (q : Rule) × Among (rules_of items) q × (is_active features q.attributes ≡ true) × (enabled_part features q ≡ r)
left_source features [] r i = absurd i
left_source features (WrittenItem.match_token groups place ∷ items) r i = left_source features items r i
left_source features (WrittenItem.extern_token block ∷ items) r i = left_source features items r i
left_source features (WrittenItem.intern_token entries ∷ items) r i = left_source features items r i
left_source features (WrittenItem.import text ∷ items) r i = left_source features items r i
left_source features (WrittenItem.nonterminal q ∷ items) r i =
    go (is_active features q.attributes) refl i (λ k. left_source features items r k)
  where
    others : List WrittenItem
    others = filter_map (enabled_item features) items

    go : (b : Bool) → is_active features q.attributes ≡ b →
        Among (rules_of (cons_option (cond b (Some (WrittenItem.nonterminal (enabled_part features q))) None) others)) r →
        (Among (rules_of others) r →
        (p : Rule) × Among (rules_of items) p × (is_active features p.attributes ≡ true) × (enabled_part features p ≡ r)) →
        (p : Rule) × Among (q ∷ rules_of items) p × (is_active features p.attributes ≡ true) × (enabled_part features p ≡ r)
    go true e (inl k) later = (q, inl refl, e, k)
    go true e (inr k) later = let u = later k in (u.0, inr u.1, u.2, u.3)
    go false e k later = let u = later k in (u.0, inr u.1, u.2, u.3)

-- a rule of the grammar with its names resolved is a rule with its names resolved
pub resolved_source : (g : Grammar) (r : Rule) → Among (rules_of (resolved_grammar g).items) r →
    (q : Rule) × Among (rules_of g.items) q × (resolved_rule (defined_names g) q ≡ r)
resolved_source g r i =
    among_map (resolved_rule (defined_names g)) (rules_of g.items) r
    (subst (λ (rs : List Rule). Among rs r) (rules_resolved (defined_names g) g.items) i)

-- a rule of the leveled grammar is that of a level, or one without levels
pub leveled_source : (f : Text → ℕ → Text) (g : Grammar) (r : Rule) → Among (rules_of (leveled_grammar f g).items) r →
    OfKey f (rules_of g.items) r
leveled_source f g r i =
    key_only f (rules_of g.items) r (subst (λ (rs : List Rule). Among rs r) (rules_of-leveled f g.items) i)
