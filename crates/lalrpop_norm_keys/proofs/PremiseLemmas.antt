-- What a search asks of a table of rules holds where it holds of the grammar between two passes; for the law.
use Rattle.std.proofs.Common.{◌≡◌, [], ◌∷◌, ap, sym, ◌∙◌, subst, inl, inr, ◌⊎◌}
use Rattle.lalrpop_grammar_language.specs.Among.{Among}
use Rattle.lalrpop_grammar_language.specs.Enabled.{EnabledGrammar, EnabledRule, IsRule, has_name, rules_named}
use Rattle.lalrpop_grammar_language.specs.Levels.{has_levels}
use Rattle.lalrpop_grammar_language.proofs.ComparisonLemmas.{same_text-refl}
use Rattle.lalrpop_grammar_language.proofs.PlaceLemmas.{among_map}
use Rattle.lalrpop_norm_theory.specs.Premises.{HasNoLevels}
use Rattle.lalrpop_grammar_language.proofs.AmongLemmas.{map_among}
use Rattle.lalrpop_norm_theory.proofs.LevelLemmas.{keeps}
use Rattle.lalrpop_norm_keys.proofs.OriginLemmas.{levels_plain, plain_grammar, plain_rule, plain_was, rule_plain}

module _ (g h : EnabledGrammar) (alike : plain_grammar g ≡ plain_grammar h) where
  -- a rule of the one grammar has one of the other that differs by origins alone
  other_rule : (r : EnabledRule) → Among g.rules r → (q : EnabledRule) × Among h.rules q × (plain_rule q ≡ plain_rule r)
  other_rule r i =
      among_map plain_rule h.rules (plain_rule r)
      (subst (λ (k : EnabledGrammar). Among k.rules (plain_rule r)) alike (map_among plain_rule g.rules r i))

  -- no rule has levels
  pub flat_back : HasNoLevels h → HasNoLevels g
  flat_back flat = λ r i.
      let w = other_rule r i in
      sym (levels_plain r) ∙ ap (λ (q : EnabledRule). has_levels q) (sym w.2) ∙ levels_plain w.0 ∙ flat w.0 w.1

  -- no two rules share a name
  pub single_back : ((q : EnabledRule) → Among h.rules q → IsRule h q.name q) → (r : EnabledRule) → Among g.rules r
      → IsRule g r.name r
  single_back single r i =
      let w = other_rule r i in
      let named : w.0.name ≡ r.name = ap (λ (q : EnabledRule). q.name) w.2 in
      let v = plain_was g w.0.name (plain_rule w.0)
      (subst (λ k. IsRule k w.0.name (plain_rule w.0)) (sym alike) (rule_plain h w.0.name w.0 (single w.0 w.1))) in
      let only : rules_named g r.name ≡ v.0 ∷ [] = subst (λ n. rules_named g n ≡ v.0 ∷ []) named v.1 in
      only ∙ ap (λ q. q ∷ []) (alone (subst (λ l. Among l r) only (keeps (has_name r.name) g.rules r i (same_text-refl r.name))))
    where
      alone : {q : EnabledRule} → (q ≡ r) ⊎ ⊥ → q ≡ r
      alone (inl e) = e
      alone (inr k) = absurd k
