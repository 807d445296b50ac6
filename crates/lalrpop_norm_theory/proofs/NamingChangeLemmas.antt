-- Grammars whose rules differ by declared types, symbols and attributes alone have the same names; for dropping and resolving.
use Rattle.std.proofs.Common.{◌≡◌, ℕ, List, [], ◌∷◌, refl, ap, sym, ◌∙◌, subst}
use Rattle.std.specs.Prelude.{Option, Some, None, map}
use Rattle.lalrpop_grammar_symbols.specs.Symbols.{Text, Closed, Closeds}
use Rattle.lalrpop_grammar_language.specs.Among.{Among}
use Rattle.lalrpop_grammar_language.specs.Enabled.{EnabledGrammar, EnabledRule, rules_named}
use Rattle.lalrpop_grammar_language.specs.Expansion.{Nonterminal, InExpansion}
use Rattle.lalrpop_grammar_language.proofs.PlaceLemmas.{among_map}
use Rattle.lalrpop_norm_theory.specs.Keys.{text_beside, text_at_level, level_text, closed_text, leveled_key_text, with_number}
use Rattle.lalrpop_norm_theory.specs.Keys.{IsNextNumber, IsNaming}
use Rattle.lalrpop_norm_theory.specs.Same.{SameExpansion}
use Rattle.lalrpop_grammar_language.proofs.AmongLemmas.{map_among}
use Rattle.lalrpop_norm_theory.proofs.RuleChangeLemmas.{RuleChange, changed_rule, KeepsRanks, HasChangedRules, KeepsSides, loosest_kept}
use Rattle.lalrpop_norm_theory.proofs.RuleChangeLemmas.{named_kept, rule_after, changed_expansion}

-- texts of keys

text_at_kept : (w : RuleChange) → KeepsRanks w.attributes → (n : Text) (level : ℕ) (rs : List EnabledRule) →
    text_at_level n level (map (changed_rule w) rs) ≡ text_at_level n level rs
text_at_kept w k n level [] = refl
text_at_kept w k n level (r ∷ []) = ap (text_beside n level) (loosest_kept w k r)
text_at_kept w k n level (r ∷ s ∷ rs) = refl

level_text_kept : (w : RuleChange) (g h : EnabledGrammar) → HasChangedRules w g h → (n : Text) (level : Option ℕ) →
    level_text h n level ≡ level_text g n level
level_text_kept w g h k n None = refl
level_text_kept w g h k n (Some level) =
    ap (text_at_level n level) (named_kept w g h k n) ∙ text_at_kept w k.ranks n level (rules_named g n)

-- keys print alike
pub key_text_kept : (w : RuleChange) (g h : EnabledGrammar) → HasChangedRules w g h → (x : Closed) →
    leveled_key_text h x ≡ leveled_key_text g x
key_text_kept w g h k x = ap (λ f. closed_text f x) texts
  where
    texts : level_text h ≡ level_text g
    texts = λ i n level. level_text_kept w g h k n level i

-- names

next_kept : (w : RuleChange) (g h : EnabledGrammar) → HasChangedRules w g h →
    ((x : Nonterminal) → InExpansion h x → InExpansion g x) → (number : Closed → ℕ) (text : Text) (k : ℕ) →
    IsNextNumber h (leveled_key_text h) number text k → IsNextNumber g (leveled_key_text g) number text k
next_kept w g h c back number text k IsNextNumber.first = IsNextNumber.first
next_kept w g h c back number text k (IsNextNumber.after_key y i t n) =
    IsNextNumber.after_key y (back (Nonterminal.closed y) i) (sym (key_text_kept w g h c y) ∙ t) n
next_kept w g h c back number text k (IsNextNumber.after_macro q i some name) =
    let r = among_map (changed_rule w) g.rules q (subst (λ rs. Among rs q) c.rules i) in
    IsNextNumber.after_macro r.0 r.1 (λ none. some (ap (λ (e : EnabledRule). e.parameters) (sym r.2) ∙ none))
    (ap (λ (e : EnabledRule). e.name) r.2 ∙ name)

-- names of the changed grammar's expansion are names of the other's
pub changed_naming : (w : RuleChange) (g h : EnabledGrammar) → HasChangedRules w g h → KeepsSides w g h → (prefix : Text)
    (name_of : Nonterminal → Text) → IsNaming (leveled_key_text h) prefix h name_of → IsNaming (leveled_key_text g) prefix g name_of
changed_naming w g h c s prefix name_of a = record {
  number = a.number;
  apart = λ x y i j e. a.apart x y (same.there x i) (same.there y j) e;
  starts = λ n i. a.starts n (same.there (Nonterminal.start n) i);
  rules = λ r i none. ap (λ l. name_of (Nonterminal.closed (Closed.call r.name Closeds.none l))) (sym (loosest_kept w c.ranks r))
      ∙ a.rules (changed_rule w r) (rule_after w g h c r.name r i) none;
  macros = λ r x i some j e. a.macros (changed_rule w r) x
      (subst (λ rs. Among rs (changed_rule w r)) (sym c.rules) (map_among (changed_rule w) g.rules r i)) some (same.there x j) e;
  printed = λ x i. a.printed x (same.there (Nonterminal.closed x) i) ∙ ap (λ t. with_number t (a.number x)) (key_text_kept w g h c x);
  packed = λ x i. subst (λ t. IsNextNumber g (leveled_key_text g) a.number t (a.number x)) (key_text_kept w g h c x)
      (next_kept w g h c back a.number (leveled_key_text h x) (a.number x) (a.packed x (same.there (Nonterminal.closed x) i)));
}
  where
    same : SameExpansion g h (λ y. y)
    same = changed_expansion w g h c s

    back : (y : Nonterminal) → InExpansion h y → InExpansion g y
    back y j = let u = same.no_other y j in subst (InExpansion g) (sym u.2) u.1
