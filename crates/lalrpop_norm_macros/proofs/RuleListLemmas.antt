-- Rules of keys put one behind another; for the walk over the keys.
use Rattle.std.proofs.Common.{◌≡◌, ℕ, ◌+◌, List, [], ◌∷◌, ◌++◌, refl, ap, sym, ◌∙◌, subst, arith, length}
use Rattle.std.proofs.Common.{◌<◌, get_or, map, take}
use Rattle.std.proofs.lemmas.List.{length-map, length-take-le}
use Rattle.lalrpop_grammar_rules.specs.Views.{closed_view}
use Rattle.lalrpop_grammar_rules.specs.declared.closed.closed_symbol.ClosedSymbol.{ClosedSymbol}
use Rattle.lalrpop_norm_keys.proofs.TableLemmas.{take_next}
use Rattle.lalrpop_grammar_symbols.specs.Symbols.{Closed}
use Rattle.lalrpop_grammar.specs.WrittenGrammar.{Rule}
use Rattle.lalrpop_norm_macros.specs.FinishedRules.{AreRulesFrom}

module _ (is : ℕ → Closed → Rule → Type 0) where
  pub rules_more : (k j : ℕ) (xs : List Closed) (x : Closed) (rs : List Rule) (r : Rule) → k + length xs ≡ j
      → AreRulesFrom is k xs rs
      → is j x r → AreRulesFrom is k (xs ++ x ∷ []) (rs ++ r ∷ [])
  rules_more k j [] x rs r e w h =
      let here : k ≡ j = omega arith in
      (r, [], ap (λ l. l ++ r ∷ []) w, subst (λ i. is i x r) (sym here) h, refl)
  rules_more k j (y ∷ xs) x rs r e (q, rest, f, p, more) h =
      (q, rest ++ r ∷ [], ap (λ l. l ++ r ∷ []) f, p, rules_more (k + 1) j xs x rest r (omega arith) more h)

  pub rules_put : (keys : List ClosedSymbol) (i : ℕ) (x : ClosedSymbol) (made new : List Rule) (r : Rule) → i < length keys
      → x ≡ get_or keys i x → new ≡ made ++ r ∷ [] → AreRulesFrom is 0 (map closed_view (take i keys)) made
      → is i (closed_view x) r
      → AreRulesFrom is 0 (map closed_view (take (i + 1) keys)) new
  rules_put keys i x made new r below here more w h =
      subst (λ l. AreRulesFrom is 0 l new) (sym (take_next closed_view keys i x below here))
      (subst (AreRulesFrom is 0 (map closed_view (take i keys) ++ closed_view x ∷ [])) (sym more)
      (rules_more 0 i (map closed_view (take i keys)) (closed_view x) made r count w h))
    where
      many : length (map closed_view (take i keys)) ≡ i
      many = length-map (take i keys) closed_view ∙ length-take-le i keys (omega arith)

      count : 0 + length (map closed_view (take i keys)) ≡ i
      count = omega (arith, many)
