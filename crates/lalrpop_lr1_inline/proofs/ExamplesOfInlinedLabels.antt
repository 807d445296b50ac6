-- Computed examples of inlined grammars under labels: what is refused as one.
use Rattle.std.proofs.Common.{◌≡◌, ◌∙◌, ℕ, [], ◌∷◌, ap, arith, refl, sym, inl, inr}
use Rattle.std.specs.Prelude.{codes}
use Rattle.lalrpop_grammar_symbols.specs.Symbols.{Text}
use Rattle.lalrpop_grammar_language.specs.Among.{Among}
use Rattle.lalrpop_grammar_repr.specs.declared.production.Production.{Production}
use Rattle.lalrpop_grammar_language.specs.Labels.{Inlinings, Label}
use Rattle.lalrpop_lr1_inline.specs.InlinedNames.{NonterminalEntries}
use Rattle.lalrpop_lr1_inline.proofs.ExamplesOfInliningOrders.{marked, production, rule, t}
use Rattle.lalrpop_lr1_inline.proofs.ExamplesOfNamedProductions.{S_by, alike, labels_differ, op_by, two_labels}
use Rattle.lalrpop_lr1_inline.specs.InlinedLabels.{AreInlinedProductions, StandOnce, production_actions}

-- S = Op "x"; Op = { "a", "a" }: actions of their own
own_actions : StandOnce (production_actions alike)
own_actions = (λ i. go01 i, (λ i. go1 i, (λ i. i, tt)))
  where
    go1 : Among {A = ℕ} (2 ∷ []) 1 → ⊥
    go1 (inl e) = (let f : ◌≡◌ {A = ℕ} 2 1 = e in omega (arith, f))
    go1 (inr i) = i

    go01 : Among {A = ℕ} (1 ∷ 2 ∷ []) 0 → ⊥
    go01 (inl e) = (let f : ◌≡◌ {A = ℕ} 1 0 = e in omega (arith, f))
    go01 (inr (inl e)) = (let f : ◌≡◌ {A = ℕ} 2 0 = e in omega (arith, f))
    go01 (inr (inr i)) = i

-- the two productions of S made one
abbrev only : Production
only = production "S" 3 (t "a" ∷ t "x" ∷ [])

abbrev merged : NonterminalEntries
merged =
    rule "Op" marked (production "Op" 0 (t "a" ∷ []) ∷ production "Op" 1 (t "a" ∷ []) ∷ []) ∷ rule "S" [] (only ∷ []) ∷ []

is_only : (p : Production) → Among (only ∷ []) p → only ≡ p
is_only p (inl e) = e
is_only p (inr i) = absurd i

inner_told : (a b : Label Text ℕ) →
    Label.choose (codes "S") 2 (Inlinings.inlined a (Inlinings.kept Inlinings.none))
    ≡ Label.choose (codes "S") 2 (Inlinings.inlined b (Inlinings.kept Inlinings.none)) →
    a ≡ b
inner_told a b e = cc

-- isn't the inlined grammar, whatever its action's label: one of two labels has no production
merged_refused : (lab : ℕ → Label Text ℕ) → AreInlinedProductions alike merged lab → ⊥
merged_refused lab h =
    let a = h.all (codes "S") (S_by 0) _ two_labels.0 in
    let b = h.all (codes "S") (S_by 1) _ two_labels.1 in
    let first : lab 3 ≡ S_by 0 = ap (λ (p : Production). lab p.action.0) (is_only a.production a.stands) ∙ a.label_is in
    let second : lab 3 ≡ S_by 1 = ap (λ (p : Production). lab p.action.0) (is_only b.production b.stands) ∙ b.label_is in
    labels_differ (inner_told (op_by 0) (op_by 1) (sym first ∙ second))

-- nor is one that has a production twice
abbrev twice : NonterminalEntries
twice = rule "Op" marked (production "Op" 0 (t "a" ∷ []) ∷ production "Op" 1 (t "a" ∷ []) ∷ []) ∷ rule "S" []
    (only ∷ only ∷ []) ∷ []

twice_refused : (lab : ℕ → Label Text ℕ) → AreInlinedProductions alike twice lab → ⊥
twice_refused lab h = (h.once (codes "S")).0 (inl refl)

-- nor one without productions of S
abbrev lost : NonterminalEntries
lost = rule "Op" marked (production "Op" 0 (t "a" ∷ []) ∷ production "Op" 1 (t "a" ∷ []) ∷ []) ∷ rule "S" [] [] ∷ []

lost_refused : (lab : ℕ → Label Text ℕ) → AreInlinedProductions alike lost lab → ⊥
lost_refused lab h = (h.all (codes "S") (S_by 0) _ two_labels.0).stands
