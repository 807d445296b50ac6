-- Computed examples of labels under names and what they are back, and of productions that don't stand under their names.
use Rattle.std.proofs.Common.{◌≡◌, ◌≢◌, ◌∙◌, ℕ, zero, suc, [], ◌∷◌, ap, arith, inl, inr, length, refl, subst, sym}
use Rattle.std.specs.Prelude.{codes}
use Rattle.lalrpop_grammar_symbols.specs.declared.names.NonterminalString.{NonterminalString}
use Rattle.lalrpop_grammar.specs.WrittenGrammar.{Origin}
use Rattle.lalrpop_grammar_language.specs.Among.{Among}
use Rattle.lalrpop_grammar_language.specs.Expansion.{Nonterminal}
use Rattle.lalrpop_grammar_repr.specs.declared.production.NonterminalData.{NonterminalData}
use Rattle.lalrpop_grammar_repr.specs.declared.production.Production.{Production}
use Rattle.lalrpop_lr1_inline.specs.InlinedNames.{NonterminalEntries}
use Rattle.lalrpop_lr1_inline.proofs.ExamplesOfInliningOrders as orders
use Rattle.lalrpop_lr1_inline.proofs.ExamplesOfNamedProductions.{S_by, alike}
use Rattle.lalrpop_run_theory.proofs.ExamplesOfExpansions as expansions
use Rattle.lalrpop_run_prepare.specs.NamedGrammars.{StandUnderNames}
use Rattle.lalrpop_run_prepare.specs.NamedLabels.{label_back}

-- S = Op "x"; Op = { "a", "a" }: two actions of `Op`, then one of `S`
abbrev source : ℕ → Nonterminal × Origin
source zero = (expansions.rule "Op", expansions.place "Op" 0)
source (suc zero) = (expansions.rule "Op", expansions.place "Op" 1)
source (suc (suc k)) = (expansions.rule "S", expansions.place "S" 0)

-- each of the two labels of `S` is that of its choices
first_back : label_back source (S_by 0) ≡ expansions.by_op 0
first_back = refl

second_back : label_back source (S_by 1) ≡ expansions.by_op 1
second_back = refl

-- and not of the other's
not_back : label_back source (S_by 1) ≢ expansions.by_op 0
not_back e =
    let inner : expansions.op 1 ≡ expansions.op 0 = cc in
    let origins : expansions.place "Op" 1 ≡ expansions.place "Op" 0 = cc in
    let places : ◌≡◌ {A = ℕ} 1 0 = cc in
    omega (arith, places)

abbrev Entry : Type 0
Entry = NonterminalString × NonterminalData

-- the productions stand under their names
stand : StandUnderNames alike
stand e p (inl same) i =
    op p (subst (λ (d : Entry). Among d.1.productions p) (sym same) i) ∙ ap (λ (d : Entry). d.0) same
  where
    op : (q : Production) →
        Among (orders.production "Op" 0 (orders.t "a" ∷ []) ∷ orders.production "Op" 1 (orders.t "a" ∷ []) ∷ []) q →
        q.nonterminal ≡ record { 0 = codes "Op" }
    op q (inl f) = ap (λ (z : Production). z.nonterminal) (sym f)
    op q (inr (inl f)) = ap (λ (z : Production). z.nonterminal) (sym f)
    op q (inr (inr j)) = absurd j
stand e p (inr (inl same)) i =
    s p (subst (λ (d : Entry). Among d.1.productions p) (sym same) i) ∙ ap (λ (d : Entry). d.0) same
  where
    s : (q : Production) → Among (orders.production "S" 2 (orders.n "Op" ∷ orders.t "x" ∷ []) ∷ []) q →
        q.nonterminal ≡ record { 0 = codes "S" }
    s q (inl f) = ap (λ (z : Production). z.nonterminal) (sym f)
    s q (inr j) = absurd j
stand e p (inr (inr j)) i = absurd j

-- one of `S` under `Op` doesn't
abbrev misplaced : NonterminalEntries
misplaced = orders.rule "Op" [] (orders.production "S" 0 (orders.t "a" ∷ []) ∷ []) ∷ []

misplaced_stand : StandUnderNames misplaced → ⊥
misplaced_stand h =
    let names = h (orders.rule "Op" [] (orders.production "S" 0 (orders.t "a" ∷ []) ∷ []))
    (orders.production "S" 0 (orders.t "a" ∷ [])) (inl refl) (inl refl) in
    let texts : codes "S" ≡ codes "Op" = ap (λ (n : NonterminalString). n.0) names in
    let lengths : length (codes "S") ≡ length (codes "Op") = ap length texts in
    omega (arith, lengths)
