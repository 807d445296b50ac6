-- Computed examples: the labels of a lowered grammar's productions after inlining, and what steps make of them.
use Prim.Native.String.{String}
use Rattle.std.proofs.Common.{◌≡◌, ◌≢◌, ℕ, [], ◌∷◌, ◌∙◌, refl, ap, sym, subst, inl, inr, arith}
use Rattle.std.specs.Prelude.{codes}
use Rattle.lalrpop_grammar_symbols.specs.Symbols.{Terminal, Text}
use Rattle.lalrpop_grammar_language.specs.Expansion.{GrammarSymbol}
use Rattle.lalrpop_grammar_language.specs.Labels.{GrammarSymbols, Inlinings, Label}
use Rattle.lalrpop_grammar_language.specs.Inlining.{Inlines, InlinesAll}
use Rattle.lalrpop_grammar_language.specs.Steps.{label_with, symbols_after, symbols_before}
use Rattle.lalrpop_lr1_inline.specs.InlinedNames.{NonterminalEntries}
use Rattle.lalrpop_lr1_inline.specs.NamedProductions.{IsInlinedByName, ProducesByAction, label_given, record_by_labels, side_by_names}
use Rattle.lalrpop_lr1_inline.proofs.ExamplesOfInliningOrders.{marked, n, nested, production, rule, t}
use Rattle.lalrpop_lr1_inline.proofs.ExamplesOfInliningSteps.{by, same}

abbrev pub bare : String → GrammarSymbol Text
bare s = GrammarSymbol.terminal (Terminal.bare (codes s))

-- S = Op "x"; Op = { "a", "a" }
abbrev pub alike : NonterminalEntries
alike =
    rule "Op" marked (production "Op" 0 (t "a" ∷ []) ∷ production "Op" 1 (t "a" ∷ []) ∷ [])
    ∷ rule "S" [] (production "S" 2 (n "Op" ∷ t "x" ∷ []) ∷ []) ∷ []

-- the label of Op's production with this action, in which nothing is inlined
abbrev pub op_by : ℕ → Label Text ℕ
op_by action = label_given (codes "Op") action (bare "a" ∷ [])

-- the label of S's production in which Op is inlined, by its production with this action
abbrev pub S_by : ℕ → Label Text ℕ
S_by action = Label.choose (codes "S") 2 (Inlinings.inlined (op_by action) (Inlinings.kept Inlinings.none))

-- a production of Op, of each action
abbrev IsOp : ℕ → Type 0
IsOp action = Inlines (ProducesByAction alike) (IsInlinedByName alike) (codes "Op") (op_by action) (bare "a" ∷ [])

first_op : IsOp 0
first_op = (refl, bare "a" ∷ [], (production "Op" 0 (t "a" ∷ []), inl refl, refl, refl), (tt, [], refl, refl))

second_op : IsOp 1
second_op = (refl, bare "a" ∷ [], (production "Op" 1 (t "a" ∷ []), inr (inl refl), refl, refl), (tt, [], refl, refl))

S_after : (action : ℕ) → IsOp action →
    Inlines (ProducesByAction alike) (IsInlinedByName alike) (codes "S") (S_by action) (bare "a" ∷ bare "x" ∷ [])
S_after action op = (
  refl,
  GrammarSymbol.nonterminal (codes "Op") ∷ bare "x" ∷ [],
  (production "S" 2 (n "Op" ∷ t "x" ∷ []), inl refl, refl, refl),
  (
    refl,
    record { front = bare "a" ∷ []; rest = bare "x" ∷ []; side_is = refl; is_front = op; is_rest = (tt, [], refl, refl) },
  ),
)

-- two labels with equal right sides
pub two_labels : Inlines (ProducesByAction alike) (IsInlinedByName alike) (codes "S") (S_by 0) (bare "a" ∷ bare "x" ∷ [])
    × Inlines (ProducesByAction alike) (IsInlinedByName alike) (codes "S") (S_by 1) (bare "a" ∷ bare "x" ∷ [])
two_labels = (S_after 0 first_op, S_after 1 second_op)

-- the label of Op's production isn't the other's, so one production can't stand for both
pub labels_differ : op_by 0 ≢ op_by 1
labels_differ e = (let actions : ◌≡◌ {A = ℕ} 0 1 = cc in omega (arith, actions))

-- the labels that the records of the step make
labels_made : (action : ℕ) →
    label_with (label_given (codes "S") 2 (side_by_names (n "Op" ∷ t "x" ∷ [])))
    (record_by_labels op_by (by action (t "a" ∷ []) ∷ same (t "x") ∷ [])) ≡ S_by action
labels_made action = refl

sides_made : (symbols_before (codes "Op") (record_by_labels op_by (by 0 (t "a" ∷ []) ∷ same (t "x") ∷ []))
    ≡ side_by_names (n "Op" ∷ t "x" ∷ []))
    × (symbols_after (record_by_labels op_by (by 0 (t "a" ∷ []) ∷ same (t "x") ∷ [])) ≡ bare "a" ∷ bare "x" ∷ [])
sides_made = (refl, refl)

-- S = A "z"; A = B "y"; B = { "p", "q" }: the second step puts the first one's label into S's
abbrev B_by_q : Label Text ℕ
B_by_q = label_given (codes "B") 2 (bare "q" ∷ [])

abbrev A_by_q : Label Text ℕ
A_by_q = Label.choose (codes "A") 0 (Inlinings.inlined B_by_q (Inlinings.kept Inlinings.none))

first_nested : label_with (label_given (codes "A") 0 (side_by_names (n "B" ∷ t "y" ∷ [])))
    (record_by_labels (λ action. B_by_q) (by 2 (t "q" ∷ []) ∷ same (t "y") ∷ [])) ≡ A_by_q
first_nested = refl

second_nested : label_with (label_given (codes "S") 3 (side_by_names (n "A" ∷ t "z" ∷ [])))
    (record_by_labels (λ action. A_by_q) (by 5 (t "q" ∷ t "y" ∷ []) ∷ same (t "z") ∷ []))
    ≡ Label.choose (codes "S") 3 (Inlinings.inlined A_by_q (Inlinings.kept Inlinings.none))
second_nested = refl

-- a label that keeps a place of an inlined nonterminal is none
keeps_place : (side : GrammarSymbols Text) →
    Inlines (ProducesByAction nested) (IsInlinedByName nested) (codes "S")
    (Label.choose (codes "S") 3 (Inlinings.kept (Inlinings.kept Inlinings.none))) side → ⊥
keeps_place side (same, before, (p, inl is, action, symbols), all) =
    let before_is : side_by_names (n "A" ∷ t "z" ∷ []) ≡ before = ap (λ q. side_by_names q.symbols) is ∙ symbols in
    let k = subst
    (λ b. InlinesAll (ProducesByAction nested) (IsInlinedByName nested) b (Inlinings.kept (Inlinings.kept Inlinings.none)) side)
    (sym before_is) all in
    k.0 refl
keeps_place side (same, before, (p, inr i, action, symbols), all) = absurd i
