-- The actions of an expansion's productions are numbered in one order, label by label: for those who compare two lists of productions.
use Rattle.std.proofs.Common.{◌≡◌, ◌∙◌, ◌<◌, ◌≤◌, ◌⊎◌, inl, inr, List, Contains, ap, arith, subst, sym}
use Rattle.std.proofs.lemmas.Bool.{cases_lt}
use Rattle.lalrpop_grammar_symbols.specs.Symbols.{Text}
use Rattle.lalrpop_grammar.specs.WrittenGrammar.{Origin}
use Rattle.lalrpop_grammar_language.specs.Enabled.{EnabledGrammar}
use Rattle.lalrpop_grammar_language.specs.Expansion.{InExpansion, Nonterminal, Produces}
use Rattle.lalrpop_grammar_language.specs.Labels.{Label}
use Rattle.lalrpop_lr1_theory.specs.Productions.{Production}
use Rattle.lalrpop_norm_theory.specs.Inlined.{IsInlined}
use Rattle.lalrpop_norm_theory.specs.Productions.{IsOriginBefore}
use Rattle.lalrpop_run_theory.specs.Expansions.{AreExpansion}
use Rattle.lalrpop_run.specs.Asked.{enabled}
use Rattle.lalrpop_run.specs.OneAnswer.{NumbersAreInOneOrder}
use Rattle.lalrpop_run.specs.ProductionOrders.{IsNumberedBefore, label_head}
use Rattle.lalrpop_run.proofs.FilledLabelLemmas.{head_inlined}
use Rattle.lalrpop_run.proofs.LabelOrderLemmas.{numbered_apart, origins_apart}
use Rattle.lalrpop_run.proofs.OneOrderLemmas.{order_once_named}

-- A production stands under the name of its label's nonterminal, which is in the expansion.
pub record IsUnderItsLabel (g : EnabledGrammar) (name_of : Nonterminal → Text) (p : Production) (label : Label Nonterminal Origin) :
    Type 0 where
  pub there : InExpansion g (label_head label)
  pub left_is : p.left ≡ name_of (label_head label)

pub under_label : (g : EnabledGrammar) (prefix : Text) (G : Production → Type 0) (e : AreExpansion g prefix G) (p : Production) → G p →
    IsUnderItsLabel g e.name_of p (e.label_of p.action)
under_label g prefix G e p i =
    let w = e.no_other p i in
    let s = w.3 in
    let head : w.0 ≡ label_head (e.label_of p.action) =
    sym (head_inlined (Produces g) (IsInlined g) w.0 w.1 w.2 s.produced) ∙ ap label_head (sym s.label_is) in
    record { there = subst (InExpansion g) head s.in_expansion; left_is = s.left_is ∙ ap e.name_of head }

pub numbers_in_one_order : NumbersAreInOneOrder
numbers_in_one_order q w some others e f names p r u v i j k l same one two less =
    go (cases_lt u.action v.action) (cases_lt v.action u.action)
  where
    -- productions of one label stand under one name
    alike : (a b : Production) → Contains some a → Contains others b →
        e.expansion.label_of a.action ≡ f.expansion.label_of b.action → a.left ≡ b.left
    alike a b c d label =
        let x = under_label (enabled q w) w.prefix (Contains some) e.expansion a c in
        let y = under_label (enabled q w) w.prefix (Contains others) f.expansion b d in
        x.left_is ∙ names (label_head (e.expansion.label_of a.action)) x.there
        ∙ ap (λ (m : Label Nonterminal Origin). f.expansion.name_of (label_head m)) label ∙ sym y.left_is

    orders : e.order ≡ f.order
    orders =
        order_once_named (enabled q w) e.expansion.name_of f.expansion.name_of e.order f.order names e.is_order f.is_order

    never : v.action < u.action → ⊥
    never h =
        let back = f.in_order v u l k (sym (alike r v j l two) ∙ sym same ∙ alike p u i k one) h in
        let under : IsNumberedBefore Nonterminal Origin IsOriginBefore e.order (f.expansion.label_of v.action)
        (f.expansion.label_of u.action) =
        subst (λ (o : List Nonterminal). IsNumberedBefore Nonterminal Origin IsOriginBefore o (f.expansion.label_of v.action)
        (f.expansion.label_of u.action)) (sym orders) back in
        numbered_apart IsOriginBefore origins_apart e.order (e.expansion.label_of p.action) (e.expansion.label_of r.action)
        (e.in_order p r i j same less)
        (subst (λ (m : Label Nonterminal Origin). IsNumberedBefore Nonterminal Origin IsOriginBefore e.order m
        (e.expansion.label_of p.action)) (sym two)
        (subst (λ (m : Label Nonterminal Origin). IsNumberedBefore Nonterminal Origin IsOriginBefore e.order
        (f.expansion.label_of v.action) m) (sym one) under))

    equal : u.action ≡ v.action → ⊥
    equal h =
        let labels : e.expansion.label_of p.action ≡ e.expansion.label_of r.action =
        one ∙ ap f.expansion.label_of h ∙ sym two in
        let is : p ≡ r = e.expansion.once p r i j labels in
        let numbers : p.action ≡ r.action = ap (λ (a : Production). a.action) is in
        omega (arith, numbers, less)

    go : (u.action < v.action) ⊎ (v.action ≤ u.action) → (v.action < u.action) ⊎ (u.action ≤ v.action) → u.action < v.action
    go (inl h) t = h
    go (inr h) (inl t) = absurd (never t)
    go (inr h) (inr t) = absurd (equal (omega (arith, h, t)))
