-- Computed examples of sets that are put into columns, and of reductions that get the sets of their actions, beside answers that are refused.
use Rattle.std.proofs.Common.{◌≡◌, ◌∙◌, ℕ, zero, suc, true, false, List, [], ◌∷◌, Some, slice_get, refl, sym, subst, ap, inl, ⊎_elim, arith}
use Rattle.std.specs.Borrow.{Bor}
use Rattle.lalrpop_grammar_repr.specs.declared.production.Production.{Production}
use Rattle.lalrpop_lr1_core.specs.declared.conflict.Action.{Action}
use Rattle.lalrpop_lr1_core.specs.declared.conflict.Action.TheVariants.{Reduce}
use Rattle.lalrpop_lr1_theory.proofs.ListLemmas.{none_some}
use Rattle.lalrpop_lr1_theory.proofs.StepLemmas.{some_same}
use Rattle.lalrpop_sets.specs.AscendingLists.{has}
use Rattle.lalrpop_lane_theory.specs.Columns.{InColumn}
use Rattle.lalrpop_lane_tables.specs.AppliedSets.{HaveSetsOfActions, IsReductionBy}
use Rattle.lalrpop_lane_tables.specs.ColumnAnswers.{AreColumns, ColumnsMeetComing, GathersApart, HasToken, IsColumnOfSet}
use Rattle.lalrpop_lane_tables.specs.ColumnAnswers.{NewTokens}

-- two columns, with 7 in the first
abbrev sevens : List (List ℕ)
sevens = (7 ∷ []) ∷ [] ∷ []

in_sevens : (c x : ℕ) → InColumn HasToken sevens c x → (c ≡ 0) × HasToken (7 ∷ []) x
in_sevens zero x i = (refl, subst (λ (l : List ℕ). has l x ≡ true) (some_same i.0 (7 ∷ []) (sym i.1)) i.2)
in_sevens (suc zero) x i =
    let z : false ≡ true = subst (λ (l : List ℕ). has l x ≡ true) (some_same i.0 [] (sym i.1)) i.2 in
    let w : ⊥ = cc in absurd w
in_sevens (suc (suc c)) x i = absurd (none_some i.0 i.1)

-- 7 doesn't fit into the second column, and fits into its own, where it isn't new
seven_meets : ColumnsMeetComing sevens (IsColumnOfSet 1 (7 ∷ []))
seven_meets = record {
  one = 1;
  other = 0;
  token = 7;
  apart = λ e. omega (arith, e);
  comes = (refl, refl);
  there = inl (7 ∷ [], refl, refl);
}

seven_fits : ColumnsMeetComing sevens (IsColumnOfSet 0 (7 ∷ [])) → ⊥
seven_fits m = ⊎_elim
    (λ i. m.apart (sym m.comes.0 ∙ sym (in_sevens m.other m.token i).0))
    (λ t. m.apart (sym m.comes.0 ∙ t.0)) m.there

seven_is_old : NewTokens sevens 0 (7 ∷ []) → ⊥
seven_is_old n = n.2 (7 ∷ [], refl, n.1)

-- a wrong answer: both columns hold 7 now
both_refused : GathersApart (IsColumnOfSet 1 (7 ∷ [])) sevens ((7 ∷ []) ∷ (7 ∷ []) ∷ []) → ⊥
both_refused g = g.free seven_meets

-- no columns hold nothing; two that hold one token are none
no_columns : AreColumns 0 (λ c x. ⊥) []
no_columns = record {
  long = refl;
  holds = λ c x. (λ i. absurd (none_some i.0 i.1), λ h. absurd h);
  apart = λ c d x h k. absurd h;
}

tie_refused : AreColumns 2 (λ c x. x ≡ 7) ((7 ∷ []) ∷ (7 ∷ []) ∷ []) → ⊥
tie_refused are = omega (arith, are.apart 0 1 7 refl refl)

-- a reduction by the second of two actions gets the second set, and by no clause the first
abbrev empty_production : ℕ → Production
empty_production n =
    record { nonterminal = record { 0 = 65 ∷ [] }; symbols = []; action = record { 0 = n }; span = record { 0 = 0; 1 = 0 } }

abbrev lent_production : ℕ → Bor Production
lent_production n = record { ref_ptr = (n, 0); now = empty_production n }

abbrev two_actions : List Action
two_actions = Reduce (lent_production 0) ∷ Reduce (lent_production 1) ∷ []

gets_its_set : HaveSetsOfActions two_actions ((3 ∷ []) ∷ (4 ∷ []) ∷ []) (([], lent_production 1) ∷ []) ((4 ∷ [], lent_production 1) ∷ [])
gets_its_set = ((refl, (1, Reduce (lent_production 1), refl, refl, refl)), tt)

other_set_refused : HaveSetsOfActions two_actions ((3 ∷ []) ∷ (4 ∷ []) ∷ []) (([], lent_production 1) ∷ [])
    ((3 ∷ [], lent_production 1) ∷ []) → ⊥
other_set_refused h = at h.0.1.0 h.0.1.1 h.0.1.2 h.0.1.3 h.0.1.4
  where
    at : (c : ℕ) (a : Action) → slice_get two_actions c ≡ Some a → IsReductionBy a (empty_production 1) →
        slice_get {X = List ℕ} ((3 ∷ []) ∷ (4 ∷ []) ∷ []) c ≡ Some (3 ∷ []) → ⊥
    at zero a e r s =
        let z : empty_production 0 ≡ empty_production 1 = subst (λ b. IsReductionBy b (empty_production 1)) (sym (some_same (Reduce (lent_production 0)) a e)) r in
        let w : 0 ≡ 1 = ap (λ (p : Production). p.action.0) z in omega (arith, w)
    at (suc zero) a e r s =
        let z : ◌≡◌ {A = List ℕ} (4 ∷ []) (3 ∷ []) = some_same {A = List ℕ} (4 ∷ []) (3 ∷ []) s in
        let w : true ≡ false = ap (λ (l : List ℕ). has l 4) z in let v : ⊥ = cc in v
    at (suc (suc c)) a e r s = none_some a e

-- no reduction, nothing to do
nothing_to_apply : HaveSetsOfActions two_actions ((3 ∷ []) ∷ (4 ∷ []) ∷ []) [] []
nothing_to_apply = tt
