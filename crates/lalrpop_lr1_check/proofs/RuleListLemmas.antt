-- The rules of names, listed one after another, and the test that follows the lists: for the productions of marked names.
use Rattle.std.proofs.Common.{◌≡◌, ◌∙◌, ◌↔◌, ℕ, ◌+◌, ◌<◌, ◌≤◌, List, [], ◌∷◌, length, refl, sym, ap}
use Rattle.std.proofs.Common.{subst, inl, inr, ⊎_elim, arith, Contains, Some, slice_get}
use Rattle.std.specs.Prelude.{slice_index_or}
use Rattle.std.proofs.lemmas.Bool.{cases_lt}
use Rattle.std.proofs.lemmas.Option.{slice_get_within}
use Rattle.lalrpop_lr1_theory.proofs.ListLemmas.{contains_get, contains_here, get_contains}
use Rattle.lalrpop_lr1_theory.proofs.NameLemmas.{no_element}
use Rattle.lalrpop_lr1_theory.proofs.StepLemmas.{some_same}
use Rattle.lalrpop_lr1_first.specs.declared.numbered.Numbered.{Numbered}
use Rattle.lalrpop_lr1_first.specs.declared.place.NumberedRule.{NumberedRule}
use Rattle.lalrpop_lr1_first.specs.FirstNumbers.{name_count}
use Rattle.lalrpop_lr1_barren.specs.Clauses.{IsMarked}
use Rattle.lalrpop_lr1_check_lookaheads.specs.ListTests.{HoldsAtEach}
use Rattle.lalrpop_lr1_check.specs.BeginClauses.{begin_to}
use Rattle.lalrpop_lr1_check.specs.BeginLists.{AddsBegins}
use Rattle.lalrpop_lr1_check.specs.MarkLists.{AreListed}
use Rattle.lalrpop_lr1_check.specs.RuleLists.{AreRuleLists, HasMarkedName, IsRuleOfName}
use Rattle.lalrpop_lr1_check.specs.declared.closure.listed_marks.ListedMarks.{ListedMarks}
use Rattle.lalrpop_lr1_check.proofs.ListedBeginLemmas.{first_of, only_clause}

-- the first rules are listed at their names
abbrev pub ListsRules : List NumberedRule → ℕ → List (List ℕ) → Type 0
ListsRules rules i lists = (n r : ℕ) → Contains (slice_index_or lists n []) r ↔ ((r < i) × IsRuleOfName rules n r)

module _ (rules : List NumberedRule) where
  -- none yet
  pub rules_none : (lists : List (List ℕ)) → ((n : ℕ) → slice_index_or lists n [] ≡ []) → ListsRules rules 0 lists
  rules_none lists empty n r =
      (λ c. absurd (no_element r (subst (λ l. Contains l r) (empty n) c)), λ h. absurd (omega (arith, h.0)))

  -- a rule more
  pub rules_more : (i : ℕ) (rule : NumberedRule) (old new : List (List ℕ)) → slice_get rules i ≡ Some rule → ListsRules rules i old →
      AddsBegins (begin_to rule.left (Some i)) old new → ListsRules rules (i + 1) new
  rules_more i rule old new at are adds n r = (
    λ c. ⊎_elim
        (λ d. let p = (are n r).0 d in (omega (arith, p.0), p.1))
        (λ d.
        let e = first_of rule.left n i r (only_clause (rule.left ∷ [], i) (n ∷ [], r) d) in
        (omega (arith, e.1), (rule, ap (slice_get rules) (sym e.1) ∙ at, e.0))) ((adds.added n r).0 c),
    λ h. (adds.added n r).1 (⊎_elim
        (λ l. inl ((are n r).1 (l, h.1)))
        (λ l.
        let last : i ≡ r = omega (arith, l, h.0) in
        let same : rule ≡ h.1.0 = some_same rule h.1.0 (sym at ∙ ap (slice_get rules) last ∙ h.1.1) in
        let left : rule.left ≡ n = ap (λ (x : NumberedRule). x.left) same ∙ h.1.2 in
        inr (subst (λ k. Contains (begin_to rule.left (Some i)) (k ∷ [], r)) left
        (subst (λ k. Contains (begin_to rule.left (Some i)) (rule.left ∷ [], k)) last (contains_here (rule.left ∷ [], i) []))))
        (cases_lt r i)),
  )

-- all rules
pub rules_end : (table : Numbered) (i : ℕ) (lists : List (List ℕ)) → length table.rules.items ≤ i → length lists ≡ name_count table →
    ListsRules table.rules.items i lists → AreRuleLists table lists
rules_end table i lists past long are = record {
  long = long;
  rules = λ n r. (
    λ c. ((are n r).0 c).1,
    λ h. (are n r).1 (omega (arith, past, slice_get_within table.rules.items r h.0 h.1), h),
  );
}

-- what is listed of marks, and what is listed for marked names, says of each rule whether it is marked as its name is
module _ (table : Numbered) (lists : List (List ℕ)) (are : AreRuleLists table lists) (productions names : ListedMarks)
    (known : AreListed productions) (named : AreListed names) where
  pub listed_alike : HoldsAtEach (λ _ r. HasMarkedName table.rules.items names.marks.items r) productions.numbers.items →
      HoldsAtEach (λ _ name. HoldsAtEach (λ _ n. IsMarked productions.marks.items n) (slice_index_or lists name [])) names.numbers.items →
      HoldsAtEach (λ r rule. IsMarked productions.marks.items r ↔ IsMarked names.marks.items rule.left) table.rules.items
  listed_alike forth back r rule at = (
    λ m. let k = contains_get productions.numbers.items r ((known r).1 m) in forth k.0 r k.1 rule at,
    λ m.
        let k = contains_get names.numbers.items rule.left ((named rule.left).1 m) in
        let j = contains_get (slice_index_or lists rule.left []) r ((are.rules rule.left r).1 (rule, at, refl)) in
        back k.0 rule.left k.1 j.0 r j.1,
  )

  pub alike_names : HoldsAtEach (λ r rule. IsMarked productions.marks.items r ↔ IsMarked names.marks.items rule.left) table.rules.items →
      HoldsAtEach (λ _ r. HasMarkedName table.rules.items names.marks.items r) productions.numbers.items
  alike_names alike k r at rule e = (alike r rule e).0 ((known r).0 (get_contains productions.numbers.items k r at))

  pub alike_productions :
      HoldsAtEach (λ r rule. IsMarked productions.marks.items r ↔ IsMarked names.marks.items rule.left) table.rules.items →
      HoldsAtEach (λ _ name. HoldsAtEach (λ _ n. IsMarked productions.marks.items n) (slice_index_or lists name [])) names.numbers.items
  alike_productions alike k n at j r e =
      let own = (are.rules n r).0 (get_contains (slice_index_or lists n []) j r e) in
      let mark = (named n).0 (get_contains names.numbers.items k n at) in
      (alike r own.0 own.1).1 (subst (IsMarked names.marks.items) (sym own.2) mark)
