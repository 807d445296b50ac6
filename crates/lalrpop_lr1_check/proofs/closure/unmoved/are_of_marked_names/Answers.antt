use Rattle.std.proofs.Common.{◌≡◌, ◌∙◌, ◌↔◌, [], List, ℕ, false, sym, subst, true}
use Rattle.std.specs.Prelude.{slice_index_or}
use Rattle.lalrpop_lr1_least_trees.specs.Searches.{number_lists}
use Rattle.lalrpop_lr1_first.specs.declared.place.NumberedRule.{NumberedRule}
use Rattle.lalrpop_lr1_barren.specs.Clauses.{IsMarked}
use Rattle.lalrpop_lr1_check_lookaheads.specs.ListTests.{HoldsAtEach}
use Rattle.lalrpop_lr1_check.specs.RuleLists.{HasMarkedName}
use Rattle.lalrpop_lr1_check.proofs.RuleListLemmas.{alike_names, alike_productions, listed_alike}
use Rattle.lalrpop_lr1_check.proofs.closure.unmoved.are_of_marked_names.Goals as goal

pub returns-then-have_marked_names : goal.returns-then-have_marked_names
returns-then-have_marked_names c =
    let t = c.args.table.now in
    let lists = number_lists c.args.rules.now in
    let ps = c.args.productions.now in
    let ns = c.args.names.now in
    let named = subst (λ (rules : List NumberedRule). (c.have_marked_names.result ≡ true)
    ↔ HoldsAtEach (λ _ r. HasMarkedName rules ns.marks.items r) ps.numbers.items) c.rules.ensures
    (subst (λ marks. (c.have_marked_names.result ≡ true) ↔ HoldsAtEach (λ _ r. HasMarkedName c.rules.result.now marks r) ps.numbers.items)
    c.as_slice-2.ensures.value
    (subst (λ numbers. (c.have_marked_names.result ≡ true)
    ↔ HoldsAtEach (λ _ r. HasMarkedName c.rules.result.now c.as_slice-2.result.now r) numbers) c.as_slice.ensures.value
    c.have_marked_names.ensures)) in
    let listed = subst (λ marks. (c.have_listed_marks.result ≡ true)
    ↔ HoldsAtEach (λ _ name. HoldsAtEach (λ _ n. IsMarked marks n) (slice_index_or lists name [])) ns.numbers.items)
    c.as_slice-then-have_marked_names-2.ensures.value
    (subst (λ (numbers : List ℕ). (c.have_listed_marks.result ≡ true)
    ↔ HoldsAtEach (λ _ name. HoldsAtEach (λ _ n. IsMarked c.as_slice-then-have_marked_names-2.result.now n)
    (slice_index_or lists name [])) numbers) c.as_slice-then-have_marked_names.ensures.value c.have_listed_marks.ensures) in (
      λ e. listed_alike t lists c.requires.rules ps ns c.requires.productions c.requires.names
          (named.0 c.if-have_marked_names.true) (listed.0 e),
      λ h. listed.1 (alike_productions t lists c.requires.rules ps ns c.requires.productions c.requires.names h),
    )

pub returns-else-have_marked_names : goal.returns-else-have_marked_names
returns-else-have_marked_names c =
    let t = c.args.table.now in
    let lists = number_lists c.args.rules.now in
    let ps = c.args.productions.now in
    let ns = c.args.names.now in
    let named = subst (λ (rules : List NumberedRule). (c.have_marked_names.result ≡ true)
    ↔ HoldsAtEach (λ _ r. HasMarkedName rules ns.marks.items r) ps.numbers.items) c.rules.ensures
    (subst (λ marks. (c.have_marked_names.result ≡ true) ↔ HoldsAtEach (λ _ r. HasMarkedName c.rules.result.now marks r) ps.numbers.items)
    c.as_slice-2.ensures.value
    (subst (λ numbers. (c.have_marked_names.result ≡ true)
    ↔ HoldsAtEach (λ _ r. HasMarkedName c.rules.result.now c.as_slice-2.result.now r) numbers) c.as_slice.ensures.value
    c.have_marked_names.ensures)) in (
      λ e. let both : true ≡ false = sym e ∙ c.if-have_marked_names.false in let w : ⊥ = cc in absurd w,
      λ h.
          let all = alike_names t lists c.requires.rules ps ns c.requires.productions c.requires.names h in
          let both : true ≡ false = sym (named.1 all) ∙ c.if-have_marked_names.false in
          let w : ⊥ = cc in absurd w,
    )
