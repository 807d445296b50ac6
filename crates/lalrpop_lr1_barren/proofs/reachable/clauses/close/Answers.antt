use Rattle.std.proofs.Common.{◌≡◌, ◌∙◌, ◌++◌, ◌<◌, List, Some, ap, arith, length, map, slice_get, subst}
use Rattle.std.proofs.Common.{sym, false, ℕ}
use Rattle.std.specs.Option.{is_some}
use Rattle.lalrpop_lr1_least_trees.specs.LeastTrees.{AreLeast}
use Rattle.lalrpop_lr1_least_trees.specs.NumberedTrees.{NumberRule, rule_views}
use Rattle.lalrpop_lr1_barren.specs.Clauses.{IsMarked}
use Rattle.lalrpop_lr1_barren.specs.ClauseRules.{marked_rules, rule_of_clause}
use Rattle.lalrpop_lr1_barren.proofs.FollowLemmas.{closed_by, closing_rules, rules_within}
use Rattle.lalrpop_lr1_barren.proofs.reachable.clauses.close.Goals as goal

pub least_trees-requires : goal.least_trees-requires
least_trees-requires c =
    let clauses = c.args.clauses.now in
    let marks = c.args.marks.items in
    let long : c.len.result ≡ length marks =
    omega (arith, c.len.ensures, c.as_slice.ensures.len, ap length c.as_slice.ensures.value) in
    let all : rule_views c.as_slice-2.result.now ≡ closing_rules clauses marks =
    ap rule_views c.as_slice-2.ensures.value
    ∙ c.in_ok-add_seeds.ensures
    ∙ ap (λ (rs : List NumberRule). rs ++ marked_rules c.as_slice.result.now (length c.as_slice.result.now)) c.in_ok-rules.ensures
    ∙ ap (λ ms. map rule_of_clause clauses ++ marked_rules ms (length ms)) c.as_slice.ensures.value in
    subst (λ (rs : List NumberRule). (r : ℕ) → (rule : NumberRule) → slice_get rs r ≡ Some rule →
    rule.left < c.len.result) (sym all)
    (subst (λ n. (r : ℕ) → (rule : NumberRule) → slice_get (closing_rules clauses marks) r ≡ Some rule →
    rule.left < n) (sym long)
    (rules_within clauses marks c.requires))

pub returns-clause-follows : goal.returns-clause-follows
returns-clause-follows c =
    let clauses = c.args.clauses.now in
    let marks = c.args.marks.items in
    let long : c.len.result ≡ length marks =
    omega (arith, c.len.ensures, c.as_slice.ensures.len, ap length c.as_slice.ensures.value) in
    let all : rule_views c.as_slice-2.result.now ≡ closing_rules clauses marks =
    ap rule_views c.as_slice-2.ensures.value
    ∙ c.in_ok-add_seeds.ensures
    ∙ ap (λ (rs : List NumberRule). rs ++ marked_rules c.as_slice.result.now (length c.as_slice.result.now)) c.in_ok-rules.ensures
    ∙ ap (λ ms. map rule_of_clause clauses ++ marked_rules ms (length ms)) c.as_slice.ensures.value in
    let least : AreLeast (closing_rules clauses marks) (length marks) false c.in_ok-table.table.items =
    subst (λ n. AreLeast (closing_rules clauses marks) n false c.in_ok-table.table.items) long
    (subst (λ (rs : List NumberRule). AreLeast rs c.len.result false c.in_ok-table.table.items) all c.in_ok-table.ensures) in
    let seen : c.in_ok-closed.closed.items ≡ map is_some c.in_ok-table.table.items =
    c.in_ok-closed.ensures ∙ ap (map is_some) c.as_slice-3.ensures.value in
    λ n.
    let both = closed_by clauses marks c.in_ok-table.table.items least c.requires n in (
      λ m. both.0 (subst (λ l. IsMarked l n) seen m),
      λ f. subst (λ l. IsMarked l n) (sym seen) (both.1 f),
    )
