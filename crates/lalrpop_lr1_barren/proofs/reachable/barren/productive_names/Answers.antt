use Rattle.std.proofs.Common.{◌≡◌, ◌∙◌, ℕ, ap, arith, false, length, map, subst, sym, true}
use Rattle.lalrpop_lr1_first.specs.FirstNumbers.{name_count}
use Rattle.lalrpop_lr1_barren.specs.Clauses.{ClausesAreWithin, Follows, IsMarked, clause_view}
use Rattle.lalrpop_lr1_barren.proofs.NameLemmas.{productive_tree, tree_productive}
use Rattle.lalrpop_lr1_barren.proofs.RuleLemmas.{trees_within}
use Rattle.lalrpop_lr1_barren.proofs.reachable.barren.productive_names.Goals as goal

pub close-requires : goal.close-requires
close-requires c =
    let t = c.args.table.now in
    let long : name_count t ≡ length c.in_ok-marks.marks.items =
    omega (arith, c.in_ok-marks.ensures.count, ap length c.names.ensures) in
    subst (λ cs. ClausesAreWithin (length c.in_ok-marks.marks.items) cs) (sym c.as_slice.ensures.value)
    (subst (λ n. ClausesAreWithin n c.in_ok-clauses.clauses.items) long
    (trees_within t c.requires c.in_ok-clauses.clauses.items c.in_ok-clauses.ensures))

pub returns : goal.returns
returns c =
    let t = c.args.table.now in
    let none = c.in_ok-marks.marks.items in
    let eq = ap (map clause_view) c.as_slice.ensures.value ∙ c.in_ok-clauses.ensures in
    let empty : (n : ℕ) → IsMarked none n → ⊥ =
    λ n m. let both : true ≡ false = sym m ∙ c.in_ok-marks.ensures.empty n in let w : ⊥ = cc in w in
    λ s A e. (
      λ m. tree_productive t c.requires none empty (subst (λ cs. Follows cs none s) eq ((c.in_ok-closed.ensures.follows s).0 m)) A e,
      λ p. (c.in_ok-closed.ensures.follows s).1 (subst (λ cs. Follows cs none s) (sym eq)
          (productive_tree t c.requires none empty p s e)),
    )
