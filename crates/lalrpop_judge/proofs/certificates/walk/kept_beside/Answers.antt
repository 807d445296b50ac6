use Rattle.std.proofs.Common.{ℕ, length, subst, sym}
use Rattle.std.specs.Prelude.{MatchOption}
use Rattle.std.proofs.lemmas.List.{length-map}
use Rattle.lalrpop_lr1_first.specs.FirstSetsOf.{IsProductionOf}
use Rattle.lalrpop_lr1_interpret.specs.TreeEntries.{tree_label_view}
use Rattle.lalrpop_judge.specs.EntryMoves.{IsKeptBeside}
use Rattle.lalrpop_judge.specs.TreeRoots.{tree_root_view, tree_root_views}
use Rattle.lalrpop_judge.proofs.certificates.walk.kept_beside.Goals as goal

pub returns-in-Leaf : goal.returns-in-Leaf
returns-in-Leaf c =
    let rs = c.args.roots.now in
    subst (λ l. IsKeptBeside (IsProductionOf c.args.grammar.now) (tree_root_views rs) (tree_label_view l) c.args.entry.now.size (length rs))
    (sym c.in-Leaf.is) (sym (length-map rs tree_root_view))

pub returns-in-Node : goal.returns-in-Node
returns-in-Node c =
    let rs = tree_root_views c.args.roots.now in
    let G = IsProductionOf c.args.grammar.now in
    let size = c.args.entry.now.size in
    subst (λ l. MatchOption c.kept_beside_node.result ((kept : ℕ) → IsKeptBeside G rs (tree_label_view l) size kept → ⊥)
    (λ kept. IsKeptBeside G rs (tree_label_view l) size kept)) (sym c.in-Node.is) c.kept_beside_node.ensures
