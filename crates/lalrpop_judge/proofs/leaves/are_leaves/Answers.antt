use Rattle.std.proofs.Common.{[], sym, ◌∙◌}
use Rattle.std.proofs.lemmas.List.{append-nil}
use Rattle.lalrpop_grammar.specs.Trees.{leaves}
use Rattle.lalrpop_grammar.specs.Views.{tree_view}
use Rattle.lalrpop_judge.proofs.WalkLemmas.{never}
use Rattle.lalrpop_judge.proofs.leaves.are_leaves.Goals as goal

pub returns-in-None : goal.returns-in-None
returns-in-None c = (λ e. never e, λ same. absurd (c.in-None.ensures [] (same ∙ sym (append-nil (leaves (tree_view c.args.tree.now))))))
