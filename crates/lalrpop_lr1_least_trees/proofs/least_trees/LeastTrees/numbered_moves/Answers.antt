use Rattle.std.proofs.Common.{[], ◌∷◌}
use Rattle.lalrpop_lr1_least_trees.proofs.AnswerLemmas.{lent_least, lent_moves, lent_names}
use Rattle.lalrpop_lr1_least_trees.proofs.least_trees.LeastTrees.numbered_moves.Goals as goal

pub least_moves-requires-clause-names : goal.least_moves-requires-clause-names
least_moves-requires-clause-names c =
    lent_names c.args.self.now c.requires c.args.leaves c.as_slice-rules.result.now c.entries.result.now c.as_slice-rules.ensures.value
    c.entries.ensures

pub least_moves-requires-clause-least : goal.least_moves-requires-clause-least
least_moves-requires-clause-least c =
    lent_least c.args.self.now c.requires c.args.leaves c.as_slice-rules.result.now c.entries.result.now c.as_slice-rules.ensures.value
    c.entries.ensures

pub returns : goal.returns
returns c =
    lent_moves c.args.self.now c.requires c.args.leaves c.as_slice-rules.result.now c.entries.result.now c.as_slice-rules.ensures.value
    c.entries.ensures (c.args.number ∷ []) _ c.in_ok-moves.ensures
