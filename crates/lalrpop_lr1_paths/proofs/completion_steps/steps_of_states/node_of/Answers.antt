use Rattle.std.proofs.Common.{◌≡◌, ◌∙◌, ◌+◌, ◌*◌, ap, length, sym}
use Rattle.lalrpop_grammar_repr.specs.Maps.{at_name}
use Rattle.lalrpop_lr1_first.specs.FirstNumbers.{name_count}
use Rattle.lalrpop_lr1_first.specs.declared.numbered.Numbered.{Numbered}
use Rattle.lalrpop_lr1_least_trees.specs.declared.least_trees.LeastTrees.{LeastTrees}
use Rattle.lalrpop_lr1_paths.proofs.NameNumberLemmas.{no_node, node_there}
use Rattle.lalrpop_lr1_paths.proofs.completion_steps.steps_of_states.node_of.Goals as goal

pub returns-in-None : goal.returns-in-None
returns-in-None c =
    let none = ap (λ (t : LeastTrees). at_name c.args.name.now t.numbers) (sym c.trees-trees.ensures) ∙ sym c.number.ensures
    ∙ c.in-None.is in
    λ number below e. no_node c.args.paths.now.trees.now c.requires.trees c.args.name.now none number e

pub returns-in_ok-node_number-in-Some : goal.returns-in_ok-node_number-in-Some
returns-in_ok-node_number-in-Some c =
    let there = ap (λ (t : LeastTrees). at_name c.args.name.now t.numbers) (sym c.trees-trees.ensures) ∙ sym c.number.ensures
    ∙ c.in-Some.is in
    let long : length c.names-names.result.now ≡ name_count c.args.paths.now.trees.now.table =
    ap length c.names-names.ensures ∙ ap (λ (t : Numbered). name_count t) c.table.ensures
    ∙ ap (λ (t : LeastTrees). name_count t.table) c.trees-trees.ensures in
    node_there c.args.paths.now.trees.now c.requires.trees c.args.name.now c.args.state _ c.in-Some.number there
    (c.in_ok-node_number-in-Some.ensures ∙ ap (λ k. c.args.state * k + c.in-Some.number) long)
