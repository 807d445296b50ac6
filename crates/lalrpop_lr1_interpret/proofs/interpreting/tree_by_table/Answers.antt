use Rattle.std.proofs.Common.{◌≡◌, map, true}
use Rattle.lalrpop_lr1_theory.specs.Spans.{without_spans}
use Rattle.lalrpop_lr1_core.specs.Views.{lr_state_view, token_lookahead}
use Rattle.lalrpop_lr1_interpret.specs.Interpretations.{move_limit}
use Rattle.lalrpop_lr1_interpret.specs.NamedTrees.{name_forest, parse_tree_views}
use Rattle.lalrpop_lr1_interpret.proofs.InterpretLemmas.{fault_right, halt_within, none_made, tree_right}
use Rattle.lalrpop_lr1_interpret.proofs.interpreting.tree_by_table.Goals as goal

pub returns-in-Some : goal.returns-in-Some
returns-in-Some c = λ grammar s ts alone ok is.
    tree_right grammar s ts c.args.states.now alone ok c.args.tokens.now c.run.new.stack.trees.items c.in-Some.ensures.0 c.in-Some.tree
    (c.in-Ok.ensures.ends grammar s (map (lr_state_view (token_lookahead ts)) c.args.states.now) alone ok is) c.in-Some.ensures.1

pub unreachable-requires : goal.unreachable-requires
unreachable-requires c =
    let q = c.requires in
    let states = map (lr_state_view (token_lookahead q.terminals)) c.args.states.now in
    none_made states q.parsable.start c.args.tokens.now move_limit c.run.new.stack.trees.items
    (c.in-Ok.ensures.ends q.parsable.grammar q.parsable.start states q.parsable.alone q.parsable.checked q.is_table) c.in-None.ensures

pub fault_of-requires : goal.fault_of-requires
fault_of-requires c =
    let q = c.requires in
    let states = map (lr_state_view (token_lookahead q.terminals)) c.args.states.now in
    halt_within c.args.table.now c.args.states.now q c.args.tokens.now move_limit true
    (λ ts _. parse_tree_views c.run.new.stack.trees.items ≡ name_forest (without_spans ts)) c.in-Err.halt
    (c.in-Err.ensures.ends q.parsable.grammar q.parsable.start states q.parsable.alone q.parsable.checked q.is_table)

pub returns : goal.returns
returns c = λ grammar s ts alone ok is.
    fault_right grammar s ts c.args.states.now alone ok c.args.tokens.now true
    (λ made _. parse_tree_views c.run.new.stack.trees.items ≡ name_forest (without_spans made)) c.in-Err.halt c.fault_of.result
    (c.in-Err.ensures.ends grammar s (map (lr_state_view (token_lookahead ts)) c.args.states.now) alone ok is) c.fault_of.ensures
