use Rattle.std.proofs.Common.{◌≡◌, [], arith, length, subst}
use Rattle.lalrpop_lr1_least_trees.specs.NumberedTrees.{rule_views}
use Rattle.lalrpop_lr1_least_trees.specs.Openings.{AreOpening}
use Rattle.lalrpop_lr1_least_trees.proofs.OpenedTreeLemmas.{have_rules, none_case, none_left, opening_ends, opening_starts, opening_step}
use Rattle.lalrpop_lr1_least_trees.proofs.least_counts.moves.moves_of.Goals as goal

pub loop-symbol-init : goal.loop-symbol-init
loop-symbol-init c =
    rw (c.in_ok-pending.ensures.items, c.in_ok-moves.ensures.items) (opening_starts (rule_views c.args.rules.now) (length c.args.table.now)
    c.args.leaves c.args.table.now c.requires.names c.requires.least c.args.symbols.now c.args.count c.requires.count)

pub open_tree-requires : goal.open_tree-requires
open_tree-requires c =
    have_rules (rule_views c.args.rules.now) (length c.args.table.now) c.args.leaves c.args.table.now c.requires.names c.requires.least

pub loop-symbol-smaller : goal.loop-symbol-smaller
loop-symbol-smaller c =
    let moves = c.loop-symbol.moves.items in
    let s = opening_step (rule_views c.args.rules.now) (length c.args.table.now) c.args.leaves c.args.table.now c.requires.names
    c.requires.least
    c.args.symbols.now c.args.count c.loop-symbol.pending.items c.pop.new.self.items c.open_tree.new.pending.items c.in-Some.symbol moves
    c.push.new.self.items c.in-Some.ensures.items c.loop-symbol.invariant c.in_ok-open_tree.field-0 c.in_ok-open_tree.ensures
    c.in_ok-push.ensures.items c.requires.small in
    omega (arith, s.fell, c.loop-symbol.invariant.count_is, s.next.count_is)

pub loop-symbol-preserved : goal.loop-symbol-preserved
loop-symbol-preserved c =
    (opening_step (rule_views c.args.rules.now) (length c.args.table.now) c.args.leaves c.args.table.now c.requires.names c.requires.least
    c.args.symbols.now c.args.count c.loop-symbol.pending.items c.pop.new.self.items c.open_tree.new.pending.items c.in-Some.symbol
    c.loop-symbol.moves.items c.push.new.self.items c.in-Some.ensures.items c.loop-symbol.invariant c.in_ok-open_tree.field-0
    c.in_ok-open_tree.ensures c.in_ok-push.ensures.items c.requires.small).next

pub returns : goal.returns
returns c =
    let pending = c.loop-symbol.pending.items in
    let none = none_case c.pop.result _ _ c.pop.ensures.cases c.in_default.not-Some in
    let empty : pending ≡ [] = none_left pending (omega (arith, none.0)) in
    rw c.reverse.ensures.items (opening_ends (rule_views c.args.rules.now) (length c.args.table.now) c.args.leaves c.args.table.now
    c.requires.names c.requires.least c.args.symbols.now c.args.count c.requires.count c.loop-symbol.moves.items
    (subst (λ l. AreOpening (rule_views c.args.rules.now) (length c.args.table.now) c.args.leaves c.args.table.now c.args.symbols.now
    c.args.count l c.loop-symbol.moves.items) empty c.loop-symbol.invariant))
