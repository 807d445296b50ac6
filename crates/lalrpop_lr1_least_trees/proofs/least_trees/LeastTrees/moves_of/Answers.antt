use Rattle.std.proofs.Common.{◌∙◌, ◌∷◌, [], Vec, Global, map, subst, sym}
use Rattle.std.specs.Option.{option_map}
use Rattle.lalrpop_lr1_first.specs.FirstNumbers.{name_count}
use Rattle.lalrpop_lr1_least_trees.specs.LeastTrees.{AreLeastMoves}
use Rattle.lalrpop_lr1_least_trees.specs.declared.least_counts.rule.NumberMove.{NumberMove}
use Rattle.lalrpop_lr1_least_trees.specs.GrammarTrees.{production_by, HaveNames, number_rules, symbols_by}
use Rattle.lalrpop_lr1_least_trees.specs.MoveViews.{SpellsMoves, tree_move_view}
use Rattle.lalrpop_lr1_least_trees.proofs.AnswerLemmas.{moves_answer, moves_named, no_moves, nothing_there}
use Rattle.lalrpop_lr1_least_trees.proofs.least_trees.LeastTrees.moves_of.Goals as goal

pub returns-in_default : goal.returns-in_default
returns-in_default c =
    nothing_there c.args.self.now c.requires c.args.name.now c.args.leaves (sym c.number.ensures ∙ c.in_default.is)

pub name_moves-requires : goal.name_moves-requires
name_moves-requires c =
    let it = c.args.self.now in
    let found = subst (λ f. AreLeastMoves (number_rules it.table) (name_count it.table) c.args.leaves (c.in-Some.number ∷ [])
    (option_map (λ (v : Vec NumberMove Global). v.items) f)) c.in-Some-2.is c.in_ok-numbered_moves.ensures in
    subst (HaveNames it.table) (sym c.as_slice.ensures.value)
    (moves_named it c.requires c.args.name.now c.args.leaves c.in-Some.number (sym c.in-Some.ensures) c.in-Some-2.numbers.items found)

pub returns-in-None : goal.returns-in-None
returns-in-None c =
    let it = c.args.self.now in
    no_moves it c.requires c.args.name.now c.args.leaves c.in-Some.number (sym c.in-Some.ensures)
    (subst (λ f. AreLeastMoves (number_rules it.table) (name_count it.table) c.args.leaves (c.in-Some.number ∷ [])
    (option_map (λ (v : Vec NumberMove Global). v.items) f)) c.in-None.is c.in_ok-numbered_moves.ensures)

pub returns-in_ok-name_moves-in-Some-2 : goal.returns-in_ok-name_moves-in-Some-2
returns-in_ok-name_moves-in-Some-2 c =
    let it = c.args.self.now in
    let found = subst (λ f. AreLeastMoves (number_rules it.table) (name_count it.table) c.args.leaves (c.in-Some.number ∷ [])
    (option_map (λ (v : Vec NumberMove Global). v.items) f)) c.in-Some-2.is c.in_ok-numbered_moves.ensures in
    λ g of.
    moves_answer it c.requires c.args.name.now c.args.leaves g of c.in-Some.number (sym c.in-Some.ensures) c.in-Some-2.numbers.items _ found
    (subst (λ ns. SpellsMoves (symbols_by it.table) (production_by it.table) ns
    (map tree_move_view c.in_ok-name_moves-in-Some-2.field-0.items)) c.as_slice.ensures.value c.in_ok-name_moves-in-Some-2.ensures)
