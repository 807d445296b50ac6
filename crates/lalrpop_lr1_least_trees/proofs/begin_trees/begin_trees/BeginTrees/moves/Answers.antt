use Rattle.std.proofs.Common.{◌∙◌, ◌∷◌, [], Some, None, Vec, Global, map, subst, sym, true}
use Rattle.std.specs.Option.{option_map}
use Rattle.lalrpop_lr1_first.specs.FirstNumbers.{name_count}
use Rattle.lalrpop_lr1_least_trees.specs.LeastTrees.{AreLeastMoves}
use Rattle.lalrpop_lr1_least_trees.specs.NumberedTrees.{rule_views}
use Rattle.lalrpop_lr1_least_trees.specs.declared.least_counts.rule.NumberMove.{NumberMove}
use Rattle.lalrpop_lr1_least_trees.specs.MoveViews.{SpellsMoves, tree_move_view}
use Rattle.lalrpop_lr1_least_trees.proofs.AnswerLemmas.{nothing_there}
use Rattle.lalrpop_lr1_least_trees.specs.BeginTables.{HaveDerivedNames, derived_production_by, derived_symbol_by}
use Rattle.lalrpop_lr1_least_trees.specs.DerivedRules.{all_names}
use Rattle.lalrpop_lr1_least_trees.proofs.BeginAnswerLemmas.{begin_moves_answer, derived_named, none_begins}
use Rattle.lalrpop_lr1_least_trees.proofs.BeginLemmas.{begin_number_missing, begin_number_there}
use Rattle.lalrpop_lr1_least_trees.proofs.begin_trees.begin_trees.BeginTrees.moves.Goals as goal

pub returns-in_default : goal.returns-in_default
returns-in_default c = λ g t of w ts b.
    let it = c.args.self.now in
    let n = c.args.nonterminal.now in
    let missing = begin_number_missing it n (sym (sym c.begin_number.ensures ∙ c.in_default.is)) in
    nothing_there it.trees.now c.requires.trees n true missing g of ts b.0

pub name_moves-requires-clause-names : goal.name_moves-requires-clause-names
name_moves-requires-clause-names c =
    let it = c.args.self.now in
    let n = c.args.nonterminal.now in
    let k = begin_number_there it n c.in-Some.number c.in-Some.ensures in
    let found = subst (λ f. AreLeastMoves (rule_views it.derived.rules.items) (all_names (name_count it.trees.now.table)) true
    (c.in-Some.number ∷ []) (option_map (λ (v : Vec NumberMove Global). v.items) f)) c.in-Some-2.is c.in_ok-numbered_moves.ensures in
    let own = subst (λ b. AreLeastMoves (rule_views it.derived.rules.items) (all_names (name_count it.trees.now.table)) true
    (b ∷ []) (Some c.in-Some-2.numbers.items)) (sym k.is) found in
    subst (HaveDerivedNames it) (sym c.as_slice.ensures.value)
    (derived_named it c.requires c.requires.terminal c.requires.wanted n k.number k.at c.in-Some-2.numbers.items own.builds)

pub returns-in-None : goal.returns-in-None
returns-in-None c = λ g t of w.
    let it = c.args.self.now in
    let n = c.args.nonterminal.now in
    let k = begin_number_there it n c.in-Some.number c.in-Some.ensures in
    let found = subst (λ f. AreLeastMoves (rule_views it.derived.rules.items) (all_names (name_count it.trees.now.table)) true
    (c.in-Some.number ∷ []) (option_map (λ (v : Vec NumberMove Global). v.items) f)) c.in-None.is c.in_ok-numbered_moves.ensures in
    let own = subst (λ b. AreLeastMoves (rule_views it.derived.rules.items) (all_names (name_count it.trees.now.table)) true
    (b ∷ []) None) (sym k.is) found in
    none_begins it c.requires t w n k.number k.at g of own

pub returns-in_ok-name_moves-in-Some-2 : goal.returns-in_ok-name_moves-in-Some-2
returns-in_ok-name_moves-in-Some-2 c = λ g t of w.
    let it = c.args.self.now in
    let n = c.args.nonterminal.now in
    let k = begin_number_there it n c.in-Some.number c.in-Some.ensures in
    let found = subst (λ f. AreLeastMoves (rule_views it.derived.rules.items) (all_names (name_count it.trees.now.table)) true
    (c.in-Some.number ∷ []) (option_map (λ (v : Vec NumberMove Global). v.items) f)) c.in-Some-2.is c.in_ok-numbered_moves.ensures in
    let own = subst (λ b. AreLeastMoves (rule_views it.derived.rules.items) (all_names (name_count it.trees.now.table)) true
    (b ∷ []) (Some c.in-Some-2.numbers.items)) (sym k.is) found in
    begin_moves_answer it c.requires t w n k.number k.at g of c.in-Some-2.numbers.items _ own.builds
    (subst (λ ns. SpellsMoves (derived_symbol_by it.trees.now.table) (derived_production_by it.trees.now.table it.derived) ns
    (map tree_move_view c.in_ok-name_moves-in-Some-2.field-0.items)) c.as_slice.ensures.value c.in_ok-name_moves-in-Some-2.ensures)
