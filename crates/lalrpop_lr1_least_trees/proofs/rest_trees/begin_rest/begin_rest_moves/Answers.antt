use Rattle.std.proofs.Common.{◌≡◌, ◌∙◌, ◌+◌, ◌-◌, ◌∷◌, ◌++◌, [], Global, Vec, ap, append_assoc}
use Rattle.std.proofs.Common.{drop, length, map, subst, sym, take}
use Rattle.std.proofs.lemmas.List.{map-append}
use Rattle.lalrpop_grammar_symbols.specs.Views.{terminal_view}
use Rattle.lalrpop_lr1_core.specs.Views.{production_symbol_view}
use Rattle.lalrpop_lr1_first.specs.FirstSetsOf.{IsProductionOf}
use Rattle.lalrpop_lr1_first.specs.NumberedGrammars.{IsNumberTableOf}
use Rattle.lalrpop_lr1_least_trees.specs.MoveViews.{tree_move_view}
use Rattle.lalrpop_lr1_least_trees.specs.declared.least_trees.LeastTrees.{LeastTrees}
use Rattle.lalrpop_lr1_least_trees.specs.declared.tree_move.TreeMove.{TreeMove}
use Rattle.lalrpop_lr1_least_trees.specs.RestForests.{AnyLeaves, AreRestMoves, BeginsWith, HasRest, NoLeaves}
use Rattle.lalrpop_lr1_least_trees.proofs.PlaceLemmas.{moves_at, read_behind, there_is, trees_at}
use Rattle.lalrpop_lr1_least_trees.proofs.SymbolLemmas.{moves_missing, moves_there}
use Rattle.lalrpop_lr1_least_trees.proofs.rest_trees.begin_rest.begin_rest_moves.Goals as goal

pub returns-in_default-2 : goal.returns-in_default-2
returns-in_default-2 c = λ g of.
    let own = subst (λ (t : LeastTrees). IsNumberTableOf g t.table) (sym c.trees-trees.ensures) of in
    let ss = map production_symbol_view (take c.in-Some.found.place c.args.symbols.now) in
    let at = trees_at production_symbol_view c.args.symbols.now (IsProductionOf g) (terminal_view c.args.terminal.now) c.in-Some.found
    (c.in-Some.ensures.place g of) in
    absurd (there_is (IsProductionOf g) ss NoLeaves at.front
    (moves_missing (IsProductionOf g) ss NoLeaves (λ (v : Vec TreeMove Global). map tree_move_view v.items) c.in_ok-all.field-0
    (c.in_ok-all.ensures g own) c.in_default-2.is))

pub returns-in_default-3 : goal.returns-in_default-3
returns-in_default-3 c = λ g of.
    let t = terminal_view c.args.terminal.now in
    let x = c.index-symbols-place.result in
    let ss = production_symbol_view x ∷ [] in
    let at = trees_at production_symbol_view c.args.symbols.now (IsProductionOf g) t c.in-Some.found (c.in-Some.ensures.place g of) in
    absurd (there_is (IsProductionOf g) ss (BeginsWith t) (at.here x c.index-symbols-place.is)
    (moves_missing (IsProductionOf g) ss (BeginsWith t) (λ (v : Vec TreeMove Global). map tree_move_view v.items) c.in_ok-here.field-0
    (c.in_ok-here.ensures g of) c.in_default-3.is))

pub returns-in_default-4 : goal.returns-in_default-4
returns-in_default-4 c = λ g of.
    let own = subst (λ (t : LeastTrees). IsNumberTableOf g t.table) (sym c.trees-trees.ensures) of in
    let xs = c.args.symbols.now in
    let p = c.in-Some.found.place in
    let ss = map production_symbol_view (take (length xs - (p + 1)) (drop (p + 1) xs)) in
    let at = trees_at production_symbol_view xs (IsProductionOf g) (terminal_view c.args.terminal.now) c.in-Some.found
    (c.in-Some.ensures.place g of) in
    absurd (there_is (IsProductionOf g) ss AnyLeaves
    (subst (λ l. HasRest (IsProductionOf g) (map production_symbol_view l) AnyLeaves) (sym (read_behind xs p)) at.behind)
    (moves_missing (IsProductionOf g) ss AnyLeaves (λ (v : Vec TreeMove Global). map tree_move_view v.items) c.in_ok-behind.field-0
    (c.in_ok-behind.ensures g own) c.in_default-4.is))

pub returns : goal.returns
returns c = λ g of.
    let own = subst (λ (t : LeastTrees). IsNumberTableOf g t.table) (sym c.trees-trees.ensures) of in
    let xs = c.args.symbols.now in
    let p = c.in-Some.found.place in
    let x = c.index-symbols-place.result in
    let t = terminal_view c.args.terminal.now in
    let a = c.in-Some-2.all.items in
    let b = c.in-Some-3.here.items in
    let d = c.in-Some-4.behind.items in
    let moves : map tree_move_view c.append-2.new.self.items ≡ map tree_move_view a ++ (map tree_move_view b ++ map tree_move_view d) =
    ap (map tree_move_view) (c.in_ok-append-2.ensures.items ∙ ap (λ l. l ++ d) c.in_ok-append.ensures.items)
    ∙ map-append tree_move_view (a ++ b) d ∙ ap (λ l. l ++ map tree_move_view d) (map-append tree_move_view a b)
    ∙ append_assoc (map tree_move_view a) (map tree_move_view b) (map tree_move_view d) in
    subst (λ ms. AreRestMoves (IsProductionOf g) (map production_symbol_view xs) (BeginsWith t) ms) (sym moves)
    (moves_at production_symbol_view xs p x c.in-Some.ensures.inside c.index-symbols-place.is (IsProductionOf g) t (map tree_move_view a)
    (map tree_move_view b) (map tree_move_view d)
    (moves_there (IsProductionOf g) (map production_symbol_view (take p xs)) NoLeaves
    (λ (v : Vec TreeMove Global). map tree_move_view v.items) c.in_ok-all.field-0 (c.in_ok-all.ensures g own) c.in-Some-2.all
    c.in-Some-2.is)
    (moves_there (IsProductionOf g) (production_symbol_view x ∷ []) (BeginsWith t)
    (λ (v : Vec TreeMove Global). map tree_move_view v.items) c.in_ok-here.field-0 (c.in_ok-here.ensures g of) c.in-Some-3.here
    c.in-Some-3.is)
    (subst (λ l. AreRestMoves (IsProductionOf g) (map production_symbol_view l) AnyLeaves (map tree_move_view d))
    (read_behind xs p)
    (moves_there (IsProductionOf g) (map production_symbol_view (take (length xs - (p + 1)) (drop (p + 1) xs))) AnyLeaves
    (λ (v : Vec TreeMove Global). map tree_move_view v.items) c.in_ok-behind.field-0 (c.in_ok-behind.ensures g own) c.in-Some-4.behind
    c.in-Some-4.is)))
