use Rattle.std.proofs.Common.{◌∙◌, ◌∷◌, [], ap, get_or, map, subst, sym, take, None, Vec, Global}
use Rattle.std.proofs.Math.Numerals.{add-one}
use Rattle.std.proofs.lemmas.List.{map-append}
use Rattle.std.proofs.lemmas.Option.{slice_get-get_or}
use Rattle.std.specs.Option.{option_map}
use Rattle.lalrpop_lr1_theory.proofs.ListLemmas.{get_contains}
use Rattle.lalrpop_lr1_first.specs.FirstSetsOf.{IsProductionOf}
use Rattle.lalrpop_lr1_first.specs.Numbers.{SpellsSymbols}
use Rattle.lalrpop_lr1_least_trees.specs.GrammarTrees.{symbols_by}
use Rattle.lalrpop_lr1_least_trees.specs.MoveViews.{tree_move_view}
use Rattle.lalrpop_lr1_least_trees.specs.declared.tree_move.TreeMove.{TreeMove}
use Rattle.lalrpop_lr1_paths.specs.PathForests.{AreForestMoves, HaveForestMoves}
use Rattle.lalrpop_lr1_paths.proofs.ForestLemmas.{forest_more, lacks_tree, spelled_at, spelled_more}
use Rattle.lalrpop_lr1_paths.proofs.state_paths.path_moves.forest_moves.Goals as goal

pub symbol_moves-requires-clause-symbol : goal.symbol_moves-requires-clause-symbol
symbol_moves-requires-clause-symbol c =
    let symbols = c.args.symbols.now in
    let i = c.loop-symbol.symbol-index in
    c.requires.symbols (get_or symbols i 0)
    (get_contains symbols i (get_or symbols i 0) (slice_get-get_or symbols i 0 c.loop-symbol-test.true))

pub returns-in-None : goal.returns-in-None
returns-in-None c = λ g syms of sp.
    let i = c.loop-symbol.symbol-index in
    let at = spelled_at (symbols_by c.args.trees.now.table) c.args.symbols.now i 0 c.loop-symbol-test.true syms sp in
    let own = subst (λ o. HaveForestMoves (IsProductionOf g) (at.symbol ∷ [])
    (option_map (λ (v : Vec TreeMove Global). map tree_move_view v.items) o)) c.in-None.is
    (c.in_ok-symbol_moves.ensures g at.symbol of at.is) in
    subst (λ l. HaveForestMoves (IsProductionOf g) l None) (sym at.parts) (lacks_tree (IsProductionOf g) at.front at.behind at.symbol own)

pub loop-symbol-preserved : goal.loop-symbol-preserved
loop-symbol-preserved c = λ g syms of sp.
    let symbols = c.args.symbols.now in
    let i = c.loop-symbol.symbol-index in
    let at = symbols_by c.args.trees.now.table in
    let more = spelled_more at symbols i 0 c.loop-symbol-test.true syms
    (subst (λ k. SpellsSymbols at (take k symbols) syms) (add-one i) sp) in
    let moves = c.loop-symbol.moves.items in
    let tree = c.in-Some.tree.items in
    let own = subst (λ o. HaveForestMoves (IsProductionOf g) (more.symbol ∷ [])
    (option_map (λ (v : Vec TreeMove Global). map tree_move_view v.items) o)) c.in-Some.is
    (c.in_ok-symbol_moves.ensures g more.symbol of more.is) in
    subst (λ l. AreForestMoves (IsProductionOf g) l (map tree_move_view c.append.new.self.items)) (sym more.parts)
    (subst (AreForestMoves (IsProductionOf g) _)
    (sym (ap (map tree_move_view) c.in_ok-append-in-Some.ensures.items ∙ map-append tree_move_view moves tree))
    (forest_more (IsProductionOf g) more.front more.symbol (map tree_move_view moves) (map tree_move_view tree)
    (c.loop-symbol.invariant g more.front of more.spelled) own))
