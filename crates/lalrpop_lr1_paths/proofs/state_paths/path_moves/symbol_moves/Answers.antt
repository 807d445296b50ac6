use Rattle.std.proofs.Common.{◌≡◌, ◌∙◌, List, ◌∷◌, [], ◌++◌, ◌<◌, ap, arith, get_or, length, map}
use Rattle.std.proofs.Common.{subst, sym, Some, Vec, Global}
use Rattle.std.specs.Option.{option_map}
use Rattle.lalrpop_grammar_symbols.specs.Views.{terminal_view}
use Rattle.lalrpop_lr1_theory.specs.Productions as theory
use Rattle.lalrpop_lr1_theory.specs.Trees.{shift}
use Rattle.lalrpop_lr1_theory.proofs.StepLemmas.{some_same}
use Rattle.lalrpop_lr1_first.specs.FirstNumbers.{name_count}
use Rattle.lalrpop_lr1_first.specs.FirstSetsOf.{IsProductionOf}
use Rattle.lalrpop_lr1_first.specs.declared.numbered.Numbered.{Numbered}
use Rattle.lalrpop_lr1_least_trees.specs.MoveViews.{tree_move_view}
use Rattle.lalrpop_lr1_least_trees.specs.declared.tree_move.TreeMove.{TreeMove}
use Rattle.lalrpop_lr1_least_trees.specs.declared.tree_move.TreeMove.TheVariants as named
use Rattle.lalrpop_lr1_paths.specs.PathForests.{AreForestMoves, HaveForestMoves}
use Rattle.lalrpop_lr1_paths.proofs.ForestLemmas.{leaf_forest, tree_forest}
use Rattle.lalrpop_lr1_paths.proofs.SymbolLemmas.{name_read, terminal_within}
use Rattle.lalrpop_lr1_paths.proofs.state_paths.path_moves.symbol_moves.Goals as goal

alone : {X : Type 0} (x : X) (old new : List X) → old ≡ [] → new ≡ old ++ x ∷ [] → new ≡ x ∷ []
alone x old new e f = f ∙ ap (λ l. l ++ x ∷ []) e

pub returns-then-symbol-names : goal.returns-then-symbol-names
returns-then-symbol-names c = λ g x of e.
    let table = c.args.trees.now.table in
    let name = c.index-names-symbol.result in
    let names : c.names-names.result.now ≡ table.names.items =
    c.names-names.ensures ∙ ap (λ (t : Numbered). t.names.items) c.table-table.ensures in
    let within : c.args.symbol < name_count table = omega (arith, c.if-symbol-names.true, ap length names) in
    let read = name_read table c.args.symbol name within
    (subst (λ l. name ≡ get_or l c.args.symbol name) names c.index-names-symbol.is) in
    let found = option_map (λ (v : Vec TreeMove Global). map tree_move_view v.items) c.in_ok-moves.moves in
    subst (λ y. HaveForestMoves (IsProductionOf g) (y ∷ []) found)
    (some_same (theory.nonterminal name.now.0) x (sym read ∙ e))
    (tree_forest (IsProductionOf g) name.now.0 found (c.in_ok-moves.ensures g of))

pub terminal_at-requires-clause-within : goal.terminal_at-requires-clause-within
terminal_at-requires-clause-within c =
    let table = c.args.trees.now.table in
    let names : length c.names-names.result.now ≡ name_count table =
    ap length c.names-names.ensures ∙ ap (λ (t : Numbered). length t.names.items) c.table-table.ensures in
    omega (
      arith,
      terminal_within table c.requires.trees.table c.args.symbol c.requires.symbol (omega (arith, c.if-symbol-names.false, names)),
      ap (λ (t : Numbered). length t.names.items) c.table-table.ensures,
      ap (λ (t : Numbered). length t.terminals.now.all) c.table-table.ensures,
    )

pub returns : goal.returns
returns c = λ g x of e.
    let t = c.terminal_at.result in
    let both : Some (theory.terminal (terminal_view t.now)) ≡ Some x = cc (e, c.terminal_at.ensures) in
    let same = some_same (theory.terminal (terminal_view t.now)) x both in
    let pushed = alone (named.Shift t) c.new-moves.result.items c.push.new.self.items c.new-moves.ensures.items
    c.in_ok-push.ensures.items in
    subst (λ ms. AreForestMoves (IsProductionOf g) (x ∷ []) (map tree_move_view ms)) (sym pushed)
    (subst (λ y. AreForestMoves (IsProductionOf g) (y ∷ []) (shift (terminal_view t.now) ∷ [])) same
    (leaf_forest (IsProductionOf g) (terminal_view t.now)))
