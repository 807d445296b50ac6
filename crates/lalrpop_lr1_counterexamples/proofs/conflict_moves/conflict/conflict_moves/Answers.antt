use Rattle.std.proofs.Common.{List, None, Some, inl, inr, map, option_map, subst, sym, ap, ◌∙◌}
use Rattle.lalrpop_grammar_repr.specs.declared.grammar.Grammar.{Grammar}
use Rattle.lalrpop_lr1_theory.specs.Automata.{Walk}
use Rattle.lalrpop_lr1_theory.specs.Productions as theory
use Rattle.lalrpop_lr1_first.specs.FirstSetsOf.{IsProductionOf}
use Rattle.lalrpop_lr1_first.specs.NumberedGrammars.{IsNumberTableOf}
use Rattle.lalrpop_lr1_theory.specs.PathTrees.{LedBy}
use Rattle.lalrpop_lr1_paths.specs.PathForests.{HaveForestMoves}
use Rattle.lalrpop_lr1_paths.specs.PathTables.{last_steps}
use Rattle.lalrpop_lr1_core.specs.Views.{lr_state_view, production_view}
use Rattle.lalrpop_lr1_least_trees.specs.MoveViews.{tree_move_view}
use Rattle.lalrpop_lr1_counterexamples.specs.ShownMoves.{ShowsReduction, next_of, next_ways}
use Rattle.lalrpop_lr1_counterexamples.specs.ActionMoves.{ShowsAction}
use Rattle.lalrpop_lr1_counterexamples.proofs.ConflictLemmas.{on_path, paths_told, reduction_told}
use Rattle.lalrpop_lr1_counterexamples.proofs.conflict_moves.conflict.conflict_moves.Goals as goal

pub returns-in_default : goal.returns-in_default
returns-in_default g c = λ grammar s look states are at held. inl (
    paths_told grammar s states c.args.any.now.ways.now are c.args.number c.paths-paths.result.now
    (ap (λ it. it.paths.now) (sym c.ways.ensures) ∙ sym c.paths-paths.ensures) None
    (subst (λ found. (h : Grammar) (syms : List theory.Symbol) → IsNumberTableOf h c.paths-paths.result.now.trees.now.table →
    Walk (LedBy (last_steps c.paths-paths.result.now)) syms c.args.number → HaveForestMoves (IsProductionOf h) syms
    (option_map (λ moves. map tree_move_view moves.items) found)) c.in_default.is c.in_ok-shared.ensures))

pub returns-in_default-2 : goal.returns-in_default-2
returns-in_default-2 g c = λ grammar s look states are at held. inr (
  map tree_move_view c.as_slice-front.result.now,
  inl (
      let ways = c.args.any.now.ways.now in
      let p = production_view c.args.conflict.now.production.now in
      let front = map tree_move_view c.as_slice-front.result.now in
      let x = next_of c.args.next.now in
      subst (λ found. ShowsReduction grammar s states ways c.args.number p front x
      (option_map (λ moves. map tree_move_view moves.items) found))
      c.in_default-2.is
      (reduction_told grammar s states ways are c.args.number (next_ways c.args.next.now) c.requires.ways p front x
      (option_map (λ moves. map tree_move_view moves.items) c.in_ok-reducing.field-0) (c.in_ok-reducing.ensures grammar s states) held)),
)

pub returns-in_default-3 : goal.returns-in_default-3
returns-in_default-3 g c = λ grammar s look states are at held. inr (
  map tree_move_view c.as_slice-front.result.now,
  inr (
      subst (λ found. ShowsAction grammar s states c.args.any.now.ways.now c.args.number (map tree_move_view c.as_slice-front.result.now)
      (next_of c.args.next.now) c.args.conflict.now.action (option_map (λ moves. map tree_move_view moves.items) found))
      c.in_default-3.is (c.in_ok-other.ensures grammar s look states are at)),
)

pub returns : goal.returns
returns g c = λ grammar s look states are at held.
    let ways = c.args.any.now.ways.now in
    let p = production_view c.args.conflict.now.production.now in
    let shared = map tree_move_view c.in-Some.shared.items in
    let x = next_of c.args.next.now in
    let told = paths_told grammar s states ways are c.args.number c.paths-paths.result.now
    (ap (λ it. it.paths.now) (sym c.ways.ensures) ∙ sym c.paths-paths.ensures)
    (option_map (λ moves. map tree_move_view moves.items) (Some c.in-Some.shared))
    (subst (λ found. (h : Grammar) (syms : List theory.Symbol) → IsNumberTableOf h c.paths-paths.result.now.trees.now.table →
    Walk (LedBy (last_steps c.paths-paths.result.now)) syms c.args.number → HaveForestMoves (IsProductionOf h) syms
    (option_map (λ moves. map tree_move_view moves.items) found)) c.in-Some.is c.in_ok-shared.ensures) in
    let path = on_path grammar s states ways are c.args.number shared (lr_state_view look c.args.state.now, at) told in
    record {
      forest = path.0;
      on_path = path.1;
      reduces = subst (λ front. ShowsReduction grammar s states ways c.args.number p (map tree_move_view front) x
          (Some (map tree_move_view c.in-Some-2.reducing.items))) c.as_slice-front.ensures.value
          (subst (λ found. ShowsReduction grammar s states ways c.args.number p (map tree_move_view c.as_slice-front.result.now) x
          (option_map (λ moves. map tree_move_view moves.items) found)) c.in-Some-2.is
          (reduction_told grammar s states ways are c.args.number (next_ways c.args.next.now) c.requires.ways p
          (map tree_move_view c.as_slice-front.result.now) x
          (option_map (λ moves. map tree_move_view moves.items) c.in_ok-reducing.field-0)
          (c.in_ok-reducing.ensures grammar s states) held));
      acts = subst (λ front. ShowsAction grammar s states ways c.args.number (map tree_move_view front) x c.args.conflict.now.action
          (Some (map tree_move_view c.in-Some-3.other.items))) c.as_slice-front.ensures.value
          (subst (λ found. ShowsAction grammar s states ways c.args.number (map tree_move_view c.as_slice-front.result.now) x
          c.args.conflict.now.action (option_map (λ moves. map tree_move_view moves.items) found)) c.in-Some-3.is
          (c.in_ok-other.ensures grammar s look states are at));
    }
