-- Canonical states have trees on each path and completions behind each item, so nothing lacks that shows a conflict: for the law on that.
use Rattle.std.proofs.Common.{◌≡◌, ℕ, suc, List, ◌∷◌, ◌++◌, drop, length, subst, inl, inr, Contains, None}
use Rattle.lalrpop_grammar_symbols.specs.Symbols.{Terminal, Text}
use Rattle.lalrpop_grammar_symbols.specs.Views.{terminal_view}
use Rattle.lalrpop_grammar_repr.specs.declared.grammar.Grammar.{Grammar}
use Rattle.lalrpop_lr1_theory.specs.Productions.{Next, Production, Symbol, nonterminal, terminal}
use Rattle.lalrpop_lr1_theory.specs.Trees.{AreOver, Forest, Move, roots, ◌and◌}
use Rattle.lalrpop_lr1_theory.specs.Places.{IsWayTo, Way, lefts, top, under}
use Rattle.lalrpop_lr1_theory.specs.ValidItems.{CarriesOn, NoneBarren}
use Rattle.lalrpop_lr1_theory.specs.Automata.{Finished, Walk}
use Rattle.lalrpop_lr1_theory.specs.CanonicalStates.{AreCanonicalStates}
use Rattle.lalrpop_lr1_theory.specs.States.{HasEdge, HasItem, HasLookahead, State}
use Rattle.lalrpop_lr1_theory.proofs.CanonicalLemmas.{look_carried}
use Rattle.lalrpop_lr1_theory.proofs.FirstLemmas.{AllReached, reached_drop, reached_right, trees_for}
use Rattle.lalrpop_lr1_theory.proofs.PassLemmas.{some_carried}
use Rattle.lalrpop_lr1_theory.proofs.TreeLemmas.{over-and}
use Rattle.lalrpop_lr1_theory.proofs.ValidItemLemmas.{drop_on, open_from_carried}
use Rattle.lalrpop_lr1_core.specs.Views.{production_view}
use Rattle.lalrpop_lr1_core.specs.declared.conflict.Action.{Action}
use Rattle.lalrpop_lr1_core.specs.declared.conflict.Action.TheVariants as actions
use Rattle.lalrpop_lr1_core.specs.declared.conflict.Conflict.{Conflict}
use Rattle.lalrpop_lr1_core.specs.TheoryGrammars.{theory_grammar}
use Rattle.lalrpop_lr1_theory.specs.PathTrees.{ArePaths, IsStateOf, LastSteps, LedBy}
use Rattle.lalrpop_lr1_theory.proofs.PathLemmas.{walk_by_edges}
use Rattle.lalrpop_lr1_theory.proofs.CompletionLemmas.{GoesOut, carried_out}
use Rattle.lalrpop_lr1_paths.specs.PathTables.{last_steps}
use Rattle.lalrpop_lr1_paths.specs.declared.completion_steps.completion_graphs.CompletionGraphs.{CompletionGraphs}
use Rattle.lalrpop_lr1_counterexamples.specs.ShownMoves.{ShowsReduction}
use Rattle.lalrpop_lr1_counterexamples.specs.ActionMoves.{ShowsAction, ShowsShiftOf}
use Rattle.lalrpop_lr1_counterexamples.specs.ConflictMoves.{LacksConflictMoves}
use Rattle.lalrpop_lr1_counterexamples.specs.StandingConflicts.{IsOtherAction, IsStandingConflict}

-- what stands to the left of a place is over the grammar
lefts_over : (G : Production → Type 0) (s : Text) (c : Way) (xs : List Symbol) → IsWayTo G s c xs → AreOver G (lefts c)
lefts_over G s top xs fits = tt
lefts_over G s (under c l p r) xs fits =
    over-and G (lefts c) l (lefts_over G s c (roots l ++ nonterminal p.left ∷ roots r) fits.4) fits.2

module _ (grammar : List Production) (s : Text) (states : List State) (table : LastSteps) (nb : NoneBarren (Contains grammar) s)
    (can : AreCanonicalStates grammar s states) (paths : ArePaths states table) where
  -- on a path to the state the item is carried
  record IsOnPath (n : ℕ) (p : Production) (i : ℕ) (x : Next) : Type 0 where
    symbols : List Symbol
    walk : Walk (LedBy table) symbols n
    carried : CarriesOn (Contains grammar) s symbols p i x

  by_edges : (g : List Symbol) (n : ℕ) → Walk (LedBy table) g n → Walk (HasEdge states) g n
  by_edges = walk_by_edges (HasEdge states) (LedBy table) (IsStateOf states) paths

  look_on_path : (n : ℕ) (p : Production) (i : ℕ) (x : Next) → HasLookahead states n p i x → IsOnPath n p i x
  look_on_path n p i x look =
      let w = paths.all n (look.state, look.at) in
      record {
        symbols = w.0;
        walk = w.1;
        carried = look_carried (Contains grammar) s (HasItem states) (HasEdge states) (HasLookahead states) can.automaton nb w.0 n
            (by_edges w.0 n w.1) p i x look;
      }

  item_on_path : (n : ℕ) (p : Production) (i : ℕ) → HasItem states n p i → (x : Next) × IsOnPath n p i x
  item_on_path n p i held =
      let w = paths.all n (held.state, held.at) in
      let k = some_carried (Contains grammar) s (HasItem states) (HasEdge states) can.automaton.cover nb w.0 n
      (by_edges w.0 n w.1) p i held in
      (k.0, record { symbols = w.0; walk = w.1; carried = k.1 })

  -- moves lead out behind an item, from the state so many places back as its dot has symbols in front
  abbrev GoesOutBehind : ℕ → Production → ℕ → Next → Type 0
  GoesOutBehind n p i x =
      GoesOut (Contains grammar) s (HasItem states) (HasEdge states) (LedBy table)
      (IsStateOf states) can.automaton.cover paths nb n i p.left x

  way_behind : (n : ℕ) (p : Production) (i : ℕ) (x : Next) → IsOnPath n p i x → GoesOutBehind n p i x
  way_behind n p i x on =
      carried_out (Contains grammar) s (HasItem states) (HasEdge states) (LedBy table) (IsStateOf states) can.automaton.cover paths nb
      on.symbols n on.walk p i x on.carried

  look_way : (n : ℕ) (p : Production) (i : ℕ) (x : Next) → HasLookahead states n p i x → GoesOutBehind n p i x
  look_way n p i x look = way_behind n p i x (look_on_path n p i x look)

  item_way : (n : ℕ) (p : Production) (i : ℕ) → HasItem states n p i → (x : Next) × GoesOutBehind n p i x
  item_way n p i held = let k = item_on_path n p i held in (k.0, way_behind n p i k.0 k.1)

  -- trees with the symbols of a path to the state
  path_trees : (n : ℕ) (p : Production) (i : ℕ) → HasItem states n p i →
      (g : List Symbol) × Walk (LedBy table) g n × (ts : Forest) × AreOver (Contains grammar) ts × (roots ts ≡ g)
  path_trees n p i held =
      let k = item_on_path n p i held in
      let o = open_from_carried (Contains grammar) s nb k.1.symbols p i k.0 k.1.carried in
      let c = under o.way o.l p o.r in
      let over = over-and (Contains grammar) (lefts c) o.a (lefts_over (Contains grammar) s c p.right o.fits) o.over in
      (k.1.symbols, k.1.walk, lefts c and o.a, over, o.on)

  -- trees for what stands behind an item's dot, past the symbol there
  rest_trees : (n : ℕ) (p : Production) (i : ℕ) → HasItem states n p i → (X : Symbol) (b : List Symbol) →
      drop i p.right ≡ X ∷ b →
      (ts : Forest) × AreOver (Contains grammar) ts × (roots ts ≡ b)
  rest_trees n p i held X b d =
      let k = item_on_path n p i held in
      let o = open_from_carried (Contains grammar) s nb k.1.symbols p i k.0 k.1.carried in
      trees_for (Contains grammar) s nb b
      (subst (AllReached (Contains grammar) s) (drop_on X b p.right i d)
      (reached_drop (Contains grammar) s (suc i) p.right (reached_right (Contains grammar) s p o.reached o.fits.0)))

module _ (g : Grammar) (s : Text) (states : List State) (ways : CompletionGraphs) (nb : NoneBarren (Contains (theory_grammar g)) s)
    (can : AreCanonicalStates (theory_grammar g) s states) (paths : ArePaths states (last_steps ways.paths.now)) where
  -- nothing is missing that shows a reduction, or a shift, that a state allows
  reduction_leads : (n : ℕ) (p : Production) (front : List Move) (x : Next) → Finished (HasLookahead states) n p x →
      ShowsReduction g s states ways n p front x None → ⊥
  reduction_leads n p front x look nowhere =
      let r = look_way (theory_grammar g) s states (last_steps ways.paths.now) nb can paths n p (length p.right) x look in
      nowhere r.state r.out.moves r.out.left r.back r.out.leads r.out.next

  shift_leads : (n m : ℕ) (front : List Move) (t : Terminal) → HasEdge states n (terminal t) m →
      ShowsShiftOf g s states ways n front t None → ⊥
  shift_leads n m front t edge (inl none) =
      let it = can.automaton.cover.only n (terminal t) m edge in
      none it.production it.dot it.rest it.item it.before
  shift_leads n m front t edge (inr it) =
      let steps = last_steps ways.paths.now in
      let us = rest_trees (theory_grammar g) s states steps nb can paths n it.production it.dot it.held (terminal t) it.rest it.at in
      let r = (item_way (theory_grammar g) s states steps nb can paths n it.production it.dot it.held).1 in
      it.lost (record { trees = us.0; over = us.1; roots_are = us.2; wanted = tt }) r.state r.out.moves r.out.left r.back r.out.leads tt

  action_leads : (n : ℕ) (p : Production) (front : List Move) (x : Next) (action : Action) → IsOtherAction states n x p action →
      ShowsAction g s states ways n front x action None → ⊥
  action_leads n p front x (actions.Shift t m) acts lacks = shift_leads n m.0 front (terminal_view t) acts.0 lacks
  action_leads n p front x (actions.Reduce q) acts lacks =
      let q' = production_view q.now in
      reduction_leads n q' front x acts.0 (lacks (can.automaton.held n q' (length q'.right) x acts.0))

  pub lacks_none : (x : Next) (conflict : Conflict (List ℕ)) → IsStandingConflict states x conflict →
      LacksConflictMoves g s states ways conflict.state.0 x conflict → ⊥
  lacks_none x conflict stands (inl none) =
      let p = production_view conflict.production.now in
      let n = conflict.state.0 in
      let f = path_trees (theory_grammar g) s states (last_steps ways.paths.now) nb can paths n p (length p.right)
      (can.automaton.held n p (length p.right) x stands.reduces) in
      none f.0 f.1 f.2 f.3 f.4
  lacks_none x conflict stands (inr (front, inl nowhere)) =
      reduction_leads conflict.state.0 (production_view conflict.production.now) front x stands.reduces nowhere
  lacks_none x conflict stands (inr (front, inr lacks)) =
      action_leads conflict.state.0 (production_view conflict.production.now) front x conflict.action stands.acts lacks
