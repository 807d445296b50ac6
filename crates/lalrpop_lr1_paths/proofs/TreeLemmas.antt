-- The paths by the edges at the states are one tree, where the states are reached: for new paths.
use Rattle.std.proofs.Common.{◌≡◌, ◌∙◌, ◌⊎◌, inl, inr, ℕ, zero, suc, ◌-◌, ◌<◌, List, [], ◌∷◌}
use Rattle.std.proofs.Common.{◌++◌, length, map, Option, Some, None}
use Rattle.std.proofs.Common.{refl, sym, ap, subst, arith, slice_get}
use Rattle.std.specs.Prelude.{flat_map}
use Rattle.std.proofs.lemmas.Option.{get_or_from_slice_get, slice_get_within}
use Rattle.lalrpop_grammar_symbols.specs.Views.{terminal_view}
use Rattle.lalrpop_grammar_symbols.specs.declared.names.NonterminalString.{NonterminalString}
use Rattle.lalrpop_grammar_symbols.specs.declared.terminal.TerminalString.{TerminalString}
use Rattle.lalrpop_grammar_repr.specs.declared.production.Symbol.{Symbol}
use Rattle.lalrpop_grammar_repr.specs.declared.production.Symbol.TheVariants as symbols
use Rattle.lalrpop_lr1_theory.specs.Automata.{Walk, goes, stands}
use Rattle.lalrpop_lr1_theory.specs.Productions as theory
use Rattle.lalrpop_lr1_theory.specs.States as states
use Rattle.lalrpop_lr1_theory.proofs.StepLemmas.{some_same}
use Rattle.lalrpop_lr1_theory.specs.PathTrees.{ArePaths, IsStateOf, LastStep, LedBy}
use Rattle.lalrpop_lr1_core.specs.Edges.{edges_of}
use Rattle.lalrpop_lr1_core.specs.Views.{lr_state_view, production_symbol_view}
use Rattle.lalrpop_lr1_core.specs.declared.state.State.{State}
use Rattle.lalrpop_lr1_core.proofs.GraphLemmas.{graph_edge_seen, seen_edge_there}
use Rattle.lalrpop_lr1_first.specs.NumberedGrammars.{table_names}
use Rattle.lalrpop_lr1_first.specs.Tables.{symbol_or}
use Rattle.lalrpop_lr1_first.specs.declared.numbered.Numbered.{Numbered}
use Rattle.lalrpop_lr1_first.proofs.TableLemmas.{long_map}
use Rattle.lalrpop_lr1_paths.specs.Graphs.{graph_edges}
use Rattle.lalrpop_lr1_paths.specs.PathSearches.{AreGoalPaths, HasNumber, path_numbers}
use Rattle.lalrpop_lr1_paths.specs.declared.graph_paths.paths.GoalPaths.{GoalPaths}
use Rattle.lalrpop_lr1_least_trees.specs.GrammarTrees.{AreLeastTrees, symbols_by}
use Rattle.lalrpop_lr1_paths.specs.declared.state_paths.path_edges.NumberEdge.{NumberEdge}
use Rattle.lalrpop_lr1_paths.specs.declared.state_paths.state_paths.StatePaths.{StatePaths}
use Rattle.lalrpop_lr1_paths.specs.NumberEdges.{number_edges}
use Rattle.lalrpop_lr1_paths.specs.PathTables.{AreReachedStates, AreStatePaths, last_edge_at, last_steps}
use Rattle.lalrpop_lr1_paths.specs.ReversedGraphs.{AreLastEdges, edge_ends, last_edge_of, start_goals, reversed_ends}
use Rattle.lalrpop_lr1_paths.proofs.EdgeLemmas.{IsNumberEdge, edges_within, number_edges_are}
use Rattle.lalrpop_lr1_paths.proofs.StateSearchLemmas.{edge_at_state, first_numbered, first_or_edge, next_numbered, rank_falls, rank_of}
use Rattle.lalrpop_lr1_paths.proofs.StateSearchLemmas.{searched_edge}
use Rattle.lalrpop_lr1_paths.proofs.PathStepLemmas.{edge_led, edge_there, led_edge}

-- a symbol with a number is what the theory sees of one
symbol_seen : (table : Numbered) (s : ℕ) (x : theory.Symbol) → symbols_by table s ≡ Some x →
    (y : Symbol) × (production_symbol_view y ≡ x)
symbol_seen table s x e =
    go (slice_get (table_names table) s) (slice_get table.terminals.now.all (s - length (table_names table))) e
  where
    go : (a : Option NonterminalString) (b : Option TerminalString) → symbol_or a b ≡ Some x →
        (y : Symbol) × (production_symbol_view y ≡ x)
    go (Some n) b f = (symbols.Nonterminal n, some_same (theory.nonterminal n.0) x f)
    go None (Some t) f = (symbols.Terminal t, some_same (theory.terminal (terminal_view t)) x f)
    go None None f = let w : ⊥ = cc in absurd w

module _ {L : Type 0} (it : StatePaths) (trees : AreLeastTrees it.trees.now) (all : List (State L)) (edges : List NumberEdge)
    (edges_are : edges ≡ flat_map (number_edges it.trees.now (length all)) (edges_of all)) (paths : GoalPaths)
    (search : AreGoalPaths paths) (ends : map edge_ends (graph_edges paths.graph.now) ≡ map reversed_ends edges)
    (goals : paths.goals.now ≡ start_goals (length all)) (steps_are : AreLastEdges edges paths (length all) it.steps.items) where
  abbrev at : ℕ → Option theory.Symbol
  at = symbols_by it.trees.now.table

  abbrev HasPath : ℕ → Type 0
  HasPath = HasNumber (path_numbers paths.table)

  -- what stands at a state was found
  found_at : (n : ℕ) (edge : NumberEdge) → last_edge_at it.steps.items n ≡ Some edge → last_edge_of edges paths n ≡ Some edge
  found_at n edge e =
      edge_at_state edges (length all) paths search ends goals it.steps.items steps_are n edge (edge_there it.steps.items n edge e)

  none_first : last_edge_at it.steps.items 0 ≡ None
  none_first = go (last_edge_at it.steps.items 0) refl
    where
      go : (o : Option NumberEdge) → last_edge_at it.steps.items 0 ≡ o → o ≡ None
      go None e = refl
      go (Some edge) e = sym (found_at 0 edge e)

  number_edge : (n : ℕ) (edge : NumberEdge) → last_edge_at it.steps.items n ≡ Some edge → IsNumberEdge at (edges_of all) edge
  number_edge n edge e =
      let s = searched_edge edges (length all) paths search ends goals n edge (found_at n edge e) in
      (number_edges_are it.trees.now trees all edges edges_are).sound s.place edge s.at

  pub are_paths : AreStatePaths it
  are_paths = record {
    trees = trees;
    start = none_first;
    symbols = λ n edge e. let i = number_edge n edge e in (production_symbol_view i.symbol, i.number);
    rank = rank_of edges (length all) paths search ends goals;
    falls = λ n edge e.
        rank_falls edges (length all) paths search ends goals n edge
        (searched_edge edges (length all) paths search ends goals n edge (found_at n edge e));
  }

  module _ (look : L → states.LookaheadSet) (reached : AreReachedStates it.trees.now (map (lr_state_view look) all)) where
    abbrev seen : List states.State
    seen = map (lr_state_view look) all

    abbrev Edge : ℕ → theory.Symbol → ℕ → Type 0
    Edge = states.HasEdge seen

    abbrev Back : ℕ → theory.Symbol → ℕ → Type 0
    Back = LedBy (last_steps it)

    led_is_edge : (n : ℕ) (x : theory.Symbol) (m : ℕ) → Back n x m → Edge n x m
    led_is_edge n x m led =
        let l = led_edge it.trees.now.table it.steps.items n x m led in
        let i = number_edge m l.edge l.at in
        let s = searched_edge edges (length all) paths search ends goals m l.edge (found_at m l.edge l.at) in
        let same : production_symbol_view i.symbol ≡ x = some_same (production_symbol_view i.symbol) x (sym i.number ∙ l.symbol) in
        subst (λ k. Edge k x m) l.source
        (subst (λ k. Edge l.edge.source x k) s.target
        (subst (λ y. Edge l.edge.source y l.edge.target) same
        (graph_edge_seen look all l.edge.source i.symbol l.edge.target i.among)))

    -- a state with an edge from it is one
    source_is : (n : ℕ) (x : theory.Symbol) (m : ℕ) → Edge n x m → IsStateOf seen n
    source_is n (theory.terminal t) m e = (e.0, e.1)
    source_is n (theory.nonterminal A) m e = (e.0, e.1)

    below : (n : ℕ) → IsStateOf seen n → n < length all
    below n s = omega (arith, slice_get_within seen n s.0 s.1, long_map (lr_state_view look) all)

    -- a state to which edges lead from state 0 has a path
    has_path : (g : List theory.Symbol) (n : ℕ) → Walk Edge g n → n < length all → HasPath n
    has_path g n stands h = first_numbered edges (length all) paths search ends goals h
    has_path g n (goes {g = front} {n = k} x m w e) h =
        let before = has_path front k w (below k (source_is k x n e)) in
        let s = reached.known k x n e in
        let y = symbol_seen it.trees.now.table s.0 x s.1 in
        let among = seen_edge_there look all k y.0 n (subst (λ z. Edge k z n) (sym y.1) e) in
        let there = (number_edges_are it.trees.now trees all edges edges_are).all k n s.0 y.0 among h (s.1 ∙ ap Some (sym y.1)) in
        next_numbered edges (length all) paths search ends goals there.0 (record { source = k; symbol = s.0; target = n }) there.1 before

    abbrev IsLed : ℕ → Type 0
    IsLed n = (g : List theory.Symbol) × Walk Back g n

    -- a path goes along the last edge of a state
    path_goes_on : (n : ℕ) (edge : NumberEdge) → last_edge_of edges paths n ≡ Some edge → IsLed edge.source → IsLed n
    path_goes_on n edge e led =
        let s = searched_edge edges (length all) paths search ends goals n edge e in
        let within : n < length all =
        subst (λ k. k < length all) s.target (edges_within it.trees.now trees all edges edges_are s.place edge s.at).1 in
        let here : last_edge_at it.steps.items n ≡ Some edge =
        get_or_from_slice_get it.steps.items n (Some edge) None (steps_are.each n within ∙ ap Some e) in
        let i = number_edge n edge here in
        let x = production_symbol_view i.symbol in
        (led.0 ++ x ∷ [], goes x n led.1 (edge_led it.trees.now.table it.steps.items n edge x here i.number))

    -- by induction on the number of a state's path
    led_by_number : (bound n k : ℕ) → k < bound → path_numbers paths.table n ≡ Some k → IsLed n
    led_by_number zero n k h is = absurd (omega (arith, h))
    led_by_number (suc bound) n k h is =
        go (first_or_edge edges (length all) paths search ends goals n (record { number = k; is = is }))
        (λ m j l i. led_by_number bound m j l i)
      where
        go : (n ≡ 0) ⊎ ((edge : NumberEdge) × (last_edge_of edges paths n ≡ Some edge)) →
            ((m j : ℕ) → j < bound → path_numbers paths.table m ≡ Some j → IsLed m) → IsLed n
        go (inl e) before = subst IsLed (sym e) ([], stands)
        go (inr last) before =
            let s = searched_edge edges (length all) paths search ends goals n last.0 last.1 in
            let same : s.number ≡ k = some_same s.number k (sym s.number_is ∙ is) in
            path_goes_on n last.0 last.1 (before last.0.source s.rest (omega (arith, s.falls, same, h)) s.rest_is)

    pub are_path_tree : ArePaths seen (last_steps it)
    are_path_tree = record {
      edges = led_is_edge;
      one = λ n k x y m a b.
          let one : LastStep = record { from = n; by = x } in
          let other : LastStep = record { from = k; by = y } in
          let same : one ≡ other = some_same one other (some_same (Some one) (Some other) (sym a ∙ b)) in
          (ap (λ (s : LastStep). s.from) same, ap (λ (s : LastStep). s.by) same);
      root = λ n x led.
          let l = led_edge it.trees.now.table it.steps.items n x 0 led in
          let both : None ≡ Some l.edge = sym none_first ∙ l.at in cc;
      all = λ n is.
          let r = reached.reached n is in
          let path = has_path r.0 n r.1 (below n is) in
          led_by_number (suc path.number) n path.number (omega arith) path.is;
    }
