-- The edges by numbers are those of the states whose symbols have numbers: for paths over numbers.
use Rattle.std.proofs.Common.{◌≡◌, ◌∙◌, ◌⊎◌, ℕ, ◌+◌, ◌-◌, ◌<◌, Bool, true, false}
use Rattle.std.proofs.Common.{List, []}
use Rattle.std.proofs.Common.{◌∷◌, ◌++◌, length, map, refl, sym, ap, subst, ⊎_elim, arith, Contains, Option, Some}
use Rattle.std.proofs.Common.{None}
use Rattle.std.proofs.Common.{get_or, slice_get, take}
use Rattle.std.specs.Prelude.{flat_map, nat_lt, if◌then◌else◌}
use Rattle.std.specs.List.{enumerate_from}
use Rattle.std.specs.Option.{option_map}
use Rattle.std.proofs.lemmas.Bool.{lt-ltb, ltb-true}
use Rattle.std.proofs.lemmas.List.Concat.{flat_map-append}
use Rattle.std.proofs.lemmas.Option.{slice_get_past}
use Rattle.std.proofs.lemmas.List.Elements.{Contains-append_cases}
use Rattle.lalrpop_grammar_symbols.specs.Symbols.{Text}
use Rattle.lalrpop_grammar_symbols.specs.Views.{terminal_view}
use Rattle.lalrpop_grammar_symbols.specs.declared.terminal.TerminalString.{TerminalString}
use Rattle.lalrpop_grammar_repr.specs.Maps.{at_name, at_terminal}
use Rattle.lalrpop_grammar_repr.specs.declared.production.Symbol.{Symbol}
use Rattle.lalrpop_grammar_repr.specs.declared.production.Symbol.TheVariants as symbols
use Rattle.lalrpop_lr1_theory.specs.Productions as theory
use Rattle.lalrpop_lr1_theory.proofs.ListLemmas.{contains_get, contains_here, contains_split, get_contains}
use Rattle.lalrpop_lr1_theory.proofs.StepLemmas.{some_same}
use Rattle.lalrpop_lr1_core.specs.Edges.{HasGraphEdge, edge_of, edges_of, goto_edge, shift_edge, state_edges}
use Rattle.lalrpop_lr1_core.specs.Views.{production_symbol_view}
use Rattle.lalrpop_lr1_core.specs.declared.edge.Edge.{Edge}
use Rattle.lalrpop_lr1_core.specs.declared.state.State.{State}
use Rattle.lalrpop_lr1_core.proofs.EdgeLemmas.{edges-more}
use Rattle.lalrpop_lr1_core.proofs.MemberLemmas.{in_map}
use Rattle.lalrpop_lr1_core.proofs.NoConflictLemmas.{same_terminal}
use Rattle.lalrpop_lr1_first.specs.FirstNumbers.{name_count}
use Rattle.lalrpop_lr1_first.specs.NumberedGrammars.{table_names}
use Rattle.lalrpop_lr1_first.specs.Tables.{symbol_or}
use Rattle.lalrpop_lr1_core.proofs.GraphLemmas.{flat_has}
use Rattle.lalrpop_lr1_first.proofs.NameLemmas.{pairs_total}
use Rattle.lalrpop_lr1_first.proofs.TableLemmas.{long_map, name_at, table_numbering}
use Rattle.lalrpop_lr1_least_trees.specs.declared.least_trees.LeastTrees.{LeastTrees}
use Rattle.lalrpop_lr1_least_trees.specs.GrammarTrees.{AreLeastTrees, symbols_by}
use Rattle.lalrpop_lr1_least_trees.proofs.AnswerLemmas.{symbol_there}
use Rattle.lalrpop_lr1_paths.specs.declared.state_paths.path_edges.NumberEdge.{NumberEdge}
use Rattle.lalrpop_lr1_paths.specs.NumberEdges.{AreBetweenStates, edge_list, number_edges, number_of_symbol}
use Rattle.lalrpop_lr1_theory.proofs.NameLemmas.{no_element}
use Rattle.lalrpop_lr1_core.proofs.GraphLemmas.{in_flat}

-- edges lead from the states
sources_from : {L : Type 0} (k : ℕ) (states : List (State L)) (e : Edge) →
    Contains (flat_map state_edges (enumerate_from k states)) e →
    e.source < k + length states
sources_from k [] e c = absurd (no_element e c)
sources_from k (s ∷ states) e c =
    ⊎_elim
    (λ d. ⊎_elim
    (λ a. let m = in_map (shift_edge k) s.shifts e a in
    let same : k ≡ e.source = ap (λ (x : Edge). x.source) m.2 in
    omega (arith, same))
    (λ a. let m = in_map (goto_edge k) s.gotos e a in
    let same : k ≡ e.source = ap (λ (x : Edge). x.source) m.2 in
    omega (arith, same))
    (Contains-append_cases (map (shift_edge k) s.shifts) (map (goto_edge k) s.gotos) e d))
    (λ d. omega (arith, sources_from (k + 1) states e d))
    (Contains-append_cases (state_edges (k, s)) (flat_map state_edges (enumerate_from (k + 1) states)) e c)

pub sources_within : {L : Type 0} (states : List (State L)) (n m : ℕ) (x : Symbol) → HasGraphEdge (edges_of states) n x m →
    n < length states
sources_within states n m x c = omega (arith, sources_from 0 states (edge_of n x m) c)

-- the edges of one state more
pub numbered_more : {L : Type 0} (f : Edge → List NumberEdge) (states : List (State L)) (i : ℕ) (s : State L)
    (old new : List NumberEdge) → i < length states → s ≡ get_or states i s → old ≡ flat_map f (edges_of (take i states)) →
    new ≡ old ++ flat_map f (state_edges (i, s)) → new ≡ flat_map f (edges_of (take (i + 1) states))
numbered_more f states i s old new within read so made =
    let more : edges_of (take i states) ++ state_edges (i, s) ≡ edges_of (take (i + 1) states) =
    edges-more states i s (edges_of (take i states)) (edges_of (take i states) ++ state_edges (i, s)) within read refl refl in
    made ∙ ap (λ l. l ++ flat_map f (state_edges (i, s))) so
    ∙ sym (flat_map-append f (edges_of (take i states)) (state_edges (i, s))) ∙ ap (flat_map f) more

-- the edge by numbers is one of the edges, by the symbol with its number
pub record IsNumberEdge (symbol_at : ℕ → Option theory.Symbol) (edges : List Edge) (edge : NumberEdge) : Type 0 where
  pub symbol : Symbol
  pub among : HasGraphEdge edges edge.source symbol edge.target
  pub number : symbol_at edge.symbol ≡ Some (production_symbol_view symbol)

-- each edge by numbers is one of the edges, and each of those to a state whose symbol has a number is there
pub record AreNumberEdges (symbol_at : ℕ → Option theory.Symbol) (states : ℕ) (edges : List Edge) (numbered : List NumberEdge) :
    Type 0 where
  pub sound : (e : ℕ) (edge : NumberEdge) → slice_get numbered e ≡ Some edge → IsNumberEdge symbol_at edges edge
  pub all : (n m s : ℕ) (x : Symbol) → HasGraphEdge edges n x m → m < states → symbol_at s ≡ Some (production_symbol_view x) →
      (e : ℕ) × (slice_get numbered e ≡ Some (record { source = n; symbol = s; target = m }))

-- an edge by its numbers
abbrev edge_by : ℕ → ℕ → ℕ → NumberEdge
edge_by n s m = record { source = n; symbol = s; target = m }

module _ (it : LeastTrees) (are : AreLeastTrees it) where
  abbrev at : ℕ → Option theory.Symbol
  at = symbols_by it.table

  names_long : length (table_names it.table) ≡ name_count it.table
  names_long = long_map (λ b. b.now) it.table.names.items

  pub terminal_numbered : (t : TerminalString) (j : ℕ) → at_terminal t it.table.terminals.now.bits ≡ Some j →
      at (name_count it.table + j) ≡ Some (theory.terminal (terminal_view t))
  terminal_numbered t j e =
      let there = are.table.terminals.places j t e in
      let past : slice_get (table_names it.table) (name_count it.table + j) ≡ None =
      slice_get_past (table_names it.table) (name_count it.table + j) (omega (arith, names_long)) in
      let place : name_count it.table + j - length (table_names it.table) ≡ j = omega (arith, names_long) in
      ap (λ o. symbol_or o (slice_get it.table.terminals.now.all (name_count it.table + j - length (table_names it.table)))) past
      ∙ ap (λ k. symbol_or None (slice_get it.table.terminals.now.all k)) place ∙ ap (symbol_or None) there

  -- a symbol's number is the symbol's
  pub number_sound : (x : Symbol) (s : ℕ) → number_of_symbol it x ≡ Some s → at s ≡ Some (production_symbol_view x)
  number_sound (symbols.Nonterminal n) s e = symbol_there it are n true s e
  number_sound (symbols.Terminal t) s e = go (at_terminal t it.table.terminals.now.bits) refl
    where
      go : (o : Option ℕ) → at_terminal t it.table.terminals.now.bits ≡ o → at s ≡ Some (theory.terminal (terminal_view t))
      go None f =
          let both : None ≡ Some s = sym (ap (option_map (λ place. name_count it.table + place)) f) ∙ e in let w : ⊥ = cc in absurd w
      go (Some j) f =
          let same : name_count it.table + j ≡ s =
          some_same (name_count it.table + j) s (sym (ap (option_map (λ place. name_count it.table + place)) f) ∙ e) in
          ap at (sym same) ∙ terminal_numbered t j f

  -- and no other is
  pub number_only : (x : Symbol) (s : ℕ) → at s ≡ Some (production_symbol_view x) → number_of_symbol it x ≡ Some s
  number_only (symbols.Nonterminal n) s e =
      let m = name_at it.table.terminals.now are.table.terminals (table_names it.table) are.table.names s n.0 e in
      let same : m.0 ≡ n = ap (λ (l : Text). record { 0 = l }) m.2 in
      let there = pairs_total (table_names it.table) 0 n
      (subst (Contains (table_names it.table)) same (get_contains (table_names it.table) s m.0 m.1)) in
      let own : at_name n it.numbers ≡ Some there.0 = ap (at_name n) are.numbers ∙ there.1 in
      let one : there.0 ≡ s = (table_numbering it.table are.table).name_once there.0 s n.0 (symbol_there it are n true there.0 own) e in
      own ∙ ap Some one
  number_only (symbols.Terminal t) s e =
      let h = (table_numbering it.table are.table).terminal_at s (terminal_view t) e in
      go h.0 h.1 (slice_get it.table.terminals.now.all h.0) refl h.3
    where
      go : (j : ℕ) → s ≡ name_count it.table + j → (o : Option TerminalString) → slice_get it.table.terminals.now.all j ≡ o →
          option_map terminal_view o ≡ Some (terminal_view t) →
          option_map (λ place. name_count it.table + place) (at_terminal t it.table.terminals.now.bits) ≡ Some s
      go j f None g h = let w : ⊥ = cc in absurd w
      go j f (Some u) g h =
          let one : u ≡ t = same_terminal u t (some_same (terminal_view u) (terminal_view t) h) in
          ap (option_map (λ place. name_count it.table + place))
          (ap (λ v. at_terminal v it.table.terminals.now.bits) (sym one) ∙ are.table.terminals.numbered j u g)
          ∙ ap Some (sym f)

  -- an edge by numbers, from the edge
  record IsOfEdge (states : ℕ) (e : Edge) (edge : NumberEdge) : Type 0 where
    target_below : e.target < states
    number : number_of_symbol it e.symbol ≡ Some edge.symbol
    source_is : edge.source ≡ e.source
    target_is : edge.target ≡ e.target

  of_edge : (states : ℕ) (e : Edge) (edge : NumberEdge) → Contains (number_edges it states e) edge → IsOfEdge states e edge
  of_edge states e edge c = go (number_of_symbol it e.symbol) refl c
    where
      go : (o : Option ℕ) → number_of_symbol it e.symbol ≡ o → Contains (edge_list states e.source o e.target) edge →
          IsOfEdge states e edge
      go None f d = absurd (no_element edge d)
      go (Some s) f d = by (nat_lt e.target states) refl d
        where
          by : (b : Bool) → nat_lt e.target states ≡ b →
              Contains (if b then edge_by e.source s e.target ∷ [] else []) edge →
              IsOfEdge states e edge
          by false g k = absurd (no_element edge k)
          by true g k =
              let same : edge_by e.source s e.target ≡ edge =
              ⊎_elim (λ h. h) (λ h. absurd (no_element edge h))
              (contains_split (edge_by e.source s e.target) edge [] k) in
              record {
                target_below = omega (arith, ltb-true e.target states g);
                number = f ∙ ap (λ (x : NumberEdge). Some x.symbol) same;
                source_is = ap (λ (x : NumberEdge). x.source) (sym same);
                target_is = ap (λ (x : NumberEdge). x.target) (sym same);
              }

  edge_there : (states n s m : ℕ) (x : Symbol) → number_of_symbol it x ≡ Some s → m < states →
      Contains (number_edges it states (edge_of n x m)) (edge_by n s m)
  edge_there states n s m x e h =
      subst (λ o. Contains (edge_list states n o m) (edge_by n s m)) (sym e) (by (nat_lt m states) refl)
    where
      by : (b : Bool) → nat_lt m states ≡ b →
          Contains (if b then edge_by n s m ∷ [] else []) (edge_by n s m)
      by true g = contains_here (edge_by n s m) []
      by false g = let both : true ≡ false = sym (lt-ltb m states h) ∙ g in let w : ⊥ = cc in absurd w

  -- the edges of states by numbers
  module _ {L : Type 0} (states : List (State L)) (edges : List NumberEdge)
      (edges_are : edges ≡ flat_map (number_edges it (length states)) (edges_of states)) where
    source_edge : (edge : NumberEdge) → Contains edges edge →
        (e : Edge) × Contains (edges_of states) e × IsOfEdge (length states) e edge
    source_edge edge c =
        let r = in_flat (number_edges it (length states)) (edges_of states) edge (subst (λ l. Contains l edge) edges_are c) in
        (r.0, r.1, of_edge (length states) r.0 edge r.2)

    pub edges_within : AreBetweenStates (length states) edges
    edges_within k edge e =
        let r = source_edge edge (get_contains edges k edge e) in (
          omega (arith, r.2.source_is, sources_within states r.0.source r.0.target r.0.symbol r.1),
          omega (arith, r.2.target_is, r.2.target_below),
        )

    pub number_edges_are : AreNumberEdges at (length states) (edges_of states) edges
    number_edges_are = record {
      sound = λ k edge e.
          let r = source_edge edge (get_contains edges k edge e) in
          record {
            symbol = r.0.symbol;
            among = subst (λ n. HasGraphEdge (edges_of states) n r.0.symbol edge.target) (sym r.2.source_is)
                (subst (HasGraphEdge (edges_of states) r.0.source r.0.symbol) (sym r.2.target_is) r.1);
            number = number_sound r.0.symbol edge.symbol r.2.number;
          };
      all = λ n m s x c l e.
          contains_get edges (edge_by n s m)
          (subst (λ l. Contains l (edge_by n s m)) (sym edges_are)
          (flat_has (number_edges it (length states)) (edges_of states) (edge_of n x m) (edge_by n s m) c
          (edge_there (length states) n s m x (number_only x s e) l)));
    }
