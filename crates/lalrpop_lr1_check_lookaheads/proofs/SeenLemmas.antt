-- Items and edges of states as the theory sees them: for the test of states.
use Rattle.std.proofs.Common.{◌≡◌, ◌∙◌, ℕ, List, [], ◌∷◌, map, Some, None, Option, refl, sym, ap, subst, Contains}
use Rattle.std.proofs.Common.{slice_get, ⊎_elim}
use Rattle.std.specs.Prelude.{option_map}
use Rattle.std.proofs.lemmas.List.Elements.{Contains-append_cases, Contains-append_left, Contains-append_right}
use Rattle.lalrpop_grammar_symbols.specs.Views.{terminal_view}
use Rattle.lalrpop_grammar_symbols.specs.contracts.names.NonterminalStringOrd.TheImpl as names
use Rattle.lalrpop_grammar_symbols.specs.contracts.terminal.TerminalStringOrd.TheImpl as terminals
use Rattle.lalrpop_grammar_symbols.specs.declared.names.NonterminalString.{NonterminalString}
use Rattle.lalrpop_grammar_repr.specs.Maps.{at_name, at_terminal}
use Rattle.lalrpop_grammar_repr.specs.declared.production.Production.{Production}
use Rattle.lalrpop_grammar_repr.specs.declared.production.Symbol.{Symbol}
use Rattle.lalrpop_grammar_repr.specs.declared.production.Symbol.TheVariants as symbols
use Rattle.lalrpop_lr1_theory.specs.Productions as theory
use Rattle.lalrpop_lr1_theory.specs.States as states
use Rattle.lalrpop_lr1_theory.proofs.StepLemmas.{some_same}
use Rattle.lalrpop_lr1_core.specs.Views.{goto_view, lr_item_view, lr_state_view, production_symbol_view, production_view, shift_view}
use Rattle.lalrpop_lr1_core.specs.declared.state.State.{State}
use Rattle.lalrpop_lr1_core.specs.declared.state_index.StateIndex.{StateIndex}
use Rattle.lalrpop_lr1_core.proofs.MemberLemmas.{in_map, map_has}
use Rattle.lalrpop_lr1_core.proofs.NoConflictLemmas.{at_mapped, mapped_at, same_terminal}
use Rattle.lalrpop_lr1_check_lookaheads.specs.ListedItems.{ItemKey, key_at, key_of_item, keys_of_state, keys_of_states}
use Rattle.lalrpop_lr1_check_lookaheads.specs.SeenEdges.{HasOrderedEdges, SeenEdge, edges_of_state, edges_of_states, seen_edge, seen_goto}
use Rattle.lalrpop_lr1_check_lookaheads.specs.SeenEdges.{seen_shift, target_at}
use Rattle.lalrpop_lr1_check_lookaheads.proofs.GainLemmas.{at_a_place, of_a_place}
use Rattle.lalrpop_lr1_check_lookaheads.proofs.LookupLemmas.{in_lookup, lookup_in, name_exact, name_self, terminal_exact, terminal_self}

abbrev name_of : List ℕ → NonterminalString
name_of t = record { 0 = t }

-- symbols, right sides and productions that are seen as one are one
pub same_symbol_view : (x y : Symbol) → production_symbol_view x ≡ production_symbol_view y → x ≡ y
same_symbol_view (symbols.Nonterminal a) (symbols.Nonterminal b) e =
    let z : a.0 ≡ b.0 = cc in ap (λ t. symbols.Nonterminal (name_of t)) z
same_symbol_view (symbols.Nonterminal a) (symbols.Terminal t) e = let w : ⊥ = cc in absurd w
same_symbol_view (symbols.Terminal t) (symbols.Nonterminal b) e = let w : ⊥ = cc in absurd w
same_symbol_view (symbols.Terminal t) (symbols.Terminal u) e =
    let z : terminal_view t ≡ terminal_view u = cc in ap symbols.Terminal (same_terminal t u z)

same_side_view : (xs ys : List Symbol) → map production_symbol_view xs ≡ map production_symbol_view ys → xs ≡ ys
same_side_view [] [] e = refl
same_side_view [] (y ∷ ys) e = let w : ⊥ = cc in absurd w
same_side_view (x ∷ xs) [] e = let w : ⊥ = cc in absurd w
same_side_view (x ∷ xs) (y ∷ ys) e =
    let h : production_symbol_view x ≡ production_symbol_view y = cc in
    let t : map production_symbol_view xs ≡ map production_symbol_view ys = cc in
    ap (λ z. z ∷ xs) (same_symbol_view x y h) ∙ ap (λ l. y ∷ l) (same_side_view xs ys t)

abbrev made : List ℕ → List Symbol → ℕ → ℕ → ℕ → Production
made name side action from to =
    record { nonterminal = record { 0 = name }; symbols = side; action = record { 0 = action }; span = record { 0 = from; 1 = to } }

-- productions that are seen as one are one
pub same_view : (p q : Production) → production_view p ≡ production_view q → p ≡ q
same_view p q e =
    ap (λ x. made x p.symbols p.action.0 p.span.0 p.span.1) (ap (λ (v : theory.Production). v.left) e)
    ∙ ap (λ x. made q.nonterminal.0 x p.action.0 p.span.0 p.span.1)
    (same_side_view p.symbols q.symbols (ap (λ (v : theory.Production). v.right) e))
    ∙ ap (λ x. made q.nonterminal.0 q.symbols x p.span.0 p.span.1) (ap (λ (v : theory.Production). v.action) e)
    ∙ ap (λ x. made q.nonterminal.0 q.symbols q.action.0 x p.span.1) (ap (λ (v : theory.Production). v.from) e)
    ∙ ap (λ x. made q.nonterminal.0 q.symbols q.action.0 q.span.0 x) (ap (λ (v : theory.Production). v.to) e)

module _ {L : Type 0} (look : L → states.LookaheadSet) (all : List (State L)) where
  abbrev pub seen_states : List states.State
  seen_states = map (lr_state_view look) all

  -- an item is listed as it is seen
  pub key_seen : (n : ℕ) (p : Production) (i : ℕ) → Contains (keys_of_states all) (key_at n p i) →
      states.HasItem seen_states n (production_view p) i
  key_seen n p i c =
      let r = of_a_place keys_of_state all (key_at n p i) c in
      let m = in_map (key_of_item r.0) r.1.items.vec (key_at n p i) r.3 in
      let at : r.0 ≡ n = ap (λ (k : ItemKey). k.state) m.2 in
      let own : m.0.production.now ≡ p = ap (λ (k : ItemKey). k.production) m.2 in
      let dot : m.0.index ≡ i = ap (λ (k : ItemKey). k.dot) m.2 in
      let held : Contains (map (lr_item_view look) r.1.items.vec) (lr_item_view look m.0) =
      map_has (lr_item_view look) r.1.items.vec m.0 m.1 in
      record {
        state = lr_state_view look r.1;
        lookahead = look m.0.lookahead;
        at = subst (λ j. slice_get seen_states j ≡ Some (lr_state_view look r.1)) at (mapped_at (lr_state_view look) all r.0 r.1 r.2);
        held = subst (λ j. Contains (map (lr_item_view look) r.1.items.vec) (record {
          production = production_view p;
          dot = j;
          lookahead = look m.0.lookahead;
        })) dot (subst (λ (x : Production). Contains (map (lr_item_view look) r.1.items.vec) (record {
          production = production_view x;
          dot = m.0.index;
          lookahead = look m.0.lookahead;
        })) own held);
      }

  -- an item that is seen is listed
  pub seen_key : (n : ℕ) (q : theory.Production) (i : ℕ) → states.HasItem seen_states n q i →
      (p : Production) × (production_view p ≡ q) × Contains (keys_of_states all) (key_at n p i)
  seen_key n q i h =
      let s = at_mapped (lr_state_view look) all n h.state h.at in
      let held = subst (λ (v : states.State). Contains v.items (record { production = q; dot = i; lookahead = h.lookahead })) (sym s.2)
      h.held in
      let m = in_map (lr_item_view look) s.0.items.vec (record { production = q; dot = i; lookahead = h.lookahead }) held in
      let dot : m.0.index ≡ i = ap (λ (v : states.Item). v.dot) m.2 in (
        m.0.production.now,
        ap (λ (v : states.Item). v.production) m.2,
        at_a_place keys_of_state all n s.0 (key_at n m.0.production.now i) s.1
            (subst (λ j. Contains (keys_of_state n s.0) (key_at n m.0.production.now j)) dot
            (map_has (key_of_item n) s.0.items.vec m.0 m.1)),
      )

  pub key_of_seen : (n : ℕ) (p : Production) (i : ℕ) → states.HasItem seen_states n (production_view p) i →
      Contains (keys_of_states all) (key_at n p i)
  key_of_seen n p i h =
      let r = seen_key n (production_view p) i h in
      subst (λ x. Contains (keys_of_states all) (key_at n x i)) (same_view r.0 p r.1) r.2

  -- an edge is listed as it is seen
  pub edge_seen : (n : ℕ) (X : theory.Symbol) (m : ℕ) → Contains (edges_of_states all) (seen_edge n X m) →
      states.HasEdge seen_states n X m
  edge_seen n X m c =
      let r = of_a_place edges_of_state all (seen_edge n X m) c in
      ⊎_elim (by_shift r.0 r.1 r.2) (by_goto r.0 r.1 r.2)
      (Contains-append_cases (map (seen_shift r.0) r.1.shifts) (map (seen_goto r.0) r.1.gotos) (seen_edge n X m) r.3)
    where
      view : (k : ℕ) (s : State L) → slice_get all k ≡ Some s → k ≡ n → slice_get seen_states n ≡ Some (lr_state_view look s)
      view k s at same = subst (λ j. slice_get seen_states j ≡ Some (lr_state_view look s)) same
          (mapped_at (lr_state_view look) all k s at)

      by_shift : (k : ℕ) (s : State L) → slice_get all k ≡ Some s → Contains (map (seen_shift k) s.shifts) (seen_edge n X m) →
          states.HasEdge seen_states n X m
      by_shift k s at d =
          let e = in_map (seen_shift k) s.shifts (seen_edge n X m) d in
          subst (λ Y. states.HasEdge seen_states n Y m) (ap (λ (f : SeenEdge). f.symbol) e.2) (
            lr_state_view look s,
            view k s at (ap (λ (f : SeenEdge). f.source) e.2),
            subst (λ j. Contains (map shift_view s.shifts) (terminal_view e.0.0, j)) (ap (λ (f : SeenEdge). f.target) e.2)
                (map_has shift_view s.shifts e.0 e.1),
          )

      by_goto : (k : ℕ) (s : State L) → slice_get all k ≡ Some s → Contains (map (seen_goto k) s.gotos) (seen_edge n X m) →
          states.HasEdge seen_states n X m
      by_goto k s at d =
          let e = in_map (seen_goto k) s.gotos (seen_edge n X m) d in
          subst (λ Y. states.HasEdge seen_states n Y m) (ap (λ (f : SeenEdge). f.symbol) e.2) (
            lr_state_view look s,
            view k s at (ap (λ (f : SeenEdge). f.source) e.2),
            subst (λ j. Contains (map goto_view s.gotos) (e.0.0.0, j)) (ap (λ (f : SeenEdge). f.target) e.2)
                (map_has goto_view s.gotos e.0 e.1),
          )

  -- an edge that is seen is listed
  pub seen_edge_listed : (n : ℕ) (X : theory.Symbol) (m : ℕ) → states.HasEdge seen_states n X m →
      Contains (edges_of_states all) (seen_edge n X m)
  seen_edge_listed n (theory.terminal t) m h =
      let s = at_mapped (lr_state_view look) all n h.0 h.1 in
      let held = subst (λ (v : states.State). Contains v.shifts (t, m)) (sym s.2) h.2 in
      let e = in_map shift_view s.0.shifts (t, m) held in
      let same : seen_shift n e.0 ≡ seen_edge n (theory.terminal t) m =
      ap (λ u. seen_edge n (theory.terminal u) e.0.1.0) (ap (λ p. p.0) e.2)
      ∙ ap (λ j. seen_edge n (theory.terminal t) j) (ap (λ p. p.1) e.2) in
      at_a_place edges_of_state all n s.0 (seen_edge n (theory.terminal t) m) s.1
      (Contains-append_left (map (seen_shift n) s.0.shifts) (map (seen_goto n) s.0.gotos) (seen_edge n (theory.terminal t) m)
      (subst (Contains (map (seen_shift n) s.0.shifts)) same (map_has (seen_shift n) s.0.shifts e.0 e.1)))
  seen_edge_listed n (theory.nonterminal A) m h =
      let s = at_mapped (lr_state_view look) all n h.0 h.1 in
      let held = subst (λ (v : states.State). Contains v.gotos (A, m)) (sym s.2) h.2 in
      let e = in_map goto_view s.0.gotos (A, m) held in
      let same : seen_goto n e.0 ≡ seen_edge n (theory.nonterminal A) m =
      ap (λ u. seen_edge n (theory.nonterminal u) e.0.1.0) (ap (λ p. p.0) e.2)
      ∙ ap (λ j. seen_edge n (theory.nonterminal A) j) (ap (λ p. p.1) e.2) in
      at_a_place edges_of_state all n s.0 (seen_edge n (theory.nonterminal A) m) s.1
      (Contains-append_right (map (seen_shift n) s.0.shifts) (map (seen_goto n) s.0.gotos) (seen_edge n (theory.nonterminal A) m)
      (subst (Contains (map (seen_goto n) s.0.gotos)) same (map_has (seen_goto n) s.0.gotos e.0 e.1)))

  -- where a symbol leads from a state
  pub target_seen : (n : ℕ) (s : State L) (x : Symbol) (m : ℕ) → slice_get all n ≡ Some s → target_at s x ≡ Some m →
      states.HasEdge seen_states n (production_symbol_view x) m
  target_seen n s (symbols.Terminal t) m at e = go (at_terminal t s.shifts) refl e
    where
      go : (o : Option StateIndex) → at_terminal t s.shifts ≡ o → option_map (λ k. k.0) o ≡ Some m →
          states.HasEdge seen_states n (theory.terminal (terminal_view t)) m
      go None f g = let w : ⊥ = cc in absurd w
      go (Some k) f g =
          let same : k.0 ≡ m = cc in (
            lr_state_view look s,
            mapped_at (lr_state_view look) all n s at,
            subst (λ j. Contains (map shift_view s.shifts) (terminal_view t, j)) same
                (map_has shift_view s.shifts (t, k) (lookup_in (terminals.ghosts).cmp terminal_exact terminal_self s.shifts t k f)),
          )
  target_seen n s (symbols.Nonterminal a) m at e = go (at_name a s.gotos) refl e
    where
      go : (o : Option StateIndex) → at_name a s.gotos ≡ o → option_map (λ k. k.0) o ≡ Some m →
          states.HasEdge seen_states n (theory.nonterminal a.0) m
      go None f g = let w : ⊥ = cc in absurd w
      go (Some k) f g =
          let same : k.0 ≡ m = cc in (
            lr_state_view look s,
            mapped_at (lr_state_view look) all n s at,
            subst (λ j. Contains (map goto_view s.gotos) (a.0, j)) same
                (map_has goto_view s.gotos (a, k) (lookup_in (names.ghosts).cmp name_exact name_self s.gotos a k f)),
          )

  pub seen_target : (n : ℕ) (s : State L) (x : Symbol) (m : ℕ) → slice_get all n ≡ Some s → HasOrderedEdges s →
      states.HasEdge seen_states n (production_symbol_view x) m → target_at s x ≡ Some m
  seen_target n s (symbols.Terminal t) m at ordered h =
      let u = at_mapped (lr_state_view look) all n h.0 h.1 in
      let one : u.0 ≡ s = some_same u.0 s (sym u.1 ∙ at) in
      let held = subst (λ (v : states.State). Contains v.shifts (terminal_view t, m)) (sym u.2) h.2 in
      let own = subst (λ (v : State L). Contains (map shift_view v.shifts) (terminal_view t, m)) one held in
      let e = in_map shift_view s.shifts (terminal_view t, m) own in
      let same : e.0.0 ≡ t = same_terminal e.0.0 t (ap (λ p. p.0) e.2) in
      let there : Contains s.shifts (t, e.0.1) = subst (λ k. Contains s.shifts (k, e.0.1)) same e.1 in
      ap (option_map (λ (k : StateIndex). k.0))
      (in_lookup (terminals.ghosts).cmp terminal_exact terminal_self s.shifts t e.0.1 ordered.shifts there)
      ∙ ap Some (ap (λ p. p.1) e.2)
  seen_target n s (symbols.Nonterminal a) m at ordered h =
      let u = at_mapped (lr_state_view look) all n h.0 h.1 in
      let one : u.0 ≡ s = some_same u.0 s (sym u.1 ∙ at) in
      let held = subst (λ (v : states.State). Contains v.gotos (a.0, m)) (sym u.2) h.2 in
      let own = subst (λ (v : State L). Contains (map goto_view v.gotos) (a.0, m)) one held in
      let e = in_map goto_view s.gotos (a.0, m) own in
      let same : e.0.0 ≡ a = ap name_of (ap (λ p. p.0) e.2) in
      let there : Contains s.gotos (a, e.0.1) = subst (λ k. Contains s.gotos (k, e.0.1)) same e.1 in
      ap (option_map (λ (k : StateIndex). k.0))
      (in_lookup (names.ghosts).cmp name_exact name_self s.gotos a e.0.1 ordered.gotos there)
      ∙ ap Some (ap (λ p. p.1) e.2)
