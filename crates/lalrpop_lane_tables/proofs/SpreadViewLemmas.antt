-- States that a merge left are spread over the originals, as the theory says it.
use Rattle.std.proofs.Common.{◌≡◌, ◌∙◌, ◌<◌, ◌≤◌, ◌+◌, ◌↔◌, ℕ, zero, suc, Bool, true, false, List, [], ◌∷◌, map, length, refl, sym, ap, subst}
use Rattle.std.proofs.Common.{⊎_elim, arith, cond, Contains, Some, slice_get, nat_lt}
use Rattle.std.proofs.lemmas.Bool.Decides.{Decides-ltb}
use Rattle.std.proofs.lemmas.Option.{slice_get_within}
use Rattle.lalrpop_grammar_symbols.specs.Views.{terminal_view}
use Rattle.lalrpop_grammar_symbols.specs.declared.names.NonterminalString.{NonterminalString}
use Rattle.lalrpop_lr1_theory.specs.Productions.{Production, Symbol, nonterminal, terminal}
use Rattle.lalrpop_lr1_theory.specs.States as theory
use Rattle.lalrpop_lr1_theory.specs.States.{HasEdge, HasItem, LookaheadSet}
use Rattle.lalrpop_lr1_theory.proofs.ListLemmas.{contains_get, get_contains}
use Rattle.lalrpop_lr1_theory.proofs.StepLemmas.{some_same}
use Rattle.lalrpop_lr1_core.proofs.MemberLemmas.{in_map, map_has}
use Rattle.lalrpop_lr1_core.specs.Views.{goto_view, lr_item_view, lr_state_view, shift_view}
use Rattle.lalrpop_lr1_core.specs.declared.state.State.{State}
use Rattle.lalrpop_lr1_core.specs.declared.state_index.StateIndex.{StateIndex}
use Rattle.lalrpop_lane_theory.specs.SpreadStates.{AreSpreadStates, LeadAsOriginal}
use Rattle.lalrpop_lane_tables.specs.MergedStates.{AreMerged, HasOneEdgeEach, StandsFor, edges_by_origin}
use Rattle.lalrpop_lane_tables.specs.declared.merged_states.FirstEdges.{FirstEdges}
use Rattle.lalrpop_lane_tables.proofs.MergeLemmas.{below_or, some_at}

got_map : {X Y : Type 0} (f : X → Y) (xs : List X) (k : ℕ) (y : Y) → slice_get (map f xs) k ≡ Some y →
    (x : X) × (slice_get xs k ≡ Some x) × (f x ≡ y)
got_map f [] k y h = let w : ⊥ = cc in absurd w
got_map f (x ∷ xs) zero y h = (x, refl, some_same (f x) y h)
got_map f (x ∷ xs) (suc k) y h = got_map f xs k y h

map_got : {X Y : Type 0} (f : X → Y) (xs : List X) (k : ℕ) (x : X) → slice_get xs k ≡ Some x → slice_get (map f xs) k ≡ Some (f x)
map_got f [] k x h = let w : ⊥ = cc in absurd w
map_got f (y ∷ ys) zero x h = ap (λ v. Some (f v)) (some_same y x h)
map_got f (y ∷ ys) (suc k) x h = map_got f ys k x h

-- edges that lead alike, by symbols as they are seen
module _ {K S : Type 0} (see : K → S) (origin : ℕ → ℕ) (es us : List (K × StateIndex))
    (alike : edges_by_origin origin es ≡ edges_by_origin (λ n. n) us) where
  at_place : (k : ℕ) (e : K × StateIndex) → slice_get es k ≡ Some e →
      (u : K × StateIndex) × (slice_get us k ≡ Some u) × (u.0 ≡ e.0) × (u.1.0 ≡ origin e.1.0)
  at_place k e h =
      let g = got_map (λ (u : K × StateIndex). (u.0, u.1.0)) us k (e.0, origin e.1.0)
      (subst (λ (l : List (K × ℕ)). slice_get l k ≡ Some (e.0, origin e.1.0)) alike (map_got (λ (d : K × StateIndex). (d.0, origin d.1.0)) es k e h)) in
      (g.0, g.1, ap (λ (p : K × ℕ). p.0) g.2, ap (λ (p : K × ℕ). p.1) g.2)

  place_back : (k : ℕ) (u : K × StateIndex) → slice_get us k ≡ Some u →
      (e : K × StateIndex) × (slice_get es k ≡ Some e) × (e.0 ≡ u.0) × (origin e.1.0 ≡ u.1.0)
  place_back k u h =
      let g = got_map (λ (d : K × StateIndex). (d.0, origin d.1.0)) es k (u.0, u.1.0)
      (subst (λ (l : List (K × ℕ)). slice_get l k ≡ Some (u.0, u.1.0)) (sym alike) (map_got (λ (d : K × StateIndex). (d.0, d.1.0)) us k u h)) in
      (g.0, g.1, ap (λ (p : K × ℕ). p.0) g.2, ap (λ (p : K × ℕ). p.1) g.2)

  -- where an edge stands, by what is seen of it
  stands : (x : S) (m : ℕ) → Contains {X = S × ℕ} (map (λ (e : K × StateIndex). (see e.0, e.1.0)) es) (x, m) →
      (k : ℕ) × (e : K × StateIndex) × (slice_get es k ≡ Some e) × (see e.0 ≡ x) × (e.1.0 ≡ m)
  stands x m h =
      let f = in_map (λ (e : K × StateIndex). (see e.0, e.1.0)) es (x, m) h in
      let p = contains_get es f.0 f.1 in
      (p.0, f.0, p.1, ap (λ (q : S × ℕ). q.0) f.2, ap (λ (q : S × ℕ). q.1) f.2)

  lead_down : (x : S) (m : ℕ) → Contains {X = S × ℕ} (map (λ (e : K × StateIndex). (see e.0, e.1.0)) es) (x, m) →
      Contains {X = S × ℕ} (map (λ (e : K × StateIndex). (see e.0, e.1.0)) us) (x, origin m)
  lead_down x m h =
      let s = stands x m h in
      let u = at_place s.0 s.1 s.2 in
      let symbol : see u.0.0 ≡ x = ap see u.2 ∙ s.3 in
      let target : u.0.1.0 ≡ origin m = u.3 ∙ ap origin s.4 in
      subst (λ (y : S). Contains {X = S × ℕ} (map (λ (e : K × StateIndex). (see e.0, e.1.0)) us) (y, origin m)) symbol
      (subst (λ (n : ℕ). Contains {X = S × ℕ} (map (λ (e : K × StateIndex). (see e.0, e.1.0)) us) (see u.0.0, n)) target
      (map_has (λ (e : K × StateIndex). (see e.0, e.1.0)) us u.0 (get_contains us s.0 u.0 u.1)))

  lead_on : (x : S) (k : ℕ) → Contains {X = S × ℕ} (map (λ (e : K × StateIndex). (see e.0, e.1.0)) us) (x, k) →
      (m : ℕ) × Contains {X = S × ℕ} (map (λ (e : K × StateIndex). (see e.0, e.1.0)) es) (x, m)
  lead_on x k h =
      let f = in_map (λ (e : K × StateIndex). (see e.0, e.1.0)) us (x, k) h in
      let p = contains_get us f.0 f.1 in
      let e = place_back p.0 f.0 p.1 in
      let symbol : see e.0.0 ≡ x = ap see e.2 ∙ ap (λ (q : S × ℕ). q.0) f.2 in (
        e.0.1.0,
        subst (λ (y : S). Contains {X = S × ℕ} (map (λ (d : K × StateIndex). (see d.0, d.1.0)) es) (y, e.0.1.0)) symbol
            (map_has (λ (d : K × StateIndex). (see d.0, d.1.0)) es e.0 (get_contains es p.0 e.0 e.1)),
      )

  lead_one : ((i j : ℕ) (e f : K × StateIndex) → slice_get us i ≡ Some e → slice_get us j ≡ Some f → see e.0 ≡ see f.0 → i ≡ j) →
      (x : S) (m k : ℕ) → Contains {X = S × ℕ} (map (λ (e : K × StateIndex). (see e.0, e.1.0)) es) (x, m) →
      Contains {X = S × ℕ} (map (λ (e : K × StateIndex). (see e.0, e.1.0)) es) (x, k) → m ≡ k
  lead_one once x m k h g =
      let s = stands x m h in
      let t = stands x k g in
      let u = at_place s.0 s.1 s.2 in
      let v = at_place t.0 t.1 t.2 in
      let place : s.0 ≡ t.0 = once s.0 t.0 u.0 v.0 u.1 v.1 (ap see u.2 ∙ s.3 ∙ sym t.3 ∙ sym (ap see v.2)) in
      let same : s.1 ≡ t.1 = some_same s.1 t.1 (sym s.2 ∙ ap (slice_get es) place ∙ t.2) in
      sym s.4 ∙ ap (λ (e : K × StateIndex). e.1.0) same ∙ t.4

-- numbers past the states stand for numbers past the originals
beyond : (ℕ → ℕ) → ℕ → ℕ → ℕ → ℕ
beyond origin count base n = cond (nat_lt n count) (origin n) (base + n)

beyond_below : (origin : ℕ → ℕ) (count base n : ℕ) → n < count → beyond origin count base n ≡ origin n
unfolding beyond
beyond_below origin count base n h = ap (λ b. cond b (origin n) (base + n)) ((Decides-ltb n count).1 h)

beyond_past : (origin : ℕ → ℕ) (count base n : ℕ) → count ≤ n → beyond origin count base n ≡ base + n
unfolding beyond
beyond_past origin count base n h = go (nat_lt n count) refl
  where
    go : (b : Bool) → nat_lt n count ≡ b → cond b (origin n) (base + n) ≡ base + n
    go true e = let z : n < count = (Decides-ltb n count).0 e in absurd (omega (arith, z, h))
    go false e = refl

module _ {L : Type 0} (look : L → LookaheadSet) (originals states : List (State L)) (origin : ℕ → ℕ)
    (copies : List (StateIndex × StateIndex)) (firsts : List (StateIndex × FirstEdges)) (h : AreMerged originals origin copies firsts states)
    (some : 0 < length states)
    (once : (n : ℕ) (state : State L) → slice_get originals n ≡ Some state → HasOneEdgeEach state) where
  o : ℕ → ℕ
  o = beyond origin (length states) (length originals)

  o_below : (n : ℕ) → n < length states → o n ≡ origin n
  unfolding o
  o_below n l = beyond_below origin (length states) (length originals) n l

  o_past : (n : ℕ) → length states ≤ n → o n ≡ length originals + n
  unfolding o
  o_past n l = beyond_past origin (length states) (length originals) n l

  -- what is seen of a state is seen of a state of the list
  seen_at : (xs : List (State L)) (n : ℕ) (s : theory.State) → slice_get (map (lr_state_view look) xs) n ≡ Some s →
      (x : State L) × (slice_get xs n ≡ Some x) × (lr_state_view look x ≡ s)
  seen_at xs n s at = got_map (lr_state_view look) xs n s at

  -- nothing is past a list
  none_past : (xs : List (State L)) (n : ℕ) (s : theory.State) → length xs ≤ n → slice_get (map (lr_state_view look) xs) n ≡ Some s → ⊥
  none_past xs n s behind at =
      let x = seen_at xs n s at in
      let z = slice_get_within xs n x.0 x.1 in omega (arith, z, behind)

  no_edge : (xs : List (State L)) (n : ℕ) (x : Symbol) (m : ℕ) → length xs ≤ n → HasEdge (map (lr_state_view look) xs) n x m → ⊥
  no_edge xs n (terminal t) m behind e = none_past xs n e.0 behind e.1
  no_edge xs n (nonterminal A) m behind e = none_past xs n e.0 behind e.1

  no_item : (xs : List (State L)) (n : ℕ) (p : Production) (i : ℕ) → length xs ≤ n → HasItem (map (lr_state_view look) xs) n p i → ⊥
  no_item xs n p i behind e = none_past xs n e.state behind e.at

  -- one state with its original
  module _ (n : ℕ) (state : State L) (at : slice_get states n ≡ Some state) where
    s : StandsFor originals origin (origin n) state
    s = h.each n state at

    within : n < length states
    within = slice_get_within states n state at

    own : (t : theory.State) → slice_get (map (lr_state_view look) states) n ≡ Some t → t ≡ lr_state_view look state
    own t e = some_same t (lr_state_view look state) (sym e ∙ map_got (lr_state_view look) states n state at)

    its : (t : theory.State) → slice_get (map (lr_state_view look) originals) (origin n) ≡ Some t → t ≡ lr_state_view look s.original
    its t e = some_same t (lr_state_view look s.original) (sym e ∙ map_got (lr_state_view look) originals (origin n) s.original s.at)

    here : slice_get (map (lr_state_view look) states) n ≡ Some (lr_state_view look state)
    here = map_got (lr_state_view look) states n state at

    there : slice_get (map (lr_state_view look) originals) (origin n) ≡ Some (lr_state_view look s.original)
    there = map_got (lr_state_view look) originals (origin n) s.original s.at

    same_items : map (lr_item_view look) state.items.vec ≡ map (lr_item_view look) s.original.items.vec
    same_items = ap (λ (v : _). map (lr_item_view look) v.vec) s.items

    items_alike : (p : Production) (i : ℕ) → HasItem (map (lr_state_view look) states) n p i
        ↔ HasItem (map (lr_state_view look) originals) (origin n) p i
    items_alike p i = (
      λ e. record {
        state = lr_state_view look s.original;
        lookahead = e.lookahead;
        at = there;
        held = subst (λ (l : List theory.Item). Contains l (record { production = p; dot = i; lookahead = e.lookahead })) same_items
            (subst (λ (t : theory.State). Contains t.items (record { production = p; dot = i; lookahead = e.lookahead })) (own e.state e.at) e.held);
      },
      λ e. record {
        state = lr_state_view look state;
        lookahead = e.lookahead;
        at = here;
        held = subst (λ (l : List theory.Item). Contains l (record { production = p; dot = i; lookahead = e.lookahead })) (sym same_items)
            (subst (λ (t : theory.State). Contains t.items (record { production = p; dot = i; lookahead = e.lookahead })) (its e.state e.at) e.held);
      },
    )

    of_state : (x : Symbol) (m : ℕ) → HasEdge (map (lr_state_view look) states) n x m → m < length states
    of_state (terminal t) m e =
        let f = in_map shift_view state.shifts (t, m) (subst (λ (v : theory.State). Contains v.shifts (t, m)) (own e.0 e.1) e.2) in
        subst (λ (k : ℕ). k < length states) (ap (λ (q : _ × ℕ). q.1) f.2) (h.shifts_below n state at f.0 f.1)
    of_state (nonterminal A) m e =
        let f = in_map goto_view state.gotos (A, m) (subst (λ (v : theory.State). Contains v.gotos (A, m)) (own e.0 e.1) e.2) in
        subst (λ (k : ℕ). k < length states) (ap (λ (q : _ × ℕ). q.1) f.2) (h.gotos_below n state at f.0 f.1)

    down : (x : Symbol) (m : ℕ) → HasEdge (map (lr_state_view look) states) n x m →
        HasEdge (map (lr_state_view look) originals) (origin n) x (origin m)
    down (terminal t) m e = (
      lr_state_view look s.original,
      there,
      lead_down terminal_view origin state.shifts s.original.shifts s.edges.shifts_alike t m
          (subst (λ (v : theory.State). Contains v.shifts (t, m)) (own e.0 e.1) e.2),
    )
    down (nonterminal A) m e = (
      lr_state_view look s.original,
      there,
      lead_down (λ (k : NonterminalString). k.0) origin state.gotos s.original.gotos s.edges.gotos_alike A m
          (subst (λ (v : theory.State). Contains v.gotos (A, m)) (own e.0 e.1) e.2),
    )

    on : (x : Symbol) (k : ℕ) → HasEdge (map (lr_state_view look) originals) (origin n) x k →
        (m : ℕ) × HasEdge (map (lr_state_view look) states) n x m
    on (terminal t) k e =
        let g = lead_on terminal_view origin state.shifts s.original.shifts s.edges.shifts_alike t k
        (subst (λ (v : theory.State). Contains v.shifts (t, k)) (its e.0 e.1) e.2) in (g.0, (lr_state_view look state, here, g.1))
    on (nonterminal A) k e =
        let g = lead_on (λ (q : NonterminalString). q.0) origin state.gotos s.original.gotos s.edges.gotos_alike A k
        (subst (λ (v : theory.State). Contains v.gotos (A, k)) (its e.0 e.1) e.2) in (g.0, (lr_state_view look state, here, g.1))

    one : (x : Symbol) (m k : ℕ) → HasEdge (map (lr_state_view look) states) n x m → HasEdge (map (lr_state_view look) states) n x k → m ≡ k
    one (terminal t) m k e f =
        lead_one terminal_view origin state.shifts s.original.shifts s.edges.shifts_alike (once (origin n) s.original s.at).shifts_once t m k
        (subst (λ (v : theory.State). Contains v.shifts (t, m)) (own e.0 e.1) e.2)
        (subst (λ (v : theory.State). Contains v.shifts (t, k)) (own f.0 f.1) f.2)
    one (nonterminal A) m k e f =
        lead_one (λ (q : NonterminalString). q.0) origin state.gotos s.original.gotos s.edges.gotos_alike
        (once (origin n) s.original s.at).gotos_once A m k
        (subst (λ (v : theory.State). Contains v.gotos (A, m)) (own e.0 e.1) e.2)
        (subst (λ (v : theory.State). Contains v.gotos (A, k)) (own f.0 f.1) f.2)

    leads : LeadAsOriginal (HasEdge (map (lr_state_view look) originals)) o (o n) (HasEdge (map (lr_state_view look) states) n)
    leads =
        subst (λ (c : ℕ). LeadAsOriginal (HasEdge (map (lr_state_view look) originals)) o c (HasEdge (map (lr_state_view look) states) n))
        (sym (o_below n within)) (record {
          down = λ x m e.
              subst (λ (c : ℕ). HasEdge (map (lr_state_view look) originals) (origin n) x c) (sym (o_below m (of_state x m e))) (down x m e);
          on = on;
          one = one;
        })

  all_items : (n : ℕ) (p : Production) (i : ℕ) → HasItem (map (lr_state_view look) states) n p i
      ↔ HasItem (map (lr_state_view look) originals) (o n) p i
  all_items n p i = ⊎_elim
      (λ l.
      let a = some_at states n l in
      subst (λ (c : ℕ). HasItem (map (lr_state_view look) states) n p i ↔ HasItem (map (lr_state_view look) originals) c p i)
      (sym (o_below n l)) (items_alike n a.0 a.1 p i))
      (λ l. (
        λ e. let w : ⊥ = no_item states n p i l e in absurd w,
        λ e. let past = o_past n l in let w : ⊥ = no_item originals (o n) p i (omega (arith, past)) e in absurd w,
      )) (below_or n (length states))

  all_edges : (n : ℕ) → LeadAsOriginal (HasEdge (map (lr_state_view look) originals)) o (o n) (HasEdge (map (lr_state_view look) states) n)
  all_edges n = ⊎_elim
      (λ l. let a = some_at states n l in leads n a.0 a.1)
      (λ l. record {
        down = λ x m e. let w : ⊥ = no_edge states n x m l e in absurd w;
        on = λ x k e. let past = o_past n l in let w : ⊥ = no_edge originals (o n) x k (omega (arith, past)) e in absurd w;
        one = λ x m k e f. let w : ⊥ = no_edge states n x m l e in absurd w;
      }) (below_or n (length states))

  pub merged_are_spread : (p : ℕ → ℕ) × ((n : ℕ) → n < length states → p n ≡ origin n)
      × AreSpreadStates (map (lr_state_view look) originals) (map (lr_state_view look) states) p
  merged_are_spread = (
    o,
    o_below,
    record {
      first_state = o_below 0 some ∙ h.first_state;
      items = all_items;
      edges = all_edges;
    },
  )
