-- Items that move along edges and back, as the theory of tables sees them: for the test of states.
use Rattle.std.proofs.Common.{◌≡◌, ◌∙◌, ℕ, zero, suc, ◌+◌, ◌<◌, List, [], ◌∷◌, length, map, drop, Some, refl}
use Rattle.std.proofs.Common.{sym, ap}
use Rattle.std.proofs.Common.{subst, Contains, slice_get, arith, nat_lt, true}
use Rattle.std.specs.Prelude.{filter, option_map, None, Option}
use Rattle.std.proofs.lemmas.Bool.{lt-ltb}
use Rattle.std.proofs.lemmas.Option.{slice_get_within}
use Rattle.lalrpop_grammar_repr.specs.declared.production.Production.{Production}
use Rattle.lalrpop_grammar_repr.specs.declared.production.Symbol.{Symbol}
use Rattle.lalrpop_grammar_repr.specs.declared.production.Symbol.TheVariants as symbols
use Rattle.lalrpop_lr1_theory.specs.Productions as theory
use Rattle.lalrpop_lr1_theory.specs.States as states
use Rattle.lalrpop_lr1_theory.proofs.ListLemmas.{contains_get, get_contains}
use Rattle.lalrpop_lr1_theory.proofs.StepLemmas.{some_same}
use Rattle.lalrpop_lr1_theory.specs.CoverTests.{IsBeforeSymbol, LeadsToMoved}
use Rattle.lalrpop_lr1_core.specs.Dots.{has_moved, symbol_and_place}
use Rattle.lalrpop_lr1_core.specs.Views.{goto_view, lr_item_view, lr_state_view, production_symbol_view, production_view, shift_view}
use Rattle.lalrpop_lr1_core.specs.declared.state.State.{State}
use Rattle.lalrpop_lr1_core.proofs.MemberLemmas.{filter_has, in_filter, in_map, map_has}
use Rattle.lalrpop_lr1_core.proofs.NoConflictLemmas.{at_mapped}
use Rattle.lalrpop_lr1_check_lookaheads.specs.ListTests.{HaveSameElements, HoldsAtEach}
use Rattle.lalrpop_lr1_check_lookaheads.specs.ListedItems.{AreKernels, ItemKey, key_at, key_of_item, keys_of_state, keys_of_states, moved_keys}
use Rattle.lalrpop_lr1_check_lookaheads.specs.Moves.{DoesMoveOn, KernelComesBack}
use Rattle.lalrpop_lr1_check_lookaheads.specs.SeenEdges.{HasOrderedEdges, noted_edge, edges_of_states, seen_edge}
use Rattle.lalrpop_lr1_check_lookaheads.specs.declared.parts.edges.StateEdge.{StateEdge}
use Rattle.lalrpop_lr1_check_lookaheads.proofs.GainLemmas.{at_a_place, of_a_place}
use Rattle.lalrpop_lr1_check_lookaheads.proofs.SeenLemmas.{edge_seen, key_of_seen, key_seen, seen_edge_listed, seen_key, seen_target}
use Rattle.lalrpop_lr1_check_lookaheads.proofs.SeenLemmas.{target_seen}

-- what stands first from a place on is what stands at the place
pub drop_get : {X Y : Type 0} (f : X → Y) (xs : List X) (i : ℕ) (y : Y) (b : List Y) → drop i (map f xs) ≡ y ∷ b →
    (x : X) × (slice_get xs i ≡ Some x) × (f x ≡ y)
drop_get f [] zero y b e = let w : ⊥ = cc in absurd w
drop_get f [] (suc i) y b e = let w : ⊥ = cc in absurd w
drop_get f (x ∷ xs) zero y b e = let z : f x ≡ y = cc in (x, refl, z)
drop_get f (x ∷ xs) (suc i) y b e = drop_get f xs i y b e

-- what is left of a mapped list at a place begins with the image of what stands there
pub get_drop : {X Y : Type 0} (f : X → Y) (xs : List X) (i : ℕ) (x : X) → slice_get xs i ≡ Some x →
    (b : List Y) × (drop i (map f xs) ≡ f x ∷ b)
get_drop f [] i x e = let w : ⊥ = cc in absurd w
get_drop f (z ∷ xs) zero x e = (map f xs, ap (λ y. f y ∷ map f xs) (some_same z x e))
get_drop f (z ∷ xs) (suc i) x e = get_drop f xs i x e

-- the symbol at a place, with the place behind it
pub placed_some : (xs : List Symbol) (i : ℕ) (x : Symbol) (n : ℕ) →
    ◌≡◌ {A = Option (Symbol × ℕ)} (Some (x, n)) (symbol_and_place xs i) →
    (slice_get xs i ≡ Some x) × (n ≡ i + 1)
placed_some xs i x n e = go (slice_get xs i) refl e
  where
    go : (o : Option Symbol) → slice_get xs i ≡ o → ◌≡◌ {A = Option (Symbol × ℕ)} (Some (x, n))
        (option_map (λ s. (s, i + 1)) o) →
        (slice_get xs i ≡ Some x) × (n ≡ i + 1)
    go None f g = let w : ⊥ = cc in absurd w
    go (Some y) f g =
        let both : ◌≡◌ {A = Symbol × ℕ} (x, n) (y, i + 1) = some_same (x, n) (y, i + 1) g in
        (f ∙ ap (λ p. Some p.0) (sym both), ap (λ p. p.1) both)

-- where no symbol with its place is answered, no symbol stands at the place
pub placed_none : (xs : List Symbol) (i : ℕ) → None ≡ symbol_and_place xs i → slice_get xs i ≡ None
placed_none xs i e = go (slice_get xs i) refl e
  where
    go : (o : Option Symbol) → slice_get xs i ≡ o → ◌≡◌ {A = Option (Symbol × ℕ)} None (option_map (λ s. (s, i + 1)) o) →
        slice_get xs i ≡ None
    go None f g = f
    go (Some y) f g = let w : ⊥ = cc in absurd w

-- a list has something at each place before its length
pub get_long : {X : Type 0} (xs : List X) (r : ℕ) → r < length xs → (x : X) × (slice_get xs r ≡ Some x)
get_long [] r h = absurd (omega arith)
get_long (x ∷ xs) zero h = (x, refl)
get_long (x ∷ xs) (suc r) h = get_long xs r (omega arith)

module _ {L : Type 0} (look : L → states.LookaheadSet) (all : List (State L)) (keys : List ItemKey)
    (same : HaveSameElements keys (keys_of_states all)) where
  abbrev seen : List states.State
  seen = map (lr_state_view look) all

  abbrev Has : ℕ → theory.Production → ℕ → Type 0
  Has = states.HasItem seen

  abbrev Leads : ℕ → theory.Symbol → ℕ → Type 0
  Leads = states.HasEdge seen

  -- an item is held by its key
  pub held_seen : (n : ℕ) (p : Production) (i : ℕ) → Contains keys (key_at n p i) → Has n (production_view p) i
  held_seen n p i c = key_seen look all n p i ((same (key_at n p i)).0 c)

  pub seen_held : (n : ℕ) (p : Production) (i : ℕ) → Has n (production_view p) i → Contains keys (key_at n p i)
  seen_held n p i h = (same (key_at n p i)).1 (key_of_seen look all n p i h)

  abbrev pub EachMovesOn : Type 0
  EachMovesOn = HoldsAtEach (λ _ state. HoldsAtEach (λ _ item. DoesMoveOn keys state item) state.items.vec) all

  abbrev pub MovesOnAsSeen : Type 0
  MovesOnAsSeen = (n : ℕ) (p : theory.Production) (i : ℕ) (X : theory.Symbol) (b : List theory.Symbol) → Has n p i →
      drop i p.right ≡ X ∷ b → LeadsToMoved Has Leads n p i X

  -- each item moves on as the theory says it
  pub moves_seen : EachMovesOn → MovesOnAsSeen
  moves_seen each n q i X b h e =
      let s = at_mapped (lr_state_view look) all n h.state h.at in
      let held = subst (λ (v : states.State). Contains v.items (record { production = q; dot = i; lookahead = h.lookahead })) (sym s.2)
      h.held in
      let m = in_map (lr_item_view look) s.0.items.vec (record { production = q; dot = i; lookahead = h.lookahead }) held in
      let own : production_view m.0.production.now ≡ q = ap (λ (v : states.Item). v.production) m.2 in
      let dot : m.0.index ≡ i = ap (λ (v : states.Item). v.dot) m.2 in
      let side : drop m.0.index (map production_symbol_view m.0.production.now.symbols) ≡ X ∷ b =
      ap (λ j. drop j (production_view m.0.production.now).right) dot ∙ ap (λ (v : theory.Production). drop i v.right) own ∙ e in
      let x = drop_get production_symbol_view m.0.production.now.symbols m.0.index X b side in
      let k = contains_get s.0.items.vec m.0 m.1 in
      let on = each n s.0 s.1 k.0 m.0 k.1 x.0 x.1 in
      let next : m.0.index + 1 ≡ suc i = omega (arith, dot) in (
        on.0,
        subst (λ Y. Leads n Y on.0) x.2 (target_seen look all n s.0 x.0 on.0 s.1 on.1),
        subst (λ (v : theory.Production). Has on.0 v (suc i)) own
            (held_seen on.0 m.0.production.now (suc i)
            (subst (λ j. Contains keys (key_at on.0 m.0.production.now j)) next on.2)),
      )

  pub seen_moves : ((n : ℕ) (s : State L) → slice_get all n ≡ Some s → HasOrderedEdges s) → MovesOnAsSeen → EachMovesOn
  seen_moves ordered told n s at k item at_k x e =
      let p = item.production.now in
      let c : Contains (keys_of_states all) (key_at n p item.index) =
      at_a_place keys_of_state all n s (key_at n p item.index) at
      (map_has (key_of_item n) s.items.vec item (get_contains s.items.vec k item at_k)) in
      let d = get_drop production_symbol_view p.symbols item.index x e in
      let r = told n (production_view p) item.index (production_symbol_view x) d.0 (key_seen look all n p item.index c) d.1 in
      let next : suc item.index ≡ item.index + 1 = omega arith in (
        r.0,
        seen_target look all n s x r.0 at (ordered n s at) r.1,
        subst (λ j. Contains keys (key_at r.0 p j)) next (seen_held r.0 p (suc item.index) r.2),
      )

  module _ (kernels : List (List ItemKey)) (are : AreKernels kernels all) (long : length kernels ≡ length all)
      (edges : List StateEdge) (listed : map noted_edge edges ≡ edges_of_states all) where
    -- a moved item of a state is in its kernel, and what is there is a moved item
    in_kernel_of : (m : ℕ) (kernel : List ItemKey) (p : Production) (i : ℕ) → slice_get kernels m ≡ Some kernel →
        Has m (production_view p) (suc i) → Contains kernel (key_at m p (suc i))
    in_kernel_of m kernel p i at h =
        let c = key_of_seen look all m p (suc i) h in
        let r = of_a_place keys_of_state all (key_at m p (suc i)) c in
        let f = in_map (key_of_item r.0) r.1.items.vec (key_at m p (suc i)) r.3 in
        let place : r.0 ≡ m = ap (λ (k : ItemKey). k.state) f.2 in
        let dot : f.0.index ≡ suc i = ap (λ (k : ItemKey). k.dot) f.2 in
        let moved : has_moved f.0 ≡ true = ap (nat_lt 0) dot ∙ lt-ltb 0 (suc i) (omega arith) in
        let at_m : slice_get all m ≡ Some r.1 = subst (λ j. slice_get all j ≡ Some r.1) place r.2 in
        let key : key_of_item m f.0 ≡ key_at m p (suc i) = ap (λ j. key_of_item j f.0) (sym place) ∙ f.2 in
        (are m kernel r.1 at at_m (key_at m p (suc i))).1
        (subst (Contains (moved_keys m r.1.items.vec)) key
        (map_has (key_of_item m) (filter has_moved r.1.items.vec) f.0 (filter_has has_moved r.1.items.vec f.0 moved f.1)))

    pub record IsMovedKey (m : ℕ) (k : ItemKey) : Type 0 where
      pub dot : ℕ
      pub state_is : k.state ≡ m
      pub dot_is : k.dot ≡ suc dot
      pub seen_as : Has m (production_view k.production) (suc dot)

    of_kernel : (m : ℕ) (kernel : List ItemKey) (k : ItemKey) → slice_get kernels m ≡ Some kernel → Contains kernel k →
        IsMovedKey m k
    of_kernel m kernel k at c =
        let s = get_long all m (omega (arith, long, slice_get_within kernels m kernel at)) in
        let d = (are m kernel s.0 at s.1 k).0 c in
        let f = in_map (key_of_item m) (filter has_moved s.0.items.vec) k d in
        let g = in_filter has_moved s.0.items.vec f.0 f.1 in
        let some = positive f.0.index g.0 in
        let key : key_at m f.0.production.now f.0.index ≡ k = f.2 in
        let dot : k.dot ≡ suc some.0 = sym (ap (λ (u : ItemKey). u.dot) key) ∙ some.1 in
        let whole : key_at m k.production (suc some.0) ≡ k =
        ap (λ j. key_at m k.production j) (sym dot) ∙ ap (λ j. key_at j k.production k.dot) (ap (λ (u : ItemKey). u.state) key) in
        record {
          dot = some.0;
          state_is = sym (ap (λ (u : ItemKey). u.state) key);
          dot_is = dot;
          seen_as = key_seen look all m k.production (suc some.0)
              (at_a_place keys_of_state all m s.0 (key_at m k.production (suc some.0)) s.1
              (subst (Contains (keys_of_state m s.0)) (key ∙ sym whole) (map_has (key_of_item m) s.0.items.vec f.0 g.1)));
        }
      where
        positive : (j : ℕ) → nat_lt 0 j ≡ true → (d : ℕ) × (j ≡ suc d)
        positive zero e = let w : ⊥ = cc in absurd w
        positive (suc j) e = (j, refl)

    abbrev pub EachComesBack : Type 0
    EachComesBack = HoldsAtEach (λ _ edge. KernelComesBack keys kernels (noted_edge edge)) edges

    pub record ComesBackAsSeen : Type 0 where
      pub comes_back : (n : ℕ) (X : theory.Symbol) (m : ℕ) → Leads n X m → (p : theory.Production) (i : ℕ) → Has m p (suc i) →
          IsBeforeSymbol Has n p i X
      pub has_moved : (n : ℕ) (X : theory.Symbol) (m : ℕ) → Leads n X m → (p : theory.Production) × (i : ℕ) × Has m p (suc i)

    edge_back : EachComesBack → (n : ℕ) (X : theory.Symbol) (m : ℕ) → Leads n X m → KernelComesBack keys kernels (seen_edge n X m)
    edge_back each n X m l =
        let c = subst (λ es. Contains es (seen_edge n X m)) (sym listed) (seen_edge_listed look all n X m l) in
        let e = in_map noted_edge edges (seen_edge n X m) c in
        let k = contains_get edges e.0 e.1 in
        subst (KernelComesBack keys kernels) e.2 (each k.0 e.0 k.1)

    -- each edge comes back as the theory says it
    pub back_seen : EachComesBack → ComesBackAsSeen
    back_seen each = record {
      comes_back = λ n X m l q i h.
          let b = edge_back each n X m l in
          let r = seen_key look all m q (suc i) h in
          let own = b.all (key_at m r.0 (suc i))
          (in_kernel_of m b.kernel r.0 i b.at (subst (λ (v : theory.Production). Has m v (suc i)) (sym r.1) h)) in
          let dot : own.0 ≡ i = omega (arith, own.1) in
          let x = own.2.0 in
          let over : slice_get r.0.symbols i ≡ Some x = subst (λ j. slice_get r.0.symbols j ≡ Some x) dot own.2.1 in
          let d = get_drop production_symbol_view r.0.symbols i x over in
          record {
            rest = d.0;
            item = subst (λ (v : theory.Production). Has n v i) r.1
                (held_seen n r.0 i (subst (λ j. Contains keys (key_at n r.0 j)) dot own.2.2.1));
            before = subst (λ (v : theory.Production). drop i v.right ≡ X ∷ d.0) r.1 (d.1 ∙ ap (λ Y. Y ∷ d.0) own.2.2.0);
          };
      has_moved = λ n X m l.
          let b = edge_back each n X m l in
          let k = of_kernel m b.kernel b.one b.at b.is_there in
          (production_view b.one.production, k.dot, k.seen_as);
    }

    pub seen_back : ComesBackAsSeen → EachComesBack
    seen_back told j edge at =
        let v = noted_edge edge in
        let l : Leads v.source v.symbol v.target = edge_seen look all v.source v.symbol v.target
        (subst (λ es. Contains es v) listed (map_has noted_edge edges edge (get_contains edges j edge at))) in
        let some = told.has_moved v.source v.symbol v.target l in
        let r = seen_key look all v.target some.0 (suc some.1) some.2 in
        let at_m = at_mapped (lr_state_view look) all v.target some.2.state some.2.at in
        let k = get_long kernels v.target (omega (arith, long, slice_get_within all v.target at_m.0 at_m.1)) in
        record {
          kernel = k.0;
          one = key_at v.target r.0 (suc some.1);
          at = k.1;
          is_there = in_kernel_of v.target k.0 r.0 some.1 k.1
              (subst (λ (u : theory.Production). Has v.target u (suc some.1)) (sym r.1) some.2);
          all = λ item c.
              let i = of_kernel v.target k.0 item k.1 c in
              let b = told.comes_back v.source v.symbol v.target l (production_view item.production) i.dot i.seen_as in
              let x = drop_get production_symbol_view item.production.symbols i.dot v.symbol b.rest b.before in
              (i.dot, omega (arith, i.dot_is), (x.0, x.1, (x.2, seen_held v.source item.production i.dot b.item)));
        }

  -- no symbol leads to two states
  pub one_edge_seen : ((n : ℕ) (s : State L) → slice_get all n ≡ Some s → HasOrderedEdges s) →
      (n : ℕ) (x : Symbol) (m k : ℕ) → Leads n (production_symbol_view x) m → Leads n (production_symbol_view x) k → m ≡ k
  one_edge_seen ordered n x m k a b = go (at_of n (production_symbol_view x) m a)
    where
      at_of : (n : ℕ) (X : theory.Symbol) (m : ℕ) → Leads n X m → (s : State L) × (slice_get all n ≡ Some s)
      at_of n (theory.terminal t) m h = let u = at_mapped (lr_state_view look) all n h.0 h.1 in (u.0, u.1)
      at_of n (theory.nonterminal A) m h = let u = at_mapped (lr_state_view look) all n h.0 h.1 in (u.0, u.1)

      go : (s : State L) × (slice_get all n ≡ Some s) → m ≡ k
      go r =
          let f = seen_target look all n r.0 x m r.1 (ordered n r.0 r.1) a in
          let g = seen_target look all n r.0 x k r.1 (ordered n r.0 r.1) b in
          some_same m k (sym f ∙ g)

  symbol_of : (n : ℕ) (X : theory.Symbol) (m : ℕ) → Leads n X m → (x : Symbol) × (production_symbol_view x ≡ X)
  symbol_of n (theory.terminal t) m h =
      let s = at_mapped (lr_state_view look) all n h.0 h.1 in
      let held = subst (λ (v : states.State). Contains v.shifts (t, m)) (sym s.2) h.2 in
      let e = in_map shift_view s.0.shifts (t, m) held in
      (symbols.Terminal e.0.0, ap theory.terminal (ap (λ p. p.0) e.2))
  symbol_of n (theory.nonterminal A) m h =
      let s = at_mapped (lr_state_view look) all n h.0 h.1 in
      let held = subst (λ (v : states.State). Contains v.gotos (A, m)) (sym s.2) h.2 in
      let e = in_map goto_view s.0.gotos (A, m) held in
      (symbols.Nonterminal e.0.0, ap theory.nonterminal (ap (λ p. p.0) e.2))

  pub one_edge_any : ((n : ℕ) (s : State L) → slice_get all n ≡ Some s → HasOrderedEdges s) →
      (n : ℕ) (X : theory.Symbol) (m k : ℕ) → Leads n X m → Leads n X k → m ≡ k
  one_edge_any ordered n X m k a b =
      let x = symbol_of n X m a in
      one_edge_seen ordered n x.0 m k (subst (λ Y. Leads n Y m) (sym x.1) a) (subst (λ Y. Leads n Y k) (sym x.1) b)
