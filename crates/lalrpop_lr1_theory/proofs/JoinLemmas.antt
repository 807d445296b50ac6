-- States that are joined by their lists of items are canonical states put together by their cores: for that law.
use Rattle.std.proofs.Common.{◌≡◌, ◌↔◌, ℕ, suc, List, [], ◌∷◌, length, map, Some, refl, sym, ap, subst, Contains}
use Rattle.std.proofs.Common.{arith, ◌∙◌}
use Rattle.std.proofs.lemmas.Option.{slice_get_within}
use Rattle.std.specs.Prelude.{slice_get}
use Rattle.lalrpop_grammar_symbols.specs.Symbols.{Text}
use Rattle.lalrpop_lr1_theory.specs.Productions.{Next, Production, Symbol, nonterminal, terminal}
use Rattle.lalrpop_lr1_theory.specs.States.{HasEdge, HasItem, HasLookahead, Item, LookaheadSet, State}
use Rattle.lalrpop_lr1_theory.specs.CanonicalStates.{AreCanonicalStates}
use Rattle.lalrpop_lr1_theory.proofs.CheckedLemmas.{same_state}
use Rattle.lalrpop_lr1_theory.proofs.ListLemmas.{contains_get, get_contains}
use Rattle.lalrpop_lr1_theory.proofs.StepLemmas.{some_same}
use Rattle.lalrpop_lr1_theory.specs.CollapsedStates.{AreCoreNumbers, HasEdgeOfOne, HasErrorAhead, HasErrorAheadOfOne}
use Rattle.lalrpop_lr1_theory.specs.CollapsedStates.{HasLookaheadOfOne, HaveOneCore, IsCollapse}
use Rattle.lalrpop_lr1_theory.specs.JoinedStates.{AreJoinedStates, AreNumbersAsSeen, HaveCoresInOrder}
use Rattle.lalrpop_lr1_theory.specs.JoinedStates.{item_core, state_core}
use Rattle.lalrpop_lr1_theory.proofs.CollapseLemmas.{get_some}
use Rattle.lalrpop_lr1_theory.proofs.CollapsedCoverLemmas.{AreAlike, edge_alike, target_item}
use Rattle.lalrpop_lr1_theory.proofs.OrderLemmas.{get_image, image_get, image_of, image_there}

abbrev item_with : Production → ℕ → LookaheadSet → Item
item_with p i l = record { production = p; dot = i; lookahead = l }

-- at one place of states with one list of items stand items with one core
pub core_at : (a b : State) → state_core a ≡ state_core b → (j : ℕ) (u : Item) → slice_get a.items j ≡ Some u →
    (v : Item) × (slice_get b.items j ≡ Some v) × (item_core v ≡ item_core u)
core_at a b same j u e =
    get_image item_core b.items j (item_core u)
    (sym (ap (λ l. slice_get l j) same) ∙ image_get item_core a.items j u e)

item_is : (v : Item) (p : Production) (i : ℕ) → item_core v ≡ (p, i) → v ≡ item_with p i v.lookahead
item_is v p i e =
    ap (λ q. item_with q v.dot v.lookahead) (ap (λ c. c.0) e) ∙ ap (λ d. item_with p d v.lookahead) (ap (λ c. c.1) e)

-- a core in the list of a state is that of an item, and the other way round
has_core : (states : List State) (n : ℕ) (a : State) (p : Production) (i : ℕ) → slice_get states n ≡ Some a →
    HasItem states n p i ↔ Contains (state_core a) (p, i)
has_core states n a p i e = (
  λ h. subst (λ st. Contains (state_core st) (p, i)) (same_state states n h.state a h.at e)
      (image_there item_core h.state.items (item_with p i h.lookahead) h.held),
  λ c. let r = image_of item_core a.items (p, i) c in
      record { state = a; lookahead = r.0.lookahead; at = e; held = subst (Contains a.items) (item_is r.0 p i r.2) r.1 },
)

alike_by_core : (states others : List State) (n m : ℕ) (a b : State) → slice_get states n ≡ Some a →
    slice_get others m ≡ Some b → state_core a ≡ state_core b → AreAlike (HasItem states) (HasItem others) n m
alike_by_core states others n m a b e f same p i = (
  λ h. (has_core others m b p i f).1 (subst (λ c. Contains c (p, i)) same ((has_core states n a p i e).0 h)),
  λ h. (has_core states n a p i e).1 (subst (λ c. Contains c (p, i)) (sym same) ((has_core others m b p i f).0 h)),
)

module _ (grammar : List Production) (s : Text) (states joined : List State) (numbers : List ℕ)
    (can : AreCanonicalStates grammar s states) (order : HaveCoresInOrder states)
    (seen : AreNumbersAsSeen (map state_core states) numbers) (are : AreJoinedStates states numbers joined) where
  long : {X Y : Type 0} (f : X → Y) (xs : List X) → length (map f xs) ≡ length xs
  long f [] = refl
  long f (x ∷ xs) = ap suc (long f xs)

  numbered : (n a : ℕ) → slice_get numbers n ≡ Some a → (state : State) × (slice_get states n ≡ Some state)
  numbered n a e =
      let w = slice_get_within numbers n a e in
      let c = seen.count in
      let l = long state_core states in
      get_some states n (omega (arith, w, c, l))

  number_of : (n : ℕ) (state : State) → slice_get states n ≡ Some state → (a : ℕ) × (slice_get numbers n ≡ Some a)
  number_of n state e =
      let w = slice_get_within states n state e in
      let c = seen.count in
      let l = long state_core states in
      get_some numbers n (omega (arith, w, c, l))

  by_list : (n m a b : ℕ) (u v : State) → slice_get numbers n ≡ Some a → slice_get numbers m ≡ Some b →
      slice_get states n ≡ Some u → slice_get states m ≡ Some v → (a ≡ b) ↔ (state_core u ≡ state_core v)
  by_list n m a b u v e f g h =
      seen.same n m a b (state_core u) (state_core v) e f (image_get state_core states n u g) (image_get state_core states m v h)

  by_core : (n m a b : ℕ) → slice_get numbers n ≡ Some a → slice_get numbers m ≡ Some b → (a ≡ b) ↔ HaveOneCore states n m
  by_core n m a b e f =
      let u = numbered n a e in
      let v = numbered m b f in
      let lists = by_list n m a b u.0 v.0 e f u.1 v.1 in (
        λ z. alike_by_core states states n m u.0 v.0 u.1 v.1 (lists.0 z),
        λ same. lists.1 (order n m u.0 v.0 u.1 v.1 same),
      )

  numbers_are : AreCoreNumbers states numbers
  numbers_are = record { count = seen.count ∙ long state_core states; by_core = by_core; as_seen = seen.as_seen }

  -- all states with one number have the list of the joined state
  one_list : (n a : ℕ) (u new : State) → slice_get numbers n ≡ Some a → slice_get states n ≡ Some u →
      slice_get joined a ≡ Some new → state_core new ≡ state_core u
  one_list n a u new e f g =
      let m = are.made a new g in
      m.made.core ∙ (by_list m.place n a a m.first u m.number e m.at f).0 refl

  joined_at : (n a : ℕ) → slice_get numbers n ≡ Some a → (new : State) × (slice_get joined a ≡ Some new)
  joined_at n a e = get_some joined a (are.each n a e)

  look_there : (a : ℕ) (p : Production) (i : ℕ) (x : Next) → HasLookahead joined a p i x → HasLookaheadOfOne states numbers a p i x
  look_there a p i x h =
      let m = are.made a h.state h.at in
      let j = contains_get h.state.items (item_with p i h.lookahead) h.held in
      let o = (m.made.holds j.0 x).0 (record { item = item_with p i h.lookahead; at = j.1; follows = h.follows }) in
      let v = core_at h.state o.state (one_list o.place a o.state h.state o.number o.at h.at) j.0 (item_with p i h.lookahead) j.1 in
      let same = some_same o.holds.item v.0 (sym o.holds.at ∙ v.1) in
      let c : item_core o.holds.item ≡ (p, i) = ap item_core same ∙ v.2 in
      record {
        place = o.place;
        number = o.number;
        lookahead = record {
          state = o.state;
          lookahead = o.holds.item.lookahead;
          at = o.at;
          held = get_contains o.state.items j.0 (item_with p i o.holds.item.lookahead)
              (o.holds.at ∙ ap Some (item_is o.holds.item p i c));
          follows = o.holds.follows;
        };
      }

  look_back : (a : ℕ) (p : Production) (i : ℕ) (x : Next) → HasLookaheadOfOne states numbers a p i x → HasLookahead joined a p i x
  look_back a p i x h =
      let l = h.lookahead in
      let new = joined_at h.place a h.number in
      let m = are.made a new.0 new.1 in
      let j = contains_get l.state.items (item_with p i l.lookahead) l.held in
      let o = (m.made.holds j.0 x).1
      (record {
        place = h.place;
        state = l.state;
        number = h.number;
        at = l.at;
        holds = record { item = item_with p i l.lookahead; at = j.1; follows = l.follows };
      }) in
      let v = core_at l.state new.0 (sym (one_list h.place a l.state new.0 h.number l.at new.1)) j.0 (item_with p i l.lookahead) j.1 in
      let c : item_core o.item ≡ (p, i) = ap item_core (some_same o.item v.0 (sym o.at ∙ v.1)) ∙ v.2 in
      record {
        state = new.0;
        lookahead = o.item.lookahead;
        at = new.1;
        held = get_contains new.0.items j.0 (item_with p i o.item.lookahead) (o.at ∙ ap Some (item_is o.item p i c));
        follows = o.follows;
      }

  error_there : (a : ℕ) (p : Production) (i : ℕ) → HasErrorAhead joined a p i → HasErrorAheadOfOne states numbers a p i
  error_there a p i h =
      let m = are.made a h.state h.at in
      let j = contains_get h.state.items (item_with p i h.lookahead) h.held in
      let o = (m.made.errors j.0).0 (record { item = item_with p i h.lookahead; at = j.1; error = h.error }) in
      let v = core_at h.state o.state (one_list o.place a o.state h.state o.number o.at h.at) j.0 (item_with p i h.lookahead) j.1 in
      let c : item_core o.holds.item ≡ (p, i) = ap item_core (some_same o.holds.item v.0 (sym o.holds.at ∙ v.1)) ∙ v.2 in
      record {
        place = o.place;
        number = o.number;
        ahead = record {
          state = o.state;
          lookahead = o.holds.item.lookahead;
          at = o.at;
          held = get_contains o.state.items j.0 (item_with p i o.holds.item.lookahead)
              (o.holds.at ∙ ap Some (item_is o.holds.item p i c));
          error = o.holds.error;
        };
      }

  error_back : (a : ℕ) (p : Production) (i : ℕ) → HasErrorAheadOfOne states numbers a p i → HasErrorAhead joined a p i
  error_back a p i h =
      let l = h.ahead in
      let new = joined_at h.place a h.number in
      let m = are.made a new.0 new.1 in
      let j = contains_get l.state.items (item_with p i l.lookahead) l.held in
      let o = (m.made.errors j.0).1
      (record {
        place = h.place;
        state = l.state;
        number = h.number;
        at = l.at;
        holds = record { item = item_with p i l.lookahead; at = j.1; error = l.error };
      }) in
      let v = core_at l.state new.0 (sym (one_list h.place a l.state new.0 h.number l.at new.1)) j.0 (item_with p i l.lookahead) j.1 in
      let c : item_core o.item ≡ (p, i) = ap item_core (some_same o.item v.0 (sym o.at ∙ v.1)) ∙ v.2 in
      record {
        state = new.0;
        lookahead = o.item.lookahead;
        at = new.1;
        held = get_contains new.0.items j.0 (item_with p i o.item.lookahead) (o.at ∙ ap Some (item_is o.item p i c));
        error = o.error;
      }

  -- the edges of the first state lead by their numbers where those of any state with the number do
  first_leads : (a b n m k : ℕ) (x : Symbol) → slice_get numbers n ≡ Some a → slice_get numbers m ≡ Some b →
      slice_get numbers k ≡ Some a → HasEdge states n x m → (l : ℕ) × HasEdge states k x l × (slice_get numbers l ≡ Some b)
  first_leads a b n m k x e f g edge =
      let cover = can.automaton.cover in
      let r = edge_alike (Contains grammar) s (HasItem states) (HasEdge states) cover (HasItem states) (HasEdge states) cover
      x n m k edge ((by_core n k a a e g).0 refl) in
      let h = target_item (Contains grammar) s (HasItem states) (HasEdge states) cover k x r.0 r.1 in
      let c = number_of r.0 h.2.state h.2.at in
      let same : b ≡ c.0 = (by_core m r.0 b c.0 f c.1).1 r.2 in
      (r.0, r.1, c.1 ∙ ap Some (sym same))

  edge_there : (a : ℕ) (x : Symbol) (b : ℕ) → HasEdge joined a x b → HasEdgeOfOne states numbers a x b
  edge_there a (terminal t) b e =
      let m = are.made a e.0 e.1 in
      let r = (m.made.shifts t b).0 e.2 in
      record { source = m.place; target = r.0; source_number = m.number; target_number = r.2; edge = (m.first, m.at, r.1) }
  edge_there a (nonterminal A) b e =
      let m = are.made a e.0 e.1 in
      let r = (m.made.gotos A b).0 e.2 in
      record { source = m.place; target = r.0; source_number = m.number; target_number = r.2; edge = (m.first, m.at, r.1) }

  edge_back : (a : ℕ) (x : Symbol) (b : ℕ) → HasEdgeOfOne states numbers a x b → HasEdge joined a x b
  edge_back a (terminal t) b h =
      let new = joined_at h.source a h.source_number in
      let m = are.made a new.0 new.1 in
      let r = first_leads a b h.source h.target m.place (terminal t) h.source_number h.target_number m.number h.edge in
      let held = subst (λ st. Contains st.shifts (t, r.0)) (same_state states m.place r.1.0 m.first r.1.1 m.at) r.1.2 in
      (new.0, new.1, (m.made.shifts t b).1 (r.0, held, r.2))
  edge_back a (nonterminal A) b h =
      let new = joined_at h.source a h.source_number in
      let m = are.made a new.0 new.1 in
      let r = first_leads a b h.source h.target m.place (nonterminal A) h.source_number h.target_number m.number h.edge in
      let held = subst (λ st. Contains st.gotos (A, r.0)) (same_state states m.place r.1.0 m.first r.1.1 m.at) r.1.2 in
      (new.0, new.1, (m.made.gotos A b).1 (r.0, held, r.2))

  pub joined_collapse : IsCollapse states numbers joined
  joined_collapse =
      record {
        numbers_are = numbers_are;
        each = are.each;
        all = λ a l. let new = get_some joined a l in let m = are.made a new.0 new.1 in (m.place, m.number);
        items = λ n a e p i.
            let u = numbered n a e in
            let new = joined_at n a e in
            alike_by_core joined states a n new.0 u.0 new.1 u.1 (one_list n a u.0 new.0 e u.1 new.1) p i;
        lookaheads = λ a p i x. (λ h. look_there a p i x h, λ h. look_back a p i x h);
        errors = λ a p i. (λ h. error_there a p i h, λ h. error_back a p i h);
        edges = λ a x b. (λ e. edge_there a x b e, λ h. edge_back a x b h);
        once = λ a new j k u v e f g p d.
            let m = are.made a new e in
            let x = core_at new m.first m.made.core j u f in
            let y = core_at new m.first m.made.core k v g in
            can.once m.place m.first j k x.0 y.0 m.at x.1 y.1
            (ap (λ c. c.0) x.2 ∙ p ∙ sym (ap (λ c. c.0) y.2)) (ap (λ c. c.1) x.2 ∙ d ∙ sym (ap (λ c. c.1) y.2));
        reductions = λ a new e. (are.made a new e).made.reductions;
        index = λ a new e. (are.made a new e).made.index;
      }
