-- A list of nodes that grows behind a counter comes to be a lane.
use Rattle.std.proofs.Common.{◌≡◌, ◌∙◌, ◌↔◌, ◌⊎◌, ◌<◌, ◌≤◌, ◌+◌, ℕ, zero, suc, List, [], ◌∷◌, length, Some, None}
use Rattle.std.proofs.Common.{refl, sym, ap, subst, inl, inr, ⊎_elim, arith, Contains, slice_get}
use Rattle.std.proofs.lemmas.Option.{slice_get_within}
use Rattle.lalrpop_grammar_symbols.specs.Symbols.{Text}
use Rattle.lalrpop_lr1_theory.specs.Productions.{Next, Production, Symbol, nonterminal}
use Rattle.lalrpop_lr1_theory.proofs.ListLemmas.{contains_get, get_contains}
use Rattle.lalrpop_lr1_theory.proofs.NameLemmas.{no_element}
use Rattle.lalrpop_lr1_theory.proofs.StepLemmas.{some_same}
use Rattle.lalrpop_lane_theory.specs.Lanes.{Lane, LaneAdds, LaneEnters, LaneNotes, adds_end, adds_first, begins_lane, enters_at_start}
use Rattle.lalrpop_lane_theory.specs.Lanes.{enters_behind, enters_own, steps_back, steps_up}
use Rattle.lalrpop_lane_tables.specs.TraceNodes.{AreTraced, ExtendsNodes, IsOnLane}
use Rattle.lalrpop_lane_tables.specs.TraceNodes.{NodeAdds, NodeEnters, NodeLeads, NodeNotes, SomeNode, TraceNode}
use Rattle.lalrpop_lane_tables.specs.TraceNodes.{front_node, moved_node, node_of_item}

-- nodes that come, none, one after the other, and in other words
pub extends_none : (old : List TraceNode) (Came : TraceNode → Type 0) → ((node : TraceNode) → Came node → ⊥) → ExtendsNodes old old Came
extends_none old Came none = record {
  kept = λ j node e. e;
  nodes = λ node. (λ h. inl h, λ h. ⊎_elim (λ a. a) (λ e. absurd (none node e)) h);
}

pub extends_both : (a b c : List TraceNode) (P Q R : TraceNode → Type 0) → ((node : TraceNode) → R node ↔ (P node ⊎ Q node)) →
    ExtendsNodes a b P → ExtendsNodes b c Q → ExtendsNodes a c R
extends_both a b c P Q R both f g = record {
  kept = λ j node e. g.kept j node (f.kept j node e);
  nodes = λ node. (
    λ h. ⊎_elim
        (λ i. ⊎_elim (λ o. inl o) (λ p. inr ((both node).1 (inl p))) ((f.nodes node).0 i))
        (λ q. inr ((both node).1 (inr q))) ((g.nodes node).0 h),
    λ h. ⊎_elim
        (λ o. (g.nodes node).1 (inl ((f.nodes node).1 (inl o))))
        (λ r. ⊎_elim (λ p. (g.nodes node).1 (inl ((f.nodes node).1 (inr p)))) (λ q. (g.nodes node).1 (inr q)) ((both node).0 r)) h,
  );
}

pub extends_alike : (a b : List TraceNode) (P Q : TraceNode → Type 0) → ((node : TraceNode) → P node ↔ Q node) → ExtendsNodes a b P →
    ExtendsNodes a b Q
extends_alike a b P Q alike f = record {
  kept = f.kept;
  nodes = λ node. (
    λ h. ⊎_elim (λ o. inl o) (λ p. inr ((alike node).0 p)) ((f.nodes node).0 h),
    λ h. ⊎_elim (λ o. (f.nodes node).1 (inl o)) (λ q. (f.nodes node).1 (inr ((alike node).1 q))) h,
  );
}

-- what stands at an old place of a longer list stood there
place_before : {X : Type 0} (old new : List X) → ((j : ℕ) (x : X) → slice_get old j ≡ Some x → slice_get new j ≡ Some x) →
    (j : ℕ) (x : X) → j < length old → slice_get new j ≡ Some x → slice_get old j ≡ Some x
place_before {X = X} old new kept j x h e = go (long old j h)
  where
    long : (l : List X) (i : ℕ) → i < length l → (y : X) × (slice_get l i ≡ Some y)
    long [] i h = absurd (omega arith)
    long (y ∷ l) zero h = (y, refl)
    long (y ∷ l) (suc i) h = long l i (omega (arith, h))

    go : (y : X) × (slice_get old j ≡ Some y) → slice_get old j ≡ Some x
    go p = p.1 ∙ ap (λ z. Some z) (some_same p.0 x (sym (kept j p.0 p.1) ∙ e))

place_of : (j number : ℕ) → j < number + 1 → (j < number) ⊎ (j ≡ number)
place_of j number h = grind arith

-- one of the first nodes more
pub some_more : (Says : TraceNode → Type 0) (old new : List TraceNode) (number : ℕ) (node : TraceNode) →
    ((j : ℕ) (x : TraceNode) → slice_get old j ≡ Some x → slice_get new j ≡ Some x) → slice_get old number ≡ Some node →
    SomeNode Says new (number + 1) ↔ (SomeNode Says old number ⊎ Says node)
some_more Says old new number node kept at = (
  λ h. ⊎_elim
      (λ b. inl (h.0, h.1, b, place_before old new kept h.0 h.1 (omega (arith, b, slice_get_within old number node at)) h.3, h.4))
      (λ e. inr (subst Says (some_same h.1 node (sym h.3 ∙ ap (slice_get new) e ∙ kept number node at)) h.4))
      (place_of h.0 number h.2),
  λ h. ⊎_elim
      (λ o. (o.0, o.1, omega (arith, o.2), kept o.0 o.1 o.3, o.4))
      (λ s. (number, node, omega arith, kept number node at, s)) h,
)

pub some_of_none : (Says : TraceNode → Type 0) (visited : List TraceNode) → SomeNode Says visited 0 → ⊥
some_of_none Says visited h = omega (arith, h.2)

module _ (G : Production → Type 0) (s : Text) (Item : ℕ → Production → ℕ → Type 0) (Edge : ℕ → Symbol → ℕ → Type 0) (n : ℕ)
    (p : Production) (i : ℕ) where
  lane_at : (m : ℕ) (q : Production) (j : ℕ) → Lane G Item Edge n p i m q j → IsOnLane G s Item Edge n p i (node_of_item m q j)
  lane_at m q zero l = (q, refl, l)
  lane_at m q (suc j) l = l

  lane_leads : (node next : TraceNode) → IsOnLane G s Item Edge n p i node → NodeLeads G s Item Edge node next →
      IsOnLane G s Item Edge n p i next
  lane_leads (moved_node m q j) next l h =
      subst (IsOnLane G s Item Edge n p i) (sym h.2) (lane_at h.0 q j (steps_back h.1.symbol h.1.rest h.0 l h.1.before h.1.edge))
  lane_leads (front_node m A) next l h =
      subst (IsOnLane G s Item Edge n p i) (sym h.5)
      (lane_at m h.0 h.1 (steps_up h.0 h.1 h.2 l.2 h.3.item (h.3.before ∙ ap (λ B. nonterminal B ∷ h.2) (sym l.1)) h.4))

  -- the node of the item alone
  pub trace_begins : (visited : List TraceNode) → ExtendsNodes [] visited (λ k. k ≡ node_of_item n p i) →
      AreTraced G s Item Edge n p i visited 0
  trace_begins visited ext = record {
    first = (ext.nodes (node_of_item n p i)).1 (inr refl);
    sound = λ node c. ⊎_elim
        (λ d. absurd (no_element node d))
        (λ e. subst (IsOnLane G s Item Edge n p i) (sym e) (lane_at n p i begins_lane)) ((ext.nodes node).0 c);
    closed = λ j node next h e l. absurd (omega (arith, h));
  }

  -- one more leads on
  pub trace_goes_on : (visited new : List TraceNode) (number : ℕ) (node : TraceNode) → AreTraced G s Item Edge n p i visited number →
      slice_get visited number ≡ Some node → ExtendsNodes visited new (NodeLeads G s Item Edge node) →
      AreTraced G s Item Edge n p i new (number + 1)
  trace_goes_on visited new number node t at ext = record {
    first = (ext.nodes (node_of_item n p i)).1 (inl t.first);
    sound = λ k c. ⊎_elim
        (λ o. t.sound k o)
        (λ l. lane_leads node k (t.sound node (get_contains visited number node at)) l) ((ext.nodes k).0 c);
    closed = λ j k next h e l. ⊎_elim
        (λ before. (ext.nodes next).1 (inl (t.closed j k next before
        (place_before visited new ext.kept j k (omega (arith, before, slice_get_within visited number node at)) e) l)))
        (λ now. (ext.nodes next).1 (inr (subst (λ x. NodeLeads G s Item Edge x next)
        (some_same k node (sym e ∙ ap (slice_get new) now ∙ ext.kept number node at)) l))) (place_of j number h);
  }

  module _ (visited : List TraceNode) (number : ℕ) (t : AreTraced G s Item Edge n p i visited number) (all : length visited ≤ number) where
    -- where all lead on, the whole lane was visited
    whole : {m : ℕ} {q : Production} {j : ℕ} → Lane G Item Edge n p i m q j → Contains visited (node_of_item m q j)
    whole begins_lane = t.first
    whole (steps_back {m = m} {q = q} {j = j} X b k l before edge) =
        let at : (a : ℕ) × (slice_get visited a ≡ Some (moved_node m q j)) = contains_get visited (moved_node m q j) (whole l) in
        t.closed at.0 (moved_node m q j) (node_of_item k q j) (omega (arith, all, slice_get_within visited at.0 _ at.1)) at.1
        (k, record { symbol = X; rest = b; before = before; edge = edge }, refl)
    whole (steps_up {m = m} {q = q} r j b l item before first) =
        let at : (a : ℕ) × (slice_get visited a ≡ Some (front_node m q.left)) = contains_get visited (front_node m q.left) (whole l) in
        t.closed at.0 (front_node m q.left) (node_of_item m r j) (omega (arith, all, slice_get_within visited at.0 _ at.1)) at.1
        (r, j, b, record { item = item; before = before }, first, refl)

    some_of : (Says : TraceNode → Type 0) (node : TraceNode) → Contains visited node → Says node → SomeNode Says visited number
    some_of Says node c h =
        let at : (a : ℕ) × (slice_get visited a ≡ Some node) = contains_get visited node c in
        (at.0, node, omega (arith, all, slice_get_within visited at.0 node at.1), at.1, h)

    on_lane : (Says : TraceNode → Type 0) (h : SomeNode Says visited number) → IsOnLane G s Item Edge n p i h.1
    on_lane Says h = t.sound h.1 (get_contains visited h.0 h.1 h.3)

    adds_on : (m : ℕ) (x : Next) (node : TraceNode) → IsOnLane G s Item Edge n p i node → NodeAdds G s Item Edge node m x →
        LaneAdds G s Item Edge n p i m x
    adds_on m x (moved_node k q j) l h = absurd h
    adds_on m x (front_node k A) l h =
        subst (λ o. LaneAdds G s Item Edge n p i o x) (sym h.0) (⊎_elim
        (λ e. subst (LaneAdds G s Item Edge n p i k) (sym e.1) (adds_end l.2 (l.1 ∙ e.0)))
        (λ a. subst (LaneAdds G s Item Edge n p i k) (sym a.is) (adds_first a.production a.dot a.rest a.terminal_of l.2 a.stands.item
        (a.stands.before ∙ ap (λ B. nonterminal B ∷ a.rest) (sym l.1)) a.first)) h.1)

    adds_back : (m : ℕ) (x : Next) → LaneAdds G s Item Edge n p i m x →
        SomeNode (λ node. NodeAdds G s Item Edge node m x) visited number
    adds_back m x (adds_end {q = q} l e) =
        some_of (λ node. NodeAdds G s Item Edge node m None) (front_node m q.left) (whole l) (refl, inl (e, refl))
    adds_back m x (adds_first {q = q} r j b u l item before first) =
        some_of (λ node. NodeAdds G s Item Edge node m (Some u)) (front_node m q.left) (whole l)
        (refl, inr (record { production = r; dot = j; rest = b; terminal_of = u; stands = record { item = item; before = before }; is = refl; first = first }))

    -- what the nodes add is what the lane adds
    pub trace_adds : (m : ℕ) (x : Next) →
        SomeNode (λ node. NodeAdds G s Item Edge node m x) visited number ↔ LaneAdds G s Item Edge n p i m x
    trace_adds m x = (λ h. adds_on m x h.1 (on_lane (λ node. NodeAdds G s Item Edge node m x) h) h.4, adds_back m x)

    enters_on : (m : ℕ) (node : TraceNode) → IsOnLane G s Item Edge n p i node → NodeEnters G s Item Edge node m →
        LaneEnters G s Item Edge n p i m
    enters_on m (moved_node k q j) l h = absurd h
    enters_on m (front_node k A) l h =
        subst (LaneEnters G s Item Edge n p i) (sym h.0) (⊎_elim
        (λ e. enters_at_start l.2 (l.1 ∙ e))
        (λ a. enters_behind a.0 a.1 a.2 l.2 a.3.item (a.3.before ∙ ap (λ B. nonterminal B ∷ a.2) (sym l.1))) h.1)

    enters_back : (m : ℕ) → LaneEnters G s Item Edge n p i m → (m ≡ n) ⊎ SomeNode (λ node. NodeEnters G s Item Edge node m) visited number
    enters_back m enters_own = inl refl
    enters_back m (enters_at_start {q = q} l e) =
        inr (some_of (λ node. NodeEnters G s Item Edge node m) (front_node m q.left) (whole l) (refl, inl e))
    enters_back m (enters_behind {q = q} r j b l item before) =
        inr (some_of (λ node. NodeEnters G s Item Edge node m) (front_node m q.left) (whole l)
        (refl, inr (r, j, b, record { item = item; before = before })))

    -- where they have entries, beside that of the item's own state, the lane has
    pub trace_enters : (m : ℕ) →
        ((m ≡ n) ⊎ SomeNode (λ node. NodeEnters G s Item Edge node m) visited number) ↔ LaneEnters G s Item Edge n p i m
    trace_enters m = (
      λ h. ⊎_elim
          (λ e. subst (LaneEnters G s Item Edge n p i) (sym e) enters_own)
          (λ a. enters_on m a.1 (on_lane (λ node. NodeEnters G s Item Edge node m) a) a.4) h,
      enters_back m,
    )

    notes_on : (k m : ℕ) (node : TraceNode) → IsOnLane G s Item Edge n p i node → NodeNotes G s Item Edge node k m →
        LaneNotes G Item Edge n p i k m
    notes_on k m (moved_node o q j) l h =
        subst (λ a. LaneNotes G Item Edge n p i k a) (sym h.0)
        (record { production = q; dot = j; symbol = h.1.symbol; rest = h.1.rest; stepped = l; before = h.1.before; edge = h.1.edge })
    notes_on k m (front_node o A) l h = absurd h

    -- and which edges they note
    pub trace_notes : (k m : ℕ) →
        SomeNode (λ node. NodeNotes G s Item Edge node k m) visited number ↔ LaneNotes G Item Edge n p i k m
    trace_notes k m = (
      λ h. notes_on k m h.1 (on_lane (λ node. NodeNotes G s Item Edge node k m) h) h.4,
      λ l. some_of (λ node. NodeNotes G s Item Edge node k m) (moved_node m l.production l.dot) (whole l.stepped)
          (refl, record { symbol = l.symbol; rest = l.rest; before = l.before; edge = l.edge }),
    )
