-- What flows between nonterminals by number is what a closure marks at their items: for the closure of a seed.
use Rattle.std.proofs.Common.{◌≡◌, ◌∙◌, ℕ, ◌+◌, ◌<◌, ◌≤◌, Bool, true, false, not, ◌||◌, ◌&&◌}
use Rattle.std.proofs.Common.{eqb, List, [], ◌∷◌, drop}
use Rattle.std.proofs.Common.{refl, sym, ap, subst, arith, ◌⊎◌, inl, inr, ⊎_elim, slice_get, Option, Some, None, Contains}
use Rattle.lalrpop_grammar_symbols.specs.Symbols.{Terminal}
use Rattle.lalrpop_lr1_theory.specs.Productions.{Symbol, nonterminal, Production, Next}
use Rattle.lalrpop_lr1_theory.specs.FirstSets.{First0}
use Rattle.lalrpop_lr1_theory.specs.Automata.{Marked}
use Rattle.lalrpop_lr1_theory.specs.Automata as marked
use Rattle.lalrpop_sets.specs.AscendingLists.{has}
use Rattle.lalrpop_lr1_first.specs.Flows.{FlowEdge, Flows, begins, brings, comes, passes, starts}
use Rattle.lalrpop_lr1_first.specs.ItemTables.{AreEdgesOf, AreFirstsOf, AreSeeded, FlowsToStart, HasMark, HasPlace}
use Rattle.lalrpop_lr1_first.specs.ItemTables.{IsItemTable, ListsItem, ListsNext}
use Rattle.lalrpop_lr1_first.specs.Numbers.{IsNumbering, SpellsSymbols}
use Rattle.lalrpop_lr1_first.specs.declared.place.NumberedRule.{NumberedRule}
use Rattle.lalrpop_lr1_first.proofs.ListLemmas.{both_and, or_cases, or_left, or_right}
use Rattle.lalrpop_grammar_symbols.proofs.BoolLemmas.{and_both}
use Rattle.lalrpop_sets.proofs.AscendingListLemmas.{eqb_not}
use Rattle.lalrpop_sets.proofs.AscendingListLemmas.{eqb_self}

-- what is spelled with a first number begins with its symbol
spelled_first : (symbol_at : ℕ → Option Symbol) (s : ℕ) (more : List ℕ) (ys : List Symbol) (x : Symbol) →
    symbol_at s ≡ Some x →
    SpellsSymbols symbol_at (s ∷ more) ys → (b : List Symbol) × (ys ≡ x ∷ b) × SpellsSymbols symbol_at more b
spelled_first symbol_at s more [] x is sp = absurd sp
spelled_first symbol_at s more (y ∷ ys) x is sp =
    let both : Some y ≡ Some x = sym sp.0 ∙ is in let e : y ≡ x = cc in (ys, ap (λ z. z ∷ ys) e, sp.1)

spelled_symbols : (symbol_at : ℕ → Option Symbol) (xs : List ℕ) (x : Symbol) (b : List Symbol) →
    SpellsSymbols symbol_at xs (x ∷ b) →
    (s : ℕ) × (more : List ℕ) × (xs ≡ s ∷ more) × (symbol_at s ≡ Some x) × SpellsSymbols symbol_at more b
spelled_symbols symbol_at [] x b sp = absurd sp
spelled_symbols symbol_at (s ∷ more) x b sp = (s, more, refl, sp.0, sp.1)

module _ {L : Type 0} (marks : L → List ℕ) (firsts : Bool) (G : Production → Type 0) (symbol_at : ℕ → Option Symbol)
    (next_at : ℕ → Next) (end names : ℕ) (numbered : IsNumbering symbol_at next_at end names)
    (Item : ℕ → Production → ℕ → Type 0) (rest_at first_at : ℕ → List ℕ) (rules : List NumberedRule)
    (table : IsItemTable G symbol_at Item rest_at rules)
    (are_firsts : AreFirstsOf G symbol_at next_at end rest_at first_at)
    (edges : List FlowEdge) (are_edges : AreEdgesOf names rest_at first_at rules edges)
    (seed : List (ℕ × L)) (slots : List (List ℕ))
    (seeded : AreSeeded marks firsts end names rest_at first_at seed slots)
    (items : (i : ℕ) (l : L) → Contains seed (i, l) → (p : Production) × (d : ℕ) × Item i p d) where
  abbrev K : Production → ℕ → Type 0
  K = ListsItem seed Item

  abbrev U : Production → ℕ → Next → Type 0
  U = ListsNext marks seed next_at end Item

  abbrev M : Production → ℕ → Option Next → Type 0
  M = Marked firsts G K U

  abbrev F : ℕ → ℕ → Type 0
  F = Flows firsts end edges slots

  -- where something flows, something is there
  flows_there : (s k : ℕ) → F s k → F s (end + 2)
  flows_there s k (begins _ _ h) =
      let b = (seeded s k).0 h in
      begins s (end + 2) ((seeded s (end + 2)).1 (record {
        place = b.place;
        lookahead = b.lookahead;
        more = b.more;
        held = b.held;
        rest = b.rest;
        name = b.name;
        mark = inl refl;
      }))
  flows_there s k (brings r e at d) = brings r e at d
  flows_there s k (starts r e _ at d f h) = brings r e at d
  flows_there s k (passes r e _ at d h d') = brings r e at d

  -- no first token is past the end, so what comes and is none of what stood there is a first token
  first_terminal : (i s : ℕ) (more : List ℕ) → rest_at i ≡ s ∷ more → (k : ℕ) (ys : List Symbol) →
      SpellsSymbols symbol_at (rest_at (i + 1)) ys →
      has (first_at (i + 1)) k ≡ true → eqb k end ≡ false → (t : Terminal) × (next_at k ≡ Some t) × First0 G ys (Some t)
  first_terminal i s more rest k ys sp h ne = go (next_at k) refl
    where
      l : k ≤ end
      l = are_firsts.within i s more rest k h

      go : (x : Next) → next_at k ≡ x → (t : Terminal) × (next_at k ≡ Some t) × First0 G ys (Some t)
      go None e =
          let z : k ≡ end = numbered.next_once k end l (omega arith) (e ∙ sym numbered.end_at) in
          let w : eqb k end ≡ true = ap (λ j. eqb k j) (sym z) ∙ eqb_self k in let v : ⊥ = cc in absurd v
      go (Some t) e = (t, e, subst (First0 G ys) e ((are_firsts.exact i s more rest ys sp k l).0 h))

  first_end : (i s : ℕ) (more : List ℕ) → rest_at i ≡ s ∷ more →
      (ys : List Symbol) → SpellsSymbols symbol_at (rest_at (i + 1)) ys →
      has (first_at (i + 1)) end ≡ true → First0 G ys None
  first_end i s more rest ys sp h = subst (First0 G ys) numbered.end_at ((are_firsts.exact i s more rest ys sp end (omega arith)).0 h)

  not_true : (b : Bool) → not b ≡ true → b ≡ false
  not_true true h = let z : ⊥ = cc in absurd z
  not_true false h = refl

  -- ---- what comes from an item whose dot stands before the nonterminal
  module _ (i s : ℕ) (more : List ℕ) (rest : rest_at i ≡ s ∷ more) (p : Production) (d : ℕ) (item : Item i p d) (q : Production)
      (is : symbol_at s ≡ Some (nonterminal q.left)) (g : G q) where
    parts : (b : List Symbol) × (drop d p.right ≡ nonterminal q.left ∷ b) × SpellsSymbols symbol_at more b
    parts = spelled_first symbol_at s more (drop d p.right) (nonterminal q.left) is
        (subst (λ xs. SpellsSymbols symbol_at xs (drop d p.right)) rest (table.spelled i p d item))

    behind : SpellsSymbols symbol_at (rest_at (i + 1)) parts.0
    behind = subst (λ xs. SpellsSymbols symbol_at xs parts.0) (sym (table.next i s more rest)) parts.2

    item_there : M p d None → M q 0 None
    item_there m = marked.brings parts.0 q m parts.1 g

    item_mark : (k : ℕ) (x : Next) → k ≤ end → next_at k ≡ x → M p d None → (set : List ℕ) →
        (has set k ≡ true → M p d (Some x)) → comes firsts end (first_at (i + 1)) set k ≡ true → M q 0 (Some x)
    item_mark k x l nx m set has_x h =
        ⊎_elim
        (λ z.
        let a = and_both firsts (not (eqb k end) && has (first_at (i + 1)) k) z in
        let c = and_both (not (eqb k end)) (has (first_at (i + 1)) k) a.1 in
        let t = first_terminal i s more rest k parts.0 behind c.1 (not_true (eqb k end) c.0) in
        let e : Some t.0 ≡ x = sym t.1 ∙ nx in
        subst (λ y. M q 0 (Some y)) e (marked.starts parts.0 q t.0 a.0 m parts.1 g t.2))
        (λ z.
        let a = and_both (has (first_at (i + 1)) end) (has set k) z in
        marked.passes parts.0 q x (has_x a.1) parts.1 g (first_end i s more rest parts.0 behind a.0))
        (or_cases (firsts && (not (eqb k end) && has (first_at (i + 1)) k)) (has (first_at (i + 1)) end && has set k) h)

  seed_item : (i : ℕ) (l : L) (p : Production) (d : ℕ) → Contains seed (i, l) → Item i p d → M p d None
  seed_item i l p d c item = marked.there p d (i, (l, c), item)

  seed_look : (i : ℕ) (l : L) (p : Production) (d k : ℕ) (x : Next) → Contains seed (i, l) → Item i p d →
      has (marks l) k ≡ true →
      k ≤ end → next_at k ≡ x → M p d (Some x)
  seed_look i l p d k x c item h le nx = marked.has_next p d x
      (record { place = i; number = k; held = (l, c, h); small = le; next_is = nx; item = item })

  -- what comes over an edge is marked at the items of the nonterminal to which it leads
  edge_item : (r : ℕ) (e : FlowEdge) → slice_get edges r ≡ Some e →
      ((p : Production) → G p → symbol_at e.from ≡ Some (nonterminal p.left) → M p 0 None) →
      (q : Production) → G q → symbol_at e.to ≡ Some (nonterminal q.left) → M q 0 None
  edge_item r e at rec q g is =
      let ru = are_edges.sound r e at in
      let st = table.rule ru.0 ru.1 in
      let item = st.1.item in
      item_there ru.0.start e.to ru.2.more ru.2.rest st.0 0 item q is g
      (rec st.0 (table.of_grammar ru.0.start st.0 0 item) (ap symbol_at ru.2.from ∙ st.1.left))

  edge_mark : (r : ℕ) (e : FlowEdge) → slice_get edges r ≡ Some e → (k : ℕ) (x : Next) → k ≤ end → next_at k ≡ x →
      (set : List ℕ) →
      ((p : Production) → G p → symbol_at e.from ≡ Some (nonterminal p.left) → M p 0 None) →
      (has set k ≡ true → (p : Production) → G p → symbol_at e.from ≡ Some (nonterminal p.left) → M p 0 (Some x)) →
      comes firsts end e.first set k ≡ true →
      (q : Production) → G q → symbol_at e.to ≡ Some (nonterminal q.left) → M q 0 (Some x)
  edge_mark r e at k x l nx set rec look h q g is =
      let ru = are_edges.sound r e at in
      let st = table.rule ru.0 ru.1 in
      let item = st.1.item in
      let gp = table.of_grammar ru.0.start st.0 0 item in
      let isp = ap symbol_at ru.2.from ∙ st.1.left in
      item_mark ru.0.start e.to ru.2.more ru.2.rest st.0 0 item q is g k x l nx (rec st.0 gp isp) set (λ y. look y st.0 gp isp)
      (subst (λ f. comes firsts end f set k ≡ true) ru.2.first h)

  -- what flows to a nonterminal is marked at its items: that they are there
  pub flows_item : (s k : ℕ) → F s k → (q : Production) → G q → symbol_at s ≡ Some (nonterminal q.left) → M q 0 None
  flows_item s k (begins _ _ h) q g is =
      let b = (seeded s k).0 h in
      let a = items b.place b.lookahead b.held in
      item_there b.place s b.more b.rest a.0 a.1 a.2 q is g (seed_item b.place b.lookahead a.0 a.1 b.held a.2)
  flows_item s k (brings r e at d) q g is = edge_item r e at (λ p gp isp. flows_item e.from (end + 2) d p gp isp) q g is
  flows_item s k (starts r e _ at d f h) q g is = edge_item r e at (λ p gp isp. flows_item e.from (end + 2) d p gp isp) q g is
  flows_item s k (passes r e _ at d h d') q g is = edge_item r e at (λ p gp isp. flows_item e.from (end + 2) d p gp isp) q g is

  -- and what may follow them
  pub flows_mark : (s k : ℕ) → F s k → (x : Next) → k ≤ end → next_at k ≡ x → (q : Production) → G q →
      symbol_at s ≡ Some (nonterminal q.left) → M q 0 (Some x)
  flows_mark s k (begins _ _ h) x l nx q g is =
      let b = (seeded s k).0 h in
      let a = items b.place b.lookahead b.held in
      ⊎_elim
      (λ (z : k ≡ end + 2). absurd (omega arith))
      (λ z. item_mark b.place s b.more b.rest a.0 a.1 a.2 q is g k x l nx (seed_item b.place b.lookahead a.0 a.1 b.held a.2)
      (marks b.lookahead) (λ y. seed_look b.place b.lookahead a.0 a.1 k x b.held a.2 y l nx) z)
      b.mark
  flows_mark s k (brings r e at d) x l nx q g is = absurd (omega arith)
  flows_mark s k (starts r e _ at d f h) x l nx q g is =
      edge_mark r e at k x l nx [] (λ p gp isp. flows_item e.from (end + 2) d p gp isp)
      (λ y p gp isp. let w : ⊥ = cc in absurd w)
      (or_left (firsts && (not (eqb k end) && has e.first k)) (has e.first end && false)
      (both_and firsts (not (eqb k end) && has e.first k) f h)) q g is
  flows_mark s k (passes r e _ at d h d') x l nx q g is =
      edge_mark r e at k x l nx (k ∷ []) (λ p gp isp. flows_item e.from (end + 2) d p gp isp)
      (λ y p gp isp. flows_mark e.from k d' x l nx p gp isp)
      (or_right (firsts && (not (eqb k end) && has e.first k)) (has e.first end && (eqb k k || false))
      (both_and (has e.first end) (eqb k k || false) h (or_left (eqb k k) false (eqb_self k)))) q g is

  -- ---- back
  -- what the closure has at a place: whether it is there, and the numbers of what may follow
  abbrev pub ClosedPlace : ℕ → Type 0
  ClosedPlace i = HasPlace seed i ⊎ FlowsToStart firsts end rules edges slots i (end + 2)

  abbrev pub ClosedMark : ℕ → ℕ → Type 0
  ClosedMark i k = HasMark marks seed i k ⊎ FlowsToStart firsts end rules edges slots i k

  module _ (i : ℕ) (p : Production) (d : ℕ) (item : Item i p d) (b : List Symbol) (q : Production)
      (before : drop d p.right ≡ nonterminal q.left ∷ b) (g : G q) where
    ahead : (s : ℕ) × (more : List ℕ) × (rest_at i ≡ s ∷ more) × (symbol_at s ≡ Some (nonterminal q.left))
        × SpellsSymbols symbol_at more b
    ahead = spelled_symbols symbol_at (rest_at i) (nonterminal q.left) b (subst (SpellsSymbols symbol_at (rest_at i)) before
        (table.spelled i p d item))

    name : ahead.0 < names
    name = numbered.name_below ahead.0 q.left ahead.3

    rest_behind : SpellsSymbols symbol_at (rest_at (i + 1)) b
    rest_behind = subst (λ xs. SpellsSymbols symbol_at xs b) (sym (table.next i ahead.0 ahead.1 ahead.2)) ahead.4

    -- what flows to the nonterminal flows to the place of its production
    to_start : (k : ℕ) → F ahead.0 k → (j : ℕ) × Item j q 0 × FlowsToStart firsts end rules edges slots j k
    to_start k f =
        let a = table.all q g in
        let one : ahead.0 ≡ a.0.left = numbered.name_once ahead.0 a.0.left q.left ahead.3 a.1.left in
        (a.0.start, a.1.item, (a.0, a.1.listed, refl, subst (λ z. F z k) one f))

    edge_at : (rule : NumberedRule) → Contains rules rule → rule.start ≡ i → (r : ℕ) × (e : FlowEdge)
        × (slice_get edges r ≡ Some e)
        × (e.to ≡ ahead.0) × (e.from ≡ rule.left) × (e.first ≡ first_at (i + 1))
    edge_at rule listed starts_here =
        let x = are_edges.all rule ahead.0 ahead.1 listed (ap rest_at starts_here ∙ ahead.2) name in
        (x.0, x.1, x.2, x.3, x.4.from, x.4.first ∙ ap (λ z. first_at (z + 1)) starts_here)

    seed_brings : (l : L) (k : ℕ) → Contains seed (i, l) →
        ((k ≡ end + 2) ⊎ (comes firsts end (first_at (i + 1)) (marks l) k ≡ true)) → F ahead.0 k
    seed_brings l k c mark = begins ahead.0 k ((seeded ahead.0 k).1 (record {
      place = i;
      lookahead = l;
      more = ahead.1;
      held = c;
      rest = ahead.2;
      name = name;
      mark = mark;
    }))

    flows_on : ClosedPlace i → F ahead.0 (end + 2)
    flows_on (inl h) = seed_brings h.0 (end + 2) h.1 (inl refl)
    flows_on (inr h) =
        let e = edge_at h.0 h.1 h.2 in
        subst (λ z. F z (end + 2)) e.3 (brings e.0 e.1 e.2 (subst (λ z. F z (end + 2)) (sym e.4) h.3))

    flows_first : ClosedPlace i → (k : ℕ) → firsts ≡ true → not (eqb k end) && has (first_at (i + 1)) k ≡ true → F ahead.0 k
    flows_first (inl h) k f n = seed_brings h.0 k h.1 (inr (or_left (firsts && (not (eqb k end) && has (first_at (i + 1)) k))
        (has (first_at (i + 1)) end && has (marks h.0) k) (both_and firsts (not (eqb k end) && has (first_at (i + 1)) k) f n)))
    flows_first (inr h) k f n =
        let e = edge_at h.0 h.1 h.2 in
        subst (λ z. F z k) e.3 (starts e.0 e.1 k e.2 (subst (λ z. F z (end + 2)) (sym e.4) h.3) f
        (subst (λ z. not (eqb k end) && has z k ≡ true) (sym e.5) n))

    flows_past : (k : ℕ) → ClosedMark i k → has (first_at (i + 1)) end ≡ true → F ahead.0 k
    flows_past k (inl h) n = seed_brings h.0 k h.1 (inr (or_right (firsts && (not (eqb k end) && has (first_at (i + 1)) k))
        (has (first_at (i + 1)) end && has (marks h.0) k) (both_and (has (first_at (i + 1)) end) (has (marks h.0) k) n h.2)))
    flows_past k (inr h) n =
        let e = edge_at h.0 h.1 h.2 in
        let f = subst (λ z. F z k) (sym e.4) h.3 in
        subst (λ z. F z k) e.3 (passes e.0 e.1 k e.2 (flows_there e.1.from k f) (ap (λ z. has z end) e.5 ∙ n) f)

  -- each marked item has a place in the closure
  pub place_of : {p : Production} {d : ℕ} (m : Option Next) → M p d m → (i : ℕ) × Item i p d × ClosedPlace i
  place_of m (marked.there p d k) = (k.0, k.2, inl k.1)
  place_of m (marked.has_next p d x u) = (u.place, u.item, inl (u.held.0, u.held.1))
  place_of m (marked.brings {p = p} {i = d} b q h e g) =
      let r = place_of None h in
      let j = to_start r.0 p d r.1 b q e g (end + 2) (flows_on r.0 p d r.1 b q e g r.2) in (j.0, j.1, inr j.2)
  place_of m (marked.starts {p = p} {i = d} b q t f h e g n) =
      let r = place_of None h in
      let j = to_start r.0 p d r.1 b q e g (end + 2) (flows_on r.0 p d r.1 b q e g r.2) in (j.0, j.1, inr j.2)
  place_of m (marked.passes {p = p} {i = d} b q x h e g n) =
      let r = place_of (Some x) h in
      let j = to_start r.0 p d r.1 b q e g (end + 2) (flows_on r.0 p d r.1 b q e g r.2) in (j.0, j.1, inr j.2)

  -- with each next in its lookahead
  pub mark_at : {p : Production} {d : ℕ} (m : Option Next) (x : Next) → M p d m → m ≡ Some x →
      (i k : ℕ) × Item i p d × (k ≤ end) × (next_at k ≡ x) × ClosedMark i k
  mark_at m x (marked.there p d k) z = let w : ⊥ = cc in absurd w
  mark_at m x (marked.has_next p d y u) z =
      let e : y ≡ x = cc in (u.place, u.number, u.item, u.small, u.next_is ∙ e, inl u.held)
  mark_at m x (marked.brings b q h e g) z = let w : ⊥ = cc in absurd w
  mark_at m x (marked.starts {p = p} {i = d} b q t f h e g n) z =
      let w : Some t ≡ x = cc in
      let r = place_of None h in
      let a = ahead r.0 p d r.1 b q e g in
      let sp = rest_behind r.0 p d r.1 b q e g in
      let k = are_firsts.has_number r.0 a.0 a.1 a.2 b sp (Some t) n in
      let first : has (first_at (r.0 + 1)) k.0 ≡ true =
      (are_firsts.exact r.0 a.0 a.1 a.2 b sp k.0 k.1).1 (subst (First0 G b) (sym k.2) n) in
      let not_end : eqb k.0 end ≡ false = eqb_not k.0 end
      (λ y. let v : Some t ≡ None = sym k.2 ∙ ap next_at y ∙ numbered.end_at in let u : ⊥ = cc in u) in
      let j = to_start r.0 p d r.1 b q e g k.0 (flows_first r.0 p d r.1 b q e g r.2 k.0 f
      (both_and (not (eqb k.0 end)) (has (first_at (r.0 + 1)) k.0) (ap not not_end) first)) in
      (j.0, k.0, j.1, k.1, k.2 ∙ w, inr j.2)
  mark_at m x (marked.passes {p = p} {i = d} b q y h e g n) z =
      let w : y ≡ x = cc in
      let r = mark_at (Some y) y h refl in
      let a = ahead r.0 p d r.2 b q e g in
      let sp = rest_behind r.0 p d r.2 b q e g in
      let last : has (first_at (r.0 + 1)) end ≡ true =
      (are_firsts.exact r.0 a.0 a.1 a.2 b sp end (omega arith)).1 (subst (First0 G b) (sym numbered.end_at) n) in
      let j = to_start r.0 p d r.2 b q e g r.1 (flows_past r.0 p d r.2 b q e g r.1 r.5 last) in
      (j.0, r.1, j.1, r.3, r.4 ∙ w, inr j.2)

  -- ---- the closure's places and marks are exactly what is marked
  pub place_is_marked : (i : ℕ) (p : Production) (d : ℕ) → ClosedPlace i → Item i p d → M p d None
  place_is_marked i p d (inl h) item = seed_item i h.0 p d h.1 item
  place_is_marked i p d (inr h) item =
      let st = table.rule h.0 h.1 in
      let one = table.one i p st.0 d 0 item (subst (λ j. Item j st.0 0) h.2 st.1.item) in
      let m = flows_item h.0.left (end + 2) h.3 st.0 (table.of_grammar h.0.start st.0 0 st.1.item) st.1.left in
      subst (λ (e : ℕ). M p e None) (sym one.1) (subst (λ (q : Production). M q 0 None) (sym one.0) m)

  pub mark_is_marked : (i k : ℕ) (p : Production) (d : ℕ) (x : Next) → ClosedMark i k → k ≤ end → next_at k ≡ x →
      Item i p d → M p d (Some x)
  mark_is_marked i k p d x (inl h) l nx item = seed_look i h.0 p d k x h.1 item h.2 l nx
  mark_is_marked i k p d x (inr h) l nx item =
      let st = table.rule h.0 h.1 in
      let one = table.one i p st.0 d 0 item (subst (λ j. Item j st.0 0) h.2 st.1.item) in
      let m = flows_mark h.0.left k h.3 x l nx st.0 (table.of_grammar h.0.start st.0 0 st.1.item) st.1.left in
      subst (λ (e : ℕ). M p e (Some x)) (sym one.1) (subst (λ (q : Production). M q 0 (Some x)) (sym one.0) m)
