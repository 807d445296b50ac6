-- Edges that are added one after another, from slot to slot: for what slots propagate.
use Rattle.std.proofs.Common.{◌≡◌, ◌∙◌, ◌↔◌, ◌⊎◌, ℕ, zero, suc, ◌+◌, ◌<◌, ◌≤◌}
use Rattle.std.proofs.Common.{false, List, [], ◌∷◌, ◌++◌, Contains}
use Rattle.std.proofs.Common.{Option, None, Some, length, take, drop, map, refl, sym, ap, subst, inl, inr, ⊎_elim, arith}
use Rattle.std.proofs.Common.{slice_get, get_or}
use Rattle.std.specs.Borrow.{Bor}
use Rattle.std.proofs.lemmas.List.{take_all}
use Rattle.std.proofs.lemmas.List.Elements.{Contains-append_cases, Contains-append_left, Contains-append_right}
use Rattle.std.proofs.lemmas.Option.{slice_get_within}
use Rattle.lalrpop_grammar_symbols.specs.Symbols.{Text}
use Rattle.lalrpop_grammar_repr.specs.declared.grammar.Grammar.{Grammar}
use Rattle.lalrpop_grammar_repr.specs.declared.production.Production.{Production}
use Rattle.lalrpop_grammar_repr.specs.declared.production.Symbol.{Symbol}
use Rattle.lalrpop_lr1_theory.specs.Productions as theory
use Rattle.lalrpop_lr1_theory.specs.FirstSets.{First0}
use Rattle.lalrpop_lr1_theory.specs.States.{HasEdge, LookaheadSet}
use Rattle.lalrpop_lr1_theory.proofs.ListLemmas.{contains_here, contains_split}
use Rattle.lalrpop_lr1_theory.proofs.StepLemmas.{some_same}
use Rattle.lalrpop_lr1_core.proofs.MemberLemmas.{in_map, map_has}
use Rattle.lalrpop_lr1_core.specs.declared.state.State.{State}
use Rattle.lalrpop_lr1_core.specs.Views.{lr_state_view, production_symbol_view}
use Rattle.lalrpop_lr1_first.specs.FirstSetsOf.{IsProductionOf}
use Rattle.lalrpop_lr1_first.specs.Listings.{lent}
use Rattle.lalrpop_lr1_first.specs.declared.flowing.Edge.{Edge}
use Rattle.lalrpop_lr1_first.proofs.TableLemmas.{long_map}
use Rattle.lalrpop_lr1_theory.specs.PropagatedNexts.{LeadAlong}
use Rattle.lalrpop_lr1_check_lookaheads.proofs.GainLemmas.{taken_one}
use Rattle.lalrpop_lr1_theory.proofs.NameLemmas.{no_element}
use Rattle.lalrpop_lr1_check_lookaheads.specs.PropagationEdges.{ArePropagationEdges, GainsEdges, PropagatesAtDot, PropagatesBySome, LeadsToSlot}
use Rattle.lalrpop_lr1_check_lookaheads.specs.KeyedSets.{IsMarkIn}
use Rattle.lalrpop_lr1_check_lookaheads.specs.LookaheadSlots.{AreSlots, GainsSlotMarks, SlotKey, slot_key, slot_keys}
use Rattle.lalrpop_lr1_check_lookaheads.specs.declared.lookaheads.slots.Slots.{Slots}
use Rattle.lalrpop_lr1_check_lookaheads.proofs.BroughtLemmas.{name_same}
use Rattle.lalrpop_lr1_check_lookaheads.proofs.SlotLemmas.{key_of}

no_token : (k : ℕ) → IsMarkIn [] (Some k) → ⊥
no_token k m = let w : ⊥ = cc in w

module _ (from : ℕ) where
  pub edges_none : (old : Slots) (es : List Edge) (To : SlotKey → Type 0) → AreSlots old → ((key : SlotKey) → To key → ⊥) →
      GainsEdges from old es old es To
  edges_none old es To are none = record {
    are = are;
    kept = λ j key e. e;
    has = λ key mark h. h;
    tokens = λ key k h. h;
    edges = λ e c. c;
    sound = λ e c. inl c;
    all = λ key t. absurd (none key t);
  }

  pub edges_one : (old new : Slots) (es fs : List Edge) (own : SlotKey) (e : Edge) →
      GainsSlotMarks old new (λ key mark. (key ≡ own) × IsMarkIn [] mark) → fs ≡ es ++ e ∷ [] → e.from ≡ from →
      e.rest ≡ 0 →
      slice_get (slot_keys new) e.to ≡ Some own → GainsEdges from old es new fs (λ key. key ≡ own)
  edges_one old new es fs own e gain is from_is rest_is at = record {
    are = gain.are;
    kept = gain.kept;
    has = λ key mark h. (gain.marks key mark).1 (inl h);
    tokens = λ key k h. ⊎_elim (λ o. o) (λ (z, m). absurd (no_token k m)) ((gain.marks key (Some k)).0 h);
    edges = λ f c. subst (λ l. Contains l f) (sym is) (Contains-append_left es (e ∷ []) f c);
    sound = λ f c. ⊎_elim
        (λ d. inl d)
        (λ d. ⊎_elim
        (λ (z : e ≡ f). inr (subst (LeadsToSlot from new (λ key. key ≡ own)) z
        (record { key = own; from_is = from_is; rest_is = rest_is; at = at; to = refl })))
        (λ n. absurd (no_element f n)) (contains_split e f [] d))
        (Contains-append_cases es (e ∷ []) f (subst (λ l. Contains l f) is c));
    all = λ key z. (
      e,
      subst (λ l. Contains l e) (sym is) (Contains-append_right es (e ∷ []) e (contains_here e [])),
      from_is,
      at ∙ ap Some (sym z),
    );
  }

  pub edges_both : (a b c : Slots) (ea eb ec : List Edge) (T U : SlotKey → Type 0) → GainsEdges from a ea b eb T →
      GainsEdges from b eb c ec U → GainsEdges from a ea c ec (λ key. T key ⊎ U key)
  edges_both a b c ea eb ec T U g h = record {
    are = h.are;
    kept = λ j key e. h.kept j key (g.kept j key e);
    has = λ key mark m. h.has key mark (g.has key mark m);
    tokens = λ key k m. g.tokens key k (h.tokens key k m);
    edges = λ e m. h.edges e (g.edges e m);
    sound = λ e m. ⊎_elim
        (λ n. ⊎_elim
        (λ o. inl o)
        (λ (l : LeadsToSlot from b T e). inr (record {
          key = l.key;
          from_is = l.from_is;
          rest_is = l.rest_is;
          at = h.kept e.to l.key l.at;
          to = inl l.to;
        })) (g.sound e n))
        (λ (l : LeadsToSlot from c U e).
        inr (record { key = l.key; from_is = l.from_is; rest_is = l.rest_is; at = l.at; to = inr l.to })) (h.sound e m);
    all = λ key s. ⊎_elim
        (λ t. let r = g.all key t in (r.0, h.edges r.0 r.1, r.2, h.kept r.0.to key r.3))
        (λ u. h.all key u) s;
  }

  pub edges_as : (a b : Slots) (ea eb : List Edge) (T U : SlotKey → Type 0) → ((key : SlotKey) → T key ↔ U key) →
      GainsEdges from a ea b eb T → GainsEdges from a ea b eb U
  edges_as a b ea eb T U same g = record {
    are = g.are;
    kept = g.kept;
    has = g.has;
    tokens = g.tokens;
    edges = g.edges;
    sound = λ e m. ⊎_elim
        (λ o. inl o)
        (λ (l : LeadsToSlot from b T e).
        inr (record { key = l.key; from_is = l.from_is; rest_is = l.rest_is; at = l.at; to = (same l.key).0 l.to })) (g.sound e m);
    all = λ key u. g.all key ((same key).1 u);
  }

  module _ {X : Type 0} (Propagates : X → SlotKey → Type 0) where
    -- some of the list propagates to the slot
    abbrev pub SomePropagates : List X → SlotKey → Type 0
    SomePropagates xs key = (x : X) × Contains xs x × Propagates x key

    pub propagates_more : (a b c : Slots) (ea eb ec : List Edge) (xs : List X) (i : ℕ) (x : X) → i < length xs → x ≡ get_or xs i x →
        GainsEdges from a ea b eb (SomePropagates (take i xs)) → GainsEdges from b eb c ec (Propagates x) →
        GainsEdges from a ea c ec (SomePropagates (take (i + 1) xs))
    propagates_more a b c ea eb ec xs i x h e g k =
        subst (λ l. GainsEdges from a ea c ec (SomePropagates l)) (sym (taken_one xs i x h e))
        (edges_as a c ea ec (λ key. SomePropagates (take i xs) key ⊎ Propagates x key) (SomePropagates (take i xs ++ x ∷ []))
        (λ key. (
          λ s. ⊎_elim
              (λ (y, m, t). (y, Contains-append_left (take i xs) (x ∷ []) y m, t))
              (λ t. (x, Contains-append_right (take i xs) (x ∷ []) x (contains_here x []), t)) s,
          λ (y, m, t). ⊎_elim
              (λ d. inl (y, d, t))
              (λ d. ⊎_elim
              (λ (z : x ≡ y). inr (subst (λ w. Propagates w key) (sym z) t))
              (λ f. absurd (no_element y f)) (contains_split x y [] d))
              (Contains-append_cases (take i xs) (x ∷ []) y m),
        ))
        (edges_both a b c ea eb ec (SomePropagates (take i xs)) (Propagates x) g k))

    pub propagates_none : (a : Slots) (es : List Edge) → AreSlots a → GainsEdges from a es a es (SomePropagates [])
    propagates_none a es are = edges_none a es (SomePropagates []) are (λ key (x, c, t). no_element x c)

    pub propagates_all : (a b : Slots) (ea eb : List Edge) (xs : List X) (i : ℕ) → length xs ≤ i →
        GainsEdges from a ea b eb (SomePropagates (take i xs)) → GainsEdges from a ea b eb (SomePropagates xs)
    propagates_all a b ea eb xs i h g = subst (λ l. GainsEdges from a ea b eb (SomePropagates l)) (take_all i xs h) g

  -- of what is lent
  pub propagates_lent : (Propagates : Production → SlotKey → Type 0) (a b : Slots) (ea eb : List Edge) (ps : List (Bor Production)) →
      GainsEdges from a ea b eb (SomePropagates (λ (p : Bor Production). Propagates p.now) ps) →
      GainsEdges from a ea b eb (SomePropagates Propagates (lent ps))
  propagates_lent Propagates a b ea eb ps g =
      edges_as a b ea eb (SomePropagates (λ (p : Bor Production). Propagates p.now) ps) (SomePropagates Propagates (lent ps))
      (λ key. (
        λ (p, c, t). (p.now, map_has (λ (b : Bor Production). b.now) ps p c, t),
        λ (p, c, t).
            let m = in_map (λ (b : Bor Production). b.now) ps p c in
            (m.0, m.1, subst (λ q. Propagates q key) (sym m.2) t),
      )) g

  module _ (Propagates : ℕ → SlotKey → Type 0) where
    abbrev pub FirstPropagates : ℕ → SlotKey → Type 0
    FirstPropagates n key = (d : ℕ) × (d < n) × Propagates d key

    pub below_none : (a : Slots) (es : List Edge) → AreSlots a → GainsEdges from a es a es (FirstPropagates 0)
    below_none a es are = edges_none a es (FirstPropagates 0) are (λ key (d, l, t). omega (arith, l))

    pub below_more : (a b c : Slots) (ea eb ec : List Edge) (n : ℕ) → GainsEdges from a ea b eb (FirstPropagates n) →
        GainsEdges from b eb c ec (Propagates n) → GainsEdges from a ea c ec (FirstPropagates (n + 1))
    below_more a b c ea eb ec n g k =
        edges_as a c ea ec (λ key. FirstPropagates n key ⊎ Propagates n key) (FirstPropagates (n + 1))
        (λ key. (
          λ s. ⊎_elim (λ (d, l, t). (d, omega (arith, l), t)) (λ t. (n, omega arith, t)) s,
          λ (d, l, t). ⊎_elim
              (λ m. inl (d, m, t))
              (λ (z : n ≡ d). inr (subst (λ j. Propagates j key) (sym z) t)) (cases_last d n l),
        ))
        (edges_both a b c ea eb ec (FirstPropagates n) (Propagates n) g k)
      where
        cases_last : (a b : ℕ) → a < b + 1 → (a < b) ⊎ (b ≡ a)
        cases_last zero zero l = inr refl
        cases_last zero (suc b) l = inl (omega arith)
        cases_last (suc a) zero l = absurd (omega (arith, l))
        cases_last (suc a) (suc b) l = ⊎_elim (λ c. inl (omega (arith, c))) (λ c. inr (ap suc c)) (cases_last a b (omega (arith, l)))

module _ (g : Grammar) (look : List ℕ → LookaheadSet) (states : List (State (List ℕ))) (productions : List Production)
    (old : Slots) where
  pub propagation_starts : AreSlots old → ArePropagationEdges g look states productions old old [] 0
  propagation_starts are = record {
    are = are;
    has = λ key mark h. h;
    tokens = λ key k h. h;
    sound = λ e c. absurd (no_element e c);
    all = λ j from key l. absurd (omega (arith, l));
  }

  -- the edges of one slot more
  pub propagation_more : (now new : Slots) (es fs : List Edge) (n : ℕ) (own : SlotKey) →
      ArePropagationEdges g look states productions old now es n → slice_get (slot_keys now) n ≡ Some own →
      GainsEdges n now es new fs (PropagatesBySome g look states own productions) →
      ArePropagationEdges g look states productions old new fs (n + 1)
  propagation_more now new es fs n own c at gain = record {
    are = gain.are;
    has = λ key mark h. gain.has key mark (c.has key mark h);
    tokens = λ key k h. c.tokens key k (gain.tokens key k h);
    sound = λ e m. ⊎_elim
        (λ o.
        let r = c.sound e o in
        let l = r.4 in (
          r.0,
          r.1,
          omega (arith, r.2),
          gain.kept r.0 r.1 r.3,
          record { key = l.key; from_is = l.from_is; rest_is = l.rest_is; at = gain.kept e.to l.key l.at; to = l.to },
        ))
        (λ l. (n, own, omega arith, gain.kept n own at, l)) (gain.sound e m);
    all = λ j from key l f h. ⊎_elim
        (λ m.
        let r = c.all j from key m (was j from m f) h in
        (r.0, gain.edges r.0 r.1, r.2, gain.kept r.0.to key r.3))
        (λ (z : n ≡ j).
        let same : from ≡ own = some_same from own (sym f ∙ ap (slice_get (slot_keys new)) (sym z) ∙ gain.kept n own at) in
        let r = gain.all key (subst (λ k. PropagatesBySome g look states k productions key) same h) in
        (r.0, r.1, r.2 ∙ z, r.3)) (cases_two j n l);
  }
    where
      cases_two : (a b : ℕ) → a < b + 1 → (a < b) ⊎ (b ≡ a)
      cases_two zero zero l = inr refl
      cases_two zero (suc b) l = inl (omega arith)
      cases_two (suc a) zero l = absurd (omega (arith, l))
      cases_two (suc a) (suc b) l = ⊎_elim (λ c. inl (omega (arith, c))) (λ c. inr (ap suc c)) (cases_two a b (omega (arith, l)))

      get_below : {X : Type 0} (xs : List X) (k : ℕ) → k < length xs → (x : X) × (slice_get xs k ≡ Some x)
      get_below [] k h = absurd (omega (arith, h))
      get_below (x ∷ xs) zero h = (x, refl)
      get_below (x ∷ xs) (suc k) h = get_below xs k (omega (arith, h))

      was : (j : ℕ) (from : SlotKey) → j < n → slice_get (slot_keys new) j ≡ Some from → slice_get (slot_keys now) j ≡ Some from
      was j from l f =
          let r = get_below (slot_keys now) j (omega (arith, l, slice_get_within (slot_keys now) n own at)) in
          r.1 ∙ ap Some (some_same r.0 from (sym (gain.kept j r.0 r.1) ∙ f))

  -- the edges of all slots
  pub propagation_ends : (now : Slots) (es : List Edge) (n : ℕ) → ArePropagationEdges g look states productions old now es n →
      length (slot_keys now) ≤ n → ArePropagationEdges g look states productions old now es (length now.keys.keys)
  propagation_ends now es n c past = record {
    are = c.are;
    has = c.has;
    tokens = c.tokens;
    sound = λ e m.
        let r = c.sound e m in
        (r.0, r.1, omega (arith, slice_get_within (slot_keys now) r.0 r.1 r.3, long_map slot_key now.keys.keys), r.3, r.4);
    all = λ j from key l f h. c.all j from key (omega (arith, past, slice_get_within (slot_keys now) j from f)) f h;
  }

take_map : {X Y : Type 0} (f : X → Y) (xs : List X) (i : ℕ) → map f (take i xs) ≡ take i (map f xs)
take_map f [] zero = refl
take_map f [] (suc i) = refl
take_map f (x ∷ xs) zero = refl
take_map f (x ∷ xs) (suc i) = ap (λ l. f x ∷ l) (take_map f xs i)

module _ (g : Grammar) (look : List ℕ → LookaheadSet) (states : List (State (List ℕ))) (n : ℕ) (symbols : List Symbol) (dot : ℕ)
    (A : Text) (rest : List theory.Symbol) (o : Option ℕ)
    (before : drop dot (map production_symbol_view symbols) ≡ theory.nonterminal A ∷ rest)
    (walked : (m : ℕ) → (o ≡ Some m)
    ↔ LeadAlong (HasEdge (map (lr_state_view look) states)) (map production_symbol_view (take dot symbols)) n m) where
  led_along : (m : ℕ) → LeadAlong (HasEdge (map (lr_state_view look) states)) (take dot (map production_symbol_view symbols)) n m →
      o ≡ Some m
  led_along m w =
      (walked m).1 (subst (λ l. LeadAlong (HasEdge (map (lr_state_view look) states)) l n m)
      (sym (take_map production_symbol_view symbols dot)) w)

  -- the symbols before the nonterminal lead nowhere
  pub propagates_nowhere : o ≡ None → (key : SlotKey) → PropagatesAtDot g look states n symbols dot key → ⊥
  propagates_nowhere e key h = let z : None ≡ Some key.state = sym e ∙ led_along key.state h.led in let w : ⊥ = cc in w

  -- they lead to this state
  pub propagates_there : (m : ℕ) → o ≡ Some m → First0 (IsProductionOf g) rest None → (key : SlotKey) →
      (key ≡ key_of m A) ↔ PropagatesAtDot g look states n symbols dot key
  propagates_there m e nothing key = (
    λ z. record {
      rest = rest;
      before = before ∙ ap (λ B. theory.nonterminal B ∷ rest) (sym (ap (λ (k : SlotKey). k.name) z));
      nothing = nothing;
      led = subst (LeadAlong (HasEdge (map (lr_state_view look) states)) (take dot (map production_symbol_view symbols)) n)
          (sym (ap (λ (k : SlotKey). k.state) z))
          (subst (λ l. LeadAlong (HasEdge (map (lr_state_view look) states)) l n m) (take_map production_symbol_view symbols dot)
          ((walked m).0 e));
    },
    λ h.
        let names : key.name ≡ A = (name_same key.name A h.rest rest (sym h.before ∙ before)).0 in
        let place : m ≡ key.state = some_same m key.state (sym e ∙ led_along key.state h.led) in
        ap (λ j. key_of j key.name) (sym place) ∙ ap (key_of m) names,
  )

-- some way in which lookaheads are seen
abbrev pub any_look : List ℕ → LookaheadSet
any_look xs = record { nexts = []; error = false }

-- what propagates stands before the end
pub all_below : (g : Grammar) (look : List ℕ → LookaheadSet) (states : List (State (List ℕ))) (n : ℕ) (symbols : List Symbol)
    (dot : ℕ) (key : SlotKey) → PropagatesAtDot g look states n symbols dot key → dot < length symbols
all_below g look states n symbols dot key h = go symbols dot h.rest h.before
  where
    go : (xs : List Symbol) (i : ℕ) (b : List theory.Symbol) →
        drop i (map production_symbol_view xs) ≡ theory.nonterminal key.name ∷ b → i < length xs
    go [] zero b e = let z : ⊥ = cc in absurd z
    go [] (suc i) b e = let z : ⊥ = cc in absurd z
    go (x ∷ xs) zero b e = omega arith
    go (x ∷ xs) (suc i) b e = omega (arith, go xs i b e)
