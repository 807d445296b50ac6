-- Computed examples of canonical states: the three of `__S = S; S = "a"`, their numbers, and near misses.
use Rattle.std.proofs.Common.{◌≡◌, ℕ, ◌<◌, true, List, [], ◌∷◌, length, Option, Some, None}
use Rattle.std.proofs.Common.{refl, sym, ap, subst, inl, inr, ◌↔◌, arith, Contains}
use Rattle.std.proofs.Common.{◌+◌}
use Rattle.std.proofs.lemmas.Option.{slice_get_within}
use Rattle.std.specs.Prelude.{slice_get}
use Rattle.std.proofs.Common.{false}
use Rattle.std.proofs.Common.{◌*◌}
use Rattle.lalrpop_grammar_symbols.specs.Symbols.{Terminal, Text}
use Rattle.lalrpop_lr1_theory.specs.Productions.{Next, Production, Symbol, nonterminal, terminal}
use Rattle.lalrpop_lr1_theory.specs.FirstSets.{ends}
use Rattle.lalrpop_lr1_theory.specs.ValidItems.{CountsItemSets}
use Rattle.lalrpop_lr1_theory.specs.Automata.{EndAlone, IsBegun, IsBegunBefore, IsCanonicalAutomaton, IsShifted, IsShiftedBefore}
use Rattle.lalrpop_lr1_theory.specs.Automata.{Marked, Walk, brings, goes, has_next, passes, stands, starts, there}
use Rattle.lalrpop_lr1_theory.specs.States.{HasEdge, HasItem, HasLookahead, Item, Reduction, State, finished_reductions}
use Rattle.lalrpop_lr1_theory.specs.CanonicalStates.{AreCanonicalStates, AreNumberedAsSeen, EdgeBefore, HasEdgeBefore}
use Rattle.lalrpop_lr1_theory.specs.CanonicalStates.{HaveItemsAscending, HaveOneItemSet, SymbolBefore}
use Rattle.lalrpop_lr1_theory.proofs.CountLemmas.{canonical_counted}
use Rattle.lalrpop_lr1_theory.proofs.ExampleLemmas.{name, nothing_in, quoted}
use Rattle.lalrpop_lr1_theory.proofs.ExamplesOfCheckedStates.{by_a_alone, end_alone, end_and_a, has_a, has_s, one_alone}
use Rattle.lalrpop_lr1_theory.proofs.ExamplesOfStates.{LeadsOn, StandsIn, a_done, a_first, a_given, after_dot, before_these, by_a}
use Rattle.lalrpop_lr1_theory.proofs.ExamplesOfStates.{by_letter, by_s, by_start, derives_none, first_items, first_state, item_at}
use Rattle.lalrpop_lr1_theory.proofs.ExamplesOfStates.{items_first, letter_a, letter_s, letter_start, moved, none_is_barren, one_letter}
use Rattle.lalrpop_lr1_theory.proofs.ExamplesOfStates.{s_done, s_first, s_is_a, second_state, shape_cover, start_given, starts_s}
use Rattle.lalrpop_lr1_theory.proofs.ExamplesOfStates.{state_of, states_with, third_state, three_states, with_edges, with_items}
use Rattle.lalrpop_lr1_theory.proofs.ListLemmas.{all_of, all_places, contains_here}
use Rattle.lalrpop_lr1_theory.proofs.StepLemmas.{some_same}

three_items : (n : ℕ) (p : Production) (i : ℕ) → HasItem three_states n p i ↔ StandsIn n p i
three_items =
    with_items first_items (end_alone ∷ []) items_first has_a has_s (by_a_alone (end_alone ∷ []) ((refl, refl), tt))
    (inl (contains_here end_alone [])) (one_alone end_alone)

three_edges : (n : ℕ) (x : Symbol) (m : ℕ) → HasEdge three_states n x m ↔ LeadsOn n x m
three_edges =
    with_edges first_items (end_alone ∷ []) items_first has_a has_s (by_a_alone (end_alone ∷ []) ((refl, refl), tt))
    (inl (contains_here end_alone [])) (one_alone end_alone)

-- each item is before the end alone
three_lookaheads : (n : ℕ) (p : Production) (i : ℕ) (x : Next) → HasLookahead three_states n p i x → StandsIn n p i × (x ≡ None)
three_lookaheads n p i x h = (
  (three_items n p i).0 (record { state = h.state; lookahead = h.lookahead; at = h.at; held = h.held }),
  all_of (λ y. y ≡ None) (None ∷ []) (refl, tt) x
      (subst (λ l. Contains l x) (all_ends n h.state h.at (record { production = p; dot = i; lookahead = h.lookahead }) h.held) h.follows),
)
  where
    all_ends : (n : ℕ) (st : State) → slice_get three_states n ≡ Some st → (it : Item) → Contains st.items it →
        it.lookahead.nexts ≡ None ∷ []
    all_ends =
        all_places (λ n st. (it : Item) → Contains st.items it → it.lookahead.nexts ≡ None ∷ []) three_states (
          all_of (λ it. it.lookahead.nexts ≡ None ∷ []) first_items (refl, (refl, tt)),
          (
            all_of (λ it. it.lookahead.nexts ≡ None ∷ []) (item_at starts_s 1 ∷ []) (refl, tt),
            (all_of (λ it. it.lookahead.nexts ≡ None ∷ []) (item_at s_is_a 1 ∷ []) (refl, tt), tt),
          ),
        )

its_lookahead : (n : ℕ) (p : Production) (i : ℕ) → StandsIn n p i → HasLookahead three_states n p i None
its_lookahead n p i a_first =
    record { state = first_state; lookahead = before_these (None ∷ []); at = refl; held = has_a; follows = contains_here None [] }
its_lookahead n p i s_first =
    record { state = first_state; lookahead = before_these (None ∷ []); at = refl; held = has_s; follows = contains_here None [] }
its_lookahead n p i s_done =
    record {
      state = second_state;
      lookahead = before_these (None ∷ []);
      at = refl;
      held = contains_here (item_at starts_s 1) [];
      follows = contains_here None [];
    }
its_lookahead n p i a_done =
    record {
      state = third_state;
      lookahead = before_these (None ∷ []);
      at = refl;
      held = contains_here (item_at s_is_a 1) [];
      follows = contains_here None [];
    }

abbrev MarkStands : ℕ → Production → ℕ → Option Next → Type 0
MarkStands n p i None = StandsIn n p i
MarkStands n p i (Some x) = StandsIn n p i × (x ≡ None)

-- what is marked stands there, before the end alone, where that is so of the kernel
mark_stands : (n : ℕ) (K : Production → ℕ → Type 0) (U : Production → ℕ → Next → Type 0) →
    ((p : Production) (i : ℕ) → K p i → StandsIn n p i) →
    ((p : Production) (i : ℕ) (x : Next) → U p i x → StandsIn n p i × (x ≡ None)) →
    (p : Production) (i : ℕ) (m : Option Next) →
    Marked true (Contains one_letter) K U p i m → MarkStands n p i m
mark_stands n K U hold before p i m (there q j k) = hold q j k
mark_stands n K U hold before p i m (has_next q j x k) = before q j x k
mark_stands n K U hold before p i m (brings {p = q} {i = j} b r d e g) =
    let a = after_dot n q j r.left b (mark_stands n K U hold before q j None d) e in
    subst (λ k. StandsIn k r 0) (sym a.0) (subst (λ v. StandsIn 0 v 0) (by_letter r g a.1) a_first)
mark_stands n K U hold before p i m (starts {p = q} {i = j} b r t f d e g h) =
    let a = after_dot n q j r.left b (mark_stands n K U hold before q j None d) e in
    absurd (derives_none t h.0 b (terminal t ∷ h.0) h.1 (sym a.2) refl)
mark_stands n K U hold before p i m (passes {p = q} {i = j} b r x d e g h) =
    let k = mark_stands n K U hold before q j (Some x) d in
    let a = after_dot n q j r.left b k.0 e in
    (subst (λ l. StandsIn l r 0) (sym a.0) (subst (λ v. StandsIn 0 v 0) (by_letter r g a.1) a_first), k.1)

abbrev Begun : Production → ℕ → Type 0
Begun = IsBegun (Contains one_letter) (name letter_start)

abbrev BegunBefore : Production → ℕ → Next → Type 0
BegunBefore = IsBegunBefore EndAlone (Contains one_letter) (name letter_start)

start_stands : (p : Production) (i : ℕ) → Begun p i → StandsIn 0 p i
start_stands p i u = subst (λ k. StandsIn 0 p k) (sym u.2) (subst (λ r. StandsIn 0 r 0) (by_start p u.0 u.1) s_first)

start_marked : (n : ℕ) (p : Production) (i : ℕ) → StandsIn n p i → n ≡ 0 →
    Marked true (Contains one_letter) Begun BegunBefore p i (Some None)
start_marked n p i a_first e =
    passes [] s_is_a None (has_next starts_s 0 None ((start_given, refl, refl), refl)) refl a_given ends
start_marked n p i s_first e = has_next starts_s 0 None ((start_given, refl, refl), refl)
start_marked n p i s_done e = absurd (omega (arith, e))
start_marked n p i a_done e = absurd (omega (arith, e))

next_marked : (n : ℕ) (x : Symbol) (m k : ℕ) (p : Production) (i : ℕ) → LeadsOn n x m → StandsIn k p i → m ≡ k →
    Marked true (Contains one_letter) (IsShifted (HasItem three_states) n x) (IsShiftedBefore (HasLookahead three_states) n x) p i
    (Some None)
next_marked n x m k p i by_s s_done e =
    has_next starts_s 1 None (record { dot = 0; rest = []; on = refl; item = its_lookahead 0 starts_s 0 s_first; before = refl })
next_marked n x m k p i by_a a_done e =
    has_next s_is_a 1 None (record { dot = 0; rest = []; on = refl; item = its_lookahead 0 s_is_a 0 a_first; before = refl })
next_marked n x m k p i by_s a_first e = absurd (omega (arith, e))
next_marked n x m k p i by_s s_first e = absurd (omega (arith, e))
next_marked n x m k p i by_s a_done e = absurd (omega (arith, e))
next_marked n x m k p i by_a a_first e = absurd (omega (arith, e))
next_marked n x m k p i by_a s_first e = absurd (omega (arith, e))
next_marked n x m k p i by_a s_done e = absurd (omega (arith, e))

walk_to : (n : ℕ) (p : Production) (i : ℕ) → StandsIn n p i → (g : List Symbol) × Walk (HasEdge three_states) g n
walk_to n p i a_first = ([], stands)
walk_to n p i s_first = ([], stands)
walk_to n p i s_done = (
  nonterminal (name letter_s) ∷ [],
  goes (nonterminal (name letter_s)) 1 stands
      ((three_edges 0 (nonterminal (name letter_s)) 1).1 by_s),
)
walk_to n p i a_done =
    (terminal (quoted letter_a) ∷ [], goes (terminal (quoted letter_a)) 2 stands ((three_edges 0 (terminal (quoted letter_a)) 2).1 by_a))

three_automaton : IsCanonicalAutomaton (Contains one_letter) (name letter_start) (HasItem three_states) (HasEdge three_states)
    (HasLookahead three_states)
three_automaton =
    record {
      cover = shape_cover three_states three_items three_edges;
      held = λ n p i x h. record { state = h.state; lookahead = h.lookahead; at = h.at; held = h.held };
      look_start = λ p i x. (
        λ h.
            let r = three_lookaheads 0 p i x h in
            subst (λ y. Marked true (Contains one_letter) Begun BegunBefore p i (Some y)) (sym r.1)
            (start_marked 0 p i r.0 refl),
        λ h.
            let r = mark_stands 0 Begun BegunBefore start_stands (λ q j y u. (start_stands q j u.0, u.1)) p i (Some x) h in
            subst (HasLookahead three_states 0 p i) (sym r.1) (its_lookahead 0 p i r.0),
      );
      look_next = λ n x m e p i y. (
        λ h.
            let r = three_lookaheads m p i y h in
            subst (λ z. Marked true (Contains one_letter) (IsShifted (HasItem three_states) n x)
            (IsShiftedBefore (HasLookahead three_states) n x) p i (Some z)) (sym r.1)
            (next_marked n x m m p i ((three_edges n x m).0 e) r.0 refl),
        λ h.
            let r = mark_stands m (IsShifted (HasItem three_states) n x) (IsShiftedBefore (HasLookahead three_states) n x)
            (λ q j u. subst (λ k. StandsIn m q k) (sym u.on)
            (moved n n q u.dot x x u.rest m ((three_items n q u.dot).0 u.item) ((three_edges n x m).0 e) u.before refl))
            (λ q j z u.
            let l = three_lookaheads n q u.dot z u.item in (
              subst (λ k. StandsIn m q k) (sym u.on)
                  (moved n n q u.dot x x u.rest m l.0 ((three_edges n x m).0 e) u.before refl),
              l.1,
            )) p i (Some y) h in
            subst (HasLookahead three_states m p i) (sym r.1) (its_lookahead m p i r.0),
      );
      reached = λ n p i k. walk_to n p i ((three_items n p i).0 k);
    }

-- no two of them have the same items
apart_items : (n m : ℕ) (p : Production) (i : ℕ) → StandsIn n p i → StandsIn m p i → n ≡ m
apart_items n m p i a b = go n m p p i i a b refl refl
  where
    productions_differ : s_is_a ≡ starts_s → ⊥
    productions_differ e = omega (arith, ap (λ p. p.action) e)

    go : (n m : ℕ) (p q : Production) (i j : ℕ) → StandsIn n p i → StandsIn m q j → p ≡ q → i ≡ j → n ≡ m
    go n m p q i j a_first a_first e f = refl
    go n m p q i j a_first s_first e f = refl
    go n m p q i j a_first s_done e f = absurd (omega (arith, f))
    go n m p q i j a_first a_done e f = absurd (omega (arith, f))
    go n m p q i j s_first a_first e f = refl
    go n m p q i j s_first s_first e f = refl
    go n m p q i j s_first s_done e f = absurd (omega (arith, f))
    go n m p q i j s_first a_done e f = absurd (omega (arith, f))
    go n m p q i j s_done a_first e f = absurd (omega (arith, f))
    go n m p q i j s_done s_first e f = absurd (omega (arith, f))
    go n m p q i j s_done s_done e f = refl
    go n m p q i j s_done a_done e f = absurd (productions_differ (sym e))
    go n m p q i j a_done a_first e f = absurd (omega (arith, f))
    go n m p q i j a_done s_first e f = absurd (omega (arith, f))
    go n m p q i j a_done s_done e f = absurd (productions_differ e)
    go n m p q i j a_done a_done e f = refl

some_stands : (n : ℕ) (st : State) → slice_get three_states n ≡ Some st → (p : Production) × (i : ℕ) × StandsIn n p i
some_stands =
    all_places (λ n st. (p : Production) × (i : ℕ) × StandsIn n p i) three_states
    ((s_is_a, 0, a_first), ((starts_s, 1, s_done), ((s_is_a, 1, a_done), tt)))

items_once : (n : ℕ) (st : State) → slice_get three_states n ≡ Some st → (j k : ℕ) (a b : Item) →
    slice_get st.items j ≡ Some a →
    slice_get st.items k ≡ Some b → a.production ≡ b.production → a.dot ≡ b.dot → j ≡ k
items_once =
    all_places
    (λ n st. (j k : ℕ) (a b : Item) → slice_get st.items j ≡ Some a → slice_get st.items k ≡ Some b →
    a.production ≡ b.production →
    a.dot ≡ b.dot → j ≡ k) three_states (in_first, (one_item (item_at starts_s 1), (one_item (item_at s_is_a 1), tt)))
  where
    one_item : (it : Item) (j k : ℕ) (a b : Item) → slice_get (it ∷ []) j ≡ Some a → slice_get (it ∷ []) k ≡ Some b →
        a.production ≡ b.production → a.dot ≡ b.dot → j ≡ k
    one_item it j k a b e f p d = omega (arith, slice_get_within (it ∷ []) j a e, slice_get_within (it ∷ []) k b f)

    actions : (j : ℕ) (a : Item) → slice_get first_items j ≡ Some a → a.production.action + j ≡ 1
    actions = all_places (λ j a. a.production.action + j ≡ 1) first_items (refl, (refl, tt))

    in_first : (j k : ℕ) (a b : Item) → slice_get first_items j ≡ Some a → slice_get first_items k ≡ Some b →
        a.production ≡ b.production → a.dot ≡ b.dot → j ≡ k
    in_first j k a b e f p d = omega (arith, actions j a e, actions k b f, ap (λ q. q.action) p)

no_errors_there : (n : ℕ) (st : State) → slice_get three_states n ≡ Some st → (it : Item) → Contains st.items it →
    it.lookahead.error ≡ false
no_errors_there =
    all_places (λ n st. (it : Item) → Contains st.items it → it.lookahead.error ≡ false) three_states (
      all_of (λ it. it.lookahead.error ≡ false) first_items (refl, (refl, tt)),
      (
        all_of (λ it. it.lookahead.error ≡ false) (item_at starts_s 1 ∷ []) (refl, tt),
        (all_of (λ it. it.lookahead.error ≡ false) (item_at s_is_a 1 ∷ []) (refl, tt), tt),
      ),
    )

-- the three states are canonical
pub three_canonical : AreCanonicalStates one_letter (name letter_start) three_states
three_canonical =
    record {
      automaton = three_automaton;
      reached = λ n st e. let it = some_stands n st e in walk_to n it.0 it.1 it.2;
      distinct = λ n m a b e f same.
          let it = some_stands n a e in
          apart_items n m it.0 it.1 it.2
          ((three_items m it.0 it.1).0 ((same.items it.0 it.1).0 ((three_items n it.0 it.1).1 it.2)));
      once = λ n st j k a b e f g p d. items_once n st e j k a b f g p d;
      without_error = λ n st it e c. no_errors_there n st e it c;
      reductions = all_places (λ n st. st.reductions ≡ finished_reductions st.items) three_states (refl, (refl, (refl, tt)));
      index = all_places (λ n st. st.index ≡ n) three_states (refl, (refl, (refl, tt)));
    }

-- so there are three sets of valid items
three_sets : CountsItemSets (Contains one_letter) (name letter_start) 3
three_sets = canonical_counted one_letter (name letter_start) three_states three_canonical none_is_barren

-- Their numbers: the goto of `S` comes before the shift of `"a"`.
abbrev Never : {A : Type 0} → A → A → Type 0
Never a b = ⊥

abbrev Before : Symbol → Symbol → Type 0
Before = SymbolBefore (Never {A = Text}) (Never {A = Terminal})

three_numbered : AreNumberedAsSeen Before three_states
three_numbered j k n x h l e = go n x k ((three_edges n x k).0 e) h l
  where
    go : (n : ℕ) (x : Symbol) (k : ℕ) → LeadsOn n x k → 0 < j → j < k → HasEdgeBefore Before three_states j n x
    go n x k by_s h l = absurd (omega (arith, h, l))
    go n x k by_a h l =
        let one : 1 ≡ j = omega (arith, h, l) in
        record {
          source = 0;
          symbol = nonterminal (name letter_s);
          edge = subst (HasEdge three_states 0 (nonterminal (name letter_s))) one
              ((three_edges 0 (nonterminal (name letter_s)) 1).1 by_s);
          earlier = inr (refl, tt);
        }

-- Near misses: with a longer lookahead in a reduction, with an item doubled, and numbered the other way round.
more_not_canonical : AreCanonicalStates one_letter (name letter_start) (states_with first_items (end_and_a ∷ [])) → ⊥
more_not_canonical can =
    omega (arith, ap sizes (can.reductions 2 (state_of 2 (item_at s_is_a 1 ∷ []) [] [] (end_and_a ∷ [])) refl))
  where
    sizes : List Reduction → ℕ
    sizes [] = 0
    sizes (r ∷ rs) = length r.lookahead.nexts

doubled_not_canonical : AreCanonicalStates one_letter (name letter_start)
    (states_with (item_at starts_s 0 ∷ first_items) (end_alone ∷ [])) → ⊥
doubled_not_canonical can =
    omega (
      arith,
      can.once 0 (state_of 0 (item_at starts_s 0 ∷ first_items) ((quoted letter_a, 2) ∷ []) ((name letter_s, 1) ∷ []) [])
          0 2 (item_at starts_s 0) (item_at starts_s 0) refl refl refl refl refl,
    )

-- the third state twice: with the same items they would be one
abbrev third_again : State
third_again = state_of 3 third_state.items [] [] third_state.reductions

abbrev four_states : List State
four_states = first_state ∷ second_state ∷ third_state ∷ third_again ∷ []

same_again : HaveOneItemSet four_states 2 3
same_again =
    record {
      items = λ p i. (
        λ h.
            let e = some_same third_state h.state h.at in
            let it : Item = record { production = p; dot = i; lookahead = h.lookahead } in
            record {
              state = third_again;
              lookahead = h.lookahead;
              at = refl;
              held = subst (λ st. Contains st.items it) (sym e) h.held;
            },
        λ h.
            let e = some_same third_again h.state h.at in
            let it : Item = record { production = p; dot = i; lookahead = h.lookahead } in
            record {
              state = third_state;
              lookahead = h.lookahead;
              at = refl;
              held = subst (λ st. Contains st.items it) (sym e) h.held;
            },
      );
      lookaheads = λ p i x. (
        λ h.
            let e = some_same third_state h.state h.at in
            let it : Item = record { production = p; dot = i; lookahead = h.lookahead } in
            record {
              state = third_again;
              lookahead = h.lookahead;
              at = refl;
              held = subst (λ st. Contains st.items it) (sym e) h.held;
              follows = h.follows;
            },
        λ h.
            let e = some_same third_again h.state h.at in
            let it : Item = record { production = p; dot = i; lookahead = h.lookahead } in
            record {
              state = third_state;
              lookahead = h.lookahead;
              at = refl;
              held = subst (λ st. Contains st.items it) (sym e) h.held;
              follows = h.follows;
            },
      );
    }

twice_not_canonical : AreCanonicalStates one_letter (name letter_start) four_states → ⊥
twice_not_canonical can = omega (arith, can.distinct 2 3 third_state third_again refl refl same_again)

-- a fourth state that nothing reaches
nothing_leads : (n : ℕ) (x : Symbol) (m : ℕ) → HasEdge four_states n x m → m ≡ 3 → ⊥
nothing_leads n (terminal t) m e =
    all_places (λ n st. (e : Terminal × ℕ) → Contains st.shifts e → e.1 ≡ 3 → ⊥) four_states (
      all_of (λ e. e.1 ≡ 3 → ⊥) ((quoted letter_a, 2) ∷ []) (λ z. omega (arith, z), tt),
      (λ e c z. nothing_in e c, (λ e c z. nothing_in e c, (λ e c z. nothing_in e c, tt))),
    ) n e.0 e.1 (t, m) e.2
nothing_leads n (nonterminal A) m e =
    all_places (λ n st. (e : Text × ℕ) → Contains st.gotos e → e.1 ≡ 3 → ⊥) four_states (
      all_of (λ e. e.1 ≡ 3 → ⊥) ((name letter_s, 1) ∷ []) (λ z. omega (arith, z), tt),
      (λ e c z. nothing_in e c, (λ e c z. nothing_in e c, (λ e c z. nothing_in e c, tt))),
    ) n e.0 e.1 (A, m) e.2

unreached_not_canonical : AreCanonicalStates one_letter (name letter_start) four_states → ⊥
unreached_not_canonical can = let w = can.reached 3 third_again refl in go w.0 3 w.1 refl
  where
    go : (g : List Symbol) (n : ℕ) → Walk (HasEdge four_states) g n → n ≡ 3 → ⊥
    go g n stands e = omega (arith, e)
    go g n (goes {n = m} x k w h) e = nothing_leads m x n h e

abbrev swapped_first : State
swapped_first = state_of 0 first_items ((quoted letter_a, 1) ∷ []) ((name letter_s, 2) ∷ []) []

abbrev swapped : List State
swapped =
    swapped_first ∷ state_of 1 third_state.items [] [] third_state.reductions
    ∷ state_of 2 second_state.items [] [] second_state.reductions ∷ []

swapped_not_numbered : AreNumberedAsSeen Before swapped → ⊥
swapped_not_numbered h =
    let b = h 1 2 0 (nonterminal (name letter_s)) (omega arith) (omega arith) (swapped_first, refl, contains_here (name letter_s, 2) []) in
    go b.source b.symbol b.edge b.earlier
  where
    none_leads : (n : ℕ) (st : State) → slice_get swapped n ≡ Some st → (e : Text × ℕ) → Contains st.gotos e →
        e.1 ≡ 1 → ⊥
    none_leads =
        all_places (λ n st. (e : Text × ℕ) → Contains st.gotos e → e.1 ≡ 1 → ⊥) swapped (
          all_of (λ e. e.1 ≡ 1 → ⊥) ((name letter_s, 2) ∷ []) (λ z. omega (arith, z), tt),
          (λ e c z. nothing_in e c, (λ e c z. nothing_in e c, tt)),
        )

    go : (n : ℕ) (x : Symbol) → HasEdge swapped n x 1 → EdgeBefore Before n x 0 (nonterminal (name letter_s)) → ⊥
    go n x e (inl l) = omega (arith, l)
    go n (terminal t) e (inr (z, l)) = l
    go n (nonterminal A) e (inr (z, l)) = l

-- The items of each state ascend by the letters of their names; the other way round they don't.
abbrev first_letter : Text → ℕ
first_letter [] = 0
first_letter (x ∷ xs) = x

abbrev ByName : Item → Item → Type 0
ByName a b = first_letter a.production.left < first_letter b.production.left

three_ascending : HaveItemsAscending ByName three_states
three_ascending n st j k a b e l f g = in_order n st e j k a b l f g
  where
    letters : (j : ℕ) (a : Item) → slice_get first_items j ≡ Some a → first_letter a.production.left ≡ 83 + 12 * j
    letters = all_places (λ j a. first_letter a.production.left ≡ 83 + 12 * j) first_items (refl, (refl, tt))

    in_first : (j k : ℕ) (a b : Item) → j < k → slice_get first_items j ≡ Some a → slice_get first_items k ≡ Some b →
        ByName a b
    in_first j k a b l f g = omega (arith, letters j a f, letters k b g, l)

    alone : (it : Item) (j k : ℕ) (a b : Item) → j < k → slice_get (it ∷ []) j ≡ Some a →
        slice_get (it ∷ []) k ≡ Some b → ByName a b
    alone it j k a b l f g = absurd (omega (arith, l, slice_get_within (it ∷ []) k b g))

    in_order : (n : ℕ) (st : State) → slice_get three_states n ≡ Some st → (j k : ℕ) (a b : Item) → j < k →
        slice_get st.items j ≡ Some a → slice_get st.items k ≡ Some b → ByName a b
    in_order =
        all_places
        (λ n st. (j k : ℕ) (a b : Item) → j < k → slice_get st.items j ≡ Some a → slice_get st.items k ≡ Some b → ByName a b)
        three_states (in_first, (alone (item_at starts_s 1), (alone (item_at s_is_a 1), tt)))

descending : HaveItemsAscending ByName (states_with (item_at starts_s 0 ∷ item_at s_is_a 0 ∷ []) (end_alone ∷ [])) → ⊥
descending h =
    let l = h 0 (state_of 0 (item_at starts_s 0 ∷ item_at s_is_a 0 ∷ []) ((quoted letter_a, 2) ∷ []) ((name letter_s, 1) ∷ []) [])
    0 1 (item_at starts_s 0) (item_at s_is_a 0) refl (omega arith) refl refl in
    omega (arith, l)
