-- Computed examples of states: the three of `__S = S; S = "a"` are checked, as they are and with three changes that do no harm.
use Rattle.std.proofs.Common.{◌≡◌, ℕ, suc, List, [], ◌∷◌, length, drop, Some, None, refl, sym, ap}
use Rattle.std.proofs.Common.{◌∙◌, subst, inl, inr, ◌⊎◌, ◌↔◌, arith, Contains}
use Rattle.std.specs.Prelude.{slice_get}
use Rattle.std.proofs.lemmas.Option.{slice_get_within}
use Rattle.std.proofs.Common.{false, true}
use Rattle.lalrpop_grammar_symbols.specs.Symbols.{Terminal, Text}
use Rattle.lalrpop_lr1_theory.specs.Productions.{Next, Production, Symbol, nonterminal, terminal}
use Rattle.lalrpop_lr1_theory.specs.Trees.{Forest, IsTreeOf, leaf, node, none}
use Rattle.lalrpop_lr1_theory.specs.FirstSets.{Derives, ends, grows, keeps}
use Rattle.lalrpop_lr1_theory.specs.ValidItems.{NoneBarren, itself, onward}
use Rattle.lalrpop_lr1_theory.specs.Automata.{Carries, Closure, HasDotBefore, IsBegun, IsCover, IsShifted, begins_with_end, closed}
use Rattle.lalrpop_lr1_theory.specs.Automata.{in_kernel, passes_next, shifts_next, starts_next}
use Rattle.lalrpop_lr1_theory.specs.States.{HasEdge, HasItem, Item, LookaheadSet, Reduces, Reduction, State}
use Rattle.lalrpop_lr1_theory.specs.CheckedStates.{AreCheckedStates, HasNoConflict}
use Rattle.lalrpop_lr1_theory.proofs.ExampleLemmas.{head_same, name, name_same, nonterminal_is, not_empty, not_nonterminal}
use Rattle.lalrpop_lr1_theory.proofs.ExampleLemmas.{not_terminal, nothing_in, production, quoted, tail_same}
use Rattle.lalrpop_lr1_theory.proofs.ListLemmas.{AllPlaces, all_of, all_places, contains_here, contains_split, get_contains}

-- the code of the letter of the one terminal, `"a"`
abbrev pub letter_a : ℕ
letter_a = 97

-- the code of the letter of the nonterminal `S`
abbrev pub letter_s : ℕ
letter_s = 83

-- the start's name, here of one letter
abbrev pub letter_start : ℕ
letter_start = 95

-- the start's production: `__S = S`
abbrev pub starts_s : Production
starts_s = production 0 (name letter_start) (nonterminal (name letter_s) ∷ [])

-- the other production: `S = "a"`
abbrev pub s_is_a : Production
s_is_a = production 1 (name letter_s) (terminal (quoted letter_a) ∷ [])

-- the grammar of both productions, whose one sentence is the letter a
abbrev pub one_letter : List Production
one_letter = starts_s ∷ s_is_a ∷ []

-- an item before the end, and a reduction before these
abbrev pub before_these : List Next → LookaheadSet
before_these set = record { nexts = set; error = false }

-- the item by a production with its dot at a place, before the end alone
abbrev pub item_at : Production → ℕ → Item
item_at p i = record { production = p; dot = i; lookahead = before_these (None ∷ []) }

-- the reduction by a production before these terminals or the end, and not before the token of errors
abbrev pub reduction_before : List Next → Production → Reduction
reduction_before set p = record { production = p; lookahead = before_these set }

-- the reduction by a production with this lookahead
abbrev pub reduction_with : LookaheadSet → Production → Reduction
reduction_with set p = record { production = p; lookahead = set }

-- a state with this number, these items, where its terminals and its nonterminals lead, and its reductions
abbrev pub state_of : ℕ → List Item → List (Terminal × ℕ) → List (Text × ℕ) → List Reduction → State
state_of n items on_terminals on_names reductions =
    record { index = n; items = items; shifts = on_terminals; gotos = on_names; reductions = reductions }

-- the items of the state where nothing has been read: those of both productions, with their dots in front
abbrev pub first_items : List Item
first_items = item_at s_is_a 0 ∷ item_at starts_s 0 ∷ []

-- the state where nothing has been read: `"a"` leads to the third state, `S` to the second
abbrev pub first_state : State
first_state = state_of 0 first_items ((quoted letter_a, 2) ∷ []) ((name letter_s, 1) ∷ []) []

-- the state behind `S`, which reduces by the start's production at the end
abbrev pub second_state : State
second_state = state_of 1 (item_at starts_s 1 ∷ []) [] [] (reduction_before (None ∷ []) starts_s ∷ [])

-- the state behind `"a"`, which reduces by `S = "a"` at the end
abbrev pub third_state : State
third_state = state_of 2 (item_at s_is_a 1 ∷ []) [] [] (reduction_before (None ∷ []) s_is_a ∷ [])

-- the states of the grammar, each at the place of its number
abbrev pub three_states : List State
three_states = first_state ∷ second_state ∷ third_state ∷ []

-- what stands in them
pub data StandsIn : ℕ → Production → ℕ → Type 0 where
  a_first : StandsIn 0 s_is_a 0
  s_first : StandsIn 0 starts_s 0
  s_done : StandsIn 1 starts_s 1
  a_done : StandsIn 2 s_is_a 1

-- the edges of the three states: from the first by `S` to the second, and by `"a"` to the third
pub data LeadsOn : ℕ → Symbol → ℕ → Type 0 where
  by_s : LeadsOn 0 (nonterminal (name letter_s)) 1
  by_a : LeadsOn 0 (terminal (quoted letter_a)) 2

pub its_production : (p : Production) → Contains one_letter p → (starts_s ≡ p) ⊎ (s_is_a ≡ p)
its_production p c = go (contains_split starts_s p (s_is_a ∷ []) c)
  where
    go : (starts_s ≡ p) ⊎ Contains (s_is_a ∷ []) p → (starts_s ≡ p) ⊎ (s_is_a ≡ p)
    go (inl e) = inl e
    go (inr c) = inr (all_of (λ q. s_is_a ≡ q) (s_is_a ∷ []) (refl, tt) p c)

-- the start's production is one of the grammar
pub start_given : Contains one_letter starts_s
start_given = (0, omega arith, refl)

-- `S = "a"` is one of the grammar's productions
pub a_given : Contains one_letter s_is_a
a_given = (1, omega arith, refl)

-- the production of a nonterminal
pub by_start : (p : Production) → Contains one_letter p → p.left ≡ name letter_start → starts_s ≡ p
by_start p c e = go (its_production p c)
  where
    go : (starts_s ≡ p) ⊎ (s_is_a ≡ p) → starts_s ≡ p
    go (inl h) = h
    go (inr h) = absurd (omega (arith, name_same letter_s letter_start (ap (λ q. q.left) h ∙ e)))

-- a production of the grammar for `S` is `S = "a"`
pub by_letter : (p : Production) → Contains one_letter p → name letter_s ≡ p.left → s_is_a ≡ p
by_letter p c e = go (its_production p c)
  where
    go : (starts_s ≡ p) ⊎ (s_is_a ≡ p) → s_is_a ≡ p
    go (inl h) = absurd (omega (arith, name_same letter_s letter_start (e ∙ ap (λ q. q.left) (sym h))))
    go (inr h) = h

-- from no symbols nothing is derived that begins with a terminal
pub derives_none : (t : Terminal) (ys xs zs : List Symbol) → Derives (Contains one_letter) xs zs → xs ≡ [] →
    zs ≡ terminal t ∷ ys → ⊥
derives_none t ys xs zs ends e f = cc
derives_none t ys xs zs (keeps x d) e f = cc
derives_none t ys xs zs (grows p c d d') e f = cc

-- the nonterminal after a dot is `S`, in the start's item, with nothing behind it
pub after_dot : (n : ℕ) (p : Production) (i : ℕ) (A : Text) (b : List Symbol) → StandsIn n p i →
    drop i p.right ≡ nonterminal A ∷ b →
    (n ≡ 0) × (name letter_s ≡ A) × ([] ≡ b)
after_dot n p i A b a_first e =
    absurd (not_nonterminal (quoted letter_a) A (head_same (terminal (quoted letter_a)) (nonterminal A) [] b e))
after_dot n p i A b s_first e = (
  refl,
  nonterminal_is (name letter_s) A (head_same (nonterminal (name letter_s)) (nonterminal A) [] b e),
  tail_same (nonterminal (name letter_s)) (nonterminal A) [] b e,
)
after_dot n p i A b s_done e = absurd (not_empty (nonterminal A) b e)
after_dot n p i A b a_done e = absurd (not_empty (nonterminal A) b e)

-- an edge moves the dot of an item, and an item with its dot moved came by an edge
pub moved : (n p_n : ℕ) (p : Production) (j : ℕ) (x y : Symbol) (b : List Symbol) (m : ℕ) → StandsIn n p j → LeadsOn p_n y m →
    drop j p.right ≡ x ∷ b → x ≡ y → StandsIn m p (suc j)
moved n k p j x y b m a_first by_a e f = a_done
moved n k p j x y b m s_first by_s e f = s_done
moved n k p j x y b m a_first by_s e f =
    absurd (not_nonterminal (quoted letter_a) (name letter_s) (head_same (terminal (quoted letter_a)) x [] b e ∙ f))
moved n k p j x y b m s_first by_a e f =
    absurd (not_terminal (quoted letter_a) (name letter_s) (head_same (nonterminal (name letter_s)) x [] b e ∙ f))
moved n k p j x y b m s_done l e f = absurd (not_empty x b e)
moved n k p j x y b m a_done l e f = absurd (not_empty x b e)

pub one_edge : (n k : ℕ) (x y : Symbol) (m j : ℕ) → LeadsOn n x m → LeadsOn k y j → x ≡ y → m ≡ j
one_edge n k x y m j by_s by_s e = refl
one_edge n k x y m j by_a by_a e = refl
one_edge n k x y m j by_s by_a e = absurd (not_terminal (quoted letter_a) (name letter_s) e)
one_edge n k x y m j by_a by_s e = absurd (not_nonterminal (quoted letter_a) (name letter_s) e)

some_edge : (n : ℕ) (p : Production) (i : ℕ) (x : Symbol) (b : List Symbol) → StandsIn n p i → drop i p.right ≡ x ∷ b →
    (m : ℕ) × LeadsOn n x m
some_edge n p i x b a_first e = (2, subst (λ y. LeadsOn 0 y 2) (head_same (terminal (quoted letter_a)) x [] b e) by_a)
some_edge n p i x b s_first e = (1, subst (λ y. LeadsOn 0 y 1) (head_same (nonterminal (name letter_s)) x [] b e) by_s)
some_edge n p i x b s_done e = absurd (not_empty x b e)
some_edge n p i x b a_done e = absurd (not_empty x b e)

-- each nonterminal that the start reaches has a finite tree
pub none_is_barren : NoneBarren (Contains one_letter) (name letter_start)
none_is_barren A itself =
    (node starts_s (node s_is_a (leaf (quoted letter_a) none) none) none, (refl, (start_given, refl, (a_given, refl, tt, tt), tt)))
none_is_barren A (onward p B r c k) = go (its_production p c)
  where
    of_s : name letter_s ≡ B → (ts : Forest) × IsTreeOf (Contains one_letter) B ts
    of_s e = (node s_is_a (leaf (quoted letter_a) none) none, (ap (λ C. nonterminal C ∷ []) e, (a_given, refl, tt, tt)))

    go : (starts_s ≡ p) ⊎ (s_is_a ≡ p) → (ts : Forest) × IsTreeOf (Contains one_letter) B ts
    go (inl e) =
        let c = subst (λ q. Contains q.right (nonterminal B)) (sym e) k in
        all_of (λ x. x ≡ nonterminal B → (ts : Forest) × IsTreeOf (Contains one_letter) B ts) (nonterminal (name letter_s) ∷ [])
        (λ h. of_s (nonterminal_is (name letter_s) B h), tt) (nonterminal B) c refl
    go (inr e) =
        let c = subst (λ q. Contains q.right (nonterminal B)) (sym e) k in
        all_of (λ x. x ≡ nonterminal B → (ts : Forest) × IsTreeOf (Contains one_letter) B ts) (terminal (quoted letter_a) ∷ [])
        (λ h. absurd (not_nonterminal (quoted letter_a) B h), tt) (nonterminal B) c refl

-- states with these items and edges
module _ (states : List State) (items : (n : ℕ) (p : Production) (i : ℕ) → HasItem states n p i ↔ StandsIn n p i)
    (edges : (n : ℕ) (x : Symbol) (m : ℕ) → HasEdge states n x m ↔ LeadsOn n x m) where
  pub start_in : (n : ℕ) (p : Production) (i : ℕ) → StandsIn n p i → n ≡ 0 →
      Closure (Contains one_letter) (IsBegun (Contains one_letter) (name letter_start)) p i
  start_in n p i a_first e = closed [] s_is_a (in_kernel starts_s 0 (start_given, refl, refl)) refl a_given
  start_in n p i s_first e = in_kernel starts_s 0 (start_given, refl, refl)
  start_in n p i s_done e = absurd (omega (arith, e))
  start_in n p i a_done e = absurd (omega (arith, e))

  start_from : (p : Production) (i : ℕ) → Closure (Contains one_letter) (IsBegun (Contains one_letter) (name letter_start)) p i →
      StandsIn 0 p i
  start_from p i (in_kernel q j u) =
      subst (λ k. StandsIn 0 q k) (sym u.2) (subst (λ r. StandsIn 0 r 0) (by_start q u.0 u.1) s_first)
  start_from p i (closed {p = q} {i = j} b r c d u) =
      let a = after_dot 0 q j r.left b (start_from q j c) d in
      subst (λ v. StandsIn 0 v 0) (by_letter r u a.1) a_first

  next_in : (n : ℕ) (x : Symbol) (m k : ℕ) (p : Production) (i : ℕ) → LeadsOn n x m → StandsIn k p i → m ≡ k →
      Closure (Contains one_letter) (IsShifted (HasItem states) n x) p i
  next_in n x m k p i by_s s_done e =
      in_kernel starts_s 1 (record { dot = 0; rest = []; on = refl; item = (items 0 starts_s 0).1 s_first; before = refl })
  next_in n x m k p i by_a a_done e =
      in_kernel s_is_a 1 (record { dot = 0; rest = []; on = refl; item = (items 0 s_is_a 0).1 a_first; before = refl })
  next_in n x m k p i by_s a_first e = absurd (omega (arith, e))
  next_in n x m k p i by_s s_first e = absurd (omega (arith, e))
  next_in n x m k p i by_s a_done e = absurd (omega (arith, e))
  next_in n x m k p i by_a a_first e = absurd (omega (arith, e))
  next_in n x m k p i by_a s_first e = absurd (omega (arith, e))
  next_in n x m k p i by_a s_done e = absurd (omega (arith, e))

  pub past_first : (n : ℕ) (x : Symbol) (m : ℕ) → LeadsOn n x m → m ≡ 0 → ⊥
  past_first n x m by_s e = omega (arith, e)
  past_first n x m by_a e = omega (arith, e)

  next_from : (n : ℕ) (x : Symbol) (m : ℕ) → LeadsOn n x m → (p : Production) (i : ℕ) →
      Closure (Contains one_letter) (IsShifted (HasItem states) n x) p i → StandsIn m p i
  next_from n x m l p i (in_kernel q j u) =
      subst (λ k. StandsIn m q k) (sym u.on) (moved n n q u.dot x x u.rest m ((items n q u.dot).0 u.item) l u.before refl)
  next_from n x m l p i (closed {p = q} {i = j} b r c d u) =
      absurd (past_first n x m l (after_dot m q j r.left b (next_from n x m l q j c) d).0)

  only_edge : (n : ℕ) (x : Symbol) (m : ℕ) → LeadsOn n x m → HasDotBefore (HasItem states) n x
  only_edge n x m by_s =
      record { production = starts_s; dot = 0; rest = []; item = (items 0 starts_s 0).1 s_first; before = refl }
  only_edge n x m by_a = record { production = s_is_a; dot = 0; rest = []; item = (items 0 s_is_a 0).1 a_first; before = refl }

  pub shape_cover : IsCover (Contains one_letter) (name letter_start) (HasItem states) (HasEdge states)
  shape_cover =
      record {
        start = λ p i. (λ k. start_in 0 p i ((items 0 p i).0 k) refl, λ c. (items 0 p i).1 (start_from p i c));
        onward = λ n p i x b k e. let r = some_edge n p i x b ((items n p i).0 k) e in (r.0, (edges n x r.0).1 r.1);
        one = λ n x m k a b. one_edge n n x x m k ((edges n x m).0 a) ((edges n x k).0 b) refl;
        next = λ n x m l p i. (
          λ k. next_in n x m m p i ((edges n x m).0 l) ((items m p i).0 k) refl,
          λ c. (items m p i).1 (next_from n x m ((edges n x m).0 l) p i c),
        );
        only = λ n x m l. only_edge n x m ((edges n x m).0 l);
      }

  pub closure_stands : (n : ℕ) (p : Production) (i : ℕ) → Closure (Contains one_letter) (HasItem states n) p i → StandsIn n p i
  closure_stands n p i (in_kernel q j k) = (items n q j).0 k
  closure_stands n p i (closed {p = q} {i = j} b r c d u) =
      let a = after_dot n q j r.left b (closure_stands n q j c) d in
      subst (λ m. StandsIn m r 0) (sym a.0) (subst (λ v. StandsIn 0 v 0) (by_letter r u a.1) a_first)

  -- nothing but the end is carried
  pub carried_stands : (n : ℕ) (p : Production) (i : ℕ) (x : Next) →
      Carries (Contains one_letter) (name letter_start) (HasItem states) (HasEdge states) n p i x → StandsIn n p i × (x ≡ None)
  carried_stands n p i x (begins_with_end q c e) = (subst (λ r. StandsIn 0 r 0) (by_start q c e) s_first, refl)
  carried_stands n p i x (shifts_next {n = m} {p = q} {i = j} X b k c d e) =
      let r = carried_stands m q j x c in (moved m m q j X X b n r.0 ((edges m X n).0 e) d refl, r.1)
  carried_stands n p i x (starts_next {p = q} {i = j} b r t c d u f) =
      let a = after_dot n q j r.left b (closure_stands n q j c) d in
      absurd (derives_none t f.0 b (terminal t ∷ f.0) f.1 (sym a.2) refl)
  carried_stands n p i x (passes_next {p = q} {i = j} b r y c d u f) =
      let k = carried_stands n q j y c in
      let a = after_dot n q j r.left b k.0 d in
      (subst (λ m. StandsIn m r 0) (sym a.0) (subst (λ v. StandsIn 0 v 0) (by_letter r u a.1) a_first), k.1)

-- states with these items and edges, these two reductions, and no faulty one, are checked
record HasShape (states : List State) : Type 0 where
  items : (n : ℕ) (p : Production) (i : ℕ) → HasItem states n p i ↔ StandsIn n p i
  edges : (n : ℕ) (x : Symbol) (m : ℕ) → HasEdge states n x m ↔ LeadsOn n x m
  finished : (n : ℕ) (state : State) → slice_get states n ≡ Some state → (a : Reduction) → Contains state.reductions a →
      StandsIn n a.production (length a.production.right)
  s_reduced : Reduces states 1 starts_s None
  a_reduced : Reduces states 2 s_is_a None
  no_conflict : (n : ℕ) (state : State) → slice_get states n ≡ Some state → HasNoConflict state
  no_error : (n : ℕ) (state : State) → slice_get states n ≡ Some state → (a : Reduction) → Contains state.reductions a →
      a.lookahead.error ≡ false
  at_end : (n : ℕ) (state : State) → slice_get states n ≡ Some state → (a : Reduction) → Contains state.reductions a →
      a.production.left ≡ name letter_start → (x : Next) → Contains a.lookahead.nexts x → x ≡ None

shape_checked : (states : List State) → HasShape states → AreCheckedStates one_letter (name letter_start) states
shape_checked states h =
    record {
      cover = shape_cover states h.items h.edges;
      finished = λ n state a e c. (h.items n a.production (length a.production.right)).1 (h.finished n state e a c);
      carried = λ n p x c.
          let r = carried_stands states h.items h.edges n p (length p.right) x c in
          subst (Reduces states n p) (sym r.1) (reduced n p (length p.right) r.0 refl);
      no_conflict = h.no_conflict;
      at_end = λ n state a x e c f d. h.at_end n state e a c f x d;
      no_error = λ n state a e c f. h.no_error n state e a c;
      none_barren = none_is_barren;
    }
  where
    reduced : (n : ℕ) (p : Production) (i : ℕ) → StandsIn n p i → i ≡ length p.right → Reduces states n p None
    reduced n p i a_first e = absurd (omega (arith, e))
    reduced n p i s_first e = absurd (omega (arith, e))
    reduced n p i s_done e = h.s_reduced
    reduced n p i a_done e = h.a_reduced

-- What a list of three states holds, from what its states hold.
pub shape_items : (states : List State) →
    AllPlaces (λ n st. (it : Item) → Contains st.items it → StandsIn n it.production it.dot) states → (n : ℕ) (p : Production)
    (i : ℕ) → HasItem states n p i → StandsIn n p i
shape_items states h n p i k =
    all_places (λ n st. (it : Item) → Contains st.items it → StandsIn n it.production it.dot) states h n k.state k.at
    (record { production = p; dot = i; lookahead = k.lookahead }) k.held

pub shape_edges : (states : List State) →
    AllPlaces (λ n st. (e : Terminal × ℕ) → Contains st.shifts e → LeadsOn n (terminal e.0) e.1) states →
    AllPlaces (λ n st. (e : Text × ℕ) → Contains st.gotos e → LeadsOn n (nonterminal e.0) e.1) states → (n : ℕ) (x : Symbol)
    (m : ℕ) → HasEdge states n x m → LeadsOn n x m
shape_edges states h k n (terminal t) m e =
    all_places (λ n st. (e : Terminal × ℕ) → Contains st.shifts e → LeadsOn n (terminal e.0) e.1) states h n e.0 e.1 (t, m) e.2
shape_edges states h k n (nonterminal A) m e =
    all_places (λ n st. (e : Text × ℕ) → Contains st.gotos e → LeadsOn n (nonterminal e.0) e.1) states k n e.0 e.1 (A, m) e.2

-- each item of the first state is one of those said to stand in state 0
pub items_first : (it : Item) → Contains first_items it → StandsIn 0 it.production it.dot
items_first = all_of (λ j. StandsIn 0 j.production j.dot) first_items (a_first, (s_first, tt))

-- each item of the second state is one of those said to stand in state 1
pub items_second : (it : Item) → Contains (item_at starts_s 1 ∷ []) it → StandsIn 1 it.production it.dot
items_second = all_of (λ j. StandsIn 1 j.production j.dot) (item_at starts_s 1 ∷ []) (s_done, tt)

-- each item of the third state is one of those said to stand in state 2
pub items_third : (it : Item) → Contains (item_at s_is_a 1 ∷ []) it → StandsIn 2 it.production it.dot
items_third = all_of (λ j. StandsIn 2 j.production j.dot) (item_at s_is_a 1 ∷ []) (a_done, tt)

pub shifts_first : (e : Terminal × ℕ) → Contains ((quoted letter_a, 2) ∷ []) e → LeadsOn 0 (terminal e.0) e.1
shifts_first = all_of (λ f. LeadsOn 0 (terminal f.0) f.1) ((quoted letter_a, 2) ∷ []) (by_a, tt)

pub gotos_first : (e : Text × ℕ) → Contains ((name letter_s, 1) ∷ []) e → LeadsOn 0 (nonterminal e.0) e.1
gotos_first = all_of (λ f. LeadsOn 0 (nonterminal f.0) f.1) ((name letter_s, 1) ∷ []) (by_s, tt)

-- the states with other items in the first and other reductions in the third
abbrev pub states_with : List Item → List Reduction → List State
states_with items reductions =
    state_of 0 items ((quoted letter_a, 2) ∷ []) ((name letter_s, 1) ∷ []) [] ∷ second_state
    ∷ state_of 2 (item_at s_is_a 1 ∷ []) [] [] reductions ∷ []

module _ (items : List Item) (reductions : List Reduction)
    (hold : (it : Item) → Contains items it → StandsIn 0 it.production it.dot) (a_stands : Contains items (item_at s_is_a 0))
    (s_stands : Contains items (item_at starts_s 0))
    (all : (a : Reduction) → Contains reductions a → (a.production ≡ s_is_a) × (a.lookahead.error ≡ false))
    (end : Contains reductions (reduction_before (None ∷ []) s_is_a) ⊎ Contains reductions
    (reduction_before (None ∷ Some (quoted letter_a) ∷ []) s_is_a))
    (apart : (j k : ℕ) (a b : Reduction) (x : Next) → slice_get reductions j ≡ Some a → slice_get reductions k ≡ Some b →
    Contains a.lookahead.nexts x → Contains b.lookahead.nexts x → j ≡ k) where
  pub its_item : (n : ℕ) (p : Production) (i : ℕ) → StandsIn n p i → HasItem (states_with items reductions) n p i
  its_item n p i a_first = record {
    state = state_of 0 items ((quoted letter_a, 2) ∷ []) ((name letter_s, 1) ∷ []) [];
    lookahead = before_these (None ∷ []);
    at =
        refl;
    held = a_stands;
  }
  its_item n p i s_first = record {
    state = state_of 0 items ((quoted letter_a, 2) ∷ []) ((name letter_s, 1) ∷ []) [];
    lookahead = before_these (None ∷ []);
    at =
        refl;
    held = s_stands;
  }
  its_item n p i s_done = record
      { state = second_state; lookahead = before_these (None ∷ []); at = refl; held = contains_here (item_at starts_s 1) [] }
  its_item n p i a_done = record {
    state = state_of 2 (item_at s_is_a 1 ∷ []) [] [] reductions;
    lookahead = before_these (None ∷ []);
    at = refl;
    held =
        contains_here (item_at s_is_a 1) [];
  }

  its_edge : (n : ℕ) (x : Symbol) (m : ℕ) → LeadsOn n x m → HasEdge (states_with items reductions) n x m
  its_edge n x m by_s = (
    state_of 0 items ((quoted letter_a, 2) ∷ []) ((name letter_s, 1) ∷ []) [],
    refl,
    contains_here
        (name letter_s, 1) [],
  )
  its_edge n x m by_a = (
    state_of 0 items ((quoted letter_a, 2) ∷ []) ((name letter_s, 1) ∷ []) [],
    refl,
    contains_here
        (quoted letter_a, 2) [],
  )

  pub with_items : (n : ℕ) (p : Production) (i : ℕ) → HasItem (states_with items reductions) n p i ↔ StandsIn n p i
  with_items n p i = (shape_items (states_with items reductions) (hold, (items_second, (items_third, tt))) n p i, its_item n p i)

  pub with_edges : (n : ℕ) (x : Symbol) (m : ℕ) → HasEdge (states_with items reductions) n x m ↔ LeadsOn n x m
  with_edges n x m = (
    shape_edges (states_with items reductions)
        (shifts_first, (λ e c. absurd (nothing_in e c), (λ e c. absurd (nothing_in e c), tt)))
        (gotos_first, (λ e c. absurd (nothing_in e c), (λ e c. absurd (nothing_in e c), tt))) n x m,
    its_edge n x m,
  )

  second_errors : (a : Reduction) → Contains second_state.reductions a → a.lookahead.error ≡ false
  second_errors = all_of (λ a. a.lookahead.error ≡ false) second_state.reductions (refl, tt)

  no_errors : (rs : List Reduction) → ((a : Reduction) → Contains rs a → a.lookahead.error ≡ false) →
      (j : ℕ) (a : Reduction) →
      slice_get rs j ≡ Some a → a.lookahead.error ≡ true → ⊥
  no_errors rs h j a e f = let z : a.lookahead.error ≡ false = h a (get_contains rs j a e) in cc

  second_apart : (j k : ℕ) (a b : Reduction) (x : Next) → slice_get second_state.reductions j ≡ Some a →
      slice_get second_state.reductions k ≡ Some b → Contains a.lookahead.nexts x → Contains b.lookahead.nexts x → j ≡ k
  second_apart j k a b x e f c d =
      omega (arith, slice_get_within second_state.reductions j a e, slice_get_within second_state.reductions k b f)

  pub with_checked : AreCheckedStates one_letter (name letter_start) (states_with items reductions)
  with_checked =
      shape_checked (states_with items reductions)
      (record {
        items = with_items;
        edges = with_edges;
        finished = all_places
            (λ n st. (a : Reduction) → Contains st.reductions a → StandsIn n a.production (length a.production.right))
            (states_with items reductions) (
              λ a c. absurd (nothing_in a c),
              (
                all_of (λ a. StandsIn 1 a.production (length a.production.right)) second_state.reductions
                    (s_done, tt),
                (λ a c. subst (λ p. StandsIn 2 p (length p.right)) (sym (all a c).0) a_done, tt),
              ),
            );
        s_reduced = record {
          state = second_state;
          lookahead = before_these (None ∷ []);
          at = refl;
          held = contains_here (reduction_before (None ∷ []) starts_s) [];
          follows = contains_here None [];
        };
        a_reduced = end_reduced end;
        no_conflict = all_places (λ n st. HasNoConflict st) (states_with items reductions) (
          record {
            reductions_apart = λ j k a b x e. absurd (no_get j a e);
            errors_apart = λ j k a b e. absurd (no_get j a e);
            shifts_apart = λ t m k a c e d. no_get k a e;
          },
          (
            record {
              reductions_apart = second_apart;
              errors_apart = λ j k a b e f c. absurd (no_errors second_state.reductions second_errors j a e c);
              shifts_apart = λ t m k a c e d. no_shift_in (t, m) c;
            },
            (
              record {
                reductions_apart = apart;
                errors_apart = λ j k a b e f c. absurd (no_errors reductions (λ r d. (all r d).1) j a e c);
                shifts_apart = λ t m k a c e d. no_shift_in (t, m) c;
              },
              tt,
            ),
          ),
        );
        no_error = all_places (λ n st. (a : Reduction) → Contains st.reductions a → a.lookahead.error ≡ false)
            (states_with items reductions)
            (λ a c. absurd (nothing_in a c), (second_errors, (λ a c. (all a c).1, tt)));
        at_end = all_places
            (λ n st. (a : Reduction) → Contains st.reductions a → a.production.left ≡ name letter_start → (x : Next) →
            Contains a.lookahead.nexts x → x ≡ None) (states_with items reductions) (
              λ a c. absurd (nothing_in a c),
              (
                all_of
                    (λ a. a.production.left ≡ name letter_start → (x : Next) → Contains a.lookahead.nexts x → x ≡ None)
                    second_state.reductions (λ e. all_of (λ x. x ≡ None) (None ∷ []) (refl, tt), tt),
                (λ a c e. absurd (omega (arith, name_same letter_s letter_start (ap (λ p. p.left) (sym (all a c).0) ∙ e))), tt),
              ),
            );
      })
    where
      no_get : (j : ℕ) (a : Reduction) → slice_get [] j ≡ Some a → ⊥
      no_get j a e = cc

      no_shift_in : (e : Terminal × ℕ) → Contains [] e → ⊥
      no_shift_in e c = omega (arith, c.1)

      end_reduced : Contains reductions (reduction_before (None ∷ []) s_is_a) ⊎ Contains reductions
          (reduction_before (None ∷ Some (quoted letter_a) ∷ []) s_is_a) →
          Reduces (states_with items reductions) 2 s_is_a None
      end_reduced (inl c) =
          record {
            state = state_of 2 (item_at s_is_a 1 ∷ []) [] [] reductions;
            lookahead = before_these (None ∷ []);
            at = refl;
            held = c;
            follows = contains_here None [];
          }
      end_reduced (inr c) =
          record {
            state = state_of 2 (item_at s_is_a 1 ∷ []) [] [] reductions;
            lookahead = before_these (None ∷ Some (quoted letter_a) ∷ []);
            at = refl;
            held = c;
            follows = contains_here None (Some (quoted letter_a) ∷ []);
          }
