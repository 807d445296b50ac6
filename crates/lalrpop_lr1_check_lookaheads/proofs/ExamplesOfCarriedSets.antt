-- Computed example of what is carried to reductions: of the four states of `S = A "a"; A = "b"`, of which the third reduces by the
-- second production, before `"a"` alone, and the last by the first, before the end alone. A token too many or too few, the set of the
-- other reduction and a set that is missing are refused.
use Rattle.std.proofs.Common.{◌≡◌, ◌∙◌, ◌⊎◌, ℕ, zero, suc, false, nat_eq, true, List, [], ◌∷◌, Contains, None, Some, drop}
use Rattle.std.proofs.Common.{refl, sym, ap, subst, inl, inr, ⊎_elim, arith, slice_get}
use Rattle.std.specs.Borrow.{Bor}
use Rattle.std.specs.Prelude.{codes}
use Rattle.std.proofs.lemmas.Bool.Decides.{Decides-eqb}
use Rattle.lalrpop_grammar_symbols.specs.Symbols.{Terminal, Text}
use Rattle.lalrpop_grammar_symbols.specs.declared.names.NonterminalString.{NonterminalString}
use Rattle.lalrpop_grammar_symbols.specs.declared.terminal.TerminalString.{TerminalString}
use Rattle.lalrpop_grammar_repr.specs.declared.grammar.Grammar.{Grammar}
use Rattle.lalrpop_grammar_repr.specs.declared.production.NonterminalData.{NonterminalData}
use Rattle.lalrpop_grammar_repr.specs.declared.production.Production.{Production}
use Rattle.lalrpop_grammar_repr.specs.declared.production.Symbol.TheVariants as symbols
use Rattle.lalrpop_lr1_theory.specs.Automata.{Carries, Closure, begins_with_end, in_kernel, shifts_next, starts_next}
use Rattle.lalrpop_lr1_theory.specs.FirstSets.{First0, ends, keeps}
use Rattle.lalrpop_lr1_theory.specs.Productions as theory
use Rattle.lalrpop_lr1_theory.specs.States as states
use Rattle.lalrpop_lr1_theory.proofs.ExampleLemmas.{head_same, next_same, nonterminal_is, not_empty, not_nonterminal, quoted_same, tail_same}
use Rattle.lalrpop_lr1_theory.proofs.FirstTableLemmas.{said_first}
use Rattle.lalrpop_lr1_theory.proofs.ListLemmas.{AllOf, all_of, all_places, contains_here, contains_later}
use Rattle.lalrpop_lr1_theory.proofs.StepLemmas.{some_same}
use Rattle.lalrpop_lr1_core.proofs.ExamplesOfViews.{name, quoted, two_terminals}
use Rattle.lalrpop_lr1_core.specs.Views.{lr_state_view, production_view, token_lookahead}
use Rattle.lalrpop_lr1_core.specs.declared.item.Item.{Item}
use Rattle.lalrpop_lr1_core.specs.declared.state.State.{State}
use Rattle.lalrpop_lr1_core.specs.declared.state_index.StateIndex.{StateIndex}
use Rattle.lalrpop_sets.specs.AscendingLists.{has}
use Rattle.lalrpop_lr1_first.proofs.ListLemmas.{or_cases}
use Rattle.lalrpop_lr1_first.specs.FirstSetsOf.{IsProductionOf}
use Rattle.lalrpop_lr1_check_lookaheads.specs.CarriedSets.{AreCarriedSets, AreSetsOfReductions, CarriesToEnd, CarriesTokenToEnd}
use Rattle.lalrpop_lr1_check_lookaheads.specs.CarriedSets.{IsCarriedSet, seen_by_tokens}

abbrev s_of_a : Production
s_of_a = record {
  nonterminal = name "S";
  symbols = symbols.Nonterminal (name "A") ∷ symbols.Terminal (quoted "a") ∷ [];
  action = record { 0 = 0 };
  span = record { 0 = 0; 1 = 0 };
}

abbrev a_of_b : Production
a_of_b = record {
  nonterminal = name "A";
  symbols = symbols.Terminal (quoted "b") ∷ [];
  action = record { 0 = 1 };
  span = record { 0 = 0; 1 = 0 };
}

abbrev lend : Production → Bor Production
lend p = record { ref_ptr = (0, 0); now = p }

abbrev named : NonterminalString → Production → NonterminalString × NonterminalData
named n p = (n, record { name = n; attributes = []; span = record { 0 = 0; 1 = 0 }; productions = p ∷ [] })

-- items and reductions have no lookaheads, which aren't looked at
abbrev item : Production → ℕ → Item (List ℕ)
item p dot = record { production = lend p; index = dot; lookahead = [] }

abbrev state_of : List (Item (List ℕ)) → List (TerminalString × StateIndex) → List (NonterminalString × StateIndex) →
    List (List ℕ × Bor Production) → State (List ℕ)
state_of items shifts gotos reductions = record {
  index = record { 0 = 0 };
  items = record { vec = items };
  shifts = shifts;
  reductions = reductions;
  gotos = gotos;
}

abbrev first_state : State (List ℕ)
first_state = state_of (item s_of_a 0 ∷ item a_of_b 0 ∷ []) ((quoted "b", record { 0 = 2 }) ∷ []) ((name "A", record { 0 = 1 }) ∷ []) []

abbrev behind_a : State (List ℕ)
behind_a = state_of (item s_of_a 1 ∷ []) ((quoted "a", record { 0 = 3 }) ∷ []) [] []

abbrev by_b : State (List ℕ)
by_b = state_of (item a_of_b 1 ∷ []) [] [] (([], lend a_of_b) ∷ [])

abbrev by_a : State (List ℕ)
by_a = state_of (item s_of_a 2 ∷ []) [] [] (([], lend s_of_a) ∷ [])

abbrev four_states : List (State (List ℕ))
four_states = first_state ∷ behind_a ∷ by_b ∷ by_a ∷ []

abbrev a_terminal : Terminal
a_terminal = Terminal.quoted (codes "a")

abbrev start : Text
start = codes "S"

-- a production of the grammar
abbrev IsKnown : theory.Production → Type 0
IsKnown p = (p ≡ production_view s_of_a) ⊎ (p ≡ production_view a_of_b)

-- before what each is carried
abbrev IsBefore : theory.Production → theory.Next → Type 0
IsBefore p x = ((p ≡ production_view s_of_a) × (x ≡ None)) ⊎ ((p ≡ production_view a_of_b) × (x ≡ Some a_terminal))

-- a nonterminal stands behind a dot only before `"a"`
after_b : (i : ℕ) (B : Text) (b : List theory.Symbol) → drop i (production_view a_of_b).right ≡ theory.nonterminal B ∷ b → ⊥
after_b zero B b e = not_nonterminal _ B (head_same _ _ _ _ e)
after_b (suc zero) B b e = not_empty _ b e
after_b (suc (suc i)) B b e = not_empty _ b e

after_s : (i : ℕ) (B : Text) (b : List theory.Symbol) → drop i (production_view s_of_a).right ≡ theory.nonterminal B ∷ b →
    (B ≡ codes "A") × (b ≡ theory.terminal a_terminal ∷ [])
after_s zero B b e =
    (sym (nonterminal_is (codes "A") B (head_same _ _ _ _ e)), sym (tail_same _ _ (theory.terminal a_terminal ∷ []) b e))
after_s (suc zero) B b e = absurd (not_nonterminal _ B (head_same _ _ _ _ e))
after_s (suc (suc zero)) B b e = absurd (not_empty _ b e)
after_s (suc (suc (suc i))) B b e = absurd (not_empty _ b e)

behind : (p : theory.Production) (i : ℕ) (B : Text) (b : List theory.Symbol) → IsKnown p →
    drop i p.right ≡ theory.nonterminal B ∷ b → (B ≡ codes "A") × (b ≡ theory.terminal a_terminal ∷ [])
behind p i B b (inl k) e =
    after_s i B b (subst (λ (q : theory.Production). drop i q.right ≡ theory.nonterminal B ∷ b) k e)
behind p i B b (inr k) e =
    absurd (after_b i B b (subst (λ (q : theory.Production). drop i q.right ≡ theory.nonterminal B ∷ b) k e))

-- of which the productions are that one
named_a : (q : theory.Production) → IsKnown q → q.left ≡ codes "A" → q ≡ production_view a_of_b
named_a q (inl k) e =
    let z : 83 ≡ 65 = head_same 83 65 [] [] (sym (ap (λ (p : theory.Production). p.left) k) ∙ e) in absurd (omega (arith, z))
named_a q (inr k) e = k

named_s : (q : theory.Production) → IsKnown q → q.left ≡ start → q ≡ production_view s_of_a
named_s q (inl k) e = k
named_s q (inr k) e =
    let z : 65 ≡ 83 = head_same 65 83 [] [] (sym (ap (λ (p : theory.Production). p.left) k) ∙ e) in absurd (omega (arith, z))

-- with `"a"` only `"a"` begins
first_a : (G : theory.Production → Type 0) (x : theory.Next) → First0 G (theory.terminal a_terminal ∷ []) x → x ≡ Some a_terminal
first_a G x h = said_first G (λ A y. Unit {0}) (λ p y g t. tt) (theory.terminal a_terminal ∷ []) x h

module _ (any : Grammar) where
  abbrev g : Grammar
  g = record any { terminals = two_terminals; nonterminals = named (name "A") a_of_b ∷ named (name "S") s_of_a ∷ [] }

  abbrev seen : List states.State
  seen = seen_by_tokens g start four_states

  abbrev Held : ℕ → theory.Production → ℕ → Type 0
  Held = states.HasItem seen

  abbrev Carried : ℕ → theory.Production → ℕ → theory.Next → Type 0
  Carried = Carries (IsProductionOf g) start Held (states.HasEdge seen)

  of_grammar : (p : theory.Production) → IsProductionOf g p → IsKnown p
  of_grammar = all_of IsKnown (production_view a_of_b ∷ production_view s_of_a ∷ []) (inr refl, (inl refl, tt))

  abbrev seen_state : State (List ℕ) → states.State
  seen_state = lr_state_view (token_lookahead two_terminals)

  -- the items of the states are of known productions, and so are those that they bring
  of_items : (st : State (List ℕ)) → AllOf (λ (i : states.Item). IsKnown i.production) (seen_state st).items → (i : states.Item) →
      Contains (seen_state st).items i → IsKnown i.production
  of_items st all i c = all_of (λ (j : states.Item). IsKnown j.production) (seen_state st).items all i c

  known_item : (n : ℕ) (p : theory.Production) (i : ℕ) → Held n p i → IsKnown p
  known_item n p i h =
      all_places (λ k (st : states.State). (j : states.Item) → Contains st.items j → IsKnown j.production) seen (
        of_items first_state (inl refl, (inr refl, tt)),
        (
          of_items behind_a (inl refl, tt),
          (of_items by_b (inr refl, tt), (of_items by_a (inl refl, tt), tt)),
        ),
      ) n h.state h.at (record { production = p; dot = i; lookahead = h.lookahead }) h.held

  known_closure : (n : ℕ) (p : theory.Production) (i : ℕ) → Closure (IsProductionOf g) (Held n) p i → IsKnown p
  known_closure n _ _ (Closure.in_kernel p i h) = known_item n p i h
  known_closure n _ _ (Closure.closed b q c e gq) = of_grammar q gq

  known_before : (p : theory.Production) (x : theory.Next) → IsBefore p x → IsKnown p
  known_before p x (inl h) = inl h.0
  known_before p x (inr h) = inr h.0

  -- nothing else is carried
  carried_before : (n : ℕ) (p : theory.Production) (i : ℕ) (x : theory.Next) → Carried n p i x → IsBefore p x
  carried_before _ _ _ _ (Carries.begins_with_end p gp e) = inl (named_s p (of_grammar p gp) e, refl)
  carried_before _ _ _ _ (Carries.shifts_next {n} {p} {i} {x} X b m h e k) = carried_before n p i x h
  carried_before _ _ _ _ (Carries.starts_next {n} {p} {i} b q t c e gq f) =
      let r = behind p i q.left b (known_closure n p i c) e in
      inr (
        named_a q (of_grammar q gq) r.0,
        first_a (IsProductionOf g) (Some t) (subst (λ l. First0 (IsProductionOf g) l (Some t)) r.1 f),
      )
  carried_before _ _ _ _ (Carries.passes_next {n} {p} {i} b q x h e gq f) =
      let r = behind p i q.left b (known_before p x (carried_before n p i x h)) e in
      let z : None ≡ Some a_terminal =
      first_a (IsProductionOf g) None (subst (λ l. First0 (IsProductionOf g) l None) r.1 f) in
      let w : ⊥ = cc in absurd w

  before_a : (n : ℕ) (x : theory.Next) → CarriesToEnd g start four_states n (production_view a_of_b) x → x ≡ Some a_terminal
  before_a n x c = go (carried_before n (production_view a_of_b) 1 x c)
    where
      go : IsBefore (production_view a_of_b) x → x ≡ Some a_terminal
      go (inl h) = let z : 1 ≡ 0 = ap (λ (p : theory.Production). p.action) h.0 in absurd (omega (arith, z))
      go (inr h) = h.1

  before_end : (n : ℕ) (x : theory.Next) → CarriesToEnd g start four_states n (production_view s_of_a) x → x ≡ None
  before_end n x c = go (carried_before n (production_view s_of_a) 2 x c)
    where
      go : IsBefore (production_view s_of_a) x → x ≡ None
      go (inl h) = h.1
      go (inr h) = let z : 0 ≡ 1 = ap (λ (p : theory.Production). p.action) h.0 in absurd (omega (arith, z))

  a_is_of_grammar : IsProductionOf g (production_view a_of_b)
  a_is_of_grammar = contains_here (production_view a_of_b) (production_view s_of_a ∷ [])

  s_is_of_grammar : IsProductionOf g (production_view s_of_a)
  s_is_of_grammar = contains_later (production_view a_of_b) (production_view s_of_a) (production_view s_of_a ∷ [])
      (contains_here (production_view s_of_a) [])

  first_item : Held 0 (production_view s_of_a) 0
  first_item = record {
    state = seen_state first_state;
    lookahead = token_lookahead two_terminals [];
    at = refl;
    held = (0, omega arith, refl);
  }

  a_carried : Carried 2 (production_view a_of_b) 1 (Some a_terminal)
  a_carried = shifts_next (theory.terminal (Terminal.quoted (codes "b"))) [] 2
      (starts_next (theory.terminal a_terminal ∷ []) (production_view a_of_b) a_terminal (in_kernel (production_view s_of_a) 0 first_item)
      refl a_is_of_grammar ([], keeps (theory.terminal a_terminal) ends)) refl
      (seen_state first_state, refl, (0, omega arith, refl))

  end_carried : Carried 3 (production_view s_of_a) 2 None
  end_carried = shifts_next (theory.terminal a_terminal) [] 3
      (shifts_next (theory.nonterminal (codes "A")) (theory.terminal a_terminal ∷ []) 1
      (begins_with_end (production_view s_of_a) s_is_of_grammar refl) refl (seen_state first_state, refl, (0, omega arith, refl))) refl
      (seen_state behind_a, refl, (0, omega arith, refl))

  -- a set with one number
  only : (n k : ℕ) → has (n ∷ []) k ≡ true → n ≡ k
  only n k h = ⊎_elim (λ e. (Decides-eqb n k).0 e) (λ e. let w : ⊥ = cc in absurd w) (or_cases (nat_eq n k) false h)

  set_of_a : IsCarriedSet g start four_states 2 a_of_b (0 ∷ [])
  set_of_a = record {
    sound = λ k h. subst (CarriesTokenToEnd g start four_states 2 a_of_b) (only 0 k h) (omega arith, a_carried);
    complete = λ x c. (0, sym (before_a 2 x c), refl);
  }

  set_of_end : IsCarriedSet g start four_states 3 s_of_a (2 ∷ [])
  set_of_end = record {
    sound = λ k h. subst (CarriesTokenToEnd g start four_states 3 s_of_a) (only 2 k h) (omega arith, end_carried);
    complete = λ x c. (2, sym (before_end 3 x c), refl);
  }

  -- the sets of a state's reductions at its place
  abbrev AreSetsAt : ℕ → State (List ℕ) → List (List ℕ) → Type 0
  AreSetsAt n st own = AreSetsOfReductions (IsCarriedSet g start four_states n) st.reductions own

  at_place : (n : ℕ) (st other : State (List ℕ)) (own sets : List (List ℕ)) → AreSetsAt n st own → Some st ≡ Some other →
      Some own ≡ Some sets → AreSetsAt n other sets
  at_place n st other own sets h e f =
      subst (AreSetsAt n other) (some_same own sets f) (subst (λ (u : State (List ℕ)). AreSetsAt n u own) (some_same st other e) h)

  no_set : (n : ℕ) → AreSetsOfReductions (IsCarriedSet g start four_states n) [] []
  no_set n = record { count = refl; each = λ i r set e f. let w : ⊥ = cc in absurd w }

  one_set : (n : ℕ) (p : Production) (set : List ℕ) → IsCarriedSet g start four_states n p set →
      AreSetsOfReductions (IsCarriedSet g start four_states n) (([], lend p) ∷ []) (set ∷ [])
  one_set n p set is = record { count = refl; each = each }
    where
      each : (i : ℕ) (r : List ℕ × Bor Production) (own : List ℕ) → slice_get (([], lend p) ∷ []) i ≡ Some r →
          slice_get (set ∷ []) i ≡ Some own → IsCarriedSet g start four_states n r.1.now own
      each zero r own e f = subst (IsCarriedSet g start four_states n r.1.now) (some_same set own f)
          (subst (λ (q : List ℕ × Bor Production). IsCarriedSet g start four_states n q.1.now set) (some_same ([], lend p) r e) is)
      each (suc i) r own e f = let w : ⊥ = cc in absurd w

  carried_sets : AreCarriedSets g start four_states ([] ∷ [] ∷ ((0 ∷ []) ∷ []) ∷ ((2 ∷ []) ∷ []) ∷ [])
  carried_sets = record { count = refl; each = each }
    where
      each : (n : ℕ) (st : State (List ℕ)) (own : List (List ℕ)) → slice_get four_states n ≡ Some st →
          slice_get ([] ∷ [] ∷ ((0 ∷ []) ∷ []) ∷ ((2 ∷ []) ∷ []) ∷ []) n ≡ Some own → AreSetsAt n st own
      each zero st own e f = at_place 0 first_state st [] own (no_set 0) e f
      each (suc zero) st own e f = at_place 1 behind_a st [] own (no_set 1) e f
      each (suc (suc zero)) st own e f = at_place 2 by_b st ((0 ∷ []) ∷ []) own (one_set 2 a_of_b (0 ∷ []) set_of_a) e f
      each (suc (suc (suc zero))) st own e f = at_place 3 by_a st ((2 ∷ []) ∷ []) own (one_set 3 s_of_a (2 ∷ []) set_of_end) e f
      each (suc (suc (suc (suc n)))) st own e f = let w : ⊥ = cc in absurd w

  -- with `"b"`, which isn't carried, without `"a"`, which is, and with the sets of the two reductions exchanged
  token_more_refused : AreCarriedSets g start four_states ([] ∷ [] ∷ ((0 ∷ 1 ∷ []) ∷ []) ∷ ((2 ∷ []) ∷ []) ∷ []) → ⊥
  token_more_refused h =
      let row = h.each 2 by_b ((0 ∷ 1 ∷ []) ∷ []) refl refl in
      let c = (row.each 0 ([], lend a_of_b) (0 ∷ 1 ∷ []) refl refl).sound 1 refl in
      let z : 98 ≡ 97 = quoted_same 98 97 (next_same _ _ (before_a 2 (Some (Terminal.quoted (codes "b"))) c.1)) in
      omega (arith, z)

  token_less_refused : AreCarriedSets g start four_states ([] ∷ [] ∷ ([] ∷ []) ∷ ((2 ∷ []) ∷ []) ∷ []) → ⊥
  token_less_refused h =
      let row = h.each 2 by_b ([] ∷ []) refl refl in
      let k = (row.each 0 ([], lend a_of_b) [] refl refl).complete (Some a_terminal) a_carried in
      let z : false ≡ true = k.2 in
      let w : ⊥ = cc in w

  other_set_refused : AreCarriedSets g start four_states ([] ∷ [] ∷ ((2 ∷ []) ∷ []) ∷ ((0 ∷ []) ∷ []) ∷ []) → ⊥
  other_set_refused h =
      let row = h.each 2 by_b ((2 ∷ []) ∷ []) refl refl in
      let c = (row.each 0 ([], lend a_of_b) (2 ∷ []) refl refl).sound 2 refl in
      let z : None ≡ Some a_terminal = before_a 2 None c.1 in
      let w : ⊥ = cc in w

  -- the token of errors is none that is carried
  error_refused : AreCarriedSets g start four_states ([] ∷ [] ∷ ((0 ∷ 3 ∷ []) ∷ []) ∷ ((2 ∷ []) ∷ []) ∷ []) → ⊥
  error_refused h =
      let row = h.each 2 by_b ((0 ∷ 3 ∷ []) ∷ []) refl refl in
      let c = (row.each 0 ([], lend a_of_b) (0 ∷ 3 ∷ []) refl refl).sound 3 refl in
      omega (arith, c.0)

  -- a state whose reduction has no set
  set_missing_refused : AreCarriedSets g start four_states ([] ∷ [] ∷ [] ∷ ((2 ∷ []) ∷ []) ∷ []) → ⊥
  set_missing_refused h = let z : 0 ≡ 1 = (h.each 2 by_b [] refl refl).count in omega (arith, z)
