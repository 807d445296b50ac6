-- What items of states bring as the theory sees it, and that what can come first is numbered: for the test of what is propagated.
use Rattle.std.proofs.Common.{◌≡◌, ◌∙◌, ℕ, zero, suc, ◌<◌, List, [], ◌∷◌, Contains}
use Rattle.std.proofs.Common.{Option, None, Some, drop, map, refl, sym, ap, subst, ⊎_elim, slice_get}
use Rattle.std.specs.Prelude.{option_map}
use Rattle.std.proofs.lemmas.List.Elements.{Contains-append_cases}
use Rattle.std.proofs.lemmas.Option.{slice_get_within}
use Rattle.lalrpop_grammar_symbols.specs.Symbols.{Text, Terminal}
use Rattle.lalrpop_grammar_symbols.specs.Views.{terminal_view}
use Rattle.lalrpop_grammar_repr.specs.declared.grammar.Grammar.{Grammar}
use Rattle.lalrpop_grammar_repr.specs.declared.production.Production.{Production}
use Rattle.lalrpop_grammar_repr.specs.declared.production.Symbol.{Symbol}
use Rattle.lalrpop_grammar_repr.specs.declared.production.Symbol.TheVariants as symbols
use Rattle.lalrpop_lr1_theory.specs.Automata.{Closure}
use Rattle.lalrpop_lr1_theory.specs.FirstSets.{Derives, First0}
use Rattle.lalrpop_lr1_theory.specs.Productions as theory
use Rattle.lalrpop_lr1_theory.specs.States as states
use Rattle.lalrpop_lr1_theory.proofs.ListLemmas.{contains_here, contains_later, contains_split}
use Rattle.lalrpop_lr1_core.proofs.MemberLemmas.{in_map, map_has}
use Rattle.lalrpop_lr1_core.proofs.NoConflictLemmas.{at_mapped, mapped_at}
use Rattle.lalrpop_lr1_core.specs.Views.{lr_item_view, lr_state_view, next_of_number, production_symbol_view, production_view}
use Rattle.lalrpop_lr1_core.specs.declared.item.Item.{Item}
use Rattle.lalrpop_lr1_core.specs.declared.state.State.{State}
use Rattle.lalrpop_sets.specs.Tokens.{eof_number}
use Rattle.lalrpop_lr1_first.specs.FirstSetsOf.{IsProductionOf}
use Rattle.lalrpop_lr1_first.specs.Listings.{HoldSame}
use Rattle.lalrpop_lr1_core.specs.TheoryGrammars.{productions_of_grammar}
use Rattle.lalrpop_lr1_first.specs.NumberedGrammars.{HasItsTerminals}
use Rattle.lalrpop_lr1_first.specs.Tables.{HasNumberedTerminal}
use Rattle.lalrpop_lr1_theory.proofs.NameLemmas.{no_element}
use Rattle.lalrpop_lr1_check_lookaheads.specs.Brought.{BringsMark, IsBegunMark}
use Rattle.lalrpop_lr1_check_lookaheads.specs.LookaheadFlows.{HaveKnownItems, ItemsBring}
use Rattle.lalrpop_lr1_check_lookaheads.specs.LookaheadSlots.{SlotKey}
use Rattle.lalrpop_lr1_check_lookaheads.proofs.SlotLemmas.{key_of}

pub contains_drop : {X : Type 0} (xs : List X) (i : ℕ) (x : X) → Contains (drop i xs) x → Contains xs x
contains_drop [] zero x c = c
contains_drop [] (suc i) x c = c
contains_drop (y ∷ xs) zero x c = c
contains_drop (y ∷ xs) (suc i) x c = contains_later y x xs (contains_drop xs i x c)

module _ (g : Grammar) (terminals : HasItsTerminals g) (all : List (State (List ℕ))) (look : List ℕ → states.LookaheadSet)
    (known : HaveKnownItems g.terminals all) (ps : List Production) (same : HoldSame ps (productions_of_grammar g)) where
  abbrev pub Held : ℕ → theory.Production → ℕ → Type 0
  Held = states.HasItem (map (lr_state_view look) all)

  -- the terminal has a number
  abbrev pub IsNumbered : Terminal → Type 0
  IsNumbered t = (k : ℕ) × (k < eof_number g.terminals) × (next_of_number g.terminals k ≡ Some t)

  -- an item of a state that is seen
  pub item_seen : (n : ℕ) (p : theory.Production) (i : ℕ) → Held n p i → (state : State (List ℕ)) × (item : Item (List ℕ))
      × (slice_get all n ≡ Some state) × Contains state.items.vec item × (production_view item.production.now ≡ p)
      × (item.index ≡ i)
  item_seen n p i h =
      let s = at_mapped (lr_state_view look) all n h.state h.at in
      let held = subst (λ (v : states.State). Contains v.items (record { production = p; dot = i; lookahead = h.lookahead })) (sym s.2)
      h.held in
      let e = in_map (lr_item_view look) s.0.items.vec (record { production = p; dot = i; lookahead = h.lookahead }) held in
      (s.0, e.0, s.1, e.1, ap (λ (v : states.Item). v.production) e.2, ap (λ (v : states.Item). v.dot) e.2)

  pub seen_item : (n : ℕ) (state : State (List ℕ)) (item : Item (List ℕ)) → slice_get all n ≡ Some state →
      Contains state.items.vec item → Held n (production_view item.production.now) item.index
  seen_item n state item at c = record {
    state = lr_state_view look state;
    lookahead = look item.lookahead;
    at = mapped_at (lr_state_view look) all n state at;
    held = map_has (lr_item_view look) state.items.vec item c;
  }

  pub of_list : (p : theory.Production) → IsProductionOf g p → (q : Production) × Contains ps q × (production_view q ≡ p)
  of_list p c =
      let m = in_map production_view (productions_of_grammar g) p c in
      (m.0, (same m.0).1 m.1, m.2)

  pub of_grammar : (q : Production) → Contains ps q → IsProductionOf g (production_view q)
  of_grammar q c = map_has production_view (productions_of_grammar g) q ((same q).0 c)

  known_symbol : (x : Symbol) (t : Terminal) → HasNumberedTerminal g.terminals x → production_symbol_view x ≡ theory.terminal t →
      IsNumbered t
  known_symbol (symbols.Nonterminal n) t h e = let w : ⊥ = cc in absurd w
  known_symbol (symbols.Terminal u) t h e =
      let at = terminals.numbered.places h.0 u h.1 in
      let z : terminal_view u ≡ t = cc in
      (h.0, slice_get_within g.terminals.all h.0 u at, ap (option_map terminal_view) at ∙ ap Some z)

  known_production : (p : theory.Production) → IsProductionOf g p → (t : Terminal) → Contains p.right (theory.terminal t) →
      IsNumbered t
  known_production p c t h =
      let m = in_map production_view (productions_of_grammar g) p c in
      let x = in_map production_symbol_view m.0.symbols (theory.terminal t)
      (subst (λ (q : theory.Production). Contains q.right (theory.terminal t)) (sym m.2) h) in
      known_symbol x.0 t (terminals.known m.0 m.1 x.0 x.1) x.2

  known_derived : (xs ys : List theory.Symbol) → Derives (IsProductionOf g) xs ys →
      ((t : Terminal) → Contains xs (theory.terminal t) → IsNumbered t) → (t : Terminal) → Contains ys (theory.terminal t) →
      IsNumbered t
  known_derived _ _ Derives.ends from t c = absurd (no_element (theory.terminal t) c)
  known_derived _ _ (Derives.keeps x {xs} {ys} d) from t c = ⊎_elim
      (λ (e : x ≡ theory.terminal t). from t (subst (Contains (x ∷ xs)) e (contains_here x xs)))
      (λ m. known_derived xs ys d (λ u n. from u (contains_later x (theory.terminal u) xs n)) t m)
      (contains_split x (theory.terminal t) ys c)
  known_derived _ _ (Derives.grows p {xs} {ys} {zs} gp d e) from t c = ⊎_elim
      (λ m. known_derived p.right zs d (known_production p gp) t m)
      (λ m. known_derived xs ys e (λ u n. from u (contains_later (theory.nonterminal p.left) (theory.terminal u) xs n)) t m)
      (Contains-append_cases zs ys (theory.terminal t) c)

  known_closure : (n : ℕ) (p : theory.Production) (i : ℕ) → Closure (IsProductionOf g) (Held n) p i → (t : Terminal) →
      Contains p.right (theory.terminal t) → IsNumbered t
  known_closure n _ _ (Closure.in_kernel p i h) t c =
      let r = item_seen n p i h in
      let x = in_map production_symbol_view r.1.production.now.symbols (theory.terminal t)
      (subst (λ (q : theory.Production). Contains q.right (theory.terminal t)) (sym r.4) c) in
      known_symbol x.0 t (known n r.0 r.1 x.0 r.2 r.3 x.1) x.2
  known_closure n _ _ (Closure.closed b q cl before gq) t c = known_production q gq t c

  -- what can come first behind a nonterminal in a closure is numbered
  pub known_first : (n : ℕ) (p : theory.Production) (i : ℕ) (A : Text) (b : List theory.Symbol) (t : Terminal) →
      Closure (IsProductionOf g) (Held n) p i → drop i p.right ≡ theory.nonterminal A ∷ b → First0 (IsProductionOf g) b (Some t) →
      IsNumbered t
  known_first n p i A b t cl before f =
      known_derived b (theory.terminal t ∷ f.0) f.1
      (λ u c. known_closure n p i cl u (contains_drop p.right i (theory.terminal u)
      (subst (λ l. Contains l (theory.terminal u)) (sym before) (contains_later (theory.nonterminal A) (theory.terminal u) b c)))) t
      (contains_here (theory.terminal t) f.0)

  -- an item of the closure in the key's state brings the mark
  pub record IsClosureMark (key : SlotKey) (mark : Option ℕ) : Type 0 where
    pub production : theory.Production
    pub dot : ℕ
    pub item : Closure (IsProductionOf g) (Held key.state) production dot
    pub brings : BringsMark g key.state (drop dot production.right) key mark

  at_state : (n : ℕ) (p : theory.Production) (i : ℕ) (key : SlotKey) (mark : Option ℕ) → Closure (IsProductionOf g) (Held n) p i →
      BringsMark g n (drop i p.right) key mark → IsClosureMark key mark
  at_state n p i key mark c b = record {
    production = p;
    dot = i;
    item = subst (λ m. Closure (IsProductionOf g) (Held m) p i) (sym b.state) c;
    brings = record { rest = b.rest; state = refl; before = b.before; mark_is = b.mark_is };
  }

  pub begun_closure : (key : SlotKey) (mark : Option ℕ) → IsBegunMark g ps (ItemsBring g all) key mark → IsClosureMark key mark
  begun_closure _ _ (IsBegunMark.seeded key mark (n, state, at, (item, c, b))) =
      at_state n (production_view item.production.now) item.index key mark
      (Closure.in_kernel (production_view item.production.now) item.index (seen_item n state item at c)) b
  begun_closure _ _ (IsBegunMark.begun from key mark f (q, c, (name, b))) =
      let r = begun_closure from None f in
      at_state from.state (production_view q) 0 key mark
      (Closure.closed r.brings.rest (production_view q) r.item
      (r.brings.before ∙ ap (λ A. theory.nonterminal A ∷ r.brings.rest) (sym name)) (of_grammar q c)) b

  pub closure_begun : (n : ℕ) (p : theory.Production) (i : ℕ) → Closure (IsProductionOf g) (Held n) p i → (key : SlotKey)
      (mark : Option ℕ) → BringsMark g n (drop i p.right) key mark → IsBegunMark g ps (ItemsBring g all) key mark
  closure_begun n _ _ (Closure.in_kernel p i h) key mark b =
      let r = item_seen n p i h in
      IsBegunMark.seeded key mark (
        n,
        r.0,
        r.2,
        (
          r.1,
          r.3,
          subst (λ j. BringsMark g n (drop j (production_view r.1.production.now).right) key mark) (sym r.5)
              (subst (λ (q : theory.Production). BringsMark g n (drop i q.right) key mark) (sym r.4) b),
        ),
      )
  closure_begun n _ _ (Closure.closed {p} {i} rest q cl before gq) key mark b =
      let l = of_list q gq in
      IsBegunMark.begun (key_of n q.left) key mark
      (closure_begun n p i cl (key_of n q.left) None (record { rest = rest; state = refl; before = before; mark_is = tt })) (
        l.0,
        l.1,
        (
          ap (λ (v : theory.Production). v.left) l.2,
          subst (λ (v : theory.Production). BringsMark g n v.right key mark) (sym l.2) b,
        ),
      )
