-- What flows from slot to slot is what is propagated, and what slots bring to ends is what is carried there.
use Rattle.std.proofs.Common.{◌≡◌, ◌∙◌, ◌↔◌, ℕ, zero, suc, ◌<◌, ◌≤◌, false, true}
use Rattle.std.proofs.Common.{List, [], ◌∷◌, ◌++◌}
use Rattle.std.proofs.Common.{Option, None, Some, length, drop, take, map, refl, sym, ap, subst, inl, inr, ⊎_elim, arith, slice_get}
use Rattle.std.proofs.Common.{nat_eq}
use Rattle.std.specs.Prelude.{option_map, ◌||◌}
use Rattle.std.proofs.lemmas.Bool.Decides.{Decides-eqb}
use Rattle.std.proofs.lemmas.Option.{slice_get_within}
use Rattle.lalrpop_grammar_symbols.specs.Symbols.{Text, Terminal}
use Rattle.lalrpop_grammar_symbols.specs.Views.{terminal_view}
use Rattle.lalrpop_grammar_repr.specs.declared.grammar.Grammar.{Grammar}
use Rattle.lalrpop_grammar_repr.specs.declared.production.Production.{Production}
use Rattle.lalrpop_lr1_theory.specs.FirstSets.{First0}
use Rattle.lalrpop_lr1_theory.specs.Productions as theory
use Rattle.lalrpop_lr1_theory.specs.States as states
use Rattle.lalrpop_lr1_theory.proofs.StepLemmas.{some_same}
use Rattle.lalrpop_lr1_core.specs.Views.{lr_state_view, next_of_number, production_symbol_view, production_view}
use Rattle.lalrpop_lr1_core.specs.Views.{token_lookahead}
use Rattle.lalrpop_lr1_core.specs.declared.state.State.{State}
use Rattle.lalrpop_sets.specs.AscendingLists.{has}
use Rattle.lalrpop_sets.specs.Tokens.{eof_number}
use Rattle.lalrpop_lr1_first.specs.FirstSetsOf.{IsProductionOf}
use Rattle.lalrpop_lr1_first.specs.Listings.{HoldSame}
use Rattle.lalrpop_lr1_core.specs.TheoryGrammars.{productions_of_grammar}
use Rattle.lalrpop_lr1_first.specs.NumberedGrammars.{HasItsTerminals}
use Rattle.lalrpop_lr1_first.specs.declared.flowing.Edge.{Edge}
use Rattle.lalrpop_lr1_first.proofs.ListLemmas.{or_cases}
use Rattle.lalrpop_lr1_first.proofs.TableLemmas.{long_map}
use Rattle.lalrpop_lr1_theory.specs.PropagatedNexts.{IsPropagated, LeadAlong}
use Rattle.lalrpop_lr1_check_lookaheads.proofs.MoveLemmas.{get_long}
use Rattle.lalrpop_lr1_check_lookaheads.specs.PropagationEdges.{ArePropagationEdges, PropagatesAtDot}
use Rattle.lalrpop_lr1_check_lookaheads.specs.LookaheadFlows.{AreFlown, AreSeeds, FlowsAlong, HaveKnownItems, option_set}
use Rattle.lalrpop_lr1_check_lookaheads.specs.CarriedSets.{AreCarriedEnds, CarriesToEnd}
use Rattle.lalrpop_lr1_check_lookaheads.specs.Ends.{AreEnds, EndKey, HasEndMark, SlotsBringToEnd, end_key_at}
use Rattle.lalrpop_lr1_check_lookaheads.specs.declared.lookaheads.ends.Ends.{Ends}
use Rattle.lalrpop_lr1_check_lookaheads.proofs.EndCarryLemmas.{carried_ends}
use Rattle.lalrpop_lr1_check_lookaheads.specs.LookaheadSlots.{HasSlotMark, SlotKey, slot_key, slot_keys, slot_sets}
use Rattle.lalrpop_lr1_check_lookaheads.specs.declared.lookaheads.slots.Slots.{Slots}
use Rattle.lalrpop_lr1_check_lookaheads.proofs.KnownLemmas.{begun_closure, closure_begun, known_first, of_grammar, of_list}
use Rattle.lalrpop_lr1_check_lookaheads.proofs.RestLemmas.{end_is}
use Rattle.lalrpop_lr1_check_lookaheads.proofs.SlotLemmas.{key_of}

take_drop : {X : Type 0} (xs : List X) (i : ℕ) → xs ≡ take i xs ++ drop i xs
take_drop [] zero = refl
take_drop [] (suc i) = refl
take_drop (x ∷ xs) zero = refl
take_drop (x ∷ xs) (suc i) = ap (λ l. x ∷ l) (take_drop xs i)

take_front : {X : Type 0} (xs ys : List X) → take (length xs) (xs ++ ys) ≡ xs
take_front [] [] = refl
take_front [] (y ∷ ys) = refl
take_front (x ∷ xs) ys = ap (λ l. x ∷ l) (take_front xs ys)

drop_front : {X : Type 0} (xs ys : List X) → drop (length xs) (xs ++ ys) ≡ ys
drop_front [] [] = refl
drop_front [] (y ∷ ys) = refl
drop_front (x ∷ xs) ys = drop_front xs ys

-- where a token is there, so is the set
some_set : (o : Option (List ℕ)) (k : ℕ) → has (option_set o) k ≡ true → (set : List ℕ) × (o ≡ Some set) × (has set k ≡ true)
some_set None k h = let w : ⊥ = cc in absurd w
some_set (Some set) k h = (set, refl, h)

module _ (g : Grammar) (terminals : HasItsTerminals g) (all : List (State (List ℕ)))
    (known : HaveKnownItems g.terminals all) (ps : List Production) (same : HoldSame ps (productions_of_grammar g)) (s : Text)
    (first slots : Slots) (seeds : AreSeeds g ps s all first) (edges : List Edge)
    (propagated : ArePropagationEdges g (token_lookahead g.terminals) all ps first slots edges (length slots.keys.keys)) where
  abbrev look : List ℕ → states.LookaheadSet
  look = token_lookahead g.terminals

  abbrev seen : List states.State
  seen = map (lr_state_view look) all

  abbrev Propagation : ℕ → Text → theory.Next → Type 0
  Propagation = IsPropagated (IsProductionOf g) s (states.HasItem seen) (states.HasEdge seen)

  number_some : (k : ℕ) → k < eof_number g.terminals → (t : Terminal) × (next_of_number g.terminals k ≡ Some t)
  number_some k h = let t = get_long g.terminals.all k h in (terminal_view t.0, ap (option_map terminal_view) t.1)

  seed_sound : (key : SlotKey) (k : ℕ) → HasSlotMark first key (Some k) →
      (k ≤ eof_number g.terminals) × Propagation key.state key.name (next_of_number g.terminals k)
  seed_sound key k h = ⊎_elim
      (λ b.
      let c = begun_closure g terminals all look known ps same key (Some k) b in
      let m : (k < eof_number g.terminals) × First0 (IsProductionOf g) c.brings.rest (next_of_number g.terminals k) =
      c.brings.mark_is in
      let t = number_some k m.0 in (
        omega (arith, m.0),
        subst (Propagation key.state key.name) (sym t.1) (IsPropagated.first_behind c.brings.rest key.name t.0 c.item c.brings.before
            (subst (First0 (IsProductionOf g) c.brings.rest) t.1 m.1)),
      ))
      (λ (e, m).
      let z : eof_number g.terminals ≡ k = ⊎_elim
      (λ f. (Decides-eqb (eof_number g.terminals) k).0 f)
      (λ f. let w : ⊥ = cc in absurd w) (or_cases (nat_eq (eof_number g.terminals) k) false m) in (
        omega (arith, z),
        subst (λ (own : SlotKey). Propagation own.state own.name (next_of_number g.terminals k)) (sym e)
            (subst (λ j. Propagation 0 s (next_of_number g.terminals j)) z
            (subst (Propagation 0 s) (sym (end_is g)) IsPropagated.end_at_start)),
      )) ((seeds.marks key (Some k)).0 h)

  pub flow_sound : (j k : ℕ) → FlowsAlong edges (slot_sets slots) j k → (key : SlotKey) → slice_get (slot_keys slots) j ≡ Some key →
      (k ≤ eof_number g.terminals) × Propagation key.state key.name (next_of_number g.terminals k)
  flow_sound _ _ (FlowsAlong.stands j k h) key at = seed_sound key k (propagated.tokens key k (j, at, h))
  flow_sound _ _ (FlowsAlong.flows e k c f) key at =
      let r = propagated.sound e c in
      let own : r.4.key ≡ key = some_same r.4.key key (sym r.4.at ∙ at) in
      let rec = flow_sound e.from k f r.1 (ap (slice_get (slot_keys slots)) r.4.from_is ∙ r.3) in
      let (p, m, (name, dot, h)) = r.4.to in (
        rec.0,
        subst (λ (o : SlotKey). Propagation o.state o.name (next_of_number g.terminals k)) own
            (IsPropagated.propagated_on (production_view p) (take dot (map production_symbol_view p.symbols)) h.rest r.4.key.name r.4.key.state
            (subst (λ A. Propagation r.1.state A (next_of_number g.terminals k)) (sym name) rec.1)
            (of_grammar g terminals all look known ps same p m)
            (take_drop (map production_symbol_view p.symbols) dot
            ∙ ap (λ l. take dot (map production_symbol_view p.symbols) ++ l) h.before) h.led h.nothing),
      )

  -- some slot has what is propagated
  pub record FlowsIn (n : ℕ) (A : Text) (x : theory.Next) : Type 0 where
    pub slot : ℕ
    pub number : ℕ
    pub at : slice_get (slot_keys slots) slot ≡ Some (key_of n A)
    pub flows : FlowsAlong edges (slot_sets slots) slot number
    pub next_is : next_of_number g.terminals number ≡ x

  stands_in : (n : ℕ) (A : Text) (x : theory.Next) (k : ℕ) → HasSlotMark first (key_of n A) (Some k) →
      next_of_number g.terminals k ≡ x → FlowsIn n A x
  stands_in n A x k h e =
      let m = propagated.has (key_of n A) (Some k) h in
      record { slot = m.0; number = k; at = m.1; flows = FlowsAlong.stands m.0 k m.2; next_is = e }

  pub flow_complete : (n : ℕ) (A : Text) (x : theory.Next) → Propagation n A x → FlowsIn n A x
  flow_complete _ _ _ IsPropagated.end_at_start =
      stands_in 0 s None (eof_number g.terminals)
      ((seeds.marks (key_of 0 s) (Some (eof_number g.terminals))).1
      (inr (refl, ap (λ b. b || false) ((Decides-eqb (eof_number g.terminals) (eof_number g.terminals)).1 refl)))) (end_is g)
  flow_complete _ _ _ (IsPropagated.first_behind {n} {p} {i} b A t cl before f) =
      let k = known_first g terminals all look known ps same n p i A b t cl before f in
      stands_in n A (Some t) k.0
      ((seeds.marks (key_of n A) (Some k.0)).1 (inl (closure_begun g terminals all look known ps same n p i cl (key_of n A) (Some k.0)
      (record {
        rest = b;
        state = refl;
        before = before;
        mark_is = (k.1, subst (First0 (IsProductionOf g) b) (sym k.2) f);
      })))) k.2
  flow_complete _ _ _ (IsPropagated.propagated_on {n} {x} p a b A m h gp right led nothing) =
      let rec = flow_complete n p.left x h in
      let l = of_list g terminals all look known ps same p gp in
      let side : map production_symbol_view l.0.symbols ≡ a ++ theory.nonterminal A ∷ b =
      ap (λ (v : theory.Production). v.right) l.2 ∙ right in
      let own : PropagatesAtDot g look all n l.0.symbols (length a) (key_of m A) = record {
        rest = b;
        before = ap (drop (length a)) side ∙ drop_front a (theory.nonterminal A ∷ b);
        nothing = nothing;
        led = subst (λ q. LeadAlong (states.HasEdge seen) q n m)
            (sym (ap (take (length a)) side ∙ take_front a (theory.nonterminal A ∷ b))) led;
      } in
      let here : rec.slot < length slots.keys.keys = omega (
        arith,
        slice_get_within (slot_keys slots) rec.slot (key_of n p.left) rec.at,
        long_map slot_key slots.keys.keys,
      ) in
      let e = propagated.all rec.slot (key_of n p.left) (key_of m A) here rec.at
      (l.0, l.1, (ap (λ (v : theory.Production). v.left) l.2, length a, own)) in
      record {
        slot = e.0.to;
        number = rec.number;
        at = e.3;
        flows = FlowsAlong.flows e.0 rec.number e.1
            (subst (λ j. FlowsAlong edges (slot_sets slots) j rec.number) (sym e.2) rec.flows);
        next_is = rec.next_is;
      }

  -- the ends to which slots bring what flows to them have just what is carried to them
  pub ends_are_carried : (sets : List (Option (List ℕ))) → AreFlown slots edges sets → (ends : Ends) → AreEnds ends →
      ((end : EndKey) (mark : Option ℕ) → HasEndMark ends end mark ↔ SlotsBringToEnd look all ps (slot_keys slots) sets end mark) →
      AreCarriedEnds g s all ends
  ends_are_carried sets flown ends are marks = record {
    are = are;
    sound = λ end k h.
        let (j, tokens, at, (set, key, is, at_key, (p, c, b))) = (marks end (Some k)).0 h in
        let has_k : has (option_set tokens) k ≡ true = subst (λ o. has (option_set o) k ≡ true) (sym is) b.mark_is in
        let f = flow_sound j k ((flown.flown j k tokens at).0 has_k) key at_key in (
          f.0,
          subst (λ q. CarriesToEnd g s all end.state (production_view q) (next_of_number g.terminals k)) (sym b.production)
              ((carried_ends (IsProductionOf g) s (states.HasItem seen) (states.HasEdge seen) end.state (production_view p)
              (next_of_number g.terminals k)).1 (record {
                from = key.state;
                of_grammar = of_grammar g terminals all look known ps same p c;
                propagated = subst (λ A. Propagation key.state A (next_of_number g.terminals k)) (sym b.name) f.1;
                leads = b.leads;
              })),
        );
    complete = λ n p x h.
        let e = (carried_ends (IsProductionOf g) s (states.HasItem seen) (states.HasEdge seen) n p x).0 h in
        let f = flow_complete e.from p.left x e.propagated in
        let l = of_list g terminals all look known ps same p e.of_grammar in
        let here : f.slot < length sets = omega (
          arith,
          slice_get_within (slot_keys slots) f.slot (key_of e.from p.left) f.at,
          propagated.are,
          flown.count,
        ) in
        let o = get_long sets f.slot here in
        let s = some_set o.0 f.number ((flown.flown f.slot f.number o.0 o.1).1 f.flows) in
        record {
          production = l.0;
          number = f.number;
          production_is = l.2;
          next_is = f.next_is;
          mark = (marks (end_key_at n l.0) (Some f.number)).1 (
            f.slot,
            o.0,
            o.1,
            (
              s.0,
              key_of e.from p.left,
              s.1,
              f.at,
              (
                l.0,
                l.1,
                record {
                  name = ap (λ (v : theory.Production). v.left) l.2;
                  production = refl;
                  leads = subst (λ (v : theory.Production). LeadAlong (states.HasEdge seen) v.right e.from n) (sym l.2) e.leads;
                  mark_is = s.2;
                },
              ),
            ),
          );
        };
  }
