-- Items that are asked for a nonterminal: where a dot stands before it, what can come first behind it, and one item after the other.
use Rattle.std.proofs.Common.{◌≡◌, ◌∙◌, ◌↔◌, ◌⊎◌, ◌≤◌, ◌+◌, ◌&&◌, ℕ, zero, suc, Bool, true, false, List, [], ◌∷◌, ◌++◌, map, drop, refl, sym, ap, subst}
use Rattle.std.proofs.Common.{inl, inr, ⊎_elim, arith, Contains, Some, None, slice_get, nat_eq}
use Rattle.std.specs.Prelude.{not}
use Rattle.std.proofs.lemmas.Bool.Decides.{Decides-eqb}
use Rattle.std.proofs.lemmas.List.Elements.{Contains-append_cases, Contains-append_left, Contains-append_right}
use Rattle.lalrpop_grammar_symbols.specs.Symbols.{Terminal, Text}
use Rattle.lalrpop_grammar_symbols.specs.declared.names.NonterminalString.{NonterminalString}
use Rattle.lalrpop_grammar_repr.specs.declared.grammar.Grammar.{Grammar}
use Rattle.lalrpop_grammar_repr.specs.declared.production.Symbol.{Symbol}
use Rattle.lalrpop_grammar_repr.specs.declared.production.Symbol.TheVariants as symbols
use Rattle.lalrpop_lr1_theory.specs.FirstSets.{First0}
use Rattle.lalrpop_lr1_theory.specs.Productions as theory
use Rattle.lalrpop_lr1_theory.specs.States as states
use Rattle.lalrpop_lr1_theory.proofs.ListLemmas.{contains_here, contains_split, none_some}
use Rattle.lalrpop_lr1_theory.proofs.NameLemmas.{no_element}
use Rattle.lalrpop_lr1_theory.proofs.StepLemmas.{some_same}
use Rattle.lalrpop_sets.specs.AscendingLists.{has}
use Rattle.lalrpop_sets.specs.Tokens.{eof_number}
use Rattle.lalrpop_lr1_core.specs.Views.{lr_item_view, lr_state_view, next_of_number, production_symbol_view, production_view}
use Rattle.lalrpop_lr1_core.specs.declared.item.Item.{Item}
use Rattle.lalrpop_lr1_core.specs.declared.state.State.{State}
use Rattle.lalrpop_lr1_core.proofs.MemberLemmas.{in_map, map_has}
use Rattle.lalrpop_lr1_first.specs.FirstSetsOf.{IsFirstSet, IsProductionOf}
use Rattle.lalrpop_lr1_first.specs.Tables.{IsTerminalSet}
use Rattle.lalrpop_lr1_first.proofs.TableLemmas.{end_is_none, same_next}
use Rattle.lalrpop_lane_tables.specs.LaneTraces.{AsksItems, ByNumber, ItemAdds, ItemEnters, ItemLeads, SomeItem}
use Rattle.lalrpop_lane_tables.specs.TableGains.{AddsTokens, EntersAt, NotesNothing, TableGains}
use Rattle.lalrpop_lane_tables.specs.TableViews.{TableView}
use Rattle.lalrpop_lane_tables.specs.TraceNodes.{ExtendsNodes, TraceNode, node_of_item}
use Rattle.lalrpop_lane_tables.proofs.TableGainLemmas.{table_gains_alike, table_gains_both, table_gains_none}
use Rattle.lalrpop_lane_tables.proofs.TraceLemmas.{extends_alike, extends_both, extends_none}

-- the nonterminal at a place of a right side, with what stands behind it
pub seen_at : (xs : List Symbol) (j : ℕ) (A : NonterminalString) → slice_get xs j ≡ Some (symbols.Nonterminal A) →
    drop j (map production_symbol_view xs) ≡ theory.nonterminal A.0 ∷ map production_symbol_view (drop (j + 1) xs)
seen_at [] j A e = let w : ⊥ = cc in absurd w
seen_at (x ∷ xs) zero A e =
    let same : x ≡ symbols.Nonterminal A = cc in
    ap (λ y. production_symbol_view y ∷ map production_symbol_view xs) same
    ∙ ap (λ n. theory.nonterminal A.0 ∷ map production_symbol_view (drop n (x ∷ xs))) one
  where
    one : suc 0 ≡ 0 + 1
    one = omega arith
seen_at (x ∷ xs) (suc j) A e =
    seen_at xs j A e ∙ ap (λ n. theory.nonterminal A.0 ∷ map production_symbol_view (drop n (x ∷ xs))) (more j)
  where
    more : (n : ℕ) → suc (n + 1) ≡ suc n + 1
    more n = omega arith

pub at_seen : (xs : List Symbol) (j : ℕ) (A : NonterminalString) (b : List theory.Symbol) →
    drop j (map production_symbol_view xs) ≡ theory.nonterminal A.0 ∷ b → slice_get xs j ≡ Some (symbols.Nonterminal A)
at_seen [] zero A b e = let w : ⊥ = cc in absurd w
at_seen [] (suc j) A b e = let w : ⊥ = cc in absurd w
at_seen (symbols.Nonterminal B ∷ xs) zero A b e =
    let same : B.0 ≡ A.0 = cc in
    let named : List ℕ → NonterminalString = λ t. record { 0 = t } in
    ap (λ t. Some (symbols.Nonterminal (named t))) same
at_seen (symbols.Terminal t ∷ xs) zero A b e = let w : ⊥ = cc in absurd w
at_seen (x ∷ xs) (suc j) A b e = at_seen xs j A b e

module _ (g : Grammar) (m : ℕ) (A : Text) {L : Type 0} where
  -- no item, and one more
  pub asks_none : (c : ℕ) (nodes : List TraceNode) (table : TableView) → AsksItems g m A {L = L} [] c nodes nodes table table
  asks_none c nodes table = record {
    nodes = extends_none nodes (λ k. SomeItem g m A {L = L} [] (λ r j. ItemLeads g m A r j k)) (λ k h. no_element h.0 h.1);
    gains = table_gains_none (λ n. ByNumber g (λ x. SomeItem g m A {L = L} [] (λ r j. ItemAdds g m A r j n x)))
        (λ n. SomeItem g m A {L = L} [] (λ r j. ItemEnters g m A r j n)) NotesNothing c table (λ n k h. no_element h.1.0 h.1.1)
        (λ n h. no_element h.0 h.1) (λ k n h. h);
  }

  some_both : (xs ys : List (Item L)) (Says : theory.Production → ℕ → Type 0) →
      SomeItem g m A (xs ++ ys) Says ↔ (SomeItem g m A xs Says ⊎ SomeItem g m A ys Says)
  some_both xs ys Says = (
    λ h. ⊎_elim (λ d. inl (h.0, d, h.2)) (λ d. inr (h.0, d, h.2)) (Contains-append_cases xs ys h.0 h.1),
    λ h. ⊎_elim
        (λ d. (d.0, Contains-append_left xs ys d.0 d.1, d.2))
        (λ d. (d.0, Contains-append_right xs ys d.0 d.1, d.2)) h,
  )

  pub asks_both : (xs ys : List (Item L)) (c : ℕ) (old mid new : List TraceNode) (before between after : TableView) →
      AsksItems g m A xs c old mid before between → AsksItems g m A ys c mid new between after →
      AsksItems g m A (xs ++ ys) c old new before after
  asks_both xs ys c old mid new before between after f h = record {
    nodes = extends_both old mid new (λ k. SomeItem g m A xs (λ r j. ItemLeads g m A r j k))
        (λ k. SomeItem g m A ys (λ r j. ItemLeads g m A r j k)) (λ k. SomeItem g m A (xs ++ ys) (λ r j. ItemLeads g m A r j k))
        (λ k. some_both xs ys (λ r j. ItemLeads g m A r j k)) f.nodes h.nodes;
    gains = table_gains_both (λ n. ByNumber g (λ x. SomeItem g m A xs (λ r j. ItemAdds g m A r j n x)))
        (λ n. ByNumber g (λ x. SomeItem g m A ys (λ r j. ItemAdds g m A r j n x)))
        (λ n. ByNumber g (λ x. SomeItem g m A (xs ++ ys) (λ r j. ItemAdds g m A r j n x)))
        (λ n. SomeItem g m A xs (λ r j. ItemEnters g m A r j n)) (λ n. SomeItem g m A ys (λ r j. ItemEnters g m A r j n))
        (λ n. SomeItem g m A (xs ++ ys) (λ r j. ItemEnters g m A r j n)) NotesNothing NotesNothing NotesNothing c before between after
        (λ n k. (
          λ w. ⊎_elim (λ d. inl (w.0, d)) (λ d. inr (w.0, d)) ((some_both xs ys (λ r j. ItemAdds g m A r j n (next_of_number g.terminals k))).0 w.1),
          λ w. ⊎_elim
              (λ d. (d.0, (some_both xs ys (λ r j. ItemAdds g m A r j n (next_of_number g.terminals k))).1 (inl d.1)))
              (λ d. (d.0, (some_both xs ys (λ r j. ItemAdds g m A r j n (next_of_number g.terminals k))).1 (inr d.1))) w,
        ))
        (λ n. some_both xs ys (λ r j. ItemEnters g m A r j n)) (λ k n. (λ w. inl w, λ w. ⊎_elim (λ z. z) (λ z. z) w)) f.gains h.gains;
  }

  -- one item alone, by what it does
  one_alone : (item : Item L) (Says : theory.Production → ℕ → Type 0) →
      Says (production_view item.production.now) item.index ↔ SomeItem g m A (item ∷ []) Says
  one_alone item Says = (
    λ d. (item, contains_here item [], d),
    λ h. ⊎_elim
        (λ e. subst (λ (i : Item L). Says (production_view i.production.now) i.index) (sym e) h.2)
        (λ d. absurd (no_element h.0 d)) (contains_split item h.0 [] h.1),
  )

  pub asks_one : (item : Item L) (c : ℕ) (old new : List TraceNode) (before after : TableView) →
      ExtendsNodes old new (λ k. ItemLeads g m A (production_view item.production.now) item.index k) →
      TableGains (λ n. ByNumber g (ItemAdds g m A (production_view item.production.now) item.index n))
      (ItemEnters g m A (production_view item.production.now) item.index) NotesNothing c before after →
      AsksItems g m A (item ∷ []) c old new before after
  asks_one item c old new before after nodes gains =
      let r = production_view item.production.now in
      let j = item.index in
      record {
        nodes = extends_alike old new (λ k. ItemLeads g m A r j k) (λ k. SomeItem g m A (item ∷ []) (λ q i. ItemLeads g m A q i k))
            (λ k. one_alone item (λ q i. ItemLeads g m A q i k)) nodes;
        gains = table_gains_alike (λ n. ByNumber g (ItemAdds g m A r j n))
            (λ n. ByNumber g (λ x. SomeItem g m A (item ∷ []) (λ q i. ItemAdds g m A q i n x))) (ItemEnters g m A r j)
            (λ n. SomeItem g m A (item ∷ []) (λ q i. ItemEnters g m A q i n)) NotesNothing NotesNothing c before after
            (λ n k. (
              λ w. (w.0, (one_alone item (λ q i. ItemAdds g m A q i n (next_of_number g.terminals k))).0 w.1),
              λ w. (w.0, (one_alone item (λ q i. ItemAdds g m A q i n (next_of_number g.terminals k))).1 w.1),
            ))
            (λ n. one_alone item (λ q i. ItemEnters g m A q i n)) (λ k n. (λ w. w, λ w. w)) gains;
      }

-- an item whose dot doesn't stand before the nonterminal
pub asks_other : {L : Type 0} (g : Grammar) (m : ℕ) (A : NonterminalString) (item : Item L) (c : ℕ) (nodes : List TraceNode)
    (table : TableView) → (slice_get item.production.now.symbols item.index ≡ Some (symbols.Nonterminal A) → ⊥) →
    AsksItems g m A.0 (item ∷ []) c nodes nodes table table
asks_other g m A item c nodes table other =
    let r = production_view item.production.now in
    let j = item.index in
    asks_one g m A.0 item c nodes nodes table table
    (extends_none nodes (λ k. ItemLeads g m A.0 r j k) (λ k h. other (at_seen item.production.now.symbols j A h.0 h.1)))
    (table_gains_none (λ n. ByNumber g (ItemAdds g m A.0 r j n)) (ItemEnters g m A.0 r j) NotesNothing c table
    (λ n k h. other (at_seen item.production.now.symbols j A h.1.1.0 h.1.1.2))
    (λ n h. other (at_seen item.production.now.symbols j A h.1.0 h.1.1)) (λ k n h. h))

module _ {L : Type 0} (g : Grammar) (numbered : IsTerminalSet g.terminals) (m : ℕ) (A : NonterminalString) (item : Item L)
    (at : slice_get item.production.now.symbols item.index ≡ Some (symbols.Nonterminal A)) (first rest : List ℕ) (ends : Bool)
    (is_first : IsFirstSet g (map production_symbol_view (drop (item.index + 1) item.production.now.symbols)) first)
    (was : ends ≡ has first (eof_number g.terminals))
    (gone : (k : ℕ) → has rest k ≡ (not (nat_eq k (eof_number g.terminals)) && has first k)) where
  abbrev right : theory.Production
  right = production_view item.production.now

  abbrev behind : List theory.Symbol
  behind = map production_symbol_view (drop (item.index + 1) item.production.now.symbols)

  stands : drop item.index right.right ≡ theory.nonterminal A.0 ∷ behind
  stands = seen_at item.production.now.symbols item.index A at

  -- what stands behind is one
  behind_is : (b : List theory.Symbol) → drop item.index right.right ≡ theory.nonterminal A.0 ∷ b → b ≡ behind
  behind_is b e = let z : theory.nonterminal A.0 ∷ b ≡ theory.nonterminal A.0 ∷ behind = sym e ∙ stands in cc

  end : ℕ
  end = eof_number g.terminals

  none_is_end : next_of_number g.terminals (eof_number g.terminals) ≡ None
  none_is_end = end_is_none g.terminals numbered

  -- the tokens but the end
  rest_is : (k : ℕ) → (has rest k ≡ true)
      ↔ ((k ≤ eof_number g.terminals) × ((t : Terminal) × (next_of_number g.terminals k ≡ Some t) × First0 (IsProductionOf g) behind (Some t)))
  rest_is k = (λ h. there (nat_eq k (eof_number g.terminals)) refl (sym (gone k) ∙ h), back)
    where
      split : (x : theory.Next) → next_of_number g.terminals k ≡ x → (k ≡ eof_number g.terminals → ⊥) → k ≤ eof_number g.terminals →
          First0 (IsProductionOf g) behind (next_of_number g.terminals k) →
          (t : Terminal) × (next_of_number g.terminals k ≡ Some t) × First0 (IsProductionOf g) behind (Some t)
      split None e other small f = absurd (other (same_next g.terminals numbered k (eof_number g.terminals) small (omega arith) (e ∙ sym none_is_end)))
      split (Some t) e other small f = (t, e, subst (First0 (IsProductionOf g) behind) e f)

      there : (b : Bool) → nat_eq k (eof_number g.terminals) ≡ b → (not b && has first k) ≡ true →
          (k ≤ eof_number g.terminals) × ((t : Terminal) × (next_of_number g.terminals k ≡ Some t) × First0 (IsProductionOf g) behind (Some t))
      there true e h = let w : ⊥ = cc in absurd w
      there false e h =
          let f : (k ≤ eof_number g.terminals) × First0 (IsProductionOf g) behind (next_of_number g.terminals k) = (is_first k).0 h in (
            f.0,
            split (next_of_number g.terminals k) refl
                (λ z. let y : nat_eq k (eof_number g.terminals) ≡ true = (Decides-eqb k (eof_number g.terminals)).1 z in let w : ⊥ = cc in w) f.0 f.1,
          )

      kept : (b : Bool) → nat_eq k (eof_number g.terminals) ≡ b → (k ≡ eof_number g.terminals → ⊥) → has first k ≡ true →
          (not b && has first k) ≡ true
      kept true e other h = absurd (other ((Decides-eqb k (eof_number g.terminals)).0 e))
      kept false e other h = h

      back : (k ≤ eof_number g.terminals) × ((t : Terminal) × (next_of_number g.terminals k ≡ Some t) × First0 (IsProductionOf g) behind (Some t)) →
          has rest k ≡ true
      back h =
          let other : k ≡ eof_number g.terminals → ⊥ =
          λ z. none_some h.1.0 (sym none_is_end ∙ ap (next_of_number g.terminals) (sym z) ∙ h.1.1) in
          let in_first : has first k ≡ true =
          (is_first k).1 (h.0, subst (First0 (IsProductionOf g) behind) (sym h.1.1) h.1.2) in
          gone k ∙ kept (nat_eq k (eof_number g.terminals)) refl other in_first

  -- the table gains what the item adds
  pub asks_gains : (c : ℕ) (before after : TableView) → TableGains (AddsTokens m rest) (EntersAt m) NotesNothing c before after →
      TableGains (λ n. ByNumber g (ItemAdds g m A.0 right item.index n)) (ItemEnters g m A.0 right item.index) NotesNothing c before after
  asks_gains c before after gains =
      table_gains_alike (AddsTokens m rest) (λ n. ByNumber g (ItemAdds g m A.0 right item.index n)) (EntersAt m)
      (ItemEnters g m A.0 right item.index) NotesNothing NotesNothing c before after
      (λ n k. (
        λ h. let r = (rest_is k).0 h.1 in (r.0, (h.0, (behind, r.1.0, stands, r.1.1, r.1.2))),
        λ h. (h.1.0, (rest_is k).1 (h.0, (h.1.1.1, h.1.1.3, subst (λ b. First0 (IsProductionOf g) b (Some h.1.1.1)) (behind_is h.1.1.0 h.1.1.2) h.1.1.4))),
      ))
      (λ n. (λ h. (h, (behind, stands)), λ h. h.0)) (λ k n. (λ h. h, λ h. h)) gains

  -- the item is come to where nothing may come behind, and only there
  pub asks_ends : (old new : List TraceNode) → ends ≡ true → ExtendsNodes old new (λ k. k ≡ node_of_item m right item.index) →
      ExtendsNodes old new (λ k. ItemLeads g m A.0 right item.index k)
  asks_ends old new ended ext =
      extends_alike old new (λ k. k ≡ node_of_item m right item.index) (λ k. ItemLeads g m A.0 right item.index k)
      (λ k. (λ h. (behind, stands, nothing, h), λ h. h.3)) ext
    where
      nothing : First0 (IsProductionOf g) behind None
      nothing = subst (First0 (IsProductionOf g) behind) none_is_end ((is_first (eof_number g.terminals)).0 (sym was ∙ ended)).1

  pub asks_goes_on : (nodes : List TraceNode) → ends ≡ false → ExtendsNodes nodes nodes (λ k. ItemLeads g m A.0 right item.index k)
  asks_goes_on nodes goes =
      extends_none nodes (λ k. ItemLeads g m A.0 right item.index k) (λ k h.
      let first_end : First0 (IsProductionOf g) behind (next_of_number g.terminals (eof_number g.terminals)) =
      subst (First0 (IsProductionOf g) behind) (sym none_is_end)
      (subst (λ b. First0 (IsProductionOf g) b None) (behind_is h.0 h.1) h.2) in
      let z : has first (eof_number g.terminals) ≡ true = (is_first (eof_number g.terminals)).1 (omega arith, first_end) in
      let w : true ≡ false = sym z ∙ sym was ∙ goes in let v : ⊥ = cc in v)

-- an item of a state is one that is seen there, and the other way round
pub item_seen : {L : Type 0} (look : L → states.LookaheadSet) (all : List (State L)) (n : ℕ) (state : State L) (item : Item L) →
    slice_get all n ≡ Some state → Contains state.items.vec item →
    states.HasItem (map (lr_state_view look) all) n (production_view item.production.now) item.index
item_seen look all n state item at there = record {
  state = lr_state_view look state;
  lookahead = look item.lookahead;
  at = mapped_at (lr_state_view look) all n state at;
  held = map_has (lr_item_view look) state.items.vec item there;
}
  where
    mapped_at : {X Y : Type 0} (f : X → Y) (xs : List X) (k : ℕ) (x : X) → slice_get xs k ≡ Some x → slice_get (map f xs) k ≡ Some (f x)
    mapped_at f [] k x e = let w : ⊥ = cc in absurd w
    mapped_at f (y ∷ xs) zero x e = ap (λ z. Some (f z)) (some_same y x e)
    mapped_at f (y ∷ xs) (suc k) x e = mapped_at f xs k x e

pub seen_item : {L : Type 0} (look : L → states.LookaheadSet) (all : List (State L)) (n : ℕ) (r : theory.Production) (j : ℕ) →
    states.HasItem (map (lr_state_view look) all) n r j →
    (state : State L) × (item : Item L) × (slice_get all n ≡ Some state) × Contains state.items.vec item
    × (production_view item.production.now ≡ r) × (item.index ≡ j)
seen_item {L = L} look all n r j h =
    let s : (state : State L) × (slice_get all n ≡ Some state) × (lr_state_view look state ≡ h.state) =
    at_mapped all n h.state h.at in
    let e : (item : Item L) × Contains s.0.items.vec item × (lr_item_view look item ≡ record { production = r; dot = j; lookahead = h.lookahead }) =
    in_map (lr_item_view look) s.0.items.vec (record { production = r; dot = j; lookahead = h.lookahead })
    (subst (λ (v : states.State). Contains v.items (record { production = r; dot = j; lookahead = h.lookahead })) (sym s.2) h.held) in
    (s.0, e.0, s.1, e.1, ap (λ (v : states.Item). v.production) e.2, ap (λ (v : states.Item). v.dot) e.2)
  where
    at_mapped : (xs : List (State L)) (k : ℕ) (y : states.State) → slice_get (map (lr_state_view look) xs) k ≡ Some y →
        (x : State L) × (slice_get xs k ≡ Some x) × (lr_state_view look x ≡ y)
    at_mapped [] k y e = let w : ⊥ = cc in absurd w
    at_mapped (x ∷ xs) zero y e = (x, refl, some_same (lr_state_view look x) y e)
    at_mapped (x ∷ xs) (suc k) y e = at_mapped xs k y e
