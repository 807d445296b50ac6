-- Items of a nonterminal with the dot in front: the end for the start, and the items that are asked for the nonterminal, are its node's steps.
use Rattle.std.proofs.Common.{◌≡◌, ◌∙◌, ◌↔◌, ◌≤◌, ◌||◌, ℕ, Bool, true, false, List, [], ◌∷◌, refl, sym, ap, subst, inl, inr, ⊎_elim, arith}
use Rattle.std.proofs.Common.{Contains, None, nat_eq}
use Rattle.std.proofs.lemmas.Bool.Decides.{Decides-eqb}
use Rattle.lalrpop_grammar_symbols.specs.Symbols.{Text}
use Rattle.lalrpop_grammar_repr.specs.declared.grammar.Grammar.{Grammar}
use Rattle.lalrpop_lr1_theory.specs.Productions as theory
use Rattle.lalrpop_lr1_theory.specs.States as states
use Rattle.lalrpop_sets.specs.AscendingLists.{has}
use Rattle.lalrpop_sets.specs.Tokens.{eof_number}
use Rattle.lalrpop_lr1_core.specs.Views.{next_of_number, production_view}
use Rattle.lalrpop_lr1_core.specs.declared.item.Item.{Item}
use Rattle.lalrpop_lr1_core.specs.declared.state.State.{State}
use Rattle.lalrpop_lr1_first.specs.FirstSetsOf.{IsProductionOf}
use Rattle.lalrpop_lr1_first.specs.Tables.{IsTerminalSet}
use Rattle.lalrpop_lr1_first.proofs.TableLemmas.{end_is_none, same_next}
use Rattle.lalrpop_lane_tables.specs.LaneTraces.{AddsEnd, AsksItems, ByNumber, IsItemIn, ItemAdds, ItemEnters, ItemLeads, SomeItem, TakesSteps}
use Rattle.lalrpop_lane_tables.specs.LaneTraces.{TracedEdge, TracedItem}
use Rattle.lalrpop_lane_tables.specs.TableGains.{AddsTokens, EntersAt, NotesNothing, TableGains}
use Rattle.lalrpop_lane_tables.specs.TableViews.{TableView}
use Rattle.lalrpop_lane_tables.specs.TraceNodes.{NodeAdds, NodeEnters, NodeLeads, NodeNotes, TraceNode}
use Rattle.lalrpop_lane_tables.specs.TraceNodes.{front_node}
use Rattle.lalrpop_lane_tables.proofs.AskLemmas.{item_seen, seen_item}
use Rattle.lalrpop_lane_tables.proofs.TableGainLemmas.{table_gains_alike, table_gains_both, table_gains_none}
use Rattle.lalrpop_lane_tables.proofs.TraceLemmas.{extends_alike}

module _ (g : Grammar) (numbered : IsTerminalSet g.terminals) (s : Text) (m : ℕ) (A : Text) where
  -- the end alone
  end_alone : (k : ℕ) → (has (eof_number g.terminals ∷ []) k ≡ true) ↔ ((k ≤ eof_number g.terminals) × (next_of_number g.terminals k ≡ None))
  end_alone k = (λ h. there (nat_eq (eof_number g.terminals) k) refl h, λ h. back h)
    where
      there : (b : Bool) → nat_eq (eof_number g.terminals) k ≡ b → (b || false) ≡ true →
          (k ≤ eof_number g.terminals) × (next_of_number g.terminals k ≡ None)
      there true e h =
          let same : eof_number g.terminals ≡ k = (Decides-eqb (eof_number g.terminals) k).0 e in
          (omega (arith, same), ap (next_of_number g.terminals) (sym same) ∙ end_is_none g.terminals numbered)
      there false e h = let w : ⊥ = cc in absurd w

      back : (k ≤ eof_number g.terminals) × (next_of_number g.terminals k ≡ None) → has (eof_number g.terminals ∷ []) k ≡ true
      back h =
          let same : k ≡ eof_number g.terminals =
          same_next g.terminals numbered k (eof_number g.terminals) h.0 (omega arith) (h.1 ∙ sym (end_is_none g.terminals numbered)) in
          ap (λ b. b || false) ((Decides-eqb (eof_number g.terminals) k).1 (sym same))

  pub end_added : (c : ℕ) (before after : TableView) → A ≡ s →
      TableGains (AddsTokens m (eof_number g.terminals ∷ [])) (EntersAt m) NotesNothing c before after → AddsEnd g s m A c before after
  end_added c before after is gains = record {
    gains = table_gains_alike (AddsTokens m (eof_number g.terminals ∷ [])) (λ n. ByNumber g (λ x. (n ≡ m) × ((A ≡ s) × (x ≡ None))))
        (EntersAt m) (λ n. (n ≡ m) × (A ≡ s)) NotesNothing NotesNothing c before after
        (λ n k. (λ h. let e = (end_alone k).0 h.1 in (e.0, (h.0, (is, e.1))), λ h. (h.1.0, (end_alone k).1 (h.0, h.1.1.1))))
        (λ n. (λ h. (h, is), λ h. h.0)) (λ k n. (λ h. h, λ h. h)) gains;
  }

  pub end_not_added : (c : ℕ) (table : TableView) → (A ≡ s → ⊥) → AddsEnd g s m A c table table
  end_not_added c table other = record {
    gains = table_gains_none (λ n. ByNumber g (λ x. (n ≡ m) × ((A ≡ s) × (x ≡ None)))) (λ n. (n ≡ m) × (A ≡ s)) NotesNothing c table
        (λ n k h. other h.1.1.0) (λ n h. other h.1) (λ k n h. h);
  }

-- both together are what the node does
module _ {L : Type 0} (look : L → states.LookaheadSet) (g : Grammar) (s : Text) (all : List (State L)) (m : ℕ) (A : Text)
    (items : List (Item L)) (are : (item : Item L) → Contains items item ↔ IsItemIn all m item) where
  stands_some : (Says : theory.Production → ℕ → Type 0) →
      ((r : theory.Production) × (j : ℕ) × TracedItem look g s all m r j × Says r j) ↔ SomeItem g m A items Says
  stands_some Says = (
    λ h. let i = seen_item look all m h.0 h.1 h.2 in
        (i.1, (are i.1).1 (i.0, i.2, i.3), subst (λ q. Says q i.1.index) (sym i.4) (subst (Says h.0) (sym i.5) h.3)),
    λ h. let i = (are h.0).0 h.1 in
        (production_view h.0.production.now, h.0.index, item_seen look all m i.0 h.0 i.1 i.2, h.2),
  )

  pub front_steps : (c : ℕ) (old new : List TraceNode) (before mid after : TableView) → AddsEnd g s m A c before mid →
      AsksItems g m A items c old new mid after → TakesSteps look g s all (front_node m A) c old new before after
  front_steps c old new before mid after end asked = record {
    nodes = extends_alike old new (λ k. SomeItem g m A items (λ r j. ItemLeads g m A r j k))
        (NodeLeads (IsProductionOf g) s (TracedItem look g s all) (TracedEdge look g s all) (front_node m A))
        (λ k. (
          λ h. let i = (stands_some (λ r j. ItemLeads g m A r j k)).1 h in
              (i.0, i.1, i.3.0, record { item = i.2; before = i.3.1 }, i.3.2, i.3.3),
          λ h. (stands_some (λ r j. ItemLeads g m A r j k)).0 (h.0, h.1, h.3.item, (h.2, h.3.before, h.4, h.5)),
        )) asked.nodes;
    gains = table_gains_both (λ n. ByNumber g (λ x. (n ≡ m) × ((A ≡ s) × (x ≡ None))))
        (λ n. ByNumber g (λ x. SomeItem g m A items (λ r j. ItemAdds g m A r j n x)))
        (λ n. ByNumber g (NodeAdds (IsProductionOf g) s (TracedItem look g s all) (TracedEdge look g s all) (front_node m A) n))
        (λ n. (n ≡ m) × (A ≡ s)) (λ n. SomeItem g m A items (λ r j. ItemEnters g m A r j n))
        (NodeEnters (IsProductionOf g) s (TracedItem look g s all) (TracedEdge look g s all) (front_node m A)) NotesNothing NotesNothing
        (NodeNotes (IsProductionOf g) s (TracedItem look g s all) (TracedEdge look g s all) (front_node m A)) c before mid after
        (λ n k. (
          λ h. ⊎_elim
              (λ e. inl (h.0, (h.1.0, e)))
              (λ a. inr (
                h.0,
                (stands_some (λ r j. ItemAdds g m A r j n (next_of_number g.terminals k))).0
                    (a.production, a.dot, a.stands.item, (h.1.0, (a.rest, a.terminal_of, a.stands.before, a.is, a.first))),
              )) h.1.1,
          λ h. ⊎_elim
              (λ e. (e.0, (e.1.0, inl e.1.1)))
              (λ a. let i = (stands_some (λ r j. ItemAdds g m A r j n (next_of_number g.terminals k))).1 a.1 in (
                a.0,
                (
                  i.3.0,
                  inr (record {
                    production = i.0;
                    dot = i.1;
                    rest = i.3.1.0;
                    terminal_of = i.3.1.1;
                    stands = record { item = i.2; before = i.3.1.2 };
                    is = i.3.1.3;
                    first = i.3.1.4;
                  }),
                ),
              )) h,
        ))
        (λ n. (
          λ h. ⊎_elim
              (λ e. inl (h.0, e))
              (λ a. inr ((stands_some (λ r j. ItemEnters g m A r j n)).0 (a.0, a.1, a.3.item, (h.0, (a.2, a.3.before))))) h.1,
          λ h. ⊎_elim
              (λ e. (e.0, inl e.1))
              (λ a. let i = (stands_some (λ r j. ItemEnters g m A r j n)).1 a in
              (i.3.0, inr (i.0, i.1, i.3.1.0, record { item = i.2; before = i.3.1.1 }))) h,
        ))
        (λ k n. (λ h. inl h, λ h. ⊎_elim (λ z. z) (λ z. z) h)) end.gains asked.gains;
  }
