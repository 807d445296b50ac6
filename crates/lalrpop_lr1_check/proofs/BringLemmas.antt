-- What states bring, list by list and as the theory sees it: for the test of what names bring.
use Rattle.std.proofs.Common.{◌≡◌, ◌↔◌, ℕ, zero, suc, List, [], map, refl}
use Rattle.std.proofs.Common.{sym, ap, subst, arith, Contains}
use Rattle.std.proofs.Common.{Option, None, Some, Bool, slice_get, ⊎_elim, ◌<◌, length}
use Rattle.std.specs.Prelude.{flat_map}
use Rattle.std.proofs.lemmas.Option.{slice_get_within}
use Rattle.std.proofs.lemmas.List.Elements.{Contains-append_cases, Contains-append_left, Contains-append_right}
use Rattle.lalrpop_grammar_symbols.specs.Symbols.{Text}
use Rattle.lalrpop_grammar_symbols.specs.Views.{terminal_view}
use Rattle.lalrpop_lr1_theory.specs.Productions as theory
use Rattle.lalrpop_lr1_theory.specs.States as states
use Rattle.lalrpop_lr1_theory.proofs.ListLemmas.{contains_get, get_contains}
use Rattle.lalrpop_lr1_theory.specs.NameClosures.{BeginsWithName, IsMovedItem, IsNameBehindDot}
use Rattle.lalrpop_lr1_theory.specs.NameClosures.{IsNameBrought, IsNameFrom}
use Rattle.lalrpop_lr1_theory.specs.NameClosures.{seeded, stepped}
use Rattle.lalrpop_lr1_core.specs.Views.{goto_view, lr_item_view, lr_state_view, shift_view}
use Rattle.lalrpop_lr1_core.specs.declared.item.Item.{Item}
use Rattle.lalrpop_lr1_core.specs.declared.state.State.{State}
use Rattle.lalrpop_lr1_core.proofs.MemberLemmas.{in_map, map_has}
use Rattle.lalrpop_lr1_core.proofs.NoConflictLemmas.{at_mapped, mapped_at}
use Rattle.lalrpop_lr1_core.proofs.GraphLemmas.{in_flat}
use Rattle.lalrpop_lr1_barren.specs.Clauses.{IsMarked}
use Rattle.lalrpop_lr1_check_lookaheads.specs.CheckedTests.{HasClosureItems}
use Rattle.lalrpop_lr1_check_lookaheads.specs.ListTests.{HoldsAtEach}
use Rattle.lalrpop_lr1_theory.proofs.NameLemmas.{no_element}
use Rattle.lalrpop_lr1_check.specs.ClosureItemTests.{HasStartClosure, HasOwnClosure, HasOwnClosureIfMarked, TargetsBringOwn}
use Rattle.lalrpop_lr1_check.specs.ClosureItemTests.{items_in_state}
use Rattle.lalrpop_lr1_check.specs.ClosureItemTests.{items_or_none}
use Rattle.lalrpop_lr1_check.specs.EdgeTargets.{goto_target, shift_target, targets_of_state}
use Rattle.lalrpop_lr1_check.specs.NamesBehind.{HasSeenItem}
use Rattle.lalrpop_lr1_core.proofs.GraphLemmas.{flat_has}

-- names from a larger seed, and names that more items bring
name_from_more : (G : theory.Production → Type 0) (Seed More : Text → Type 0) → ((A : Text) → Seed A → More A) → {A : Text} →
    IsNameFrom Seed (BeginsWithName G) A → IsNameFrom More (BeginsWithName G) A
name_from_more G Seed More f (seeded A h) = seeded A (f A h)
name_from_more G Seed More f (stepped B h k) = stepped B (name_from_more G Seed More f h) k

brought_more : (G : theory.Production → Type 0) (One Other : theory.Production → ℕ → Type 0) →
    ((p : theory.Production) (i : ℕ) → One p i → Other p i) → (A : Text) → IsNameBrought G (IsMovedItem One) A →
    IsNameBrought G (IsMovedItem Other) A
brought_more G One Other f A h =
    name_from_more G (IsNameBehindDot (IsMovedItem One)) (IsNameBehindDot (IsMovedItem Other)) (λ B b. record {
      production = b.production;
      dot = b.dot;
      rest = b.rest;
      item = (b.item.0, b.item.1, f b.production b.dot b.item.2);
      before = b.before;
    }) h

-- no item brings nothing
no_name_brought : (G : theory.Production → Type 0) (Seed : Text → Type 0) → ((A : Text) → Seed A → ⊥) → {A : Text} →
    IsNameFrom Seed (BeginsWithName G) A → ⊥
no_name_brought G Seed none (seeded A h) = none A h
no_name_brought G Seed none (stepped B h k) = no_name_brought G Seed none h

module _ {L : Type 0} where
  abbrev none : List (Item L)
  none = []

  brings_none : (G : theory.Production → Type 0) → HasOwnClosure G none
  brings_none G q = (
    λ h. absurd (no_element h.item h.listed),
    λ h. absurd (no_name_brought G (IsNameBehindDot (IsMovedItem (HasSeenItem none)))
        (λ A b. no_element b.item.2.item b.item.2.listed) h.1),
  )

module _ {L : Type 0} (look : L → states.LookaheadSet) (all : List (State L)) where
  abbrev seen : List states.State
  seen = map (lr_state_view look) all

  abbrev Has : ℕ → theory.Production → ℕ → Type 0
  Has = states.HasItem seen

  abbrev Edge : ℕ → theory.Symbol → ℕ → Type 0
  Edge = states.HasEdge seen

  abbrev Own : ℕ → theory.Production → ℕ → Type 0
  Own n = HasSeenItem (items_in_state all n)

  -- an item of a state is one of the state's list
  has_own : (n : ℕ) (q : theory.Production) (i : ℕ) → Has n q i → Own n q i
  has_own n q i h =
      let s = at_mapped (lr_state_view look) all n h.state h.at in
      let held = subst (λ (v : states.State). Contains v.items (record { production = q; dot = i; lookahead = h.lookahead })) (sym s.2)
      h.held in
      let m = in_map (lr_item_view look) s.0.items.vec (record { production = q; dot = i; lookahead = h.lookahead }) held in
      record {
        item = m.0;
        listed = subst (λ o. Contains (items_or_none o) m.0) (sym s.1) m.1;
        production = ap (λ (v : states.Item). v.production) m.2;
        dot = ap (λ (v : states.Item). v.dot) m.2;
      }

  own_has : (n : ℕ) (q : theory.Production) (i : ℕ) → Own n q i → Has n q i
  own_has n q i h = go (slice_get all n) refl h
    where
      go : (o : Option (State L)) → slice_get all n ≡ o → HasSeenItem (items_or_none o) q i → Has n q i
      go None e g = absurd (no_element g.item g.listed)
      go (Some s) e g = record {
        state = lr_state_view look s;
        lookahead = look g.item.lookahead;
        at = mapped_at (lr_state_view look) all n s e;
        held = subst (λ j. Contains (map (lr_item_view look) s.items.vec) (record {
          production = q;
          dot = j;
          lookahead = look g.item.lookahead;
        })) g.dot (subst (λ v. Contains (map (lr_item_view look) s.items.vec) (record {
          production = v;
          dot = g.item.index;
          lookahead = look g.item.lookahead;
        })) g.production (map_has (lr_item_view look) s.items.vec g.item g.listed));
      }

  -- an edge leads to a state that is told as a target, and the other way round
  edge_target : (n : ℕ) (X : theory.Symbol) (m : ℕ) → Edge n X m → Contains (flat_map targets_of_state all) m
  edge_target n (theory.terminal t) m h =
      let s = at_mapped (lr_state_view look) all n h.0 h.1 in
      let held = subst (λ (v : states.State). Contains v.shifts (t, m)) (sym s.2) h.2 in
      let e = in_map shift_view s.0.shifts (t, m) held in
      let there = subst (Contains (map shift_target s.0.shifts)) (ap (λ p. p.1) e.2) (map_has shift_target s.0.shifts e.0 e.1) in
      flat_has targets_of_state all s.0 m (get_contains all n s.0 s.1)
      (Contains-append_left (map shift_target s.0.shifts) (map goto_target s.0.gotos) m there)
  edge_target n (theory.nonterminal A) m h =
      let s = at_mapped (lr_state_view look) all n h.0 h.1 in
      let held = subst (λ (v : states.State). Contains v.gotos (A, m)) (sym s.2) h.2 in
      let e = in_map goto_view s.0.gotos (A, m) held in
      let there = subst (Contains (map goto_target s.0.gotos)) (ap (λ p. p.1) e.2) (map_has goto_target s.0.gotos e.0 e.1) in
      flat_has targets_of_state all s.0 m (get_contains all n s.0 s.1)
      (Contains-append_right (map shift_target s.0.shifts) (map goto_target s.0.gotos) m there)

  target_edge : (m : ℕ) → Contains (flat_map targets_of_state all) m → (n : ℕ) × (X : theory.Symbol) × Edge n X m
  target_edge m c =
      let r = in_flat targets_of_state all m c in
      let k = contains_get all r.0 r.1 in
      ⊎_elim (by_shift k.0 r.0 k.1) (by_goto k.0 r.0 k.1)
      (Contains-append_cases (map shift_target r.0.shifts) (map goto_target r.0.gotos) m r.2)
    where
      by_shift : (n : ℕ) (s : State L) → slice_get all n ≡ Some s → Contains (map shift_target s.shifts) m →
          (n : ℕ) × (X : theory.Symbol) × Edge n X m
      by_shift n s at d =
          let e = in_map shift_target s.shifts m d in (
            n,
            theory.terminal (terminal_view e.0.0),
            (
              lr_state_view look s,
              mapped_at (lr_state_view look) all n s at,
              subst (λ j. Contains (map shift_view s.shifts) (terminal_view e.0.0, j)) e.2 (map_has shift_view s.shifts e.0 e.1),
            ),
          )

      by_goto : (n : ℕ) (s : State L) → slice_get all n ≡ Some s → Contains (map goto_target s.gotos) m →
          (n : ℕ) × (X : theory.Symbol) × Edge n X m
      by_goto n s at d =
          let e = in_map goto_target s.gotos m d in (
            n,
            theory.nonterminal e.0.0.0,
            (
              lr_state_view look s,
              mapped_at (lr_state_view look) all n s at,
              subst (λ j. Contains (map goto_view s.gotos) (e.0.0.0, j)) e.2 (map_has goto_view s.gotos e.0 e.1),
            ),
          )

  module _ (G : theory.Production → Type 0) (S : Text) where
    -- the state's own list, whether or not the state is there
    own_brings : (n : ℕ) → ((s : State L) → slice_get all n ≡ Some s → HasOwnClosure G s.items.vec) →
        HasOwnClosure G (items_in_state all n)
    own_brings n h = go (slice_get all n) refl
      where
        go : (o : Option (State L)) → slice_get all n ≡ o → HasOwnClosure G (items_or_none o)
        go None e = brings_none G
        go (Some s) e = h s e

    -- list by list, and so as it is seen
    pub brings_seen : HasStartClosure G S (items_in_state all 0) → TargetsBringOwn G all → HasClosureItems G S Has Edge
    brings_seen first own = record {
      unmoved_start = λ p i h.
          let o = has_own 0 p (suc i) h in
          let k = contains_get (items_in_state all 0) o.item o.listed in
          absurd (omega (arith, first.unmoved k.0 o.item k.1, o.dot));
      start_brings = λ q. (λ h. (first.brought q).0 (has_own 0 q 0 h), λ h. own_has 0 q 0 ((first.brought q).1 h));
      moved_bring = λ n X m e.
          let at_m = own_brings m (λ s at. own m s at (edge_target n X m e)) in
          λ q. (
            λ h. let r = (at_m q).0 (has_own m q 0 h) in (r.0, brought_more G (Own m) (Has m) (own_has m) q.left r.1),
            λ h. own_has m q 0 ((at_m q).1 (h.0, brought_more G (Has m) (Own m) (has_own m) q.left h.1)),
          );
    }

    -- as it is seen, and so list by list
    pub seen_first : HasClosureItems G S Has Edge → HasStartClosure G S (items_in_state all 0)
    seen_first b = record {
      unmoved = λ k item e. unmoved item (get_contains (items_in_state all 0) k item e);
      brought = λ q. (λ h. (b.start_brings q).0 (own_has 0 q 0 h), λ h. has_own 0 q 0 ((b.start_brings q).1 h));
    }
      where
        unmoved : (item : Item L) → Contains (items_in_state all 0) item → item.index ≡ 0
        unmoved item c = go item.index refl
          where
            go : (i : ℕ) → item.index ≡ i → item.index ≡ 0
            go zero e = e
            go (suc j) e = absurd (b.unmoved_start _ j (own_has 0 _ (suc j) (record {
              item = item;
              listed = c;
              production = refl;
              dot = e;
            })))

    pub seen_targets : HasClosureItems G S Has Edge → TargetsBringOwn G all
    seen_targets b m s at c =
        let t = target_edge m c in
        let told = b.moved_bring t.0 t.1 m t.2 in
        let own : HasOwnClosure G (items_in_state all m) = λ q. (
          λ h. let r = (told q).0 (own_has m q 0 h) in (r.0, brought_more G (Has m) (Own m) (has_own m) q.left r.1),
          λ h. has_own m q 0 ((told q).1 (h.0, brought_more G (Own m) (Has m) (own_has m) q.left h.1)),
        ) in
        subst (λ o. HasOwnClosure G (items_or_none o)) at own

-- the test by marks of targets
module _ {L : Type 0} (G : theory.Production → Type 0) (all : List (State L)) (targets : List Bool)
    (told : (m : ℕ) → IsMarked targets m ↔ ((m < length all) × Contains (flat_map targets_of_state all) m)) where
  pub marked_bring : HoldsAtEach (HasOwnClosureIfMarked G targets) all → TargetsBringOwn G all
  marked_bring each n s at c = each n s at ((told n).1 (slice_get_within all n s at, c))

  pub bring_marked : TargetsBringOwn G all → HoldsAtEach (HasOwnClosureIfMarked G targets) all
  bring_marked own n s at m = own n s at ((told n).0 m).1
