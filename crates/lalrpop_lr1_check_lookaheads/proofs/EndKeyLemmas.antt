-- Ends that compare as equal have one key, and to which end a production leads from a slot: for what is carried to ends.
use Rattle.std.proofs.Common.{◌≡◌, ◌∙◌, ◌↔◌, ℕ, ◌<◌, ◌≤◌, List, [], Option, None, Some, length, map, sym, ap, subst}
use Rattle.std.proofs.Common.{arith, get_or, nat_eq, slice_get, true, false}
use Rattle.std.specs.List.{find, IsDistinct, list_any}
use Rattle.std.specs.Bool.{Decides}
use Rattle.std.specs.Cmp.Derive.{both_true}
use Rattle.std.proofs.lemmas.Bool.Decides.{Decides-eqb}
use Rattle.std.proofs.lemmas.Option.{slice_get_within}
use Rattle.lalrpop_grammar_repr.specs.declared.production.Production.{Production}
use Rattle.lalrpop_grammar_repr.proofs.EqualLemmas.{both_parts, same_productions}
use Rattle.lalrpop_lr1_theory.specs.PropagatedNexts.{LeadAlong}
use Rattle.lalrpop_lr1_theory.specs.States.{HasEdge, LookaheadSet}
use Rattle.lalrpop_lr1_theory.proofs.StepLemmas.{some_same}
use Rattle.lalrpop_lr1_core.specs.Views.{lr_state_view, production_symbol_view}
use Rattle.lalrpop_lr1_core.specs.declared.state.State.{State}
use Rattle.lalrpop_sets.specs.AscendingLists.{has}
use Rattle.lalrpop_lr1_first.specs.Numbers.{set_of_number}
use Rattle.lalrpop_lr1_first.proofs.ListLemmas.{at_read_set}
use Rattle.lalrpop_lr1_first.proofs.TableLemmas.{long_map}
use Rattle.lalrpop_lr1_check_lookaheads.specs.Ends.{BringsToEnd, EndKey, GainsEndMarks, SlotBringsToEnd, end_key_at, end_key, end_table}
use Rattle.lalrpop_lr1_check_lookaheads.specs.Ends.{AreEnds, HasEndMark}
use Rattle.lalrpop_lr1_check_lookaheads.specs.KeyedSets.{IsMarkIn, OfSome}
use Rattle.lalrpop_lr1_check_lookaheads.specs.LookaheadSlots.{SlotKey}
use Rattle.lalrpop_lr1_check_lookaheads.specs.contracts.lookaheads.ends.EndPartialEq.TheImpl as ends_eq
use Rattle.lalrpop_lr1_check_lookaheads.specs.declared.lookaheads.ends.End.{End}
use Rattle.lalrpop_lr1_check_lookaheads.specs.declared.lookaheads.ends.Ends.{Ends}
use Rattle.lalrpop_lr1_check_lookaheads.proofs.KeyedSetLemmas.{found_key, gains_as, gains_nothing, marks_nowhere, marks_there}

-- ends that compare as equal have one key
pub same_ends : (a b : End) → Decides ((ends_eq.ghosts).eq a b) (end_key a ≡ end_key b)
same_ends a b = (
  λ e.
      let p = both_parts (nat_eq a.state b.state) _ e in
      ap (λ n. end_key_at n a.production.now) ((Decides-eqb a.state b.state).0 p.0)
      ∙ ap (λ q. end_key_at b.state q) ((same_productions a.production.now b.production.now).0 p.1),
  λ e. both_true ((Decides-eqb a.state b.state).1 (ap (λ (k : EndKey). k.state) e))
      ((same_productions a.production.now b.production.now).1 (ap (λ (k : EndKey). k.production) e)),
)

-- the number of an end is that of its set, too
pub end_within : (ends : Ends) (n : ℕ) (end : End) → AreEnds ends → slice_get ends.keys.keys n ≡ Some end →
    n < length ends.sets.items
end_within ends n end are at =
    omega (arith, are, slice_get_within ends.keys.keys n end at, long_map end_key ends.keys.keys)

-- an end that isn't there has no tokens
pub none_has : (ends : Ends) (end : End) → list_any ((ends_eq.ghosts).eq end) ends.keys.keys ≡ false → (set : List ℕ) → set ≡ [] →
    (k : ℕ) → (has set k ≡ true) ↔ HasEndMark ends (end_key end) (Some k)
none_has ends end none set e k = (
  λ h. let z : has [] k ≡ true = subst (λ l. has l k ≡ true) e h in let w : ⊥ = cc in absurd w,
  λ h. absurd (marks_nowhere end_key (ends_eq.ghosts).eq same_ends ends.keys.keys ends.sets.items end none (Some k) h),
)

-- an end that is found has the tokens of the set at its number
pub found_has : (ends : Ends) (end found : End) (n : ℕ) (read set : List ℕ) → AreEnds ends →
    IsDistinct (ends_eq.ghosts).eq ends.keys.keys → slice_get ends.keys.keys n ≡ Some found →
    find ((ends_eq.ghosts).eq end) ends.keys.keys ≡ Some found → read ≡ get_or ends.sets.items n read → set ≡ read →
    (k : ℕ) → (has set k ≡ true) ↔ HasEndMark ends (end_key end) (Some k)
found_has ends end found n read set are apart at is_found is same k =
    let key = found_key end_key (ends_eq.ghosts).eq same_ends ends.keys.keys end found is_found in
    let marks = marks_there end_key (ends_eq.ghosts).eq same_ends ends.keys.keys ends.sets.items n end found apart at key (Some k) in
    let within = end_within ends n found are at in
    let whole : set ≡ set_of_number ends.sets.items n = same ∙ at_read_set ends.sets.items n read within is in (
      λ h. marks.0 (subst (λ l. has l k ≡ true) whole h),
      λ h. subst (λ l. has l k ≡ true) (sym whole) (marks.1 h),
    )

-- nothing is gained where nothing is brought
pub gains_none : (old : Ends) (Came : EndKey → Option ℕ → Type 0) → AreEnds old →
    ((end : EndKey) (mark : Option ℕ) → Came end mark → ⊥) → GainsEndMarks old old Came
gains_none old Came are none =
    gains_as (end_table old) (end_table old) (λ end mark. ⊥) Came (λ end mark. (λ (z : ⊥). absurd z, λ h. none end mark h))
    (gains_nothing (end_table old) are)

module _ (look : List ℕ → LookaheadSet) (states : List (State (List ℕ))) (from : SlotKey) (tokens : List ℕ) (p : Production)
    (o : Option ℕ)
    (walked : (m : ℕ) → (o ≡ Some m)
    ↔ LeadAlong (HasEdge (map (lr_state_view look) states)) (map production_symbol_view p.symbols) from.state m) where
  -- the production leads to no state
  pub ends_nowhere : o ≡ None → (end : EndKey) (mark : Option ℕ) → BringsToEnd look states from tokens p end mark → ⊥
  ends_nowhere e end mark b = let z : None ≡ Some end.state = sym e ∙ (walked end.state).1 b.leads in let w : ⊥ = cc in w

  -- it leads to this state
  pub ends_there : (m : ℕ) → o ≡ Some m → p.nonterminal.0 ≡ from.name → (end : EndKey) (mark : Option ℕ) →
      ((end ≡ end_key_at m p) × IsMarkIn tokens mark) ↔ BringsToEnd look states from tokens p end mark
  ends_there m e name end mark = (
    λ (z, h). record {
      name = name;
      production = ap (λ (k : EndKey). k.production) z;
      leads = subst (LeadAlong (HasEdge (map (lr_state_view look) states)) (map production_symbol_view p.symbols) from.state)
          (sym (ap (λ (k : EndKey). k.state) z)) ((walked m).0 e);
      mark_is = h;
    },
    λ b.
        let place : m ≡ end.state = some_same m end.state (sym e ∙ (walked end.state).1 b.leads) in
        (ap (λ n. end_key_at n end.production) (sym place) ∙ ap (end_key_at m) b.production, b.mark_is),
  )

module _ (look : List ℕ → LookaheadSet) (states : List (State (List ℕ))) (productions : List Production) (keys : List SlotKey)
    (j : ℕ) where
  -- no tokens, and no slot with this number
  pub none_flow : (end : EndKey) (mark : Option ℕ) → SlotBringsToEnd look states productions keys j None end mark → ⊥
  none_flow end mark b = let z : None ≡ Some b.0 = b.2 in let w : ⊥ = cc in w

  pub no_slot : (o : Option (List ℕ)) → length keys ≤ j → (end : EndKey) (mark : Option ℕ) →
      SlotBringsToEnd look states productions keys j o end mark → ⊥
  no_slot o past end mark b = omega (arith, past, slice_get_within keys j b.1 b.3)

  -- the slot with this number brings its tokens by the productions of its name
  pub slot_brings : (own : SlotKey) (set : List ℕ) (o : Option (List ℕ)) → slice_get keys j ≡ Some own → o ≡ Some set →
      (end : EndKey) (mark : Option ℕ) → OfSome (BringsToEnd look states own set) productions end mark
      ↔ SlotBringsToEnd look states productions keys j o end mark
  slot_brings own set o at is end mark = (
    λ h. (set, own, is, at, h),
    λ b.
        let key : b.1 ≡ own = some_same b.1 own (sym b.3 ∙ at) in
        let tokens : b.0 ≡ set = some_same b.0 set (sym b.2 ∙ is) in
        subst (λ k. OfSome (BringsToEnd look states k set) productions end mark) key
        (subst (λ l. OfSome (BringsToEnd look states b.1 l) productions end mark) tokens b.4),
  )
