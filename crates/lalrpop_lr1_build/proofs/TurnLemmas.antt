-- One turn after another, and what is then true of all states: for the construction of states.
use Rattle.std.proofs.Common.{◌≡◌, ◌∙◌, ◌⊎◌, ◌<◌, ◌≤◌, ℕ, zero, suc, Bool, List, []}
use Rattle.std.proofs.Common.{◌∷◌, ◌++◌, length, Some, None, Option, Contains}
use Rattle.std.proofs.Common.{slice_get, refl, sym, ap, subst, arith, inl, inr, ⊎_elim}
use Rattle.std.proofs.lemmas.Bool.{cases_lt}
use Rattle.std.proofs.lemmas.Option.{slice_get_within}
use Rattle.lalrpop_lr1_theory.proofs.ListLemmas.{get_front}
use Rattle.lalrpop_lr1_theory.proofs.StepLemmas.{some_same}
use Rattle.lalrpop_lr1_first.specs.NumberedGrammars.{IsNumberTable}
use Rattle.lalrpop_lr1_first.specs.declared.numbered.Numbered.{Numbered}
use Rattle.lalrpop_lr1_build.specs.Edges.{EdgesLead}
use Rattle.lalrpop_lr1_build.specs.Kernels.{AreKernelItems, IsClosureOf}
use Rattle.lalrpop_lr1_build.specs.Shifts.{items_of_group, items_in, shifted_items}
use Rattle.lalrpop_lr1_build.specs.Turns.{AreStatesOf, HasEdges, HasEdgeByNumber, IsTurn, shifted_kernel}
use Rattle.lalrpop_lr1_build.specs.declared.states.kernel.StateKernel.{StateKernel}
use Rattle.lalrpop_lr1_build.specs.declared.states.numbered_states.NumberedState.{NumberedState}
use Rattle.lalrpop_lr1_build.proofs.StateEdgeLemmas.{get_parts}
use Rattle.lalrpop_lr1_theory.proofs.ListLemmas.{get_last}
use Rattle.lalrpop_lr1_build.proofs.ShiftLemmas.{shifted_are}
use Rattle.lalrpop_lr1_first.proofs.TableLemmas.{get_some}

-- the kernel of items
abbrev pub kernel_of : {L : Type 0} → List (ℕ × L) → StateKernel L
kernel_of items = record { items = items }

-- a group with items is one of the groups
group_there : {L : Type 0} (groups : List (StateKernel L)) (s : ℕ) → (items_of_group groups s ≡ [] → ⊥) →
    (group : StateKernel L) × (slice_get groups s ≡ Some group)
group_there {L} groups s some = go (slice_get groups s) refl
  where
    go : (o : Option (StateKernel L)) → slice_get groups s ≡ o → (group : StateKernel L) × (slice_get groups s ≡ Some group)
    go None e = absurd (some (ap items_in e))
    go (Some group) e = (group, e)

module _ {L : Type 0} (marks : L → List ℕ) (firsts : Bool) (in_order : L → Type 0) (table : Numbered) where
  -- a kernel closed, its items grouped, and the edges to the groups are one turn
  pub turn_of : (kernel : StateKernel L) (old new groups : List (StateKernel L)) (state : NumberedState L) →
      IsClosureOf marks firsts in_order table kernel.items state.items →
      ((s : ℕ) → items_of_group groups s ≡ shifted_items table.places.items s state.items) →
      EdgesLead old groups new state.edges →
      IsTurn marks firsts in_order table kernel old new state
  turn_of kernel old new groups state closure are e =
      let is_group : (s : ℕ) (group : StateKernel L) → slice_get groups s ≡ Some group →
      group.items ≡ shifted_items table.places.items s state.items =
      λ s group at. sym (ap items_in at) ∙ are s in
      record {
        closure = closure;
        edges = record {
          ascending = e.ascending;
          leads = λ s m c. let r = e.leads s m c in
              r.3 ∙ ap (λ xs. Some (kernel_of xs)) (is_group s r.0 r.1);
          some = λ s m c none. let r = e.leads s m c in r.2 (is_group s r.0 r.1 ∙ none);
          all = λ s some.
              let g = group_there groups s (λ none. some (sym (are s) ∙ none)) in
              e.all s g.0 g.1 (λ none. some (sym (is_group s g.0 g.1) ∙ none));
        };
        grows = e.grows;
        fresh = e.fresh;
        seen = e.seen;
        distinct = e.distinct;
      }

  module _ (start : StateKernel L) where
    abbrev Are : List (StateKernel L) → List (NumberedState L) → Type 0
    Are = AreStatesOf marks firsts in_order table start

    only_start : (n : ℕ) (k : StateKernel L) → slice_get (start ∷ []) n ≡ Some k → (n ≡ 0) × (start ≡ k)
    only_start zero k e = (refl, some_same start k e)
    only_start (suc n) k e = let z : ⊥ = cc in absurd z

    pub states_none : AreKernelItems marks in_order table start.items → Are (start ∷ []) []
    states_none is = record {
      start_is = refl;
      are_kernels = λ n k e. subst (λ (x : StateKernel L). AreKernelItems marks in_order table x.items) (only_start n k e).1 is;
      closures = λ n k state e f. let z : ⊥ = cc in absurd z;
      edges = λ n state f. let z : ⊥ = cc in absurd z;
      reached = λ j h l. absurd (omega arith);
      seen = λ j k n s h l e. let f = e.at in let z : ⊥ = cc in absurd z;
      distinct = λ n m k e f. (only_start n k e).0 ∙ sym (only_start m k f).0;
    }

    grown_at : (old new : List (StateKernel L)) → (more : List (StateKernel L)) × (new ≡ old ++ more) → (n : ℕ)
        (k : StateKernel L) → slice_get old n ≡ Some k → slice_get new n ≡ Some k
    grown_at old new g n k e = subst (λ ks. slice_get ks n ≡ Some k) (sym g.1) (get_front old g.0 n k e)

    edges_kept : (old new : List (StateKernel L)) (state : NumberedState L) → (more : List (StateKernel L)) × (new ≡ old ++ more) →
        HasEdges table old state → HasEdges table new state
    edges_kept old new state g h = record {
      ascending = h.ascending;
      leads = λ s m c. grown_at old new g m (shifted_kernel table state s) (h.leads s m c);
      some = h.some;
      all = h.all;
    }

    module _ (is : IsNumberTable table) (kernels new : List (StateKernel L)) (states : List (NumberedState L))
        (kernel : StateKernel L) (state : NumberedState L) (are : Are kernels states)
        (here : slice_get kernels (length states) ≡ Some kernel)
        (turn : IsTurn marks firsts in_order table kernel kernels new state) where
      abbrev after : List (NumberedState L)
      after = states ++ state ∷ []

      led_before : (n s m : ℕ) → HasEdgeByNumber states n s m → HasEdgeByNumber after n s m
      led_before n s m l = record { state = l.state; at = get_front states (state ∷ []) n l.state l.at; edge = l.edge }

      led_here : (s m : ℕ) → Contains state.edges (s, m) → HasEdgeByNumber after (length states) s m
      led_here s m c = record { state = state; at = get_last states state; edge = c }

      led_parts : (n s m : ℕ) → HasEdgeByNumber after n s m → HasEdgeByNumber states n s m
          ⊎ ((n ≡ length states) × Contains state.edges (s, m))
      led_parts n s m l = ⊎_elim
          (λ e. inl (record { state = l.state; at = e; edge = l.edge }))
          (λ e. inr (e.0, subst (λ (x : NumberedState L). Contains x.edges (s, m)) (sym e.1) l.edge))
          (get_parts states state n l.state l.at)

      -- an edge from a state before leads to a kernel before
      led_old : (n s m : ℕ) → HasEdgeByNumber states n s m → m < length kernels
      led_old n s m l = slice_get_within kernels m (shifted_kernel table l.state s) ((are.edges n l.state l.at).leads s m l.edge)

      kernel_new : (n : ℕ) (k : StateKernel L) → slice_get new n ≡ Some k → AreKernelItems marks in_order table k.items
      kernel_new n k e = ⊎_elim
          (λ (l : n < length kernels).
          let o = get_some kernels n l in
          subst (λ (x : StateKernel L). AreKernelItems marks in_order table x.items)
          (some_same o.0 k (sym (grown_at kernels new turn.grows n o.0 o.1) ∙ e)) (are.are_kernels n o.0 o.1))
          (λ (l : length kernels ≤ n).
          let f = turn.fresh n l (slice_get_within new n k e) in
          subst (λ (x : StateKernel L). AreKernelItems marks in_order table x.items)
          (some_same (shifted_kernel table state f.0) k (sym (turn.edges.leads f.0 n f.1) ∙ e))
          (shifted_are table is marks in_order state.items turn.closure.are_items f.0))
          (cases_lt n (length kernels))

      -- the kernel of a state before is one of those before
      kernel_old : (n : ℕ) (k : StateKernel L) (st : NumberedState L) → slice_get new n ≡ Some k →
          slice_get states n ≡ Some st → n < length kernels → slice_get kernels n ≡ Some k
      kernel_old n k st e f l =
          let o = get_some kernels n l in
          subst (λ x. slice_get kernels n ≡ Some x) (some_same o.0 k (sym (grown_at kernels new turn.grows n o.0 o.1) ∙ e)) o.1

      pub states_more : Are new after
      states_more = record {
        start_is = grown_at kernels new turn.grows 0 start are.start_is;
        are_kernels = kernel_new;
        closures = λ n k st e f. ⊎_elim
            (λ g. are.closures n k st (kernel_old n k st e g (let a = slice_get_within states n st g in
            let b = slice_get_within kernels (length states) kernel here in omega (arith, a, b))) g)
            (λ g. let one : kernel ≡ k = some_same kernel k (sym (grown_at kernels new turn.grows (length states) kernel here)
            ∙ ap (slice_get new) (sym g.0) ∙ e) in
            subst (λ (x : StateKernel L). IsClosureOf marks firsts in_order table x.items st.items) one
            (subst (λ (x : NumberedState L). IsClosureOf marks firsts in_order table kernel.items x.items) g.1 turn.closure))
            (get_parts states state n st f);
        edges = λ n st f. ⊎_elim
            (λ g. edges_kept kernels new st turn.grows (are.edges n st g))
            (λ g. subst (HasEdges table new) g.1 turn.edges) (get_parts states state n st f);
        reached = λ j h l. ⊎_elim
            (λ (m : j < length kernels). let r = are.reached j h m in (r.0, r.1, r.2, led_before r.0 r.1 j r.3))
            (λ (m : length kernels ≤ j).
            let f = turn.fresh j m l in
            (length states, f.0, (let b = slice_get_within kernels (length states) kernel here in omega (arith, b, m)), led_here f.0 j f.1))
            (cases_lt j (length kernels));
        seen = λ j k n s h l e. ⊎_elim
            (λ o. let r = are.seen j k n s h l o in (r.0, r.1, r.2, led_before r.0 r.1 j r.3))
            (λ o. ⊎_elim
            (λ (m : j < length kernels).
            let r = are.reached j h m in
            (r.0, r.1, inl (let b = slice_get_within states r.0 r.3.state r.3.at in omega (arith, b, o.0)), led_before r.0 r.1 j r.3))
            (λ (m : length kernels ≤ j).
            let r = turn.seen j s k m l o.1 in
            (length states, r.0, inr (sym o.0, r.1), led_here r.0 j r.2))
            (cases_lt j (length kernels)))
            (led_parts n s k e);
        distinct = turn.distinct are.distinct;
      }
