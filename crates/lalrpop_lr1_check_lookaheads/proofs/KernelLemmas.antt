-- What a kernel says of an edge that leads to it: for the test of states.
use Rattle.std.proofs.Common.{◌≡◌, ◌∙◌, ◌<◌, ◌↔◌, Bool, true, false, List, [], ◌∷◌, ap, length, map, sym, subst}
use Rattle.std.proofs.Common.{Some, None, slice_get, arith, Contains}
use Rattle.indexmap.specs.IndexSet.{IndexSet}
use Rattle.lalrpop_lr1_theory.proofs.ListLemmas.{contains_get, contains_here, get_contains}
use Rattle.lalrpop_lr1_theory.proofs.StepLemmas.{some_same}
use Rattle.lalrpop_lr1_core.proofs.MemberLemmas.{in_map, map_has}
use Rattle.lalrpop_lr1_core.proofs.NoConflictLemmas.{at_mapped, mapped_at}
use Rattle.lalrpop_lr1_check_lookaheads.specs.ListTests.{HoldsAtEach}
use Rattle.lalrpop_lr1_check_lookaheads.specs.ListedItems.{ItemKey, item_key}
use Rattle.lalrpop_lr1_check_lookaheads.specs.Moves.{DoesComeBack, KernelComesBack}
use Rattle.lalrpop_lr1_check_lookaheads.specs.SeenEdges.{SeenEdge}
use Rattle.lalrpop_lr1_check_lookaheads.specs.declared.parts.listed.ListedItem.{ListedItem}

module _ {S : Type 0} (keys : List ItemKey) (kernels : List (IndexSet ListedItem S)) (edge : SeenEdge) where
  abbrev seen : List (List ItemKey)
  seen = map (λ k. map item_key k.keys) kernels

  -- no kernel stands there
  pub kernel_none : slice_get kernels edge.target ≡ None → (◌≡◌ {A = Bool} false true) ↔ KernelComesBack keys seen edge
  kernel_none none = (
    λ e. let w : ⊥ = cc in absurd w,
    λ k.
        let m = at_mapped (λ (s : IndexSet ListedItem S). map item_key s.keys) kernels edge.target k.kernel k.at in
        let both = sym none ∙ m.1 in let w : ⊥ = cc in absurd w,
  )

  -- this one does
  pub kernel_some : (kernel : IndexSet ListedItem S) (r : Bool) → slice_get kernels edge.target ≡ Some kernel →
      ((r ≡ true) ↔ ((0 < length kernel.keys) × HoldsAtEach (λ _ item. DoesComeBack keys edge (item_key item)) kernel.keys)) →
      (r ≡ true) ↔ KernelComesBack keys seen edge
  kernel_some kernel r at says = (
    λ e.
        let h = says.0 e in
        let k = some_of kernel.keys h.0 in
        record {
          kernel = map item_key kernel.keys;
          one = item_key k.0;
          at = mapped_at (λ (s : IndexSet ListedItem S). map item_key s.keys) kernels edge.target kernel at;
          is_there = map_has item_key kernel.keys k.0 k.1;
          all = λ item c.
              let m = in_map item_key kernel.keys item c in
              let g = contains_get kernel.keys m.0 m.1 in
              subst (DoesComeBack keys edge) m.2 (h.1 g.0 m.0 g.1);
        },
    λ k.
        let m = at_mapped (λ (s : IndexSet ListedItem S). map item_key s.keys) kernels edge.target k.kernel k.at in
        let one : m.0 ≡ kernel = some_same m.0 kernel (sym m.1 ∙ at) in
        let same : map item_key kernel.keys ≡ k.kernel = ap (λ (s : IndexSet ListedItem S). map item_key s.keys) (sym one) ∙ m.2 in
        let there = in_map item_key kernel.keys k.one (subst (λ l. Contains l k.one) (sym same) k.is_there) in
        says.1 (
          omega (arith, there.1.1),
          λ j item g. k.all (item_key item) (subst (λ l. Contains l (item_key item)) same
              (map_has item_key kernel.keys item (get_contains kernel.keys j item g))),
        ),
  )
    where
      some_of : (xs : List ListedItem) → 0 < length xs → (x : ListedItem) × Contains xs x
      some_of [] h = absurd (omega (arith, h))
      some_of (x ∷ xs) h = (x, contains_here x xs)
