-- A `Boxed` holds the one value behind its box.
use mathlib.Core.Path.{refl}
use mathlib.Core.Former.{Former, this, const, pair, via}
use base.Stored.{gnil}
use base.Fml.{ftrue}
use denote.RattleType.{RattleType}
use denote.Memory.{part_of}
use denote.RawPtr.{Ptr}
use denote.Sharing.{nothing}
use denote.HoleLaws.{Alike}
use denote.HolePlaces.{Recodes, struct_places, laid, one_value}
use denote.Hole.Fix.{over}
use denote.Param.Weighed.{Weighed}
use denote.Model.Placed.{view_places}
use Rattle.std.specs.declared.boxed.Box.{Box}
use Rattle.std.specs.contracts.boxed.Box as box
use Rattle.std.specs.declared.alloc.Global.{Global}
use Rattle.std.specs.contracts.alloc.Global as heap
use Rattle.std.specs.contracts.impls.GlobalAllocator.TheImpl as global
use Rattle.lalrpop_grammar_symbols.specs.declared.boxed.Boxed.TheInside.{Inside}
use Rattle.lalrpop_grammar_symbols.specs.declared.boxed.Boxed.TheView as shown
use Rattle.lalrpop_grammar_symbols.specs.contracts.boxed.Boxed as outer
use Rattle.lalrpop_grammar_symbols.specs.contracts.boxed.Boxed.TheInside as inner

abbrev pub the_former : Former {0} → Former {0}
the_former g = g

abbrev pub the_weighed : {g : Former {0}} → Weighed g → Weighed (the_former g)
the_weighed w = w

-- where it lies and the heap's handle, beside the value
abbrev box_parts : Former {0}
box_parts = via (pair (const (Ptr × Global)) this) Inside (λ X b. ((b.inner.ptr, b.inner.alloc), b.inner.value))
    (λ X p. record { inner = record { ptr = p.0.0; alloc = p.0.1; value = p.1 } }) (λ X b. refl) (λ X p. refl)

abbrev on_heap : RattleType → RattleType
on_heap A = box.the_row A heap.the_row global.ghosts

-- the same place with another value behind it
abbrev holding : {X Y : Type 0} → Y → Box X Global → Box Y Global
holding y b = record { ptr = b.ptr; alloc = b.alloc; value = y }

module _ (A B : RattleType) (f : A.Denot → B.Denot) where
  abbrev moved : Box A.Denot Global → Box B.Denot Global
  moved b = holding (f b.value) b

  on_heap_alike : Alike A B f → Alike (on_heap A) (on_heap B) moved
  unfolding part_of
  on_heap_alike alike = record {
    mir_same = λ i. (on_heap (one_value A (alike.mir_same i) (λ _. ftrue) (λ _ _. nothing) gnil)).mir;
    own_same = λ b i. (on_heap (one_value A (alike.mir_same i) (alike.own_same b.value i) (alike.shr_same b.value i) gnil)).own_val
        (holding tt b);
    shr_same = λ b i. (on_heap (one_value A (alike.mir_same i) (alike.own_same b.value i) (alike.shr_same b.value i) gnil)).shr_at
        (holding tt b);
  }

  pub the_codes_placed : Recodes A B f → Recodes (outer.the_row A) (outer.the_row B) ((the_former this).map A.Denot B.Denot f)
  the_codes_placed same value = same value

  pub the_places : Alike A B f → Alike (outer.the_row A) (outer.the_row B) ((the_former this).map A.Denot B.Denot f)
  the_places alike =
      view_places box_parts this shown.view (λ X Y k b. refl) (λ X b. refl) A.Denot B.Denot f
      (outer.the_row A).coded (outer.the_row B).coded (shown.invariant A.Denot) (shown.invariant B.Denot)
      (λ b p q. refl) (λ b p q. refl) (λ b e. tt) (λ b e. tt) (over (inner.the_row A)) (over (inner.the_row B))
      (struct_places (inner.the_type A) (inner.the_type B) (moved, tt) _ (λ d. refl) refl (laid _ _ _ (on_heap_alike alike), tt))
