-- A `Shared` holds the one value that its owners share.
use mathlib.Core.Path.{refl}
use mathlib.Core.Former.{Former, this, const, pair, via}
use base.Stored.{gnil}
use base.Fml.{ftrue}
use denote.RattleType.{RattleType}
use denote.Memory.{part_of}
use denote.RawPtr.{Ptr}
use denote.Sharing.{nothing}
use denote.HoleLaws.{Alike}
use denote.HolePlaces.{Recodes, struct_places, laid, one_value}
use denote.Hole.Fix.{over}
use denote.Param.Weighed.{Weighed}
use denote.Model.Placed.{view_places}
use Rattle.std.specs.declared.rc.Rc.{Rc}
use Rattle.std.specs.contracts.rc.Rc as rc
use Rattle.std.specs.declared.alloc.Global.{Global}
use Rattle.std.specs.contracts.alloc.Global as heap
use Rattle.std.specs.contracts.impls.GlobalAllocator.TheImpl as global
use Rattle.lalrpop_grammar_rules.specs.declared.closed.shared.Shared.TheInside.{Inside}
use Rattle.lalrpop_grammar_rules.specs.declared.closed.shared.Shared.TheView as shown
use Rattle.lalrpop_grammar_rules.specs.contracts.closed.shared.Shared as outer
use Rattle.lalrpop_grammar_rules.specs.contracts.closed.shared.Shared.TheInside as inner

abbrev pub the_former : Former {0} → Former {0}
the_former g = g

abbrev pub the_weighed : {g : Former {0}} → Weighed g → Weighed (the_former g)
the_weighed w = w

-- where it lies, beside the value
abbrev rc_parts : Former {0}
rc_parts = via (pair (const Ptr) this) Inside (λ X b. (b.inner.ptr, b.inner.value))
    (λ X p. record { inner = record { ptr = p.0; value = p.1 } }) (λ X b. refl) (λ X p. refl)

abbrev rc_on_heap : RattleType → RattleType
rc_on_heap A = rc.the_row A heap.the_row global.ghosts

-- the same place with another value behind it
abbrev rc_holding : {X Y : Type 0} → Y → Rc X Global → Rc Y Global
rc_holding y b = record { ptr = b.ptr; value = y }

module _ (A B : RattleType) (f : A.Denot → B.Denot) where
  abbrev rc_moved : Rc A.Denot Global → Rc B.Denot Global
  rc_moved b = rc_holding (f b.value) b

  rc_on_heap_alike : Alike A B f → Alike (rc_on_heap A) (rc_on_heap B) rc_moved
  unfolding part_of
  rc_on_heap_alike alike = record {
    mir_same = λ i. (rc_on_heap (one_value A (alike.mir_same i) (λ _. ftrue) (λ _ _. nothing) gnil)).mir;
    own_same = λ b i. (rc_on_heap (one_value A (alike.mir_same i) (alike.own_same b.value i) (alike.shr_same b.value i) gnil)).own_val
        (rc_holding tt b);
    shr_same = λ b i. (rc_on_heap (one_value A (alike.mir_same i) (alike.own_same b.value i) (alike.shr_same b.value i) gnil)).shr_at
        (rc_holding tt b);
  }

  pub the_codes_placed : Recodes A B f → Recodes (outer.the_row A) (outer.the_row B) ((the_former this).map A.Denot B.Denot f)
  the_codes_placed same value = same value

  pub the_places : Alike A B f → Alike (outer.the_row A) (outer.the_row B) ((the_former this).map A.Denot B.Denot f)
  the_places alike =
      view_places rc_parts this shown.view (λ X Y k b. refl) (λ X b. refl) A.Denot B.Denot f
      (outer.the_row A).coded (outer.the_row B).coded (shown.invariant A.Denot) (shown.invariant B.Denot)
      (λ b p q. refl) (λ b p q. refl) (λ b e. tt) (λ b e. tt) (over (inner.the_row A)) (over (inner.the_row B))
      (struct_places (inner.the_type A) (inner.the_type B) (rc_moved, tt) _ (λ d. refl) refl (laid _ _ _ (rc_on_heap_alike alike), tt))
