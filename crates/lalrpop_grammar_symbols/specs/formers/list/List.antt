-- A `List` holds what its list holds, in order.
use mathlib.Core.Path.{◌≡◌, refl, sym}
use mathlib.Core.List.{List, []}
use mathlib.Core.Former.{Former, this, list, via, children}
use base.Stored.{code_map}
use denote.RattleType.{RattleType}
use denote.HoleLaws.{Alike}
use denote.HolePlaces.{Recodes, struct_places, laid}
use denote.Hole.Carrier.{listed, list-listed}
use denote.Hole.Fix.{over}
use denote.Param.Weighed.{Weighed, w_list}
use denote.Model.Placed.{view_places}
use Rattle.std.specs.formers.vec.Vec as vec
use Rattle.std.specs.declared.alloc.Global.{Global}
use Rattle.std.specs.contracts.alloc.Global as heap
use Rattle.std.specs.contracts.impls.GlobalAllocator.TheImpl as global
use Rattle.lalrpop_grammar_symbols.specs.declared.list.List.TheInside.{Inside}
use Rattle.lalrpop_grammar_symbols.specs.declared.list.List.TheView as shown
use Rattle.lalrpop_grammar_symbols.specs.contracts.list.List as outer
use Rattle.lalrpop_grammar_symbols.specs.contracts.list.List.TheInside as inner

abbrev pub the_former : Former {0} → Former {0}
the_former = list

abbrev pub the_weighed : {g : Former {0}} → Weighed g → Weighed (the_former g)
the_weighed = w_list

pub the_empty : List ⊥
the_empty = []

abbrev pub the_items : (X : Type 0) → List X → List X
the_items X items = items

pub the_items_listed : (X : Type 0) (items : List X) → listed _ (children (the_former this) X items) ≡ the_items X items
the_items_listed = list-listed

-- the one field, a `Vec`
abbrev list_parts : Former {0}
list_parts = via (vec.the_former this Global) Inside (λ X l. l.items) (λ X v. record { items = v }) (λ X l. refl) (λ X v. refl)

module _ (A B : RattleType) (f : A.Denot → B.Denot) where
  pub the_codes_placed : Recodes A B f → Recodes (outer.the_row A) (outer.the_row B) ((the_former this).map A.Denot B.Denot f)
  the_codes_placed same items = sym (code_map A.coded.code B.coded.code f (λ x. sym (same x)) items)

  pub the_places : Alike A B f → Alike (outer.the_row A) (outer.the_row B) ((the_former this).map A.Denot B.Denot f)
  the_places alike =
      view_places list_parts (the_former this) shown.view (λ X Y k l. refl) (λ X l. refl) A.Denot B.Denot f
      (outer.the_row A).coded (outer.the_row B).coded (shown.invariant A.Denot) (shown.invariant B.Denot)
      (λ l p q. refl) (λ l p q. refl) (λ l e. tt) (λ l e. tt) (over (inner.the_row A)) (over (inner.the_row B))
      (struct_places (inner.the_type A) (inner.the_type B) (vec.mapped f, tt) _ (λ d. refl) refl
      (laid _ _ _ (vec.the_places heap.the_row global.ghosts A B f alike), tt))
