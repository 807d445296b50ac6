-- States with the same items and lookaheads have one kernel: for states whose item sets differ.
use Rattle.std.proofs.Common.{◌≡◌, ◌∙◌, ◌↔◌, ◌⊎◌, ◌+◌, ◌<◌, ◌≤◌, ℕ, suc, Bool, true}
use Rattle.std.proofs.Common.{List, [], ◌∷◌, length, Some, None}
use Rattle.std.proofs.Common.{Contains, Option, slice_get, refl, sym, ap, subst, arith, inl, inr, ⊎_elim}
use Rattle.std.proofs.lemmas.Bool.{cases_lt}
use Rattle.std.proofs.lemmas.Option.{slice_get_within}
use Rattle.lalrpop_grammar_symbols.specs.Symbols.{Text}
use Rattle.lalrpop_lr1_theory.specs.Productions as theory
use Rattle.lalrpop_lr1_theory.specs.Automata.{Closure, Marked, brings, closed, has_next, in_kernel, passes, starts, there}
use Rattle.lalrpop_lr1_theory.proofs.ListLemmas.{contains_here, contains_later, contains_split}
use Rattle.lalrpop_lr1_theory.proofs.MarkLemmas.{item_of}
use Rattle.lalrpop_lr1_theory.proofs.StepLemmas.{some_same}
use Rattle.lalrpop_lr1_core.specs.Views.{next_of_number}
use Rattle.lalrpop_sets.specs.AscendingLists.{AscendsFrom, has}
use Rattle.lalrpop_lr1_first.specs.FirstNumbers.{table_end}
use Rattle.lalrpop_lr1_first.specs.ItemTables.{HasPlace, ListsItem, ListsNext}
use Rattle.lalrpop_lr1_first.specs.NumberedGrammars.{HasItemAt, IsNumberTable, IsSeenIn, table_productions}
use Rattle.lalrpop_lr1_first.specs.declared.numbered.Numbered.{Numbered}
use Rattle.lalrpop_lr1_first.proofs.TableLemmas.{table_numbering}
use Rattle.lalrpop_lr1_build.specs.Kernels.{AreKernelItems, IsClosureOf, places_of}
use Rattle.lalrpop_lr1_build.specs.Shifts.{shifted_items}
use Rattle.lalrpop_lr1_build.specs.Turns.{AreNumberedStates, shifted_kernel}
use Rattle.lalrpop_lr1_build.specs.declared.states.kernel.StateKernel.{StateKernel}
use Rattle.lalrpop_lr1_build.specs.declared.states.numbered_states.NumberedState.{NumberedState}
use Rattle.lalrpop_lr1_build.proofs.ShiftLemmas.{item_moved, shifted_from}
use Rattle.lalrpop_lr1_build.proofs.TurnLemmas.{kernel_of}
use Rattle.lalrpop_lr1_build.specs.NumberedAutomata.{AreStartItems, HasNumberedItem, HasNumberedNext}
use Rattle.lalrpop_lr1_build.proofs.NumberedAutomatonLemmas.{kernel_at, once_at, some_element}
use Rattle.lalrpop_lr1_theory.proofs.NameLemmas.{no_element}
use Rattle.lalrpop_lr1_build.proofs.ProductionLemmas.{place_once}
use Rattle.lalrpop_grammar_symbols.proofs.BoolLemmas.{same_bool}

-- every element of a list in order is at least its bound
least : {L : Type 0} (xs : List (ℕ × L)) (a : ℕ) (z : ℕ × L) → AscendsFrom a (places_of xs) → Contains xs z → a ≤ z.0
least [] a z h c = absurd (no_element z c)
least {L} (x ∷ xs) a z h c = ⊎_elim
    (λ e. let f : x.0 ≡ z.0 = ap (λ (y : ℕ × L). y.0) e in omega (arith, h.0, f))
    (λ d. let r = least xs (suc x.0) z h.1 d in omega (arith, h.0, r)) (contains_split x z xs c)

-- lists in order with the same elements are one
pub same_lists : {L : Type 0} (xs ys : List (ℕ × L)) (a b : ℕ) → AscendsFrom a (places_of xs) → AscendsFrom b (places_of ys) →
    ((z : ℕ × L) → Contains xs z ↔ Contains ys z) → xs ≡ ys
same_lists [] [] a b h g same = refl
same_lists [] (y ∷ ys) a b h g same = absurd (no_element y ((same y).1 (contains_here y ys)))
same_lists (x ∷ xs) [] a b h g same = absurd (no_element x ((same x).0 (contains_here x xs)))
same_lists {L} (x ∷ xs) (y ∷ ys) a b h g same =
    let l = least (y ∷ ys) y.0 x (omega arith, g.1) ((same x).0 (contains_here x xs)) in
    let m = least (x ∷ xs) x.0 y (omega arith, h.1) ((same y).1 (contains_here y ys)) in
    let one : y ≡ x = ⊎_elim (λ e. e)
    (λ d. let r = least ys (suc y.0) x g.1 d in absurd (omega (arith, r, m)))
    (contains_split y x ys ((same x).0 (contains_here x xs))) in
    let heads : x.0 ≡ y.0 = omega (arith, l, m) in
    ap (λ z. z ∷ xs) (sym one) ∙ ap (λ zs. y ∷ zs) (same_lists xs ys (suc x.0) (suc y.0) h.1 g.1 (λ z. (
      λ c. ⊎_elim (λ e. absurd (let r = least xs (suc x.0) z h.1 c in let f : y.0 ≡ z.0 = ap (λ (v : ℕ × L). v.0) e in
          omega (arith, r, f, heads))) (λ d. d) (contains_split y z ys ((same z).0 (contains_later x z xs c))),
      λ c. ⊎_elim (λ e. absurd (let r = least ys (suc y.0) z g.1 c in let f : x.0 ≡ z.0 = ap (λ (v : ℕ × L). v.0) e in
          omega (arith, r, f, heads))) (λ d. d) (contains_split x z xs ((same z).1 (contains_later y z ys c))),
    )))

module _ (firsts : Bool) (G : theory.Production → Type 0) (K : theory.Production → ℕ → Type 0)
    (U : theory.Production → ℕ → theory.Next → Type 0) where
  -- what has its dot not in front is in the kernel
  moved_item : {p : theory.Production} {i : ℕ} (d : ℕ) → i ≡ suc d → Closure G K p i → K p i
  moved_item d e (in_kernel p i k) = k
  moved_item d e (closed b q c f g) = absurd (omega arith)

  moved_next : {p : theory.Production} {i : ℕ} {m : Option theory.Next} (d : ℕ) (x : theory.Next) → i ≡ suc d → m ≡ Some x →
      Marked firsts G K U p i m → U p i x
  moved_next d x e f (there p i k) = let z : ⊥ = cc in absurd z
  moved_next d x e f (has_next p i y u) = subst (U p i) (some_same y x f) u
  moved_next d x e f (brings b q m g h) = let z : ⊥ = cc in absurd z
  moved_next d x e f (starts b q t c m g h o) = absurd (omega arith)
  moved_next d x e f (passes b q y m g h o) = absurd (omega arith)

  -- where all of the kernel has its dot in front, all of the closure has
  in_front : ((p : theory.Production) (i : ℕ) → K p i → i ≡ 0) → {p : theory.Production} {i : ℕ} → Closure G K p i → i ≡ 0
  in_front all (in_kernel p i k) = all p i k
  in_front all (closed b q c f g) = refl

module _ (table : Numbered) (is : IsNumberTable table) {L : Type 0} (marks : L → List ℕ) (firsts : Bool) (in_order : L → Type 0)
    (one : (a b : L) → in_order a → in_order b → ((k : ℕ) → has (marks a) k ≡ has (marks b) k) → a ≡ b) where
  abbrev G : theory.Production → Type 0
  G = IsSeenIn (table_productions table)

  abbrev Lists : List (ℕ × L) → theory.Production → ℕ → Type 0
  Lists items = ListsItem items (HasItemAt table)

  abbrev Nexts : List (ℕ × L) → theory.Production → ℕ → theory.Next → Type 0
  Nexts items = ListsNext marks items (next_of_number table.terminals.now) (table_end table) (HasItemAt table)

  -- each item has its dot not in front
  abbrev AreMoved : List (ℕ × L) → Type 0
  AreMoved items = (i : ℕ) → HasPlace items i → (p : theory.Production) × (d : ℕ) × HasItemAt table i p (suc d)

  list_next : (items : List (ℕ × L)) (p : theory.Production) (d : ℕ) (x : theory.Next) → Nexts items p d x → Lists items p d
  list_next items p d x h = (h.place, (h.held.0, h.held.1), h.item)

  module _ (kernel items other others : List (ℕ × L)) (closure : IsClosureOf marks firsts in_order table kernel items)
      (closing : IsClosureOf marks firsts in_order table other others)
      (are : AreKernelItems marks in_order table kernel) (are_other : AreKernelItems marks in_order table other)
      (moved : AreMoved kernel)
      (same : (p : theory.Production) (d : ℕ) → Lists items p d → Lists others p d)
      (nexts : (p : theory.Production) (d : ℕ) (x : theory.Next) → Nexts items p d x → Nexts others p d x) where
    -- an item of the kernel is one of the other kernel
    place_to : (i : ℕ) (l : L) → Contains kernel (i, l) → HasPlace other i
    place_to i l c =
        let p = moved i (l, c) in
        let o = same p.0 (suc p.1) ((closure.closure p.0 (suc p.1)).1 (there p.0 (suc p.1) (i, (l, c), p.2))) in
        let k = moved_item firsts G (Lists other) (Nexts other) p.1 refl
        (item_of firsts G (Lists other) (Nexts other) (list_next other) None ((closing.closure p.0 (suc p.1)).0 o)) in
        subst (HasPlace other) (place_once table is k.0 i p.0 (suc p.1) k.2 p.2) k.1

    mark_to : (i : ℕ) (l m : L) → Contains kernel (i, l) → Contains other (i, m) → (k : ℕ) → has (marks l) k ≡ true →
        has (marks m) k ≡ true
    mark_to i l m c d k h =
        let p = moved i (l, c) in
        let small = are.tokens i k (l, c, h) in
        let x = next_of_number table.terminals.now k in
        let o = nexts p.0 (suc p.1) x ((closure.nexts p.0 (suc p.1) x).1 (has_next p.0 (suc p.1) x (record {
          place = i;
          number = k;
          held = (l, c, h);
          small = small;
          next_is = refl;
          item = p.2;
        }))) in
        let u = moved_next firsts G (Lists other) (Nexts other) p.1 x refl refl ((closing.nexts p.0 (suc p.1) x).0 o) in
        let place = place_once table is u.place i p.0 (suc p.1) u.item p.2 in
        let number = (table_numbering table is).next_once u.number k u.small small u.next_is in
        let look : u.held.0 ≡ m = once_at other 0 i u.held.0 m are_other.ascending
        (subst (λ j. Contains other (j, u.held.0)) place u.held.1) d in
        subst (λ j. has (marks m) j ≡ true) number (subst (λ v. has (marks v) u.number ≡ true) look u.held.2)

  module _ (kernel items other others : List (ℕ × L)) (closure : IsClosureOf marks firsts in_order table kernel items)
      (closing : IsClosureOf marks firsts in_order table other others)
      (are : AreKernelItems marks in_order table kernel) (are_other : AreKernelItems marks in_order table other)
      (moved : AreMoved kernel) (moved_other : AreMoved other)
      (same : (p : theory.Production) (d : ℕ) → Lists items p d ↔ Lists others p d)
      (nexts : (p : theory.Production) (d : ℕ) (x : theory.Next) → Nexts items p d x ↔ Nexts others p d x) where
    same_there : (p : theory.Production) (d : ℕ) → Lists items p d → Lists others p d
    same_there p d = (same p d).0

    same_back : (p : theory.Production) (d : ℕ) → Lists others p d → Lists items p d
    same_back p d = (same p d).1

    nexts_there : (p : theory.Production) (d : ℕ) (x : theory.Next) → Nexts items p d x → Nexts others p d x
    nexts_there p d x = (nexts p d x).0

    nexts_back : (p : theory.Production) (d : ℕ) (x : theory.Next) → Nexts others p d x → Nexts items p d x
    nexts_back p d x = (nexts p d x).1

    element_to : (z : ℕ × L) → Contains kernel z → Contains other z
    element_to z c =
        let h = place_to kernel items other others closure closing are are_other moved same_there nexts_there z.0 z.1 c in
        let e : z.1 ≡ h.0 = one z.1 h.0 (are.ordered z.0 z.1 c) (are_other.ordered z.0 h.0 h.1) (λ k. same_bool _ _
        (mark_to kernel items other others closure closing are are_other moved same_there nexts_there z.0 z.1 h.0 c h.1 k)
        (mark_to other others kernel items closing closure are_other are moved_other same_back nexts_back z.0 h.0 z.1 h.1 c k)) in
        subst (λ l. Contains other (z.0, l)) (sym e) h.1

    element_from : (z : ℕ × L) → Contains other z → Contains kernel z
    element_from z c =
        let h = place_to other others kernel items closing closure are_other are moved_other same_back nexts_back z.0 z.1 c in
        let e : z.1 ≡ h.0 = one z.1 h.0 (are_other.ordered z.0 z.1 c) (are.ordered z.0 h.0 h.1) (λ k. same_bool _ _
        (mark_to other others kernel items closing closure are_other are moved_other same_back nexts_back z.0 z.1 h.0 c h.1 k)
        (mark_to kernel items other others closure closing are are_other moved same_there nexts_there z.0 h.0 z.1 h.1 c k)) in
        subst (λ l. Contains kernel (z.0, l)) (sym e) h.1

    one_kernel : kernel ≡ other
    one_kernel = same_lists kernel other 0 0 are.ascending are_other.ascending (λ z. (element_to z, element_from z))

  module _ (Start : theory.Next → Type 0) (s : Text) (start : StateKernel L) (states : List (NumberedState L))
      (are : AreNumberedStates marks firsts in_order table start states)
      (begin : AreStartItems marks Start table s start.items) where
    shifted_moved : (state : NumberedState L) → AreKernelItems marks in_order table state.items → (number : ℕ) →
        AreMoved (shifted_items table.places.items number state.items)
    shifted_moved state items number i h =
        let r = shifted_from table.places.items number state.items i h.0 h.1 in
        let o = items.placed r.0 (h.0, r.1) in
        let m = item_moved table is r.0 number o.0 o.1 o.2 r.3 in (
          o.0,
          o.1,
          subst (λ k. HasItemAt table k o.0 (suc o.1)) (sym r.2)
              (subst (λ k. HasItemAt table (r.0 + 1) o.0 k) (let z : o.1 + 1 ≡ suc o.1 = omega arith in z) m),
        )

    -- the kernel of a state behind the first has its dots not in front, and isn't empty
    pub record MovedKernel (n : ℕ) : Type 0 where
      pub kernel : StateKernel L
      pub at : slice_get are.kernels n ≡ Some kernel
      pub moved : AreMoved kernel.items
      pub some : kernel.items ≡ [] → ⊥

    kernel_behind : (n : ℕ) → 0 < n → n < length are.kernels → MovedKernel n
    kernel_behind n h l =
        let r = are.are.reached n h l in
        let st = r.3.state in
        let k = kernel_at table is marks firsts in_order Start s start states are begin r.0 st r.3.at in
        record {
          kernel = shifted_kernel table st r.1;
          at = (are.are.edges r.0 st r.3.at).leads r.1 n r.3.edge;
          moved = shifted_moved st (are.are.closures r.0 k.0 st k.1 r.3.at).are_items r.1;
          some = (are.are.edges r.0 st r.3.at).some r.1 n r.3.edge;
        }

    module _ (n m : ℕ) (a b : NumberedState L) (at_n : slice_get states n ≡ Some a) (at_m : slice_get states m ≡ Some b)
        (same : (p : theory.Production) (d : ℕ) → HasNumberedItem table states n p d ↔ HasNumberedItem table states m p d)
        (nexts : (p : theory.Production) (d : ℕ) (x : theory.Next) →
        HasNumberedNext marks table states n p d x ↔ HasNumberedNext marks table states m p d x) where
      lists : (p : theory.Production) (d : ℕ) → Lists a.items p d ↔ Lists b.items p d
      lists p d = (
        λ h. let r = (same p d).0 (record { state = a; at = at_n; item = h }) in
            subst (λ (y : NumberedState L). Lists y.items p d) (some_same r.state b (sym r.at ∙ at_m)) r.item,
        λ h. let r = (same p d).1 (record { state = b; at = at_m; item = h }) in
            subst (λ (y : NumberedState L). Lists y.items p d) (some_same r.state a (sym r.at ∙ at_n)) r.item,
      )

      looks : (p : theory.Production) (d : ℕ) (x : theory.Next) → Nexts a.items p d x ↔ Nexts b.items p d x
      looks p d x = (
        λ h. let r = (nexts p d x).0 (record { state = a; at = at_n; next = h }) in
            subst (λ (y : NumberedState L). Nexts y.items p d x) (some_same r.state b (sym r.at ∙ at_m)) r.next,
        λ h. let r = (nexts p d x).1 (record { state = b; at = at_m; next = h }) in
            subst (λ (y : NumberedState L). Nexts y.items p d x) (some_same r.state a (sym r.at ∙ at_n)) r.next,
      )

      within_n : n < length are.kernels
      within_n = let c = are.count in let l = slice_get_within states n a at_n in omega (arith, c, l)

      within_m : m < length are.kernels
      within_m = let c = are.count in let l = slice_get_within states m b at_m in omega (arith, c, l)

      both_behind : 0 < n → 0 < m → n ≡ m
      both_behind h g =
          let k = kernel_behind n h within_n in
          let o = kernel_behind m g within_m in
          let e : k.kernel.items ≡ o.kernel.items = one_kernel k.kernel.items a.items o.kernel.items b.items
          (are.are.closures n k.kernel a k.at at_n) (are.are.closures m o.kernel b o.at at_m) (are.are.are_kernels n k.kernel k.at)
          (are.are.are_kernels m o.kernel o.at) k.moved o.moved lists looks in
          are.are.distinct n m k.kernel k.at
          (o.at ∙ ap (λ xs. Some (kernel_of xs)) (sym e))

    -- a state behind the first has an item that the first hasn't
    not_first : (n m : ℕ) (a b : NumberedState L) → slice_get states n ≡ Some a → slice_get states m ≡ Some b → n
        ≡ 0 → 0 < m →
        ((p : theory.Production) (d : ℕ) → Lists b.items p d → Lists a.items p d) → ⊥
    not_first n m a b at_n at_m e h same =
        let within : m < length are.kernels = (let c = are.count in let l = slice_get_within states m b at_m in omega (arith, c, l)) in
        let o = kernel_behind m h within in
        let c = some_element o.kernel.items o.some in
        let p = o.moved c.0.0 (c.0.1, c.1) in
        let i = same p.0 (suc p.1) (((are.are.closures m o.kernel b o.at at_m).closure p.0 (suc p.1)).1
        (there p.0 (suc p.1) (c.0.0, (c.0.1, c.1), p.2))) in
        let f = are.are.closures 0 start a are.are.start_is (subst (λ k. slice_get states k ≡ Some a) e at_n) in
        let z = in_front firsts G (Lists start.items) (Nexts start.items) (λ q j k. ((begin.begun q j).0 k).2)
        (item_of firsts G (Lists start.items) (Nexts start.items) (list_next start.items) None ((f.closure p.0 (suc p.1)).0 i)) in
        let w : ⊥ = omega (arith, z) in w

    -- states with the same items and lookaheads are one
    pub numbered_distinct : (n m : ℕ) (a b : NumberedState L) → slice_get states n ≡ Some a → slice_get states m ≡ Some b →
        ((p : theory.Production) (d : ℕ) → HasNumberedItem table states n p d ↔ HasNumberedItem table states m p d) →
        ((p : theory.Production) (d : ℕ) (x : theory.Next) →
        HasNumberedNext marks table states n p d x ↔ HasNumberedNext marks table states m p d x) → n ≡ m
    numbered_distinct n m a b at_n at_m same nexts = go (cases_lt 0 n) (cases_lt 0 m)
      where
        there_is : (p : theory.Production) (d : ℕ) → Lists b.items p d → Lists a.items p d
        there_is p d = (lists n m a b at_n at_m same nexts p d).1

        back : (p : theory.Production) (d : ℕ) → Lists a.items p d → Lists b.items p d
        back p d = (lists n m a b at_n at_m same nexts p d).0

        go : (0 < n) ⊎ (n ≤ 0) → (0 < m) ⊎ (m ≤ 0) → n ≡ m
        go (inl h) (inl g) = both_behind n m a b at_n at_m same nexts h g
        go (inl h) (inr g) = absurd (not_first m n b a at_m at_n (omega arith) h back)
        go (inr h) (inl g) = absurd (not_first n m a b at_n at_m (omega arith) g there_is)
        go (inr h) (inr g) = omega arith
