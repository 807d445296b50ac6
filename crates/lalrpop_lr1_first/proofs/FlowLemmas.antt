-- What flows along edges, sweep by sweep: for closures.
use Rattle.std.proofs.Common.{◌≡◌, ◌∙◌, ℕ, zero, suc, ◌+◌, ◌<◌, ◌≤◌, Bool, true, false, not, ◌||◌}
use Rattle.std.proofs.Common.{◌&&◌, eqb, List, [], ◌∷◌}
use Rattle.std.proofs.Common.{length, get_or, set, refl, sym, ap, subst, arith, ◌⊎◌, inl, inr, ⊎_elim, slice_get, Some, None}
use Rattle.std.proofs.Common.{Option}
use Rattle.std.proofs.lemmas.Bool.{cases_lt}
use Rattle.std.proofs.lemmas.Option.{slice_get_within}
use Rattle.lalrpop_sets.specs.AscendingLists.{has}
use Rattle.lalrpop_lr1_first.specs.Numbers.{set_of_number}
use Rattle.lalrpop_lr1_first.specs.FirstSteps.{missing_in}
use Rattle.lalrpop_lr1_first.specs.Flows.{AreBelow, EdgesAreWithin, FlowEdge, Flows, MarksAreWithin, all_marks, begins, brings, passes}
use Rattle.lalrpop_lr1_first.specs.Flows.{slot_marks, starts}
use Rattle.lalrpop_lr1_first.specs.FlowSteps.{FlowsTo, HasFlowedAlong, IsFlowing, adds}
use Rattle.lalrpop_lr1_first.specs.Walks.{place_in_walk}
use Rattle.lalrpop_lr1_first.proofs.ListLemmas.{at_set_other, at_set_same, both_and, eqb_true}
use Rattle.lalrpop_grammar_symbols.proofs.BoolLemmas.{and_both}
use Rattle.lalrpop_sets.proofs.AscendingListLemmas.{cases_eq}
use Rattle.lalrpop_sets.proofs.AscendingListLemmas.{eqb_not}
use Rattle.lalrpop_sets.proofs.AscendingListLemmas.{eqb_self}
use Rattle.lalrpop_lr1_first.proofs.ListLemmas.{get_any}
use Rattle.lalrpop_lr1_first.proofs.ListLemmas.{or_cases, or_left, or_right, set_itself}
use Rattle.lalrpop_lr1_first.proofs.MissingLemmas.{missing_less, missing_set}
use Rattle.lalrpop_lr1_first.proofs.WalkPlaceLemmas.{walk_step}

-- before the first sweep the sets are the seed, and they count as changed, so that a sweep follows
pub flowing_start : (firsts : Bool) (end : ℕ) (edges : List FlowEdge) (seed : List (List ℕ)) → AreBelow (end + 3) seed →
    IsFlowing firsts end edges seed seed true
flowing_start firsts end edges seed b = record {
  below = b;
  kept = λ a k h. h;
  sound = λ a k h. begins a k h;
  closed = λ e. let z : ⊥ = cc in absurd z;
}

-- what is closed has all that flows
pub closed_has : (firsts : Bool) (end : ℕ) (edges : List FlowEdge) (seed sets : List (List ℕ)) →
    ((a k : ℕ) → has (set_of_number seed a) k ≡ true → has (set_of_number sets a) k ≡ true) →
    ((r : ℕ) (e : FlowEdge) (k : ℕ) → slice_get edges r ≡ Some e → adds firsts end e sets k ≡ true →
    has (set_of_number sets e.to) k ≡ true) → (a k : ℕ) → Flows firsts end edges seed a k →
    has (set_of_number sets a) k ≡ true
closed_has firsts end edges seed sets w c a k (begins _ _ h) = w a k h
closed_has firsts end edges seed sets w c a k (brings r e there d) =
    let x = closed_has firsts end edges seed sets w c e.from (end + 2) d in
    c r e (end + 2) there (both_and (has (set_of_number sets e.from) (end + 2)) (eqb (end + 2) (end + 2) ||
    ((firsts && (not (eqb (end + 2) end) && has e.first (end + 2))) || (has e.first end && has (set_of_number sets e.from)
    (end + 2)))) x
    (or_left (eqb (end + 2) (end + 2)) ((firsts && (not (eqb (end + 2) end) && has e.first (end + 2))) || (has e.first end && has
    (set_of_number sets e.from) (end + 2))) (eqb_self (end + 2))))
closed_has firsts end edges seed sets w c a k (starts r e _ there d f h) =
    let x = closed_has firsts end edges seed sets w c e.from (end + 2) d in
    c r e k there (both_and (has (set_of_number sets e.from) (end + 2)) (eqb (end + 2) k ||
    ((firsts && (not (eqb k end) && has e.first k)) || (has e.first end && has (set_of_number sets e.from) k))) x
    (or_right (eqb (end + 2) k) ((firsts && (not (eqb k end) && has e.first k)) || (has e.first end && has (set_of_number sets e.from) k))
    (or_left (firsts && (not (eqb k end) && has e.first k)) (has e.first end && has (set_of_number sets e.from) k) (both_and firsts
    (not (eqb k end) && has e.first k) f h))))
closed_has firsts end edges seed sets w c a k (passes r e _ there d h d') =
    let x = closed_has firsts end edges seed sets w c e.from (end + 2) d in
    let y = closed_has firsts end edges seed sets w c e.from k d' in
    c r e k there (both_and (has (set_of_number sets e.from) (end + 2)) (eqb (end + 2) k ||
    ((firsts && (not (eqb k end) && has e.first k)) || (has e.first end && has (set_of_number sets e.from) k))) x
    (or_right (eqb (end + 2) k) ((firsts && (not (eqb k end) && has e.first k)) || (has e.first end && has (set_of_number sets e.from) k))
    (or_right (firsts && (not (eqb k end) && has e.first k)) (has e.first end && has (set_of_number sets e.from) k)
    (both_and (has e.first end) (has (set_of_number sets e.from) k) h y))))

-- what an edge adds flows
pub added_flows : (firsts : Bool) (end : ℕ) (edges : List FlowEdge) (seed sets : List (List ℕ)) (r : ℕ) (e : FlowEdge) (k : ℕ) →
    slice_get edges r ≡ Some e → ((a j : ℕ) → has (set_of_number sets a) j ≡ true → Flows firsts end edges seed a j) →
    adds firsts end e sets k ≡ true → Flows firsts end edges seed e.to k
added_flows firsts end edges seed sets r e k there d h =
    let rest = eqb (end + 2) k || ((firsts && (not (eqb k end) && has e.first k)) || (has e.first end && has (set_of_number sets e.from)
    k)) in
    let p = and_both (has (set_of_number sets e.from) (end + 2)) rest h in
    let x = d e.from (end + 2) p.0 in
    ⊎_elim
    (λ (z : eqb (end + 2) k ≡ true). subst (λ j. Flows firsts end edges seed e.to j) (eqb_true (end + 2) k z) (brings r e there x))
    (λ (z : ((firsts && (not (eqb k end) && has e.first k)) || (has e.first end && has (set_of_number sets e.from) k)) ≡ true).
    ⊎_elim
    (λ (y : (firsts && (not (eqb k end) && has e.first k)) ≡ true). let q = and_both firsts (not (eqb k end) && has e.first k) y in
    starts r e k there x q.0 q.1)
    (λ (y : (has e.first end && has (set_of_number sets e.from) k) ≡ true). let q = and_both (has e.first end)
    (has (set_of_number sets e.from) k) y in passes r e k there x q.0 (d e.from k q.1))
    (or_cases (firsts && (not (eqb k end) && has e.first k)) (has e.first end && has (set_of_number sets e.from) k) z))
    (or_cases (eqb (end + 2) k) ((firsts && (not (eqb k end) && has e.first k)) || (has e.first end && has (set_of_number sets e.from) k))
    p.1)

-- a sweep that has gone over no edge yet has changed nothing
pub flowed_start : (firsts : Bool) (end : ℕ) (edges : List FlowEdge) (forward : Bool) (old : List (List ℕ)) → AreBelow (end + 3) old →
    FlowsTo firsts end edges forward 0 old old false
flowed_start firsts end edges forward old b = record {
  below = b;
  kept = λ a k h. h;
  sound = λ seed h. h;
  same = λ e. refl;
  closed = λ z r e k h. absurd (omega arith);
  less = λ e. let z : ⊥ = cc in absurd z;
}

edge_is : (a b : FlowEdge) → Some a ≡ Some b → a ≡ b
edge_is a b e = cc

flowed_le : (firsts : Bool) (end : ℕ) (edges : List FlowEdge) (forward : Bool) (i : ℕ) (old new : List (List ℕ)) (changed : Bool) →
    FlowsTo firsts end edges forward i old new changed → missing_in (end + 3) new ≤ missing_in (end + 3) old
flowed_le firsts end edges forward i old new true p = let l = p.less refl in omega arith
flowed_le firsts end edges forward i old new false p = let e = p.same refl in subst (λ s. missing_in (end + 3) new ≤ missing_in (end + 3) s) e
    (omega arith)

module _ (firsts : Bool) (end : ℕ) (edges : List FlowEdge) (forward : Bool) (i : ℕ) (e : FlowEdge)
    (here : slice_get edges (place_in_walk forward (length edges) i) ≡ Some e) (old new : List (List ℕ)) (changed : Bool)
    (p : FlowsTo firsts end edges forward i old new changed) where
  -- an edge that adds nothing new
  pub flowed_same : (changed ≡ false → (k : ℕ) → adds firsts end e new k ≡ true → has (set_of_number new e.to) k ≡ true) →
      FlowsTo firsts end edges forward (i + 1) old new changed
  flowed_same h = record {
    below = p.below;
    kept = p.kept;
    sound = p.sound;
    same = p.same;
    less = p.less;
    closed = λ b r o k l there said. go b r o k (cases_lt r i) l there said;
  }
    where
      go : changed ≡ false → (r : ℕ) (o : FlowEdge) (k : ℕ) → (r < i) ⊎ (i ≤ r) → r < i + 1 →
          slice_get edges (place_in_walk forward (length edges) r) ≡ Some o → adds firsts end o new k ≡ true → has (set_of_number new o.to) k ≡ true
      go b r o k (inl m) l there said = p.closed b r o k m there said
      go b r o k (inr m) l there said =
          let t : e ≡ o = edge_is e o (sym here ∙ ap (λ j. slice_get edges (place_in_walk forward (length edges) j))
          (let w : i ≡ r = omega arith in w) ∙ there) in
          subst (λ (z : FlowEdge). adds firsts end z new k ≡ true → has (set_of_number new z.to) k ≡ true) t (h b k) said

  -- an edge that adds something
  pub flowed_grown : (s : List ℕ) → e.to < length new →
      ((k : ℕ) → has s k ≡ has (set_of_number new e.to) k || adds firsts end e new k) →
      ((k : ℕ) → adds firsts end e new k ≡ true → k < end + 3) →
      ((k : ℕ) × (has s k ≡ true) × (has (set_of_number new e.to) k ≡ false)) →
      FlowsTo firsts end edges forward (i + 1) old (set new e.to s) true
  flowed_grown s l joined small g = record {
    below = λ a k h. ⊎_elim
        (λ (z : e.to ≡ a). ⊎_elim (λ y. p.below e.to k y) (λ y. small k y) (parts a k z h))
        (λ (z : e.to ≡ a → ⊥). p.below a k (ap (λ t. has t k) (sym (at_set_other new e.to a s z)) ∙ h)) (cases_eq e.to a);
    kept = λ a k h. keeps a k (p.kept a k h);
    sound = λ seed d a k h. let d' = p.sound seed d in ⊎_elim
        (λ (z : e.to ≡ a). subst (λ b. Flows firsts end edges seed b k) z (⊎_elim (λ y. d' e.to k y)
        (λ y. added_flows firsts end edges seed new (place_in_walk forward (length edges) i) e k here d' y) (parts a k z h)))
        (λ (z : e.to ≡ a → ⊥). d' a k (ap (λ t. has t k) (sym (at_set_other new e.to a s z)) ∙ h)) (cases_eq e.to a);
    same = λ z. let w : ⊥ = cc in absurd w;
    closed = λ z. let w : ⊥ = cc in absurd w;
    less = λ z.
        let q = missing_set (end + 3) new e.to s l (missing_less (end + 3) (set_of_number new e.to) s g.0 (λ k h. joined k
        ∙ or_left (has (set_of_number new e.to) k) (adds firsts end e new k) h) (fresh g.0 g.1 g.2) g.2 g.1) in
        let r = flowed_le firsts end edges forward i old new changed p in omega arith;
  }
    where
      parts : (a k : ℕ) → e.to ≡ a → has (set_of_number (set new e.to s) a) k ≡ true →
          (has (set_of_number new e.to) k ≡ true) ⊎ (adds firsts end e new k ≡ true)
      parts a k z h = or_cases (has (set_of_number new e.to) k) (adds firsts end e new k) (sym (joined k)
          ∙ ap (λ t. has t k) (sym (at_set_same new e.to s l) ∙ ap (set_of_number (set new e.to s)) z) ∙ h)

      keeps : (a k : ℕ) → has (set_of_number new a) k ≡ true → has (set_of_number (set new e.to s) a) k ≡ true
      keeps a k h = ⊎_elim
          (λ (z : e.to ≡ a). ap (λ t. has t k) (sym (ap (set_of_number (set new e.to s)) z) ∙ at_set_same new e.to s l) ∙ joined k
          ∙ or_left (has (set_of_number new e.to) k) (adds firsts end e new k) (ap (λ b. has (set_of_number new b) k) z ∙ h))
          (λ (z : e.to ≡ a → ⊥). ap (λ t. has t k) (at_set_other new e.to a s z) ∙ h) (cases_eq e.to a)

      fresh : (k : ℕ) → has s k ≡ true → has (set_of_number new e.to) k ≡ false → k < end + 3
      fresh k h n = small k (sym (ap (λ b. b || adds firsts end e new k) n) ∙ sym (joined k) ∙ h)

-- ---- from the code's options to lists
pub at_all_marks : {L : Type 0} (marks : L → List ℕ) (here : ℕ) (slots : List (Option L)) (a : ℕ) →
    set_of_number (all_marks marks here slots) a ≡ slot_marks marks here (get_or slots a None)
at_all_marks marks here [] a = refl
at_all_marks marks here (l ∷ slots) zero = refl
at_all_marks marks here (l ∷ slots) (suc a) = at_all_marks marks here slots a

-- exchanging one slot exchanges just that slot's marks among the marks of all
pub all_marks_set : {L : Type 0} (marks : L → List ℕ) (here : ℕ) (slots : List (Option L)) (a : ℕ) (l : Option L) →
    all_marks marks here (set slots a l) ≡ set (all_marks marks here slots) a (slot_marks marks here l)
all_marks_set marks here [] a l = refl
all_marks_set marks here (x ∷ slots) zero l = refl
all_marks_set marks here (x ∷ slots) (suc a) l = ap (λ t. slot_marks marks here x ∷ t) (all_marks_set marks here slots a l)

-- there are as many sets of marks as slots
pub length_all_marks : {L : Type 0} (marks : L → List ℕ) (here : ℕ) (slots : List (Option L)) →
    length (all_marks marks here slots) ≡ length slots
length_all_marks marks here [] = refl
length_all_marks marks here (x ∷ slots) = ap suc (length_all_marks marks here slots)

-- what a place has, read as the code reads it
pub read_slot_marks : {L : Type 0} (marks : L → List ℕ) (here : ℕ) (slots : List (Option L)) (a : ℕ) (x : Option L) →
    a < length slots → x ≡ get_or slots a x → slot_marks marks here x ≡ set_of_number (all_marks marks here slots) a
read_slot_marks marks here slots a x h e = sym (at_all_marks marks here slots a ∙ ap (slot_marks marks here) (get_any slots a None x h
    ∙ sym e))

-- what an edge adds where its source is there
pub adds_some : (firsts : Bool) (end : ℕ) (e : FlowEdge) (sets : List (List ℕ)) (marks result : List ℕ) →
    set_of_number sets e.from ≡ (end + 2) ∷ marks →
    ((k : ℕ) → has result k ≡ (firsts && (not (eqb k end) && has e.first k)) || (has e.first end && has marks k)) →
    (k : ℕ) → eqb (end + 2) k || has result k ≡ adds firsts end e sets k
adds_some firsts end e sets marks result s h k =
    subst (λ t. eqb (end + 2) k || has result k ≡ has t (end + 2) && (eqb (end + 2) k ||
    ((firsts && (not (eqb k end) && has e.first k)) || (has e.first end && has t k)))) (sym s)
    (ap (λ b. eqb (end + 2) k || b) (h k) ∙ go (eqb (end + 2) k) (firsts && (not (eqb k end) && has e.first k)) (has e.first end)
    (has marks k) ∙ sym (ap (λ b. (b || has marks (end + 2)) && (eqb (end + 2) k || ((firsts && (not (eqb k end) && has e.first k))
    || (has e.first end && (eqb (end + 2) k || has marks k))))) (eqb_self (end + 2))))
  where
    go : (q f n m : Bool) → q || (f || (n && m)) ≡ q || (f || (n && (q || m)))
    go true f n m = refl
    go false f n m = refl

-- and where it is not
pub adds_none : (firsts : Bool) (end : ℕ) (e : FlowEdge) (sets : List (List ℕ)) → set_of_number sets e.from ≡ [] →
    (k : ℕ) → adds firsts end e sets k ≡ false
adds_none firsts end e sets s k = ap (λ t. has t (end + 2) && (eqb (end + 2) k || ((firsts && (not (eqb k end) && has e.first k)) ||
    (has e.first end && has t k)))) s

-- what an edge adds is a mark
pub adds_small : (firsts : Bool) (end : ℕ) (e : FlowEdge) (sets : List (List ℕ)) → AreBelow (end + 3) sets →
    ((k : ℕ) → has e.first k ≡ true → k ≤ end) → (k : ℕ) → adds firsts end e sets k ≡ true → k < end + 3
adds_small firsts end e sets b f k h =
    let tail = (firsts && (not (eqb k end) && has e.first k)) || (has e.first end && has (set_of_number sets e.from) k) in
    let p = and_both (has (set_of_number sets e.from) (end + 2)) (eqb (end + 2) k || tail) h in
    ⊎_elim
    (λ (z : eqb (end + 2) k ≡ true). let y = eqb_true (end + 2) k z in omega arith)
    (λ (z : tail ≡ true). ⊎_elim
    (λ (y : (firsts && (not (eqb k end) && has e.first k)) ≡ true). let q = f k (and_both (not (eqb k end)) (has e.first k)
    (and_both firsts (not (eqb k end) && has e.first k) y).1).1 in omega arith)
    (λ (y : (has e.first end && has (set_of_number sets e.from) k) ≡ true). b e.from k (and_both (has e.first end)
    (has (set_of_number sets e.from) k) y).1)
    (or_cases (firsts && (not (eqb k end) && has e.first k)) (has e.first end && has (set_of_number sets e.from) k) z))
    (or_cases (eqb (end + 2) k) tail p.1)

module _ {L : Type 0} (marks : L → List ℕ) (firsts : Bool) (end : ℕ) (edges : List FlowEdge) (n : ℕ)
    (edges_in : EdgesAreWithin end n edges) (forward : Bool) (i : ℕ) (e : FlowEdge)
    (here : slice_get edges (place_in_walk forward (length edges) i) ≡ Some e)
    (first now : List (Option L)) (wide : length now ≡ n) (changed : Bool) (p : FlowsTo firsts end edges forward i (all_marks marks
    (end + 2) first) (all_marks marks (end + 2) now) changed) (x : Option L) (read : x ≡ get_or now e.from x) where
  source : slot_marks marks (end + 2) x ≡ set_of_number (all_marks marks (end + 2) now) e.from
  source = read_slot_marks marks (end + 2) now e.from x (let h : e.from < n = (edges_in (place_in_walk forward (length edges) i) e here).from in omega arith) read

  pub step_none : x ≡ None → FlowsTo firsts end edges forward (i + 1) (all_marks marks (end + 2) first) (all_marks marks (end + 2) now)
      changed
  step_none z = flowed_same firsts end edges forward i e here (all_marks marks (end + 2) first) (all_marks marks (end + 2) now) changed p
      (λ b k h. let y : false ≡ true = sym (adds_none firsts end e (all_marks marks (end + 2) now) (sym source
      ∙ ap (slot_marks marks (end + 2)) z) k) ∙ h in let w : ⊥ = cc in absurd w)

  module _ (l : L) (is : x ≡ Some l) (came : L) (flow : (k : ℕ) →
      has (marks came) k ≡ (firsts && (not (eqb k end) && has e.first k)) || (has e.first end && has (marks l) k)) (t t' : Option L)
      (target : t ≡ get_or now e.to t)
      (joined : (here k : ℕ) → has (slot_marks marks here t') k ≡ (has (slot_marks marks here t) k || (eqb here k || has
      (marks came) k))) where
    added : (k : ℕ) → eqb (end + 2) k || has (marks came) k ≡ adds firsts end e (all_marks marks (end + 2) now) k
    added k = adds_some firsts end e (all_marks marks (end + 2) now) (marks l) (marks came) (sym source
        ∙ ap (slot_marks marks (end + 2)) is) flow k

    at_target : slot_marks marks (end + 2) t ≡ set_of_number (all_marks marks (end + 2) now) e.to
    at_target = read_slot_marks marks (end + 2) now e.to t (let h : e.to < n = (edges_in (place_in_walk forward (length edges) i) e here).to in omega arith) target

    joins : (k : ℕ) → has (slot_marks marks (end + 2) t') k ≡ has (set_of_number (all_marks marks (end + 2) now) e.to) k || adds
        firsts end e (all_marks marks (end + 2) now) k
    joins k = joined (end + 2) k ∙ ap (λ s. has s k || (eqb (end + 2) k || has (marks came) k)) at_target
        ∙ ap (λ b. has (set_of_number (all_marks marks (end + 2) now) e.to) k || b) (added k)

    pub step_same : t' ≡ t → FlowsTo firsts end edges forward (i + 1) (all_marks marks (end + 2) first) (all_marks marks (end + 2)
        (set now e.to t')) changed
    step_same z =
        let q : all_marks marks (end + 2) (set now e.to t') ≡ all_marks marks (end + 2) now =
        all_marks_set marks (end + 2) now e.to t' ∙ ap (λ s. set (all_marks marks (end + 2) now) e.to (slot_marks marks (end + 2) s)) z
        ∙ ap (set (all_marks marks (end + 2) now) e.to) at_target ∙ set_itself (all_marks marks (end + 2) now) e.to in
        subst (λ s. FlowsTo firsts end edges forward (i + 1) (all_marks marks (end + 2) first) s changed) (sym q)
        (flowed_same firsts end edges forward i e here (all_marks marks (end + 2) first) (all_marks marks (end + 2) now) changed p
        (λ b k h. ap (λ s. has s k) (sym at_target ∙ ap (slot_marks marks (end + 2)) (sym z)) ∙ joins k
        ∙ or_right (has (set_of_number (all_marks marks (end + 2) now) e.to) k) (adds firsts end e (all_marks marks (end + 2) now)
        k) h))

    small_mark : (k : ℕ) → adds firsts end e (all_marks marks (end + 2) now) k ≡ true → k < end + 3
    small_mark = adds_small firsts end e (all_marks marks (end + 2) now) p.below (edges_in (place_in_walk forward (length edges) i) e here).first

    pub small_came : ((k : ℕ) → has (marks l) k ≡ true → k ≤ end + 1) → (k : ℕ) → has (marks came) k ≡ true →
        k < end + 2
    small_came b k h = ⊎_elim
        (λ (y : (firsts && (not (eqb k end) && has e.first k)) ≡ true). let q =
        (edges_in (place_in_walk forward (length edges) i) e here).first k (and_both (not (eqb k end)) (has e.first k) (and_both firsts (not (eqb k end) && has e.first k)
        y).1).1 in omega arith)
        (λ (y : (has e.first end && has (marks l) k) ≡ true). let q = b k (and_both (has e.first end) (has (marks l) k) y).1 in
        omega arith)
        (or_cases (firsts && (not (eqb k end) && has e.first k)) (has e.first end && has (marks l) k) (sym (flow k) ∙ h))

    pub step_grown : ((k : ℕ) × (has (slot_marks marks (end + 2) t') k ≡ true)
        × (has (slot_marks marks (end + 2) t) k ≡ false)) → FlowsTo firsts end edges forward (i + 1) (all_marks marks (end + 2) first)
        (all_marks marks (end + 2) (set now e.to t')) true
    step_grown f =
        subst (λ s. FlowsTo firsts end edges forward (i + 1) (all_marks marks (end + 2) first) s true)
        (sym (all_marks_set marks (end + 2) now e.to t'))
        (flowed_grown firsts end edges forward i e here (all_marks marks (end + 2) first) (all_marks marks (end + 2) now) changed p
        (slot_marks marks (end + 2) t')
        (let h : e.to < n = (edges_in (place_in_walk forward (length edges) i) e here).to in omega (arith, length_all_marks marks (end + 2) now)) joins small_mark (
          f.0,
          f.1,
          ap (λ s. has s f.0) (sym at_target) ∙ f.2,
        ))

get_set_any : {X : Type 0} (xs : List X) (a b : ℕ) (v d : X) → (a ≡ b → ⊥) → get_or (set xs a v) b d ≡ get_or xs b d
get_set_any [] a b v d h = refl
get_set_any (x ∷ xs) zero zero v d h = absurd (h refl)
get_set_any (x ∷ xs) zero (suc b) v d h = refl
get_set_any (x ∷ xs) (suc a) zero v d h = refl
get_set_any (x ∷ xs) (suc a) (suc b) v d h = get_set_any xs a b v d (λ e. h (ap suc e))

get_set_here : {X : Type 0} (xs : List X) (a : ℕ) (v d : X) → a < length xs → get_or (set xs a v) a d ≡ v
get_set_here [] a v d h = absurd (omega arith)
get_set_here (x ∷ xs) zero v d h = refl
get_set_here (x ∷ xs) (suc a) v d h = get_set_here xs a v d (omega arith)

-- marks stay in range where something is joined
pub marks_step : {L : Type 0} (marks : L → List ℕ) (end : ℕ) (now : List (Option L)) (to : ℕ) (came : L) (t t' : Option L) →
    to < length now → MarksAreWithin marks end now → t ≡ get_or now to t
    → ((here k : ℕ) → has (slot_marks marks here t') k ≡ (has (slot_marks marks here t) k || (eqb here k || has
    (marks came) k))) → ((k : ℕ) → has (marks came) k ≡ true → k < end + 2) → MarksAreWithin marks end (set now to t')
marks_step {L} marks end now to came t t' w m read joined small a l e k h = ⊎_elim
    (λ (z : to ≡ a). at (sym (get_set_here now to t' None w) ∙ ap (λ i. get_or (set now to t') i None) z ∙ e))
    (λ (z : to ≡ a → ⊥). m a l (sym (get_set_any now to a t' None z) ∙ e) k h)
    (cases_eq to a)
  where
    apart : eqb (k + 1) k ≡ false
    apart = eqb_not (k + 1) k (λ z. omega arith)

    old : (s : Option L) → s ≡ t → has (slot_marks marks (k + 1) s) k ≡ true → k ≤ end + 1
    old None z y = let v : ⊥ = cc in absurd v
    old (Some l0) z y = m to l0 (get_any now to None t w ∙ sym read ∙ sym z) k (sym (ap (λ b. b || has (marks l0) k) apart) ∙ y)

    at : t' ≡ Some l → k ≤ end + 1
    at z = ⊎_elim
        (λ y. old t refl y)
        (λ y. let q = small k (sym (ap (λ b. b || has (marks came) k) apart) ∙ y) in omega arith)
        (or_cases (has (slot_marks marks (k + 1) t) k) (eqb (k + 1) k || has (marks came) k) (sym (joined (k + 1) k)
        ∙ ap (λ s. has (slot_marks marks (k + 1) s) k) z ∙ or_right (eqb (k + 1) k) (has (marks l) k) h))

-- what is read within a list of slots is read there with none as the default, too
pub at_none : {X : Type 0} (xs : List (Option X)) (a : ℕ) (x : Option X) → a < length xs → x ≡ get_or xs a x →
    get_or xs a None ≡ x
at_none xs a x h e = get_any xs a None x h ∙ sym e

pub put_back : {X : Type 0} (xs : List X) (a : ℕ) (t t' : X) → t ≡ get_or xs a t → t' ≡ t → set xs a t' ≡ xs
put_back [] a t t' e z = refl
put_back (x ∷ xs) zero t t' e z = ap (λ y. y ∷ xs) (z ∙ e)
put_back (x ∷ xs) (suc a) t t' e z = ap (λ l. x ∷ l) (put_back xs a t t' e z)

-- slots whose lookaheads are in range have marks in range
pub marks_below : {L : Type 0} (marks : L → List ℕ) (end : ℕ) (now : List (Option L)) → MarksAreWithin marks end now →
    AreBelow (end + 3) (all_marks marks (end + 2) now)
marks_below {L} marks end now within s k h = go (get_or now s None) refl (ap (λ t. has t k) (sym (at_all_marks marks (end + 2) now s))
    ∙ h)
  where
    go : (o : Option L) → get_or now s None ≡ o → has (slot_marks marks (end + 2) o) k ≡ true → k < end + 3
    go None e g = let w : ⊥ = cc in absurd w
    go (Some l) e g = ⊎_elim
        (λ z. let y = eqb_true (end + 2) k z in omega arith)
        (λ z. let y = within s l e k z in omega arith)
        (or_cases (eqb (end + 2) k) (has (marks l) k) g)

-- what the edges at all steps of a walk add is what all edges do
pub flowed_all : (firsts : Bool) (end : ℕ) (edges : List FlowEdge) (forward : Bool) (sets : List (List ℕ)) →
    HasFlowedAlong firsts end edges forward (length edges) sets → (r : ℕ) (e : FlowEdge) (k : ℕ) → slice_get edges r ≡ Some e →
    adds firsts end e sets k ≡ true → has (set_of_number sets e.to) k ≡ true
flowed_all firsts end edges forward sets closed r e k there said =
    let step = walk_step forward (length edges) r (slice_get_within edges r e there) in
    closed step.0 e k step.1 (ap (slice_get edges) step.2 ∙ there) said
