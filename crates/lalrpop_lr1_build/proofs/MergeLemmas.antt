-- Steps of putting two lists of items in order together: for merging.
use Rattle.std.proofs.Common.{◌≡◌, ◌∙◌, ◌↔◌, ◌⊎◌, ℕ, suc, ◌<◌, ◌≤◌, ◌||◌, Bool, true}
use Rattle.std.proofs.Common.{false, List, [], ◌∷◌, ◌++◌}
use Rattle.std.proofs.Common.{Contains, refl, sym, ap, subst, arith, inl, inr, ⊎_elim, append-nil, append_assoc}
use Rattle.std.proofs.lemmas.List.Elements.{Contains-append_cases, Contains-append_left, Contains-append_right}
use Rattle.lalrpop_lr1_theory.proofs.ListLemmas.{contains_here, contains_split}
use Rattle.lalrpop_sets.specs.AscendingLists.{Ascends, AscendsFrom, has}
use Rattle.lalrpop_lr1_build.specs.Kernels.{HaveOrderedLookaheads, places_of}
use Rattle.lalrpop_lr1_build.specs.Merges.{AddsJoined, AreBefore, Merges, NoneBefore, TakesBefore}
use Rattle.lalrpop_lr1_theory.proofs.NameLemmas.{no_element}

-- what ascends from a number on ascends from each smaller one on
pub ascends_less : (a b : ℕ) (xs : List ℕ) → a ≤ b → AscendsFrom b xs → AscendsFrom a xs
ascends_less a b [] l h = tt
ascends_less a b (x ∷ xs) l h = (omega (arith, h.0), h.1)

or_part : (a b : Bool) → (a || b) ≡ true → (a ≡ true) ⊎ (b ≡ true)
or_part true b h = inl refl
or_part false b h = inr h

or_one : (a b : Bool) → a ≡ true → (a || b) ≡ true
or_one true b h = refl
or_one false b h = let z : ⊥ = cc in absurd z

or_other : (a b : Bool) → b ≡ true → (a || b) ≡ true
or_other true b h = refl
or_other false b h = h

module _ {L : Type 0} where
  -- an item at the place whose lookahead is such
  abbrev Has : (L → Type 0) → List (ℕ × L) → ℕ → Type 0
  Has Q items i = (l : L) × Contains items (i, l) × Q l

  has_left : (Q : L → Type 0) (xs ys : List (ℕ × L)) (i : ℕ) → Has Q xs i → Has Q (xs ++ ys) i
  has_left Q xs ys i h = (h.0, Contains-append_left xs ys (i, h.0) h.1, h.2)

  has_last : (Q : L → Type 0) (xs : List (ℕ × L)) (p : ℕ) (l : L) (i : ℕ) → p ≡ i → Q l → Has Q (xs ++ (p, l) ∷ []) i
  has_last Q xs p l i e q = (
    l,
    Contains-append_right xs ((p, l) ∷ []) (i, l) (subst (λ j. Contains {X = ℕ × L} ((p, l) ∷ []) (j, l)) e
        (contains_here (p, l) [])),
    q,
  )

  has_parts : (Q : L → Type 0) (xs : List (ℕ × L)) (p : ℕ) (l : L) (i : ℕ) → Has Q (xs ++ (p, l) ∷ []) i →
      Has Q xs i ⊎ ((p ≡ i) × Q l)
  has_parts Q xs p l i h = ⊎_elim
      (λ c. inl (h.0, c, h.2))
      (λ c. ⊎_elim
      (λ e. inr (ap (λ (x : ℕ × L). x.0) e, subst Q (sym (ap (λ (x : ℕ × L). x.1) e)) h.2))
      (λ d. absurd (no_element (i, h.0) d)) (contains_split (p, l) (i, h.0) [] c))
      (Contains-append_cases xs ((p, l) ∷ []) (i, h.0) h.1)

  module _ (Q : L → Type 0) (K B items : List (ℕ × L)) (i : ℕ) (old : Has Q items i ↔ (Has Q K i ⊎ Has Q B i)) (p : ℕ) where
    kernel_more : (l : L) → Has Q (items ++ (p, l) ∷ []) i ↔ (Has Q (K ++ (p, l) ∷ []) i ⊎ Has Q B i)
    kernel_more l = (
      λ h. ⊎_elim
          (λ o. ⊎_elim (λ k. inl (has_left Q K ((p, l) ∷ []) i k)) (λ b. inr b) (old.0 o))
          (λ e. inl (has_last Q K p l i e.0 e.1)) (has_parts Q items p l i h),
      λ h. ⊎_elim
          (λ k. ⊎_elim (λ o. has_left Q items ((p, l) ∷ []) i (old.1 (inl o))) (λ e. has_last Q items p l i e.0 e.1)
          (has_parts Q K p l i k))
          (λ b. has_left Q items ((p, l) ∷ []) i (old.1 (inr b))) h,
    )

    brought_more : (l : L) → Has Q (items ++ (p, l) ∷ []) i ↔ (Has Q K i ⊎ Has Q (B ++ (p, l) ∷ []) i)
    brought_more l = (
      λ h. ⊎_elim
          (λ o. ⊎_elim (λ k. inl k) (λ b. inr (has_left Q B ((p, l) ∷ []) i b)) (old.0 o))
          (λ e. inr (has_last Q B p l i e.0 e.1)) (has_parts Q items p l i h),
      λ h. ⊎_elim
          (λ k. has_left Q items ((p, l) ∷ []) i (old.1 (inl k)))
          (λ b. ⊎_elim (λ o. has_left Q items ((p, l) ∷ []) i (old.1 (inr o))) (λ e. has_last Q items p l i e.0 e.1)
          (has_parts Q B p l i b)) h,
    )

    both_more : (l m j : L) → (Q j → Q l ⊎ Q m) → (Q l → Q j) → (Q m → Q j) →
        Has Q (items ++ (p, j) ∷ []) i ↔ (Has Q (K ++ (p, m) ∷ []) i ⊎ Has Q (B ++ (p, l) ∷ []) i)
    both_more l m j parts one other = (
      λ h. ⊎_elim
          (λ o. ⊎_elim (λ k. inl (has_left Q K ((p, m) ∷ []) i k)) (λ b. inr (has_left Q B ((p, l) ∷ []) i b)) (old.0 o))
          (λ e. ⊎_elim (λ q. inr (has_last Q B p l i e.0 q)) (λ q. inl (has_last Q K p m i e.0 q)) (parts e.1))
          (has_parts Q items p j i h),
      λ h. ⊎_elim
          (λ k. ⊎_elim (λ o. has_left Q items ((p, j) ∷ []) i (old.1 (inl o))) (λ e. has_last Q items p j i e.0 (other e.1))
          (has_parts Q K p m i k))
          (λ b. ⊎_elim (λ o. has_left Q items ((p, j) ∷ []) i (old.1 (inr o))) (λ e. has_last Q items p j i e.0 (one e.1))
          (has_parts Q B p l i b)) h,
    )

  abbrev Any : L → Type 0
  Any l = Unit {0}

  places_push : (items : List (ℕ × L)) (p : ℕ) (l : L) (ys : List ℕ) →
      places_of (items ++ (p, l) ∷ []) ++ ys ≡ places_of items ++ p ∷ ys
  places_push [] p l ys = refl
  places_push (x ∷ items) p l ys = ap (λ zs. x.0 ∷ zs) (places_push items p l ys)

module _ {L : Type 0} (marks : L → List ℕ) (in_order : L → Type 0) where
  abbrev M : ℕ → L → Type 0
  M k l = has (marks l) k ≡ true

  -- what was merged so far: the items have what was taken from the kernel and from what was brought, and all that is left is above
  pub record MergesSoFar (kernel brought items rest todo : List (ℕ × L)) : Type 0 where
    pub K : List (ℕ × L)
    pub B : List (ℕ × L)
    pub kernel_parts : kernel ≡ K ++ rest
    pub brought_parts : brought ≡ B ++ todo
    pub low : ℕ
    pub rest_above : AscendsFrom low (places_of rest)
    pub todo_above : AscendsFrom low (places_of todo)
    pub onward : (ys : List ℕ) → AscendsFrom low ys → Ascends (places_of items ++ ys)
    pub ordered : HaveOrderedLookaheads in_order items
    pub places : (i : ℕ) → Has Any items i ↔ (Has Any K i ⊎ Has Any B i)
    pub marked : (i k : ℕ) → Has (M k) items i ↔ (Has (M k) K i ⊎ Has (M k) B i)

  nothing : (Q : L → Type 0) (i : ℕ) → Has Q [] i ↔ (Has Q [] i ⊎ Has Q [] i)
  nothing Q i = (λ h. inl h, λ h. ⊎_elim (λ x. x) (λ x. x) h)

  pub merges_none : (kernel brought : List (ℕ × L)) → Ascends (places_of kernel) → Ascends (places_of brought) →
      MergesSoFar kernel brought [] kernel brought
  merges_none kernel brought k b = record {
    K = [];
    B = [];
    kernel_parts = refl;
    brought_parts = refl;
    low = 0;
    rest_above = k;
    todo_above = b;
    onward = λ ys h. h;
    ordered = λ i l c. absurd (no_element (i, l) c);
    places = λ i. nothing Any i;
    marked = λ i k. nothing (M k) i;
  }

  ordered_more : (items : List (ℕ × L)) (p : ℕ) (l : L) → HaveOrderedLookaheads in_order items → in_order l →
      HaveOrderedLookaheads in_order (items ++ (p, l) ∷ [])
  ordered_more items p l h o i m c = ⊎_elim
      (λ d. h i m d)
      (λ d. ⊎_elim (λ e. subst in_order (ap (λ (x : ℕ × L). x.1) e) o) (λ e. absurd (no_element (i, m) e))
      (contains_split (p, l) (i, m) [] d))
      (Contains-append_cases items ((p, l) ∷ []) (i, m) c)

  module _ (kernel brought : List (ℕ × L)) (ordered : HaveOrderedLookaheads in_order kernel) where
    -- an item of the kernel more, which stands before all that is left of what was brought
    step_kernel : (items : List (ℕ × L)) (p : ℕ) (l : L) (rest todo : List (ℕ × L)) →
        MergesSoFar kernel brought items ((p, l) ∷ rest) todo → AscendsFrom (suc p) (places_of todo) →
        MergesSoFar kernel brought (items ++ (p, l) ∷ []) rest todo
    step_kernel items p l rest todo m above = record {
      K = m.K ++ (p, l) ∷ [];
      B = m.B;
      kernel_parts = m.kernel_parts ∙ sym (append_assoc (m.K) ((p, l) ∷ []) (rest));
      brought_parts = m.brought_parts;
      low = suc p;
      rest_above = m.rest_above.1;
      todo_above = above;
      onward = λ ys h. subst Ascends (sym (places_push items p l ys)) (m.onward (p ∷ ys) (m.rest_above.0, h));
      ordered = ordered_more items p l m.ordered (ordered p l (subst (λ ks. Contains ks (p, l)) (sym m.kernel_parts)
          (Contains-append_right m.K ((p, l) ∷ rest) (p, l) (contains_here (p, l) rest))));
      places = λ i. kernel_more Any m.K m.B items i (m.places i) p l;
      marked = λ i k. kernel_more (M k) m.K m.B items i (m.marked i k) p l;
    }

    -- those of the kernel that stand before a place, which nothing that is left of what was brought does
    pub steps_before : (place : ℕ) (before rest items todo : List (ℕ × L)) →
        MergesSoFar kernel brought items (before ++ rest) todo → AreBefore place before → AscendsFrom place (places_of todo) →
        MergesSoFar kernel brought (items ++ before) rest todo
    steps_before place [] rest items todo m b above =
        subst (λ xs. MergesSoFar kernel brought xs rest todo) (sym (append-nil items)) m
    steps_before place (x ∷ before) rest items todo m b above =
        subst (λ xs. MergesSoFar kernel brought xs rest todo) (append_assoc (items) (x ∷ []) (before))
        (steps_before place before rest (items ++ x ∷ []) todo
        (step_kernel items x.0 x.1 (before ++ rest) todo m (ascends_less (suc x.0) place (places_of todo) b.0 above)) b.1 above)

    -- all that is left of the kernel, behind what was brought
    pub steps_all : (rest items : List (ℕ × L)) → MergesSoFar kernel brought items rest [] →
        MergesSoFar kernel brought (items ++ rest) [] []
    steps_all [] items m = subst (λ xs. MergesSoFar kernel brought xs [] []) (sym (append-nil items)) m
    steps_all (x ∷ rest) items m =
        subst (λ xs. MergesSoFar kernel brought xs [] []) (append_assoc (items) (x ∷ []) (rest))
        (steps_all rest (items ++ x ∷ []) (step_kernel items x.0 x.1 rest [] m tt))

    above_alone : (place low : ℕ) (rest : List (ℕ × L)) → AscendsFrom low (places_of rest) → NoneBefore place rest →
        ((item : ℕ × L) (others : List (ℕ × L)) → rest ≡ item ∷ others → item.0 ≡ place → ⊥) →
        AscendsFrom (suc place) (places_of rest)
    above_alone place low [] h n apart = tt
    above_alone place low (x ∷ rest) h n apart =
        let z : x.0 ≡ place → ⊥ = apart x rest refl in (omega (arith, n, z), h.1)

    -- the first that was brought
    pub step_brought : (place : ℕ) (l : L) (rest todo items new left : List (ℕ × L)) →
        MergesSoFar kernel brought items rest ((place, l) ∷ todo) → NoneBefore place rest →
        AddsJoined marks in_order rest place l items new left → MergesSoFar kernel brought new left todo
    step_brought place l rest todo items new left m none (inl j) =
        let n = subst (λ ks. MergesSoFar kernel brought items ks ((place, l) ∷ todo)) j.parts m in
        subst (λ xs. MergesSoFar kernel brought xs left todo) (sym j.added) (record {
          K = n.K ++ (place, j.other) ∷ [];
          B = n.B ++ (place, l) ∷ [];
          kernel_parts = n.kernel_parts ∙ sym (append_assoc (n.K) ((place, j.other) ∷ []) (left));
          brought_parts = n.brought_parts ∙ sym (append_assoc (n.B) ((place, l) ∷ []) (todo));
          low = suc place;
          rest_above = n.rest_above.1;
          todo_above = n.todo_above.1;
          onward = λ ys h. subst Ascends (sym (places_push items place j.joined ys)) (n.onward (place ∷ ys) (n.todo_above.0, h));
          ordered = ordered_more items place j.joined n.ordered j.ordered;
          places = λ i. both_more Any n.K n.B items i (n.places i) place l j.other j.joined (λ q. inl tt) (λ q. tt) (λ q. tt);
          marked = λ i k. both_more (M k) n.K n.B items i (n.marked i k) place l j.other j.joined
              (λ q. or_part (has (marks l) k) (has (marks j.other) k) (sym (j.marks_are k) ∙ q))
              (λ q. j.marks_are k ∙ or_one (has (marks l) k) (has (marks j.other) k) q)
              (λ q. j.marks_are k ∙ or_other (has (marks l) k) (has (marks j.other) k) q);
        })
    step_brought place l rest todo items new left m none (inr a) =
        subst (λ ks. MergesSoFar kernel brought new ks todo) (sym a.left)
        (subst (λ xs. MergesSoFar kernel brought xs rest todo) (sym a.added) (record {
          K = m.K;
          B = m.B ++ (place, l) ∷ [];
          kernel_parts = m.kernel_parts;
          brought_parts = m.brought_parts ∙ sym (append_assoc (m.B) ((place, l) ∷ []) (todo));
          low = suc place;
          rest_above = above_alone place m.low rest m.rest_above none a.apart;
          todo_above = m.todo_above.1;
          onward = λ ys h. subst Ascends (sym (places_push items place l ys)) (m.onward (place ∷ ys) (m.todo_above.0, h));
          ordered = ordered_more items place l m.ordered a.ordered;
          places = λ i. brought_more Any m.K m.B items i (m.places i) place l;
          marked = λ i k. brought_more (M k) m.K m.B items i (m.marked i k) place l;
        }))

    -- one turn of the loop
    pub merges_more : (place : ℕ) (l : L) (rest mid left todo items between new : List (ℕ × L)) →
        MergesSoFar kernel brought items rest ((place, l) ∷ todo) → TakesBefore place rest items between mid →
        AddsJoined marks in_order mid place l between new left → MergesSoFar kernel brought new left todo
    merges_more place l rest mid left todo items between new m t a =
        step_brought place l mid todo between new left
        (subst (λ xs. MergesSoFar kernel brought xs mid ((place, l) ∷ todo)) (sym t.added)
        (steps_before place t.before mid items ((place, l) ∷ todo)
        (subst (λ ks. MergesSoFar kernel brought items ks ((place, l) ∷ todo)) t.parts m) t.are_before
        (omega arith, m.todo_above.1)))
        t.none_before a

    -- at the end
    pub merges_all : (rest items new : List (ℕ × L)) → MergesSoFar kernel brought items rest [] → new ≡ items ++ rest →
        Merges marks in_order kernel brought new
    merges_all rest items new m e =
        let n = steps_all rest items m in
        let k : kernel ≡ n.K = n.kernel_parts ∙ append-nil n.K in
        let b : brought ≡ n.B = n.brought_parts ∙ append-nil n.B in
        subst (Merges marks in_order kernel brought) (sym e)
        (subst (λ xs. Merges marks in_order xs brought (items ++ rest)) (sym k)
        (subst (λ xs. Merges marks in_order n.K xs (items ++ rest)) (sym b) (record {
          ascending = subst Ascends (append-nil (places_of (items ++ rest))) (n.onward [] tt);
          ordered = n.ordered;
          places = λ i. (
            λ h. ⊎_elim (λ k. inl (k.0, k.1)) (λ b. inr (b.0, b.1)) ((n.places i).0 (h.0, h.1, tt)),
            λ h. let r = (n.places i).1 (⊎_elim (λ k. inl (k.0, k.1, tt)) (λ b. inr (b.0, b.1, tt)) h) in (r.0, r.1),
          );
          marks_are = n.marked;
        })))

-- one more that stands before the place
pub before_more : {L : Type 0} (place : ℕ) (items : List (ℕ × L)) (p : ℕ) (l : L) → AreBefore place items → p < place →
    AreBefore place (items ++ (p, l) ∷ [])
before_more place [] p l h b = (b, tt)
before_more place (x ∷ items) p l h b = (h.0, before_more place items p l h.1 b)

-- a step of taking those that stand before a place
pub record TakesSoFar {L : Type 0} (place : ℕ) (kernel old new rest : List (ℕ × L)) : Type 0 where
  pub before : List (ℕ × L)
  pub parts : kernel ≡ before ++ rest
  pub added : new ≡ old ++ before
  pub are_before : AreBefore place before

-- before the first step nothing of the kernel is taken, and all of it is left
pub takes_none : {L : Type 0} (place : ℕ) (kernel old : List (ℕ × L)) → TakesSoFar place kernel old old kernel
takes_none place kernel old = record { before = []; parts = refl; added = sym (append-nil old); are_before = tt }

-- the next item left is taken, too, where it stands before the place
pub takes_more : {L : Type 0} (place : ℕ) (kernel old new rest : List (ℕ × L)) (item : ℕ × L) (others : List (ℕ × L)) (l : L)
    (next : List (ℕ × L)) → TakesSoFar place kernel old new rest → rest ≡ item ∷ others → item.0 < place → l ≡ item.1 →
    next ≡ new ++ (item.0, l) ∷ [] → TakesSoFar place kernel old next others
takes_more place kernel old new rest item others l next t e b s n = record {
  before = t.before ++ item ∷ [];
  parts = t.parts ∙ ap (λ xs. t.before ++ xs) e ∙ sym (append_assoc (t.before) (item ∷ []) (others));
  added = n ∙ ap (λ m. new ++ (item.0, m) ∷ []) s ∙ ap (λ xs. xs ++ item ∷ []) t.added
      ∙ append_assoc (old) (t.before) (item ∷ []);
  are_before = before_more place t.before item.0 item.1 t.are_before b;
}

pub takes_end : {L : Type 0} (place : ℕ) (kernel old new rest : List (ℕ × L)) → TakesSoFar place kernel old new rest →
    NoneBefore place rest → TakesBefore place kernel old new rest
takes_end place kernel old new rest t n =
    record { before = t.before; parts = t.parts; added = t.added; are_before = t.are_before; none_before = n }
