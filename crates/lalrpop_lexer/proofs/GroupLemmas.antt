-- Alphabet classes in groups by their marks, one more after another, and what is known of groups. For `marked_groups` and `explore`.
use Rattle.std.proofs.Common.{◌≡◌, ℕ, ◌+◌, ◌<◌, ◌≤◌, ◌⊎◌, List, [], ◌∷◌, ◌++◌, length, get_or, set}
use Rattle.std.proofs.Common.{map, Option, Some, None, IfSome, inl, inr, ⊎_elim, sym, ap, ◌∙◌, refl, subst, arith}
use Rattle.std.specs.Prelude.{slice_index_or, replicate}
use Rattle.std.proofs.lemmas.Bool.{cases_lt, cases_eq}
use Rattle.std.proofs.lemmas.List.{get_or-set_same, get_or-set_other, get_or_append_left, get_or_push, get_or_past}
use Rattle.std.proofs.lemmas.List.{length_push, length-map, map_push, get_or-replicate, length-replicate}
use Rattle.lalrpop_lexer_nfa.specs.declared.test.Test.{Test}
use Rattle.lalrpop_lexer.specs.Targets.{start_at, StartsAscend}
use Rattle.lalrpop_lexer.specs.States.{HasKernel}
use Rattle.lalrpop_lexer.specs.Groups.{AreMarkedGroups}

-- the group that is known for a mark
abbrev pub known_at : List (Option ℕ) → ℕ → Option ℕ
known_at known mark = slice_index_or known mark None

-- the first pieces are in groups by their marks
pub record AreMarkedSoFar (pieces : List Test) (marks : List ℕ) (n : ℕ) (known : List (Option ℕ)) (numbers : List ℕ)
    (firsts : List Test) : Type 0 where
  pub size : length numbers ≡ n
  pub inside : (i : ℕ) → i < n → get_or numbers i 0 < length firsts
  pub ascending : StartsAscend firsts
  pub kept : (i : ℕ) → i < n → known_at known (get_or marks i 0) ≡ Some (get_or numbers i 0)
  pub below : (m g : ℕ) → known_at known m ≡ Some g → g < length firsts
  pub apart : (m k g : ℕ) → known_at known m ≡ Some g → known_at known k ≡ Some g → m ≡ k
  pub first : (g : ℕ) → g < length firsts → (j : ℕ) × (j < n) × (get_or numbers j 0 ≡ g)
      × (start_at firsts g ≡ start_at pieces j)

-- what holds of the numbers so far and of one more
number_push : (numbers : List ℕ) (g n : ℕ) (P : ℕ → ℕ → Type 0) → length numbers ≡ n
    → ((i : ℕ) → i < n → P i (get_or numbers i 0))
    → P n g → (i : ℕ) → i < n + 1 → P i (get_or (numbers ++ g ∷ []) i 0)
number_push numbers g n P size all one i l =
    ⊎_elim
    (λ (less : i < n). subst (P i) (sym (get_or_append_left numbers (g ∷ []) 0 i (omega arith))) (all i less))
    (λ (more : n ≤ i).
    let at : i ≡ n = omega arith in
    let Q : ℕ → Type 0 = λ k. P k (get_or (numbers ++ g ∷ []) k 0) in
    subst Q (sym at) (subst (P n) (sym (get_or_push numbers g 0 n size)) one))
    (cases_lt i n)

start_kept : (firsts : List Test) (piece : Test) (g : ℕ) → g < length firsts
    → start_at (firsts ++ piece ∷ []) g ≡ start_at firsts g
start_kept firsts piece g l =
    ap (λ (xs : List ℕ). get_or xs g 0) (map_push (λ (t : Test). t.start) firsts piece)
    ∙ get_or_append_left (map (λ (t : Test). t.start) firsts) (piece.start ∷ []) 0 g
    (omega (arith, length-map firsts (λ (t : Test). t.start)))

start_last : (firsts : List Test) (piece : Test) → start_at (firsts ++ piece ∷ []) (length firsts) ≡ piece.start
start_last firsts piece =
    ap (λ (xs : List ℕ). get_or xs (length firsts) 0) (map_push (λ (t : Test). t.start) firsts piece)
    ∙ get_or_push (map (λ (t : Test). t.start) firsts) piece.start 0 (length firsts) (length-map firsts (λ (t : Test). t.start))

-- nothing is known yet
pub known_none : (known : List (Option ℕ)) (n m : ℕ) → known ≡ replicate n None → known_at known m ≡ None
known_none known n m is =
    let P : List (Option ℕ) → Type 0 = λ xs. known_at xs m ≡ None in
    subst P (sym is)
    (⊎_elim (λ (less : m < n). get_or-replicate n m None None less)
    (λ (more : n ≤ m).
    let nothing : Option ℕ = None in
    get_or_past (replicate n None) m None (omega (arith, length-replicate n nothing))) (cases_lt m n))

-- what is asked of a known number, where one is known
pub if_known : (known : List (Option ℕ)) (g : ℕ) (o : Option ℕ) (P : ℕ → Type 0) → known_at known g ≡ o
    → ((n : ℕ) → known_at known g ≡ Some n → P n) → IfSome o P
if_known known g None P is h = tt
if_known known g (Some n) P is h = h n is

-- no piece is in a group
pub marked_none : (pieces : List Test) (marks : List ℕ) (known : List (Option ℕ)) (n : ℕ) → known ≡ replicate n None
    → AreMarkedSoFar pieces marks 0 known [] []
marked_none pieces marks known n none = record {
  size = refl;
  inside = λ i l. absurd (omega arith);
  ascending = λ i j order l. absurd (omega arith);
  kept = λ i l. absurd (omega arith);
  below = λ m g is. let no = known_none known n m none in cc;
  apart = λ m k g is also. let no = known_none known n m none in cc;
  first = λ g l. absurd (omega arith);
}

-- one more piece, whose mark has a group
pub marked_known : (pieces : List Test) (marks : List ℕ) (n : ℕ) (known : List (Option ℕ)) (numbers : List ℕ) (firsts : List Test)
    (g : ℕ) → known_at known (get_or marks n 0) ≡ Some g → AreMarkedSoFar pieces marks n known numbers firsts →
    AreMarkedSoFar pieces marks (n + 1) known (numbers ++ g ∷ []) firsts
marked_known pieces marks n known numbers firsts g is h = record {
  size = omega (arith, length_push numbers g, h.size);
  inside = number_push numbers g n (λ i v. v < length firsts) h.size h.inside (h.below (get_or marks n 0) g is);
  ascending = h.ascending;
  kept = number_push numbers g n (λ i v. known_at known (get_or marks i 0) ≡ Some v) h.size h.kept is;
  below = h.below;
  apart = h.apart;
  first = λ f l. let old = h.first f l in (
    old.0,
    omega (arith, old.1),
    get_or_append_left numbers (g ∷ []) 0 old.0 (omega (arith, old.1, h.size)) ∙ old.2,
    old.3,
  );
}

-- one more piece, whose mark has none
module _ (pieces : List Test) (marks : List ℕ) (n : ℕ) (known : List (Option ℕ)) (numbers : List ℕ) (firsts : List Test)
    (piece : Test) (up : StartsAscend pieces) (within : n < length pieces) (is : piece.start ≡ start_at pieces n)
    (inside : get_or marks n 0 < length known) (none : known_at known (get_or marks n 0) ≡ None)
    (h : AreMarkedSoFar pieces marks n known numbers firsts) where
  abbrev mark : ℕ
  mark = get_or marks n 0

  abbrev new : ℕ
  new = length firsts

  abbrev grown : List (Option ℕ)
  grown = set known mark (Some new)

  size : length (firsts ++ piece ∷ []) ≡ new + 1
  size = length_push firsts piece

  last : start_at (firsts ++ piece ∷ []) new ≡ start_at pieces n
  last = start_last firsts piece ∙ is

  read_new : known_at grown mark ≡ Some new
  read_new = get_or-set_same known mark (Some new) None inside

  read_old : (m : ℕ) → (m ≡ mark → ⊥) → known_at grown m ≡ known_at known m
  read_old m apart = get_or-set_other known mark m (Some new) None apart

  -- a number that is known is the new one of this mark, or was known
  known_cases : (m g : ℕ) → known_at grown m ≡ Some g → ((m ≡ mark) × (g ≡ new)) ⊎ (known_at known m ≡ Some g)
  known_cases m g k =
      ⊎_elim
      (λ (at : m ≡ mark).
      let here : known_at grown m ≡ Some new = ap (known_at grown) at ∙ read_new in
      let this : g ≡ new = cc in
      inl (at, this))
      (λ (apart : m ≡ mark → ⊥). inr (sym (read_old m apart) ∙ k))
      (cases_eq m mark)

  pub marked_new : AreMarkedSoFar pieces marks (n + 1) grown (numbers ++ new ∷ []) (firsts ++ piece ∷ [])
  marked_new = record {
    size = omega (arith, length_push numbers new, h.size);
    inside = number_push numbers new n (λ i v. v < length (firsts ++ piece ∷ [])) h.size (λ i l. omega (arith, h.inside i l, size))
        (omega (arith, size));
    ascending = λ i j order l. ⊎_elim
        (λ (less : j < length firsts).
        omega (arith, start_kept firsts piece i (omega arith), start_kept firsts piece j less, h.ascending i j order less))
        (λ (more : length firsts ≤ j).
        let at : j ≡ new = omega (arith, size) in
        let old = h.first i (omega arith) in
        omega (
          arith,
          start_kept firsts piece i (omega arith),
          ap (start_at (firsts ++ piece ∷ [])) at,
          last,
          old.3,
          up old.0 n old.1 within,
        ))
        (cases_lt j (length firsts));
    kept = number_push numbers new n (λ i v. known_at grown (get_or marks i 0) ≡ Some v) h.size
        (λ i l.
        let old = h.kept i l in
        read_old (get_or marks i 0) (λ at. let here : known_at known (get_or marks i 0) ≡ None = ap (known_at known) at ∙ none in cc)
        ∙ old) read_new;
    below = λ m g k. ⊎_elim (λ one. omega (arith, one.1, size)) (λ old. omega (arith, h.below m g old, size)) (known_cases m g k);
    apart = λ m k g a b. ⊎_elim
        (λ one. ⊎_elim (λ two. one.0 ∙ sym two.0) (λ old. absurd (omega (arith, h.below k g old, one.1))) (known_cases k g b))
        (λ old. ⊎_elim (λ two. absurd (omega (arith, h.below m g old, two.1))) (λ both. h.apart m k g old both) (known_cases k g b))
        (known_cases m g a);
    first = λ g l. ⊎_elim
        (λ (less : g < length firsts).
        let old = h.first g less in (
          old.0,
          omega (arith, old.1),
          get_or_append_left numbers (new ∷ []) 0 old.0 (omega (arith, old.1, h.size)) ∙ old.2,
          start_kept firsts piece g less ∙ old.3,
        ))
        (λ (more : length firsts ≤ g).
        let at : g ≡ new = omega (arith, size) in
        (n, omega arith, get_or_push numbers new 0 n h.size ∙ sym at, ap (start_at (firsts ++ piece ∷ [])) at ∙ last))
        (cases_lt g (length firsts));
  }

-- all pieces are in groups
pub marked_all : (pieces : List Test) (marks : List ℕ) (n : ℕ) (known : List (Option ℕ)) (numbers : List ℕ) (firsts : List Test)
    → n ≡ length pieces → AreMarkedSoFar pieces marks n known numbers firsts → AreMarkedGroups pieces marks numbers firsts
marked_all pieces marks n known numbers firsts all h = record {
  size = h.size ∙ all;
  inside = λ i l. h.inside i (omega arith);
  ascending = h.ascending;
  same = λ i j l k.
      let a = h.kept i (omega arith) in
      let b = h.kept j (omega arith) in (
        λ (one : get_or numbers i 0 ≡ get_or numbers j 0).
            h.apart (get_or marks i 0) (get_or marks j 0) (get_or numbers j 0) (a ∙ ap (λ (g : ℕ). Some g) one) b,
        λ (one : get_or marks i 0 ≡ get_or marks j 0). let at = ap (known_at known) one in cc,
      );
  first = λ g l. let j = h.first g l in (j.0, omega (arith, j.1), j.2, j.3);
}

-- one more known number, of a state that was made for what its group leads to
pub known_more : (known : List (Option ℕ)) (group : ℕ) (new : Option ℕ) (to : ℕ) (targets : ℕ → List ℕ)
    (old entries : List (List ℕ × ℕ)) → group < length known → new ≡ Some to → HasKernel entries to (targets group) →
    ((m : ℕ) (k : List ℕ) → HasKernel old m k → HasKernel entries m k) →
    ((g n : ℕ) → known_at known g ≡ Some n → HasKernel old n (targets g)) →
    (g n : ℕ) → known_at (set known group new) g ≡ Some n → HasKernel entries n (targets g)
known_more known group new to targets old entries inside is_new here kept before g n is =
    ⊎_elim
    (λ (at : g ≡ group).
    let read : known_at (set known group new) g ≡ Some to =
    ap (known_at (set known group new)) at ∙ get_or-set_same known group new None inside ∙ is_new in
    let this : to ≡ n = cc in
    let P : ℕ → Type 0 = λ m. HasKernel entries m (targets g) in
    let Q : ℕ → Type 0 = λ h. HasKernel entries to (targets h) in
    subst P this (subst Q (sym at) here))
    (λ (apart : g ≡ group → ⊥). kept n (targets g) (before g n (sym (get_or-set_other known group g new None apart) ∙ is)))
    (cases_eq g group)
