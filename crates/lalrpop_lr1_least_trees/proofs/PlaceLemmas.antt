-- Several symbols, by their places, and the trees in front of a place, at it and behind it: for loops over symbols.
use Rattle.std.proofs.Common.{◌≡◌, ◌∙◌, ℕ, suc, ◌+◌, ◌-◌, ◌^◌, ◌<◌, ◌≤◌, min, Bool, List}
use Rattle.std.proofs.Common.{[], ◌∷◌, ◌++◌, length, sym, ap, subst, refl}
use Rattle.std.proofs.Common.{arith, drop, get_or, length-drop, map, take, Option, Some, None, inl, inr}
use Rattle.std.specs.Prelude.{IfSome}
use Rattle.std.proofs.Math.Seq.{drop-cons}
use Rattle.std.proofs.lemmas.List.{map-append, take-append-drop, take_all, take_more}
use Rattle.lalrpop_grammar_symbols.specs.Symbols.{Terminal}
use Rattle.lalrpop_lr1_theory.specs.Productions.{Production, Symbol}
use Rattle.lalrpop_lr1_theory.specs.Trees.{Move}
use Rattle.lalrpop_lr1_theory.proofs.StepLemmas.{some_same}
use Rattle.lalrpop_lr1_least_trees.specs.LeastTrees.{capped_count}
use Rattle.lalrpop_lr1_least_trees.specs.declared.rest_trees.begin_place.BeginPlace.{BeginPlace}
use Rattle.lalrpop_lr1_least_trees.specs.BeginPlaces.{HasBeginPlace, IsBeginPlace, IsEitherPlace, counts_beside, place_behind, place_here}
use Rattle.lalrpop_lr1_least_trees.specs.RestForests.{AnyLeaves, AreRestMoves, BeginsWith, CountsRest, HasNoRest, HasRest, IsRestCount}
use Rattle.lalrpop_lr1_least_trees.specs.RestForests.{LeavesOfKind, NoLeaves}
use Rattle.lalrpop_lr1_least_trees.proofs.RestLemmas.{begins_any, count_beside, counts_kinds, kinds_join, moves_beside, none_begins}
use Rattle.lalrpop_lr1_least_trees.proofs.RestLemmas.{none_beside, place_more}

-- what a program reads behind a place
pub read_behind : {X : Type 0} (xs : List X) (i : ℕ) → take (length xs - (i + 1)) (drop (i + 1) xs) ≡ drop (suc i) xs
read_behind xs i =
    take_all (length xs - (i + 1)) (drop (i + 1) xs) (omega (arith, length-drop (i + 1) xs))
    ∙ ap (λ k. drop k xs) (let z : i + 1 ≡ suc i = omega arith in z)

module _ {X : Type 0} (view : X → Symbol) (xs : List X) where
  -- all of them, seen up to a place
  pub views_whole : (i : ℕ) → length xs ≤ i → map view (take i xs) ≡ map view xs
  views_whole i h = ap (map view) (take_all i xs h)

  module _ (i : ℕ) (x : X) (inside : i < length xs) (is : x ≡ get_or xs i x) where
    views_more : map view (take (i + 1) xs) ≡ map view (take i xs) ++ view x ∷ []
    views_more =
        ap (map view) (take_more xs i x inside) ∙ map-append view (take i xs) (get_or xs i x ∷ [])
        ∙ ap (λ y. map view (take i xs) ++ view y ∷ []) (sym is)

    views_from : map view (drop i xs) ≡ view x ∷ map view (drop (suc i) xs)
    views_from = ap (map view) (drop-cons xs i x inside) ∙ ap (λ y. view y ∷ map view (drop (suc i) xs)) (sym is)

    views_parts : map view xs ≡ map view (take i xs) ++ view x ∷ map view (drop (suc i) xs)
    views_parts =
        ap (map view) (sym (take-append-drop i xs)) ∙ map-append view (take i xs) (drop i xs)
        ∙ ap (λ l. map view (take i xs) ++ l) views_from

    module _ (G : Production → Type 0) (leaves : Bool) where
      pub count_more : (m n k : ℕ) → IsRestCount G (map view (take i xs)) (LeavesOfKind leaves) m →
          IsRestCount G (view x ∷ []) (LeavesOfKind leaves) n → k ≡ min (m + n) (2 ^ 64 - 1) →
          IsRestCount G (map view (take (i + 1) xs)) (LeavesOfKind leaves) k
      count_more m n k a b e =
          subst (λ l. IsRestCount G l (LeavesOfKind leaves) k) (sym views_more)
          (count_beside G (kinds_join leaves) (map view (take i xs)) (view x ∷ []) m n k a b e)

      pub moves_more : (ms ns : List Move) → AreRestMoves G (map view (take i xs)) (LeavesOfKind leaves) ms →
          AreRestMoves G (view x ∷ []) (LeavesOfKind leaves) ns →
          AreRestMoves G (map view (take (i + 1) xs)) (LeavesOfKind leaves) (ms ++ ns)
      moves_more ms ns a b =
          subst (λ l. AreRestMoves G l (LeavesOfKind leaves) (ms ++ ns)) (sym views_more)
          (moves_beside G (kinds_join leaves) (map view (take i xs)) (view x ∷ []) ms ns a b)

      -- a symbol without such a tree leaves none for all
      pub none_at : HasNoRest G (view x ∷ []) (LeavesOfKind leaves) → HasNoRest G (map view xs) (LeavesOfKind leaves)
      none_at missing =
          subst (λ l. HasNoRest G l (LeavesOfKind leaves)) (sym views_parts)
          (none_beside G leaves (map view (take i xs)) (view x ∷ map view (drop (suc i) xs))
          (inr (none_beside G leaves (view x ∷ []) (map view (drop (suc i) xs)) (inl missing))))

    -- from behind, with one symbol more in front
    module _ (G : Production → Type 0) (behind : ℕ) (next : behind ≡ suc i) where
      from_behind : map view (drop i xs) ≡ view x ∷ map view (drop behind xs)
      from_behind = views_from ∙ ap (λ k. view x ∷ map view (drop k xs)) (sym next)

      pub counts_before : (leaves : Bool) (m n : Option ℕ) → CountsRest G (view x ∷ []) (LeavesOfKind leaves) m →
          CountsRest G (map view (drop behind xs)) (LeavesOfKind leaves) n →
          CountsRest G (map view (drop i xs)) (LeavesOfKind leaves) (counts_beside m n)
      counts_before leaves m n a b =
          subst (λ l. CountsRest G l (LeavesOfKind leaves) (counts_beside m n)) (sym from_behind)
          (counts_kinds G leaves (view x ∷ []) (map view (drop behind xs)) m n a b)

      pub place_before : (t : Terminal) (here empty rest : Option ℕ) (later found : Option BeginPlace) →
          CountsRest G (view x ∷ []) (BeginsWith t) here → CountsRest G (view x ∷ []) NoLeaves empty →
          CountsRest G (map view (drop behind xs)) AnyLeaves rest → HasBeginPlace G (map view (drop behind xs)) t behind later →
          IsEitherPlace (place_here i (counts_beside here rest)) (place_behind empty later) found →
          HasBeginPlace G (map view (drop i xs)) t i found
      place_before t here empty rest later found h m b l e =
          subst (λ l. HasBeginPlace G l t i found) (sym from_behind)
          (place_more G t (view x) (map view (drop behind xs)) i here empty rest later found h m b
          (subst (λ k. HasBeginPlace G (map view (drop behind xs)) t k later) next l) e)

-- what stands in front of a place, at it and behind it, in a list that is seen as these symbols
pub record ArePartsAt {X : Type 0} (view : X → Symbol) (xs : List X) (before : List Symbol) (symbol : Symbol) (after : List Symbol) :
    Type 0 where
  pub front : map view (take (length before) xs) ≡ before
  pub here : (x : X) → x ≡ get_or xs (length before) x → view x ≡ symbol
  pub behind : map view (drop (suc (length before)) xs) ≡ after

pub parts_at : {X : Type 0} (view : X → Symbol) (xs : List X) (before : List Symbol) (symbol : Symbol) (after : List Symbol) →
    map view xs ≡ before ++ symbol ∷ after → ArePartsAt view xs before symbol after
parts_at view [] [] symbol after e = let z : ⊥ = cc in absurd z
parts_at view [] (s ∷ before) symbol after e = let z : ⊥ = cc in absurd z
parts_at view (x ∷ xs) [] symbol after e =
    let one : view x ≡ symbol = cc in let others : map view xs ≡ after = cc in
    record { front = refl; here = λ y h. ap view h ∙ one; behind = others }
parts_at view (x ∷ xs) (s ∷ before) symbol after e =
    let one : view x ≡ s = cc in let others : map view xs ≡ before ++ symbol ∷ after = cc in
    let r = parts_at view xs before symbol after others in
    record {
      front = ap (λ y. y ∷ map view (take (length before) xs)) one ∙ ap (λ l. s ∷ l) r.front;
      here = r.here;
      behind = r.behind;
    }

module _ {X : Type 0} (view : X → Symbol) (xs : List X) (G : Production → Type 0) (t : Terminal) (p : BeginPlace) where
  -- the trees that begin at a place, by the symbols in front of it, at it and behind it
  pub record AreTreesAt : Type 0 where
    pub front : HasRest G (map view (take p.place xs)) NoLeaves
    pub here : (x : X) → x ≡ get_or xs p.place x → HasRest G (view x ∷ []) (BeginsWith t)
    pub behind : HasRest G (map view (drop (suc p.place) xs)) AnyLeaves

  pub trees_at : IsBeginPlace G (map view xs) t 0 p → AreTreesAt
  trees_at b =
      let r = parts_at view xs b.before b.symbol b.after b.parts in
      let place : p.place ≡ length b.before = omega (arith, b.place_is) in
      record {
        front = subst (λ l. HasRest G l NoLeaves) (sym (ap (λ k. map view (take k xs)) place ∙ r.front)) b.front;
        here = λ x is.
            subst (λ y. HasRest G (y ∷ []) (BeginsWith t)) (sym (r.here x (is ∙ ap (λ k. get_or xs k x) place))) b.here;
        behind = subst (λ l. HasRest G l AnyLeaves) (sym (ap (λ k. map view (drop (suc k) xs)) place ∙ r.behind)) b.behind;
      }

-- there are trees, where none are told
pub there_is : (G : Production → Type 0) (ss : List Symbol) (Wanted : List Terminal → Type 0) → HasRest G ss Wanted →
    HasNoRest G ss Wanted → ⊥
there_is G ss Wanted r missing = missing r.trees r.over r.roots_are r.wanted

-- moves of trees without leaves, of one that begins with the terminal, and of any, are those of trees that begin with it
pub moves_at : {X : Type 0} (view : X → Symbol) (xs : List X) (i : ℕ) (x : X) → i < length xs → x ≡ get_or xs i x →
    (G : Production → Type 0) (t : Terminal) (a b c : List Move) → AreRestMoves G (map view (take i xs)) NoLeaves a →
    AreRestMoves G (view x ∷ []) (BeginsWith t) b → AreRestMoves G (map view (drop (suc i) xs)) AnyLeaves c →
    AreRestMoves G (map view xs) (BeginsWith t) (a ++ (b ++ c))
moves_at view xs i x inside is G t a b c front here behind =
    subst (λ l. AreRestMoves G l (BeginsWith t) (a ++ (b ++ c))) (sym (views_parts view xs i x inside is))
    (moves_beside G (none_begins t) (map view (take i xs)) (view x ∷ map view (drop (suc i) xs)) a (b ++ c) front
    (moves_beside G (begins_any t) (view x ∷ []) (map view (drop (suc i) xs)) b c here behind))

-- the place stays inside, with one symbol more in front
pub inside_more : (n i : ℕ) (here empty : Option ℕ) (later found : Option BeginPlace) → i < n →
    IfSome later (λ (p : BeginPlace). p.place < n) → IsEitherPlace (place_here i here) (place_behind empty later) found →
    IfSome found (λ (p : BeginPlace). p.place < n)
inside_more n i here empty later None h k e = tt
inside_more n i None empty later (Some p) h k (inl e) = let z : ⊥ = cc in absurd z
inside_more n i (Some m) empty later (Some p) h k (inl e) =
    subst (λ (q : BeginPlace). q.place < n) (some_same (record { place = i; count = m }) p e) h
inside_more n i here None later (Some p) h k (inr e) = let z : ⊥ = cc in absurd z
inside_more n i here (Some m) None (Some p) h k (inr e) = let z : ⊥ = cc in absurd z
inside_more n i here (Some m) (Some q) (Some p) h k (inr e) =
    subst (λ (q : BeginPlace). q.place < n) (some_same (record q { count = capped_count (m + q.count) }) p e) k
