-- Paths are listed exactly: all of them, and nothing else.
use Rattle.std.proofs.Common.{◌≡◌, ℕ, zero, suc, ◌≤◌, ◌<◌, ◌+◌, ◌↔◌, ◌⊎◌, ◌∙◌, Bool, true, false, cond, List, [], ◌∷◌, map, length, refl, sym, ap, subst}
use Rattle.std.proofs.Common.{inl, inr, ⊎_elim, arith, Contains}
use Rattle.std.specs.Prelude.{eqb, flat_map, ◌||◌}
use Rattle.std.specs.List.{list_any, IsDistinct, AllByRecursion}
use Rattle.std.proofs.lemmas.Map.Steps.{length-le_from_distinct_below}
use Rattle.std.proofs.lemmas.Map.Keys.{IsDistinct-cons}
use Rattle.std.proofs.lemmas.List.Elements.{Contains-append_left, Contains-append_right, Contains-append_cases}
use Rattle.lalrpop_lr1_theory.proofs.ListLemmas.{contains_here, contains_later, contains_split}
use Rattle.lalrpop_lr1_theory.proofs.NameLemmas.{no_element}
use Rattle.lalrpop_lane_report.specs.Paths.{PathGraph, IsBackwardPath, arrives, through, is_among, past, paths}
use Rattle.lalrpop_lane_report.specs.PathWalks.{AreNodesBelow}

pub in_flat : {A B : Type 0} (f : A → List B) (xs : List A) (y : B) → Contains (flat_map f xs) y → (x : A) × Contains xs x × Contains (f x) y
in_flat f [] y k = absurd (no_element y k)
in_flat {A = A} f (x ∷ xs) y k = go (in_flat f xs y) (Contains-append_cases (f x) (flat_map f xs) y k)
  where
    go : (Contains (flat_map f xs) y → (z : A) × Contains xs z × Contains (f z) y) → Contains (f x) y ⊎ Contains (flat_map f xs) y →
        (z : A) × Contains (x ∷ xs) z × Contains (f z) y
    go rec (inl h) = (x, contains_here x xs, h)
    go rec (inr h) = let r : (z : A) × Contains xs z × Contains (f z) y = rec h in (r.0, contains_later x r.0 xs r.1, r.2)

pub flat_has : {A B : Type 0} (f : A → List B) (xs : List A) (x : A) (y : B) → Contains xs x → Contains (f x) y → Contains (flat_map f xs) y
flat_has f [] x y k h = absurd (no_element x k)
flat_has f (z ∷ xs) x y k h =
    ⊎_elim (λ e. Contains-append_left (f z) (flat_map f xs) y (subst (λ v. Contains (f v) y) (sym e) h))
    (λ d. Contains-append_right (f z) (flat_map f xs) y (flat_has f xs x y d h)) (contains_split z x xs k)

pub in_mapped : {A B : Type 0} (f : A → B) (xs : List A) (y : B) → Contains (map f xs) y → (x : A) × Contains xs x × (y ≡ f x)
in_mapped f [] y k = absurd (no_element y k)
in_mapped {A = A} f (x ∷ xs) y k = go (in_mapped f xs y) (contains_split (f x) y (map f xs) k)
  where
    go : (Contains (map f xs) y → (z : A) × Contains xs z × (y ≡ f z)) → (f x ≡ y) ⊎ Contains (map f xs) y →
        (z : A) × Contains (x ∷ xs) z × (y ≡ f z)
    go rec (inl e) = (x, contains_here x xs, sym e)
    go rec (inr h) = let r : (z : A) × Contains xs z × (y ≡ f z) = rec h in (r.0, contains_later x r.0 xs r.1, r.2)

pub mapped_has : {A B : Type 0} (f : A → B) (xs : List A) (x : A) → Contains xs x → Contains (map f xs) (f x)
mapped_has f [] x k = absurd (no_element x k)
mapped_has f (z ∷ xs) x k =
    ⊎_elim (λ e. subst (λ v. Contains (f z ∷ map f xs) v) (ap f e) (contains_here (f z) (map f xs)))
    (λ h. contains_later (f z) (f x) (map f xs) (mapped_has f xs x h)) (contains_split z x xs k)

pub bool_cases : (b : Bool) → (b ≡ true) ⊎ (b ≡ false)
bool_cases true = inl refl
bool_cases false = inr refl

pub eqb_same : (m n : ℕ) → eqb m n ≡ true → m ≡ n
eqb_same m n e = grind arith

pub none_distinct : IsDistinct eqb []
unfolding IsDistinct
none_distinct = tt

module _ {E : Type 0} (g : PathGraph E) where
  -- what begins with an edge
  pub past_is : (on : List ℕ → ℕ → List (List E)) (seen : List ℕ) (e : E) (p : List E) → Contains (past g on seen e) p →
      ((g.is_item (g.from e) ≡ true) × (p ≡ e ∷ []))
      ⊎ ((q : List E) × (g.is_item (g.from e) ≡ false) × (is_among (g.from e) seen ≡ false) × (p ≡ e ∷ q)
      × Contains (on (g.from e ∷ seen) (g.from e)) q)
  past_is on seen e p k = go (g.is_item (g.from e)) (is_among (g.from e) seen) refl refl k
    where
      go : (a b : Bool) → a ≡ g.is_item (g.from e) → b ≡ is_among (g.from e) seen →
          Contains (cond a ((e ∷ []) ∷ []) (cond b [] (map (λ q. e ∷ q) (on (g.from e ∷ seen) (g.from e))))) p →
          ((g.is_item (g.from e) ≡ true) × (p ≡ e ∷ []))
          ⊎ ((q : List E) × (g.is_item (g.from e) ≡ false) × (is_among (g.from e) seen ≡ false) × (p ≡ e ∷ q)
          × Contains (on (g.from e ∷ seen) (g.from e)) q)
      go true b x y k = ⊎_elim (λ h. inl (sym x, sym h)) (λ h. absurd (no_element p h)) (contains_split (e ∷ []) p [] k)
      go false true x y k = absurd (no_element p k)
      go false false x y k =
          let r : (q : List E) × Contains (on (g.from e ∷ seen) (g.from e)) q × (p ≡ e ∷ q) =
          in_mapped (λ q. e ∷ q) (on (g.from e ∷ seen) (g.from e)) p k in
          inr (r.0, sym x, sym y, r.2, r.1)

  past_item : (on : List ℕ → ℕ → List (List E)) (seen : List ℕ) (e : E) → g.is_item (g.from e) ≡ true → Contains (past g on seen e) (e ∷ [])
  past_item on seen e h =
      subst (λ a. Contains (cond a ((e ∷ []) ∷ []) (cond (is_among (g.from e) seen) [] (map (λ q. e ∷ q) (on (g.from e ∷ seen) (g.from e))))) (e ∷ []))
      (sym h) (contains_here (e ∷ []) [])

  past_on : (on : List ℕ → ℕ → List (List E)) (seen : List ℕ) (e : E) (q : List E) → g.is_item (g.from e) ≡ false →
      is_among (g.from e) seen ≡ false → Contains (on (g.from e ∷ seen) (g.from e)) q → Contains (past g on seen e) (e ∷ q)
  past_on on seen e q h j k =
      subst (λ a. Contains (cond a ((e ∷ []) ∷ []) (cond (is_among (g.from e) seen) [] (map (λ r. e ∷ r) (on (g.from e ∷ seen) (g.from e))))) (e ∷ q))
      (sym h)
      (subst (λ b. Contains (cond b [] (map (λ r. e ∷ r) (on (g.from e ∷ seen) (g.from e)))) (e ∷ q)) (sym j)
      (mapped_has (λ r. e ∷ r) (on (g.from e ∷ seen) (g.from e)) q k))

  listed_path : (depth : ℕ) (seen : List ℕ) (n : ℕ) (p : List E) → Contains (paths g depth seen n) p → IsBackwardPath g seen n p
  listed_path zero seen n p k = absurd (no_element p k)
  listed_path (suc depth) seen n p k =
      let r = in_flat (past g (paths g depth) seen) (g.incoming n) p k in
      ⊎_elim (λ h. subst (IsBackwardPath g seen n) (sym h.1) (arrives r.0 r.1 h.0))
      (λ h. subst (IsBackwardPath g seen n) (sym h.3) (through r.0 r.1 h.1 h.2 (listed_path depth (g.from r.0 ∷ seen) (g.from r.0) h.0 h.4)))
      (past_is (paths g depth) seen r.0 p r.2)

  path_listed : (depth : ℕ) (seen : List ℕ) (n : ℕ) (p : List E) → IsBackwardPath g seen n p → length p ≤ depth → Contains (paths g depth seen n) p
  path_listed zero seen n p (arrives e k h) l = absurd (omega (arith, l))
  path_listed zero seen n p (through {p = q} e k h j r) l = absurd (omega (arith, l))
  path_listed (suc depth) seen n p (arrives e k h) l =
      flat_has (past g (paths g depth) seen) (g.incoming n) e (e ∷ []) k (past_item (paths g depth) seen e h)
  path_listed (suc depth) seen n p (through {p = q} e k h j r) l =
      flat_has (past g (paths g depth) seen) (g.incoming n) e (e ∷ q) k
      (past_on (paths g depth) seen e q h j (path_listed depth (g.from e ∷ seen) (g.from e) q r (omega (arith, l))))

pub unseen_all : (n : ℕ) (ms : List ℕ) → list_any (eqb n) ms ≡ false → AllByRecursion (λ y. eqb n y ≡ false) ms
unseen_all n [] e = tt
unseen_all n (m ∷ ms) e = go (bool_cases (eqb n m)) (λ h. unseen_all n ms h)
  where
    go : (eqb n m ≡ true) ⊎ (eqb n m ≡ false) → (list_any (eqb n) ms ≡ false → AllByRecursion (λ y. eqb n y ≡ false) ms) →
        AllByRecursion (λ y. eqb n y ≡ false) (m ∷ ms)
    go (inl h) more = let z : true ≡ false = sym (ap (λ b. b || list_any (eqb n) ms) h) ∙ e in let w : ⊥ = cc in absurd w
    go (inr h) more = (h, more (sym (ap (λ b. b || list_any (eqb n) ms) h) ∙ e))

pub below_none : (count : ℕ) → AreNodesBelow count []
below_none count q e = let w : ⊥ = cc in absurd w

pub below_more : (count n : ℕ) (seen : List ℕ) → n < count → AreNodesBelow count seen → AreNodesBelow count (n ∷ seen)
below_more count n seen h b q e = go (bool_cases (eqb q n))
  where
    go : (eqb q n ≡ true) ⊎ (eqb q n ≡ false) → q < count
    go (inl k) = subst (λ v. v < count) (sym (eqb_same q n k)) h
    go (inr k) = b q (sym (ap (λ v. v || list_any (eqb q) seen) k) ∙ e)

pub distinct_more : (n : ℕ) (seen : List ℕ) → is_among n seen ≡ false → IsDistinct eqb seen → IsDistinct eqb (n ∷ seen)
distinct_more n seen fresh d = IsDistinct-cons eqb n seen (unseen_all n seen fresh) d

module _ {E : Type 0} (g : PathGraph E) (count : ℕ) (bound : (n : ℕ) (e : E) → Contains (g.incoming n) e → g.from e < count) where
  path_short : (seen : List ℕ) (n : ℕ) (p : List E) → IsDistinct eqb seen → AreNodesBelow count seen → IsBackwardPath g seen n p →
      length p + length seen ≤ suc count
  path_short seen n p d b (arrives e k h) = omega (arith, length-le_from_distinct_below seen count d b)
  path_short seen n p d b (through {p = q} e k h j r) =
      omega (
        arith,
        path_short (g.from e ∷ seen) (g.from e) q (distinct_more (g.from e) seen j d)
            (below_more count (g.from e) seen (bound n e k) b) r,
      )

  -- a path has at most as many edges as the graph has nodes, and one more, and so all are listed within that depth
  pub depth_suffices : (n : ℕ) (p : List E) → Contains (paths g (suc count) [] n) p ↔ IsBackwardPath g [] n p
  depth_suffices n p = (
    λ k. listed_path g (suc count) [] n p k,
    λ k. path_listed g (suc count) [] n p k (omega (arith, path_short [] n p none_distinct (below_none count) k)),
  )
