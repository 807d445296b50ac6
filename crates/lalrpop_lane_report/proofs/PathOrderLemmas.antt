-- Paths are listed in order, those through newer edges first.
use Rattle.std.proofs.Common.{◌≡◌, ℕ, zero, suc, ◌∙◌, Bool, true, false, cond, List, [], ◌∷◌, ◌++◌, map, refl, sym, ap, subst, append_assoc}
use Rattle.std.proofs.Common.{⊎_elim, Contains}
use Rattle.std.specs.Prelude.{flat_map}
use Rattle.std.proofs.lemmas.List.Elements.{Contains-append_cases, Contains-append_right}
use Rattle.lalrpop_lr1_theory.proofs.ListLemmas.{contains_here, contains_later, contains_split}
use Rattle.lalrpop_lr1_theory.proofs.NameLemmas.{no_element}
use Rattle.lalrpop_lane_report.specs.Paths.{Before, EachOnce, PathGraph, InOrder, agrees, is_among, parts, past, paths}
use Rattle.lalrpop_lane_report.proofs.PathLemmas.{in_flat, in_mapped, past_is}

module _ {E : Type 0} (g : PathGraph E) where
  order_append : (n : ℕ) (ps qs : List (List E)) → InOrder g n ps → InOrder g n qs →
      ((p q : List E) → Contains ps p → Contains qs q → Before g n p q) → InOrder g n (ps ++ qs)
  order_append n [] qs a b c = b
  order_append n (p ∷ ps) qs a b c = (
    λ q k. ⊎_elim (λ h. a.0 q h) (λ h. c p q (contains_here p ps) h) (Contains-append_cases ps qs q k),
    order_append n ps qs a.1 b (λ x y h j. c x y (contains_later p x ps h) j),
  )

  order_map : (n : ℕ) (e : E) (ps : List (List E)) → InOrder g (g.from e) ps → InOrder g n (map (λ p. e ∷ p) ps)
  order_map n e [] a = tt
  order_map n e (p ∷ ps) a = (
    λ q k. let r = in_mapped (λ v. e ∷ v) ps q k in subst (Before g n (e ∷ p)) (sym r.2) (agrees e (a.0 r.0 r.1)),
    order_map n e ps a.1,
  )

  order_past : (on : List ℕ → ℕ → List (List E)) (seen : List ℕ) (n : ℕ) (e : E) → ((s : List ℕ) (m : ℕ) → InOrder g m (on s m)) →
      InOrder g n (past g on seen e)
  order_past on seen n e a = go (g.is_item (g.from e)) (is_among (g.from e) seen)
    where
      go : (x y : Bool) → InOrder g n (cond x ((e ∷ []) ∷ []) (cond y [] (map (λ p. e ∷ p) (on (g.from e ∷ seen) (g.from e)))))
      go true y = (λ q k. absurd (no_element q k), tt)
      go false true = tt
      go false false = order_map n e (on (g.from e ∷ seen) (g.from e)) (a (g.from e ∷ seen) (g.from e))

  begins_past : (on : List ℕ → ℕ → List (List E)) (seen : List ℕ) (e : E) (p : List E) → Contains (past g on seen e) p →
      (q : List E) × (p ≡ e ∷ q)
  begins_past on seen e p k = ⊎_elim (λ h. ([], h.1)) (λ h. (h.0, h.3)) (past_is g on seen e p k)

  parted_at : {A : Type 0} (x : A) (xs : List A) → Contains xs x → (a b : List A) × (xs ≡ a ++ x ∷ b)
  parted_at x [] k = absurd (no_element x k)
  parted_at x (y ∷ xs) k =
      ⊎_elim (λ e. ([], xs, ap (λ v. v ∷ xs) e)) (λ h. let r = parted_at x xs h in (y ∷ r.0, r.1, ap (λ v. y ∷ v) r.2))
      (contains_split y x xs k)

  order_each : (on : List ℕ → ℕ → List (List E)) (seen : List ℕ) (n : ℕ) → ((s : List ℕ) (m : ℕ) → InOrder g m (on s m)) →
      (front es : List E) → g.incoming n ≡ front ++ es → InOrder g n (flat_map (past g on seen) es)
  order_each on seen n a front [] h = tt
  order_each on seen n a front (e ∷ es) h =
      order_append n (past g on seen e) (flat_map (past g on seen) es) (order_past on seen n e a)
      (order_each on seen n a (front ++ e ∷ []) es (h ∙ sym (append_assoc front (e ∷ []) es)))
      (λ p q j k.
      let b = begins_past on seen e p j in
      let c = in_flat (past g on seen) es q k in
      let d = begins_past on seen c.0 q c.2 in
      let w = parted_at c.0 es c.1 in
      subst (λ v. Before g n v q) (sym b.1)
      (subst (Before g n (e ∷ b.0)) (sym d.1) (parts e c.0 b.0 d.0 front w.0 w.1 (h ∙ ap (λ v. front ++ e ∷ v) w.2))))

  pub listed_in_order : (depth : ℕ) (seen : List ℕ) (n : ℕ) → InOrder g n (paths g depth seen n)
  listed_in_order zero seen n = tt
  listed_in_order (suc depth) seen n =
      order_each (paths g depth) seen n (λ s m. listed_in_order depth s m) [] (g.incoming n) refl

-- where no edge into a node stands twice, no path comes before itself
module _ {E : Type 0} (g : PathGraph E) (once : (n : ℕ) → EachOnce (g.incoming n)) where
  parted_once : (front middle back : List E) (d : E) → EachOnce (front ++ d ∷ (middle ++ d ∷ back)) → ⊥
  parted_once [] middle back d o = o.0 (Contains-append_right middle (d ∷ back) d (contains_here d back))
  parted_once (x ∷ front) middle back d o = parted_once front middle back d o.1

  before_other : (n : ℕ) (p q : List E) → Before g n p q → p ≡ q → ⊥
  before_other n p q (parts d e r s front middle back is) same =
      let one : d ≡ e = cc in
      parted_once front middle back d
      (subst EachOnce (is ∙ ap (λ x. front ++ d ∷ (middle ++ x ∷ back)) (sym one)) (once n))
  before_other n p q (agrees e {p = r} {q = s} before) same = before_other (g.from e) r s before (let rest : r ≡ s = cc in rest)

  -- and so each stands once in a list that is in order
  pub once_in_order : (n : ℕ) (ps : List (List E)) → InOrder g n ps → EachOnce ps
  once_in_order n [] o = tt
  once_in_order n (p ∷ ps) o = (λ c. before_other n p p (o.0 p c) refl, once_in_order n ps o.1)
