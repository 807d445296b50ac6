-- States on a stack: the first, one more, fewer; and trees with spans beside others. For the machine and for stacks of trees.
use Rattle.std.proofs.Common.{◌≡◌, ◌-◌, ◌+◌, ◌<◌, ◌≤◌, ℕ, suc, List, [], ◌∷◌, ◌++◌, take}
use Rattle.std.proofs.Common.{length, get_or, refl, sym, ap}
use Rattle.std.proofs.Common.{◌∙◌, subst, arith, length-append, append_assoc, ◌⊎◌, inl, inr}
use Rattle.std.proofs.lemmas.Bool.{cases_lt}
use Rattle.std.proofs.lemmas.List.{take_all, take-append-le, get_or_append_left, get_or-take, get_or-append-add, length-take-le}
use Rattle.std.proofs.lemmas.Option.{slice_get-get_or}
use Rattle.lalrpop_lr1_theory.specs.Productions.{Symbol}
use Rattle.lalrpop_lr1_theory.specs.Trees.{Forest, leaf, node, none, ◌and◌}
use Rattle.lalrpop_lr1_theory.specs.Spans.{SpannedForest, leaf_at, leaf_spans, node_at, none_at, without_spans}
use Rattle.lalrpop_lr1_theory.specs.Automata.{Walk, goes, stands}
use Rattle.lalrpop_lr1_theory.proofs.StepLemmas.{some_same}
use Rattle.lalrpop_lr1_interpret.specs.Stacks.{AreStatesOn, ◌beside◌}

-- what is read within a list doesn't depend on what stands for places past its end
pub same_get : {A : Type 0} (xs : List A) (i : ℕ) (a b : A) → i < length xs → get_or xs i a ≡ get_or xs i b
same_get xs i a b h =
    some_same (get_or xs i a) (get_or xs i b) (sym (slice_get-get_or xs i a h) ∙ slice_get-get_or xs i b h)

module _ (Edge : ℕ → Symbol → ℕ → Type 0) where
  -- state 0 alone
  pub states_start : AreStatesOn Edge (0 ∷ []) []
  states_start = record {
    counted = refl;
    walks = λ i h. let e : i ≡ 0 = omega arith in subst (λ j. Walk Edge (take j []) (get_or (0 ∷ []) j 0)) (sym e) stands;
  }

  -- all symbols lead to the last state
  pub states_top : (ns : List ℕ) (g : List Symbol) (n : ℕ) → AreStatesOn Edge ns g → n ≡ get_or ns (length ns - 1) n →
      Walk Edge g n
  states_top ns g n k e =
      let w = k.walks (length g) (omega arith) in
      let l : length g ≡ length ns - 1 = omega (arith, k.counted) in
      let h : length ns - 1 < length ns = omega (arith, k.counted) in
      let read : get_or ns (length ns - 1) 0 ≡ n = same_get ns (length ns - 1) 0 n h ∙ sym e in
      subst (Walk Edge g) read
      (subst (λ h. Walk Edge h (get_or ns (length ns - 1) 0)) (take_all (length g) g (omega arith))
      (subst (λ j. Walk Edge (take (length g) g) (get_or ns j 0)) l w))

  -- one more
  pub states_on : (ns : List ℕ) (g : List Symbol) (x : Symbol) (m n : ℕ) → AreStatesOn Edge ns g → Walk Edge g n → Edge n x m →
      AreStatesOn Edge (ns ++ m ∷ []) (g ++ x ∷ [])
  states_on ns g x m n k w e = record {
    counted = omega (arith, k.counted, length-append ns (m ∷ []), length-append g (x ∷ []));
    walks = λ i h. go i (cases_lt i (suc (length g))) (omega (arith, h, length-append g (x ∷ [])));
  }
    where
      go : (i : ℕ) → (i < suc (length g)) ⊎ (suc (length g) ≤ i) → i ≤ suc (length g) →
          Walk Edge (take i (g ++ x ∷ [])) (get_or (ns ++ m ∷ []) i 0)
      go i (inl a) h =
          let p : get_or (ns ++ m ∷ []) i 0 ≡ get_or ns i 0 = get_or_append_left ns (m ∷ []) 0 i (omega (arith, k.counted)) in
          let q : take i (g ++ x ∷ []) ≡ take i g = take-append-le i g (x ∷ []) (omega arith) in
          subst (λ j. Walk Edge j (get_or (ns ++ m ∷ []) i 0)) (sym q)
          (subst (Walk Edge (take i g)) (sym p) (k.walks i (omega arith)))
      go i (inr a) h =
          let e' : i ≡ length ns + 0 = omega (arith, k.counted) in
          let p : get_or (ns ++ m ∷ []) i 0 ≡ m = ap (λ j. get_or (ns ++ m ∷ []) j 0) e' ∙ get_or-append-add ns (m ∷ []) 0 0 in
          let q : take i (g ++ x ∷ []) ≡ g ++ x ∷ [] = take_all i (g ++ x ∷ []) (omega (arith, length-append g (x ∷ []))) in
          subst (λ j. Walk Edge j (get_or (ns ++ m ∷ []) i 0)) (sym q) (subst (Walk Edge (g ++ x ∷ [])) (sym p) (goes x m w e))

  -- fewer
  pub states_cut : (ns : List ℕ) (g h : List Symbol) (n : ℕ) → n ≡ suc (length g) → AreStatesOn Edge ns (g ++ h) →
      AreStatesOn Edge (take n ns) g
  states_cut ns g h n e k = record {
    counted = length-take-le n ns (omega (arith, k.counted, length-append g h)) ∙ e;
    walks = λ i a.
        let p : get_or (take n ns) i 0 ≡ get_or ns i 0 = get_or-take n ns i 0 (omega arith) in
        subst (Walk Edge (take i g)) (sym p) (subst (λ j. Walk Edge j (get_or ns i 0)) (take-append-le i g h (omega arith))
        (k.walks i (omega (arith, length-append g h))));
  }

-- without spans
pub without-beside : (ts us : SpannedForest) → without_spans (ts beside us) ≡ without_spans ts and without_spans us
without-beside none_at us = refl
without-beside (leaf_at t span ts) us = ap (leaf t) (without-beside ts us)
without-beside (node_at p cs ts) us = ap (node p (without_spans cs)) (without-beside ts us)

-- the spans of two rows of trees beside one another are those of the first, then those of the second
pub spans-beside : (ts us : SpannedForest) → leaf_spans (ts beside us) ≡ leaf_spans ts ++ leaf_spans us
spans-beside none_at us = refl
spans-beside (leaf_at t span ts) us = ap (λ l. span ∷ l) (spans-beside ts us)
spans-beside (node_at p cs ts) us =
    ap (λ l. leaf_spans cs ++ l) (spans-beside ts us) ∙ sym (append_assoc (leaf_spans cs) (leaf_spans ts) (leaf_spans us))

-- trees with no trees beside them are just these trees
pub beside-none : (ts : SpannedForest) → ts beside none_at ≡ ts
beside-none none_at = refl
beside-none (leaf_at t span ts) = ap (leaf_at t span) (beside-none ts)
beside-none (node_at p cs ts) = ap (node_at p cs) (beside-none ts)

-- of three rows of trees beside one another it's the same which two are joined first
pub beside-beside : (ts us vs : SpannedForest) → (ts beside us) beside vs ≡ ts beside (us beside vs)
beside-beside none_at us vs = refl
beside-beside (leaf_at t span ts) us vs = ap (leaf_at t span) (beside-beside ts us vs)
beside-beside (node_at p cs ts) us vs = ap (node_at p cs) (beside-beside ts us vs)

-- trees that fall in two without their spans, with them
pub record FallsInTwo (ts : SpannedForest) (f g : Forest) : Type 0 where
  pub front : SpannedForest
  pub back : SpannedForest
  pub parts : ts ≡ front beside back
  pub front_is : without_spans front ≡ f
  pub back_is : without_spans back ≡ g

-- where trees without their spans fall in two rows, the trees with their spans fall in two such rows
pub falls_in_two : (ts : SpannedForest) (f g : Forest) → without_spans ts ≡ f and g → FallsInTwo ts f g
falls_in_two ts none g e = record { front = none_at; back = ts; parts = refl; front_is = refl; back_is = e }
falls_in_two none_at (leaf u f) g e = let z : ⊥ = cc in absurd z
falls_in_two none_at (node p cs f) g e = let z : ⊥ = cc in absurd z
falls_in_two (leaf_at t span ts) (node p cs f) g e = let z : ⊥ = cc in absurd z
falls_in_two (node_at q ds ts) (leaf u f) g e = let z : ⊥ = cc in absurd z
falls_in_two (leaf_at t span ts) (leaf u f) g e =
    let same : t ≡ u = cc in
    let rest : without_spans ts ≡ f and g = cc in
    let r = falls_in_two ts f g rest in
    record {
      front = leaf_at t span r.front;
      back = r.back;
      parts = ap (leaf_at t span) r.parts;
      front_is = ap (leaf t) r.front_is ∙ ap (λ v. leaf v f) same;
      back_is = r.back_is;
    }
falls_in_two (node_at q ds ts) (node p cs f) g e =
    let same : q ≡ p = cc in
    let inside : without_spans ds ≡ cs = cc in
    let rest : without_spans ts ≡ f and g = cc in
    let r = falls_in_two ts f g rest in
    record {
      front = node_at q ds r.front;
      back = r.back;
      parts = ap (node_at q ds) r.parts;
      front_is = ap (node q (without_spans ds)) r.front_is ∙ ap (λ v. node v (without_spans ds) f) same ∙ ap (λ v. node p v f) inside;
      back_is = r.back_is;
    }
