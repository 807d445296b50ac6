-- Edges put where they lead to, one after the other, and which they are then: for the lists of entering edges.
use Rattle.std.proofs.Common.{◌≡◌, ◌≢◌, ◌∙◌, ℕ, zero, suc, ◌+◌, List, [], ◌∷◌, ◌++◌, length}
use Rattle.std.proofs.Common.{Bool, true, false, nat_eq}
use Rattle.std.proofs.Common.{Some, Contains, ◌⊎◌, inl, inr, ⊎_elim, refl, sym, ap, subst, arith, slice_get}
use Rattle.std.proofs.Common.{Vec, Global}
use Rattle.std.proofs.lemmas.Bool.{eqb-true}
use Rattle.std.proofs.lemmas.Bool.Decides.{eqb_tells}
use Rattle.std.specs.HashMap.{HashMap, IsEmpty}
use Rattle.std.specs.Map.{lookup}
use Rattle.lalrpop_lr1_paths.specs.declared.graph_paths.graph.Edge.{Edge}
use Rattle.lalrpop_lr1_paths.specs.Graphs.{AddsEntering, EntersNode, edges_at, entering_from, listed_numbers, number_if}
use Rattle.lalrpop_lr1_paths.proofs.HeapLemmas.{first_or_other, first_there, others_there}

-- nodes that the test finds equal are one node
pub is_node : (m n : ℕ) → nat_eq m n ≡ true → m ≡ n
is_node m n is = eqb-true m n is

-- nodes that the test finds unequal are two nodes
pub is_no_node : (m n : ℕ) → nat_eq m n ≡ false → m ≢ n
is_no_node m n is = ⊎_elim (λ yes. let first = yes.0 in let no : ⊥ = cc in absurd no) (λ no. no.1) (eqb_tells m n)

itself : (n : ℕ) → nat_eq n n ≡ true
itself n = ⊎_elim (λ yes. yes.0) (λ no. absurd (no.1 refl)) (eqb_tells n n)

other_node : (m n : ℕ) → m ≢ n → nat_eq m n ≡ false
other_node m n differ = ⊎_elim (λ yes. absurd (differ yes.1)) (λ no. no.0) (eqb_tells m n)

with_behind : (test : Bool) (k : ℕ) (ks js : List ℕ) → number_if test k (ks ++ js) ≡ number_if test k ks ++ js
with_behind true k ks js = refl
with_behind false k ks js = refl

nothing_behind : (ks : List ℕ) → ks ++ [] ≡ ks
nothing_behind [] = refl
nothing_behind (k ∷ ks) = ap (λ l. k ∷ l) (nothing_behind ks)

-- those that lead to a node, with one more edge behind the others
entering_pushed : (k : ℕ) (edges : List Edge) (edge : Edge) (n : ℕ) →
    entering_from k (edges ++ edge ∷ []) n ≡ entering_from k edges n ++ number_if (nat_eq edge.to n) (k + length edges) []
entering_pushed k [] edge n = let same : k ≡ k + 0 = omega arith in ap (λ j. number_if (nat_eq edge.to n) j []) same
entering_pushed k (x ∷ edges) edge n =
    let same : suc k + length edges ≡ k + suc (length edges) = omega arith in
    ap (number_if (nat_eq x.to n) k)
    (entering_pushed (suc k) edges edge n
    ∙ ap (λ j. entering_from (suc k) edges n ++ number_if (nat_eq edge.to n) j []) same)
    ∙ with_behind (nat_eq x.to n) k (entering_from (suc k) edges n) (number_if (nat_eq edge.to n) (k + suc (length edges)) [])

first_pushed : (edges : List Edge) (edge : Edge) (n : ℕ) →
    entering_from 0 (edges ++ edge ∷ []) n ≡ entering_from 0 edges n ++ number_if (nat_eq edge.to n) (length edges) []
first_pushed edges edge n =
    let same : 0 + length edges ≡ length edges = omega arith in
    entering_pushed 0 edges edge n ∙ ap (λ j. entering_from 0 edges n ++ number_if (nat_eq edge.to n) j []) same

-- the lists keep the edges up to here
abbrev pub AreFirstEntering : List Edge → (ℕ → List ℕ) → Type 0
AreFirstEntering edges lists = (n : ℕ) → lists n ≡ entering_from 0 edges n

-- an empty table keeps the edges of a list that has none
pub none_entered : {S : Type 0} (lists : HashMap ℕ (Vec ℕ Global) S) → IsEmpty lists → AreFirstEntering [] (edges_at lists)
none_entered lists empty n = ap (λ es. listed_numbers (lookup (nat_eq n) es)) empty

-- lists to which an edge was added at its node keep the edges before and this one
pub entering_more : (edges : List Edge) (edge : Edge) (number : ℕ) (old new : ℕ → List ℕ) → number ≡ length edges →
    AddsEntering edge.to number old new → AreFirstEntering edges old → AreFirstEntering (edges ++ edge ∷ []) new
entering_more edges edge number old new is adds are n = ⊎_elim
    (λ yes. ap new (sym yes.1) ∙ adds.here
    ∙ ap (λ l. l ++ number ∷ []) (ap old yes.1 ∙ are n)
    ∙ ap (λ j. entering_from 0 edges n ++ j ∷ []) is
    ∙ ap (λ t. entering_from 0 edges n ++ number_if t (length edges) []) (sym yes.0)
    ∙ sym (first_pushed edges edge n))
    (λ no. adds.others n (λ e. no.1 (sym e)) ∙ are n
    ∙ sym (nothing_behind (entering_from 0 edges n))
    ∙ ap (λ t. entering_from 0 edges n ++ number_if t (length edges) []) (sym no.0)
    ∙ sym (first_pushed edges edge n))
    (eqb_tells edge.to n)

with_there : (test : Bool) (k : ℕ) (ks : List ℕ) (j : ℕ) → Contains ks j → Contains (number_if test k ks) j
with_there true k ks j c = others_there k j ks c
with_there false k ks j c = c

with_from : (test : Bool) (k : ℕ) (ks : List ℕ) (j : ℕ) → Contains (number_if test k ks) j →
    ((test ≡ true) × (k ≡ j)) ⊎ Contains ks j
with_from true k ks j c = ⊎_elim (λ e. inl (refl, e)) (λ d. inr d) (first_or_other k j ks c)
with_from false k ks j c = inr c

-- each edge is kept for the node to which it leads
entering_all : (k : ℕ) (edges : List Edge) (e : ℕ) (edge : Edge) → slice_get edges e ≡ Some edge →
    Contains (entering_from k edges edge.to) (k + e)
entering_all k [] e edge at = let no : ⊥ = cc in absurd no
entering_all k (x ∷ edges) zero edge at =
    let same : x ≡ edge = cc in
    let here : k ≡ k + 0 = omega arith in
    subst (λ j. Contains (number_if (nat_eq x.to edge.to) k (entering_from (suc k) edges edge.to)) j) here
    (subst (λ t. Contains (number_if t k (entering_from (suc k) edges edge.to)) k)
    (sym (itself edge.to) ∙ ap (λ (y : Edge). nat_eq y.to edge.to) (sym same))
    (first_there k (entering_from (suc k) edges edge.to)))
entering_all k (x ∷ edges) (suc e) edge at =
    let there : suc k + e ≡ k + suc e = omega arith in
    with_there (nat_eq x.to edge.to) k (entering_from (suc k) edges edge.to) (k + suc e)
    (subst (λ j. Contains (entering_from (suc k) edges edge.to) j) there (entering_all (suc k) edges e edge at))

record IsEnteringAt (k : ℕ) (edges : List Edge) (n j : ℕ) : Type 0 where
  e : ℕ
  is : j ≡ k + e
  enters : EntersNode edges e n

-- and no others are
entering_only : (k : ℕ) (edges : List Edge) (n j : ℕ) → Contains (entering_from k edges n) j → IsEnteringAt k edges n j
entering_only k [] n j c = absurd (omega (arith, c.1))
entering_only k (x ∷ edges) n j c = ⊎_elim
    (λ here. record { e = 0; is = omega (arith, here.1); enters = record { edge = x; at = refl; to_it = is_node x.to n here.0 } })
    (λ d. let more = entering_only (suc k) edges n j d in record {
      e = suc more.e;
      is = omega (arith, more.is);
      enters = record { edge = more.enters.edge; at = more.enters.at; to_it = more.enters.to_it };
    })
    (with_from (nat_eq x.to n) k (entering_from (suc k) edges n) j c)

-- for each node there are the edges that lead to it, and no others
pub record AreEntering (edges : List Edge) (entering : ℕ → List ℕ) : Type 0 where
  pub all : (e : ℕ) (edge : Edge) → slice_get edges e ≡ Some edge → Contains (entering edge.to) e
  pub only : (n e : ℕ) → Contains (entering n) e → EntersNode edges e n

-- lists that keep all edges have for each node just the edges that lead to it
pub are_entering : (edges : List Edge) (lists : ℕ → List ℕ) → AreFirstEntering edges lists → AreEntering edges lists
are_entering edges lists are = record {
  all = λ e edge at. let same : 0 + e ≡ e = omega arith in
      subst (λ l. Contains l e) (sym (are edge.to))
      (subst (λ j. Contains (entering_from 0 edges edge.to) j) same (entering_all 0 edges e edge at));
  only = λ n e c. let found = entering_only 0 edges n e (subst (λ l. Contains l e) (are n) c) in
      let same : found.e ≡ e = omega (arith, found.is) in
      subst (λ j. EntersNode edges j n) same found.enters;
}
