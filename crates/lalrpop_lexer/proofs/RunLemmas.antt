-- The words along which states were first seen rise with the numbers, and are the first that lead there. For the first tie.
use Rattle.std.proofs.Common.{◌≡◌, ℕ, zero, suc, ◌<◌, ◌≤◌, List, [], ◌∷◌, ◌++◌, inl, inr, ⊎_elim, sym, ap}
use Rattle.std.proofs.Common.{subst, arith, length-append}
use Rattle.std.proofs.lemmas.Bool.{cases_lt}
use Rattle.lalrpop_lexer_pattern.specs.Wins.{ComesBefore}
use Rattle.lalrpop_lexer.specs.Numbering.{IsNoLater}
use Rattle.lalrpop_lexer.specs.Numbering.{EdgeView, edge_at, EdgeReads, IsReachedByWord, IsFirstSeen}
use Rattle.lalrpop_lexer.proofs.OrderLemmas.{ComesBefore-snoc, ComesBefore-last, IsNoLater-nil, IsNoLater-trans, IsNoLater-snoc, not_before}
use Rattle.lalrpop_lexer.proofs.OrderLemmas.{before_no_later}

-- the words along the edges where states were first seen
pub record AreWords (edges : ℕ → List EdgeView) (n : ℕ) (parent place : ℕ → ℕ) (word : ℕ → List ℕ) : Type 0 where
  pub none : word 0 ≡ []
  pub more : (s : ℕ) → 0 < s → s < n → word s ≡ word (parent s) ++ (edge_at (edges (parent s)) (place s)).0 ∷ []

module _ (edges : ℕ → List EdgeView) (n : ℕ) (parent place : ℕ → ℕ) (word : ℕ → List ℕ)
    (seen : IsFirstSeen edges n parent place) (words : AreWords edges n parent place word) where
  -- the words rise with the numbers of the states
  rises : (fuel s r : ℕ) → r ≤ fuel → s < r → r < n → ComesBefore (word s) (word r)
  rises zero s r f order below = absurd (omega arith)
  rises (suc fuel) zero r f order below =
      rw (words.none, words.more r order below)
      (inl (omega (arith, length-append (word (parent r)) ((edge_at (edges (parent r)) (place r)).0 ∷ []))))
  rises (suc fuel) (suc s) r f order below =
      rw (words.more (suc s) (omega arith) (omega arith), words.more r (omega arith) below)
      (⊎_elim
      (λ earlier. ComesBefore-snoc (word (parent (suc s))) (word (parent r)) _ _
      (rises fuel (parent (suc s)) (parent r) (omega (arith, seen.before r (omega arith) below)) earlier
      (omega (arith, seen.before r (omega arith) below))))
      (λ same. let P : ℕ → Type 0 =
      λ p. ComesBefore (word (parent (suc s)) ++ (edge_at (edges (parent (suc s))) (place (suc s))).0 ∷ [])
      (word p ++ (edge_at (edges p) (place r)).0 ∷ []) in
      subst P same.0
      (ComesBefore-last (word (parent (suc s))) _ _
      (seen.starts (parent (suc s)) (place (suc s)) (place r) (omega (arith, seen.before (suc s) (omega arith) (omega arith))) same.1
      (rw same.0 (seen.within r (omega arith) below)))))
      (seen.rising (suc s) r (omega arith) order below))

  pub words_rise : (s r : ℕ) → s < r → r < n → ComesBefore (word s) (word r)
  words_rise s r = rises r s r (omega arith)

  pub words_no_later : (s r : ℕ) → s ≤ r → r < n → IsNoLater (word s) (word r)
  words_no_later s r order below =
      ⊎_elim (λ (less : s < r). inr (words_rise s r less below)) (λ (ge : r ≤ s). inl (ap word (omega arith))) (cases_lt s r)

  pub runs_inside : {w : List ℕ} {s : ℕ} → 0 < n → IsReachedByWord edges w s → s < n
  runs_inside some IsReachedByWord.here = some
  runs_inside some (IsReachedByWord.along w s c k run goes) = seen.inside s k (runs_inside some run) goes.0

  starts_below : (s k : ℕ) → s < n → {c : ℕ} → EdgeReads edges s c k → (j : ℕ) → j ≤ k → (edge_at (edges s) j).0 ≤ c
  starts_below s k below goes j order =
      ⊎_elim (λ (less : j < k). omega (arith, seen.starts s j k below less goes.0, goes.1))
      (λ (ge : k ≤ j). let e : j ≡ k = omega arith in rw e goes.1) (cases_lt j k)

  -- no word that leads to a state comes before the state's word
  pub least : {w : List ℕ} {s : ℕ} → 0 < n → IsReachedByWord edges w s → IsNoLater (word s) w
  least some IsReachedByWord.here = inl words.none
  least some (IsReachedByWord.along w s c k run goes) =
      let t = (edge_at (edges s) k).2 in
      let below : s < n = runs_inside some run in
      let inside : t < n = seen.inside s k below goes.0 in
      let before : IsNoLater (word s) w = least some run in
      ⊎_elim
      (λ (later : 0 < t).
      rw (words.more t later inside)
      (⊎_elim
      (λ earlier. inr (ComesBefore-snoc _ _ _ _ (before_no_later _ _ _ (words_rise (parent t) s earlier below) before)))
      (λ same. let P : ℕ → Type 0 = λ p. IsNoLater (word p ++ (edge_at (edges p) (place t)).0 ∷ []) (w ++ c ∷ []) in
      subst P (sym same.0) (IsNoLater-snoc (word s) w _ c before (starts_below s k below goes (place t) same.1)))
      (seen.first s k below goes.0 later)))
      (λ (start : t ≤ 0). let e : t ≡ 0 = omega arith in rw (e, words.none) (IsNoLater-nil _))
      (cases_lt 0 t)

  -- the first state that has a property gives the first word that leads to such a state
  pub first_word : (P : ℕ → Type 0) (s : ℕ) → s < n → ((r : ℕ) → r < s → P r → ⊥) → {w : List ℕ} {r : ℕ}
      → IsReachedByWord edges w r → P r → ComesBefore w (word s) → ⊥
  first_word P s below none {w} {r} run holds earlier =
      ⊎_elim
      (λ (less : r < s). none r less holds)
      (λ (ge : s ≤ r). not_before (word s) w
      (IsNoLater-trans (word s) (word r) w (words_no_later s r ge (runs_inside (omega arith) run)) (least (omega arith) run)) earlier)
      (cases_lt r s)
