-- For each state the word along the transitions where the states on the way to it were first seen. For the first tie.
use Rattle.std.proofs.Common.{◌≡◌, ℕ, zero, suc, ◌<◌, ◌≤◌, List, [], ◌∷◌, ◌++◌, length, sym, ap, refl, subst}
use Rattle.std.proofs.Common.{arith}
use Rattle.lalrpop_lexer.specs.Numbering.{EdgeView, edge_at, IsReachedByWord, IsFirstSeen}
use Rattle.lalrpop_lexer.proofs.RunLemmas.{AreWords}

-- the word of a state that is reached from 0 in at most so many steps
abbrev pub word_within : (ℕ → List EdgeView) → (ℕ → ℕ) → (ℕ → ℕ) → ℕ → ℕ → List ℕ
word_within edges parent place fuel zero = []
word_within edges parent place zero (suc s) = []
word_within edges parent place (suc fuel) (suc s) =
    word_within edges parent place fuel (parent (suc s)) ++ (edge_at (edges (parent (suc s))) (place (suc s))).0 ∷ []

-- a state's word: the least numbers that the transitions read by which it was first seen
abbrev pub word_of : (ℕ → List EdgeView) → (ℕ → ℕ) → (ℕ → ℕ) → ℕ → List ℕ
word_of edges parent place s = word_within edges parent place s s

module _ (edges : ℕ → List EdgeView) (n : ℕ) (parent place : ℕ → ℕ) (seen : IsFirstSeen edges n parent place) where
  -- more steps make no other word
  enough : (f g s : ℕ) → s ≤ f → s ≤ g → s < n → word_within edges parent place f s ≡ word_within edges parent place g s
  enough f g zero a b l = refl
  enough zero g (suc s) a b l = absurd (omega arith)
  enough (suc f) zero (suc s) a b l = absurd (omega arith)
  enough (suc f) (suc g) (suc s) a b l =
      let down = seen.before (suc s) (omega arith) l in
      ap (λ (w : List ℕ). w ++ (edge_at (edges (parent (suc s))) (place (suc s))).0 ∷ [])
      (enough f g (parent (suc s)) (omega (arith, down)) (omega (arith, down)) (omega (arith, down)))

  more_word : (s : ℕ) → 0 < s → s < n →
      word_of edges parent place s ≡ word_of edges parent place (parent s) ++ (edge_at (edges (parent s)) (place s)).0 ∷ []
  more_word zero some l = absurd (omega arith)
  more_word (suc s) some l =
      let down = seen.before (suc s) some l in
      ap (λ (w : List ℕ). w ++ (edge_at (edges (parent (suc s))) (place (suc s))).0 ∷ [])
      (enough s (parent (suc s)) (parent (suc s)) (omega (arith, down)) (omega arith) (omega (arith, down)))

  -- these are the words along the transitions where states were first seen
  pub are_words : AreWords edges n parent place (word_of edges parent place)
  are_words = record { none = refl; more = more_word }

  runs_within : (fuel s : ℕ) → s ≤ fuel → s < n → IsReachedByWord edges (word_of edges parent place s) s
  runs_within fuel zero a l = IsReachedByWord.here
  runs_within zero (suc s) a l = absurd (omega arith)
  runs_within (suc fuel) (suc s) a l =
      let p = parent (suc s) in
      let k = place (suc s) in
      let down : p < suc s = seen.before (suc s) (omega arith) l in
      let inside : p < n = omega arith in
      let within : k < length (edges p) = seen.within (suc s) (omega arith) l in
      let run : IsReachedByWord edges (word_of edges parent place p) p = runs_within fuel p (omega arith) inside in
      let P : List ℕ → Type 0 = λ w. IsReachedByWord edges w (suc s) in
      let Q : ℕ → Type 0 = λ r. IsReachedByWord edges (word_of edges parent place p ++ (edge_at (edges p) k).0 ∷ []) r in
      subst P (sym (more_word (suc s) (omega arith) l))
      (subst Q (seen.leads (suc s) (omega arith) l)
      (IsReachedByWord.along (word_of edges parent place p) p (edge_at (edges p) k).0 k run
      (within, omega arith, seen.nonempty p k inside within)))

  -- a state's word leads to it
  pub word_runs : (s : ℕ) → s < n → IsReachedByWord edges (word_of edges parent place s) s
  word_runs s l = runs_within s s (omega arith) l
