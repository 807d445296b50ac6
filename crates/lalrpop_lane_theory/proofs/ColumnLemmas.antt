-- Entries fit one after the other exactly where no columns meet, and do where what is carried leaves no conflict: for both laws.
use Rattle.std.proofs.Common.{◌≡◌, ◌↔◌, ◌⊎◌, ◌∙◌, ℕ, List, [], ◌∷◌, length, Some, Contains, sym, ap, subst, inl, inr, ⊎_elim, arith}
use Rattle.lalrpop_grammar_symbols.specs.Symbols.{Text}
use Rattle.lalrpop_lr1_theory.specs.Productions.{Next, Production, Symbol, nonterminal}
use Rattle.lalrpop_lr1_theory.specs.Trees.{Move, reduce, shift}
use Rattle.lalrpop_lr1_theory.proofs.ListLemmas.{contains_here, contains_later, contains_split}
use Rattle.lalrpop_lr1_theory.proofs.StepLemmas.{some_same}
use Rattle.lalrpop_lane_theory.specs.CarriedConflicts.{CarriesToFinished, HasNoCarriedConflict, IsReachedCover}
use Rattle.lalrpop_lane_theory.specs.Columns.{AllFitBeside, NeverMeet, RowHolds}
use Rattle.lalrpop_lane_theory.specs.LaneTables.{AreStateMoves, AreTraceEntries, HasNextIn, IsStateMove}
use Rattle.lalrpop_lane_theory.specs.Lanes.{LaneAdds, TraceAdds}
use Rattle.lalrpop_lane_theory.proofs.LaneLemmas.{added_carried}

module _ {Tokens Token : Type 0} (Has : Tokens → Token → Type 0) where
  -- the first entry holds its tokens in its column
  pub holds_here : (entry : ℕ × Tokens) (entries : List (ℕ × Tokens)) (x : Token) → Has entry.1 x →
      RowHolds Has (entry ∷ entries) entry.0 x
  holds_here entry entries x h = (entry.1, contains_here entry entries, h)

  -- what the others hold is held with the first one, too
  pub holds_later : (entry : ℕ × Tokens) (entries : List (ℕ × Tokens)) (c : ℕ) (x : Token) → RowHolds Has entries c x →
      RowHolds Has (entry ∷ entries) c x
  holds_later entry entries c x h = (h.0, contains_later entry (c, h.0) entries h.1, h.2)

  -- what is held is held by the first entry, or by the others
  pub holds_split : (entry : ℕ × Tokens) (entries : List (ℕ × Tokens)) (c : ℕ) (x : Token) → RowHolds Has (entry ∷ entries) c x →
      ((entry.0 ≡ c) × Has entry.1 x) ⊎ RowHolds Has entries c x
  holds_split entry entries c x h =
      ⊎_elim
      (λ e. inl (ap (λ (it : ℕ × Tokens). it.0) e, subst (λ (it : ℕ × Tokens). Has it.1 x) (sym e) h.2))
      (λ k. inr (h.0, k, h.2)) (contains_split entry (c, h.0) entries h.1)

  -- nothing is held without entries
  holds_none : (c : ℕ) (x : Token) → RowHolds Has [] c x → ⊥
  holds_none c x h = omega (arith, h.1.1)

  -- no column of the one row meets another of the other
  abbrev AreBeside : List (ℕ × Tokens) → List (ℕ × Tokens) → Type 0
  AreBeside done entries = (c d : ℕ) (x : Token) → RowHolds Has done c x → RowHolds Has entries d x → c ≡ d

  fit_from_apart : (entries done : List (ℕ × Tokens)) → AreBeside done entries → NeverMeet (RowHolds Has entries) →
      AllFitBeside Has done entries
  fit_from_apart [] done beside apart = tt
  fit_from_apart (entry ∷ entries) done beside apart = (
    λ d x k h. beside d entry.0 x k (holds_here entry entries x h),
    fit_from_apart entries (entry ∷ done)
        (λ c d x k h. ⊎_elim
        (λ e. sym e.0 ∙ apart entry.0 d x (holds_here entry entries x e.1) (holds_later entry entries d x h))
        (λ e. beside c d x e (holds_later entry entries d x h)) (holds_split entry done c x k))
        (λ c d x k h. apart c d x (holds_later entry entries c x k) (holds_later entry entries d x h)),
  )

  beside_from_fit : (entries done : List (ℕ × Tokens)) → AllFitBeside Has done entries → AreBeside done entries
  beside_from_fit [] done fit c d x k h = absurd (holds_none d x h)
  beside_from_fit (entry ∷ entries) done fit c d x k h =
      ⊎_elim (λ e. fit.0 c x k e.1 ∙ e.0)
      (λ e. beside_from_fit entries (entry ∷ done) fit.1 c d x (holds_later entry done c x k) e) (holds_split entry entries d x h)

  apart_from_fit : (entries done : List (ℕ × Tokens)) → AllFitBeside Has done entries → NeverMeet (RowHolds Has entries)
  apart_from_fit [] done fit c d x k h = absurd (holds_none c x k)
  apart_from_fit (entry ∷ entries) done fit c d x k h =
      ⊎_elim
      (λ e. ⊎_elim (λ f. sym e.0 ∙ f.0)
      (λ f. sym e.0 ∙ beside_from_fit entries (entry ∷ done) fit.1 entry.0 d x (holds_here entry done x e.1) f)
      (holds_split entry entries d x h))
      (λ e. ⊎_elim (λ f. sym (beside_from_fit entries (entry ∷ done) fit.1 entry.0 c x (holds_here entry done x f.1) e) ∙ f.0)
      (λ f. apart_from_fit entries (entry ∷ done) fit.1 c d x e f) (holds_split entry entries d x h))
      (holds_split entry entries c x k)

  -- entries that are put in one after the other all fit exactly where no two columns meet
  pub fit_apart : (entries : List (ℕ × Tokens)) → AllFitBeside Has [] entries ↔ NeverMeet (RowHolds Has entries)
  fit_apart entries = (
    apart_from_fit entries [],
    λ apart. fit_from_apart entries [] (λ c d x k h. absurd (holds_none c x k)) apart,
  )

module _ (G : Production → Type 0) (s : Text) (Item : ℕ → Production → ℕ → Type 0) (Edge : ℕ → Symbol → ℕ → Type 0)
    (states : IsReachedCover G s Item Edge) (alone : (q : Production) → G q → Contains q.right (nonterminal s) → ⊥)
    (none : HasNoCarriedConflict G s Item Edge) where
  added_finished : (n : ℕ) (p : Production) (m : ℕ) (x : Next) → Item n p (length p.right) →
      LaneAdds G s Item Edge n p (length p.right) m x → CarriesToFinished G s Item Edge n p x
  added_finished n p m x it a = (it, added_carried G s Item Edge states n p (length p.right) alone it m x a)

  -- two moves of a state whose traces add one terminal, or the end, are one move
  pub traces_apart : (n : ℕ) (v w : Move) (k m : ℕ) (x : Next) → IsStateMove Item Edge n v → IsStateMove Item Edge n w →
      TraceAdds G s Item Edge n v k x → TraceAdds G s Item Edge n w m x → v ≡ w
  traces_apart n (shift t) (shift u) k m x a b e f = ap shift (some_same t u (sym e.1 ∙ f.1))
  traces_apart n (shift t) (reduce p) k m x a b e f =
      absurd (none.shifts_apart n p t a.0 (subst (CarriesToFinished G s Item Edge n p) e.1 (added_finished n p m x b f)) a.1)
  traces_apart n (reduce p) (shift t) k m x a b e f =
      absurd (none.shifts_apart n p t b.0 (subst (CarriesToFinished G s Item Edge n p) f.1 (added_finished n p k x a e)) b.1)
  traces_apart n (reduce p) (reduce q) k m x a b e f =
      ap reduce (none.reductions_apart n p q x (added_finished n p k x a e) (added_finished n q m x b f))

  -- so no columns of them meet
  pub columns_apart : (n : ℕ) (moves : List Move) (entries : List (ℕ × List Next)) → AreStateMoves Item Edge n moves →
      AreTraceEntries G s Item Edge n moves entries → NeverMeet (RowHolds HasNextIn entries)
  columns_apart n moves entries are traced c d x k h =
      let v = traced.of_move c (k.0, k.1) in
      let w = traced.of_move d (h.0, h.1) in
      let e = (traced.holds c v.0 v.1 x).0 k in
      let f = (traced.holds d w.0 w.1 x).0 h in
      let same = traces_apart n v.0 w.0 e.0 f.0 x (are.each c v.0 v.1) (are.each d w.0 w.1) e.1 f.1 in
      are.once c d v.0 v.1 (w.1 ∙ ap Some (sym same))
