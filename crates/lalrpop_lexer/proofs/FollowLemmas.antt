-- The edge of a state that reads a number. For the function that looks it up.
use Rattle.std.proofs.Common.{◌≡◌, ℕ, ◌+◌, ◌<◌, ◌≤◌, List, length, Option, Some, None}
use Rattle.std.proofs.Common.{get_or, ⊎_elim, sym, ap, ◌∙◌, refl, arith}
use Rattle.std.proofs.lemmas.Bool.{cases_lt}
use Rattle.std.proofs.lemmas.List.{length-map, get_or-map}
use Rattle.lalrpop_lexer.specs.declared.edge.DfaEdge.{DfaEdge}
use Rattle.lalrpop_lexer.specs.Numbering.{EdgeView, edge_at}
use Rattle.lalrpop_lexer.specs.Explore.{edge_view, edges_view}
use Rattle.lalrpop_lexer.specs.Simulation.{AreApart, target_of}
use Rattle.lalrpop_lexer.proofs.StepLemmas.{step_some, step_none}

-- the edge that was looked for
pub step_found : (es : List EdgeView) (c k : ℕ) → AreApart es → k < length es → ((j : ℕ) → j < k → (edge_at es j).1 < c)
    → c ≤ (edge_at es k).1 → (edge_at es k).0 ≤ c → target_of es c ≡ Some (edge_at es k).2
step_found es c k h l below high low = go (target_of es c) refl
  where
    go : (o : Option ℕ) → target_of es c ≡ o → o ≡ Some (edge_at es k).2
    go None e = absurd (step_none es c e k l low high)
    go (Some r) e =
        let x = step_some es c r e in
        ⊎_elim (λ (less : x.0 < k). absurd (omega (arith, below x.0 less, x.3)))
        (λ (ge : k ≤ x.0). ⊎_elim (λ (more : k < x.0). absurd (omega (arith, h.apart k x.0 more x.1, x.2)))
        (λ (le : x.0 ≤ k). let at : x.0 ≡ k = omega arith in
        ap (λ (n : ℕ). Some n) (sym x.4 ∙ ap (λ (j : ℕ). (edge_at es j).2) at)) (cases_lt k x.0))
        (cases_lt x.0 k)

-- no edge reads the number
pub step_missing : (es : List EdgeView) (c k : ℕ) → AreApart es → ((j : ℕ) → j < k → (edge_at es j).1 < c)
    → (k < length es → c < (edge_at es k).0) → target_of es c ≡ None
step_missing es c k h below above = go (target_of es c) refl
  where
    go : (o : Option ℕ) → target_of es c ≡ o → o ≡ None
    go None e = refl
    go (Some r) e =
        let x = step_some es c r e in
        ⊎_elim (λ (less : x.0 < k). absurd (omega (arith, below x.0 less, x.3)))
        (λ (ge : k ≤ x.0).
        let inside : k < length es = omega (arith, x.1) in
        ⊎_elim (λ (more : k < x.0). absurd (omega (arith, h.apart k x.0 more x.1, h.filled k inside, above inside, x.2)))
        (λ (le : x.0 ≤ k). let at : x.0 ≡ k = omega arith in
        absurd (omega (arith, ap (λ (j : ℕ). (edge_at es j).0) at, above inside, x.2))) (cases_lt k x.0))
        (cases_lt x.0 k)

-- an edge that was read at a place
pub edge_is : (es : List DfaEdge) (i : ℕ) (e : DfaEdge) → i < length es → e ≡ get_or es i e
    → edge_at (edges_view es) i ≡ edge_view e
edge_is es i e l is = get_or-map edge_view es i e (0, 0, 0) l ∙ ap edge_view (sym is)

-- the ends of edges rise
ends_rise : (es : List EdgeView) (j k : ℕ) → AreApart es → j ≤ k → k < length es → (edge_at es j).1 ≤ (edge_at es k).1
ends_rise es j k h order l =
    ⊎_elim (λ (less : j < k). omega (arith, h.apart j k less l, h.filled k l))
    (λ (ge : k ≤ j). let at : j ≡ k = omega arith in omega (arith, ap (λ (i : ℕ). (edge_at es i).1) at)) (cases_lt j k)

-- where a transition ends below a number, so does each one before it
pub narrow_low : (es : List DfaEdge) (c m : ℕ) (e : DfaEdge) → AreApart (edges_view es) → m < length es → e ≡ get_or es m e
    → e.test.end < c → (j : ℕ) → j < m + 1 → (edge_at (edges_view es) j).1 < c
narrow_low es c m e h l is less j order =
    let at = ap (λ (x : EdgeView). x.1) (edge_is es m e l is) in
    omega (arith, ends_rise (edges_view es) j m h (omega arith) (omega (arith, length-map es edge_view)), at)

-- where a transition ends at a number or above it, so does each one behind it
pub narrow_high : (es : List DfaEdge) (c m : ℕ) (e : DfaEdge) → AreApart (edges_view es) → m < length es → e ≡ get_or es m e
    → c ≤ e.test.end → (j : ℕ) → m ≤ j → j < length es → c ≤ (edge_at (edges_view es) j).1
narrow_high es c m e h l is more j order within =
    let at = ap (λ (x : EdgeView). x.1) (edge_is es m e l is) in
    omega (arith, ends_rise (edges_view es) m j h order (omega (arith, length-map es edge_view)), at)
