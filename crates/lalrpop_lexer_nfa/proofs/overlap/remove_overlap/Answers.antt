use Rattle.std.proofs.Common.{arith, sym, ◌∙◌, refl, true≢false}
use Rattle.lalrpop_lexer_nfa.proofs.AlphabetClassLemmas.{AreCuts, split_start, turn_push, turn_skip, turn_same, split_end}
use Rattle.lalrpop_lexer_nfa.proofs.CoverLemmas.{covered_along}
use Rattle.lalrpop_lexer_nfa.proofs.overlap.remove_overlap.Goals as goal
use Rattle.lalrpop_lexer_nfa.proofs.overlap.remove_overlap.Goals.{then-low-high+then-is_covered+in_ok-push, else-low-high}
use Rattle.lalrpop_lexer_nfa.proofs.overlap.remove_overlap.Goals.{else-low-high-via-then-low-high+else-is_covered}
use Rattle.lalrpop_lexer_nfa.proofs.overlap.remove_overlap.Goals.{else-low-high-via-else-low-high, In_ok-cuts}

are_cuts : (c : In_ok-cuts) → AreCuts c.args.ranges.now.keys c.in_ok-cuts.cuts.items
are_cuts c = record { all = c.in_ok-cuts.ensures.all; only = c.in_ok-cuts.ensures.only; ascending = c.in_ok-cuts.ensures.ascending }

pub loop-i-init : goal.loop-i-init
loop-i-init c = rw c.new-pieces.ensures.items (split_start _ _ (are_cuts (goal.at.loop-i-init c).In_ok-cuts))

pub loop-i-preserved : goal.loop-i-preserved
loop-i-preserved c =
    let cuts = are_cuts (goal.at.loop-i-preserved c).In_ok-cuts in
    elim c.if-low-high.branch [
      | then-low-high+then-is_covered+in_ok-push w ↦
          rw (w.pieces-is, w.in_ok-push.ensures.items)
          (turn_push _ _ _ _ _ _ cuts c.loop-i.auto.i (omega arith) c.index-low.ensures c.index-high.ensures c.loop-i.invariant _
          w.if-low-high.true (covered_along w.deref-then-low-high.result.now c.args.ranges.now.keys _
          (rw w.deref-then-low-high.ensures.value c.in_ok-ordered.ensures.only)
          (w.is_covered.ensures.0 w.if-is_covered.true)) refl (omega (arith, w.if-low-high.true)))
      | else-low-high w ↦
          rw w.pieces-is
          (elim w.else-low-high.branch [
            | else-low-high-via-then-low-high+else-is_covered v ↦
                turn_skip _ _ _ _ _ _ cuts c.loop-i.auto.i (omega arith) c.index-low.ensures c.index-high.ensures c.loop-i.invariant
                v.if-low-high.true (λ h. let t = v.is_covered.ensures.1
                (covered_along c.args.ranges.now.keys v.deref-then-low-high.result.now _
                (rw v.deref-then-low-high.ensures.value c.in_ok-ordered.ensures.all) h) in
                absurd (true≢false (sym t ∙ v.if-is_covered.false)))
            | else-low-high-via-else-low-high v ↦
                turn_same _ _ _ _ _ _ cuts c.loop-i.auto.i (omega arith) c.index-low.ensures c.index-high.ensures c.loop-i.invariant
                v.if-low-high.false
          ])
    ]

pub returns : goal.returns
returns c = split_end _ _ _ c.loop-i.i (are_cuts (goal.at.returns c).In_ok-cuts) (λ some. omega arith) c.loop-i.invariant
