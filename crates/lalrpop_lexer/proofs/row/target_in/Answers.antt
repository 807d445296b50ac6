use Rattle.std.proofs.Common.{◌≡◌, ℕ, ◌+◌, ◌-◌, ◌/◌, ◌<◌, ◌∙◌, List, arith, ap, sym, Some, length, get_or}
use Rattle.std.proofs.lemmas.List.{length-map, get_or_default}
use Rattle.lalrpop_lexer.specs.declared.edge.DfaEdge.{DfaEdge}
use Rattle.lalrpop_lexer.specs.Numbering.{EdgeView}
use Rattle.lalrpop_lexer.specs.Explore.{edge_view, edges_view}
use Rattle.lalrpop_lexer.proofs.FollowLemmas.{edge_is, narrow_low, narrow_high, step_found, step_missing}
use Rattle.lalrpop_lexer.proofs.row.target_in.Goals as goal
use Rattle.lalrpop_lexer.proofs.row.target_in.Goals.{else-low-edges-via-then-low-edges+else-start-character}
use Rattle.lalrpop_lexer.proofs.row.target_in.Goals.{else-low-edges-via-else-low-edges}

abbrev none : DfaEdge
none = record { test = record { start = 0; end = 0 }; to = record { 0 = 0 } }

-- an edge that was read at its place
read : (es : List DfaEdge) (i : ℕ) → i < length es → get_or es i none ≡ get_or es i (get_or es i none)
read es i l = get_or_default es i none (get_or es i none) l

pub loop-low-preserved-then-end-character : goal.loop-low-preserved-then-end-character
loop-low-preserved-then-end-character c =
    let es = c.args.edges.now in
    let m = c.loop-low.low + (c.loop-low.high - c.loop-low.low) / 2 in
    let inside : m < length es = omega (arith, c.loop-low.invariant.within, c.loop-low-test.true) in
    record {
      within = c.loop-low.invariant.within;
      order = omega (arith, c.loop-low-test.true);
      below = narrow_low es c.args.character m (get_or es m none) c.requires inside (read es m inside)
          (omega (arith, c.end.ensures, c.if-end-character.true));
      above = c.loop-low.invariant.above;
    }

pub loop-low-preserved : goal.loop-low-preserved
loop-low-preserved c =
    let es = c.args.edges.now in
    let m = c.loop-low.low + (c.loop-low.high - c.loop-low.low) / 2 in
    let inside : m < length es = omega (arith, c.loop-low.invariant.within, c.loop-low-test.true) in
    record {
      within = omega arith;
      order = omega arith;
      below = c.loop-low.invariant.below;
      above = narrow_high es c.args.character m (get_or es m none) c.requires inside (read es m inside)
          (omega (arith, c.end.ensures, c.if-end-character.false));
    }

pub returns-then-start-character : goal.returns-then-start-character
returns-then-start-character c =
    let es = c.args.edges.now in
    let low = c.loop-low.low in
    let inside : low < length es = omega (arith, c.if-low-edges.true) in
    let size = length-map es edge_view in
    let first = edge_is es low (get_or es low none) inside (read es low inside) in
    ap (λ (x : EdgeView). Some x.2) (sym first)
    ∙ sym (step_found (edges_view es) c.args.character low c.requires (omega (arith, size)) c.loop-low.invariant.below
    (c.loop-low.invariant.above low c.loop-low-test.false inside)
    (omega (arith, ap (λ (x : EdgeView). x.0) first, c.start.ensures, c.if-start-character.true)))

pub returns : goal.returns
returns c =
    let es = c.args.edges.now in
    let low = c.loop-low.low in
    let size = length-map es edge_view in
    sym (step_missing (edges_view es) c.args.character low c.requires c.loop-low.invariant.below (λ within.
    let inside : low < length es = omega (arith, size, within) in
    elim c.else-low-edges.branch [
      | else-low-edges-via-then-low-edges+else-start-character w ↦
          let first = edge_is es low (get_or es low none) inside (read es low inside) in
          omega (arith, ap (λ (x : EdgeView). x.0) first, w.start.ensures, w.if-start-character.false)
      | else-low-edges-via-else-low-edges w ↦ absurd (omega (arith, size, w.if-low-edges.false))
    ]))
