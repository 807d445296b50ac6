use Rattle.std.proofs.Common.{◌≡◌, ◌-◌, true, false, get_or, ◌∙◌, ap, sym, refl, subst, arith}
use Rattle.std.proofs.lemmas.List.{get_or_default}
use Rattle.lalrpop_lexer.specs.declared.edge.DfaEdge.{DfaEdge}
use Rattle.lalrpop_lexer.specs.Explore.{edge_view}
use Rattle.lalrpop_lexer.specs.Joined.{Continues}
use Rattle.lalrpop_lexer.proofs.JoinLemmas.{joined_edge, pushed_edge}
use Rattle.lalrpop_lexer.proofs.edge.push_edge.Goals as goal
use Rattle.lalrpop_lexer.proofs.edge.push_edge.Goals.{else-count-gt0-via-then-count-gt0+else-continues, else-count-gt0-via-else-count-gt0}

pub returns-then-continues : goal.returns-then-continues
returns-then-continues c =
    let es = c.args.edges.now.items in
    let last = c.index.result.now in
    let again : c.index-then-continues.result.now ≡ last =
    c.index-then-continues.ensures
    ∙ get_or_default es (c.len-count.result - 1) c.index-then-continues.result.now last (omega (arith, c.len-count.ensures, c.if-count-gt0.true, c.args.edges.now.ok.0))
    ∙ sym c.index.ensures in
    let begins = c.new-then-continues.ensures.start ∙ c.new.ensures.start ∙ c.start.ensures ∙ ap (λ (e : DfaEdge). e.test.start) again in
    let ends = c.new-then-continues.ensures.end ∙ c.new.ensures.end ∙ c.end.ensures in
    joined_edge es (c.len-count.result - 1) _ last (edge_view c.args.edge)
    (omega (arith, c.len-count.ensures, c.if-count-gt0.true, c.args.edges.now.ok.0)) (sym c.index.ensures)
    (c.continues.ensures.0 c.if-continues.true) (rw (begins, ends) refl)

pub returns : goal.returns
returns c =
    let es = c.args.edges.now.items in
    rw c.in_ok-push.ensures.items
    (pushed_edge es c.args.edge (λ n size goes.
    elim c.else-count-gt0.branch [
      | else-count-gt0-via-then-count-gt0+else-continues w ↦
          let at : n ≡ c.len-count.result - 1 = omega (arith, size, c.len-count.ensures, c.args.edges.now.ok.0) in
          let is : get_or es n c.args.edge ≡ w.index.result.now =
          ap (λ k. get_or es k c.args.edge) at
          ∙ get_or_default es (c.len-count.result - 1) c.args.edge w.index.result.now (omega (arith, at, size)) ∙ sym w.index.ensures in
          let P : DfaEdge → Type 0 = λ f. Continues (edge_view f) (edge_view c.args.edge) in
          let yes : w.continues.result ≡ true = w.continues.ensures.1 (subst P is goes) in
          let no : w.continues.result ≡ false = w.if-continues.false in
          cc
      | else-count-gt0-via-else-count-gt0 w ↦ absurd (omega (arith, size, c.len-count.ensures, w.if-count-gt0.false, c.args.edges.now.ok.0))
    ]))
