use Rattle.std.proofs.Common.{ℕ, ◌≡◌, ◌+◌, ◌<◌, ◌∙◌, inl, inr, arith, Contains, get_or, length}
use Rattle.std.proofs.lemmas.List.{get_or_default, length-map}
use Rattle.lalrpop_lexer.specs.declared.outcome.Precedence.{Precedence}
use Rattle.lalrpop_lexer.specs.Outcome.{numbers}
use Rattle.lalrpop_lexer.proofs.OutcomeLemmas.{weigh_start, weigh_take, weigh_pass, weigh_end}
use Rattle.lalrpop_lexer.proofs.outcome_of.outcome_of.Goals as goal
use Rattle.lalrpop_lexer.proofs.outcome_of.outcome_of.Goals.{then-next-pattern+then-pattern-precedences, else-next-pattern}
use Rattle.lalrpop_lexer.proofs.outcome_of.outcome_of.Goals.{else-next-pattern-via-then-next-pattern+else-pattern-precedences}
use Rattle.lalrpop_lexer.proofs.outcome_of.outcome_of.Goals.{else-next-pattern-via-else-next-pattern}

pub loop-i-init : goal.loop-i-init
loop-i-init c = weigh_start (λ k. Contains c.args.set.now (3 + k)) (numbers c.args.precedences.now) c.in_ok-patterns.patterns.items
    c.in_ok-patterns.ensures.all

pub loop-i-preserved : goal.loop-i-preserved
loop-i-preserved c =
    let M : ℕ → Type 0 = λ k. Contains c.args.set.now (3 + k) in
    let ps = numbers c.args.precedences.now in
    let patterns = c.in_ok-patterns.patterns.items in
    let i = c.loop-i.i in
    let p = c.index-pattern.result.now in
    let inside : i < length patterns = omega (arith, c.loop-i-test.true, c.in_ok-patterns.patterns.ok.0, c.len-i-end.ensures) in
    let at : p ≡ get_or patterns i 0 = c.index-pattern.ensures ∙ get_or_default patterns i p 0 inside in
    let size : length ps ≡ length c.args.precedences.now = length-map c.args.precedences.now (λ (p : Precedence). p.0) in
    elim c.if-next-pattern.branch [
      | then-next-pattern+then-pattern-precedences w ↦
          rw (w.outcome-is, w.next-is, w.join-outcome.ensures)
          (weigh_take M ps patterns i c.loop-i.next p c.loop-i.outcome c.in_ok-patterns.ensures.ascending c.in_ok-patterns.ensures.only
          inside at w.if-next-pattern.true (omega (arith, size, w.if-pattern-precedences.true)) c.loop-i.invariant)
      | else-next-pattern w ↦
          rw (w.outcome-is, w.next-is)
          (elim w.else-next-pattern.branch [
            | else-next-pattern-via-then-next-pattern+else-pattern-precedences v ↦
                weigh_pass M ps patterns i c.loop-i.next p c.loop-i.outcome at (inr (omega (arith, size, v.if-pattern-precedences.false)))
                c.loop-i.invariant
            | else-next-pattern-via-else-next-pattern v ↦ weigh_pass M ps patterns i c.loop-i.next p c.loop-i.outcome at
                (inl v.if-next-pattern.false) c.loop-i.invariant
          ])
    ]

pub returns : goal.returns
returns c =
    weigh_end (λ k. Contains c.args.set.now (3 + k)) (numbers c.args.precedences.now) c.in_ok-patterns.patterns.items c.loop-i.i
    c.loop-i.next c.loop-i.outcome
    (omega (arith, c.loop-i-test.false, c.in_ok-patterns.patterns.ok.0, c.len-i-end.ensures)) c.loop-i.invariant
