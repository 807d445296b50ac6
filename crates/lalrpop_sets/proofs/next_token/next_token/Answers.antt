use Rattle.std.proofs.Common.{◌≡◌, ◌+◌, ◌∷◌, ◌∙◌, true, false, nat_lt, sym, ap, length, arith}
use Rattle.std.proofs.lemmas.Bool.Decides.{nat_tests}
use Rattle.lalrpop_sets.specs.RangeWalks.{numbers_to_come}
use Rattle.lalrpop_sets.specs.Tokens.{eof_number}
use Rattle.lalrpop_sets.specs.TokensLeft.{known_tokens}
use Rattle.lalrpop_sets.proofs.TokenLemmas.{known_has, known_lacks}
use Rattle.lalrpop_sets.proofs.next_token.next_token.Goals as goal

pub returns-then-number-end : goal.returns-then-number-end
returns-then-number-end c =
    let ts = c.args.terminals.now in
    let k = c.in-Some.number in
    let n = ap length c.as_slice.ensures in
    let l : nat_lt k (eof_number ts + 2) ≡ true = let h = c.if-number-end.true in grind (arith, nat_tests) in
    sym c.loop-number.invariant ∙ ap (known_tokens ts) c.in-Some.ensures ∙ known_has ts k _ l
    ∙ ap (λ t. t ∷ known_tokens ts (numbers_to_come c.next_number.new.self)) (sym c.token_by_number.ensures)

pub loop-number-preserved : goal.loop-number-preserved
loop-number-preserved c =
    let ts = c.args.terminals.now in
    let k = c.in-Some.number in
    let n = ap length c.as_slice.ensures in
    let l : nat_lt k (eof_number ts + 2) ≡ false = let h = c.if-number-end.false in grind (arith, nat_tests) in
    sym (ap (known_tokens ts) c.in-Some.ensures ∙ known_lacks ts k _ l) ∙ c.loop-number.invariant
