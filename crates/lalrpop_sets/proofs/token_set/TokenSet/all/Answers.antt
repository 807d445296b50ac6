use Rattle.std.proofs.Common.{◌+◌, ◌∷◌, ◌++◌, ◌∙◌, [], ap, arith}
use Rattle.std.specs.List.{range_with_len}
use Rattle.lalrpop_sets.specs.Ranges.{most_ranges, range_of}
use Rattle.lalrpop_sets.proofs.TokenSetLemmas.{full_apart, full_numbers}
use Rattle.lalrpop_sets.proofs.token_set.TokenSet.all.Goals as goal

pub take_end-end-requires-clause-apart : goal.take_end-end-requires-clause-apart
take_end-end-requires-clause-apart c =
    full_apart c.in_ok-last.last c.push.new.self.items
    (c.in_ok-push.ensures.items ∙ ap (λ l. l ++ range_of 0 c.in_ok-last.last ∷ []) c.in_ok-ranges.ensures.items)

pub take_end-end-requires-clause-room : goal.take_end-end-requires-clause-room
take_end-end-requires-clause-room c =
    let items = c.in_ok-push.ensures.items ∙ ap (λ l. l ++ range_of 0 c.in_ok-last.last ∷ []) c.in_ok-ranges.ensures.items in
    let m = ap most_ranges items in
    omega (arith, m, c.in_ok-ranges.ensures.capacity, c.push.ensures.capacity)

pub invariant_of-result : goal.invariant_of-result
invariant_of-result c =
    record { apart = c.take_end-end.ensures.apart; free = c.take_end-end.ensures.free; room = c.take_end-end.ensures.room }

pub returns : goal.returns
returns c =
    full_numbers c.in_ok-last.last _ c.take_end-end.new.ranges.items c.push.new.self.items c.take_end-end.result
    (record { apart = c.take_end-end.ensures.apart; free = c.take_end-end.ensures.free; room = c.take_end-end.ensures.room })
    (c.in_ok-push.ensures.items ∙ ap (λ l. l ++ range_of 0 c.in_ok-last.last ∷ []) c.in_ok-ranges.ensures.items) c.take_end-end.ensures.same
    ∙ ap (λ n. range_with_len 0 (n + 1)) (c.in_ok-last.ensures ∙ c.eof_bit.ensures.number)
