use Rattle.std.proofs.Common.{◌≡◌, ◌∙◌, ◌+◌, ℕ, ap, arith, sym}
use Rattle.lalrpop_sets.specs.AscendingLists.{has}
use Rattle.lalrpop_lr1_first.specs.FirstNumbers.{name_count, table_end}
use Rattle.lalrpop_lr1_first.specs.Flows.{comes}
use Rattle.lalrpop_lr1_first.specs.Numbers.{set_of_number}
use Rattle.lalrpop_lr1_first.specs.Tables.{rest_of}
use Rattle.lalrpop_lr1_first.proofs.ClosingLemmas.{comes_small, place_within}
use Rattle.lalrpop_lr1_first.proofs.ListLemmas.{at_read_set}
use Rattle.lalrpop_lr1_first.proofs.SeedLemmas.{name_is, rest_within, seeds_name}
use Rattle.lalrpop_lr1_first.proofs.closure.seed_slot.Goals as goal

pub returns-in_ok-join-in-Some-clause-seeded : goal.returns-in_ok-join-in-Some-clause-seeded
returns-in_ok-join-in-Some-clause-seeded g c =
    let marks = g.L.ClosureLookahead.marks in
    let counts = g.L.ClosureLookahead.firsts in
    let closures = c.args.closures.now in
    let t = closures.numbered in
    let rests = closures.firsts.items in
    let place = c.args.place in
    let l = c.args.lookahead.now in
    let is = sym c.name_at.ensures ∙ c.in-Some.is in
    let n = name_is (name_count t) (rest_of t.places.items place) c.in-Some.name is in
    let within = rest_within t.places.items place c.in-Some.name n.0 n.1 in
    let read = at_read_set rests (place + 1) c.index-first.result.now
    (omega (arith, within, c.requires.closures.firsts_are.place_firsts.count)) c.index-first.ensures in
    let flow : (k : ℕ) → has (marks c.in_ok-came-in-Some.came) k ≡ comes counts (table_end t) (set_of_number rests (place + 1))
    (marks l) k =
    λ k. c.in_ok-came-in-Some.ensures k ∙ ap (λ f. comes counts (table_end t) f (marks l) k) read in
    seeds_name marks counts t rests place l c.args.slots.now.items c.requires.count c.requires.marks c.in-Some.name is
    c.in_ok-came-in-Some.came flow
    (λ k h. comes_small counts (table_end t) (set_of_number rests (place + 1)) (marks l) k
    (place_within closures c.requires.closures (place + 1) (omega (arith, within)) k) (c.requires.lookahead k) (sym (flow k) ∙ h))
    c.index_mut.result.now c.join.new.slot c.index_mut.ensures.value c.in_ok-join-in-Some.ensures.joined
