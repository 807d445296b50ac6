use Rattle.std.proofs.Common.{◌∙◌, ◌<◌, ℕ, All, ap, refl, sym, subst, arith}
use Rattle.std.proofs.lemmas.List.Elements.{All-weaker}
use Rattle.lalrpop_lexer_nfa.specs.declared.edge.Edge.{Edge}
use Rattle.lalrpop_lexer_nfa.specs.declared.test.Test.{Test}
use Rattle.lalrpop_lexer_nfa.specs.declared.edges.EdgeIterator.{EdgeIterator}
use Rattle.lalrpop_lexer_nfa.specs.Labels.{front_from}
use Rattle.lalrpop_lexer_nfa.specs.Paths.{nfa_view}
use Rattle.lalrpop_lexer_nfa.proofs.ListLemmas.{front_more, front_end}
use Rattle.lalrpop_lexer.proofs.SplitLemmas.{told_none, told_start, told_more, told_end, told_kept, told_alike}
use Rattle.lalrpop_lexer.proofs.alike.groups_of.Goals as goal

pub loop-state-init : goal.loop-state-init
loop-state-init c =
    told_none (nfa_view c.args.nfa.now) c.args.nfa.now.edges.test_edges.items refl c.args.pieces.now
    c.in_ok-partition.partition.numbers.items c.in_ok-partition.partition.splits.items c.in_ok-partition.ensures.size
    c.in_ok-partition.ensures.pairs

pub loop-edge-init : goal.loop-edge-init
loop-edge-init c =
    told_start (nfa_view c.args.nfa.now) c.args.nfa.now.edges.test_edges.items refl c.args.pieces.now _ _ _ _
    (ap (λ (s : EdgeIterator Test). front_from s.from.0 s.edges.now) c.into_iter-edge-iterator.ensures.into_iter_gives
    ∙ c.edges-edge-items.ensures.edges) c.loop-state.invariant

pub split_by-requires-clause-pairs : goal.split_by-requires-clause-pairs
split_by-requires-clause-pairs c = (c.loop-edge.invariant.pairs, c.loop-edge.invariant.are)

pub split_by-requires-clause-size : goal.split_by-requires-clause-size
split_by-requires-clause-size c = c.loop-edge.invariant.size

pub loop-edge-preserved : goal.loop-edge-preserved
loop-edge-preserved c =
    told_more (nfa_view c.args.nfa.now) c.args.nfa.now.edges.test_edges.items refl c.args.pieces.now _ _ _ c.in-Some.edge.now _ _ _ _
    (front_more (λ (s : EdgeIterator Test). front_from s.from.0 s.edges.now) c.loop-edge.edge-iterator c.next.new.self c.next.result
    c.in-Some.edge c.in-Some.is c.next.ensures.steps)
    c.loop-edge.invariant c.in_ok-split_by.ensures

pub renumber-requires-clause-size : goal.renumber-requires-clause-size
renumber-requires-clause-size c = c.loop-edge.invariant.size

pub renumber-requires-clause-inside : goal.renumber-requires-clause-inside
renumber-requires-clause-inside c =
    let P : ℕ → Type 0 = λ n. All (λ g. g < n) c.loop-edge.partition.numbers.items in
    subst P (sym c.loop-edge.partition.splits.ok.0) c.loop-edge.invariant.are.inside

pub loop-state-preserved : goal.loop-state-preserved
loop-state-preserved c =
    let nfa = c.args.nfa.now in
    let edges = nfa.edges.test_edges.items in
    told_kept (nfa_view nfa) edges refl c.args.pieces.now _ _ _ _ _ _
    (told_end (nfa_view nfa) edges refl c.args.pieces.now _ _ _ _
    (front_end (λ (s : EdgeIterator Test). front_from s.from.0 s.edges.now) c.loop-edge.edge-iterator c.next.new.self c.next.result
    c.in-None.is c.next.ensures.steps) c.loop-edge.invariant)
    c.in_ok-renumber.ensures

pub returns : goal.returns
returns c =
    let nfa = c.args.nfa.now in
    let edges = nfa.edges.test_edges.items in
    told_alike (nfa_view nfa) edges refl c.args.pieces.now c.loop-state.state c.loop-state.partition.numbers.items
    c.loop-state.partition.splits.items _ _ c.loop-state.invariant
    (All-weaker (λ (e : Edge Test). e.from.0 < nfa.states.len) (λ (e : Edge Test). e.from.0 < c.loop-state.state)
    (λ e l. omega (arith, l, c.loop-state-test.false, c.state_count-state-end.ensures)) edges nfa.tests_inside)
    (rw c.deref.ensures.value at c.in_ok-groups.ensures)
