use Rattle.std.proofs.Common.{Contains, List, ℕ, subst}
use Rattle.std.proofs.lemmas.Result.{IfOk-weaker}
use Rattle.lalrpop_lr1_theory.specs.States.{LookaheadSet}
use Rattle.lalrpop_lr1_core.specs.Views.{token_lookahead}
use Rattle.lalrpop_lr1_first.specs.Listings.{lent}
use Rattle.lalrpop_lr1_check_lookaheads.specs.CarriedSets.{AreCarriedEnds}
use Rattle.lalrpop_lr1_check_lookaheads.specs.Ends.{AreEnds, HaveJustMarks, SlotsBringToEnd}
use Rattle.lalrpop_lr1_check_lookaheads.specs.LookaheadFlows.{AreFlown, HaveKnownItems}
use Rattle.lalrpop_lr1_check_lookaheads.specs.LookaheadSlots.{slot_keys}
use Rattle.lalrpop_lr1_check_lookaheads.specs.declared.lookaheads.ends.Ends.{Ends}
use Rattle.lalrpop_lr1_check_lookaheads.proofs.PropagatedLemmas.{ends_are_carried}
use Rattle.lalrpop_lr1_check_lookaheads.proofs.PropagationEdgeLemmas.{any_look}
use Rattle.lalrpop_lr1_check_lookaheads.proofs.SeedLemmas.{edges_between, tokens_small}
use Rattle.lalrpop_lr1_check_lookaheads.proofs.lookaheads.carried.ends_of.Goals as goal

pub flown_sets-requires-clause-are : goal.flown_sets-requires-clause-are
flown_sets-requires-clause-are c = (c.in_ok-slots.ensures.2 (token_lookahead c.args.grammar.now.terminals)).are

pub flown_sets-requires-clause-tokens : goal.flown_sets-requires-clause-tokens
flown_sets-requires-clause-tokens c =
    let own = lent c.args.named.now.table.now.productions.items in
    let made = c.in_ok-slots.ensures in
    tokens_small c.args.grammar.now own own c.args.start.now.0 (token_lookahead c.args.grammar.now.terminals) c.args.states.now
    made.0 c.in_ok-slots.slots c.in_ok-slots.edges.items _ made.1 (made.2 (token_lookahead c.args.grammar.now.terminals))

pub flown_sets-requires-clause-edges : goal.flown_sets-requires-clause-edges
flown_sets-requires-clause-edges c = λ e m.
    let made = c.in_ok-slots.ensures in
    edges_between c.args.grammar.now (lent c.args.named.now.table.now.productions.items) (token_lookahead c.args.grammar.now.terminals)
    c.args.states.now made.0 c.in_ok-slots.slots c.in_ok-slots.edges.items _
    (made.2 (token_lookahead c.args.grammar.now.terminals)) e (subst (λ l. Contains l e) c.as_slice.ensures.value m)

pub returns-clause-are : goal.returns-clause-are
returns-clause-are c =
    let ps = lent c.args.named.now.table.now.productions.items in
    IfOk-weaker c.propagated_ends.result
    (λ (ends : Ends). (look : List ℕ → LookaheadSet) → HaveJustMarks ends
    (SlotsBringToEnd look c.args.states.now ps (slot_keys c.in_ok-slots.slots) c.as_slice-2.result.now))
    (λ (ends : Ends). AreEnds ends) (λ ends just. (just any_look).are) c.propagated_ends.ensures

pub returns-clause-carried : goal.returns-clause-carried
returns-clause-carried c =
    let g = c.args.grammar.now in
    let ps = lent c.args.named.now.table.now.productions.items in
    let look = token_lookahead g.terminals in
    let states = c.args.states.now in
    let made = c.in_ok-slots.ensures in
    let slots = c.in_ok-slots.slots in
    let edges = c.in_ok-slots.edges.items in
    let sets = c.in_ok-sets.sets.items in
    let flown : AreFlown slots edges sets = subst (λ l. AreFlown slots l sets) c.as_slice.ensures.value c.in_ok-sets.ensures in
    IfOk-weaker c.propagated_ends.result
    (λ (ends : Ends). (view : List ℕ → LookaheadSet) → HaveJustMarks ends
    (SlotsBringToEnd view states ps (slot_keys slots) c.as_slice-2.result.now))
    (λ (ends : Ends). HaveKnownItems g.terminals states → AreCarriedEnds g c.args.start.now.0 states ends)
    (λ ends just known.
    let own = subst (λ l. HaveJustMarks ends (SlotsBringToEnd look states ps (slot_keys slots) l)) c.as_slice-2.ensures.value (just look) in
    ends_are_carried g c.requires.grammar states known ps c.requires.productions c.args.start.now.0 made.0 slots made.1 edges
    (made.2 look) sets flown ends own.are own.marks)
    c.propagated_ends.ensures
