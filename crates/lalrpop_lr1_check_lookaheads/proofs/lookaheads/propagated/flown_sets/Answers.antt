use Rattle.std.proofs.Common.{◌≡◌, ◌∙◌, ◌++◌, ◌∷◌, [], ◌+◌, ◌↔◌, ℕ, List, Option}
use Rattle.std.proofs.Common.{Some, ap, length, map, subst, sym, true}
use Rattle.lalrpop_sets.specs.AscendingLists.{has}
use Rattle.lalrpop_sets.specs.Tokens.{eof_number}
use Rattle.lalrpop_lr1_first.specs.FlowEdges.{RestsAreWithin, edges_seen}
use Rattle.lalrpop_lr1_first.specs.Flows.{EdgesAreWithin, Flows, MarksAreWithin, all_marks}
use Rattle.lalrpop_lr1_first.specs.Numbers.{set_of_number}
use Rattle.lalrpop_lr1_first.proofs.TableLemmas.{long_map}
use Rattle.lalrpop_lr1_check_lookaheads.specs.LookaheadSlots.{slot_sets}
use Rattle.lalrpop_lr1_check_lookaheads.proofs.FlownLemmas.{edges_within, flown_are, marks_within, rests_within, slot_tokens}
use Rattle.lalrpop_lr1_check_lookaheads.proofs.lookaheads.propagated.flown_sets.Goals as goal

pub flow-requires-clause-rests : goal.flow-requires-clause-rests
flow-requires-clause-rests c =
    let end = eof_number c.args.terminals.now in
    let fs : c.as_slice-2.result.now ≡ (end ∷ []) ∷ [] = c.as_slice-2.ensures.value ∙ c.in_ok-push.ensures.items
    ∙ ap (λ l. l ++ c.in_ok-eof.field-0 ∷ []) c.new-firsts.ensures.items ∙ ap (λ s. s ∷ []) c.in_ok-eof.ensures in
    subst (λ l. RestsAreWithin (length l) c.args.edges.now) (sym fs)
    (rests_within end c.args.edges.now (slot_sets c.args.slots.now)
    (λ e m. let r = c.requires.edges e m in (r.from, r.to, r.rest)))

pub flow-requires-clause-edges : goal.flow-requires-clause-edges
flow-requires-clause-edges c =
    let end = eof_number c.args.terminals.now in
    let own = slot_sets c.args.slots.now in
    let fs : c.as_slice-2.result.now ≡ (end ∷ []) ∷ [] = c.as_slice-2.ensures.value ∙ c.in_ok-push.ensures.items
    ∙ ap (λ l. l ++ c.in_ok-eof.field-0 ∷ []) c.new-firsts.ensures.items ∙ ap (λ s. s ∷ []) c.in_ok-eof.ensures in
    let f : List ℕ → Option (List ℕ) = λ s. Some s in
    let ss : c.in_ok-sets.sets.items ≡ map f own = c.in_ok-sets.ensures ∙ ap (map f) c.as_slice.ensures.value in
    let long : length c.in_ok-sets.sets.items ≡ length own = ap length ss ∙ long_map f own in
    subst (λ n. EdgesAreWithin end n (edges_seen c.as_slice-2.result.now c.args.edges.now)) (sym long)
    (subst (λ l. EdgesAreWithin end (length own) (edges_seen l c.args.edges.now)) (sym fs)
    (edges_within end c.args.edges.now own (λ e m. let r = c.requires.edges e m in (r.from, r.to, r.rest))))

pub flow-requires-clause-marks : goal.flow-requires-clause-marks
flow-requires-clause-marks c =
    let end = eof_number c.args.terminals.now in
    let own = slot_sets c.args.slots.now in
    let f : List ℕ → Option (List ℕ) = λ s. Some s in
    let ss : c.in_ok-sets.sets.items ≡ map f own = c.in_ok-sets.ensures ∙ ap (map f) c.as_slice.ensures.value in
    subst (MarksAreWithin (λ (set : List ℕ). set) end) (sym ss)
    (marks_within end own (slot_tokens end c.args.slots.now c.requires.are c.requires.tokens))

pub returns : goal.returns
returns c =
    let end = eof_number c.args.terminals.now in
    let own = slot_sets c.args.slots.now in
    let edges = c.args.edges.now in
    let new = c.flow.new.slots.items in
    let fs : c.as_slice-2.result.now ≡ (end ∷ []) ∷ [] = c.as_slice-2.ensures.value ∙ c.in_ok-push.ensures.items
    ∙ ap (λ l. l ++ c.in_ok-eof.field-0 ∷ []) c.new-firsts.ensures.items ∙ ap (λ s. s ∷ []) c.in_ok-eof.ensures in
    let f : List ℕ → Option (List ℕ) = λ s. Some s in
    let ss : c.in_ok-sets.sets.items ≡ map f own = c.in_ok-sets.ensures ∙ ap (map f) c.as_slice.ensures.value in
    record {
      count = c.flow.ensures.count ∙ ap length ss ∙ long_map f own;
      flown = flown_are end edges own (λ e m. let r = c.requires.edges e m in (r.from, r.to, r.rest))
          (slot_tokens end c.args.slots.now c.requires.are c.requires.tokens) new c.in_ok-flow.ensures.marks
          (λ s k. subst (λ l. (has (set_of_number (all_marks (λ (set : List ℕ). set) (end + 2) new) s) k ≡ true)
          ↔ Flows true end (edges_seen ((end ∷ []) ∷ []) edges) (all_marks (λ (set : List ℕ). set) (end + 2) l) s k) ss
          (subst (λ l. (has (set_of_number (all_marks (λ (set : List ℕ). set) (end + 2) new) s) k ≡ true)
          ↔ Flows true end (edges_seen l edges) (all_marks (λ (set : List ℕ). set) (end + 2) c.in_ok-sets.sets.items) s k) fs
          (c.in_ok-flow.ensures.flows s k)));
    }
