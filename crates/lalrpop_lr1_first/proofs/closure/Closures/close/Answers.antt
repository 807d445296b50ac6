use Rattle.std.proofs.Common.{◌≡◌, ◌∙◌, ◌+◌, ◌↔◌, ℕ, ap, arith, length, map, slice_get, subst, sym}
use Rattle.std.proofs.Common.{[], true}
use Rattle.lalrpop_sets.specs.AscendingLists.{Ascends, has}
use Rattle.lalrpop_lr1_first.specs.ClosureTables.{ClosesSeed, started_items}
use Rattle.lalrpop_lr1_first.specs.FirstNumbers.{name_count, table_end}
use Rattle.lalrpop_lr1_first.specs.FlowEdges.{RestsAreWithin, edges_seen}
use Rattle.lalrpop_lr1_first.specs.Flows.{EdgesAreWithin, Flows, all_marks}
use Rattle.lalrpop_lr1_first.specs.Numbers.{set_of_number}
use Rattle.lalrpop_lr1_first.proofs.ClosingLemmas.{brought_items, brought_tokens, closes, edge_rests, edges_within}
use Rattle.lalrpop_lr1_first.proofs.NothingLemmas.{empties, nothing_flown, nothing_seeded, nothing_started}
use Rattle.lalrpop_lr1_first.proofs.SeedLemmas.{started_ascend}
use Rattle.lalrpop_lr1_first.proofs.TableLemmas.{left_below}
use Rattle.lalrpop_lr1_first.proofs.closure.Closures.close.Goals as goal

pub flow-requires-clause-rests : goal.flow-requires-clause-rests
flow-requires-clause-rests g c =
    subst (λ es. RestsAreWithin (length c.as_slice.result.now) es) (sym c.as_slice-2.ensures.value)
    (subst (λ fs. RestsAreWithin (length fs) c.args.self.now.edges.items) (sym c.as_slice.ensures.value)
    (edge_rests c.args.self.now c.requires.closures))

pub flow-requires-clause-edges : goal.flow-requires-clause-edges
flow-requires-clause-edges g c =
    let t = c.args.self.now.numbered in
    subst (EdgesAreWithin (table_end t) (length c.seed_slots.new.slots.items))
    (sym (ap (λ es. edges_seen c.as_slice.result.now es) c.as_slice-2.ensures.value
    ∙ ap (λ fs. edges_seen fs c.args.self.now.edges.items) c.as_slice.ensures.value))
    (subst (λ n. EdgesAreWithin (table_end t) n (edges_seen c.args.self.now.firsts.items c.args.self.now.edges.items))
    (sym c.in_ok-seed_slots.ensures.count) (edges_within c.args.self.now c.requires.closures))

pub start_items-requires : goal.start_items-requires
start_items-requires g c = λ r rule e.
    let t = c.args.self.now.numbered in
    let below = left_below t c.requires.closures.numbers r rule (ap (λ l. slice_get l r) (sym c.as_slice-3.ensures.value) ∙ e) in
    let long = ap length c.as_slice-4.ensures.value ∙ c.flow.ensures.count ∙ c.in_ok-seed_slots.ensures.count in
    omega (arith, below, long)

pub returns-clause-ascending : goal.returns-clause-ascending
returns-clause-ascending g c =
    let rules = c.args.self.now.numbered.rules.items in
    subst (λ xs. Ascends (map (λ x. x.0) xs))
    (sym (c.in_ok-brought.ensures ∙ ap (λ rs. started_items c.as_slice-4.result.now rs) c.as_slice-3.ensures.value))
    (started_ascend c.as_slice-4.result.now rules c.requires.closures.numbers.laid.starts)

pub returns-clause-closes : goal.returns-clause-closes
returns-clause-closes g c =
    let marks = g.L.ClosureLookahead.marks in
    let counts = g.L.ClosureLookahead.firsts in
    let closures = c.args.self.now in
    let end = table_end closures.numbered in
    let seeded = c.seed_slots.new.slots.items in
    let after = c.flow.new.slots.items in
    let edges = ap (λ es. edges_seen c.as_slice.result.now es) c.as_slice-2.ensures.value
    ∙ ap (λ fs. edges_seen fs closures.edges.items) c.as_slice.ensures.value in
    let flows : (s k : ℕ) → (has (set_of_number (all_marks marks (end + 2) after) s) k ≡ true)
    ↔ Flows counts end (edges_seen closures.firsts.items closures.edges.items) (all_marks marks (end + 2) seeded) s k =
    subst (λ es. (s k : ℕ) → (has (set_of_number (all_marks marks (end + 2) after) s) k ≡ true)
    ↔ Flows counts end es (all_marks marks (end + 2) seeded) s k) edges c.in_ok-flow.ensures.flows in
    closes closures c.requires.closures marks counts c.args.seed.now c.requires.items seeded after c.in_ok-seed_slots.ensures flows
    c.in_ok-brought.brought.items
    (c.in_ok-brought.ensures ∙ ap (λ rs. started_items c.as_slice-4.result.now rs) c.as_slice-3.ensures.value
    ∙ ap (λ ss. started_items ss closures.numbered.rules.items) c.as_slice-4.ensures.value)

pub returns-clause-items : goal.returns-clause-items
returns-clause-items g c =
    let marks = g.L.ClosureLookahead.marks in
    let counts = g.L.ClosureLookahead.firsts in
    let closures = c.args.self.now in
    let end = table_end closures.numbered in
    let seeded = c.seed_slots.new.slots.items in
    let after = c.flow.new.slots.items in
    let edges = ap (λ es. edges_seen c.as_slice.result.now es) c.as_slice-2.ensures.value
    ∙ ap (λ fs. edges_seen fs closures.edges.items) c.as_slice.ensures.value in
    let flows : (s k : ℕ) → (has (set_of_number (all_marks marks (end + 2) after) s) k ≡ true)
    ↔ Flows counts end (edges_seen closures.firsts.items closures.edges.items) (all_marks marks (end + 2) seeded) s k =
    subst (λ es. (s k : ℕ) → (has (set_of_number (all_marks marks (end + 2) after) s) k ≡ true)
    ↔ Flows counts end es (all_marks marks (end + 2) seeded) s k) edges c.in_ok-flow.ensures.flows in
    brought_items closures c.requires.closures marks counts c.args.seed.now c.requires.items seeded after c.in_ok-seed_slots.ensures flows
    c.in_ok-brought.brought.items
    (c.in_ok-brought.ensures ∙ ap (λ rs. started_items c.as_slice-4.result.now rs) c.as_slice-3.ensures.value
    ∙ ap (λ ss. started_items ss closures.numbered.rules.items) c.as_slice-4.ensures.value)

pub returns-clause-tokens : goal.returns-clause-tokens
returns-clause-tokens g c = λ tokens.
    let marks = g.L.ClosureLookahead.marks in
    let counts = g.L.ClosureLookahead.firsts in
    let closures = c.args.self.now in
    let end = table_end closures.numbered in
    let seeded = c.seed_slots.new.slots.items in
    let after = c.flow.new.slots.items in
    let edges = ap (λ es. edges_seen c.as_slice.result.now es) c.as_slice-2.ensures.value
    ∙ ap (λ fs. edges_seen fs closures.edges.items) c.as_slice.ensures.value in
    let flows : (s k : ℕ) → (has (set_of_number (all_marks marks (end + 2) after) s) k ≡ true)
    ↔ Flows counts end (edges_seen closures.firsts.items closures.edges.items) (all_marks marks (end + 2) seeded) s k =
    subst (λ es. (s k : ℕ) → (has (set_of_number (all_marks marks (end + 2) after) s) k ≡ true)
    ↔ Flows counts end es (all_marks marks (end + 2) seeded) s k) edges c.in_ok-flow.ensures.flows in
    brought_tokens closures c.requires.closures marks counts c.args.seed.now c.requires.items seeded after c.in_ok-seed_slots.ensures flows
    c.in_ok-brought.brought.items
    (c.in_ok-brought.ensures ∙ ap (λ rs. started_items c.as_slice-4.result.now rs) c.as_slice-3.ensures.value
    ∙ ap (λ ss. started_items ss closures.numbered.rules.items) c.as_slice-4.ensures.value)
    tokens c.in_ok-flow.ensures.marks

pub returns-then-has_empty_closure-clause-closes : goal.returns-then-has_empty_closure-clause-closes
returns-then-has_empty_closure-clause-closes g c =
    let marks = g.L.ClosureLookahead.marks in
    let counts = g.L.ClosureLookahead.firsts in
    let closures = c.args.self.now in
    let nothing = c.has_empty_closure.ensures c.if-has_empty_closure.true in
    let empty = empties g.row.L.Denot (name_count closures.numbered) in
    subst (ClosesSeed marks counts closures.numbered c.args.seed.now) (sym c.new.ensures.items)
    (closes closures c.requires.closures marks counts c.args.seed.now c.requires.items empty empty
    (nothing_seeded marks counts closures.numbered closures.firsts.items c.args.seed.now nothing)
    (nothing_flown marks counts closures.numbered closures.firsts.items c.args.seed.now nothing
    (edges_seen closures.firsts.items closures.edges.items)) []
    (nothing_started g.row.L.Denot (name_count closures.numbered) closures.numbered.rules.items))
