use Rattle.std.proofs.Common.{ap, map, subst}
use Rattle.lalrpop_lr1_core.specs.Views.{production_symbol_view}
use Rattle.lalrpop_grammar_symbols.specs.declared.names.NonterminalString.{NonterminalString}
use Rattle.lalrpop_lr1_check_lookaheads.specs.Brought.{BeginBrings, BringsMark}
use Rattle.lalrpop_lr1_check_lookaheads.specs.LookaheadSlots.{GainsSlotMarks, slot_key, slot_table}
use Rattle.lalrpop_lr1_check_lookaheads.proofs.KeyedSetLemmas.{gains_as}
use Rattle.lalrpop_lr1_check_lookaheads.proofs.lookaheads.seeds.seed_begin.Goals as goal

pub returns-in_ok-seed_behind : goal.returns-in_ok-seed_behind
returns-in_ok-seed_behind c =
    let g = c.args.grammar.now in
    let p = c.args.production.now in
    gains_as (slot_table c.args.slots.now) (slot_table c.seed_behind.new.slots) (BringsMark g c.args.slot.state (map production_symbol_view p.symbols))
    (BeginBrings g (slot_key c.args.slot) p)
    (λ key mark. (λ b. (ap (λ (n : NonterminalString). n.0) (c.is_of.ensures.0 c.if-is_of.true), b), λ b. b.1))
    (subst (λ l. GainsSlotMarks c.args.slots.now c.seed_behind.new.slots (BringsMark g c.args.slot.state (map production_symbol_view l)))
    c.as_slice-symbols.ensures c.in_ok-seed_behind.ensures)
