use Rattle.std.proofs.Common.{◌≡◌, subst}
use Rattle.std.proofs.lemmas.Result.{on_ok_weaker}
use Rattle.lalrpop_lr1_first.specs.NumberedGrammars.{table_productions}
use Rattle.lalrpop_lr1_check_lookaheads.specs.KeyedSets.{IsMarkIn}
use Rattle.lalrpop_lr1_check_lookaheads.specs.LookaheadSlots.{GainsSlotMarks}
use Rattle.lalrpop_lr1_check_lookaheads.proofs.SeedLemmas.{seeds_are}
use Rattle.lalrpop_lr1_check_lookaheads.proofs.SlotLemmas.{key_of}
use Rattle.lalrpop_lr1_check_lookaheads.proofs.lookaheads.propagated.seed_slots.Goals as goal

pub returns : goal.returns
returns c =
    on_ok_weaker c.add.result
    (λ added. seeds_are c.args.grammar.now (table_productions c.args.named.now.table.now) c.args.start.now.0 c.args.states.now
    c.args.slots.now c.seed_all_items.new.slots c.close_slots.new.slots c.add.new.self c.requires.keys c.in_ok-seed_all_items.ensures
    c.in_ok-close_slots.ensures
    (subst (λ l. GainsSlotMarks c.close_slots.new.slots c.add.new.self
    (λ key mark. (key ≡ key_of 0 c.args.start.now.0) × IsMarkIn l mark)) c.in_ok-end.ensures added))
    c.add.ensures
