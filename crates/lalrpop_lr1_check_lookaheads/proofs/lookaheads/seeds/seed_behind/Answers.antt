use Rattle.std.proofs.Common.{◌≡◌, drop, map}
use Rattle.lalrpop_lr1_core.specs.Views.{production_symbol_view}
use Rattle.lalrpop_lr1_check_lookaheads.specs.Brought.{BringsMark}
use Rattle.lalrpop_lr1_check_lookaheads.specs.KeyedSets.{IsMarkIn}
use Rattle.lalrpop_lr1_check_lookaheads.specs.LookaheadSlots.{slot_table}
use Rattle.lalrpop_lr1_check_lookaheads.proofs.BroughtLemmas.{brought_tokens}
use Rattle.lalrpop_lr1_check_lookaheads.proofs.KeyedSetLemmas.{gains_as}
use Rattle.lalrpop_lr1_check_lookaheads.proofs.SlotLemmas.{key_of}
use Rattle.lalrpop_lr1_check_lookaheads.proofs.lookaheads.seeds.seed_behind.Goals as goal

pub returns-in_ok-add-in-Some : goal.returns-in_ok-add-in-Some
returns-in_ok-add-in-Some c =
    let g = c.args.grammar.now in
    let symbols = drop c.args.dot (map production_symbol_view c.args.symbols.now) in
    let tokens = c.in_ok-tokens-in-Some.tokens in
    let own = key_of c.args.state c.in-Some.name.now.0 in
    gains_as (slot_table c.args.slots.now) (slot_table c.add.new.self) (λ key mark. (key ≡ own) × IsMarkIn tokens mark) (BringsMark g c.args.state symbols)
    (brought_tokens g c.args.state symbols (map production_symbol_view c.in-Some.rest.now) c.in-Some.name.now.0 c.in-Some.ensures tokens
    c.in_ok-tokens-in-Some.ensures) c.in_ok-add-in-Some.ensures
