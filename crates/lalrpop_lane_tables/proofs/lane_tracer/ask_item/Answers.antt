use Rattle.std.proofs.Common.{◌≡◌, ◌+◌, List, Some, drop, map, refl, slice_get, subst}
use Rattle.std.proofs.lemmas.Result.{on_ok_weaker}
use Rattle.lalrpop_grammar_repr.specs.declared.production.Symbol.{Symbol}
use Rattle.lalrpop_grammar_repr.specs.declared.production.Symbol.TheVariants as symbols
use Rattle.lalrpop_lr1_core.specs.Views.{production_symbol_view}
use Rattle.lalrpop_lr1_first.specs.FirstSetsOf.{IsFirstSet}
use Rattle.lalrpop_lane_tables.specs.NodeKeys.{node_key}
use Rattle.lalrpop_lane_tables.specs.TraceNodes.{ExtendsNodes, TraceNode}
use Rattle.lalrpop_lane_tables.proofs.AskLemmas.{asks_ends, asks_gains, asks_goes_on, asks_one, asks_other}
use Rattle.lalrpop_lane_tables.proofs.lane_tracer.ask_item.Goals as goal

pub returns-then-not-can_shift_nonterminal : goal.returns-then-not-can_shift_nonterminal
returns-then-not-can_shift_nonterminal g c =
    asks_other c.args.ground.now.grammar.now c.args.state c.args.name.now c.args.item.now c.args.conflict.index
    (map node_key c.args.visited.now.keys) c.args.table.now
    (λ e. let z = c.can_shift_nonterminal.ensures.1 e in let w : ⊥ = cc in w)

pub returns-then-ends : goal.returns-then-ends
returns-then-ends g c =
    let grammar = c.args.ground.now.grammar.now in
    let item = c.args.item.now in
    let at : slice_get item.production.now.symbols item.index ≡ Some (symbols.Nonterminal c.args.name.now) =
    c.can_shift_nonterminal.ensures.0 c.if-not-can_shift_nonterminal.false in
    let first : IsFirstSet grammar (map production_symbol_view (drop (item.index + 1) item.production.now.symbols)) c.in_ok-first.first =
    subst (λ (side : List Symbol). IsFirstSet grammar (map production_symbol_view side) c.in_ok-first.first) c.symbol_sets.ensures.suffix
    (c.in_ok-first.ensures.first grammar c.requires.ground.firsts_of refl) in
    on_ok_weaker c.visit.result
    (λ nodes. asks_one grammar c.args.state c.args.name.now.0 item c.args.conflict.index (map node_key c.args.visited.now.keys)
    (map node_key c.visit.new.visited.keys) c.args.table.now c.add_lookahead.new.self
    (asks_ends grammar c.requires.ground.firsts_of.numbered c.args.state c.args.name.now item at c.in_ok-first.first c.take_eof-ends.new.self
    c.take_eof-ends.result first c.take_eof-ends.ensures.was c.take_eof-ends.ensures.gone (map node_key c.args.visited.now.keys)
    (map node_key c.visit.new.visited.keys) c.if-ends.true
    (subst (λ (node : TraceNode). ExtendsNodes (map node_key c.args.visited.now.keys) (map node_key c.visit.new.visited.keys) (λ k. k ≡ node))
    c.node_of.ensures nodes))
    (asks_gains grammar c.requires.ground.firsts_of.numbered c.args.state c.args.name.now item at c.in_ok-first.first c.take_eof-ends.new.self
    c.take_eof-ends.result first c.take_eof-ends.ensures.was c.take_eof-ends.ensures.gone c.args.conflict.index c.args.table.now
    c.add_lookahead.new.self c.in_ok-add_lookahead.ensures.gains)) c.visit.ensures

pub returns : goal.returns
returns g c =
    let grammar = c.args.ground.now.grammar.now in
    let item = c.args.item.now in
    let at : slice_get item.production.now.symbols item.index ≡ Some (symbols.Nonterminal c.args.name.now) =
    c.can_shift_nonterminal.ensures.0 c.if-not-can_shift_nonterminal.false in
    let first : IsFirstSet grammar (map production_symbol_view (drop (item.index + 1) item.production.now.symbols)) c.in_ok-first.first =
    subst (λ (side : List Symbol). IsFirstSet grammar (map production_symbol_view side) c.in_ok-first.first) c.symbol_sets.ensures.suffix
    (c.in_ok-first.ensures.first grammar c.requires.ground.firsts_of refl) in
    asks_one grammar c.args.state c.args.name.now.0 item c.args.conflict.index (map node_key c.args.visited.now.keys)
    (map node_key c.args.visited.now.keys) c.args.table.now c.add_lookahead.new.self
    (asks_goes_on grammar c.requires.ground.firsts_of.numbered c.args.state c.args.name.now item at c.in_ok-first.first
    c.take_eof-ends.new.self c.take_eof-ends.result first c.take_eof-ends.ensures.was c.take_eof-ends.ensures.gone
    (map node_key c.args.visited.now.keys) c.if-ends.false)
    (asks_gains grammar c.requires.ground.firsts_of.numbered c.args.state c.args.name.now item at c.in_ok-first.first c.take_eof-ends.new.self
    c.take_eof-ends.result first c.take_eof-ends.ensures.was c.take_eof-ends.ensures.gone c.args.conflict.index c.args.table.now
    c.add_lookahead.new.self c.in_ok-add_lookahead.ensures.gains)
