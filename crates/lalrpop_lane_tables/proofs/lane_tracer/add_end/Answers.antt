use Rattle.std.proofs.Common.{arith, ◌≡◌, ap, List, subst, true}
use Rattle.std.proofs.lemmas.Bool.Decides.{nat_tests}
use Rattle.std.proofs.lemmas.Result.{on_ok_weaker}
use Rattle.lalrpop_grammar_symbols.specs.contracts.names.NonterminalStringPartialEq.TheImpl as names
use Rattle.lalrpop_grammar_symbols.specs.declared.names.NonterminalString.{NonterminalString}
use Rattle.lalrpop_grammar_repr.proofs.EqualLemmas.{same_names}
use Rattle.lalrpop_lane_tables.specs.TableGains.{AddsTokens, EntersAt, NotesNothing, TableGains}
use Rattle.lalrpop_lane_tables.proofs.FrontLemmas.{end_added}
use Rattle.lalrpop_lane_tables.proofs.lane_tracer.add_end.Goals as goal

pub returns : goal.returns
returns g c =
    let grammar = c.args.ground.now.grammar.now in
    let equal : (names.ghosts).eq c.args.name.now c.args.ground.now.start ≡ true = grind (arith, nat_tests, c.ne.ensures, c.if-ne.false) in
    let is = ap (λ (n : NonterminalString). n.0) ((same_names c.args.name.now c.args.ground.now.start).0 equal) in
    on_ok_weaker c.add_lookahead.result
    (λ gains. end_added grammar c.requires.ground.firsts_of.numbered c.args.ground.now.start.0 c.args.state c.args.name.now.0
    c.args.conflict.index c.args.table.now c.add_lookahead.new.self is
    (subst (λ (tokens : List _). TableGains (AddsTokens c.args.state tokens) (EntersAt c.args.state) NotesNothing c.args.conflict.index
    c.args.table.now c.add_lookahead.new.self) c.in_ok-end.ensures gains)) c.add_lookahead.ensures.gains
