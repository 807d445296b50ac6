use Rattle.std.proofs.Common.{◌∙◌, [], None, sym, get_or, arith}
use Rattle.std.proofs.lemmas.Option.{slice_get_past}
use Rattle.lalrpop_lexer.proofs.StateViewLemmas.{next_state_at}
use Rattle.lalrpop_lexer.proofs.automaton.Dfa.next_state.Goals as goal

pub returns-then-number-count-clause-leads : goal.returns-then-number-count-clause-leads
returns-then-number-count-clause-leads c =
    let nodes = c.args.self.now in
    sym (slice_get_past nodes c.in_ok-number.number (omega (arith, c.state_count-count.ensures, c.if-number-count.true)))
    ∙ next_state_at nodes (get_or nodes c.args.state (None, [])) c.args.character c.in_ok-number.number c.in_ok-number.ensures

pub returns-clause-leads : goal.returns-clause-leads
returns-clause-leads c =
    let nodes = c.args.self.now in
    next_state_at nodes (get_or nodes c.args.state (None, [])) c.args.character c.in_ok-number.number c.in_ok-number.ensures

pub returns-clause-inside : goal.returns-clause-inside
returns-clause-inside c = omega (arith, c.state_count-count.ensures, c.if-number-count.false)
