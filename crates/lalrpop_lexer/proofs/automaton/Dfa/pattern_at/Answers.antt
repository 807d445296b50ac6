use Rattle.std.proofs.Common.{◌∙◌, ap, arith}
use Rattle.lalrpop_lexer.specs.Simulation.{StateView}
use Rattle.lalrpop_lexer.proofs.ReadLemmas.{state_inside, state_read}
use Rattle.lalrpop_lexer.proofs.StateViewLemmas.{accepted_is}
use Rattle.lalrpop_lexer.proofs.automaton.Dfa.pattern_at.Goals as goal

pub index-requires : goal.index-requires
index-requires c =
    let fields = c.self.inside in
    omega (
      arith,
      state_inside fields.states.items fields.edges c.args.self.now c.args.state c.self.view_is c.requires,
      fields.states.ok.0,
    )

pub returns : goal.returns
returns c =
    let states = c.self.inside.states.items in
    let table = c.self.inside.edges in
    let nodes = c.args.self.now in
    let n = c.args.state in
    let l = state_inside states table nodes n c.self.view_is c.requires in
    accepted_is states n c.index.result.now l c.index.ensures
    ∙ ap (λ (x : StateView). x.0) (state_read states table nodes n c.self.view_is c.requires)
