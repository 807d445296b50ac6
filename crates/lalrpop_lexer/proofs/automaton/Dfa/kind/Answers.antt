use Rattle.std.proofs.Common.{◌≡◌, ◌∙◌, ap, arith}
use Rattle.lalrpop_lexer.specs.Explore.{edges_view}
use Rattle.lalrpop_lexer.specs.StateViews.{kind_of, accepted_of, accepted_in, edges_in}
use Rattle.lalrpop_lexer.proofs.ReadLemmas.{state_inside, state_read}
use Rattle.lalrpop_lexer.proofs.StateViewLemmas.{accepted_is}
use Rattle.lalrpop_lexer.proofs.automaton.Dfa.kind.Goals as goal

pub index-requires : goal.index-requires
index-requires c =
    let fields = c.self.inside in
    omega (
      arith,
      state_inside fields.states.items fields.edges c.args.self.now c.args.state.0 c.self.view_is c.requires,
      fields.states.ok.0,
    )

pub get-requires : goal.get-requires
get-requires c =
    let fields = c.self.inside in
    omega (
      arith,
      state_inside fields.states.items fields.edges c.args.self.now c.args.state.0 c.self.view_is c.requires,
      c.self.invariant.edged,
    )

pub returns : goal.returns
returns c =
    let states = c.self.inside.states.items in
    let table = c.self.inside.edges in
    let nodes = c.args.self.now in
    let n = c.args.state.0 in
    let l = state_inside states table nodes n c.self.view_is c.requires in
    let same : accepted_of c.index.result.now ≡ accepted_in states n = accepted_is states n c.index.result.now l c.index.ensures in
    let both : (accepted_of c.index.result.now, edges_view c.get.result.now) ≡ (accepted_in states n, edges_in table n) =
    λ i. (same i, edges_view (c.get.ensures i)) in
    c.kind_by.ensures ∙ ap kind_of (both ∙ state_read states table nodes n c.self.view_is c.requires)
