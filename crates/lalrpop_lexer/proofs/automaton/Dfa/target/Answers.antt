use Rattle.std.proofs.Common.{◌≡◌, ◌<◌, ◌∙◌, ap, sym, refl, length, List, Some, subst, arith, rules}
use Rattle.std.specs.Prelude.{slice_get}
use Rattle.std.proofs.lemmas.Option.{slice_get_read}
use Rattle.lalrpop_lexer.specs.Numbering.{EdgeView}
use Rattle.lalrpop_lexer.specs.Explore.{edges_view}
use Rattle.lalrpop_lexer.specs.Rows.{IsRow}
use Rattle.lalrpop_lexer.specs.Simulation.{StateView, target_of, AreApart}
use Rattle.lalrpop_lexer.specs.StateViews.{edges_in}
use Rattle.lalrpop_lexer.proofs.RowLemmas.{row_tells}
use Rattle.lalrpop_lexer.proofs.ReadLemmas.{state_inside, state_read}
use Rattle.lalrpop_lexer.proofs.automaton.Dfa.target.Goals as goal

pub get-row-requires : goal.get-row-requires
get-row-requires c =
    let fields = c.self.inside in
    omega (
      arith,
      state_inside fields.states.items fields.edges c.args.self.now c.args.state c.self.view_is c.requires,
      c.self.invariant.rowed,
    )

pub get-edges-requires : goal.get-edges-requires
get-edges-requires c =
    let fields = c.self.inside in
    omega (
      arith,
      state_inside fields.states.items fields.edges c.args.self.now c.args.state c.self.view_is c.requires,
      c.self.invariant.edged,
    )

pub target_in-requires : goal.target_in-requires
target_in-requires c =
    let fields = c.self.inside in
    let l = state_inside fields.states.items fields.edges c.args.self.now c.args.state c.self.view_is c.requires in
    let P : List EdgeView → Type 0 = AreApart in
    subst P (sym (ap edges_view c.get-edges.ensures)) (c.self.invariant.apart c.args.state l)

pub returns-in-Some : goal.returns-in-Some
returns-in-Some c =
    let states = c.self.inside.states.items in
    let table = c.self.inside.edges in
    let nodes = c.args.self.now in
    let n = c.args.state in
    let l = state_inside states table nodes n c.self.view_is c.requires in
    let target = c.in-Some.target.now in
    let row = c.get-row.result.now in
    let within : c.args.character < length row = search rules in
    let there : slice_get row c.args.character ≡ Some target =
    slice_get_read row (length row) c.args.character target refl within c.in-Some.ensures.lookup.1 in
    let agrees = subst (IsRow (edges_in table n)) (sym c.get-row.ensures) (c.self.invariant.agrees n l) in
    row_tells (edges_in table n) row c.args.character target agrees there
    ∙ ap (λ (x : StateView). target_of x.1 c.args.character) (state_read states table nodes n c.self.view_is c.requires)

pub returns-in-None : goal.returns-in-None
returns-in-None c =
    let states = c.self.inside.states.items in
    let table = c.self.inside.edges in
    c.target_in.ensures ∙ ap (λ es. target_of (edges_view es) c.args.character) c.get-edges.ensures
    ∙ ap (λ (x : StateView). target_of x.1 c.args.character)
    (state_read states table c.args.self.now c.args.state c.self.view_is c.requires)
