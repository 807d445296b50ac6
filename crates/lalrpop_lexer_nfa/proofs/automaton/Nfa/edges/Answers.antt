use Rattle.std.proofs.Common.{◌≡◌, ◌<◌, length, arith, ap, sym, ◌∙◌, vec_len}
use Rattle.std.proofs.lemmas.List.{get_or-map, length-map}
use Rattle.std.proofs.lemmas.List.Elements.{All-weaker}
use Rattle.lalrpop_lexer_nfa.specs.declared.automaton.TheConstants.{REJECT}
use Rattle.lalrpop_lexer_nfa.specs.declared.edge.Edge.{Edge}
use Rattle.lalrpop_lexer_nfa.specs.declared.edge.Other.{Other}
use Rattle.lalrpop_lexer_nfa.proofs.EdgeListLemmas.{length-sources}
use Rattle.lalrpop_lexer_nfa.proofs.FrontLemmas.{front_from_first}
use Rattle.lalrpop_lexer_nfa.proofs.automaton.Nfa.edges.Goals as goal

pub split_at-requires : goal.split_at-requires
split_at-requires g c =
    let s = c.args.self.now in
    let runs = g.met.L.EdgeLabel.runs s.states.items s.edges (record { noop = s.noop_runs; test = s.test_runs; other = s.other_runs }) in
    let inside : c.args.from.0 < length s.states.items = omega (arith, c.requires, s.states.ok.0) in
    let first = c.first-first.ensures ∙ ap g.L.EdgeLabel.place c.index.ensures
    ∙ sym (get_or-map g.L.EdgeLabel.place s.states.items c.args.from.0 c.index.result.now 0 inside) in
    let bound = runs.bounded c.args.from.0 (omega (arith, length-map s.states.items g.L.EdgeLabel.place)) in
    omega (arith, first, bound, length-sources (g.L.EdgeLabel.list s.edges), ap length c.vec.ensures, ap length c.deref.ensures.value)

pub returns-clause-edges : goal.returns-clause-edges
returns-clause-edges g c =
    let s = c.args.self.now in
    let runs = g.met.L.EdgeLabel.runs s.states.items s.edges (record { noop = s.noop_runs; test = s.test_runs; other = s.other_runs }) in
    let inside : c.args.from.0 < length s.states.items = omega (arith, c.requires, s.states.ok.0) in
    let first = c.first-first.ensures ∙ ap g.L.EdgeLabel.place c.index.ensures
    ∙ sym (get_or-map g.L.EdgeLabel.place s.states.items c.args.from.0 c.index.result.now 0 inside) in
    let bound = runs.bounded c.args.from.0 (omega (arith, length-map s.states.items g.L.EdgeLabel.place)) in
    rw (c.split_at.ensures.back, c.deref.ensures.value, c.vec.ensures)
    (front_from_first (g.L.EdgeLabel.list s.edges) _ c.args.from.0 _ runs first
    (omega (arith, first, bound, length-sources (g.L.EdgeLabel.list s.edges))))

pub returns-clause-targets : goal.returns-clause-targets
returns-clause-targets g c =
    let s = c.args.self.now in
    g.met.L.EdgeLabel.targets (vec_len s.states) s.edges (record {
      noop = s.noop_targets;
      test = s.test_targets;
      other = All-weaker (λ (e : Edge Other). e.to.0 ≡ REJECT.0) (λ (e : Edge Other). e.to.0 < vec_len s.states)
          (λ e is. omega (arith, is, s.has_start)) s.edges.other_edges.items s.other_targets;
    })
