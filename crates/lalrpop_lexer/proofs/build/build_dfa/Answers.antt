use Rattle.std.proofs.Common.{ℕ, ◌∙◌, arith, sym, map, length, refl, subst}
use Rattle.std.proofs.lemmas.List.{length-map}
use Rattle.std.proofs.lemmas.Result.{err_from_is_err_and}
use Rattle.lalrpop_lexer_pattern.specs.Meaning.{meaning}
use Rattle.lalrpop_lexer_nfa.specs.declared.automaton.TheConstants.{START}
use Rattle.lalrpop_lexer_nfa.specs.Paths.{nfa_view}
use Rattle.lalrpop_lexer.specs.declared.outcome.Precedence.{Precedence}
use Rattle.lalrpop_lexer.specs.StateViews.{edges_in}
use Rattle.lalrpop_lexer.specs.Tables.{AreTables}
use Rattle.lalrpop_lexer.specs.Outcome.{numbers}
use Rattle.lalrpop_lexer.proofs.BuildLemmas.{IsOfPatterns, build_tie, build_no_tie, build_decides}
use Rattle.lalrpop_lexer.proofs.build.build_dfa.Goals as goal
use Rattle.lalrpop_lexer.proofs.build.build_dfa.Goals.{In_ok-edges}

-- the tables that were made are those of the patterns
of_patterns : (c : In_ok-edges) →
    IsOfPatterns (nfa_view c.in_ok-nfa.nfa) START.0 c.in_ok-edges.field-0.sets (edges_in c.in_ok-edges.field-0.edges)
    (length c.in_ok-edges.field-0.sets) (map meaning c.args.patterns.now) (numbers c.args.precedences.now)
of_patterns c = record {
  automaton = c.in_ok-edges.ensures.states;
  accepts = λ k l. c.in_ok-nfa.ensures.accepts k (omega (arith, length-map c.args.patterns.now meaning));
  count = refl;
  size = length-map c.args.patterns.now meaning ∙ c.requires ∙ sym (length-map c.args.precedences.now (λ (p : Precedence). p.0));
}

pub invariant_of-result : goal.invariant_of-result
invariant_of-result c =
    let P : ℕ → Type 0 = λ n. AreTables n c.in_ok-edges.field-0.edges c.in_ok-edges.field-0.rows in
    subst P (sym c.in_ok-states.ensures.count) c.in_ok-edges.ensures.tables

pub returns-in_err-states-clause-refused : goal.returns-in_err-states-clause-refused
returns-in_err-states-clause-refused c =
    let p = err_from_is_err_and c.from_residual-in_err-states.result c.from_residual-in_err-states.ensures.1 in
    rw (p.1, p.2)
    (build_tie (nfa_view c.in_ok-nfa.nfa) START.0 c.in_ok-edges.field-0.sets (length c.in_ok-edges.field-0.sets)
    (map meaning c.args.patterns.now) (numbers c.args.precedences.now) (edges_in c.in_ok-edges.field-0.edges)
    (of_patterns (goal.at.returns-in_err-states-clause-refused c).In_ok-edges) c.in_default.ensures _ c.in_err-states.ensures.refused)

pub returns-clause-decides : goal.returns-clause-decides
returns-clause-decides c =
    build_decides (nfa_view c.in_ok-nfa.nfa) START.0 c.in_ok-edges.field-0.sets (length c.in_ok-edges.field-0.sets)
    (map meaning c.args.patterns.now) (numbers c.args.precedences.now) c.in_ok-states.states.items c.in_ok-edges.field-0.edges
    (of_patterns (goal.at.returns-clause-decides c).In_ok-edges) c.in_ok-states.ensures.count c.in_ok-states.ensures.accepted

pub returns-clause-unambiguous : goal.returns-clause-unambiguous
returns-clause-unambiguous c =
    build_no_tie (nfa_view c.in_ok-nfa.nfa) START.0 c.in_ok-edges.field-0.sets (length c.in_ok-edges.field-0.sets)
    (map meaning c.args.patterns.now) (numbers c.args.precedences.now) c.in_ok-states.states.items c.in_ok-edges.field-0.edges
    (of_patterns (goal.at.returns-clause-unambiguous c).In_ok-edges) c.in_ok-states.ensures.count c.in_ok-states.ensures.accepted
