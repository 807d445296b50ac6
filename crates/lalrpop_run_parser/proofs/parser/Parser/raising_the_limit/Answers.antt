use Rattle.std.proofs.Common.{subst}
use Rattle.lalrpop_grammar.specs.Views.{grammar_view}
use Rattle.lalrpop_norm_theory.specs.Premises.{IsReadGrammar}
use Rattle.lalrpop_run_parser.specs.Limits.{KeepsAnswers}
use Rattle.lalrpop_run_parser.specs.Parsers.{ParserView}
use Rattle.lalrpop_run_parser.proofs.LimitLawLemmas.{keeps_answers}
use Rattle.lalrpop_run_parser.proofs.parser.Parser.raising_the_limit.Goals as goal

pub returns : goal.returns
returns c =
    subst (λ (u : ParserView). IsReadGrammar (grammar_view u.prepared.written) → KeepsAnswers u) c.self.view_is
    (λ read.
    keeps_answers c.self.inside.prepared.now c.self.inside.table c.self.inside.state_count c.one_written_tree.ensures
    (c.known.ensures.prepared read) read
    c.known.ensures.prefixed c.self.invariant.table_runs)
