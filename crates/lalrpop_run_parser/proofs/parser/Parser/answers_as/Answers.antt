use Rattle.std.proofs.Common.{◌≡◌, ◌∙◌, subst}
use Rattle.lalrpop_grammar.specs.Views.{grammar_view}
use Rattle.lalrpop_norm_theory.specs.Premises.{IsReadGrammar}
use Rattle.lalrpop_run_parser.specs.Parsers.{ParserView}
use Rattle.lalrpop_run_parser.specs.TwoWays.{AnswerAlike}
use Rattle.lalrpop_run_parser.proofs.TwoWayLemmas.{answer_alike}
use Rattle.lalrpop_run_parser.proofs.parser.Parser.answers_as.Goals as goal

pub returns : goal.returns
returns c =
    subst (λ (u : ParserView). c.args.other.now.prepared ≡ u.prepared → IsReadGrammar (grammar_view u.prepared.written)
    → AnswerAlike u c.args.other.now) c.self.view_is
    (λ same read.
    answer_alike c.self.inside.prepared.now c.self.inside.table c.self.inside.state_count c.one_written_tree.ensures
    (c.known.ensures.prepared read) read c.known.ensures.prefixed c.self.invariant.table_runs c.args.other.now same)
