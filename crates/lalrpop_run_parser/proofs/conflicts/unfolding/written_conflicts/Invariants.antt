use Rattle.lalrpop_grammar.specs.Views.{grammar_view}
use Rattle.lalrpop_norm_theory.specs.Premises.{IsReadGrammar}
use Rattle.lalrpop_run_parser.specs.WrittenConflicts.{AreWrittenOf, HaveTreesOf}
use Rattle.lalrpop_run_parser.proofs.conflicts.unfolding.written_conflicts.Given as goal

abbrev pub invariant-loop-certificate : goal.invariant-loop-certificate
invariant-loop-certificate l =
    IsReadGrammar (grammar_view l.prepared.written) → HaveTreesOf l.prepared l.certificates →
    AreWrittenOf l.prepared l.certificates l.certificate-index l.all.items
