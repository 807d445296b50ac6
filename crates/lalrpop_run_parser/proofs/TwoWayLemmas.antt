-- Two parsers of one prepared grammar answer alike: for the law of both ways.
use Rattle.std.proofs.Common.{◌≡◌, ◌++◌, ℕ, subst, sym}
use Rattle.lalrpop_grammar.specs.Views.{grammar_view}
use Rattle.lalrpop_grammar_rules.specs.Search.{finds, is_too_deep}
use Rattle.lalrpop_lexer_scan.specs.Scanning.{IsScannerOf}
use Rattle.lalrpop_lr1_interpret.specs.declared.parse.action_table.ActionTable.{ActionTable}
use Rattle.lalrpop_norm_theory.specs.Premises.{IsReadGrammar}
use Rattle.lalrpop_run_theory.specs.Laws.{OneWrittenTree}
use Rattle.lalrpop_run_theory.specs.TextAnswers.{IsRightForText, TextAnswer}
use Rattle.lalrpop_run_parser.specs.Parsers.{IsParserTable, ParserView}
use Rattle.lalrpop_run_parser.specs.TwoWays.{AnswerAlike}
use Rattle.lalrpop_run_parser.proofs.GenerateLemmas.{one_tree_by}
use Rattle.lalrpop_run_parser.proofs.LimitLawLemmas.{told_answer}
use Rattle.lalrpop_run_parser.proofs.SameAnswerLemmas.{agree_for_text}
use Rattle.lalrpop_run_prepare.specs.PreparedGrammars.{IsPrepared, PreparedGrammar}

module _ (v : PreparedGrammar) (table : ActionTable) (count : ℕ) (law : OneWrittenTree) (p : IsPrepared finds is_too_deep v)
    (read : IsReadGrammar (grammar_view v.written)) (name : v.start_name.0 ≡ v.written.prefix ++ v.start)
    (is : IsParserTable v table count) where
  pub answer_alike : (other : ParserView) → other.prepared ≡ v → AnswerAlike (record { prepared = v; table = table; count = count }) other
  answer_alike u same entries text limit one other a b scans h k one_is other_is =
      agree_for_text finds v.session.features.items (grammar_view v.written) v.start
      (one_tree_by v is.states is.checked law p read name) limit entries text a b
      (told_answer (Right v) one a one_is (h.right entries scans))
      (subst (λ (x : PreparedGrammar). Right x b) same
      (told_answer (Right u.prepared) other b other_is
      (k.right entries (subst (λ (x : PreparedGrammar). IsScannerOf x.scanner entries) (sym same) scans))))
    where
      Right : PreparedGrammar → TextAnswer → Type 0
      Right x n =
          IsRightForText finds x.session.features.items (grammar_view x.written) x.start entries text limit n
