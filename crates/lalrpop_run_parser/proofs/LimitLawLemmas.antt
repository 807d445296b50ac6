-- A greater limit changes no answer of a parser but the limit: for the law that says so.
use Rattle.std.proofs.Common.{◌≡◌, ◌≢◌, ◌++◌, ℕ, List, subst, sym}
use Rattle.std.proofs.Common.{Err, Ok, Some}
use Rattle.std.specs.Prelude.{Option, Result}
use Rattle.lalrpop_grammar.specs.Views.{grammar_view, tree_view}
use Rattle.lalrpop_grammar.specs.declared.tree.WrittenTree.{WrittenTree}
use Rattle.lalrpop_grammar_rules.specs.Search.{finds, is_too_deep}
use Rattle.lalrpop_lexer_scan.specs.Entries.{ScanEntry}
use Rattle.lalrpop_lexer_scan.specs.Scanning.{IsScannerOf}
use Rattle.lalrpop_lr1_interpret.specs.declared.parse.action_table.ActionTable.{ActionTable}
use Rattle.lalrpop_lr1_interpret.proofs.MoveCountLemmas.{passes_smaller}
use Rattle.lalrpop_norm_theory.specs.Premises.{IsReadGrammar}
use Rattle.lalrpop_run_theory.specs.Laws.{OneWrittenTree}
use Rattle.lalrpop_run_parser.specs.Limits.{KeepsAnswers, TellsLimitWhere, TextPassesLimit, answer_of_result}
use Rattle.lalrpop_run_parser.specs.ParserAnswers.{TellsResult}
use Rattle.lalrpop_run_parser.specs.Parsers.{IsParserTable}
use Rattle.lalrpop_run_parser.specs.declared.parse_error.ParseError.{ParseError}
use Rattle.lalrpop_run_parser.specs.declared.parse_error.ParseError.TheVariants as errors
use Rattle.lalrpop_run_parser.proofs.GenerateLemmas.{one_tree_by}
use Rattle.lalrpop_run_parser.proofs.SameAnswerLemmas.{same_for_text}
use Rattle.lalrpop_run_prepare.specs.PreparedGrammars.{IsPrepared, PreparedGrammar}
use Rattle.lalrpop_run_theory.specs.TextAnswers.{IsRightForText, TextAnswer, terminals_of_tokens}

same_some : (a b : TextAnswer) → ◌≡◌ {A = Option TextAnswer} (Some a) (Some b) → a ≡ b
same_some a b e = cc

-- what is told of a result is told of its answer
pub told_answer : (Right : TextAnswer → Type 0) (result : Result WrittenTree ParseError) (a : TextAnswer) →
    answer_of_result result ≡ Some a →
    TellsResult Right result → Right a
told_answer Right (Ok t) a e h = subst Right (same_some (TextAnswer.written (tree_view t)) a e) h
told_answer Right (Err (errors.NoToken at)) a e h = subst Right (same_some (TextAnswer.no_token at) a e) h
told_answer Right (Err (errors.Token at text)) a e h = subst Right (same_some (TextAnswer.wrong_token at text) a e) h
told_answer Right (Err errors.End) a e h = subst Right (same_some TextAnswer.early_end a e) h
told_answer Right (Err errors.Limit) a e h = subst Right (same_some TextAnswer.over_limit a e) h
told_answer Right (Err errors.Memory) a e h = let wrong : ⊥ = cc in absurd wrong

-- where the limit is passed, it is what is answered
passed_told : (P : Type 0) (result : Result WrittenTree ParseError) (a : TextAnswer) → answer_of_result result ≡ Some a →
    TellsLimitWhere P result → a ≢ TextAnswer.over_limit → P → ⊥
passed_told P (Ok t) a e h n p = h p
passed_told P (Err (errors.NoToken at)) a e h n p = h p
passed_told P (Err (errors.Token at text)) a e h n p = h p
passed_told P (Err errors.End) a e h n p = h p
passed_told P (Err errors.Limit) a e h n p = n (sym (same_some TextAnswer.over_limit a e))
passed_told P (Err errors.Memory) a e h n p = let wrong : ⊥ = cc in absurd wrong

-- and where it is answered, it is passed
told_passed : (P : Type 0) (result : Result WrittenTree ParseError) (a : TextAnswer) → answer_of_result result ≡ Some a →
    TellsLimitWhere P result → a ≡ TextAnswer.over_limit → P
told_passed P (Ok t) a e h n = let wrong : ⊥ = cc in absurd wrong
told_passed P (Err (errors.NoToken at)) a e h n = let wrong : ⊥ = cc in absurd wrong
told_passed P (Err (errors.Token at text)) a e h n = let wrong : ⊥ = cc in absurd wrong
told_passed P (Err errors.End) a e h n = let wrong : ⊥ = cc in absurd wrong
told_passed P (Err errors.Limit) a e h n = h
told_passed P (Err errors.Memory) a e h n = let wrong : ⊥ = cc in absurd wrong

module _ (v : PreparedGrammar) (table : ActionTable) (count : ℕ) (law : OneWrittenTree) (p : IsPrepared finds is_too_deep v)
    (read : IsReadGrammar (grammar_view v.written)) (name : v.start_name.0 ≡ v.written.prefix ++ v.start)
    (is : IsParserTable v table count) where
  keeps_by : {entries : List ScanEntry} → IsScannerOf v.scanner entries →
      KeepsAnswers (record { prepared = v; table = table; count = count })
  keeps_by {entries = entries} scans text limit greater one other a b more h k one_is other_is settled =
      same_for_text finds v.session.features.items (grammar_view v.written) v.start
      (one_tree_by v is.states is.checked law p read name) limit greater entries text a b
      (told_answer (Right limit) one a one_is (h.right entries scans))
      (told_answer (Right greater) other b other_is (k.right entries scans)) settled
      (λ over.
      let passes : TextPassesLimit is.states entries text greater =
      told_passed (TextPassesLimit is.states entries text greater) other b other_is
      (k.limit_told is.states entries is.table_is scans) over in
      passed_told (TextPassesLimit is.states entries text limit) one a one_is (h.limit_told is.states entries is.table_is scans) settled
      (record {
        tokens = passes.tokens;
        are_tokens = passes.are_tokens;
        passes = passes_smaller is.states (terminals_of_tokens passes.tokens) limit greater more passes.passes;
      }))
    where
      Right : ℕ → TextAnswer → Type 0
      Right n = IsRightForText finds v.session.features.items (grammar_view v.written) v.start entries text n

  pub keeps_answers : KeepsAnswers (record { prepared = v; table = table; count = count })
  keeps_answers = keeps_by p.scans
