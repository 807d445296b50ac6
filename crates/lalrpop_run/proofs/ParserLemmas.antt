-- What was prepared for a question gives its replies; for `check`, `tokens`, `parse` and `report`.
use Rattle.std.proofs.Common.{◌≡◌, ◌∙◌, ◌++◌, ℕ, List, Contains, Vec, ap, map, refl, subst, sym}
use Rattle.std.proofs.lemmas.List.{length-map}
use Rattle.std.specs.Global.{Global}
use Rattle.std.specs.Str.{chars}
use Rattle.std.specs.List.Sorted.{IsStrictlySortedBy}
use Rattle.lalrpop_grammar_symbols.specs.Symbols.{Text}
use Rattle.lalrpop_grammar_symbols.specs.contracts.terminal.TerminalStringOrd.TheImpl as terminal_order
use Rattle.lalrpop_grammar.specs.declared.grammar.Grammar.{Grammar}
use Rattle.lalrpop_grammar.specs.Views.{grammar_view}
use Rattle.lalrpop_grammar_repr.specs.declared.methods.Method.{Method}
use Rattle.lalrpop_grammar_repr.specs.declared.methods.Method.TheVariants as methods
use Rattle.lalrpop_grammar_rules.specs.Search.{finds, is_too_deep}
use Rattle.lalrpop_judge.specs.declared.certificates.certificate.Certificate.{Certificate}
use Rattle.lalrpop_lexer_scan.specs.Entries.{ScanEntry}
use Rattle.lalrpop_lexer_scan.specs.Scanning.{IsScannerOf}
use Rattle.lalrpop_lr1_build.specs.CollapseAnswers.{states_over}
use Rattle.lalrpop_lr1_core.specs.TheoryGrammars.{theory_grammar}
use Rattle.lalrpop_lr1_first.specs.NumberedGrammars.{HasItsTerminals}
use Rattle.lalrpop_lr1_theory.specs.Answers.{IsLr1}
use Rattle.lalrpop_norm_chain.specs.LoweredViews.{lowered_view}
use Rattle.lalrpop_norm_theory.specs.Premises.{IsReadGrammar}
use Rattle.lalrpop_run_parser.specs.Parsers.{HasConflicts, HasOneTreeEach, HasStatesBy}
use Rattle.lalrpop_run_parser.specs.WrittenConflicts.{AreWrittenConflicts}
use Rattle.lalrpop_run_parser.specs.declared.conflicts.written_conflict.WrittenConflict.{WrittenConflict}
use Rattle.lalrpop_run_prepare.specs.PreparedGrammars.{MayBeParsedFrom, PreparedGrammar}
use Rattle.lalrpop_run_prepare.specs.Tokenizers.{scan_entries}
use Rattle.lalrpop_run.specs.Asked.{Asked, WrittenAnswer}
use Rattle.lalrpop_run.specs.Check.{HasStateCountBy, IsCheckReply}
use Rattle.lalrpop_run.specs.ListedFaults.{IsFaultless}
use Rattle.lalrpop_run.specs.Parse.{IsAnswerTold, IsParseReply}
use Rattle.lalrpop_run.specs.Parsers.{IsNoParserReply, IsPreparedFor, conflict_view}
use Rattle.lalrpop_run.specs.Questions.{Question, asked_of}
use Rattle.lalrpop_run.specs.Report.{IsReportedExpansion}
use Rattle.lalrpop_run.specs.RightAnswer.{AreItsEntries, IsRightAnswerTo, MayBeParsed}
use Rattle.lalrpop_run.specs.Tokens.{IsScanReply, IsTokensReply}
use Rattle.lalrpop_run.specs.ToldConflicts.{IsConflicting}
use Rattle.lalrpop_run.specs.declared.replies.reply.Reply.{Reply}
use Rattle.lalrpop_run.specs.declared.replies.reply.Reply.TheVariants as replies
use Rattle.lalrpop_run.proofs.RightAnswerLemmas.{conflicting_prepared, count_prepared, entries_prepared, expansion_prepared, own_question, parsed_prepared}
use Rattle.lalrpop_run.proofs.RightAnswerLemmas.{faultless_prepared, right_by_entries, states_prepared}

-- what is lent out of a box is what was prepared for the question
pub lent : (q : Question) (g : Grammar) {v w : PreparedGrammar} → v ≡ w → IsPreparedFor q g w → IsPreparedFor q g v
lent q g same h = subst (IsPreparedFor q g) (sym same) h

-- why there is no parser is replied to each text
pub no_parser_parsed : (q : Question) (g : Grammar) (text : Text) (reply : Reply) → IsNoParserReply q g reply
    → IsParseReply q g text reply
no_parser_parsed q g text reply (IsNoParserReply.refused f stands told) =
    record { answer = WrittenAnswer.refused f; right = IsRightAnswerTo.fault f stands; told = told }
no_parser_parsed q g text reply (IsNoParserReply.conflicting all stand told) =
    record { answer = WrittenAnswer.conflicting all; right = IsRightAnswerTo.conflicts all stand; told = told }

module _ (q : Question) (g : Grammar) (v : PreparedGrammar) (h : IsPreparedFor q g v) where
  -- what is known under what was prepared is known under the question
  asked : (P : List Text → ℕ → Text → Grammar → Type 0)
      → P v.session.features.items v.session.macro_recursion_limit v.start v.written → P q.features q.macro_limit q.start g
  asked P p =
      subst (P q.features q.macro_limit q.start) h.written_is
      (subst (λ (s : Text). P q.features q.macro_limit s v.written) h.start_is
      (subst (λ (n : ℕ). P q.features n v.start v.written) h.limit_is
      (subst (λ (fs : List Text). P fs v.session.macro_recursion_limit v.start v.written) h.features_are p)))

  -- what is asked with the question's limit on moves
  abbrev asked_with : List Text → ℕ → Text → Asked
  asked_with fs n s = record {
    finds = finds;
    deep = is_too_deep;
    features = fs;
    macro_limit = n;
    start = s;
    limit = q.limit;
  }

  name : v.start_name.0 ≡ v.written.prefix ++ v.start
  name = h.name_is ∙ sym (ap (λ (w : Grammar). w.prefix ++ q.start) h.written_is) ∙ sym (ap (λ (s : Text). v.written.prefix ++ s) h.start_is)

  pub own_read : IsReadGrammar (grammar_view v.written)
  own_read = h.prepared.read

  entries_asked : AreItsEntries (asked_of q) (grammar_view g) (scan_entries (lowered_view h.prepared.made).entries)
  entries_asked =
      asked (λ fs n s w. AreItsEntries (asked_with fs n s) (grammar_view w) (scan_entries (lowered_view h.prepared.made).entries))
      (entries_prepared v q.limit h.prepared name)

  pub faultless_asked : IsFaultless (asked_of q) (grammar_view g)
  faultless_asked = asked (λ fs n s w. IsFaultless (asked_with fs n s) (grammar_view w)) (faultless_prepared v q.limit h.prepared name)

  pub expansion_asked : HasItsTerminals v.expansion → IsStrictlySortedBy (terminal_order.ghosts).cmp v.expansion.terminals.all
      → IsReportedExpansion (asked_of q) (grammar_view g) v.expansion
  expansion_asked terminals ascending =
      asked (λ fs n s w. IsReportedExpansion (asked_with fs n s) (grammar_view w) v.expansion)
      (expansion_prepared v q.limit h.prepared name terminals ascending)

  pub conflicts_asked : (certificates : List Certificate) (shown : Vec WrittenConflict Global) (reply : Reply)
      → HasConflicts v certificates → AreWrittenConflicts v certificates shown.items → reply ≡ replies.Conflicts shown
      → HasItsTerminals v.expansion
      → IsStrictlySortedBy (terminal_order.ghosts).cmp v.expansion.terminals.all → MayBeParsedFrom v.expansion v.start_name
      → IsNoParserReply q g reply
  conflicts_asked certificates shown reply has are is terminals ascending parsed =
      IsNoParserReply.conflicting (map conflict_view shown.items)
      (asked (λ fs n s w. IsConflicting (asked_with fs n s) (grammar_view w) (map conflict_view shown.items))
      (conflicting_prepared v q.limit h.prepared name certificates shown.items has are own_read terminals ascending parsed))
      (shown, refl, is)

  module _ (lr1 : IsLr1 (Contains (theory_grammar v.expansion)) v.start_name.0)
      (one_tree : IsReadGrammar (grammar_view v.written) → HasOneTreeEach v) where
    pub parsed_asked : MayBeParsed (asked_of q) (grammar_view g)
    parsed_asked =
        asked (λ fs n s w. MayBeParsed (asked_with fs n s) (grammar_view w))
        (parsed_prepared v q.limit h.prepared name lr1 (one_tree own_read))

    counted_by : (method : Method) (count : ℕ) → HasStatesBy method v count
        → HasStateCountBy method (own_question v q.limit) (grammar_view v.written) count
    counted_by methods.Canonical count has =
        count_prepared v q.limit h.prepared name lr1 (one_tree own_read) count has.counted
    counted_by (methods.Lane copies) count has =
        states_prepared v q.limit h.prepared name lr1 (one_tree own_read) (states_over v.expansion.terminals has.states) count
        has.checked (has.count_is ∙ sym (length-map has.states _)) has.counted

    pub counted : (method : Method) (count : ℕ) (reply : Reply) → q.method ≡ method → HasStatesBy method v count
        → reply ≡ replies.Parser count → IsCheckReply q g reply
    counted method count reply by has is =
        IsCheckReply.parser count
        (asked (λ fs n s w. HasStateCountBy q.method (asked_with fs n s) (grammar_view w) count)
        (counted_by q.method count (subst (λ (m : Method). HasStatesBy m v count) (sym by) has))) is

    pub scanned : (text : Text) (reply : Reply)
        → ((entries : List ScanEntry) → IsScannerOf v.scanner entries → IsScanReply entries text reply) → IsTokensReply q g text reply
    scanned text reply by =
        IsTokensReply.scanned (scan_entries (lowered_view h.prepared.made).entries) parsed_asked entries_asked
        (by (scan_entries (lowered_view h.prepared.made).entries) h.prepared.scans)

    pub sentence : (text : Text) (limit : ℕ) (reply : Reply) → q.limit ≡ limit
        → (IsReadGrammar (grammar_view v.written) → (entries : List ScanEntry) → IsScannerOf v.scanner entries
        → IsAnswerTold v entries (chars text) limit reply) → IsParseReply q g text reply
    sentence text limit reply same by =
        let entries = scan_entries (lowered_view h.prepared.made).entries in
        let own = subst (λ (n : ℕ). IsAnswerTold v entries (chars text) n reply) (sym same) (by own_read entries h.prepared.scans) in
        record {
          answer = WrittenAnswer.to_text own.answer;
          right = asked (λ fs n s w. IsRightAnswerTo (asked_with fs n s) (grammar_view w) (chars text) (WrittenAnswer.to_text own.answer))
              (right_by_entries (own_question v q.limit) (grammar_view v.written) entries (chars text) own.answer
              (parsed_prepared v q.limit h.prepared name lr1 (one_tree own_read)) (entries_prepared v q.limit h.prepared name)
              own.right);
          told = own.told;
        }
