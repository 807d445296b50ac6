-- What the builder of states answers of a prepared grammar, as the reply of `report`.
use Rattle.std.proofs.Common.{◌≡◌, ◌++◌, ℕ, List, Contains, Vec, subst, sym}
use Rattle.std.specs.Prelude.{IfErr, IfOk, MatchResult, Result, Ok, Err}
use Rattle.std.specs.declared.alloc.Global.{Global}
use Rattle.std.specs.List.Sorted.{IsStrictlySortedBy}
use Rattle.lalrpop_grammar_symbols.specs.Symbols.{Text}
use Rattle.lalrpop_grammar_symbols.specs.contracts.terminal.TerminalStringOrd.TheImpl as terminal_order
use Rattle.lalrpop_grammar_symbols.specs.declared.names.NonterminalString.{NonterminalString}
use Rattle.lalrpop_grammar.specs.Views.{grammar_view}
use Rattle.lalrpop_grammar.specs.declared.grammar.Grammar.{Grammar}
use Rattle.lalrpop_grammar_repr.specs.declared.grammar.Grammar as repr
use Rattle.lalrpop_grammar_repr.specs.declared.methods.Method.{Method}
use Rattle.lalrpop_lane.specs.BuilderAnswers.{AreLr1By}
use Rattle.lalrpop_lane_report.specs.TableReports.{token_set_texts}
use Rattle.lalrpop_lr1_build.specs.BuiltStates.{IsCanonicalFault, TellsNoLr1}
use Rattle.lalrpop_lr1_build.specs.CollapseAnswers.{states_over}
use Rattle.lalrpop_lr1_core.specs.TheoryGrammars.{theory_grammar}
use Rattle.lalrpop_lr1_core.specs.declared.state.State.{State}
use Rattle.lalrpop_lr1_core.specs.declared.table_fault.TableFault.{TableFault}
use Rattle.lalrpop_lr1_core.specs.declared.table_fault.TableFault.TheVariants as faults
use Rattle.lalrpop_lr1_first.specs.NumberedGrammars.{HasItsTerminals}
use Rattle.lalrpop_lr1_theory.specs.Answers.{IsLr1}
use Rattle.lalrpop_lr1_theory.specs.CheckedStates.{AreCheckedStates, IsStartAlone}
use Rattle.lalrpop_lr1_theory.specs.ValidItems.{NoneBarren}
use Rattle.lalrpop_norm_theory.specs.Premises.{IsReadGrammar}
use Rattle.lalrpop_run_parser.specs.Parsers.{HasOneTreeEach}
use Rattle.lalrpop_run_parser.proofs.GenerateLemmas.{one_tree_by}
use Rattle.lalrpop_run_prepare.specs.PreparedGrammars.{MayBeParsedFrom, PreparedGrammar}
use Rattle.lalrpop_run_theory.specs.Laws.{OneWrittenTree}
use Rattle.lalrpop_run.specs.Parsers.{IsPreparedFor}
use Rattle.lalrpop_run.specs.Questions.{Question, asked_of}
use Rattle.lalrpop_run.specs.Report.{IsReportReply, TellsReport, name_of_the_start}
use Rattle.lalrpop_run.specs.declared.replies.reply.Reply.{Reply}
use Rattle.lalrpop_run.proofs.ParserLemmas.{expansion_asked, faultless_asked, parsed_asked}

abbrev Tables : Type 0
Tables = Result (Vec (State (List ℕ)) Global) (TableFault (List ℕ))

-- what is known of the tables of a grammar for a start, by a method
record AreTables (method : Method) (x : repr.Grammar) (start : NonterminalString) (tables : Tables) : Type 0 where
  built : IfOk tables (λ states. AreLr1By method x start states.items)
  fault : IfErr tables (IsCanonicalFault x start)
  lr1 : NoneBarren (Contains (theory_grammar x)) start.0 → MatchResult tables
      (λ _. IsLr1 (Contains (theory_grammar x)) start.0) (λ fault. TellsNoLr1 x start fault)
  checked : NoneBarren (Contains (theory_grammar x)) start.0 → IsStartAlone (theory_grammar x) start.0
      → IfOk tables (λ states. AreCheckedStates (theory_grammar x) start.0 (states_over x.terminals states.items))

module _ (q : Question) (g : Grammar) (v : PreparedGrammar) (h : IsPreparedFor q g v) (m : MayBeParsedFrom v.expansion v.start_name)
    (terminals : HasItsTerminals v.expansion) (ascending : IsStrictlySortedBy (terminal_order.ghosts).cmp v.expansion.terminals.all)
    (law : OneWrittenTree) (prefixed : v.start_name.0 ≡ v.written.prefix ++ v.start) where
  -- what is known of the start that was prepared is known of the start that is asked
  of_start : (P : NonterminalString → Type 0) → P v.start_name → P (name_of_the_start (asked_of q) (grammar_view g))
  of_start P p = subst (λ (s : Text). P (record { 0 = s })) h.name_is p

  own_told : (method : Method) (tables : Tables) (reply : Reply) → q.method ≡ method
      → AreTables method v.expansion v.start_name tables → TellsReport (token_set_texts v.expansion.terminals) tables reply
      → IsReportReply q g reply
  own_told method (Ok states) reply by are (text, text_is, is) =
      IsReportReply.states text (record {
        parsed = parsed_asked q g v h (are.lr1 m.none_barren) one_tree;
        expansion = v.expansion;
        is_expansion = expansion_asked q g v h terminals ascending;
        states = states.items;
        by_method = of_start (λ n. AreLr1By q.method v.expansion n states.items)
            (subst (λ (by_it : Method). AreLr1By by_it v.expansion v.start_name states.items) (sym by) are.built);
        checked = of_start (λ n. AreCheckedStates (theory_grammar v.expansion) n.0 (states_over v.expansion.terminals states.items))
            (are.checked m.none_barren m.alone);
        text_is = text_is;
      }) is
    where
      one_tree : IsReadGrammar (grammar_view v.written) → HasOneTreeEach v
      one_tree read =
          one_tree_by v (states_over v.expansion.terminals states.items) (are.checked m.none_barren m.alone) law h.prepared read prefixed
  own_told method (Err (faults.Conflicts e)) reply by are (text, text_is, is) =
      IsReportReply.conflicts text (record {
        faultless = faultless_asked q g v h;
        expansion = v.expansion;
        is_expansion = expansion_asked q g v h terminals ascending;
        no_lr1 = of_start (λ n. IsLr1 (Contains (theory_grammar v.expansion)) n.0 → ⊥) (are.lr1 m.none_barren);
        error = e;
        canonical = of_start (λ n. IsCanonicalFault v.expansion n (faults.Conflicts e)) are.fault;
        text_is = text_is;
      }) is
  own_told method (Err faults.Memory) reply by are told = absurd told

  -- the tables of what was handed on, which is what was prepared
  pub tables_told : (method : Method) (x : repr.Grammar) (start : NonterminalString) (tables : Tables) (reply : Reply)
      → q.method ≡ method → x ≡ v.expansion → start ≡ v.start_name
      → IfOk tables (λ states. AreLr1By method x start states.items) → IfErr tables (IsCanonicalFault x start)
      → (NoneBarren (Contains (theory_grammar x)) start.0 → MatchResult tables
      (λ _. IsLr1 (Contains (theory_grammar x)) start.0) (λ fault. TellsNoLr1 x start fault))
      → (NoneBarren (Contains (theory_grammar x)) start.0 → IsStartAlone (theory_grammar x) start.0
      → IfOk tables (λ states. AreCheckedStates (theory_grammar x) start.0 (states_over x.terminals states.items)))
      → TellsReport (token_set_texts x.terminals) tables reply → IsReportReply q g reply
  tables_told method x start tables reply by same named built fault lr1 checked told =
      own_told method tables reply by
      (subst (λ (n : NonterminalString). AreTables method v.expansion n tables) named
      (subst (λ (y : repr.Grammar). AreTables method y start tables) same
      (record { built = built; fault = fault; lr1 = lr1; checked = checked })))
      (subst (λ (y : repr.Grammar). TellsReport (token_set_texts y.terminals) tables reply) same told)
