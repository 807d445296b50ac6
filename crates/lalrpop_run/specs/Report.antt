-- What `report` replies to a grammar that was read.
use Rattle.std.specs.Prelude.{◌≡◌, ℕ, Result, Ok, Err, String, Vec, true, false, List, Contains, map, string_bytes}
use Rattle.std.specs.declared.alloc.Global.{Global}
use Rattle.std.specs.List.Sorted.{IsStrictlySortedBy}
use Rattle.lalrpop_grammar_symbols.specs.Symbols.{Text}
use Rattle.lalrpop_grammar_symbols.specs.contracts.terminal.TerminalStringOrd.TheImpl as terminal_order
use Rattle.lalrpop_grammar_symbols.specs.declared.names.NonterminalString.{NonterminalString}
use Rattle.lalrpop_grammar.specs.Views.{grammar_view}
use Rattle.lalrpop_grammar.specs.WrittenGrammar as written
use Rattle.lalrpop_grammar.specs.declared.grammar.Grammar.{Grammar}
use Rattle.lalrpop_grammar_repr.specs.declared.grammar.Grammar as repr
use Rattle.lalrpop_grammar_repr.specs.declared.methods.Method.{Method}
use Rattle.lalrpop_lane.specs.BuilderAnswers.{AreLr1By}
use Rattle.lalrpop_lane_report.specs.Reports.{report_of_conflicts, report_of_states}
use Rattle.lalrpop_lane_report.specs.ShownStates.{shown_conflict_of, shown_state}
use Rattle.lalrpop_lane_report.specs.TableReports.{token_set_texts}
use Rattle.lalrpop_lr1_build.specs.BuiltStates.{IsCanonicalFault}
use Rattle.lalrpop_lr1_build.specs.CollapseAnswers.{states_over}
use Rattle.lalrpop_lr1_core.specs.TheoryGrammars.{theory_grammar}
use Rattle.lalrpop_lr1_core.specs.declared.state.State.{State}
use Rattle.lalrpop_lr1_core.specs.declared.table_fault.TableConstructionError.{TableConstructionError}
use Rattle.lalrpop_lr1_core.specs.declared.table_fault.TableFault.{TableFault}
use Rattle.lalrpop_lr1_core.specs.declared.table_fault.TableFault.TheVariants as faults
use Rattle.lalrpop_lr1_first.specs.NumberedGrammars.{HasItsTerminals}
use Rattle.lalrpop_lr1_theory.specs.Answers.{IsLr1}
use Rattle.lalrpop_lr1_theory.specs.CheckedStates.{AreCheckedStates}
use Rattle.lalrpop_norm_theory.specs.Keys.{leveled_key_text}
use Rattle.lalrpop_norm_theory.specs.NamesByUse.{IsNamingByUse}
use Rattle.lalrpop_run.specs.Asked.{Asked, Refusal, enabled, name_of_start}
use Rattle.lalrpop_run.specs.ListedFaults.{IsFaultless, IsListedFault}
use Rattle.lalrpop_run.specs.Parsers.{TellsRefusal}
use Rattle.lalrpop_run.specs.ProductionOrders.{AreItsProductions}
use Rattle.lalrpop_run.specs.Questions.{Question, asked_of}
use Rattle.lalrpop_run.specs.RightAnswer.{MayBeParsed}
use Rattle.lalrpop_run.specs.declared.replies.reply.Reply.{Reply}
use Rattle.lalrpop_run.specs.declared.replies.reply.Reply.TheVariants as replies

-- The productions are those of the grammar's expansion, under names that are given in order of first use, and its terminals ascend.
pub record IsReportedExpansion (q : Asked) (w : written.Grammar) (expansion : repr.Grammar) : Type 0 where
  pub productions : AreItsProductions q w (theory_grammar expansion)
  pub naming : IsNamingByUse (leveled_key_text (enabled q w)) w.prefix (enabled q w) productions.expansion.name_of
  pub terminals : HasItsTerminals expansion
  pub ascending : IsStrictlySortedBy (terminal_order.ghosts).cmp expansion.terminals.all

-- the start's name in the expansion
abbrev pub name_of_the_start : Asked → written.Grammar → NonterminalString
name_of_the_start q w = record { 0 = name_of_start q w }

-- The grammar may be parsed, and the report is that of states of its expansion by the method, with which it is parsed.
pub record IsReportOfStates (q : Asked) (w : written.Grammar) (method : Method) (text : Text) : Type 0 where
  pub parsed : MayBeParsed q w
  pub expansion : repr.Grammar
  pub is_expansion : IsReportedExpansion q w expansion
  pub states : List (State (List ℕ))
  pub by_method : AreLr1By method expansion (name_of_the_start q w) states
  pub checked : AreCheckedStates (theory_grammar expansion) (name_of_start q w) (states_over expansion.terminals states)
  pub text_is : text ≡ report_of_states (map (shown_state (token_set_texts expansion.terminals)) states)

-- No fault stands, the expansion isn't LR(1), and the report is that of its canonical states with their conflicts.
pub record IsReportOfConflicts (q : Asked) (w : written.Grammar) (text : Text) : Type 0 where
  pub faultless : IsFaultless q w
  pub expansion : repr.Grammar
  pub is_expansion : IsReportedExpansion q w expansion
  pub no_lr1 : IsLr1 (Contains (theory_grammar expansion)) (name_of_start q w) → ⊥
  pub error : TableConstructionError (List ℕ)
  pub canonical : IsCanonicalFault expansion (name_of_the_start q w) (faults.Conflicts error)
  pub text_is : text ≡ report_of_conflicts (map (shown_state (token_set_texts expansion.terminals)) error.states.items)
      (map (shown_conflict_of (token_set_texts expansion.terminals)) error.conflicts.items)

-- A fault that stands, the first in order; or, where none does, the report of the states by the question's method, or of the canonical
-- ones with their conflicts.
pub data IsReportReply (q : Question) (g : Grammar) (reply : Reply) : Type 0 where
  refused : (f : Refusal) → IsListedFault (asked_of q) (grammar_view g) f → TellsRefusal f reply → IsReportReply q g reply
  states : (text : String Global) → IsReportOfStates (asked_of q) (grammar_view g) q.method (string_bytes text) → reply ≡ replies.Report text false
      → IsReportReply q g reply
  conflicts : (text : String Global) → IsReportOfConflicts (asked_of q) (grammar_view g) (string_bytes text) → reply ≡ replies.Report text true
      → IsReportReply q g reply

-- the reply is the report of what a construction answers, tokens of sets shown by these texts
abbrev pub TellsReport : (List ℕ → List Text) → Result (Vec (State (List ℕ)) Global) (TableFault (List ℕ)) → Reply → Type 0
TellsReport tokens (Ok built) reply =
    (text : String Global) × (string_bytes text ≡ report_of_states (map (shown_state tokens) built.items))
    × (reply ≡ replies.Report text false)
TellsReport tokens (Err (faults.Conflicts e)) reply =
    (text : String Global)
    × (string_bytes text
    ≡ report_of_conflicts (map (shown_state tokens) e.states.items) (map (shown_conflict_of tokens) e.conflicts.items))
    × (reply ≡ replies.Report text true)
TellsReport tokens (Err faults.Memory) reply = ⊥
