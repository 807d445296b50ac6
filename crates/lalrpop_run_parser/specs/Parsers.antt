-- What a parser is, and why a prepared grammar has none.
use Rattle.std.specs.Prelude.{ℕ, ◌≡◌, All, List, Contains, length}
use Rattle.std.specs.List.Sorted.{IsStrictlySortedBy}
use Rattle.std.specs.Map.{keys_of}
use Rattle.lalrpop_grammar_symbols.specs.contracts.terminal.TerminalStringOrd.TheImpl as terminal_order
use Rattle.lalrpop_grammar.specs.Trees.{Token, Tree}
use Rattle.lalrpop_grammar.specs.Views.{grammar_view}
use Rattle.lalrpop_grammar_language.specs.Admitting.{AdmitsFrom}
use Rattle.lalrpop_judge.specs.declared.certificates.certificate.Certificate.{Certificate}
use Rattle.lalrpop_grammar_rules.specs.Search.{finds}
use Rattle.lalrpop_lane.specs.BuilderAnswers.{AreLr1By}
use Rattle.lalrpop_grammar_repr.specs.declared.methods.Method.{Method}
use Rattle.lalrpop_grammar_repr.specs.declared.methods.Method.TheVariants as methods
use Rattle.lalrpop_lr1_build.specs.BuiltStates.{IsCanonicalFault}
use Rattle.lalrpop_lr1_core.specs.TheoryGrammars.{theory_grammar}
use Rattle.lalrpop_lr1_build.specs.CollapseAnswers.{states_over}
use Rattle.lalrpop_lr1_core.specs.declared.state.State as built_states
use Rattle.lalrpop_lr1_core.specs.declared.table_fault.TableConstructionError.{TableConstructionError}
use Rattle.lalrpop_lr1_core.specs.declared.table_fault.TableFault.TheVariants as faults
use Rattle.lalrpop_lr1_interpret.specs.Columns.{AreColumnsOf}
use Rattle.lalrpop_lr1_interpret.specs.Tables.{IsTableOf}
use Rattle.lalrpop_lr1_interpret.specs.declared.parse.action_table.ActionTable.{ActionTable}
use Rattle.lalrpop_lr1_interpret.specs.declared.parse.columns.Columns.{Columns}
use Rattle.lalrpop_lr1_theory.specs.Answers.{IsLr1}
use Rattle.lalrpop_lr1_theory.specs.CheckedStates.{AreCheckedStates}
use Rattle.lalrpop_lr1_theory.specs.States.{State}
use Rattle.lalrpop_lr1_theory.specs.ValidItems.{CountsItemSets}
use Rattle.lalrpop_lane_theory.specs.Lalr1Grammars.{IsLalr1, IsLeastStateCount}
use Rattle.lalrpop_run_prepare.specs.PreparedGrammars.{PreparedGrammar}
use Rattle.lalrpop_run_prepare.specs.declared.refusals.refusing.GenerateError.{GenerateError}
use Rattle.lalrpop_run_prepare.specs.declared.refusals.refusing.GenerateError.TheVariants as errors
use Rattle.lalrpop_run_parser.specs.Witnesses.{AreWitnessesOf}

-- what is seen of a parser: what it was generated from, the table of what its states do, and how many states it has
pub record ParserView : Type 0 where
  pub prepared : PreparedGrammar
  pub table : ActionTable
  pub count : ℕ

-- The table is that of states with which the expansion may be parsed from its start, and they are so many.
pub record IsParserTable (v : PreparedGrammar) (table : ActionTable) (count : ℕ) : Type 0 where
  pub states : List State
  pub checked : AreCheckedStates (theory_grammar v.expansion) v.start_name.0 states
  pub table_is : IsTableOf table states
  pub count_is : count ≡ length states

-- The table is such, and the columns are those that it has for the terminals of the scanner's entries.
pub record IsParserWith (v : PreparedGrammar) (table : ActionTable) (columns : Columns) (count : ℕ) : Type 0 where
  pub table_runs : IsParserTable v table count
  pub columns_are : AreColumnsOf table v.scanner.terminals.items columns.numbers.items

-- the expansion is LALR(1)
abbrev pub HasLalr1Expansion : PreparedGrammar → Type 0
HasLalr1Expansion v = IsLalr1 (Contains (theory_grammar v.expansion)) v.start_name.0

-- By lanes the states of an LALR(1) expansion are as many as the nonempty sets of valid items, whatever may follow them, and no states that
-- it may be parsed with are fewer. By the canonical way states are as many as the nonempty sets of valid items.
abbrev pub AreCountedBy : Method → PreparedGrammar → ℕ → Type 0
AreCountedBy (methods.Lane copies) v count =
    HasLalr1Expansion v → IsLeastStateCount (theory_grammar v.expansion) v.start_name.0 count
AreCountedBy methods.Canonical v count = CountsItemSets (Contains (theory_grammar v.expansion)) v.start_name.0 count

-- There are so many states of the expansion by the method, with which it may be parsed from its start. By the canonical way they are
-- the canonical ones, and as many as the nonempty sets of valid items; by lanes no more than are needed, where it is LALR(1).
pub record HasStatesBy (method : Method) (v : PreparedGrammar) (count : ℕ) : Type 0 where
  pub states : List (built_states.State (List ℕ))
  pub by_method : AreLr1By method v.expansion v.start_name states
  pub checked : AreCheckedStates (theory_grammar v.expansion) v.start_name.0 (states_over v.expansion.terminals states)
  pub count_is : count ≡ length states
  pub counted : AreCountedBy method v count

-- The table is that of states by the method, and they are so many.
pub record HasTableBy (method : Method) (v : PreparedGrammar) (table : ActionTable) (count : ℕ) : Type 0 where
  pub states_are : HasStatesBy method v count
  pub table_is : IsTableOf table (states_over v.expansion.terminals states_are.states)

-- no token list has two written trees that the start admits, spans inside arguments aside
abbrev pub HasOneTreeEach : PreparedGrammar → Type 0
HasOneTreeEach v =
    (t u : Tree) (tokens : List Token)
    → AdmitsFrom finds v.session.features.items (grammar_view v.written) v.start t tokens
    → AdmitsFrom finds v.session.features.items (grammar_view v.written) v.start u tokens → t ≡ u

-- the terminals of each state's shifts ascend, as the keys of any map do
abbrev pub HaveShiftsAscending : List (built_states.State (List ℕ)) → Type 0
HaveShiftsAscending states = All (λ state. IsStrictlySortedBy (terminal_order.ghosts).cmp (keys_of state.shifts)) states

-- The canonical states of the expansion have conflicts, at least one, and these are certificates of them, in their order.
pub record HasConflicts (v : PreparedGrammar) (certificates : List Certificate) : Type 0 where
  pub error : TableConstructionError (List ℕ)
  pub canonical : IsCanonicalFault v.expansion v.start_name (faults.Conflicts error)
  pub shifts : HaveShiftsAscending error.states.items
  pub shown : AreWitnessesOf v error certificates
  pub no_lr1 : IsLr1 (Contains (theory_grammar v.expansion)) v.start_name.0 → ⊥

-- The terminals of the states' shifts ascend, and these are certificates of the conflicts; or memory ran out.
abbrev pub ShowsConflicts : PreparedGrammar → TableConstructionError (List ℕ) → GenerateError → Type 0
ShowsConflicts v error (errors.Conflicts certificates) =
    HaveShiftsAscending error.states.items × AreWitnessesOf v error certificates.items
ShowsConflicts v error errors.Memory = Unit {0}
ShowsConflicts v error _ = ⊥

-- It isn't LR(1), and certificates show that; or memory ran out.
abbrev pub IsGenerateRefusal : PreparedGrammar → GenerateError → Type 0
IsGenerateRefusal v (errors.Conflicts certificates) = HasConflicts v certificates.items
IsGenerateRefusal v errors.Memory = Unit {0}
IsGenerateRefusal v _ = ⊥

-- and where it is LALR(1), memory ran out
abbrev pub IsLalr1Refusal : PreparedGrammar → GenerateError → Type 0
IsLalr1Refusal v error = HasLalr1Expansion v → error ≡ errors.Memory
