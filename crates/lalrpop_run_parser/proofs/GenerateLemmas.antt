-- What states of an expansion say of its written grammar; for what generates a parser.
use Rattle.std.proofs.Common.{◌≡◌, ◌∙◌, ◌++◌, ℕ, List, Ok, length, refl, subst, sym, Contains}
use Rattle.std.specs.Global.{Global}
use Rattle.std.specs.Prelude.{Vec}
use Rattle.std.proofs.lemmas.List.{length-map}
use Rattle.lalrpop_grammar_symbols.specs.declared.names.NonterminalString.{NonterminalString}
use Rattle.lalrpop_grammar.specs.Views.{grammar_view}
use Rattle.lalrpop_grammar_repr.specs.declared.grammar.Grammar.{Grammar}
use Rattle.lalrpop_judge.specs.declared.certificates.certificate.Certificate.{Certificate}
use Rattle.lalrpop_grammar_rules.specs.Search.{finds, is_too_deep}
use Rattle.lalrpop_lane.specs.BuilderAnswers.{AreForEachCoreBy, AreLr1By}
use Rattle.lalrpop_grammar_repr.specs.declared.methods.Method.{Method}
use Rattle.lalrpop_grammar_repr.specs.declared.methods.Method.TheVariants as methods
use Rattle.lalrpop_lr1_build.specs.BuiltStates.{IsCanonicalFault, TellsNoLr1}
use Rattle.lalrpop_lr1_core.specs.TheoryGrammars.{theory_grammar}
use Rattle.lalrpop_lr1_build.specs.CollapseAnswers.{states_over}
use Rattle.lalrpop_lr1_core.specs.declared.state.State.{State}
use Rattle.lalrpop_lr1_core.specs.declared.table_fault.TableConstructionError.{TableConstructionError}
use Rattle.lalrpop_lr1_core.specs.declared.table_fault.TableFault.{TableFault}
use Rattle.lalrpop_lr1_core.specs.declared.table_fault.TableFault.TheVariants as faults
use Rattle.lalrpop_lr1_interpret.specs.Tables.{IsTableOf}
use Rattle.lalrpop_lr1_interpret.specs.declared.parse.action_table.ActionTable.{ActionTable}
use Rattle.lalrpop_lr1_theory.specs.Answers.{IsLr1}
use Rattle.lalrpop_lr1_theory.specs.CheckedStates.{AreCheckedStates, IsStartAlone}
use Rattle.lalrpop_lr1_theory.specs.States.{State as TheoryState}
use Rattle.lalrpop_lr1_theory.specs.ValidCores.{CountsCoreSets}
use Rattle.lalrpop_lr1_theory.specs.ValidItems.{CountsItemSets, NoneBarren}
use Rattle.lalrpop_lr1_theory.proofs.CountLemmas.{canonical_counted}
use Rattle.lalrpop_lane_theory.proofs.FewestLemmas.{least_count}
use Rattle.lalrpop_lane_theory.proofs.Lr1Lemmas.{lalr1_one_move}
use Rattle.lalrpop_norm_theory.specs.Premises.{IsReadGrammar}
use Rattle.lalrpop_run_theory.specs.Laws.{OneWrittenTree}
use Rattle.lalrpop_run_parser.specs.Parsers.{AreCountedBy, HasConflicts, HasOneTreeEach, HasStatesBy, HasTableBy, IsGenerateRefusal, IsLalr1Refusal, IsParserTable}
use Rattle.lalrpop_run_parser.specs.Parsers.{HaveShiftsAscending, ShowsConflicts}
use Rattle.lalrpop_run_prepare.specs.PreparedGrammars.{IsPrepared, MayBeParsedFrom, PreparedGrammar}
use Rattle.lalrpop_run_prepare.specs.declared.refusals.refusing.GenerateError.{GenerateError}
use Rattle.lalrpop_run_prepare.specs.declared.refusals.refusing.GenerateError.TheVariants as errors
use Rattle.lalrpop_run_prepare.proofs.StartLemmas.{start_in_expansion}
use Rattle.lalrpop_run_parser.specs.Witnesses.{AreItsConflicts, AreWitnessesOf}

-- canonical states of an expansion are counted by its sets of items; those by lanes, where it is LALR(1), by these whatever may follow
counted_by_sets : (v : PreparedGrammar) (method : Method) (built : Vec (State (List ℕ)) Global) (count : ℕ)
    → MayBeParsedFrom v.expansion v.start_name → AreLr1By method v.expansion v.start_name built.items
    → AreForEachCoreBy method v.expansion v.start_name (Ok built) → count ≡ length built.items → AreCountedBy method v count
counted_by_sets v (methods.Lane copies) built count m by each many = λ lalr1.
    least_count (theory_grammar v.expansion) v.start_name.0 count m.none_barren
    (subst (CountsCoreSets (Contains (theory_grammar v.expansion)) v.start_name.0) (sym many)
    (each (record { none_barren = m.none_barren; alone = m.alone; lalr1 = lalr1 })))
counted_by_sets v methods.Canonical built count m by each many =
    subst (CountsItemSets (Contains (theory_grammar v.expansion)) v.start_name.0) (length-map built.items _ ∙ sym many)
    (canonical_counted (theory_grammar v.expansion) v.start_name.0 (states_over v.expansion.terminals built.items)
    by.states_are.constructed m.none_barren)

-- an LALR(1) expansion is LR(1), so that no conflicts are told of it
pub lalr1_refused : (v : PreparedGrammar) (refusal : GenerateError) → IsGenerateRefusal v refusal → IsLalr1Refusal v refusal
lalr1_refused v (errors.Conflicts certificates) told lalr1 =
    absurd (told.no_lr1 (lalr1_one_move (Contains (theory_grammar v.expansion)) v.start_name.0 lalr1))
lalr1_refused v errors.Memory told lalr1 = refl
lalr1_refused v _ told lalr1 = absurd told

-- what is said of the productions and the start that were handed on is said of the prepared ones
module _ (v : PreparedGrammar) (g : Grammar) (start : NonterminalString) (same : g ≡ v.expansion) (named : start ≡ v.start_name) where
  handed : (P : Grammar → NonterminalString → Type 0) → P g start → P v.expansion v.start_name
  handed P p = subst (P v.expansion) named (subst (λ (h : Grammar). P h start) same p)

  pub states_lr1 : (NoneBarren (Contains (theory_grammar g)) start.0 → IsLr1 (Contains (theory_grammar g)) start.0)
      → MayBeParsedFrom v.expansion v.start_name → IsLr1 (Contains (theory_grammar v.expansion)) v.start_name.0
  states_lr1 f m =
      handed (λ h n. NoneBarren (Contains (theory_grammar h)) n.0 → IsLr1 (Contains (theory_grammar h)) n.0) f m.none_barren

  pub states_checked : (built : List (State (List ℕ)))
      → (NoneBarren (Contains (theory_grammar g)) start.0 → IsStartAlone (theory_grammar g) start.0
      → AreCheckedStates (theory_grammar g) start.0 (states_over g.terminals built)) → MayBeParsedFrom v.expansion v.start_name
      → AreCheckedStates (theory_grammar v.expansion) v.start_name.0 (states_over v.expansion.terminals built)
  states_checked built f m =
      handed (λ h n. NoneBarren (Contains (theory_grammar h)) n.0 → IsStartAlone (theory_grammar h) n.0
      → AreCheckedStates (theory_grammar h) n.0 (states_over h.terminals built)) f m.none_barren m.alone

  pub states_counted : (method : Method) (built : Vec (State (List ℕ)) Global) (count : ℕ)
      → AreCheckedStates (theory_grammar v.expansion) v.start_name.0 (states_over v.expansion.terminals built.items)
      → AreLr1By method g start built.items → AreForEachCoreBy method g start (Ok built)
      → MayBeParsedFrom v.expansion v.start_name → count ≡ length built.items → HasStatesBy method v count
  states_counted method built count checked by_method each m many = record {
    states = built.items;
    by_method = handed (λ h n. AreLr1By method h n built.items) by_method;
    checked = checked;
    count_is = many;
    counted = counted_by_sets v method built count m (handed (λ h n. AreLr1By method h n built.items) by_method)
        (handed (λ h n. AreForEachCoreBy method h n (Ok built)) each) many;
  }

  -- the conflicts that are told are those of the expansion
  pub conflicts_stand : (fault : TableFault (List ℕ)) (error : TableConstructionError (List ℕ))
      → fault ≡ faults.Conflicts error → IsCanonicalFault g start fault → AreItsConflicts v error
  conflicts_stand fault error is stands =
      subst (IsCanonicalFault v.expansion v.start_name) is (handed (λ h n. IsCanonicalFault h n fault) stands)

  conflicts_told : (fault : TableFault (List ℕ)) (error : TableConstructionError (List ℕ)) (certificates : List Certificate)
      → fault ≡ faults.Conflicts error → HaveShiftsAscending error.states.items × AreWitnessesOf v error certificates
      → IsCanonicalFault g start fault
      → (NoneBarren (Contains (theory_grammar g)) start.0 → TellsNoLr1 g start fault)
      → MayBeParsedFrom v.expansion v.start_name → HasConflicts v certificates
  conflicts_told fault error certificates is shown stands f m = record {
    error = error;
    canonical = conflicts_stand fault error is stands;
    shifts = shown.0;
    shown = shown.1;
    no_lr1 = subst (TellsNoLr1 v.expansion v.start_name) is
        (handed (λ h n. NoneBarren (Contains (theory_grammar h)) n.0 → TellsNoLr1 h n fault) f m.none_barren);
  }

  -- and the refusal that shows them is one of the prepared grammar
  pub refusal_told : (fault : TableFault (List ℕ)) (error : TableConstructionError (List ℕ)) (refusal : GenerateError)
      → fault ≡ faults.Conflicts error → ShowsConflicts v error refusal → IsCanonicalFault g start fault
      → (NoneBarren (Contains (theory_grammar g)) start.0 → TellsNoLr1 g start fault)
      → MayBeParsedFrom v.expansion v.start_name → IsGenerateRefusal v refusal
  refusal_told fault error (errors.Conflicts certificates) is shown stands f m =
      conflicts_told fault error certificates.items is shown stands f m
  refusal_told fault error errors.Memory is shown stands f m = tt
  refusal_told fault error _ is shown stands f m = absurd shown

-- no tokens have two written trees, whatever states the expansion may be parsed with
pub one_tree_by : (v : PreparedGrammar) (states : List TheoryState)
    → AreCheckedStates (theory_grammar v.expansion) v.start_name.0 states → OneWrittenTree → IsPrepared finds is_too_deep v
    → IsReadGrammar (grammar_view v.written) → v.start_name.0 ≡ v.written.prefix ++ v.start → HasOneTreeEach v
one_tree_by v states checked law p read name =
    law finds v.session.features.items (grammar_view v.written) v.written.prefix v.start (theory_grammar v.expansion) states
    p.told.expansion
    (start_in_expansion finds is_too_deep v.session.features.items v.session.macro_recursion_limit (grammar_view v.written) read
    p.generable.faultless v.start p.generable.starts)
    (subst (λ s. AreCheckedStates (theory_grammar v.expansion) s states) name checked)

module _ (v : PreparedGrammar) (built : Vec (State (List ℕ)) Global)
    (checked : AreCheckedStates (theory_grammar v.expansion) v.start_name.0 (states_over v.expansion.terminals built.items)) where
  table_over : (table : ActionTable) (g : Grammar) (given : List (State (List ℕ))) → g ≡ v.expansion → given ≡ built.items
      → IsTableOf table (states_over g.terminals given) → IsTableOf table (states_over v.expansion.terminals built.items)
  table_over table g given same all made =
      subst (λ (xs : List (State (List ℕ))). IsTableOf table (states_over v.expansion.terminals xs)) all
      (subst (λ (h : Grammar). IsTableOf table (states_over h.terminals given)) same made)

  pub is_table : (table : ActionTable) (g : Grammar) (given : List (State (List ℕ))) (count : ℕ) →
      g ≡ v.expansion → given ≡ built.items
      → IsTableOf table (states_over g.terminals given) → count ≡ length built.items → IsParserTable v table count
  is_table table g given count same all made many = record {
    states = states_over v.expansion.terminals built.items;
    checked = checked;
    table_is = table_over table g given same all made;
    count_is = many ∙ sym (length-map built.items _);
  }

  -- the states that were built are those of the table
  pub table_built : (method : Method) (start : NonterminalString) (table : ActionTable) (g : Grammar)
      (given : List (State (List ℕ))) (count : ℕ) → g ≡ v.expansion → start ≡ v.start_name → given ≡ built.items
      → AreLr1By method g start built.items → AreForEachCoreBy method g start (Ok built)
      → MayBeParsedFrom v.expansion v.start_name → IsTableOf table (states_over g.terminals given)
      → count ≡ length built.items → HasTableBy method v table count
  unfolding states_counted
  table_built method start table g given count same named all by_method each m made many = record {
    states_are = states_counted v g start same named method built count checked by_method each m many;
    table_is = table_over table g given same all made;
  }

  pub one_tree_each : OneWrittenTree → IsPrepared finds is_too_deep v → IsReadGrammar (grammar_view v.written)
      → v.start_name.0 ≡ v.written.prefix ++ v.start → HasOneTreeEach v
  one_tree_each = one_tree_by v (states_over v.expansion.terminals built.items) checked
