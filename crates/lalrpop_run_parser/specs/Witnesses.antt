-- Which certificates are those of the conflicts of a prepared grammar: for those who ask for them.
use Rattle.std.specs.Prelude.{ℕ, List, length, ◌≡◌, Some, slice_get}
use Rattle.lalrpop_grammar.specs.Views.{grammar_view}
use Rattle.lalrpop_lr1_build.specs.BuiltStates.{IsCanonicalFault}
use Rattle.lalrpop_lr1_core.specs.declared.conflict.Conflict.{Conflict}
use Rattle.lalrpop_lr1_core.specs.declared.table_fault.TableConstructionError.{TableConstructionError}
use Rattle.lalrpop_lr1_core.specs.declared.table_fault.TableFault.TheVariants as faults
use Rattle.lalrpop_judge.specs.CertificateViews.{certificate_view}
use Rattle.lalrpop_judge.specs.declared.certificates.certificate.Certificate.{Certificate}
use Rattle.lalrpop_lr1_counterexamples.specs.ConflictCertificates.{IsCertificateOf}
use Rattle.lalrpop_lr1_counterexamples.specs.ShownStates.{shown_states}
use Rattle.lalrpop_norm_theory.specs.Premises.{IsReadGrammar}
use Rattle.lalrpop_run_prepare.specs.PreparedGrammars.{PreparedGrammar}

-- the canonical states of the expansion have these conflicts
abbrev pub AreItsConflicts : PreparedGrammar → TableConstructionError (List ℕ) → Type 0
AreItsConflicts v error = IsCanonicalFault v.expansion v.start_name (faults.Conflicts error)

-- For a grammar as one is read, it is a certificate of the conflict with this number.
abbrev pub IsWitnessOf : PreparedGrammar → TableConstructionError (List ℕ) → ℕ → Certificate → Type 0
IsWitnessOf v error number c =
    IsReadGrammar (grammar_view v.written) → (conflict : Conflict (List ℕ)) →
    slice_get error.conflicts.items number ≡ Some conflict →
    IsCertificateOf v.expansion v.start_name.0 (shown_states v.expansion error.states.items) conflict (certificate_view c)

-- one for each conflict, in their order
pub record AreWitnessesOf (v : PreparedGrammar) (error : TableConstructionError (List ℕ)) (certificates : List Certificate) : Type 0 where
  pub count : length certificates ≡ length error.conflicts.items
  pub each : (number : ℕ) (c : Certificate) → slice_get certificates number ≡ Some c → IsWitnessOf v error number c
