-- Certificates of a prepared grammar's conflicts have trees to tell; for conflicts as replies.
use Rattle.std.proofs.Common.{ℕ, List, arith}
use Rattle.std.proofs.lemmas.Option.{slice_get_within}
use Rattle.lalrpop_grammar.specs.Views.{grammar_view}
use Rattle.lalrpop_judge.specs.declared.certificates.certificate.Certificate.{Certificate}
use Rattle.lalrpop_lr1_first.proofs.TableLemmas.{get_some}
use Rattle.lalrpop_norm_theory.specs.Premises.{IsReadGrammar}
use Rattle.lalrpop_lr1_core.specs.declared.table_fault.TableConstructionError.{TableConstructionError}
use Rattle.lalrpop_run_prepare.specs.PreparedGrammars.{PreparedGrammar}
use Rattle.lalrpop_run_parser.specs.Witnesses.{AreWitnessesOf}
use Rattle.lalrpop_run_parser.specs.WrittenConflicts.{HaveTreesOf}

-- certificates of a prepared grammar's conflicts have trees from its start over its productions
pub witnessed_trees : (v : PreparedGrammar) (error : TableConstructionError (List ℕ)) (certificates : List Certificate) →
    IsReadGrammar (grammar_view v.written) → AreWitnessesOf v error certificates → HaveTreesOf v certificates
witnessed_trees v error certificates read are i c there =
    let conflict = get_some error.conflicts.items i (omega (arith, slice_get_within certificates i c there, are.count)) in
    let w = are.each i c there read conflict.0 conflict.1 in
    record { tree1 = w.certifies.makes1.is_tree; tree2 = w.certifies.makes2.is_tree }
