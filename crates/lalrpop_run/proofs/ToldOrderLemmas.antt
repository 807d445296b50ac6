-- What is told of a prepared grammar's conflicts are all of them, in their order, each with a certificate: for what conflicts reply.
use Rattle.std.proofs.Common.{◌≡◌, ◌∙◌, ℕ, List, Some, Contains, ap, arith, map, slice_get, sym}
use Rattle.std.specs.List.Sorted.{IsStrictlySortedBy}
use Rattle.std.proofs.lemmas.List.{length-map}
use Rattle.std.proofs.lemmas.Option.{slice_get_within}
use Rattle.lalrpop_grammar_symbols.specs.contracts.terminal.TerminalStringOrd.TheImpl as terminals
use Rattle.lalrpop_grammar.specs.Views.{grammar_view}
use Rattle.lalrpop_grammar_rules.specs.Search.{finds}
use Rattle.lalrpop_judge.specs.CertificateViews.{certificate_view}
use Rattle.lalrpop_judge.specs.Certificates.{ShownConflict}
use Rattle.lalrpop_judge.specs.declared.certificates.certificate.Certificate.{Certificate}
use Rattle.lalrpop_lr1_core.specs.TheoryGrammars.{theory_grammar}
use Rattle.lalrpop_lr1_core.specs.declared.conflict.Conflict.{Conflict}
use Rattle.lalrpop_lr1_counterexamples.specs.ConflictCertificates.{HaveOwnActions, IsCertificateOf}
use Rattle.lalrpop_lr1_counterexamples.specs.ShownStates.{shown_states}
use Rattle.lalrpop_lr1_first.proofs.TableLemmas.{get_some}
use Rattle.lalrpop_lr1_first.specs.NumberedGrammars.{HasItsTerminals}
use Rattle.lalrpop_lr1_theory.proofs.OrderLemmas.{get_image}
use Rattle.lalrpop_norm_theory.specs.Premises.{IsReadGrammar}
use Rattle.lalrpop_run_parser.specs.Parsers.{HasConflicts}
use Rattle.lalrpop_run_parser.specs.WrittenConflicts.{AreWrittenConflicts, IsWrittenConflict}
use Rattle.lalrpop_run_parser.specs.declared.conflicts.written_conflict.WrittenConflict.{WrittenConflict}
use Rattle.lalrpop_grammar_language.specs.Enabled.{enabled_grammar}
use Rattle.lalrpop_run_prepare.specs.PreparedGrammars.{MayBeParsedFrom, PreparedGrammar}
use Rattle.lalrpop_run_prepare.specs.ToldExpansions.{AreToldExpansion}
use Rattle.lalrpop_run.specs.Asked.{ToldConflict}
use Rattle.lalrpop_run.specs.Parsers.{conflict_view}
use Rattle.lalrpop_run.specs.ToldConflicts.{AreToldOf, told_of}
use Rattle.lalrpop_run.proofs.AllConflictLemmas.{told_in_order}
use Rattle.lalrpop_run.proofs.BuiltOrderLemmas.{HaveShiftsInOrder}

module _ (v : PreparedGrammar)
    (told : AreToldExpansion (enabled_grammar finds v.session.features.items (grammar_view v.written)) v.written.prefix
    v.expansion.action_fn_defns v.origins (theory_grammar v.expansion))
    (told_is : (c : ShownConflict) (it : WrittenConflict) → IsWrittenConflict v c it
    → conflict_view it ≡ told_of told.expansion.label_of c) where
  -- two productions of the expansion with one action have one label, and so are one
  own_actions : HaveOwnActions v.expansion
  own_actions q r one other e = told.expansion.once q r one other (ap told.expansion.label_of e)

  module _ (certificates : List Certificate) (shown : List WrittenConflict) (has : HasConflicts v certificates)
      (are : AreWrittenConflicts v certificates shown) (read : IsReadGrammar (grammar_view v.written)) where
    -- each that is told is of the conflict at its place
    each_told : (i : ℕ) (c : Conflict (List ℕ)) (t : ToldConflict) → slice_get has.error.conflicts.items i ≡ Some c
        → slice_get (map conflict_view shown) i ≡ Some t
        → (it : ShownConflict) × IsCertificateOf v.expansion v.start_name.0 (shown_states v.expansion has.error.states.items) c it
        × (t ≡ told_of told.expansion.label_of it)
    each_told i c t at there =
        let found = get_image conflict_view shown i t there in
        let certificate = get_some certificates i (omega (arith, slice_get_within shown i found.0 found.1, are.count)) in (
          certificate_view certificate.0,
          has.shown.each i certificate.0 certificate.1 read c at,
          sym found.2 ∙ told_is (certificate_view certificate.0) found.0 (are.each i certificate.0 found.0 certificate.1 found.1),
        )

    -- they are told in order, where the terminals of the grammar and of each state's shifts ascend
    pub all_told : HasItsTerminals v.expansion → IsStrictlySortedBy (terminals.ghosts).cmp v.expansion.terminals.all
        → MayBeParsedFrom v.expansion v.start_name → HaveShiftsInOrder has.error.states.items
        → AreToldOf (Contains (theory_grammar v.expansion)) v.start_name.0 told.expansion.label_of (map conflict_view shown)
    all_told own ascending parsed shifts =
        told_in_order v.expansion v.start_name has.error own ascending own_actions parsed.none_barren shifts has.canonical
        told.expansion.label_of (map conflict_view shown)
        (omega (arith, length-map shown conflict_view, are.count, has.shown.count)) each_told
