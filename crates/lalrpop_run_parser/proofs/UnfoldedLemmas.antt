-- One conflict more that is told with its written trees; for all conflicts that certificates show.
use Rattle.std.proofs.Common.{◌≡◌, ◌∙◌, ◌+◌, ◌++◌, ◌∷◌, ◌⊎◌, ℕ, List, [], length}
use Rattle.std.proofs.Common.{length-append, inl, inr, Some, ap, subst, sym}
use Rattle.std.specs.Prelude.{slice_get}
use Rattle.lalrpop_judge.specs.CertificateViews.{certificate_view}
use Rattle.lalrpop_judge.specs.declared.certificates.certificate.Certificate.{Certificate}
use Rattle.lalrpop_lr1_theory.proofs.ListLemmas.{before_or_end}
use Rattle.lalrpop_lr1_theory.proofs.StepLemmas.{some_same}
use Rattle.lalrpop_run_parser.specs.WrittenConflicts.{AreWrittenOf, IsWrittenConflict}
use Rattle.lalrpop_run_parser.specs.declared.conflicts.written_conflict.WrittenConflict.{WrittenConflict}
use Rattle.lalrpop_run_prepare.specs.PreparedGrammars.{PreparedGrammar}

-- the written conflicts of the first certificates, with the next one's behind them, are those of one more
pub written_more : (v : PreparedGrammar) (certificates : List Certificate) (n : ℕ) (old new : List WrittenConflict) (c : Certificate)
    (it : WrittenConflict) → AreWrittenOf v certificates n old → slice_get certificates n ≡ Some c →
    IsWrittenConflict v (certificate_view c) it → new ≡ old ++ it ∷ [] → AreWrittenOf v certificates (n + 1) new
written_more v certificates n old new c it are there is more = record {
  count = ap length more ∙ length-append old (it ∷ []) ∙ ap (λ k. k + 1) are.count;
  each = λ i d other at e. go i d other at (before_or_end old it i other (sym (ap (λ l. slice_get l i) more) ∙ e));
}
  where
    go : (i : ℕ) (d : Certificate) (other : WrittenConflict) → slice_get certificates i ≡ Some d →
        (slice_get old i ≡ Some other) ⊎ ((i ≡ length old) × (it ≡ other)) → IsWrittenConflict v (certificate_view d) other
    go i d other at (inl e) = are.each i d other at e
    go i d other at (inr e) =
        subst (IsWrittenConflict v (certificate_view d)) e.1
        (subst (λ x. IsWrittenConflict v (certificate_view x) it)
        (some_same c d (sym there ∙ ap (slice_get certificates) (sym (e.0 ∙ are.count)) ∙ at)) is)
