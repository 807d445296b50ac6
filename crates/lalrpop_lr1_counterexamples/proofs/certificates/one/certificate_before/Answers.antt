use Rattle.std.proofs.Common.{◌∙◌, subst, sym}
use Rattle.lalrpop_lr1_theory.specs.Productions.{Next}
use Rattle.lalrpop_lr1_theory.proofs.StepLemmas.{some_same}
use Rattle.lalrpop_lr1_counterexamples.specs.ShownMoves.{next_of}
use Rattle.lalrpop_judge.specs.CertificateViews.{certificate_view}
use Rattle.lalrpop_lr1_counterexamples.specs.ConflictCertificates.{IsCertificateOf}
use Rattle.lalrpop_lr1_counterexamples.specs.MadeCertificates.{IsMadeCertificate}
use Rattle.lalrpop_lr1_counterexamples.specs.ShownStates.{states_of}
use Rattle.lalrpop_lr1_counterexamples.proofs.CertificateLemmas.{conflict_can_be_made, conflict_is_certified}
use Rattle.lalrpop_lr1_counterexamples.proofs.ShownConflictLemmas.{least_before, stands_before}
use Rattle.lalrpop_lr1_counterexamples.proofs.certificates.one.certificate_before.Goals as goal

pub made_certificate-requires : goal.made_certificate-requires
made_certificate-requires c =
    let it = c.args.shown.now in
    let conflict = c.conflict.result.now in
    let x = next_of c.args.next.now in
    let stands = stands_before it c.requires.shown c.args.number conflict c.conflict.ensures c.args.token c.requires.least x
    c.requires.token in
    conflict_can_be_made it.grammar.now it.start.now.0 (states_of it) c.args.any.now.ways.now x conflict c.in_ok-moves.moves
    (c.in_ok-moves.ensures conflict c.conflict.ensures) stands c.shown_moves_can_be_made.ensures

pub returns : goal.returns
returns c = λ other at own.
    let it = c.args.shown.now in
    let conflict = c.conflict.result.now in
    let x = next_of c.args.next.now in
    let stands = stands_before it c.requires.shown c.args.number conflict c.conflict.ensures c.args.token c.requires.least x
    c.requires.token in
    let least = least_before it c.requires.shown c.args.number conflict c.conflict.ensures c.args.token c.requires.least x
    c.requires.token in
    let view = certificate_view c.in_ok-certificate.certificate in
    let made = subst (λ (y : Next). IsMadeCertificate conflict y c.in_ok-moves.moves view) c.requires.token c.in_ok-certificate.ensures in
    subst (λ k. IsCertificateOf it.grammar.now it.start.now.0 (states_of it) k view)
    (some_same conflict other (sym c.conflict.ensures ∙ at))
    (conflict_is_certified it.grammar.now it.start.now.0 (states_of it) c.args.any.now.ways.now x conflict c.in_ok-moves.moves
    (c.in_ok-moves.ensures conflict c.conflict.ensures) stands c.requires.shown.canonical c.requires.steps view made
    c.shown_trees_make_the_move.ensures own least)
