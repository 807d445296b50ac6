use Rattle.std.proofs.Common.{refl}
use Rattle.std.proofs.lemmas.Option.{slice_get_read}
use Rattle.lalrpop_run_parser.proofs.UnfoldedLemmas.{written_more}
use Rattle.lalrpop_run_parser.proofs.conflicts.unfolding.written_conflicts.Goals as goal

pub loop-certificate-preserved : goal.loop-certificate-preserved
loop-certificate-preserved c = λ read trees.
    let at = slice_get_read c.args.certificates.now _ c.loop-certificate.certificate-index c.certificate-item.result refl
    c.loop-certificate-test.true c.certificate-item.is in
    written_more c.args.prepared.now c.args.certificates.now c.loop-certificate.certificate-index c.loop-certificate.all.items
    c.push.new.self.items c.certificate-item.result c.in_ok-conflict.conflict (c.loop-certificate.invariant read trees) at
    (c.in_ok-conflict.ensures read (trees c.loop-certificate.certificate-index c.certificate-item.result at)) c.in_ok-push.ensures.items
