use Rattle.std.proofs.Common.{List, refl, subst, sym}
use Rattle.lalrpop_judge.specs.declared.certificates.certificate.Certificate.{Certificate}
use Rattle.lalrpop_run_parser.specs.WrittenConflicts.{AreWrittenConflicts, HaveTreesOf}
use Rattle.lalrpop_run_parser.specs.Parsers.{IsGenerateRefusal}
use Rattle.lalrpop_run.specs.declared.replies.reply.Reply.TheVariants as replies
use Rattle.lalrpop_run.proofs.ParserLemmas.{conflicts_asked, own_read}
use Rattle.lalrpop_run.proofs.WitnessedTreeLemmas.{witnessed_trees}
use Rattle.lalrpop_run.proofs.conflicts.conflicts_reply.Goals as goal

pub returns-in_ok-conflicts-in-Conflicts : goal.returns-in_ok-conflicts-in-Conflicts
returns-in_ok-conflicts-in-Conflicts c = λ q g prepared.
    let v = c.args.prepared.now in
    let certificates = c.in-Conflicts.certificates.items in
    let own = own_read q g v prepared in
    let has = subst (IsGenerateRefusal v) c.in-Conflicts.is c.requires in
    let trees = witnessed_trees v has.error certificates own has.shown in
    let conflicts = c.in_ok-conflicts-in-Conflicts.conflicts in
    conflicts_asked q g v prepared certificates conflicts (replies.Conflicts conflicts) has
    (subst (λ (l : List Certificate). AreWrittenConflicts v l conflicts.items) c.as_slice.ensures.value
    (c.in_ok-conflicts-in-Conflicts.ensures own
    (subst (λ (l : List Certificate). HaveTreesOf v l) (sym c.as_slice.ensures.value) trees))) refl c.known.ensures.terminals
    c.known.ensures.ascending c.known.ensures.parsed
