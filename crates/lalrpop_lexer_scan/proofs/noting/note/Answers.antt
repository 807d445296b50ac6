use Rattle.lalrpop_lexer_scan.proofs.NotingLemmas.{noted}
use Rattle.lalrpop_lexer_scan.proofs.noting.note.Goals as goal

pub returns-in_ok-insert : goal.returns-in_ok-insert
returns-in_ok-insert c =
    noted c.args.places.now c.insert.new.self c.in_ok-try_clone.field-0 c.args.text.now c.args.span c.in_ok-try_clone.ensures
    (cc) c.in_ok-insert.ensures.updates
