use Rattle.lalrpop_judge.proofs.EntryLemmas.{same_entries}
use Rattle.lalrpop_judge.proofs.certificates.entries.is_same_entry.Goals as goal

pub returns : goal.returns
returns c = same_entries c.args.a.now c.args.b.now c.is_same_label.result c.if-a-b.false c.is_same_label.ensures
