use Rattle.std.proofs.Common.{◌∙◌, ap, length}
use Rattle.lalrpop_run_trees.specs.LabelTables.{label_places, last_place}
use Rattle.lalrpop_run_prepare.specs.PreparedGrammars.{PreparedGrammar}
use Rattle.lalrpop_run_prepare.proofs.prepared.Prepared.labels.Goals as goal

pub returns : goal.returns
returns c = λ l.
    c.in_ok-labels.ensures l ∙ ap (λ n. last_place l.items (label_places c.self.inside.expansion n)) c.len.ensures
    ∙ ap (λ (v : PreparedGrammar). last_place l.items (label_places v.expansion (length v.origins))) c.self.view_is
