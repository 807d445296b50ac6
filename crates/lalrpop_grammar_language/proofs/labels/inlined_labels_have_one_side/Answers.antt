use Rattle.lalrpop_grammar_language.proofs.SideLemmas.{one_side}
use Rattle.lalrpop_grammar_language.proofs.labels.inlined_labels_have_one_side.Goals as goal

pub returns : goal.returns
returns g c =
    let i = g.P.Inlining in
    λ one x label side other h k. one_side i.produces i.is_inlined one label x side other h k
