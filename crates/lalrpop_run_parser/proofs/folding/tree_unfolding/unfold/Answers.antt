use Rattle.std.proofs.Common.{◌∙◌, ap}
use Rattle.lalrpop_grammar_repr.specs.declared.grammar.Grammar.{Grammar}
use Rattle.lalrpop_run_parser.proofs.WholeFoldLemmas.{unfold_told}
use Rattle.lalrpop_run_parser.proofs.folding.tree_unfolding.unfold.Goals as goal

pub returns : goal.returns
returns c = λ read is_tree.
    let v = c.args.prepared.now in
    unfold_told c.forests_correspond.ensures.admitted v read (c.known.ensures.prepared read) c.as_slice-actions.result.now
    c.origins.result.now (c.as_slice-actions.ensures ∙ ap (λ (g : Grammar). g.action_fn_defns) c.expansion.ensures) c.origins.ensures
    c.known.ensures.prefixed _ is_tree
    c.written_tree.result c.written_tree.ensures
