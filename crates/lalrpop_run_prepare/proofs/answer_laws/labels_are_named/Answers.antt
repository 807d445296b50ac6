use Rattle.lalrpop_grammar_language.specs.Expansion.{InExpansion, Produces}
use Rattle.lalrpop_norm_theory.specs.Inlined.{IsInlined}
use Rattle.lalrpop_lr1_inline.specs.NamedProductions.{IsInlinedByName, ProducesByAction}
use Rattle.lalrpop_run_prepare.proofs.NamedLabelLemmas.{label_back_once, named_inlines, source_inlines}
use Rattle.lalrpop_run_prepare.proofs.NamedProductionLemmas.{are_named, back}
use Rattle.lalrpop_run_prepare.proofs.answer_laws.labels_are_named.Goals as goal

pub returns : goal.returns
returns c =
    λ g prefix es sorted own n.
    let f = back g prefix es sorted own n in
    let a = are_named g prefix es sorted own n in
    let M = Produces g in
    let L = ProducesByAction es in (
      f,
      record {
        named = λ x label side i h.
            let r = named_inlines M (IsInlined g) (InExpansion g) L (IsInlinedByName es) n.name_of f a label x side i h in
            (r.named, r.produced, r.label_is);
        told = λ x under side i h.
            let r = source_inlines M (IsInlined g) (InExpansion g) L (IsInlinedByName es) n.name_of f a under x side i h in
            (r.source, r.produced, r.side_is);
        once = λ m k under other side end h j e.
            label_back_once M (IsInlined g) (InExpansion g) L (IsInlinedByName es) n.name_of f a under other m k side end h j e;
      },
    )
