use Rattle.std.proofs.Common.{◌≡◌, ◌∙◌, List, [], None, Some, ap, sym}
use Rattle.std.specs.Prelude.{slice_get}
use Rattle.lalrpop_lr1_theory.proofs.StepLemmas.{some_same}
use Rattle.lalrpop_sets.specs.TokensLeft.{tokens_of}
use Rattle.lalrpop_sets.specs.declared.token.Token.{Token}
use Rattle.lalrpop_lr1_counterexamples.proofs.certificates.shown.ShownConflicts.least_token.Goals as goal

pub unreachable-requires : goal.unreachable-requires
unreachable-requires c =
    let it = c.args.self.now in
    let conflict = c.conflict-conflict.result.now in
    let told = c.requires.shown.told c.args.number conflict c.conflict-conflict.ensures in
    let nothing : tokens_of it.grammar.now.terminals conflict.lookahead ≡ [] = sym c.iter.ensures ∙ c.in-None.ensures.steps.0 in
    let z : None ≡ Some told.token = ap (λ (ts : List Token). slice_get ts 0) (sym nothing) ∙ told.first_token in
    absurd (cc)

pub returns : goal.returns
returns c = λ conflict at.
    let it = c.args.self.now in
    let own = c.conflict-conflict.result.now in
    let same = some_same own conflict (sym c.conflict-conflict.ensures ∙ at) in
    ap (λ k. slice_get (tokens_of it.grammar.now.terminals k.lookahead) 0) (sym same)
    ∙ ap (λ (ts : List Token). slice_get ts 0) (sym c.iter.ensures ∙ c.in-Some.ensures.steps)
