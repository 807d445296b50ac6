use Rattle.std.specs.Prelude.{All}
use Rattle.std.proofs.Common.{◌<◌, length, subst, sym}
use Rattle.lalrpop_grammar_repr.specs.declared.grammar.Grammar.{Grammar}
use Rattle.lalrpop_lr1_inline.specs.InlinedGrammars.{IsInlineFault, IsInlinedGrammar}
use Rattle.lalrpop_run_prepare.proofs.InlineLemmas.{fault_told}
use Rattle.lalrpop_run_prepare.proofs.TableLemmas.{has_its_actions}
use Rattle.lalrpop_run_prepare.proofs.inlining.inline_rules.Goals as goal

pub inline-requires : goal.inline-requires
inline-requires c = record {
  known = subst (λ (g : Grammar). All (λ e. All (λ p. p.action.0 < length g.action_fn_defns) e.1.productions) g.nonterminals)
      (sym c.in_ok-copy.ensures) (has_its_actions c.args.lowered.now c.requires);
}

pub returns-in-Ok-clause-inlined : goal.returns-in-Ok-clause-inlined
returns-in-Ok-clause-inlined c =
    subst (λ (g : Grammar). IsInlinedGrammar g c.in-Ok.expansion) c.in_ok-copy.ensures c.in-Ok.ensures.inlined

pub returns-in-Err-clause-refused : goal.returns-in-Err-clause-refused
returns-in-Err-clause-refused c =
    let stands = subst (λ (g : Grammar). IsInlineFault g c.in-Err.fault) c.in_ok-copy.ensures c.in-Err.ensures.fault in
    rw c.inline_refusal.ensures (fault_told c.args.whole c.args.lowered.now c.in-Err.fault stands)
