-- Why inlining fails, as it is told; for inlining.
use Rattle.std.proofs.Common.{refl, inl, inr}
use Rattle.lalrpop_grammar_symbols.specs.declared.span.Span.{Span}
use Rattle.lalrpop_grammar_repr.specs.declared.grammar.Grammar.{Grammar}
use Rattle.lalrpop_lr1_inline.specs.InlinedGrammars.{IsInlineFault}
use Rattle.lalrpop_lr1_inline.specs.declared.fault.InlineFault.{InlineFault}
use Rattle.lalrpop_lr1_inline.specs.declared.fault.InlineFault.TheVariants as faults
use Rattle.lalrpop_run_prepare.specs.InlineRefusals.{IsRefusedInlining, inline_refusal_at}

-- a fault of inlining, told of the whole grammar where numbers are too many, is a refusal of inlining
pub fault_told : (whole : Span) (g : Grammar) (fault : InlineFault) → IsInlineFault g fault
    → IsRefusedInlining whole g (inline_refusal_at whole fault)
fault_told whole g (faults.Norm error) h = inr (error, h, refl)
fault_told whole g faults.Memory h = inl refl
