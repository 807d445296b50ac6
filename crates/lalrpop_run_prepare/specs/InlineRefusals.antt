-- Why a grammar is refused because of its inlined rules.
use Rattle.std.specs.Prelude.{◌≡◌, ◌⊎◌, Bool, true, false, if◌then◌else◌}
use Rattle.lalrpop_grammar_symbols.specs.declared.span.Span.{Span}
use Rattle.lalrpop_grammar_repr.specs.declared.grammar.Grammar.{Grammar}
use Rattle.lalrpop_grammar_repr.specs.declared.norm_error.NormError.{NormError}
use Rattle.lalrpop_grammar_repr.specs.declared.norm_error.NormErrorKind.{NormErrorKind}
use Rattle.lalrpop_grammar_repr.specs.declared.norm_error.NormErrorKind.TheVariants as kinds
use Rattle.lalrpop_lr1_inline.specs.InlinedGrammars.{IsInlineFault}
use Rattle.lalrpop_lr1_inline.specs.declared.fault.InlineFault.{InlineFault}
use Rattle.lalrpop_lr1_inline.specs.declared.fault.InlineFault.TheVariants as faults
use Rattle.lalrpop_run_prepare.specs.declared.refusals.refusing.GenerateError.{GenerateError}
use Rattle.lalrpop_run_prepare.specs.declared.refusals.refusing.GenerateError.TheVariants as errors

-- the fault is that there are more actions than numbers
abbrev pub is_too_many : NormErrorKind → Bool
is_too_many kinds.TooManyActions = true
is_too_many _ = false

-- too many actions are told where the whole grammar is written, another fault where it says
abbrev pub told_at : Span → NormError → NormError
told_at whole error = record { kind = error.kind; span = if is_too_many error.kind then whole else error.span }

abbrev pub inline_refusal_at : Span → InlineFault → GenerateError
inline_refusal_at whole (faults.Norm error) = errors.Norm (told_at whole error)
inline_refusal_at whole faults.Memory = errors.Memory

-- What is wrong with the inlined rules of a lowered grammar is told; or memory ran out.
abbrev pub IsRefusedInlining : Span → Grammar → GenerateError → Type 0
IsRefusedInlining whole g error =
    (error ≡ errors.Memory) ⊎ ((told : NormError) × IsInlineFault g (faults.Norm told) × (error ≡ errors.Norm (told_at whole told)))
