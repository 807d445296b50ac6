-- What lowering refuses with.
use Rattle.std.specs.Prelude.{◌≡◌, ◌<◌, ◌≤◌, ◌^◌}
use Rattle.lalrpop_grammar_symbols.specs.Views.{span_view}
use Rattle.lalrpop_grammar.specs.WrittenGrammar.{Grammar, rules_of}
use Rattle.lalrpop_grammar_repr.specs.declared.norm_error.NormError.{NormError}
use Rattle.lalrpop_grammar_repr.specs.declared.norm_error.NormErrorKind.TheVariants as kinds
use Rattle.lalrpop_grammar_repr.specs.declared.session.NormFault.{NormFault}
use Rattle.lalrpop_grammar_repr.specs.declared.session.NormFault.TheVariants as faults
use Rattle.lalrpop_norm_lower.specs.LoweredLists.{count_actions}

-- there are more actions than numbers
abbrev pub HasTooManyActions : Grammar → Type 0
HasTooManyActions w = 2 ^ 32 < count_actions (rules_of w.items)

abbrev pub HasFewActions : Grammar → Type 0
HasFewActions w = count_actions (rules_of w.items) ≤ 2 ^ 32

-- told where the grammar is written
pub record IsTooManyActions (w : Grammar) (error : NormError) : Type 0 where
  pub too_many : HasTooManyActions w
  pub kind_is : error.kind ≡ kinds.TooManyActions
  pub span_is : span_view error.span ≡ w.span

-- too many actions are told exactly where they are; else memory ran out
abbrev pub IsLowerFault : Grammar → NormFault → Type 0
IsLowerFault w (faults.Norm error) = IsTooManyActions w error
IsLowerFault w faults.Memory = HasFewActions w
IsLowerFault w faults.ConditionLimit = ⊥
