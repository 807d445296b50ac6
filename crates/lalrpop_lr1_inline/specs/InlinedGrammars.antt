-- What inlining makes of a lowered grammar, and why it refuses one.
use Rattle.std.specs.Prelude.{◌≡◌, ◌⊎◌, ◌<◌, ◌≤◌, ◌^◌, List, length}
use Rattle.lalrpop_grammar_symbols.specs.Symbols.{Text}
use Rattle.lalrpop_grammar_repr.specs.declared.grammar.Grammar.{Grammar}
use Rattle.lalrpop_grammar_repr.specs.declared.norm_error.NormError.{NormError}
use Rattle.lalrpop_grammar_repr.specs.declared.norm_error.NormErrorKind.TheVariants as kinds
use Rattle.lalrpop_lr1_inline.specs.InliningOrders.{IsInliningOrder}
use Rattle.lalrpop_lr1_inline.specs.InliningSteps.{AreInlineSteps, numbers_after}
use Rattle.lalrpop_lr1_inline.specs.InlineFaults.{IsInlineCycle}
use Rattle.lalrpop_lr1_inline.specs.declared.fault.InlineFault.{InlineFault}
use Rattle.lalrpop_lr1_inline.specs.declared.fault.InlineFault.TheVariants as faults

-- Each inlined nonterminal is inlined in all rules, one after another, and all else is as before. No more numbers are handed out
-- than there are.
pub record IsInlinedGrammar (before : Grammar) (after : Grammar) : Type 0 where
  pub order : List Text
  pub is_order : IsInliningOrder before.nonterminals order
  pub steps : AreInlineSteps order before.nonterminals before.action_fn_defns after.nonterminals after.action_fn_defns
  pub numbers : numbers_after order before.nonterminals (length before.action_fn_defns) ≤ 2 ^ 32
  pub others : after ≡ record before { nonterminals = after.nonterminals; action_fn_defns = after.action_fn_defns }

-- Inlining hands out more numbers than there are, those of the grammar's own actions included. It is told at no place.
pub record IsTooManyNumbers (g : Grammar) (error : NormError) : Type 0 where
  pub order : List Text
  pub is_order : IsInliningOrder g.nonterminals order
  pub too_many : 2 ^ 32 < numbers_after order g.nonterminals (length g.action_fn_defns)
  pub error_is : error ≡ record { kind = kinds.TooManyActions; span = record { 0 = 0; 1 = 0 } }

-- a nonterminal would have to be inlined into itself, or too many numbers are handed out, or memory ran out
abbrev pub IsInlineFault : Grammar → InlineFault → Type 0
IsInlineFault g (faults.Norm error) = IsInlineCycle g.nonterminals error ⊎ IsTooManyNumbers g error
IsInlineFault g faults.Memory = Unit {0}
