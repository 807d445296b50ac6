-- The faults of a written grammar for a start, in their order; and that none of them stands.
use Rattle.std.specs.Prelude.{◌≡◌, true, false}
use Rattle.lalrpop_grammar_symbols.specs.Symbols.{Text, TextSpan}
use Rattle.lalrpop_grammar.specs.WrittenGrammar.{Grammar}
use Rattle.lalrpop_grammar_language.specs.Expansion.{Nonterminal}
use Rattle.lalrpop_grammar_language.specs.Starts.{has_start}
use Rattle.lalrpop_grammar_repr.specs.declared.norm_error.NormErrorKind.{NormErrorKind}
use Rattle.lalrpop_grammar_repr.specs.declared.norm_error.NormErrorKind.TheVariants as kinds
use Rattle.lalrpop_grammar_rules.specs.Finding.{IsSearch}
use Rattle.lalrpop_norm.specs.Normalizing.{HasNoWrittenFault, IsWrittenFault}
use Rattle.lalrpop_norm_chain.specs.MadeConditions.{HasConditionWhere}
use Rattle.lalrpop_norm_chain.specs.StandingFaults.{IsRightToLevels}
use Rattle.lalrpop_norm_theory.specs.Between.{grammar_between, without_disabled}
use Rattle.lalrpop_norm_theory.specs.Premises.{HasNoExtern}
use Rattle.lalrpop_run_prepare.specs.Carried.{HasExtern, HasRecovery, IsCarried}
use Rattle.lalrpop_run_prepare.specs.Refused.{IsGenerable}
use Rattle.lalrpop_run_theory.specs.Barren.{HasNoBarren, IsLeastBarrenName}
use Rattle.lalrpop_run.specs.Asked.{Asked, Refusal, enabled}
use Rattle.lalrpop_run.specs.InlineCycles.{IsCycleFault, IsCyclic}
use Rattle.lalrpop_run.specs.InliningNumbers.{HandsOutTooMany, HasNumbersEnough}

-- no pass tells a fault
abbrev pub HasNoPassFault : Asked → Grammar → Type 0
HasNoPassFault q w = HasNoWrittenFault q.finds q.deep q.features q.macro_limit w

-- A nonterminal would have to be inlined into itself, told where it stands; or inlining hands out too many numbers, told where the whole
-- grammar is written.
pub data IsInliningFault (q : Asked) (w : Grammar) (kind : NormErrorKind) (p : TextSpan) : Type 0 where
  cycle : IsCycleFault q.finds q.features w kind p → IsInliningFault q w kind p
  too_many : HandsOutTooMany (enabled q w) w.prefix → kind ≡ kinds.TooManyActions → p ≡ w.span → IsInliningFault q w kind p

-- No nonterminal would have to be inlined into itself, and there are numbers enough.
pub record MayBeInlined (q : Asked) (w : Grammar) : Type 0 where
  pub acyclic : (x : Nonterminal) → IsCyclic (enabled q w) x → ⊥
  pub numbers : HasNumbersEnough (enabled q w) w.prefix

-- An extern block; `!`; what the passes tell, or that a search is given up for its pattern's size; the start; what inlining tells; the
-- least barren name: each only where none of those before it stands. A search may be given up where levels are right, and an alternative of
-- a call that is made is under one.
pub data IsListedFault (q : Asked) (w : Grammar) : Refusal → Type 0 where
  extern_block : HasExtern w → IsListedFault q w Refusal.extern_block
  recovery : HasNoExtern w → HasRecovery (enabled q w) → IsListedFault q w Refusal.recovery
  passes : (kind : NormErrorKind) (p : TextSpan) → IsCarried q.finds q.features w
      → IsWrittenFault q.finds q.deep q.features q.macro_limit w kind p → IsListedFault q w (Refusal.fault kind p)
  condition_limit : IsCarried q.finds q.features w → IsRightToLevels q.features w
      → HasConditionWhere (grammar_between q.finds (without_disabled q.features w)) (λ t v. IsSearch t.test)
      → IsListedFault q w Refusal.condition_limit
  unknown_start : IsCarried q.finds q.features w → HasNoWrittenFault q.finds q.deep q.features q.macro_limit w → has_start q.start false (enabled q w) ≡ false
      → IsListedFault q w (Refusal.unknown_start q.start)
  private_start : IsCarried q.finds q.features w → HasNoWrittenFault q.finds q.deep q.features q.macro_limit w → has_start q.start false (enabled q w) ≡ true
      → has_start q.start true (enabled q w) ≡ false → IsListedFault q w (Refusal.private_start q.start)
  inlining : (kind : NormErrorKind) (p : TextSpan) → IsGenerable q.finds q.deep q.features q.macro_limit q.start w
      → IsInliningFault q w kind p → IsListedFault q w (Refusal.fault kind p)
  barren : (name : Text) → IsGenerable q.finds q.deep q.features q.macro_limit q.start w → MayBeInlined q w
      → IsLeastBarrenName (enabled q w) w.prefix q.start name → IsListedFault q w (Refusal.barren name)

-- none stands
pub record IsFaultless (q : Asked) (w : Grammar) : Type 0 where
  pub lowerable : IsGenerable q.finds q.deep q.features q.macro_limit q.start w
  pub inlinable : MayBeInlined q w
  pub none_barren : HasNoBarren (enabled q w) q.start
