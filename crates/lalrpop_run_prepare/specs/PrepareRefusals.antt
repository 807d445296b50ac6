-- Why a written grammar has no parser but for conflicts, for a start: the refusals in their order.
use Rattle.std.specs.Prelude.{ℕ, ◌≡◌, ◌++◌, Bool, Contains, List, Option}
use Rattle.lalrpop_grammar_symbols.specs.Symbols.{Text}
use Rattle.lalrpop_grammar_symbols.specs.declared.names.NonterminalString.{NonterminalString}
use Rattle.lalrpop_grammar_symbols.specs.declared.span.Span.{Span}
use Rattle.lalrpop_grammar_symbols.specs.Views.{span_view}
use Rattle.lalrpop_grammar.specs.WrittenGrammar.{Grammar}
use Rattle.lalrpop_grammar_language.specs.Enabled.{enabled_grammar}
use Rattle.lalrpop_grammar_repr.specs.declared.grammar.Grammar as repr
use Rattle.lalrpop_grammar_repr.specs.declared.norm_error.NormError.{NormError}
use Rattle.lalrpop_lr1_barren.specs.LeastBarren.{IsLeastAmongBarren}
use Rattle.lalrpop_lr1_core.specs.TheoryGrammars.{theory_grammar}
use Rattle.lalrpop_lr1_inline.specs.InlinedGrammars.{IsInlineFault, IsInlinedGrammar}
use Rattle.lalrpop_lr1_inline.specs.declared.fault.InlineFault.TheVariants as faults
use Rattle.lalrpop_norm_chain.specs.Normalized.{IsNormalized}
use Rattle.lalrpop_norm_lower.specs.declared.lowering.Normalized.{Normalized}
use Rattle.lalrpop_norm_chain.specs.LoweredViews.{lowered_view}
use Rattle.lalrpop_run_theory.specs.Barren.{IsLeastBarrenName}
use Rattle.lalrpop_run_prepare.specs.InlineRefusals.{IsRefusedInlining, told_at}
use Rattle.lalrpop_run_prepare.specs.PreparedGrammars.{HasNamedProductions}
use Rattle.lalrpop_run_prepare.specs.StartRules.{IsStartOf}
use Rattle.lalrpop_run_prepare.specs.declared.refusals.refusing.GenerateError.{GenerateError}
use Rattle.lalrpop_run_prepare.specs.declared.refusals.refusing.GenerateError.TheVariants as errors
use Rattle.lalrpop_run_prepare.specs.Refused.{IsGenerable, IsGrammarRefusal}

-- What is told of plain productions: what is wrong with their inlined rules; or, where these can be inlined, the least barren
-- nonterminal that the name reaches; or memory ran out.
pub data IsRefusedExpansion (whole : Span) (g : repr.Grammar) (start : Text) (error : GenerateError) : Type 0 where
  inlining : IsRefusedInlining whole g error → IsRefusedExpansion whole g start error
  barren : (name : NonterminalString) (after : repr.Grammar) → IsInlinedGrammar g after
      → IsLeastAmongBarren (Contains (theory_grammar g)) start name.0 → error ≡ errors.Barren name.0
      → IsRefusedExpansion whole g start error

-- The same; or a start that stands on a right side or leads to anything but its rule. That is never so with a grammar as one is read.
pub data IsRefusedStart (whole : Span) (g : repr.Grammar) (prefix start : Text) (error : GenerateError) : Type 0 where
  expansion : IsRefusedExpansion whole g start error → IsRefusedStart whole g prefix start error
  unread : (after : repr.Grammar) (name : NonterminalString) → IsInlinedGrammar g after → name.0 ≡ prefix ++ start
      → (IsStartOf start g after name → ⊥) → IsRefusedStart whole g prefix start error

-- The plain productions have inlined rules that would be inlined into themselves, or inlining hands out more numbers of actions than
-- there are, those of the plain productions included. Too many are told where the whole grammar is written.
pub record IsInlineRefusal (finds : Text → Text → Option Bool) (features : List Text) (w : Grammar) (error : GenerateError) :
    Type 0 where
  pub lowered : Normalized
  pub normalized : IsNormalized finds features w (lowered_view lowered)
  pub named : HasNamedProductions lowered.grammar
  pub whole : Span
  pub whole_is : span_view whole ≡ w.span
  pub told : NormError
  pub stands : IsInlineFault lowered.grammar (faults.Norm told)
  pub error_is : error ≡ errors.Norm (told_at whole told)

-- The inlined rules can be inlined.
pub record IsInlinable (finds : Text → Text → Option Bool) (features : List Text) (w : Grammar) : Type 0 where
  pub lowered : Normalized
  pub normalized : IsNormalized finds features w (lowered_view lowered)
  pub named : HasNamedProductions lowered.grammar
  pub expansion : repr.Grammar
  pub inlined : IsInlinedGrammar lowered.grammar expansion

-- The refusals in their order: those of the grammar and of the start; what is wrong with inlined rules; a nonterminal that the start
-- reaches and that is barren, the least by name. Memory may run out at any time.
pub data IsPrepareRefusal (finds : Text → Text → Option Bool) (deep : Text → Bool) (features : List Text) (limit : ℕ) (start : Text)
    (w : Grammar) (error : GenerateError) : Type 0 where
  before : IsGrammarRefusal finds deep features limit start w error → IsPrepareRefusal finds deep features limit start w error
  inlining : IsGenerable finds deep features limit start w → IsInlineRefusal finds features w error
      → IsPrepareRefusal finds deep features limit start w error
  barren : (name : Text) → IsGenerable finds deep features limit start w → IsInlinable finds features w
      → IsLeastBarrenName (enabled_grammar finds features w) w.prefix start name → error ≡ errors.Barren name
      → IsPrepareRefusal finds deep features limit start w error
