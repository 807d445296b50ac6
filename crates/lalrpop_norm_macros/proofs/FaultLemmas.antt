-- What each part of the pass tells is told by the pass; for the pass.
use Rattle.std.proofs.Common.{◌≡◌, ℕ, List, subst}
use Rattle.std.specs.Prelude.{Bool, Option}
use Rattle.lalrpop_grammar_symbols.specs.Symbols.{Text, TextSpan, Closed}
use Rattle.lalrpop_grammar_symbols.specs.Views.{span_view}
use Rattle.lalrpop_grammar.specs.WrittenGrammar.{Grammar, rules_of}
use Rattle.lalrpop_grammar_repr.specs.declared.norm_error.NormError.{NormError}
use Rattle.lalrpop_grammar_repr.specs.declared.norm_error.NormErrorKind.TheVariants as kinds
use Rattle.lalrpop_grammar_repr.specs.declared.session.NormFault.{NormFault}
use Rattle.lalrpop_grammar_repr.specs.declared.session.NormFault.TheVariants as faults
use Rattle.lalrpop_norm_theory.specs.Between.{grammar_between}
use Rattle.lalrpop_norm_theory.specs.Depth.{IsTooDeep}
use Rattle.lalrpop_norm_keys.specs.Arity.{TellsArity, arity_faults}
use Rattle.lalrpop_norm_theory.specs.CallPlaces.{IsPlaceBelow}
use Rattle.lalrpop_norm_keys.specs.FoundCalls.{TellsOfMadeCall}
use Rattle.lalrpop_norm_macros.specs.MacroPass.{IsMacroFault, IsReadyForMacros, TellsOfMacros}

module _ (finds : Text → Text → Option Bool) (deep : Text → Bool) (limit : ℕ) (w : Grammar) where
  -- a wrong number of arguments
  pub told_arity : (fs : List TextSpan)
      → (IsReadyForMacros finds w → fs ≡ arity_faults (grammar_between finds w) (rules_of w.items)) → (f : NormFault)
      → TellsArity fs f → IsMacroFault finds deep limit w f
  told_arity fs same faults.Memory t = tt
  told_arity fs same (faults.Norm e) t = λ ready. TellsOfMacros.arity (subst (λ l. TellsArity l (faults.Norm e)) (same ready) t)
  told_arity fs same faults.ConditionLimit t = absurd t

  -- a condition
  pub told_condition : (f : NormFault) → (IsReadyForMacros finds w → TellsOfMadeCall (grammar_between finds w) deep f)
      → IsMacroFault finds deep limit w f
  told_condition faults.Memory t = tt
  told_condition (faults.Norm e) t = λ ready. TellsOfMacros.condition (t ready)
  told_condition faults.ConditionLimit t = λ ready. TellsOfMacros.condition (t ready)

  -- a call that is too deep
  pub told_depth : (e : NormError) → e.kind ≡ kinds.MacroDepth limit
      → (x : Closed) → (IsReadyForMacros finds w → IsTooDeep (grammar_between finds w) limit x)
      → (IsReadyForMacros finds w → IsPlaceBelow (grammar_between finds w) limit x (span_view e.span))
      → IsMacroFault finds deep limit w (faults.Norm e)
  told_depth e same x d p = λ ready. TellsOfMacros.depth (same, (x, d ready, p ready))
