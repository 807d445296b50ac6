-- What the pass over macros rests on, and which faults it tells; for it and for the chain of all passes.
use Rattle.std.specs.Prelude.{ℕ, ◌≡◌, Bool, [], Option}
use Rattle.lalrpop_grammar_symbols.specs.Symbols.{Text, Closed}
use Rattle.lalrpop_grammar_symbols.specs.Views.{span_view}
use Rattle.lalrpop_grammar.specs.WrittenGrammar.{Grammar, rules_of}
use Rattle.lalrpop_grammar_language.specs.Enabled.{EnabledGrammar}
use Rattle.lalrpop_grammar_repr.specs.declared.norm_error.NormErrorKind.TheVariants as kinds
use Rattle.lalrpop_grammar_repr.specs.declared.session.NormFault.{NormFault}
use Rattle.lalrpop_grammar_repr.specs.declared.session.NormFault.TheVariants as faults
use Rattle.lalrpop_norm_theory.specs.Between.{grammar_between}
use Rattle.lalrpop_norm_theory.specs.Depth.{IsTooDeep}
use Rattle.lalrpop_norm_theory.specs.Premises.{HasNoLevels, HasNoRecovery, IsResolved}
use Rattle.lalrpop_norm_keys.specs.Arity.{arity_faults, TellsArity}
use Rattle.lalrpop_norm_theory.specs.CallPlaces.{IsPlaceBelow}
use Rattle.lalrpop_norm_keys.specs.FoundCalls.{TellsOfMadeCall}
use Rattle.lalrpop_norm_keys.specs.MacroFaults.{ConditionError}
use Rattle.lalrpop_norm_keys.specs.TableLaws.{HasAllActive}
use Rattle.lalrpop_norm_macros.specs.KeyNames.{IsNameable}
use Rattle.lalrpop_norm_macros.specs.NameLaws.{LeavesPrefix}
use Rattle.lalrpop_norm_chain.specs.MadeConditions.{HasWrongCondition}

-- What the passes before this one leave: names are resolved, no rule has levels, no alternative has the symbol of error recovery,
-- keys can be named, no name begins with the prefix, and no attribute asks for features.
pub record IsReadyForMacros (finds : Text → Text → Option Bool) (w : Grammar) : Type 0 where
  pub resolved : IsResolved (grammar_between finds w)
  pub flat : HasNoLevels (grammar_between finds w)
  pub recovery : HasNoRecovery (grammar_between finds w)
  pub nameable : IsNameable (grammar_between finds w)
  pub prefix : LeavesPrefix w.prefix (grammar_between finds w)
  pub active : HasAllActive [] (rules_of w.items)

-- No call has another number of arguments than parameters, none that is made is too deep, and each condition of one that is made
-- can be asked.
pub record HasNoMacroFault (finds : Text → Text → Option Bool) (deep : Text → Bool) (limit : ℕ) (w : Grammar) : Type 0 where
  pub arity : arity_faults (grammar_between finds w) (rules_of w.items) ≡ []
  pub depth : (y : Closed) → IsTooDeep (grammar_between finds w) limit y → ⊥
  pub conditions : (e : ConditionError) → HasWrongCondition (grammar_between finds w) deep e → ⊥

-- it is told that a call is too deep, and one is, which is written there in a call that is as deep as the limit allows
abbrev pub TellsDepth : EnabledGrammar → ℕ → NormFault → Type 0
TellsDepth g limit (faults.Norm error) =
    (error.kind ≡ kinds.MacroDepth limit)
    × ((y : Closed) × IsTooDeep g limit y × IsPlaceBelow g limit y (span_view error.span))
TellsDepth g limit faults.ConditionLimit = ⊥
TellsDepth g limit faults.Memory = ⊥

-- One of the three is told: a wrong number of arguments, a call that is too deep, or a condition of a call that is made which
-- can't be asked.
pub data TellsOfMacros (finds : Text → Text → Option Bool) (deep : Text → Bool) (limit : ℕ) (w : Grammar) (fault : NormFault) :
    Type 0 where
  arity : TellsArity (arity_faults (grammar_between finds w) (rules_of w.items)) fault → TellsOfMacros finds deep limit w fault
  depth : TellsDepth (grammar_between finds w) limit fault → TellsOfMacros finds deep limit w fault
  condition : TellsOfMadeCall (grammar_between finds w) deep fault → TellsOfMacros finds deep limit w fault

-- memory ran out, or of a grammar that is ready one of the three is told
abbrev pub IsMacroFault : (Text → Text → Option Bool) → (Text → Bool) → ℕ → Grammar → NormFault → Type 0
IsMacroFault finds deep limit w faults.Memory = Unit {0}
IsMacroFault finds deep limit w fault = IsReadyForMacros finds w → TellsOfMacros finds deep limit w fault
