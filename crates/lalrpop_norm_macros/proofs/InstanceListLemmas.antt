-- Alternatives of an instance put one behind another, and what is told of one of them; for the walk over a rule.
use Rattle.std.proofs.Common.{◌≡◌, List, [], ◌∷◌, ◌++◌, refl, ap, sym, subst, inl, inr}
use Rattle.std.specs.Prelude.{Bool, Option, Some, None}
use Rattle.lalrpop_grammar_symbols.specs.Symbols.{Text}
use Rattle.lalrpop_grammar.specs.WrittenGrammar.{Alternative, Condition}
use Rattle.lalrpop_grammar_language.specs.Among.{Among}
use Rattle.lalrpop_grammar_language.specs.Closing.{Binding}
use Rattle.lalrpop_grammar_repr.specs.declared.session.NormFault.{NormFault}
use Rattle.lalrpop_grammar_repr.specs.declared.session.NormFault.TheVariants as faults
use Rattle.lalrpop_norm_keys.specs.MacroFaults.{TellsOfAlternative}
use Rattle.lalrpop_norm_macros.specs.InstanceRules.{AreInstancesBy, PutsInstance}
use Rattle.lalrpop_norm_macros.specs.KeyInstances.{TellsOfOneIn}

module _ (held : Option Condition → Type 0) (becomes : Alternative → Alternative → Type 0) where
  instances_on : (as_ cs : List Alternative) (bs ds : List Alternative) → AreInstancesBy held becomes as_ bs
      → AreInstancesBy held becomes cs ds → AreInstancesBy held becomes (as_ ++ cs) (bs ++ ds)
  instances_on [] cs bs ds e w = subst (λ l. AreInstancesBy held becomes cs (l ++ ds)) (sym e) w
  instances_on (a ∷ as_) cs bs ds (inl (h, b, rest, e, m, more)) w =
      inl (h, b, rest ++ ds, ap (λ l. l ++ ds) e, m, instances_on as_ cs rest ds more w)
  instances_on (a ∷ as_) cs bs ds (inr (h, more)) w = inr (h, instances_on as_ cs bs ds more w)

  -- one alternative more
  pub instance_more : (as_ : List Alternative) (a : Alternative) (old new : List Alternative) → AreInstancesBy held becomes as_ old
      → PutsInstance held becomes a old new → AreInstancesBy held becomes (as_ ++ a ∷ []) new
  instance_more as_ a old new w (inl (h, b, e, m)) =
      subst (AreInstancesBy held becomes (as_ ++ a ∷ [])) (sym e)
      (instances_on as_ (a ∷ []) old (b ∷ []) w (inl (h, b, [], refl, m, refl)))
  instance_more as_ a old new w (inr (h, e)) =
      subst (AreInstancesBy held becomes (as_ ++ a ∷ [])) (sym e)
      (subst (AreInstancesBy held becomes (as_ ++ a ∷ [])) (nothing_on old) (instances_on as_ (a ∷ []) old [] w (inr (h, refl))))
    where
      nothing_on : (l : List Alternative) → l ++ [] ≡ l
      nothing_on [] = refl
      nothing_on (x ∷ l) = ap (λ m. x ∷ m) (nothing_on l)

-- what is told of an alternative is told of one of them
pub tells_of_one : (finds : Text → Text → Option Bool) (deep : Text → Bool) (b : Binding) (as_ : List Alternative) (a : Alternative)
    → Among as_ a → (f : NormFault) → TellsOfAlternative finds deep b a.condition f → TellsOfOneIn finds deep b as_ f
tells_of_one finds deep b as_ a i faults.Memory t = tt
tells_of_one finds deep b as_ a i (faults.Norm e) t = (a, i, t)
tells_of_one finds deep b as_ a i faults.ConditionLimit t = (a, i, t)

-- memory that runs out may be told of any alternative
pub memory_told : (finds : Text → Text → Option Bool) (deep : Text → Bool) (b : Binding) (c : Option Condition)
    → TellsOfAlternative finds deep b c faults.Memory
memory_told finds deep b None = refl
memory_told finds deep b (Some c) = tt
