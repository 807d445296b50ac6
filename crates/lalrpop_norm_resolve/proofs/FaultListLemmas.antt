-- Faults of parts of what is checked, as faults of the whole; for the checks of names.
use Rattle.std.proofs.Common.{◌≡◌, ◌∙◌, ap, sym, subst, List, [], ◌∷◌, ◌++◌}
use Rattle.std.specs.Prelude.{Result, flat_map}
use Rattle.lalrpop_grammar_repr.specs.declared.session.NormFault.{NormFault}
use Rattle.lalrpop_grammar_repr.specs.declared.session.NormFault.TheVariants as faults
use Rattle.lalrpop_grammar_symbols.specs.Views.{span_view}
use Rattle.lalrpop_grammar_language.proofs.StepLemmas.{among_left}
use Rattle.lalrpop_norm_theory.specs.NameFaults.{NameFault}
use Rattle.lalrpop_norm_resolve.specs.FoundFaults.{AmongFaults, ChecksNames, FoundFault, TellsOneOf, found_fault}

-- what each fault of a kind is, the one that is told is
pub one_of-map : (P Q : FoundFault → Type 0) → ((f : FoundFault) → P f → Q f) → (e : NormFault) → TellsOneOf P e
    → TellsOneOf Q e
one_of-map P Q to (faults.Norm error) h = to (found_fault error.kind (span_view error.span)) h
one_of-map P Q to faults.Memory h = h
one_of-map P Q to faults.ConditionLimit h = h

among_more : (fs gs : List NameFault) (f : FoundFault) → AmongFaults fs f → AmongFaults (fs ++ gs) f
among_more fs gs (FoundFault.misnamed f) i = among_left fs gs f i
among_more fs gs (FoundFault.duplicate n p) i = i
among_more fs gs FoundFault.other i = i

-- a fault of what is in front
pub fault_in_front : (fs gs : List NameFault) (e : NormFault) → TellsOneOf (AmongFaults fs) e → TellsOneOf (AmongFaults (fs ++ gs)) e
fault_in_front fs gs e h = one_of-map (AmongFaults fs) (AmongFaults (fs ++ gs)) (among_more fs gs) e h

-- where nothing is wrong in front, what is behind is all
pub checked_behind : {T : Type 0} (fs gs : List NameFault) (r : Result T NormFault) → fs ≡ [] → ChecksNames gs r
    → ChecksNames (fs ++ gs) r
checked_behind fs gs r e h = subst (λ l. ChecksNames (l ++ gs) r) (sym e) h

module _ {A : Type 0} (f : A → List NameFault) (whole : List NameFault) (left rest : List A) (x : A) where
  -- a fault of the next one
  pub fault_next : (e : NormFault) → left ≡ x ∷ rest → whole ≡ flat_map f left → TellsOneOf (AmongFaults (f x)) e
      → TellsOneOf (AmongFaults whole) e
  fault_next e here is h =
      subst (λ l. TellsOneOf (AmongFaults l) e) (sym (is ∙ ap (flat_map f) here)) (fault_in_front (f x) (flat_map f rest) e h)

  -- the next one has none
  pub none_next : left ≡ x ∷ rest → whole ≡ flat_map f left → f x ≡ [] → whole ≡ flat_map f rest
  none_next here is none = is ∙ ap (flat_map f) here ∙ ap (λ l. l ++ flat_map f rest) none
