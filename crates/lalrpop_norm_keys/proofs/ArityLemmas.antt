-- Faults of parts of what is checked, as faults of the whole; for the check of numbers of arguments.
use Rattle.std.proofs.Common.{◌≡◌, ◌∙◌, ap, sym, subst, List, [], ◌∷◌, ◌++◌, refl, suc, length, ℕ, ◌≢◌, cond}
use Rattle.std.proofs.Common.{Bool, true, false, inl}
use Rattle.std.specs.Prelude.{◌==◌}
use Rattle.std.proofs.lemmas.Bool.{eqb-true, eq-eqb}
use Rattle.lalrpop_grammar_language.specs.Among.{Among}
use Rattle.lalrpop_grammar_language.specs.Enabled.{EnabledRule}
use Rattle.std.specs.Prelude.{flat_map}
use Rattle.lalrpop_grammar_symbols.specs.Symbols.{TextSpan, list_of}
use Rattle.lalrpop_grammar_symbols.specs.SymbolWalks.{symbols_view}
use Rattle.lalrpop_grammar_symbols.specs.declared.symbol.Symbol.{Symbol}
use Rattle.lalrpop_grammar_symbols.specs.Views.{span_view}
use Rattle.lalrpop_grammar_language.proofs.StepLemmas.{among_left}
use Rattle.lalrpop_grammar_repr.specs.declared.session.NormFault.{NormFault}
use Rattle.lalrpop_grammar_repr.specs.declared.session.NormFault.TheVariants as faults
use Rattle.lalrpop_norm_keys.specs.Arity.{TellsArity, arity_fault_of}

-- as many symbols are seen as there are
pub count_of_symbols : (xs : List Symbol) → length (list_of (symbols_view xs)) ≡ length xs
count_of_symbols [] = refl
count_of_symbols (x ∷ xs) = ap suc (count_of_symbols xs)

-- as many arguments as parameters
pub count_right : (rs : List EnabledRule) (r : EnabledRule) (k : ℕ) (p : TextSpan) → rs ≡ r ∷ [] → length r.parameters ≡ k
    → arity_fault_of rs k p ≡ []
count_right rs r k p e f =
    subst (λ l. arity_fault_of l k p ≡ []) (sym e) (ap (λ b. cond b [] (p ∷ [])) (eq-eqb (length r.parameters) k f))

-- another number of them
pub count_wrong : (rs : List EnabledRule) (r : EnabledRule) (k : ℕ) (p : TextSpan) → rs ≡ r ∷ [] → length r.parameters ≢ k
    → Among (arity_fault_of rs k p) p
count_wrong rs r k p e other = subst (λ l. Among (arity_fault_of l k p) p) (sym e) (go (length r.parameters == k) refl)
  where
    go : (b : Bool) → (length r.parameters == k) ≡ b → Among (cond b [] (p ∷ [])) p
    go true f = absurd (other (eqb-true (length r.parameters) k f))
    go false f = inl refl

-- a fault of what is in front
arity_in_front : (fs gs : List TextSpan) (e : NormFault) → TellsArity fs e → TellsArity (fs ++ gs) e
arity_in_front fs gs (faults.Norm error) h = (h.0, among_left fs gs (span_view error.span) h.1)
arity_in_front fs gs faults.Memory h = h
arity_in_front fs gs faults.ConditionLimit h = h

module _ {A : Type 0} (f : A → List TextSpan) (whole : List TextSpan) (left rest : List A) (x : A) where
  -- a fault of the next one
  pub arity_next : (e : NormFault) → left ≡ x ∷ rest → whole ≡ flat_map f left → TellsArity (f x) e → TellsArity whole e
  arity_next e here is h =
      subst (λ l. TellsArity l e) (sym (is ∙ ap (flat_map f) here)) (arity_in_front (f x) (flat_map f rest) e h)

  -- the next one has none
  pub no_arity_next : left ≡ x ∷ rest → whole ≡ flat_map f left → f x ≡ [] → whole ≡ flat_map f rest
  no_arity_next here is none = is ∙ ap (flat_map f) here ∙ ap (λ l. l ++ flat_map f rest) none
