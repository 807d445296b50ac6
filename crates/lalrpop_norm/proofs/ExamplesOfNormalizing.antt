-- Computed examples of what may be told of a written grammar, and of what may not.
use Rattle.std.proofs.Common.{◌≡◌, ℕ, [], ◌∷◌, refl, ◌∙◌, subst, inl, inr}
use Rattle.std.proofs.Common.{Bool, false, ap, arith}
use Rattle.lalrpop_grammar_symbols.specs.Symbols.{Text, TextSpan}
use Rattle.lalrpop_grammar.specs.WrittenGrammar.{Grammar, WrittenItem}
use Rattle.lalrpop_grammar_language.specs.Among.{Among}
use Rattle.lalrpop_grammar_language.proofs.WrittenTreeLemmas.{finds, grammar}
use Rattle.lalrpop_grammar_repr.specs.declared.norm_error.NormErrorKind.{NormErrorKind}
use Rattle.lalrpop_grammar_repr.specs.declared.norm_error.NormErrorKind.TheVariants as kinds
use Rattle.lalrpop_grammar_repr.specs.declared.session.NormFault.{NormFault}
use Rattle.lalrpop_grammar_repr.specs.declared.session.NormFault.TheVariants as faults
use Rattle.lalrpop_norm_theory.specs.Premises.{IsReadItem}
use Rattle.lalrpop_norm_prevalidate.specs.Faults.{CheckStands, HasNoCheckFault}
use Rattle.lalrpop_norm_chain.specs.StandingFaults.{IsStandingFault}
use Rattle.lalrpop_norm.specs.Normalizing.{IsNormalizable, IsWrittenFault, TellsOfWritten}

abbrev never : Text → Bool
never t = false

-- two match blocks, at bytes 1 and 2
abbrev two_blocks : Grammar
two_blocks = grammar (WrittenItem.match_token [] (1, 1) ∷ WrittenItem.match_token [] (2, 2) ∷ [])

abbrev told : NormErrorKind → ℕ → NormFault
told kind k = faults.Norm (record { kind = kind; span = record { 0 = k; 1 = k } })

abbrev may_tell : NormFault → Type 0
may_tell fault = TellsOfWritten finds never [] 10 two_blocks fault

-- the grammar is one that may be normalized
may_be_normalized : IsNormalizable finds [] two_blocks
may_be_normalized = record {
  read = record {
    underscores = 2;
    two = omega arith;
    prefix_is = refl;
    items = λ i m. each i m;
  };
  recovery = λ r c x i. absurd i.rule;
}
  where
    each : (i : WrittenItem) → Among two_blocks.items i → IsReadItem i
    each i (inl e) = subst IsReadItem e (λ group m. absurd m)
    each i (inr (inl e)) = subst IsReadItem e (λ group m. absurd m)
    each i (inr (inr m)) = absurd m

-- the later block is told
later_block : may_tell (told kinds.SecondMatchBlock 2)
later_block = IsWrittenFault.standing kinds.SecondMatchBlock (2, 2) (IsStandingFault.check kinds.SecondMatchBlock (2, 2) (inl refl))

no_memory : may_tell faults.Memory
no_memory = tt

-- where it stands, nothing that a later pass would find is told, no limit of a search neither

something_wrong : HasNoCheckFault two_blocks → ⊥
something_wrong right = right kinds.SecondMatchBlock (2, 2) (inl refl)

limit_refused : may_tell faults.ConditionLimit → ⊥
limit_refused h = something_wrong h.0.before.checks

-- the first block isn't told
first_is_right : (q : TextSpan) → CheckStands kinds.SecondMatchBlock q two_blocks → q ≡ (1, 1) → ⊥
first_is_right q (inl e) f = let wrong : ◌≡◌ {A = ℕ} 2 1 = ap (λ (p : TextSpan). p.0) (e ∙ f) in omega (arith, wrong)
first_is_right q (inr m) f = absurd m

not_there : (kind : NormErrorKind) (p : TextSpan) → kind ≡ kinds.SecondMatchBlock → p ≡ (1, 1)
    → IsStandingFault finds never [] 10 two_blocks kind p → ⊥
not_there kind p e f (IsStandingFault.check k q h) =
    first_is_right q (subst (λ (i : NormErrorKind). CheckStands i q two_blocks) e h) f
not_there kind p e f (IsStandingFault.duplicate n q a h) = cc
not_there kind p e f (IsStandingFault.no_definition n q a h) = cc
not_there kind p e f (IsStandingFault.macro_as_rule q a h) = cc
not_there kind p e f (IsStandingFault.level k q a h) = something_wrong a.checks
not_there kind p e f (IsStandingFault.arity q a h) = cc
not_there kind p e f (IsStandingFault.depth x q a h at) = cc
not_there kind p e f (IsStandingFault.condition k q a h) = something_wrong a.before.checks
not_there kind p e f (IsStandingFault.token k q a h) = something_wrong a.before.before.checks
not_there kind p e f (IsStandingFault.types_disagree q a h) = cc
not_there kind p e f (IsStandingFault.no_type n q a h) = cc

not_written : (kind : NormErrorKind) (p : TextSpan) → kind ≡ kinds.SecondMatchBlock → p ≡ (1, 1)
    → IsWrittenFault finds never [] 10 two_blocks kind p → ⊥
not_written kind p e f (IsWrittenFault.standing k q h) = not_there k q e f h
not_written kind p e f (IsWrittenFault.actions q right many g) = cc

first_refused : may_tell (told kinds.SecondMatchBlock 1) → ⊥
first_refused h = not_written kinds.SecondMatchBlock (1, 1) refl refl h
