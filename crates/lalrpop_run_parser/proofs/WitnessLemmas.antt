-- What is known of a prepared grammar's conflicts for their certificates: for the calls that hand these on.
use Rattle.std.proofs.Common.{◌≡◌, ◌∙◌, ◌++◌, ◌∷◌, ℕ, zero, suc, List, [], length, length-append, drop}
use Rattle.std.proofs.Common.{take, Some, ap, arith, refl, subst, sym, Contains}
use Rattle.std.specs.Prelude.{slice_get}
use Rattle.lalrpop_grammar_symbols.specs.declared.names.NonterminalString.{NonterminalString}
use Rattle.lalrpop_grammar.specs.Views.{grammar_view}
use Rattle.lalrpop_grammar_repr.specs.declared.grammar.Grammar.{Grammar}
use Rattle.lalrpop_grammar_rules.specs.Search.{finds, is_too_deep}
use Rattle.lalrpop_judge.specs.CertificateViews.{certificate_view}
use Rattle.lalrpop_judge.specs.declared.certificates.certificate.Certificate.{Certificate}
use Rattle.lalrpop_lr1_core.specs.TheoryGrammars.{theory_grammar}
use Rattle.lalrpop_lr1_first.specs.NumberedGrammars.{HasItsTerminals}
use Rattle.lalrpop_lr1_core.specs.declared.conflict.Conflict.{Conflict}
use Rattle.lalrpop_lr1_core.specs.declared.state.State.{State}
use Rattle.lalrpop_lr1_core.specs.declared.table_fault.TableConstructionError.{TableConstructionError}
use Rattle.lalrpop_lr1_theory.specs.CanonicalStates.{AreCanonicalStates}
use Rattle.lalrpop_lr1_theory.specs.ValidItems.{NoneBarren}
use Rattle.lalrpop_lr1_counterexamples.specs.ConflictLaws.{ToldConflictsStand}
use Rattle.lalrpop_lr1_counterexamples.specs.ConflictCertificates.{AreCertificatesOf, HaveOwnActions, IsCertificateOf}
use Rattle.lalrpop_lr1_counterexamples.specs.ShownStates.{AreToldConflicts, shown_states}
use Rattle.lalrpop_norm_theory.specs.Premises.{IsReadGrammar}
use Rattle.lalrpop_run_prepare.specs.PreparedGrammars.{IsPrepared, MayBeParsedFrom, PreparedGrammar}
use Rattle.lalrpop_run_parser.specs.Witnesses.{AreItsConflicts, AreWitnessesOf, IsWitnessOf}

-- the one that stands first of a list behind so many, alone
pub one_at : {X : Type 0} (xs : List X) (number i : ℕ) (x : X) → slice_get (take 1 (drop number xs)) i ≡ Some x →
    (i ≡ 0) × (slice_get xs number ≡ Some x)
one_at [] zero i x e = let z : ⊥ = cc in absurd z
one_at [] (suc n) i x e = let z : ⊥ = cc in absurd z
one_at (y ∷ xs) zero zero x e = (refl, e)
one_at (y ∷ xs) zero (suc i) x e = let z : ⊥ = cc in absurd z
one_at (y ∷ xs) (suc n) i x e = one_at xs n i x e

-- what stands at a place of a list is the first of the one that is taken from there on
pub at_one : {X : Type 0} (xs : List X) (number : ℕ) (x : X) → slice_get xs number ≡ Some x →
    slice_get (take 1 (drop number xs)) 0 ≡ Some x
at_one [] number x e = let z : ⊥ = cc in absurd z
at_one (y ∷ xs) zero x e = e
at_one (y ∷ xs) (suc n) x e = at_one xs n x e

-- the only element is the last one
pub only_last : {X : Type 0} (all rest : List X) (x : X) → all ≡ rest ++ x ∷ [] → length all ≡ 1 → slice_get all 0 ≡ Some x
only_last all [] x e one = ap (λ l. slice_get l 0) e
only_last all (y ∷ rest) x e one = absurd (omega (arith, ap length e, one, length-append rest (x ∷ [])))

module _ (v : PreparedGrammar) (error : TableConstructionError (List ℕ)) (g : Grammar) (start : NonterminalString)
    (states : List (State (List ℕ))) (same : g ≡ v.expansion) (named : start ≡ v.start_name)
    (all : states ≡ error.states.items) where
  -- what is said of the expansion, its start and its states is said of those that are handed on, and the other way round
  handed : (P : Grammar → NonterminalString → List (State (List ℕ)) → Type 0) →
      P v.expansion v.start_name error.states.items → P g start states
  handed P p =
      subst (P g start) (sym all)
      (subst (λ n. P g n error.states.items) (sym named) (subst (λ h. P h v.start_name error.states.items) (sym same) p))

  given_back : (P : Grammar → NonterminalString → List (State (List ℕ)) → Type 0) → P g start states →
      P v.expansion v.start_name error.states.items
  given_back P p =
      subst (P v.expansion v.start_name) all
      (subst (λ n. P v.expansion n states) named (subst (λ h. P h start states) same p))

  pub its_terminals : HasItsTerminals v.expansion → HasItsTerminals g
  its_terminals own = handed (λ h n l. HasItsTerminals h) own

  pub its_trees : MayBeParsedFrom v.expansion v.start_name → NoneBarren (Contains (theory_grammar g)) start.0
  its_trees parsed = handed (λ h n l. NoneBarren (Contains (theory_grammar h)) n.0) parsed.none_barren

  module _ (stands : AreItsConflicts v error) where
    pub its_states : AreCanonicalStates (theory_grammar g) start.0 (shown_states g states)
    its_states = handed (λ h n l. AreCanonicalStates (theory_grammar h) n.0 (shown_states h l)) stands.states_are.constructed

    told : ToldConflictsStand → HasItsTerminals v.expansion → AreToldConflicts v.expansion error.states.items error.conflicts.items
    told law own i conflict at = law v.expansion v.start_name error own stands i conflict at

    pub its_conflicts : ToldConflictsStand → HasItsTerminals v.expansion → (conflicts : List (Conflict (List ℕ))) →
        conflicts ≡ error.conflicts.items → AreToldConflicts g states conflicts
    its_conflicts law own conflicts list =
        subst (AreToldConflicts g states) (sym list)
        (handed (λ h n l. AreToldConflicts h l error.conflicts.items) (told law own))

    -- those of which only one is asked
    pub one_conflict : ToldConflictsStand → HasItsTerminals v.expansion → (conflicts : List (Conflict (List ℕ))) (number : ℕ) →
        ((i : ℕ) (conflict : Conflict (List ℕ)) → slice_get conflicts i ≡ Some conflict →
        (i ≡ 0) × (slice_get error.conflicts.items number ≡ Some conflict)) → AreToldConflicts g states conflicts
    one_conflict law own conflicts number one =
        handed (λ h n l. AreToldConflicts h l conflicts) (λ i conflict at. told law own number conflict (one i conflict at).1)

    -- two productions with one action have one label, and so are one
    own_actions : IsPrepared finds is_too_deep v → HaveOwnActions g
    own_actions prepared = handed (λ h n l. HaveOwnActions h)
        (λ p q one other e. prepared.told.expansion.once p q one other (ap prepared.told.expansion.label_of e))

    pub are_witnesses : (conflicts : List (Conflict (List ℕ))) → conflicts ≡ error.conflicts.items →
        (certificates : List Certificate) →
        (IsReadGrammar (grammar_view v.written) → IsPrepared finds is_too_deep v) → length certificates ≡ length conflicts →
        (HaveOwnActions g → AreCertificatesOf g start.0 (shown_states g states) conflicts certificates) →
        AreWitnessesOf v error certificates
    are_witnesses conflicts list certificates prepared many certified = record {
      count = many ∙ ap length list;
      each = λ number c there read conflict at.
          given_back (λ h n l. IsCertificateOf h n.0 (shown_states h l) conflict (certificate_view c))
          ((certified (own_actions (prepared read))).each number conflict c (ap (λ l. slice_get l number) list ∙ at) there);
    }

    pub is_witness : (conflicts : List (Conflict (List ℕ))) (number : ℕ) (certificates : List Certificate) (c : Certificate) →
        (IsReadGrammar (grammar_view v.written) → IsPrepared finds is_too_deep v) →
        (HaveOwnActions g → AreCertificatesOf g start.0 (shown_states g states) conflicts certificates) →
        ((conflict : Conflict (List ℕ)) → slice_get error.conflicts.items number ≡ Some conflict →
        slice_get conflicts 0 ≡ Some conflict) →
        slice_get certificates 0 ≡ Some c → IsWitnessOf v error number c
    is_witness conflicts number certificates c prepared certified one there read conflict at =
        given_back (λ h n l. IsCertificateOf h n.0 (shown_states h l) conflict (certificate_view c))
        ((certified (own_actions (prepared read))).each 0 conflict c (one conflict at) there)
