-- Where words lead: along paths, and by sets of states, a character at a time. For all that runs an automaton.
use Rattle.std.proofs.Common.{◌≡◌, ℕ, zero, suc, ◌↔◌, List, [], ◌∷◌, ◌++◌, length, Contains, inl, inr, ⊎_elim}
use Rattle.std.proofs.Common.{sym, ap, ◌∙◌, refl, subst, arith, append-nil, append_assoc, length-append}
use Rattle.std.proofs.lemmas.List.{same_from_push}
use Rattle.lalrpop_lexer_nfa.specs.Paths.{Graph, HasTransition, IsPath, HasPath}
use Rattle.lalrpop_lexer_nfa.specs.Sets.{EpsilonReaches, IsEpsilonClosure, IsSubsetStep, IsReachedBy, IsReachedSet}
use Rattle.lalrpop_lexer_nfa.proofs.ListLemmas.{Contains-nil, Contains-head, Contains-cons_cases}

module _ (t : Graph) (s : ℕ) where
  pub path_from_arrives : (goal : ℕ) {w : List ℕ} {q : ℕ} → IsReachedBy t s w q → (n : ℕ) (v : List ℕ) → IsPath t goal n q v
      → HasPath t s (w ++ v) goal
  path_from_arrives goal IsReachedBy.start n v h = (n, h)
  path_from_arrives goal {w} {q = r} (IsReachedBy.epsilon q a lead) n v h = path_from_arrives goal a (suc n) v (inl (r, lead, h))
  path_from_arrives goal {w} {q = r} (IsReachedBy.transition {w = u} q c a reads) n v h =
      let P : List ℕ → Type 0 = λ x. HasPath t s x goal in
      subst P (sym (append_assoc u (c ∷ []) v)) (path_from_arrives goal a (suc n) (c ∷ v) (inr (c, r, v, refl, reads, h)))

  pub arrives_from_path : (goal n q : ℕ) (v w : List ℕ) → IsReachedBy t s w q → IsPath t goal n q v
      → IsReachedBy t s (w ++ v) goal
  arrives_from_path goal zero q v w a h =
      let P : List ℕ → Type 0 = λ x. IsReachedBy t s x goal in
      let Q : ℕ → Type 0 = IsReachedBy t s w in
      subst P (sym (append-nil w) ∙ ap (λ x. w ++ x) (sym h.1)) (subst Q h.0 a)
  arrives_from_path goal (suc n) q v w a (inl h) = arrives_from_path goal n h.0 v w (IsReachedBy.epsilon q a h.1) h.2
  arrives_from_path goal (suc n) q v w a (inr h) =
      let P : List ℕ → Type 0 = λ x. IsReachedBy t s x goal in
      subst P (append_assoc w (h.0 ∷ []) h.2 ∙ ap (λ x. w ++ x) (sym h.3))
      (arrives_from_path goal n h.1 h.2 (w ++ h.0 ∷ []) (IsReachedBy.transition q h.0 a h.4) h.5)

  -- some path reads the word from s to the state just where the word leads there
  pub leads_arrives : (w : List ℕ) (goal : ℕ) → HasPath t s w goal ↔ IsReachedBy t s w goal
  leads_arrives w goal = (
    λ h. arrives_from_path goal h.0 s w [] IsReachedBy.start h.1,
    λ a. let P : List ℕ → Type 0 = λ x. HasPath t s x goal in subst P (append-nil w) (path_from_arrives goal a 0 [] (refl, refl)),
  )

  pub follows_arrives : {w : List ℕ} (x y : ℕ) → IsReachedBy t s w x → EpsilonReaches t x y → IsReachedBy t s w y
  follows_arrives x y a EpsilonReaches.here = a
  follows_arrives x y a (EpsilonReaches.along z f lead) = IsReachedBy.epsilon z (follows_arrives x z a f) lead

  follows_from_nothing : {w : List ℕ} {q : ℕ} → IsReachedBy t s w q → w ≡ [] → EpsilonReaches t s q
  follows_from_nothing IsReachedBy.start e = EpsilonReaches.here
  follows_from_nothing (IsReachedBy.epsilon q a lead) e = EpsilonReaches.along q (follows_from_nothing a e) lead
  follows_from_nothing (IsReachedBy.transition {w = u} q c a reads) e = absurd (omega (arith, ap length e, length-append u (c ∷ [])))

  -- the epsilon closure of s is the set that the empty word leads to
  pub set_start : (set : List ℕ) → IsEpsilonClosure t (s ∷ []) set → IsReachedSet t s [] set
  set_start set closed q = (
    λ h.
        let from = closed.only q h in
        let at : s ≡ from.0 = ⊎_elim (λ e. e) (λ more. absurd (Contains-nil from.0 more)) (Contains-cons_cases s [] from.0 from.1) in
        follows_arrives s q IsReachedBy.start (let P : ℕ → Type 0 = λ x. EpsilonReaches t x q in subst P (sym at) from.2),
    λ a. closed.all s q (Contains-head s []) (follows_from_nothing a refl),
  )

  step_from_arrives : (set new : List ℕ) (w : List ℕ) (c : ℕ) → IsReachedSet t s w set → IsSubsetStep t set c new
      → {v : List ℕ} {q : ℕ} → IsReachedBy t s v q → v ≡ w ++ c ∷ [] → Contains new q
  step_from_arrives set new w c is step IsReachedBy.start e = absurd (omega (arith, ap length e, length-append w (c ∷ [])))
  step_from_arrives set new w c is step {v} {q = r} (IsReachedBy.epsilon q a lead) e =
      let from = step.only q (step_from_arrives set new w c is step a e) in
      step.all from.0 from.1 r from.2 from.3 (EpsilonReaches.along q from.4 lead)
  step_from_arrives set new w c is step {v} {q = r} (IsReachedBy.transition {w = u} q d a reads) e =
      let same = same_from_push u w d c e in
      let P : List ℕ → Type 0 = λ x. IsReachedBy t s x q in
      let Q : ℕ → Type 0 = λ x. HasTransition t q x r in
      step.all q r r ((is q).1 (subst P same.0 a)) (subst Q same.1 reads) EpsilonReaches.here

  -- one character more
  pub set_step : (set new : List ℕ) (w : List ℕ) (c : ℕ) → IsReachedSet t s w set → IsSubsetStep t set c new
      → IsReachedSet t s (w ++ c ∷ []) new
  set_step set new w c is step q = (
    λ h.
        let from = step.only q h in
        follows_arrives from.1 q (IsReachedBy.transition from.0 c ((is from.0).0 from.2) from.3) from.4,
    λ a. step_from_arrives set new w c is step a refl,
  )
