-- The states that have their transitions, one more after another. For the loop that explores all states.
use Rattle.std.proofs.Common.{◌≡◌, ℕ, ◌+◌, ◌<◌, ◌≤◌, List, [], ◌∷◌, length, Contains, inl}
use Rattle.std.proofs.Common.{⊎_elim, sym, ap, ◌∙◌, subst, arith}
use Rattle.std.proofs.lemmas.Bool.{cases_lt}
use Rattle.lalrpop_lexer_nfa.specs.Paths.{Graph, HasTransition}
use Rattle.lalrpop_lexer_nfa.specs.Sets.{IsEpsilonClosure, IsSubsetStep}
use Rattle.lalrpop_lexer.specs.Numbering.{EdgeView, edge_at, EdgeReads, IsFirstSeen}
use Rattle.lalrpop_lexer.specs.Subsets.{set_at}
use Rattle.lalrpop_lexer.specs.States.{IsInterned}
use Rattle.lalrpop_lexer.specs.Explore.{IsGrowing, Explores}
use Rattle.lalrpop_lexer.specs.Automaton.{IsAutomaton}
use Rattle.lalrpop_lexer.proofs.ExploreLemmas.{set_at-extends}

-- the first states have their edges, and the others none
pub record IsExplored (t : Graph) (start done : ℕ) (sets : List (List ℕ)) (edges : ℕ → List EdgeView) : Type 0 where
  pub some : 0 < length sets
  pub within : done ≤ length sets
  pub first : IsEpsilonClosure t (start ∷ []) (set_at sets 0)
  pub parent : ℕ → ℕ
  pub place : ℕ → ℕ
  pub seen : IsFirstSeen edges (length sets) parent place
  pub empty : (s : ℕ) → done ≤ s → edges s ≡ []
  pub late : (s : ℕ) → 0 < s → s < length sets → parent s < done
  pub fits : (s k c : ℕ) → s < done → EdgeReads edges s c k
      → IsSubsetStep t (set_at sets s) c (set_at sets (edge_at (edges s) k).2)
  pub all : (s c q r : ℕ) → s < done → Contains (set_at sets s) q → HasTransition t q c r → (k : ℕ) × EdgeReads edges s c k

-- before the loop there is the first state alone, without transitions
pub explored_start : (t : Graph) (start : ℕ) (sets : List (List ℕ)) (n : ℕ) (edges : ℕ → List EdgeView)
    → ((s : ℕ) → edges s ≡ []) → IsInterned t (start ∷ []) [] sets n →
    IsExplored t start 0 sets edges
explored_start t start sets n edges none found =
    ⊎_elim (λ known. absurd (omega (arith, known.0)))
    (λ fresh.
    let at : n ≡ 0 = fresh.0 in
    let size : length sets ≡ 1 = ap length fresh.1.1 in
    let never : (s k : ℕ) → k < length (edges s) → ⊥ = λ s k l. omega (arith, ap length (none s), l) in
    record {
      some = omega arith;
      within = omega arith;
      first = let P : ℕ → Type 0 = λ k. IsEpsilonClosure t (start ∷ []) (set_at sets k) in subst P at found.closed;
      parent = λ s. s;
      place = λ s. s;
      seen = record {
        starts = λ s j k l order h. absurd (never s k h);
        inside = λ s k l h. absurd (never s k h);
        nonempty = λ s k l h. absurd (never s k h);
        before = λ s more l. absurd (omega arith);
        within = λ s more l. absurd (omega arith);
        leads = λ s more l. absurd (omega arith);
        rising = λ s r more order l. absurd (omega arith);
        first = λ p k l h. absurd (never p k h);
      };
      empty = λ s l. none s;
      late = λ s more l. absurd (omega arith);
      fits = λ s k c l. absurd (omega arith);
      all = λ s c q r l. absurd (omega arith);
    })
    found.place

module _ (t : Graph) (start done : ℕ) (old new : List (List ℕ)) (edges more : ℕ → List EdgeView) (out : List EdgeView)
    (l : done < length old)
    (before : IsExplored t start done old edges) (one : Explores t done old new out)
    (same : (s : ℕ) → (s ≡ done → ⊥) → more s ≡ edges s) (grown : more done ≡ out) where
  growing : IsGrowing edges (length old) before.parent before.place done
  growing = record {
    seen = before.seen;
    current = l;
    empty = λ s after. before.empty s (omega arith);
    late = λ s some below. inl (before.late s some below);
  }

  grew : (parents places : ℕ → ℕ) × IsGrowing more (length new) parents places done
  grew = one.grows edges more before.parent before.place same (before.empty done (omega arith)) grown growing

  stays : (i : ℕ) → i < length old → set_at new i ≡ set_at old i
  stays i below = ap (λ (vs : List (List ℕ)). set_at vs i) one.extends.1 ∙ set_at-extends old one.extends.0 i below

  fits_old : (s k c : ℕ) → s < done → EdgeReads more s c k → IsSubsetStep t (set_at new s) c (set_at new (edge_at (more s) k).2)
  fits_old s k c less goes =
      let P : List EdgeView → Type 0 =
      λ es. k < length es → (edge_at es k).0 ≤ c → c ≤ (edge_at es k).1
      → IsSubsetStep t (set_at new s) c (set_at new (edge_at es k).2) in
      let kept : P (edges s) = λ a b d.
      let Q : List ℕ → List ℕ → Type 0 = λ x y. IsSubsetStep t x c y in
      let from = stays s (omega arith) in
      let to = stays (edge_at (edges s) k).2 (before.seen.inside s k (omega arith) a) in
      subst (λ x. Q x (set_at new (edge_at (edges s) k).2)) (sym from)
      (subst (Q (set_at old s)) (sym to) (before.fits s k c less (a, b, d))) in
      subst P (sym (same s (λ at. omega arith))) kept goes.0 goes.1 goes.2

  fits_new : (k c : ℕ) → EdgeReads more done c k → IsSubsetStep t (set_at new done) c (set_at new (edge_at (more done) k).2)
  fits_new k c goes =
      let P : List EdgeView → Type 0 =
      λ es. k < length es → (edge_at es k).0 ≤ c → c ≤ (edge_at es k).1
      → IsSubsetStep t (set_at new done) c (set_at new (edge_at es k).2) in
      subst P (sym grown) (one.fits k c) goes.0 goes.1 goes.2

  all_old : (s c q r : ℕ) → s < done → Contains (set_at new s) q → HasTransition t q c r → (k : ℕ) × EdgeReads more s c k
  all_old s c q r less among reads =
      let P : List ℕ → Type 0 = λ xs. Contains xs q in
      let k = before.all s c q r less (subst P (stays s (omega arith)) among) reads in
      let Q : List EdgeView → Type 0 = λ es. (k.0 < length es) × ((edge_at es k.0).0 ≤ c) × (c ≤ (edge_at es k.0).1) in
      (k.0, subst Q (sym (same s (λ at. omega arith))) k.1)

  all_new : (c q r : ℕ) → Contains (set_at new done) q → HasTransition t q c r → (k : ℕ) × EdgeReads more done c k
  all_new c q r among reads =
      let P : List ℕ → Type 0 = λ xs. Contains xs q in
      let k = one.all q c r (subst P (stays done l) among) reads in
      let Q : List EdgeView → Type 0 = λ es. (k.0 < length es) × ((edge_at es k.0).0 ≤ c) × (c ≤ (edge_at es k.0).1) in
      (k.0, subst Q (sym grown) (k.1, k.2, k.3))

  -- one more state has its transitions
  pub explored_more : IsExplored t start (done + 1) new more
  explored_more = record {
    some = omega (arith, grew.2.current);
    within = omega (arith, grew.2.current);
    first = let P : List ℕ → Type 0 = IsEpsilonClosure t (start ∷ []) in subst P (sym (stays 0 before.some)) before.first;
    parent = grew.0;
    place = grew.1;
    seen = grew.2.seen;
    empty = λ s after. grew.2.empty s (omega arith);
    late = λ s some below. ⊎_elim (λ earlier. omega arith) (λ at. omega (arith, at.0)) (grew.2.late s some below);
    fits = λ s k c below goes.
        ⊎_elim (λ (less : s < done). fits_old s k c less goes)
        (λ (ge : done ≤ s).
        let at : s ≡ done = omega arith in
        let P : ℕ → Type 0 = λ r. EdgeReads more r c k → IsSubsetStep t (set_at new r) c (set_at new (edge_at (more r) k).2) in
        subst P (sym at) (fits_new k c) goes)
        (cases_lt s done);
    all = λ s c q r below among reads.
        ⊎_elim (λ (less : s < done). all_old s c q r less among reads)
        (λ (ge : done ≤ s).
        let at : s ≡ done = omega arith in
        let P : ℕ → Type 0 = λ x. Contains (set_at new x) q → (k : ℕ) × EdgeReads more x c k in
        subst P (sym at) (λ here. all_new c q r here reads) among)
        (cases_lt s done);
  }

-- once all states have their transitions, they are the whole automaton
pub explored_end : (t : Graph) (start done : ℕ) (sets : List (List ℕ)) (edges : ℕ → List EdgeView)
    → IsExplored t start done sets edges → length sets ≤ done →
    IsAutomaton t start sets edges (length sets)
explored_end t start done sets edges h over = record {
  machine = record {
    some = h.some;
    first = h.first;
    inside = h.seen.inside;
    fits = λ s k c below goes. h.fits s k c (omega arith) goes;
    all = λ s c q r below among reads. h.all s c q r (omega arith) among reads;
  };
  parent = h.parent;
  place = h.place;
  seen = h.seen;
}
