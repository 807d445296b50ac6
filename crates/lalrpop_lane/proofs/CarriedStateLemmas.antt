-- States that differ in what may follow alone have the same items and edges, and carry alike: for states by lanes.
use Rattle.std.proofs.Common.{◌≡◌, ◌∙◌, ◌↔◌, ℕ, false, List, length, Some, Contains, refl, sym, subst}
use Rattle.std.specs.Prelude.{slice_get}
use Rattle.lalrpop_grammar_symbols.specs.Symbols.{Text}
use Rattle.lalrpop_lr1_theory.specs.Productions.{Next, Production, Symbol, nonterminal, terminal}
use Rattle.lalrpop_lr1_theory.specs.Automata.{Carries, begins_with_end, passes_next, shifts_next, starts_next}
use Rattle.lalrpop_lr1_theory.specs.States.{HasEdge, HasItem, LookaheadSet, Reduction, State}
use Rattle.lalrpop_lr1_theory.specs.SameStates.{HasReductionBy}
use Rattle.lalrpop_lr1_theory.proofs.CollapsedCoverLemmas.{closure_more}
use Rattle.lalrpop_lr1_theory.proofs.ListLemmas.{contains_get, get_contains}
use Rattle.lalrpop_lane_theory.specs.CarriedConflicts.{AreCarriedReductions, AreReachedCover, HaveNoCarriedConflict, ReduceByEachOnce}
use Rattle.lalrpop_lane_theory.specs.SpreadStates.{AreSpreadStates}
use Rattle.lalrpop_lane_theory.proofs.CarriedLemmas.{spread_carried_item}

-- what is carried over states is carried over others that have their items and edges, under other numbers
module _ (G : Production → Type 0) (s : Text) (Item Other : ℕ → Production → ℕ → Type 0) (Edge Step : ℕ → Symbol → ℕ → Type 0)
    (o : ℕ → ℕ) (zero_there : o 0 ≡ 0) (items : (n : ℕ) (p : Production) (i : ℕ) → Item n p i → Other (o n) p i)
    (edges : (n : ℕ) (x : Symbol) (m : ℕ) → Edge n x m → Step (o n) x (o m)) where
  pub carries_there : (n : ℕ) (p : Production) (i : ℕ) (x : Next) → Carries G s Item Edge n p i x → Carries G s Other Step (o n) p i x
  carries_there n p i x (begins_with_end q g e) = subst (λ k. Carries G s Other Step k q 0 x) (sym zero_there) (begins_with_end q g e)
  carries_there n p i x (shifts_next {n = k} {i = j} X b m c d e) =
      shifts_next X b (o n) (carries_there k p j x c) d (edges k X n e)
  carries_there n p i x (starts_next {p = q} {i = j} b r t c d g f) =
      starts_next b r t (closure_more G (Item n) (Other (o n)) (items n) c) d g f
  carries_there n p i x (passes_next {p = q} {i = j} b r y c d g f) = passes_next b r y (carries_there n q j y c) d g f

-- where what is carried over states leaves no conflict, what is carried over states that are spread over them leaves none
pub spread_no_conflict : (grammar : List Production) (s : Text) (originals states : List State) (origin : ℕ → ℕ) →
    AreSpreadStates originals states origin → HaveNoCarriedConflict grammar s originals → HaveNoCarriedConflict grammar s states
spread_no_conflict grammar s originals states origin spread none =
    let on = carries_there (Contains grammar) s (HasItem states) (HasItem originals) (HasEdge states) (HasEdge originals) origin
    spread.first_state (λ n p i. (spread.items n p i).0) (λ n x m. (spread.edges n).down x m) in
    record {
      reductions_apart = λ n p q x a b.
          none.reductions_apart (origin n) p q x
          ((spread.items n p (length p.right)).0 a.0, on n p (length p.right) x a.1)
          ((spread.items n q (length q.right)).0 b.0, on n q (length q.right) x b.1);
      shifts_apart = λ n p t m a e.
          none.shifts_apart (origin n) p t (origin m)
          ((spread.items n p (length p.right)).0 a.0, on n p (length p.right) (Some t) a.1)
          ((spread.edges n).down (terminal t) m e);
    }

-- two states are the same but for what may follow: they have the same items and edges, and reduce by the same productions, place by place
pub record IsSameBut (a b : State) : Type 0 where
  pub items_to : (p : Production) (i : ℕ) (l : LookaheadSet) →
      Contains a.items (record { production = p; dot = i; lookahead = l }) →
      (k : LookaheadSet) × Contains b.items (record { production = p; dot = i; lookahead = k })
  pub items_from : (p : Production) (i : ℕ) (l : LookaheadSet) →
      Contains b.items (record { production = p; dot = i; lookahead = l }) →
      (k : LookaheadSet) × Contains a.items (record { production = p; dot = i; lookahead = k })
  pub shifts : b.shifts ≡ a.shifts
  pub gotos : b.gotos ≡ a.gotos
  pub reductions_to : (j : ℕ) (r : Reduction) → slice_get a.reductions j ≡ Some r →
      (q : Reduction) × (slice_get b.reductions j ≡ Some q) × (q.production ≡ r.production)
  pub reductions_from : (j : ℕ) (r : Reduction) → slice_get b.reductions j ≡ Some r →
      (q : Reduction) × (slice_get a.reductions j ≡ Some q) × (q.production ≡ r.production)

pub record AreSameBut (old new : List State) : Type 0 where
  pub to : (n : ℕ) (a : State) → slice_get old n ≡ Some a → (b : State) × (slice_get new n ≡ Some b) × IsSameBut a b
  pub from : (n : ℕ) (b : State) → slice_get new n ≡ Some b → (a : State) × (slice_get old n ≡ Some a) × IsSameBut a b

module _ (old new : List State) (same : AreSameBut old new) where
  pub items_same : (n : ℕ) (p : Production) (i : ℕ) → HasItem new n p i ↔ HasItem old n p i
  items_same n p i = (
    λ h.
        let a = same.from n h.state h.at in
        let k = a.2.items_from p i h.lookahead h.held in
        record { state = a.0; lookahead = k.0; at = a.1; held = k.1 },
    λ h.
        let b = same.to n h.state h.at in
        let k = b.2.items_to p i h.lookahead h.held in
        record { state = b.0; lookahead = k.0; at = b.1; held = k.1 },
  )

  pub edges_same : (n : ℕ) (x : Symbol) (m : ℕ) → HasEdge new n x m ↔ HasEdge old n x m
  edges_same n (terminal t) m = (
    λ h. let a = same.from n h.0 h.1 in (a.0, a.1, subst (λ l. Contains l (t, m)) a.2.shifts h.2),
    λ h. let b = same.to n h.0 h.1 in (b.0, b.1, subst (λ l. Contains l (t, m)) (sym b.2.shifts) h.2),
  )
  edges_same n (nonterminal A) m = (
    λ h. let a = same.from n h.0 h.1 in (a.0, a.1, subst (λ l. Contains l (A, m)) a.2.gotos h.2),
    λ h. let b = same.to n h.0 h.1 in (b.0, b.1, subst (λ l. Contains l (A, m)) (sym b.2.gotos) h.2),
  )

  pub reductions_same : (n : ℕ) (p : Production) → HasReductionBy new n p ↔ HasReductionBy old n p
  reductions_same n p = (
    λ h.
        let a = same.from n h.state h.at in
        let j = contains_get h.state.reductions (record { production = p; lookahead = h.lookahead }) h.held in
        let r = a.2.reductions_from j.0 (record { production = p; lookahead = h.lookahead }) j.1 in
        record {
          state = a.0;
          lookahead = r.0.lookahead;
          at = a.1;
          held = subst (λ q. Contains a.0.reductions (record { production = q; lookahead = r.0.lookahead })) r.2
              (get_contains a.0.reductions j.0 r.0 r.1);
        },
    λ h.
        let b = same.to n h.state h.at in
        let j = contains_get h.state.reductions (record { production = p; lookahead = h.lookahead }) h.held in
        let r = b.2.reductions_to j.0 (record { production = p; lookahead = h.lookahead }) j.1 in
        record {
          state = b.0;
          lookahead = r.0.lookahead;
          at = b.1;
          held = subst (λ q. Contains b.0.reductions (record { production = q; lookahead = r.0.lookahead })) r.2
              (get_contains b.0.reductions j.0 r.0 r.1);
        },
  )

  pub once_same : ReduceByEachOnce old → ReduceByEachOnce new
  once_same once n state j k a b e f g h =
      let o = same.from n state e in
      let x = o.2.reductions_from j a f in
      let y = o.2.reductions_from k b g in
      once n o.0 j k x.0 y.0 o.1 x.1 y.1 (x.2 ∙ h ∙ sym y.2)

  pub spread_same : (originals : List State) (origin : ℕ → ℕ) → AreSpreadStates originals old origin →
      AreSpreadStates originals new origin
  spread_same originals origin spread =
      record {
        first_state = spread.first_state;
        items = λ n p i. (
          λ h. (spread.items n p i).0 ((items_same n p i).0 h),
          λ h. (items_same n p i).1 ((spread.items n p i).1 h),
        );
        edges = λ n. record {
          down = λ x m e. (spread.edges n).down x m ((edges_same n x m).0 e);
          on = λ x k e. let h = (spread.edges n).on x k e in (h.0, (edges_same n x h.0).1 h.1);
          one = λ x m k e f. (spread.edges n).one x m k ((edges_same n x m).0 e) ((edges_same n x k).0 f);
        };
      }

  module _ (grammar : List Production) (s : Text) where
    carries_from : (n : ℕ) (p : Production) (i : ℕ) (x : Next) →
        Carries (Contains grammar) s (HasItem new) (HasEdge new) n p i x →
        Carries (Contains grammar) s (HasItem old) (HasEdge old) n p i x
    carries_from =
        carries_there (Contains grammar) s (HasItem new) (HasItem old) (HasEdge new) (HasEdge old) (λ n. n) refl
        (λ n p i. (items_same n p i).0) (λ n x m. (edges_same n x m).0)

    carries_to : (n : ℕ) (p : Production) (i : ℕ) (x : Next) →
        Carries (Contains grammar) s (HasItem old) (HasEdge old) n p i x →
        Carries (Contains grammar) s (HasItem new) (HasEdge new) n p i x
    carries_to =
        carries_there (Contains grammar) s (HasItem old) (HasItem new) (HasEdge old) (HasEdge new) (λ n. n) refl
        (λ n p i. (items_same n p i).1) (λ n x m. (edges_same n x m).1)

    -- where each new reduction is before just what was carried to its item, the states reduce before just what is carried
    pub carried_before : (originals : List State) (origin : ℕ → ℕ) → AreReachedCover grammar s originals →
        AreSpreadStates originals old origin →
        ((n : ℕ) (p : Production) → HasReductionBy old n p ↔ HasItem old n p (length p.right)) →
        ((n : ℕ) (state : State) (j : ℕ) (r : Reduction) → slice_get new n ≡ Some state →
        slice_get state.reductions j ≡ Some r →
        ((x : Next) → Contains r.lookahead.nexts x
        ↔ Carries (Contains grammar) s (HasItem old) (HasEdge old) n r.production (length r.production.right) x)
        × (r.lookahead.error ≡ false)) → AreCarriedReductions grammar s new
    carried_before originals origin reached spread finished sets =
        record {
          finished = λ n p. (
            λ h. (items_same n p (length p.right)).1 ((finished n p).0 ((reductions_same n p).0 h)),
            λ h. (reductions_same n p).1 ((finished n p).1 ((items_same n p (length p.right)).0 h)),
          );
          before = λ n p x. (
            λ h.
                let j = contains_get h.state.reductions (record { production = p; lookahead = h.lookahead }) h.held in
                carries_to n p (length p.right) x
                (((sets n h.state j.0 (record { production = p; lookahead = h.lookahead }) h.at j.1).0 x).0 h.follows),
            λ c.
                let d = carries_from n p (length p.right) x c in
                let it = spread_carried_item grammar s originals old origin reached spread n p (length p.right) x d in
                let r = (reductions_same n p).1 ((finished n p).1 it) in
                let j = contains_get r.state.reductions (record { production = p; lookahead = r.lookahead }) r.held in
                record {
                  state = r.state;
                  lookahead = r.lookahead;
                  at = r.at;
                  held = r.held;
                  follows = ((sets n r.state j.0 (record { production = p; lookahead = r.lookahead }) r.at j.1).0 x).1 d;
                },
          );
          no_error = λ n state a e c.
              let j = contains_get state.reductions a c in (sets n state j.0 a e j.1).1;
        }
