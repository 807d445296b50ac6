-- Spread states that reduce before just what is carried are checked, and conflict where that does: for both laws.
use Rattle.std.proofs.Common.{◌≡◌, ◌↔◌, ◌∙◌, ℕ, Bool, true, false, List, ◌∷◌, drop, length, None, Some, Contains, refl, ap, subst}
use Rattle.std.specs.Prelude.{slice_get}
use Rattle.lalrpop_grammar_symbols.specs.Symbols.{Text}
use Rattle.lalrpop_lr1_theory.specs.Productions.{Next, Production, Symbol, nonterminal}
use Rattle.lalrpop_lr1_theory.specs.ValidItems.{NoneBarren}
use Rattle.lalrpop_lr1_theory.specs.Automata.{Carries, Closure, IsCover, begins_with_end, closed, in_kernel, passes_next, shifts_next}
use Rattle.lalrpop_lr1_theory.specs.Automata.{starts_next}
use Rattle.lalrpop_lr1_theory.specs.States.{HasEdge, HasItem, Reduction, State, finished_reductions}
use Rattle.lalrpop_lr1_theory.specs.CheckedStates.{AreCheckedStates, HasNoConflict, IsStartAlone}
use Rattle.lalrpop_lr1_theory.specs.Laws.{HaveNoConflict}
use Rattle.lalrpop_lr1_theory.proofs.CheckedLemmas.{no_shift_before, reductions_agree}
use Rattle.lalrpop_lr1_theory.proofs.CollapsedCoverLemmas.{closure_more}
use Rattle.lalrpop_lr1_theory.proofs.ListLemmas.{get_contains}
use Rattle.lalrpop_lr1_theory.proofs.ReductionLemmas.{StandOnce, reductions_once}
use Rattle.lalrpop_lr1_theory.proofs.WalkLemmas.{contains_after}
use Rattle.lalrpop_lane_theory.specs.CarriedConflicts.{AreCarriedReductions, AreReachedCover, CarriesToFinished}
use Rattle.lalrpop_lane_theory.specs.CarriedConflicts.{HaveNoCarriedConflict, ReduceByEachOnce}
use Rattle.lalrpop_lane_theory.specs.SpreadStates.{AreSpreadStates}
use Rattle.lalrpop_lane_theory.proofs.LaneLemmas.{carried_item, closure_item, item_given}
use Rattle.lalrpop_lane_theory.proofs.SpreadLemmas.{spread_cover}

-- what is carried is carried to items of the grammar
pub carried_given : (G : Production → Type 0) (s : Text) (Item : ℕ → Production → ℕ → Type 0) (Edge : ℕ → Symbol → ℕ → Type 0)
    (n : ℕ) (p : Production) (i : ℕ) (x : Next) → Carries G s Item Edge n p i x → G p
carried_given G s Item Edge n p i x (begins_with_end q g e) = g
carried_given G s Item Edge n p i x (shifts_next {n = m} {i = j} X b k c d e) = carried_given G s Item Edge m p j x c
carried_given G s Item Edge n p i x (starts_next b q t c d g f) = g
carried_given G s Item Edge n p i x (passes_next b q y c d g f) = g

module _ (G : Production → Type 0) (s : Text) (Item : ℕ → Production → ℕ → Type 0) (Edge : ℕ → Symbol → ℕ → Type 0)
    (given : (n : ℕ) (p : Production) (i : ℕ) → Item n p i → G p)
    (alone : (q : Production) → G q → Contains q.right (nonterminal s) → ⊥) where
  closure_given : (n : ℕ) (p : Production) (i : ℕ) → Closure G (Item n) p i → G p
  closure_given n p i (in_kernel q j k) = given n q j k
  closure_given n p i (closed b q c d u) = u

  not_behind_dot : (q : Production) (j : ℕ) (p : Production) (b : List Symbol) → G q →
      drop j q.right ≡ nonterminal p.left ∷ b → p.left ≡ s → ⊥
  not_behind_dot q j p b g d e = alone q g (contains_after (nonterminal s) b q.right j (d ∙ ap (λ A. nonterminal A ∷ b) e))

  -- to the items of a start alone nothing but the end is carried, where all items are of the grammar
  pub start_before_end : (n : ℕ) (p : Production) (i : ℕ) (x : Next) → Carries G s Item Edge n p i x → p.left ≡ s → x ≡ None
  start_before_end n p i x (begins_with_end q g e) f = refl
  start_before_end n p i x (shifts_next {n = m} {i = j} X b k c d e) f = start_before_end m p j x c f
  start_before_end n p i x (starts_next {p = q} {i = j} b r t c d g h) f =
      absurd (not_behind_dot q j r b (closure_given n q j c) d f)
  start_before_end n p i x (passes_next {p = q} {i = j} b r y c d g h) f =
      absurd (not_behind_dot q j r b (carried_given G s Item Edge n q j y c) d f)

module _ (grammar : List Production) (s : Text) (originals states : List State) (origin : ℕ → ℕ)
    (reached : AreReachedCover grammar s originals) (spread : AreSpreadStates originals states origin) where
  spread_covers : IsCover (Contains grammar) s (HasItem states) (HasEdge states)
  spread_covers =
      spread_cover (HasItem originals) (HasEdge originals) (HasItem states) (HasEdge states) origin spread (Contains grammar) s
      reached.cover

  spread_given : (n : ℕ) (p : Production) (i : ℕ) → HasItem states n p i → Contains grammar p
  spread_given n p i it =
      item_given (Contains grammar) s (HasItem originals) (HasEdge originals) reached (origin n) p i ((spread.items n p i).0 it)

  -- a state's items are closed, and what is carried in it is carried to one of them
  spread_closes : (n : ℕ) (p : Production) (i : ℕ) → Closure (Contains grammar) (HasItem states n) p i → HasItem states n p i
  spread_closes n p i c =
      (spread.items n p i).1
      (closure_item (Contains grammar) s (HasItem originals) (HasEdge originals) reached (origin n) p i
      (closure_more (Contains grammar) (HasItem states n) (HasItem originals (origin n)) (λ q j. (spread.items n q j).0) c))

  pub spread_carried_item : (n : ℕ) (p : Production) (i : ℕ) (x : Next) →
      Carries (Contains grammar) s (HasItem states) (HasEdge states) n p i x → HasItem states n p i
  spread_carried_item =
      carried_item (Contains grammar) s (HasItem states) (HasEdge states) spread_covers spread_closes

  -- where they reduce before just what is carried, and have no conflict, they are checked
  pub carried_checked : NoneBarren (Contains grammar) s → IsStartAlone grammar s → AreCarriedReductions grammar s states →
      HaveNoConflict states → AreCheckedStates grammar s states
  carried_checked nb alone carried apart =
      record {
        cover = spread_covers;
        finished = λ n state a e c.
            (carried.finished n a.production).0 (record { state = state; lookahead = a.lookahead; at = e; held = c });
        carried = λ n p x c. (carried.before n p x).1 c;
        no_conflict = apart;
        at_end = λ n state a x e c f d.
            start_before_end (Contains grammar) s (HasItem states) (HasEdge states) spread_given alone n a.production
            (length a.production.right) x
            ((carried.before n a.production x).0
            (record { state = state; lookahead = a.lookahead; at = e; held = c; follows = d })) f;
        no_error = λ n state a e c f. carried.no_error n state a e c;
        none_barren = nb;
      }

module _ (grammar : List Production) (s : Text) (states : List State) (carried : AreCarriedReductions grammar s states) where
  -- what a reduction's lookahead holds is carried to the finished item
  reduction_carries : (n : ℕ) (state : State) (a : Reduction) (x : Next) → slice_get states n ≡ Some state →
      Contains state.reductions a → Contains a.lookahead.nexts x →
      CarriesToFinished (Contains grammar) s (HasItem states) (HasEdge states) n a.production x
  reduction_carries n state a x e c d = (
    (carried.finished n a.production).0 (record { state = state; lookahead = a.lookahead; at = e; held = c }),
    (carried.before n a.production x).0 (record { state = state; lookahead = a.lookahead; at = e; held = c; follows = d }),
  )

  not_both : {b : Bool} → b ≡ false → b ≡ true → ⊥
  not_both e f = cc

  no_conflict_of : ReduceByEachOnce states → HaveNoCarriedConflict grammar s states → (n : ℕ) (state : State) →
      slice_get states n ≡ Some state → HasNoConflict state
  no_conflict_of once none n state e =
      record {
        reductions_apart = λ j k a b x f g c d.
            once n state j k a b e f g
            (none.reductions_apart n a.production b.production x
            (reduction_carries n state a x e (get_contains state.reductions j a f) c)
            (reduction_carries n state b x e (get_contains state.reductions k b g) d));
        errors_apart = λ j k a b f g c d.
            absurd (not_both (carried.no_error n state a e (get_contains state.reductions j a f)) c);
        shifts_apart = λ t m k a c f d.
            none.shifts_apart n a.production t m
            (reduction_carries n state a (Some t) e (get_contains state.reductions k a f) d) (state, e, c);
      }

  -- they have no conflict exactly where what is carried leaves none
  pub carried_conflicts : ReduceByEachOnce states → HaveNoConflict states ↔ HaveNoCarriedConflict grammar s states
  carried_conflicts once = (
    λ apart. record {
      reductions_apart = λ n p q x a b.
          reductions_agree states apart n p q x ((carried.before n p x).1 a.1) ((carried.before n q x).1 b.1);
      shifts_apart = λ n p t m a e. no_shift_before states apart n p t m ((carried.before n p (Some t)).1 a.1) e;
    },
    λ none n state e. no_conflict_of once none n state e,
  )

-- where reductions are by the finished items, and each item stands once in a state, a state reduces by each production once
pub reduce_once : (states : List State) →
    ((n : ℕ) (state : State) → slice_get states n ≡ Some state → state.reductions ≡ finished_reductions state.items) →
    ((n : ℕ) (state : State) → slice_get states n ≡ Some state → StandOnce state.items) → ReduceByEachOnce states
reduce_once states made once n state j k a b e f g h =
    let by = made n state e in
    reductions_once state.items (once n state e) j k a b (subst (λ l. slice_get l j ≡ Some a) by f)
    (subst (λ l. slice_get l k ≡ Some b) by g) h
