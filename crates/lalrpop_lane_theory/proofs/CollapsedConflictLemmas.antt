-- Canonical states put together by their cores have no conflict exactly where the grammar is LALR(1).
use Rattle.std.proofs.Common.{◌≡◌, ◌↔◌, ℕ, List, length, Some, Contains}
use Rattle.std.specs.Prelude.{slice_get}
use Rattle.lalrpop_grammar_symbols.specs.Symbols.{Text}
use Rattle.lalrpop_lr1_theory.specs.Productions.{Production}
use Rattle.lalrpop_lr1_theory.specs.States.{HasEdge, HasItem, HasLookahead, State}
use Rattle.lalrpop_lr1_theory.specs.CanonicalStates.{AreCanonicalStates}
use Rattle.lalrpop_lr1_theory.specs.CollapsedStates.{IsCollapse}
use Rattle.lalrpop_lr1_theory.specs.Laws.{HaveNoConflict}
use Rattle.lalrpop_lr1_theory.proofs.CollapseLemmas.{collapsed_carried, collapsed_cover, core_map, no_error_held, without}
use Rattle.lalrpop_lr1_theory.proofs.CollapsedCoreLemmas.{new_walk}
use Rattle.lalrpop_lr1_theory.proofs.FinishedLemmas.{reduces_held, reduction_by_held, reduction_held}
use Rattle.lalrpop_lane_theory.specs.CarriedConflicts.{AreCarriedReductions, AreReachedCover, ReduceByEachOnce}
use Rattle.lalrpop_lane_theory.specs.Lalr1Grammars.{IsLalr1}
use Rattle.lalrpop_lane_theory.proofs.CarriedLemmas.{carried_conflicts, reduce_once}
use Rattle.lalrpop_lane_theory.proofs.Lalr1Lemmas.{lalr1_carried}

module _ (grammar : List Production) (s : Text) (states collapsed : List State) (numbers : List ℕ)
    (can : AreCanonicalStates grammar s states) (fold : IsCollapse states numbers collapsed) where
  collapsed_reached : AreReachedCover grammar s collapsed
  collapsed_reached =
      record {
        cover = collapsed_cover states collapsed numbers fold grammar s can;
        reached = λ a p i it.
            let map = core_map states collapsed numbers fold in
            let n = map.source a p i it in
            let w = can.automaton.reached n.0 p i ((map.items n.0 a n.1 p i).0 it) in (
              w.0,
              new_walk (Contains grammar) s (HasItem states) (HasEdge states) (HasLookahead states) can.automaton
                  (λ k b. slice_get numbers k ≡ Some b) (HasItem collapsed) (HasEdge collapsed) (HasLookahead collapsed) map w.0 n.0 w.1 a n.1,
            );
      }

  -- collapsed states with the same items are one
  collapsed_distinct : (a b : ℕ) (p q : Production) (i j : ℕ) → HasItem collapsed a p i → HasItem collapsed b q j →
      ((r : Production) (k : ℕ) → HasItem collapsed a r k ↔ HasItem collapsed b r k) → a ≡ b
  collapsed_distinct a b p q i j u v same =
      let map = core_map states collapsed numbers fold in
      let n = map.source a p i u in
      let m = map.source b q j v in
      map.merged n.0 m.0 a b n.1 m.1
      (λ r k. (
        λ it. (map.items m.0 b m.1 r k).0 ((same r k).0 ((map.items n.0 a n.1 r k).1 it)),
        λ it. (map.items n.0 a n.1 r k).0 ((same r k).1 ((map.items m.0 b m.1 r k).1 it)),
      ))

  collapsed_reductions : AreCarriedReductions grammar s collapsed
  collapsed_reductions =
      record {
        finished = reduction_by_held collapsed fold.reductions;
        before = λ n p x. (
          λ r. (collapsed_carried states collapsed numbers fold grammar s can n p (length p.right) x).0
              ((reduces_held collapsed fold.reductions n p x).0 r),
          λ c. (reduces_held collapsed fold.reductions n p x).1
              ((collapsed_carried states collapsed numbers fold grammar s can n p (length p.right) x).1 c),
        );
        no_error = λ n state a e c.
            without a.lookahead.error
            (no_error_held states collapsed numbers fold grammar s can n state a.production a.lookahead e
            (reduction_held collapsed fold.reductions n state a.production a.lookahead e c));
      }

  collapsed_once : ReduceByEachOnce collapsed
  collapsed_once =
      reduce_once collapsed fold.reductions (λ n state e j k u v a b c d. fold.once n state j k u v e a b c d)

  pub collapsed_lalr1 : IsLalr1 (Contains grammar) s ↔ HaveNoConflict collapsed
  collapsed_lalr1 =
      let l = lalr1_carried (Contains grammar) s (HasItem collapsed) (HasEdge collapsed) collapsed_reached collapsed_distinct in
      let c = carried_conflicts grammar s collapsed collapsed_reductions collapsed_once in
      (λ a. c.1 (l.0 a), λ a. l.1 (c.0 a))
