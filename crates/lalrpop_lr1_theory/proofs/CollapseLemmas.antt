-- Canonical states put together by their cores, as lists: they carry what their lookaheads hold, and are checked without conflicts.
use Rattle.std.proofs.Common.{◌≡◌, ◌↔◌, ℕ, zero, suc, ◌<◌, Bool, true, false, List, [], ◌∷◌, length, None, Some}
use Rattle.std.proofs.Common.{refl, sym, ◌∙◌}
use Rattle.std.proofs.Common.{Contains, arith}
use Rattle.std.proofs.lemmas.Option.{slice_get_within}
use Rattle.std.specs.Prelude.{slice_get}
use Rattle.lalrpop_grammar_symbols.specs.Symbols.{Text}
use Rattle.lalrpop_lr1_theory.specs.Productions.{Next, Production, Symbol}
use Rattle.lalrpop_lr1_theory.specs.ValidItems.{NoneBarren}
use Rattle.lalrpop_lr1_theory.specs.Automata.{Carries, IsCover}
use Rattle.lalrpop_lr1_theory.specs.States.{HasEdge, HasItem, HasLookahead, LookaheadSet, State}
use Rattle.lalrpop_lr1_theory.specs.CheckedStates.{AreCheckedStates, IsStartAlone}
use Rattle.lalrpop_lr1_theory.specs.CanonicalStates.{AreCanonicalStates}
use Rattle.lalrpop_lr1_theory.specs.Laws.{HaveNoConflict}
use Rattle.lalrpop_lr1_theory.proofs.CanonicalLemmas.{finished_at_end}
use Rattle.lalrpop_lr1_theory.proofs.StepLemmas.{some_same}
use Rattle.lalrpop_lr1_theory.specs.CollapsedStates.{HasEdgeOfOne, HasNumberBefore, IsCollapse}
use Rattle.lalrpop_lr1_theory.proofs.CollapsedCoreLemmas.{IsCoreMap, new_carried, new_cover}
use Rattle.lalrpop_lr1_theory.proofs.FinishedLemmas.{ended, reduces_held, reduction_held}

-- a list has something at each place before its length
pub get_some : {X : Type 0} (xs : List X) (k : ℕ) → k < length xs → (x : X) × (slice_get xs k ≡ Some x)
get_some [] k h = absurd (omega (arith, h))
get_some (x ∷ xs) zero h = (x, refl)
get_some (x ∷ xs) (suc k) h = get_some xs k (omega (arith, h))

-- where numbers are given as they are first seen, the first is 0
first_is_zero : (numbers : List ℕ) →
    ((n a b : ℕ) → slice_get numbers n ≡ Some a → b < a → HasNumberBefore numbers n b) → (n a : ℕ) →
    slice_get numbers n ≡ Some a → slice_get numbers 0 ≡ Some 0
first_is_zero [] seen n a e = let z : ⊥ = cc in absurd z
first_is_zero (zero ∷ numbers) seen n a e = refl
first_is_zero (suc b ∷ numbers) seen n a e =
    let h = (seen 0 (suc b) 0 refl (omega arith)).earlier in absurd (omega (arith, h))

pub without : (b : Bool) → (b ≡ true → ⊥) → b ≡ false
without false f = refl
without true f = absurd (f refl)

no_error_both : {b : Bool} → b ≡ false → b ≡ true → ⊥
no_error_both e f = cc

module _ (states collapsed : List State) (numbers : List ℕ) (fold : IsCollapse states numbers collapsed) where
  pub state_number : (n : ℕ) (state : State) → slice_get states n ≡ Some state → (a : ℕ) × (slice_get numbers n ≡ Some a)
  state_number n state e =
      let h = slice_get_within states n state e in
      let c = fold.numbers_are.count in
      get_some numbers n (omega (arith, h, c))

  edge_of_one : (a : ℕ) (x : Symbol) (b : ℕ) → HasEdgeOfOne states numbers a x b →
      (n m : ℕ) × (slice_get numbers n ≡ Some a) × (slice_get numbers m ≡ Some b) × HasEdge states n x m
  edge_of_one a x b e = (e.source, e.target, e.source_number, e.target_number, e.edge)

  pub core_map : IsCoreMap (HasItem states) (HasEdge states) (HasLookahead states) (λ n a. slice_get numbers n ≡ Some a)
      (HasItem collapsed) (HasEdge collapsed) (HasLookahead collapsed)
  core_map =
      record {
        one = λ n a b e f. some_same a b (sym e ∙ f);
        zero_at = λ n a e. first_is_zero numbers fold.numbers_are.as_seen n a e;
        number = λ n p i h. state_number n h.state h.at;
        alike = λ n m a e f. (fold.numbers_are.by_core n m a a e f).0 refl;
        merged = λ n m a b e f same. (fold.numbers_are.by_core n m a b e f).1 same;
        source = λ a p i h. fold.all a (slice_get_within collapsed a h.state h.at);
        items = λ n a e. fold.items n a e;
        looks = λ a p i x. (
          λ l. let k = (fold.lookaheads a p i x).0 l in (k.place, k.number, k.lookahead),
          λ k. (fold.lookaheads a p i x).1 (record { place = k.0; number = k.1; lookahead = k.2 }),
        );
        edges = λ a x b. (
          λ e. edge_of_one a x b ((fold.edges a x b).0 e),
          λ k. (fold.edges a x b).1
              (record { source = k.0; target = k.1; source_number = k.2; target_number = k.3; edge = k.4 }),
        );
      }

  module _ (grammar : List Production) (s : Text) (can : AreCanonicalStates grammar s states) where
    pub collapsed_cover : IsCover (Contains grammar) s (HasItem collapsed) (HasEdge collapsed)
    collapsed_cover =
        new_cover (Contains grammar) s (HasItem states) (HasEdge states) (HasLookahead states) can.automaton
        (λ n a. slice_get numbers n ≡ Some a) (HasItem collapsed) (HasEdge collapsed) (HasLookahead collapsed) core_map

    pub collapsed_carried : (n : ℕ) (p : Production) (i : ℕ) (x : Next) →
        HasLookahead collapsed n p i x ↔ Carries (Contains grammar) s (HasItem collapsed) (HasEdge collapsed) n p i x
    collapsed_carried =
        new_carried (Contains grammar) s (HasItem states) (HasEdge states) (HasLookahead states) can.automaton
        (λ n a. slice_get numbers n ≡ Some a) (HasItem collapsed) (HasEdge collapsed) (HasLookahead collapsed) core_map

    -- no reduction holds the token of errors, since no state that is put together does
    pub no_error_held : (a : ℕ) (state : State) (p : Production) (l : LookaheadSet) → slice_get collapsed a ≡ Some state →
        Contains state.items (ended p l) → l.error ≡ true → ⊥
    no_error_held a state p l e c f =
        let k = (fold.errors a p (length p.right)).0
        (record { state = state; lookahead = l; at = e; held = c; error = f }) in
        no_error_both (can.without_error k.place k.ahead.state (ended p k.ahead.lookahead) k.ahead.at k.ahead.held) k.ahead.error

    -- the start's reductions are before the end alone, as they are in each state that is put together
    end_alone : NoneBarren (Contains grammar) s → IsStartAlone grammar s → (a : ℕ) (p : Production) (x : Next) →
        HasLookahead collapsed a p (length p.right) x → p.left ≡ s → x ≡ None
    end_alone nb alone a p x h e =
        let k = (fold.lookaheads a p (length p.right) x).0 h in
        finished_at_end (Contains grammar) s (HasItem states) (HasEdge states) (HasLookahead states) can.automaton nb alone
        k.place p x k.lookahead e

    pub collapsed_checked : NoneBarren (Contains grammar) s → IsStartAlone grammar s → HaveNoConflict collapsed →
        AreCheckedStates grammar s collapsed
    collapsed_checked nb alone apart =
        record {
          cover = collapsed_cover;
          finished = λ n state r e c.
              record {
                state = state;
                lookahead = r.lookahead;
                at = e;
                held = reduction_held collapsed fold.reductions n state r.production r.lookahead e c;
              };
          carried = λ n p x c.
              (reduces_held collapsed fold.reductions n p x).1 ((collapsed_carried n p (length p.right) x).1 c);
          no_conflict = apart;
          at_end = λ n state r x e c f d.
              end_alone nb alone n r.production x
              (record {
                state = state;
                lookahead = r.lookahead;
                at = e;
                held = reduction_held collapsed fold.reductions n state r.production r.lookahead e c;
                follows = d;
              }) f;
          no_error = λ n state r e c f.
              without r.lookahead.error
              (no_error_held n state r.production r.lookahead e
              (reduction_held collapsed fold.reductions n state r.production r.lookahead e c));
          none_barren = nb;
        }
