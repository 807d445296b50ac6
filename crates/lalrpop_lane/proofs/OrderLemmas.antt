-- States put in order are the states by the new numbers, those in front first: for what the builder of ordered states answers.
use Rattle.std.proofs.Common.{◌≡◌, ◌∙◌, ℕ, zero, suc, ◌+◌, ◌-◌, ◌<◌, ◌≤◌, Bool, true, false}
use Rattle.std.proofs.Common.{List, [], ◌∷◌, ◌++◌}
use Rattle.std.proofs.Common.{length, length-append, map, Some, refl, sym, ap, subst, inl, inr, ⊎_elim, arith}
use Rattle.std.specs.Prelude.{slice_get}
use Rattle.std.proofs.lemmas.Bool.{cases_lt}
use Rattle.std.proofs.lemmas.Option.{slice_get_within}
use Rattle.lalrpop_grammar_symbols.specs.Views.{terminal_view}
use Rattle.lalrpop_grammar_symbols.specs.declared.names.NonterminalString.{NonterminalString}
use Rattle.lalrpop_grammar_repr.specs.declared.terminal_set.TerminalSet.{TerminalSet}
use Rattle.lalrpop_lr1_theory.specs.States as states
use Rattle.lalrpop_lr1_theory.proofs.ListLemmas.{get_front}
use Rattle.lalrpop_lr1_theory.proofs.StepLemmas.{some_same}
use Rattle.lalrpop_lr1_core.specs.Views.{goto_view, lr_state_view, token_lookahead}
use Rattle.lalrpop_lr1_core.specs.declared.state.State.{State}
use Rattle.lalrpop_lr1_theory.proofs.CollapseLemmas.{get_some}
use Rattle.lalrpop_lr1_theory.proofs.OrderLemmas.{get_image, image_get}
use Rattle.lalrpop_lr1_build.specs.CollapseAnswers.{states_over}
use Rattle.lalrpop_lr1_build.specs.Renumbering.{HaveTargetsWithin, renumber}
use Rattle.lalrpop_lr1_build.proofs.RenumberedEdgeLemmas.{targets_at}
use Rattle.lalrpop_lr1_first.proofs.TableLemmas.{long_map}
use Rattle.lalrpop_lr1_build.proofs.ViewLemmas.{renumbered_seen}
use Rattle.lalrpop_lr1_theory.specs.GotoOrders.{AreInGotoOrder, IsInFront}
use Rattle.lalrpop_lr1_theory.specs.RenumberedStates.{AreRenumberedStates, IsRenumberedState}
use Rattle.lalrpop_lane.specs.GotoNumbers.{count_marked, fronts_of, goto_numbers, has_some, in_goto_order, with_mark}
use Rattle.lalrpop_lane.specs.GotoNumbers.{state_by_numbers, states_by_numbers}
use Rattle.lalrpop_lane.proofs.NumberLemmas.{counts, front_first, front_given, front_mark, fronts_length, numbers_length}
use Rattle.lalrpop_lane.proofs.NumberLemmas.{picked_length, placed, renumbered_get, renumbered_length, rest_given, rises}

get_past : {X : Type 0} (xs ys : List X) (k : ℕ) → slice_get (xs ++ ys) (length xs + k) ≡ slice_get ys k
get_past [] ys k = ap (slice_get ys) (let z : 0 + k ≡ k = omega arith in z)
get_past (x ∷ xs) ys k =
    ap (slice_get (x ∷ xs ++ ys)) (let z : suc (length xs) + k ≡ suc (length xs + k) = omega arith in z) ∙ get_past xs ys k

split_at : (a b : ℕ) → a ≤ b → (j : ℕ) × (b ≡ a + j)
split_at a b h = (b - a, omega (arith, h))

not_apart : (n k : ℕ) → (n < k → ⊥) → (k < n → ⊥) → n ≡ k
not_apart n k f g =
    ⊎_elim (λ (l : n < k). absurd (f l))
    (λ (l : k ≤ n).
    ⊎_elim (λ (m : k < n). absurd (g m)) (λ (m : n ≤ k). let z : n ≡ k = omega (arith, l, m) in z) (cases_lt k n))
    (cases_lt n k)

none_there : {X : Type 0} (xs : List X) → has_some xs ≡ false → xs ≡ []
none_there [] e = refl
none_there (x ∷ xs) e = let z : ⊥ = cc in absurd z

some_there : {X Y : Type 0} (f : X → Y) (xs : List X) → has_some xs ≡ true → map f xs ≡ [] → ⊥
some_there f [] e g = cc
some_there f (x ∷ xs) e g = let h = ap length g in absurd (omega (arith, h))

same_mark : (a b : Bool) → Some a ≡ Some b → a ≡ b
same_mark a b e = cc

-- states put in order are as many as before
pub ordered_length : {L : Type 0} (old : List (State L)) → length (in_goto_order old) ≡ length old
ordered_length old =
    let marks = fronts_of true old in
    let numbers = goto_numbers marks in
    let made = states_by_numbers numbers numbers old in
    let each = fronts_length true old in
    let long = renumbered_length numbers numbers old (numbers_length marks 0 (count_marked marks) ∙ each) in
    let picked = picked_length marks made (each ∙ sym long) in
    let both = length-append (with_mark true marks made) (with_mark false marks made) in
    let all = counts marks in
    omega (arith, both, picked.0, picked.1, all, each)

first_number : {L : Type 0} (old : List (State L)) (m : ℕ) → slice_get (goto_numbers (fronts_of true old)) 0 ≡ Some m → m ≡ 0
first_number [] m e = let z : ⊥ = cc in absurd z
first_number (state ∷ old) m e = sym (some_same 0 m e)

module _ (ts : TerminalSet) (old : List (State (List ℕ))) where
  abbrev marks : List Bool
  marks = fronts_of true old

  abbrev numbers : List ℕ
  numbers = goto_numbers marks

  abbrev renumbered : List (State (List ℕ))
  renumbered = states_by_numbers numbers numbers old

  abbrev view : State (List ℕ) → states.State
  view = lr_state_view (token_lookahead ts)

  many : length numbers ≡ length old
  many = numbers_length marks 0 (count_marked marks) ∙ fronts_length true old

  as_many : length marks ≡ length renumbered
  as_many = fronts_length true old ∙ sym (renumbered_length numbers numbers old many)

  old_at : (n m : ℕ) → slice_get numbers n ≡ Some m → (state : State (List ℕ)) × (slice_get old n ≡ Some state)
  old_at n m e = let h = slice_get_within numbers n m e in let c = many in get_some old n (omega (arith, h, c))

  -- at its new number stands each state
  stands : (n m : ℕ) (state : State (List ℕ)) → slice_get numbers n ≡ Some m → slice_get old n ≡ Some state →
      slice_get (in_goto_order old) m ≡ Some (state_by_numbers numbers m state)
  stands n m state e f =
      let here = renumbered_get numbers numbers old n m state e f in
      let first = with_mark true marks renumbered in
      let others = with_mark false marks renumbered in
      let long = (picked_length marks renumbered as_many).0 in
      ⊎_elim
      (λ p.
      let number = p.number in
      ap (slice_get (first ++ others)) (let z : m ≡ p.behind = omega (arith, number) in z)
      ∙ get_front first others p.behind (state_by_numbers numbers m state) (p.found ∙ here))
      (λ p.
      let number = p.number in
      ap (slice_get (first ++ others)) (let z : m ≡ length first + p.behind = omega (arith, number, long) in z)
      ∙ get_past first others p.behind ∙ p.found ∙ here)
      (placed marks renumbered 0 (count_marked marks) n m as_many e)

  stands_seen : (n m : ℕ) (state : State (List ℕ)) → slice_get numbers n ≡ Some m → slice_get old n ≡ Some state →
      slice_get (states_over ts (in_goto_order old)) m ≡ Some (view (state_by_numbers numbers m state))
  stands_seen n m state e f =
      image_get view (in_goto_order old) m (state_by_numbers numbers m state) (stands n m state e f)

  given : (m : ℕ) → m < length (states_over ts (in_goto_order old)) → (n : ℕ) × (slice_get numbers n ≡ Some m)
  given m h =
      let first = with_mark true marks renumbered in
      let others = with_mark false marks renumbered in
      let long = picked_length marks renumbered as_many in
      let all = long_map view (first ++ others) in
      let both = length-append first others in
      ⊎_elim
      (λ (l : m < count_marked marks).
      let n = front_given marks 0 (count_marked marks) m l in
      (n.0, n.1 ∙ ap Some (let z : 0 + m ≡ m = omega arith in z)))
      (λ (l : count_marked marks ≤ m).
      let j = split_at (count_marked marks) m l in
      let k = rest_given marks 0 (count_marked marks) j.0 (omega (arith, h, all, both, long.0, long.1, j.1)) in
      (k.0, k.1 ∙ ap Some (sym j.1)))
      (cases_lt m (count_marked marks))

  apart : (n k m : ℕ) → slice_get numbers n ≡ Some m → slice_get numbers k ≡ Some m → n ≡ k
  apart n k m e f =
      ⊎_elim
      (λ p. ⊎_elim
      (λ q. not_apart n k
      (λ l. let w = rises marks 0 (count_marked marks) n k m m true e f p.mark q.mark l in omega (arith, w))
      (λ l. let w = rises marks 0 (count_marked marks) k n m m true f e q.mark p.mark l in omega (arith, w)))
      (λ q. let a = p.number in let b = p.within in let d = q.number in absurd (omega (arith, a, b, d)))
      (placed marks renumbered 0 (count_marked marks) k m as_many f))
      (λ p. ⊎_elim
      (λ q. let a = q.number in let b = q.within in let d = p.number in absurd (omega (arith, a, b, d)))
      (λ q. not_apart n k
      (λ l. let w = rises marks 0 (count_marked marks) n k m m false e f p.mark q.mark l in omega (arith, w))
      (λ l. let w = rises marks 0 (count_marked marks) k n m m false f e q.mark p.mark l in omega (arith, w)))
      (placed marks renumbered 0 (count_marked marks) k m as_many f))
      (placed marks renumbered 0 (count_marked marks) n m as_many e)

  module _ (within : HaveTargetsWithin (length old) old) where
    state_renumbered : (n m : ℕ) (state : State (List ℕ)) → slice_get old n ≡ Some state →
        IsRenumberedState numbers (view state) (view (state_by_numbers numbers m state))
    state_renumbered n m state e =
        let targets = targets_at (length numbers) old n state (subst (λ k. HaveTargetsWithin k old) (sym many) within) e in
        record {
          items = refl;
          shifts = renumbered_seen terminal_view numbers state.shifts (map (renumber numbers) state.shifts) refl targets.0;
          gotos = renumbered_seen (λ (name : NonterminalString). name.0) numbers state.gotos (map (renumber numbers) state.gotos) refl
              targets.1;
          reductions = refl;
        }

    pub ordered_renumbered : AreRenumberedStates (states_over ts old) (states_over ts (in_goto_order old)) numbers
    ordered_renumbered =
        record {
          count = many ∙ sym (long_map view old);
          first = λ m e. first_number old m e;
          each = λ n m e.
              let o = old_at n m e in
              slice_get_within (states_over ts (in_goto_order old)) m (view (state_by_numbers numbers m o.0))
              (stands_seen n m o.0 e o.1);
          all = λ m h. given m h;
          apart = λ n k m e f. apart n k m e f;
          same = λ n m a b e f g.
              let o = get_image view old n a f in
              let there = some_same (view (state_by_numbers numbers m o.0)) b (sym (stands_seen n m o.0 e o.1) ∙ g) in
              subst (λ x. IsRenumberedState numbers x b) o.2
              (subst (IsRenumberedState numbers (view o.0)) there (state_renumbered n m o.0 o.1));
          index = λ m new e.
              let n = given m (slice_get_within (states_over ts (in_goto_order old)) m new e) in
              let o = old_at n.0 m n.1 in
              sym (ap (λ (x : states.State). x.index)
              (some_same (view (state_by_numbers numbers m o.0)) new (sym (stands_seen n.0 m o.0 n.1 o.1) ∙ e)));
        }

  -- the states that are marked are in front, and no others
  is_front : (n m : ℕ) → slice_get numbers n ≡ Some m → slice_get marks n ≡ Some true → IsInFront (states_over ts old) n
  is_front zero m e f = inl refl
  is_front (suc n) m e f =
      let o = old_at (suc n) m e in
      let some = same_mark (has_some o.0.gotos) true (sym (front_mark true old n o.0 o.1) ∙ f) in
      inr (view o.0, image_get view old (suc n) o.0 o.1, some_there goto_view o.0.gotos some)

  is_rest : (n m : ℕ) → slice_get numbers n ≡ Some m → slice_get marks n ≡ Some false → IsInFront (states_over ts old) n → ⊥
  is_rest zero m e f h =
      let o = old_at zero m e in
      let wrong = same_mark true false (sym (front_first old o.0 o.1) ∙ f) in no_mark wrong
    where
      no_mark : true ≡ false → ⊥
      no_mark x = cc
  is_rest (suc n) m e f (inl z) = absurd (omega (arith, z))
  is_rest (suc n) m e f (inr h) =
      let o = get_image view old (suc n) h.0 h.1 in
      let none = none_there o.0.gotos (same_mark (has_some o.0.gotos) false (sym (front_mark true old n o.0 o.1) ∙ f)) in
      h.2 (sym (ap (λ (x : states.State). x.gotos) o.2) ∙ ap (map goto_view) none)

  pub ordered_fronts : AreInGotoOrder (states_over ts old) numbers
  ordered_fronts =
      record {
        front_first = λ n k a b e f g h.
            ⊎_elim
            (λ p. ⊎_elim
            (λ q. absurd (h (is_front k b f q.mark)))
            (λ q. let x = p.number in let y = p.within in let z = q.number in omega (arith, x, y, z))
            (placed marks renumbered 0 (count_marked marks) k b as_many f))
            (λ p. absurd (is_rest n a e p.mark g))
            (placed marks renumbered 0 (count_marked marks) n a as_many e);
        front_rises = λ n k a b e f g h l.
            ⊎_elim
            (λ p. ⊎_elim
            (λ q. rises marks 0 (count_marked marks) n k a b true e f p.mark q.mark l)
            (λ q. absurd (is_rest k b f q.mark h))
            (placed marks renumbered 0 (count_marked marks) k b as_many f))
            (λ p. absurd (is_rest n a e p.mark g))
            (placed marks renumbered 0 (count_marked marks) n a as_many e);
        rest_rises = λ n k a b e f g h l.
            ⊎_elim
            (λ p. absurd (g (is_front n a e p.mark)))
            (λ p. ⊎_elim
            (λ q. absurd (h (is_front k b f q.mark)))
            (λ q. rises marks 0 (count_marked marks) n k a b false e f p.mark q.mark l)
            (placed marks renumbered 0 (count_marked marks) k b as_many f))
            (placed marks renumbered 0 (count_marked marks) n a as_many e);
      }
