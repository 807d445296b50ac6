-- Canonical states put together by their cores are, up to their numbers, the states without lookaheads: for that law.
use Rattle.std.proofs.Common.{◌≡◌, ◌↔◌, ℕ, zero, suc, ◌<◌, false, List, [], ◌∷◌, length, Option, Some, refl, ap}
use Rattle.std.proofs.Common.{◌∙◌, Contains, arith, subst}
use Rattle.std.proofs.lemmas.Option.{slice_get_within}
use Rattle.std.specs.Prelude.{slice_get}
use Rattle.lalrpop_grammar_symbols.specs.Symbols.{Text}
use Rattle.lalrpop_lr1_theory.specs.Productions.{Next, Production, Symbol}
use Rattle.lalrpop_lr1_theory.specs.Automata.{IsBegun, IsBegunBefore, IsShifted, IsShiftedBefore, Marked, Walk, brings, goes}
use Rattle.lalrpop_lr1_theory.specs.Automata.{has_next, passes, stands, starts, there}
use Rattle.lalrpop_lr1_theory.specs.States.{HasEdge, HasItem, HasLookahead, State}
use Rattle.lalrpop_lr1_theory.specs.CanonicalStates.{AreCanonicalStates, AreLr0States}
use Rattle.lalrpop_lr1_theory.proofs.StepLemmas.{some_same}
use Rattle.lalrpop_lr1_theory.specs.CollapsedStates.{IsCollapse}
use Rattle.lalrpop_lr1_theory.specs.SameStates.{AreSameUpToNumbers}
use Rattle.lalrpop_lr1_theory.proofs.CollapseLemmas.{collapsed_cover, core_map, get_some}
use Rattle.lalrpop_lr1_theory.proofs.CollapsedCoreLemmas.{new_walk}
use Rattle.lalrpop_lr1_theory.proofs.CollapsedCoverLemmas.{AreAlike, edge_alike, reached_item, target_item, walk_alike}
use Rattle.lalrpop_lr1_theory.proofs.FinishedLemmas.{reduction_by_held}

-- numbers that are as they should be, one for each of the first k
choose : (P : ℕ → ℕ → Type 0) (k : ℕ) → ((n : ℕ) → n < k → (m : ℕ) × P n m) →
    (numbers : List ℕ) × (length numbers ≡ k) × ((n m : ℕ) → slice_get numbers n ≡ Some m → P n m)
choose P zero f = ([], refl, λ n m e. let z : ⊥ = cc in absurd z)
choose P (suc k) f =
    let h = f 0 (omega arith) in
    let r = choose (λ n. P (suc n)) k (λ n l. f (suc n) (omega (arith, l))) in
    (h.0 ∷ r.0, omega (arith, r.1), λ n m e. at h.0 h.1 r.0 r.2 n m e)
  where
    at : (a : ℕ) → P 0 a → (numbers : List ℕ) → ((n m : ℕ) → slice_get numbers n ≡ Some m → P (suc n) m) →
        (n m : ℕ) → slice_get (a ∷ numbers) n ≡ Some m → P n m
    at a h numbers later zero m e = subst (P 0) (some_same a m e) h
    at a h numbers later (suc n) m e = later n m e

-- nothing is marked but items, where firsts don't count and nothing follows the kernel
unmarked : (G : Production → Type 0) (K : Production → ℕ → Type 0) (U : Production → ℕ → Next → Type 0) →
    ((p : Production) (i : ℕ) (x : Next) → U p i x → ⊥) → (p : Production) (i : ℕ) (m : Option Next) →
    Marked false G K U p i m → (x : Next) → m ≡ Some x → ⊥
unmarked G K U empty p i m (there q j k) x e = cc
unmarked G K U empty p i m (has_next q j y k) x e = empty q j y k
unmarked G K U empty p i m (brings b q d u h) x e = cc
unmarked G K U empty p i m (starts b q t f d u h o) x e = cc
unmarked G K U empty p i m (passes {p = q} {i = j} b q' y d u h o) x e = unmarked G K U empty q j (Some y) d y refl

module _ (grammar : List Production) (s : Text) (others : List State) (lr0 : AreLr0States grammar s others) where
  -- states without lookaheads have none
  no_look : (g : List Symbol) (n : ℕ) → Walk (HasEdge others) g n → (p : Production) (i : ℕ) (x : Next) →
      HasLookahead others n p i x → ⊥
  no_look g n stands p i x k =
      unmarked (Contains grammar) (IsBegun (Contains grammar) s) (IsBegunBefore (λ y. ⊥) (Contains grammar) s) (λ q j y u. u.1)
      p i (Some x) ((lr0.automaton.look_start p i x).0 k) x refl
  no_look g n (goes {g = h} {n = m} X m' w e) p i x k =
      unmarked (Contains grammar) (IsShifted (HasItem others) m X) (IsShiftedBefore (HasLookahead others) m X)
      (λ q j y u. no_look h m w q u.dot y u.item) p i (Some x) ((lr0.automaton.look_next m X n e p i x).0 k) x refl

  never_looks : (n : ℕ) (state : State) → slice_get others n ≡ Some state → (p : Production) (i : ℕ) (x : Next) →
      HasLookahead others n p i x → ⊥
  never_looks n state e p i x k = let w = lr0.reached n state e in no_look w.0 n w.1 p i x k

  -- so two with the same items are one
  one_other : (n m : ℕ) (a b : State) → slice_get others n ≡ Some a → slice_get others m ≡ Some b →
      AreAlike (HasItem others) (HasItem others) n m → n ≡ m
  one_other n m a b e f same =
      lr0.distinct n m a b e f
      (record {
        items = same;
        lookaheads = λ p i x. (λ k. absurd (never_looks n a e p i x k), λ k. absurd (never_looks m b f p i x k));
      })

  module _ (states collapsed : List State) (numbers : List ℕ) (fold : IsCollapse states numbers collapsed)
      (can : AreCanonicalStates grammar s states) where
    abbrev Alike : ℕ → ℕ → Type 0
    Alike = AreAlike (HasItem collapsed) (HasItem others)

    back : (n m : ℕ) → Alike n m → AreAlike (HasItem others) (HasItem collapsed) m n
    back n m same p i = ((same p i).1, (same p i).0)

    -- two other states that are like one are one, and so are two that one is like
    other_once : (n m k : ℕ) (p : Production) (i : ℕ) → HasItem collapsed n p i → Alike n m → Alike n k → m ≡ k
    other_once n m k p i h same like =
        let a = (same p i).0 h in
        let b = (like p i).0 h in
        one_other m k a.state b.state a.at b.at
        (λ q j. (λ l. (like q j).0 ((same q j).1 l), λ l. (same q j).0 ((like q j).1 l)))

    collapsed_once : (n k m : ℕ) → n < length collapsed → k < length collapsed → Alike n m → Alike k m → n ≡ k
    collapsed_once n k m u v same like =
        let a = fold.all n u in
        let b = fold.all k v in
        (fold.numbers_are.by_core a.0 b.0 n k a.1 b.1).1
        (λ p i. (
          λ h. (fold.items b.0 k b.1 p i).0 ((like p i).1 ((same p i).0 ((fold.items a.0 n a.1 p i).1 h))),
          λ h. (fold.items a.0 n a.1 p i).0 ((same p i).1 ((like p i).0 ((fold.items b.0 k b.1 p i).1 h))),
        ))

    module _ (start : Production) (known : Contains grammar start) (is_start : start.left ≡ s) where
      collapsed_reached : (n : ℕ) → n < length collapsed → (g : List Symbol) × Walk (HasEdge collapsed) g n
      collapsed_reached n u =
          let a = fold.all n u in
          let t = slice_get_within numbers a.0 n a.1 in
          let c = fold.numbers_are.count in
          let st = get_some states a.0 (omega (arith, t, c)) in
          let w = can.reached a.0 st.0 st.1 in (
            w.0,
            new_walk (Contains grammar) s (HasItem states) (HasEdge states) (HasLookahead states) can.automaton
                (λ n a. slice_get numbers n ≡ Some a) (HasItem collapsed) (HasEdge collapsed) (HasLookahead collapsed)
                (core_map states collapsed numbers fold) w.0 a.0 w.1 n a.1,
          )

      collapsed_item : (n : ℕ) → n < length collapsed → (p : Production) × (i : ℕ) × HasItem collapsed n p i
      collapsed_item n u =
          let w = collapsed_reached n u in
          reached_item (Contains grammar) s (HasItem collapsed) (HasEdge collapsed)
          (collapsed_cover states collapsed numbers fold grammar s can) start known is_start w.0 n w.1

      -- a state and one of the others that is like it
      record ArePaired (n m : ℕ) : Type 0 where
        within : n < length collapsed
        within_others : m < length others
        like : Alike n m

      like_other : (n : ℕ) → n < length collapsed → (m : ℕ) × ArePaired n m
      like_other n u =
          let w = collapsed_reached n u in
          let h = collapsed_item n u in
          let r = walk_alike (Contains grammar) s (HasItem collapsed) (HasEdge collapsed)
          (collapsed_cover states collapsed numbers fold grammar s can) (HasItem others) (HasEdge others)
          lr0.automaton.cover w.0 n w.1 in
          let l = (r.2 h.0 h.1).0 h.2 in
          (r.0, record { within = u; within_others = slice_get_within others r.0 l.state l.at; like = r.2 })

      edges_alike : (n m k l : ℕ) (x : Symbol) → Alike n m → Alike k l → k < length collapsed →
          HasEdge collapsed n x k ↔ HasEdge others m x l
      edges_alike n m k l x same like u = (
        λ e. let r = edge_alike (Contains grammar) s (HasItem collapsed) (HasEdge collapsed)
            (collapsed_cover states collapsed numbers fold grammar s can) (HasItem others) (HasEdge others)
            lr0.automaton.cover x n k m e same in
            let h = collapsed_item k u in
            subst (HasEdge others m x) (other_once k r.0 l h.0 h.1 h.2 r.2 like) r.1,
        λ e. let r = edge_alike (Contains grammar) s (HasItem others) (HasEdge others) lr0.automaton.cover
            (HasItem collapsed) (HasEdge collapsed) (collapsed_cover states collapsed numbers fold grammar s can) x m l n e
            (back n m same) in
            let t = target_item (Contains grammar) s (HasItem collapsed) (HasEdge collapsed)
            (collapsed_cover states collapsed numbers fold grammar s can) n x r.0 r.1 in
            subst (HasEdge collapsed n x)
            (collapsed_once r.0 k l (slice_get_within collapsed r.0 t.2.state t.2.at) u (λ p i. ((r.2 p i).1, (r.2 p i).0)) like) r.1,
      )

      -- each other state is like one
      other_like : (m : ℕ) → m < length others → (n : ℕ) × (n < length collapsed) × Alike n m
      other_like m u =
          let st = get_some others m u in
          let w = lr0.reached m st.0 st.1 in
          let h = reached_item (Contains grammar) s (HasItem others) (HasEdge others) lr0.automaton.cover start known is_start
          w.0 m w.1 in
          let r = walk_alike (Contains grammar) s (HasItem others) (HasEdge others) lr0.automaton.cover
          (HasItem collapsed) (HasEdge collapsed) (collapsed_cover states collapsed numbers fold grammar s can) w.0 m w.1 in
          let l = (r.2 h.0 h.1).0 h.2 in
          (r.0, slice_get_within collapsed r.0 l.state l.at, λ p i. ((r.2 p i).1, (r.2 p i).0))

      pub collapsed_same : AreSameUpToNumbers collapsed others
      collapsed_same =
          let c = choose ArePaired (length collapsed) like_other in (
            c.0,
            record {
              count = c.1;
              each = λ n m e. (c.2 n m e).within_others;
              all = λ m u.
                  let r = other_like m u in
                  let e = get_some c.0 r.0 (omega (arith, r.1, c.1)) in
                  let like = c.2 r.0 e.0 e.1 in
                  let h = collapsed_item r.0 r.1 in
                  (r.0, e.1 ∙ ap Some (other_once r.0 e.0 m h.0 h.1 h.2 like.like r.2));
              apart = λ n k m e f.
                  let a = c.2 n m e in let b = c.2 k m f in collapsed_once n k m a.within b.within a.like b.like;
              items = λ n m e. (c.2 n m e).like;
              edges = λ n m k l x e f.
                  let a = c.2 n m e in let b = c.2 k l f in edges_alike n m k l x a.like b.like b.within;
              reductions = λ n m e p.
                  let a = reduction_by_held collapsed fold.reductions n p in
                  let b = reduction_by_held others lr0.reductions m p in
                  let same = (c.2 n m e).like p (length p.right) in
                  (λ h. b.1 (same.0 (a.0 h)), λ h. a.1 (same.1 (b.0 h)));
            },
          )
