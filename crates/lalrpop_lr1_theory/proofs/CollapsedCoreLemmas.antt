-- An automaton whose states are put together by a map of numbers: it covers the items, and carries what the lookaheads hold.
use Rattle.std.proofs.Common.{◌≡◌, ◌↔◌, ℕ, suc, true, List, [], Option, None, Some, refl, sym, subst}
use Rattle.lalrpop_grammar_symbols.specs.Symbols.{Text}
use Rattle.lalrpop_lr1_theory.specs.Productions.{Next, Production, Symbol}
use Rattle.lalrpop_lr1_theory.specs.Automata.{Carries, Closure, EndAlone, IsBegun, IsBegunBefore, IsCanonicalAutomaton, IsCover}
use Rattle.lalrpop_lr1_theory.specs.Automata.{IsShifted, IsShiftedBefore, Marked, Walk, begins_with_end, brings, closed, goes, has_next}
use Rattle.lalrpop_lr1_theory.specs.Automata.{in_kernel, passes, passes_next, shifts_next, stands, starts, starts_next, there}
use Rattle.lalrpop_lr1_theory.proofs.CanonicalLemmas.{carries_look, look_passes, look_starts}
use Rattle.lalrpop_lr1_theory.proofs.MarkLemmas.{item_of}
use Rattle.lalrpop_lr1_theory.proofs.WalkLemmas.{item_closes}
use Rattle.lalrpop_lr1_theory.proofs.CollapsedCoverLemmas.{AreAlike, closure_more, next_alike, shifted_more, target_item}

-- A map of states to numbers: those with one number have the same items, and those with the same items one number. The new
-- states have, at each number, the items, lookaheads and edges of the states with it.
pub record IsCoreMap (Item : ℕ → Production → ℕ → Type 0) (Edge : ℕ → Symbol → ℕ → Type 0)
    (Look : ℕ → Production → ℕ → Next → Type 0) (At : ℕ → ℕ → Type 0) (New : ℕ → Production → ℕ → Type 0)
    (NewEdge : ℕ → Symbol → ℕ → Type 0) (NewLook : ℕ → Production → ℕ → Next → Type 0) : Type 0 where
  pub one : (n a b : ℕ) → At n a → At n b → a ≡ b
  pub zero_at : (n a : ℕ) → At n a → At 0 0
  pub number : (n : ℕ) (p : Production) (i : ℕ) → Item n p i → (a : ℕ) × At n a
  pub alike : (n m a : ℕ) → At n a → At m a → AreAlike Item Item n m
  pub merged : (n m a b : ℕ) → At n a → At m b → AreAlike Item Item n m → a ≡ b
  pub source : (a : ℕ) (p : Production) (i : ℕ) → New a p i → (n : ℕ) × At n a
  pub items : (n a : ℕ) → At n a → AreAlike New Item a n
  pub looks : (a : ℕ) (p : Production) (i : ℕ) (x : Next) → NewLook a p i x ↔ ((n : ℕ) × At n a × Look n p i x)
  pub edges : (a : ℕ) (x : Symbol) (b : ℕ) → NewEdge a x b ↔ ((n m : ℕ) × At n a × At m b × Edge n x m)

module _ (G : Production → Type 0) (s : Text) (Item : ℕ → Production → ℕ → Type 0) (Edge : ℕ → Symbol → ℕ → Type 0)
    (Look : ℕ → Production → ℕ → Next → Type 0) (can : IsCanonicalAutomaton G s Item Edge Look) (At : ℕ → ℕ → Type 0)
    (New : ℕ → Production → ℕ → Type 0) (NewEdge : ℕ → Symbol → ℕ → Type 0)
    (NewLook : ℕ → Production → ℕ → Next → Type 0) (map : IsCoreMap Item Edge Look At New NewEdge NewLook) where
  target_number : (n : ℕ) (x : Symbol) (m : ℕ) → Edge n x m → (b : ℕ) × At m b
  target_number n x m e = let t = target_item G s Item Edge can.cover n x m e in map.number m t.0 t.1 t.2

  source_number : (n : ℕ) (x : Symbol) (m : ℕ) → Edge n x m → (a : ℕ) × At n a
  source_number n x m e = let o = can.cover.only n x m e in map.number n o.production o.dot o.item

  -- the new states cover the items
  pub new_cover : IsCover G s New NewEdge
  new_cover =
      record {
        start = λ p i. (
          λ h. let n = map.source 0 p i h in
              (can.cover.start p i).0 ((map.items 0 0 (map.zero_at n.0 0 n.1) p i).0 h),
          λ c. let h = (can.cover.start p i).1 c in let a = map.number 0 p i h in
              (map.items 0 0 (map.zero_at 0 a.0 a.1) p i).1 h,
        );
        onward = λ a p i x b h d.
            let n = map.source a p i h in
            let o = can.cover.onward n.0 p i x b ((map.items n.0 a n.1 p i).0 h) d in
            let t = target_number n.0 x o.0 o.1 in
            (t.0, (map.edges a x t.0).1 (n.0, o.0, n.1, t.1, o.1));
        one = λ a x b c e f.
            let k = (map.edges a x b).0 e in
            let l = (map.edges a x c).0 f in
            map.merged k.1 l.1 b c k.3 l.3
            (next_alike G s Item Edge can.cover Item Edge can.cover x k.0 k.1 l.0 l.1 k.4 l.4 (map.alike k.0 l.0 a k.2 l.2));
        next = λ a x b e p i.
            let k = (map.edges a x b).0 e in (
              λ h. closure_more G (IsShifted Item k.0 x) (IsShifted New a x)
                  (shifted_more Item New k.0 a x (λ q j. (map.items k.0 a k.2 q j).1))
                  ((can.cover.next k.0 x k.1 k.4 p i).0 ((map.items k.1 b k.3 p i).0 h)),
              λ c. (map.items k.1 b k.3 p i).1
                  ((can.cover.next k.0 x k.1 k.4 p i).1
                  (closure_more G (IsShifted New a x) (IsShifted Item k.0 x)
                  (shifted_more New Item a k.0 x (λ q j. (map.items k.0 a k.2 q j).0)) c)),
            );
        only = λ a x b e.
            let k = (map.edges a x b).0 e in
            let o = can.cover.only k.0 x k.1 k.4 in
            record {
              production = o.production;
              dot = o.dot;
              rest = o.rest;
              item = (map.items k.0 a k.2 o.production o.dot).1 o.item;
              before = o.before;
            };
      }

  -- symbols that lead to a state lead to the new one with its number
  pub new_walk : (g : List Symbol) (n : ℕ) → Walk Edge g n → (a : ℕ) → At n a → Walk NewEdge g a
  new_walk g n stands a t = subst (λ v. Walk NewEdge [] v) (map.one 0 0 a (map.zero_at 0 a t) t) stands
  new_walk g n (goes {g = h} {n = m} x m' w e) a t =
      let o = source_number m x n e in goes x a (new_walk h m w o.0 o.1) ((map.edges o.0 x a).1 (m, n, o.1, t, e))

  abbrev NewCarries : ℕ → Production → ℕ → Next → Type 0
  NewCarries = Carries G s New NewEdge

  -- what is marked in a closure is carried in a new state, where its kernel is
  marked_carries : (a : ℕ) (K : Production → ℕ → Type 0) (U : Production → ℕ → Next → Type 0) →
      ((p : Production) (i : ℕ) (x : Next) → U p i x → K p i) →
      ((p : Production) (i : ℕ) → Closure G K p i → New a p i) →
      ((p : Production) (i : ℕ) (x : Next) → U p i x → NewCarries a p i x) → (p : Production) (i : ℕ) (m : Option Next) →
      Marked true G K U p i m → (x : Next) → m ≡ Some x → NewCarries a p i x
  marked_carries a K U both held all p i m (there q j k) x e = let z : ⊥ = cc in absurd z
  marked_carries a K U both held all p i m (has_next q j y k) x e =
      let z : y ≡ x = cc in subst (λ v. NewCarries a p i v) z (all p i y k)
  marked_carries a K U both held all p i m (brings b q d u h) x e = let z : ⊥ = cc in absurd z
  marked_carries a K U both held all p i m (starts {p = q} {i = j} b q' t f d u h o) x e =
      let z : Some t ≡ x = cc in
      subst (λ v. NewCarries a q' 0 v) z
      (starts_next b q' t (in_kernel q j (held q j (item_of true G K U both None d))) u h o)
  marked_carries a K U both held all p i m (passes {p = q} {i = j} b q' y d u h o) x e =
      let z : y ≡ x = cc in
      subst (λ v. NewCarries a q' 0 v) z (passes_next b q' y (marked_carries a K U both held all q j (Some y) d y refl) u h o)

  -- what a state's items look ahead to is carried in the new state with its number
  look_carries : (g : List Symbol) (n : ℕ) → Walk Edge g n → (a : ℕ) → At n a → (p : Production) (i : ℕ) (x : Next) →
      Look n p i x → NewCarries a p i x
  look_carries g n stands a t p i x k =
      let z = map.zero_at 0 a t in
      subst (λ v. NewCarries v p i x) (map.one 0 0 a z t)
      (marked_carries 0 (IsBegun G s) (IsBegunBefore EndAlone G s) (λ q j y u. u.0)
      (λ q j c. (map.items 0 0 z q j).1 ((can.cover.start q j).1 c))
      (λ q j y u. subst (λ v. NewCarries 0 q v y) (sym u.0.2)
      (subst (NewCarries 0 q 0) (sym u.1) (begins_with_end q u.0.0 u.0.1)))
      p i (Some x) ((can.look_start p i x).0 k) x refl)
  look_carries g n (goes {g = h} {n = m} X m' w e) a t p i x k =
      let o = source_number m X n e in
      marked_carries a (IsShifted Item m X) (IsShiftedBefore Look m X)
      (λ q j y u. record { dot = u.dot; rest = u.rest; on = u.on; item = can.held m q u.dot y u.item; before = u.before })
      (λ q j c. (map.items n a t q j).1 ((can.cover.next m X n e q j).1 c))
      (λ q j y u. subst (λ v. NewCarries a q v y) (sym u.on)
      (shifts_next X u.rest a (look_carries h m w o.0 o.1 q u.dot y u.item) u.before ((map.edges o.0 X a).1 (m, n, o.1, t, e))))
      p i (Some x) ((can.look_next m X n e p i x).0 k) x refl

  -- an item of the closure of a new state's items stands in it
  closure_new : (a : ℕ) (p : Production) (i : ℕ) → Closure G (New a) p i → New a p i
  closure_new a p i (in_kernel q j k) = k
  closure_new a p i (closed {p = q} {i = j} b q' c d u) =
      let k = closure_new a q j c in
      let n = map.source a q j k in
      let h = (map.items n.0 a n.1 q j).0 k in
      let w = can.reached n.0 q j h in
      (map.items n.0 a n.1 q' 0).1 (item_closes G s Item Edge can.cover w.0 n.0 w.1 q j b q' h d u)

  -- what is carried in a new state is in the lookaheads
  carries_new : (a : ℕ) (p : Production) (i : ℕ) (x : Next) → NewCarries a p i x → NewLook a p i x
  carries_new a p i x (begins_with_end q g e) =
      let k = carries_look G s Item Edge Look can 0 q 0 None (begins_with_end q g e) in
      let n = map.number 0 q 0 (can.held 0 q 0 None k) in
      (map.looks 0 q 0 None).1 (0, map.zero_at 0 n.0 n.1, k)
  carries_new a p i x (shifts_next {n = b} {i = j} X r m c d e) =
      let k = (map.looks b p j x).0 (carries_new b p j x c) in
      let o = can.cover.onward k.0 p j X r (can.held k.0 p j x k.2) d in
      let t = target_number k.0 X o.0 o.1 in
      let same = new_cover.one b X t.0 a ((map.edges b X t.0).1 (k.0, o.0, k.1, t.1, o.1)) e in
      let l = (can.look_next k.0 X o.0 o.1 p (suc j) x).1
      (has_next p (suc j) x (record { dot = j; rest = r; on = refl; item = k.2; before = d })) in
      (map.looks a p (suc j) x).1 (o.0, subst (At o.0) same t.1, l)
  carries_new a p i x (starts_next {p = q} {i = j} b q' t c d u f) =
      let h = closure_new a q j c in
      let n = map.source a q j h in
      let k = (map.items n.0 a n.1 q j).0 h in
      let w = can.reached n.0 q j k in
      (map.looks a q' 0 (Some t)).1 (n.0, n.1, look_starts G s Item Edge Look can w.0 n.0 w.1 q j b q' t k d u f)
  carries_new a p i x (passes_next {p = q} {i = j} b q' y c d u f) =
      let k = (map.looks a q j y).0 (carries_new a q j y c) in
      let w = can.reached k.0 q j (can.held k.0 q j y k.2) in
      (map.looks a q' 0 y).1 (k.0, k.1, look_passes G s Item Edge Look can w.0 k.0 w.1 q j b q' y k.2 d u f)

  -- each item of the new states has exactly its carried lookaheads
  pub new_carried : (a : ℕ) (p : Production) (i : ℕ) (x : Next) → NewLook a p i x ↔ NewCarries a p i x
  new_carried a p i x = (
    λ l. let k = (map.looks a p i x).0 l in
        let w = can.reached k.0 p i (can.held k.0 p i x k.2) in
        look_carries w.0 k.0 w.1 a k.1 p i x k.2,
    λ c. carries_new a p i x c,
  )
