-- Over states that are reached and told apart by their items, what is carried conflicts exactly where the grammar isn't LALR(1).
use Rattle.std.proofs.Common.{◌≡◌, ◌↔◌, ℕ, suc, List, [], ◌∷◌, ◌++◌, length, Option, None, Some, Contains, refl, sym, subst}
use Rattle.lalrpop_grammar_symbols.specs.Symbols.{Text}
use Rattle.lalrpop_lr1_theory.specs.Productions.{Next, Production, Symbol, terminal}
use Rattle.lalrpop_lr1_theory.specs.Automata.{Carries, Closure, IsBegun, IsShifted, Walk, begins_with_end, closed, goes, in_kernel}
use Rattle.lalrpop_lr1_theory.specs.Automata.{passes_next, shifts_next, stands, starts_next}
use Rattle.lalrpop_lr1_theory.specs.States.{HasEdge, HasItem, State}
use Rattle.lalrpop_lr1_theory.specs.CanonicalStates.{AreLr0States}
use Rattle.lalrpop_lr1_theory.proofs.Lr0CoreLemmas.{looks_nowhere}
use Rattle.lalrpop_lr1_theory.proofs.WalkLemmas.{item_closes, walk_one}
use Rattle.lalrpop_lane_theory.specs.CarriedConflicts.{CarriesToFinished, HasNoCarriedConflict, HaveNoCarriedConflict, IsReachedCover}
use Rattle.lalrpop_lane_theory.specs.Lalr1Grammars.{HaveOneCoreOn, IsCanonicalItem, IsLalr1, begins_there, brings_there, ends_after}
use Rattle.lalrpop_lane_theory.specs.Lalr1Grammars.{moves_over, passes_after, starts_after}
use Rattle.lalrpop_lane_theory.proofs.LaneLemmas.{closure_item, lr0_reached}

module _ (G : Production → Type 0) (s : Text) where
  -- the closure of items that are there is there
  closure_on : (g : List Symbol) (K : Production → ℕ → Type 0) →
      ((p : Production) (i : ℕ) → K p i → IsCanonicalItem G s g p i None) → (p : Production) (i : ℕ) → Closure G K p i →
      IsCanonicalItem G s g p i None
  closure_on g K all p i (in_kernel q j k) = all q j k
  closure_on g K all p i (closed {p = q} {i = j} b r c d u) = brings_there b r (closure_on g K all q j c) d u

module _ (G : Production → Type 0) (s : Text) (Item : ℕ → Production → ℕ → Type 0) (Edge : ℕ → Symbol → ℕ → Type 0)
    (states : IsReachedCover G s Item Edge) where
  -- the symbols lead to a state that has the item, and what is marked is carried to it there
  record IsMarkedThere (g : List Symbol) (p : Production) (i : ℕ) (m : Option Next) : Type 0 where
    state : ℕ
    walk : Walk Edge g state
    item : Item state p i
    carried : (x : Next) → m ≡ Some x → Carries G s Item Edge state p i x

  marked_there : (g : List Symbol) (p : Production) (i : ℕ) (m : Option Next) → IsCanonicalItem G s g p i m →
      IsMarkedThere g p i m
  marked_there g p i m (begins_there q h e) =
      record {
        state = 0;
        walk = stands;
        item = (states.cover.start q 0).1 (in_kernel q 0 (h, e, refl));
        carried = λ x f. let z : ⊥ = cc in absurd z;
      }
  marked_there g p i m (ends_after q h e) =
      record {
        state = 0;
        walk = stands;
        item = (states.cover.start q 0).1 (in_kernel q 0 (h, e, refl));
        carried = λ x f. let z : None ≡ x = cc in subst (Carries G s Item Edge 0 q 0) z (begins_with_end q h e);
      }
  marked_there g p i m (moves_over {g = h} {i = j} X b c d) =
      let r = marked_there h p j m c in
      let o = states.cover.onward r.state p j X b r.item d in
      record {
        state = o.0;
        walk = goes X o.0 r.walk o.1;
        item = (states.cover.next r.state X o.0 o.1 p (suc j)).1
            (in_kernel p (suc j) (record { dot = j; rest = b; on = refl; item = r.item; before = d }));
        carried = λ x f. shifts_next X b o.0 (r.carried x f) d o.1;
      }
  marked_there g p i m (brings_there {p = q} {i = j} b r c d u) =
      let k = marked_there g q j None c in
      record {
        state = k.state;
        walk = k.walk;
        item = item_closes G s Item Edge states.cover g k.state k.walk q j b r k.item d u;
        carried = λ x f. let z : ⊥ = cc in absurd z;
      }
  marked_there g p i m (starts_after {p = q} {i = j} b r t c d u f) =
      let k = marked_there g q j None c in
      record {
        state = k.state;
        walk = k.walk;
        item = item_closes G s Item Edge states.cover g k.state k.walk q j b r k.item d u;
        carried = λ x e.
            let z : Some t ≡ x = cc in
            subst (Carries G s Item Edge k.state r 0) z (starts_next b r t (in_kernel q j k.item) d u f);
      }
  marked_there g p i m (passes_after {p = q} {i = j} b r y c d u f) =
      let k = marked_there g q j (Some y) c in
      record {
        state = k.state;
        walk = k.walk;
        item = item_closes G s Item Edge states.cover g k.state k.walk q j b r k.item d u;
        carried = λ x e.
            let z : y ≡ x = cc in
            subst (Carries G s Item Edge k.state r 0) z (passes_next b r y (k.carried y refl) d u f);
      }

  -- an item of a state is there on all symbols that lead to the state
  item_on : (g : List Symbol) (n : ℕ) → Walk Edge g n → (p : Production) (i : ℕ) → Item n p i → IsCanonicalItem G s g p i None
  item_on g n stands p i it =
      closure_on G s [] (IsBegun G s)
      (λ q j u. subst (λ v. IsCanonicalItem G s [] q v None) (sym u.2) (begins_there q u.0 u.1)) p i
      ((states.cover.start p i).0 it)
  item_on g n (goes {g = h} {n = m} X m' w e) p i it =
      closure_on G s (h ++ X ∷ []) (IsShifted Item m X)
      (λ q j u. subst (λ v. IsCanonicalItem G s (h ++ X ∷ []) q v None) (sym u.on)
      (moves_over X u.rest (item_on h m w q u.dot u.item) u.before)) p i
      ((states.cover.next m X n e p i).0 it)

  -- so the state's items are those that are there
  core_on : (g : List Symbol) (n : ℕ) → Walk Edge g n → (p : Production) (i : ℕ) →
      IsCanonicalItem G s g p i None ↔ Item n p i
  core_on g n w p i = (
    λ c. let r = marked_there g p i None c in
        subst (λ m. Item m p i) (walk_one Edge states.cover.one g r.state n r.walk w) r.item,
    λ it. item_on g n w p i it,
  )

  -- what is carried to an item may follow it there on some symbols that lead to the state
  carried_on : (n : ℕ) (p : Production) (i : ℕ) (x : Next) → Carries G s Item Edge n p i x →
      (g : List Symbol) × Walk Edge g n × IsCanonicalItem G s g p i (Some x)
  carried_on n p i x (begins_with_end q g e) = ([], stands, ends_after q g e)
  carried_on n p i x (shifts_next {n = m} {i = j} X b k c d e) =
      let r = carried_on m p j x c in (r.0 ++ X ∷ [], goes X n r.1 e, moves_over X b r.2 d)
  carried_on n p i x (starts_next {p = q} {i = j} b r t c d u f) =
      let it = closure_item G s Item Edge states n q j c in
      let w = states.reached n q j it in
      (w.0, w.1, starts_after b r t (item_on w.0 n w.1 q j it) d u f)
  carried_on n p i x (passes_next {p = q} {i = j} b r y c d u f) =
      let k = carried_on n q j y c in (k.0, k.1, passes_after b r y k.2 d u f)

  -- on symbols that lead to one state stand the same items
  one_core : (n : ℕ) (g h : List Symbol) → Walk Edge g n → Walk Edge h n → HaveOneCoreOn G s g h
  one_core n g h w v p i = (
    λ c. (core_on h n v p i).1 ((core_on g n w p i).0 c),
    λ c. (core_on g n w p i).1 ((core_on h n v p i).0 c),
  )

  -- where the grammar is LALR(1), what is carried leaves no conflict
  carried_apart : IsLalr1 G s → HasNoCarriedConflict G s Item Edge
  carried_apart lalr1 =
      record {
        reductions_apart = λ n p q x a b.
            let k = carried_on n p (length p.right) x a.1 in
            let l = carried_on n q (length q.right) x b.1 in
            lalr1.reductions_apart k.0 l.0 p q x (one_core n k.0 l.0 k.1 l.1) k.2 l.2;
        shifts_apart = λ n p t m a e.
            let k = carried_on n p (length p.right) (Some t) a.1 in
            let o = states.cover.only n (terminal t) m e in
            lalr1.shifts_apart k.0 k.0 p o.production o.dot t o.rest (λ q j. (λ c. c, λ c. c)) k.2
            (item_on k.0 n k.1 o.production o.dot o.item) o.before;
      }

  -- and where states with the same items are one, the other way round
  module _ (distinct : (n m : ℕ) (p q : Production) (i j : ℕ) → Item n p i → Item m q j →
      ((r : Production) (k : ℕ) → Item n r k ↔ Item m r k) → n ≡ m) where
    one_state : (g h : List Symbol) (n m : ℕ) (p q : Production) (i j : ℕ) → HaveOneCoreOn G s g h → Walk Edge g n → Walk Edge h m →
        Item n p i → Item m q j → n ≡ m
    one_state g h n m p q i j same w v a b =
        distinct n m p q i j a b
        (λ r k. (
          λ it. (core_on h m v r k).0 ((same r k).0 ((core_on g n w r k).1 it)),
          λ it. (core_on g n w r k).0 ((same r k).1 ((core_on h m v r k).1 it)),
        ))

    pub lalr1_carried : IsLalr1 G s ↔ HasNoCarriedConflict G s Item Edge
    lalr1_carried = (
      carried_apart,
      λ apart. record {
        reductions_apart = λ g h p q x same a b.
            let k = marked_there g p (length p.right) (Some x) a in
            let l = marked_there h q (length q.right) (Some x) b in
            let e = one_state g h k.state l.state p q (length p.right) (length q.right) same k.walk l.walk k.item l.item in
            apart.reductions_apart l.state p q x
            (subst (λ n. CarriesToFinished G s Item Edge n p x) e (k.item, k.carried x refl)) (l.item, l.carried x refl);
        shifts_apart = λ g h p q i t b same a c d.
            let k = marked_there g p (length p.right) (Some (Some t)) a in
            let o = states.cover.onward k.state q i (terminal t) b ((core_on g k.state k.walk q i).0 ((same q i).1 c)) d in
            apart.shifts_apart k.state p t o.0 (k.item, k.carried (Some t) refl) o.1;
      },
    )

-- over states without lookaheads, what is carried leaves no conflict exactly where the grammar is LALR(1)
pub lr0_lalr1 : (grammar : List Production) (s : Text) (states : List State) → AreLr0States grammar s states →
    IsLalr1 (Contains grammar) s ↔ HaveNoCarriedConflict grammar s states
lr0_lalr1 grammar s states lr0 =
    lalr1_carried (Contains grammar) s (HasItem states) (HasEdge states) (lr0_reached grammar s states lr0)
    (λ n m p q i j a b same.
    let w = lr0.automaton.reached n p i a in
    let v = lr0.automaton.reached m q j b in
    lr0.distinct n m a.state b.state a.at b.at
    (record {
      items = same;
      lookaheads = λ r k x. (
        λ l. absurd (looks_nowhere grammar s states lr0 w.0 n w.1 r k x l),
        λ l. absurd (looks_nowhere grammar s states lr0 v.0 m v.1 r k x l),
      );
    }))
