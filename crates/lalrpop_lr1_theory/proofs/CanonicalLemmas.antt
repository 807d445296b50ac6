-- Canonical automata hold the valid items and allow only valid moves: for the laws on canonical states.
use Rattle.std.proofs.Common.{Option}
use Rattle.std.proofs.Common.{Contains, List, None, Some, [], ap, append-nil, append_assoc, drop, inl, inr, length, refl, subst, suc, sym, true}
use Rattle.std.proofs.Common.{◌++◌, ◌↔◌, ◌∙◌, ◌∷◌, ◌≡◌}
use Rattle.std.proofs.Common.{ℕ}
use Rattle.lalrpop_grammar_symbols.specs.Symbols.{Terminal, Text}
use Rattle.lalrpop_lr1_theory.specs.Productions.{Next, Production, Symbol, first, nonterminal, terminal}
use Rattle.lalrpop_lr1_theory.specs.Trees.{AreOver, Forest, IsTreeOf, Move, leaf, node, none, reduce, roots, shift, yield, ◌and◌}
use Rattle.lalrpop_lr1_theory.specs.Places.{plug, under}
use Rattle.lalrpop_lr1_theory.specs.FirstSets.{First0}
use Rattle.lalrpop_lr1_theory.specs.ValidItems.{CarriesAlong, CarriesOn, IsValidItem, NoneBarren, begins, closes, shifts}
use Rattle.lalrpop_lr1_theory.specs.Automata.{Carries, Closure, EndAlone, Finished, IsBegun, IsBegunBefore, IsCanonicalAutomaton}
use Rattle.lalrpop_lr1_theory.specs.Automata.{IsCover, IsLr1Automaton, IsShifted, IsShiftedBefore, Marked, Walk, begins_with_end}
use Rattle.lalrpop_lr1_theory.specs.Automata.{brings, closed, goes, has_next, in_kernel, passes, passes_next, shifts_next, stands}
use Rattle.lalrpop_lr1_theory.specs.Automata.{starts, starts_next, there}
use Rattle.lalrpop_lr1_theory.specs.Runs.{Allows}
use Rattle.lalrpop_lr1_theory.specs.Answers.{IsLr1, IsValidMove, MayFollow}
use Rattle.lalrpop_lr1_theory.proofs.FirstLemmas.{AllReached, reached-append, reached_drop, reached_head, reached_right, trees_for}
use Rattle.lalrpop_lr1_theory.proofs.MarkLemmas.{item_of, mark_of}
use Rattle.lalrpop_lr1_theory.proofs.PassLemmas.{At, at_from_carried, first_leaf, some_carried}
use Rattle.lalrpop_lr1_theory.proofs.SoundnessLemmas.{no_roots}
use Rattle.lalrpop_lr1_theory.proofs.TreeLemmas.{reduce_same, shift_not_reduce}
use Rattle.lalrpop_lr1_theory.proofs.ValidItemLemmas.{carried_from_valid, open_from_carried, valid_from_carried}
use Rattle.lalrpop_lr1_theory.proofs.ValidMoveLemmas.{drop_all, lr1_from_automaton, valid_at}
use Rattle.lalrpop_lr1_theory.proofs.WalkLemmas.{contains_after, item_closes, walk_one}

carried_production : (G : Production → Type 0) (s : Text) (g : List Symbol) (p : Production) (i : ℕ) (x : Next) →
    CarriesOn G s g p i x → G p
carried_production G s g p i x (begins q h e) = h
carried_production G s g p i x (shifts {n = h} {i = j} X b m k d e) = carried_production G s h p j x k
carried_production G s g p i x (closes b q' z k d u f) = u

-- what is marked in a closure is carried, where its kernel is
marked_carried : (G : Production → Type 0) (s : Text) (g : List Symbol) (K : Production → ℕ → Type 0)
    (U : Production → ℕ → Next → Type 0) → ((p : Production) (i : ℕ) (x : Next) → U p i x → K p i) →
    ((p : Production) (i : ℕ) → Closure G K p i → (x : Next) × CarriesOn G s g p i x) →
    ((p : Production) (i : ℕ) (x : Next) → U p i x → CarriesOn G s g p i x) → (p : Production) (i : ℕ) (m : Option Next) →
    Marked true G K U p i m → (x : Next) → m ≡ Some x → CarriesOn G s g p i x
marked_carried G s g K U both some all p i m (there q j k) x e = let z : ⊥ = cc in absurd z
marked_carried G s g K U both some all p i m (has_next q j y k) x e =
    let z : y ≡ x = cc in subst (λ v. CarriesOn G s g p i v) z (all p i y k)
marked_carried G s g K U both some all p i m (brings b q d u h) x e = let z : ⊥ = cc in absurd z
marked_carried G s g K U both some all p i m (starts {p = q} {i = j} b q' t f d u h o) x e =
    let z : Some t ≡ x = cc in
    let l = some q j (item_of true G K U both None d) in
    subst (λ v. CarriesOn G s g q' 0 v) z (closes b q' (Some t) l.1 u h (inl (t, refl, o)))
marked_carried G s g K U both some all p i m (passes {p = q} {i = j} b q' y d u h o) x e =
    let z : y ≡ x = cc in
    subst (λ v. CarriesOn G s g q' 0 v) z
    (closes b q' y (marked_carried G s g K U both some all q j (Some y) d y refl) u h (inr (refl, o)))

-- what an automaton allows another does that reduces wherever it does
pub allows_more : (Edge : ℕ → Symbol → ℕ → Type 0) (R Q : ℕ → Production → Next → Type 0) →
    ((n : ℕ) (p : Production) (x : Next) → R n p x → Q n p x) → (n : ℕ) (x : Next) (v : Move) →
    Allows Edge R n x v → Allows Edge Q n x v
allows_more Edge R Q more n None (shift t) a = a
allows_more Edge R Q more n (Some u) (shift t) a = a
allows_more Edge R Q more n None (reduce p) a = more n p None a
allows_more Edge R Q more n (Some u) (reduce p) a = more n p (Some u) a

module _ (G : Production → Type 0) (s : Text) (Item : ℕ → Production → ℕ → Type 0) (Edge : ℕ → Symbol → ℕ → Type 0)
    (cover : IsCover G s Item Edge) where
  -- what is carried along the states stands in their items, and is carried as checked states need it
  pub along_carries : (n : ℕ) (p : Production) (i : ℕ) (x : Next) → CarriesAlong G s ℕ 0 Edge n p i x →
      (g : List Symbol) × Walk Edge g n × Item n p i × Carries G s Item Edge n p i x
  along_carries n p i x (begins q h e) = ([], stands, (cover.start p 0).1 (in_kernel p 0 (h, e, refl)), begins_with_end p h e)
  along_carries n p i x (shifts {n = m} {i = j} X b k c d e) =
      let r = along_carries m p j x c in (
        r.0 ++ X ∷ [],
        goes X n r.1 e,
        (cover.next m X n e p (suc j)).1 (in_kernel p (suc j) (record { dot = j; rest = b; on = refl; item = r.2; before = d })),
        shifts_next X b n r.3 d e,
      )
  along_carries n p i x (closes {n = m} {p = q} {i = j} {x = y} b q' z c d u (inl h)) =
      let r = along_carries m q j y c in (
        r.0,
        r.1,
        item_closes G s Item Edge cover r.0 n r.1 q j b q' r.2 d u,
        subst (λ v. Carries G s Item Edge n q' 0 v) (sym h.1) (starts_next b q' h.0 (in_kernel q j r.2) d u h.2),
      )
  along_carries n p i x (closes {n = m} {p = q} {i = j} {x = y} b q' z c d u (inr h)) =
      let r = along_carries m q j y c in (
        r.0,
        r.1,
        item_closes G s Item Edge cover r.0 n r.1 q j b q' r.2 d u,
        subst (λ v. Carries G s Item Edge n q' 0 v) (sym h.0) (passes_next b q' y r.3 d u h.1),
      )

module _ (G : Production → Type 0) (s : Text) (Item : ℕ → Production → ℕ → Type 0) (Edge : ℕ → Symbol → ℕ → Type 0)
    (Look : ℕ → Production → ℕ → Next → Type 0) (can : IsCanonicalAutomaton G s Item Edge Look) where
  pub look_carried : NoneBarren G s → (g : List Symbol) (n : ℕ) → Walk Edge g n → (p : Production) (i : ℕ) (x : Next) →
      Look n p i x → CarriesOn G s g p i x
  look_carried nb g n stands p i x k =
      marked_carried G s [] (IsBegun G s) (IsBegunBefore EndAlone G s) (λ q j y u. u.0)
      (λ q j c. some_carried G s Item Edge can.cover nb [] 0 stands q j ((can.cover.start q j).1 c))
      (λ q j y u. subst (λ v. CarriesOn G s [] q v y) (sym u.0.2) (subst (CarriesOn G s [] q 0) (sym u.1) (begins q u.0.0 u.0.1)))
      p i (Some x) ((can.look_start p i x).0 k) x refl
  look_carried nb g n (goes {g = h} {n = m} X m' w e) p i x k =
      marked_carried G s (h ++ X ∷ []) (IsShifted Item m X) (IsShiftedBefore Look m X)
      (λ q j y u. record { dot = u.dot; rest = u.rest; on = u.on; item = can.held m q u.dot y u.item; before = u.before })
      (λ q j c. some_carried G s Item Edge can.cover nb (h ++ X ∷ []) n (goes X n w e) q j ((can.cover.next m X n e q j).1 c))
      (λ q j y u. subst (λ v. CarriesOn G s (h ++ X ∷ []) q v y) (sym u.on)
      (shifts X u.rest (h ++ X ∷ []) (look_carried nb h m w q u.dot y u.item) u.before refl))
      p i (Some x) ((can.look_next m X n e p i x).0 k) x refl

  -- a state that is reached has what can begin the rest behind its items' dots
  pub look_starts : (g : List Symbol) (n : ℕ) → Walk Edge g n → (p : Production) (i : ℕ) (b : List Symbol) (q : Production)
      (t : Terminal) → Item n p i → drop i p.right ≡ nonterminal q.left ∷ b → G q → First0 G b (Some t) → Look n q 0 (Some t)
  look_starts g n stands p i b q t k d u f =
      (can.look_start q 0 (Some t)).1
      (starts b q t refl (mark_of true G (IsBegun G s) (IsBegunBefore EndAlone G s) ((can.cover.start p i).0 k)) d u f)
  look_starts g n (goes {g = h} {n = m} X m' w e) p i b q t k d u f =
      (can.look_next m X n e q 0 (Some t)).1
      (starts b q t refl (mark_of true G (IsShifted Item m X) (IsShiftedBefore Look m X) ((can.cover.next m X n e p i).0 k)) d u f)

  -- and, where that derives nothing, what may follow them
  pub look_passes : (g : List Symbol) (n : ℕ) → Walk Edge g n → (p : Production) (i : ℕ) (b : List Symbol) (q : Production)
      (x : Next) → Look n p i x → drop i p.right ≡ nonterminal q.left ∷ b → G q → First0 G b None → Look n q 0 x
  look_passes g n stands p i b q x k d u f = (can.look_start q 0 x).1 (passes b q x ((can.look_start p i x).0 k) d u f)
  look_passes g n (goes {g = h} {n = m} X m' w e) p i b q x k d u f =
      (can.look_next m X n e q 0 x).1 (passes b q x ((can.look_next m X n e p i x).0 k) d u f)

  look_begins : (p : Production) → G p → p.left ≡ s → Look 0 p 0 None
  look_begins p h e = (can.look_start p 0 None).1 (has_next p 0 None ((h, e, refl), refl))

  look_shifts : (n : ℕ) (X : Symbol) (m : ℕ) (p : Production) (i : ℕ) (x : Next) (b : List Symbol) → Edge n X m → Look n p i x →
      drop i p.right ≡ X ∷ b → Look m p (suc i) x
  look_shifts n X m p i x b e k d =
      (can.look_next n X m e p (suc i) x).1
      (has_next p (suc i) x (record { dot = i; rest = b; on = refl; item = k; before = d }))

  carried_look' : (g : List Symbol) (p : Production) (i : ℕ) (x : Next) → CarriesOn G s g p i x →
      (n : ℕ) × Walk Edge g n × Look n p i x
  carried_look' g p i x (begins q h e) = (0, stands, look_begins p h e)
  carried_look' g p i x (shifts {n = h} {i = j} X b m k d e) =
      let r = carried_look' h p j x k in
      let o = can.cover.onward r.0 p j X b (can.held r.0 p j x r.2) d in
      (o.0, subst (λ v. Walk Edge v o.0) (sym e) (goes X o.0 r.1 o.1), look_shifts r.0 X o.0 p j x b o.1 r.2 d)
  carried_look' g p i x (closes {n = h} {p = q} {i = j} {x = y} b q' z k d u (inl f)) =
      let r = carried_look' h q j y k in
      (r.0, r.1, subst (Look r.0 q' 0) (sym f.1) (look_starts h r.0 r.1 q j b q' f.0 (can.held r.0 q j y r.2) d u f.2))
  carried_look' g p i x (closes {n = h} {p = q} {i = j} {x = y} b q' z k d u (inr f)) =
      let r = carried_look' h q j y k in
      (r.0, r.1, subst (Look r.0 q' 0) (sym f.0) (look_passes h r.0 r.1 q j b q' y r.2 d u f.1))

  pub carried_look : (g : List Symbol) (n : ℕ) → Walk Edge g n → (p : Production) (i : ℕ) (x : Next) → CarriesOn G s g p i x →
      Look n p i x
  carried_look g n w p i x k =
      let r = carried_look' g p i x k in
      subst (λ j. Look j p i x) (walk_one Edge can.cover.one g r.0 n r.1 w) r.2

  -- canonical states hold exactly the valid items
  pub canonical_valid : NoneBarren G s → (g : List Symbol) (n : ℕ) → Walk Edge g n → (p : Production) (i : ℕ) (x : Next) →
      Look n p i x ↔ IsValidItem G s g p i x
  canonical_valid nb g n w p i x = (
    λ k. valid_from_carried G s nb g p i x (look_carried nb g n w p i x k),
    λ v. carried_look g n w p i x (carried_from_valid G s g p i x v),
  )

  reduce_valid : (f : Forest) (p : Production) (x : Next) → At G s f p (length p.right) x → IsValidMove G s f x (reduce p)
  reduce_valid f p x a =
      let e : a.b ≡ none = no_roots a.b (a.front ∙ drop_all p.right) in
      valid_at G s (under a.way a.l p a.r) a.a none (reduce p) f x refl
      (subst (λ b. IsTreeOf G s (plug a.way (a.l and node p (a.a and b) a.r))) e a.tree) a.forest_is a.next

  shift_valid : (f : Forest) (p : Production) (i : ℕ) (x : Next) (t : Terminal) (b : List Symbol) → At G s f p i x →
      drop i p.right ≡ terminal t ∷ b → IsValidMove G s f (Some t) (shift t)
  shift_valid f p i x t b a d =
      let e = first_leaf t b a.b (a.front ∙ d) in
      valid_at G s (under a.way a.l p a.r) a.a (leaf t e.0) (shift t) f (Some t) refl
      (subst (λ b'. IsTreeOf G s (plug a.way (a.l and node p (a.a and b') a.r))) e.1 a.tree) a.forest_is refl

  walk_reached : NoneBarren G s → (g : List Symbol) (n : ℕ) → Walk Edge g n → AllReached G s g
  walk_reached nb g n stands = tt
  walk_reached nb g n (goes {g = h} {n = m} X m' w e) =
      let it = can.cover.only m X n e in
      let c = some_carried G s Item Edge can.cover nb h m w it.production it.dot it.item in
      let o = open_from_carried G s nb h it.production it.dot c.0 c.1 in
      reached-append G s h (X ∷ []) (walk_reached nb h m w)
      (reached_head G s X it.rest (subst (AllReached G s) it.before
      (reached_drop G s it.dot it.production.right (reached_right G s it.production o.reached o.fits.0))))

  -- what a canonical state does is valid after each forest that leads there
  pub allowed_valid : NoneBarren G s → (f : Forest) (n : ℕ) → AreOver G f → Walk Edge (roots f) n → (x : Next) (v : Move) →
      Allows Edge (Finished Look) n x v → IsValidMove G s f x v
  allowed_valid nb f n o w None (shift t) d = absurd d
  allowed_valid nb f n o w None (reduce p) d =
      reduce_valid f p None (at_from_carried G s nb f o p (length p.right) None (look_carried nb (roots f) n w p (length p.right) None d))
  allowed_valid nb f n o w (Some t) (shift u) d =
      let it = can.cover.only n (terminal t) d.1 d.2 in
      let c = some_carried G s Item Edge can.cover nb (roots f) n w it.production it.dot it.item in
      subst (λ y. IsValidMove G s f (Some t) (shift y)) (sym d.0)
      (shift_valid f it.production it.dot c.0 t it.rest (at_from_carried G s nb f o it.production it.dot c.0 c.1) it.before)
  allowed_valid nb f n o w (Some t) (reduce p) d =
      reduce_valid f p (Some t)
      (at_from_carried G s nb f o p (length p.right) (Some t) (look_carried nb (roots f) n w p (length p.right) (Some t) d))

  -- an item of the closure of a state's items stands in it, and the state is reached
  closure_item : (n : ℕ) (p : Production) (i : ℕ) → Closure G (Item n) p i → (g : List Symbol) × Walk Edge g n × Item n p i
  closure_item n p i (in_kernel q j k) = let w = can.reached n p i k in (w.0, w.1, k)
  closure_item n p i (closed {p = q} {i = j} b q' c d u) =
      let r = closure_item n q j c in (r.0, r.1, item_closes G s Item Edge can.cover r.0 n r.1 q j b q' r.2 d u)

  -- what is carried over canonical states stands in their items
  pub carries_look : (n : ℕ) (p : Production) (i : ℕ) (x : Next) → Carries G s Item Edge n p i x → Look n p i x
  carries_look n p i x (begins_with_end q h e) = look_begins p h e
  carries_look n p i x (shifts_next {n = m} {i = j} X b k c d e) = look_shifts m X n p j x b e (carries_look m p j x c) d
  carries_look n p i x (starts_next {p = q} {i = j} b q' t c d u f) =
      let r = closure_item n q j c in look_starts r.0 n r.1 q j b q' t r.2 d u f
  carries_look n p i x (passes_next {p = q} {i = j} b q' y c d u f) =
      let k = carries_look n q j y c in
      let w = can.reached n q j (can.held n q j y k) in
      look_passes w.0 n w.1 q j b q' y k d u f

  -- the start's items past the dot are the start's alone
  pub start_alone : ((p : Production) → G p → Contains p.right (nonterminal s) → ⊥) →
      (g : List Symbol) (p : Production) (i : ℕ) (x : Next) → CarriesOn G s g p i x → p.left ≡ s → x ≡ None
  start_alone alone g p i x (begins q h e) f = refl
  start_alone alone g p i x (shifts {n = h} {i = j} X b m k d e) f = start_alone alone h p j x k f
  start_alone alone g p i x (closes {n = h} {p = q} {i = j} {x = y} b q' z k d u f') f =
      absurd (alone q (carried_production G s h q j y k)
      (contains_after (nonterminal s) b q.right j (d ∙ ap (λ A. nonterminal A ∷ b) f)))

  -- the start's reductions are before the end alone
  pub finished_at_end : NoneBarren G s → ((p : Production) → G p → Contains p.right (nonterminal s) → ⊥) →
      (n : ℕ) (p : Production)
      (x : Next) → Look n p (length p.right) x → p.left ≡ s → x ≡ None
  finished_at_end nb alone n p x k e =
      let w = can.reached n p (length p.right) (can.held n p (length p.right) x k) in
      start_alone alone w.0 p (length p.right) x (look_carried nb w.0 n w.1 p (length p.right) x k) e

  module _ (Reduce : ℕ → Production → Next → Type 0)
      (reduces : (n : ℕ) (p : Production) (x : Next) → Reduce n p x ↔ Look n p (length p.right) x) where
    allows_finished : (n : ℕ) (x : Next) (v : Move) → Allows Edge Reduce n x v → Allows Edge (Finished Look) n x v
    allows_finished n x v a = allows_more Edge Reduce (Finished Look) (λ m p y k. (reduces m p y).0 k) n x v a

    as_allowed : (n : ℕ) (x : Next) (p : Production) → Reduce n p x → Allows Edge Reduce n x (reduce p)
    as_allowed n None p a = a
    as_allowed n (Some t) p a = a

    -- canonical states without two moves are an automaton to parse with
    pub automaton_from_canonical : ((n : ℕ) (x : Next) (v w : Move) → Allows Edge Reduce n x v → Allows Edge Reduce n x w →
        v ≡ w) →
        IsLr1Automaton G s Item Edge Reduce
    automaton_from_canonical none_two =
        record {
          cover = can.cover;
          finished = λ n p x k. can.held n p (length p.right) x ((reduces n p x).0 k);
          carried = λ n p x k.
              let c = along_carries G s Item Edge can.cover n p (length p.right) x k in
              (reduces n p x).1 (carries_look n p (length p.right) x c.3);
          one_reduction = λ n p q x a b. reduce_same p q (none_two n x (reduce p) (reduce q) (as_allowed n x p a) (as_allowed n x q b));
          no_shift = λ n p t m a e. shift_not_reduce t p (none_two n (Some t) (shift t) (reduce p) (refl, m, e) a);
        }

    allowed_item : (n : ℕ) (x : Next) (v : Move) → Allows Edge Reduce n x v → (p : Production) × (i : ℕ) × Item n p i
    allowed_item n None (shift t) d = absurd d
    allowed_item n (Some u) (shift t) d =
        let it = can.cover.only n (terminal u) d.1 d.2 in (it.production, it.dot, it.item)
    allowed_item n None (reduce p) d = (p, length p.right, can.held n p (length p.right) None ((reduces n p None).0 d))
    allowed_item n (Some u) (reduce p) d = (p, length p.right, can.held n p (length p.right) (Some u) ((reduces n p (Some u)).0 d))

    -- two moves that a state allows before one terminal or the end are valid after one forest
    pub both_valid : NoneBarren G s → (n : ℕ) (x : Next) (v w : Move) → Allows Edge Reduce n x v → Allows Edge Reduce n x w →
        (f : Forest) × IsValidMove G s f x v × IsValidMove G s f x w
    both_valid nb n x v w a b =
        let it = allowed_item n x v a in
        let g = can.reached n it.0 it.1 it.2 in
        let f = trees_for G s nb g.0 (walk_reached nb g.0 n g.1) in
        let walk = subst (λ h. Walk Edge h n) (sym f.2) g.1 in (
          f.0,
          allowed_valid nb f.0 n f.1 walk x v (allows_finished n x v a),
          allowed_valid nb f.0 n f.1 walk x w (allows_finished n x w b),
        )

    -- the grammar is LR(1) exactly where no canonical state allows two moves
    pub lr1_iff_no_conflict : NoneBarren G s →
        IsLr1 G s ↔ ((n : ℕ) (x : Next) (v w : Move) → Allows Edge Reduce n x v → Allows Edge Reduce n x w → v ≡ w)
    lr1_iff_no_conflict nb = (
      λ lr n x v w a b. let c = both_valid nb n x v w a b in lr c.0 x v w c.1 c.2,
      λ h. lr1_from_automaton G s Item Edge Reduce (automaton_from_canonical h),
    )

    -- canonical states allow no move before a terminal, or before the end, that can't follow
    pub canonical_follows : NoneBarren G s → (f : Forest) (n : ℕ) (x : Next) (v : Move) → AreOver G f → Walk Edge (roots f) n →
        Allows Edge Reduce n x v → MayFollow G s (yield f) x
    canonical_follows nb f n x v o w d = follows x (allowed_valid nb f n o w x v (allows_finished n x v d))
      where
        rest_is : (t : Terminal) (w : List Terminal) → first w ≡ Some t → (u : List Terminal) × (w ≡ t ∷ u)
        rest_is t [] e = let z : ⊥ = cc in absurd z
        rest_is t (u ∷ w) e = let z : u ≡ t = cc in (w, ap (λ v. v ∷ w) z)

        none_left : (w : List Terminal) → first w ≡ None → w ≡ []
        none_left [] e = refl
        none_left (u ∷ w) e = let z : ⊥ = cc in absurd z

        follows : (x : Next) → IsValidMove G s f x v → MayFollow G s (yield f) x
        follows (Some t) m =
            let r = rest_is t m.left m.next in
            record {
              tree = m.tree;
              left = r.0;
              is_tree = m.is_tree;
              leaves = m.leaves ∙ ap (λ u. yield f ++ u) r.1 ∙ sym (append_assoc (yield f) (t ∷ []) r.0);
            }
        follows None m =
            (m.tree, m.is_tree, m.leaves ∙ ap (λ u. yield f ++ u) (none_left m.left m.next) ∙ append-nil (yield f))
