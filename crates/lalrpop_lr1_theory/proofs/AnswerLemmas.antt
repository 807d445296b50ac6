-- Where the states stop, and why: for the law on the ends of runs.
use Rattle.std.proofs.Common.{◌≡◌, ℕ, zero, suc, ◌+◌, ◌-◌, ◌<◌, ◌≤◌, List, [], ◌∷◌, ◌++◌, length}
use Rattle.std.proofs.Common.{take, Some, None, refl, sym, ap, ◌∙◌, subst, ⊎_elim, inl, inr, ◌⊎◌, arith, append_assoc}
use Rattle.std.proofs.Common.{append-nil, length-append, Contains}
use Rattle.std.proofs.lemmas.Bool.{cases_lt}
use Rattle.lalrpop_grammar_symbols.specs.Symbols.{Terminal, Text}
use Rattle.lalrpop_lr1_theory.specs.Productions.{Next, Production, Symbol, first, nonterminal, terminal}
use Rattle.lalrpop_lr1_theory.specs.Trees.{AreOver, Forest, IsTreeOf, Move, MovesLead, forest, leaf, node, nodes, none, reduce, roots}
use Rattle.lalrpop_lr1_theory.specs.Trees.{shift, yield, ◌and◌}
use Rattle.lalrpop_lr1_theory.specs.Automata.{IsCheckedAutomaton, Walk, goes, stands}
use Rattle.lalrpop_lr1_theory.specs.States.{HasEdge, HasItem, Reduces, State}
use Rattle.lalrpop_lr1_theory.specs.Runs.{Allows, Runs, RunsBy}
use Rattle.lalrpop_lr1_theory.specs.Answers.{BeginsYieldOf, IsMoveOf, IsRightParseAnswer, IsRun, ParseAnswer, Passes, RunEnds}
use Rattle.lalrpop_lr1_theory.specs.Answers.{over_limit, tree, wrong_end, wrong_token}
use Rattle.lalrpop_lr1_theory.specs.CheckedStates.{AreCheckedStates, IsStartAlone}
use Rattle.lalrpop_lr1_theory.proofs.CheckedLemmas.{checked_automaton}
use Rattle.lalrpop_lr1_theory.proofs.PassLemmas.{passes_there}
use Rattle.lalrpop_lr1_theory.proofs.PlaceLemmas.{forest-zero, forest_all, forest_inside, forest_past}
use Rattle.lalrpop_lr1_theory.proofs.SoundnessLemmas.{can_reduce, runs_over, runs_yield}
use Rattle.lalrpop_lr1_theory.proofs.TreeLemmas.{and_ends, roots-and}
use Rattle.lalrpop_lr1_theory.proofs.WalkLemmas.{allows-next, contains_after, from_walk, item_over, rest_of, step_same, walk_one}

-- a list that begins as another, and is as long or longer
pub front_of : {A : Type 0} (a b c d : List A) → a ++ b ≡ c ++ d → length a ≤ length c →
    (e : List A) × (c ≡ a ++ e) × (b ≡ e ++ d)
front_of [] b c d h l = (c, refl, h)
front_of (x ∷ a) b [] d h l = absurd (omega arith)
front_of (x ∷ a) b (y ∷ c) d h l = let z : y ≡ x = cc in let k : a ++ b ≡ c ++ d = cc in
    let r = front_of a b c d k (omega arith) in (r.0, cc, r.2)

pub first-append : (e z w : List Terminal) → first z ≡ first w → first (e ++ z) ≡ first (e ++ w)
first-append [] z w h = h
first-append (t ∷ e) z w h = refl

take_front : {A : Type 0} (a b : List A) → take (length a) (a ++ b) ≡ a
take_front [] b = refl
take_front (x ∷ a) b = ap (λ v. x ∷ v) (take_front a b)

take_front_one : {A : Type 0} (x : A) (a b : List A) → take (suc (length a)) (a ++ x ∷ b) ≡ a ++ x ∷ []
take_front_one x [] b = refl
take_front_one x (y ∷ a) b = ap (λ v. y ∷ v) (take_front_one x a b)

front_cases : (p : Production) (cs ts : Forest) (k : ℕ) → (nodes cs < k) ⊎ (k ≤ nodes cs) →
    (w : List Terminal) × (yield cs ≡ yield (forest cs k) ++ w) →
    (w : List Terminal) × (yield ts ≡ yield (forest ts (k - suc (nodes cs))) ++ w) →
    (w : List Terminal) × (yield (node p cs ts) ≡ yield (forest (node p cs ts) k) ++ w)
front_cases p cs ts k (inl h) a b = (
  b.0,
  ap (λ v. yield cs ++ v) b.1 ∙ sym (append_assoc (yield cs) (yield (forest ts (k - suc (nodes cs)))) b.0)
      ∙ ap (λ f. yield f ++ b.0) (sym (forest_past p cs ts (k - suc (nodes cs)) k (omega arith))),
)
front_cases p cs ts k (inr h) a b = (
  a.0 ++ yield ts,
  ap (λ v. v ++ yield ts) a.1 ∙ append_assoc (yield (forest cs k)) a.0 (yield ts)
      ∙ ap (λ f. yield f ++ (a.0 ++ yield ts)) (sym (forest_inside p cs ts k h)),
)

-- the leaves of a forest are the first of the tree's
pub forest_front : (ts : Forest) (k : ℕ) → (w : List Terminal) × (yield ts ≡ yield (forest ts k) ++ w)
forest_front none k = ([], refl)
forest_front (leaf t ts) zero = (t ∷ yield ts, refl)
forest_front (leaf t ts) (suc k) = let r = forest_front ts k in (r.0, ap (λ v. t ∷ v) r.1)
forest_front (node p cs ts) k = front_cases p cs ts k (cases_lt (nodes cs) k) (forest_front cs k) (forest_front ts (k - suc (nodes cs)))

abbrev pub stop_at : Forest → List Terminal → ParseAnswer
stop_at f [] = wrong_end
stop_at f (t ∷ w) = wrong_token (length (yield f))

module _ (G : Production → Type 0) (s : Text) (Item : ℕ → Production → ℕ → Type 0)
    (Edge : ℕ → Symbol → ℕ → Type 0) (Reduce : ℕ → Production → Next → Type 0)
    (ok : IsCheckedAutomaton G s Item Edge Reduce) where
  -- the first move of a run alone
  last_move : {m : Move} {Rest : Forest → List Terminal → Type 0} {f : Forest} {v : List Terminal} →
      (r : RunsBy Edge Reduce m Rest f v) → Runs Edge Reduce (m ∷ []) f v r.made r.left
  last_move r =
      record {
        state = r.state;
        made = r.made;
        left = r.left;
        walk = r.walk;
        allowed = r.allowed;
        leads = r.leads;
        consumed = r.consumed;
        rest = (refl, refl);
      }

  begins_by : {f : Forest} {u : List Terminal} (p : Passes G s f) (w : List Terminal) → yield p.tree ≡ u ++ w → BeginsYieldOf G s u
  begins_by p w e = record { tree = p.tree; left = w; is_tree = p.is_tree; leaves = e }

  whole_passes : (h : Forest) → IsTreeOf G s h → Passes G s h
  whole_passes h t = record { tree = h; count = nodes h; is_tree = t; forest_is = forest_all h }

  runs_shorter : (ms : List Move) (f : Forest) (v : List Terminal) (g : Forest) (w : List Terminal) → Runs Edge Reduce ms f v g w →
      length w ≤ length v
  runs_shorter [] f v g w r = omega (arith, ap length r.1)
  runs_shorter (shift t ∷ ms) f v g w r = omega (arith, ap length r.consumed, runs_shorter ms r.made r.left g w r.rest)
  runs_shorter (reduce p ∷ ms) f v g w r = omega (arith, ap length r.consumed, runs_shorter ms r.made r.left g w r.rest)

  -- the leaves only grow
  runs_grow : (ms : List Move) (f : Forest) (v : List Terminal) (g : Forest) (w : List Terminal) → Runs Edge Reduce ms f v g w →
      length (yield f) ≤ length (yield g)
  runs_grow ms f v g w r =
      let a = ap length (runs_yield G s Item Edge Reduce ok ms f v g w r) in
      omega (arith, a, length-append (yield f) v, length-append (yield g) w, runs_shorter ms f v g w r)

  module _ (alone : (p : Production) → G p → Contains p.right (nonterminal s) → ⊥) where
    -- no state stands past a whole tree
    pub no_walk : (n : ℕ) → Walk Edge (nonterminal s ∷ []) n → ⊥
    no_walk n w =
        let f = from_walk Edge (nonterminal s ∷ []) n w in let o = ok.automaton.cover.only 0 (nonterminal s) f.0 f.1 in
        alone o.production (item_over G s Item Edge ok.automaton.cover [] 0 stands o.production o.dot o.item)
        (contains_after (nonterminal s) o.rest o.production.right o.dot o.before)

    -- a run follows each tree whose leaves begin as the tokens, as far as the run has come and one further
    run_follows : (ms : List Move) (f : Forest) (v : List Terminal) (g : Forest) (w u z x : List Terminal) (ts : Forest) (k : ℕ)
        → Runs Edge Reduce ms f v g w → IsTreeOf G s ts → yield f ++ v ≡ u ++ z → yield ts ≡ u ++ x →
        first z ≡ first x → length (yield g) ≤ length u → f ≡ forest ts k → k ≤ nodes ts
        → (g ≡ forest ts (k + length ms)) × (k + length ms ≤ nodes ts)
    run_follows [] f v g w u z x ts k r t a b c l e h = (sym r.0 ∙ e ∙ ap (forest ts) (omega arith), omega arith)
    run_follows (m ∷ ms) f v g w u z x ts k r t a b c l e h =
        let grow = runs_grow (m ∷ ms) f v g w r in
        let p = front_of (yield f) v u z a (omega arith) in
        let y : yield ts ≡ yield f ++ (p.0 ++ x) = b ∙ ap (λ q. q ++ x) p.1 ∙ append_assoc (yield f) p.0 x in
        let less = below k ts f r.state e t r.walk h in
        let st = step_same G s Item Edge Reduce ok.automaton ts k f r.made (p.0 ++ x) v r.state m less t e y
        (sym (first-append p.0 z x c) ∙ ap first (sym p.2)) r.walk r.allowed r.leads in
        let i = run_follows ms r.made r.left g w u z x ts (suc k) r.rest t
        (runs_yield G s Item Edge Reduce ok ms r.made r.left g w r.rest
        ∙ sym (runs_yield G s Item Edge Reduce ok (m ∷ ms) f v g w r) ∙ a)
        b c l st.0 less in
        let n : suc k + length ms ≡ k + length (m ∷ ms) = omega arith in
        (i.0 ∙ ap (forest ts) n, subst (λ j. j ≤ nodes ts) n i.1)
      where
        below : (k : ℕ) (ts f : Forest) (n : ℕ) → f ≡ forest ts k → IsTreeOf G s ts → Walk Edge (roots f) n →
            k ≤ nodes ts → k < nodes ts
        below k ts f n e t w h = go (cases_lt k (nodes ts))
          where
            go : (k < nodes ts) ⊎ (nodes ts ≤ k) → k < nodes ts
            go (inl q) = q
            go (inr q) = let j : k ≡ nodes ts = omega arith in
                absurd (no_walk n (subst (λ i. Walk Edge i n) (ap roots (e ∙ ap (forest ts) j ∙ forest_all ts) ∙ t.0) w))

    -- the states stop within a sentence's tokens, or past them, only where they can go on
    stuck : (ms : List Move) (g : Forest) (w u z x : List Terminal) (ts : Forest) (n : ℕ)
        → Runs Edge Reduce ms none (u ++ z) g w → IsTreeOf G s ts → yield ts ≡ yield g ++ x → u ≡ yield g → w ≡ z →
        first z ≡ first x
        → Walk Edge (roots g) n → ((v : Move) → Allows Edge Reduce n (first w) v → ⊥) → ⊥
    stuck ms g w u z x ts n r t y e q c walk none_can =
        let fol = run_follows ms none (u ++ z) g w u z x ts 0 r t refl (y ∙ ap (λ v. v ++ x) (sym e)) c (omega (arith, ap length e))
        (sym (forest-zero ts)) (omega arith) in
        go (cases_lt (0 + length ms) (nodes ts)) fol
      where
        go : (0 + length ms < nodes ts) ⊎ (nodes ts ≤ 0 + length ms) →
            (g ≡ forest ts (0 + length ms)) × (0 + length ms ≤ nodes ts) → ⊥
        go (inl h) fol =
            let d = allows-next G s Item Edge Reduce ok.automaton ts (0 + length ms) x h t (y ∙ ap (λ f. yield f ++ x) fol.0) in
            let same : d.state ≡ n = walk_one Edge ok.automaton.cover.one (roots g) d.state n
            (subst (λ f. Walk Edge (roots f) d.state) (sym fol.0) d.walk)
            walk in
            none_can d.move (subst (λ j. Allows Edge Reduce n j d.move) (sym c ∙ ap first (sym q))
            (subst (λ j. Allows Edge Reduce j (first x) d.move) same d.allowed))
        go (inr h) fol =
            let j : 0 + length ms ≡ nodes ts = omega (arith, fol.1) in
            no_walk n (subst (λ i. Walk Edge i n) (ap roots (fol.0 ∙ ap (forest ts) j ∙ forest_all ts) ∙ t.0) walk)

    -- where the states stop, the answer is right
    pub stopped_right : (ms : List Move) (tokens : List Terminal) (f : Forest) (w : List Terminal) (n limit : ℕ)
        → Runs Edge Reduce ms none tokens f w → Walk Edge (roots f) n →
        ((v : Move) → Allows Edge Reduce n (first w) v → ⊥) → IsRightParseAnswer G s tokens limit (stop_at f w)
    stopped_right ms tokens f [] n limit r walk none_can =
        let y : tokens ≡ yield f = runs_yield G s Item Edge Reduce ok ms none tokens f [] r ∙ append-nil (yield f) in
        let p = passes_there G s Item Edge ok.automaton.cover ok.none_barren f n
        (runs_over G s Item Edge Reduce ok ms none tokens f [] r tt) walk in
        let a = forest_front p.tree p.count in (
          begins_by p a.0 (a.1 ∙ ap (λ v. yield v ++ a.0) p.forest_is ∙ ap (λ v. v ++ a.0) (sym y)),
          λ t. stuck ms f [] tokens [] [] t.0 n (subst (λ v. Runs Edge Reduce ms none v f []) (sym (append-nil tokens)) r) t.1
              (t.2 ∙ y ∙ sym (append-nil (yield f))) y refl refl walk none_can,
        )
    stopped_right ms tokens f (t ∷ w) n limit r walk none_can =
        let y : tokens ≡ yield f ++ t ∷ w = runs_yield G s Item Edge Reduce ok ms none tokens f (t ∷ w) r in
        let p = passes_there G s Item Edge ok.automaton.cover ok.none_barren f n
        (runs_over G s Item Edge Reduce ok ms none tokens f (t ∷ w) r tt) walk in
        let a = forest_front p.tree p.count in
        let now : take (length (yield f)) tokens ≡ yield f = ap (take (length (yield f))) y ∙ take_front (yield f) (t ∷ w) in
        let more : take (suc (length (yield f))) tokens ≡ yield f ++ t ∷ [] =
        ap (take (suc (length (yield f)))) y ∙ take_front_one t (yield f) w in (
          omega (arith, ap length y, length-append (yield f) (t ∷ w)),
          begins_by p a.0 (a.1 ∙ ap (λ v. yield v ++ a.0) p.forest_is ∙ ap (λ v. v ++ a.0) (sym now)),
          λ b. stuck ms f (t ∷ w) (yield f) (t ∷ w) (t ∷ b.left) b.tree n
              (subst (λ v. Runs Edge Reduce ms none v f (t ∷ w)) y r) b.is_tree
              (b.leaves ∙ ap (λ v. v ++ b.left) more ∙ append_assoc (yield f) (t ∷ []) b.left) refl refl refl walk none_can,
        )

    -- where the states accept, the answer is right
    pub accepted_right : (ms : List Move) (tokens : List Terminal) (f : Forest) (limit : ℕ)
        → Runs Edge Reduce ms none tokens f [] → roots f ≡ nonterminal s ∷ [] → length ms ≤ limit →
        IsRightParseAnswer G s tokens limit (tree f)
    accepted_right ms tokens f limit r e h =
        let o = runs_over G s Item Edge Reduce ok ms none tokens f [] r tt in
        let y : tokens ≡ yield f = runs_yield G s Item Edge Reduce ok ms none tokens f [] r ∙ append-nil (yield f) in
        let fol = run_follows ms none tokens f [] tokens [] [] f 0 r (e, o) (sym (append-nil tokens))
        (sym y ∙ sym (append-nil tokens)) refl (omega (arith, ap length y)) (sym (forest-zero f)) (omega arith) in
        ((e, o), sym y, go (cases_lt (0 + length ms) (nodes f)) fol (e, o))
      where
        go : (0 + length ms < nodes f) ⊎ (nodes f ≤ 0 + length ms) →
            (f ≡ forest f (0 + length ms)) × (0 + length ms ≤ nodes f) → IsTreeOf G s f → nodes f ≤ limit
        go (inl j) fol t =
            let w = rest_of G s Item Edge Reduce ok.automaton f (0 + length ms) j in
            let d = allows-next G s Item Edge Reduce ok.automaton f (0 + length ms) w.0 j t w.1 in
            absurd (no_walk d.state (subst (λ i. Walk Edge i d.state) (ap roots (sym fol.0) ∙ e) d.walk))
        go (inr j) fol t = omega (arith, h, j)

    pub shift_edge : (n : ℕ) (x : Next) (t : Terminal) → Allows Edge Reduce n x (shift t) → (m : ℕ) × Edge n (terminal t) m
    shift_edge n None t d = absurd d
    shift_edge n (Some u) t d = (d.1, subst (λ v. Edge n (terminal v) d.1) (sym d.0) d.2)

    -- the forest after a move passes
    next_walk : (m : Move) (f h : Forest) (v : List Terminal) (n : ℕ) → AreOver G f → AreOver G h → Walk Edge (roots f) n →
        Allows Edge Reduce n (first v) m → MovesLead (m ∷ []) f h → IsMoveOf G m × Passes G s h
    next_walk (shift t) f h v n o o' w d l =
        let e = shift_edge n (first v) t d in (
          tt,
          passes_there G s Item Edge ok.automaton.cover ok.none_barren h e.0 o'
              (subst (λ g. Walk Edge g e.0) (sym (roots-and f (leaf t none)) ∙ ap roots l) (goes (terminal t) e.0 w e.1)),
        )
    next_walk (reduce p) f h v n o o' w d l =
        let c = can_reduce G s Item Edge Reduce ok f n p (first v) w d in
        let same = and_ends l.kept c.kept l.children c.children (l.roots_are ∙ sym c.roots_are) (sym l.parts ∙ c.parts) in (
          item_over G s Item Edge ok.automaton.cover (roots f) n w p (length p.right) (ok.automaton.finished n p (first v) d),
          ⊎_elim
              (λ e. whole_passes h (
                ap roots (sym l.rest) ∙ ap (λ g. roots (g and node p l.children none)) (same.0 ∙ e.0)
                    ∙ ap (λ A. nonterminal A ∷ []) e.1,
                o',
              ))
              (λ e. passes_there G s Item Edge ok.automaton.cover ok.none_barren h e.0 o'
              (subst (λ g. Walk Edge g e.0)
              (ap (λ g. roots g ++ nonterminal p.left ∷ []) (sym same.0) ∙ sym (roots-and l.kept (node p l.children none))
              ∙ ap roots l.rest)
              (goes (nonterminal p.left) e.0 c.walk e.1)))
              c.leads_on,
        )

    pub runs_pass : (ms : List Move) (f : Forest) (v : List Terminal) (g : Forest) (w : List Terminal) →
        Runs Edge Reduce ms f v g w → AreOver G f → IsRun G s ms f v
    runs_pass [] f v g w r o = tt
    runs_pass (m ∷ ms) f v g w r o =
        let o' = runs_over G s Item Edge Reduce ok (m ∷ []) f v r.made r.left (last_move r) o in
        let k = next_walk m f r.made v r.state o o' r.walk r.allowed r.leads in
        record {
          made = r.made;
          left = r.left;
          is_move = k.0;
          leads = r.leads;
          consumed = r.consumed;
          passes = k.1;
          rest = runs_pass ms r.made r.left g w r.rest o';
        }

    -- where the states make more moves than the limit, the answer is right
    pub limit_right : (ms : List Move) (tokens : List Terminal) (f : Forest) (w : List Terminal) (limit : ℕ)
        → Runs Edge Reduce ms none tokens f w → length ms ≡ suc limit → IsRightParseAnswer G s tokens limit over_limit
    limit_right ms tokens f w limit r e = (
      λ ts t y.
          let a = ap length (runs_yield G s Item Edge Reduce ok ms none tokens f w r) in
          let fol = run_follows ms none tokens f w tokens [] [] ts 0 r t (sym (append-nil tokens)) (y ∙ sym (append-nil tokens)) refl
          (omega (arith, a, length-append (yield f) w)) (sym (forest-zero ts)) (omega arith) in
          omega (arith, fol.1, e),
      (ms, e, runs_pass ms none tokens f w r tt),
    )

-- where the start stands on no right side, the end of a run of checked states is the right answer to the tokens
pub ends_right : (grammar : List Production) (s : Text) (states : List State) → IsStartAlone grammar s →
    AreCheckedStates grammar s states → (w : List Terminal) (limit : ℕ) (a : ParseAnswer) → RunEnds states s w limit a →
    IsRightParseAnswer (Contains grammar) s w limit a
ends_right grammar s states alone ok w limit (tree ts) e =
    accepted_right (Contains grammar) s (HasItem states) (HasEdge states) (Reduces states) (checked_automaton grammar s states ok)
    alone e.moves w ts limit e.run e.whole e.within
ends_right grammar s states alone ok w limit (wrong_token i) e =
    let h = e.stops in
    subst (λ j. IsRightParseAnswer (Contains grammar) s w limit (wrong_token j)) (sym e.place)
    (stopped_right (Contains grammar) s (HasItem states) (HasEdge states) (Reduces states) (checked_automaton grammar s states ok)
    alone h.moves w e.made (e.token ∷ e.left) h.state limit h.run h.walk h.none_allowed)
ends_right grammar s states alone ok w limit wrong_end e =
    let h = e.1 in
    stopped_right (Contains grammar) s (HasItem states) (HasEdge states) (Reduces states) (checked_automaton grammar s states ok)
    alone h.moves w e.0 [] h.state limit h.run h.walk h.none_allowed
ends_right grammar s states alone ok w limit over_limit e =
    limit_right (Contains grammar) s (HasItem states) (HasEdge states) (Reduces states) (checked_automaton grammar s states ok)
    alone e.moves w e.made e.left limit e.run e.count
