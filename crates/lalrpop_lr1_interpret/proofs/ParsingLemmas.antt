-- What a parse keeps, move by move, over checked states: for the machine.
use Rattle.std.proofs.Common.{◌≡◌, ◌-◌, ◌+◌, ◌<◌, ◌≤◌, ℕ, zero, suc, Bool, false, List, []}
use Rattle.std.proofs.Common.{◌∷◌, ◌++◌, take, drop, length}
use Rattle.std.proofs.Common.{get_or, Some, None, refl, sym, ap, ◌∙◌, subst, arith, Contains, length-append}
use Rattle.std.proofs.Common.{⊎_elim}
use Rattle.std.proofs.lemmas.Option.{slice_get_within}
use Rattle.lalrpop_grammar_symbols.specs.Symbols.{Terminal, Text}
use Rattle.lalrpop_lr1_theory.specs.Productions.{Next, Production, Symbol, first, nonterminal, terminal}
use Rattle.lalrpop_lr1_theory.specs.Trees.{Forest, Move, MovesLead, leaf, node, none, reduce, roots, shift, ◌and◌}
use Rattle.lalrpop_lr1_theory.specs.Automata.{Walk}
use Rattle.lalrpop_lr1_theory.specs.States.{HasEdge, HasItem, Reduces, State}
use Rattle.lalrpop_lr1_theory.specs.Runs.{Allows, AcceptsWithin, Consumes, PassesLimit, Runs, RunsOver}
use Rattle.lalrpop_lr1_theory.specs.CheckedStates.{AreCheckedStates}
use Rattle.lalrpop_lr1_theory.proofs.CheckedLemmas.{checked_automaton}
use Rattle.lalrpop_lr1_theory.proofs.PassLemmas.{some_item}
use Rattle.lalrpop_lr1_theory.proofs.SoundnessLemmas.{can_reduce}
use Rattle.lalrpop_lr1_theory.proofs.TreeLemmas.{and_ends, roots-and}
use Rattle.lalrpop_lr1_theory.proofs.WalkLemmas.{walk_one}
use Rattle.lalrpop_lr1_interpret.specs.Outcomes.{IsStuckAt, ShiftsAll}
use Rattle.lalrpop_lr1_interpret.specs.Stacks.{AreStatesOn, EndsByShift, by_shift, no_moves}
use Rattle.lalrpop_lr1_interpret.proofs.StackLemmas.{states_cut, states_on, states_start, states_top}

-- Between two moves: the forest that the moves so far have made of the first tokens, and the states on the stack. Where a parse
-- isn't to be finished, it ends once all tokens are shifted.
pub record Parsing (states : List State) (w : List Terminal) (limit : ℕ) (whole : Bool) (numbers : List ℕ) (f : Forest)
    (at left : ℕ) : Type 0 where
  pub within : at ≤ length w
  pub stack : AreStatesOn (HasEdge states) numbers (roots f)
  pub moves : List Move
  pub run : RunsOver states moves w f (drop at w)
  pub left_is : length moves + left ≡ limit
  pub last : whole ≡ false → at ≡ length w → EndsByShift moves

-- before the first move only state 0 is on the stack, there is no tree yet, and the whole limit is left
pub parsing_start : (states : List State) (w : List Terminal) (limit : ℕ) (whole : Bool) →
    Parsing states w limit whole (0 ∷ []) none 0 limit
parsing_start states w limit whole = record {
  within = omega arith;
  stack = states_start (HasEdge states);
  moves = [];
  run = (refl, refl);
  left_is = omega arith;
  last = λ _ _. no_moves;
}

-- a state to which symbols lead is one of the states
pub walk_in : (grammar : List Production) (s : Text) (states : List State) → AreCheckedStates grammar s states →
    (g : List Symbol) (n : ℕ) → Walk (HasEdge states) g n → n < length states
walk_in grammar s states ok g n w =
    let i = some_item (Contains grammar) s (HasItem states) (HasEdge states) ok.cover ok.none_barren g n w in
    slice_get_within states n i.2.state i.2.at

-- one more move at the end of a run
runs_more : (Edge : ℕ → Symbol → ℕ → Type 0) (R : ℕ → Production → Next → Type 0) (ms : List Move) (f : Forest)
    (v : List Terminal) (g : Forest) (w : List Terminal) (n : ℕ) (m : Move) (h : Forest) (u : List Terminal) →
    Runs Edge R ms f v g w → Walk Edge (roots g) n → Allows Edge R n (first w) m → MovesLead (m ∷ []) g h → Consumes m w u →
    Runs Edge R (ms ++ m ∷ []) f v h u
runs_more Edge R [] f v g w n m h u r a b c d = record {
  state = n;
  made = h;
  left = u;
  walk = subst (λ x. Walk Edge (roots x) n) (sym r.0) a;
  allowed = subst (λ x. Allows Edge R n (first x) m) (sym r.1) b;
  leads = subst (λ x. MovesLead (m ∷ []) x h) (sym r.0) c;
  consumed = subst (λ x. Consumes m x u) (sym r.1) d;
  rest = (refl, refl);
}
runs_more Edge R (k ∷ ms) f v g w n m h u r a b c d = record {
  state = r.state;
  made = r.made;
  left = r.left;
  walk = r.walk;
  allowed = r.allowed;
  leads = r.leads;
  consumed = r.consumed;
  rest = runs_more Edge R ms r.made r.left g w n m h u r.rest a b c d;
}

-- where a terminal comes next, the place is within the word, and behind it comes what is left at the next place
pub first_drop : (w : List Terminal) (at : ℕ) (t : Terminal) → first (drop at w) ≡ Some t →
    (drop at w ≡ t ∷ drop (suc at) w) × (at < length w)
first_drop [] zero t e = let z : ⊥ = cc in absurd z
first_drop (x ∷ w) zero t e = let z : x ≡ t = cc in (ap (λ y. y ∷ w) z, omega arith)
first_drop [] (suc at) t e = let z : ⊥ = cc in absurd z
first_drop (x ∷ w) (suc at) t e = let r = first_drop w at t e in (r.0, omega (arith, r.1))

pub first_none : (w : List Terminal) → first w ≡ None → w ≡ []
first_none [] e = refl
first_none (t ∷ w) e = let z : ⊥ = cc in absurd z

allows_reduce : (E : ℕ → Symbol → ℕ → Type 0) (R : ℕ → Production → Next →
    Type 0) (n : ℕ) (x : Next) (q : Production) →
    R n q x → Allows E R n x (reduce q)
allows_reduce E R n None q r = r
allows_reduce E R n (Some t) q r = r

module _ (states : List State) (w : List Terminal) (limit : ℕ) (whole : Bool) (ns : List ℕ) (f : Forest) (at left : ℕ)
    (p : Parsing states w limit whole ns f at left) (n : ℕ) (is_top : n ≡ get_or ns (length ns - 1) n) where
  -- the trees lead to the state on top
  pub top_walk : Walk (HasEdge states) (roots f) n
  top_walk = states_top (HasEdge states) ns (roots f) n p.stack is_top

  -- the run with one more shift
  shift_run : (m : ℕ) (u : Terminal) → first (drop at w) ≡ Some u → HasEdge states n (terminal u) m →
      RunsOver states (p.moves ++ shift u ∷ []) w (f and leaf u none) (drop (suc at) w)
  shift_run m u e c =
      runs_more (HasEdge states) (Reduces states) p.moves none w f (drop at w) n (shift u) (f and leaf u none) (drop (suc at) w)
      p.run top_walk (subst (λ x. Allows (HasEdge states) (Reduces states) n x (shift u)) (sym e) (refl, m, c)) refl
      (first_drop w at u e).0

  pub keep_shift : (m left' : ℕ) (ns' : List ℕ) (u : Terminal) → left ≡ suc left' → first (drop at w) ≡ Some u →
      HasEdge states n (terminal u) m → ns' ≡ ns ++ m ∷ [] →
      Parsing states w limit whole ns' (f and leaf u none) (suc at) left'
  keep_shift m left' ns' u l e c k = record {
    within = omega (arith, (first_drop w at u e).1);
    stack = subst (λ x. AreStatesOn (HasEdge states) x (roots (f and leaf u none))) (sym k)
        (subst (AreStatesOn (HasEdge states) (ns ++ m ∷ [])) (sym (roots-and f (leaf u none)))
        (states_on (HasEdge states) ns (roots f) (terminal u) m n p.stack top_walk c));
    moves = p.moves ++ shift u ∷ [];
    run = shift_run m u e c;
    left_is = omega (arith, p.left_is, l, length-append p.moves (shift u ∷ []));
    last = λ _ _. by_shift p.moves u;
  }

  -- a shift that would pass the limit
  pub limit_shift : (m : ℕ) (u : Terminal) → left ≡ 0 → first (drop at w) ≡ Some u → HasEdge states n (terminal u) m →
      PassesLimit states w limit
  limit_shift m u l e c = record {
    moves = p.moves ++ shift u ∷ [];
    made = f and leaf u none;
    left = drop (suc at) w;
    run = shift_run m u e c;
    count = omega (arith, p.left_is, l, length-append p.moves (shift u ∷ []));
  }

  -- where the state allows no move
  pub stuck_there : ((v : Move) → Allows (HasEdge states) (Reduces states) n (first (drop at w)) v → ⊥) →
      IsStuckAt states w limit at n
  stuck_there none_can = record {
    made = f;
    moves = p.moves;
    run = p.run;
    walk = top_walk;
    none_allowed = none_can;
    within = p.within;
    few = omega (arith, p.left_is);
  }

  -- where a parse isn't to be finished, once all tokens are shifted
  pub all_shifted : whole ≡ false → at ≡ length w → ShiftsAll states w limit ns
  all_shifted partly e = record {
    made = f;
    moves = p.moves;
    run = subst (λ v. RunsOver states p.moves w f v) (drop_end w at e) p.run;
    last = p.last partly e;
    stack = p.stack;
    within = omega (arith, p.left_is);
  }
    where
      drop_end : (v : List Terminal) (i : ℕ) → i ≡ length v → drop i v ≡ []
      drop_end [] zero h = refl
      drop_end [] (suc i) h = refl
      drop_end (x ∷ v) zero h = absurd (omega arith)
      drop_end (x ∷ v) (suc i) h = drop_end v i (omega arith)

  module _ (q : Production) (kept children : Forest) (parts : f ≡ kept and children) (roots_are : roots children ≡ q.right)
      (reduces : Reduces states n q (first (drop at w))) where
    -- as many states as are left under the children
    pub kept_count : length ns - length q.right ≡ suc (length (roots kept))
    kept_count =
        omega (
          arith,
          p.stack.counted,
          ap length (ap roots parts),
          ap length (roots-and kept children),
          length-append (roots kept) (roots children),
          ap length roots_are,
        )

    -- they are fewer
    pub room : length q.right < length ns
    room =
        omega (
          arith,
          p.stack.counted,
          ap length (ap roots parts),
          ap length (roots-and kept children),
          length-append (roots kept) (roots children),
          ap length roots_are,
        )

    -- the states under the children
    pub stack_behind : (k : ℕ) → k ≡ length ns - length q.right → AreStatesOn (HasEdge states) (take k ns) (roots kept)
    stack_behind k e =
        states_cut (HasEdge states) ns (roots kept) (roots children) k (e ∙ kept_count)
        (subst (AreStatesOn (HasEdge states) ns) (ap roots parts ∙ roots-and kept children) p.stack)

    -- the run with one more reduction
    reduce_run : RunsOver states (p.moves ++ reduce q ∷ []) w (kept and node q children none) (drop at w)
    reduce_run =
        runs_more (HasEdge states) (Reduces states) p.moves none w f (drop at w) n (reduce q) (kept and node q children none)
        (drop at w) p.run top_walk (allows_reduce (HasEdge states) (Reduces states) n (first (drop at w)) q reduces)
        (record { kept = kept; children = children; parts = parts; roots_are = roots_are; rest = refl }) refl

    pub limit_reduce : left ≡ 0 → PassesLimit states w limit
    limit_reduce l = record {
      moves = p.moves ++ reduce q ∷ [];
      made = kept and node q children none;
      left = drop at w;
      run = reduce_run;
      count = omega (arith, p.left_is, l, length-append p.moves (reduce q ∷ []));
    }

    pub keep_reduce : (k m n2 left' : ℕ) (ns' : List ℕ) → left ≡ suc left' → k ≡ length ns - length q.right →
        Walk (HasEdge states) (roots kept) n2 → HasEdge states n2 (nonterminal q.left) m → ns' ≡ take k ns ++ m ∷ [] →
        (whole ≡ false → at ≡ length w → ⊥) →
        Parsing states w limit whole ns' (kept and node q children none) at left'
    keep_reduce k m n2 left' ns' l e walk edge z early = record {
      within = p.within;
      stack = subst (λ x. AreStatesOn (HasEdge states) x (roots (kept and node q children none))) (sym z)
          (subst (AreStatesOn (HasEdge states) (take k ns ++ m ∷ [])) (sym (roots-and kept (node q children none)))
          (states_on (HasEdge states) (take k ns) (roots kept) (nonterminal q.left) m n2 (stack_behind k e) walk edge));
      moves = p.moves ++ reduce q ∷ [];
      run = reduce_run;
      left_is = omega (arith, p.left_is, l, length-append p.moves (reduce q ∷ []));
      last = λ partly ended. absurd (early partly ended);
    }

    -- where no state follows, the whole is a tree from the start, and no token is left
    pub accepts : (grammar : List Production) (s : Text) → AreCheckedStates grammar s states → (n2 left' : ℕ) →
        left ≡ suc left' →
        Walk (HasEdge states) (roots kept) n2 → ((m : ℕ) → HasEdge states n2 (nonterminal q.left) m → ⊥) →
        (kept ≡ none) × (drop at w ≡ []) × AcceptsWithin states s w limit (kept and node q children none)
    accepts grammar s ok n2 left' l walk none_can =
        let ch = checked_automaton grammar s states ok in
        let c = can_reduce (Contains grammar) s (HasItem states) (HasEdge states) (Reduces states) ch f n q (first (drop at w))
        top_walk reduces in
        let split = and_ends kept c.kept children c.children (roots_are ∙ sym c.roots_are) (sym parts ∙ c.parts) in
        let same = walk_one (HasEdge states) ok.cover.one (roots kept) n2 c.state walk
        (subst (λ x. Walk (HasEdge states) (roots x) c.state) (sym split.0) c.walk) in
        ⊎_elim
        (λ i.
        let empty : kept ≡ none = split.0 ∙ i.0 in
        let ended : drop at w ≡ [] = first_none (drop at w) i.2 in (
          empty,
          ended,
          record {
            moves = p.moves ++ reduce q ∷ [];
            run = subst (λ x. RunsOver states (p.moves ++ reduce q ∷ []) w (kept and node q children none) x) ended reduce_run;
            whole = ap (λ x. roots (x and node q children none)) empty ∙ ap (λ A. nonterminal A ∷ []) i.1;
            within = omega (arith, p.left_is, l, length-append p.moves (reduce q ∷ []));
          },
        ))
        (λ i. absurd (none_can i.0 (subst (λ j. HasEdge states j (nonterminal q.left) i.0) (sym same) i.1)))
        c.leads_on
