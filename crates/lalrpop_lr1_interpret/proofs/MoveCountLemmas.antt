-- How many moves runs over tokens make: a longer run goes on where a shorter one ends, and none goes on where states allow nothing; for
-- what is said of limits.
use Rattle.std.proofs.Common.{◌≡◌, ℕ, zero, suc, ◌<◌, ◌≤◌, List, [], ◌∷◌, length, refl, ap, subst, arith}
use Rattle.std.proofs.Common.{Contains, Some, None}
use Rattle.lalrpop_grammar_symbols.specs.Symbols.{Terminal, Text}
use Rattle.lalrpop_lr1_theory.specs.Automata.{Walk, goes, stands}
use Rattle.lalrpop_lr1_theory.specs.CheckedStates.{AreCheckedStates, IsStartAlone}
use Rattle.lalrpop_lr1_theory.specs.Laws.{IsOneRun}
use Rattle.lalrpop_lr1_theory.specs.Productions.{Next, Production, Symbol, first, terminal}
use Rattle.lalrpop_lr1_theory.specs.Runs.{AcceptsWithin, Allows, PassesLimit, Runs, RunsOver}
use Rattle.lalrpop_lr1_theory.specs.States.{HasEdge, HasItem, Reduces, State}
use Rattle.lalrpop_lr1_theory.specs.Trees.{Forest, Move, none, reduce, roots, shift}
use Rattle.lalrpop_lr1_theory.proofs.AnswerLemmas.{no_walk}
use Rattle.lalrpop_lr1_theory.proofs.CheckedLemmas.{checked_automaton}
use Rattle.lalrpop_lr1_theory.proofs.RunLemmas.{runs_one}
use Rattle.lalrpop_lr1_theory.proofs.WalkLemmas.{walk_one}

module _ (Edge : ℕ → Symbol → ℕ → Type 0) (Reduce : ℕ → Production → Next → Type 0) where
  -- a run of so many moves
  pub record HasRunOf (count : ℕ) (f : Forest) (v : List Terminal) : Type 0 where
    pub moves : List Move
    pub made : Forest
    pub left : List Terminal
    pub run : Runs Edge Reduce moves f v made left
    pub many : length moves ≡ count

  -- a run of so many moves, and a move that the states allow where it ends
  pub record RunsOn (count : ℕ) (f : Forest) (v : List Terminal) : Type 0 where
    pub runs : HasRunOf count f v
    pub state : ℕ
    pub move : Move
    pub walk : Walk Edge (roots runs.made) state
    pub allowed : Allows Edge Reduce state (first runs.left) move

  -- a run begins with a run of each smaller number of moves
  pub begins_with : (ms : List Move) (count : ℕ) (f : Forest) (v : List Terminal) (g : Forest) (w : List Terminal) →
      Runs Edge Reduce ms f v g w → count ≤ length ms → HasRunOf count f v
  begins_with ms zero f v g w r h = record { moves = []; made = f; left = v; run = (refl, refl); many = refl }
  begins_with [] (suc count) f v g w r h = absurd (omega arith)
  begins_with (m ∷ ms) (suc count) f v g w r h =
      let k = begins_with ms count r.made r.left g w r.rest (omega arith) in
      record {
        moves = m ∷ k.moves;
        made = k.made;
        left = k.left;
        run = record {
          state = r.state;
          made = r.made;
          left = r.left;
          walk = r.walk;
          allowed = r.allowed;
          leads = r.leads;
          consumed = r.consumed;
          rest = k.run;
        };
        many = ap suc k.many;
      }

  -- and goes on there
  pub goes_on : (ms : List Move) (count : ℕ) (f : Forest) (v : List Terminal) (g : Forest) (w : List Terminal) →
      Runs Edge Reduce ms f v g w → count < length ms → RunsOn count f v
  goes_on [] count f v g w r h = absurd (omega arith)
  goes_on (m ∷ ms) zero f v g w r h = record {
    runs = record { moves = []; made = f; left = v; run = (refl, refl); many = refl };
    state = r.state;
    move = m;
    walk = r.walk;
    allowed = r.allowed;
  }
  goes_on (m ∷ ms) (suc count) f v g w r h =
      let k = goes_on ms count r.made r.left g w r.rest (omega arith) in
      record {
        runs = record {
          moves = m ∷ k.runs.moves;
          made = k.runs.made;
          left = k.runs.left;
          run = record {
            state = r.state;
            made = r.made;
            left = r.left;
            walk = r.walk;
            allowed = r.allowed;
            leads = r.leads;
            consumed = r.consumed;
            rest = k.runs.run;
          };
          many = ap suc k.runs.many;
        };
        state = k.state;
        move = k.move;
        walk = k.walk;
        allowed = k.allowed;
      }

-- Where edges and reductions of one automaton are another's, so are runs.
module _ (E : ℕ → Symbol → ℕ → Type 0) (R : ℕ → Production → Next → Type 0) (E' : ℕ → Symbol → ℕ → Type 0)
    (R' : ℕ → Production → Next → Type 0) (edges : (n : ℕ) (x : Symbol) (m : ℕ) → E n x m → E' n x m)
    (reductions : (n : ℕ) (p : Production) (x : Next) → R n p x → R' n p x) where
  walk_also : (g : List Symbol) (n : ℕ) → Walk E g n → Walk E' g n
  walk_also g n stands = stands
  walk_also g n (goes {g = h} {n = k} x m w e) = goes x m (walk_also h k w) (edges k x m e)

  allows_also : (n : ℕ) (x : Next) (m : Move) → Allows E R n x m → Allows E' R' n x m
  allows_also n (Some t) (shift u) a = (a.0, a.1, edges n (terminal t) a.1 a.2)
  allows_also n None (shift u) a = a
  allows_also n (Some t) (reduce p) a = reductions n p (Some t) a
  allows_also n None (reduce p) a = reductions n p None a

  pub runs_also : (ms : List Move) (f : Forest) (v : List Terminal) (g : Forest) (w : List Terminal) → Runs E R ms f v g w →
      Runs E' R' ms f v g w
  runs_also [] f v g w r = r
  runs_also (m ∷ ms) f v g w r = record {
    state = r.state;
    made = r.made;
    left = r.left;
    walk = walk_also (roots f) r.state r.walk;
    allowed = allows_also r.state (first v) m r.allowed;
    leads = r.leads;
    consumed = r.consumed;
    rest = runs_also ms r.made r.left g w r.rest;
  }

-- where a greater limit is passed, each smaller one is
pub passes_smaller : (states : List State) (tokens : List Terminal) (limit more : ℕ) → limit ≤ more →
    PassesLimit states tokens more → PassesLimit states tokens limit
passes_smaller states tokens limit more h p =
    let r = begins_with (HasEdge states) (Reduces states) p.moves (suc limit) none tokens p.made p.left p.run (omega (arith, p.count)) in
    record { moves = r.moves; made = r.made; left = r.left; run = r.run; count = r.many }

module _ (grammar : List Production) (s : Text) (states : List State) (ok : AreCheckedStates grammar s states) (tokens : List Terminal)
    (limit : ℕ) where
  -- where a run within the limit ends and no move is allowed, none passes the limit
  pub none_passes : (ms : List Move) (f : Forest) (v : List Terminal) → RunsOver states ms tokens f v →
      ((n : ℕ) (m : Move) → Walk (HasEdge states) (roots f) n → Allows (HasEdge states) (Reduces states) n (first v) m → ⊥) →
      length ms ≤ limit → PassesLimit states tokens limit → ⊥
  none_passes ms f v r ends h p =
      let k = goes_on (HasEdge states) (Reduces states) p.moves (length ms) none tokens p.made p.left p.run (omega (arith, p.count)) in
      let one : IsOneRun k.runs.moves ms k.runs.made f k.runs.left v =
      runs_one (Contains grammar) s (HasItem states) (HasEdge states) (Reduces states) (checked_automaton grammar s states ok).automaton
      k.runs.moves ms none tokens k.runs.made f k.runs.left v k.runs.run r k.runs.many in
      ends k.state k.move (subst (λ g. Walk (HasEdge states) (roots g) k.state) one.forests_same k.walk)
      (subst (λ w. Allows (HasEdge states) (Reduces states) k.state (first w) k.move) one.left_same k.allowed)

  -- not where a run is stuck
  pub stuck_passes_none : (ms : List Move) (f : Forest) (v : List Terminal) (n : ℕ) → RunsOver states ms tokens f v →
      Walk (HasEdge states) (roots f) n → ((m : Move) → Allows (HasEdge states) (Reduces states) n (first v) m → ⊥) →
      length ms ≤ limit → PassesLimit states tokens limit → ⊥
  stuck_passes_none ms f v n r walk none_can h =
      none_passes ms f v r
      (λ k m w a.
      none_can m
      (subst (λ j. Allows (HasEdge states) (Reduces states) j (first v) m)
      (walk_one (HasEdge states) ok.cover.one (roots f) k n w walk) a))
      h

  -- nor where one accepts
  pub accepted_passes_none : IsStartAlone grammar s → (ts : Forest) → AcceptsWithin states s tokens limit ts →
      PassesLimit states tokens limit → ⊥
  accepted_passes_none alone ts a =
      none_passes a.moves ts [] a.run
      (λ n m w d.
      no_walk (Contains grammar) s (HasItem states) (HasEdge states) (Reduces states) (checked_automaton grammar s states ok) alone n
      (subst (λ g. Walk (HasEdge states) g n) a.whole w))
      a.within
