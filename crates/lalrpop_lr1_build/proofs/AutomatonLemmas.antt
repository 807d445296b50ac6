-- Automata whose items, edges and lookaheads are the same relations are constructed alike: from states by numbers to states.
use Rattle.std.proofs.Common.{◌↔◌, ℕ, Bool, List, Option, Some}
use Rattle.std.proofs.Common.{None}
use Rattle.lalrpop_grammar_symbols.specs.Symbols.{Text}
use Rattle.lalrpop_lr1_theory.specs.Productions.{Symbol, Production, Next}
use Rattle.lalrpop_lr1_theory.specs.FirstSets.{Derives, First0, ends, grows, keeps}
use Rattle.lalrpop_lr1_theory.specs.Automata.{Closure, IsBegun, IsBegunBefore, IsConstructedAutomaton, IsShifted}
use Rattle.lalrpop_lr1_theory.specs.Automata.{IsShiftedBefore, Marked, Walk, brings, closed, goes, has_next, in_kernel, passes, stands}
use Rattle.lalrpop_lr1_theory.specs.Automata.{starts, there}

module _ (G H : Production → Type 0) (to : (p : Production) → G p → H p) where
  derives_more : {xs ys : List Symbol} → Derives G xs ys → Derives H xs ys
  derives_more ends = ends
  derives_more (keeps x d) = keeps x (derives_more d)
  derives_more (grows p g d e) = grows p (to p g) (derives_more d) (derives_more e)

  first_more : (xs : List Symbol) (x : Next) → First0 G xs x → First0 H xs x
  first_more xs None d = derives_more d
  first_more xs (Some t) d = (d.0, derives_more d.1)

  module _ (K N : Production → ℕ → Type 0) (kernel : (p : Production) (i : ℕ) → K p i → N p i) where
    pub closure_more : {p : Production} {i : ℕ} → Closure G K p i → Closure H N p i
    closure_more (in_kernel p i k) = in_kernel p i (kernel p i k)
    closure_more (closed b q c e g) = closed b q (closure_more c) e (to q g)

    module _ (firsts : Bool) (U V : Production → ℕ → Next → Type 0)
        (under : (p : Production) (i : ℕ) (x : Next) → U p i x → V p i x) where
      pub marked_more : {p : Production} {i : ℕ} {m : Option Next} → Marked firsts G K U p i m → Marked firsts H N V p i m
      marked_more (there p i k) = there p i (kernel p i k)
      marked_more (has_next p i x u) = has_next p i x (under p i x u)
      marked_more (brings b q m e g) = brings b q (marked_more m) e (to q g)
      marked_more (starts b q t f m e g h) = starts b q t f (marked_more m) e (to q g) (first_more b (Some t) h)
      marked_more (passes b q x m e g h) = passes b q x (marked_more m) e (to q g) (first_more b None h)

pub shifted_more : (Item Other : ℕ → Production → ℕ → Type 0) →
    ((n : ℕ) (p : Production) (i : ℕ) → Item n p i → Other n p i) →
    (n : ℕ) (x : Symbol) (p : Production) (i : ℕ) → IsShifted Item n x p i → IsShifted Other n x p i
shifted_more Item Other to n x p i h =
    record { dot = h.dot; rest = h.rest; on = h.on; item = to n p h.dot h.item; before = h.before }

-- a walk along edges is a walk along any edges that include these
pub walk_more : (Edge Other : ℕ → Symbol → ℕ → Type 0) → ((n : ℕ) (x : Symbol) (m : ℕ) → Edge n x m → Other n x m) →
    {g : List Symbol} {n : ℕ} → Walk Edge g n → Walk Other g n
walk_more Edge Other to stands = stands
walk_more Edge Other to (goes {n = n} x m w e) = goes x m (walk_more Edge Other to w) (to n x m e)

module _ (firsts : Bool) (Start : Next → Type 0) (s : Text) (G H : Production → Type 0)
    (same : (p : Production) → G p ↔ H p) (Item Item' : ℕ → Production → ℕ → Type 0)
    (items : (n : ℕ) (p : Production) (i : ℕ) → Item n p i ↔ Item' n p i) (Edge Edge' : ℕ → Symbol → ℕ → Type 0)
    (edges : (n : ℕ) (x : Symbol) (m : ℕ) → Edge n x m ↔ Edge' n x m) (Look Look' : ℕ → Production → ℕ → Next → Type 0)
    (looks : (n : ℕ) (p : Production) (i : ℕ) (x : Next) → Look n p i x ↔ Look' n p i x) where
  begun_to : (p : Production) (i : ℕ) → IsBegun G s p i → IsBegun H s p i
  begun_to p i h = ((same p).0 h.0, h.1, h.2)

  begun_from : (p : Production) (i : ℕ) → IsBegun H s p i → IsBegun G s p i
  begun_from p i h = ((same p).1 h.0, h.1, h.2)

  to : (p : Production) → G p → H p
  to p = (same p).0

  from : (p : Production) → H p → G p
  from p = (same p).1

  items_to : (n : ℕ) (p : Production) (i : ℕ) → Item n p i → Item' n p i
  items_to n p i = (items n p i).0

  items_from : (n : ℕ) (p : Production) (i : ℕ) → Item' n p i → Item n p i
  items_from n p i = (items n p i).1

  edges_to : (n : ℕ) (x : Symbol) (m : ℕ) → Edge n x m → Edge' n x m
  edges_to n x m = (edges n x m).0

  -- the automaton of the second relations
  pub automaton_same : IsConstructedAutomaton firsts Start G s Item Edge Look → IsConstructedAutomaton firsts Start H s Item' Edge' Look'
  automaton_same a = record {
    cover = record {
      start = λ p i. (
        λ h. closure_more G H to (IsBegun G s) (IsBegun H s) begun_to ((a.cover.start p i).0 (items_from 0 p i h)),
        λ c. items_to 0 p i ((a.cover.start p i).1 (closure_more H G from (IsBegun H s) (IsBegun G s) begun_from c)),
      );
      onward = λ n p i x b h e. let r = a.cover.onward n p i x b (items_from n p i h) e in (r.0, edges_to n x r.0 r.1);
      one = λ n x m k e f. a.cover.one n x m k ((edges n x m).1 e) ((edges n x k).1 f);
      next = λ n x m e p i. (
        λ h. closure_more G H to (IsShifted Item n x) (IsShifted Item' n x) (shifted_more Item Item' items_to n x)
            ((a.cover.next n x m ((edges n x m).1 e) p i).0 (items_from m p i h)),
        λ c. items_to m p i ((a.cover.next n x m ((edges n x m).1 e) p i).1
            (closure_more H G from (IsShifted Item' n x) (IsShifted Item n x) (shifted_more Item' Item items_from n x) c)),
      );
      only = λ n x m e. let h = a.cover.only n x m ((edges n x m).1 e) in
          record {
            production = h.production;
            dot = h.dot;
            rest = h.rest;
            item = items_to n h.production h.dot h.item;
            before = h.before;
          };
    };
    held = λ n p i x h. items_to n p i (a.held n p i x ((looks n p i x).1 h));
    look_start = λ p i x. (
      λ h. marked_more G H to (IsBegun G s) (IsBegun H s) begun_to firsts (IsBegunBefore Start G s) (IsBegunBefore Start H s)
          (λ q j y b. (begun_to q j b.0, b.1)) ((a.look_start p i x).0 ((looks 0 p i x).1 h)),
      λ m. (looks 0 p i x).0 ((a.look_start p i x).1 (marked_more H G from (IsBegun H s) (IsBegun G s) begun_from firsts
          (IsBegunBefore Start H s) (IsBegunBefore Start G s) (λ q j y b. (begun_from q j b.0, b.1)) m)),
    );
    look_next = λ n x m e p i y. (
      λ h. marked_more G H to (IsShifted Item n x) (IsShifted Item' n x) (shifted_more Item Item' items_to n x) firsts
          (IsShiftedBefore Look n x) (IsShiftedBefore Look' n x)
          (λ q j z. shifted_more (λ k r d. Look k r d z) (λ k r d. Look' k r d z) (λ k r d. (looks k r d z).0) n x q j)
          ((a.look_next n x m ((edges n x m).1 e) p i y).0 ((looks m p i y).1 h)),
      λ c. (looks m p i y).0 ((a.look_next n x m ((edges n x m).1 e) p i y).1
          (marked_more H G from (IsShifted Item' n x) (IsShifted Item n x) (shifted_more Item' Item items_from n x) firsts
          (IsShiftedBefore Look' n x) (IsShiftedBefore Look n x)
          (λ q j z. shifted_more (λ k r d. Look' k r d z) (λ k r d. Look k r d z) (λ k r d. (looks k r d z).1) n x q j) c)),
    );
    reached = λ n p i h. let r = a.reached n p i (items_from n p i h) in (r.0, walk_more Edge Edge' edges_to r.1);
  }
