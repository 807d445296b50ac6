-- Lists of symbols lead to one canonical state just where the same items are valid on them: for conflicts over valid items.
use Rattle.std.proofs.Common.{◌≡◌, ◌↔◌, ℕ, List, length, Contains}
use Rattle.lalrpop_grammar_symbols.specs.Symbols.{Terminal, Text}
use Rattle.lalrpop_lr1_theory.specs.Productions.{Next, Production, Symbol, terminal}
use Rattle.lalrpop_lr1_theory.specs.ValidItems.{HasValidItem, HaveSameItems, IsValidItem, NoneBarren}
use Rattle.lalrpop_lr1_theory.specs.Automata.{Finished, Walk}
use Rattle.lalrpop_lr1_theory.specs.States.{HasEdge, HasItem, HasLookahead, State}
use Rattle.lalrpop_lr1_theory.specs.CanonicalStates.{AreCanonicalStates, HaveOneItemSet}
use Rattle.lalrpop_lr1_theory.proofs.CanonicalLemmas.{canonical_valid, carried_look}
use Rattle.lalrpop_lr1_theory.proofs.PassLemmas.{some_carried, some_item}
use Rattle.lalrpop_lr1_theory.proofs.ValidItemLemmas.{carried_from_valid}
use Rattle.lalrpop_lr1_theory.proofs.WalkLemmas.{carried_there}
use Rattle.lalrpop_run.specs.AllConflicts.{MayBeReduced, MayBeShifted}

module _ (grammar : List Production) (s : Text) (states : List State) (can : AreCanonicalStates grammar s states)
    (nb : NoneBarren (Contains grammar) s) where
  -- a state holds what is valid on the symbols that lead to it
  pub looks : (g : List Symbol) (n : ℕ) → Walk (HasEdge states) g n → (p : Production) (i : ℕ) (x : Next)
      → HasLookahead states n p i x ↔ IsValidItem (Contains grammar) s g p i x
  looks = canonical_valid (Contains grammar) s (HasItem states) (HasEdge states) (HasLookahead states) can.automaton nb

  -- each item has something in its lookahead
  has_some : (g : List Symbol) (n : ℕ) → Walk (HasEdge states) g n → (p : Production) (i : ℕ) → HasItem states n p i
      → (x : Next) × HasLookahead states n p i x
  has_some g n w p i k =
      let c = some_carried (Contains grammar) s (HasItem states) (HasEdge states) can.automaton.cover nb g n w p i k in
      (c.0, carried_look (Contains grammar) s (HasItem states) (HasEdge states) (HasLookahead states) can.automaton g n w p i c.0 c.1)

  items_from : (g h : List Symbol) (n m : ℕ) → Walk (HasEdge states) g n → Walk (HasEdge states) h m
      → HaveSameItems (Contains grammar) s g h → (p : Production) (i : ℕ) → HasItem states n p i → HasItem states m p i
  items_from g h n m w v same p i k =
      let x = has_some g n w p i k in
      can.automaton.held m p i x.0 ((looks h m v p i x.0).1 ((same p i x.0).0 ((looks g n w p i x.0).0 x.1)))

  one_set : (g h : List Symbol) (n m : ℕ) → Walk (HasEdge states) g n → Walk (HasEdge states) h m
      → HaveSameItems (Contains grammar) s g h → HaveOneItemSet states n m
  one_set g h n m w v same = record {
    items = λ p i. (
      items_from g h n m w v same p i,
      items_from h g m n v w (λ q j x. ((same q j x).1, (same q j x).0)) p i,
    );
    lookaheads = λ p i x. (
      λ k. (looks h m v p i x).1 ((same p i x).0 ((looks g n w p i x).0 k)),
      λ k. (looks g n w p i x).1 ((same p i x).1 ((looks h m v p i x).0 k)),
    );
  }

  -- an item is valid on symbols that lead to a state
  pub some_valid : (g : List Symbol) (n : ℕ) → Walk (HasEdge states) g n → HasValidItem (Contains grammar) s g
  some_valid g n w =
      let it = some_item (Contains grammar) s (HasItem states) (HasEdge states) can.automaton.cover nb g n w in
      let x = has_some g n w it.0 it.1 it.2 in
      record { production = it.0; dot = it.1; next = x.0; valid = (looks g n w it.0 it.1 x.0).0 x.1 }

  -- symbols on which an item is valid lead to a state
  pub leads_there : (g : List Symbol) (p : Production) (i : ℕ) (x : Next) → IsValidItem (Contains grammar) s g p i x
      → (n : ℕ) × Walk (HasEdge states) g n
  leads_there g p i x v =
      let r = carried_there (Contains grammar) s (HasItem states) (HasEdge states) can.automaton.cover g p i x
      (carried_from_valid (Contains grammar) s g p i x v) in
      (r.0, r.1)

  -- on symbols that lead to one state the same items are valid
  pub one_state_same : (g h : List Symbol) (n : ℕ) → Walk (HasEdge states) g n → Walk (HasEdge states) h n
      → HaveSameItems (Contains grammar) s g h
  one_state_same g h n w v p i x = (
    λ k. (looks h n v p i x).0 ((looks g n w p i x).1 k),
    λ k. (looks g n w p i x).0 ((looks h n v p i x).1 k),
  )

  -- symbols on which the same items are valid lead to one state
  pub same_one_state : (g h : List Symbol) (n m : ℕ) → Walk (HasEdge states) g n → Walk (HasEdge states) h m
      → HaveSameItems (Contains grammar) s g h → n ≡ m
  same_one_state g h n m w v same =
      let a = some_item (Contains grammar) s (HasItem states) (HasEdge states) can.automaton.cover nb g n w in
      let b = some_item (Contains grammar) s (HasItem states) (HasEdge states) can.automaton.cover nb h m v in
      can.distinct n m a.2.state b.2.state a.2.at b.2.at (one_set g h n m w v same)

  -- a state shifts just the terminals that may be shifted on symbols that lead to it
  pub shifts_valid : (g : List Symbol) (n : ℕ) → Walk (HasEdge states) g n → (t : Terminal) (m : ℕ)
      → HasEdge states n (terminal t) m → MayBeShifted (Contains grammar) s g t
  shifts_valid g n w t m e =
      let it = can.automaton.cover.only n (terminal t) m e in
      let x = has_some g n w it.production it.dot it.item in
      record {
        production = it.production;
        dot = it.dot;
        next = x.0;
        rest = it.rest;
        valid = (looks g n w it.production it.dot x.0).0 x.1;
        before = it.before;
      }

  pub valid_shifts : (g : List Symbol) (n : ℕ) → Walk (HasEdge states) g n → (t : Terminal)
      → MayBeShifted (Contains grammar) s g t → (m : ℕ) × HasEdge states n (terminal t) m
  valid_shifts g n w t it =
      can.automaton.cover.onward n it.production it.dot (terminal t) it.rest
      (can.automaton.held n it.production it.dot it.next ((looks g n w it.production it.dot it.next).1 it.valid)) it.before

  -- it reduces by just the productions that may be reduced by there
  pub reduces_valid : (g : List Symbol) (n : ℕ) → Walk (HasEdge states) g n → (p : Production) (x : Next)
      → Finished (HasLookahead states) n p x ↔ MayBeReduced (Contains grammar) s g p x
  reduces_valid g n w p x = looks g n w p (length p.right) x
