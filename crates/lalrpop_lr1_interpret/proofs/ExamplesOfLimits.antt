-- Limits, computed: states that shift one token and stop, under a limit of no move and of one.
use Rattle.std.proofs.Common.{◌≡◌, ℕ, zero, suc, List, [], ◌∷◌, Err, None, Some, arith, length, refl, subst, sym}
use Rattle.std.specs.Prelude.{slice_get}
use Rattle.std.proofs.Common.{Contains}
use Rattle.lalrpop_grammar_symbols.specs.Symbols.{Terminal}
use Rattle.lalrpop_lr1_theory.specs.Automata.{stands}
use Rattle.lalrpop_lr1_theory.specs.Productions.{Next, Production, first}
use Rattle.lalrpop_lr1_theory.specs.Runs.{Allows, PassesLimit, RunsOver}
use Rattle.lalrpop_lr1_theory.specs.States.{HasEdge, Reduces, Reduction, State}
use Rattle.lalrpop_lr1_theory.specs.Trees.{Forest, Move, leaf, none, reduce, shift}
use Rattle.lalrpop_lr1_theory.proofs.ExamplesOfStates.{state_of}
use Rattle.lalrpop_grammar.specs.declared.token.ScanToken.{ScanToken}
use Rattle.lalrpop_grammar_symbols.specs.Views.{terminal_view}
use Rattle.lalrpop_lr1_interpret.specs.Parses.{TellsLimit}
use Rattle.lalrpop_lr1_interpret.specs.declared.parse.stop.Stop.TheVariants.{End, Limit, Memory}
use Rattle.lalrpop_lr1_interpret.proofs.ExamplesOfStacks.{one}

abbrev shifts_one : State
shifts_one = state_of 0 [] ((one, 1) ∷ []) [] []

abbrev one_shift : List State
one_shift = shifts_one ∷ state_of 1 [] [] [] [] ∷ []

-- they make one move
passes_none : PassesLimit one_shift (one ∷ []) 0
passes_none = record {
  moves = shift one ∷ [];
  made = leaf one none;
  left = [];
  run = record {
    state = 0;
    made = leaf one none;
    left = [];
    walk = stands;
    allowed = (refl, 1, (shifts_one, refl, (0, omega arith, refl)));
    leads = refl;
    consumed = refl;
    rest = (refl, refl);
  };
  count = refl;
}

none_held : (x : Reduction) → Contains [] x → ⊥
none_held x c = omega (arith, c.1)

reduces_nothing : (n : ℕ) (p : Production) (x : Next) → Reduces one_shift n p x → ⊥
reduces_nothing n p x r = go n r.state r.at (record { production = p; lookahead = r.lookahead }) r.held
  where
    go : (n : ℕ) (state : State) → slice_get one_shift n ≡ Some state → (a : Reduction) → Contains state.reductions a → ⊥
    go zero state e a c = let same : shifts_one ≡ state = cc in
        none_held a (subst (λ (s : State). Contains s.reductions a) (sym same) c)
    go (suc zero) state e a c = let same : state_of 1 [] [] [] [] ≡ state = cc in
        none_held a (subst (λ (s : State). Contains s.reductions a) (sym same) c)
    go (suc (suc n)) state e a c = let wrong : ⊥ = cc in wrong

-- and not two
passes_no_more : PassesLimit one_shift (one ∷ []) 1 → ⊥
passes_no_more p = go p.moves p.made p.left p.run p.count
  where
    no_move_at_end : (n : ℕ) (m : Move) (w : List Terminal) → w ≡ [] →
        Allows (HasEdge one_shift) (Reduces one_shift) n (first w) m → ⊥
    no_move_at_end n m w e a = at_end m (subst (λ l. Allows (HasEdge one_shift) (Reduces one_shift) n (first l) m) e a)
      where
        at_end : (m : Move) → Allows (HasEdge one_shift) (Reduces one_shift) n None m → ⊥
        at_end (shift t) a = a
        at_end (reduce q) a = reduces_nothing n q None a

    go : (ms : List Move) (f : Forest) (w : List Terminal) → RunsOver one_shift ms (one ∷ []) f w → length ms ≡ 2 → ⊥
    go [] f w r e = omega (arith, e)
    go (m ∷ []) f w r e = omega (arith, e)
    go (shift t ∷ m ∷ ms) f w r e =
        let consumed : one ∷ [] ≡ t ∷ r.left = r.consumed in
        let ended : r.left ≡ [] = cc in
        no_move_at_end r.rest.state m r.left ended r.rest.allowed
    go (reduce q ∷ m ∷ ms) f w r e = reduces_nothing r.state q (Some one) r.allowed

-- So under a limit of none the limit is told of this token, and no end; under a limit of one it is the other way round.
module _ (t : ScanToken) (is_one : terminal_view t.terminal ≡ one) where
  limit_told : TellsLimit {A = ℕ} one_shift (t ∷ []) 0 (Err Limit)
  limit_told = subst (λ u. PassesLimit one_shift (u ∷ []) 0) (sym is_one) passes_none

  no_end : TellsLimit {A = ℕ} one_shift (t ∷ []) 0 (Err End) → ⊥
  no_end h = h limit_told

  end_told : TellsLimit {A = ℕ} one_shift (t ∷ []) 1 (Err End)
  end_told p = passes_no_more (subst (λ u. PassesLimit one_shift (u ∷ []) 1) is_one p)

  no_limit : TellsLimit {A = ℕ} one_shift (t ∷ []) 1 (Err Limit) → ⊥
  no_limit h = end_told h

  no_memory : TellsLimit {A = ℕ} one_shift (t ∷ []) 0 (Err Memory)
  no_memory = tt
