-- Calls found by least depth: rounds find all calls, and what is left at the limit is too deep; for the macro pass.
use Rattle.std.proofs.Common.{ℕ, zero, suc, ◌≤◌, List, [], ◌++◌, inl, inr, ◌⊎◌, arith}
use Rattle.lalrpop_grammar_symbols.specs.Symbols.{Closed}
use Rattle.lalrpop_grammar_language.specs.Among.{Among}
use Rattle.lalrpop_grammar_language.specs.Enabled.{EnabledGrammar}
use Rattle.lalrpop_grammar_language.specs.Expansion.{Nonterminal, IsRoot}
use Rattle.lalrpop_norm_theory.specs.Depth.{CallOccursIn, HasCallChain, IsTooDeep}
use Rattle.lalrpop_norm_theory.specs.Rounds.{AreCallsToDepth, IsCallRound}
use Rattle.lalrpop_norm_theory.proofs.AmongLemmas.{among_either}
use Rattle.lalrpop_grammar_language.proofs.OrderLemmas.{among_parts}

-- a chain goes on by what occurs in its last call
pub longer_chain : (g : EnabledGrammar) (k : ℕ) (y x : Closed) → HasCallChain g k y → CallOccursIn g y x → HasCallChain g (suc k) x
longer_chain g zero y x c o = absurd c
longer_chain g (suc k) y x c o = (y, c, o)

-- one round deeper
pub one_deeper : (g : EnabledGrammar) (depth : ℕ) (walked next found : List Closed) → AreCallsToDepth g depth walked next →
    IsCallRound g walked next found → AreCallsToDepth g (suc depth) (walked ++ next) found
one_deeper g depth walked next found a r = record {
  chains = λ x h. chains x (among_parts walked next x h);
  next_chains = λ x h. let w = r.occurs x h in longer_chain g (suc depth) w.0 x (a.next_chains w.0 w.1) w.2;
  fresh = λ x h k. r.fresh x h (among_parts walked next x k);
  complete = complete;
  shallow = shallow;
}
  where
    chains : (x : Closed) → Among walked x ⊎ Among next x → (k : ℕ) × (k ≤ suc depth) × HasCallChain g k x
    chains x (inl h) = let c = a.chains x h in (c.0, omega (arith, c.1), c.2)
    chains x (inr h) = (suc depth, omega arith, a.next_chains x h)

    known : (x : Closed) → (Among walked x ⊎ Among next x) ⊎ Among found x → Among (walked ++ next) x ⊎ Among found x
    known x (inl h) = inl (among_either walked next x h)
    known x (inr h) = inr h

    of_walked : (y x : Closed) → CallOccursIn g y x → Among walked y ⊎ Among next y → Among (walked ++ next) x ⊎ Among found x
    of_walked y x o (inl h) = inl (among_either walked next x (a.complete y x (inr h) o))
    of_walked y x o (inr h) = known x (r.complete y x h o)

    complete : (y x : Closed) → IsRoot g (Nonterminal.closed y) ⊎ Among (walked ++ next) y → CallOccursIn g y x →
        Among (walked ++ next) x
        ⊎ Among found x
    complete y x (inl p) o = inl (among_either walked next x (a.complete y x (inl p) o))
    complete y x (inr h) o = of_walked y x o (among_parts walked next y h)

    shallow : (k : ℕ) (x : Closed) → k ≤ suc depth → HasCallChain g k x → Among (walked ++ next) x
    shallow zero x le c = absurd c
    shallow (suc zero) x le c = among_either walked next x (a.complete c.0 x (inl c.1) c.2)
    shallow (suc (suc k)) x le c =
        among_either walked next x (a.complete c.0 x (inr (a.shallow (suc k) c.0 (omega (arith, le)) c.1)) c.2)

-- before the first round nothing is walked, and what occurs in rules that are no macros is next
pub before_rounds : (g : EnabledGrammar) (next : List Closed) → ((x : Closed) → Among next x → HasCallChain g 1 x) →
    ((y x : Closed) → IsRoot g (Nonterminal.closed y) → CallOccursIn g y x → Among next x) → AreCallsToDepth g 0 [] next
before_rounds g next chains complete = record {
  chains = λ x h. absurd h;
  next_chains = chains;
  fresh = λ x h k. k;
  complete = λ y x h o. go y x o h;
  shallow = shallow;
}
  where
    go : (y x : Closed) → CallOccursIn g y x → IsRoot g (Nonterminal.closed y) ⊎ ⊥ → Among [] x ⊎ Among next x
    go y x o (inl p) = inr (complete y x p o)
    go y x o (inr h) = absurd h

    shallow : (k : ℕ) (x : Closed) → k ≤ 0 → HasCallChain g k x → Among [] x
    shallow zero x le c = absurd c
    shallow (suc k) x le c = let impossible : ⊥ = omega (arith, le) in absurd impossible

-- what is left at the limit is too deep
pub left_too_deep : (g : EnabledGrammar) (depth : ℕ) (walked next : List Closed) → AreCallsToDepth g depth walked next →
    (x : Closed) → Among next x → IsTooDeep g depth x
left_too_deep g depth walked next a x h = record {
  steps = suc depth;
  chain = a.next_chains x h;
  none_short = λ k le c. a.fresh x h (a.shallow k x le c);
}

-- where nothing is left, all calls are walked
pub all_calls_found : (g : EnabledGrammar) (depth : ℕ) (walked : List Closed) → AreCallsToDepth g depth walked [] → (k : ℕ)
    (x : Closed) → HasCallChain g k x → Among walked x
all_calls_found g depth walked a zero x c = absurd c
all_calls_found g depth walked a (suc zero) x c = walked_only (a.complete c.0 x (inl c.1) c.2)
  where
    walked_only : Among walked x ⊎ ⊥ → Among walked x
    walked_only (inl h) = h
    walked_only (inr h) = absurd h
all_calls_found g depth walked a (suc (suc k)) x c =
    walked_only (a.complete c.0 x (inr (all_calls_found g depth walked a (suc k) c.0 c.1)) c.2)
  where
    walked_only : Among walked x ⊎ ⊥ → Among walked x
    walked_only (inl h) = h
    walked_only (inr h) = absurd h

-- and none is too deep
pub none_too_deep : (g : EnabledGrammar) (depth limit : ℕ) (walked : List Closed) → depth ≤ limit →
    AreCallsToDepth g depth walked [] → (x : Closed) → IsTooDeep g limit x → ⊥
none_too_deep g depth limit walked le a x t =
    let found = all_calls_found g depth walked a t.steps x t.chain in
    let c = a.chains x found in
    t.none_short c.0 (omega (arith, c.1, le)) c.2
