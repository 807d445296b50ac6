-- Chains of macro calls are the same under the names of the levels; for the law of chains.
use Rattle.std.proofs.Common.{◌≡◌, ℕ, zero, suc, ◌++◌, refl, ap, sym, ◌∙◌, subst, Bool}
use Rattle.std.specs.Prelude.{Option, map}
use Rattle.lalrpop_grammar_symbols.specs.Symbols.{Text, Closed, Closeds}
use Rattle.lalrpop_grammar.specs.WrittenGrammar.{Grammar}
use Rattle.lalrpop_grammar_language.specs.Among.{Among}
use Rattle.lalrpop_grammar_language.specs.Expansion.{GrammarSymbol, Nonterminal, IsRoot, InExpansion}
use Rattle.lalrpop_grammar_language.proofs.PlaceLemmas.{among_map}
use Rattle.lalrpop_norm_theory.specs.Depth.{calls_in, calls_in_all, calls_in_grammar_symbol, CallOccursIn, HasCallChain}
use Rattle.lalrpop_norm_theory.specs.Same.{rename_symbol}
use Rattle.lalrpop_grammar_language.proofs.AmongLemmas.{map_among}
use Rattle.lalrpop_norm_theory.specs.LevelRules.{by_level_names, all_by_level_names}
use Rattle.lalrpop_norm_theory.proofs.KeyTableLemmas.{chain_reached}
use Rattle.lalrpop_norm_theory.specs.LevelLaws.{nonterminal_by_level, IsLevelable}
use Rattle.lalrpop_norm_theory.proofs.LevelNameLemmas.{before, after}
use Rattle.lalrpop_norm_theory.proofs.LevelExpansionLemmas.{well_in, forth, back, root_forth, root_back}
use Rattle.lalrpop_norm_theory.proofs.WellLeveledLemmas.{well_apart}
use Rattle.lalrpop_norm_theory.specs.ChainLaws.{SameChains, SameDeepCalls}
use Rattle.lalrpop_norm_theory.proofs.LevelPlaceLemmas.{joined-renamed}

-- calls under the names of the levels

mutual
  calls-renamed : (f : Text → ℕ → Text) (x : Closed) → calls_in (by_level_names f x) ≡ map (by_level_names f) (calls_in x)
  calls-renamed f (Closed.terminal t) = refl
  calls-renamed f (Closed.call n Closeds.none level) = refl
  calls-renamed f (Closed.call n (Closeds.more x xs) level) = refl
  calls-renamed f (Closed.repeat op x) = calls-renamed f x
  calls-renamed f (Closed.group xs) = all_calls-renamed f xs
  calls-renamed f (Closed.choose x) = calls-renamed f x
  calls-renamed f (Closed.name m n x) = calls-renamed f x
  calls-renamed f Closed.lookahead = refl
  calls-renamed f Closed.lookbehind = refl
  calls-renamed f Closed.faulty = refl

  all_calls-renamed : (f : Text → ℕ → Text) (xs : Closeds) →
      calls_in_all (all_by_level_names f xs) ≡ map (by_level_names f) (calls_in_all xs)
  all_calls-renamed f Closeds.none = refl
  all_calls-renamed f (Closeds.more x xs) =
      ap (λ l. l ++ calls_in_all (all_by_level_names f xs)) (calls-renamed f x)
      ∙ ap (λ l. map (by_level_names f) (calls_in x) ++ l) (all_calls-renamed f xs)
      ∙ joined-renamed f (calls_in x) (calls_in_all xs)

symbol_calls : (f : Text → ℕ → Text) (s : GrammarSymbol Nonterminal) →
    calls_in_grammar_symbol (rename_symbol (nonterminal_by_level f) s) ≡ map (by_level_names f) (calls_in_grammar_symbol s)
symbol_calls f (GrammarSymbol.terminal t) = refl
symbol_calls f (GrammarSymbol.nonterminal (Nonterminal.start n)) = refl
symbol_calls f (GrammarSymbol.nonterminal (Nonterminal.closed x)) = calls-renamed f x

-- a call that occurs

occurs_there : (finds : Text → Text → Option Bool) (g : Grammar) (f : Text → ℕ → Text) → IsLevelable finds g f →
    (y x : Closed) → InExpansion (before finds g) (Nonterminal.closed y) → CallOccursIn (before finds g) y x →
    CallOccursIn (after finds g f) (by_level_names f y) (by_level_names f x)
occurs_there finds g f w y x i o =
    let u = forth finds g f w (Nonterminal.closed y) (well_in finds g f w (Nonterminal.closed y) i) o.origin o.side o.produced in
    record {
      origin = u.0;
      side = map (rename_symbol (nonterminal_by_level f)) o.side;
      produced = u.1;
      symbol = rename_symbol (nonterminal_by_level f) o.symbol;
      in_side = map_among (rename_symbol (nonterminal_by_level f)) o.side o.symbol o.in_side;
      call_is = subst (λ l. Among l (by_level_names f x)) (sym (symbol_calls f o.symbol))
          (map_among (by_level_names f) (calls_in_grammar_symbol o.symbol) x o.call_is);
    }

occurs_from : (finds : Text → Text → Option Bool) (g : Grammar) (f : Text → ℕ → Text) → IsLevelable finds g f →
    (y z : Closed) → InExpansion (before finds g) (Nonterminal.closed y) → CallOccursIn (after finds g f) (by_level_names f y) z →
    (x : Closed) × CallOccursIn (before finds g) y x × (z ≡ by_level_names f x)
occurs_from finds g f w y z i o =
    let b = back finds g f w (Nonterminal.closed y) (well_in finds g f w (Nonterminal.closed y) i) o.origin o.side o.produced in
    let s = among_map (rename_symbol (nonterminal_by_level f)) b.1 o.symbol (subst (λ l. Among l o.symbol) b.3 o.in_side) in
    let c = among_map (by_level_names f) (calls_in_grammar_symbol s.0) z
    (subst (λ l. Among l z) (ap calls_in_grammar_symbol (sym s.2) ∙ symbol_calls f s.0) o.call_is) in
    (c.0, record { origin = b.0; side = b.1; produced = b.2; symbol = s.0; in_side = s.1; call_is = c.1 }, sym c.2)

-- chains

chain_there : (finds : Text → Text → Option Bool) (g : Grammar) (f : Text → ℕ → Text) → IsLevelable finds g f →
    (k : ℕ) (x : Closed) → HasCallChain (before finds g) k x → HasCallChain (after finds g f) k (by_level_names f x)
chain_there finds g f w zero x c = absurd c
chain_there finds g f w (suc zero) x (y, r, o) =
    (by_level_names f y, root_forth finds g f w (Nonterminal.closed y) r, occurs_there finds g f w y x (zero, r) o)
chain_there finds g f w (suc (suc k)) x (y, c, o) = (
  by_level_names f y,
  chain_there finds g f w (suc k) y c,
  occurs_there finds g f w y x (chain_reached (before finds g) (suc k) y c) o,
)

chain_from : (finds : Text → Text → Option Bool) (g : Grammar) (f : Text → ℕ → Text) → IsLevelable finds g f →
    (k : ℕ) (z : Closed) → HasCallChain (after finds g f) k z →
    (x : Closed) × HasCallChain (before finds g) k x × (z ≡ by_level_names f x)
chain_from finds g f w zero z c = absurd c
chain_from finds g f w (suc zero) z (y, r, o) =
    let b = root_back finds g f w (Nonterminal.closed y) r in go b.0 b.1 b.2
  where
    go : (v : Nonterminal) → IsRoot (before finds g) v → Nonterminal.closed y ≡ nonterminal_by_level f v →
        (x : Closed) × HasCallChain (before finds g) (suc zero) x × (z ≡ by_level_names f x)
    go (Nonterminal.start n) q e = cc
    go (Nonterminal.closed v) q e =
        let same : y ≡ by_level_names f v = cc in
        let u = occurs_from finds g f w v z (zero, q) (subst (λ a. CallOccursIn (after finds g f) a z) same o) in
        (u.0, (v, q, u.1), u.2)
chain_from finds g f w (suc (suc k)) z (y, c, o) =
    let b = chain_from finds g f w (suc k) y c in
    let u = occurs_from finds g f w b.0 z (chain_reached (before finds g) (suc k) b.0 b.1)
    (subst (λ a. CallOccursIn (after finds g f) a z) b.2 o) in
    (u.0, (b.0, b.1, u.1), u.2)

-- chains of calls are the same
pub same_chains : (finds : Text → Text → Option Bool) (g : Grammar) (f : Text → ℕ → Text) → IsLevelable finds g f →
    SameChains (before finds g) (after finds g f) (by_level_names f)
same_chains finds g f w = record { there = λ k x c. chain_there finds g f w k x c; no_other = λ k z c. chain_from finds g f w k z c }

-- and so are calls that are too deep
pub same_deep_calls : (finds : Text → Text → Option Bool) (g : Grammar) (f : Text → ℕ → Text) → IsLevelable finds g f →
    SameDeepCalls (before finds g) (after finds g f) (by_level_names f)
same_deep_calls finds g f w = record {
  there = λ limit x d. record {
    steps = d.steps;
    chain = chain_there finds g f w d.steps x d.chain;
    none_short = λ k le c. d.none_short k le (same_call x d.steps d.chain k (chain_from finds g f w k (by_level_names f x) c));
  };
  no_other = λ limit z d. let u = chain_from finds g f w d.steps z d.chain in (
    u.0,
    record {
      steps = d.steps;
      chain = u.1;
      none_short = λ k le c. d.none_short k le (subst (HasCallChain (after finds g f) k) (sym u.2) (chain_there finds g f w k u.0 c));
    },
    u.2,
  );
}
  where
    same_call : (x : Closed) (n : ℕ) → HasCallChain (before finds g) n x → (k : ℕ) →
        (y : Closed) × HasCallChain (before finds g) k y × (by_level_names f x ≡ by_level_names f y) →
        HasCallChain (before finds g) k x
    same_call x n c k (y, d, e) =
        let same : y ≡ x = well_apart finds g f w.names y x
        (well_in finds g f w (Nonterminal.closed y) (chain_reached (before finds g) k y d))
        (well_in finds g f w (Nonterminal.closed x) (chain_reached (before finds g) n x c)) (sym e) in
        subst (HasCallChain (before finds g) k) same d
