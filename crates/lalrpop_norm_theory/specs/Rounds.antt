-- Calls found by least depth, round by round.
use Rattle.std.specs.Prelude.{ℕ, suc, ◌≤◌, ◌⊎◌, List}
use Rattle.lalrpop_grammar_symbols.specs.Symbols.{Closed}
use Rattle.lalrpop_grammar_language.specs.Among.{Among}
use Rattle.lalrpop_grammar_language.specs.Enabled.{EnabledGrammar}
use Rattle.lalrpop_grammar_language.specs.Expansion.{Nonterminal, IsRoot}
use Rattle.lalrpop_norm_theory.specs.Depth.{CallOccursIn, HasCallChain}

-- After so many rounds: the calls whose right sides were walked are just those with a chain of at most that length, and the
-- next ones are what occurs in a rule that is no macro, or in a walked call, and isn't walked; each has a chain one longer.
pub record AreCallsToDepth (g : EnabledGrammar) (depth : ℕ) (walked next : List Closed) : Type 0 where
  pub chains : (x : Closed) → Among walked x → (k : ℕ) × (k ≤ depth) × HasCallChain g k x
  pub next_chains : (x : Closed) → Among next x → HasCallChain g (suc depth) x
  pub fresh : (x : Closed) → Among next x → Among walked x → ⊥
  pub complete : (y x : Closed) → IsRoot g (Nonterminal.closed y) ⊎ Among walked y → CallOccursIn g y x →
      Among walked x ⊎ Among next x
  pub shallow : (k : ℕ) (x : Closed) → k ≤ depth → HasCallChain g k x → Among walked x

-- One round: what occurs in the next ones is found, but for what was known.
pub record IsCallRound (g : EnabledGrammar) (walked next found : List Closed) : Type 0 where
  pub occurs : (x : Closed) → Among found x → (y : Closed) × Among next y × CallOccursIn g y x
  pub fresh : (x : Closed) → Among found x → Among walked x ⊎ Among next x → ⊥
  pub complete : (y x : Closed) → Among next y → CallOccursIn g y x → (Among walked x ⊎ Among next x) ⊎ Among found x
