-- How deep a macro call stands: by the shortest chain of calls that leads to it from a rule that is no macro.
use Rattle.std.specs.Prelude.{ℕ, zero, suc, ◌≤◌, List, [], ◌∷◌, ◌++◌}
use Rattle.lalrpop_grammar_symbols.specs.Symbols.{Closed, Closeds}
use Rattle.lalrpop_grammar.specs.WrittenGrammar.{Origin}
use Rattle.lalrpop_grammar_language.specs.Among.{Among}
use Rattle.lalrpop_grammar_language.specs.Enabled.{EnabledGrammar}
use Rattle.lalrpop_grammar_language.specs.Expansion.{GrammarSymbol, Nonterminal, RightSide, Produces, IsRoot}

-- the calls that stand in a symbol, through groups, repeats, names and choices; one that stands as an argument alone doesn't
abbrev mutual
  pub calls_in : Closed → List Closed
  calls_in (Closed.terminal t) = []
  calls_in (Closed.call n Closeds.none level) = []
  calls_in (Closed.call n (Closeds.more x xs) level) = Closed.call n (Closeds.more x xs) level ∷ []
  calls_in (Closed.repeat op x) = calls_in x
  calls_in (Closed.group xs) = calls_in_all xs
  calls_in (Closed.choose x) = calls_in x
  calls_in (Closed.name m n x) = calls_in x
  calls_in Closed.lookahead = []
  calls_in Closed.lookbehind = []
  calls_in Closed.faulty = []

  pub calls_in_all : Closeds → List Closed
  calls_in_all Closeds.none = []
  calls_in_all (Closeds.more x xs) = calls_in x ++ calls_in_all xs

-- the calls in a symbol of a right side
abbrev pub calls_in_grammar_symbol : GrammarSymbol Nonterminal → List Closed
calls_in_grammar_symbol (GrammarSymbol.terminal t) = []
calls_in_grammar_symbol (GrammarSymbol.nonterminal (Nonterminal.start n)) = []
calls_in_grammar_symbol (GrammarSymbol.nonterminal (Nonterminal.closed x)) = calls_in x

-- The call x occurs in y, a rule or an instance: it stands in an alternative of y, or is the target of its pass-down.
pub record CallOccursIn (g : EnabledGrammar) (y x : Closed) : Type 0 where
  pub origin : Origin
  pub side : RightSide
  pub produced : Produces g (Nonterminal.closed y) origin side
  pub symbol : GrammarSymbol Nonterminal
  pub in_side : Among side symbol
  pub call_is : Among (calls_in_grammar_symbol symbol) x

-- A chain of so many calls leads to the call: the first occurs in a root, which is a rule that is no macro, at one of its
-- levels; each other one occurs in the one before.
abbrev pub HasCallChain : EnabledGrammar → ℕ → Closed → Type 0
HasCallChain g zero x = ⊥
HasCallChain g (suc zero) x = (y : Closed) × IsRoot g (Nonterminal.closed y) × CallOccursIn g y x
HasCallChain g (suc (suc k)) x = (y : Closed) × HasCallChain g (suc k) y × CallOccursIn g y x

-- The call's depth is the length of its shortest chain.
pub record HasDepth (g : EnabledGrammar) (depth : ℕ) (x : Closed) : Type 0 where
  pub chain : HasCallChain g depth x
  pub shortest : (k : ℕ) → HasCallChain g k x → depth ≤ k

-- Some chain leads to the call, and none that is as short as the limit allows.
pub record IsTooDeep (g : EnabledGrammar) (limit : ℕ) (x : Closed) : Type 0 where
  pub steps : ℕ
  pub chain : HasCallChain g steps x
  pub none_short : (k : ℕ) → k ≤ limit → HasCallChain g k x → ⊥
