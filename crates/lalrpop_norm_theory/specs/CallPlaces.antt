-- Where a call is written: the innermost symbol that has it, in an alternative of a call one less deep.
use Rattle.std.specs.Prelude.{ℕ, zero, suc, ◌+◌, ◌≡◌, ◌⊎◌, true, List, [], ◌∷◌, ◌++◌, Option}
use Rattle.lalrpop_grammar_symbols.specs.Symbols.{Text, TextSpan, Closed, Closeds, Sym, Syms, WrittenSymbol}
use Rattle.lalrpop_grammar_language.specs.Among.{Among}
use Rattle.lalrpop_grammar_language.specs.Enabled.{EnabledGrammar, EnabledRule, Choice}
use Rattle.lalrpop_grammar_language.specs.Levels.{Rank}
use Rattle.lalrpop_grammar_language.specs.Closing.{Binding, Scope, close, is_sound, occurrences, scope_of}
use Rattle.lalrpop_grammar_language.specs.Admitting.{Fits, bind, rank_level}
use Rattle.lalrpop_grammar_language.specs.Expansion.{IsRoot, Nonterminal}
use Rattle.lalrpop_norm_theory.specs.Depth.{HasCallChain, calls_in}

-- where a symbol is written
abbrev pub place_of_symbol : WrittenSymbol → TextSpan
place_of_symbol (Sym.expr p xs) = p
place_of_symbol (Sym.ambiguous_id p n) = p
place_of_symbol (Sym.nonterminal p n) = p
place_of_symbol (Sym.terminal p t) = p
place_of_symbol (Sym.macro p n args) = p
place_of_symbol (Sym.repeat p op x) = p
place_of_symbol (Sym.choose p x) = p
place_of_symbol (Sym.name p m n x) = p
place_of_symbol (Sym.lookahead p) = p
place_of_symbol (Sym.lookbehind p) = p
place_of_symbol (Sym.error p) = p

-- a symbol, and how many occurrences of the rule stand before it in the alternative
abbrev pub CountedSymbol : Type 0
CountedSymbol = ℕ × WrittenSymbol

abbrev mutual
  -- the symbols that stand inside a symbol, at any depth, but for arguments of calls
  pub symbols_within : Binding → Text → ℕ → WrittenSymbol → List CountedSymbol
  symbols_within b o k (Sym.expr p xs) = symbols_of_row b o k xs
  symbols_within b o k (Sym.repeat p op x) = (k, x) ∷ symbols_within b o k x
  symbols_within b o k (Sym.choose p x) = (k, x) ∷ symbols_within b o k x
  symbols_within b o k (Sym.name p m n x) = (k, x) ∷ symbols_within b o k x
  symbols_within b o k (Sym.ambiguous_id p n) = []
  symbols_within b o k (Sym.nonterminal p n) = []
  symbols_within b o k (Sym.terminal p t) = []
  symbols_within b o k (Sym.macro p n args) = []
  symbols_within b o k (Sym.lookahead p) = []
  symbols_within b o k (Sym.lookbehind p) = []
  symbols_within b o k (Sym.error p) = []

  -- several symbols, and what stands inside each
  pub symbols_of_row : Binding → Text → ℕ → Syms TextSpan → List CountedSymbol
  symbols_of_row b o k Syms.none = []
  symbols_of_row b o k (Syms.more x xs) = (k, x) ∷ symbols_within b o k x ++ symbols_of_row b o (k + occurrences b o x) xs

-- the symbols of an alternative
abbrev pub counted_symbols : Binding → Text → ℕ → List WrittenSymbol → List CountedSymbol
counted_symbols b o k [] = []
counted_symbols b o k (x ∷ xs) = (k, x) ∷ counted_symbols b o (k + occurrences b o x) xs

-- the calls that a symbol has, closed there
abbrev pub calls_at : Scope → CountedSymbol → List Closed
calls_at s z = calls_in (close s z.0 z.1)

-- The call is one of those of a symbol, which is this one or stands inside it, and of no symbol inside that one.
pub record IsInnermost (s : Scope) (top : CountedSymbol) (x : Closed) (p : TextSpan) : Type 0 where
  pub symbol : CountedSymbol
  pub stands : (top ≡ symbol) ⊎ Among (symbols_within s.binding s.owner top.0 top.1) symbol
  pub has_call : Among (calls_at s symbol) x
  pub innermost : (z : CountedSymbol) → Among (symbols_within s.binding s.owner symbol.0 symbol.1) z
      → Among (calls_at s z) x → ⊥
  pub place : place_of_symbol symbol.1 ≡ p

-- The call is so in a symbol of the alternative, no part of which is faulty.
pub record IsPlaceInSide (g : EnabledGrammar) (r : EnabledRule) (b : Binding) (c : Choice × Option Rank) (x : Closed) (p : TextSpan)
    : Type 0 where
  pub top : CountedSymbol
  pub among : Among (counted_symbols b r.name 0 c.0.expr) top
  pub sound : is_sound (close (scope_of g r b c.0 c.1) top.0 top.1) ≡ true
  pub innermost : IsInnermost (scope_of g r b c.0 c.1) top x p

-- The call x occurs there in an alternative of the call y that may be chosen.
pub record IsPlaceOfCall (g : EnabledGrammar) (y x : Closed) (p : TextSpan) : Type 0 where
  pub name : Text
  pub args : Closeds
  pub level : Option ℕ
  pub call_is : y ≡ Closed.call name args level
  pub rule : EnabledRule
  pub choice : Choice × Option Rank
  pub fits : Fits g name args rule choice
  pub level_is : rank_level choice.1 ≡ level
  pub place : IsPlaceInSide g rule (bind rule args) choice x p

-- a rule that is no macro, or a call to which so long a chain leads
abbrev pub IsMadeAt : EnabledGrammar → ℕ → Closed → Type 0
IsMadeAt g zero y = IsRoot g (Nonterminal.closed y)
IsMadeAt g (suc k) y = HasCallChain g (suc k) y

-- the call occurs there in one of that depth
abbrev pub IsPlaceBelow : EnabledGrammar → ℕ → Closed → TextSpan → Type 0
IsPlaceBelow g depth x p = (y : Closed) × IsMadeAt g depth y × IsPlaceOfCall g y x p
