-- How much there is of closed symbols and of written ones: measures of the walks over them.
use Rattle.std.proofs.Common.{◌≡◌, ℕ, zero, suc, ◌+◌, ◌<◌, List, [], ◌∷◌, ap, map, length, get_or, arith}
use Rattle.lalrpop_grammar_symbols.specs.Symbols.{TextSpan, Closed, Closeds, WrittenSymbol, Syms, syms, Sym}
use Rattle.lalrpop_grammar_symbols.specs.Views.{symbol_view}
use Rattle.lalrpop_grammar_symbols.specs.declared.symbol.Symbol.{Symbol}

abbrev mutual
  -- how much there is of a closed symbol
  pub size : Closed → ℕ
  size (Closed.terminal t) = 1
  size (Closed.call n args level) = suc (sizes args)
  size (Closed.repeat op x) = suc (size x)
  size (Closed.group xs) = suc (sizes xs)
  size (Closed.choose x) = suc (size x)
  size (Closed.name m n x) = suc (size x)
  size Closed.lookahead = 1
  size Closed.lookbehind = 1
  size Closed.faulty = 1

  -- how much there is of a list of closed symbols
  pub sizes : Closeds → ℕ
  sizes Closeds.none = 0
  sizes (Closeds.more x xs) = suc (size x) + sizes xs

abbrev mutual
  -- how much there is of a written symbol
  pub breadth : WrittenSymbol → ℕ
  breadth (Sym.expr p xs) = suc (breadths xs)
  breadth (Sym.ambiguous_id p n) = 1
  breadth (Sym.nonterminal p n) = 1
  breadth (Sym.terminal p t) = 1
  breadth (Sym.macro p n args) = suc (breadths args)
  breadth (Sym.repeat p op x) = suc (breadth x)
  breadth (Sym.choose p x) = suc (breadth x)
  breadth (Sym.name p m n x) = suc (breadth x)
  breadth (Sym.lookahead p) = 1
  breadth (Sym.lookbehind p) = 1
  breadth (Sym.error p) = 1

  -- how much there is of a list of written symbols
  pub breadths : Syms TextSpan → ℕ
  breadths Syms.none = 0
  breadths (Syms.more x xs) = suc (breadth x) + breadths xs

-- a symbol is smaller than a list that has it
pub breadth_in : (xs : List Symbol) (i : ℕ) (x : Symbol) → i < length xs → x ≡ get_or xs i x
    → breadth (symbol_view x) < breadths (syms (map symbol_view xs))
breadth_in [] i x h e = absurd (omega (arith, h))
breadth_in (y ∷ ys) zero x h e =
    let same : breadth (symbol_view x) ≡ breadth (symbol_view y) = ap (λ z. breadth (symbol_view z)) e in omega (arith, same)
breadth_in (y ∷ ys) (suc i) x h e =
    let within : i < length ys = omega (arith, h) in
    let below = breadth_in ys i x within e in omega (arith, below)
