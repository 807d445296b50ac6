-- Sizes of symbols, and lists of arguments in two forms: for comparing arguments.
use Rattle.std.proofs.Common.{◌≡◌, ◌+◌, ℕ, suc, List, [], ◌∷◌, refl, ap₂, map}
use Rattle.lalrpop_grammar_symbols.specs.Symbols.{Argument, Sym, Syms, WrittenSymbol, syms}
use Rattle.lalrpop_grammar_symbols.specs.Views.{all_without_marks, symbol_view, without_marks}
use Rattle.lalrpop_grammar_symbols.specs.declared.symbol.Symbol.{Symbol}

-- how many symbols stand in a symbol, itself with them
abbrev mutual
  pub symbol_size : WrittenSymbol → ℕ
  symbol_size (Sym.expr p xs) = suc (symbols_size xs)
  symbol_size (Sym.ambiguous_id p n) = 1
  symbol_size (Sym.nonterminal p n) = 1
  symbol_size (Sym.terminal p t) = 1
  symbol_size (Sym.macro p n args) = suc (symbols_size args)
  symbol_size (Sym.repeat p op x) = suc (symbol_size x)
  symbol_size (Sym.choose p x) = suc (symbol_size x)
  symbol_size (Sym.name p m n x) = suc (symbol_size x)
  symbol_size (Sym.lookahead p) = 1
  symbol_size (Sym.lookbehind p) = 1
  symbol_size (Sym.error p) = 1

  pub symbols_size : Syms (ℕ × ℕ) → ℕ
  symbols_size Syms.none = 0
  symbols_size (Syms.more x xs) = suc (symbol_size x + symbols_size xs)

-- arguments one by one
abbrev pub arguments_view : List Symbol → List Argument
arguments_view xs = map (λ s. without_marks (symbol_view s)) xs

-- the same as symbols of a symbol
abbrev pub symbols_view : List Symbol → Syms (Unit {0})
symbols_view xs = all_without_marks (syms (map symbol_view xs))

-- symbols that are the same within a symbol, marks aside, are the same as arguments one by one
pub same_arguments : (xs ys : List Symbol) → symbols_view xs ≡ symbols_view ys → arguments_view xs ≡ arguments_view ys
same_arguments [] [] e = refl
same_arguments [] (y ∷ ys) e = cc
same_arguments (x ∷ xs) [] e = cc
same_arguments (x ∷ xs) (y ∷ ys) e =
    let first : without_marks (symbol_view x) ≡ without_marks (symbol_view y) = cc in
    let rest : arguments_view xs ≡ arguments_view ys = same_arguments xs ys (cc) in
    ap₂ (λ a l. a ∷ l) first rest

-- symbols that are the same as arguments one by one are the same within a symbol, marks aside
pub same_symbols : (xs ys : List Symbol) → arguments_view xs ≡ arguments_view ys → symbols_view xs ≡ symbols_view ys
same_symbols [] [] e = refl
same_symbols [] (y ∷ ys) e = cc
same_symbols (x ∷ xs) [] e = cc
same_symbols (x ∷ xs) (y ∷ ys) e =
    let first : without_marks (symbol_view x) ≡ without_marks (symbol_view y) = cc in
    let rest : symbols_view xs ≡ symbols_view ys = same_symbols xs ys (cc) in
    ap₂ (λ a l. Syms.more a l) first rest
