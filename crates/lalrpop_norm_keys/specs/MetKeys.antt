-- Where keys are met in written symbols, beside what these close to: each at the innermost symbol that has it.
use Rattle.std.specs.Prelude.{ℕ, ◌≡◌, List, [], ◌∷◌, ◌++◌, map}
use Rattle.lalrpop_grammar_symbols.specs.Symbols.{Closed, Closeds, Sym, Syms, TextSpan, WrittenSymbol}
use Rattle.lalrpop_grammar_language.specs.Closing.{Scope, close}
use Rattle.lalrpop_norm_theory.specs.KeyTables.{keys_in}
use Rattle.lalrpop_norm_keys.specs.Standing.{keys_of_repeat}

-- a key, and where it is met
abbrev pub MetKey : Type 0
MetKey = Closed × TextSpan

abbrev pub key_of_met : MetKey → Closed
key_of_met m = m.0

-- all of these keys are met in one place
abbrev pub all_met_at : TextSpan → List Closed → List MetKey
all_met_at p [] = []
all_met_at p (x ∷ xs) = (x, p) ∷ all_met_at p xs

-- The keys that a symbol has, in reading order, each at the innermost symbol that has it: a group, a repeat or a lookaround at its own
-- symbol, with `X+` where `X*` is written; what comes by a parameter at the parameter's name, and a call at the call. Where a symbol
-- doesn't close to one of its own form, nothing is met.
abbrev mutual
  pub keys_met : WrittenSymbol → Closed → List MetKey
  keys_met (Sym.expr p xs) (Closed.group cs) = (Closed.group cs, p) ∷ keys_met_in_row xs cs
  keys_met (Sym.expr p xs) _ = []
  keys_met (Sym.repeat p op x) (Closed.repeat o c) = all_met_at p (keys_of_repeat o c) ++ keys_met x c
  keys_met (Sym.repeat p op x) _ = []
  keys_met (Sym.choose p x) (Closed.choose c) = keys_met x c
  keys_met (Sym.choose p x) _ = []
  keys_met (Sym.name p m n x) (Closed.name i j c) = keys_met x c
  keys_met (Sym.name p m n x) _ = []
  keys_met (Sym.ambiguous_id p n) c = all_met_at p (keys_in c)
  keys_met (Sym.nonterminal p n) c = all_met_at p (keys_in c)
  keys_met (Sym.terminal p t) c = all_met_at p (keys_in c)
  keys_met (Sym.macro p n args) c = all_met_at p (keys_in c)
  keys_met (Sym.lookahead p) c = all_met_at p (keys_in c)
  keys_met (Sym.lookbehind p) c = all_met_at p (keys_in c)
  keys_met (Sym.error p) c = all_met_at p (keys_in c)

  -- several symbols, one by one
  pub keys_met_in_row : Syms TextSpan → Closeds → List MetKey
  keys_met_in_row Syms.none cs = []
  keys_met_in_row (Syms.more x xs) Closeds.none = []
  keys_met_in_row (Syms.more x xs) (Closeds.more c cs) = keys_met x c ++ keys_met_in_row xs cs

-- beside what it closes to, a symbol meets the keys that stand there, all of them in order and no others
abbrev pub KeysAreMet : Type 0
KeysAreMet = (s : Scope) (k : ℕ) (w : WrittenSymbol) → map key_of_met (keys_met w (close s k w)) ≡ keys_in (close s k w)
