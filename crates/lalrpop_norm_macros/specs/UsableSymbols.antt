-- Closed symbols of which each part can be written back, and grammars that make no others.
use Rattle.std.specs.Prelude.{◌≡◌, true, List, length}
use Rattle.lalrpop_grammar_symbols.specs.Symbols.{Text, Terminal, Closed, Closeds, Sym, WrittenSymbol, list_of}
use Rattle.lalrpop_grammar_language.specs.Enabled.{EnabledGrammar, EnabledRule, Choice, IsRule, has_text}
use Rattle.lalrpop_norm_theory.specs.Premises.{HasNoRecovery, IsResolved, IsSymbolOf}

-- a terminal but that of error recovery, where a bare name is a mapped one
abbrev pub IsUsableTerminal : List Text → Terminal → Type 0
IsUsableTerminal bares (Terminal.quoted t) = Unit {0}
IsUsableTerminal bares (Terminal.regex t) = Unit {0}
IsUsableTerminal bares (Terminal.bare n) = has_text n bares ≡ true
IsUsableTerminal bares Terminal.error = ⊥

-- Nothing of the symbol is faulty, is the terminal of error recovery, or is a bare name that isn't mapped; in arguments neither.
abbrev mutual
  pub IsUsable : List Text → Closed → Type 0
  IsUsable bares (Closed.terminal t) = IsUsableTerminal bares t
  IsUsable bares (Closed.call n args level) = AreUsable bares args
  IsUsable bares (Closed.repeat op x) = IsUsable bares x
  IsUsable bares (Closed.group xs) = AreUsable bares xs
  IsUsable bares (Closed.choose x) = IsUsable bares x
  IsUsable bares (Closed.name m n x) = IsUsable bares x
  IsUsable bares Closed.lookahead = Unit {0}
  IsUsable bares Closed.lookbehind = Unit {0}
  IsUsable bares Closed.faulty = ⊥

  pub AreUsable : List Text → Closeds → Type 0
  AreUsable bares Closeds.none = Unit {0}
  AreUsable bares (Closeds.more x xs) = IsUsable bares x × AreUsable bares xs

-- a call has as many arguments as the rule has parameters
abbrev pub IsRightCount : EnabledGrammar → WrittenSymbol → Type 0
IsRightCount g (Sym.macro p n args) = (q : EnabledRule) → IsRule g n q → length (list_of args) ≡ length q.parameters
IsRightCount g (Sym.ambiguous_id p n) = Unit {0}
IsRightCount g (Sym.nonterminal p n) = Unit {0}
IsRightCount g (Sym.terminal p t) = Unit {0}
IsRightCount g (Sym.name p m n x) = Unit {0}
IsRightCount g (Sym.expr p xs) = Unit {0}
IsRightCount g (Sym.repeat p op x) = Unit {0}
IsRightCount g (Sym.choose p x) = Unit {0}
IsRightCount g (Sym.lookahead p) = Unit {0}
IsRightCount g (Sym.lookbehind p) = Unit {0}
IsRightCount g (Sym.error p) = Unit {0}

-- Each name is resolved, no alternative has the symbol of error recovery, and each call has as many arguments as parameters.
pub record IsRightGrammar (g : EnabledGrammar) : Type 0 where
  pub resolved : IsResolved g
  pub no_recovery : HasNoRecovery g
  pub counts : (r : EnabledRule) (c : Choice) (x : WrittenSymbol) → IsSymbolOf g r c x → IsRightCount g x
