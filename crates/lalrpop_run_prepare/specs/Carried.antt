-- What a grammar may hold that isn't carried: an extern block, and the symbol of error recovery.
use Rattle.std.specs.Prelude.{◌≡◌, Bool, true, false, List, Option}
use Rattle.lalrpop_grammar_symbols.specs.Symbols.{Text, Terminal, Sym, WrittenSymbol}
use Rattle.lalrpop_grammar.specs.WrittenGrammar.{ExternBlock, Grammar, WrittenItem}
use Rattle.lalrpop_grammar_language.specs.Among.{Among}
use Rattle.lalrpop_grammar_language.specs.Enabled.{Choice, EnabledGrammar, EnabledRule, enabled_grammar}
use Rattle.lalrpop_norm_theory.specs.Premises.{HasNoExtern, HasNoRecovery, IsSymbolOf}

-- an extern block is one of the items, whatever it says
abbrev pub HasExtern : Grammar → Type 0
HasExtern w = (block : ExternBlock) × Among w.items (WrittenItem.extern_token block)

abbrev pub is_error : Terminal → Bool
is_error Terminal.error = true
is_error (Terminal.quoted t) = false
is_error (Terminal.regex t) = false
is_error (Terminal.bare n) = false

-- `!`
abbrev pub is_recovery : WrittenSymbol → Bool
is_recovery (Sym.error p) = true
is_recovery (Sym.terminal p t) = is_error t
is_recovery (Sym.ambiguous_id p n) = false
is_recovery (Sym.nonterminal p n) = false
is_recovery (Sym.macro p n args) = false
is_recovery (Sym.name p mutable n x) = false
is_recovery (Sym.expr p xs) = false
is_recovery (Sym.repeat p op x) = false
is_recovery (Sym.choose p x) = false
is_recovery (Sym.lookahead p) = false
is_recovery (Sym.lookbehind p) = false

-- An enabled alternative of an enabled rule has it, at any depth; a macro's too, whether it is called or not. A declared type
-- is no alternative.
pub record HasRecovery (g : EnabledGrammar) : Type 0 where
  pub rule : EnabledRule
  pub choice : Choice
  pub symbol : WrittenSymbol
  pub there : IsSymbolOf g rule choice symbol
  pub recovers : is_recovery symbol ≡ true

-- neither is there
pub record IsCarried (finds : Text → Text → Option Bool) (features : List Text) (w : Grammar) : Type 0 where
  pub no_extern : HasNoExtern w
  pub no_recovery : HasNoRecovery (enabled_grammar finds features w)
