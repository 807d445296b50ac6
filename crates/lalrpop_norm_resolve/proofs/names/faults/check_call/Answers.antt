use Rattle.std.proofs.Common.{◌≡◌, ◌∙◌, ◌≤◌, ap, refl, arith, List, [], ◌∷◌, length}
use Rattle.lalrpop_grammar_symbols.specs.Symbols.{Text, TextSpan}
use Rattle.lalrpop_grammar_symbols.specs.SymbolWalks.{symbols_view}
use Rattle.lalrpop_grammar_symbols.specs.Views.{span_view}
use Rattle.lalrpop_grammar_symbols.specs.declared.symbol.Symbol.{Symbol}
use Rattle.lalrpop_norm_theory.specs.NameFaults.{fault_of_call}
use Rattle.lalrpop_norm_theory.specs.Resolving.{NameUse}
use Rattle.lalrpop_norm_resolve.specs.NameViews.{name_use_view}
use Rattle.lalrpop_norm_resolve.proofs.names.faults.check_call.Goals as goal

right_call : (p : TextSpan) (n : Text) (args : List Symbol) → 1 ≤ length args
    → fault_of_call NameUse.macro_rule p n (symbols_view args) ≡ []
right_call p n [] h = absurd (omega (arith, h))
right_call p n (x ∷ xs) h = refl

pub returns-in-MacroRule-len1-up : goal.returns-in-MacroRule-len1-up
returns-in-MacroRule-len1-up c =
    ap (λ m. fault_of_call (name_use_view m) (span_view c.args.span) c.args.name.now (symbols_view c.args.args.now))
    c.in-MacroRule-len1-up.is-0
    ∙ right_call (span_view c.args.span) c.args.name.now c.args.args.now c.in-MacroRule-len1-up.len_at_least
