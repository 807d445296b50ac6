use Rattle.std.proofs.Common.{◌≡◌, ◌∙◌, ap, sym}
use Rattle.lalrpop_grammar_symbols.specs.Views.{terminal_view}
use Rattle.lalrpop_grammar_symbols.specs.Symbols.{Terminal}
use Rattle.lalrpop_lr1_theory.specs.Productions as theory
use Rattle.lalrpop_lr1_core.proofs.NoConflictLemmas.{same_terminal}
use Rattle.lalrpop_lr1_check_lookaheads.specs.SeenEdges.{edge_symbol_view}
use Rattle.lalrpop_lr1_check_lookaheads.proofs.parts.edges.is_by_terminal.Goals as goal

terminal_is : (t u : Terminal) → theory.terminal t ≡ theory.terminal u → t ≡ u
terminal_is t u e = cc

pub returns-in-Terminal : goal.returns-in-Terminal
returns-in-Terminal c =
    let t = c.args.terminal.now in
    let u = c.in-Terminal.other.now in
    let own : edge_symbol_view c.args.own ≡ theory.terminal (terminal_view u) = ap edge_symbol_view c.in-Terminal.is in (
      λ e. ap (λ x. theory.terminal (terminal_view x)) (c.is_same_terminal.ensures.0 e) ∙ sym own,
      λ h. c.is_same_terminal.ensures.1 (same_terminal t u (terminal_is (terminal_view t) (terminal_view u) (h ∙ own))),
    )
