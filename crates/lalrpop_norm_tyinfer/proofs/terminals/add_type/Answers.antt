use Rattle.std.proofs.Common.{◌∙◌, ap, subst, sym}
use Rattle.lalrpop_grammar_repr.specs.Maps.{with_terminal}
use Rattle.lalrpop_norm_tyinfer.specs.TerminalTypes.{IsWithTerminal}
use Rattle.lalrpop_norm_tyinfer.proofs.TerminalLemmas.{type_added}
use Rattle.lalrpop_norm_tyinfer.proofs.terminals.add_type.Goals as goal

pub returns-in_ok-insert : goal.returns-in_ok-insert
returns-in_ok-insert c =
    let t = c.args.terminal.now in
    let old = c.args.table.now in
    subst (λ es. IsWithTerminal t old es)
    (sym (c.in_ok-insert.ensures.ok ∙ ap (λ k. with_terminal old k c.in_ok-ty.ty) c.in_ok-try_clone.ensures))
    (type_added old t c.in_ok-ty.ty c.in_ok-ty.ensures)
