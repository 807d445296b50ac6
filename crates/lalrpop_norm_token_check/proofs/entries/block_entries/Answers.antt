use Rattle.std.proofs.Common.{◌∙◌, ◌++◌, ap, map}
use Rattle.std.specs.Borrow.{Bor}
use Rattle.lalrpop_grammar_symbols.specs.Symbols.{Terminal}
use Rattle.lalrpop_grammar_symbols.specs.Views.{literal_view}
use Rattle.lalrpop_grammar_symbols.specs.declared.terminal.TerminalLiteral.{TerminalLiteral}
use Rattle.lalrpop_grammar.specs.Views.{intern_entry_view}
use Rattle.lalrpop_norm_token_check.specs.Blocks.{entries_in_groups}
use Rattle.lalrpop_norm_token_check.specs.Entries.{entries_of_groups}
use Rattle.lalrpop_norm_token_check.proofs.MakingLemmas.{group_view}
use Rattle.lalrpop_norm_token_check.proofs.entries.block_entries.Goals as goal

abbrev seen : Bor TerminalLiteral → Terminal
seen l = literal_view l.now

pub returns : goal.returns
returns c =
    let groups = map group_view c.args.groups.now in
    c.in_ok-push_groups.ensures
    ∙ ap (λ l. map intern_entry_view l ++ entries_of_groups (map seen c.as_slice.result.now) groups) c.new-entries.ensures
    ∙ ap (λ l. entries_of_groups (map seen l) groups) c.as_slice.ensures.value
    ∙ ap (λ l. entries_of_groups l groups) (c.in_ok-others.ensures (entries_in_groups groups) c.in_ok-noted.ensures)
