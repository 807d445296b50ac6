use Rattle.std.proofs.Common.{◌∙◌, ap, map}
use Rattle.std.specs.Borrow.{Bor}
use Rattle.lalrpop_grammar_symbols.specs.Symbols.{Terminal}
use Rattle.lalrpop_grammar_symbols.specs.Views.{literal_view}
use Rattle.lalrpop_grammar_symbols.specs.declared.terminal.TerminalLiteral.{TerminalLiteral}
use Rattle.lalrpop_grammar.specs.Views.{grammar_view, intern_entry_view}
use Rattle.lalrpop_lexer_scan.specs.Literals.{LiteralUse}
use Rattle.lalrpop_lexer_scan.specs.Noting.{use_view}
use Rattle.lalrpop_norm_token_check.specs.Entries.{AreUsed}
use Rattle.lalrpop_norm_token_check.proofs.FaultLemmas.{full_entries, used_of}
use Rattle.lalrpop_norm_token_check.proofs.token_check.entries_in_use.Goals as goal

abbrev seen : Bor TerminalLiteral → Terminal
seen l = literal_view l.now

pub returns-clause-ok : goal.returns-clause-ok
returns-clause-ok c =
    let same = ap (map seen) c.as_slice-used.ensures.value in
    let are : AreUsed (grammar_view c.args.grammar.now) (map seen c.as_slice-used.result.now) =
    used_of (grammar_view c.args.grammar.now) (map use_view c.in_ok-uses.uses.items) (map seen c.as_slice-used.result.now)
    c.in_ok-uses.ensures
    (same ∙ c.in_ok-literals.ensures ∙ ap (λ l. map (λ (u : LiteralUse). u.literal) (map use_view l)) c.as_slice.ensures.value) in
    full_entries (grammar_view c.args.grammar.now) (map seen c.as_slice-used.result.now) (map intern_entry_view c.in_ok-entries.entries) are
    c.in_ok-check_block.ensures.ok (c.in_ok-entries.ensures)
