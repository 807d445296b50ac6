use Rattle.std.proofs.Common.{refl, subst}
use Rattle.lalrpop_lexer_scan.specs.Scanning.{IsItsTerminal}
use Rattle.lalrpop_lexer_scan.proofs.EntryLemmas.{entries_pushed}
use Rattle.lalrpop_lexer_scan.proofs.entry_tokens.EntryTokens.push_piece.Goals as goal

pub returns-in_ok-push-2-clause-entries : goal.returns-in_ok-push-2-clause-entries
returns-in_ok-push-2-clause-entries c = λ s its are.
    entries_pushed s c.args.self.now.tokens.items c.push.new.self.items c.args.self.now.entries.items c.push-in-Some.new.self.items _
    c.in-Some.found.number c.in-Some.found.number c.in-Some.found.terminal.now are (subst (IsItsTerminal s) c.in-Some.is its)
    refl c.in_ok-try_clone.ensures c.in_ok-push.ensures.items c.in_ok-push-2.ensures.items
