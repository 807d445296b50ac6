use Rattle.std.proofs.Common.{◌∙◌, IfNone, Some, ap, arith, refl, subst, sym}
use Rattle.std.specs.Str.{trim}
use Rattle.std.proofs.lemmas.Str.Pattern.{split_once_first}
use Rattle.lalrpop_plain_tables.specs.Lines.{AreSymbolWords}
use Rattle.lalrpop_plain_tables.proofs.lines.grammar.read_line.Goals as goal

pub returns-in-None-clause-fault : goal.returns-in-None-clause-fault
returns-in-None-clause-fault c =
    let line = c.args.line.now in
    let split = split_once_first 58 line (Some (c.in-Some.name, c.in-Some.side)) c.in-Some.ensures.cases (omega arith) in
    let none : AreSymbolWords c.trim.result.now → ⊥ =
    subst (λ s. IfNone s (AreSymbolWords c.trim.result.now → ⊥)) c.in-None.is c.in_ok-symbols.ensures in
    (refl, λ p. none (subst AreSymbolWords (sym (c.trim.ensures.trim ∙ ap trim split.2)) p.symbols))
