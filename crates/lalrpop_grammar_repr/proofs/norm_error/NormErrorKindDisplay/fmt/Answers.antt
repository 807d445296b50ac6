use Rattle.std.proofs.Common.{ℕ, List, subst}
use Rattle.std.specs.Fmt.{HasWritten}
use Rattle.lalrpop_grammar_repr.proofs.PlainKindLemmas.{plain_else}
use Rattle.lalrpop_grammar_repr.proofs.norm_error.NormErrorKindDisplay.fmt.Goals as goal

pub returns-in_default-clause-writes : goal.returns-in_default-clause-writes
returns-in_default-clause-writes g c = λ plain ok.
    let d = c.in_default in
    let text_is = c.plain_message.ensures
    (plain_else c.args.self.now d.not-DuplicateDefinition d.not-UnknownAttribute d.not-NoDefinition d.not-MacroDepth
    d.not-NotInMatchBlock d.not-PatternRefused d.not-SameText d.not-NoType d.not-CyclicInline) in
    subst (λ (t : List ℕ). HasWritten {W = g.row.W.Denot} g.W.Write.write_str_gives c.args.f.now t c.write_str.new.self)
    text_is (c.write_str.ensures.writes plain ok)
