use Rattle.std.proofs.Common.{◌≡◌, ap, arith}
use Rattle.std.specs.Prelude.{flat_map}
use Rattle.lalrpop_grammar_symbols.specs.Subsymbols.{subsymbols_of}
use Rattle.lalrpop_grammar_symbols.specs.SymbolWalks.{symbols_view}
use Rattle.lalrpop_grammar.specs.Views.{alternative_view}
use Rattle.lalrpop_lexer_scan.specs.Literals.{uses_at, uses_in_alternative}
use Rattle.lalrpop_lexer_scan.specs.Noting.{Notes}
use Rattle.lalrpop_lexer_scan.proofs.NotingLemmas.{Notes-more}
use Rattle.lalrpop_lexer_scan.proofs.literals.note_alternatives.Goals as goal

pub loop-alternative-preserved : goal.loop-alternative-preserved
loop-alternative-preserved c =
    let same : flat_map uses_at (subsymbols_of (symbols_view c.as_slice.result.now))
    ≡ uses_in_alternative (alternative_view c.alternative-item.result) =
    ap (λ xs. flat_map uses_at (subsymbols_of (symbols_view xs))) c.as_slice.ensures in
    let step : Notes c.loop-alternative.uses c.note_symbols.new.uses (uses_in_alternative (alternative_view c.alternative-item.result)) =
    rw (← same) c.in_ok-note_symbols.ensures in
    Notes-more (λ a. uses_in_alternative (alternative_view a)) c.args.alternatives.now c.loop-alternative.alternative-index
    c.alternative-item.result
    c.args.uses.now c.loop-alternative.uses c.note_symbols.new.uses (omega arith) c.alternative-item.is
    c.loop-alternative.invariant step
