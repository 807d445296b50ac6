use Rattle.std.proofs.Common.{◌≡◌, ◌++◌, map, drop}
use Rattle.lalrpop_grammar_symbols.specs.Views.{literal_view}
use Rattle.lalrpop_lexer_scan.specs.Literals.{LiteralUse}
use Rattle.lalrpop_lexer_scan.specs.Noting.{use_view}
use Rattle.lalrpop_norm_token_check.proofs.entries.literals_in.Given as goal

abbrev pub invariant-loop-one : goal.invariant-loop-one
invariant-loop-one l =
    map (λ x. literal_view x.now) l.literals.items ++ map (λ (u : LiteralUse). u.literal) (map use_view (drop l.one-index l.uses))
    ≡ map (λ (u : LiteralUse). u.literal) (map use_view l.uses)
