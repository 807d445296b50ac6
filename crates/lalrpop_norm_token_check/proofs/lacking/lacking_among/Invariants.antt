use Rattle.std.proofs.Common.{◌≡◌, List, map, drop}
use Rattle.std.specs.Prelude.{find}
use Rattle.lalrpop_grammar_symbols.specs.Views.{literal_view}
use Rattle.lalrpop_grammar.specs.WrittenGrammar.{WrittenEntry}
use Rattle.lalrpop_norm_token_check.specs.Blocks.{is_lacking}
use Rattle.lalrpop_norm_token_check.specs.Noting.{HasNoted}
use Rattle.lalrpop_norm_token_check.proofs.lacking.lacking_among.Given as goal

abbrev pub invariant-loop-literal : goal.invariant-loop-literal
invariant-loop-literal l =
    (entries : List WrittenEntry) → HasNoted l.noted entries
    → find (is_lacking entries) (map (λ x. literal_view x.now) (drop l.literal-index l.used))
    ≡ find (is_lacking entries) (map (λ x. literal_view x.now) l.used)
