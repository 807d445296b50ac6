use Rattle.std.proofs.Common.{◌≡◌, ◌++◌, List, map, drop}
use Rattle.lalrpop_grammar_symbols.specs.Views.{literal_view}
use Rattle.lalrpop_grammar.specs.WrittenGrammar.{WrittenEntry}
use Rattle.lalrpop_norm_token_check.specs.Entries.{not_listed}
use Rattle.lalrpop_norm_token_check.specs.Noting.{HasNoted}
use Rattle.lalrpop_norm_token_check.proofs.entries.other_literals.Given as goal

abbrev pub invariant-loop-literal : goal.invariant-loop-literal
invariant-loop-literal l =
    (entries : List WrittenEntry) → HasNoted l.noted entries
    → map (λ x. literal_view x.now) l.others.items ++ not_listed entries (map (λ x. literal_view x.now) (drop l.literal-index l.used))
    ≡ not_listed entries (map (λ x. literal_view x.now) l.used)
