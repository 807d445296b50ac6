use Rattle.std.proofs.Common.{◌≡◌, ◌++◌, map, drop}
use Rattle.lalrpop_grammar_symbols.specs.Views.{literal_view}
use Rattle.lalrpop_grammar.specs.Views.{intern_entry_view}
use Rattle.lalrpop_norm_token_check.specs.Entries.{own_entry}
use Rattle.lalrpop_norm_token_check.proofs.making.push_literals.Given as goal

abbrev pub invariant-loop-literal : goal.invariant-loop-literal
invariant-loop-literal l =
    map intern_entry_view l.fn.entries ++ map (own_entry l.groups) (map (λ x. literal_view x.now) l.literals)
    ≡ map intern_entry_view l.entries ++ map (own_entry l.groups) (map (λ x. literal_view x.now) (drop l.literal-index l.literals))
