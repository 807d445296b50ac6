use Rattle.std.proofs.Common.{◌≡◌, map}
use Rattle.std.specs.Prelude.{Bool, Option}
use Rattle.lalrpop_grammar_symbols.specs.Symbols.{Text}
use Rattle.lalrpop_grammar.specs.Views.{grammar_view}
use Rattle.lalrpop_grammar_rules.specs.Views.{closed_view}
use Rattle.lalrpop_norm_theory.specs.Between.{grammar_between}
use Rattle.lalrpop_norm_keys.specs.Tables.{table_keys}
use Rattle.lalrpop_norm_precedence.proofs.StepLemmas.{holds_where_ok}
use Rattle.lalrpop_norm_macros.specs.KeyNames.{HasFoundKeys, HoldKeyNames, IsNameable}
use Rattle.lalrpop_norm_macros.specs.OrderedNames.{key_names_from, taken_behind_keys}
use Rattle.lalrpop_norm_macros.specs.TextTimes.{times_of_texts}
use Rattle.lalrpop_norm_macros.proofs.FoundNamingLemmas.{names_of_found}
use Rattle.lalrpop_norm_macros.proofs.key_names.names.key_names.Goals as goal

pub returns-clause-names : goal.returns-clause-names
returns-clause-names c =
    let g = grammar_view c.args.grammar.now in
    let keys = table_keys c.args.keys.now in
    let given = map closed_view c.keys.result.now in
    let taken = times_of_texts c.in_ok-taken.taken in
    let last = times_of_texts c.names_of_keys.new.taken in
    holds_where_ok c.names_of_keys.result (λ names. names ≡ key_names_from taken given)
    (λ names. (finds : Text → Text → Option Bool) → IsNameable (grammar_between finds g) →
    HasFoundKeys (grammar_between finds g) keys → HoldKeyNames (grammar_between finds g) keys names)
    (last ≡ taken_behind_keys taken given) (last ≡ taken_behind_keys taken given)
    (λ names made a b finds w found.
    names_of_found finds g keys given taken last names c.keys.ensures c.in_ok-taken.ensures c.requires.once w found made a
    c.names_of_keys.new.taken.small)
    c.names_of_keys.ensures.named c.names_of_keys.ensures.taken c.names_of_keys.ensures.taken
