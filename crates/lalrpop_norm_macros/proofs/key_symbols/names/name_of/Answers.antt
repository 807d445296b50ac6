use Rattle.lalrpop_grammar_rules.specs.Views.{closed_view}
use Rattle.lalrpop_norm_macros.proofs.NamedKeyLemmas.{name_found}
use Rattle.lalrpop_norm_macros.proofs.key_symbols.names.name_of.Goals as goal

pub returns-in-Some : goal.returns-in-Some
returns-in-Some c =
    name_found c.args.names.now (closed_view c.args.key.now) c.in-Some.place c.get.result (rw c.in-Some.is at c.in_ok-place.ensures)
    c.get.ensures.lookup.1 c.get.ensures.lookup.2
