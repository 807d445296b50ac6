use Rattle.lalrpop_grammar_rules.specs.Views.{closed_view}
use Rattle.lalrpop_norm_macros.proofs.DeclarationLemmas.{type_written}
use Rattle.lalrpop_norm_macros.proofs.key_rules.types.type_or_left.Goals as goal

pub returns-in-Some : goal.returns-in-Some
returns-in-Some c =
    type_written c.args.names.now (closed_view c.args.symbol.now) c.in-Some.written (rw c.in-Some.is at c.in_ok-written.ensures)
