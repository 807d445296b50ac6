use Rattle.std.proofs.Common.{◌∙◌, ap, map, None}
use Rattle.lalrpop_grammar_symbols.specs.Symbols.{Closed}
use Rattle.lalrpop_grammar_rules.specs.RuleTable.{rules_with}
use Rattle.lalrpop_grammar_rules.specs.Views.{closed_view, closeds}
use Rattle.lalrpop_norm_theory.specs.Depth.{calls_in_all}
use Rattle.lalrpop_norm_keys.specs.Tables.{table_keys}
use Rattle.lalrpop_norm_keys.proofs.FoundLemmas.{found_of_symbols}
use Rattle.lalrpop_norm_keys.proofs.UseSideLemmas.{calls_added}
use Rattle.lalrpop_norm_keys.proofs.rounds.add_calls_of.Goals as goal

pub returns-clause-found : goal.returns-clause-found
returns-clause-found g c =
    found_of_symbols (rules_with (g.F.Finder.finds c.args.finder.now) c.args.rules.now)
    (Closed.call c.args.name.now (closeds (map closed_view c.args.args.now)) None) (table_keys c.args.calls.now)
    (table_keys c.add_all.new.self) (map closed_view c.in_ok-found.found) (map closed_view c.in_ok-symbols.symbols)
    (c.in_ok-found.ensures ∙ ap (λ l. calls_in_all (closeds (map closed_view l))) c.as_slice.ensures)
    c.in_ok-symbols.ensures.calls
    (rw c.as_slice-2.ensures at c.in_ok-add_all.ensures.added)

pub returns-clause-order : goal.returns-clause-order
returns-clause-order g c = λ flat.
    calls_added (rules_with (g.F.Finder.finds c.args.finder.now) c.args.rules.now)
    (Closed.call c.args.name.now (closeds (map closed_view c.args.args.now)) None) (table_keys c.args.calls.now)
    (table_keys c.add_all.new.self) (map closed_view c.in_ok-found.found) (map closed_view c.in_ok-symbols.symbols)
    (c.in_ok-found.ensures ∙ ap (λ l. calls_in_all (closeds (map closed_view l))) c.as_slice.ensures)
    (c.in_ok-symbols.ensures.order flat)
    (rw c.as_slice-2.ensures at c.in_ok-add_all.ensures.added)
