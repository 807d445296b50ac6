use Rattle.std.proofs.Common.{◌≡◌, ◌∙◌, ◌++◌, List, ap, map, subst, sym}
use Rattle.std.specs.Prelude.{OnOk, filter, flat_map}
use Rattle.std.specs.List.{list_any}
use Rattle.lalrpop_grammar_symbols.specs.Symbols.{Text}
use Rattle.lalrpop_grammar_symbols.specs.Views.{symbol_view}
use Rattle.lalrpop_norm_tyinfer.specs.NamedRules.{names_found, rules_in_source, rules_in_symbol}
use Rattle.lalrpop_norm_tyinfer.specs.TypesByTable.{counts_for, is_chosen_symbol}
use Rattle.lalrpop_norm_tyinfer.specs.ProgramViews.{names_view, source_view}
use Rattle.lalrpop_norm_tyinfer.proofs.FrontLemmas.{counted_symbols}
use Rattle.lalrpop_norm_tyinfer.proofs.waiting.add_source.Goals as goal

pub returns-in-Symbols : goal.returns-in-Symbols
returns-in-Symbols c =
    let k = names_view c.args.names.now in
    let xs = map symbol_view c.in-Symbols.symbols.now in
    let needed : flat_map (rules_in_symbol k) (filter (counts_for c.has_chosen.result) xs)
    ≡ rules_in_source k (source_view c.args.source) =
    ap (flat_map (rules_in_symbol k))
    (ap (λ b. filter (counts_for b) xs) c.has_chosen.ensures ∙ counted_symbols (list_any is_chosen_symbol xs) xs)
    ∙ sym (ap (λ s. rules_in_source k (source_view s)) c.in-Symbols.is) in
    subst
    (λ (l : List Text). OnOk c.add_symbols.result
    (names_found c.add_symbols.new.found.items ≡ names_found c.args.found.now.items ++ l))
    needed c.add_symbols.ensures
