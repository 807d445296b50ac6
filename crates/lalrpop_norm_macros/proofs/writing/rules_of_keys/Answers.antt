use Rattle.std.proofs.Common.{map, subst, sym}
use Rattle.std.proofs.lemmas.Result.{err_from_is_err_and}
use Rattle.lalrpop_grammar_symbols.specs.Views.{span_view}
use Rattle.lalrpop_grammar.specs.Views.{grammar_view, nonterminal_view}
use Rattle.lalrpop_grammar.specs.WrittenGrammar.{rules_of}
use Rattle.lalrpop_grammar_rules.specs.RuleTable.{rules_with}
use Rattle.lalrpop_norm_keys.specs.GrammarPlaces.{HasKeySpans}
use Rattle.lalrpop_norm_macros.specs.WrittenKeys.{span_of_key}
use Rattle.lalrpop_norm_keys.specs.Tables.{table_keys}
use Rattle.lalrpop_norm_macros.proofs.KeySpanLemmas.{found_placed, told_of_walked_keys}
use Rattle.lalrpop_norm_macros.proofs.ResultLemmas.{told_of_keys, written_ok}
use Rattle.lalrpop_norm_macros.proofs.writing.rules_of_keys.Goals as goal

pub returns-in_err-spans-clause-fault : goal.returns-in_err-spans-clause-fault
returns-in_err-spans-clause-fault g c =
    let r = c.from_residual-in_err-spans in
    let p = err_from_is_err_and r.result r.ensures.1 in
    rw (p.1, p.2)
    (λ right.
    told_of_walked_keys (g.F.Finder.finds c.args.finder.now) c.args.rules.now (grammar_view c.args.grammar.now) c.requires.of_grammar
    (table_keys c.args.keys.now) right (g.F.Finder.too_deep c.args.finder.now) _ c.in_err-spans.ensures.fault)

pub returns-clause-made : goal.returns-clause-made
returns-clause-made g c =
    let finds = g.F.Finder.finds c.args.finder.now in
    let t = c.args.rules.now in
    let w = grammar_view c.args.grammar.now in
    let keys = table_keys c.args.keys.now in
    let other = span_view c.args.grammar.now.span in
    let spans = c.as_slice-2.result.now in
    written_ok finds w (map nonterminal_view) c.key_rules.result t.features.now c.requires.of_grammar.0 keys c.requires.index.once
    c.in_ok-names.names c.as_slice.result.now c.as_slice.ensures (c.in_ok-names.ensures.names finds) c.in_ok-names.ensures.order
    (span_of_key spans other)
    (λ right. found_placed finds t w c.requires.of_grammar keys right spans other
    (subst (λ l. HasKeySpans (rules_with finds t) (rules_of w.items) other keys (map span_view l)) (sym c.as_slice-2.ensures)
    c.in_ok-spans.ensures.spans))
    c.key_rules.ensures.made

pub returns-clause-fault : goal.returns-clause-fault
returns-clause-fault g c =
    told_of_keys (g.F.Finder.finds c.args.finder.now) (grammar_view c.args.grammar.now) (g.F.Finder.too_deep c.args.finder.now)
    c.key_rules.result c.args.rules.now.features.now c.requires.of_grammar.0 (table_keys c.args.keys.now) c.key_rules.ensures.fault
