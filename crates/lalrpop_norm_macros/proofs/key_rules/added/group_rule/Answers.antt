use Rattle.std.proofs.Common.{◌∷◌, [], refl, map, subst, sym, None}
use Rattle.lalrpop_grammar_symbols.specs.Symbols.{Closed}
use Rattle.lalrpop_grammar_symbols.specs.Views.{span_view}
use Rattle.lalrpop_grammar.specs.WrittenGrammar.{Origin}
use Rattle.lalrpop_grammar.specs.Views.{alternative_view, nonterminal_view}
use Rattle.lalrpop_grammar_rules.specs.Views.{closed_view, closeds}
use Rattle.lalrpop_grammar_rules.proofs.ArgumentLemmas.{closed_list-closeds}
use Rattle.lalrpop_norm_macros.specs.AddedRules.{without_code}
use Rattle.lalrpop_norm_macros.specs.RulesUnder.{AreAddedUnder}
use Rattle.lalrpop_norm_macros.proofs.AddedLemmas.{added_rule}
use Rattle.lalrpop_grammar_symbols.proofs.BoolLemmas.{ok_from}
use Rattle.lalrpop_norm_macros.proofs.key_rules.added.group_rule.Goals as goal

pub returns : goal.returns
returns c =
    let k = c.args.added.now.names.now in
    let p = span_view c.args.added.now.span in
    let xs = map closed_view c.args.symbols.now in
    let alternatives = map alternative_view c.in_ok-alternatives.alternatives in
    ok_from _ _ c.private_rule.result
    (λ made e. added_rule k (Closed.group (closeds xs)) c.args.name.now p None alternatives (nonterminal_view made) e refl
    (subst (λ l. AreAddedUnder k p (without_code Origin.group l ∷ []) alternatives) (sym (closed_list-closeds xs))
    c.in_ok-alternatives.ensures))
    c.private_rule.ensures
