use Rattle.std.proofs.Common.{rules, ◌≡◌, ◌++◌, ℕ, ap, sym, ◌∙◌, true, map}
use Rattle.lalrpop_grammar_symbols.specs.Symbols.{Text}
use Rattle.lalrpop_grammar.specs.Views.{item_view, nonterminal_view}
use Rattle.lalrpop_grammar.specs.WrittenGrammar.{Rule, WrittenItem}
use Rattle.lalrpop_grammar_language.specs.Levels.{has_levels}
use Rattle.lalrpop_norm_theory.specs.Between.{rule_between}
use Rattle.lalrpop_norm_theory.specs.LeveledGrammar.{leveled_item}
use Rattle.lalrpop_norm_precedence.specs.LevelTables.{named_level_view, named_levels, rule_levels_view}
use Rattle.lalrpop_norm_precedence.proofs.PutLemmas.{on_ok_from}
use Rattle.lalrpop_norm_precedence.proofs.levels.expanding.put_leveled_rule.Goals as goal

pub returns : goal.returns
returns c =
    let r = nonterminal_view c.args.rule in
    let old = map item_view c.args.items.now in
    let new = map item_view c.put_rules.new.items in
    let said : c.has_prec_attr.result ≡ true = search rules in
    let has : has_levels (rule_between r) ≡ true = sym c.has_prec_attr.ensures ∙ said in
    on_ok_from (new ≡ old ++ map (λ (x : Rule). WrittenItem.nonterminal x) (map nonterminal_view c.in_ok-rules.rules))
    ((f : Text → ℕ → Text) → rule_levels_view c.args.levels.now ≡ named_levels f r
    → new ≡ old ++ leveled_item f (WrittenItem.nonterminal r)) _
    (λ pushed. λ f named.
    pushed
    ∙ ap (λ l. old ++ map (λ (x : Rule). WrittenItem.nonterminal x) l)
    (c.in_ok-rules.ensures f has (ap (map named_level_view) c.as_slice.ensures.value ∙ named)))
    c.put_rules.ensures
