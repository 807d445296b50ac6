use Rattle.std.proofs.Common.{◌≡◌, Bool, true, false, sym, ◌∙◌}
use Rattle.std.specs.List.{list_any}
use Rattle.lalrpop_grammar.specs.Views.{grammar_view}
use Rattle.lalrpop_grammar.specs.WrittenGrammar.{rules_of}
use Rattle.lalrpop_grammar_language.specs.Starts.{has_start}
use Rattle.lalrpop_grammar_rules.specs.RuleTable.{rules_view}
use Rattle.lalrpop_grammar_rules.specs.StartViews.{active_start}
use Rattle.lalrpop_grammar_rules.specs.declared.table.Rules as table
use Rattle.lalrpop_grammar_rules.proofs.StartLemmas.{starts_enabled, known_where_public}
use Rattle.lalrpop_grammar_symbols.specs.Symbols.{Text}
use Rattle.lalrpop_grammar_rules.proofs.table.Rules.start.Goals as goal

-- what the search among the written rules says of the enabled grammar
found : (t : table.Rules) (n : Text) (public result : Bool)
    → result ≡ list_any (active_start t.features.now n public) (rules_of (grammar_view t.grammar.now).items)
    → result ≡ has_start n public (rules_view t)
found t n public result h = h ∙ starts_enabled t.features.now n public (rules_of (grammar_view t.grammar.now).items)

pub returns-then-has_start-clause-known : goal.returns-then-has_start-clause-known
returns-then-has_start-clause-known c =
    let t = c.args.self.now in
    let is = found t c.args.name.now true c.has_start.result c.has_start.ensures in
    sym (known_where_public c.args.name.now (rules_view t).rules (sym is ∙ c.if-has_start.true))

pub returns-then-has_start-clause-public : goal.returns-then-has_start-clause-public
returns-then-has_start-clause-public c =
    sym c.if-has_start.true ∙ found c.args.self.now c.args.name.now true c.has_start.result c.has_start.ensures

pub returns-then-has_start-2-clause-known : goal.returns-then-has_start-2-clause-known
returns-then-has_start-2-clause-known c =
    sym c.if-has_start-2.true ∙ found c.args.self.now c.args.name.now false c.has_start-2.result c.has_start-2.ensures

pub returns-then-has_start-2-clause-public : goal.returns-then-has_start-2-clause-public
returns-then-has_start-2-clause-public c =
    sym c.if-has_start.false ∙ found c.args.self.now c.args.name.now true c.has_start.result c.has_start.ensures

pub returns-clause-known : goal.returns-clause-known
returns-clause-known c =
    sym c.if-has_start-2.false ∙ found c.args.self.now c.args.name.now false c.has_start-2.result c.has_start-2.ensures

pub returns-clause-public : goal.returns-clause-public
returns-clause-public c =
    sym c.if-has_start.false ∙ found c.args.self.now c.args.name.now true c.has_start.result c.has_start.ensures
