use Rattle.std.proofs.Common.{◌≡◌, ◌∙◌, ap, sym, subst, map}
use Rattle.std.specs.Prelude.{Bool, Option}
use Rattle.std.proofs.lemmas.Result.{IfOk-weaker}
use Rattle.lalrpop_grammar_symbols.specs.Symbols.{Text}
use Rattle.lalrpop_grammar.specs.Views.{grammar_view}
use Rattle.lalrpop_grammar.specs.WrittenGrammar.{rules_of}
use Rattle.lalrpop_norm_theory.specs.Between.{grammar_between, rule_between}
use Rattle.lalrpop_norm_theory.specs.Premises.{IsResolved}
use Rattle.lalrpop_norm_theory.specs.LeveledGrammar.{levels_in_order}
use Rattle.lalrpop_norm_theory.specs.LevelNames.{HasNoTildes}
use Rattle.lalrpop_norm_precedence.specs.GivenNames.{given_tables, taken_behind_plain, taken_behind_macros}
use Rattle.lalrpop_norm_precedence.specs.LevelTables.{HasPlainParameters, HoldLevelNames, levels_alone, rule_levels_view}
use Rattle.lalrpop_norm_precedence.specs.TakenTimes.{AreSmallTimes}
use Rattle.lalrpop_norm_precedence.specs.TakenViews.{taken_times}
use Rattle.lalrpop_norm_precedence.proofs.GivenLemmas.{tables-in_order}
use Rattle.lalrpop_norm_precedence.proofs.NamingLemmas.{names_hold}
use Rattle.lalrpop_norm_precedence.proofs.StepLemmas.{holds_where_ok}
use Rattle.lalrpop_norm_precedence.proofs.TakenLemmas.{same_times}
use Rattle.lalrpop_norm_precedence.proofs.level_names.names.level_names.Goals as goal

pub returns-clause-order : goal.returns-clause-order
returns-clause-order c =
    let rules = rules_of (grammar_view c.args.grammar.now).items in
    let plain = taken_times c.in_ok-plain.plain in
    let macros = taken_times c.take_plain_levels.new.taken in
    IfOk-weaker c.named_rules.result (λ tables. map rule_levels_view tables.items ≡ given_tables rules plain macros)
    (λ tables. map levels_alone tables.items ≡ map (λ r. levels_in_order (rule_between r)) rules)
    (λ tables made. tables-in_order rules tables.items plain macros made) c.named_rules.ensures.named

-- what rules take comes first, then what plain rules' levels take
pub returns-clause-names : goal.returns-clause-names
returns-clause-names c =
    let g = grammar_view c.args.grammar.now in
    let rules = rules_of g.items in
    let plain = taken_times c.in_ok-plain.plain in
    let macros = taken_times c.take_plain_levels.new.taken in
    let same : taken_times c.in_ok-macros.macros ≡ plain =
    same_times (taken_times c.in_ok-macros.macros) plain (λ t. c.in_ok-macros.ensures t ∙ sym (c.in_ok-plain.ensures t)) in
    let waits : macros ≡ taken_behind_plain rules plain = c.in_ok-take_plain_levels.ensures ∙ ap (taken_behind_plain rules) same in
    holds_where_ok c.named_rules.result (λ tables. map rule_levels_view tables.items ≡ given_tables rules plain macros)
    (λ tables. (finds : Text → Text → Option Bool) → IsResolved (grammar_between finds g) → HasNoTildes g →
    HasPlainParameters g → HoldLevelNames g tables.items)
    (taken_times c.named_rules.new.plain ≡ taken_behind_plain rules plain)
    (taken_times c.named_rules.new.macros ≡ taken_behind_macros rules macros)
    (λ tables made a b finds resolved clear own.
    names_hold finds g plain macros c.in_ok-plain.ensures waits resolved clear own tables.items
    (subst AreSmallTimes a c.named_rules.new.plain.small) (subst AreSmallTimes b c.named_rules.new.macros.small) made)
    c.named_rules.ensures.named c.named_rules.ensures.plain c.named_rules.ensures.macros
