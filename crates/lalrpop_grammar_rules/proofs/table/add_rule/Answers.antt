use Rattle.std.proofs.Common.{◌≡◌, Some, Option, ap, ◌∙◌}
use Rattle.std.proofs.lemmas.Map.Text.{hash_map_updates_str}
use Rattle.std.specs.HashMap.{get_by}
use Rattle.std.specs.Prelude.{is_some, option_map}
use Rattle.std.specs.Str.{bytes_eq}
use Rattle.lalrpop_grammar_language.specs.Enabled.{enabled_rule}
use Rattle.lalrpop_grammar.specs.Views.{nonterminal_view}
use Rattle.lalrpop_grammar_rules.specs.declared.rule.EnabledRule.{EnabledRule}
use Rattle.lalrpop_grammar_rules.specs.Details.{kept_rule_view}
use Rattle.lalrpop_grammar_rules.specs.RuleTable.{rule_entry_at, one_more}
use Rattle.lalrpop_grammar_rules.proofs.NameLemmas.{entry_more, one_rule_more}
use Rattle.lalrpop_grammar_rules.proofs.table.add_rule.Goals as goal

pub returns : goal.returns
returns c =
    let f = c.args.features.now in
    let d = c.args.written.now in
    let r = enabled_rule f (nonterminal_view d) in
    let old = c.args.by_name.now in
    let entry = c.in_ok-entry.entry in
    let had : Option (Option EnabledRule) = get_by (λ k. bytes_eq d.name.0 k.now) old in
    let known : c.contains_key-is_known.result ≡ is_some had = rw c.as_str-name.ensures at c.contains_key-is_known.ensures in
    let is : Some (option_map (kept_rule_view f) entry) ≡ one_more (rule_entry_at f old d.name.0) r =
    ap (λ e. Some e) c.in_ok-entry.ensures ∙ entry_more f had r c.contains_key-is_known.result known in
    one_rule_more f old c.insert.new.self d entry
    (rw c.as_str-name.ensures at (hash_map_updates_str c.as_str-name.result.now old c.insert.new.self _ c.in_ok-insert.ensures.updates)) is
