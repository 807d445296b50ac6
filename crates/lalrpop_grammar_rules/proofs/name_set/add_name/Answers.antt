use Rattle.std.proofs.Common.{◌||◌, ap, ◌∙◌}
use Rattle.std.proofs.lemmas.Map.Text.{hash_map_updates_str}
use Rattle.lalrpop_grammar_rules.specs.RuleTable.{knows}
use Rattle.lalrpop_grammar_rules.proofs.BareNameLemmas.{one_name_more, same_text-sym}
use Rattle.lalrpop_grammar_rules.proofs.name_set.add_name.Goals as goal

pub returns : goal.returns
returns c = λ n.
    let old = c.args.names.now in
    one_name_more old c.insert.new.self c.args.name.now
    (rw c.as_str.ensures at (hash_map_updates_str c.as_str.result.now old c.insert.new.self _ c.in_ok-insert.ensures.updates)) n
    ∙ ap (λ b. knows old n || b) (same_text-sym c.args.name.now n)
