use Rattle.std.proofs.Common.{◌≡◌, ◌∙◌}
use Rattle.lalrpop_grammar_rules.specs.RuleTable.{knows}
use Rattle.lalrpop_grammar_rules.proofs.table.Rules.is_bare.Goals as goal

pub returns : goal.returns
returns c =
    let known : c.contains_key.result ≡ knows c.args.self.now.bares c.args.name.now = rw c.as_str.ensures at c.contains_key.ensures in
    known ∙ c.requires.bares c.args.name.now
