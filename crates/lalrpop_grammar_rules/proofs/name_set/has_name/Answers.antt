use Rattle.lalrpop_grammar_rules.proofs.name_set.has_name.Goals as goal

pub returns : goal.returns
returns c = rw c.as_str.ensures at c.contains_key.ensures
