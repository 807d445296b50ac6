use Rattle.std.proofs.Common.{◌∙◌, sym}
use Rattle.std.proofs.lemmas.Map.Text.{hash_map_updates_str}
use Rattle.lalrpop_norm_macros.proofs.WrittenLemmas.{one_written}
use Rattle.lalrpop_norm_macros.proofs.key_symbols.by_name.put_rule.Goals as goal

pub returns : goal.returns
returns c =
    one_written c.args.rules.now c.insert.new.self c.args.rule
    (sym (rw c.as_str-name.ensures at c.contains_key.ensures) ∙ c.if-contains_key.false)
    (rw c.as_str-name.ensures at
    (hash_map_updates_str c.as_str-name.result.now c.args.rules.now c.insert.new.self _ c.in_ok-insert.ensures.updates))
