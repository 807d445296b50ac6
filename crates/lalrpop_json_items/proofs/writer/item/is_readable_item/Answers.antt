use Rattle.lalrpop_json_items.proofs.ItemSpellingLemmas.{of_extern, of_import, of_match, of_rule}
use Rattle.lalrpop_json_items.proofs.writer.item.is_readable_item.Goals as goal

pub returns-in-Nonterminal : goal.returns-in-Nonterminal
returns-in-Nonterminal c = of_rule c.is_readable_rule.result _ _ c.in-Nonterminal.is c.is_readable_rule.ensures

pub returns-in-MatchToken : goal.returns-in-MatchToken
returns-in-MatchToken c = of_match c.is_readable_match.result _ _ c.in-MatchToken.is c.is_readable_match.ensures

pub returns-in-ExternToken : goal.returns-in-ExternToken
returns-in-ExternToken c = of_extern c.is_readable_extern.result _ _ c.in-ExternToken.is c.is_readable_extern.ensures

pub returns-in-Use : goal.returns-in-Use
returns-in-Use c = of_import _ _ c.in-Use.is
