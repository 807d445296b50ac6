use Rattle.std.proofs.Common.{ap, Some}
use Rattle.lalrpop_grammar.specs.declared.alternative.ActionKind.TheVariants as actions
use Rattle.lalrpop_json_items.proofs.AlternativeSpellingLemmas.{of_fallible, of_no_code, of_user}
use Rattle.lalrpop_json_items.proofs.writer.alternative.is_code.Goals as goal

pub returns-in-User : goal.returns-in-User
returns-in-User c = of_user (Some c.args.action.now) _ (ap Some c.in-User.is)

pub returns-in-Fallible : goal.returns-in-Fallible
returns-in-Fallible c = of_fallible (Some c.args.action.now) _ (ap Some c.in-Fallible.is)

pub returns-in-Lookahead : goal.returns-in-Lookahead
returns-in-Lookahead c = of_no_code (Some c.args.action.now) actions.Lookahead (ap Some c.in-Lookahead.is) (λ none. none)

pub returns-in-Lookbehind : goal.returns-in-Lookbehind
returns-in-Lookbehind c = of_no_code (Some c.args.action.now) actions.Lookbehind (ap Some c.in-Lookbehind.is) (λ none. none)
