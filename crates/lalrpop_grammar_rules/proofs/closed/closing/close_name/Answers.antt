use Rattle.std.proofs.Common.{ap}
use Rattle.lalrpop_grammar_language.specs.Closing.{name_meaning, name_or, plain_name}
use Rattle.lalrpop_grammar_rules.specs.RuleTable.{rules_view}
use Rattle.lalrpop_grammar_rules.specs.Scopes.{scope_view}
use Rattle.lalrpop_grammar_rules.specs.Views.{closed_view}
use Rattle.lalrpop_grammar_rules.proofs.SoundLemmas.{name_whole}
use Rattle.lalrpop_grammar_rules.proofs.closed.closing.close_name.Goals as goal

pub is_sound_name-requires : goal.is_sound_name-requires
is_sound_name-requires c = λ holds.
    let s = c.args.scope.now in
    let m = name_meaning (rules_view s.rules.now) c.args.name.now in
    name_whole s.binding.parameters.now s.binding.args.now s.has_sound_args c.requires.knows holds (scope_view s) c.args.before
    c.args.name.now m (closed_view c.in-To.symbol.now)
    (ap (λ v. name_or v (plain_name (scope_view s) c.args.before c.args.name.now m)) c.in-To.ensures)
