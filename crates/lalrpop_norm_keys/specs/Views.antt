-- What definitions see of a key and of where it is met.
use Rattle.lalrpop_grammar_symbols.specs.Views.{span_view}
use Rattle.lalrpop_grammar_rules.specs.Views.{closed_view}
use Rattle.lalrpop_norm_keys.specs.MetKeys as definitions
use Rattle.lalrpop_norm_keys.specs.declared.key_places.meeting.MetKey.{MetKey}

abbrev pub met_view : MetKey → definitions.MetKey
met_view m = (closed_view m.key, span_view m.span)
