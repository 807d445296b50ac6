-- How often texts are taken by rules and keys, as definitions see it.
use Rattle.lalrpop_norm_precedence.specs.GivenNames.{Times}
use Rattle.lalrpop_norm_precedence.specs.TakenViews.{taken_times}
use Rattle.lalrpop_norm_precedence.specs.declared.level_names.taken.TakenTexts.{TakenTexts}

abbrev pub times_of_texts : TakenTexts → Times
times_of_texts = taken_times
