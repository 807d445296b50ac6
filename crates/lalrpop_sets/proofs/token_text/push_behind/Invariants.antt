use Rattle.std.proofs.Common.{◌≡◌, ◌++◌, length}
use Rattle.std.specs.Prelude.{string_bytes}
use Rattle.lalrpop_sets.specs.IterLeft.{tokens_to_come}
use Rattle.lalrpop_sets.specs.TokenTexts.{texts_behind}
use Rattle.lalrpop_sets.proofs.token_text.push_behind.Given as goal

abbrev pub invariant-loop-token : goal.invariant-loop-token
invariant-loop-token l =
    string_bytes l.text ++ texts_behind (tokens_to_come l.tokens)
    ≡ string_bytes l.initial.text ++ texts_behind (tokens_to_come l.initial.tokens)

abbrev pub decreases-loop-token : goal.decreases-loop-token
decreases-loop-token l = length (tokens_to_come l.tokens)
