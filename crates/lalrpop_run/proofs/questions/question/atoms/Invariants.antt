use Rattle.std.proofs.Common.{◌≡◌, map, take, string_bytes}
use Rattle.lalrpop_run.proofs.questions.question.atoms.Given as goal

abbrev pub invariant-loop-text : goal.invariant-loop-text
invariant-loop-text l = l.shared.items ≡ map string_bytes (take l.text-index l.texts)
