use Rattle.std.proofs.Common.{◌≡◌, drop}
use Rattle.lalrpop_json_values.specs.Forms.{form_by_word}
use Rattle.lalrpop_json_values.proofs.form.form_by_word.Given as goal

abbrev pub invariant-loop-word : goal.invariant-loop-word
invariant-loop-word l = form_by_word (drop l.word-index l.words) l.text ≡ form_by_word l.words l.text
