-- Texts to which one piece after the other is appended.
use Rattle.std.proofs.Common.{◌≡◌}
use Rattle.std.specs.Prelude.{OnOk, Result, Ok, Err}
use Rattle.std.specs.Bool.{if◌then◌else◌}
use Rattle.std.specs.Result.{is_ok}
use Rattle.lalrpop_grammar_symbols.specs.Symbols.{Text}

-- what is so where the call succeeds
pub on_ok : {A E : Type 0} (r : Result A E) (s t u : Text) → s ≡ (if is_ok r then t else u) → OnOk r (s ≡ t)
on_ok (Ok x) s t u e = e
on_ok (Err x) s t u e = tt
