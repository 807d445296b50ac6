use Rattle.std.proofs.Common.{◌≡◌, ℕ, List, [], ◌∷◌, Ok, refl, ◌∙◌, arith}
use Rattle.lalrpop_lexer_regex.specs.Numbers.{hex_from}
use Rattle.lalrpop_lexer_regex.proofs.classes.numbers.hex_digits.Goals as goal

-- no more digits
none_left : (k v : ℕ) (t : List ℕ) → k ≡ 0 → hex_from k v t ≡ Ok (v, t)
none_left k v [] e = rw e refl
none_left k v (c ∷ t) e = rw e refl

pub returns-clause-gives : goal.returns-clause-gives
returns-clause-gives c =
    c.loop-left.invariant.same ∙ none_left c.loop-left.left c.loop-left.value c.loop-left.rest.now (omega arith)
