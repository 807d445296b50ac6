use Rattle.std.proofs.Common.{◌↔◌, ℕ, Bool, true, false, IsTrue, refl}
use Rattle.std.specs.Prelude.{not}
use Rattle.lalrpop_lexer_nfa.specs.Ranges.{TestHolds}
use Rattle.lalrpop_lexer_nfa.specs.declared.test.Test.{Test}
use Rattle.lalrpop_lexer_nfa.proofs.test.Test.is_disjoint.Goals as goal

-- a test is false exactly where nothing meets it
none : (s r : Test) (b : Bool) → (IsTrue b ↔ ((n : ℕ) × TestHolds s n × TestHolds r n)) → IsTrue (not b)
    ↔ ((n : ℕ) → TestHolds s n → TestHolds r n → ⊥)
none s r true h = (λ never. absurd (cc), λ apart. let w = h.0 refl in absurd (apart w.0 w.1 w.2))
none s r false h = (λ _ n x y. let e = h.1 (n, x, y) in cc, λ _. refl)

pub returns : goal.returns
returns c = none _ _ _ c.intersects.ensures
