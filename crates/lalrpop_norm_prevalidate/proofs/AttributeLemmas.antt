-- Two parts or more aren't exactly one; for the shapes of attributes.
use Rattle.std.proofs.Common.{◌≡◌, false, ◌≤◌, List, [], ◌∷◌, length, refl, arith}
use Rattle.lalrpop_grammar_symbols.specs.Symbols.{Text}
use Rattle.lalrpop_grammar.specs.WrittenGrammar.{Attr}
use Rattle.lalrpop_grammar.specs.Views.{attrs}
use Rattle.lalrpop_norm_prevalidate.specs.Attributes.{is_one_predicate, is_one_setting}

-- of `not` and `cfg`
pub one_predicate_of_two : (parts : List Attr) → 2 ≤ length parts → false ≡ is_one_predicate (attrs parts)
one_predicate_of_two [] h = absurd (omega arith)
one_predicate_of_two (a ∷ []) h = absurd (omega arith)
one_predicate_of_two (a ∷ b ∷ more) h = refl

-- of `precedence` and `assoc`
pub one_setting_of_two : (key : Text) (parts : List Attr) → 2 ≤ length parts → false ≡ is_one_setting key (attrs parts)
one_setting_of_two key [] h = absurd (omega arith)
one_setting_of_two key (a ∷ []) h = absurd (omega arith)
one_setting_of_two key (a ∷ b ∷ more) h = refl
