use Rattle.std.proofs.Common.{◌≡◌, None, ◌≤◌, List, [], ◌∷◌, length, map, refl, arith}
use Rattle.std.proofs.lemmas.List.{length-map}
use Rattle.lalrpop_grammar_symbols.specs.Symbols.{Text}
use Rattle.lalrpop_grammar.specs.WrittenGrammar.{Attr}
use Rattle.lalrpop_grammar_language.specs.Enabled.{only_one}
use Rattle.lalrpop_grammar.specs.Views.{attribute_view, attrs}
use Rattle.lalrpop_grammar_rules.proofs.enabling.+cfg.Goals as goal

-- two parts or more have no one value
only_one_of_two : (features : List Text) (parts : List Attr) → 2 ≤ length parts → None ≡ only_one features (attrs parts)
only_one_of_two features [] h = absurd (omega arith)
only_one_of_two features (a ∷ []) h = absurd (omega arith)
only_one_of_two features (a ∷ b ∷ more) h = refl

pub value_of_only-returns-in-len2-up : goal.value_of_only-returns-in-len2-up
value_of_only-returns-in-len2-up t c =
    only_one_of_two c.args.features.now (map attribute_view c.args.parts.now) (simp length-map c.in-len2-up.len_at_least)
