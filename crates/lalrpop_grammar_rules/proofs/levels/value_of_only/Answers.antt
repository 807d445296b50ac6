use Rattle.std.proofs.Common.{◌≡◌, None, ◌≤◌, List, [], ◌∷◌, length, map, refl, arith}
use Rattle.std.proofs.lemmas.List.{length-map}
use Rattle.lalrpop_grammar_symbols.specs.Symbols.{Text}
use Rattle.lalrpop_grammar.specs.WrittenGrammar.{Attr}
use Rattle.lalrpop_grammar.specs.Views.{attribute_view, attrs}
use Rattle.lalrpop_grammar_rules.specs.Ranks.{only_text}
use Rattle.lalrpop_grammar_rules.proofs.levels.value_of_only.Goals as goal

-- two parts or more have no one text
only_text_of_two : (key : Text) (parts : List Attr) → 2 ≤ length parts → None ≡ only_text key (attrs parts)
only_text_of_two key [] h = absurd (omega arith)
only_text_of_two key (a ∷ []) h = absurd (omega arith)
only_text_of_two key (a ∷ b ∷ more) h = refl

pub returns-in-len2-up : goal.returns-in-len2-up
returns-in-len2-up c = only_text_of_two c.args.key.now (map attribute_view c.args.parts.now) (simp length-map c.in-len2-up.len_at_least)
