-- What is refused of several patterns. For the functions that look for the first refusal of trees.
use Rattle.std.proofs.Common.{◌≡◌, List, [], ◌∷◌, ap, refl}
use Rattle.std.specs.Option.{option_or}
use Rattle.lalrpop_lexer_pattern.specs.Matches.{Pattern, concat_all, alternation_all}
use Rattle.lalrpop_lexer_pattern.specs.Refused.{refusal}

-- of patterns one after another the same is refused as of a choice of them
pub refusal-alt_all : (ps : List Pattern) → refusal (concat_all ps) ≡ refusal (alternation_all ps)
refusal-alt_all [] = refl
refusal-alt_all (p ∷ ps) = ap (option_or (refusal p)) (refusal-alt_all ps)
