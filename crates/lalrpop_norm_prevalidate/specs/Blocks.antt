-- Match blocks behind the first one, and public rules that are marked `inline`.
use Rattle.std.specs.Prelude.{◌&&◌, List, [], ◌∷◌, flat_map, codes, if◌then◌else◌}
use Rattle.lalrpop_grammar_symbols.specs.Symbols.{TextSpan}
use Rattle.lalrpop_grammar.specs.WrittenGrammar.{Rule, WrittenItem, rules_of}
use Rattle.lalrpop_grammar_language.specs.Enabled.{has_attr}

abbrev pub block_span : WrittenItem → List TextSpan
block_span (WrittenItem.match_token groups place) = place ∷ []
block_span (WrittenItem.extern_token block) = []
block_span (WrittenItem.intern_token entries) = []
block_span (WrittenItem.nonterminal r) = []
block_span (WrittenItem.import text) = []

-- all but the first
abbrev pub behind_first : List TextSpan → List TextSpan
behind_first [] = []
behind_first (p ∷ ps) = ps

-- the match blocks that aren't the first
abbrev pub later_blocks : List WrittenItem → List TextSpan
later_blocks items = behind_first (flat_map block_span items)

abbrev pub public_inline_span : Rule → List TextSpan
public_inline_span r = if r.public && has_attr (codes "inline") r.attributes then r.span ∷ [] else []

abbrev pub public_inlines : List WrittenItem → List TextSpan
public_inlines items = flat_map public_inline_span (rules_of items)
