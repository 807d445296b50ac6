-- The keys that a repeat stands for; for the walk that gathers what stands in a symbol.
use Rattle.std.specs.Prelude.{List, [], ◌∷◌}
use Rattle.lalrpop_grammar_symbols.specs.Symbols.{Closed, Op}

-- the repeat itself, and the `X+` of which `X*` is made
abbrev pub keys_of_repeat : Op → Closed → List Closed
keys_of_repeat Op.plus x = Closed.repeat Op.plus x ∷ []
keys_of_repeat Op.star x = Closed.repeat Op.star x ∷ Closed.repeat Op.plus x ∷ []
keys_of_repeat Op.question x = Closed.repeat Op.question x ∷ []
