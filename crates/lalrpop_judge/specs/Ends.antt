-- Where a run of tokens ends.
use Rattle.std.specs.Prelude.{ℕ, ◌≡◌, List, ◌++◌, Option, Some, None, drop}
use Rattle.lalrpop_grammar.specs.Trees.{Token}

-- From the start on, the tokens are the front and what stands from the given place on. None where they don't begin
-- with the front.
abbrev pub EndsAt : List Token → ℕ → List Token → Option ℕ → Type 0
EndsAt tokens start front (Some stop) = drop start tokens ≡ front ++ drop stop tokens
EndsAt tokens start front None = (rest : List Token) → drop start tokens ≡ front ++ rest → ⊥
