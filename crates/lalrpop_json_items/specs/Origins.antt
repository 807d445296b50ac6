-- Which origins have a spelling.
use Rattle.std.specs.Prelude.{◌≡◌, ◌<◌, ◌^◌, ℕ, List}
use Rattle.lalrpop_grammar.specs.declared.origin.Origin.{Origin}
use Rattle.lalrpop_json_items.specs.Alternatives.{written_origin}

-- that of the written alternative at this place of this rule
abbrev pub IsWrittenAt : Origin → List ℕ → ℕ → Type 0
IsWrittenAt o rule place = (o ≡ written_origin rule place) × (place < 2 ^ 32)
