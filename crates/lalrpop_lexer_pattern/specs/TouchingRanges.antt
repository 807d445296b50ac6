-- A range that is put behind others, or joined to the last of them where it touches that: for ranges that are joined in place.
use Rattle.std.specs.Prelude.{ℕ, ◌+◌, ◌<◌, ⊤, List, [], ◌∷◌, if◌then◌else◌, nat_eq}
use Rattle.lalrpop_lexer_pattern.specs.declared.class.Range.{Range}

-- from the start of the first to the end of the second
abbrev pub joined_range : Range → Range → Range
joined_range s r = record { start = s.start; end = r.end }

-- the ranges with one more: joined to the last where that ends just below it, else behind it
abbrev pub kept_with : List Range → Range → List Range
kept_with [] r = r ∷ []
kept_with (s ∷ []) r = if nat_eq (s.end + 1) r.start then joined_range s r ∷ [] else s ∷ r ∷ []
kept_with (s ∷ t ∷ rs) r = s ∷ kept_with (t ∷ rs) r

-- the last of the ranges, if there is one, ends below the number
abbrev pub EndsBelow : List Range → ℕ → Type 0
EndsBelow [] b = ⊤
EndsBelow (r ∷ []) b = r.end < b
EndsBelow (r ∷ s ∷ rs) b = EndsBelow (s ∷ rs) b
