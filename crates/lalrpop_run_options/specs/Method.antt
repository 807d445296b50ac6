-- The words that name methods.
use Rattle.std.specs.Prelude.{◌≡◌, ◌⊎◌, ℕ, List, [], ◌∷◌, codes}
use Rattle.lalrpop_grammar_repr.specs.declared.methods.Method.{Method}
use Rattle.lalrpop_grammar_repr.specs.declared.methods.Method.TheVariants as methods

abbrev pub lane_word : List ℕ
lane_word = codes "lane"

abbrev pub canonical_word : List ℕ
canonical_word = codes "canonical"

abbrev pub method_words : List (List ℕ)
method_words = lane_word ∷ canonical_word ∷ []

-- some method has this word
abbrev pub IsMethodWord : List ℕ → Type 0
IsMethodWord text = (text ≡ lane_word) ⊎ (text ≡ canonical_word)

-- the method has this word; the one by lane tables copies so many states at most
abbrev pub IsMethodNamed : List ℕ → ℕ → Method → Type 0
IsMethodNamed word copies (methods.Lane n) = (word ≡ lane_word) × (n ≡ copies)
IsMethodNamed word copies methods.Canonical = word ≡ canonical_word
