-- The prefix of the names that are made for a grammar.
use Rattle.std.specs.Prelude.{◌≡◌, ◌<◌, ◌≤◌, ℕ, suc, max, List, [], ◌∷◌, ◌++◌, length, replicate}
use Rattle.std.specs.Prelude.{if◌then◌else◌, ◌==◌, All, Any}

-- a run of underscores
abbrev pub underscores : ℕ → List ℕ
underscores n = replicate n 95

abbrev pub OccursIn : List ℕ → List ℕ → Type 0
OccursIn part text = (front back : List ℕ) × (text ≡ (front ++ part) ++ back)

-- the shortest run of at least two underscores that occurs in none of the texts
pub record IsFreePrefix (texts : List (List ℕ)) (prefix : List ℕ) : Type 0 where
  pub run : prefix ≡ underscores (length prefix)
  pub two : 2 ≤ length prefix
  pub free : All (λ text. OccursIn prefix text → ⊥) texts
  pub shortest : (n : ℕ) → 2 ≤ n → n < length prefix → Any (OccursIn (underscores n)) texts

-- with how many underscores a text begins
abbrev pub leading_underscores : List ℕ → ℕ
leading_underscores [] = 0
leading_underscores (c ∷ cs) = if c == 95 then suc (leading_underscores cs) else 0

-- how long its longest run of them is
abbrev pub longest_run : List ℕ → ℕ
longest_run [] = 0
longest_run (c ∷ cs) = max (leading_underscores (c ∷ cs)) (longest_run cs)

abbrev pub longest_of : List (List ℕ) → ℕ
longest_of [] = 0
longest_of (t ∷ ts) = max (longest_run t) (longest_of ts)

-- one underscore more than the longest run
abbrev pub prefix_past : ℕ → List ℕ
prefix_past longest = replicate (suc (max 1 longest)) 95
