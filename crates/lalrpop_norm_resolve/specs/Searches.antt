-- The first of a list whose name is known, or stands before it; for the search of names that two things share.
use Rattle.std.specs.Prelude.{Bool, ◌||◌, not, List, [], ◌∷◌, Option, Some, None, filter, map, if◌then◌else◌}
use Rattle.std.specs.Str.{bytes_eq}
use Rattle.lalrpop_grammar_symbols.specs.Symbols.{Text}
use Rattle.lalrpop_grammar.specs.WrittenGrammar.{Rule, Grammar, rules_of}
use Rattle.lalrpop_grammar_language.specs.Enabled.{has_text, bares_of}
use Rattle.lalrpop_norm_theory.specs.Resolving.{has_parameters}

-- one name more is known
abbrev pub knowing : Text → (Text → Bool) → Text → Bool
knowing m known n = known n || bytes_eq n m

abbrev pub first_known : {A : Type 0} → (A → Text) → (Text → Bool) → List A → Option A
first_known name known [] = None
first_known name known (x ∷ xs) = if known (name x) then Some x else first_known name (knowing (name x) known) xs

-- the first rule that has the name of an earlier one, or of a mapped bare name
abbrev pub first_shared_rule : Grammar → Option Rule
first_shared_rule g = first_known (λ r. r.name) (λ n. has_text n (bares_of g.items)) (rules_of g.items)

-- the names of the rules that are no macros, and of the macros
abbrev pub plain_names : List Rule → List Text
plain_names rs = map (λ r. r.name) (filter (λ r. not (has_parameters r)) rs)

abbrev pub macro_names : List Rule → List Text
macro_names rs = map (λ r. r.name) (filter has_parameters rs)
