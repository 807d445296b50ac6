-- What the keys of a grammar are called, key after key, where texts are taken so and so often; for the pass that names keys.
use Rattle.std.specs.Prelude.{List, [], ◌∷◌, map, Option, Some, None}
use Rattle.std.specs.Option.{unwrap_or}
use Rattle.lalrpop_grammar_symbols.specs.Symbols.{Text, Closed, Closeds}
use Rattle.lalrpop_grammar.specs.WrittenGrammar.{Rule}
use Rattle.lalrpop_norm_theory.specs.Keys.{before_tilde, flat_key_text, with_number}
use Rattle.lalrpop_norm_theory.specs.LevelNames.{times_taken}
use Rattle.lalrpop_norm_precedence.specs.GivenNames.{Times, once_more}

-- The text that a rule with these parameters and this name takes: a macro its name, another rule its name without the number
-- behind the tilde.
abbrev pub rule_text : List Text → Text → Text
rule_text [] n = before_tilde n
rule_text (p ∷ ps) n = n

abbrev pub rule_texts : List Rule → List Text
rule_texts rs = map (λ r. rule_text r.parameters r.name) rs

-- the name of the rule that the key calls without arguments
abbrev pub rule_alone : Closed → Option Text
rule_alone (Closed.terminal t) = None
rule_alone (Closed.call n Closeds.none level) = Some n
rule_alone (Closed.call n (Closeds.more x xs) level) = None
rule_alone (Closed.repeat op x) = None
rule_alone (Closed.group xs) = None
rule_alone (Closed.choose x) = None
rule_alone (Closed.name m n x) = None
rule_alone Closed.lookahead = None
rule_alone Closed.lookbehind = None
rule_alone Closed.faulty = None

-- a rule alone keeps its name, another key has its text, with a number where that is taken
abbrev pub key_name : Times → Closed → Text
key_name times x = unwrap_or (rule_alone x) (with_number (flat_key_text x) (times (flat_key_text x)))

-- what is taken then: the names of rules were taken before
abbrev pub taken_unless : Option Text → Text → Times → Times
taken_unless (Some n) text times = times
taken_unless None text times = once_more text times

abbrev pub taken_behind_key : Times → Closed → Times
taken_behind_key times x = taken_unless (rule_alone x) (flat_key_text x) times

-- keys one after the other
abbrev pub key_names_from : Times → List Closed → List Text
key_names_from times [] = []
key_names_from times (x ∷ xs) = key_name times x ∷ key_names_from (taken_behind_key times x) xs

abbrev pub taken_behind_keys : Times → List Closed → Times
taken_behind_keys times [] = times
taken_behind_keys times (x ∷ xs) = taken_behind_keys (taken_behind_key times x) xs

-- the names of the keys in order: at first texts are taken by rules alone
abbrev pub key_names_of : List Rule → List Closed → List Text
key_names_of rs keys = key_names_from (λ text. times_taken text (rule_texts rs)) keys
