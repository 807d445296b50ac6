-- The texts of keys part by part: of a call, and of several symbols; for the functions that write them.
use Rattle.std.specs.Prelude.{◌∷◌, List}
use Rattle.lalrpop_grammar_symbols.specs.Symbols.{Text, Closeds}
use Rattle.lalrpop_grammar_symbols.specs.Texts.{macro_text}
use Rattle.lalrpop_norm_theory.specs.Keys.{before_tilde, closed_texts, flat_key_text}

-- the texts of the symbols, in order
abbrev pub flat_key_texts : Closeds → List Text
flat_key_texts = closed_texts (λ n level. before_tilde n)

-- the text of a call of a name, with arguments or without
abbrev pub call_text : Text → Closeds → Text
call_text n Closeds.none = n
call_text n (Closeds.more x xs) = macro_text n (flat_key_text x ∷ flat_key_texts xs)
