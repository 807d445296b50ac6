-- Literals and the terminals of tokens: what is read is spelled so, and what is spelled so is read; for the laws of formats.
use Rattle.std.proofs.Common.{◌≡◌, [], ◌∷◌, Option, Some, Ok, refl}
use Rattle.serde_json.specs.Data.{Data}
use Rattle.lalrpop_grammar_symbols.specs.declared.terminal.TerminalLiteral.{TerminalLiteral}
use Rattle.lalrpop_grammar_symbols.specs.declared.terminal.TerminalLiteral.TheVariants as literals
use Rattle.lalrpop_grammar_symbols.specs.declared.terminal.TerminalString.{TerminalString}
use Rattle.lalrpop_grammar_symbols.specs.declared.terminal.TerminalString.TheVariants as terminals
use Rattle.lalrpop_json_values.specs.declared.fault.Step.TheVariants as step
use Rattle.lalrpop_json_values.specs.declared.form.Form.{Form}
use Rattle.lalrpop_json_values.specs.declared.form.Form.TheVariants as form
use Rattle.lalrpop_json_values.specs.declared.key.Key.TheVariants as key
use Rattle.lalrpop_json_values.specs.Forms.{form_by_key}
use Rattle.lalrpop_json_values.specs.Key.{key_text}
use Rattle.lalrpop_json_values.specs.Objects.{field_at, keys_at}
use Rattle.lalrpop_json_values.specs.Scalars.{name_at, text_at}
use Rattle.lalrpop_json_values.proofs.ScalarLemmas.{name_takes, name_again, text_takes}
use Rattle.lalrpop_json_values.proofs.StepLemmas.{bind_ok, part, ok_same, object_ok}
use Rattle.lalrpop_json_symbols.specs.Literals.{bare_at, literal_at, literal_by, literal_rows, quoted_at, regex_at, terminal_at}
use Rattle.lalrpop_json_symbols.specs.Literals.{terminal_by, terminal_rows}
use Rattle.lalrpop_json_symbols.specs.Readable.{IsReadableTerminal}
use Rattle.lalrpop_json_symbols.specs.Spelling.{literal_json, terminal_json}

quoted_takes : (d : Data) (l : TerminalLiteral) → quoted_at d ≡ Ok l → d ≡ literal_json l
unfolding quoted_at field_at key_text
quoted_takes = object_ok (key.Quoted ∷ []) _ (λ d l. d ≡ literal_json l) λ fields l e.
    part (step.Key key.Quoted) (text_at fields.0) _ l e λ text is e.
    rw (← ok_same (literals.Quoted text) l e, text_takes fields.0 text is) refl

regex_takes : (d : Data) (l : TerminalLiteral) → regex_at d ≡ Ok l → d ≡ literal_json l
unfolding regex_at field_at key_text
regex_takes = object_ok (key.Regex ∷ []) _ (λ d l. d ≡ literal_json l) λ fields l e.
    part (step.Key key.Regex) (text_at fields.0) _ l e λ text is e.
    rw (← ok_same (literals.Regex text) l e, text_takes fields.0 text is) refl

by_told : (f : Option Form) (d : Data) (l : TerminalLiteral) → literal_by f d ≡ Ok l → d ≡ literal_json l
by_told (Some form.Quoted) d l e = quoted_takes d l e
by_told (Some form.Regex) d l e = regex_takes d l e
by_told _ d l e = absurd (cc)

-- a value that is read as a literal is its JSON
pub literal_takes : (d : Data) (l : TerminalLiteral) → literal_at d ≡ Ok l → d ≡ literal_json l
unfolding literal_at
literal_takes d l e = by_told (form_by_key literal_rows d) d l e

-- the JSON of a literal is read as that literal
pub literal_again : (l : TerminalLiteral) → literal_at (literal_json l) ≡ Ok l
unfolding literal_at quoted_at regex_at keys_at field_at key_text text_at
literal_again (literals.Quoted text) = refl
literal_again (literals.Regex text) = refl

-- ---- the terminals of tokens

abbrev SpelledTerminal : Data → TerminalString → Type 0
SpelledTerminal d t = (d ≡ terminal_json t) × IsReadableTerminal t

literal_made : (d : Data) (l : TerminalLiteral) (t : TerminalString) → d ≡ literal_json l → terminals.Literal l ≡ t
    → SpelledTerminal d t
literal_made d l t taken e = rw (← e) (taken, IsReadableTerminal.literal l refl)

bare_takes : (d : Data) (t : TerminalString) → bare_at d ≡ Ok t → SpelledTerminal d t
unfolding bare_at field_at key_text
bare_takes = object_ok (key.Bare ∷ []) _ SpelledTerminal λ fields t e.
    part (step.Key key.Bare) (name_at fields.0) _ t e λ name is e.
    let named = name_takes fields.0 name is in
    rw (← ok_same (terminals.Bare name) t e) (rw named.0 refl, IsReadableTerminal.bare name refl named.1)

by_terminal : (f : Option Form) (d : Data) (t : TerminalString) → terminal_by f d ≡ Ok t → SpelledTerminal d t
by_terminal (Some form.Bare) d t e = bare_takes d t e
by_terminal (Some form.Quoted) d t e =
    let got = bind_ok (quoted_at d) (λ l. Ok (terminals.Literal l)) t e in
    literal_made d got.0 t (quoted_takes d got.0 got.1) (ok_same _ t got.2)
by_terminal (Some form.Regex) d t e =
    let got = bind_ok (regex_at d) (λ l. Ok (terminals.Literal l)) t e in
    literal_made d got.0 t (regex_takes d got.0 got.1) (ok_same _ t got.2)
by_terminal _ d t e = absurd (cc)

-- a value that is read as a token's terminal is its JSON, and the terminal has a spelling
pub terminal_takes : (d : Data) (t : TerminalString) → terminal_at d ≡ Ok t → SpelledTerminal d t
unfolding terminal_at
terminal_takes d t e = by_terminal (form_by_key terminal_rows d) d t e

-- the JSON of a token's terminal that has a spelling is read as that terminal
pub terminal_again : (t : TerminalString) → IsReadableTerminal t → terminal_at (terminal_json t) ≡ Ok t
unfolding terminal_at bare_at quoted_at regex_at keys_at field_at key_text text_at
terminal_again t (IsReadableTerminal.literal (literals.Quoted text) e) = rw e refl
terminal_again t (IsReadableTerminal.literal (literals.Regex text) e) = rw e refl
terminal_again t (IsReadableTerminal.bare name e named) = rw (e, name_again name named) refl
