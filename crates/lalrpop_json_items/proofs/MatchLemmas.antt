-- Match blocks: what is read is spelled so, and what is spelled so is read; for the laws of grammars.
use Rattle.std.proofs.Common.{◌≡◌, ℕ, List, [], ◌∷◌, Option, Some, None, Ok, Err, Bool, true, false, cond, is_some, refl}
use Rattle.serde_json.specs.Find.{as_null, as_str}
use Rattle.serde_json.specs.Data.{Data, null, boolean, number, string, array, object}
use Rattle.lalrpop_json_values.specs.declared.fault.FaultKind.TheVariants as fault
use Rattle.lalrpop_json_values.specs.declared.fault.Step.TheVariants as step
use Rattle.lalrpop_json_values.specs.declared.form.Form.{Form}
use Rattle.lalrpop_json_values.specs.declared.form.Form.TheVariants as form
use Rattle.lalrpop_json_values.specs.declared.key.Key.TheVariants as key
use Rattle.lalrpop_json_values.specs.declared.word.Word.TheVariants as word
use Rattle.lalrpop_json_values.specs.Forms.{form_by_key}
use Rattle.lalrpop_json_values.specs.Gives.{◌>>=◌, here}
use Rattle.lalrpop_json_values.specs.Key.{key_text}
use Rattle.lalrpop_json_values.specs.Lists.{list_at}
use Rattle.lalrpop_json_values.specs.Objects.{field_at, keys_at}
use Rattle.lalrpop_json_values.specs.Scalars.{is_word, optional, span_at, word_at}
use Rattle.lalrpop_json_values.specs.Spelled.{object_of, EachFrom, IfSome, IsSpan, list_json, option_json, span_json}
use Rattle.lalrpop_json_values.specs.Word.{word_text}
use Rattle.lalrpop_json_values.proofs.ListLawLemmas.{list_takes, list_again}
use Rattle.lalrpop_json_values.proofs.ScalarLemmas.{optional_takes, optional_again, span_takes, span_again, word_is, word_takes}
use Rattle.lalrpop_json_values.proofs.StepLemmas.{bind_ok, part, ok_same, object_ok}
use Rattle.lalrpop_grammar_symbols.specs.declared.span.Span.{Span}
use Rattle.lalrpop_grammar_symbols.specs.declared.terminal.TerminalLiteral.{TerminalLiteral}
use Rattle.lalrpop_grammar_symbols.specs.declared.terminal.TerminalLiteral.TheVariants as literals
use Rattle.lalrpop_grammar_symbols.specs.declared.terminal.TerminalString.{TerminalString}
use Rattle.lalrpop_grammar.specs.declared.match_token.MatchContents.{MatchContents}
use Rattle.lalrpop_grammar.specs.declared.match_token.MatchItem.{MatchItem}
use Rattle.lalrpop_grammar.specs.declared.match_token.MatchItem.TheVariants as entries
use Rattle.lalrpop_grammar.specs.declared.match_token.MatchMapping.{MatchMapping}
use Rattle.lalrpop_grammar.specs.declared.match_token.MatchMapping.TheVariants as maps
use Rattle.lalrpop_grammar.specs.declared.match_token.MatchToken.{MatchToken}
use Rattle.lalrpop_json_symbols.specs.Literals.{literal_at, terminal_at}
use Rattle.lalrpop_json_symbols.specs.Readable.{IsReadableTerminal}
use Rattle.lalrpop_json_symbols.specs.Spelling.{literal_json, terminal_json}
use Rattle.lalrpop_json_symbols.proofs.LiteralLemmas.{literal_takes, literal_again, terminal_takes, terminal_again}
use Rattle.lalrpop_json_items.specs.Matches.{catch_all_at, contents_at, match_entry_at, match_entry_by, match_entry_of, match_entry_rows}
use Rattle.lalrpop_json_items.specs.Matches.{listed_entry_at, mapping_at, match_at}
use Rattle.lalrpop_json_items.specs.Readable.{IsReadableMapping, IsReadableEntry, IsReadableContents, IsReadableMatch}
use Rattle.lalrpop_json_items.specs.Spelling.{contents_json, entry_json, mapping_json, match_json}

-- ---- what matches become

abbrev SpelledMapping : Data → MatchMapping → Type 0
SpelledMapping d m = (d ≡ mapping_json m) × IsReadableMapping m

made_terminal : (d : Data) (m : MatchMapping) → (terminal_at d >>= λ t. Ok (maps.Terminal t)) ≡ Ok m → SpelledMapping d m
made_terminal d m e =
    let got = bind_ok (terminal_at d) (λ t. Ok (maps.Terminal t)) m e in
    let taken = terminal_takes d got.0 got.1 in
    rw (← ok_same (maps.Terminal got.0) m got.2) (taken.0, IsReadableMapping.terminal got.0 refl taken.1)

by_word : (a : Bool) (t : List ℕ) (m : MatchMapping) → is_word word.Skip t ≡ a
    → cond a (Ok maps.Skip) (Err (here fault.WrongShape)) ≡ Ok m → SpelledMapping (string t) m
by_word true t m is e = rw (← ok_same maps.Skip m e) (word_is word.Skip t is, IsReadableMapping.skip refl)
by_word false t m is e = absurd (cc)

mapping_takes : (d : Data) (m : MatchMapping) → mapping_at d ≡ Ok m → SpelledMapping d m
unfolding mapping_at
mapping_takes null m e = made_terminal null m e
mapping_takes (boolean b) m e = made_terminal (boolean b) m e
mapping_takes (number n) m e = made_terminal (number n) m e
mapping_takes (string t) m e = by_word (is_word word.Skip t) t m refl e
mapping_takes (array ds) m e = made_terminal (array ds) m e
mapping_takes (object ms) m e = made_terminal (object ms) m e

terminal_object : (t : TerminalString) → IsReadableTerminal t → (as_str (terminal_json t) ≡ None)
    × (is_some (as_null (terminal_json t)) ≡ false)
terminal_object t (IsReadableTerminal.literal (literals.Quoted text) e) = rw e (refl, refl)
terminal_object t (IsReadableTerminal.literal (literals.Regex text) e) = rw e (refl, refl)
terminal_object t (IsReadableTerminal.bare name e named) = rw e (refl, refl)

mapping_again : (m : MatchMapping) → IsReadableMapping m → mapping_at (mapping_json m) ≡ Ok m
unfolding mapping_at word_text
mapping_again m (IsReadableMapping.skip e) = rw e refl
mapping_again m (IsReadableMapping.terminal t e is) = rw (e, (terminal_object t is).0, terminal_again t is) refl

no_null : (m : MatchMapping) → IsReadableMapping m → is_some (as_null (mapping_json m)) ≡ false
no_null m (IsReadableMapping.skip e) = rw e refl
no_null m (IsReadableMapping.terminal t e is) = rw e (terminal_object t is).1

mappings_take : (d : Data) (o : Option MatchMapping) → optional mapping_at d ≡ Ok o → (d ≡ option_json mapping_json o)
    × IfSome IsReadableMapping o
mappings_take = optional_takes mapping_at mapping_json IsReadableMapping mapping_takes

mappings_again : (o : Option MatchMapping) → IfSome IsReadableMapping o → optional mapping_at (option_json mapping_json o) ≡ Ok o
mappings_again = optional_again mapping_at mapping_json IsReadableMapping mapping_again no_null

-- ---- entries

abbrev SpelledEntry : Data → MatchItem → Type 0
SpelledEntry d i = (d ≡ entry_json i) × IsReadableEntry i

entry_made : (a b c : Data) (l : TerminalLiteral) (o : Option MatchMapping) (span : Span) → a ≡ literal_json l
    → (b ≡ option_json mapping_json o) × IfSome IsReadableMapping o
    → (c ≡ span_json span) × IsSpan span
    → SpelledEntry (object_of ((key.Literal, a) ∷ (key.Map, b) ∷ (key.Span, c) ∷ [])) (match_entry_of l o span)
entry_made a b c l None span e f g = (rw (e, f.0, g.0) refl, IsReadableEntry.unmapped l span refl g.1)
entry_made a b c l (Some m) span e f g = (rw (e, f.0, g.0) refl, IsReadableEntry.mapped l m span refl f.1 g.1)

listed_takes : (d : Data) (x : MatchItem) → listed_entry_at d ≡ Ok x → SpelledEntry d x
unfolding listed_entry_at field_at key_text
listed_takes = object_ok (key.Literal ∷ key.Map ∷ key.Span ∷ []) _ SpelledEntry λ fields x e.
    part (step.Key key.Literal) (literal_at fields.0) _ x e λ l lit e.
    part (step.Key key.Map) (optional mapping_at fields.1.0) _ x e λ o mapping e.
    part (step.Key key.Span) (span_at fields.1.1.0) _ x e λ span spanned e.
    rw (← ok_same (match_entry_of l o span) x e) (entry_made fields.0 fields.1.0 fields.1.1.0 l o span (literal_takes fields.0 l lit)
    (mappings_take fields.1.0 o mapping) (span_takes fields.1.1.0 span spanned))

catch_all_takes : (d : Data) (x : MatchItem) → catch_all_at d ≡ Ok x → SpelledEntry d x
unfolding catch_all_at field_at key_text
catch_all_takes = object_ok (key.CatchAll ∷ []) _ SpelledEntry λ fields x e.
    part (step.Key key.CatchAll) (span_at fields.0) _ x e λ span spanned e.
    let spanned_is = span_takes fields.0 span spanned in
    rw (← ok_same (entries.CatchAll span) x e) (rw (spanned_is.0) refl, IsReadableEntry.catch_all span refl spanned_is.1)

by_told : (f : Option Form) (d : Data) (x : MatchItem) → match_entry_by f d ≡ Ok x → SpelledEntry d x
by_told (Some form.CatchAll) d x e = catch_all_takes d x e
by_told (Some form.Entry) d x e = listed_takes d x e
by_told _ d x e = absurd (cc)

entry_takes : (d : Data) (x : MatchItem) → match_entry_at d ≡ Ok x → SpelledEntry d x
unfolding match_entry_at
entry_takes d x e = by_told (form_by_key match_entry_rows d) d x e

entry_again : (i : MatchItem) → IsReadableEntry i → match_entry_at (entry_json i) ≡ Ok i
unfolding match_entry_at listed_entry_at catch_all_at keys_at field_at key_text
entry_again i (IsReadableEntry.catch_all span e is) = rw (e, span_again span is) refl
entry_again i (IsReadableEntry.unmapped l span e is) = rw (e, literal_again l, span_again span is) refl
entry_again i (IsReadableEntry.mapped l m span e is spanned) =
    rw (e, literal_again l, mappings_again (Some m) is, span_again span spanned) refl

contents_takes : (d : Data) (c : MatchContents) → contents_at d ≡ Ok c → (d ≡ contents_json c) × IsReadableContents c
unfolding contents_at
contents_takes d c e =
    let got = bind_ok (list_at (λ _. match_entry_at) d) _ c e in
    rw (← ok_same (record { items = got.0 }) c got.2)
    (list_takes (λ _. match_entry_at) entry_json (λ _. IsReadableEntry) (λ _. entry_takes) d got.0 got.1)

contents_again : (c : MatchContents) → IsReadableContents c → contents_at (contents_json c) ≡ Ok c
unfolding contents_at
contents_again c is = rw (list_again (λ _. match_entry_at) entry_json (λ _. IsReadableEntry) (λ _. entry_again) c.items is) refl

groups_take : (d : Data) (cs : List MatchContents) → list_at (λ _. contents_at) d ≡ Ok cs → (d ≡ list_json contents_json cs)
    × EachFrom (λ _. IsReadableContents) 0 cs
groups_take = list_takes (λ _. contents_at) contents_json (λ _. IsReadableContents) (λ _. contents_takes)

groups_again : (cs : List MatchContents) → EachFrom (λ _. IsReadableContents) 0 cs
    → list_at (λ _. contents_at) (list_json contents_json cs) ≡ Ok cs
groups_again = list_again (λ _. contents_at) contents_json (λ _. IsReadableContents) (λ _. contents_again)

-- ---- match blocks

abbrev SpelledMatch : Data → MatchToken → Type 0
SpelledMatch d b = (d ≡ match_json b) × IsReadableMatch b

-- a value that is read as a match block is its JSON, and the block has a spelling
pub match_takes : (d : Data) (x : MatchToken) → match_at d ≡ Ok x → SpelledMatch d x
unfolding match_at field_at key_text
match_takes = object_ok (key.Contents ∷ key.Kind ∷ key.Span ∷ []) _ SpelledMatch λ fields x e.
    part (step.Key key.Contents) (list_at (λ _. contents_at) fields.0) _ x e λ contents groups e.
    part (step.Key key.Kind) (word_at word.Match fields.1.0) _ x e λ u kind e.
    part (step.Key key.Span) (span_at fields.1.1.0) _ x e λ span spanned e.
    let groups_is = groups_take fields.0 contents groups in
    let kind_is = word_takes word.Match fields.1.0 u kind in
    let spanned_is = span_takes fields.1.1.0 span spanned in
    rw (← ok_same (record { contents = contents; span = span }) x e)
    (rw (groups_is.0, kind_is, spanned_is.0) refl, record { contents = groups_is.1; span = spanned_is.1 })

-- the JSON of a match block that has a spelling is read as that block
pub match_again : (b : MatchToken) → IsReadableMatch b → match_at (match_json b) ≡ Ok b
unfolding match_at keys_at field_at key_text word_at word_text
match_again b is = rw (groups_again b.contents is.contents, span_again b.span is.span) refl
