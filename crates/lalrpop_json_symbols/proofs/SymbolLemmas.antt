-- Symbols: what is read is spelled so, and what is spelled so is read; for the laws of grammars and of trees.
use Rattle.std.proofs.Common.{◌≡◌, ℕ, ◌+◌, Bool, cond, false, Err, List, [], ◌∷◌, map, Option, Some, Ok, true, refl, ap}
use Rattle.std.proofs.Common.{sym, ◌∙◌}
use Rattle.serde_json.specs.Data.{Data, null, boolean, number, string, array, object}
use Rattle.serde_json.specs.View.{items_of}
use Rattle.lalrpop_grammar_symbols.specs.declared.span.Span.{Span}
use Rattle.lalrpop_grammar_symbols.specs.declared.terminal.TerminalLiteral.{TerminalLiteral}
use Rattle.lalrpop_grammar_symbols.specs.declared.terminal.TerminalString.TheVariants as terminals
use Rattle.lalrpop_grammar_symbols.specs.declared.symbol.ExprSymbol.{roll-ExprSymbol, fold-roll-ExprSymbol}
use Rattle.lalrpop_grammar_symbols.specs.declared.symbol.MacroSymbol.{roll-MacroSymbol, fold-roll-MacroSymbol}
use Rattle.lalrpop_grammar_symbols.specs.declared.symbol.RepeatOp.{RepeatOp}
use Rattle.lalrpop_grammar_symbols.specs.declared.symbol.RepeatOp.TheVariants as ops
use Rattle.lalrpop_grammar_symbols.specs.declared.symbol.RepeatSymbol.{roll-RepeatSymbol, fold-roll-RepeatSymbol}
use Rattle.lalrpop_grammar_symbols.specs.declared.symbol.Symbol.{Symbol, fold-roll-Symbol}
use Rattle.lalrpop_grammar_symbols.specs.declared.symbol.SymbolKind.{SymbolKind, fold-roll-SymbolKind}
use Rattle.lalrpop_grammar_symbols.specs.declared.symbol.SymbolKind.TheOpen as layer
use Rattle.lalrpop_grammar_symbols.specs.declared.symbol.SymbolKind.TheVariants as kinds
use Rattle.lalrpop_json_values.specs.declared.fault.Step.TheVariants as step
use Rattle.lalrpop_json_values.specs.declared.fault.FaultKind.TheVariants as fault
use Rattle.lalrpop_json_values.specs.declared.form.Form.{Form}
use Rattle.lalrpop_json_values.specs.declared.form.Form.TheVariants as form
use Rattle.lalrpop_json_values.specs.declared.key.Key.TheVariants as key
use Rattle.lalrpop_json_values.specs.declared.word.Word.{Word}
use Rattle.lalrpop_json_values.specs.declared.word.Word.TheVariants as word
use Rattle.lalrpop_json_values.specs.Forms.{form_at}
use Rattle.lalrpop_json_values.specs.Gives.{here}
use Rattle.lalrpop_json_values.specs.Key.{key_text}
use Rattle.lalrpop_json_values.specs.Lists.{list_at, list_from}
use Rattle.lalrpop_json_values.specs.Nested.{Reader}
use Rattle.lalrpop_json_values.specs.Objects.{field_at, keys_at}
use Rattle.lalrpop_json_values.specs.Scalars.{flag_at, is_name, is_word, name_at, span_at, word_at}
use Rattle.lalrpop_json_values.specs.Spelled.{EachFrom, IsSpan, list_json}
use Rattle.lalrpop_json_values.specs.Word.{word_text}
use Rattle.lalrpop_json_values.proofs.ListLawLemmas.{list_takes}
use Rattle.lalrpop_json_values.proofs.NestingLemmas.{nested_takes}
use Rattle.lalrpop_json_values.proofs.ScalarLemmas.{flag_takes, name_takes, name_again, word_is, span_takes, span_again, word_takes}
use Rattle.lalrpop_json_values.proofs.StepLemmas.{part, ok_same, object_ok}
use Rattle.lalrpop_json_symbols.specs.Literals.{literal_at}
use Rattle.lalrpop_json_symbols.specs.Readable.{IsReadableSymbol, AreReadableSymbols}
use Rattle.lalrpop_json_symbols.specs.Spelling.{Kind, Call, Repeated, choose_json, expr_json_step, group_json, id_json, kind_json}
use Rattle.lalrpop_json_symbols.specs.Spelling.{kind_json_step, literal_symbol_json, look_json, macro_json, macro_json_step, named_json}
use Rattle.lalrpop_json_symbols.specs.Spelling.{op_json, repeat_json, repeat_json_step, symbol_json, symbol_json_step}
use Rattle.lalrpop_json_symbols.specs.Symbols.{choose_at, form_of_symbol, group_at, group_of, id_at, literal_symbol_at, look_at, macro_at}
use Rattle.lalrpop_json_symbols.specs.Symbols.{macro_of, named_at, named_of, op_at, repeat_at, repeat_of, symbol_at, symbol_by}
use Rattle.lalrpop_json_symbols.specs.Symbols.{symbol_layer_at, written_symbol}
use Rattle.lalrpop_json_symbols.proofs.LiteralLemmas.{literal_takes, literal_again}
use Rattle.lalrpop_json_symbols.proofs.SymbolNestingLemmas.{symbol_opened}

abbrev pub SpelledSymbol : Data → Symbol → Type 0
SpelledSymbol d s = (d ≡ symbol_json s) × IsReadableSymbol s

-- ---- how symbols are spelled

spelled : (span : Span) (kind : SymbolKind) → symbol_json (written_symbol span kind) ≡ kind_json kind span
spelled span kind = fold-roll-Symbol Kind Data Call Repeated Data kind_json_step expr_json_step macro_json_step repeat_json_step
    symbol_json_step (record { span = span; kind = kind })

spelled-id : (span : Span) (n : List ℕ) → symbol_json (written_symbol span (kinds.AmbiguousId n)) ≡ id_json span n
spelled-id span n =
    spelled span (kinds.AmbiguousId n) ∙ ap (λ k. kind_json k span) (sym (kinds.rolls-AmbiguousId n))
    ∙ ap (λ f. f span) (fold-roll-SymbolKind Kind Data Call Repeated Data kind_json_step expr_json_step macro_json_step
    repeat_json_step symbol_json_step (layer.AmbiguousId n))

spelled-terminal : (span : Span) (l : TerminalLiteral)
    → symbol_json (written_symbol span (kinds.Terminal (terminals.Literal l))) ≡ literal_symbol_json span l
spelled-terminal span l =
    spelled span (kinds.Terminal (terminals.Literal l)) ∙ ap (λ k. kind_json k span) (sym (kinds.rolls-Terminal (terminals.Literal l)))
    ∙ ap (λ f. f span) (fold-roll-SymbolKind Kind Data Call Repeated Data kind_json_step expr_json_step macro_json_step
    repeat_json_step symbol_json_step (layer.Terminal (terminals.Literal l)))

spelled-group : (span : Span) (xs : List Symbol)
    → symbol_json (written_symbol span (group_of xs)) ≡ group_json span (list_json symbol_json xs)
spelled-group span xs =
    spelled span (group_of xs) ∙ ap (λ k. kind_json k span) (sym (kinds.rolls-Expr (roll-ExprSymbol (record { symbols = xs }))))
    ∙ ap (λ f. f span) (fold-roll-SymbolKind Kind Data Call Repeated Data kind_json_step expr_json_step macro_json_step
    repeat_json_step symbol_json_step (layer.Expr (roll-ExprSymbol (record { symbols = xs }))))
    ∙ ap (group_json span) (fold-roll-ExprSymbol Kind Data Call Repeated Data kind_json_step expr_json_step macro_json_step
    repeat_json_step symbol_json_step (record { symbols = xs }))

spelled-macro : (span : Span) (n : List ℕ) (xs : List Symbol)
    → symbol_json (written_symbol span (macro_of n xs)) ≡ macro_json span n (list_json symbol_json xs)
spelled-macro span n xs =
    spelled span (macro_of n xs)
    ∙ ap (λ k. kind_json k span) (sym (kinds.rolls-Macro (roll-MacroSymbol (record { name = record { 0 = n }; args = xs }))))
    ∙ ap (λ f. f span) (fold-roll-SymbolKind Kind Data Call Repeated Data kind_json_step expr_json_step macro_json_step
    repeat_json_step symbol_json_step (layer.Macro (roll-MacroSymbol (record { name = record { 0 = n }; args = xs }))))
    ∙ ap (λ m. macro_json span m.0 m.1)
    (fold-roll-MacroSymbol Kind Data Call Repeated Data kind_json_step expr_json_step macro_json_step repeat_json_step symbol_json_step
    (record { name = record { 0 = n }; args = xs }))

spelled-repeat : (span : Span) (op : RepeatOp) (x : Symbol)
    → symbol_json (written_symbol span (repeat_of op x)) ≡ repeat_json span op (symbol_json x)
spelled-repeat span op x =
    spelled span (repeat_of op x)
    ∙ ap (λ k. kind_json k span) (sym (kinds.rolls-Repeat (roll-RepeatSymbol (record { op = op; symbol = x }))))
    ∙ ap (λ f. f span) (fold-roll-SymbolKind Kind Data Call Repeated Data kind_json_step expr_json_step macro_json_step
    repeat_json_step symbol_json_step (layer.Repeat (roll-RepeatSymbol (record { op = op; symbol = x }))))
    ∙ ap (λ r. repeat_json span r.0 r.1)
    (fold-roll-RepeatSymbol Kind Data Call Repeated Data kind_json_step expr_json_step macro_json_step repeat_json_step symbol_json_step
    (record { op = op; symbol = x }))

spelled-choose : (span : Span) (x : Symbol) → symbol_json (written_symbol span (kinds.Choose x)) ≡ choose_json span (symbol_json x)
spelled-choose span x =
    spelled span (kinds.Choose x) ∙ ap (λ k. kind_json k span) (sym (kinds.rolls-Choose x))
    ∙ ap (λ f. f span) (fold-roll-SymbolKind Kind Data Call Repeated Data kind_json_step expr_json_step macro_json_step
    repeat_json_step symbol_json_step (layer.Choose x))

spelled-form_by_word : (span : Span) (m : Bool) (n : List ℕ) (x : Symbol)
    → symbol_json (written_symbol span (named_of m n x)) ≡ named_json span m n (symbol_json x)
spelled-form_by_word span m n x =
    spelled span (named_of m n x) ∙ ap (λ k. kind_json k span) (sym (kinds.rolls-Name (record { mutable = m; name = n }) x))
    ∙ ap (λ f. f span) (fold-roll-SymbolKind Kind Data Call Repeated Data kind_json_step expr_json_step macro_json_step
    repeat_json_step symbol_json_step (layer.Name (record { mutable = m; name = n }) x))

spelled-lookahead : (span : Span) → symbol_json (written_symbol span kinds.Lookahead) ≡ look_json word.Lookahead span
spelled-lookahead span =
    spelled span kinds.Lookahead ∙ ap (λ k. kind_json k span) (sym kinds.rolls-Lookahead)
    ∙ ap (λ f. f span) (fold-roll-SymbolKind Kind Data Call Repeated Data kind_json_step expr_json_step macro_json_step
    repeat_json_step symbol_json_step (layer.Lookahead))

spelled-lookbehind : (span : Span) → symbol_json (written_symbol span kinds.Lookbehind) ≡ look_json word.Lookbehind span
spelled-lookbehind span =
    spelled span kinds.Lookbehind ∙ ap (λ k. kind_json k span) (sym kinds.rolls-Lookbehind)
    ∙ ap (λ f. f span) (fold-roll-SymbolKind Kind Data Call Repeated Data kind_json_step expr_json_step macro_json_step
    repeat_json_step symbol_json_step (layer.Lookbehind))

spelled-error : (span : Span) → symbol_json (written_symbol span kinds.Error) ≡ look_json word.Error span
spelled-error span =
    spelled span kinds.Error ∙ ap (λ k. kind_json k span) (sym kinds.rolls-Error)
    ∙ ap (λ f. f span) (fold-roll-SymbolKind Kind Data Call Repeated Data kind_json_step expr_json_step macro_json_step
    repeat_json_step symbol_json_step (layer.Error))

-- ---- what is read: symbols without a symbol inside

by_sign : (a b c : Bool) (t : List ℕ) (op : RepeatOp) → is_word word.Star t ≡ a → is_word word.Plus t ≡ b
    → is_word word.Question t ≡ c
    → cond a (Ok ops.Star) (cond b (Ok ops.Plus) (cond c (Ok ops.Question) (Err (here fault.WrongShape)))) ≡ Ok op
    → string t ≡ op_json op
by_sign true b c t op is_star is_plus is_question e = rw (← ok_same ops.Star op e) (word_is word.Star t is_star)
by_sign false true c t op is_star is_plus is_question e = rw (← ok_same ops.Plus op e) (word_is word.Plus t is_plus)
by_sign false false true t op is_star is_plus is_question e = rw (← ok_same ops.Question op e) (word_is word.Question t is_question)
by_sign false false false t op is_star is_plus is_question e = absurd (cc)

op_takes : (d : Data) (op : RepeatOp) → op_at d ≡ Ok op → d ≡ op_json op
unfolding op_at
op_takes null op e = absurd (cc)
op_takes (boolean b) op e = absurd (cc)
op_takes (number n) op e = absurd (cc)
op_takes (string t) op e = by_sign (is_word word.Star t) (is_word word.Plus t) (is_word word.Question t) t op refl refl refl e
op_takes (array ds) op e = absurd (cc)
op_takes (object ms) op e = absurd (cc)

id_takes : (d : Data) (x : Symbol) → id_at d ≡ Ok x → SpelledSymbol d x
unfolding id_at field_at key_text
id_takes = object_ok (key.Kind ∷ key.Name ∷ key.Span ∷ []) _ SpelledSymbol λ fields x e.
    part (step.Key key.Kind) (word_at word.Id fields.0) _ x e λ u kind e.
    part (step.Key key.Name) (name_at fields.1.0) _ x e λ name is_name e.
    part (step.Key key.Span) (span_at fields.1.1.0) _ x e λ span spanned e.
    let kind_is = word_takes word.Id fields.0 u kind in
    let named_is = name_takes fields.1.0 name is_name in
    let spanned_is = span_takes fields.1.1.0 span spanned in
    rw (← ok_same (written_symbol span (kinds.AmbiguousId name)) x e) (
      rw (kind_is, named_is.0, spanned_is.0) (sym (spelled-id span name)),
      IsReadableSymbol.ambiguous_id span name refl named_is.1 spanned_is.1,
    )

literal_symbol_takes : (d : Data) (x : Symbol) → literal_symbol_at d ≡ Ok x → SpelledSymbol d x
unfolding literal_symbol_at field_at key_text
literal_symbol_takes = object_ok (key.Kind ∷ key.Span ∷ key.Terminal ∷ []) _ SpelledSymbol λ fields x e.
    part (step.Key key.Kind) (word_at word.Terminal fields.0) _ x e λ u kind e.
    part (step.Key key.Span) (span_at fields.1.0) _ x e λ span spanned e.
    part (step.Key key.Terminal) (literal_at fields.1.1.0) _ x e λ l lit e.
    let kind_is = word_takes word.Terminal fields.0 u kind in
    let spanned_is = span_takes fields.1.0 span spanned in
    let lit_is = literal_takes fields.1.1.0 l lit in
    rw (← ok_same (written_symbol span (kinds.Terminal (terminals.Literal l))) x e)
    (rw (kind_is, spanned_is.0, lit_is) (sym (spelled-terminal span l)), IsReadableSymbol.terminal span l refl spanned_is.1)

look_takes : (w : Word) (kind : SymbolKind) → ((span : Span) → symbol_json (written_symbol span kind) ≡ look_json w span)
    → ((span : Span) → IsSpan span → IsReadableSymbol (written_symbol span kind))
    → (d : Data) (x : Symbol) → look_at w kind d ≡ Ok x → SpelledSymbol d x
unfolding look_at field_at key_text
look_takes w kind spelled_so readable = object_ok (key.Kind ∷ key.Span ∷ []) _ SpelledSymbol λ fields x e.
    part (step.Key key.Kind) (word_at w fields.0) _ x e λ u kind_word e.
    part (step.Key key.Span) (span_at fields.1.0) _ x e λ span spanned e.
    let kind_is = word_takes w fields.0 u kind_word in
    let spanned_is = span_takes fields.1.0 span spanned in
    rw (← ok_same (written_symbol span kind) x e) (rw (kind_is, spanned_is.0) (sym (spelled_so span)), readable span spanned_is.1)

-- ---- what is read: symbols with symbols inside

are_from : (i : ℕ) (xs : List Symbol) → EachFrom (λ _. IsReadableSymbol) i xs → AreReadableSymbols xs
are_from i [] each = AreReadableSymbols.none
are_from i (x ∷ xs) each = AreReadableSymbols.more each.0 (are_from (i + 1) xs each.1)

module _ (read : Reader Symbol) (takes : (d : Data) (x : Symbol) → read d ≡ Ok x → SpelledSymbol d x) where
  all_take : (d : Data) (xs : List Symbol) → list_at (λ _. read) d ≡ Ok xs → (d ≡ list_json symbol_json xs)
      × AreReadableSymbols xs
  all_take d xs e = let all = list_takes (λ _. read) symbol_json (λ _. IsReadableSymbol) (λ _. takes) d xs e in
      (all.0, are_from 0 xs all.1)

  group_takes : (d : Data) (x : Symbol) → group_at read d ≡ Ok x → SpelledSymbol d x
  unfolding group_at field_at key_text
  group_takes = object_ok (key.Expr ∷ key.Kind ∷ key.Span ∷ []) _ SpelledSymbol λ fields x e.
      part (step.Key key.Expr) (list_at (λ _. read) fields.0) _ x e λ symbols inner e.
      part (step.Key key.Kind) (word_at word.Group fields.1.0) _ x e λ u kind e.
      part (step.Key key.Span) (span_at fields.1.1.0) _ x e λ span spanned e.
      let inner_is = all_take fields.0 symbols inner in
      let kind_is = word_takes word.Group fields.1.0 u kind in
      let spanned_is = span_takes fields.1.1.0 span spanned in
      rw (← ok_same (written_symbol span (group_of symbols)) x e) (
        rw (inner_is.0, kind_is, spanned_is.0) (sym (spelled-group span symbols)),
        IsReadableSymbol.expr span symbols refl inner_is.1 spanned_is.1,
      )

  macro_takes : (d : Data) (x : Symbol) → macro_at read d ≡ Ok x → SpelledSymbol d x
  unfolding macro_at field_at key_text
  macro_takes = object_ok (key.Args ∷ key.Kind ∷ key.Name ∷ key.Span ∷ []) _ SpelledSymbol λ fields x e.
      part (step.Key key.Args) (list_at (λ _. read) fields.0) _ x e λ args inner e.
      part (step.Key key.Kind) (word_at word.Macro fields.1.0) _ x e λ u kind e.
      part (step.Key key.Name) (name_at fields.1.1.0) _ x e λ name is_name e.
      part (step.Key key.Span) (span_at fields.1.1.1.0) _ x e λ span spanned e.
      let inner_is = all_take fields.0 args inner in
      let kind_is = word_takes word.Macro fields.1.0 u kind in
      let named_is = name_takes fields.1.1.0 name is_name in
      let spanned_is = span_takes fields.1.1.1.0 span spanned in
      rw (← ok_same (written_symbol span (macro_of name args)) x e) (
        rw (inner_is.0, kind_is, named_is.0, spanned_is.0) (sym (spelled-macro span name args)),
        IsReadableSymbol.macro span name args refl inner_is.1 named_is.1 spanned_is.1,
      )

  repeat_takes : (d : Data) (x : Symbol) → repeat_at read d ≡ Ok x → SpelledSymbol d x
  unfolding repeat_at field_at key_text
  repeat_takes = object_ok (key.Kind ∷ key.Op ∷ key.Span ∷ key.Symbol ∷ []) _ SpelledSymbol λ fields x e.
      part (step.Key key.Kind) (word_at word.Repeat fields.0) _ x e λ u kind e.
      part (step.Key key.Op) (op_at fields.1.0) _ x e λ op sign e.
      part (step.Key key.Span) (span_at fields.1.1.0) _ x e λ span spanned e.
      part (step.Key key.Symbol) (read fields.1.1.1.0) _ x e λ symbol inner e.
      let kind_is = word_takes word.Repeat fields.0 u kind in
      let sign_is = op_takes fields.1.0 op sign in
      let spanned_is = span_takes fields.1.1.0 span spanned in
      let inner_is = takes fields.1.1.1.0 symbol inner in
      rw (← ok_same (written_symbol span (repeat_of op symbol)) x e) (
        rw (kind_is, sign_is, spanned_is.0, inner_is.0) (sym (spelled-repeat span op symbol)),
        IsReadableSymbol.repeat span op symbol refl inner_is.1 spanned_is.1,
      )

  choose_takes : (d : Data) (x : Symbol) → choose_at read d ≡ Ok x → SpelledSymbol d x
  unfolding choose_at field_at key_text
  choose_takes = object_ok (key.Kind ∷ key.Span ∷ key.Symbol ∷ []) _ SpelledSymbol λ fields x e.
      part (step.Key key.Kind) (word_at word.Choose fields.0) _ x e λ u kind e.
      part (step.Key key.Span) (span_at fields.1.0) _ x e λ span spanned e.
      part (step.Key key.Symbol) (read fields.1.1.0) _ x e λ symbol inner e.
      let kind_is = word_takes word.Choose fields.0 u kind in
      let spanned_is = span_takes fields.1.0 span spanned in
      let inner_is = takes fields.1.1.0 symbol inner in
      rw (← ok_same (written_symbol span (kinds.Choose symbol)) x e) (
        rw (kind_is, spanned_is.0, inner_is.0) (sym (spelled-choose span symbol)),
        IsReadableSymbol.choose span symbol refl inner_is.1 spanned_is.1,
      )

  named_takes : (d : Data) (x : Symbol) → named_at read d ≡ Ok x → SpelledSymbol d x
  unfolding named_at field_at key_text
  named_takes = object_ok (key.Kind ∷ key.Mutable ∷ key.Name ∷ key.Span ∷ key.Symbol ∷ []) _ SpelledSymbol λ fields x e.
      part (step.Key key.Kind) (word_at word.Named fields.0) _ x e λ u kind e.
      part (step.Key key.Mutable) (flag_at fields.1.0) _ x e λ mutable flag e.
      part (step.Key key.Name) (name_at fields.1.1.0) _ x e λ name titled e.
      part (step.Key key.Span) (span_at fields.1.1.1.0) _ x e λ span spanned e.
      part (step.Key key.Symbol) (read fields.1.1.1.1.0) _ x e λ symbol inner e.
      let kind_is = word_takes word.Named fields.0 u kind in
      let flag_is = flag_takes fields.1.0 mutable flag in
      let titled_is = name_takes fields.1.1.0 name titled in
      let spanned_is = span_takes fields.1.1.1.0 span spanned in
      let inner_is = takes fields.1.1.1.1.0 symbol inner in
      rw (← ok_same (written_symbol span (named_of mutable name symbol)) x e) (
        rw (kind_is, flag_is, titled_is.0, spanned_is.0, inner_is.0) (sym (spelled-form_by_word span mutable name symbol)),
        IsReadableSymbol.name span mutable name symbol refl inner_is.1 titled_is.1 spanned_is.1,
      )

  by_form : (f : Option Form) (d : Data) (x : Symbol) → symbol_by f read d ≡ Ok x → SpelledSymbol d x
  by_form (Some form.Choose) d x e = choose_takes d x e
  by_form (Some form.Error) d x e = look_takes word.Error kinds.Error spelled-error (λ span is. IsReadableSymbol.error span refl is) d x e
  by_form (Some form.Group) d x e = group_takes d x e
  by_form (Some form.Id) d x e = id_takes d x e
  by_form (Some form.Lookahead) d x e =
      look_takes word.Lookahead kinds.Lookahead spelled-lookahead (λ span is. IsReadableSymbol.lookahead span refl is) d x e
  by_form (Some form.Lookbehind) d x e =
      look_takes word.Lookbehind kinds.Lookbehind spelled-lookbehind (λ span is. IsReadableSymbol.lookbehind span refl is) d x e
  by_form (Some form.Macro) d x e = macro_takes d x e
  by_form (Some form.Named) d x e = named_takes d x e
  by_form (Some form.Repeat) d x e = repeat_takes d x e
  by_form (Some form.Terminal) d x e = literal_symbol_takes d x e
  by_form _ d x e = absurd (cc)

  form_takes : (d : Data) (x : Symbol) → symbol_layer_at read d ≡ Ok x → SpelledSymbol d x
  unfolding symbol_layer_at
  form_takes d x e = by_form (form_of_symbol d) d x e

-- a value that is read as a symbol is its JSON, and the symbol has a spelling
pub symbol_takes : (d : Data) (x : Symbol) → symbol_at d ≡ Ok x → SpelledSymbol d x
unfolding symbol_at
symbol_takes = nested_takes symbol_layer_at SpelledSymbol form_takes

-- a value that is read as symbols is their JSON, and each of them has a spelling
pub symbols_take : (d : Data) (xs : List Symbol) → list_at (λ _. symbol_at) d ≡ Ok xs → (d ≡ list_json symbol_json xs)
    × AreReadableSymbols xs
symbols_take = all_take symbol_at symbol_takes

-- ---- what is spelled

op_again : (op : RepeatOp) → op_at (op_json op) ≡ Ok op
unfolding op_at word_text
op_again ops.Star = refl
op_again ops.Plus = refl
op_again ops.Question = refl

id_again : (span : Span) (n : List ℕ) → IsSpan span → is_name n ≡ true
    → symbol_at (id_json span n) ≡ Ok (written_symbol span (kinds.AmbiguousId n))
unfolding symbol_layer_at form_of_symbol form_at id_at keys_at field_at key_text word_at word_text
id_again span n spanned h0 = symbol_opened (id_json span n) ∙ rw (name_again n h0, span_again span spanned) refl

terminal_again : (span : Span) (l : TerminalLiteral) → IsSpan span
    → symbol_at (literal_symbol_json span l) ≡ Ok (written_symbol span (kinds.Terminal (terminals.Literal l)))
unfolding symbol_layer_at form_of_symbol form_at literal_symbol_at keys_at field_at key_text word_at word_text
terminal_again span l spanned = symbol_opened (literal_symbol_json span l) ∙ rw (span_again span spanned, literal_again l) refl

group_again : (span : Span) (xs : List Symbol) → IsSpan span → list_from (λ _. symbol_at) 0 (items_of (map symbol_json xs)) ≡ Ok xs
    → symbol_at (group_json span (list_json symbol_json xs)) ≡ Ok (written_symbol span (group_of xs))
unfolding symbol_layer_at form_of_symbol form_at group_at keys_at field_at key_text word_at word_text list_at
group_again span xs spanned h0 = symbol_opened (group_json span (list_json symbol_json xs)) ∙ rw (h0, span_again span spanned) refl

macro_again : (span : Span) (n : List ℕ) (xs : List Symbol) → IsSpan span → is_name n ≡ true
    → list_from (λ _. symbol_at) 0 (items_of (map symbol_json xs)) ≡ Ok xs
    → symbol_at (macro_json span n (list_json symbol_json xs)) ≡ Ok (written_symbol span (macro_of n xs))
unfolding symbol_layer_at form_of_symbol form_at macro_at keys_at field_at key_text word_at word_text list_at
macro_again span n xs spanned h0 h1 =
    symbol_opened (macro_json span n (list_json symbol_json xs)) ∙ rw (h1, name_again n h0, span_again span spanned) refl

repeat_again : (span : Span) (op : RepeatOp) (x : Symbol) → IsSpan span → symbol_at (symbol_json x) ≡ Ok x
    → symbol_at (repeat_json span op (symbol_json x)) ≡ Ok (written_symbol span (repeat_of op x))
unfolding symbol_layer_at form_of_symbol form_at repeat_at keys_at field_at key_text word_at word_text
repeat_again span op x spanned h0 =
    symbol_opened (repeat_json span op (symbol_json x)) ∙ rw (op_again op, span_again span spanned, h0) refl

choose_again : (span : Span) (x : Symbol) → IsSpan span → symbol_at (symbol_json x) ≡ Ok x
    → symbol_at (choose_json span (symbol_json x)) ≡ Ok (written_symbol span (kinds.Choose x))
unfolding symbol_layer_at form_of_symbol form_at choose_at keys_at field_at key_text word_at word_text
choose_again span x spanned h0 = symbol_opened (choose_json span (symbol_json x)) ∙ rw (span_again span spanned, h0) refl

named_again : (span : Span) (m : Bool) (n : List ℕ) (x : Symbol) → IsSpan span → is_name n ≡ true
    → symbol_at (symbol_json x) ≡ Ok x → symbol_at (named_json span m n (symbol_json x)) ≡ Ok (written_symbol span (named_of m n x))
unfolding symbol_layer_at form_of_symbol form_at named_at keys_at field_at key_text word_at word_text flag_at
named_again span m n x spanned h0 h1 =
    symbol_opened (named_json span m n (symbol_json x)) ∙ rw (name_again n h0, span_again span spanned, h1) refl

lookahead_again : (span : Span) → IsSpan span → symbol_at (look_json word.Lookahead span) ≡ Ok (written_symbol span kinds.Lookahead)
unfolding symbol_layer_at form_of_symbol form_at look_at keys_at field_at key_text word_at word_text
lookahead_again span spanned = symbol_opened (look_json word.Lookahead span) ∙ rw (span_again span spanned) refl

lookbehind_again : (span : Span) → IsSpan span
    → symbol_at (look_json word.Lookbehind span) ≡ Ok (written_symbol span kinds.Lookbehind)
unfolding symbol_layer_at form_of_symbol form_at look_at keys_at field_at key_text word_at word_text
lookbehind_again span spanned = symbol_opened (look_json word.Lookbehind span) ∙ rw (span_again span spanned) refl

error_again : (span : Span) → IsSpan span → symbol_at (look_json word.Error span) ≡ Ok (written_symbol span kinds.Error)
unfolding symbol_layer_at form_of_symbol form_at look_at keys_at field_at key_text word_at word_text
error_again span spanned = symbol_opened (look_json word.Error span) ∙ rw (span_again span spanned) refl

mutual
  -- the JSON of a symbol that has a spelling is read as that symbol
  pub symbol_again : (s : Symbol) → IsReadableSymbol s → symbol_at (symbol_json s) ≡ Ok s
  symbol_again s (IsReadableSymbol.ambiguous_id span n e is spanned) = rw (e, spelled-id span n) (id_again span n spanned is)
  symbol_again s (IsReadableSymbol.terminal span l e spanned) = rw (e, spelled-terminal span l) (terminal_again span l spanned)
  symbol_again s (IsReadableSymbol.expr span xs e are spanned) =
      rw (e, spelled-group span xs) (group_again span xs spanned (symbols_from_again 0 xs are))
  symbol_again s (IsReadableSymbol.macro span n xs e are is spanned) =
      rw (e, spelled-macro span n xs) (macro_again span n xs spanned is (symbols_from_again 0 xs are))
  symbol_again s (IsReadableSymbol.repeat span op x e is spanned) =
      rw (e, spelled-repeat span op x) (repeat_again span op x spanned (symbol_again x is))
  symbol_again s (IsReadableSymbol.choose span x e is spanned) =
      rw (e, spelled-choose span x) (choose_again span x spanned (symbol_again x is))
  symbol_again s (IsReadableSymbol.name span m n x e is name spanned) =
      rw (e, spelled-form_by_word span m n x) (named_again span m n x spanned name (symbol_again x is))
  symbol_again s (IsReadableSymbol.lookahead span e spanned) = rw (e, spelled-lookahead span) (lookahead_again span spanned)
  symbol_again s (IsReadableSymbol.lookbehind span e spanned) = rw (e, spelled-lookbehind span) (lookbehind_again span spanned)
  symbol_again s (IsReadableSymbol.error span e spanned) = rw (e, spelled-error span) (error_again span spanned)

  symbols_from_again : (i : ℕ) (xs : List Symbol) → AreReadableSymbols xs
      → list_from (λ _. symbol_at) i (items_of (map symbol_json xs)) ≡ Ok xs
  symbols_from_again i [] AreReadableSymbols.none = refl
  symbols_from_again i (x ∷ xs) (AreReadableSymbols.more is are) = rw (symbol_again x is, symbols_from_again (i + 1) xs are) refl

-- the JSON of symbols that have a spelling is read as those symbols
pub symbols_again : (xs : List Symbol) → AreReadableSymbols xs → list_at (λ _. symbol_at) (list_json symbol_json xs) ≡ Ok xs
unfolding list_at
symbols_again xs are = symbols_from_again 0 xs are
