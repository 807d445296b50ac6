-- The symbols in a readable symbol or type are of written forms; for alternatives and declared types.
use Rattle.std.proofs.Common.{◌≡◌, List, [], ◌∷◌, ◌++◌, ap, sym, ◌∙◌, subst, inl, inr, ◌⊎◌}
use Rattle.std.specs.Prelude.{map}
use Rattle.lalrpop_grammar_symbols.specs.Symbols.{Sym, syms, WrittenSymbol}
use Rattle.lalrpop_grammar_symbols.specs.Subsymbols.{subsymbols, subsymbols_of}
use Rattle.lalrpop_grammar_symbols.specs.Views.{symbol_view, span_view, literal_view, repeat_op_view}
use Rattle.lalrpop_grammar_symbols.specs.declared.symbol.Symbol.{Symbol}
use Rattle.lalrpop_grammar_symbols.specs.declared.terminal.TerminalLiteral.{TerminalLiteral}
use Rattle.lalrpop_grammar_symbols.specs.declared.terminal.TerminalLiteral.TheVariants as literals
use Rattle.lalrpop_grammar.specs.declared.types.type_ref.TypeRef.{TypeRef}
use Rattle.lalrpop_grammar.specs.WrittenGrammar.{Ty}
use Rattle.lalrpop_grammar.specs.Views.{type_view, tys}
use Rattle.lalrpop_grammar_language.specs.Among.{Among}
use Rattle.lalrpop_json_symbols.specs.Readable.{IsReadableSymbol, AreReadableSymbols, IsReadableType, AreReadableTypes}
use Rattle.lalrpop_norm_theory.specs.Premises.{IsReadForm, symbols_of_type, symbols_of_types}
use Rattle.lalrpop_grammar_language.proofs.OrderLemmas.{among_parts}
use Rattle.lalrpop_norm.proofs.NameLemmas.{name_read}
use Rattle.lalrpop_norm.proofs.ViewLemmas.{view-id, view-literal, view-group, view-macro, view-repeat, view-choose}
use Rattle.lalrpop_norm.proofs.ViewLemmas.{view-name, view-lookahead, view-lookbehind, view-error, view-tuple}
use Rattle.lalrpop_norm.proofs.ViewLemmas.{view-nominal, view-type_name, view-of_symbol, view-ref, view-opaque}

-- each of the symbols is of a written form
abbrev pub AreReadForms : List WrittenSymbol → Type 0
AreReadForms xs = (x : WrittenSymbol) → Among xs x → IsReadForm x

-- the first one is, and the others are
with_first : (x : WrittenSymbol) (xs : List WrittenSymbol) → IsReadForm x → AreReadForms xs → AreReadForms (x ∷ xs)
with_first x xs h k y (inl e) = subst IsReadForm e h
with_first x xs h k y (inr i) = k y i

-- those of both lists are
both : (xs ys : List WrittenSymbol) → AreReadForms xs → AreReadForms ys → AreReadForms (xs ++ ys)
both xs ys h k x i = go (among_parts xs ys x i)
  where
    go : Among xs x ⊎ Among ys x → IsReadForm x
    go (inl j) = h x j
    go (inr j) = k x j

none : AreReadForms []
none x i = absurd i

literal_form : (p : _) (l : TerminalLiteral) → IsReadForm (Sym.terminal p (literal_view l))
literal_form p (literals.Quoted t) = tt
literal_form p (literals.Regex t) = tt

-- the symbol is seen so, and what is seen is of written forms
seen_so : (s : Symbol) (w : WrittenSymbol) → symbol_view s ≡ w → AreReadForms (subsymbols w)
    → AreReadForms (subsymbols (symbol_view s))
seen_so s w e h = subst (λ v. AreReadForms (subsymbols v)) (sym e) h

mutual
  pub symbol_forms : (s : Symbol) → IsReadableSymbol s → AreReadForms (subsymbols (symbol_view s))
  symbol_forms s (IsReadableSymbol.ambiguous_id p name e n k) =
      seen_so s (Sym.ambiguous_id (span_view p) name) (ap symbol_view e ∙ view-id p name)
      (with_first (Sym.ambiguous_id (span_view p) name) [] (name_read name n) none)
  symbol_forms s (IsReadableSymbol.terminal p l e k) =
      seen_so s (Sym.terminal (span_view p) (literal_view l)) (ap symbol_view e ∙ view-literal p l)
      (with_first (Sym.terminal (span_view p) (literal_view l)) [] (literal_form (span_view p) l) none)
  symbol_forms s (IsReadableSymbol.expr p xs e r k) =
      seen_so s (Sym.expr (span_view p) (syms (map symbol_view xs))) (ap symbol_view e ∙ view-group p xs)
      (with_first (Sym.expr (span_view p) (syms (map symbol_view xs))) (subsymbols_of (syms (map symbol_view xs))) tt
      (symbols_forms xs r))
  symbol_forms s (IsReadableSymbol.macro p name args e r n k) =
      seen_so s (Sym.macro (span_view p) name (syms (map symbol_view args))) (ap symbol_view e ∙ view-macro p name args)
      (with_first (Sym.macro (span_view p) name (syms (map symbol_view args))) (subsymbols_of (syms (map symbol_view args)))
      (name_read name n) (symbols_forms args r))
  symbol_forms s (IsReadableSymbol.repeat p op x e r k) =
      seen_so s (Sym.repeat (span_view p) (repeat_op_view op) (symbol_view x)) (ap symbol_view e ∙ view-repeat p op x)
      (with_first (Sym.repeat (span_view p) (repeat_op_view op) (symbol_view x)) (subsymbols (symbol_view x)) tt (symbol_forms x r))
  symbol_forms s (IsReadableSymbol.choose p x e r k) =
      seen_so s (Sym.choose (span_view p) (symbol_view x)) (ap symbol_view e ∙ view-choose p x)
      (with_first (Sym.choose (span_view p) (symbol_view x)) (subsymbols (symbol_view x)) tt (symbol_forms x r))
  symbol_forms s (IsReadableSymbol.name p m name x e r n k) =
      seen_so s (Sym.name (span_view p) m name (symbol_view x)) (ap symbol_view e ∙ view-name p m name x)
      (with_first (Sym.name (span_view p) m name (symbol_view x)) (subsymbols (symbol_view x)) (name_read name n) (symbol_forms x r))
  symbol_forms s (IsReadableSymbol.lookahead p e k) =
      seen_so s (Sym.lookahead (span_view p)) (ap symbol_view e ∙ view-lookahead p) (with_first (Sym.lookahead (span_view p)) [] tt none)
  symbol_forms s (IsReadableSymbol.lookbehind p e k) =
      seen_so s (Sym.lookbehind (span_view p)) (ap symbol_view e ∙ view-lookbehind p)
      (with_first (Sym.lookbehind (span_view p)) [] tt none)
  symbol_forms s (IsReadableSymbol.error p e k) =
      seen_so s (Sym.error (span_view p)) (ap symbol_view e ∙ view-error p) (with_first (Sym.error (span_view p)) [] tt none)

  pub symbols_forms : (ss : List Symbol) → AreReadableSymbols ss → AreReadForms (subsymbols_of (syms (map symbol_view ss)))
  symbols_forms [] r = none
  symbols_forms (s ∷ ss) (AreReadableSymbols.more h r) =
      both (subsymbols (symbol_view s)) (subsymbols_of (syms (map symbol_view ss))) (symbol_forms s h) (symbols_forms ss r)

-- the type is seen so, and the symbols in what is seen are of written forms
typed_so : (t : TypeRef) (y : Ty) → type_view t ≡ y → AreReadForms (symbols_of_type y)
    → AreReadForms (symbols_of_type (type_view t))
typed_so t y e h = subst (λ v. AreReadForms (symbols_of_type v)) (sym e) h

mutual
  pub type_forms : (t : TypeRef) → IsReadableType t → AreReadForms (symbols_of_type (type_view t))
  type_forms t (IsReadableType.tuple parts e r) =
      typed_so t (Ty.tuple (tys (map type_view parts))) (ap type_view e ∙ view-tuple parts) (types_forms parts r)
  type_forms t (IsReadableType.nominal path parts e r) =
      typed_so t (Ty.nominal path (tys (map type_view parts))) (ap type_view e ∙ view-nominal path parts) (types_forms parts r)
  type_forms t (IsReadableType.id name e n) = typed_so t (Ty.id name) (ap type_view e ∙ view-type_name name) none
  type_forms t (IsReadableType.of_symbol x e r) =
      typed_so t (Ty.of_symbol (symbol_view x)) (ap type_view e ∙ view-of_symbol x) (symbol_forms x r)
  type_forms t (IsReadableType.ref lifetime mutable inside e r) =
      typed_so t (Ty.ref lifetime mutable (type_view inside)) (ap type_view e ∙ view-ref lifetime mutable inside) (type_forms inside r)
  type_forms t (IsReadableType.opaque text e) = typed_so t (Ty.opaque text) (ap type_view e ∙ view-opaque text) none

  types_forms : (ts : List TypeRef) → AreReadableTypes ts → AreReadForms (symbols_of_types (tys (map type_view ts)))
  types_forms [] r = none
  types_forms (t ∷ ts) (AreReadableTypes.more h r) =
      both (symbols_of_type (type_view t)) (symbols_of_types (tys (map type_view ts))) (type_forms t h) (types_forms ts r)
