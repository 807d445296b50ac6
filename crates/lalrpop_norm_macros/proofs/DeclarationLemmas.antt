-- Bare names in the symbols of declared types are mapped, and types put in one after another; for the functions that put types.
use Rattle.std.proofs.Common.{◌≡◌, ℕ, ◌+◌, List, [], ◌∷◌, ◌++◌, refl, ap, sym, ◌∙◌, subst, cond, inl, inr, map}
use Rattle.std.specs.Prelude.{Bool, true, false, Option, Some, None, filter, option_map}
use Rattle.std.specs.Str.{bytes_eq}
use Rattle.lalrpop_grammar_symbols.specs.Symbols.{Text, Terminal, Op, Closed, Closeds, Sym, WrittenSymbol}
use Rattle.lalrpop_grammar_symbols.specs.Views.{symbol_view}
use Rattle.lalrpop_grammar_symbols.specs.declared.symbol.Symbol.{Symbol}
use Rattle.lalrpop_grammar.specs.declared.types.type_ref.TypeRef.{TypeRef, fold-roll-TypeRef}
use Rattle.lalrpop_grammar.specs.declared.types.type_ref.TypeRef.TheOpen as layer
use Rattle.lalrpop_grammar.specs.declared.types.type_ref.TypeRef.TheVariants as written
use Rattle.lalrpop_grammar.specs.WrittenGrammar.{Ty, Tys}
use Rattle.lalrpop_grammar.specs.Views.{tys, type_step, type_view}
use Rattle.lalrpop_grammar_language.specs.Among.{Among}
use Rattle.lalrpop_grammar_language.specs.Enabled.{EnabledGrammar, EnabledRule, has_text, rules_named}
use Rattle.lalrpop_grammar_language.specs.Closing.{Binding, Scope, call_level, close}
use Rattle.lalrpop_grammar_language.specs.Closing.{close_all, close_terminal, if_macro, if_plain, is_sound}
use Rattle.lalrpop_grammar_language.specs.Closing.{name_meaning, name_meaning_in, name_or, names_owner, only_value, parameter_value}
use Rattle.lalrpop_grammar_language.specs.Closing.{plain_call, plain_name, sound_or_faulty}
use Rattle.lalrpop_norm_theory.specs.KeyTypes.{ArePutTypes, IsLeftAsWritten, IsNamedType, IsPutType, repeat_ty}
use Rattle.lalrpop_norm_keys.specs.Tables.{table_keys}
use Rattle.lalrpop_norm_macros.specs.KeyNaming.{IsSymbolOrNone, SpellsNames}
use Rattle.lalrpop_norm_macros.specs.KeyDeclarations.{ArePutUnder, BindsMapped, IsNamedTypeUnder}
use Rattle.lalrpop_norm_macros.specs.KeyDeclarations.{IsPutUnder, IsSymbolTypeUnder, declaration_scope, repeat_path_of}
use Rattle.lalrpop_norm_macros.specs.KeyedSymbols.{IsMappedSymbol}
use Rattle.lalrpop_norm_macros.specs.declared.key_symbols.names.KeyNames.{KeyNames}

-- what a parameter is bound to
abbrev IsMappedValue : List Text → Option Closed → Type 0
IsMappedValue bares None = Unit {0}
IsMappedValue bares (Some x) = IsMappedSymbol bares x

only_mapped : (bares : List Text) (xs : List Closed) → ((x : Closed) → Among xs x → IsMappedSymbol bares x)
    → IsMappedValue bares (only_value xs)
only_mapped bares [] w = tt
only_mapped bares (x ∷ []) w = w x (inl refl)
only_mapped bares (x ∷ y ∷ xs) w = tt

values_mapped : (bares : List Text) (b : Binding) (n : Text) → BindsMapped bares b → (x : Closed)
    → Among (map (λ (p : Text × Closed). p.1) (filter (λ (p : Text × Closed). bytes_eq n p.0) b)) x → IsMappedSymbol bares x
values_mapped bares [] n w x i = absurd i
values_mapped bares (p ∷ b) n w x i = go (bytes_eq n p.0) i (λ j. values_mapped bares b n (λ q k. w q (inr k)) x j)
  where
    rest : List (Text × Closed)
    rest = filter (λ (q : Text × Closed). bytes_eq n q.0) b

    go : (c : Bool) → Among (map (λ (q : Text × Closed). q.1) (cond c (p ∷ rest) rest)) x
        → (Among (map (λ (q : Text × Closed). q.1) rest) x → IsMappedSymbol bares x) → IsMappedSymbol bares x
    go true (inl e) later = subst (IsMappedSymbol bares) e (w p (inl refl))
    go true (inr j) later = later j
    go false j later = later j

pub value_mapped : (bares : List Text) (b : Binding) (n : Text) → BindsMapped bares b → IsMappedValue bares (parameter_value b n)
value_mapped bares b n w = only_mapped bares _ (values_mapped bares b n w)

-- closing
module _ (s : Scope) (w : BindsMapped s.grammar.bares s.binding) where
  abbrev bares : List Text
  bares = s.grammar.bares

  of_value : (v : Option Closed) (x : Closed) → IsMappedValue bares v → IsMappedSymbol bares x → IsMappedSymbol bares (name_or v x)
  of_value None x v h = h
  of_value (Some y) x v h = v

  of_hidden : (v : Option Closed) (x : Closed) → IsMappedSymbol bares x
      → IsMappedSymbol bares (name_or (option_map (λ c. Closed.faulty) v) x)
  of_hidden None x h = h
  of_hidden (Some y) x h = tt

  plain_mapped : (k : ℕ) (n : Text) (q : EnabledRule) (ps : List Text)
      → IsMappedSymbol bares (if_plain ps (Closed.call n Closeds.none (call_level s k n q)))
  plain_mapped k n q [] = tt
  plain_mapped k n q (p ∷ ps) = tt

  name_mapped : (k : ℕ) (n : Text) (rs : List EnabledRule) (b : Bool) → has_text n bares ≡ b
      → IsMappedSymbol bares (plain_name s k n (name_meaning_in rs b))
  name_mapped k n [] true e = e
  name_mapped k n [] false e = tt
  name_mapped k n (r ∷ []) b e = plain_mapped k n r r.parameters
  name_mapped k n (r ∷ q ∷ rs) b e = tt

  macro_mapped : (k : ℕ) (n : Text) (args : Closeds) (q : EnabledRule) (ps : List Text)
      → IsMappedSymbol bares (if_macro ps args (Closed.call n args (call_level s k n q)))
  macro_mapped k n args q [] = tt
  macro_mapped k n args q (p ∷ ps) = go _
    where
      go : (b : Bool) → IsMappedSymbol bares (cond b (Closed.call n args (call_level s k n q)) Closed.faulty)
      go true = tt
      go false = tt

  call_mapped : (k : ℕ) (n : Text) (args : Closeds) (rs : List EnabledRule) (b : Bool)
      → IsMappedSymbol bares (plain_call s k n args (name_meaning_in rs b))
  call_mapped k n args [] true = tt
  call_mapped k n args [] false = tt
  call_mapped k n args (r ∷ []) b = macro_mapped k n args r r.parameters
  call_mapped k n args (r ∷ q ∷ rs) b = tt

  terminal_mapped : (t : Terminal) → IsMappedSymbol bares (close_terminal s.grammar t)
  terminal_mapped (Terminal.quoted t) = tt
  terminal_mapped (Terminal.regex t) = tt
  terminal_mapped (Terminal.bare n) = go (has_text n bares) refl
    where
      go : (b : Bool) → has_text n bares ≡ b → IsMappedSymbol bares (cond b (Closed.terminal (Terminal.bare n)) Closed.faulty)
      go true e = e
      go false e = tt
  terminal_mapped Terminal.error = tt

  close_mapped : (k : ℕ) (x : WrittenSymbol) → IsMappedSymbol bares (close s k x)
  close_mapped k (Sym.expr p xs) = tt
  close_mapped k (Sym.ambiguous_id p n) =
      of_value (parameter_value s.binding n) (plain_name s k n (name_meaning s.grammar n)) (value_mapped bares s.binding n w)
      (name_mapped k n (rules_named s.grammar n) (has_text n bares) refl)
  close_mapped k (Sym.nonterminal p n) = name_mapped k n (rules_named s.grammar n) (has_text n bares) refl
  close_mapped k (Sym.terminal p t) = terminal_mapped t
  close_mapped k (Sym.macro p n args) =
      of_hidden (parameter_value s.binding n) _
      (call_mapped k n (close_all s (k + names_owner s.binding s.owner n) args) (rules_named s.grammar n) (has_text n bares))
  close_mapped k (Sym.repeat p op x) = tt
  close_mapped k (Sym.choose p x) = close_mapped k x
  close_mapped k (Sym.name p m n x) = close_mapped k x
  close_mapped k (Sym.lookahead p) = tt
  close_mapped k (Sym.lookbehind p) = tt
  close_mapped k (Sym.error p) = tt

  pub symbol_mapped : (k : ℕ) (x : WrittenSymbol) → IsMappedSymbol bares (sound_or_faulty (close s k x))
  symbol_mapped k x = go (is_sound (close s k x)) (close_mapped k x)
    where
      go : (b : Bool) → IsMappedSymbol bares (close s k x) → IsMappedSymbol bares (cond b (close s k x) Closed.faulty)
      go true h = h
      go false h = tt

-- one type more is put in
types_on : (bares : List Text) (f : Closed → Text) (keys : List Closed) (s : Scope) (ys us zs vs : List Ty)
    → ArePutTypes bares f keys s (tys ys) (tys zs) → ArePutTypes bares f keys s (tys us) (tys vs)
    → ArePutTypes bares f keys s (tys (ys ++ us)) (tys (zs ++ vs))
types_on bares f keys s [] us [] vs h w = w
types_on bares f keys s [] us (z ∷ zs) vs h w = cc
types_on bares f keys s (y ∷ ys) us [] vs (u, others, e, p, h) w = cc
types_on bares f keys s (y ∷ ys) us (z ∷ zs) vs (u, others, e, p, h) w =
    let first : u ≡ z = cc in
    let rest : others ≡ tys zs = cc in (
      z,
      tys (zs ++ vs),
      refl,
      subst (IsPutType bares f keys s y) first p,
      types_on bares f keys s ys us zs vs (subst (ArePutTypes bares f keys s (tys ys)) rest h) w,
    )

pub put_more : (k : KeyNames) (g : EnabledGrammar) (r : EnabledRule) (b : Binding) (ys zs : List Ty) (y z : Ty)
    → ArePutUnder k g r b ys zs
    → IsPutUnder k g r b y z → ArePutUnder k g r b (ys ++ y ∷ []) (zs ++ z ∷ [])
put_more k g r b ys zs y z h w = λ f spelled mapped.
    types_on g.bares f _ (declaration_scope g r b) ys (y ∷ []) zs (z ∷ []) (h f spelled mapped)
    (z, Tys.none, refl, w f spelled mapped, refl)

-- one more type with its parameters put in goes behind types that have theirs put in
pub put_on : (k : KeyNames) (g : EnabledGrammar) (r : EnabledRule) (b : Binding) (ys us zs vs : List Ty) (y z : Ty)
    → us ≡ ys ++ y ∷ []
    → vs ≡ zs ++ z ∷ [] → ArePutUnder k g r b ys zs → IsPutUnder k g r b y z → ArePutUnder k g r b us vs
put_on k g r b ys us zs vs y z e d h w =
    subst (λ l. ArePutUnder k g r b l vs) (sym e) (subst (ArePutUnder k g r b (ys ++ y ∷ [])) (sym d) (put_more k g r b ys zs y z h w))

-- types form by form

view-Tuple : (ts : List TypeRef) → type_view (written.Tuple ts) ≡ Ty.tuple (tys (map type_view ts))
view-Tuple ts = ap type_view (sym (written.rolls-Tuple ts)) ∙ fold-roll-TypeRef Ty type_step (layer.Tuple ts)

view-Nominal : (path : Text) (ts : List TypeRef) → type_view (written.Nominal path ts) ≡ Ty.nominal path (tys (map type_view ts))
view-Nominal path ts = ap type_view (sym (written.rolls-Nominal path ts)) ∙ fold-roll-TypeRef Ty type_step (layer.Nominal path ts)

view-Id : (n : Text) → type_view (written.Id n) ≡ Ty.id n
view-Id n = ap type_view (sym (written.rolls-Id n)) ∙ fold-roll-TypeRef Ty type_step (layer.Id n)

view-OfSymbol : (x : Symbol) → type_view (written.OfSymbol x) ≡ Ty.of_symbol (symbol_view x)
view-OfSymbol x = ap type_view (sym (written.rolls-OfSymbol x)) ∙ fold-roll-TypeRef Ty type_step (layer.OfSymbol x)

module _ (k : KeyNames) (g : EnabledGrammar) (r : EnabledRule) (b : Binding) where
  pub put_tuple : (w : TypeRef) (ys zs : List TypeRef) → w ≡ written.Tuple ys
      → ArePutUnder k g r b (map type_view ys) (map type_view zs) → IsPutUnder k g r b (type_view w) (type_view (written.Tuple zs))
  put_tuple w ys zs is h = λ f spelled mapped.
      subst (λ v. IsPutType g.bares f (table_keys k.keys.now) (declaration_scope g r b) v (type_view (written.Tuple zs)))
      (sym (ap type_view is ∙ view-Tuple ys)) (tys (map type_view zs), view-Tuple zs, h f spelled mapped)

  pub put_nominal : (w : TypeRef) (path p : Text) (ys zs : List TypeRef) → w ≡ written.Nominal path ys → p ≡ path
      → ArePutUnder k g r b (map type_view ys) (map type_view zs) → IsPutUnder k g r b (type_view w) (type_view (written.Nominal p zs))
  put_nominal w path p ys zs is same h = λ f spelled mapped.
      subst (λ v. IsPutType g.bares f (table_keys k.keys.now) (declaration_scope g r b) v (type_view (written.Nominal p zs)))
      (sym (ap type_view is ∙ view-Nominal path ys))
      (tys (map type_view zs), view-Nominal p zs ∙ ap (λ q. Ty.nominal q (tys (map type_view zs))) same, h f spelled mapped)

  pub put_id : (w : TypeRef) (n : Text) (z : Ty) → w ≡ written.Id n → IsNamedTypeUnder k n (parameter_value b n) z
      → IsPutUnder k g r b (type_view w) z
  put_id w n z is h = λ f spelled mapped.
      subst (λ v. IsPutType g.bares f (table_keys k.keys.now) (declaration_scope g r b) v z) (sym (ap type_view is ∙ view-Id n))
      (go f spelled (parameter_value b n) (value_mapped g.bares b n mapped) h)
    where
      go : (f : Closed → Text) → SpellsNames k f → (o : Option Closed) → IsMappedValue g.bares o → IsNamedTypeUnder k n o z
          → IsNamedType g.bares f (table_keys k.keys.now) n o z
      go f spelled None m e = e
      go f spelled (Some x) m e = e g.bares f spelled m

  pub put_symbol : (w : TypeRef) (x : Symbol) (z : Ty) → w ≡ written.OfSymbol x
      → IsSymbolTypeUnder k (sound_or_faulty (close (declaration_scope g r b) 0 (symbol_view x))) z → IsPutUnder k g r b (type_view w) z
  put_symbol w x z is h = λ f spelled mapped.
      subst (λ v. IsPutType g.bares f (table_keys k.keys.now) (declaration_scope g r b) v z) (sym (ap type_view is ∙ view-OfSymbol x))
      (h g.bares f spelled (symbol_mapped (declaration_scope g r b) mapped 0 (symbol_view x)))

-- the type of a symbol that is written, or left
pub type_written : (k : KeyNames) (x : Closed) (v : Symbol) → IsSymbolOrNone k x (Some v)
    → IsSymbolTypeUnder k x (type_view (written.OfSymbol v))
type_written k x v h = λ bares f spelled mapped.
    (symbol_view v, view-OfSymbol v, inl (h.0, h.1 bares f spelled mapped))

pub type_left : (k : KeyNames) (x : Closed) (v : Symbol) → IsSymbolOrNone k x None → IsLeftAsWritten (symbol_view v)
    → IsSymbolTypeUnder k x (type_view (written.OfSymbol v))
type_left k x v h left = λ bares f spelled mapped. (symbol_view v, view-OfSymbol v, inr (h f spelled, left))

-- the type of a repeat
pub repeat_written : (op : Op) (p : Text) (ts : List TypeRef) (x : Symbol) → p ≡ repeat_path_of op → ts ≡ written.OfSymbol x ∷ []
    → type_view (written.Nominal p ts) ≡ repeat_ty op (symbol_view x)
repeat_written op p ts x e d =
    view-Nominal p ts ∙ ap (λ q. Ty.nominal q (tys (map type_view ts))) e
    ∙ ap (λ l. Ty.nominal (repeat_path_of op) (tys (map type_view l))) d
    ∙ ap (λ y. Ty.nominal (repeat_path_of op) (Tys.more y Tys.none)) (view-OfSymbol x) ∙ by_op op
  where
    by_op : (o : Op) → Ty.nominal (repeat_path_of o) (Tys.more (Ty.of_symbol (symbol_view x)) Tys.none) ≡ repeat_ty o (symbol_view x)
    by_op Op.star = refl
    by_op Op.plus = refl
    by_op Op.question = refl
