-- A grammar whose names are resolved stays when they are resolved once more; for resolving.
use Rattle.std.proofs.Common.{◌≡◌, List, [], ◌∷◌, refl, ap, ◌∙◌, true, inl, inr}
use Rattle.std.specs.Prelude.{Bool, Option, Some, None, map, option_map}
use Rattle.lalrpop_grammar_symbols.specs.Symbols.{Text, TextSpan, Sym, syms, WrittenSymbol}
use Rattle.lalrpop_grammar_symbols.specs.Subsymbols.{subsymbols_of}
use Rattle.lalrpop_grammar.specs.WrittenGrammar.{Ty, Tys, Alternative, Rule, Origin, WrittenItem, Grammar, rules_of}
use Rattle.lalrpop_grammar_language.specs.Among.{Among}
use Rattle.lalrpop_grammar_language.specs.Enabled.{has_text, choice_of}
use Rattle.lalrpop_norm_theory.specs.Between.{with_origins, rule_between, grammar_between}
use Rattle.lalrpop_norm_theory.specs.Premises.{symbols_of_type, symbols_of_types, IsResolved}
use Rattle.lalrpop_grammar_language.proofs.AmongLemmas.{map_among}
use Rattle.lalrpop_grammar_language.proofs.StepLemmas.{among_right}
use Rattle.lalrpop_grammar_language.proofs.StepLemmas.{among_left}
use Rattle.lalrpop_norm_theory.specs.Resolving.{DefinedNames, defined_names, use_of_name, resolved_name}
use Rattle.lalrpop_norm_theory.specs.Resolving.{resolved_type, resolved_types, resolved_alternative, resolved_rule, resolved_item}
use Rattle.lalrpop_norm_theory.specs.Resolving.{resolved_grammar}
use Rattle.lalrpop_norm_theory.proofs.ClosedNameLemmas.{symbol_stays, listed_stay}
use Rattle.lalrpop_norm_theory.proofs.NameUseLemmas.{use_of_parameter}

abbrev replacement : DefinedNames → List Text → TextSpan → Text → WrittenSymbol
replacement d ps p n = resolved_name (use_of_name d ps n) p n

-- each name among the symbols is a parameter
abbrev NamesParameters : List Text → List WrittenSymbol → Type 0
NamesParameters ps xs = (p : TextSpan) (n : Text) → Among xs (Sym.ambiguous_id p n) → has_text n ps ≡ true

parameter_stays : (d : DefinedNames) (ps : List Text) (p : TextSpan) (n : Text) → has_text n ps ≡ true →
    replacement d ps p n ≡ Sym.ambiguous_id p n
parameter_stays d ps p n e = ap (λ u. resolved_name u p n) (use_of_parameter d ps n e)

mutual
  type_stays : (d : DefinedNames) (ps : List Text) (t : Ty) → NamesParameters ps (symbols_of_type t) → resolved_type d ps t ≡ t
  type_stays d ps (Ty.tuple ts) h = ap Ty.tuple (types_stay d ps ts h)
  type_stays d ps (Ty.nominal path ts) h = ap (Ty.nominal path) (types_stay d ps ts h)
  type_stays d ps (Ty.id n) h = refl
  type_stays d ps (Ty.of_symbol x) h =
      ap Ty.of_symbol (symbol_stays (replacement d ps) x (λ p n i. parameter_stays d ps p n (h p n i)))
  type_stays d ps (Ty.ref lifetime mutable t) h = ap (Ty.ref lifetime mutable) (type_stays d ps t h)
  type_stays d ps (Ty.opaque text) h = refl

  types_stay : (d : DefinedNames) (ps : List Text) (ts : Tys) → NamesParameters ps (symbols_of_types ts) → resolved_types d ps ts ≡ ts
  types_stay d ps Tys.none h = refl
  types_stay d ps (Tys.more t ts) h =
      ap (λ u. Tys.more u (resolved_types d ps ts))
      (type_stays d ps t (λ p n i. h p n (among_left (symbols_of_type t) (symbols_of_types ts) (Sym.ambiguous_id p n) i)))
      ∙ ap (Tys.more t)
      (types_stay d ps ts (λ p n i. h p n (among_right (symbols_of_type t) (symbols_of_types ts) (Sym.ambiguous_id p n) i)))

declared_stays : (d : DefinedNames) (ps : List Text) (o : Option Ty) →
    ((t : Ty) → o ≡ Some t → NamesParameters ps (symbols_of_type t)) → option_map (resolved_type d ps) o ≡ o
declared_stays d ps None h = refl
declared_stays d ps (Some t) h = ap Some (type_stays d ps t (h t refl))

alternative_stays : (d : DefinedNames) (ps : List Text) (a : Alternative) → NamesParameters ps (subsymbols_of (syms a.expr)) →
    resolved_alternative d ps a ≡ a
alternative_stays d ps a h =
    ap with_expr (listed_stay (replacement d ps) a.expr (λ p n i. parameter_stays d ps p n (h p n i)))
  where
    with_expr : List WrittenSymbol → Alternative
    with_expr xs = record a { expr = xs }

alternatives_stay : (d : DefinedNames) (ps : List Text) (l : List Alternative) →
    ((a : Alternative) → Among l a → NamesParameters ps (subsymbols_of (syms a.expr))) → map (resolved_alternative d ps) l ≡ l
alternatives_stay d ps [] h = refl
alternatives_stay d ps (a ∷ l) h =
    ap (λ b. b ∷ map (resolved_alternative d ps) l) (alternative_stays d ps a (h a (inl refl)))
    ∙ ap (λ m. a ∷ m) (alternatives_stay d ps l (λ b i. h b (inr i)))

rule_stays : (d : DefinedNames) (r : Rule) → ((t : Ty) → r.declared ≡ Some t → NamesParameters r.parameters (symbols_of_type t)) →
    ((a : Alternative) → Among r.alternatives a → NamesParameters r.parameters (subsymbols_of (syms a.expr))) →
    resolved_rule d r ≡ r
rule_stays d r types symbols =
    ap with_declared (declared_stays d r.parameters r.declared types)
    ∙ ap with_alternatives (alternatives_stay d r.parameters r.alternatives symbols)
  where
    with_declared : Option Ty → Rule
    with_declared o = record r { declared = o; alternatives = map (resolved_alternative d r.parameters) r.alternatives }

    with_alternatives : List Alternative → Rule
    with_alternatives l = record r { alternatives = l }

items_stay : (d : DefinedNames) (items : List WrittenItem) → ((r : Rule) → Among (rules_of items) r → resolved_rule d r ≡ r) →
    map (resolved_item d) items ≡ items
items_stay d [] h = refl
items_stay d (WrittenItem.nonterminal r ∷ items) h =
    ap (λ q. WrittenItem.nonterminal q ∷ map (resolved_item d) items) (h r (inl refl))
    ∙ ap (λ l. WrittenItem.nonterminal r ∷ l) (items_stay d items (λ q i. h q (inr i)))
items_stay d (WrittenItem.match_token entries place ∷ items) h =
    ap (λ l. WrittenItem.match_token entries place ∷ l) (items_stay d items h)
items_stay d (WrittenItem.extern_token block ∷ items) h = ap (λ l. WrittenItem.extern_token block ∷ l) (items_stay d items h)
items_stay d (WrittenItem.intern_token entries ∷ items) h = ap (λ l. WrittenItem.intern_token entries ∷ l) (items_stay d items h)
items_stay d (WrittenItem.import text ∷ items) h = ap (λ l. WrittenItem.import text ∷ l) (items_stay d items h)

-- a resolved grammar stays as it is where its names are resolved again
pub resolved_stays : (finds : Text → Text → Option Bool) (g : Grammar) → IsResolved (grammar_between finds g) →
    resolved_grammar g ≡ g
resolved_stays finds g w = ap with_items (items_stay (defined_names g) g.items (λ r i. rule_stays (defined_names g) r
    (λ t e p n j. w.types (rule_between r) (Sym.ambiguous_id p n) (record {
      rule = map_among rule_between (rules_of g.items) r i;
      written = t;
      declared = e;
      symbol = j;
    }))
    (λ a k p n j. w.symbols (rule_between r) (choice_of (a.origin, a)) (Sym.ambiguous_id p n) (record {
      rule = map_among rule_between (rules_of g.items) r i;
      choice = map_among choice_of (with_origins r.alternatives) (a.origin, a) (map_among telling r.alternatives a k);
      symbol = j;
    }))))
  where
    with_items : List WrittenItem → Grammar
    with_items l = record g { items = l }

    telling : Alternative → Origin × Alternative
    telling a = (a.origin, a)
