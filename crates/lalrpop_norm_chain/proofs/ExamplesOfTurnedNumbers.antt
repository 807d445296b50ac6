-- Computed examples of actions that are numbered in another order, where all else is as in a normalized grammar.
use Rattle.std.specs.Fmt.{digits}
use Prim.Native.String.{String}
use Rattle.std.proofs.Common.{ℕ, ◌≡◌, ◌∙◌, ◌<◌, List, [], ◌∷◌, ◌++◌, refl, ap, sym, subst, inl, inr, arith, false}
use Rattle.std.specs.Prelude.{None, ◌↔◌, Option, Some, IsSomeAnd, codes, slice_get}
use Rattle.lalrpop_grammar_symbols.specs.Texts.{escape_byte}
use Rattle.lalrpop_grammar_symbols.specs.Symbols.{Closed, Closeds, Terminal, Text, TextSpan}
use Rattle.lalrpop_grammar.specs.WrittenGrammar.{Action, Origin, Ty, WrittenItem}
use Rattle.lalrpop_grammar.specs.declared.types.type_repr.TypeRepr.TheVariants as types
use Rattle.lalrpop_grammar_language.specs.Among.{Among}
use Rattle.lalrpop_grammar_language.specs.Enabled.{EnabledGrammar, enabled_grammar}
use Rattle.lalrpop_grammar_language.specs.Expansion.{GrammarSymbol, InExpansion, Nonterminal, RightSide, WrittenLabel}
use Rattle.lalrpop_grammar_language.proofs.WrittenTreeLemmas.{alt, finds, grammar, here, lit}
use Rattle.lalrpop_grammar_repr.specs.Maps.{at_name}
use Rattle.lalrpop_grammar_repr.specs.declared.action.ActionFnDefn.{ActionFnDefn}
use Rattle.lalrpop_norm_theory.specs.Productions.{AreProductions, NamedProduction, StandsForLabel}
use Rattle.lalrpop_norm_theory.specs.Keys.{leveled_key_text}
use Rattle.lalrpop_norm_theory.proofs.NamingListLemmas.{name_by}
use Rattle.lalrpop_norm_theory.proofs.RowListLemmas.{expansion_productions}
use Rattle.lalrpop_norm_tyinfer.specs.TypeFaults.{nonterminal_of}
use Rattle.lalrpop_norm_lower.specs.Definitions.{definition_of}
use Rattle.lalrpop_norm_chain.specs.ActionOrders.{IsActionOrder}
use Rattle.lalrpop_norm_chain.specs.Actions.{ChoiceDoes}
use Rattle.lalrpop_norm_chain.specs.Lowered.{HasDefinition, IsTerminalOf, LoweredGrammar}
use Rattle.lalrpop_norm_chain.specs.Normalized.{HasWrittenActions, HasWrittenAttributes, HasWrittenSpans}
use Rattle.lalrpop_norm_chain.specs.Spans.{StandsByChoice}
use Rattle.lalrpop_norm_chain.proofs.ExamplesOfNormalizedParts.{a, actions, attributes, g}
use Rattle.lalrpop_norm_chain.proofs.ExamplesOfNormalizedParts.{lowered, name_of, no_other, one}
use Rattle.lalrpop_norm_chain.proofs.ExamplesOfNormalizedParts.{rule_production, s, spans, start_production, starts_alone}
use Rattle.lalrpop_norm_chain.proofs.ExamplesOfNormalizedParts.{terminals}

-- the production of the rule first

abbrev rule_first : NamedProduction
rule_first = record { nonterminal = codes "S"; symbols = GrammarSymbol.terminal a ∷ []; action = 0 }

abbrev start_last : NamedProduction
start_last = record { nonterminal = codes "__S"; symbols = GrammarSymbol.nonterminal (codes "S") ∷ []; action = 1 }

abbrev turned : LoweredGrammar
turned = record lowered {
  productions = rule_first ∷ start_last ∷ [];
  spans = (rule_first, here) ∷ (start_last, here) ∷ [];
  origins = Origin.alternative (codes "S") [] 0 ∷ Origin.start ∷ [];
  definitions = definition_of (types.Opaque (codes "u8")) (Action.user (codes "()"))
      ∷ definition_of (types.Opaque (codes "u8")) Action.default ∷ [];
}

abbrev nonterminals : List Nonterminal
nonterminals = Nonterminal.closed s ∷ Nonterminal.start (codes "S") ∷ []

productions : AreProductions g name_of turned.productions turned.origins
unfolding digits escape_byte
productions = expansion_productions g 1 nonterminals name_of refl refl refl

-- each production is one of the other grammar with another number
record IsTurned (p : NamedProduction) : Type 0 where
  other : NamedProduction
  there : Among lowered.productions other
  span : Among lowered.spans (other, here)
  nonterminal_is : other.nonterminal ≡ p.nonterminal
  symbols_are : other.symbols ≡ p.symbols
  origin_is : slice_get lowered.origins other.action ≡ slice_get turned.origins p.action
  definition_is : slice_get lowered.definitions other.action ≡ slice_get turned.definitions p.action

is_turned : (p : NamedProduction) → Among turned.productions p → IsTurned p
is_turned p (inl e) = subst IsTurned e (record {
  other = rule_production;
  there = inr (inl refl);
  span = inr (inl refl);
  nonterminal_is = refl;
  symbols_are = refl;
  origin_is = refl;
  definition_is = refl;
})
is_turned p (inr (inl e)) = subst IsTurned e (record {
  other = start_production;
  there = inl refl;
  span = inl refl;
  nonterminal_is = refl;
  symbols_are = refl;
  origin_is = refl;
  definition_is = refl;
})
is_turned p (inr (inr m)) = absurd m

alone : (n : Text) (p : NamedProduction) → InExpansion g (Nonterminal.start n) → Among turned.productions p
    → Among p.symbols (GrammarSymbol.nonterminal (codes "__" ++ n)) → ⊥
alone n p i j m =
    let q = is_turned p j in
    starts_alone n q.other i q.there
    (subst (λ (l : List (GrammarSymbol Text)). Among l (GrammarSymbol.nonterminal (codes "__" ++ n))) (sym q.symbols_are) m)

turned_terminals : (t : Terminal) → Among turned.terminals t ↔ IsTerminalOf turned t
turned_terminals t = (λ i. there i, back)
  where
    there : Among (a ∷ []) t → IsTerminalOf turned t
    there (inl e) = inl (rule_first, inl refl, inl (ap (λ (x : Terminal). GrammarSymbol.terminal x) e))
    there (inr m) = absurd m

    back : IsTerminalOf turned t → Among turned.terminals t
    back (inl p) =
        let q = is_turned p.0 p.1 in
        (terminals t).1 (inl (
          q.other,
          q.there,
          subst (λ (l : List (GrammarSymbol Text)). Among l (GrammarSymbol.terminal t)) (sym q.symbols_are) p.2,
        ))
    back (inr e) = (terminals t).1 (inr e)

label_of : (p : NamedProduction) (q : IsTurned p) (label : WrittenLabel) (side : RightSide)
    → StandsForLabel g name_of turned.origins p label side → StandsForLabel g name_of lowered.origins q.other label side
label_of p q label side t = record {
  in_expansion = t.in_expansion;
  produced = t.produced;
  nonterminal_is = q.nonterminal_is ∙ t.nonterminal_is;
  symbols_are = q.symbols_are ∙ t.symbols_are;
  origin_is = q.origin_is ∙ t.origin_is;
}

turned_actions : HasWrittenActions g name_of turned
turned_actions = record { defined = defined; no_other = refl }
  where
    defined : (p : NamedProduction) (label : WrittenLabel) (side : RightSide) → Among turned.productions p
        → StandsForLabel g name_of turned.origins p label side
        → (b : Action) × ChoiceDoes g label.head label.choice b × HasDefinition turned p b
    defined p label side i t =
        let q = is_turned p i in
        let b = actions.defined q.other label side q.there (label_of p q label side t) in (
          b.0,
          b.1,
          subst (λ (d : Option ActionFnDefn). IsSomeAnd (at_name (nonterminal_of p.nonterminal) turned.types)
              (λ z. d ≡ Some (definition_of z b.0))) q.definition_is
              (subst (λ (n : Text). IsSomeAnd (at_name (nonterminal_of n) lowered.types)
              (λ z. slice_get lowered.definitions q.other.action ≡ Some (definition_of z b.0))) q.nonterminal_is b.2),
        )

turned_spans : HasWrittenSpans finds [] one g name_of turned
turned_spans = record { each = refl; stands = stands; each_place = refl; places = spans.places }
  where
    at_here : (p : NamedProduction) (k : TextSpan) → Among turned.spans (p, k) → Among turned.productions p × (here ≡ k)
    at_here p k (inl e) =
        (inl (ap (λ (x : NamedProduction × TextSpan). x.0) e), ap (λ (x : NamedProduction × TextSpan). x.1) e)
    at_here p k (inr (inl e)) =
        (inr (inl (ap (λ (x : NamedProduction × TextSpan). x.0) e)), ap (λ (x : NamedProduction × TextSpan). x.1) e)
    at_here p k (inr (inr m)) = absurd m

    stands : (p : NamedProduction) (label : WrittenLabel) (side : RightSide) (k own : TextSpan) → Among turned.spans (p, k)
        → StandsForLabel g name_of turned.origins p label side → Among turned.places (p.nonterminal, own)
        → StandsByChoice [] one own label.choice k
    stands p label side k own i t j =
        let u = at_here p k i in
        let q = is_turned p u.0 in
        subst (λ (x : TextSpan). StandsByChoice [] one own label.choice x) u.1
        (spans.stands q.other label side here own q.span (label_of p q label side t)
        (subst (λ (n : Text). Among lowered.places (n, own)) (sym q.nonterminal_is) j))

turned_attributes : HasWrittenAttributes [] one g name_of turned
turned_attributes = record { each = refl; own = attributes.own }

-- only the order of numbers refuses it: the start's is the first
turned_refused : IsActionOrder g name_of turned.productions → ⊥
unfolding digits
turned_refused h =
    let less : 1 < 0 = h.numbered.0 start_last rule_first (inr (inl refl)) (inl refl) refl (inl refl) in omega (arith, less)

-- S = "a"; T = "b": either numbers are those of productions

abbrev rule_so : String → String → WrittenItem
rule_so n t = WrittenItem.nonterminal (record {
  public = false;
  name = codes n;
  attributes = [];
  span = here;
  parameters = [];
  declared = Some (Ty.opaque (codes "u8"));
  alternatives = alt (lit t ∷ []) ∷ [];
})

abbrev two : EnabledGrammar
two = enabled_grammar finds [] (grammar (rule_so "S" "a" ∷ rule_so "T" "b" ∷ []))

abbrev t_rule : Closed
t_rule = Closed.call (codes "T") Closeds.none None

abbrev two_name : Nonterminal → Text
two_name = name_by (leveled_key_text two) (codes "__") []

abbrev s_at : ℕ → NamedProduction
s_at k = record { nonterminal = codes "S"; symbols = GrammarSymbol.terminal a ∷ []; action = k }

abbrev t_at : ℕ → NamedProduction
t_at k = record { nonterminal = codes "T"; symbols = GrammarSymbol.terminal (Terminal.quoted (codes "b")) ∷ []; action = k }

s_first : AreProductions two two_name (s_at 0 ∷ t_at 1 ∷ [])
    (Origin.alternative (codes "S") [] 0 ∷ Origin.alternative (codes "T") [] 0 ∷ [])
unfolding digits escape_byte
s_first = expansion_productions two 1 (Nonterminal.closed s ∷ Nonterminal.closed t_rule ∷ []) two_name refl refl refl

t_first : AreProductions two two_name (t_at 0 ∷ s_at 1 ∷ [])
    (Origin.alternative (codes "T") [] 0 ∷ Origin.alternative (codes "S") [] 0 ∷ [])
unfolding digits escape_byte
t_first = expansion_productions two 1 (Nonterminal.closed t_rule ∷ Nonterminal.closed s ∷ []) two_name refl refl refl

-- but where those of T come first they are refused: rules are numbered as they are written
t_first_refused : IsActionOrder two two_name (t_at 0 ∷ s_at 1 ∷ []) → ⊥
unfolding digits escape_byte
t_first_refused h =
    let less : 1 < 0 = h.numbered.0 (s_at 1) (t_at 0) (inr (inl refl)) (inl refl) refl (inl refl) in omega (arith, less)
