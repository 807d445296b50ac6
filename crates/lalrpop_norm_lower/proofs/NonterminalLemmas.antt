-- Each rule and each start stands in the map as it should, and no start on a right side; for lowering.
use Rattle.std.specs.Prelude.{Bool, IsSomeAnd, Option, Some, map, option_map, slice_get}
use Rattle.std.specs.List.{All}
use Rattle.std.proofs.Common.{◌≡◌, ◌∙◌, ℕ, zero, suc, ◌+◌, List, [], ◌∷◌, ◌++◌, refl, ap, ap₂, sym}
use Rattle.std.proofs.Common.{subst, inl, inr, true, arith, length}
use Rattle.std.proofs.lemmas.List.Elements.{All-cons, All-nil}
use Rattle.lalrpop_grammar_symbols.specs.Symbols.{Sym, Terminal, Text, WrittenSymbol}
use Rattle.lalrpop_grammar_symbols.specs.declared.names.NonterminalString.{NonterminalString}
use Rattle.lalrpop_grammar.specs.Views.{attribute_view, origin_view}
use Rattle.lalrpop_grammar.specs.WrittenGrammar.{Action, Alternative, Attr, Grammar, Origin, Rule, rules_of}
use Rattle.lalrpop_grammar_language.specs.Among.{Among}
use Rattle.lalrpop_grammar_language.specs.Enabled.{EnabledGrammar, EnabledRule, choice_of}
use Rattle.lalrpop_grammar_language.specs.Expansion.{GrammarSymbol}
use Rattle.lalrpop_grammar_language.proofs.PlaceLemmas.{among_filter, among_map}
use Rattle.lalrpop_grammar_repr.specs.Maps.{at_name}
use Rattle.lalrpop_grammar_repr.specs.Productions.{AreFreeOf, IsAlone, IsFreeOf}
use Rattle.lalrpop_grammar_repr.specs.declared.production.NonterminalData.{NonterminalData}
use Rattle.lalrpop_grammar_repr.specs.declared.production.Production.{Production}
use Rattle.lalrpop_grammar_repr.specs.declared.production.Symbol.TheVariants as symbols
use Rattle.lalrpop_grammar_repr.specs.declared.types.Types.{Types}
use Rattle.lalrpop_grammar.specs.declared.types.type_repr.TypeRepr.{TypeRepr}
use Rattle.lalrpop_norm_theory.specs.Between.{grammar_between, rule_between, with_origins}
use Rattle.lalrpop_norm_theory.specs.Premises.{IsExpanded, IsExpandedSymbol}
use Rattle.lalrpop_grammar_language.proofs.AmongLemmas.{flat_map_among}
use Rattle.lalrpop_grammar_language.proofs.AmongLemmas.{map_among}
use Rattle.lalrpop_grammar_language.proofs.AmongLemmas.{among_flat_map}
use Rattle.lalrpop_grammar_language.proofs.StepLemmas.{among_right}
use Rattle.lalrpop_grammar_language.proofs.StepLemmas.{among_left}
use Rattle.lalrpop_norm_theory.proofs.LevelLemmas.{keeps}
use Rattle.lalrpop_norm_tyinfer.specs.TerminalTypes.{inner_terminals, terminals_of_alternatives, terminals_of_rules}
use Rattle.lalrpop_norm_tyinfer.specs.TerminalTypes.{terminals_of_symbols}
use Rattle.lalrpop_norm_tyinfer.specs.TypeFaults.{nonterminal_of}
use Rattle.lalrpop_norm_tyinfer.proofs.ExpandedLemmas.{rule_among}
use Rattle.lalrpop_norm_lower.specs.Definitions.{definition_of, type_in_table}
use Rattle.lalrpop_norm_lower.specs.Lowered.{AreLoweredAlternatives, AreLoweredNonterminals, IsLowerable, IsLoweredName, IsLoweredRule}
use Rattle.lalrpop_norm_lower.specs.Lowered.{IsLoweredStart, start_of}
use Rattle.lalrpop_norm_lower.specs.LoweredLists.{LoweredNonterminal, LoweredProduction, alternative_production}
use Rattle.lalrpop_norm_lower.specs.LoweredLists.{alternative_productions, gets_start, lowered_definitions, lowered_entries}
use Rattle.lalrpop_norm_lower.specs.LoweredLists.{lowered_entry_view, lowered_origins, lowered_production_view, rule_definitions}
use Rattle.lalrpop_norm_lower.specs.LoweredLists.{rule_entries, entry_of_rule, rule_origins, rules_with_starts, start_definitions}
use Rattle.lalrpop_norm_lower.specs.LoweredLists.{start_entries, entry_of_start, start_origins}
use Rattle.lalrpop_norm_lower.specs.LoweredSymbols.{lowered_side, lowered_symbol, named_symbol}
use Rattle.lalrpop_norm_lower.specs.MadeLists.{IsMadeOfLists}
use Rattle.lalrpop_norm_lower.specs.declared.lowering.Normalized.{Normalized}
use Rattle.lalrpop_norm_lower.proofs.EarlierLemmas.{Earlier}
use Rattle.lalrpop_norm_lower.proofs.EntryLemmas.{HasNumbers, IsRuleEntry, in_front, length_mapped, rule_made, start_made}
use Rattle.lalrpop_norm_lower.proofs.ExpansionRowLemmas.{HaveOwnNames, names_apart}
use Rattle.lalrpop_norm_lower.proofs.MapLemmas.{IsMadeEntry, made_found, entry_made, found_made}
use Rattle.lalrpop_norm_lower.proofs.RowLemmas.{name_of_rule}

viewed_at : {A B : Type 0} (f : A → B) (xs : List A) (i : ℕ) (y : B) → slice_get (map f xs) i ≡ Some y
    → option_map f (slice_get xs i) ≡ Some y
viewed_at f [] i y e = cc
viewed_at f (x ∷ xs) zero y e = e
viewed_at f (x ∷ xs) (suc i) y e = viewed_at f xs i y e

from_some : {A : Type 0} (P : A → Type 0) (o : Option A) (x : A) → o ≡ Some x → P x → IsSomeAnd o P
from_some P o x e h = subst (λ p. IsSomeAnd p P) (sym e) h

all_of_among : {A : Type 0} (P : A → Type 0) (xs : List A) → ((x : A) → Among xs x → P x) → All P xs
all_of_among P [] h = All-nil P
all_of_among P (x ∷ xs) h = All-cons P x xs (h x (inl refl)) (all_of_among P xs (λ y i. h y (inr i)))

name_is : (a : NonterminalString) (n : Text) → a.0 ≡ n → a ≡ nonterminal_of n
name_is a n e = ap nonterminal_of e

no_attributes : {A : Type 0} (f : A → Attr) (xs : List A) → map f xs ≡ [] → xs ≡ []
no_attributes f [] e = refl
no_attributes f (x ∷ xs) e = absurd (let wrong : ⊥ = cc in wrong)

-- the symbols of what is made

module _ (finds : Text → Text → Option Bool) (w : Grammar) (expanded : IsExpanded (grammar_between finds w)) where
  abbrev g : EnabledGrammar
  g = grammar_between finds w

  -- a symbol that is known: the name of a rule, or a terminal of a rule's alternatives
  abbrev pub IsKnownSymbol : GrammarSymbol Text → Type 0
  IsKnownSymbol (GrammarSymbol.nonterminal n) = (r : Rule) × Among (rules_of w.items) r × (r.name ≡ n)
  IsKnownSymbol (GrammarSymbol.terminal t) = Among (terminals_of_rules (rules_of w.items)) t

  known_symbol : (x : WrittenSymbol) → IsExpandedSymbol g x
      → ((t : Terminal) → Among (inner_terminals x) t → Among (terminals_of_rules (rules_of w.items)) t)
      → (y : GrammarSymbol Text) → Among (lowered_symbol x) y → IsKnownSymbol y
  known_symbol (Sym.terminal p t) h k y (inl e) = subst IsKnownSymbol e (k t (inl refl))
  known_symbol (Sym.terminal p t) h k y (inr i) = absurd i
  known_symbol (Sym.nonterminal p n) h k y (inl e) =
      let m = among_map rule_between (rules_of w.items) h.0 (rule_among g n h.0 h.1) in
      subst IsKnownSymbol e (m.0, m.1, ap (λ (q : EnabledRule). q.name) m.2 ∙ name_of_rule g expanded n h.0 h.1)
  known_symbol (Sym.nonterminal p n) h k y (inr i) = absurd i
  known_symbol (Sym.choose p x) h k y i = known_symbol x h k y i
  known_symbol (Sym.name p m n x) h k y i = known_symbol x h k y i
  known_symbol (Sym.ambiguous_id p n) h k y i = absurd h
  known_symbol (Sym.macro p n args) h k y i = absurd h
  known_symbol (Sym.expr p xs) h k y i = absurd h
  known_symbol (Sym.repeat p op x) h k y i = absurd h
  known_symbol (Sym.lookahead p) h k y i = absurd h
  known_symbol (Sym.lookbehind p) h k y i = absurd h
  known_symbol (Sym.error p) h k y i = absurd h

  pub known_side : (r : Rule) (a : Alternative) → Among (rules_of w.items) r → Among r.alternatives a
      → (y : GrammarSymbol Text) → Among (lowered_side a.expr) y → IsKnownSymbol y
  known_side r a i j y k =
      let m = among_flat_map lowered_symbol a.expr y k in
      let choice = choice_of (a.origin, a) in
      let there : Among (rule_between r).choices choice =
      map_among choice_of (with_origins r.alternatives) (a.origin, a)
      (map_among (λ (z : Alternative). (z.origin, z)) r.alternatives a j) in
      known_symbol m.0
      ((expanded.choices (rule_between r) choice (map_among rule_between (rules_of w.items) r i) there).symbols m.0 m.1)
      (λ t l. flat_map_among (λ (q : Rule). terminals_of_alternatives q.alternatives) (rules_of w.items) r t i
      (flat_map_among (λ (b : Alternative). terminals_of_symbols b.expr) r.alternatives a t j
      (flat_map_among inner_terminals a.expr m.0 t m.1 l)))
      y m.2

  known_alternatives : (r : Rule) → Among (rules_of w.items) r → (k : ℕ) (as_ : List Alternative)
      → ((a : Alternative) → Among as_ a → Among r.alternatives a) → (p : LoweredProduction)
      → Among (alternative_productions r.name k as_) p → (y : GrammarSymbol Text) → Among p.production.symbols y → IsKnownSymbol y
  known_alternatives r i k [] h p j y l = absurd j
  known_alternatives r i k (a ∷ as_) h p (inl e) y l =
      known_side r a i (h a (inl refl)) y (subst (λ (q : LoweredProduction). Among q.production.symbols y) (sym e) l)
  known_alternatives r i k (a ∷ as_) h p (inr j) y l = known_alternatives r i (k + 1) as_ (λ b m. h b (inr m)) p j y l

  pub known_entry : (v : LoweredNonterminal) → IsMadeEntry w v → (p : LoweredProduction) → Among v.productions p
      → (y : GrammarSymbol Text) → Among p.production.symbols y → IsKnownSymbol y
  known_entry v (IsMadeEntry.of_start r k i) p (inl e) y j = go (subst (λ (q : LoweredProduction). Among q.production.symbols y) (sym e) j)
    where
      go : Among (GrammarSymbol.nonterminal r.name ∷ []) y → IsKnownSymbol y
      go (inl same) =
          let m = among_filter gets_start (rules_of w.items) r i in subst IsKnownSymbol same (r, m.0, refl)
      go (inr l) = absurd l
  known_entry v (IsMadeEntry.of_start r k i) p (inr j) y l = absurd j
  known_entry v (IsMadeEntry.of_rule r k i) p j y l = known_alternatives r i k r.alternatives (λ a m. m) p j y l

module _ (finds : Text → Text → Option Bool) (w : Grammar) (types : Types) (l : IsLowerable finds w types) (made : Normalized)
    (m : IsMadeOfLists w types made) where
  abbrev rs : List Rule
  rs = rules_of w.items

  abbrev table : List (NonterminalString × TypeRepr)
  table = types.nonterminal_types

  abbrev nonterminals : List (NonterminalString × NonterminalData)
  nonterminals = made.grammar.nonterminals

  apart : Earlier HaveOwnNames rs
  apart = names_apart finds w l.expanded l.ordered l.free_prefix

  -- the definitions and origins as they were made

  origin_there : (k : ℕ) (o : Origin) → slice_get (lowered_origins rs) k ≡ Some o
      → option_map origin_view (slice_get made.origins k) ≡ Some o
  origin_there k o e = viewed_at origin_view made.origins k o (ap (λ os. slice_get os k) m.origins ∙ e)

  -- alternatives in order, with their numbers
  alternatives_lowered : (r : Rule) (first : ℕ) → HasNumbers table (lowered_definitions table rs) (lowered_origins rs) first r
      → (as_ : List Alternative) (done : ℕ)
      → ((i : ℕ) (a : Alternative) → slice_get as_ i ≡ Some a → slice_get r.alternatives (done + i) ≡ Some a)
      → (ps : List Production) → map lowered_production_view ps ≡ alternative_productions r.name (first + done) as_
      → AreLoweredAlternatives made table r as_ ps
  alternatives_lowered r first h [] done at [] e = tt
  alternatives_lowered r first h [] done at (p ∷ ps) e = cc
  alternatives_lowered r first h (a ∷ as_) done at [] e = cc
  alternatives_lowered r first h (a ∷ as_) done at (p ∷ ps) e =
      let view : lowered_production_view p ≡ alternative_production r.name (first + done) a = cc in
      let number : p.action.0 ≡ first + done = ap (λ (q : LoweredProduction). q.production.action) view in
      let here : slice_get r.alternatives done ≡ Some a =
      ap (slice_get r.alternatives) (let z : done ≡ done + 0 = omega arith in z) ∙ at 0 a refl in (
        record {
          nonterminal_is = name_is p.nonterminal r.name (ap (λ (q : LoweredProduction). q.production.nonterminal) view);
          symbols_are = ap (λ (q : LoweredProduction). q.production.symbols) view;
          span_is = ap (λ (q : LoweredProduction). q.span) view;
          origin_is = ap (λ k. option_map origin_view (slice_get made.origins k)) number
              ∙ origin_there (first + done) a.origin (h.origin_at done a here);
          definition_is = ap₂ (λ (ds : List _) k. slice_get ds k) m.definitions number ∙ h.definition_at done a here;
        },
        alternatives_lowered r first h as_ (done + 1)
            (λ i b f. ap (slice_get r.alternatives) (let z : (done + 1) + i ≡ done + suc i = omega arith in z) ∙ at (suc i) b f) ps
            (let rest : map lowered_production_view ps ≡ alternative_productions r.name ((first + done) + 1) as_ = cc in
            rest ∙ ap (λ k. alternative_productions r.name k as_)
            (let z : (first + done) + 1 ≡ first + (done + 1) = omega arith in z)),
      )

  rule_numbers : (r : Rule) → Among rs r
      → IsRuleEntry table (lowered_definitions table rs) (lowered_origins rs) r (lowered_entries w.prefix rs)
  rule_numbers r i =
      let starts = rules_with_starts rs in
      let e = rule_made table (start_definitions table starts) (start_origins starts) (length starts) rs
      (length_mapped (λ (q : Rule). definition_of (type_in_table table q.name) Action.default) starts)
      (length_mapped (λ (q : Rule). Origin.start) starts) r i in
      record {
        first = e.first;
        there = among_right (start_entries w.prefix 0 starts) (rule_entries (length starts) rs) (entry_of_rule e.first r) e.there;
        numbers = e.numbers;
      }

  rule_lowered : (r : Rule) → Among rs r → IsSomeAnd (at_name (nonterminal_of r.name) nonterminals) (IsLoweredRule made table r)
  rule_lowered r i =
      let e = rule_numbers r i in
      let k = made_found w apart l.free_prefix nonterminals m.nonterminals (entry_of_rule e.first r) e.there in
      from_some (IsLoweredRule made table r) (at_name (nonterminal_of r.name) nonterminals) k.data_ k.found (record {
        name_is = name_is k.data_.name r.name (ap (λ (v : LoweredNonterminal). v.name) k.view_is);
        attributes_are = ap (λ (v : LoweredNonterminal). v.attributes) k.view_is;
        span_is = ap (λ (v : LoweredNonterminal). v.span) k.view_is;
        productions_are = alternatives_lowered r e.first e.numbers r.alternatives 0
            (λ j a f. ap (slice_get r.alternatives) (let z : 0 + j ≡ j = omega arith in z) ∙ f) k.data_.productions
            (ap (λ (v : LoweredNonterminal). v.productions) k.view_is
            ∙ ap (λ n. alternative_productions r.name n r.alternatives) (let z : e.first ≡ e.first + 0 = omega arith in z));
      })

  one_production : (ps : List Production) (v : LoweredProduction) → map lowered_production_view ps ≡ v ∷ []
      → (p : Production) × (ps ≡ p ∷ []) × (lowered_production_view p ≡ v)
  one_production [] v e = absurd (let wrong : ⊥ = cc in wrong)
  one_production (p ∷ []) v e = (p, refl, (let f : lowered_production_view p ≡ v = cc in f))
  one_production (p ∷ q ∷ ps) v e = absurd (let wrong : ⊥ = cc in wrong)

  start_lowered : (r : Rule) → Among rs r → gets_start r ≡ true
      → IsSomeAnd (at_name (start_of w r) nonterminals) (IsLoweredStart made table w r)
  start_lowered r i starts =
      let e = start_made table w.prefix 0 (rules_with_starts rs) r (keeps gets_start rs r i starts) in
      let n = 0 + e.0 in
      let same : 0 + e.0 ≡ e.0 = omega arith in
      let k = made_found w apart l.free_prefix nonterminals m.nonterminals (entry_of_start w.prefix n r)
      (among_left (start_entries w.prefix 0 (rules_with_starts rs)) (rule_entries (length (rules_with_starts rs)) rs)
      (entry_of_start w.prefix n r) e.1) in
      let p = one_production k.data_.productions _ (ap (λ (v : LoweredNonterminal). v.productions) k.view_is) in
      let number : p.0.action.0 ≡ e.0 = ap (λ (q : LoweredProduction). q.production.action) p.2 ∙ same in
      from_some (IsLoweredStart made table w r) (at_name (start_of w r) nonterminals) k.data_ k.found (record {
        name_is = name_is k.data_.name (w.prefix ++ r.name) (ap (λ (v : LoweredNonterminal). v.name) k.view_is);
        attributes_are = no_attributes attribute_view k.data_.attributes (ap (λ (v : LoweredNonterminal). v.attributes) k.view_is);
        span_is = ap (λ (v : LoweredNonterminal). v.span) k.view_is;
        production = p.0;
        productions_are = p.1;
        nonterminal_is = name_is p.0.nonterminal (w.prefix ++ r.name) (ap (λ (q : LoweredProduction). q.production.nonterminal) p.2);
        symbols_are = ap (λ (q : LoweredProduction). q.production.symbols) p.2;
        production_span_is = ap (λ (q : LoweredProduction). q.span) p.2;
        origin_is = ap (λ j. option_map origin_view (slice_get made.origins j)) number
            ∙ origin_there e.0 Origin.start (in_front (start_origins (rules_with_starts rs)) (rule_origins rs) e.0 Origin.start e.3);
        definition_is = ap₂ (λ (ds : List _) j. slice_get ds j) m.definitions number
            ∙ in_front (start_definitions table (rules_with_starts rs)) (rule_definitions table rs) e.0
            (definition_of (type_in_table table r.name) Action.default) e.2;
      })

  lowered_named : (n : NonterminalString) (v : LoweredNonterminal) → v.key ≡ n.0 → IsMadeEntry w v → IsLoweredName w n
  lowered_named n v e (IsMadeEntry.of_start r k i) =
      let f = among_filter gets_start rs r i in
      inr (r, record { rule = f.0; starts = f.1; name_is = ap nonterminal_of (sym e) })
  lowered_named n v e (IsMadeEntry.of_rule r k i) = inl (r, i, ap nonterminal_of (sym e))

  -- a symbol of a production of the map is known
  pub known_production : (e : NonterminalString × NonterminalData) → Among nonterminals e → (p : Production)
      → Among e.1.productions p → (y : GrammarSymbol Text) → Among (map named_symbol p.symbols) y
      → IsKnownSymbol finds w l.expanded y
  known_production e i p j y k =
      known_entry finds w l.expanded (lowered_entry_view e) (entry_made w apart l.free_prefix nonterminals m.nonterminals e i)
      (lowered_production_view p) (map_among lowered_production_view e.1.productions p j) y k

  start_free : (r : Rule) → Among rs r → IsAlone (start_of w r) nonterminals
  start_free r i =
      all_of_among (λ e. AreFreeOf (start_of w r) e.1.productions) nonterminals
      (λ e j. all_of_among (λ p. IsFreeOf (start_of w r) p.symbols) e.1.productions
      (λ p k. all_of_among (λ s. s ≡ symbols.Nonterminal (start_of w r) → ⊥) p.symbols
      (λ s n same.
      let q = known_production e j p k (GrammarSymbol.nonterminal (w.prefix ++ r.name))
      (subst (Among (map named_symbol p.symbols)) (ap named_symbol same) (map_among named_symbol p.symbols s n)) in
      l.free_prefix q.0 r.name q.1 q.2)))

  pub nonterminals_lowered : AreLoweredNonterminals w table made
  nonterminals_lowered = record {
    rules = rule_lowered;
    starts = start_lowered;
    no_other = λ n d e. lowered_named n (lowered_entry_view (n, d)) refl
        (found_made w apart l.free_prefix nonterminals m.nonterminals n d e);
    alone = start_free;
  }
