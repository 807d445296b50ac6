-- Attributes of nonterminals of a lowered grammar, and that nothing else is inlined or has a type; for the law of lowering in the chain.
use Rattle.std.proofs.Common.{◌≡◌, ◌⊎◌, ◌∙◌, List, [], Bool, refl, ap, sym, subst, true, inl, inr}
use Rattle.std.specs.Prelude.{◌++◌, Option, Some, None, filter, map}
use Rattle.std.proofs.lemmas.Bool.{and_parts}
use Rattle.lalrpop_grammar_symbols.specs.Symbols.{Text}
use Rattle.lalrpop_grammar_symbols.specs.declared.names.NonterminalString.{NonterminalString}
use Rattle.lalrpop_grammar.specs.Views.{attribute_view, grammar_view}
use Rattle.lalrpop_grammar.specs.WrittenGrammar.{Attr, Grammar, Rule, rules_of}
use Rattle.lalrpop_grammar.specs.declared.grammar.Grammar as program
use Rattle.lalrpop_grammar.specs.declared.types.type_repr.TypeRepr.{TypeRepr}
use Rattle.lalrpop_grammar_language.specs.Among.{Among}
use Rattle.lalrpop_grammar_language.specs.Enabled.{EnabledGrammar}
use Rattle.lalrpop_grammar_language.specs.Expansion.{InExpansion, Nonterminal}
use Rattle.lalrpop_grammar_language.specs.Starts.{has_none}
use Rattle.lalrpop_grammar_language.proofs.AmongLemmas.{map_among}
use Rattle.lalrpop_grammar_language.proofs.PlaceLemmas.{among_filter, among_map}
use Rattle.lalrpop_grammar_repr.specs.Maps.{at_name}
use Rattle.lalrpop_grammar_repr.specs.declared.production.NonterminalData.{NonterminalData}
use Rattle.lalrpop_grammar_repr.specs.declared.types.Types.{Types}
use Rattle.lalrpop_norm_theory.specs.Between.{grammar_between, rule_between}
use Rattle.lalrpop_norm_tyinfer.specs.TypeFaults.{nonterminal_of}
use Rattle.lalrpop_norm_lower.specs.Lowered.{HasStartNamed, IsLowerable, IsLowered, IsLoweredName, IsLoweredRule, IsLoweredStart}
use Rattle.lalrpop_norm_lower.specs.Lowered.{says_inline, start_of}
use Rattle.lalrpop_norm_lower.specs.LoweredLists.{gets_start}
use Rattle.lalrpop_norm_lower.specs.declared.lowering.Normalized.{Normalized}
use Rattle.lalrpop_norm_lower.proofs.RowLemmas.{start_there}
use Rattle.lalrpop_norm_chain.specs.Lowered.{LoweredGrammar, start_name}
use Rattle.lalrpop_norm_chain.specs.LoweredViews.{found_entries, lowered_view}
use Rattle.lalrpop_norm_chain.proofs.EntryLemmas.{entry_found}
use Rattle.lalrpop_norm_chain.proofs.MadeLemmas.{one_value, some_there}

module _ (finds : Text → Text → Option Bool) (g : program.Grammar) (types : Types) (made : Normalized)
    (l : IsLowerable finds (grammar_view g) types)
    (m : IsLowered (grammar_between finds (grammar_view g)) (grammar_view g) types made)
    (prefix_is : (grammar_view g).prefix ≡ (lowered_view made).prefix) where
  abbrev w : Grammar
  w = grammar_view g

  abbrev h : EnabledGrammar
  h = grammar_between finds w

  abbrev rs : List Rule
  rs = rules_of w.items

  abbrev v : LoweredGrammar
  v = lowered_view made

  abbrev nonterminals : List (NonterminalString × NonterminalData)
  nonterminals = made.grammar.nonterminals

  -- what is inlined is a nonterminal
  pub inlined_named : (n : Text) → Among v.inlined n → Among v.nonterminals n
  inlined_named n i =
      let says = λ (e : NonterminalString × NonterminalData). says_inline e.1 in
      let u = among_map (λ (e : NonterminalString × NonterminalData). e.0.0) (filter says (found_entries nonterminals)) n i in
      let f = among_filter says (found_entries nonterminals) u.0 u.1 in
      subst (Among v.nonterminals) u.2
      (map_among (λ (e : NonterminalString × NonterminalData). e.0.0) (found_entries nonterminals) u.0 f.0)

  -- attributes

  attributes_found : (n : Text) (as_ : List Attr) → Among v.attributes (n, as_)
      → (d : NonterminalData) × (at_name (nonterminal_of n) nonterminals ≡ Some d) × (map attribute_view d.attributes ≡ as_)
  attributes_found n as_ i =
      let u = among_map (λ (e : NonterminalString × NonterminalData). (e.0.0, map attribute_view e.1.attributes))
      (found_entries nonterminals) (n, as_) i in (
        u.0.1,
        ap (λ (x : Text × List Attr). at_name (nonterminal_of x.0) nonterminals) (sym u.2) ∙ entry_found nonterminals u.0 u.1,
        ap (λ (x : Text × List Attr). x.1) u.2,
      )

  -- those of a rule
  pub rule_has : (r : Rule) (as_ : List Attr) → Among rs r → Among v.attributes (r.name, as_) → as_ ≡ r.attributes
  rule_has r as_ i j =
      let u = attributes_found r.name as_ j in
      let d = some_there (IsLoweredRule made types.nonterminal_types r) (at_name (nonterminal_of r.name) nonterminals)
      (m.nonterminals.rules r i) in
      sym u.2
      ∙ ap (λ (x : NonterminalData). map attribute_view x.attributes)
      (one_value u.0 d.0 (at_name (nonterminal_of r.name) nonterminals) u.1 d.1)
      ∙ d.2.attributes_are

  -- a start has none
  pub start_has : (r : Rule) (as_ : List Attr) → Among rs r → gets_start r ≡ true
      → Among v.attributes (start_name v.prefix r.name, as_) → as_ ≡ []
  start_has r as_ i s j =
      let u = attributes_found (w.prefix ++ r.name) as_
      (subst (λ (p : Text). Among v.attributes (p ++ r.name, as_)) (sym prefix_is) j) in
      let d = some_there (IsLoweredStart made types.nonterminal_types w r) (at_name (start_of w r) nonterminals)
      (m.nonterminals.starts r i s) in
      sym u.2
      ∙ ap (λ (x : NonterminalData). map attribute_view x.attributes)
      (one_value u.0 d.0 (at_name (start_of w r) nonterminals) u.1 d.1)
      ∙ ap (map attribute_view) d.2.attributes_are

  -- a type was inferred, or is that of a start
  pub type_given : (n : Text) (t : TypeRepr) → at_name (nonterminal_of n) v.types ≡ Some t
      → (at_name (nonterminal_of n) types.nonterminal_types ≡ Some t)
      ⊎ ((k : Text) × InExpansion h (Nonterminal.start k) × (n ≡ start_name v.prefix k))
  type_given n t e = go (at_name (nonterminal_of n) nonterminals) (λ d f. m.nonterminals.no_other (nonterminal_of n) d f) no_start
    where
      inferred : ((r : Rule) → HasStartNamed w r (nonterminal_of n) → ⊥)
          → at_name (nonterminal_of n) types.nonterminal_types ≡ Some t
      inferred none = sym (m.types_are.others (nonterminal_of n) none) ∙ e

      start_in : (r : Rule) → Among rs r → gets_start r ≡ true → InExpansion h (Nonterminal.start r.name)
      start_in r i s =
          start_there h l.expanded (rule_between r) (map_among rule_between rs r i) (and_parts r.public (has_none r.parameters) s).0

      of_name : IsLoweredName w (nonterminal_of n) → (at_name (nonterminal_of n) types.nonterminal_types ≡ Some t)
          ⊎ ((k : Text) × InExpansion h (Nonterminal.start k) × (n ≡ start_name v.prefix k))
      of_name (inl r) =
          inl (inferred (λ q s. l.free_prefix r.0 q.name r.1 (ap (λ (k : NonterminalString). k.0) (sym r.2 ∙ s.name_is))))
      of_name (inr r) =
          inr (
            r.0.name,
            start_in r.0 r.1.rule r.1.starts,
            ap (λ (k : NonterminalString). k.0) r.1.name_is ∙ ap (λ (p : Text). p ++ r.0.name) prefix_is,
          )

      no_start : at_name (nonterminal_of n) nonterminals ≡ None → (r : Rule) → HasStartNamed w r (nonterminal_of n) → ⊥
      no_start f r s =
          let d = some_there (IsLoweredStart made types.nonterminal_types w r) (at_name (start_of w r) nonterminals)
          (m.nonterminals.starts r s.rule s.starts) in
          let both : ◌≡◌ {A = Option NonterminalData} None (Some d.0) =
          sym f ∙ ap (λ (k : NonterminalString). at_name k nonterminals) s.name_is ∙ d.1 in
          cc

      go : (o : Option NonterminalData)
          → ((d : NonterminalData) → o ≡ Some d → IsLoweredName w (nonterminal_of n))
          → (o ≡ None → (r : Rule) → HasStartNamed w r (nonterminal_of n) → ⊥)
          → (at_name (nonterminal_of n) types.nonterminal_types ≡ Some t)
          ⊎ ((k : Text) × InExpansion h (Nonterminal.start k) × (n ≡ start_name v.prefix k))
      go (Some d) named none = of_name (named d refl)
      go None named none = inl (inferred (none refl))
