-- Productions that stand under their names are found by name; for folding.
use Rattle.std.proofs.Common.{◌≡◌, ◌∙◌, [], ap, arith, refl, sym, subst, map, Contains}
use Rattle.std.specs.Prelude.{◌↔◌, None, Option, Some}
use Rattle.lalrpop_grammar_symbols.specs.declared.names.NonterminalString.{NonterminalString}
use Rattle.lalrpop_grammar_repr.specs.Maps.{at_name}
use Rattle.lalrpop_grammar_repr.specs.Productions.{productions_in, productions_of}
use Rattle.lalrpop_grammar_repr.specs.declared.grammar.Grammar.{Grammar}
use Rattle.lalrpop_grammar_repr.specs.declared.production.NonterminalData.{NonterminalData}
use Rattle.lalrpop_grammar_repr.specs.declared.production.Production.{Production}
use Rattle.lalrpop_lr1_core.specs.TheoryGrammars.{theory_grammar}
use Rattle.lalrpop_lr1_core.proofs.GraphLemmas.{in_flat}
use Rattle.lalrpop_lr1_core.specs.TheoryGrammars.{productions_of_grammar}
use Rattle.lalrpop_lr1_core.proofs.GraphLemmas.{flat_has}
use Rattle.lalrpop_lr1_inline.specs.InlinedNames.{name_of_text}
use Rattle.lalrpop_lr1_inline.proofs.NamedLemmas.{entry_found, lookup_entry}
use Rattle.lalrpop_lr1_core.specs.Views.{production_view}
use Rattle.lalrpop_lr1_core.proofs.MemberLemmas.{in_map, map_has}
use Rattle.lalrpop_lr1_theory.specs.Productions as theory
use Rattle.lalrpop_grammar_language.proofs.AmongLemmas.{among_contains, contains_among}
use Rattle.lalrpop_run_prepare.specs.PreparedGrammars.{HasNamedProductions}

no_element : {A : Type 0} (x : A) → Contains {X = A} [] x → ⊥
no_element x c = omega (arith, c.1)

module _ (g : Grammar) (named : HasNamedProductions g) where
  -- what is found by a name is one of the grammar's, of that name
  found_named : (n : NonterminalString) (p : Production) (o : Option NonterminalData) → at_name n g.nonterminals ≡ o →
      Contains (productions_in o) p → Contains (productions_of_grammar g) p × (p.nonterminal ≡ n)
  found_named n p None e c = absurd (no_element p c)
  found_named n p (Some d) e c =
      let there = entry_found g.nonterminals n d e in (
        flat_has (λ (x : NonterminalString × NonterminalData). x.1.productions) g.nonterminals (n, d) p
            (among_contains g.nonterminals (n, d) there)
            c,
        named.under (n, d) p there (contains_among d.productions p c),
      )

  -- and each of the grammar's is found by its name
  named_found : (p : Production) → Contains (productions_of_grammar g) p → Contains (productions_of g.nonterminals p.nonterminal) p
  named_found p c =
      let e = in_flat (λ (x : NonterminalString × NonterminalData). x.1.productions) g.nonterminals p c in
      let there = contains_among g.nonterminals e.0 e.1 in
      let name : p.nonterminal ≡ e.0.0 = named.under e.0 p there (contains_among e.0.1.productions p e.2) in
      let found : at_name p.nonterminal g.nonterminals ≡ Some e.0.1 =
      ap (λ n. at_name n g.nonterminals) name ∙ lookup_entry g.nonterminals named.ascending e.0 there in
      subst (λ o. Contains (productions_in o) p) (sym found) e.2

  -- as the theory sees them
  pub productions_named : (n : NonterminalString) (p : theory.Production) →
      Contains (map production_view (productions_of g.nonterminals n)) p ↔ (Contains (theory_grammar g) p × (p.left ≡ n.0))
  productions_named n p = (
    λ c.
        let m = in_map production_view (productions_of g.nonterminals n) p c in
        let f = found_named n m.0 (at_name n g.nonterminals) refl m.1 in (
          subst (λ q. Contains (theory_grammar g) q) m.2 (map_has production_view (productions_of_grammar g) m.0 f.0),
          sym (ap (λ q. q.left) m.2) ∙ ap (λ k. k.0) f.1,
        ),
    λ h.
        let m = in_map production_view (productions_of_grammar g) p h.0 in
        let name : m.0.nonterminal ≡ n = ap name_of_text (ap (λ q. q.left) m.2 ∙ h.1) in
        subst (λ q. Contains (map production_view (productions_of g.nonterminals n)) q) m.2
        (map_has production_view (productions_of g.nonterminals n) m.0
        (subst (λ k. Contains (productions_of g.nonterminals k) m.0) name (named_found m.0 m.1))),
  )
