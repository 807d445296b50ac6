-- A start that stands on no right side which the theory sees stands on none of the grammar's; for what is prepared.
use Rattle.std.proofs.Common.{◌≡◌, ap, subst, map, Contains}
use Rattle.std.proofs.lemmas.List.Elements.{All-contains_itself}
use Rattle.lalrpop_grammar_symbols.specs.declared.names.NonterminalString.{NonterminalString}
use Rattle.lalrpop_grammar_repr.specs.Productions.{IsAlone}
use Rattle.lalrpop_grammar_repr.specs.declared.grammar.Grammar.{Grammar}
use Rattle.lalrpop_grammar_repr.specs.declared.production.NonterminalData.{NonterminalData}
use Rattle.lalrpop_grammar_repr.specs.declared.production.Production.{Production}
use Rattle.lalrpop_grammar_repr.specs.declared.production.Symbol.{Symbol}
use Rattle.lalrpop_grammar_repr.specs.declared.production.Symbol.TheVariants as symbols
use Rattle.lalrpop_lr1_theory.specs.CheckedStates.{IsStartAlone}
use Rattle.lalrpop_lr1_theory.specs.Productions as theory
use Rattle.lalrpop_lr1_core.specs.Views.{production_symbol_view, production_view}
use Rattle.lalrpop_lr1_core.proofs.MemberLemmas.{map_has}
use Rattle.lalrpop_lr1_core.specs.TheoryGrammars.{productions_of_grammar}
use Rattle.lalrpop_lr1_core.proofs.GraphLemmas.{flat_has}
use Rattle.lalrpop_lr1_core.specs.TheoryGrammars.{theory_grammar}

module _ (g : Grammar) (n : NonterminalString) (alone : IsStartAlone (theory_grammar g) n.0) where
  no_symbol : (e : NonterminalString × NonterminalData) (p : Production) (s : Symbol) → Contains g.nonterminals e
      → Contains e.1.productions p → Contains p.symbols s → s ≡ symbols.Nonterminal n → ⊥
  no_symbol e p s c d k same =
      let there = flat_has (λ (x : NonterminalString × NonterminalData). x.1.productions) g.nonterminals e p c d in
      let seen : Contains (map production_symbol_view p.symbols) (theory.nonterminal n.0) =
      subst (λ y. Contains (map production_symbol_view p.symbols) y) (ap production_symbol_view same)
      (map_has production_symbol_view p.symbols s k) in
      alone (production_view p) (map_has production_view (productions_of_grammar g) p there) seen

  pub alone_told : IsAlone n g.nonterminals
  alone_told = λ k d h j q l i s m.
      no_symbol _ _ _ (All-contains_itself g.nonterminals k d h) (All-contains_itself _ j q l) (All-contains_itself _ i s m)
