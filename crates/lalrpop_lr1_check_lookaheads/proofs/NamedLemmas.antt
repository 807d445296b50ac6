-- What some of a name's own productions does is what some of all productions does, where none of another name does it: for slots.
use Rattle.std.proofs.Common.{◌≡◌, ◌↔◌, List, Contains, ap}
use Rattle.lalrpop_grammar_symbols.specs.Symbols.{Text}
use Rattle.lalrpop_grammar_symbols.specs.declared.names.NonterminalString.{NonterminalString}
use Rattle.lalrpop_grammar_repr.specs.declared.production.Production.{Production}
use Rattle.lalrpop_lr1_barren.specs.NamedLists.{HoldsNamed}

-- names of one text are one
pub named_same : (a b : NonterminalString) → a.0 ≡ b.0 → a ≡ b
named_same a b e = let f : Text → NonterminalString = λ t. record { 0 = t } in ap f e

-- some of them, where none of another name does it
pub some_named : (productions listed : List Production) (name : NonterminalString) → HoldsNamed productions name listed →
    (P : Production → Type 0) → ((p : Production) → P p → p.nonterminal.0 ≡ name.0) →
    ((p : Production) × Contains listed p × P p) ↔ ((p : Production) × Contains productions p × P p)
some_named productions listed name h P of_name = (
  λ (p, c, b). (p, h.within p c, b),
  λ (p, c, b). (p, h.all p c (named_same p.nonterminal name (of_name p b)), b),
)
