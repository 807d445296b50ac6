-- One nonterminal after another is looked at: for the test whether a start stands on no right side.
use Rattle.std.proofs.Common.{◌≡◌, ◌↔◌, List, ◌∷◌, IsTrue, false}
use Rattle.std.proofs.lemmas.List.Elements.{All-cons, All-head, All-tail}
use Rattle.lalrpop_grammar_symbols.specs.declared.names.NonterminalString.{NonterminalString}
use Rattle.lalrpop_grammar_repr.specs.declared.production.NonterminalData.{NonterminalData}
use Rattle.lalrpop_grammar_repr.specs.Productions.{AreFreeOf, IsAlone}

abbrev Entries : Type 0
Entries = List (NonterminalString × NonterminalData)

-- it is free of this one, so what is left decides
pub rest_decides : (n : NonterminalString) (e : NonterminalString × NonterminalData) (left rest whole : Entries) → left ≡ e ∷ rest
    → AreFreeOf n e.1.productions → (IsAlone n left ↔ IsAlone n whole) → IsAlone n rest ↔ IsAlone n whole
rest_decides n e left rest whole first free decides =
    let both : IsAlone n (e ∷ rest) ↔ IsAlone n whole = rw first at decides in (
      (λ alone. both.0 (All-cons (λ x. AreFreeOf n x.1.productions) e rest free alone)),
      (λ alone. All-tail (λ x. AreFreeOf n x.1.productions) e rest (both.1 alone)),
    )

-- this one names it, so it isn't alone
pub named_here : (n : NonterminalString) (e : NonterminalString × NonterminalData) (left rest whole : Entries) → left ≡ e ∷ rest
    → (AreFreeOf n e.1.productions → ⊥) → (IsAlone n left ↔ IsAlone n whole) → IsTrue false ↔ IsAlone n whole
named_here n e left rest whole first names decides =
    let both : IsAlone n (e ∷ rest) ↔ IsAlone n whole = rw first at decides in (
      (λ none. absurd (cc)),
      (λ alone. absurd (names (All-head (λ x. AreFreeOf n x.1.productions) e rest (both.1 alone)))),
    )
