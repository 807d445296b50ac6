-- Which items a nonterminal behind a dot brings: its productions with the dot in front, before what may follow it there.
use Rattle.std.specs.Prelude.{◌≡◌, ℕ, List, map}
use Rattle.lalrpop_grammar_repr.specs.Productions.{productions_of}
use Rattle.lalrpop_grammar_repr.specs.declared.grammar.Grammar.{Grammar}
use Rattle.lalrpop_grammar_repr.specs.declared.production.Production.{Production}
use Rattle.lalrpop_grammar_symbols.specs.declared.names.NonterminalString.{NonterminalString}
use Rattle.lalrpop_lr1_core.specs.declared.item.Item.{Item}
use Rattle.lalrpop_lr1_core.specs.declared.state_index.StateIndex.{StateIndex}

-- the state with the number
abbrev pub index_of_number : ℕ → StateIndex
index_of_number n = record { 0 = n }

-- an item by its parts, its production as it is
pub record FrontItem (L : Type 0) : Type 0 where
  pub production : Production
  pub index : ℕ
  pub lookahead : L

abbrev pub shown_front : {L : Type 0} → Item L → FrontItem L
shown_front item = record { production = item.production.now; index = item.index; lookahead = item.lookahead }

-- a production with the dot in front, before this
abbrev pub front_of : {L : Type 0} → L → Production → FrontItem L
front_of before p = record { production = p; index = 0; lookahead = before }

-- the productions of the nonterminal with the dot in front, in order, before something that may follow
abbrev pub AreBroughtItems : {L : Type 0} → Grammar → NonterminalString → (L → Type 0) → List (Item L) → Type 0
AreBroughtItems {L} g n may_follow items =
    (before : L) × may_follow before × (map shown_front items ≡ map (front_of before) (productions_of g.nonterminals n))
