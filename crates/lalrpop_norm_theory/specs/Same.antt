-- What a pass keeps of a grammar: its expansion, under other nonterminals.
use Rattle.std.specs.Prelude.{◌≡◌, List, map}
use Rattle.lalrpop_grammar_symbols.specs.Symbols.{Text}
use Rattle.lalrpop_grammar.specs.WrittenGrammar.{Origin}
use Rattle.lalrpop_grammar_language.specs.Enabled.{EnabledGrammar}
use Rattle.lalrpop_grammar_language.specs.Expansion.{GrammarSymbol, Nonterminal, RightSide, Produces, InExpansion}

-- a symbol of a right side with its nonterminal renamed
abbrev pub rename_symbol : {A B : Type 0} → (A → B) → GrammarSymbol A → GrammarSymbol B
rename_symbol f (GrammarSymbol.nonterminal x) = GrammarSymbol.nonterminal (f x)
rename_symbol f (GrammarSymbol.terminal t) = GrammarSymbol.terminal t

abbrev pub rename_side : {A B : Type 0} → (A → B) → List (GrammarSymbol A) → List (GrammarSymbol B)
rename_side f = map (rename_symbol f)

-- The expansion of the one grammar is that of the other under the renaming: no two nonterminals get one name, starts keep
-- theirs, both have the same nonterminals, and each of them the same productions by the same written choices.
pub record SameExpansion (before after : EnabledGrammar) (to : Nonterminal → Nonterminal) : Type 0 where
  pub apart : (x y : Nonterminal) → InExpansion before x → InExpansion before y → to x ≡ to y → x ≡ y
  pub starts : (n : Text) → to (Nonterminal.start n) ≡ Nonterminal.start n
  pub there : (x : Nonterminal) → InExpansion before x → InExpansion after (to x)
  pub no_other : (y : Nonterminal) → InExpansion after y → (x : Nonterminal) × InExpansion before x × (y ≡ to x)
  pub produces : (x : Nonterminal) (o : Origin) (side : RightSide) → InExpansion before x → Produces before x o side
      → Produces after (to x) o (rename_side to side)
  pub produces_no_other : (x : Nonterminal) (o : Origin) (side : RightSide) → InExpansion before x → Produces after (to x) o side
      → (from : RightSide) × Produces before x o from × (side ≡ rename_side to from)
