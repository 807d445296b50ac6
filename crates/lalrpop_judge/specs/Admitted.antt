-- Admission over the tokens at the leaves, and the right side that a call asks for at a place.
use Rattle.std.specs.Prelude.{ℕ, ◌≡◌, Bool, false, List, Option}
use Rattle.lalrpop_grammar_symbols.specs.Symbols.{Text, Op, Closed, Closeds}
use Rattle.lalrpop_grammar.specs.Trees.{Tree, Trees, leaves, leaves_of}
use Rattle.lalrpop_grammar_language.specs.Enabled.{EnabledGrammar, EnabledRule, Choice}
use Rattle.lalrpop_grammar_language.specs.Levels.{Rank}
use Rattle.lalrpop_grammar_language.specs.Closing.{right_side}
use Rattle.lalrpop_grammar_language.specs.Admitting.{Admits, AdmitsAll, AdmitsEach, Fits, IsAtPlace, AtMost, rank_level, bind}

-- the tree is one of the symbol, over its own leaves
abbrev pub Admitted : EnabledGrammar → Closed → Tree → Type 0
Admitted g x t = Admits g x t (leaves t)

-- one tree for each symbol, over their own leaves
abbrev pub AdmittedAll : EnabledGrammar → List Closed → Trees → Type 0
AdmittedAll g xs ts = AdmitsAll g xs ts (leaves_of ts)

-- each tree is one of the symbol, over its own leaves
abbrev pub AdmittedEach : EnabledGrammar → Closed → Trees → Type 0
AdmittedEach g x ts = AdmitsEach g x ts (leaves_of ts)

-- a list that is empty or not may stand for the repeat
abbrev pub MayBe : Op → Bool → Type 0
MayBe Op.star empty = Unit {0}
MayBe Op.plus empty = empty ≡ false
MayBe Op.question empty = ⊥

-- the symbols that a call's alternative at the place asks for, where it may be chosen
pub record IsRightSideAt (g : EnabledGrammar) (n : Text) (given : Closeds) (level : Option ℕ) (place : ℕ) (side : List Closed) :
    Type 0 where
  pub rule : EnabledRule
  pub choice : Choice × Option Rank
  pub fits : Fits g n given rule choice
  pub at : IsAtPlace n place choice.0
  pub low : AtMost (rank_level choice.1) level
  pub side_is : side ≡ right_side g rule (bind rule given) choice
