-- How many numbers of actions inlining hands out, over the labels of an expansion.
use Rattle.std.specs.Prelude.{◌<◌, ◌≤◌, ◌^◌, ◌≡◌, List, ◌++◌, length}
use Rattle.lalrpop_grammar_symbols.specs.Symbols.{Text}
use Rattle.lalrpop_grammar.specs.WrittenGrammar.{Origin}
use Rattle.lalrpop_grammar_language.specs.Among.{Among}
use Rattle.lalrpop_grammar_language.specs.Enabled.{EnabledGrammar}
use Rattle.lalrpop_grammar_language.specs.Expansion.{InExpansion, Nonterminal, Produces, RightSide}
use Rattle.lalrpop_grammar_language.specs.Inlining.{Inlines}
use Rattle.lalrpop_grammar_language.specs.Labels.{Label}
use Rattle.lalrpop_lr1_inline.specs.InlinedLabels.{StandOnce}
use Rattle.lalrpop_norm_theory.specs.Keys.{leveled_key_text}
use Rattle.lalrpop_norm_theory.specs.NamesByUse.{IsNamingByUse}
use Rattle.lalrpop_run.specs.NonterminalOrders.{IsNonterminalOrder}

-- A production has the label after some steps of inlining, or before the first: those nonterminals are inlined that stand in a front of
-- the order, and no other.
pub record IsLabelAtStep (g : EnabledGrammar) (order : List Nonterminal) (label : Label Nonterminal Origin) : Type 0 where
  pub inlined : List Nonterminal
  pub left : List Nonterminal
  pub order_is : order ≡ inlined ++ left
  pub nonterminal : Nonterminal
  pub known : InExpansion g nonterminal
  pub side : RightSide
  pub produced : Inlines (Produces g) (Among inlined) nonterminal label side

-- Each such label has a number of its own: a step hands out one for each label that it makes, and none is made twice.
pub record HaveNumbers (g : EnabledGrammar) (order : List Nonterminal) (labels : List (Label Nonterminal Origin)) : Type 0 where
  pub each : (label : Label Nonterminal Origin) → Among labels label → IsLabelAtStep g order label
  pub once : StandOnce labels

-- more of them than there are numbers, under names that are given in order of first use
pub record HandsOutTooMany (g : EnabledGrammar) (prefix : Text) : Type 0 where
  pub name_of : Nonterminal → Text
  pub naming : IsNamingByUse (leveled_key_text g) prefix g name_of
  pub order : List Nonterminal
  pub is_order : IsNonterminalOrder g name_of order
  pub labels : List (Label Nonterminal Origin)
  pub have_numbers : HaveNumbers g order labels
  pub too_many : 2 ^ 32 < length labels

-- under such names there are numbers enough
pub record HasNumbersEnough (g : EnabledGrammar) (prefix : Text) : Type 0 where
  pub name_of : Nonterminal → Text
  pub naming : IsNamingByUse (leveled_key_text g) prefix g name_of
  pub order : List Nonterminal
  pub is_order : IsNonterminalOrder g name_of order
  pub few : (labels : List (Label Nonterminal Origin)) → HaveNumbers g order labels → length labels ≤ 2 ^ 32
