-- Computed examples of numbers of states: the right one of `pub S = "a"`, and that no other is right.
use Rattle.std.proofs.Common.{◌≡◌, ℕ, List, [], inl, refl, arith, Contains}
use Rattle.std.specs.Prelude.{codes}
use Rattle.lalrpop_grammar_language.proofs.WrittenTreeLemmas.{finds}
use Rattle.lalrpop_lr1_theory.specs.Productions.{Production}
use Rattle.lalrpop_lr1_theory.specs.ValidItems.{CountsItemSets}
use Rattle.lalrpop_run_theory.specs.TextAnswers.{AreExpansionOf}
use Rattle.lalrpop_run_theory.proofs.ExamplesOfExpansions.{start}
use Rattle.lalrpop_run.specs.RightAnswer.{IsRightStateCount, MayBeParsed}
use Rattle.lalrpop_run.proofs.CountLemmas.{counts_are_one}
use Rattle.lalrpop_run.proofs.ExamplesOfOneWord.{one_tree_each, one_word, there, two, two_are, two_counted, two_lr1}
use Rattle.lalrpop_run.proofs.ExamplesOfPassFaults.{word_faultless}
use Rattle.lalrpop_run.proofs.ExamplesOfRightAnswers.{asked, asked_within}
use Rattle.lalrpop_run.proofs.ExpansionAlikeLemmas.{counts_are_said_of_all}

-- it may be parsed
abbrev pub word_parsed : (limit : ℕ) → MayBeParsed (asked_within limit) one_word
word_parsed limit = record {
  faultless = word_faultless limit;
  grammar = two;
  expansion = two_are;
  lr1 = two_lr1;
  unambiguous = one_tree_each;
}

-- and there are three states
pub three_states_right : IsRightStateCount asked one_word 3
three_states_right = record { parsed = word_parsed 1000; counted = two_counted }

-- there are three whichever productions of the expansion are taken
counted : (grammar : List Production) → AreExpansionOf finds [] one_word grammar → CountsItemSets (Contains grammar) (codes "__S") 3
counted grammar e =
    counts_are_said_of_all 3 finds [] one_word (codes "S") two grammar (there start (inl refl)) two_are e two_counted

pub no_other_count : (count : ℕ) → IsRightStateCount asked one_word count → count ≡ 3
no_other_count count h =
    counts_are_one h.parsed.grammar (codes "__S") count 3 h.counted (counted h.parsed.grammar h.parsed.expansion)

-- from `S` itself there are two; from `__S`, of which it is said, there aren't, nor are there four
pub states_of_another_start : IsRightStateCount asked one_word 2 → ⊥
states_of_another_start h = let same : ◌≡◌ {A = ℕ} 2 3 = no_other_count 2 h in omega (arith, same)

pub one_state_too_many : IsRightStateCount asked one_word 4 → ⊥
one_state_too_many h = let same : ◌≡◌ {A = ℕ} 4 3 = no_other_count 4 h in omega (arith, same)
