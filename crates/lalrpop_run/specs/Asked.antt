-- What is asked of a written grammar, and what is answered.
use Rattle.std.specs.Prelude.{ℕ, ◌++◌, Bool, List, Option}
use Rattle.lalrpop_grammar_symbols.specs.Symbols.{Text, TextSpan}
use Rattle.lalrpop_grammar.specs.WrittenGrammar.{Grammar}
use Rattle.lalrpop_grammar.specs.Trees.{Tree}
use Rattle.lalrpop_grammar_language.specs.Enabled.{EnabledGrammar, enabled_grammar}
use Rattle.lalrpop_grammar_repr.specs.declared.norm_error.NormErrorKind.{NormErrorKind}
use Rattle.lalrpop_lr1_theory.specs.Productions.{Next}
use Rattle.lalrpop_run_theory.specs.TextAnswers.{TextAnswer}

-- Whether a pattern is found in a text, and whether it is nested too deep to be read; the features, how deep macros may be called, the
-- rule to start from, and how many moves may be made.
pub record Asked : Type 0 where
  pub finds : Text → Text → Option Bool
  pub deep : Text → Bool
  pub features : List Text
  pub macro_limit : ℕ
  pub start : Text
  pub limit : ℕ

-- what the features leave of the grammar
abbrev pub enabled : Asked → Grammar → EnabledGrammar
enabled q w = enabled_grammar q.finds q.features w

-- the name of the start in the expansion
abbrev pub name_of_start : Asked → Grammar → Text
name_of_start q w = w.prefix ++ q.start

-- why there is no parser but for conflicts: an extern block, error recovery, a fault of the passes or of inlining with its place, a search
-- that is given up, the start, a barren nonterminal
pub data Refusal : Type 0 where
  extern_block : Refusal
  recovery : Refusal
  fault : NormErrorKind → TextSpan → Refusal
  condition_limit : Refusal
  unknown_start : Text → Refusal
  private_start : Text → Refusal
  barren : Text → Refusal

pub data MoveKind : Type 0 where
  shift : MoveKind
  reduce : MoveKind

-- two sentences that are alike up to a place and need different moves there: how many trees they share, what comes next, and the kind of
-- each move with its written tree
pub record ToldConflict : Type 0 where
  pub shared : ℕ
  pub next : Next
  pub kind1 : MoveKind
  pub tree1 : Tree
  pub kind2 : MoveKind
  pub tree2 : Tree

-- why there is no parser, or what a parser answers to the text
pub data WrittenAnswer : Type 0 where
  refused : Refusal → WrittenAnswer
  conflicting : List ToldConflict → WrittenAnswer
  to_text : TextAnswer → WrittenAnswer
