-- What is told of a grammar whose expansion isn't LR(1).
use Rattle.std.specs.Prelude.{ℕ, ◌≡◌, List, [], length, Contains, Some, slice_get}
use Rattle.lalrpop_grammar_symbols.specs.Symbols.{Text}
use Rattle.lalrpop_grammar.specs.WrittenGrammar.{Grammar, Origin}
use Rattle.lalrpop_grammar_language.specs.Expansion.{Nonterminal}
use Rattle.lalrpop_grammar_language.specs.Labels.{Label}
use Rattle.lalrpop_judge.specs.Certificates.{NumberedMove, ShownConflict, reduce_by, shift_of}
use Rattle.lalrpop_lr1_theory.specs.Answers.{IsLr1}
use Rattle.lalrpop_lr1_theory.specs.Productions.{Production}
use Rattle.lalrpop_lr1_theory.specs.Spans.{without_spans}
use Rattle.lalrpop_lr1_theory.specs.Trees.{roots}
use Rattle.lalrpop_norm_theory.specs.Keys.{leveled_key_text}
use Rattle.lalrpop_norm_theory.specs.NamesByUse.{IsNamingByUse}
use Rattle.lalrpop_run_theory.specs.ExpansionTrees.{written_of_forest}
use Rattle.lalrpop_run.specs.AllConflicts.{AreConflictsInOrder, CertifiesPlaced, PlacedConflict}
use Rattle.lalrpop_run.specs.Asked.{Asked, MoveKind, ToldConflict, enabled, name_of_start}
use Rattle.lalrpop_run.specs.ListedFaults.{IsFaultless}
use Rattle.lalrpop_run.specs.ProductionOrders.{AreItsProductions}

abbrev pub kind_of_move : NumberedMove → MoveKind
kind_of_move (shift_of t) = MoveKind.shift
kind_of_move (reduce_by action) = MoveKind.reduce

-- what is told of a certificate, its trees as written ones
abbrev pub told_of : (ℕ → Label Nonterminal Origin) → ShownConflict → ToldConflict
told_of label_of c = record {
  shared = length (roots (without_spans c.shared));
  next = c.next;
  kind1 = kind_of_move c.move1;
  tree1 = written_of_forest label_of c.tree1;
  kind2 = kind_of_move c.move2;
  tree2 = written_of_forest label_of c.tree2;
}

-- A certificate of the conflict is told.
pub record IsToldOf (G : Production → Type 0) (s : Text) (label_of : ℕ → Label Nonterminal Origin) (c : PlacedConflict)
    (told : ToldConflict) : Type 0 where
  pub shown : ShownConflict
  pub certificate : CertifiesPlaced G s c shown
  pub told_is : told ≡ told_of label_of shown

-- There are conflicts, and of each of them, in their order, a certificate is told.
pub record AreToldOf (G : Production → Type 0) (s : Text) (label_of : ℕ → Label Nonterminal Origin) (told : List ToldConflict) :
    Type 0 where
  pub conflicts : List PlacedConflict
  pub are_all : AreConflictsInOrder G s conflicts
  pub some : conflicts ≡ [] → ⊥
  pub count : length told ≡ length conflicts
  pub each : (i : ℕ) (c : PlacedConflict) (t : ToldConflict) → slice_get conflicts i ≡ Some c → slice_get told i ≡ Some t
      → IsToldOf G s label_of c t

-- No fault stands, and the expansion isn't LR(1) from the start, under names that are given in order of first use; all its conflicts are
-- told, in their order, each with a certificate.
pub record IsConflicting (q : Asked) (w : Grammar) (told : List ToldConflict) : Type 0 where
  pub faultless : IsFaultless q w
  pub grammar : List Production
  pub productions : AreItsProductions q w grammar
  pub naming : IsNamingByUse (leveled_key_text (enabled q w)) w.prefix (enabled q w) productions.expansion.name_of
  pub no_lr1 : IsLr1 (Contains grammar) (name_of_start q w) → ⊥
  pub told_are : AreToldOf (Contains grammar) (name_of_start q w) productions.expansion.label_of told
