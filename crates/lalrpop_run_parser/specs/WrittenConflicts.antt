-- Which conflicts, as trees of the written grammar, certificates stand for: for those who tell them.
use Rattle.std.specs.Prelude.{ℕ, List, length, ◌≡◌, Contains, Some, slice_get}
use Rattle.std.specs.Option.{option_map}
use Rattle.lalrpop_grammar.specs.Views.{tree_view}
use Rattle.lalrpop_grammar_symbols.specs.Views.{terminal_view}
use Rattle.lalrpop_judge.specs.Certificates.{NumberedMove, ShownConflict, reduce_by, shift_of}
use Rattle.lalrpop_judge.specs.CertificateViews.{certificate_view}
use Rattle.lalrpop_judge.specs.declared.certificates.certificate.Certificate.{Certificate}
use Rattle.lalrpop_lr1_theory.specs.Spans.{without_spans}
use Rattle.lalrpop_lr1_theory.specs.Trees.{IsTreeOf, roots}
use Rattle.lalrpop_lr1_core.specs.TheoryGrammars.{theory_grammar}
use Rattle.lalrpop_run_parser.specs.declared.conflicts.written_conflict.WrittenConflict.{WrittenConflict}
use Rattle.lalrpop_run_parser.specs.declared.conflicts.written_conflict.WrittenMove.{WrittenMove}
use Rattle.lalrpop_run_parser.specs.declared.conflicts.written_conflict.WrittenMove.TheVariants as moves
use Rattle.lalrpop_run_parser.specs.Foldings.{IsUnfolded}
use Rattle.lalrpop_run_prepare.specs.PreparedGrammars.{PreparedGrammar}

-- both trees are from the grammar's start, over the productions of its expansion
pub record HasTreesOf (v : PreparedGrammar) (c : ShownConflict) : Type 0 where
  pub tree1 : IsTreeOf (Contains (theory_grammar v.expansion)) v.start_name.0 (without_spans c.tree1)
  pub tree2 : IsTreeOf (Contains (theory_grammar v.expansion)) v.start_name.0 (without_spans c.tree2)

-- the kind of a move
abbrev pub IsKindOf : NumberedMove → WrittenMove → Type 0
IsKindOf (shift_of t) kind = kind ≡ moves.Shift
IsKindOf (reduce_by action) kind = kind ≡ moves.Reduce

-- It has as many trees in common, the same comes next, the moves are of the same kinds, and its trees are those that the certificate's
-- unfold to.
pub record IsWrittenConflict (v : PreparedGrammar) (c : ShownConflict) (it : WrittenConflict) : Type 0 where
  pub shared : it.shared ≡ length (roots (without_spans c.shared))
  pub next : option_map terminal_view it.next ≡ c.next
  pub kind1 : IsKindOf c.move1 it.move1
  pub tree1 : IsUnfolded v c.tree1 (tree_view it.tree1)
  pub kind2 : IsKindOf c.move2 it.move2
  pub tree2 : IsUnfolded v c.tree2 (tree_view it.tree2)

-- all of them are so
abbrev pub HaveTreesOf : PreparedGrammar → List Certificate → Type 0
HaveTreesOf v certificates = (i : ℕ) (c : Certificate) → slice_get certificates i ≡ Some c → HasTreesOf v (certificate_view c)

-- one for each of so many certificates, in their order
pub record AreWrittenOf (v : PreparedGrammar) (certificates : List Certificate) (n : ℕ) (all : List WrittenConflict) : Type 0 where
  pub count : length all ≡ n
  pub each : (i : ℕ) (c : Certificate) (it : WrittenConflict) → slice_get certificates i ≡ Some c → slice_get all i ≡ Some it →
      IsWrittenConflict v (certificate_view c) it

-- one for each of them
abbrev pub AreWrittenConflicts : PreparedGrammar → List Certificate → List WrittenConflict → Type 0
AreWrittenConflicts v certificates all = AreWrittenOf v certificates (length certificates) all
