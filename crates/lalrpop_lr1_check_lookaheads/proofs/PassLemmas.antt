-- Checked states pass all tests, and states that pass them are checked: for the test of states.
use Rattle.std.proofs.Common.{List, Contains}
use Rattle.lalrpop_grammar_symbols.specs.Symbols.{Text}
use Rattle.lalrpop_lr1_theory.specs.Productions.{Production}
use Rattle.lalrpop_lr1_theory.specs.States.{State, HasEdge, HasItem, Reduces}
use Rattle.lalrpop_lr1_theory.specs.CheckedStates.{AreCheckedStates}
use Rattle.lalrpop_lr1_theory.proofs.TestCoverLemmas.{cover_tested}
use Rattle.lalrpop_lr1_theory.proofs.PropagatedLemmas.{reduces_carried, reduces_propagated}
use Rattle.lalrpop_lr1_theory.proofs.NameLemmas.{none_barren_productive}
use Rattle.lalrpop_lr1_check_lookaheads.specs.CheckedTests.{PassChecks}

-- states that may be parsed with pass all tests
pub checked_pass : (grammar : List Production) (s : Text) (states : List State) → AreCheckedStates grammar s states →
    PassChecks grammar s states
checked_pass grammar s states c =
    let t = (cover_tested (Contains grammar) s (HasItem states) (HasEdge states)).0 c.cover in
    record {
      follows = record {
        moves_on = t.moves_on;
        comes_back = t.comes_back;
        has_moved = t.has_moved;
        one_edge = t.one_edge;
      };
      brings = record { unmoved_start = t.unmoved_start; start_brings = t.start_brings; moved_bring = t.moved_bring };
      finished = c.finished;
      propagated = reduces_propagated (Contains grammar) s (HasItem states) (HasEdge states) (Reduces states) c.carried;
      no_conflict = c.no_conflict;
      ends = record { at_end = c.at_end; no_error = c.no_error };
      productive = (none_barren_productive (Contains grammar) s).0 c.none_barren;
    }

-- states that pass all tests may be parsed with
pub pass_checked : (grammar : List Production) (s : Text) (states : List State) → PassChecks grammar s states →
    AreCheckedStates grammar s states
pass_checked grammar s states p = record {
  cover = (cover_tested (Contains grammar) s (HasItem states) (HasEdge states)).1 (record {
    moves_on = p.follows.moves_on;
    comes_back = p.follows.comes_back;
    has_moved = p.follows.has_moved;
    one_edge = p.follows.one_edge;
    unmoved_start = p.brings.unmoved_start;
    start_brings = p.brings.start_brings;
    moved_bring = p.brings.moved_bring;
  });
  finished = p.finished;
  carried = reduces_carried (Contains grammar) s (HasItem states) (HasEdge states) (Reduces states) p.propagated;
  no_conflict = p.no_conflict;
  at_end = p.ends.at_end;
  no_error = p.ends.no_error;
  none_barren = (none_barren_productive (Contains grammar) s).1 p.productive;
}
