-- States that conflict have conflicts to be listed: for the construction by lane tables.
use Rattle.std.proofs.Common.{◌≡◌, ℕ, List, [], subst}
use Rattle.std.specs.Prelude.{flat_map}
use Rattle.lalrpop_grammar_repr.specs.declared.terminal_set.TerminalSet.{TerminalSet}
use Rattle.lalrpop_lr1_theory.specs.CheckedStates.{HasNoConflict}
use Rattle.lalrpop_lr1_theory.specs.Laws.{HaveNoConflict}
use Rattle.lalrpop_lr1_theory.proofs.ListLemmas.{get_contains}
use Rattle.lalrpop_lr1_theory.proofs.OrderLemmas.{get_image}
use Rattle.lalrpop_lr1_core.specs.Conflicts.{token_conflicts}
use Rattle.lalrpop_lr1_core.specs.Numbering.{IsNumberedByPlaces}
use Rattle.lalrpop_lr1_core.specs.Views.{lr_state_view, token_lookahead}
use Rattle.lalrpop_lr1_core.specs.declared.state.State.{State}
use Rattle.lalrpop_lr1_core.proofs.MemberLemmas.{flat_empty}
use Rattle.lalrpop_lr1_core.proofs.NoConflictLemmas.{none_is_none}
use Rattle.lalrpop_lr1_build.specs.CollapseAnswers.{states_over}

pub none_listed : (ts : TerminalSet) (all : List (State (List ℕ))) → IsNumberedByPlaces ts →
    flat_map (token_conflicts ts) all ≡ [] → HaveNoConflict (states_over ts all)
none_listed ts all numbered none n view e =
    let m = get_image (lr_state_view (token_lookahead ts)) all n view e in
    subst HasNoConflict m.2
    (none_is_none ts m.0 numbered (flat_empty (token_conflicts ts) all m.0 none (get_contains all n m.0 m.1)))
