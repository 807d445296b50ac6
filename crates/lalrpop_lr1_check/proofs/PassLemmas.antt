-- Checked states as the parts of the test see them: for the test of states.
use Rattle.std.proofs.Common.{◌↔◌, ℕ, List}
use Rattle.lalrpop_grammar_symbols.specs.Symbols.{Text}
use Rattle.lalrpop_grammar_repr.specs.declared.grammar.Grammar.{Grammar}
use Rattle.lalrpop_grammar_repr.specs.declared.production.Production.{Production}
use Rattle.lalrpop_grammar_repr.specs.declared.terminal_set.TerminalSet.{TerminalSet}
use Rattle.lalrpop_lr1_theory.specs.CheckedStates.{AreCheckedStates}
use Rattle.lalrpop_lr1_theory.specs.States.{HasEdge, HasItem, Reduces}
use Rattle.lalrpop_lr1_core.specs.declared.state.State.{State}
use Rattle.lalrpop_lr1_first.specs.Listings.{HoldSame}
use Rattle.lalrpop_lr1_core.specs.TheoryGrammars.{productions_of_grammar}
use Rattle.lalrpop_lr1_first.specs.NumberedGrammars.{IsSeenIn}
use Rattle.lalrpop_lr1_theory.specs.PropagatedNexts.{ReducesBeforeLookaheads}
use Rattle.lalrpop_lr1_theory.proofs.NameLemmas.{none_barren_productive}
use Rattle.lalrpop_lr1_check_lookaheads.proofs.PassLemmas.{checked_pass, pass_checked}
use Rattle.lalrpop_lr1_core.specs.TheoryGrammars.{theory_grammar}
use Rattle.lalrpop_lr1_check.specs.StatesOver.{PassAlongEdges, PassByTable, PassReductions, seen_states}
use Rattle.lalrpop_lr1_check.proofs.GrammarLemmas.{brings_same, reaches_same, seen_same}

module _ (g : Grammar) (ts : TerminalSet) (s : Text) (all : List (State (List ℕ))) where
  abbrev pub Checked : Type 0
  Checked = AreCheckedStates (theory_grammar g) s (seen_states ts all)

  pub checked_reductions : Checked → PassReductions ts s all
  checked_reductions c =
      let p = checked_pass (theory_grammar g) s (seen_states ts all) c in
      record { ends = p.ends; no_conflict = p.no_conflict }

  pub checked_edges : Checked → PassAlongEdges ts all
  checked_edges c =
      let p = checked_pass (theory_grammar g) s (seen_states ts all) c in
      record { finished = p.finished; follows = p.follows }

  pub checked_propagated : Checked → ReducesBeforeLookaheads (IsSeenIn (productions_of_grammar g)) s (HasItem (seen_states ts all))
      (HasEdge (seen_states ts all)) (Reduces (seen_states ts all))
  checked_propagated c = (checked_pass (theory_grammar g) s (seen_states ts all) c).propagated

  module _ (ps : List Production) (same : HoldSame ps (productions_of_grammar g)) where
    pub checked_table : Checked → PassByTable (IsSeenIn ps) ts s all
    checked_table c =
        let p = checked_pass (theory_grammar g) s (seen_states ts all) c in
        let back : (q : _) → IsSeenIn (productions_of_grammar g) q ↔ IsSeenIn ps q = λ q.
        let r = seen_same ps (productions_of_grammar g) same q in (r.1, r.0) in
        record {
          none_barren = (none_barren_productive (IsSeenIn ps) s).1
              (reaches_same (IsSeenIn (productions_of_grammar g)) (IsSeenIn ps) back s p.productive);
          brings = brings_same (IsSeenIn (productions_of_grammar g)) (IsSeenIn ps) back s (HasItem (seen_states ts all))
              (HasEdge (seen_states ts all)) p.brings;
        }

    pub passed_checked : PassReductions ts s all → PassAlongEdges ts all → PassByTable (IsSeenIn ps) ts s all →
        ReducesBeforeLookaheads (IsSeenIn (productions_of_grammar g)) s (HasItem (seen_states ts all)) (HasEdge (seen_states ts all))
        (Reduces (seen_states ts all)) → Checked
    passed_checked reductions edges table propagated =
        let to = seen_same ps (productions_of_grammar g) same in
        pass_checked (theory_grammar g) s (seen_states ts all) (record {
          follows = edges.follows;
          brings = brings_same (IsSeenIn ps) (IsSeenIn (productions_of_grammar g)) to s (HasItem (seen_states ts all))
              (HasEdge (seen_states ts all)) table.brings;
          finished = edges.finished;
          propagated = propagated;
          no_conflict = reductions.no_conflict;
          ends = reductions.ends;
          productive = reaches_same (IsSeenIn ps) (IsSeenIn (productions_of_grammar g)) to s
              ((none_barren_productive (IsSeenIn ps) s).0 table.none_barren);
        })
