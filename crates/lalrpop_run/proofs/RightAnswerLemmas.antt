-- What was prepared gives right answers of its written grammar; for what `check`, `tokens` and `parse` reply.
use Rattle.std.proofs.Common.{◌≡◌, ◌∙◌, ◌++◌, ℕ, List, Contains, ap, length, map, refl, subst, sym}
use Rattle.std.specs.List.Sorted.{IsStrictlySortedBy}
use Rattle.lalrpop_grammar_symbols.specs.contracts.terminal.TerminalStringOrd.TheImpl as terminal_order
use Rattle.lalrpop_grammar.specs.Trees.{Tree}
use Rattle.lalrpop_grammar.specs.Views.{grammar_view, tree_view}
use Rattle.lalrpop_grammar.specs.WrittenGrammar as written
use Rattle.lalrpop_grammar_language.specs.Enabled.{enabled_grammar}
use Rattle.lalrpop_grammar_repr.specs.declared.grammar.Grammar as repr
use Rattle.lalrpop_grammar_rules.specs.Search.{finds, is_too_deep}
use Rattle.lalrpop_judge.specs.Certificates.{NumberedMove, ShownConflict, reduce_by, shift_of}
use Rattle.lalrpop_judge.specs.declared.certificates.certificate.Certificate.{Certificate}
use Rattle.lalrpop_lexer_scan.specs.Entries.{ScanEntry}
use Rattle.lalrpop_lr1_core.specs.TheoryGrammars.{theory_grammar}
use Rattle.lalrpop_lr1_first.specs.NumberedGrammars.{HasItsTerminals}
use Rattle.lalrpop_lr1_inline.specs.InlinedGrammars.{IsInlinedGrammar}
use Rattle.lalrpop_lr1_theory.specs.Answers.{IsLr1}
use Rattle.lalrpop_lr1_theory.specs.CheckedStates.{AreCheckedStates}
use Rattle.lalrpop_lr1_theory.specs.Spans.{SpannedForest}
use Rattle.lalrpop_lr1_theory.specs.States.{State}
use Rattle.lalrpop_lr1_theory.specs.ValidItems.{CountsItemSets}
use Rattle.lalrpop_norm_chain.specs.LoweredViews.{lowered_view}
use Rattle.lalrpop_norm_theory.specs.Premises.{IsReadGrammar}
use Rattle.lalrpop_run_parser.specs.Foldings.{IsUnfolded}
use Rattle.lalrpop_lane_theory.specs.Lalr1Grammars.{IsLalr1, IsLeastStateCount}
use Rattle.lalrpop_run_parser.specs.Parsers.{HasConflicts, HasLalr1Expansion, HasOneTreeEach}
use Rattle.lalrpop_run_parser.specs.WrittenConflicts.{AreWrittenConflicts, IsKindOf, IsWrittenConflict}
use Rattle.lalrpop_run_parser.specs.declared.conflicts.written_conflict.WrittenConflict.{WrittenConflict}
use Rattle.lalrpop_run_parser.specs.declared.conflicts.written_conflict.WrittenMove.{WrittenMove}
use Rattle.lalrpop_run_prepare.specs.PreparedGrammars.{IsPrepared, MayBeParsedFrom, PreparedGrammar}
use Rattle.lalrpop_run_prepare.specs.Tokenizers.{scan_entries}
use Rattle.lalrpop_run_theory.specs.ExpansionTrees.{written_of_forest}
use Rattle.lalrpop_run_theory.specs.TextAnswers.{IsRightForText, IsRightForTokens, TextAnswer}
use Rattle.lalrpop_run.specs.Asked.{Asked, WrittenAnswer}
use Rattle.lalrpop_run.specs.Check.{HasStates}
use Rattle.lalrpop_run.specs.ListedFaults.{IsFaultless}
use Rattle.lalrpop_run.specs.Parsers.{conflict_view, kind_view}
use Rattle.lalrpop_run.specs.Report.{IsReportedExpansion}
use Rattle.lalrpop_run.specs.RightAnswer.{AreItsEntries, HasTokens, IsRightAnswerTo, IsRightStateCount, MayBeParsed}
use Rattle.lalrpop_run.specs.ToldConflicts.{AreToldOf, IsConflicting, kind_of_move, told_of}
use Rattle.lalrpop_run.proofs.ItsProductionsLemmas.{AreToldInOrder, prepared_in_order}
use Rattle.lalrpop_run.proofs.ToldOrderLemmas.{all_told}
use Rattle.lalrpop_run.proofs.ListedFaultLemmas.{may_be_inlined}

kinds_same : (m : NumberedMove) (kind : WrittenMove) → IsKindOf m kind → kind_view kind ≡ kind_of_move m
kinds_same (shift_of t) kind h = ap kind_view h
kinds_same (reduce_by action) kind h = ap kind_view h

-- what is right by the entries, where there is a parser
pub right_by_entries : (q : Asked) (w : written.Grammar) (entries : List ScanEntry) (text : List ℕ) (answer : TextAnswer)
    → MayBeParsed q w → AreItsEntries q w entries
    → IsRightForText q.finds q.features w q.start entries text q.limit answer
    → IsRightAnswerTo q w text (WrittenAnswer.to_text answer)
right_by_entries q w entries text answer parsed are (IsRightForText.stops at none) =
    IsRightAnswerTo.no_token entries at parsed are none
right_by_entries q w entries text answer parsed are (IsRightForText.reads tokens given cut right) =
    by given right
  where
    has : HasTokens q w text tokens
    has = record { parsed = parsed; entries = entries; are_entries = are; cut = cut }

    by : (a : TextAnswer) → IsRightForTokens q.finds q.features w q.start tokens q.limit a
        → IsRightAnswerTo q w text (WrittenAnswer.to_text a)
    by (TextAnswer.no_token at) h = absurd h
    by (TextAnswer.written t) h = IsRightAnswerTo.sentence tokens t has h
    by (TextAnswer.wrong_token at word) h = IsRightAnswerTo.stops tokens (TextAnswer.wrong_token at word) has h
    by TextAnswer.early_end h = IsRightAnswerTo.stops tokens TextAnswer.early_end has h
    by TextAnswer.over_limit h = IsRightAnswerTo.stops tokens TextAnswer.over_limit has h

-- what is asked of a prepared grammar, under a limit on moves
abbrev pub own_question : PreparedGrammar → ℕ → Asked
own_question v limit = record {
  finds = finds;
  deep = is_too_deep;
  features = v.session.features.items;
  macro_limit = v.session.macro_recursion_limit;
  start = v.start;
  limit = limit;
}

module _ (v : PreparedGrammar) (limit : ℕ) (p : IsPrepared finds is_too_deep v)
    (name : v.start_name.0 ≡ v.written.prefix ++ v.start) where
  abbrev own : Asked
  own = own_question v limit

  abbrev w : written.Grammar
  w = grammar_view v.written

  pub faultless_prepared : IsFaultless own w
  faultless_prepared = record {
    lowerable = p.generable;
    inlinable = may_be_inlined own w (record {
      lowered = p.made;
      normalized = p.normalized;
      named = p.named;
      expansion = v.expansion;
      inlined = subst (λ (g : repr.Grammar). IsInlinedGrammar g v.expansion) (sym p.lowered_is) p.inlined;
    });
    none_barren = p.none_barren;
  }

  pub parsed_prepared : IsLr1 (Contains (theory_grammar v.expansion)) v.start_name.0 → HasOneTreeEach v → MayBeParsed own w
  parsed_prepared lr1 one_tree = record {
    faultless = faultless_prepared;
    grammar = theory_grammar v.expansion;
    expansion = p.told.expansion;
    lr1 = subst (IsLr1 (Contains (theory_grammar v.expansion))) name lr1;
    unambiguous = one_tree;
  }

  pub entries_prepared : AreItsEntries own w (scan_entries (lowered_view p.made).entries)
  entries_prepared = record {
    made = (lowered_view p.made).entries;
    are_full = p.normalized.entries;
    none_refused = p.normalized.none_refused;
    entries_are = refl;
    unambiguous = p.normalized.unambiguous;
  }

  pub states_prepared : (lr1 : IsLr1 (Contains (theory_grammar v.expansion)) v.start_name.0) (one_tree : HasOneTreeEach v)
      (states : List State) (count : ℕ) → AreCheckedStates (theory_grammar v.expansion) v.start_name.0 states
      → count ≡ length states → (HasLalr1Expansion v → IsLeastStateCount (theory_grammar v.expansion) v.start_name.0 count)
      → HasStates own w count
  unfolding parsed_prepared
  states_prepared lr1 one_tree states count checked many fewest = record {
    parsed = parsed_prepared lr1 one_tree;
    states = states;
    checked = subst (λ s. AreCheckedStates (theory_grammar v.expansion) s states) name checked;
    count_is = many;
    fewest = λ lalr1.
        subst (λ s. IsLeastStateCount (theory_grammar v.expansion) s count) name
        (fewest (subst (IsLalr1 (Contains (theory_grammar v.expansion))) (sym name) lalr1));
  }

  pub count_prepared : (lr1 : IsLr1 (Contains (theory_grammar v.expansion)) v.start_name.0) (one_tree : HasOneTreeEach v) (count : ℕ)
      → CountsItemSets (Contains (theory_grammar v.expansion)) v.start_name.0 count → IsRightStateCount own w count
  unfolding parsed_prepared
  count_prepared lr1 one_tree count counted = record {
    parsed = parsed_prepared lr1 one_tree;
    counted = subst (λ s. CountsItemSets (Contains (theory_grammar v.expansion)) s count) name counted;
  }

  -- its productions are numbered in the order of their labels
  ordered : AreToldInOrder (enabled_grammar finds v.session.features.items (grammar_view v.written)) v.written.prefix
      v.expansion.action_fn_defns v.origins (theory_grammar v.expansion)
  ordered = prepared_in_order finds is_too_deep v p

  pub expansion_prepared : HasItsTerminals v.expansion
      → IsStrictlySortedBy (terminal_order.ghosts).cmp v.expansion.terminals.all → IsReportedExpansion own w v.expansion
  expansion_prepared terminals ascending = record {
    productions = record {
      expansion = ordered.told.expansion;
      order = ordered.order;
      is_order = ordered.is_order;
      in_order = ordered.in_order;
    };
    naming = ordered.naming;
    terminals = terminals;
    ascending = ascending;
  }

  -- an unfolded tree is the written tree of what was unfolded
  tree_told : (ts : SpannedForest) (t : Tree) → IsUnfolded v ts t → t ≡ written_of_forest ordered.told.expansion.label_of ts
  tree_told ts t h = sym ((h.expands ordered.told).is_forest.stands ∙ h.shown)

  conflict_told : (c : ShownConflict) (it : WrittenConflict) → IsWrittenConflict v c it
      → conflict_view it ≡ told_of ordered.told.expansion.label_of c
  conflict_told c it h =
      let kind1 = kinds_same c.move1 it.move1 h.kind1 in
      let tree1 = tree_told c.tree1 (tree_view it.tree1) h.tree1 in
      let kind2 = kinds_same c.move2 it.move2 h.kind2 in
      let tree2 = tree_told c.tree2 (tree_view it.tree2) h.tree2 in
      let shared = h.shared in
      let next = h.next in
      cc

  module _ (certificates : List Certificate) (shown : List WrittenConflict) (has : HasConflicts v certificates)
      (are : AreWrittenConflicts v certificates shown) (read : IsReadGrammar w) (terminals : HasItsTerminals v.expansion)
      (ascending : IsStrictlySortedBy (terminal_order.ghosts).cmp v.expansion.terminals.all)
      (parsed : MayBeParsedFrom v.expansion v.start_name) where
    pub conflicting_prepared : IsConflicting own w (map conflict_view shown)
    conflicting_prepared = record {
      faultless = faultless_prepared;
      grammar = theory_grammar v.expansion;
      productions = record {
        expansion = ordered.told.expansion;
        order = ordered.order;
        is_order = ordered.is_order;
        in_order = ordered.in_order;
      };
      naming = ordered.naming;
      no_lr1 = λ h. has.no_lr1 (subst (IsLr1 (Contains (theory_grammar v.expansion))) (sym name) h);
      told_are = subst (λ s. AreToldOf (Contains (theory_grammar v.expansion)) s ordered.told.expansion.label_of (map conflict_view shown)) name
          (all_told v ordered.told conflict_told certificates shown has are read terminals ascending parsed has.shifts);
    }
