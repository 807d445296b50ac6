use Rattle.std.proofs.Common.{◌≡◌, ◌∙◌, ◌↔◌, subst, sym, true, false}
use Rattle.lalrpop_grammar_repr.specs.declared.terminal_set.TerminalSet.{TerminalSet}
use Rattle.lalrpop_lr1_first.specs.NumberedGrammars.{IsSeenIn, table_productions}
use Rattle.lalrpop_lr1_check.specs.StatesOver.{PassByTable}
use Rattle.lalrpop_lr1_check.proofs.PassLemmas.{checked_edges, checked_propagated, checked_reductions, checked_table, passed_checked}
use Rattle.lalrpop_lr1_check.proofs.checking.check_states.Goals as goal

pub returns-then-not-reductions : goal.returns-then-not-reductions
returns-then-not-reductions c = λ over. (
  λ e. let w : ⊥ = cc in absurd w,
  λ h.
      let g = c.args.grammar.now in
      let both : true ≡ false = sym ((c.in_ok-reductions.ensures over).1
      (checked_reductions g g.terminals c.args.start.now.0 c.args.states.now h)) ∙ c.if-not-reductions.true in
      let w : ⊥ = cc in absurd w,
)

pub returns-then-not-along_edges : goal.returns-then-not-along_edges
returns-then-not-along_edges c = λ over. (
  λ e. let w : ⊥ = cc in absurd w,
  λ h.
      let g = c.args.grammar.now in
      let both : true ≡ false = sym (c.in_ok-along_edges.ensures.1
      (checked_edges g g.terminals c.args.start.now.0 c.args.states.now h)) ∙ c.if-not-along_edges.true in
      let w : ⊥ = cc in absurd w,
)

pub returns-then-not-by_table : goal.returns-then-not-by_table
returns-then-not-by_table c = λ over. (
  λ e. let w : ⊥ = cc in absurd w,
  λ h.
      let g = c.args.grammar.now in
      let t = c.in_ok-table.table in
      let s = c.args.start.now.0 in
      let says = subst (λ (ts : TerminalSet). (c.in_ok-by_table.by_table ≡ true)
      ↔ PassByTable (IsSeenIn (table_productions t)) ts s c.args.states.now) c.in_ok-table.ensures.terminals c.in_ok-by_table.ensures in
      let both : true ≡ false = sym (says.1 (checked_table g g.terminals s c.args.states.now (table_productions t)
      c.in_ok-table.ensures.productions h)) ∙ c.if-not-by_table.true in
      let w : ⊥ = cc in absurd w,
)

pub returns : goal.returns
returns c = λ over.
    let g = c.args.grammar.now in
    let t = c.in_ok-table.table in
    let s = c.args.start.now.0 in
    let all = c.args.states.now in
    let says = subst (λ (ts : TerminalSet). (c.in_ok-by_table.by_table ≡ true)
    ↔ PassByTable (IsSeenIn (table_productions t)) ts s all) c.in_ok-table.ensures.terminals c.in_ok-by_table.ensures in (
      λ e. passed_checked g g.terminals s all (table_productions t) c.in_ok-table.ensures.productions
          ((c.in_ok-reductions.ensures over).0 c.if-not-reductions.false) (c.in_ok-along_edges.ensures.0 c.if-not-along_edges.false)
          (says.0 c.if-not-by_table.false) ((c.in_ok-propagated.ensures over.items).0 e),
      λ h. (c.in_ok-propagated.ensures over.items).1 (checked_propagated g g.terminals s all h),
    )
