use Rattle.std.proofs.Common.{◌∙◌, ◌-◌, ◌+◌, [], ◌∷◌, ◌++◌, length, Some}
use Rattle.std.proofs.Common.{ap, subst, arith, refl, take}
use Rattle.std.proofs.lemmas.List.{length-map}
use Rattle.lalrpop_grammar_symbols.specs.Views.{terminal_view}
use Rattle.lalrpop_lr1_core.specs.Views.{production_view}
use Rattle.lalrpop_lr1_interpret.specs.Ends.{token_views}
use Rattle.lalrpop_lr1_interpret.specs.Stacks.{HasChildren}
use Rattle.lalrpop_lr1_interpret.specs.Tables.{IsActionBefore}
use Rattle.lalrpop_lr1_interpret.proofs.RunLemmas.{as_read, behind_there, done, enough, has_children, is_stuck, move_limit, not_both}
use Rattle.lalrpop_lr1_interpret.proofs.RunLemmas.{reduce_on, running_start, shift_on, state_there}
use Rattle.lalrpop_lr1_interpret.proofs.parse.machine.make_moves.Goals as goal
use Rattle.lalrpop_lr1_interpret.proofs.parse.machine.make_moves.Goals.{else-not-whole-via-else-not-whole}
use Rattle.lalrpop_lr1_interpret.proofs.parse.machine.make_moves.Goals.{else-not-whole-via-then-not-whole+else-at-tokens}

pub moves-init : goal.moves-init
moves-init g c = record {
  running = running_start c.args.table.now c.args.tokens.now c.args.limit c.args.whole (g.S.TreeStack.stands c.args.stack.now)
      c.args.numbers.now.items c.next_number-next.result c.requires.empty c.requires.first c.next_number-next.ensures;
  same = refl;
}

pub action_before-requires-clause-there : goal.action_before-requires-clause-there
action_before-requires-clause-there g c =
    state_there c.args.table.now c.args.tokens.now c.args.limit c.args.whole
    (g.S.TreeStack.stands c.moves.stack) c.moves.numbers.items c.moves.at
    c.moves.left c.moves.next c.moves.invariant.running c.index-state.result.now
    (as_read c.moves.numbers.items c.index-state.result.now (c.len.result - 1) c.index-state.ensures (omega arith)) c.requires.checked

pub returns-then-left-eq0-clause-ends : goal.returns-then-left-eq0-clause-ends
returns-then-left-eq0-clause-ends g c = λ grammar s states alone ok is.
    move_limit c.args.table.now c.args.tokens.now c.args.limit c.args.whole
    (g.S.TreeStack.stands c.moves.stack) c.moves.numbers.items c.moves.at
    c.moves.left c.moves.next c.moves.invariant.running c.index-state.result.now
    (as_read c.moves.numbers.items c.index-state.result.now (c.len.result - 1) c.index-state.ensures
    (omega arith)) c.requires.checked c.in-Some.action c.in-Some.ensures c.if-left-eq0.true states is

pub moves-preserved-in-Shift : goal.moves-preserved-in-Shift
moves-preserved-in-Shift g c = record {
  running = shift_on c.args.table.now c.args.tokens.now c.args.limit c.args.whole
      (g.S.TreeStack.stands c.moves.stack) c.moves.numbers.items c.moves.at
      c.moves.left c.moves.next c.moves.invariant.running c.index-state.result.now
      (as_read c.moves.numbers.items c.index-state.result.now (c.len.result - 1) c.index-state.ensures
      (omega arith)) c.in-Shift.target (c.moves.left - 1) (c.moves.at + 1)
      c.shift_token.new.numbers.items
      c.index-tokens-at.result c.next_number-next-in-Shift.result (g.S.TreeStack.stands c.shift_token.new.stack) (omega arith) (subst
      (IsActionBefore c.args.table.now c.index-state.result.now c.moves.next)
      (ap Some c.in-Shift.is) c.in-Some.ensures)
      (omega (arith, c.if-left-eq0.false)) c.index-tokens-at.is c.in_ok-shift_token-in-Shift.ensures.numbers
      c.in_ok-shift_token-in-Shift.ensures.leaf_stands
      c.next_number-next-in-Shift.ensures;
  same = c.in_ok-shift_token-in-Shift.ensures.same ∙ c.moves.invariant.same;
}

pub node-requires : goal.node-requires
node-requires g c κs =
    let k = has_children c.args.table.now c.args.tokens.now c.args.limit c.args.whole
    (g.S.TreeStack.stands c.moves.stack) c.moves.numbers.items c.moves.at
    c.moves.left c.moves.next c.moves.invariant.running c.index-state.result.now
    (as_read c.moves.numbers.items c.index-state.result.now (c.len.result - 1) c.index-state.ensures
    (omega arith)) c.requires.checked c.in-Reduce.by (subst (IsActionBefore c.args.table.now c.index-state.result.now c.moves.next)
    (ap Some c.in-Reduce.is) c.in-Some.ensures) in
    let made : HasChildren (g.S.TreeStack.stands c.moves.stack) (production_view c.in-Reduce.by.production.now) = record {
      kept = k.kept;
      children = k.children;
      tokens = take c.moves.at (token_views c.args.tokens.now);
      stands = subst (λ ts. g.S.TreeStack.stands c.moves.stack ts (take c.moves.at (token_views c.args.tokens.now))) k.stands
          c.moves.invariant.running.stands;
      roots_are = k.roots_are;
    } in ((refl, tt), made)

pub goto_under-requires-clause-fewer : goal.goto_under-requires-clause-fewer
goto_under-requires-clause-fewer g c =
    let k = has_children c.args.table.now c.args.tokens.now c.args.limit c.args.whole
    (g.S.TreeStack.stands c.moves.stack) c.moves.numbers.items c.moves.at
    c.moves.left c.moves.next c.moves.invariant.running c.index-state.result.now
    (as_read c.moves.numbers.items c.index-state.result.now (c.len.result - 1) c.index-state.ensures
    (omega arith)) c.requires.checked c.in-Reduce.by (subst (IsActionBefore c.args.table.now c.index-state.result.now c.moves.next)
    (ap Some c.in-Reduce.is) c.in-Some.ensures) in
    enough c.args.table.now c.args.tokens.now c.args.limit c.args.whole
    (g.S.TreeStack.stands c.moves.stack) c.moves.numbers.items c.moves.at
    c.moves.left c.moves.next c.moves.invariant.running c.index-state.result.now
    (as_read c.moves.numbers.items c.index-state.result.now (c.len.result - 1) c.index-state.ensures
    (omega arith)) c.requires.checked c.in-Reduce.by (subst (IsActionBefore c.args.table.now c.index-state.result.now c.moves.next)
    (ap Some c.in-Reduce.is) c.in-Some.ensures) k.kept k.children k.stands k.roots_are

pub goto_under-requires-clause-there : goal.goto_under-requires-clause-there
goto_under-requires-clause-there g c = λ n read.
    let k = has_children c.args.table.now c.args.tokens.now c.args.limit c.args.whole
    (g.S.TreeStack.stands c.moves.stack) c.moves.numbers.items c.moves.at
    c.moves.left c.moves.next c.moves.invariant.running c.index-state.result.now
    (as_read c.moves.numbers.items c.index-state.result.now (c.len.result - 1) c.index-state.ensures
    (omega arith)) c.requires.checked c.in-Reduce.by (subst (IsActionBefore c.args.table.now c.index-state.result.now c.moves.next)
    (ap Some c.in-Reduce.is) c.in-Some.ensures) in
    behind_there c.args.table.now c.args.tokens.now c.args.limit c.args.whole
    (g.S.TreeStack.stands c.moves.stack) c.moves.numbers.items c.moves.at
    c.moves.left c.moves.next c.moves.invariant.running c.index-state.result.now
    (as_read c.moves.numbers.items c.index-state.result.now (c.len.result - 1) c.index-state.ensures
    (omega arith)) c.requires.checked c.in-Reduce.by (subst (IsActionBefore c.args.table.now c.index-state.result.now c.moves.next)
    (ap Some c.in-Reduce.is) c.in-Some.ensures) k.kept k.children k.stands k.roots_are
    (length c.moves.numbers.items - c.in-Reduce.by.length) n refl read

pub moves-preserved : goal.moves-preserved
moves-preserved g c =
    let k = has_children c.args.table.now c.args.tokens.now c.args.limit c.args.whole
    (g.S.TreeStack.stands c.moves.stack) c.moves.numbers.items c.moves.at
    c.moves.left c.moves.next c.moves.invariant.running c.index-state.result.now
    (as_read c.moves.numbers.items c.index-state.result.now (c.len.result - 1) c.index-state.ensures
    (omega arith)) c.requires.checked c.in-Reduce.by (subst (IsActionBefore c.args.table.now c.index-state.result.now c.moves.next)
    (ap Some c.in-Reduce.is) c.in-Some.ensures) in
    let under = c.in-Some-goto_under.ensures.found in
    record {
      running = reduce_on c.args.table.now c.args.tokens.now c.args.limit c.args.whole
          (g.S.TreeStack.stands c.moves.stack) c.moves.numbers.items c.moves.at
          c.moves.left c.moves.next c.moves.invariant.running c.index-state.result.now
          (as_read c.moves.numbers.items c.index-state.result.now (c.len.result - 1) c.index-state.ensures
          (omega arith)) c.requires.checked c.in-Reduce.by
          (subst (IsActionBefore c.args.table.now c.index-state.result.now c.moves.next)
          (ap Some c.in-Reduce.is) c.in-Some.ensures) k.kept k.children k.stands k.roots_are
          (length c.moves.numbers.items - c.in-Reduce.by.length) under.0 c.in-Some-goto_under.target (c.moves.left - 1)
          c.push_number.new.numbers.items
          (g.S.TreeStack.stands c.node.new.self) (omega (arith, c.if-left-eq0.false)) refl under.1 under.2
          (c.in_ok-push_number-in-Some-goto_under.ensures ∙ ap (λ l. l ++ c.in-Some-goto_under.target ∷ []) c.goto_under.ensures.left)
          (c.in_ok-node-in-Reduce.ensures.node_stands k.kept k.children (take c.moves.at (token_views c.args.tokens.now))
          (subst (λ ts. g.S.TreeStack.stands c.moves.stack ts (take c.moves.at (token_views c.args.tokens.now))) k.stands
          c.moves.invariant.running.stands) k.roots_are)
          (elim c.else-not-whole.branch [
            | else-not-whole-via-then-not-whole+else-at-tokens w ↦ λ partly ended. w.if-at-tokens.false ended
            | else-not-whole-via-else-not-whole w ↦ λ partly ended. not_both c.args.whole w.if-not-whole.false partly
          ]);
      same = c.in_ok-node-in-Reduce.ensures.same ∙ c.moves.invariant.same;
    }

pub returns-in-None-goto_under-clause-ends : goal.returns-in-None-goto_under-clause-ends
returns-in-None-goto_under-clause-ends g c = λ grammar s states alone ok is.
    let k = has_children c.args.table.now c.args.tokens.now c.args.limit c.args.whole
    (g.S.TreeStack.stands c.moves.stack) c.moves.numbers.items c.moves.at
    c.moves.left c.moves.next c.moves.invariant.running c.index-state.result.now
    (as_read c.moves.numbers.items c.index-state.result.now (c.len.result - 1) c.index-state.ensures
    (omega arith)) c.requires.checked c.in-Reduce.by (subst (IsActionBefore c.args.table.now c.index-state.result.now c.moves.next)
    (ap Some c.in-Reduce.is) c.in-Some.ensures) in
    let under = c.in-None-goto_under.ensures.none in
    done c.args.table.now c.args.tokens.now c.args.limit c.args.whole (g.S.TreeStack.stands c.moves.stack) c.moves.numbers.items c.moves.at
    c.moves.left c.moves.next c.moves.invariant.running c.index-state.result.now
    (as_read c.moves.numbers.items c.index-state.result.now (c.len.result - 1) c.index-state.ensures
    (omega arith)) c.requires.checked c.in-Reduce.by (subst (IsActionBefore c.args.table.now c.index-state.result.now c.moves.next)
    (ap Some c.in-Reduce.is) c.in-Some.ensures) k.kept k.children k.stands k.roots_are
    grammar s states ok is (length c.moves.numbers.items - c.in-Reduce.by.length) under.0 (c.moves.left - 1)
    c.goto_under.new.numbers.items
    (g.S.TreeStack.stands c.node.new.self) (omega (arith, c.if-left-eq0.false)) refl under.1 under.2
    (c.in_ok-node-in-Reduce.ensures.node_stands k.kept k.children (take c.moves.at (token_views c.args.tokens.now))
    (subst (λ ts. g.S.TreeStack.stands c.moves.stack ts (take c.moves.at (token_views c.args.tokens.now))) k.stands
    c.moves.invariant.running.stands) k.roots_are)
    (elim c.else-not-whole.branch [
      | else-not-whole-via-then-not-whole+else-at-tokens w ↦ λ partly ended. w.if-at-tokens.false ended
      | else-not-whole-via-else-not-whole w ↦ λ partly ended. not_both c.args.whole w.if-not-whole.false partly
    ])

pub returns-in-None-clause-ends : goal.returns-in-None-clause-ends
returns-in-None-clause-ends g c = λ grammar s states alone ok is.
    let stuck = is_stuck c.args.table.now c.args.tokens.now c.args.limit c.args.whole
    (g.S.TreeStack.stands c.moves.stack) c.moves.numbers.items c.moves.at
    c.moves.left c.moves.next c.moves.invariant.running c.index-state.result.now
    (as_read c.moves.numbers.items c.index-state.result.now (c.len.result - 1) c.index-state.ensures
    (omega arith)) c.in-None.ensures states is in (
      stuck,
      elim c.else-not-whole.branch [
        | else-not-whole-via-then-not-whole+else-at-tokens w ↦ λ partly.
            omega (arith, stuck.within, length-map c.args.tokens.now (λ t. terminal_view t.terminal), w.if-at-tokens.false)
        | else-not-whole-via-else-not-whole w ↦ λ partly. absurd (not_both c.args.whole w.if-not-whole.false partly)
      ],
    )
