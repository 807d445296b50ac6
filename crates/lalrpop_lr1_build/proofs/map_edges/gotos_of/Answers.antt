use Rattle.std.proofs.Common.{◌≡◌, ◌∙◌, ◌+◌, ◌≤◌, ℕ, Some, ap, arith, get_or}
use Rattle.std.proofs.Common.{length, refl, slice_get, subst, sym, take}
use Rattle.std.specs.BTreeMap.{insert_entry}
use Rattle.lalrpop_grammar_symbols.specs.contracts.names.NonterminalStringOrd.TheImpl as names_order
use Rattle.lalrpop_lr1_core.specs.declared.state_index.StateIndex.{StateIndex}
use Rattle.lalrpop_lr1_first.specs.NumberedGrammars.{table_names}
use Rattle.lalrpop_lr1_first.proofs.ListLemmas.{get_slice, read_slice}
use Rattle.lalrpop_lr1_first.proofs.TableLemmas.{get_mapped, long_map}
use Rattle.lalrpop_lr1_build.specs.PublicStates.{AreGotos}
use Rattle.lalrpop_lr1_build.proofs.EntryLemmas.{taken_all, taken_ascend}
use Rattle.lalrpop_lr1_build.proofs.ListLemmas.{take_get}
use Rattle.lalrpop_lr1_build.proofs.MapEdgeLemmas.{gotos_less, gotos_more}
use Rattle.lalrpop_lr1_build.proofs.map_edges.gotos_of.Goals.{else-edge-names, then-edge-names+in_ok-try_clone+in_ok-insert}
use Rattle.lalrpop_lr1_build.proofs.map_edges.gotos_of.Goals as goal

pub loop-edge-preserved : goal.loop-edge-preserved
loop-edge-preserved c =
    let table = c.args.table.now in
    let names = table_names table in
    let edges = c.args.edges.now in
    let i = c.loop-edge.edge-index in
    let edge : ℕ × ℕ = get_or edges i (0, 0) in
    let at = read_slice edges edges i (0, 0) c.loop-edge-test.true refl in
    let more = take_get edges i edge at in
    let ascending = taken_ascend edges i edge at c.requires.ascending in
    let sorted = c.requires.table.names in
    elim c.if-edge-names.branch [
      | then-edge-names+in_ok-try_clone+in_ok-insert w ↦
          let name = w.index-names-edge.result in
          let n = w.in_ok-try_clone.field-0 in
          let read = get_slice c.names-names.result.now edge.0 name w.if-edge-names.true w.index-names-edge.is in
          let listed : slice_get names edge.0 ≡ Some n =
          get_mapped (λ b. b.now) table.names.items edge.0 name (ap (λ l. slice_get l edge.0) (sym c.names-names.ensures) ∙ read)
          ∙ ap Some (sym w.in_ok-try_clone.ensures) in
          let index : StateIndex = record { 0 = edge.1 } in
          subst (λ gs. AreGotos names (take (i + 1) edges) gs) (sym w.gotos-is)
          (subst (λ gs. AreGotos names (take (i + 1) edges) gs) (sym w.in_ok-insert.ensures.ok)
          (subst (λ es. AreGotos names es (insert_entry (names_order.ghosts).cmp c.loop-edge.gotos n index)) (sym more)
          (gotos_more names sorted (take i edges) c.loop-edge.gotos c.loop-edge.invariant edge.0 edge.1 ascending n listed)))
      | else-edge-names w ↦
          let past : length names ≤ edge.0 =
          omega (arith, w.if-edge-names.false, long_map (λ b. b.now) table.names.items, ap length c.names-names.ensures) in
          subst (λ gs. AreGotos names (take (i + 1) edges) gs) (sym w.gotos-is)
          (subst (λ es. AreGotos names es c.loop-edge.gotos) (sym more)
          (gotos_less names sorted (take i edges) c.loop-edge.gotos c.loop-edge.invariant edge.0 edge.1 ascending past))
    ]

pub returns : goal.returns
returns c =
    subst (λ es. AreGotos (table_names c.args.table.now) es c.loop-edge.gotos)
    (taken_all c.args.edges.now c.loop-edge.edge-index c.loop-edge-test.false) c.loop-edge.invariant
