use Rattle.std.proofs.Common.{append-nil, ◌≡◌, ◌∙◌, ◌∷◌, [], ◌++◌, ap, get_or, rules, sym, take}
use Rattle.std.specs.List.{cons_option}
use Rattle.std.specs.Prelude.{filter_map}
use Rattle.lalrpop_lr1_first.specs.ClosureTables.{edge_of_rule}
use Rattle.lalrpop_lr1_first.specs.declared.place.NumberedRule.{NumberedRule}
use Rattle.lalrpop_lr1_first.proofs.ListLemmas.{read_slice}
use Rattle.lalrpop_lr1_first.proofs.SeedLemmas.{edges_more}
use Rattle.lalrpop_lr1_first.proofs.closure.rule_edges.Goals.{in-None, in-Some+in_ok-push-in-Some}
use Rattle.lalrpop_lr1_first.proofs.closure.rule_edges.Goals as goal

pub loop-rule-preserved : goal.loop-rule-preserved
loop-rule-preserved c =
    let t = c.args.table.now in
    let i = c.loop-rule.rule-index in
    let rule : NumberedRule = get_or c.as_slice-rule-items.result.now i (record { left = 0; start = 0 }) in
    let there = read_slice c.as_slice-rule-items.result.now t.rules.items i (record { left = 0; start = 0 }) c.loop-rule-test.true
    c.as_slice-rule-items.ensures.value in
    let front = filter_map (edge_of_rule t) (take i t.rules.items) in
    elim c.match-rule_edge.branch [
      | in-None w ↦ rw w.edges-is (c.loop-rule.invariant ∙ sym (append-nil front)
          ∙ ap (λ o. front ++ cons_option o []) (sym (sym c.rule_edge.ensures ∙ w.in-None.is))
          ∙ sym (edges_more (edge_of_rule t) t.rules.items i rule there))
      | in-Some+in_ok-push-in-Some w ↦
          let pushed : w.push.new.self.items ≡ c.loop-rule.edges.items ++ w.in-Some.edge ∷ [] = search rules in
          rw w.edges-is (pushed ∙ ap (λ l. l ++ w.in-Some.edge ∷ []) c.loop-rule.invariant
          ∙ ap (λ o. front ++ cons_option o []) (sym (sym c.rule_edge.ensures ∙ w.in-Some.is))
          ∙ sym (edges_more (edge_of_rule t) t.rules.items i rule there))
    ]
