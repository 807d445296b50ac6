use Rattle.std.proofs.Common.{append-nil, ◌≡◌, ◌∙◌, ◌∷◌, [], ◌++◌, ◌<◌, ap, get_or, length, refl, rules}
use Rattle.std.proofs.Common.{sym, take}
use Rattle.lalrpop_lr1_first.specs.ClosureTables.{started_items, started_with}
use Rattle.lalrpop_lr1_first.specs.declared.place.NumberedRule.{NumberedRule}
use Rattle.lalrpop_lr1_first.proofs.FlowLemmas.{at_none}
use Rattle.lalrpop_lr1_first.proofs.ListLemmas.{read_slice}
use Rattle.lalrpop_lr1_first.proofs.SeedLemmas.{started_more}
use Rattle.lalrpop_lr1_first.proofs.closure.start_items.Goals.{in-None, in-Some+in_ok-try_clone-in-Some+in_ok-push-in-Some}
use Rattle.lalrpop_lr1_first.proofs.closure.start_items.Goals as goal

pub loop-rule-preserved : goal.loop-rule-preserved
loop-rule-preserved g c =
    let slots = c.args.slots.now in
    let rules_are = c.args.rules.now in
    let i = c.loop-rule.rule-index in
    let rule : NumberedRule = get_or rules_are i (record { left = 0; start = 0 }) in
    let there = read_slice rules_are rules_are i (record { left = 0; start = 0 }) c.loop-rule-test.true refl in
    let inside : rule.left < length slots = c.requires i rule there in
    let front = started_items slots (take i rules_are) in
    let read = at_none slots rule.left c.index-slots-rule.result inside c.index-slots-rule.is in
    elim c.match-slots-rule.branch [
      | in-None w ↦ rw w.items-is (c.loop-rule.invariant ∙ sym (append-nil front)
          ∙ ap (λ o. front ++ started_with rule.start o) (sym (read ∙ w.in-None.is))
          ∙ sym (started_more slots rules_are i rule there))
      | in-Some+in_ok-try_clone-in-Some+in_ok-push-in-Some w ↦
          let pushed : w.push.new.self.items ≡ c.loop-rule.items.items ++ (rule.start, w.in_ok-try_clone-in-Some.field-0) ∷ [] =
          search rules in
          rw w.items-is (pushed ∙ ap (λ l. c.loop-rule.items.items ++ (rule.start, l) ∷ []) w.in_ok-try_clone-in-Some.ensures
          ∙ ap (λ l. l ++ (rule.start, w.in-Some.lookahead) ∷ []) c.loop-rule.invariant
          ∙ ap (λ o. front ++ started_with rule.start o) (sym (read ∙ w.in-Some.is))
          ∙ sym (started_more slots rules_are i rule there))
    ]
