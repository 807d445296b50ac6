use Rattle.std.proofs.Common.{◌<◌, ◌≤◌, arith, get_or, inl, length, subst, take}
use Rattle.lalrpop_lr1_least_trees.specs.NumberedTrees.{rule_view}
use Rattle.lalrpop_lr1_least_trees.specs.DerivedRules.{AreNames}
use Rattle.lalrpop_lr1_least_trees.proofs.PushLemmas.{begins_all, begins_last, begins_more, begins_none, names_more, none_past}
use Rattle.lalrpop_lr1_least_trees.proofs.begin_trees.derived.Derived.push_begins.Goals as goal

pub loop-place-init : goal.loop-place-init
loop-place-init c = record {
  adds = begins_none c.args.names c.args.wanted c.args.number (rule_view c.args.rule.now) c.args.self.now;
  names = λ s d. absurd (omega (arith, d.1));
}

pub returns-then-symbol-names : goal.returns-then-symbol-names
returns-then-symbol-names c =
    let xs = c.args.rule.now.right.items in
    let i = c.loop-place.place in
    let same = c.as_slice-right.ensures.value in
    begins_last c.args.names c.args.wanted c.args.number (rule_view c.args.rule.now) i c.args.self.now c.loop-place.self
    c.push_wanted.new.self
    (subst (λ l. i < length l) same c.loop-place-test.true) (subst (λ l. c.args.names ≤ get_or l i 0) same c.if-symbol-names.true)
    (subst (λ l. AreNames c.args.names (take i l)) same c.loop-place.invariant.names) c.loop-place.invariant.adds
    c.in_ok-push_wanted.ensures

pub loop-place-preserved : goal.loop-place-preserved
loop-place-preserved c =
    let xs = c.as_slice-right.result.now in
    let i = c.loop-place.place in
    let same = c.as_slice-right.ensures.value in
    let here : get_or xs i 0 < c.args.names = omega (arith, c.if-symbol-names.false) in
    record {
      adds = begins_more c.args.names c.args.wanted c.args.number (rule_view c.args.rule.now) i c.args.self.now c.loop-place.self
          c.push_begin.new.self c.loop-place.invariant.adds c.in_ok-push_begin.ensures (record {
            within = subst (λ l. i < length l) same c.loop-place-test.true;
            front = subst (λ l. AreNames c.args.names (take i l)) same c.loop-place.invariant.names;
            here = inl (subst (λ l. get_or l i 0 < c.args.names) same here);
          });
      names = names_more c.args.names xs i c.loop-place-test.true c.loop-place.invariant.names here;
    }

pub returns : goal.returns
returns c =
    let rule = rule_view c.args.rule.now in
    let past = subst (λ l. length l ≤ c.loop-place.place) c.as_slice-right.ensures.value c.loop-place-test.false in
    begins_all c.args.names c.args.wanted c.args.number rule c.loop-place.place c.args.self.now c.loop-place.self
    (none_past c.args.names c.args.wanted c.args.number rule c.loop-place.place past) c.loop-place.invariant.adds
