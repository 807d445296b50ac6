use Rattle.std.proofs.Common.{◌≡◌, ◌∙◌, ◌++◌, map, ap, sym, refl, subst, true, false}
use Rattle.lalrpop_lr1_least_trees.specs.NumberedTrees.{rule_view}
use Rattle.lalrpop_lr1_least_trees.specs.DerivedRules.{AreNames, IsEmptyOf, empty_symbol}
use Rattle.lalrpop_lr1_least_trees.proofs.PushLemmas.{adds_empty, adds_exact, adds_none}
use Rattle.lalrpop_lr1_least_trees.proofs.begin_trees.derived.Derived.push_empty.Goals as goal

pub returns-then-not-are_names : goal.returns-then-not-are_names
returns-then-not-are_names c =
    adds_none c.args.number (IsEmptyOf c.args.names (rule_view c.args.rule.now)) c.args.self.now
    (λ p d t.
    let e = c.are_names.ensures.1 (subst (AreNames c.args.names) (sym c.as_slice.ensures.value) t.0) in
    let f = c.if-not-are_names.true in
    let both : true ≡ false = sym e ∙ f in
    let w : ⊥ = cc in w)

pub returns : goal.returns
returns c =
    adds_empty c.args.names c.args.number (rule_view c.args.rule.now) c.args.self.now c.push.new.self
    (subst (AreNames c.args.names) c.as_slice.ensures.value (c.are_names.ensures.0 c.if-not-are_names.false))
    (adds_exact c.args.number 0 _ _ _ c.args.self.now c.push.new.self c.requires c.in_ok-push.ensures refl refl
    (ap (λ l. record { left = l; right = c.add_empty.new.side.items }) c.in_ok-left.ensures
    ∙ ap (λ l. record { left = empty_symbol c.args.names c.args.rule.now.left; right = l })
    (c.in_ok-add_empty.ensures
    ∙ ap (λ l. l ++ map (empty_symbol c.args.names) c.as_slice-2.result.now) c.new-right.ensures.items
    ∙ ap (map (empty_symbol c.args.names)) c.as_slice-2.ensures.value)))
