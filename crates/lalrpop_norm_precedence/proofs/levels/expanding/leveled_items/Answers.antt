use Rattle.std.proofs.Common.{◌≡◌, ◌++◌, [], ap, subst, sym, ◌∙◌, map, arith, rules}
use Rattle.std.proofs.lemmas.Grind.{common_steps}
use Rattle.std.proofs.lemmas.List.{append-nil}
use Rattle.std.specs.Prelude.{flat_map}
use Rattle.std.specs.Vec.Iter.{into_iter_items}
use Rattle.lalrpop_grammar.specs.Views.{item_view}
use Rattle.lalrpop_grammar.specs.WrittenGrammar.{rules_of}
use Rattle.lalrpop_norm_theory.specs.LeveledGrammar.{leveled_item}
use Rattle.lalrpop_norm_precedence.specs.LevelTables.{AreNamedLevels}
use Rattle.lalrpop_norm_precedence.proofs.PutLemmas.{puts_on}
use Rattle.lalrpop_norm_precedence.proofs.levels.expanding.leveled_items.Goals as goal

pub loop-item-init : goal.loop-item-init
loop-item-init c = λ f named.
    let it = c.into_iter-item-iterator.result in
    let same = c.into_iter-item-iterator.ensures.into_iter_gives.0 ∙ c.into_vec-item-items.ensures in (
      ap (λ l. map item_view l ++ flat_map (leveled_item f) (map item_view (into_iter_items it))) c.new-made.ensures
          ∙ ap (λ l. flat_map (leveled_item f) (map item_view l)) same,
      subst (λ l. AreNamedLevels f (rules_of (map item_view l)) c.args.tables.now) (sym same) named,
    )

pub loop-item-preserved : goal.loop-item-preserved
loop-item-preserved c = λ f named.
    puts_on f (item_view c.in-Some.item) (map item_view (into_iter_items c.next.new.self))
    (map item_view (into_iter_items c.loop-item.item-iterator)) (flat_map (leveled_item f) (map item_view c.args.items))
    c.loop-item.left.now c.in_ok-left.left.now (map item_view c.loop-item.made) (map item_view c.put_item.new.items)
    (ap (map item_view) c.in-Some.ensures.steps.0) c.in_ok-left.ensures (c.loop-item.invariant f named)

pub returns : goal.returns
returns c = λ f named.
    let none : into_iter_items c.loop-item.item-iterator ≡ [] = first_of (search rules, grind (arith, common_steps)) in
    sym (append-nil (map item_view c.loop-item.made))
    ∙ ap (λ l. map item_view c.loop-item.made ++ flat_map (leveled_item f) (map item_view l)) (sym none)
    ∙ (c.loop-item.invariant f named).0
