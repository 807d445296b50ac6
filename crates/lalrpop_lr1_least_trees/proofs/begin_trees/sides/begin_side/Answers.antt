use Rattle.std.proofs.Common.{◌∙◌, ◌+◌, ◌-◌, ◌++◌, ap, arith, drop, length, length-drop, map, take}
use Rattle.std.proofs.lemmas.List.{take_all}
use Rattle.lalrpop_lr1_least_trees.specs.DerivedRules.{empty_symbol, whole_symbol}
use Rattle.lalrpop_lr1_least_trees.proofs.PushLemmas.{side_made}
use Rattle.lalrpop_lr1_least_trees.proofs.begin_trees.sides.begin_side.Goals as goal

pub returns : goal.returns
returns c =
    let xs = c.args.symbols.now in
    let place = c.args.place in
    let front = map (empty_symbol c.args.names) (take place xs) in
    let back = take_all (length xs - (place + 1)) (drop (place + 1) xs) (omega (arith, length-drop (place + 1) xs)) in
    side_made c.args.names place c.in_ok-begin_symbol.field-0 xs c.add_empty.new.side.items c.push.new.self.items
    c.add_whole.new.side.items (c.in_ok-add_empty.ensures ∙ ap (λ l. l ++ front) c.new-side.ensures.items) c.in_ok-push.ensures.items
    c.in_ok-begin_symbol.ensures
    (c.in_ok-add_whole.ensures ∙ ap (λ l. c.push.new.self.items ++ map (whole_symbol c.args.names) l) back)
