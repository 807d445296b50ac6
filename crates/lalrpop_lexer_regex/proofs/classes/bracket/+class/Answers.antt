use Rattle.std.proofs.Common.{◌≡◌, ◌-◌, ◌==◌, ◌&&◌, not, false, Ok, ap, ◌∙◌, arith}
use Rattle.std.proofs.lemmas.Result.{err_from_is_err_and}
use Rattle.std.proofs.lemmas.Bool.Decides.{nat_tests}
use Rattle.lalrpop_lexer_regex.specs.SetEscapes.{finished_set}
use Rattle.lalrpop_lexer_regex.specs.Classes.{class_item_at}
use Rattle.lalrpop_lexer_regex.proofs.ClassLemmas.{class_at-none, class_at-more, class_is, class_fails, items_end, items_more, items_fail}
use Rattle.lalrpop_lexer_regex.proofs.ClassLemmas.{items_none}
use Rattle.lalrpop_lexer_regex.proofs.classes.bracket.+class.Goals as goal
use Rattle.lalrpop_lexer_regex.proofs.classes.bracket.+class.Goals.{items-else-character-eq93-via-then-character-eq93+else-not-is_first}
use Rattle.lalrpop_lexer_regex.proofs.classes.bracket.+class.Goals.{items-else-character-eq93-via-else-character-eq93}

pub class-returns-then-depth-eq0-clause-gives : goal.class-returns-then-depth-eq0-clause-gives
class-returns-then-depth-eq0-clause-gives t c = class_at-none c.args.depth c.args.fold c.args.left c.args.text.now c.if-depth-eq0.true

pub class-returns-in_err-items-clause-gives : goal.class-returns-in_err-items-clause-gives
class-returns-in_err-items-clause-gives t c =
    let p = err_from_is_err_and c.from_residual.result c.from_residual.ensures.1 in
    rw (p.1, p.2, class_at-more c.args.depth c.args.fold c.args.left c.args.text.now (omega arith))
    (class_fails (class_item_at (c.args.depth - 1) c.args.fold) c.args.fold c.args.text.now _ _ c.in_err-items.field-0.0
    c.caret-negated.ensures.value c.in_err-items.ensures.gives)

pub class-returns-clause-gives : goal.class-returns-clause-gives
class-returns-clause-gives t c =
    let same : finished_set c.args.fold c.caret-negated.result.0 c.in_ok-items.items.ranges.items ≡ c.in_ok-set.set.ranges.items =
    cc (c.in_ok-set.ensures) in
    class_at-more c.args.depth c.args.fold c.args.left c.args.text.now (omega arith)
    ∙ class_is (class_item_at (c.args.depth - 1) c.args.fold) c.args.fold c.args.text.now _ c.in_ok-items.rest.now _
    c.in_ok-items.items.ranges.items c.caret-negated.ensures.value c.in_ok-items.ensures.gives
    ∙ ap (λ s. Ok (s, c.in_ok-items.rest.now)) same

pub items-returns-then-not-is_first-clause-gives : goal.items-returns-then-not-is_first-clause-gives
items-returns-then-not-is_first-clause-gives t c =
    rw c.in_ok-set.ensures
    (items_end (class_item_at c.args.depth c.args.fold) c.args.text.now c.loop-character.rest.now c.in-Some.more.now c.in-Some.character
    c.loop-character.is_first c.loop-character.items
    c.in-Some.ensures c.loop-character.invariant (grind (arith, nat_tests)))

pub items-returns-in_err-item-clause-gives : goal.items-returns-in_err-item-clause-gives
items-returns-in_err-item-clause-gives t c =
    let p = err_from_is_err_and c.from_residual-in_err-item.result c.from_residual-in_err-item.ensures.1 in
    let go : ((c.in-Some.character == 93) && not c.loop-character.is_first) ≡ false = elim c.else-character-eq93.branch [
      | items-else-character-eq93-via-then-character-eq93+else-not-is_first w ↦ grind (arith, nat_tests)
      | items-else-character-eq93-via-else-character-eq93 w ↦ grind (arith, nat_tests)
    ] in
    rw (p.1, p.2)
    (items_fail (class_item_at c.args.depth c.args.fold) c.args.text.now c.loop-character.rest.now c.in-Some.more.now c.in-Some.character
    c.loop-character.is_first c.loop-character.items
    c.in-Some.ensures c.loop-character.invariant c.in_err-item.field-0.0 go c.in_err-item.ensures.gives)

pub items-loop-character-preserved : goal.items-loop-character-preserved
items-loop-character-preserved t c =
    let go : ((c.in-Some.character == 93) && not c.loop-character.is_first) ≡ false = elim c.else-character-eq93.branch [
      | items-else-character-eq93-via-then-character-eq93+else-not-is_first w ↦ grind (arith, nat_tests)
      | items-else-character-eq93-via-else-character-eq93 w ↦ grind (arith, nat_tests)
    ] in
    rw c.in_ok-items.ensures
    (items_more (class_item_at c.args.depth c.args.fold) c.args.text.now c.loop-character.rest.now c.in-Some.more.now c.in-Some.character
    c.loop-character.is_first c.loop-character.items
    c.in-Some.ensures c.loop-character.invariant c.in_ok-item.item.ranges.items c.in_ok-item.following.now go c.in_ok-item.ensures.gives
    c.in_ok-item.ensures.shorter)

pub items-returns-clause-gives : goal.items-returns-clause-gives
items-returns-clause-gives t c =
    rw c.syntax.ensures
    (items_none (class_item_at c.args.depth c.args.fold) c.args.text.now c.loop-character.rest.now c.loop-character.is_first
    c.loop-character.items c.loop-character.invariant c.in_default.ensures)
