use Rattle.std.proofs.Common.{◌<◌, [], None, length, get_or, refl, sym, ap, ◌∙◌}
use Rattle.std.specs.Str.Iter.{chars_rest}
use Rattle.std.proofs.lemmas.Option.{slice_get-get_or}
use Rattle.lalrpop_lexer.proofs.WalkLemmas.{walk_start, walk_over, walk_on, walk_found, accepts_none, barren_dead, barren_end, barren_at}
use Rattle.lalrpop_lexer.proofs.DeadEndLemmas.{end_found}
use Rattle.lalrpop_lexer.proofs.walk.walk_along.Goals as goal

pub loop-c-init : goal.loop-c-init
loop-c-init c =
    let nodes = c.args.dfa.now in
    let some : 0 < length nodes = c.requires.some in
    record {
      inside = some;
      walking = rw c.chars-left.ensures.rest
          (walk_start nodes c.args.text.now (get_or nodes 0 (None, [])) _ c.utf8.text (slice_get-get_or nodes 0 (None, []) some) some
          refl refl refl);
    }

pub returns : goal.returns
returns c =
    let nodes = c.args.dfa.now in
    walk_over nodes c.args.text.now (chars_rest c.loop-c.left) (get_or nodes c.loop-c.state (None, [])) c.loop-c.walk
    c.loop-c.invariant.walking (barren_end nodes (chars_rest c.loop-c.left) _ c.in_default.ensures.steps.0.0)

pub returns-in_default-next_state : goal.returns-in_default-next_state
returns-in_default-next_state c =
    let nodes = c.args.dfa.now in
    let before = c.loop-c.invariant.walking in
    let node = get_or nodes c.loop-c.state (None, []) in
    walk_over nodes c.args.text.now (chars_rest c.loop-c.left) node c.loop-c.walk before
    (barren_dead nodes (chars_rest c.loop-c.left) (chars_rest c.next.new.self) c.in-Some.c node before.read.rest_utf8
    c.in-Some.ensures.steps.0 (sym c.in_default-next_state.ensures.leads))

pub loop-c-preserved-then-is_some : goal.loop-c-preserved-then-is_some
loop-c-preserved-then-is_some c =
    let nodes = c.args.dfa.now in
    let next = c.in-Some-next_state.next in
    let inside = c.in-Some-next_state.ensures.inside in
    let at = slice_get-get_or nodes next (None, []) inside in
    record {
      inside = inside;
      walking = walk_found nodes c.args.text.now (chars_rest c.loop-c.left) (chars_rest c.next.new.self) c.in-Some.c
          (get_or nodes c.loop-c.state (None, [])) (get_or nodes next (None, [])) c.loop-c.walk c.in-Some.ensures.steps.0
          (sym c.in-Some-next_state.ensures.leads ∙ at) c.loop-c.invariant.walking _ c.pattern_at-pattern.ensures
          (sym c.is_some.ensures ∙ c.if-is_some.true) at inside c.as_str-rest.ensures;
    }

pub loop-c-preserved : goal.loop-c-preserved
loop-c-preserved c =
    let nodes = c.args.dfa.now in
    let next = c.in-Some-next_state.next in
    let inside = c.in-Some-next_state.ensures.inside in
    let at = slice_get-get_or nodes next (None, []) inside in
    record {
      inside = inside;
      walking = walk_on nodes c.args.text.now (chars_rest c.loop-c.left) (chars_rest c.next.new.self) c.in-Some.c
          (get_or nodes c.loop-c.state (None, [])) (get_or nodes next (None, [])) c.loop-c.walk c.in-Some.ensures.steps.0
          (sym c.in-Some-next_state.ensures.leads ∙ at) c.loop-c.invariant.walking
          (accepts_none _ _ (sym c.is_some.ensures ∙ c.if-is_some.false) c.pattern_at-pattern.ensures);
    }

pub returns-then-is_dead_end : goal.returns-then-is_dead_end
returns-then-is_dead_end c =
    let nodes = c.args.dfa.now in
    let next = c.in-Some-next_state.next in
    let at = slice_get-get_or nodes next (None, []) c.in-Some-next_state.ensures.inside in
    let text = c.args.text.now in
    let rest = chars_rest c.next.new.self in
    let node = get_or nodes next (None, []) in
    let on = walk_on nodes text (chars_rest c.loop-c.left) rest c.in-Some.c
    (get_or nodes c.loop-c.state (None, [])) node c.loop-c.walk c.in-Some.ensures.steps.0
    (sym c.in-Some-next_state.ensures.leads ∙ at) c.loop-c.invariant.walking
    (accepts_none _ _ (sym c.is_some.ensures ∙ c.if-is_some.false) c.pattern_at-pattern.ensures) in
    walk_over nodes text rest node c.loop-c.walk on
    (barren_at nodes rest next node at
    (end_found nodes text on.read.front rest next _ on.read.is (ap length c.as_str-rest.ensures)
    (c.is_dead_end.ensures nodes text c.requires.known c.if-is_dead_end.true)))
