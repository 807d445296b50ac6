use Rattle.std.proofs.Common.{◌≡◌, ◌<◌, ◌∙◌, arith, length, get_or, None, sym, rules}
use Rattle.std.specs.Prelude.{replicate}
use Rattle.std.proofs.lemmas.List.{get_or_default, length-set}
use Rattle.std.proofs.lemmas.List.Elements.{All-get_or}
use Rattle.lalrpop_lexer.proofs.TargetLemmas.{start_is}
use Rattle.lalrpop_lexer.proofs.GroupLemmas.{known_at, marked_none, marked_known, marked_new, marked_all}
use Rattle.lalrpop_lexer.proofs.groups.marked_groups.Goals as goal
use Rattle.lalrpop_lexer.proofs.groups.marked_groups.Goals.{in-Some, in-None+in_ok-push-in-None}

pub loop-i-init : goal.loop-i-init
loop-i-init c = record {
  some = let none : c.in_ok-known.known.items ≡ replicate c.args.bound None =
      c.in_ok-known.ensures.items_if_clones_equal (λ y h. search rules) in
      rw (c.new.ensures.items, c.new-2.ensures.items) (marked_none c.args.pieces.now c.args.marks.now _ c.args.bound none);
  size = omega (arith, c.in_ok-known.ensures.len, c.in_ok-known.known.ok.0);
}

pub loop-i-preserved : goal.loop-i-preserved
loop-i-preserved c =
    let pieces = c.args.pieces.now in
    let marks = c.args.marks.now in
    let i = c.loop-i.i in
    let known = c.loop-i.known.items in
    let mark = get_or marks i 0 in
    let below = All-get_or (λ m. m < c.args.bound) marks i 0 (omega (arith, c.requires.size, c.loop-i-test.true)) c.requires.bound in
    let within : mark < length known = omega (arith, below, c.loop-i.invariant.size) in
    let read : known_at known mark ≡ c.index.result.now =
    get_or_default known mark None c.index.result.now within ∙ sym c.index.ensures in
    elim c.match-index.branch [
      | in-Some w ↦
          rw (c.in_ok-push.ensures.items, w.groups-is, w.known-is, w.group-is) (record {
            some = marked_known pieces marks i known c.loop-i.groups.numbers.items c.loop-i.groups.firsts.items w.in-Some.group
                (read ∙ w.in-Some.is) c.loop-i.invariant.some;
            size = c.loop-i.invariant.size;
          })
      | in-None+in_ok-push-in-None w ↦
          let new : w.len-group.result ≡ length c.loop-i.groups.firsts.items =
          omega (arith, w.len-group.ensures, c.loop-i.groups.firsts.ok.0) in
          rw (c.in_ok-push.ensures.items, w.groups-is, w.known-is, w.group-is, w.in_ok-push-in-None.ensures.items, new) (record {
            some = marked_new pieces marks i known c.loop-i.groups.numbers.items c.loop-i.groups.firsts.items _ c.requires.pieces
                c.loop-i-test.true (sym (start_is pieces i c.loop-i-test.true)) within (read ∙ w.in-None.is)
                c.loop-i.invariant.some;
            size = length-set known mark _ ∙ c.loop-i.invariant.size;
          })
    ]

pub returns : goal.returns
returns c =
    marked_all c.args.pieces.now c.args.marks.now c.loop-i.i _ c.loop-i.groups.numbers.items c.loop-i.groups.firsts.items (omega arith)
    c.loop-i.invariant.some
