use Rattle.std.proofs.Common.{◌≡◌, ◌+◌, ◌++◌, ◌∷◌, [], ◌∙◌, ap, length, arith, length-append}
use Rattle.lalrpop_lexer.proofs.SliceLemmas.{ends_push, lists_push}
use Rattle.lalrpop_lexer.proofs.slices.Slices.push.Goals as goal

pub invariant_of-self-2 : goal.invariant_of-self-2
invariant_of-self-2 g c =
    let items = c.self.inside.items.items in
    let more = c.args.list.now in
    let size = length-append items more in
    let count : c.len.result ≡ length items + length more =
    omega (arith, c.len.ensures, c.extend_from_slice.new.self.ok.0, ap length c.in_ok-extend_from_slice.ensures.items, size) in
    rw (c.push_reserved.ensures.items, c.reserve.ensures.items, c.in_ok-extend_from_slice.ensures.items, count, size)
    (ends_push 0 c.self.inside.ends.items (length items) (length items + length more) c.self.invariant (omega arith))

pub returns : goal.returns
returns g c =
    let items = c.self.inside.items.items in
    let more = c.args.list.now in
    let count : c.len.result ≡ length items + length more =
    omega (
      arith,
      c.len.ensures,
      c.extend_from_slice.new.self.ok.0,
      ap length c.in_ok-extend_from_slice.ensures.items,
      length-append items more,
    ) in
    rw (c.push_reserved.ensures.items, c.reserve.ensures.items, c.in_ok-extend_from_slice.ensures.items, count)
    (lists_push items more 0 c.self.inside.ends.items c.self.invariant ∙ ap (λ ls. ls ++ more ∷ []) c.self.view_is)
