use Rattle.std.proofs.Common.{◌≡◌, [], ◌∷◌, ◌++◌, ap, ◌∙◌, arith}
use Rattle.lalrpop_grammar.specs.Walks.{open_in, open_through}
use Rattle.lalrpop_grammar.specs.WalkViews.{list_view, lists_view}
use Rattle.lalrpop_grammar.proofs.WalkLemmas.{open-single}
use Rattle.lalrpop_grammar.proofs.tree.WrittenTree.leaves.Goals as goal

pub invariant_of-result : goal.invariant_of-result
invariant_of-result c =
    let whole = c.from_ref-whole.result in
    let items : c.push.new.self.items ≡ whole ∷ [] =
    c.in_ok-push.ensures.items ∙ ap (λ xs. xs ++ whole ∷ []) c.in_ok-pending.ensures.items in
    let needs : open_through (lists_view c.push.new.self.items) ≡ open_in (list_view whole) =
    ap (λ xs. open_through (lists_view xs)) items ∙ open-single (list_view whole) in
    record {
      room = omega (
        arith,
        needs,
        c.lists_open.ensures,
        c.in_ok-pending.ensures.exact,
        c.in_ok-pending.pending.small,
        c.in_ok-push.ensures.capacity,
      );
    }
