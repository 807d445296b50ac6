use Rattle.std.proofs.Common.{◌≡◌, get_or, suc, ◌+◌, ◌≤◌, sym, ap, subst, ◌∙◌, arith}
use Rattle.lalrpop_grammar.proofs.DropLemmas.{IsBelow, below-none, below-some, count, count_kept, count-Group, count-List, count-Rule}
use Rattle.lalrpop_grammar.proofs.TakingApartLemmas.{fewer_are_less, first-within, has_first, smaller_is_less, total, total-last, total-set}
use Rattle.lalrpop_grammar.proofs.tree.WrittenTree.drop.Goals as goal
use Rattle.lalrpop_grammar.proofs.tree.WrittenTree.drop.Goals.{in-Rule, in-List, in-Opt+in-None, in-Group, in-Terminal, in-Look}
use Rattle.lalrpop_grammar.proofs.tree.WrittenTree.drop.Goals.{in-Some-below+then-is_empty}
use Rattle.lalrpop_grammar.proofs.tree.WrittenTree.drop.Goals.{in-Some-below+else-is_empty+in-None-kept, in_default}

pub loop-self-smaller-in-Some-kept : goal.loop-self-smaller-in-Some-kept
loop-self-smaller-in-Some-kept c =
    let below : IsBelow c.match-self.below c.loop-self.self = elim c.match-self.branch [
      | in-Rule w ↦ below-some _ _ _ _ w.below-is w.into_vec.ensures (count-Rule _ _ _ _ _ w.in-Rule.is)
      | in-List w ↦ below-some _ _ _ _ w.below-is w.into_vec-in-List.ensures (count-List _ _ w.in-List.is)
      | in-Opt+in-None w ↦ below-none _ _ w.below-is
      | in-Group w ↦ below-some _ _ _ _ w.below-is w.into_vec-in-Group.ensures (count-Group _ _ w.in-Group.is)
      | in-Terminal w ↦ below-none _ _ w.below-is
      | in-Look w ↦ below-none _ _ w.below-is
    ] in
    let same = ap count_kept c.in-Some-below.is in
    let was = ap count_kept c.in-Some-kept.is in
    let first = subst (λ t. t ≡ get_or c.in-Some-below.trees.items 0 t) (sym c.replace-self.ensures.value) c.index_mut.ensures.value in
    let some = has_first c.in-Some-below.trees c.is_empty.result c.is_empty.ensures c.if-is_empty.false in
    let put = total-set count c.in-Some-below.trees.items c.replace-self.result c.replace-self.new.dest some first in
    let others = count-Group _ _ c.replace-self.ensures.after ∙ ap (λ ts. suc (total count ts)) c.from_vec.ensures in
    smaller_is_less _ _ _ _ _ (omega (arith, below, same, was, put, others))
    (omega (arith, below, same, first-within count c.in-Some-below.trees.items c.replace-self.result some first))

pub loop-self-preserved-in-Some-kept : goal.loop-self-preserved-in-Some-kept
loop-self-preserved-in-Some-kept c =
    let below : IsBelow c.match-self.below c.loop-self.self = elim c.match-self.branch [
      | in-Rule w ↦ below-some _ _ _ _ w.below-is w.into_vec.ensures (count-Rule _ _ _ _ _ w.in-Rule.is)
      | in-List w ↦ below-some _ _ _ _ w.below-is w.into_vec-in-List.ensures (count-List _ _ w.in-List.is)
      | in-Opt+in-None w ↦ below-none _ _ w.below-is
      | in-Group w ↦ below-some _ _ _ _ w.below-is w.into_vec-in-Group.ensures (count-Group _ _ w.in-Group.is)
      | in-Terminal w ↦ below-none _ _ w.below-is
      | in-Look w ↦ below-none _ _ w.below-is
    ] in
    let same = ap count_kept c.in-Some-below.is in
    let was = ap count_kept c.in-Some-kept.is in
    let first = subst (λ t. t ≡ get_or c.in-Some-below.trees.items 0 t) (sym c.replace-self.ensures.value) c.index_mut.ensures.value in
    let some = has_first c.in-Some-below.trees c.is_empty.result c.is_empty.ensures c.if-is_empty.false in
    let put = total-set count c.in-Some-below.trees.items c.replace-self.result c.replace-self.new.dest some first in
    let others = count-Group _ _ c.replace-self.ensures.after ∙ ap (λ ts. suc (total count ts)) c.from_vec.ensures in
    omega (arith, below, same, was, put, others, c.loop-self.invariant)

pub loop-self-smaller-then-is_empty-2 : goal.loop-self-smaller-then-is_empty-2
loop-self-smaller-then-is_empty-2 c =
    let below : IsBelow c.match-self.below c.loop-self.self = elim c.match-self.branch [
      | in-Rule w ↦ below-some _ _ _ _ w.below-is w.into_vec.ensures (count-Rule _ _ _ _ _ w.in-Rule.is)
      | in-List w ↦ below-some _ _ _ _ w.below-is w.into_vec-in-List.ensures (count-List _ _ w.in-List.is)
      | in-Opt+in-None w ↦ below-none _ _ w.below-is
      | in-Group w ↦ below-some _ _ _ _ w.below-is w.into_vec-in-Group.ensures (count-Group _ _ w.in-Group.is)
      | in-Terminal w ↦ below-none _ _ w.below-is
      | in-Look w ↦ below-none _ _ w.below-is
    ] in
    let fewer : suc (count_kept c.match-below.kept) ≤ count c.loop-self.self + count_kept c.loop-self.kept = elim c.match-below.branch [
      | in-Some-below+then-is_empty w ↦ omega (arith, below, ap count_kept w.kept-is)
      | in-Some-below+else-is_empty+in-None-kept w ↦ omega (arith, below, ap count_kept w.kept-is, ap count_kept w.in-Some-below.is)
      | in_default w ↦ omega (arith, below, ap count_kept w.kept-is)
    ] in
    let was = ap count_kept c.in-Some-kept-2.is in
    let last = total-last count c.in-Some-kept-2.trees.items c.pop.new.self.items c.in-Some-pop.next c.in-Some-pop.ensures.items in
    fewer_are_less _ _ _ _ _ (omega (arith, fewer, was, last)) (omega arith) (omega (arith, fewer, was, last, c.loop-self.invariant))

pub loop-self-smaller : goal.loop-self-smaller
loop-self-smaller c =
    let below : IsBelow c.match-self.below c.loop-self.self = elim c.match-self.branch [
      | in-Rule w ↦ below-some _ _ _ _ w.below-is w.into_vec.ensures (count-Rule _ _ _ _ _ w.in-Rule.is)
      | in-List w ↦ below-some _ _ _ _ w.below-is w.into_vec-in-List.ensures (count-List _ _ w.in-List.is)
      | in-Opt+in-None w ↦ below-none _ _ w.below-is
      | in-Group w ↦ below-some _ _ _ _ w.below-is w.into_vec-in-Group.ensures (count-Group _ _ w.in-Group.is)
      | in-Terminal w ↦ below-none _ _ w.below-is
      | in-Look w ↦ below-none _ _ w.below-is
    ] in
    let fewer : suc (count_kept c.match-below.kept) ≤ count c.loop-self.self + count_kept c.loop-self.kept = elim c.match-below.branch [
      | in-Some-below+then-is_empty w ↦ omega (arith, below, ap count_kept w.kept-is)
      | in-Some-below+else-is_empty+in-None-kept w ↦ omega (arith, below, ap count_kept w.kept-is, ap count_kept w.in-Some-below.is)
      | in_default w ↦ omega (arith, below, ap count_kept w.kept-is)
    ] in
    let was = ap count_kept c.in-Some-kept-2.is in
    let last = total-last count c.in-Some-kept-2.trees.items c.pop.new.self.items c.in-Some-pop.next c.in-Some-pop.ensures.items in
    fewer_are_less _ _ _ _ _ (omega (arith, fewer, was, last)) (omega arith) (omega (arith, fewer, was, last, c.loop-self.invariant))

pub loop-self-preserved : goal.loop-self-preserved
loop-self-preserved c =
    let below : IsBelow c.match-self.below c.loop-self.self = elim c.match-self.branch [
      | in-Rule w ↦ below-some _ _ _ _ w.below-is w.into_vec.ensures (count-Rule _ _ _ _ _ w.in-Rule.is)
      | in-List w ↦ below-some _ _ _ _ w.below-is w.into_vec-in-List.ensures (count-List _ _ w.in-List.is)
      | in-Opt+in-None w ↦ below-none _ _ w.below-is
      | in-Group w ↦ below-some _ _ _ _ w.below-is w.into_vec-in-Group.ensures (count-Group _ _ w.in-Group.is)
      | in-Terminal w ↦ below-none _ _ w.below-is
      | in-Look w ↦ below-none _ _ w.below-is
    ] in
    let fewer : suc (count_kept c.match-below.kept) ≤ count c.loop-self.self + count_kept c.loop-self.kept = elim c.match-below.branch [
      | in-Some-below+then-is_empty w ↦ omega (arith, below, ap count_kept w.kept-is)
      | in-Some-below+else-is_empty+in-None-kept w ↦ omega (arith, below, ap count_kept w.kept-is, ap count_kept w.in-Some-below.is)
      | in_default w ↦ omega (arith, below, ap count_kept w.kept-is)
    ] in
    let was = ap count_kept c.in-Some-kept-2.is in
    let last = total-last count c.in-Some-kept-2.trees.items c.pop.new.self.items c.in-Some-pop.next c.in-Some-pop.ensures.items in
    omega (arith, fewer, was, last, c.loop-self.invariant)
