use Rattle.std.proofs.Common.{◌≡◌, ◌∙◌, List, [], ◌∷◌, ◌++◌, Box, Global, sym, ap, arith}
use Rattle.lalrpop_lexer_pattern.specs.PlainHirs.{PlainHir, hir_view, plain_repeated}
use Rattle.lalrpop_lexer_pattern.specs.declared.tree.Repeats.{Repeats}
use Rattle.lalrpop_lexer_pattern.specs.declared.tree.Hir.{Hir, size-Hir}
use Rattle.lalrpop_lexer_pattern.specs.declared.tree.Hir.TheVariants.{Repetition}
use Rattle.lalrpop_lexer_pattern.proofs.CopyLemmas.{hir_view-Repetition, plain_repeated-push, size-Repetition}
use Rattle.lalrpop_lexer_pattern.proofs.+copy.Goals as goal

-- one repetition further inwards
step : (self : PlainHir) (around new : List Repeats) (r : Repeats) (tree inner : Hir) (sub : Box Hir Global)
    → self ≡ plain_repeated around (hir_view tree) → tree ≡ Repetition r sub → inner ≡ sub.value → new ≡ around ++ r ∷ []
    → self ≡ plain_repeated new (hir_view inner)
step self around new r tree inner sub same is at pushed =
    same ∙ ap (plain_repeated around) (ap hir_view is ∙ hir_view-Repetition r sub)
    ∙ sym (plain_repeated-push around r (hir_view sub.value)) ∙ ap (λ h. plain_repeated (around ++ r ∷ []) (hir_view h)) (sym at)
    ∙ ap (λ rs. plain_repeated rs (hir_view inner)) (sym pushed)

pub tree::Hir::copy-loop-tree-preserved : goal.tree::Hir::copy-loop-tree-preserved
tree::Hir::copy-loop-tree-preserved t c =
    let r = c.in-Repetition.repeats in
    let around = c.loop-tree.around.items in
    let under = c.in-Repetition.sub in
    let deeper = size-Repetition r under in
    let is = ap size-Hir c.in-Repetition.is in
    let at = ap size-Hir c.deref-tree.ensures in
    record {
      same = step (hir_view c.args.self.now) around c.push.new.self.items r c.loop-tree.tree.now c.deref-tree.result.now under
          c.loop-tree.invariant.same c.in-Repetition.is c.deref-tree.ensures c.in_ok-push-in-Repetition.ensures.items;
      within = omega (arith, deeper, is, at, c.loop-tree.invariant.within);
    }
