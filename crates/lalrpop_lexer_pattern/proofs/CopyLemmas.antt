-- A copy with the same contents has the same meaning. For the function that copies a tree.
use Rattle.std.proofs.Common.{◌≡◌, ◌<◌, ◌∙◌, ap, ap₂, sym, subst, refl, arith, map, List, [], ◌∷◌, ◌++◌}
use Rattle.std.proofs.Common.{Box, Global, Result, IfOk}
use Rattle.std.proofs.lemmas.Result.{IfOk-weaker}
use Rattle.std.specs.Prelude.{option_map}
use Rattle.std.specs.String.{string_bytes}
use Rattle.std.specs.declared.alloc.AllocError.{AllocError}
use Rattle.lalrpop_lexer_pattern.specs.Matches.{Pattern, concat_all, alternation_all}
use Rattle.lalrpop_lexer_pattern.specs.Meaning.{meaning, node_meaning}
use Rattle.lalrpop_lexer_pattern.specs.PlainHirs as plain
use Rattle.lalrpop_lexer_pattern.specs.declared.tree.Repeats.{Repeats}
use Rattle.lalrpop_lexer_pattern.specs.declared.tree.Hir.{Hir, size-Hir, size_is-Hir, roll-Hir, out-roll-Hir}
use Rattle.lalrpop_lexer_pattern.specs.declared.tree.Hir.TheVariants.{Repetition, rolls-Repetition}
use Rattle.lalrpop_lexer_pattern.specs.declared.tree.Hir.TheOpen.{Hir-F}
use Rattle.lalrpop_lexer_pattern.specs.declared.tree.Hir.TheFolds.{fold-roll-Hir, ind-Hir, map-Hir}

-- the pattern that a tree's contents are
abbrev mutual
  pattern_of : plain.PlainHir → Pattern
  pattern_of plain.PlainHir.empty = Pattern.empty
  pattern_of (plain.PlainHir.literal cs) = Pattern.literal cs
  pattern_of (plain.PlainHir.class ranges) = Pattern.class ranges
  pattern_of (plain.PlainHir.look l) = Pattern.look l
  pattern_of (plain.PlainHir.capture name sub) = Pattern.capture name (pattern_of sub)
  pattern_of (plain.PlainHir.repetition min max greedy sub) = Pattern.repetition min max greedy (pattern_of sub)
  pattern_of (plain.PlainHir.concat subs) = concat_all (patterns_of subs)
  pattern_of (plain.PlainHir.alternation subs) = alternation_all (patterns_of subs)

  patterns_of : plain.PlainHirs → List Pattern
  patterns_of plain.PlainHirs.none = []
  patterns_of (plain.PlainHirs.more sub subs) = pattern_of sub ∷ patterns_of subs

abbrev IsOfContents : Hir → Type 0
IsOfContents hir = meaning hir ≡ pattern_of (plain.hir_view hir)

of_contents-all : (es : List ((h : Hir) × IsOfContents h))
    → map meaning (map (λ e. e.0) es) ≡ patterns_of (plain.plain_hirs (map plain.hir_view (map (λ e. e.0) es)))
of_contents-all [] = refl
of_contents-all (e ∷ es) = ap₂ (λ p ps. p ∷ ps) e.1 (of_contents-all es)

of_contents-layer : (y : Hir-F ((h : Hir) × IsOfContents h))
    → node_meaning (map-Hir Hir Pattern meaning (map-Hir ((h : Hir) × IsOfContents h) Hir (λ e. e.0) y))
    ≡ pattern_of (plain.hir_layer (map-Hir Hir plain.PlainHir plain.hir_view (map-Hir ((h : Hir) × IsOfContents h) Hir (λ e. e.0) y)))
of_contents-layer Hir-F.Empty = refl
of_contents-layer (Hir-F.Literal cs) = refl
of_contents-layer (Hir-F.Class class_of) = refl
of_contents-layer (Hir-F.Look l) = refl
of_contents-layer (Hir-F.Capture name sub) = ap (Pattern.capture (option_map string_bytes name)) sub.value.1
of_contents-layer (Hir-F.Repetition repeats sub) = ap (Pattern.repetition repeats.min repeats.max repeats.greedy) sub.value.1
of_contents-layer (Hir-F.Concat subs) = ap concat_all (of_contents-all subs.items)
of_contents-layer (Hir-F.Alternation subs) = ap alternation_all (of_contents-all subs.items)

of_contents : (h : Hir) → IsOfContents h
of_contents = ind-Hir IsOfContents (λ x y is. fold-roll-Hir Pattern node_meaning x
    ∙ subst (λ z. node_meaning (map-Hir Hir Pattern meaning z)
    ≡ pattern_of (plain.hir_layer (map-Hir Hir plain.PlainHir plain.hir_view z))) is (of_contents-layer y)
    ∙ sym (ap pattern_of (fold-roll-Hir plain.PlainHir plain.hir_layer x)))

-- a copy with the contents of a tree has its meaning, unless memory ran out
pub same_meaning : (result : Result Hir AllocError) (original : Hir)
    → IfOk result (λ copy. plain.hir_view copy ≡ plain.hir_view original) → IfOk result (λ copy. meaning copy ≡ meaning original)
same_meaning result original same = IfOk-weaker result _ (λ copy. meaning copy ≡ meaning original)
    (λ copy is. of_contents copy ∙ ap pattern_of is ∙ sym (of_contents original)) same

-- the contents of a repetition
pub hir_view-Repetition : (r : Repeats) (sub : Box Hir Global)
    → plain.hir_view (Repetition r sub) ≡ plain.PlainHir.repetition r.min r.max r.greedy (plain.hir_view sub.value)
hir_view-Repetition r sub =
    ap plain.hir_view (sym (rolls-Repetition r sub)) ∙ fold-roll-Hir plain.PlainHir plain.hir_layer (Hir-F.Repetition r sub)

-- the last of a list of repetitions is the innermost
pub plain_repeated-push : (rs : List Repeats) (r : Repeats) (p : plain.PlainHir)
    → plain.plain_repeated (rs ++ r ∷ []) p ≡ plain.plain_repeated rs (plain.PlainHir.repetition r.min r.max r.greedy p)
plain_repeated-push [] r p = refl
plain_repeated-push (q ∷ rs) r p = ap (plain.PlainHir.repetition q.min q.max q.greedy) (plain_repeated-push rs r p)

-- what is repeated is less deep
pub size-Repetition : (r : Repeats) (sub : Box Hir Global) → size-Hir sub.value < size-Hir (Repetition r sub)
size-Repetition r sub =
    let h = size_is-Hir (roll-Hir (Hir-F.Repetition r sub)) in
    let g = rw out-roll-Hir at h in
    let P : Hir → Type 0 = λ d. size-Hir sub.value < size-Hir d in
    subst P (rolls-Repetition r sub) (omega (arith, g))
