-- Trees with spans are what they are without them, and the spans: for the contracts of parsing.
use Rattle.std.proofs.Common.{◌≡◌, List, [], ◌∷◌, ◌++◌, length, refl, sym, ap, ◌∙◌, arith, length-append}
use Rattle.lalrpop_lr1_theory.specs.Trees.{yield}
use Rattle.lalrpop_lr1_theory.specs.Spans.{SpannedForest, leaf_at, leaf_spans, none_at, node_at, without_spans}

-- there are as many spans as leaves
pub length-leaf_spans : (ts : SpannedForest) → length (leaf_spans ts) ≡ length (yield (without_spans ts))
length-leaf_spans none_at = refl
length-leaf_spans (leaf_at t span ts) = omega (arith, length-leaf_spans ts)
length-leaf_spans (node_at p cs ts) =
    length-append (leaf_spans cs) (leaf_spans ts)
    ∙ omega (arith, length-leaf_spans cs, length-leaf_spans ts, length-append (yield (without_spans cs)) (yield (without_spans ts)))

both_parts : {A : Type 0} (a b c d : List A) → a ++ b ≡ c ++ d → length a ≡ length c → (a ≡ c) × (b ≡ d)
both_parts [] b [] d e l = (refl, e)
both_parts [] b (y ∷ c) d e l = absurd (omega (arith, l))
both_parts (x ∷ a) b [] d e l = absurd (omega (arith, l))
both_parts (x ∷ a) b (y ∷ c) d e l =
    let z : x ≡ y = cc in
    let k : a ++ b ≡ c ++ d = cc in
    let r = both_parts a b c d k (omega (arith, l)) in
    let q : a ≡ c = r.0 in
    (cc, r.1)

-- trees that are the same without spans, and have the same spans, are the same
pub spanned_same : (ts us : SpannedForest) → without_spans ts ≡ without_spans us → leaf_spans ts ≡ leaf_spans us → ts ≡ us
spanned_same none_at none_at e f = refl
spanned_same none_at (leaf_at u b us) e f = let z : ⊥ = cc in absurd z
spanned_same none_at (node_at q ds us) e f = let z : ⊥ = cc in absurd z
spanned_same (leaf_at t a ts) none_at e f = let z : ⊥ = cc in absurd z
spanned_same (node_at p cs ts) none_at e f = let z : ⊥ = cc in absurd z
spanned_same (leaf_at t a ts) (node_at q ds us) e f = let z : ⊥ = cc in absurd z
spanned_same (node_at p cs ts) (leaf_at u b us) e f = let z : ⊥ = cc in absurd z
spanned_same (leaf_at t a ts) (leaf_at u b us) e f =
    let x : t ≡ u = cc in
    let y : a ≡ b = cc in
    let d : without_spans ts ≡ without_spans us = cc in
    let g : leaf_spans ts ≡ leaf_spans us = cc in
    let r : ts ≡ us = spanned_same ts us d g in
    cc
spanned_same (node_at p cs ts) (node_at q ds us) e f =
    let x : p ≡ q = cc in
    let y : without_spans cs ≡ without_spans ds = cc in
    let d : without_spans ts ≡ without_spans us = cc in
    let n : length (leaf_spans cs) ≡ length (leaf_spans ds) =
    length-leaf_spans cs ∙ ap (λ v. length (yield v)) y ∙ sym (length-leaf_spans ds) in
    let g = both_parts (leaf_spans cs) (leaf_spans ts) (leaf_spans ds) (leaf_spans us) f n in
    let r : cs ≡ ds = spanned_same cs ds y g.0 in
    let k : ts ≡ us = spanned_same ts us d g.1 in
    cc
