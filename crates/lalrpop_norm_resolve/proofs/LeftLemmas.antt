-- Lists that are filled from the front of another; for what is left under the features.
use Rattle.std.proofs.Common.{◌≡◌, ap, sym, ◌∙◌, List, ◌++◌, append_assoc}

-- a part more is put behind what was put before, and is gone from what is to come
pub pushed_on : {A : Type 0} (old new part rest before whole : List A) → new ≡ old ++ part → before ≡ part ++ rest
    → old ++ before ≡ whole → new ++ rest ≡ whole
pushed_on old new part rest before whole more here is =
    ap (λ l. l ++ rest) more ∙ append_assoc old part rest ∙ ap (λ l. old ++ l) (sym here) ∙ is
