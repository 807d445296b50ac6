-- One number more in a list of numbers, and in its text; for what writes the numbers of a set.
use Rattle.std.proofs.Common.{◌≡◌, ◌∙◌, ◌++◌, ℕ, true, false, List, [], ◌∷◌, ap, append-nil, append_assoc, flat_map, not, refl, sym}
use Rattle.lalrpop_sets.specs.AscendingLists.{is_nonempty}
use Rattle.lalrpop_sets.specs.TokenTexts.{number_behind, number_list_text}

flat_map_more : (ns : List ℕ) (k : ℕ)
    → flat_map (number_behind false) (ns ++ k ∷ []) ≡ flat_map (number_behind false) ns ++ number_behind false k
flat_map_more [] k = append-nil (number_behind false k)
flat_map_more (n ∷ ns) k =
    ap (λ t. number_behind false n ++ t) (flat_map_more ns k)
    ∙ sym (append_assoc (number_behind false n) (flat_map (number_behind false) ns) (number_behind false k))

-- the text of the numbers, with one number more
pub text_more : (ns : List ℕ) (k : ℕ)
    → number_list_text ns ++ number_behind (not (is_nonempty ns)) k ≡ number_list_text (ns ++ k ∷ [])
text_more [] k = sym (append-nil (number_behind true k))
text_more (n ∷ ns) k =
    append_assoc (number_behind true n) (flat_map (number_behind false) ns) (number_behind false k)
    ∙ ap (λ t. number_behind true n ++ t) (sym (flat_map_more ns k))

pub nonempty_more : (ns : List ℕ) (k : ℕ) → is_nonempty (ns ++ k ∷ []) ≡ true
nonempty_more [] k = refl
nonempty_more (n ∷ ns) k = refl
