-- Lists that stand one behind another: the one at a place, and one more behind them. For `Slices`.
use Rattle.std.proofs.Common.{◌≡◌, ℕ, zero, suc, ◌+◌, ◌-◌, ◌<◌, ◌≤◌, List, [], ◌∷◌, ◌++◌, length, get_or}
use Rattle.std.proofs.Common.{sym, ap, ◌∙◌, refl, arith}
use Rattle.std.specs.Prelude.{take, drop}
use Rattle.std.proofs.Math.Seq.{drop-append_seam}
use Rattle.std.proofs.lemmas.List.{length-drop, take-append-le, drop-append-le, take_all}
use Rattle.lalrpop_lexer.specs.Slices.{lists_from, EndsAscend, slice_start}

lists_count : {T : Type 0} (items : List T) (start : ℕ) (ends : List ℕ) → length (lists_from items start ends) ≡ length ends
lists_count items start [] = refl
lists_count items start (end ∷ ends) = ap suc (lists_count items end ends)

-- there are as many ends as lists
pub ends_count : {T : Type 0} (items : List T) (ends : List ℕ) (lists : List (List T)) → lists_from items 0 ends ≡ lists
    → length ends ≡ length lists
ends_count items ends lists is = sym (lists_count items 0 ends) ∙ ap length is

pub list_at : {T : Type 0} (items : List T) (start : ℕ) (ends : List ℕ) (k : ℕ) → k < length ends
    → get_or (lists_from items start ends) k [] ≡ take (get_or ends k 0 - slice_start start ends k) (drop (slice_start start ends k) items)
list_at items start [] k l = absurd (omega (arith, l))
list_at items start (end ∷ ends) zero l = refl
list_at items start (end ∷ ends) (suc zero) l = list_at items end ends zero (omega (arith, l))
list_at items start (end ∷ ends) (suc (suc k)) l = list_at items end ends (suc k) (omega (arith, l))

-- no list ends behind the end of all
ends_within : (start : ℕ) (ends : List ℕ) (total : ℕ) → EndsAscend start ends total → start ≤ total
ends_within start [] total h = omega (arith, h)
ends_within start (end ∷ ends) total h = omega (arith, h.0, ends_within end ends total h.1)

-- a list begins where it ends, or before
pub place_within : (start : ℕ) (ends : List ℕ) (total k : ℕ) → EndsAscend start ends total → k < length ends
    → (slice_start start ends k ≤ get_or ends k 0) × (get_or ends k 0 ≤ total)
place_within start [] total k h l = absurd (omega (arith, l))
place_within start (end ∷ ends) total zero h l = (h.0, ends_within end ends total h.1)
place_within start (end ∷ ends) total (suc zero) h l = place_within end ends total zero h.1 (omega (arith, l))
place_within start (end ∷ ends) total (suc (suc k)) h l = place_within end ends total (suc k) h.1 (omega (arith, l))

-- with one more end behind them, ends still ascend
pub ends_push : (start : ℕ) (ends : List ℕ) (total more : ℕ) → EndsAscend start ends total → total ≤ more
    → EndsAscend start (ends ++ more ∷ []) more
ends_push start [] total more h l = (omega (arith, h, l), refl)
ends_push start (end ∷ ends) total more h l = (h.0, ends_push end ends total more h.1 l)

-- what is added behind them is one more list, and the others stay
pub lists_push : {T : Type 0} (items more : List T) (start : ℕ) (ends : List ℕ) → EndsAscend start ends (length items)
    → lists_from (items ++ more) start (ends ++ (length items + length more) ∷ []) ≡ lists_from items start ends ++ more ∷ []
lists_push items more start [] h =
    let size : length items + length more - start ≡ length more = omega (arith, h) in
    let rest : drop start (items ++ more) ≡ more = ap (λ k. drop k (items ++ more)) h ∙ drop-append_seam items more in
    ap (λ (l : List _). l ∷ []) (ap (λ k. take k (drop start (items ++ more))) size ∙ ap (take (length more)) rest ∙ take_all (length more) more (omega arith))
lists_push items more start (end ∷ ends) h =
    let within = ends_within end ends (length items) h.1 in
    let first : take (end - start) (drop start (items ++ more)) ≡ take (end - start) (drop start items) =
    ap (take (end - start)) (drop-append-le start items more (omega (arith, h.0, within)))
    ∙ take-append-le (end - start) (drop start items) more (omega (arith, h.0, within, length-drop start items)) in
    ap (λ l. l ∷ lists_from (items ++ more) end (ends ++ (length items + length more) ∷ [])) first
    ∙ ap (λ ls. take (end - start) (drop start items) ∷ ls) (lists_push items more end ends h.1)
