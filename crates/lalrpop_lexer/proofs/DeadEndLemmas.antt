-- Dead ends of a text: what is noted, and what is found again. For the walks along a text.
use Rattle.std.proofs.Common.{◌≡◌, ℕ, ◌+◌, ◌-◌, ◌≤◌, List, [], ◌∷◌, ◌++◌, length, drop}
use Rattle.std.proofs.Common.{Bool, true, false, ◌&&◌, ◌||◌, eqb, eqb-true, All, MatchBool, inl, inr, ◌⊎◌, ⊎_elim, sym, ap, ap₂, ◌∙◌, refl, subst, arith, length-append, append_assoc}
use Rattle.std.specs.List.{list_any}
use Rattle.std.specs.List.Sorted.{IsPermutation}
use Rattle.std.specs.HashSet.{PutsKey}
use Rattle.std.proofs.lemmas.List.{drop_at}
use Rattle.std.proofs.lemmas.List.Elements.{All-head, All-tail, All-cons, All-weaker}
use Rattle.std.proofs.lemmas.List.Sorted.{All-permutation}
use Rattle.std.proofs.Math.Seq.{drop-append-add}
use Rattle.lalrpop_lexer.specs.declared.dead_ends.DeadEnds.{DeadEnds}
use Rattle.lalrpop_lexer.specs.Simulation.{StateView}
use Rattle.lalrpop_lexer.specs.Walks.{IsDeadEnd, IsDeadEndAt, AreDeadEnds}

-- a dead end at the front of a rest of the text
pub end_noted : (nodes : List StateView) (whole front text : List ℕ) (state : ℕ) → whole ≡ front ++ text
    → IsDeadEnd nodes state text → IsDeadEndAt nodes whole (state, length text)
end_noted nodes whole front text state is end = λ within.
    let size : length whole - length text ≡ length front = omega (arith, ap length is, length-append front text) in
    let same : drop (length whole - length text) whole ≡ text =
    ap (λ (n : ℕ). drop n whole) size ∙ ap (drop (length front)) is ∙ drop_at front text (length front) refl in
    let P : List ℕ → Type 0 = λ t. IsDeadEnd nodes state t in
    subst P (sym same) end

-- and back
pub end_found : (nodes : List StateView) (whole front text : List ℕ) (state left : ℕ) → whole ≡ front ++ text → left ≡ length text
    → IsDeadEndAt nodes whole (state, left) → IsDeadEnd nodes state text
end_found nodes whole front text state left is size_is noted_at =
    let At : ℕ → Type 0 = λ n. IsDeadEndAt nodes whole (state, n) in
    let noted : IsDeadEndAt nodes whole (state, length text) = subst At size_is noted_at in
    let size : length whole - length text ≡ length front = omega (arith, ap length is, length-append front text) in
    let same : drop (length whole - length text) whole ≡ text =
    ap (λ (n : ℕ). drop n whole) size ∙ ap (drop (length front)) is ∙ drop_at front text (length front) refl in
    let P : List ℕ → Type 0 = λ t. IsDeadEnd nodes state t in
    subst P same (noted (omega (arith, ap length is, length-append front text)))

-- what was noted of a text holds of the rest of it
pub ends_of_rest : (nodes : List StateView) (whole front text : List ℕ) (ends : DeadEnds) → whole ≡ front ++ text
    → AreDeadEnds nodes whole ends → AreDeadEnds nodes text ends
ends_of_rest nodes whole front text ends is all =
    All-weaker (IsDeadEndAt nodes whole) (IsDeadEndAt nodes text)
    (λ k at within.
    let longer : k.1 ≤ length whole = omega (arith, within, ap length is, length-append front text) in
    let place : length whole - k.1 ≡ length front + (length text - k.1) =
    omega (arith, within, ap length is, length-append front text) in
    let same : drop (length whole - k.1) whole ≡ drop (length text - k.1) text =
    ap (λ (n : ℕ). drop n whole) place ∙ ap (drop (length front + (length text - k.1))) is
    ∙ drop-append-add front text (length text - k.1) in
    let P : List ℕ → Type 0 = λ t. IsDeadEnd nodes k.0 t in
    subst P same (at longer))
    ends.noted.keys all

either : (a b : Bool) → (a || b) ≡ true → (a ≡ true) ⊎ (b ≡ true)
either true b e = inl refl
either false b e = inr e

-- what holds of all keys holds of one that a test finds
pub found_among : {K : Type 0} (P : K → Type 0) (test : K → Bool) (place : K) → ((k : K) → test k ≡ true → k ≡ place)
    → (keys : List K) → All P keys → list_any test keys ≡ true → P place
found_among P test place same [] all e = absurd cc
found_among P test place same (k ∷ keys) all e =
    ⊎_elim (λ here. subst P (same k here) (All-head P k keys all))
    (λ there. found_among P test place same keys (All-tail P k keys all) there) (either (test k) (list_any test keys) e)

-- what holds of all keys, and of the one that is put among them
pub put_among : {K : Type 0} (P : K → Type 0) (old new : List K) (k : K) (added : Bool)
    → MatchBool added (IsPermutation (k ∷ old) new) (new ≡ old) → P k → All P old → All P new
put_among P old new k true put one all = All-permutation P (k ∷ old) new put (All-cons P k old one all)
put_among P old new k false put one all = let Q : List _ → Type 0 = All P in subst Q (sym put) all

-- pairs that compare equal are the same
pub same_pair : (a b : ℕ × ℕ) → (eqb a.0 b.0 && eqb a.1 b.1) ≡ true → b ≡ a
same_pair a b e =
    let first = both (eqb a.0 b.0) (eqb a.1 b.1) e in
    ap₂ (λ (x y : ℕ). (x, y)) (sym (eqb-true a.0 b.0 first.0)) (sym (eqb-true a.1 b.1 first.1))
  where
    both : (x y : Bool) → (x && y) ≡ true → (x ≡ true) × (y ≡ true)
    both true y e = (refl, e)
    both false y e = absurd cc

-- one more dead end of a text is noted
pub noted_more : (nodes : List StateView) (whole front text before left : List ℕ) (state n : ℕ) (old new : DeadEnds) (added : Bool)
    → whole ≡ front ++ text → text ≡ before ++ left → n ≡ length left → IsDeadEnd nodes state left
    → PutsKey old.noted new.noted (state, n) added → AreDeadEnds nodes whole old → AreDeadEnds nodes whole new
noted_more nodes whole front text before left state n old new added is cut count end put all =
    let apart : whole ≡ (front ++ before) ++ left =
    is ∙ ap (λ (t : List ℕ). front ++ t) cut ∙ sym (append_assoc front before left) in
    let At : ℕ → Type 0 = λ k. IsDeadEndAt nodes whole (state, k) in
    put_among (IsDeadEndAt nodes whole) old.noted.keys new.noted.keys (state, n) added put
    (subst At (sym count) (end_noted nodes whole (front ++ before) left state apart end)) all
