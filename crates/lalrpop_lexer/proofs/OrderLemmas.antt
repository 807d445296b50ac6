-- The order of words: a shorter one comes first, of those as long the lesser. For the first word that leads to a state.
use Rattle.std.proofs.Common.{◌≡◌, ℕ, ◌<◌, ◌≤◌, List, [], ◌∷◌, ◌++◌, length, inl, inr, ⊎_elim, ◌∙◌}
use Rattle.std.proofs.Common.{refl, arith, length-append}
use Rattle.std.proofs.lemmas.Bool.{cases_lt}
use Rattle.lalrpop_lexer_pattern.specs.Wins.{IsLess, ComesBefore}
use Rattle.lalrpop_lexer.specs.Numbering.{IsNoLater}

pub IsLess-irrefl : (v : List ℕ) → IsLess v v → ⊥
IsLess-irrefl [] h = h
IsLess-irrefl (c ∷ v) (inl h) = omega arith
IsLess-irrefl (c ∷ v) (inr h) = IsLess-irrefl v h.1

pub IsLess-trans : (u v w : List ℕ) → IsLess u v → IsLess v w → IsLess u w
IsLess-trans u v [] h k = absurd k
IsLess-trans u [] (c ∷ w) h k = absurd h
IsLess-trans [] (b ∷ v) (c ∷ w) h k = absurd h
IsLess-trans (a ∷ u) (b ∷ v) (c ∷ w) (inl h) (inl k) = inl (omega arith)
IsLess-trans (a ∷ u) (b ∷ v) (c ∷ w) (inl h) (inr k) = inl (omega arith)
IsLess-trans (a ∷ u) (b ∷ v) (c ∷ w) (inr h) (inl k) = inl (omega arith)
IsLess-trans (a ∷ u) (b ∷ v) (c ∷ w) (inr h) (inr k) = inr (h.0 ∙ k.0, IsLess-trans u v w h.1 k.1)

pub ComesBefore-irrefl : (v : List ℕ) → ComesBefore v v → ⊥
ComesBefore-irrefl v (inl h) = omega arith
ComesBefore-irrefl v (inr h) = IsLess-irrefl v h.1

pub ComesBefore-trans : (u v w : List ℕ) → ComesBefore u v → ComesBefore v w → ComesBefore u w
ComesBefore-trans u v w (inl h) (inl k) = inl (omega arith)
ComesBefore-trans u v w (inl h) (inr k) = inl (omega (arith, k.0))
ComesBefore-trans u v w (inr h) (inl k) = inl (omega (arith, h.0))
ComesBefore-trans u v w (inr h) (inr k) = inr (h.0 ∙ k.0, IsLess-trans u v w h.1 k.1)

IsLess-snoc : (u v : List ℕ) (a b : ℕ) → length u ≡ length v → IsLess u v → IsLess (u ++ a ∷ []) (v ++ b ∷ [])
IsLess-snoc u [] a b e h = absurd h
IsLess-snoc [] (d ∷ v) a b e h = absurd h
IsLess-snoc (c ∷ u) (d ∷ v) a b e (inl h) = inl h
IsLess-snoc (c ∷ u) (d ∷ v) a b e (inr h) = inr (h.0, IsLess-snoc u v a b (omega arith) h.1)

IsLess-last : (u : List ℕ) (a b : ℕ) → a < b → IsLess (u ++ a ∷ []) (u ++ b ∷ [])
IsLess-last [] a b h = inl h
IsLess-last (c ∷ u) a b h = inr (refl, IsLess-last u a b h)

-- whatever comes last, the order of what stands before it decides
pub ComesBefore-snoc : (u v : List ℕ) (a b : ℕ) → ComesBefore u v → ComesBefore (u ++ a ∷ []) (v ++ b ∷ [])
ComesBefore-snoc u v a b (inl h) = inl (omega (arith, length-append u (a ∷ []), length-append v (b ∷ [])))
ComesBefore-snoc u v a b (inr h) =
    inr (omega (arith, length-append u (a ∷ []), length-append v (b ∷ []), h.0), IsLess-snoc u v a b h.0 h.1)

-- of two words that differ in their last number alone, the one with the lesser comes first
pub ComesBefore-last : (u : List ℕ) (a b : ℕ) → a < b → ComesBefore (u ++ a ∷ []) (u ++ b ∷ [])
ComesBefore-last u a b h = inr (omega (arith, length-append u (a ∷ []), length-append u (b ∷ [])), IsLess-last u a b h)

-- the empty word is no later than any other
pub IsNoLater-nil : (v : List ℕ) → IsNoLater [] v
IsNoLater-nil [] = inl refl
IsNoLater-nil (c ∷ v) = inr (inl (omega arith))

-- a word no later than a second, which is no later than a third, is no later than the third
pub IsNoLater-trans : (u v w : List ℕ) → IsNoLater u v → IsNoLater v w → IsNoLater u w
IsNoLater-trans u v w (inl h) (inl k) = inl (h ∙ k)
IsNoLater-trans u v w (inl h) (inr k) = inr (rw h k)
IsNoLater-trans u v w (inr h) (inl k) = inr (rw (← k) h)
IsNoLater-trans u v w (inr h) (inr k) = inr (ComesBefore-trans u v w h k)

-- a word that is no later stays so with a last number that is no greater
pub IsNoLater-snoc : (u v : List ℕ) (a b : ℕ) → IsNoLater u v → a ≤ b → IsNoLater (u ++ a ∷ []) (v ++ b ∷ [])
IsNoLater-snoc u v a b (inl h) less =
    ⊎_elim (λ (lt : a < b). rw h (inr (ComesBefore-last v a b lt)))
    (λ (ge : b ≤ a). let e : a ≡ b = omega arith in rw (h, e) (inl refl)) (cases_lt a b)
IsNoLater-snoc u v a b (inr h) less = inr (ComesBefore-snoc u v a b h)

-- a word doesn't come before another that is no later than it
pub not_before : (u v : List ℕ) → IsNoLater u v → ComesBefore v u → ⊥
not_before u v (inl h) k = ComesBefore-irrefl u (rw (← h) at k)
not_before u v (inr h) k = ComesBefore-irrefl u (ComesBefore-trans u v u h k)

-- a word that comes before another comes before each one that the other is no later than
pub before_no_later : (u v w : List ℕ) → ComesBefore u v → IsNoLater v w → ComesBefore u w
before_no_later u v w h (inl e) = rw (← e) h
before_no_later u v w h (inr k) = ComesBefore-trans u v w h k
