-- The words of a pattern, as the parts of its automaton read them. For the functions that build one from a tree.
use Rattle.std.proofs.Common.{◌≡◌, ℕ, zero, suc, ◌+◌, ◌-◌, ◌<◌, ◌≤◌, List, [], ◌∷◌, ◌++◌, length}
use Rattle.std.proofs.Common.{get_or, map, Some, Bool, inl, inr, sym, ap, ◌∙◌, refl, subst, arith, append_assoc}
use Rattle.std.proofs.Common.{zero-add, add-one, drop, drop-cons}
use Rattle.lalrpop_lexer_pattern.specs.Matches.{Pattern, alternation_all, Power, Matches}
use Rattle.std.proofs.lemmas.List.{get_or-map}
use Rattle.lalrpop_lexer_pattern.specs.Meaning.{meaning}
use Rattle.lalrpop_lexer_pattern.specs.declared.tree.Hir.{Hir}
use Rattle.lalrpop_lexer_nfa.specs.Fragments.{Concatenation, KleeneStar, UpTo, AtLeast, Optional, IsOneOf}

-- the first character, and then the others: the literal of them all
pub literal_to : (c : ℕ) (cs w : List ℕ) → Concatenation (IsOneOf (λ x. x ≡ c)) (Matches (Pattern.literal cs)) w
    → Matches (Pattern.literal (c ∷ cs)) w
literal_to c cs w h =
    h.2 ∙ ap (λ x. x ++ h.1) (h.3.1 ∙ ap (λ x. x ∷ []) h.3.2) ∙ ap (λ x. c ∷ x) h.4

-- a literal is its first character, and then the literal of the others
pub literal_from : (c : ℕ) (cs w : List ℕ) → Matches (Pattern.literal (c ∷ cs)) w
    → Concatenation (IsOneOf (λ x. x ≡ c)) (Matches (Pattern.literal cs)) w
literal_from c cs w h = (c ∷ [], cs, h, (c, refl, refl), refl)

module _ (L : List ℕ → Type 0) where
  pub Power-append : (i j : ℕ) (u v : List ℕ) → Power L i u → Power L j v → Power L (i + j) (u ++ v)
  Power-append zero j u v h k = rw (zero-add, h) k
  Power-append (suc i) j u v h k =
      let e : suc i + j ≡ suc (i + j) = omega arith in
      rw e (h.0, h.1 ++ v, ap (λ x. x ++ v) h.2 ∙ append_assoc h.0 h.1 v, h.3, Power-append i j h.1 v h.4 k)

  pub Power-split : (i j : ℕ) (w : List ℕ) → Power L (i + j) w → Concatenation (Power L i) (Power L j) w
  Power-split zero j w h = ([], w, refl, refl, rw zero-add at h)
  Power-split (suc i) j w h =
      let e : suc i + j ≡ suc (i + j) = omega arith in
      let x : Power L (suc (i + j)) w = rw e at h in
      let y = Power-split i j x.1 x.4 in
      (x.0 ++ y.0, y.1, x.2 ∙ ap (λ v. x.0 ++ v) y.2 ∙ sym (append_assoc x.0 y.0 y.1), (x.0, y.0, refl, x.3, y.3), y.4)

  -- one word of a language, and then k of them, are k + 1
  pub pieces_to : (k : ℕ) (w : List ℕ) → Concatenation L (Power L k) w → Power L (k + 1) w
  pieces_to k w h = rw add-one h

  -- k + 1 words of a language are one of them, and then k
  pub pieces_from : (k : ℕ) (w : List ℕ) → Power L (k + 1) w → Concatenation L (Power L k) w
  pieces_from k w h = rw add-one at h

  -- nothing, or one word of a language and then at most k of them, are at most k + 1
  pub up_to_to : (k : ℕ) (w : List ℕ) → Optional (Concatenation L (UpTo L k)) w → UpTo L (k + 1) w
  up_to_to k w (inl none) = (zero, omega arith, none)
  up_to_to k w (inr h) = (suc h.4.0, omega (arith, h.4.1), (h.0, h.1, h.2, h.3, h.4.2))

  -- at most k + 1 words of a language are none, or one of them and then at most k
  pub up_to_from : (k : ℕ) (w : List ℕ) → UpTo L (k + 1) w → Optional (Concatenation L (UpTo L k)) w
  up_to_from k w (zero, less, h) = inl h
  up_to_from k w (suc n, less, h) = inr (h.0, h.1, h.2, h.3, (n, omega arith, h.4))

  -- one word of a language and then any count of them are at least one
  pub plus_to : (w : List ℕ) → Concatenation L (KleeneStar L) w → AtLeast L 1 w
  plus_to w h = (suc h.4.0, omega arith, (h.0, h.1, h.2, h.3, h.4.1))

  -- at least one word of a language is one of them and then any count
  pub plus_from : (w : List ℕ) → AtLeast L 1 w → Concatenation L (KleeneStar L) w
  plus_from w (zero, less, h) = absurd (omega arith)
  plus_from w (suc n, less, h) = (h.0, h.1, h.2, h.3, (n, h.4))

  -- one fewer than the least count, and then one or more, are the least count or more
  pub least_to : (least : ℕ) → 0 < least → (w : List ℕ) → Concatenation (Power L (least - 1)) (AtLeast L 1) w
      → AtLeast L least w
  least_to least some w h = (least - 1 + h.4.0, omega (arith, h.4.1), rw h.2 (Power-append (least - 1) h.4.0 h.0 h.1 h.3 h.4.2))

  -- the least count or more are one fewer than it, and then one or more
  pub least_from : (least : ℕ) → 0 < least → (w : List ℕ) → AtLeast L least w
      → Concatenation (Power L (least - 1)) (AtLeast L 1) w
  least_from least some w h =
      let e : h.0 ≡ least - 1 + (h.0 - (least - 1)) = omega (arith, h.1) in
      let x = Power-split (least - 1) (h.0 - (least - 1)) w (let P : ℕ → Type 0 = λ k. Power L k w in subst P e h.2) in
      (x.0, x.1, x.2, x.3, (h.0 - (least - 1), omega (arith, h.1), x.4))

-- at most 0 words of a language are the empty word
pub up_to_none : (L : List ℕ → Type 0) (w : List ℕ) → UpTo L 0 w → w ≡ []
up_to_none L w (zero, less, h) = h
up_to_none L w (suc n, less, h) = absurd (omega arith)

module _ (p : Pattern) (min : ℕ) (greedy : Bool) where
  -- the least count of copies, and then up to the difference, match a repetition between two counts
  pub between_to : (max : ℕ) → min ≤ max → (w : List ℕ) → Concatenation (Power (Matches p) min) (UpTo (Matches p) (max - min)) w
      → Matches (Pattern.repetition min (Some max) greedy p) w
  between_to max order w h =
      (min + h.4.0, (omega arith, omega (arith, h.4.1)), rw h.2 (Power-append (Matches p) min h.4.0 h.0 h.1 h.3 h.4.2))

  -- a match of a repetition between two counts is the least count of copies, and then up to the difference
  pub between_from : (max : ℕ) → min ≤ max → (w : List ℕ) → Matches (Pattern.repetition min (Some max) greedy p) w
      → Concatenation (Power (Matches p) min) (UpTo (Matches p) (max - min)) w
  between_from max order w h =
      let e : h.0 ≡ min + (h.0 - min) = omega (arith, h.1.0) in
      let x = Power-split (Matches p) min (h.0 - min) w (let P : ℕ → Type 0 = λ k. Power (Matches p) k w in subst P e h.2) in
      (x.0, x.1, x.2, x.3, (h.0 - min, omega (arith, h.1.0, h.1.1), x.4))

-- one of several
pub any_to : (ps : List Pattern) (k : ℕ) (w : List ℕ) → k < length ps → Matches (get_or ps k Pattern.empty) w
    → Matches (alternation_all ps) w
any_to [] k w l h = absurd (omega arith)
any_to (p ∷ ps) zero w l h = inl h
any_to (p ∷ ps) (suc k) w l h = inr (any_to ps k w (omega arith) h)

-- what matches one of several patterns matches the one at some index
pub any_from : (ps : List Pattern) (w : List ℕ) → Matches (alternation_all ps) w → (k : ℕ) × (k < length ps)
    × Matches (get_or ps k Pattern.empty) w
any_from [] w h = absurd (omega (arith, h.2.1.1))
any_from (p ∷ ps) w (inl h) = (zero, omega arith, h)
any_from (p ∷ ps) w (inr h) = let x = any_from ps w h in (suc x.0, omega (arith, x.1), x.2)

-- where one element fewer is dropped, that element stands in front
pub drop_less : {A : Type 0} (xs : List A) (i : ℕ) (x : A) → 0 < i → i ≤ length xs → x ≡ get_or xs (i - 1) x
    → drop (i - 1) xs ≡ x ∷ drop i xs
drop_less xs i x some within is =
    let back : suc (i - 1) ≡ i = omega arith in
    drop-cons xs (i - 1) x (omega arith) ∙ ap (λ y. y ∷ drop (suc (i - 1)) xs) (sym is) ∙ ap (λ n. x ∷ drop n xs) back

-- the meaning at an index is the meaning of the tree at that index
pub meaning_at : (hs : List Hir) (k : ℕ) (h : Hir) → k < length hs → h ≡ get_or hs k h
    → get_or (map meaning hs) k Pattern.empty ≡ meaning h
meaning_at hs k h l is = get_or-map meaning hs k h Pattern.empty l ∙ sym (ap meaning is)
