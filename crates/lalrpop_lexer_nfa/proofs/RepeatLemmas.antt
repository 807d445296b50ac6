-- The words of repeats of the empty word, and of repeats of repeats. For the functions that take repeats as one.
use Rattle.std.proofs.Common.{◌≡◌, ℕ, zero, suc, ◌+◌, ◌*◌, ◌<◌, ◌≤◌, ◌⊎◌, List, [], ◌∷◌, ◌++◌, length}
use Rattle.std.proofs.Common.{◌↔◌, Box, Global, Option, Some, None, IfSome, Bool, All, inl, inr, ⊎_elim, sym, ap, ◌∙◌, refl, subst, arith, append-nil}
use Rattle.std.specs.Prelude.{nat_eq, true}
use Rattle.std.specs.Option.{option_eq}
use Rattle.std.proofs.Math.Nat.{mul-le-mul_right, mul_assoc}
use Rattle.std.proofs.lemmas.Bool.{cases_lt, eqb-true}
use Rattle.std.proofs.lemmas.List.Elements.{All-head, All-tail, All-get_or}
use Rattle.lalrpop_lexer_pattern.specs.Matches.{Pattern, Matches, Power, concat_all, alternation_all, IsCountWithin}
use Rattle.lalrpop_lexer_pattern.specs.Meaning.{meaning}
use Rattle.lalrpop_lexer_pattern.specs.declared.tree.Repeats.{Repeats}
use Rattle.lalrpop_lexer_pattern.specs.declared.tree.Hir.{Hir, Hir-F, size-Hir, size_is-Hir, roll-Hir, out-roll-Hir}
use Rattle.lalrpop_lexer_pattern.specs.declared.tree.Hir.TheVariants.{Repetition, rolls-Repetition}
use Rattle.lalrpop_lexer_pattern.proofs.MeaningLemmas.{meaning-Repetition}
use Rattle.lalrpop_lexer_nfa.specs.Repeating.{HasEmptyWordAlone, HasOneCopy, copies_in}
use Rattle.lalrpop_lexer_nfa.proofs.LanguageLemmas.{Power-append, any_from}

-- one after another, patterns of the empty word alone match it alone
pub empty_concat : (ps : List Pattern) → All HasEmptyWordAlone ps → HasEmptyWordAlone (concat_all ps)
empty_concat [] h = λ w. (λ e. e, λ e. e)
empty_concat (p ∷ ps) h =
    let front = All-head HasEmptyWordAlone p ps h in
    let others = empty_concat ps (All-tail HasEmptyWordAlone p ps h) in
    λ w. (
      λ m. m.2 ∙ ap (λ u. u ++ m.1) ((front m.0).0 m.3) ∙ (others m.1).0 m.4,
      λ e. ([], [], e, (front []).1 refl, (others []).1 refl),
    )

-- one of some patterns of the empty word alone matches it alone
pub empty_branches : (ps : List Pattern) → 0 < length ps → All HasEmptyWordAlone ps → HasEmptyWordAlone (alternation_all ps)
empty_branches [] some h = absurd (omega arith)
empty_branches (p ∷ ps) some h = λ w. (
  λ m.
      let at = any_from (p ∷ ps) w m in
      (All-get_or HasEmptyWordAlone (p ∷ ps) at.0 Pattern.empty at.1 h w).0 at.2,
  λ e. inl ((All-head HasEmptyWordAlone p ps h w).1 e),
)

-- however often the empty word is repeated, it is the empty word
Power-empty_to : (L : List ℕ → Type 0) → ((w : List ℕ) → L w → w ≡ []) → (k : ℕ) (w : List ℕ) → Power L k w → w ≡ []
Power-empty_to L none zero w h = h
Power-empty_to L none (suc k) w h = h.2 ∙ ap (λ u. u ++ h.1) (none h.0 h.3) ∙ Power-empty_to L none k h.1 h.4

Power-empty_from : (L : List ℕ → Type 0) → L [] → (k : ℕ) → Power L k []
Power-empty_from L none zero = refl
Power-empty_from L none (suc k) = ([], [], refl, none, Power-empty_from L none k)

-- a repetition of a pattern of the empty word alone matches it alone
pub empty_repeated : (p : Pattern) (min : ℕ) (max : Option ℕ) (greedy : Bool) → IfSome max (λ m. min ≤ m) → HasEmptyWordAlone p
    → HasEmptyWordAlone (Pattern.repetition min max greedy p)
empty_repeated p min max greedy ordered h = λ w. (
  λ m. Power-empty_to (Matches p) (λ u x. (h u).0 x) m.0 w m.2,
  λ e. (
    min,
    (omega arith, ordered),
    let P : List ℕ → Type 0 = Power (Matches p) min in subst P (sym e) (Power-empty_from (Matches p) ((h []).1 refl) min),
  ),
)

-- no times a pattern is the empty word
pub empty_unrepeated : (p : Pattern) (min : ℕ) (max : Option ℕ) (greedy : Bool) → IfSome max (λ m. min ≤ m) → max ≡ Some 0
    → HasEmptyWordAlone (Pattern.repetition min max greedy p)
empty_unrepeated p min max greedy ordered e = λ w. (λ m. back w m.0 m.1 m.2, λ none. (zero, (least, most), none))
  where
    P : ℕ → Option ℕ → Type 0
    P k max = IfSome max (λ m. k ≤ m)

    least : min ≤ 0
    least = subst (P min) e ordered

    most : P 0 max
    most = subst (P 0) (sym e) (omega arith)

    back : (w : List ℕ) (k : ℕ) → IsCountWithin min max k → Power (Matches p) k w → w ≡ []
    back w zero within h = h
    back w (suc k) within h = let less : suc k ≤ 0 = subst (P (suc k)) e within.1 in absurd (omega (arith, less))

-- a count of at most one lies below the greatest count of a repetition with one copy
within_one : (max : Option ℕ) (k : ℕ) → k ≤ 1 → (max ≡ None) ⊎ (max ≡ Some 1) → IfSome max (λ m. k ≤ m)
within_one max k less (inl none) = let P : Option ℕ → Type 0 = λ o. IfSome o (λ m. k ≤ m) in subst P (sym none) tt
within_one max k less (inr one) = let P : Option ℕ → Type 0 = λ o. IfSome o (λ m. k ≤ m) in subst P (sym one) less

module _ (p : Pattern) (b : ℕ) (n : Option ℕ) (h : Bool) where
  -- a word of k repetitions is one of some count of the piece, which is at least k, or at most, where each has one at least, or
  -- at most
  flat : (k : ℕ) (w : List ℕ) → Power (Matches (Pattern.repetition b n h p)) k w
      → (j : ℕ) × ((0 < b → k ≤ j) × ((n ≡ Some 1 → j ≤ k) × Power (Matches p) j w))
  flat zero w e = (zero, (λ some. omega arith, (λ one. omega arith, e)))
  flat (suc k) w x =
      let r = flat k x.1 x.4 in
      let i = x.3.0 in (
        i + r.0,
        (
          λ some. omega (arith, x.3.1.0, some, r.1.0 some),
          (
            λ one.
                let P : Option ℕ → Type 0 = λ o. IfSome o (λ m. i ≤ m) in
                let less : i ≤ 1 = subst P one x.3.1.1 in
                omega (arith, less, r.1.1.0 one),
            let P : List ℕ → Type 0 = Power (Matches p) (i + r.0) in
                subst P (sym x.2) (Power-append (Matches p) i r.0 x.0 x.1 x.3.2 r.1.1.1),
          ),
        ),
      )

  -- each of j pieces is a repetition of one
  ones : b ≤ 1 → (n ≡ None) ⊎ (n ≡ Some 1) → (j : ℕ) (w : List ℕ) → Power (Matches p) j w
      → Power (Matches (Pattern.repetition b n h p)) j w
  ones least most zero w e = e
  ones least most (suc j) w x = (
    x.0,
    x.1,
    x.2,
    (1, (omega arith, within_one n 1 (omega arith) most), (x.0, [], sym (append-nil x.0), x.3, refl)),
    ones least most j x.1 x.4,
  )

  -- all of j pieces are one repetition
  whole : (j : ℕ) (w : List ℕ) → IsCountWithin b n j → Power (Matches p) j w
      → Power (Matches (Pattern.repetition b n h p)) 1 w
  whole j w within x = (w, [], sym (append-nil w), (j, within, x), refl)

-- the counts of a repetition of which each has one copy, by those of its repetitions
pub record AreJoinedCounts (a : ℕ) (m : Option ℕ) (b : ℕ) (n : Option ℕ) (least : ℕ) (most : Option ℕ) : Type 0 where
  pub none : a ≡ 0 → least ≡ 0
  pub some : 0 < a → least ≡ b
  pub endless : m ≡ None → most ≡ None
  pub bounded : m ≡ Some 1 → most ≡ n

module _ (p : Pattern) (a b least : ℕ) (m n most : Option ℕ) (g h f : Bool) (outer : HasOneCopy a m) (inner : HasOneCopy b n)
    (counts : AreJoinedCounts a m b n least most) where
  to_within : (k j : ℕ) → IsCountWithin a m k → (0 < b → k ≤ j) → (n ≡ Some 1 → j ≤ k) → IsCountWithin least most j
  to_within k j within more fewer = (low, high outer.1 inner.1)
    where
      low : least ≤ j
      low =
          ⊎_elim
          (λ (some : 0 < a).
          ⊎_elim (λ (one : 0 < b). omega (arith, counts.some some, inner.0, within.0, some, more one))
          (λ (zero_b : b ≤ 0). omega (arith, counts.some some, zero_b)) (cases_lt 0 b))
          (λ (none : a ≤ 0). omega (arith, counts.none (omega (arith, none))))
          (cases_lt 0 a)

      high : (m ≡ None) ⊎ (m ≡ Some 1) → (n ≡ None) ⊎ (n ≡ Some 1) → IfSome most (λ x. j ≤ x)
      high (inl none) y = let P : Option ℕ → Type 0 = λ o. IfSome o (λ x. j ≤ x) in subst P (sym (counts.endless none)) tt
      high (inr one) (inl none) =
          let P : Option ℕ → Type 0 = λ o. IfSome o (λ x. j ≤ x) in subst P (sym (counts.bounded one ∙ none)) tt
      high (inr one) (inr once) =
          let Q : Option ℕ → Type 0 = λ o. IfSome o (λ x. k ≤ x) in
          let less : k ≤ 1 = subst Q one within.1 in
          let P : Option ℕ → Type 0 = λ o. IfSome o (λ x. j ≤ x) in
          subst P (sym (counts.bounded one ∙ once)) (omega (arith, less, fewer once))

  pub joined_from : (w : List ℕ) → Matches (Pattern.repetition a m g (Pattern.repetition b n h p)) w
      → Matches (Pattern.repetition least most f p) w
  joined_from w x =
      let r = flat p b n h x.0 w x.2 in
      (r.0, to_within x.0 r.0 x.1 r.1.0 r.1.1.0, r.1.1.1)

  pub joined_to : (w : List ℕ) → Matches (Pattern.repetition least most f p) w
      → Matches (Pattern.repetition a m g (Pattern.repetition b n h p)) w
  joined_to w x = by_most outer.1
    where
      j : ℕ
      j = x.0

      none_left : j ≡ 0 → w ≡ []
      none_left e = let P : ℕ → Type 0 = λ i. Power (Matches p) i w in subst P e x.2

      by_most : (m ≡ None) ⊎ (m ≡ Some 1) → Matches (Pattern.repetition a m g (Pattern.repetition b n h p)) w
      by_most (inl none) =
          ⊎_elim
          (λ (less : j < a).
          let e : j ≡ 0 = omega (arith, less, outer.0) in
          let e_least : least ≡ b = counts.some (omega (arith, less)) in
          let low : b ≤ j = omega (arith, x.1.0, e_least) in (
            1,
            (outer.0, within_one m 1 (omega arith) outer.1),
            whole p b n h j w (low, within_one n j (omega (arith, e)) inner.1) x.2,
          ))
          (λ (enough : a ≤ j). (
            j,
            (enough, (let P : Option ℕ → Type 0 = λ o. IfSome o (λ i. j ≤ i) in subst P (sym none) tt)),
            ones p b n h inner.0 inner.1 j w x.2,
          ))
          (cases_lt j a)
      by_most (inr one) =
          ⊎_elim
          (λ (less : j < b).
          let e : j ≡ 0 = omega (arith, less, inner.0) in
          let low : a ≤ 0 = ⊎_elim (λ (some : 0 < a). absurd (omega (arith, counts.some some, less, x.1.0)))
          (λ (zero_a : a ≤ 0). zero_a) (cases_lt 0 a) in
          (0, (low, within_one m 0 (omega arith) outer.1), none_left e))
          (λ (enough : b ≤ j). (
            1,
            (outer.0, within_one m 1 (omega arith) outer.1),
            whole p b n h j w
                (enough, (let P : Option ℕ → Type 0 = λ o. IfSome o (λ i. j ≤ i) in subst P (counts.bounded one) x.1.1)) x.2,
          ))
          (cases_lt j b)

-- one repetition further inwards
pub merge_step : (X : List ℕ → Type 0) (outer inner whole : Repeats) (piece deeper : Hir) (sub : Box Hir Global)
    → piece ≡ Repetition inner sub → deeper ≡ sub.value
    → ((w : List ℕ) → Matches (Pattern.repetition outer.min outer.max outer.greedy (meaning piece)) w ↔ X w)
    → ((p : Pattern) (w : List ℕ) → Matches (Pattern.repetition whole.min whole.max whole.greedy p) w
    ↔ Matches (Pattern.repetition outer.min outer.max outer.greedy (Pattern.repetition inner.min inner.max inner.greedy p)) w)
    → (w : List ℕ) → Matches (Pattern.repetition whole.min whole.max whole.greedy (meaning deeper)) w ↔ X w
merge_step X outer inner whole piece deeper sub is at same joined =
    let e : meaning piece ≡ Pattern.repetition inner.min inner.max inner.greedy (meaning deeper) =
    ap meaning is ∙ meaning-Repetition inner sub
    ∙ ap (λ (h : Hir). Pattern.repetition inner.min inner.max inner.greedy (meaning h)) (sym at) in
    λ w.
    let P : Pattern → Type 0 = λ q. Matches (Pattern.repetition outer.min outer.max outer.greedy q) w in (
      λ x. (same w).0 (subst P (sym e) ((joined (meaning deeper) w).0 x)),
      λ x. (joined (meaning deeper) w).1 (subst P e ((same w).1 x)),
    )

-- a count that compares equal to another is that one
pub same_count : (o : Option ℕ) (k : ℕ) → option_eq nat_eq o (Some k) ≡ true → o ≡ Some k
same_count None k e = absurd cc
same_count (Some m) k e = ap (λ (n : ℕ). Some n) (eqb-true m k e)

-- what is repeated is less deep
pub size-repeated : (r : Repeats) (sub : Box Hir Global) → size-Hir sub.value < size-Hir (Repetition r sub)
size-repeated r sub =
    let h = size_is-Hir (roll-Hir (Hir-F.Repetition r sub)) in
    let g = rw out-roll-Hir at h in
    let P : Hir → Type 0 = λ d. size-Hir sub.value < size-Hir d in
    subst P (rolls-Repetition r sub) (omega (arith, g))

-- a product that is cut off times the copies further inwards is no more than all copies
pub copies_step : (count k cut p total : ℕ) → cut ≤ count * k → count * (k * p) ≤ total → cut * p ≤ total
copies_step count k cut p total less within =
    let one : cut * p ≤ count * k * p = mul-le-mul_right p less in
    omega (arith, one, mul_assoc count k p, within)

-- pieces that follow one another are no repetition
pub copies_in_concat : (ps : List Pattern) → copies_in (concat_all ps) ≡ 1
copies_in_concat [] = refl
copies_in_concat (p ∷ ps) = refl

-- nor are branches
pub copies_in_alternation : (ps : List Pattern) → copies_in (alternation_all ps) ≡ 1
copies_in_alternation [] = refl
copies_in_alternation (p ∷ ps) = refl

-- at a piece that is no repetition all copies were counted
pub copies_last : (count c total : ℕ) → c ≡ 1 → count * c ≤ total → count ≤ total
copies_last count c total one within =
    let P : ℕ → Type 0 = λ n. count * n ≤ total in
    let once : count * 1 ≤ total = subst P one within in
    omega (arith, once)
