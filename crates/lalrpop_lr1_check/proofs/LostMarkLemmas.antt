-- Marks that are taken back: for marks that are lent from state to state.
use Rattle.std.proofs.Common.{◌≡◌, ◌∙◌, ℕ, zero, suc, ◌+◌, ◌<◌, ◌≤◌, Bool, true, false, List, [], ◌∷◌}
use Rattle.std.proofs.Common.{length, take, set, get_or, refl, sym, ap, subst, ⊎_elim, Contains}
use Rattle.std.proofs.lemmas.List.{take_all}
use Rattle.std.proofs.lemmas.List.Elements.{Contains-append_cases}
use Rattle.lalrpop_lr1_theory.proofs.NameLemmas.{no_element}
use Rattle.lalrpop_lr1_barren.specs.Clauses.{IsMarked, has_mark}
use Rattle.lalrpop_lr1_check_lookaheads.proofs.GainLemmas.{taken_one}
use Rattle.lalrpop_lr1_check.specs.MarkGains.{LosesMarks}
use Rattle.lalrpop_lr1_check.specs.MarkLists.{AreListed}
use Rattle.lalrpop_lr1_check.specs.declared.closure.listed_marks.ListedMarks.{ListedMarks}
use Rattle.lalrpop_lr1_check.proofs.BeginLemmas.{only_one}

unset_long : (bs : List Bool) (i : ℕ) → length (set bs i false) ≡ length bs
unset_long [] i = refl
unset_long (b ∷ bs) zero = refl
unset_long (b ∷ bs) (suc i) = ap suc (unset_long bs i)

unset_kept : (bs : List Bool) (i n : ℕ) → IsMarked (set bs i false) n → IsMarked bs n
unset_kept [] i n m = m
unset_kept (b ∷ bs) zero zero m = let w : ⊥ = cc in absurd w
unset_kept (b ∷ bs) zero (suc n) m = m
unset_kept (b ∷ bs) (suc i) zero m = m
unset_kept (b ∷ bs) (suc i) (suc n) m = unset_kept bs i n m

unset_lost : (bs : List Bool) (i : ℕ) → IsMarked (set bs i false) i → ⊥
unset_lost [] i m = let w : ⊥ = cc in w
unset_lost (b ∷ bs) zero m = let w : ⊥ = cc in w
unset_lost (b ∷ bs) (suc i) m = unset_lost bs i m

-- no number is taken back
pub loses_none : (marks : List Bool) → LosesMarks [] marks marks
loses_none marks = record {
  count = refl;
  kept = λ n m. m;
  lost = λ n c m. no_element n c;
}

module _ (xs : List ℕ) (old now new : List Bool) (i : ℕ) where
  -- a number more of the first ones
  pub loses_more : (x : ℕ) → i < length xs → x ≡ get_or xs i x → LosesMarks (take i xs) old now → new ≡ set now x false →
      LosesMarks (take (i + 1) xs) old new
  loses_more x l e before is = subst (λ ys. LosesMarks ys old new) (sym (taken_one xs i x l e)) (record {
    count = ap length is ∙ unset_long now x ∙ before.count;
    kept = λ n m. before.kept n (was n m);
    lost = λ n c m. ⊎_elim
        (λ d. before.lost n d (was n m))
        (λ d. unset_lost now x (subst (IsMarked (set now x false)) (sym (only_one x n d)) (subst (λ b. IsMarked b n) is m)))
        (Contains-append_cases (take i xs) (x ∷ []) n c);
  })
    where
      was : (n : ℕ) → IsMarked new n → IsMarked now n
      was n m = unset_kept now x n (subst (λ b. IsMarked b n) is m)

-- all of them
pub loses_whole : (xs : List ℕ) (old now : List Bool) (i : ℕ) → length xs ≤ i → LosesMarks (take i xs) old now →
    LosesMarks xs old now
loses_whole xs old now i past g = subst (λ ys. LosesMarks ys old now) (take_all i xs past) g

-- where nothing is marked, no mark is set
none_set : (marks : List Bool) → ((n : ℕ) → IsMarked marks n → ⊥) → (n : ℕ) → has_mark marks n ≡ false
none_set marks none n = go (has_mark marks n) refl
  where
    go : (b : Bool) → has_mark marks n ≡ b → b ≡ false
    go true e = absurd (none n e)
    go false e = refl

-- where all that were marked are taken back, no mark is set
pub all_lost : (m : ListedMarks) (new : List Bool) → AreListed m → LosesMarks m.numbers.items m.marks.items new → (n : ℕ) →
    has_mark new n ≡ false
all_lost m new listed loses = none_set new (λ n k. loses.lost n ((listed n).1 (loses.kept n k)) k)

-- no marks, and nothing listed
pub listed_none : (m : ListedMarks) → ((n : ℕ) → has_mark m.marks.items n ≡ false) → m.numbers.items ≡ [] → AreListed m
listed_none m empty none n = (
  λ c. absurd (no_element n (subst (λ l. Contains l n) none c)),
  λ k. let both : true ≡ false = sym k ∙ empty n in let w : ⊥ = cc in absurd w,
)
