-- What marks gain that are listed: for the names and productions that are marked for a state.
use Rattle.std.proofs.Common.{◌≡◌, ◌∙◌, ◌↔◌, ℕ, ◌+◌, ◌<◌, ◌≤◌, List, [], ◌∷◌, length, take, get_or}
use Rattle.std.proofs.Common.{subst, inl, inr, ⊎_elim, Contains, Some, slice_get, false}
use Rattle.lalrpop_lr1_theory.proofs.ListLemmas.{contains_here}
use Rattle.lalrpop_lr1_barren.specs.Clauses.{IsMarked, has_mark}
use Rattle.lalrpop_lr1_check.specs.BeginLists.{Queues}
use Rattle.lalrpop_lr1_check.specs.MarkGains.{IsMarkOfSome}
use Rattle.lalrpop_lr1_check.specs.MarkLists.{AreMarksFor, GainsListed}
use Rattle.lalrpop_lr1_check.specs.declared.closure.listed_marks.ListedMarks.{ListedMarks}
use Rattle.lalrpop_lr1_check.proofs.BeginLemmas.{only_one}
use Rattle.lalrpop_lr1_check.proofs.MarkLemmas.{gained_marks, gains_first, gains_missing, gains_next, gains_nothing, gains_same, gains_whole}

-- nothing is gained
pub listed_nothing : (m : ListedMarks) (Mark : ℕ → Type 0) → ((n : ℕ) → Mark n → ⊥) → GainsListed m m Mark
listed_nothing m Mark none = record { gains = gains_nothing m.marks.items Mark none; listed = λ l. l }

-- the same marks by another name
pub listed_same : (old new : ListedMarks) (Mark Other : ℕ → Type 0) → ((n : ℕ) → Mark n ↔ Other n) → GainsListed old new Mark →
    GainsListed old new Other
listed_same old new Mark Other same g =
    record { gains = gains_same old.marks.items new.marks.items Mark Other same g.gains; listed = g.listed }

module _ {X : Type 0} (xs : List X) (x : X) where
  -- an element that isn't there marks nothing
  pub listed_missing : (m : ListedMarks) → (Contains xs x → ⊥) → GainsListed m m (λ n. slice_get xs n ≡ Some x)
  listed_missing m missing = record { gains = gains_missing xs x m.marks.items missing; listed = λ l. l }

  -- one that is there once marks its place
  pub listed_place : (old new : ListedMarks) (k : ℕ) → k < length old.marks.items → slice_get xs k ≡ Some x →
      ((i j : ℕ) → slice_get xs i ≡ Some x → slice_get xs j ≡ Some x → i ≡ j) →
      Queues (k ∷ []) old.marks.items new.marks.items old.numbers.items new.numbers.items →
      GainsListed old new (λ n. slice_get xs n ≡ Some x)
  listed_place old new k within at once q = record {
    gains = record {
      count = q.count;
      marks = λ n. (
        λ m. ⊎_elim (λ o. inl o) (λ c. inr (subst (λ i. slice_get xs i ≡ Some x) (only_one k n c) at)) (q.from n m),
        λ h. ⊎_elim (λ o. q.has n o) (λ e. own n (once k n at e)) h,
      );
    };
    listed = λ l n. (
      λ c. ⊎_elim (λ o. q.has n ((l n).0 o)) (λ d. own n (only_one k n d)) (q.only n c),
      λ m. q.queued (λ i o. (l i).1 o) n m,
    );
  }
    where
      own : (n : ℕ) → k ≡ n → IsMarked new.marks.items n
      own n e = subst (IsMarked new.marks.items) e (q.marks k (contains_here k []) within)

module _ {X : Type 0} (Mark : X → ℕ → Type 0) (old : ListedMarks) (xs : List X) where
  -- before the first element
  pub listed_first : GainsListed old old (IsMarkOfSome Mark [])
  listed_first = record { gains = gains_first Mark old.marks.items xs; listed = λ l. l }

  -- an element more
  pub listed_next : (now new : ListedMarks) (i : ℕ) (x : X) → i < length xs → x ≡ get_or xs i x →
      GainsListed old now (IsMarkOfSome Mark (take i xs)) → GainsListed now new (Mark x) →
      GainsListed old new (IsMarkOfSome Mark (take (i + 1) xs))
  listed_next now new i x within is before own = record {
    gains = gains_next Mark old.marks.items xs now.marks.items new.marks.items i x within is before.gains own.gains;
    listed = λ l. own.listed (before.listed l);
  }

  -- all elements
  pub listed_whole : (now : ListedMarks) (i : ℕ) → length xs ≤ i → GainsListed old now (IsMarkOfSome Mark (take i xs)) →
      GainsListed old now (IsMarkOfSome Mark xs)
  listed_whole now i end g = record {
    gains = gains_whole Mark old.marks.items xs now.marks.items i end g.gains;
    listed = g.listed;
  }

-- where none was set, those that were gained are all
pub listed_gained : (old new : ListedMarks) (Mark : ℕ → Type 0) → ((k : ℕ) → has_mark old.marks.items k ≡ false) →
    GainsListed old new Mark → (n : ℕ) → IsMarked new.marks.items n ↔ Mark n
listed_gained old new Mark empty g = gained_marks old.marks.items new.marks.items Mark empty g.gains

-- so many marks that gain some are as many, and listed
pub gained_for : (old new : ListedMarks) (Mark : ℕ → Type 0) (count : ℕ) → AreMarksFor count old → GainsListed old new Mark →
    AreMarksFor count new
gained_for old new Mark count are g = record { long = g.gains.count ∙ are.long; listed = g.listed are.listed }
