-- A set that comes into one of the columns: for insert, and for loops that insert.
use Rattle.std.proofs.Common.{◌≡◌, ◌∙◌, ◌↔◌, ◌⊎◌, ◌<◌, ◌≤◌, ℕ, zero, suc, ◌+◌, Bool, true, false, ◌||◌, List, [], ◌∷◌, length, set, get_or}
use Rattle.std.proofs.Common.{refl, sym, ap, subst, inl, inr, ⊎_elim, arith, Some, Result, Ok, Err, IsTrue, IsFalse, OnOk, length-set}
use Rattle.std.specs.Prelude.{slice_get, All}
use Rattle.std.proofs.lemmas.Option.{slice_get_within}
use Rattle.std.proofs.lemmas.List.Elements.{All-contains}
use Rattle.lalrpop_lr1_theory.proofs.ListLemmas.{get_contains}
use Rattle.lalrpop_lr1_theory.proofs.StepLemmas.{some_same}
use Rattle.lalrpop_sets.specs.AscendingLists.{has}
use Rattle.lalrpop_sets.proofs.AscendingListLemmas.{cases_eq}
use Rattle.lalrpop_lane_theory.specs.Columns.{GathersColumns, InColumn, MeetsAnother}
use Rattle.lalrpop_lane_tables.specs.ColumnAnswers.{ColumnsMeetComing, GatherAnswer, GathersApart, HasToken, IsColumnOfSet}
use Rattle.lalrpop_lane_tables.specs.ColumnAnswers.{IsOverlap, NewTokens}
use Rattle.lalrpop_lane_tables.specs.declared.context_sets.ContextFault.{ContextFault}
use Rattle.lalrpop_lane_tables.specs.declared.context_sets.ContextFault.TheVariants.{Overlap, Memory}

pub get_of : {X : Type 0} (xs : List X) (k : ℕ) (x : X) → k < length xs → x ≡ get_or xs k x → slice_get xs k ≡ Some x
get_of [] k x h e = absurd (omega arith)
get_of (y ∷ ys) zero x h e = ap (λ v. Some v) (sym e)
get_of (y ∷ ys) (suc k) x h e = get_of ys k x (omega (arith, h)) e

pub or_splits : (a b c : Bool) → c ≡ (a || b) → (c ≡ true) ↔ ((a ≡ true) ⊎ (b ≡ true))
or_splits true b c e = (λ h. inl refl, λ v. e)
or_splits false b c e = (λ h. inr (sym e ∙ h), λ v. ⊎_elim (λ f. let z : ⊥ = cc in absurd z) (λ f. e ∙ f) v)

-- places of a list that was written to
set_here : {X : Type 0} (xs : List X) (n : ℕ) (v : X) → n < length xs → slice_get (set xs n v) n ≡ Some v
set_here [] n v h = absurd (omega arith)
set_here (x ∷ xs) zero v h = refl
set_here (x ∷ xs) (suc n) v h = set_here xs n v (omega (arith, h))

set_past : {X : Type 0} (xs : List X) (n k : ℕ) (v : X) → (k ≡ n → ⊥) → slice_get (set xs n v) k ≡ slice_get xs k
set_past [] zero k v h = refl
set_past [] (suc n) k v h = refl
set_past (x ∷ xs) zero zero v h = absurd (h refl)
set_past (x ∷ xs) zero (suc k) v h = refl
set_past (x ∷ xs) (suc n) zero v h = refl
set_past (x ∷ xs) (suc n) (suc k) v h = set_past xs n k v (λ e. h (ap suc e))

-- what is in a column, where its set is known
pub column_is : (columns : List (List ℕ)) (c : ℕ) (own : List ℕ) (x : ℕ) → slice_get columns c ≡ Some own →
    InColumn HasToken columns c x → HasToken own x
column_is columns c own x at i = subst (λ l. has l x ≡ true) (some_same i.0 own (sym i.1 ∙ at)) i.2

-- columns without tokens hold none
pub empty_holds : (columns : List (List ℕ)) → All (λ tokens. tokens ≡ []) columns → (c x : ℕ) → InColumn HasToken columns c x → ⊥
empty_holds columns none c x i =
    let e : i.0 ≡ [] = All-contains (λ (tokens : List ℕ). tokens ≡ []) columns i.0 none (get_contains columns c i.0 i.1) in
    let z : false ≡ true = subst (λ (l : List ℕ). has l x ≡ true) e i.2 in
    let w : ⊥ = cc in w

-- what another column has is what comes and meets
pub meets_coming : (columns : List (List ℕ)) (c : ℕ) (s : List ℕ) → MeetsAnother HasToken columns c s →
    ColumnsMeetComing columns (IsColumnOfSet c s)
meets_coming columns c s m = record {
  one = c;
  other = m.column;
  token = m.token;
  apart = λ e. m.another (sym e);
  comes = (refl, m.here);
  there = inl m.there;
}

pub coming_meets : (columns : List (List ℕ)) (c : ℕ) (s : List ℕ) → ColumnsMeetComing columns (IsColumnOfSet c s) →
    MeetsAnother HasToken columns c s
coming_meets columns c s m = record {
  column = m.other;
  token = m.token;
  another = λ e. m.apart (sym m.comes.0 ∙ sym e);
  there = ⊎_elim (λ i. i) (λ t. absurd (m.apart (sym m.comes.0 ∙ t.0))) m.there;
  here = m.comes.1;
}

module _ (columns : List (List ℕ)) (c : ℕ) (s old joined : List ℕ) (here : c < length columns) (is : old ≡ get_or columns c old)
    (joins : (k : ℕ) → has joined k ≡ (has old k || has s k)) where
  at_old : slice_get columns c ≡ Some old
  at_old = get_of columns c old here is

  holds_now : (d x : ℕ) → InColumn HasToken (set columns c joined) d x ↔ (InColumn HasToken columns d x ⊎ IsColumnOfSet c s d x)
  holds_now d x = ⊎_elim own other (cases_eq d c)
    where
      r : (has joined x ≡ true) ↔ ((has old x ≡ true) ⊎ (has s x ≡ true))
      r = or_splits (has old x) (has s x) (has joined x) (joins x)

      own : d ≡ c → InColumn HasToken (set columns c joined) d x ↔ (InColumn HasToken columns d x ⊎ IsColumnOfSet c s d x)
      own e =
          let before : slice_get columns d ≡ Some old = ap (slice_get columns) e ∙ at_old in
          let after : slice_get (set columns c joined) d ≡ Some joined =
          ap (slice_get (set columns c joined)) e ∙ set_here columns c joined here in (
            λ i. ⊎_elim (λ o. inl (old, before, o)) (λ t. inr (sym e, t)) (r.0 (column_is (set columns c joined) d joined x after i)),
            λ v. (
              joined,
              after,
              r.1 (⊎_elim (λ i. inl (column_is columns d old x before i)) (λ t. inr t.1) v),
            ),
          )

      other : (d ≡ c → ⊥) → InColumn HasToken (set columns c joined) d x ↔ (InColumn HasToken columns d x ⊎ IsColumnOfSet c s d x)
      other n = (
        λ i. inl (i.0, sym (set_past columns c d joined n) ∙ i.1, i.2),
        λ v. ⊎_elim (λ i. (i.0, set_past columns c d joined n ∙ i.1, i.2)) (λ t. absurd (n (sym t.0))) v,
      )

  -- a set that meets no other column
  pub insert_gathers : (MeetsAnother HasToken columns c s → ⊥) →
      GathersColumns HasToken (IsColumnOfSet c s) columns (set columns c joined)
  insert_gathers free = record {
    count = length-set columns c joined;
    holds = holds_now;
    apart = λ apart a b x i j. ⊎_elim
        (λ o. ⊎_elim (λ p. apart a b x o p) (λ t. meets a b x o t) ((holds_now b x).0 j))
        (λ t. ⊎_elim (λ p. sym (meets b a x p t)) (λ u. sym t.0 ∙ u.0) ((holds_now b x).0 j)) ((holds_now a x).0 i);
  }
    where
      meets : (a b x : ℕ) → InColumn HasToken columns a x → IsColumnOfSet c s b x → a ≡ b
      meets a b x o t = ⊎_elim
          (λ e. e ∙ t.0)
          (λ n. absurd (free (record { column = a; token = x; another = n; there = o; here = t.1 }))) (cases_eq a c)

  -- some came exactly where the column lacked some
  pub insert_came : (came : Bool) → (IsFalse came → joined ≡ old) →
      (IsTrue came → (k : ℕ) × (has joined k ≡ true) × (has old k ≡ false)) → IsTrue came ↔ NewTokens columns c s
  insert_came came same grown = (λ yes. there (grown yes), back came same)
    where
      there : (k : ℕ) × (has joined k ≡ true) × (has old k ≡ false) → NewTokens columns c s
      there k = (
        k.0,
        ⊎_elim (λ o. let w : ⊥ = lacks o in absurd w) (λ t. t) ((or_splits (has old k.0) (has s k.0) (has joined k.0) (joins k.0)).0 k.1),
        λ i. lacks (column_is columns c old k.0 at_old i),
      )
        where
          lacks : has old k.0 ≡ true → ⊥
          lacks o = let z : true ≡ false = sym o ∙ k.2 in cc

      back : (b : Bool) → (IsFalse b → joined ≡ old) → NewTokens columns c s → IsTrue b
      back true h n = refl
      back false h n =
          let z : has joined n.0 ≡ true = (or_splits (has old n.0) (has s n.0) (has joined n.0) (joins n.0)).1 (inr n.1) in
          absurd (n.2 (old, at_old, subst (λ l. has l n.0 ≡ true) (h refl) z))

-- what insert says is an answer of columns that gather
pub answer_of_insert : (r : Result Bool ContextFault) (c : ℕ) (s : List ℕ) (old new : List (List ℕ)) →
    (IsOverlap r ↔ MeetsAnother HasToken old c s) → OnOk r (GathersColumns HasToken (IsColumnOfSet c s) old new) →
    GatherAnswer (IsColumnOfSet c s) old new r
answer_of_insert (Ok came) c s old new refused gathers =
    record { gathers = gathers; free = λ m. refused.1 (coming_meets old c s m) }
answer_of_insert (Err (Overlap o)) c s old new refused gathers = meets_coming old c s (refused.0 tt)
answer_of_insert (Err Memory) c s old new refused gathers = tt

-- nothing comes
pub gathers_none : (P : ℕ → ℕ → Type 0) (old : List (List ℕ)) → ((c x : ℕ) → P c x → ⊥) → GathersApart P old old
gathers_none P old none = record {
  gathers = record {
    count = refl;
    holds = λ c x. (λ i. inl i, λ h. ⊎_elim (λ i. i) (λ p. absurd (none c x p)) h);
    apart = λ h. h;
  };
  free = λ m. none m.one m.token m.comes;
}

-- one comes after the other
pub gathers_both : (P Q R : ℕ → ℕ → Type 0) (old mid new : List (List ℕ)) → ((c x : ℕ) → R c x ↔ (P c x ⊎ Q c x)) →
    GathersApart P old mid → GathersApart Q mid new → GathersApart R old new
gathers_both P Q R old mid new both f g = record {
  gathers = record {
    count = g.gathers.count ∙ f.gathers.count;
    holds = λ c x. (
      λ n. ⊎_elim
          (λ m. ⊎_elim (λ o. inl o) (λ p. inr ((both c x).1 (inl p))) ((f.gathers.holds c x).0 m))
          (λ q. inr ((both c x).1 (inr q))) ((g.gathers.holds c x).0 n),
      λ h. ⊎_elim
          (λ o. (g.gathers.holds c x).1 (inl ((f.gathers.holds c x).1 (inl o))))
          (λ r. ⊎_elim (λ p. (g.gathers.holds c x).1 (inl ((f.gathers.holds c x).1 (inr p)))) (λ q. (g.gathers.holds c x).1 (inr q)) ((both c x).0 r)) h,
    );
    apart = λ h. g.gathers.apart (f.gathers.apart h);
  };
  free = λ m. meets m ((both m.one m.token).0 m.comes) m.there;
}
  where
    by_first : (a b x : ℕ) → (a ≡ b → ⊥) → P a x → InColumn HasToken old b x ⊎ P b x → ⊥
    by_first a b x n p there = f.free (record { one = a; other = b; token = x; apart = n; comes = p; there = there })

    by_second : (a b x : ℕ) → (a ≡ b → ⊥) → Q a x → InColumn HasToken mid b x ⊎ Q b x → ⊥
    by_second a b x n q there = g.free (record { one = a; other = b; token = x; apart = n; comes = q; there = there })

    meets : (m : ColumnsMeetComing old R) → P m.one m.token ⊎ Q m.one m.token → InColumn HasToken old m.other m.token ⊎ R m.other m.token → ⊥
    meets m (inl p) (inl i) = by_first m.one m.other m.token m.apart p (inl i)
    meets m (inl p) (inr r) = ⊎_elim
        (λ q. by_first m.one m.other m.token m.apart p (inr q))
        (λ q. by_second m.other m.one m.token (λ e. m.apart (sym e)) q (inl ((f.gathers.holds m.one m.token).1 (inr p))))
        ((both m.other m.token).0 r)
    meets m (inr q) (inl i) = by_second m.one m.other m.token m.apart q (inl ((f.gathers.holds m.other m.token).1 (inl i)))
    meets m (inr q) (inr r) = ⊎_elim
        (λ p. by_second m.one m.other m.token m.apart q (inl ((f.gathers.holds m.other m.token).1 (inr p))))
        (λ p. by_second m.one m.other m.token m.apart q (inr p))
        ((both m.other m.token).0 r)

-- the columns of others up to a place
abbrev pub ColumnsBelow : List (List ℕ) → ℕ → ℕ → ℕ → Type 0
ColumnsBelow others i c x = (c < i) × InColumn HasToken others c x

-- one column more
pub column_more : (others : List (List ℕ)) (i : ℕ) (s : List ℕ) → slice_get others i ≡ Some s → (c x : ℕ) →
    ColumnsBelow others (i + 1) c x ↔ (ColumnsBelow others i c x ⊎ IsColumnOfSet i s c x)
column_more others i s at c x = (
  λ h. ⊎_elim (λ e. inr (sym e, column_is others c s x (ap (slice_get others) e ∙ at) h.1)) (λ n. inl (omega (arith, h.0, n), h.1)) (cases_eq c i),
  λ v. ⊎_elim (λ h. (omega (arith, h.0), h.1)) (λ t. (omega (arith, t.0), (s, sym (ap (slice_get others) t.0) ∙ at, t.1))) v,
)

-- all columns
pub columns_all : (others : List (List ℕ)) (i : ℕ) → length others ≤ i → (c x : ℕ) →
    ColumnsBelow others i c x ↔ InColumn HasToken others c x
columns_all others i all c x = (λ h. h.1, λ h. (omega (arith, all, slice_get_within others c h.0 h.1), h))

-- one column more is refused
pub column_refused : (A B : Type 0) (others : List (List ℕ)) (i : ℕ) (s : List ℕ) (old mid next end : List (List ℕ)) (f : ContextFault) →
    slice_get others i ≡ Some s → GathersApart (ColumnsBelow others i) old mid →
    GatherAnswer {A = A} (IsColumnOfSet i s) mid next (Err f) → GatherAnswer {A = B} (InColumn HasToken others) old end (Err f)
column_refused A B others i s old mid next end (Overlap o) at g m = record {
  one = i;
  other = m.other;
  token = m.token;
  apart = λ e. m.apart (sym m.comes.0 ∙ e);
  comes = (s, at, m.comes.1);
  there = ⊎_elim
      (λ n. ⊎_elim (λ w. inl w) (λ b. inr b.1) ((g.gathers.holds m.other m.token).0 n))
      (λ t. absurd (m.apart (sym m.comes.0 ∙ t.0))) m.there;
}
column_refused A B others i s old mid next end Memory at g m = tt
