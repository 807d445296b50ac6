-- Classes of keys: whether two meet, a class that comes, and two that are joined.
use Rattle.std.proofs.Common.{◌≡◌, ◌∙◌, ◌⊎◌, ◌<◌, ◌+◌, ◌||◌, ◌==◌, ℕ, zero, suc, Bool, true, false, List, [], ◌∷◌, ◌++◌, map, length, refl, sym, ap, subst}
use Rattle.std.proofs.Common.{inl, inr, ⊎_elim, arith, All, Err, Ok, Result, OnErr, Some, slice_get, nat_eq, set, get_or, take, drop, add-one}
use Rattle.std.specs.Prelude.{if◌then◌else◌, unwrap_or}
use Rattle.std.proofs.lemmas.Bool.Decides.{Decides-eqb}
use Rattle.std.proofs.lemmas.List.Elements.{All-contains, All-head, All-map, All-tail, All-weaker}
use Rattle.lalrpop_lr1_theory.proofs.ListLemmas.{get_contains, get_last}
use Rattle.lalrpop_lr1_theory.proofs.StepLemmas.{some_same}
use Rattle.lalrpop_lr1_core.proofs.MemberLemmas.{in_map}
use Rattle.lalrpop_lane_theory.specs.Columns.{GathersColumns, InColumn, MeetsAnother}
use Rattle.lalrpop_lane_tables.specs.ColumnAnswers.{ColumnsMeetComing, HasToken, IsOverlap}
use Rattle.lalrpop_lane_tables.specs.UnifiedClasses.{AddsClass, ClassEntry, ClassesOverlap, UnifiesClasses}
use Rattle.lalrpop_lane_tables.specs.UnifiedClasses.{class_entries, class_entry, joined_entry}
use Rattle.lalrpop_lane_tables.specs.declared.context_sets.ContextFault.{ContextFault}
use Rattle.lalrpop_lane_tables.specs.declared.context_sets.ContextFault.TheVariants.{Memory, Overlap}

-- a set of the one meets another column of either, and none of its sets does
pub others_meet : (a b : List (List ℕ)) (i : ℕ) (tokens : List ℕ) → slice_get b i ≡ Some tokens →
    (MeetsAnother HasToken a i tokens ⊎ MeetsAnother HasToken b i tokens) → ColumnsMeetComing a (InColumn HasToken b)
others_meet a b i tokens at h = ⊎_elim
    (λ m. record {
      one = i;
      other = m.column;
      token = m.token;
      apart = λ e. m.another (sym e);
      comes = (tokens, at, m.here);
      there = inl m.there;
    })
    (λ m. record {
      one = i;
      other = m.column;
      token = m.token;
      apart = λ e. m.another (sym e);
      comes = (tokens, at, m.here);
      there = inr m.there;
    }) h

pub none_meet : (a b : List (List ℕ)) →
    ((i : ℕ) (tokens : List ℕ) → slice_get b i ≡ Some tokens → (MeetsAnother HasToken a i tokens ⊎ MeetsAnother HasToken b i tokens) → ⊥) →
    ColumnsMeetComing a (InColumn HasToken b) → ⊥
none_meet a b none m =
    none m.one m.comes.0 m.comes.1 (⊎_elim
    (λ t. inl (record { column = m.other; token = m.token; another = λ e. m.apart (sym e); there = t; here = m.comes.2 }))
    (λ t. inr (record { column = m.other; token = m.token; another = λ e. m.apart (sym e); there = t; here = m.comes.2 })) m.there)

place_of : (j n : ℕ) → j < n + 1 → (j < n) ⊎ (j ≡ n)
place_of j n h = grind arith

-- nor does one set more
pub none_meet_more : (a b : List (List ℕ)) (n : ℕ) (s : List ℕ) → slice_get b n ≡ Some s →
    ((i : ℕ) (tokens : List ℕ) → i < n → slice_get b i ≡ Some tokens →
    (MeetsAnother HasToken a i tokens ⊎ MeetsAnother HasToken b i tokens) → ⊥) →
    ((MeetsAnother HasToken a n s ⊎ MeetsAnother HasToken b n s) → ⊥) → (i : ℕ) (tokens : List ℕ) → i < n + 1 →
    slice_get b i ≡ Some tokens → (MeetsAnother HasToken a i tokens ⊎ MeetsAnother HasToken b i tokens) → ⊥
none_meet_more a b n s at none last i tokens h there =
    ⊎_elim (λ before. none i tokens before there)
    (λ e m. last (subst (λ t. MeetsAnother HasToken a n t ⊎ MeetsAnother HasToken b n t)
    (some_same tokens s (sym there ∙ ap (slice_get b) e ∙ at))
    (subst (λ k. MeetsAnother HasToken a k tokens ⊎ MeetsAnother HasToken b k tokens) e m))) (place_of i n h)

-- a place of columns, where more come behind them, and where others are written
get_before : (xs : List (List (List ℕ))) (x : List (List ℕ)) (c : ℕ) → c < length xs → slice_get (xs ++ x ∷ []) c ≡ slice_get xs c
get_before [] x c h = absurd (omega (arith, h))
get_before (y ∷ ys) x zero h = refl
get_before (y ∷ ys) x (suc c) h = get_before ys x c (omega (arith, h))

written_here : (xs : List (List (List ℕ))) (c : ℕ) (x : List (List ℕ)) → c < length xs → slice_get (set xs c x) c ≡ Some x
written_here [] c x h = absurd (omega (arith, h))
written_here (y ∷ ys) zero x h = refl
written_here (y ∷ ys) (suc c) x h = written_here ys c x (omega (arith, h))

written_elsewhere : (xs : List (List (List ℕ))) (c d : ℕ) (x : List (List ℕ)) → (d ≡ c → ⊥) → slice_get (set xs c x) d ≡ slice_get xs d
written_elsewhere [] c d x other = refl
written_elsewhere (y ∷ ys) zero zero x other = absurd (other refl)
written_elsewhere (y ∷ ys) zero (suc d) x other = refl
written_elsewhere (y ∷ ys) (suc c) zero x other = refl
written_elsewhere (y ∷ ys) (suc c) (suc d) x other = written_elsewhere ys c d x (λ e. other (ap suc e))

-- the entry at a key
pub entry_at : (classes : List ℕ) (columns : List (List (List ℕ))) (k c : ℕ) (x : List (List ℕ)) → slice_get classes k ≡ Some c →
    slice_get columns c ≡ Some x → slice_get (class_entries classes columns) k ≡ Some (c, x)
entry_at [] columns k c x at is = let w : ⊥ = cc in absurd w
entry_at (d ∷ ds) columns zero c x at is =
    ap (λ e. Some (class_entry columns e)) (some_same d c at) ∙ ap (λ o. Some (c, unwrap_or o [])) is
entry_at (d ∷ ds) columns (suc k) c x at is = entry_at ds columns k c x at is

-- a class comes
pub entries_stay : (classes : List ℕ) (columns : List (List (List ℕ))) (x : List (List ℕ)) → All (λ c. c < length columns) classes →
    class_entries classes (columns ++ x ∷ []) ≡ class_entries classes columns
entries_stay [] columns x below = refl
entries_stay (c ∷ cs) columns x below =
    ap (λ o. (c, unwrap_or o []) ∷ class_entries cs (columns ++ x ∷ [])) (get_before columns x c (All-head (λ d. d < length columns) c cs below))
    ∙ ap (λ es. class_entry columns c ∷ es) (entries_stay cs columns x (All-tail (λ d. d < length columns) c cs below))

map_append : (f : ℕ → ClassEntry) (xs ys : List ℕ) → map f (xs ++ ys) ≡ map f xs ++ map f ys
map_append f [] ys = refl
map_append f (x ∷ xs) ys = ap (λ es. f x ∷ es) (map_append f xs ys)

length_entries : (f : ℕ → ClassEntry) (xs : List ℕ) → length (map f xs) ≡ length xs
length_entries f [] = refl
length_entries f (x ∷ xs) = ap suc (length_entries f xs)

pub class_comes : (classes : List ℕ) (columns : List (List (List ℕ))) (x : List (List ℕ)) → All (λ c. c < length columns) classes →
    AddsClass (class_entries classes columns) x (length classes) (class_entries (classes ++ length columns ∷ []) (columns ++ x ∷ []))
class_comes classes columns x below = record {
  class = length columns;
  key = sym (length_entries (class_entry columns) classes);
  added = map_append (class_entry (columns ++ x ∷ [])) classes (length columns ∷ [])
      ∙ ap (λ o. class_entries classes (columns ++ x ∷ []) ++ (length columns, unwrap_or o []) ∷ []) (get_last columns x)
      ∙ ap (λ es. es ++ (length columns, x) ∷ []) (entries_stay classes columns x below);
  own = λ e there is.
      let from = in_map (class_entry columns) classes e there in
      let small = All-contains (λ c. c < length columns) classes from.0 below from.1 in
      let same : from.0 ≡ length columns = ap (λ (d : ClassEntry). d.0) from.2 ∙ is in omega (arith, small, same);
}

-- keys of one class come to another
abbrev pub moved_class : ℕ → ℕ → ℕ → ℕ
moved_class from into c = if c == from then into else c

pub below_moved : (classes : List ℕ) (n from into : ℕ) → into < n → All (λ c. c < n) classes →
    All (λ c. c < n) (map (moved_class from into) classes)
below_moved classes n from into h below =
    All-map (λ c. c < n) (moved_class from into) classes
    (All-weaker (λ c. c < n) (λ c. moved_class from into c < n) (λ c small. go c (nat_eq c from) small) classes below)
  where
    go : (c : ℕ) (b : Bool) → c < n → (if b then into else c) < n
    go c true small = h
    go c false small = small

entry_moves : (columns : List (List (List ℕ))) (from into : ℕ) (x : List (List ℕ)) → into < length columns → (from ≡ into → ⊥) → (c : ℕ) →
    class_entry (set columns into x) (moved_class from into c) ≡ joined_entry into from x (class_entry columns c)
entry_moves columns from into x h apart c = by_from (nat_eq c from) (nat_eq c into) refl refl
  where
    written : class_entry (set columns into x) into ≡ (into, x)
    written = ap (λ o. (into, unwrap_or o [])) (written_here columns into x h)

    by_from : (b d : Bool) → nat_eq c from ≡ b → nat_eq c into ≡ d →
        class_entry (set columns into x) (if b then into else c) ≡ (if (d || b) then (into, x) else class_entry columns c)
    by_from true true e f = written
    by_from true false e f = written
    by_from false true e f = ap (λ k. class_entry (set columns into x) k) ((Decides-eqb c into).0 f) ∙ written
    by_from false false e f =
        ap (λ o. (c, unwrap_or o [])) (written_elsewhere columns into c x
        (λ z. let y : nat_eq c into ≡ true = (Decides-eqb c into).1 z in let w : ⊥ = cc in w))

pub entries_move : (classes : List ℕ) (columns : List (List (List ℕ))) (from into : ℕ) (x : List (List ℕ)) → into < length columns →
    (from ≡ into → ⊥) →
    class_entries (map (moved_class from into) classes) (set columns into x)
    ≡ map (joined_entry into from x) (class_entries classes columns)
entries_move [] columns from into x h apart = refl
entries_move (c ∷ cs) columns from into x h apart =
    ap (λ e. e ∷ class_entries (map (moved_class from into) cs) (set columns into x)) (entry_moves columns from into x h apart c)
    ∙ ap (λ es. joined_entry into from x (class_entry columns c) ∷ es) (entries_move cs columns from into x h apart)

-- keys and classes that are there
pub key_within : (classes : List ℕ) (columns : List (List (List ℕ))) (entries : List ClassEntry) (k : ℕ) →
    class_entries classes columns ≡ entries → k < length entries → k < length classes
key_within classes columns entries k is h =
    subst (λ (n : ℕ). k < n) (length_entries (class_entry columns) classes) (subst (λ (es : List ClassEntry). k < length es) (sym is) h)

pub entry_of_view : (classes : List ℕ) (columns : List (List (List ℕ))) (entries : List ClassEntry) (k c : ℕ) (x : List (List ℕ)) →
    class_entries classes columns ≡ entries → slice_get classes k ≡ Some c → slice_get columns c ≡ Some x →
    slice_get entries k ≡ Some (c, x)
entry_of_view classes columns entries k c x is at there =
    subst (λ (es : List ClassEntry). slice_get es k ≡ Some (c, x)) is (entry_at classes columns k c x at there)

pub any_entry : (classes : List ℕ) (columns : List (List (List ℕ))) (entries : List ClassEntry) (k c : ℕ) →
    class_entries classes columns ≡ entries → slice_get classes k ≡ Some c → slice_get entries k ≡ Some (class_entry columns c)
any_entry classes columns entries k c is at = subst (λ (es : List ClassEntry). slice_get es k ≡ Some (class_entry columns c)) is (go classes k at)
  where
    go : (cs : List ℕ) (j : ℕ) → slice_get cs j ≡ Some c → slice_get (class_entries cs columns) j ≡ Some (class_entry columns c)
    go [] j e = let w : ⊥ = cc in absurd w
    go (d ∷ ds) zero e = ap (λ n. Some (class_entry columns n)) (some_same d c e)
    go (d ∷ ds) (suc j) e = go ds j e

pub class_within : (classes : List ℕ) (n k c : ℕ) → All (λ d. d < n) classes → slice_get classes k ≡ Some c → c < n
class_within classes n k c below at = All-contains (λ d. d < n) classes c below (get_contains classes k c at)

module _ (entries : List ClassEntry) (a b c d : ℕ) (x y : List (List ℕ)) (at_a : slice_get entries a ≡ Some (c, x))
    (at_b : slice_get entries b ≡ Some (d, y)) where
  pub overlaps : (c ≡ d → ⊥) → ColumnsMeetComing x (InColumn HasToken y) → ClassesOverlap entries a b
  overlaps apart meet = record { one = (c, x); other = (d, y); at_one = at_a; at_other = at_b; apart = apart; meet = meet }

  pub overlap_of : ClassesOverlap entries a b → (c ≡ d → ⊥) × ColumnsMeetComing x (InColumn HasToken y)
  overlap_of o =
      let same_a : o.one ≡ (c, x) = some_same o.one (c, x) (sym o.at_one ∙ at_a) in
      let same_b : o.other ≡ (d, y) = some_same o.other (d, y) (sym o.at_other ∙ at_b) in (
        λ e. o.apart (ap (λ (k : ClassEntry). k.0) same_a ∙ e ∙ sym (ap (λ (k : ClassEntry). k.0) same_b)),
        subst (λ (k : ClassEntry). ColumnsMeetComing x (InColumn HasToken k.1)) same_b
            (subst (λ (k : ClassEntry). ColumnsMeetComing k.1 (InColumn HasToken o.other.1)) same_a o.meet),
      )

  pub same_class : c ≡ d → UnifiesClasses entries a b entries
  same_class e = inl (record { one = (c, x); other = (d, y); at_one = at_a; at_other = at_b; class = e }, refl)

  pub joins : (z : List (List ℕ)) (new : List ClassEntry) → GathersColumns HasToken (InColumn HasToken y) x z →
      new ≡ map (joined_entry c d z) entries → UnifiesClasses entries a b new
  joins z new gathers is = inr (record {
    one = (c, x);
    other = (d, y);
    at_one = at_a;
    at_other = at_b;
    columns = z;
    gathers = gathers;
    joined = is;
  })

-- a refusal is one for results of any kind
pub overlap_alike : (A B : Type 0) (f : ContextFault) → IsOverlap {A = A} (Err f) → IsOverlap {A = B} (Err f)
overlap_alike A B (Overlap o) h = h
overlap_alike A B Memory h = h

-- what holds after a refusal
pub on_err : {A E P : Type 0} (r : Result A E) → P → OnErr r P
on_err (Ok a) p = tt
on_err (Err e) p = p

-- one place more of a list that is mapped in place
mapped_more : (f : ℕ → ℕ) (xs : List ℕ) (k x : ℕ) → k < length (map f (take k xs) ++ drop k xs) →
    x ≡ get_or (map f (take k xs) ++ drop k xs) k x →
    set (map f (take k xs) ++ drop k xs) k (f x) ≡ map f (take (suc k) xs) ++ drop (suc k) xs
mapped_more f [] zero x h e = absurd (omega (arith, h))
mapped_more f [] (suc k) x h e = absurd (omega (arith, h))
mapped_more f (y ∷ ys) zero x h e = ap (λ v. f v ∷ ys) e
mapped_more f (y ∷ ys) (suc k) x h e = ap (λ l. f y ∷ l) (mapped_more f ys k x (omega (arith, h)) e)

pub mapped_one : (f : ℕ → ℕ) (now init : List ℕ) (k x y : ℕ) → now ≡ map f (take k init) ++ drop k init → k < length now →
    x ≡ get_or now k x → y ≡ f x → set now k y ≡ map f (take (k + 1) init) ++ drop (k + 1) init
mapped_one f now init k x y e h is v =
    let p : set now k (f x) ≡ map f (take (suc k) init) ++ drop (suc k) init =
    subst (λ (l : List ℕ). k < length l → x ≡ get_or l k x → set l k (f x) ≡ map f (take (suc k) init) ++ drop (suc k) init) (sym e)
    (mapped_more f init k x) h is in
    rw add-one (ap (λ w. set now k w) v ∙ p)
