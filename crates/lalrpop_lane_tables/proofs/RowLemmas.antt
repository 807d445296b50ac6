-- Columns that are made of the rows of a lane table.
use Rattle.std.proofs.Common.{◌≡◌, ◌∙◌, ◌↔◌, ◌⊎◌, ℕ, Bool, true, false, cond, List, [], ◌∷◌, length, map, Option, Some, None, IsTrue}
use Rattle.std.proofs.Common.{refl, sym, ap, subst, inl, inr, ⊎_elim, Contains, Result, Ok, Err}
use Rattle.std.specs.Prelude.{All, IfNone, IfSome, is_some}
use Rattle.std.specs.Borrow.{Bor}
use Rattle.std.specs.Option.{option_copied}
use Rattle.std.specs.BTreeMap.{insert_entry, is_at}
use Rattle.std.specs.BTreeSet.{BTreeSet}
use Rattle.std.specs.List.Sorted.{IsStrictlySortedBy}
use Rattle.std.specs.Map.{keys_of, lookup}
use Rattle.std.specs.Ordering.{is_eq, match_ordering, nat_cmp, ordering_reverse}
use Rattle.std.specs.declared.cmp.Ordering.{Ordering}
use Rattle.std.specs.declared.cmp.Ordering.TheVariants.{Less, Equal, Greater}
use Rattle.std.proofs.lemmas.Cmp.{nat_cmp_total}
use Rattle.std.proofs.lemmas.List.Elements.{Contains-append_cases, Contains-append_left, Contains-append_right}
use Rattle.lalrpop_lr1_theory.proofs.ListLemmas.{contains_here, contains_later, contains_split}
use Rattle.lalrpop_lr1_theory.proofs.NameLemmas.{no_element}
use Rattle.lalrpop_lr1_core.proofs.MemberLemmas.{map_has}
use Rattle.lalrpop_lr1_core.specs.Edges.{state_index}
use Rattle.lalrpop_lr1_core.specs.declared.state_index.StateIndex.{StateIndex}
use Rattle.lalrpop_lane_theory.specs.Columns.{HaveMeeting, TableEnters, TableHolds}
use Rattle.lalrpop_lane_theory.specs.LaneTables.{IsBeachhead, NotesEdge}
use Rattle.lalrpop_lane_tables.specs.ColumnAnswers.{AreColumns, ColumnsAnswer, HasToken, SomeSays}
use Rattle.lalrpop_lane_tables.specs.ReachedStates.{ComesUnless, index_cmp, led_to, states_with}
use Rattle.lalrpop_lane_tables.specs.RowColumns.{AddsMissingRow, AllRowsAnswer, AreColumnsOfRows, AreRowsBelow, EntrySays, GainsEmptyRows, HoldsInRow}
use Rattle.lalrpop_lane_tables.specs.RowColumns.{StateRowAnswer}
use Rattle.lalrpop_lane_tables.specs.TableViews.{AreTableRows, AreWholeRows, IsStateKey, RowsAnswer, SomeRowHolds}
use Rattle.lalrpop_lane_tables.specs.TableViews.{TokenRow, row_entry, noted_view, numbers_of, row_view, rows_view, table_view}
use Rattle.lalrpop_lane_tables.specs.declared.context_sets.ContextFault.{ContextFault}
use Rattle.lalrpop_lane_tables.specs.declared.context_sets.ContextFault.TheVariants as context
use Rattle.lalrpop_lane_tables.specs.declared.lane_tables.RowsFault.{RowsFault}
use Rattle.lalrpop_lane_tables.specs.declared.lane_tables.RowsFault.TheVariants.{Overlap, Memory}
use Rattle.lalrpop_lane_tables.proofs.InsertLemmas.{empty_holds}
use Rattle.lalrpop_lane_tables.proofs.KeyLemmas.{index_exact, states_have}
use Rattle.lalrpop_lane_tables.proofs.PutLemmas.{found_there, one_entry, there_found}
use Rattle.lalrpop_lane_tables.proofs.TableLemmas.{column_index, in_noted, in_numbers, in_row, in_rows, noted_have, rows_have}

-- each number compares as equal to itself
itself : (o : Ordering) → o ≡ ordering_reverse o → o ≡ Equal
itself Less e = let w : ⊥ = cc in absurd w
itself Equal e = refl
itself Greater e = let w : ⊥ = cc in absurd w

pub index_self : (a : StateIndex) → index_cmp a a ≡ Equal
index_self a = itself (nat_cmp a.0 a.0) (nat_cmp_total.antisymm a.0 a.0)

-- what the entries of a row say, and what all rows say
pub entries_say : (row : TokenRow) (c x : ℕ) → SomeSays EntrySays row c x ↔ HoldsInRow row c x
entries_say row c x = (
  λ h. (h.0.1, subst (λ k. Contains (map row_entry row) (k, h.0.1)) h.2.0 (map_has row_entry row h.0 h.1), h.2.1),
  λ h. ((column_index c, h.0), in_row row c h.0 h.1, (refl, h.2)),
)

abbrev pub RowSays : StateIndex × TokenRow → ℕ → ℕ → Type 0
RowSays e = HoldsInRow e.1

pub rows_say : (rows : List (StateIndex × TokenRow)) (c x : ℕ) → SomeSays RowSays rows c x ↔ SomeRowHolds (rows_view rows) c x
rows_say rows c x = (
  λ h. (h.0.0.0, (map row_entry h.0.1, map_has row_view rows h.0 h.1, h.2)),
  λ h. let r = in_rows rows h.0 h.1.0 h.1.1 in
      ((state_index h.0, r.0), r.1, subst (λ row. RowHolds_of row) (sym r.2) h.1.2),
)
  where
    RowHolds_of : List (ℕ × List ℕ) → Type 0
    RowHolds_of row = (set : List ℕ) × Contains row (c, set) × HasToken set x

-- whole rows are within the columns
pub whole_within : (conflicts : ℕ) (rows : List (StateIndex × TokenRow)) (noted : List (ℕ × List ℕ)) →
    AreWholeRows conflicts (rows_view rows) noted → AreRowsBelow conflicts rows
whole_within conflicts rows noted whole e c f d =
    whole.within e.0.0 f.0.index (map row_entry e.1, map_has row_view rows e c, (f.1, map_has row_entry e.1 f d))

-- in a map in order a state has one row
pub row_alone : (rows : List (StateIndex × TokenRow)) → IsStrictlySortedBy index_cmp (keys_of rows) → (n : StateIndex) (row : TokenRow) →
    Contains rows (n, row) → (c x : ℕ) → HoldsInRow row c x ↔ TableHolds HasToken (rows_view rows) n.0 c x
row_alone rows sorted n row there c x = (
  λ h. (map row_entry row, rows_have rows n.0 row there, h),
  λ h. let r = in_rows rows n.0 h.0 h.1 in
      let same : r.0 ≡ row = one_entry index_cmp index_exact index_self rows n r.0 row sorted r.1 there in
      subst (λ own. Holds own) (sym r.2 ∙ ap (map row_entry) same) h.2,
)
  where
    Holds : List (ℕ × List ℕ) → Type 0
    Holds row = (set : List ℕ) × Contains row (c, set) × HasToken set x

-- and none where none is found
pub no_row : (rows : List (StateIndex × TokenRow)) → IsStrictlySortedBy index_cmp (keys_of rows) → (n : StateIndex) →
    lookup (is_at (index_cmp n)) rows ≡ None → (c x : ℕ) → TableHolds HasToken (rows_view rows) n.0 c x → ⊥
no_row rows sorted n none c x h =
    let r = in_rows rows n.0 h.0 h.1 in
    let z : None ≡ Some r.0 = sym none ∙ there_found index_cmp index_exact index_self rows n r.0 sorted r.1 in
    let w : ⊥ = cc in w

-- the same is held in other words
pub columns_alike : (count : ℕ) (P Q : ℕ → ℕ → Type 0) (columns : List (List ℕ)) → ((c x : ℕ) → P c x ↔ Q c x) →
    AreColumns count P columns → AreColumns count Q columns
columns_alike count P Q columns alike are = record {
  long = are.long;
  holds = λ c x. (λ i. (alike c x).0 ((are.holds c x).0 i), λ q. (are.holds c x).1 ((alike c x).1 q));
  apart = λ c d x i j. are.apart c d x ((alike c x).1 i) ((alike d x).1 j);
}

pub meeting_alike : (P Q : ℕ → ℕ → Type 0) → ((c x : ℕ) → P c x ↔ Q c x) → HaveMeeting P → HaveMeeting Q
meeting_alike P Q alike m = record {
  one = m.one;
  other = m.other;
  token = m.token;
  apart = m.apart;
  in_one = (alike m.one m.token).0 m.in_one;
  in_other = (alike m.other m.token).0 m.in_other;
}

pub answer_alike : (count : ℕ) (P Q : ℕ → ℕ → Type 0) (r : Result (List (List ℕ)) ContextFault) → ((c x : ℕ) → P c x ↔ Q c x) →
    ColumnsAnswer count P r → ColumnsAnswer count Q r
answer_alike count P Q (Ok columns) alike are = columns_alike count P Q columns alike are
answer_alike count P Q (Err (context.Overlap o)) alike m = meeting_alike P Q alike m
answer_alike count P Q (Err context.Memory) alike m = tt

-- columns without tokens hold what nothing is
pub empty_columns : (count : ℕ) (P : ℕ → ℕ → Type 0) (columns : List (List ℕ)) → length columns ≡ count →
    All (λ (tokens : List ℕ). tokens ≡ []) columns → ((c x : ℕ) → P c x → ⊥) → AreColumns count P columns
empty_columns count P columns long none nothing = record {
  long = long;
  holds = λ c x. (λ i. absurd (empty_holds columns none c x i), λ p. absurd (nothing c x p));
  apart = λ c d x i j. absurd (nothing c x i);
}

-- a value that is put at a key
module _ {K C : Type 0} (cmp : K → K → Ordering) (exact : (a b : K) → cmp a b ≡ Equal → a ≡ b) where
  put_front : (e : K × C) (es : List (K × C)) (k : K) (v : C) → Contains (e ∷ es) (k, v) →
      ((e.0 ≡ k) × (e.1 ≡ v)) ⊎ Contains es (k, v)
  put_front e es k v h =
      ⊎_elim (λ z. inl (ap (λ (u : K × C). u.0) z, ap (λ (u : K × C). u.1) z)) (λ d. inr d) (contains_split e (k, v) es h)

  pub put_from : (es : List (K × C)) (key : K) (c : C) (k : K) (v : C) → Contains (insert_entry cmp es key c) (k, v) →
      Contains es (k, v) ⊎ ((key ≡ k) × (c ≡ v))
  put_from [] key c k v h = ⊎_elim (λ w. inr w) (λ d. inl d) (put_front (key, c) [] k v h)
  put_from (e ∷ es) key c k v h = go (cmp key e.0) refl (put_from es key c k v) h
    where
      go : (o : Ordering) → cmp key e.0 ≡ o →
          (Contains (insert_entry cmp es key c) (k, v) → Contains es (k, v) ⊎ ((key ≡ k) × (c ≡ v))) →
          Contains (match_ordering o ((key, c) ∷ e ∷ es) ((e.0, c) ∷ es) (e ∷ insert_entry cmp es key c)) (k, v) →
          Contains (e ∷ es) (k, v) ⊎ ((key ≡ k) × (c ≡ v))
      go Less is rest d = ⊎_elim (λ w. inr w) (λ a. inl a) (put_front (key, c) (e ∷ es) k v d)
      go Equal is rest d = ⊎_elim
          (λ w. inr (exact key e.0 is ∙ w.0, w.1))
          (λ a. inl (contains_later e (k, v) es a)) (put_front (e.0, c) es k v d)
      go Greater is rest d = ⊎_elim
          (λ z. inl (subst (Contains (e ∷ es)) z (contains_here e es)))
          (λ a. ⊎_elim (λ b. inl (contains_later e (k, v) es b)) (λ w. inr w) (rest a))
          (contains_split e (k, v) (insert_entry cmp es key c) d)

  -- the keys are those that were there, and this one
  pub put_keys : (es : List (K × C)) (key : K) (c : C) (k : K) →
      ((v : C) × Contains es (k, v)) ⊎ (key ≡ k) → (v : C) × Contains (insert_entry cmp es key c) (k, v)
  put_keys [] key c k h = ⊎_elim
      (λ a. absurd (no_element (k, a.0) a.1))
      (λ e. (c, subst (λ j. Contains {X = K × C} ((key, c) ∷ []) (j, c)) e (contains_here (key, c) []))) h
  put_keys (e ∷ es) key c k h = go (cmp key e.0) refl (put_keys es key c k) h
    where
      go : (o : Ordering) → cmp key e.0 ≡ o →
          (((v : C) × Contains es (k, v)) ⊎ (key ≡ k) → (v : C) × Contains (insert_entry cmp es key c) (k, v)) →
          ((v : C) × Contains (e ∷ es) (k, v)) ⊎ (key ≡ k) →
          (v : C) × Contains (match_ordering o ((key, c) ∷ e ∷ es) ((e.0, c) ∷ es) (e ∷ insert_entry cmp es key c)) (k, v)
      go Less is rest d = ⊎_elim
          (λ a. (a.0, contains_later (key, c) (k, a.0) (e ∷ es) a.1))
          (λ z. (c, subst (λ j. Contains {X = K × C} ((key, c) ∷ e ∷ es) (j, c)) z (contains_here (key, c) (e ∷ es)))) d
      go Equal is rest d = ⊎_elim
          (λ a. ⊎_elim
          (λ w. (c, subst (λ j. Contains {X = K × C} ((e.0, c) ∷ es) (j, c)) w.0 (contains_here (e.0, c) es)))
          (λ b. (a.0, contains_later (e.0, c) (k, a.0) es b)) (put_front e es k a.0 a.1))
          (λ z. (c, subst (λ j. Contains {X = K × C} ((e.0, c) ∷ es) (j, c)) (sym (exact key e.0 is) ∙ z) (contains_here (e.0, c) es))) d
      go Greater is rest d = ⊎_elim
          (λ a. ⊎_elim
          (λ w. (e.1, subst (λ j. Contains {X = K × C} (e ∷ insert_entry cmp es key c) (j, e.1)) w.0 (contains_here e (insert_entry cmp es key c))))
          (λ b. further (rest (inl (a.0, b)))) (put_front e es k a.0 a.1))
          (λ z. further (rest (inr z))) d
        where
          further : (v : C) × Contains (insert_entry cmp es key c) (k, v) → (v : C) × Contains (e ∷ insert_entry cmp es key c) (k, v)
          further r = (r.0, contains_later e (k, r.0) (insert_entry cmp es key c) r.1)

-- a state of a list in front, or of the others
pub key_in_front : {C : Type 0} (e : StateIndex × C) (es : List (StateIndex × C)) (n : StateIndex) →
    IsStateKey (e ∷ es) n ↔ ((e.0 ≡ n) ⊎ IsStateKey es n)
key_in_front {C = C} e es n = (
  λ h. ⊎_elim (λ z. inl (ap (λ (u : StateIndex × C). u.0) z)) (λ d. inr (h.0, d)) (contains_split e (n, h.0) es h.1),
  λ v. ⊎_elim
      (λ z. (e.1, subst (λ j. Contains (e ∷ es) (j, e.1)) z (contains_here e es)))
      (λ d. (d.0, contains_later e (n, d.0) es d.1)) v,
)

pub no_key : {C : Type 0} (n : StateIndex) → IsStateKey {Content = C} [] n → ⊥
no_key n h = no_element (n, h.0) h.1

module _ (count : ℕ) (all : List (StateIndex × TokenRow)) where
  -- the columns of rows, one after the other
  pub rows_begin : AreColumnsOfRows count all all []
  rows_begin = record {
    states = λ n. (λ h. ⊎_elim (λ k. absurd (no_key n k)) (λ k. k) h, λ k. inr k);
    each = λ n columns h. absurd (no_element (n, columns) h);
  }

  pub rows_go_on : (left : List (StateIndex × TokenRow)) (n : StateIndex) (row : TokenRow) (rest : List (StateIndex × TokenRow))
      (old new : List (StateIndex × List (List ℕ))) (columns : List (List ℕ)) → left ≡ (n, row) ∷ rest → Contains all (n, row) →
      AreColumns count (HoldsInRow row) columns → new ≡ insert_entry index_cmp old n columns → AreColumnsOfRows count all left old →
      AreColumnsOfRows count all rest new
  rows_go_on left n row rest old new columns is there are so old_are =
      subst (AreColumnsOfRows count all rest) (sym so) (record {
        states = λ k. (
          λ h. (old_are.states k).0 (⊎_elim
              (λ v. ⊎_elim (λ o. inl (v.0, o)) (λ w. inr (in_left k (inl w.0))) (put_from index_cmp index_exact old n columns k v.0 v.1))
              (λ r. inr (in_left k (inr r))) h),
          λ a. ⊎_elim
              (λ o. inl (put_keys index_cmp index_exact old n columns k (inl o)))
              (λ l. ⊎_elim (λ z. inl (put_keys index_cmp index_exact old n columns k (inr z))) (λ r. inr r) (of_left k l))
              ((old_are.states k).1 a),
        );
        each = λ k own h. ⊎_elim
            (λ o. old_are.each k own o)
            (λ w. (
              row,
              subst (λ j. Contains all (j, row)) w.0 there,
              subst (AreColumns count (HoldsInRow row)) w.1 are,
            ))
            (put_from index_cmp index_exact old n columns k own h);
      })
    where
      in_left : (k : StateIndex) → (n ≡ k) ⊎ IsStateKey rest k → IsStateKey left k
      in_left k h = subst (λ l. IsStateKey l k) (sym is) ((key_in_front (n, row) rest k).1 h)

      of_left : (k : StateIndex) → IsStateKey left k → (n ≡ k) ⊎ IsStateKey rest k
      of_left k h = (key_in_front (n, row) rest k).0 (subst (λ l. IsStateKey l k) is h)

  pub row_refused : (A : Type 0) (n : StateIndex) (row : TokenRow) (rows : List (StateIndex × List (List ℕ))) (f : RowsFault) →
      Contains all (n, row) → StateRowAnswer count n row (Err f) → AllRowsAnswer count all rows (Err f)
  row_refused A n row rows (Overlap k) there m = (row, subst (λ j. Contains all (j, row)) (sym m.0) there, m.1)
  row_refused A n row rows Memory there m = tt

-- columns without tokens, for states that have none
module _ {C : Type 0} (count : ℕ) (all : List (StateIndex × C)) (old : List (StateIndex × List (List ℕ))) where
  pub empties_begin : GainsEmptyRows count all all old old
  empties_begin = record {
    kept = λ n h. h;
    states = λ n. (λ h. h, λ h. h);
    each = λ n columns h. inl h;
  }

  -- one that has some
  empties_skip : (left : List (StateIndex × C)) (n : StateIndex) (c : C) (rest : List (StateIndex × C))
      (now : List (StateIndex × List (List ℕ))) → left ≡ (n, c) ∷ rest → IsStateKey now n → GainsEmptyRows count all left old now →
      GainsEmptyRows count all rest old now
  empties_skip left n c rest now is has g = record {
    kept = g.kept;
    states = λ k. (
      λ h. (g.states k).0 (⊎_elim
          (λ a. inl a)
          (λ r. inr (subst (λ l. IsStateKey l k) (sym is) ((key_in_front (n, c) rest k).1 (inr r)))) h),
      λ h. ⊎_elim
          (λ a. inl a)
          (λ l. ⊎_elim
          (λ z. inl (subst (IsStateKey now) z has))
          (λ r. inr r) ((key_in_front (n, c) rest k).0 (subst (λ l. IsStateKey l k) is l))) ((g.states k).1 h),
    );
    each = g.each;
  }

  -- one that has none
  empties_add : (left : List (StateIndex × C)) (n : StateIndex) (c : C) (rest : List (StateIndex × C))
      (now new : List (StateIndex × List (List ℕ))) (columns : List (List ℕ)) → left ≡ (n, c) ∷ rest → (IsStateKey now n → ⊥) →
      length columns ≡ count → All (λ (tokens : List ℕ). tokens ≡ []) columns → new ≡ insert_entry index_cmp now n columns →
      GainsEmptyRows count all left old now → GainsEmptyRows count all rest old new
  empties_add left n c rest now new columns is lacks long none so g =
      subst (GainsEmptyRows count all rest old) (sym so) (record {
        kept = λ k h. put_keys index_cmp index_exact now n columns k (inl (g.kept k h));
        states = λ k. (
          λ h. (g.states k).0 (⊎_elim
              (λ v. ⊎_elim (λ o. inl (v.0, o)) (λ w. inr (in_left k (inl w.0))) (put_from index_cmp index_exact now n columns k v.0 v.1))
              (λ r. inr (in_left k (inr r))) h),
          λ h. ⊎_elim
              (λ a. inl (put_keys index_cmp index_exact now n columns k (inl a)))
              (λ l. ⊎_elim (λ z. inl (put_keys index_cmp index_exact now n columns k (inr z))) (λ r. inr r) (of_left k l)) ((g.states k).1 h),
        );
        each = λ k own h. ⊎_elim
            (λ o. g.each k own o)
            (λ w. inr (
              λ was. lacks (subst (IsStateKey now) (sym w.0) (g.kept k was)),
              subst (λ l. length l ≡ count) w.1 long,
              subst (All (λ (tokens : List ℕ). tokens ≡ [])) w.1 none,
            ))
            (put_from index_cmp index_exact now n columns k own h);
      })
    where
      in_left : (k : StateIndex) → (n ≡ k) ⊎ IsStateKey rest k → IsStateKey left k
      in_left k h = subst (λ l. IsStateKey l k) (sym is) ((key_in_front (n, c) rest k).1 h)

      of_left : (k : StateIndex) → IsStateKey left k → (n ≡ k) ⊎ IsStateKey rest k
      of_left k h = (key_in_front (n, c) rest k).0 (subst (λ l. IsStateKey l k) is h)

  -- one more state
  pub empties_go_on : (left : List (StateIndex × C)) (n : StateIndex) (c : C) (rest : List (StateIndex × C))
      (now new : List (StateIndex × List (List ℕ))) → left ≡ (n, c) ∷ rest → AddsMissingRow count n now new →
      GainsEmptyRows count all left old now → GainsEmptyRows count all rest old new
  empties_go_on left n c rest now new is (inl w) g =
      subst (GainsEmptyRows count all rest old) (sym w.1) (empties_skip left n c rest now is w.0 g)
  empties_go_on left n c rest now new is (inr w) g =
      empties_add left n c rest now new w.1.columns is w.0 w.1.long w.1.none w.1.added g

-- nothing stands at a key at which nothing is found
pub none_found : {C : Type 0} (es : List (StateIndex × C)) (n : StateIndex) → lookup (is_at (index_cmp n)) es ≡ None → IsStateKey es n → ⊥
none_found [] n none h = no_key n h
none_found {C = C} (e ∷ es) n none h = go (is_eq (index_cmp n e.0)) refl none (none_found es n) ((key_in_front e es n).0 h)
  where
    go : (b : Bool) → is_eq (index_cmp n e.0) ≡ b → cond b (Some e.1) (lookup (is_at (index_cmp n)) es) ≡ None →
        (lookup (is_at (index_cmp n)) es ≡ None → IsStateKey es n → ⊥) → (e.0 ≡ n) ⊎ IsStateKey es n → ⊥
    go true is found deeper k = let w : ⊥ = cc in w
    go false is found deeper (inl z) =
        let both : is_eq (index_cmp n e.0) ≡ true = ap is_eq (ap (index_cmp n) z ∙ index_self n) in
        let w : true ≡ false = sym both ∙ is in let v : ⊥ = cc in v
    go false is found deeper (inr d) = deeper found d

-- the rows of a table
module _ (count : ℕ) (all : List (StateIndex × TokenRow)) (noted : List (StateIndex × BTreeSet StateIndex))
    (sorted : IsStrictlySortedBy index_cmp (keys_of all)) where
  pub all_rows_refused : (rows : List (StateIndex × List (List ℕ))) (f : RowsFault) → AllRowsAnswer count all rows (Err f) →
      RowsAnswer (table_view count all noted) (Err f)
  all_rows_refused rows (Overlap n) m = meeting_alike (HoldsInRow m.0) (TableHolds HasToken (rows_view all) n.0) (row_alone all sorted n m.0 m.1) m.2
  all_rows_refused rows Memory m = tt

  module _ (whole : AreWholeRows count (rows_view all) (noted_view noted)) where
    in_all : (n : StateIndex) → IsStateKey all n ↔ ((c : ℕ) × TableEnters (rows_view all) n.0 c)
    in_all n = (
      λ h. whole.entered n.0 (map row_entry h.0, rows_have all n.0 h.0 h.1),
      λ h. let r = in_rows all n.0 h.1.0 h.1.1 in (r.0, r.1),
    )

    in_noted_list : (n : StateIndex) → IsStateKey noted n ↔ ((m : ℕ) × NotesEdge (noted_view noted) n.0 m)
    in_noted_list n = (
      λ h. whole.led n.0 (numbers_of h.0, noted_have noted n.0 h.0 h.1),
      λ h. let r = in_noted noted n.0 h.1.0 h.1.1 in (r.0, r.1),
    )

    pub table_rows : (made rows : List (StateIndex × List (List ℕ))) → AreColumnsOfRows count all [] made →
        GainsEmptyRows count noted [] made rows → AreTableRows (table_view count all noted) rows
    table_rows made rows are gains = record {
      states = λ n. (
        λ h. ⊎_elim
            (λ a. inl ((in_all n).0 ((are.states n).0 (inl a))))
            (λ a. inr ((in_noted_list n).0 a)) ((gains.states n).0 (inl h)),
        λ h. ⊎_elim
            (λ a. a)
            (λ a. absurd (no_key n a))
            ((gains.states n).1 (⊎_elim
            (λ e. ⊎_elim (λ a. inl a) (λ a. absurd (no_key n a)) ((are.states n).1 ((in_all n).1 e)))
            (λ e. inr ((in_noted_list n).1 e)) h)),
      );
      each = λ n columns h. ⊎_elim
          (λ a. let e : (row : TokenRow) × Contains all (n, row) × AreColumns count (HoldsInRow row) columns = are.each n columns a in
          columns_alike count (HoldsInRow e.0) (TableHolds HasToken (rows_view all) n.0) columns (row_alone all sorted n e.0 e.1) e.2)
          (λ w. empty_columns count (TableHolds HasToken (rows_view all) n.0) columns w.1 w.2
          (λ c x t. let r = in_rows all n.0 t.0 t.1 in
          w.0 (⊎_elim (λ a. a) (λ a. absurd (no_key n a)) ((are.states n).1 (r.0, r.1)))))
          (gains.each n columns h);
    }

-- the states to which noted edges lead
pub led_is : (noted : List (StateIndex × BTreeSet StateIndex)) (n : StateIndex) →
    Contains (led_to noted) n ↔ ((k : ℕ) × NotesEdge (noted_view noted) k n.0)
led_is noted n = (there noted, back noted)
  where
    there : (es : List (StateIndex × BTreeSet StateIndex)) → Contains (led_to es) n → (k : ℕ) × NotesEdge (noted_view es) k n.0
    there [] h = absurd (no_element n h)
    there (e ∷ es) h = ⊎_elim
        (λ a. (e.0.0, (numbers_of e.1, contains_here (e.0.0, numbers_of e.1) (noted_view es), (in_numbers e.1 n.0).1 a)))
        (λ a. let r : (k : ℕ) × NotesEdge (noted_view es) k n.0 = there es a in
        (r.0, (r.1.0, contains_later (e.0.0, numbers_of e.1) (r.0, r.1.0) (noted_view es) r.1.1, r.1.2)))
        (Contains-append_cases e.1.keys (led_to es) n h)

    back : (es : List (StateIndex × BTreeSet StateIndex)) → (k : ℕ) × NotesEdge (noted_view es) k n.0 → Contains (led_to es) n
    back [] h = absurd (no_element (h.0, h.1.0) h.1.1)
    back (e ∷ es) h = ⊎_elim
        (λ z. Contains-append_left e.1.keys (led_to es) n
        ((in_numbers e.1 n.0).0 (subst (λ l. Contains l n.0) (sym (ap (λ (u : ℕ × List ℕ). u.1) z)) h.1.2)))
        (λ d. Contains-append_right e.1.keys (led_to es) n (back es (h.0, (h.1.0, d, h.1.2))))
        (contains_split (e.0.0, numbers_of e.1) (h.0, h.1.0) (noted_view es) h.1.1)

-- beachheads: states in which there is a row, and to which no edge leads
pub beachhead_is : (count : ℕ) (all : List (StateIndex × TokenRow)) (noted : List (StateIndex × BTreeSet StateIndex))
    (reached : List StateIndex) → AreWholeRows count (rows_view all) (noted_view noted) → reached ≡ states_with [] (led_to noted) →
    (n : StateIndex) → (IsStateKey all n × (Contains reached n → ⊥)) ↔ IsBeachhead (rows_view all) (noted_view noted) n.0
beachhead_is count all noted reached whole is n = (
  λ h. let e : (c : ℕ) × TableEnters (rows_view all) n.0 c = whole.entered n.0 (map row_entry h.0.0, rows_have all n.0 h.0.0 h.0.1) in
      record {
        column = e.0;
        entry = e.1;
        no_edge = λ k edge. h.1 (subst (λ l. Contains l n) (sym is) ((states_have [] (led_to noted) n).1 (inr ((led_is noted n).1 (k, edge)))));
      },
  λ b. let r = in_rows all n.0 b.entry.0 b.entry.1 in (
    (r.0, r.1),
    λ h. ⊎_elim
        (λ none. no_element n none)
        (λ led. let edge : (k : ℕ) × NotesEdge (noted_view noted) k n.0 = (led_is noted n).0 led in b.no_edge edge.0 edge.1)
        ((states_have [] (led_to noted) n).0 (subst (λ l. Contains l n) is h)),
  ),
)

-- states of rows that aren't reached, one after the other
module _ {C : Type 0} (all : List (StateIndex × C)) (reached : List StateIndex) where
  abbrev pub AreUnreached : List (StateIndex × C) → List StateIndex → Type 0
  AreUnreached left states =
      (n : StateIndex) → (Contains states n ⊎ (IsStateKey left n × (Contains reached n → ⊥))) ↔ (IsStateKey all n × (Contains reached n → ⊥))

  pub unreached_begin : AreUnreached all []
  unreached_begin n = (λ h. ⊎_elim (λ d. absurd (no_element n d)) (λ k. k) h, λ k. inr k)

  unreached_skip : (left : List (StateIndex × C)) (k : StateIndex) (c : C) (rest : List (StateIndex × C)) (states : List StateIndex) →
      left ≡ (k, c) ∷ rest → Contains reached k → AreUnreached left states → AreUnreached rest states
  unreached_skip left k c rest states is there are n = (
    λ h. (are n).0 (⊎_elim
        (λ d. inl d)
        (λ r. inr (subst (λ l. IsStateKey l n) (sym is) ((key_in_front (k, c) rest n).1 (inr r.0)), r.1)) h),
    λ h. ⊎_elim
        (λ d. inl d)
        (λ r. ⊎_elim
        (λ z. absurd (r.1 (subst (Contains reached) z there)))
        (λ d. inr (d, r.1)) ((key_in_front (k, c) rest n).0 (subst (λ l. IsStateKey l n) is r.0))) ((are n).1 h),
  )

  unreached_add : (left : List (StateIndex × C)) (k : StateIndex) (c : C) (rest : List (StateIndex × C))
      (states new : List StateIndex) → left ≡ (k, c) ∷ rest → (Contains reached k → ⊥) →
      ((n : StateIndex) → Contains new n ↔ (Contains states n ⊎ (k ≡ n))) → AreUnreached left states → AreUnreached rest new
  unreached_add left k c rest states new is lacks adds are n = (
    λ h. ⊎_elim
        (λ d. ⊎_elim
        (λ o. (are n).0 (inl o))
        (λ z. (are n).0 (inr (
          subst (λ l. IsStateKey l n) (sym is) ((key_in_front (k, c) rest n).1 (inl z)),
          λ r. lacks (subst (Contains reached) (sym z) r),
        ))) ((adds n).0 d))
        (λ r. (are n).0 (inr (subst (λ l. IsStateKey l n) (sym is) ((key_in_front (k, c) rest n).1 (inr r.0)), r.1))) h,
    λ h. ⊎_elim
        (λ d. inl ((adds n).1 (inl d)))
        (λ r. ⊎_elim
        (λ z. inl ((adds n).1 (inr z)))
        (λ d. inr (d, r.1)) ((key_in_front (k, c) rest n).0 (subst (λ l. IsStateKey l n) is r.0))) ((are n).1 h),
  )

  -- one that comes, if it isn't reached
  pub unreached_goes_on : (left : List (StateIndex × C)) (k : StateIndex) (c : C) (rest : List (StateIndex × C))
      (states new : List StateIndex) → left ≡ (k, c) ∷ rest → ComesUnless reached k states new → AreUnreached left states →
      AreUnreached rest new
  unreached_goes_on left k c rest states new is (inl w) are =
      subst (AreUnreached rest) (sym w.1) (unreached_skip left k c rest states is w.0 are)
  unreached_goes_on left k c rest states new is (inr w) are = unreached_add left k c rest states new is w.0 w.1 are

  pub unreached_end : (left : List (StateIndex × C)) (states : List StateIndex) → left ≡ [] → AreUnreached left states →
      (n : StateIndex) → Contains states n ↔ (IsStateKey all n × (Contains reached n → ⊥))
  unreached_end left states is are n = (
    λ h. (are n).0 (inl h),
    λ h. ⊎_elim (λ d. d) (λ r. absurd (no_key n (subst (λ l. IsStateKey l n) is r.0))) ((are n).1 h),
  )

-- something is found at a key exactly where it is one
pub some_found : {C : Type 0} (es : List (StateIndex × C)) (n : StateIndex) (r : Option (Bor C)) →
    option_copied r ≡ lookup (is_at (index_cmp n)) es → IsTrue (is_some r) ↔ IsStateKey es n
some_found es n None e = (λ h. let w : ⊥ = cc in absurd w, λ k. absurd (none_found es n (sym e) k))
some_found es n (Some v) e = (λ h. (v.now, found_there index_cmp index_exact index_self es n v.now (sym e)), λ k. refl)

-- the states to which edges from a state were noted, where some were, and where none was
module _ (noted : List (StateIndex × BTreeSet StateIndex)) (sorted : IsStrictlySortedBy index_cmp (keys_of noted)) (n : StateIndex) where
  pub noted_found : (r : Option (Bor (BTreeSet StateIndex))) → option_copied r ≡ lookup (is_at (index_cmp n)) noted →
      IfSome r (λ states. (m : StateIndex) → Contains states.now.keys m ↔ NotesEdge (noted_view noted) n.0 m.0)
  noted_found None e = tt
  noted_found (Some v) e = λ m. (
    λ h. (numbers_of v.now, noted_have noted n.0 v.now there, (in_numbers v.now m.0).1 h),
    λ h. let r = in_noted noted n.0 h.0 h.1 in
        let same : r.0 ≡ v.now = one_entry index_cmp index_exact index_self noted n r.0 v.now sorted r.1 there in
        (in_numbers v.now m.0).0 (subst (λ ms. Contains ms m.0) (sym r.2 ∙ ap numbers_of same) h.2),
  )
    where
      there : Contains noted (n, v.now)
      there = found_there index_cmp index_exact index_self noted n v.now (sym e)

  pub noted_missing : (r : Option (Bor (BTreeSet StateIndex))) → option_copied r ≡ lookup (is_at (index_cmp n)) noted →
      IfNone r ((m : ℕ) → NotesEdge (noted_view noted) n.0 m → ⊥)
  noted_missing None e = λ m h. let r = in_noted noted n.0 h.0 h.1 in none_found noted n (sym e) (r.0, r.1)
  noted_missing (Some v) e = tt
