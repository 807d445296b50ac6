-- One entry more in a lane table, and one edge more.
use Rattle.std.proofs.Common.{◌≡◌, ◌∙◌, ◌↔◌, ◌⊎◌, ◌<◌, ◌||◌, ℕ, Bool, List, [], ◌∷◌, refl, sym, ap, subst, inl, inr, ⊎_elim}
use Rattle.std.proofs.Common.{Contains, map}
use Rattle.std.specs.BTreeSet.{BTreeSet, insert_key}
use Rattle.std.specs.Ordering.{nat_cmp}
use Rattle.std.specs.declared.cmp.Ordering.{Ordering}
use Rattle.std.specs.declared.cmp.Ordering.TheVariants.{Equal}
use Rattle.std.proofs.lemmas.Map.Lookups.{exact_unsigned}
use Rattle.lalrpop_lr1_theory.proofs.NameLemmas.{no_element}
use Rattle.lalrpop_lr1_core.specs.Edges.{state_index}
use Rattle.lalrpop_lr1_core.specs.declared.state_index.StateIndex.{StateIndex}
use Rattle.lalrpop_sets.specs.AscendingLists.{has}
use Rattle.lalrpop_sets.specs.Collections.{Puts, PutsSome, SameEntries}
use Rattle.lalrpop_lane_theory.specs.Columns.{TableEnters, TableHolds}
use Rattle.lalrpop_lane_theory.specs.LaneTables.{NotesEdge}
use Rattle.lalrpop_lane_tables.specs.ColumnAnswers.{HasToken}
use Rattle.lalrpop_lane_tables.specs.ReachedStates.{index_cmp}
use Rattle.lalrpop_lane_tables.specs.TableGains.{AddsNothing, AddsTokens, EntersAt, EntersNowhere, NotesNothing, NotesOne, TableGains}
use Rattle.lalrpop_lane_tables.specs.TableViews.{AreWholeRows, HasRow, TokenRow, row_entry, noted_view, numbers_of, rows_view}
use Rattle.lalrpop_lane_tables.specs.TableViews.{table_view}
use Rattle.lalrpop_lane_tables.specs.declared.context_sets.ConflictIndex.{ConflictIndex}
use Rattle.lalrpop_lane_tables.proofs.InsertLemmas.{or_splits}
use Rattle.lalrpop_lane_tables.proofs.KeyLemmas.{index_exact, insert_has}
use Rattle.lalrpop_lane_tables.proofs.PutLemmas.{HasAt, puts_has}
use Rattle.lalrpop_lane_tables.proofs.TableLemmas.{column_index, has_noted_at, has_row_at, notes_at, table_enters_at, table_holds_at}

abbrev pub column_cmp : ConflictIndex → ConflictIndex → Ordering
column_cmp x y = nat_cmp x.index y.index

pub column_exact : (a b : ConflictIndex) → column_cmp a b ≡ Equal → a ≡ b
column_exact a b e = ap column_index (exact_unsigned a.index b.index e)

-- what a push does to a set of tokens, to a row, and to a table
abbrev pub JoinsTokens : List ℕ → List ℕ → List ℕ → Type 0
JoinsTokens s x t = (k : ℕ) → has t k ≡ (has s k || has x k)

abbrev pub IsNoSet : List ℕ → Type 0
IsNoSet s = s ≡ []

abbrev pub IsOneSet : List ℕ → List ℕ → Type 0
IsOneSet s t = s ≡ t

abbrev pub IsNoRow : TokenRow → Type 0
IsNoRow row = row ≡ []

abbrev pub IsOneRow : TokenRow → TokenRow → Type 0
IsOneRow = SameEntries IsOneSet

abbrev pub JoinsRow : TokenRow → ConflictIndex × List ℕ → TokenRow → Type 0
JoinsRow = PutsSome column_cmp IsNoSet IsOneSet JoinsTokens

abbrev pub PutsToken : List (StateIndex × TokenRow) → StateIndex → ConflictIndex × List ℕ → Bool → List (StateIndex × TokenRow) → Type 0
PutsToken = Puts index_cmp IsNoRow IsOneRow JoinsRow

module _ (old new : List (StateIndex × TokenRow)) (s : StateIndex) (c : ConflictIndex) (set : List ℕ) (changed : Bool)
    (puts : PutsToken old s (c, set) changed new) where
  -- what a row comes to hold
  row_joined : (x d : ℕ) (before after : TokenRow) → JoinsRow before (c, set) after →
      HasAt (λ t. HasToken t x) after (column_index d)
      ↔ (HasAt (λ t. HasToken t x) before (column_index d) ⊎ ((c ≡ column_index d) × HasToken set x))
  row_joined x d before after j =
      puts_has column_cmp column_exact (λ t. HasToken t x) IsNoSet IsOneSet JoinsTokens set (HasToken set x) fresh pushed before after c
      j.0 j.1 (column_index d)
    where
      pushed : (a b : List ℕ) → JoinsTokens a set b → HasToken b x ↔ (HasToken a x ⊎ HasToken set x)
      pushed a b h = or_splits (has a x) (has set x) (has b x) (h x)

      fresh : (e b : List ℕ) → IsNoSet e → JoinsTokens e set b → HasToken b x ↔ HasToken set x
      fresh e b none h =
          let same : has b x ≡ has set x = h x ∙ ap (λ l. has l x || has set x) none in
          (λ t. sym same ∙ t, λ t. same ∙ t)

  row_entered : (d : ℕ) (before after : TokenRow) → JoinsRow before (c, set) after →
      HasAt (λ (t : List ℕ). Unit {0}) after (column_index d)
      ↔ (HasAt (λ (t : List ℕ). Unit {0}) before (column_index d) ⊎ ((c ≡ column_index d) × Unit {0}))
  row_entered d before after j =
      puts_has column_cmp column_exact (λ (t : List ℕ). Unit {0}) IsNoSet IsOneSet JoinsTokens set (Unit {0}) (λ e b n h. (λ t. tt, λ t. tt))
      (λ a b h. (λ t. inl tt, λ t. tt)) before after c j.0 j.1 (column_index d)

  -- what a row holds that comes new, and which entries it has
  row_of_nothing : (P : List ℕ → Type 0) (row : TokenRow) (k : ConflictIndex) → IsNoRow row → HasAt P row k → ⊥
  row_of_nothing P row k none h = no_element (k, h.0) (subst (λ (r : TokenRow). Contains r (k, h.0)) none h.1)

  holds_more : (m d x : ℕ) → TableHolds HasToken (rows_view new) m d x
      ↔ (TableHolds HasToken (rows_view old) m d x ⊎ ((d ≡ c.index) × AddsTokens s.0 set m x))
  holds_more m d x = (
    λ h. ⊎_elim
        (λ o. inl ((table_holds_at old m d x).1 o))
        (λ w. inr (sym (ap (λ (k : ConflictIndex). k.index) w.1.0), (sym (ap (λ (k : StateIndex). k.0) w.0), w.1.1)))
        (p.0 ((table_holds_at new m d x).0 h)),
    λ h. (table_holds_at new m d x).1 (p.1 (⊎_elim
        (λ o. inl ((table_holds_at old m d x).0 o))
        (λ w. inr (ap state_index (sym w.1.0), (ap column_index (sym w.0), w.1.1))) h)),
  )
    where
      fresh : (e after : TokenRow) → IsNoRow e → JoinsRow e (c, set) after →
          HasAt (λ t. HasToken t x) after (column_index d) ↔ ((c ≡ column_index d) × HasToken set x)
      fresh e after none j = (
        λ h. ⊎_elim (λ o. absurd (row_of_nothing (λ t. HasToken t x) e (column_index d) none o)) (λ w. w) ((row_joined x d e after j).0 h),
        λ w. (row_joined x d e after j).1 (inr w),
      )

      p : HasAt (λ (row : TokenRow). HasAt (λ t. HasToken t x) row (column_index d)) new (state_index m)
          ↔ (HasAt (λ (row : TokenRow). HasAt (λ t. HasToken t x) row (column_index d)) old (state_index m)
          ⊎ ((s ≡ state_index m) × ((c ≡ column_index d) × HasToken set x)))
      p = puts_has index_cmp index_exact (λ (row : TokenRow). HasAt (λ t. HasToken t x) row (column_index d)) IsNoRow IsOneRow JoinsRow
          (c, set) ((c ≡ column_index d) × HasToken set x) fresh (row_joined x d) old new s changed puts (state_index m)

  enters_more : (m d : ℕ) → TableEnters (rows_view new) m d ↔ (TableEnters (rows_view old) m d ⊎ ((d ≡ c.index) × (m ≡ s.0)))
  enters_more m d = (
    λ h. ⊎_elim
        (λ o. inl ((table_enters_at old m d).1 o))
        (λ w. inr (sym (ap (λ (k : ConflictIndex). k.index) w.1.0), sym (ap (λ (k : StateIndex). k.0) w.0)))
        (p.0 ((table_enters_at new m d).0 h)),
    λ h. (table_enters_at new m d).1 (p.1 (⊎_elim
        (λ o. inl ((table_enters_at old m d).0 o))
        (λ w. inr (ap state_index (sym w.1), (ap column_index (sym w.0), tt))) h)),
  )
    where
      fresh : (e after : TokenRow) → IsNoRow e → JoinsRow e (c, set) after →
          HasAt (λ (t : List ℕ). Unit {0}) after (column_index d) ↔ ((c ≡ column_index d) × Unit {0})
      fresh e after none j = (
        λ h. ⊎_elim (λ o. absurd (row_of_nothing (λ (t : List ℕ). Unit {0}) e (column_index d) none o)) (λ w. w) ((row_entered d e after j).0 h),
        λ w. (row_entered d e after j).1 (inr w),
      )

      p : HasAt (λ (row : TokenRow). HasAt (λ (t : List ℕ). Unit {0}) row (column_index d)) new (state_index m)
          ↔ (HasAt (λ (row : TokenRow). HasAt (λ (t : List ℕ). Unit {0}) row (column_index d)) old (state_index m)
          ⊎ ((s ≡ state_index m) × ((c ≡ column_index d) × Unit {0})))
      p = puts_has index_cmp index_exact (λ (row : TokenRow). HasAt (λ (t : List ℕ). Unit {0}) row (column_index d)) IsNoRow IsOneRow
          JoinsRow (c, set) ((c ≡ column_index d) × Unit {0}) fresh (row_entered d) old new s changed puts (state_index m)

  rows_more : (m : ℕ) → HasRow (rows_view new) m ↔ (HasRow (rows_view old) m ⊎ (s ≡ state_index m))
  rows_more m = (
    λ h. ⊎_elim (λ o. inl ((has_row_at old m).1 o)) (λ w. inr w.0) (p.0 ((has_row_at new m).0 h)),
    λ h. (has_row_at new m).1 (p.1 (⊎_elim (λ o. inl ((has_row_at old m).0 o)) (λ w. inr (w, tt)) h)),
  )
    where
      p : HasAt (λ (row : TokenRow). Unit {0}) new (state_index m)
          ↔ (HasAt (λ (row : TokenRow). Unit {0}) old (state_index m) ⊎ ((s ≡ state_index m) × Unit {0}))
      p = puts_has index_cmp index_exact (λ (row : TokenRow). Unit {0}) IsNoRow IsOneRow JoinsRow (c, set) (Unit {0})
          (λ e after n j. (λ t. tt, λ t. tt)) (λ a b j. (λ t. inl tt, λ t. tt)) old new s changed puts (state_index m)

  -- the table gains the entry
  pub entry_gains : (conflicts : ℕ) (noted : List (StateIndex × BTreeSet StateIndex)) →
      TableGains (AddsTokens s.0 set) (EntersAt s.0) NotesNothing c.index (table_view conflicts old noted) (table_view conflicts new noted)
  entry_gains conflicts noted = record {
    conflicts = refl;
    gains = record {
      holds = holds_more;
      enters = enters_more;
      notes = λ k m. (λ h. inl h, λ h. ⊎_elim (λ o. o) (λ w. absurd w) h);
    };
  }

  -- and its rows stay whole
  pub entry_keeps : (conflicts : ℕ) (noted : List (ℕ × List ℕ)) → c.index < conflicts → AreWholeRows conflicts (rows_view old) noted →
      AreWholeRows conflicts (rows_view new) noted
  entry_keeps conflicts noted small whole = record {
    within = λ n d h. ⊎_elim (λ o. whole.within n d o) (λ w. subst (λ i. i < conflicts) (sym w.0) small) ((enters_more n d).0 h);
    entered = λ n h. ⊎_elim
        (λ o. let e : (d : ℕ) × TableEnters (rows_view old) n d = whole.entered n o in (e.0, (enters_more n e.0).1 (inl e.1)))
        (λ w. (c.index, (enters_more n c.index).1 (inr (refl, sym (ap (λ (k : StateIndex). k.0) w))))) ((rows_more n).0 h);
    led = whole.led;
  }

-- one edge more
abbrev pub IsNoState : BTreeSet StateIndex → Type 0
IsNoState states = states.keys ≡ []

abbrev pub AreOneSet : BTreeSet StateIndex → BTreeSet StateIndex → Type 0
AreOneSet a b = a.keys ≡ b.keys

abbrev pub JoinsState : BTreeSet StateIndex → StateIndex → BTreeSet StateIndex → Type 0
JoinsState a x b = b.keys ≡ insert_key index_cmp a.keys x

abbrev pub PutsState : List (StateIndex × BTreeSet StateIndex) → StateIndex → StateIndex → Bool → List (StateIndex × BTreeSet StateIndex) →
    Type 0
PutsState = Puts index_cmp IsNoState AreOneSet JoinsState

module _ (old new : List (StateIndex × BTreeSet StateIndex)) (s t : StateIndex) (changed : Bool) (puts : PutsState old s t changed new) where
  notes_more : (k m : ℕ) → NotesEdge (noted_view new) k m ↔ (NotesEdge (noted_view old) k m ⊎ NotesOne s.0 t.0 k m)
  notes_more k m = (
    λ h. ⊎_elim
        (λ o. inl ((notes_at old k m).1 o))
        (λ w. inr (sym (ap (λ (i : StateIndex). i.0) w.0), sym (ap (λ (i : StateIndex). i.0) w.1)))
        (p.0 ((notes_at new k m).0 h)),
    λ h. (notes_at new k m).1 (p.1 (⊎_elim
        (λ o. inl ((notes_at old k m).0 o))
        (λ w. inr (ap state_index (sym w.0), ap state_index (sym w.1))) h)),
  )
    where
      pushed : (a b : BTreeSet StateIndex) → JoinsState a t b →
          Contains b.keys (state_index m) ↔ (Contains a.keys (state_index m) ⊎ (t ≡ state_index m))
      pushed a b j =
          subst (λ l. Contains l (state_index m) ↔ (Contains a.keys (state_index m) ⊎ (t ≡ state_index m))) (sym j)
          (insert_has index_cmp index_exact a.keys t (state_index m))

      fresh : (e b : BTreeSet StateIndex) → IsNoState e → JoinsState e t b → Contains b.keys (state_index m) ↔ (t ≡ state_index m)
      fresh e b none j = (
        λ h. ⊎_elim (λ o. absurd (no_element (state_index m) (subst (λ l. Contains l (state_index m)) none o))) (λ w. w) ((pushed e b j).0 h),
        λ w. (pushed e b j).1 (inr w),
      )

      p : HasAt (λ (states : BTreeSet StateIndex). Contains states.keys (state_index m)) new (state_index k)
          ↔ (HasAt (λ (states : BTreeSet StateIndex). Contains states.keys (state_index m)) old (state_index k)
          ⊎ ((s ≡ state_index k) × (t ≡ state_index m)))
      p = puts_has index_cmp index_exact (λ (states : BTreeSet StateIndex). Contains states.keys (state_index m)) IsNoState AreOneSet
          JoinsState t (t ≡ state_index m) fresh pushed old new s changed puts (state_index k)

  noted_more : (k : ℕ) → HasRow (noted_view new) k ↔ (HasRow (noted_view old) k ⊎ (s ≡ state_index k))
  noted_more k = (
    λ h. ⊎_elim (λ o. inl ((has_noted_at old k).1 o)) (λ w. inr w.0) (p.0 ((has_noted_at new k).0 h)),
    λ h. (has_noted_at new k).1 (p.1 (⊎_elim (λ o. inl ((has_noted_at old k).0 o)) (λ w. inr (w, tt)) h)),
  )
    where
      p : HasAt (λ (states : BTreeSet StateIndex). Unit {0}) new (state_index k)
          ↔ (HasAt (λ (states : BTreeSet StateIndex). Unit {0}) old (state_index k) ⊎ ((s ≡ state_index k) × Unit {0}))
      p = puts_has index_cmp index_exact (λ (states : BTreeSet StateIndex). Unit {0}) IsNoState AreOneSet JoinsState t (Unit {0})
          (λ e b n j. (λ w. tt, λ w. tt)) (λ a b j. (λ w. inl tt, λ w. tt)) old new s changed puts (state_index k)

  -- the table gains the edge
  pub edge_gains : (conflicts : ℕ) (rows : List (StateIndex × TokenRow)) (c : ℕ) →
      TableGains AddsNothing EntersNowhere (NotesOne s.0 t.0) c (table_view conflicts rows old) (table_view conflicts rows new)
  edge_gains conflicts rows c = record {
    conflicts = refl;
    gains = record {
      holds = λ m d x. (λ h. inl h, λ h. ⊎_elim (λ o. o) (λ w. absurd w.1) h);
      enters = λ m d. (λ h. inl h, λ h. ⊎_elim (λ o. o) (λ w. absurd w.1) h);
      notes = notes_more;
    };
  }

  -- and its rows stay whole
  pub edge_keeps : (conflicts : ℕ) (rows : List (ℕ × List (ℕ × List ℕ))) → AreWholeRows conflicts rows (noted_view old) →
      AreWholeRows conflicts rows (noted_view new)
  edge_keeps conflicts rows whole = record {
    within = whole.within;
    entered = whole.entered;
    led = λ n h. ⊎_elim
        (λ o. let e : (m : ℕ) × NotesEdge (noted_view old) n m = whole.led n o in (e.0, (notes_more n e.0).1 (inl e.1)))
        (λ w. (t.0, (notes_more n t.0).1 (inr (sym (ap (λ (k : StateIndex). k.0) w), refl)))) ((noted_more n).0 h);
  }

-- maps that stand for the same are seen alike
module _ {K C D : Type 0} (number : K → ℕ) (S : C → C → Type 0) (see : C → D) (alike : (c d : C) → S c d → see c ≡ see d) where
  abbrev entry_seen : K × C → ℕ × D
  entry_seen e = (number e.0, see e.1)

  pub same_seen : (es fs : List (K × C)) → SameEntries S es fs → map entry_seen es ≡ map entry_seen fs
  same_seen [] [] h = refl
  same_seen [] (f ∷ fs) h = absurd h
  same_seen (e ∷ es) [] h = absurd h
  same_seen (e ∷ es) (f ∷ fs) h =
      ap (λ k. entry_seen (k, e.1) ∷ map entry_seen es) h.0.0
      ∙ ap (λ (v : D). (let w : ℕ × D = (number f.0, v) in w) ∷ map entry_seen es) (alike e.1 f.1 h.0.1)
      ∙ ap (λ l. entry_seen f ∷ l) (same_seen es fs h.1)

pub same_rows : (old new : List (StateIndex × TokenRow)) → SameEntries IsOneRow old new → rows_view old ≡ rows_view new
same_rows old new h =
    same_seen (λ (k : StateIndex). k.0) IsOneRow (map row_entry)
    (same_seen (λ (k : ConflictIndex). k.index) IsOneSet (λ (t : List ℕ). t) (λ a b e. e)) old new h

pub same_noted : (old new : List (StateIndex × BTreeSet StateIndex)) → SameEntries AreOneSet old new → noted_view old ≡ noted_view new
same_noted old new h =
    same_seen (λ (k : StateIndex). k.0) AreOneSet numbers_of (λ a b e. ap (map (λ (s : StateIndex). s.0)) e) old new h

-- a table without entries is whole
pub none_whole : (conflicts : ℕ) → AreWholeRows conflicts [] []
none_whole conflicts = record {
  within = λ n c h. absurd (no_element (n, h.0) h.1);
  entered = λ n h. absurd (no_element (n, h.0) h.1);
  led = λ n h. absurd (no_element (n, h.0) h.1);
}
