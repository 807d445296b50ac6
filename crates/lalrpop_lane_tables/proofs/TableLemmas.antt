-- What is seen of a lane table, and what stands in the maps that it is seen of.
use Rattle.std.proofs.Common.{◌≡◌, ◌∙◌, ◌↔◌, ℕ, List, map, refl, sym, ap, subst, Contains}
use Rattle.std.specs.BTreeSet.{BTreeSet}
use Rattle.lalrpop_lr1_core.proofs.MemberLemmas.{in_map, map_has}
use Rattle.lalrpop_lr1_core.specs.Edges.{state_index}
use Rattle.lalrpop_lr1_core.specs.declared.state_index.StateIndex.{StateIndex}
use Rattle.lalrpop_lane_theory.specs.Columns.{HasEntry, RowHolds, TableEnters, TableHolds}
use Rattle.lalrpop_lane_theory.specs.LaneTables.{NotesEdge}
use Rattle.lalrpop_lane_tables.specs.ColumnAnswers.{HasToken}
use Rattle.lalrpop_lane_tables.specs.TableViews.{HasRow, TokenRow, row_entry, noted_view, numbers_of, rows_view}
use Rattle.lalrpop_lane_tables.specs.declared.context_sets.ConflictIndex.{ConflictIndex}
use Rattle.lalrpop_lane_tables.proofs.PutLemmas.{HasAt}

abbrev pub column_index : ℕ → ConflictIndex
column_index n = record { index = n }

-- entries under numbers for keys, and what is seen for contents
module _ {K C D : Type 0} (number : K → ℕ) (key : ℕ → K) (back : (k : K) → key (number k) ≡ k) (forth : (n : ℕ) → number (key n) ≡ n)
    (see : C → D) where
  abbrev seen : K × C → ℕ × D
  seen e = (number e.0, see e.1)

  pub in_seen : (es : List (K × C)) (n : ℕ) (d : D) → Contains (map seen es) (n, d) → (c : C) × Contains es (key n, c) × (see c ≡ d)
  in_seen es n d h =
      let m : (e : K × C) × Contains es e × (seen e ≡ (n, d)) = in_map seen es (n, d) h in
      let at : m.0.0 ≡ key n = sym (back m.0.0) ∙ ap key (ap (λ (u : ℕ × D). u.0) m.2) in
      (m.0.1, subst (λ k. Contains es (k, m.0.1)) at m.1, ap (λ (u : ℕ × D). u.1) m.2)

  pub seen_has : (es : List (K × C)) (n : ℕ) (c : C) → Contains es (key n, c) → Contains (map seen es) (n, see c)
  seen_has es n c h = subst (λ k. Contains (map seen es) (k, see c)) (forth n) (map_has seen es (key n, c) h)

-- an entry of a row
pub in_row : (row : TokenRow) (c : ℕ) (set : List ℕ) → Contains (map row_entry row) (c, set) → Contains row (column_index c, set)
in_row row c set h =
    let s : (t : List ℕ) × Contains row (column_index c, t) × (t ≡ set) =
    in_seen (λ (k : ConflictIndex). k.index) column_index (λ k. refl) (λ n. refl) (λ (t : List ℕ). t) row c set h in
    subst (λ t. Contains row (column_index c, t)) s.2 s.1

pub row_has : (row : TokenRow) (c : ℕ) (set : List ℕ) → Contains row (column_index c, set) → Contains (map row_entry row) (c, set)
row_has row c set h = seen_has (λ (k : ConflictIndex). k.index) column_index (λ k. refl) (λ n. refl) (λ (t : List ℕ). t) row c set h

-- a row of a table
pub in_rows : (rows : List (StateIndex × TokenRow)) (n : ℕ) (r : List (ℕ × List ℕ)) → Contains (rows_view rows) (n, r) →
    (row : TokenRow) × Contains rows (state_index n, row) × (map row_entry row ≡ r)
in_rows = in_seen (λ (k : StateIndex). k.0) state_index (λ k. refl) (λ n. refl) (map row_entry)

pub rows_have : (rows : List (StateIndex × TokenRow)) (n : ℕ) (row : TokenRow) → Contains rows (state_index n, row) →
    Contains (rows_view rows) (n, map row_entry row)
rows_have = seen_has (λ (k : StateIndex). k.0) state_index (λ k. refl) (λ n. refl) (map row_entry)

-- edges that were noted from a state
pub in_noted : (noted : List (StateIndex × BTreeSet StateIndex)) (n : ℕ) (ms : List ℕ) → Contains (noted_view noted) (n, ms) →
    (states : BTreeSet StateIndex) × Contains noted (state_index n, states) × (numbers_of states ≡ ms)
in_noted = in_seen (λ (k : StateIndex). k.0) state_index (λ k. refl) (λ n. refl) numbers_of

pub noted_have : (noted : List (StateIndex × BTreeSet StateIndex)) (n : ℕ) (states : BTreeSet StateIndex) →
    Contains noted (state_index n, states) → Contains (noted_view noted) (n, numbers_of states)
noted_have = seen_has (λ (k : StateIndex). k.0) state_index (λ k. refl) (λ n. refl) numbers_of

pub in_numbers : (states : BTreeSet StateIndex) (m : ℕ) → Contains (numbers_of states) m ↔ Contains states.keys (state_index m)
in_numbers states m = (
  λ h. let r : (s : StateIndex) × Contains states.keys s × (s.0 ≡ m) = in_map (λ (s : StateIndex). s.0) states.keys m h in
      subst (Contains states.keys) (ap state_index r.2) r.1,
  λ h. map_has (λ (s : StateIndex). s.0) states.keys (state_index m) h,
)

-- a row holds a token, a table does, a table has an entry, a row, an edge: by what stands in maps
pub row_holds_at : (row : TokenRow) (c x : ℕ) →
    RowHolds HasToken (map row_entry row) c x ↔ HasAt (λ set. HasToken set x) row (column_index c)
row_holds_at row c x = (λ h. (h.0, in_row row c h.0 h.1, h.2), λ h. (h.0, row_has row c h.0 h.1, h.2))

pub table_holds_at : (rows : List (StateIndex × TokenRow)) (n c x : ℕ) →
    TableHolds HasToken (rows_view rows) n c x
    ↔ HasAt (λ (row : TokenRow). HasAt (λ set. HasToken set x) row (column_index c)) rows (state_index n)
table_holds_at rows n c x = (
  λ h. let r = in_rows rows n h.0 h.1 in
      (r.0, r.1, (row_holds_at r.0 c x).0 (subst (λ row. RowHolds HasToken row c x) (sym r.2) h.2)),
  λ h. (map row_entry h.0, rows_have rows n h.0 h.1, (row_holds_at h.0 c x).1 h.2),
)

pub entry_at : (row : TokenRow) (c : ℕ) → HasEntry (map row_entry row) c ↔ HasAt (λ (set : List ℕ). Unit {0}) row (column_index c)
entry_at row c = (λ h. (h.0, in_row row c h.0 h.1, tt), λ h. (h.0, row_has row c h.0 h.1))

pub table_enters_at : (rows : List (StateIndex × TokenRow)) (n c : ℕ) →
    TableEnters (rows_view rows) n c
    ↔ HasAt (λ (row : TokenRow). HasAt (λ (set : List ℕ). Unit {0}) row (column_index c)) rows (state_index n)
table_enters_at rows n c = (
  λ h. let r = in_rows rows n h.0 h.1 in (r.0, r.1, (entry_at r.0 c).0 (subst (λ row. HasEntry row c) (sym r.2) h.2)),
  λ h. (map row_entry h.0, rows_have rows n h.0 h.1, (entry_at h.0 c).1 h.2),
)

pub has_row_at : (rows : List (StateIndex × TokenRow)) (n : ℕ) →
    HasRow (rows_view rows) n ↔ HasAt (λ (row : TokenRow). Unit {0}) rows (state_index n)
has_row_at rows n = (
  λ h. let r = in_rows rows n h.0 h.1 in (r.0, r.1, tt),
  λ h. (map row_entry h.0, rows_have rows n h.0 h.1),
)

pub notes_at : (noted : List (StateIndex × BTreeSet StateIndex)) (n m : ℕ) →
    NotesEdge (noted_view noted) n m ↔ HasAt (λ (states : BTreeSet StateIndex). Contains states.keys (state_index m)) noted (state_index n)
notes_at noted n m = (
  λ h. let r = in_noted noted n h.0 h.1 in
      (r.0, r.1, (in_numbers r.0 m).0 (subst (λ ms. Contains ms m) (sym r.2) h.2)),
  λ h. (numbers_of h.0, noted_have noted n h.0 h.1, (in_numbers h.0 m).1 h.2),
)

pub has_noted_at : (noted : List (StateIndex × BTreeSet StateIndex)) (n : ℕ) →
    HasRow (noted_view noted) n ↔ HasAt (λ (states : BTreeSet StateIndex). Unit {0}) noted (state_index n)
has_noted_at noted n = (
  λ h. let r = in_noted noted n h.0 h.1 in (r.0, r.1, tt),
  λ h. (numbers_of h.0, noted_have noted n h.0 h.1),
)
