-- Tables of states and of their edges, with one more. For the loops that make them, and the functions that read them.
use Rattle.std.proofs.Common.{◌≡◌, ℕ, zero, suc, ◌+◌, ◌<◌, ◌≤◌, List, [], ◌∷◌, ◌++◌, length}
use Rattle.std.proofs.Common.{get_or, map, Option, Some, None, ⊎_elim, sym, ap, ◌∙◌, refl, subst, arith}
use Rattle.std.specs.Prelude.{slice_get, option_and_then}
use Rattle.std.proofs.lemmas.Bool.{cases_lt, cases_eq}
use Rattle.std.proofs.lemmas.List.{length-map, get_or-map, get_or_past, get_or_push, get_or_append_left, length_push, map_push}
use Rattle.std.proofs.lemmas.Option.{get_or_from_slice_get}
use Rattle.lalrpop_lexer.specs.declared.edge.DfaEdge.{DfaEdge}
use Rattle.lalrpop_lexer.specs.declared.state.State.{State}
use Rattle.lalrpop_lexer_nfa.specs.Paths.{Graph}
use Rattle.lalrpop_lexer.specs.Numbering.{EdgeView}
use Rattle.lalrpop_lexer.specs.Explore.{edges_view, Explores}
use Rattle.lalrpop_lexer.specs.Rows.{IsRow}
use Rattle.lalrpop_lexer.specs.Simulation.{StateView, AreApart, target_of, next_state_view}
use Rattle.lalrpop_lexer.specs.StateViews.{accepted_of, state_views, edges_in, accepted_in}
use Rattle.lalrpop_lexer.specs.Tables.{AreTables}
use Rattle.lalrpop_lexer.specs.Outcome.{IsAccepted}
use Rattle.lalrpop_lexer.specs.Ties.{AcceptsPattern}
use Rattle.lalrpop_lexer.proofs.WholeLemmas.{IsExplored, explored_more}

-- ---- what is read of a state

-- each state has a view
pub views_count : (states : List State) (table : List (List DfaEdge)) → length (state_views states table) ≡ length states
views_count [] table = refl
views_count (x ∷ states) [] = ap suc (views_count states [])
views_count (x ∷ states) (edges ∷ table) = ap suc (views_count states table)

-- the view of each state
pub node_at : (states : List State) (table : List (List DfaEdge)) (s : ℕ) → s < length states
    → slice_get (state_views states table) s ≡ Some (accepted_in states s, edges_in table s)
node_at [] table s l = absurd (omega arith)
node_at (x ∷ states) [] zero l = refl
node_at (x ∷ states) [] (suc s) l = node_at states [] s (omega arith)
node_at (x ∷ states) (edges ∷ table) zero l = refl
node_at (x ∷ states) (edges ∷ table) (suc s) l = node_at states table s (omega arith)

pub view_at : (states : List State) (table : List (List DfaEdge)) (s : ℕ) → s < length states
    → get_or (state_views states table) s (None, []) ≡ (accepted_in states s, edges_in table s)
view_at states table s l =
    get_or_from_slice_get (state_views states table) s (accepted_in states s, edges_in table s) (None, []) (node_at states table s l)

-- what a state accepts that was read at its place
pub accepted_is : (states : List State) (s : ℕ) (x : State) → s < length states → x ≡ get_or states s x
    → accepted_of x ≡ accepted_in states s
accepted_is states s x l is = ap accepted_of is ∙ sym (get_or-map accepted_of states s x None l)

-- the state that a character leads to, by the number that its edge tells
pub next_state_at : (nodes : List StateView) (node : StateView) (c n : ℕ) → Some n ≡ target_of node.1 c
    → slice_get nodes n ≡ next_state_view nodes node c
next_state_at nodes node c n is = ap (option_and_then (slice_get nodes)) is

-- ---- one more state

pub edges_in-new : (table : List (List DfaEdge)) (edges : List DfaEdge)
    → edges_in (table ++ edges ∷ []) (length table) ≡ edges_view edges
edges_in-new table edges = ap edges_view (get_or_push table edges [] (length table) refl)

pub edges_in-old : (table : List (List DfaEdge)) (edges : List DfaEdge) (s : ℕ) → (s ≡ length table → ⊥)
    → edges_in (table ++ edges ∷ []) s ≡ edges_in table s
edges_in-old table edges s apart =
    let read : get_or (table ++ edges ∷ []) s [] ≡ get_or table s [] =
    ⊎_elim (λ (less : s < length table). get_or_append_left table (edges ∷ []) [] s less)
    (λ (more : length table ≤ s).
    let past : length table + 1 ≤ s =
    ⊎_elim (λ (less : length table < s). omega (arith, less)) (λ (ge : s ≤ length table). absurd (apart (omega (arith, ge, more))))
    (cases_lt (length table) s) in
    get_or_past (table ++ edges ∷ []) s [] (omega (arith, past, length_push table edges))
    ∙ sym (get_or_past table s [] (omega (arith, past))))
    (cases_lt s (length table)) in
    ap edges_view read

-- one more state got its edges
pub explored_push : (t : Graph) (start : ℕ) (table : List (List DfaEdge)) (edges : List DfaEdge) (old new : List (List ℕ))
    → length table < length old → IsExplored t start (length table) old (edges_in table)
    → Explores t (length table) old new (edges_view edges)
    → IsExplored t start (length (table ++ edges ∷ [])) new (edges_in (table ++ edges ∷ []))
explored_push t start table edges old new inside before one =
    let P : ℕ → Type 0 = λ k. IsExplored t start k new (edges_in (table ++ edges ∷ [])) in
    subst P (sym (length_push table edges))
    (explored_more t start (length table) old new (edges_in table) (edges_in (table ++ edges ∷ [])) (edges_view edges)
    inside before one (λ s apart. edges_in-old table edges s apart) (edges_in-new table edges))

-- before the first state the tables are empty
pub tables_none : AreTables 0 [] []
tables_none = record {
  edged = refl;
  rowed = refl;
  apart = λ s l. absurd (omega (arith, l));
  agrees = λ s l. absurd (omega (arith, l));
}

-- one more state has its edges and its row
pub tables_push : (table : List (List DfaEdge)) (rows : List (List (Option ℕ))) (edges : List DfaEdge) (row : List (Option ℕ))
    → AreTables (length table) table rows → AreApart (edges_view edges) → IsRow (edges_view edges) row
    → AreTables (length (table ++ edges ∷ [])) (table ++ edges ∷ []) (rows ++ row ∷ [])
tables_push table rows edges row h parted told = record {
  edged = refl;
  rowed = omega (arith, length_push rows row, h.rowed, length_push table edges);
  apart = λ s l. ⊎_elim
      (λ (at : s ≡ length table).
      let P : List EdgeView → Type 0 = AreApart in
      subst P (sym (ap (edges_in (table ++ edges ∷ [])) at ∙ edges_in-new table edges)) parted)
      (λ (other : s ≡ length table → ⊥).
      let P : List EdgeView → Type 0 = AreApart in
      subst P (sym (edges_in-old table edges s other)) (h.apart s (inside s l other))) (cases_eq s (length table));
  agrees = λ s l. ⊎_elim
      (λ (at : s ≡ length table).
      let read : get_or (rows ++ row ∷ []) s [] ≡ row = get_or_push rows row [] s (h.rowed ∙ sym at) in
      let P : List EdgeView → List (Option ℕ) → Type 0 = IsRow in
      subst (λ es. P es (get_or (rows ++ row ∷ []) s [])) (sym (ap (edges_in (table ++ edges ∷ [])) at ∙ edges_in-new table edges))
      (subst (P (edges_view edges)) (sym read) told))
      (λ (other : s ≡ length table → ⊥).
      let less = inside s l other in
      let read : get_or (rows ++ row ∷ []) s [] ≡ get_or rows s [] =
      get_or_append_left rows (row ∷ []) [] s (omega (arith, less, h.rowed)) in
      let P : List EdgeView → List (Option ℕ) → Type 0 = IsRow in
      subst (λ es. P es (get_or (rows ++ row ∷ []) s [])) (sym (edges_in-old table edges s other))
      (subst (P (edges_in table s)) (sym read) (h.agrees s less))) (cases_eq s (length table));
}
  where
    inside : (s : ℕ) → s < length (table ++ edges ∷ []) → (s ≡ length table → ⊥) → s < length table
    inside s l other =
        ⊎_elim (λ (less : s < length table). less)
        (λ (ge : length table ≤ s). absurd (other (omega (arith, ge, l, length_push table edges)))) (cases_lt s (length table))

-- ---- what the states accept

-- it is said of the first states what they accept
pub record AreDecided (sets : List (List ℕ)) (precedences : List ℕ) (done : ℕ) (states : List State) : Type 0 where
  pub count : length states ≡ done
  pub accepted : (s : ℕ) → s < done → IsAccepted (AcceptsPattern sets s) precedences (length precedences) (accepted_in states s)

pub decided_none : (sets : List (List ℕ)) (precedences : List ℕ) → AreDecided sets precedences 0 []
decided_none sets precedences = record { count = refl; accepted = λ s l. absurd (omega arith) }

-- one more state accepts its best pattern, or nothing
pub decided_more : (sets : List (List ℕ)) (precedences : List ℕ) (i : ℕ) (states : List State) (x : State)
    → IsAccepted (AcceptsPattern sets i) precedences (length precedences) (accepted_of x) → AreDecided sets precedences i states
    → AreDecided sets precedences (i + 1) (states ++ x ∷ [])
decided_more sets precedences i states x here h = record {
  count = omega (arith, length_push states x, h.count);
  accepted = λ s below.
      let pushed : accepted_in (states ++ x ∷ []) s ≡ get_or (map accepted_of states ++ accepted_of x ∷ []) s None =
      ap (λ (os : List (Option ℕ)). get_or os s None) (map_push accepted_of states x) in
      let size = length-map states accepted_of in
      let P : Option ℕ → Type 0 = IsAccepted (AcceptsPattern sets s) precedences (length precedences) in
      ⊎_elim
      (λ (less : s < i).
      subst P (sym (pushed ∙ get_or_append_left (map accepted_of states) (accepted_of x ∷ []) None s (omega (arith, less, size, h.count))))
      (h.accepted s less))
      (λ (ge : i ≤ s).
      let at : s ≡ i = omega (arith, ge, below) in
      let Q : ℕ → Type 0 = λ k. IsAccepted (AcceptsPattern sets k) precedences (length precedences) (accepted_of x) in
      subst P (sym (pushed ∙ get_or_push (map accepted_of states) (accepted_of x) None s (size ∙ h.count ∙ sym at)))
      (subst Q (sym at) here))
      (cases_lt s i);
}
