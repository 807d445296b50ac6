-- The columns of terminals and the places of tokens' columns, for tables that are run by columns, and for whoever keeps columns.
use Rattle.std.proofs.Common.{◌≡◌, ◌∙◌, ℕ, zero, suc, ◌<◌, ◌≤◌, List, [], ◌∷◌, ◌++◌, Some, None}
use Rattle.std.proofs.Common.{◌+◌, ap, arith, drop, get_or, length, refl, subst, sym, take}
use Rattle.std.specs.Prelude.{Option, slice_get}
use Rattle.std.proofs.lemmas.List.{take_more}
use Rattle.std.proofs.lemmas.Option.{get_or_from_slice_get}
use Rattle.lalrpop_grammar.specs.declared.token.ScanToken.{ScanToken}
use Rattle.lalrpop_grammar_symbols.specs.declared.terminal.TerminalString.{TerminalString}
use Rattle.lalrpop_lr1_theory.specs.Productions.{Next, first}
use Rattle.lalrpop_lr1_interpret.specs.Columns.{AreColumnsOf, ArePlacesOf, HasColumnAt, IsColumnOf}
use Rattle.lalrpop_lr1_interpret.specs.Ends.{terminals_of}
use Rattle.lalrpop_lr1_interpret.specs.Tables.{IsNextBy}
use Rattle.lalrpop_lr1_interpret.specs.declared.parse.action_table.ActionTable.{ActionTable}
use Rattle.lalrpop_lr1_interpret.specs.declared.parse.table_row.NextNumber.{NextNumber}

module _ (table : ActionTable) where
  -- one more terminal with its column
  columns_more : (ts : List (Option TerminalString)) (cs : List NextNumber) (t : Option TerminalString) (c : NextNumber)
      → AreColumnsOf table ts cs → IsColumnOf table t c → AreColumnsOf table (ts ++ t ∷ []) (cs ++ c ∷ [])
  columns_more [] [] t c are is = (is, tt)
  columns_more [] (d ∷ cs) t c are is = absurd are
  columns_more (u ∷ ts) [] t c are is = absurd are
  columns_more (u ∷ ts) (d ∷ cs) t c are is = (are.0, columns_more ts cs t c are.1 is)

  -- the columns of the first terminals, and the next one's
  pub columns_on : (ts : List (Option TerminalString)) (i : ℕ) (t : Option TerminalString) (cs cs' : List NextNumber) (c : NextNumber)
      → i < length ts → t ≡ get_or ts i t → AreColumnsOf table (take i ts) cs → IsColumnOf table t c → cs' ≡ cs ++ c ∷ []
      → AreColumnsOf table (take (i + 1) ts) cs'
  columns_on ts i t cs cs' c h read are is pushed =
      subst (λ l. AreColumnsOf table l cs') (sym (take_more ts i t h ∙ ap (λ u. take i ts ++ u ∷ []) (sym read)))
      (subst (AreColumnsOf table (take i ts ++ t ∷ [])) (sym pushed) (columns_more (take i ts) cs t c are is))

  -- at the place of a terminal stands its column
  pub column_there : (ts : List (Option TerminalString)) (cs : List NextNumber) (place : ℕ) (t : TerminalString)
      → AreColumnsOf table ts cs → slice_get ts place ≡ Some (Some t) → HasColumnAt table cs place t
  column_there [] cs place t are there = let z : ⊥ = cc in absurd z
  column_there (u ∷ ts) [] place t are there = absurd are
  column_there (u ∷ ts) (c ∷ cs) zero t are there =
      let same : u ≡ Some t = cc in
      record { column = c; there = refl; column_is = subst (λ o. IsColumnOf table o c) same are.0 }
  column_there (u ∷ ts) (c ∷ cs) (suc place) t are there =
      let deeper = column_there ts cs place t are.1 there in
      record { column = deeper.column; there = deeper.there; column_is = deeper.column_is }

  -- at the place stands the number of what comes next
  pub record HasNextAt (cs : List NextNumber) (place : ℕ) (x : Next) : Type 0 where
    pub column : NextNumber
    pub there : slice_get cs place ≡ Some column
    pub next_is : IsNextBy table x column

  module _ (cs : List NextNumber) where
    -- at the place of a token's column stands the token's number
    pub next_there : (ks : List ScanToken) (ns : List ℕ) (at : ℕ) → ArePlacesOf table cs ks ns → at < length ns
        → HasNextAt cs (get_or ns at 0) (first (drop at (terminals_of ks)))
    next_there [] [] at are h = absurd (omega arith)
    next_there [] (n ∷ ns) at are h = absurd are
    next_there (k ∷ ks) [] at are h = absurd are
    next_there (k ∷ ks) (n ∷ ns) zero are h = record {
      column = are.0.column;
      there = are.0.there;
      next_is = are.0.column_is;
    }
    next_there (k ∷ ks) (n ∷ ns) (suc at) are h = next_there ks ns at are.1 (omega arith)

    -- the number that is read there
    pub next_read : (place : ℕ) (x : Next) (number : NextNumber) → HasNextAt cs place x → number ≡ get_or cs place number
        → IsNextBy table x number
    next_read place x number found read =
        subst (IsNextBy table x) (sym (read ∙ get_or_from_slice_get cs place found.column number found.there)) found.next_is

    -- past the last of them nothing comes next
    pub none_there : (ks : List ScanToken) (ns : List ℕ) (at : ℕ) → ArePlacesOf table cs ks ns → length ns ≤ at
        → first (drop at (terminals_of ks)) ≡ None
    none_there [] [] zero are h = refl
    none_there [] [] (suc at) are h = refl
    none_there [] (n ∷ ns) at are h = absurd are
    none_there (k ∷ ks) [] at are h = absurd are
    none_there (k ∷ ks) (n ∷ ns) zero are h = absurd (omega arith)
    none_there (k ∷ ks) (n ∷ ns) (suc at) are h = none_there ks ns at are.1 (omega arith)
