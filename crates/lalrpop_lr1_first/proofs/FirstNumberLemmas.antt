-- What a table of sets says of symbols by numbers, and what it means to the theory: for first sets.
use Rattle.std.proofs.Common.{◌≡◌, ◌∙◌, ℕ, ◌<◌, ◌≤◌, Bool, true, false, not}
use Rattle.std.proofs.Common.{◌&&◌, eqb, List, [], ◌∷◌}
use Rattle.std.proofs.Common.{refl, sym, ap, subst, arith, inl, inr, ⊎_elim, slice_get, Option, Some, None}
use Rattle.lalrpop_grammar_symbols.specs.Symbols.{Text, Terminal}
use Rattle.lalrpop_lr1_theory.specs.Productions.{Symbol, terminal, nonterminal, Production, Next}
use Rattle.lalrpop_lr1_theory.specs.FirstSets.{First0, IsClosedTable, TableSays}
use Rattle.lalrpop_lr1_theory.proofs.FirstTableLemmas.{first_said, said_first}
use Rattle.lalrpop_sets.specs.AscendingLists.{has}
use Rattle.lalrpop_lr1_first.specs.Numbers.{AreRulesOf, IsNumbering, RuleByNumbers, SpellsSymbols, says, set_of_number}
use Rattle.lalrpop_lr1_first.specs.FirstSteps.{AreSound, HasNext, HaveTerminals}
use Rattle.lalrpop_lr1_first.proofs.ListLemmas.{both_and, eqb_true, or_cases, or_left, or_right}
use Rattle.lalrpop_grammar_symbols.proofs.BoolLemmas.{and_both}
use Rattle.lalrpop_sets.proofs.AscendingListLemmas.{eqb_not}
use Rattle.lalrpop_sets.proofs.AscendingListLemmas.{eqb_self}

module _ (symbol_at : ℕ → Option Symbol) (next_at : ℕ →
    Next) (end names : ℕ) (numbered : IsNumbering symbol_at next_at end names)
    (sets : List (List ℕ)) (terminals : HaveTerminals end names sets) where
  abbrev Table : Text → Next → Type 0
  Table = HasNext symbol_at next_at end sets

  -- a terminal's number has that terminal's set
  at_terminal_set : (s : ℕ) (t : Terminal) → symbol_at s ≡ Some (terminal t) → (j : ℕ) × (j < end) × (next_at j ≡ Some t) ×
      ((k : ℕ) → has (set_of_number sets s) k ≡ eqb j k)
  at_terminal_set s t e =
      let h = numbered.terminal_at s t e in
      (h.0, h.2, h.3, λ k. ap (λ z. has (set_of_number sets z) k) h.1 ∙ terminals h.0 k h.2)

  -- only the end is seen as none
  is_end : (k : ℕ) → k ≤ end → next_at k ≡ None → k ≡ end
  is_end k l e = numbered.next_once k end l (omega arith) (e ∙ sym numbered.end_at)

  -- what is said of symbols stands in the theory
  pub says_table : (xs : List ℕ) (ys : List Symbol) → SpellsSymbols symbol_at xs ys → (k : ℕ) → k ≤ end →
      says sets end xs k ≡ true →
      TableSays Table ys (next_at k)
  says_table [] [] sp k l e = ap next_at (eqb_true k end e) ∙ numbered.end_at
  says_table [] (y ∷ ys) sp k l e = absurd sp
  says_table (s ∷ xs) [] sp k l e = absurd sp
  says_table (s ∷ xs) (terminal t ∷ ys) sp k l e =
      let h = at_terminal_set s t sp.0 in
      let no_end : has (set_of_number sets s) end ≡ false = h.3 end ∙ eqb_not h.0 end (λ z. omega (arith, h.1)) in
      ⊎_elim
      (λ z. let j : h.0 ≡ k = eqb_true h.0 k (sym (h.3 k) ∙ (and_both (not (eqb k end)) (has (set_of_number sets s) k) z).1) in
      sym (ap next_at j) ∙ h.2)
      (λ z. let w : has (set_of_number sets s) end ≡ true = (and_both (has (set_of_number sets s) end) (says sets end xs k) z).0 in
      let v : ⊥ = cc in absurd v)
      (or_cases (not (eqb k end) && has (set_of_number sets s) k) (has (set_of_number sets s) end && says sets end xs k) e)
  says_table (s ∷ xs) (nonterminal A ∷ ys) sp k l e = go (next_at k) refl (λ h. says_table xs ys sp.1 k l h)
    where
      more : (j : ℕ) → j ≤ end → has (set_of_number sets s) j ≡ true → Table A (next_at j)
      more j m h = record { symbol = s; number = j; symbol_is = sp.0; next_is = refl; small = m; held = h }

      go : (x : Next) → next_at k ≡ x → (says sets end xs k ≡ true → TableSays Table ys (next_at k)) →
          TableSays Table (nonterminal A ∷ ys) x
      go None z rec =
          let at_end : k ≡ end = is_end k l z in
          ⊎_elim
          (λ y. let w = (and_both (not (eqb k end)) (has (set_of_number sets s) k) y).0 in
          let v : eqb k end ≡ true = ap (λ i. eqb k i) (sym at_end) ∙ eqb_self k in let u : ⊥ = cc in absurd u)
          (λ y. let q = and_both (has (set_of_number sets s) end) (says sets end xs k) y in
          (subst (Table A) numbered.end_at (more end (omega arith) q.0), subst (TableSays Table ys) z (rec q.1)))
          (or_cases (not (eqb k end) && has (set_of_number sets s) k) (has (set_of_number sets s) end && says sets end xs k) e)
      go (Some t) z rec =
          ⊎_elim
          (λ y. inl (subst (Table A) z (more k l (and_both (not (eqb k end)) (has (set_of_number sets s) k) y).1)))
          (λ y. let q = and_both (has (set_of_number sets s) end) (says sets end xs k) y in
          inr (subst (Table A) numbered.end_at (more end (omega arith) q.0), subst (TableSays Table ys) z (rec q.1)))
          (or_cases (not (eqb k end) && has (set_of_number sets s) k) (has (set_of_number sets s) end && says sets end xs k) e)

  -- an entry of the theory's table stands in the sets
  held_at : (s : ℕ) (A : Text) → symbol_at s ≡ Some (nonterminal A) → (k : ℕ) → k ≤ end → Table A (next_at k) →
      has (set_of_number sets s) k ≡ true
  held_at s A e k l h =
      let one : h.symbol ≡ s = numbered.name_once h.symbol s A h.symbol_is e in
      let same : h.number ≡ k = numbered.next_once h.number k h.small l h.next_is in
      sym (ap (λ z. has (set_of_number sets z) k) one) ∙ sym (ap (λ z. has (set_of_number sets h.symbol) z) same)
      ∙ h.held

  -- what the theory's table says of symbols is said
  pub table_says : (xs : List ℕ) (ys : List Symbol) → SpellsSymbols symbol_at xs ys → (k : ℕ) → k ≤ end →
      TableSays Table ys (next_at k) → says sets end xs k ≡ true
  table_says [] [] sp k l h = ap (λ z. eqb z end) (is_end k l h) ∙ eqb_self end
  table_says [] (y ∷ ys) sp k l h = absurd sp
  table_says (s ∷ xs) [] sp k l h = absurd sp
  table_says (s ∷ xs) (terminal t ∷ ys) sp k l h =
      let a = at_terminal_set s t sp.0 in
      let j : a.0 ≡ k = numbered.next_once a.0 k (omega (arith, a.1)) l (a.2 ∙ sym h) in
      let not_end : eqb k end ≡ false = eqb_not k end (λ z. omega (arith, a.1)) in
      or_left (not (eqb k end) && has (set_of_number sets s) k) (has (set_of_number sets s) end && says sets end xs k)
      (both_and (not (eqb k end)) (has (set_of_number sets s) k) (ap not not_end) (a.3 k ∙ ap (λ z. eqb z k) j ∙ eqb_self k))
  table_says (s ∷ xs) (nonterminal A ∷ ys) sp k l h = go (next_at k) refl h (λ r. table_says xs ys sp.1 k l r)
    where
      A0 : Bool
      A0 = not (eqb k end) && has (set_of_number sets s) k

      B0 : Bool
      B0 = has (set_of_number sets s) end && says sets end xs k

      empty : (x : Next) → next_at k ≡ x → Table A None → TableSays Table ys x →
          (TableSays Table ys (next_at k) → says sets end xs k ≡ true) → says sets end (s ∷ xs) k ≡ true
      empty x z t r rec =
          or_right A0 B0 (both_and (has (set_of_number sets s) end) (says sets end xs k)
          (held_at s A sp.0 end (omega arith) (subst (Table A) (sym numbered.end_at) t))
          (rec (subst (TableSays Table ys) (sym z) r)))

      go : (x : Next) → next_at k ≡ x → TableSays Table (nonterminal A ∷ ys) x →
          (TableSays Table ys (next_at k) → says sets end xs k ≡ true) → says sets end (s ∷ xs) k ≡ true
      go None z w rec = empty None z w.0 w.1 rec
      go (Some t) z (inl w) rec =
          let not_end : eqb k end ≡ false = eqb_not k end
          (λ y. let v : Some t ≡ None = sym z ∙ ap next_at y ∙ numbered.end_at in let u : ⊥ = cc in u) in
          or_left A0 B0 (both_and (not (eqb k end)) (has (set_of_number sets s) k) (ap not not_end)
          (held_at s A sp.0 k l (subst (Table A) (sym z) w)))
      go (Some t) z (inr w) rec = empty (Some t) z w.0 w.1 rec

  -- what is said of symbols that are spelled has a number
  said_number : (xs : List ℕ) (ys : List Symbol) → SpellsSymbols symbol_at xs ys → (x : Next) → TableSays Table ys x →
      (k : ℕ) × (k ≤ end) × (next_at k ≡ x)
  said_number [] [] sp x h = (end, omega arith, numbered.end_at ∙ sym h)
  said_number [] (y ∷ ys) sp x h = absurd sp
  said_number (s ∷ xs) [] sp x h = absurd sp
  said_number (s ∷ xs) (terminal t ∷ ys) sp x h =
      let a = at_terminal_set s t sp.0 in (a.0, omega (arith, a.1), a.2 ∙ sym h)
  said_number (s ∷ xs) (nonterminal A ∷ ys) sp None h = said_number xs ys sp.1 None h.1
  said_number (s ∷ xs) (nonterminal A ∷ ys) sp (Some t) (inl h) = (h.number, h.small, h.next_is)
  said_number (s ∷ xs) (nonterminal A ∷ ys) sp (Some t) (inr h) = said_number xs ys sp.1 (Some t) h.1

  module _ (G : Production → Type 0) (rules : List RuleByNumbers) (are : AreRulesOf symbol_at rules G)
      (close : (r : ℕ) (rule : RuleByNumbers) (k : ℕ) → slice_get rules r ≡ Some rule → says sets end rule.right k ≡ true →
      has (set_of_number sets rule.left) k ≡ true) where
    closed_table : IsClosedTable G Table
    closed_table p x g h =
        let a = are.all p g in
        let n = said_number a.1.right p.right a.3.right x h in
        record {
          symbol = a.1.left;
          number = n.0;
          symbol_is = a.3.left;
          next_is = n.2;
          small = n.1;
          held = close a.0 a.1 n.0 a.2
              (table_says a.1.right p.right a.3.right n.0 n.1 (subst (TableSays Table p.right) (sym n.2) h));
        }

    -- what can come first in symbols that are spelled has a number
    pub first_number : (xs : List ℕ) (ys : List Symbol) → SpellsSymbols symbol_at xs ys → (x : Next) → First0 G ys x →
        (k : ℕ) × (k ≤ end) × (next_at k ≡ x)
    first_number xs ys sp x h = said_number xs ys sp x (said_first G Table closed_table ys x h)

    -- sets that are closed under the rules, and hold first sets alone, say just the first sets
    pub says_first : AreSound G symbol_at next_at end sets → (xs : List ℕ) (ys : List Symbol) → SpellsSymbols symbol_at xs ys →
        (k : ℕ) → k ≤ end →
        (says sets end xs k ≡ true → First0 G ys (next_at k)) × (First0 G ys (next_at k) → says sets end xs k ≡ true)
    says_first sound xs ys sp k l = (
      λ h. first_said G Table sound ys (next_at k) (says_table xs ys sp k l h),
      λ h. table_says xs ys sp k l (said_first G Table closed_table ys (next_at k) h),
    )
