-- The sets with which the search for first sets begins: none for names, and each terminal's alone.
use Rattle.std.proofs.Common.{◌≡◌, ◌∙◌, ℕ, zero, suc, ◌+◌, ◌-◌, ◌<◌, ◌≤◌, true, false, ◌||◌, eqb}
use Rattle.std.proofs.Common.{List, [], ◌∷◌, ◌++◌, length, map, refl, ap, sym, arith}
use Rattle.std.proofs.Common.{Some, slice_get, ⊎_elim}
use Rattle.std.proofs.lemmas.Bool.{cases_lt}
use Rattle.lalrpop_sets.specs.AscendingLists.{has}
use Rattle.lalrpop_sets.specs.Tokens.{number_alone}
use Rattle.lalrpop_lr1_first.specs.FirstNumbers.{AreSoundSets, AreTableSets, name_count, table_end, terminal_set}
use Rattle.lalrpop_lr1_first.specs.NumberedGrammars.{IsNumberTable, table_names}
use Rattle.lalrpop_lr1_first.specs.Numbers.{set_of_number}
use Rattle.lalrpop_lr1_first.specs.declared.numbered.Numbered.{Numbered}
use Rattle.lalrpop_lr1_first.proofs.ListLemmas.{eqb_true}
use Rattle.lalrpop_lr1_first.proofs.TableLemmas.{is_numbering, long_map, get_some}

at_first : (xs ys : List (List ℕ)) (s : ℕ) → s < length xs → set_of_number (xs ++ ys) s ≡ set_of_number xs s
at_first [] ys s h = absurd (omega arith)
at_first (x ∷ xs) ys zero h = refl
at_first (x ∷ xs) ys (suc s) h = at_first xs ys s (omega arith)

at_second : (xs ys : List (List ℕ)) (n j : ℕ) → length xs ≡ n → set_of_number (xs ++ ys) (n + j) ≡ set_of_number ys j
at_second [] ys zero j e = ap (set_of_number ys) (let z : zero + j ≡ j = omega arith in z)
at_second [] ys (suc n) j e = absurd (omega arith)
at_second (x ∷ xs) ys zero j e = absurd (omega arith)
at_second (x ∷ xs) ys (suc n) j e =
    ap (set_of_number ((x ∷ xs) ++ ys)) (let z : suc n + j ≡ suc (n + j) = omega arith in z) ∙ at_second xs ys n j (omega arith)

at_past : (xs : List (List ℕ)) (j : ℕ) → length xs ≤ j → set_of_number xs j ≡ []
at_past [] j h = refl
at_past (x ∷ xs) zero h = absurd (omega arith)
at_past (x ∷ xs) (suc j) h = at_past xs j (omega arith)

long_both : {X : Type 0} (xs ys : List X) → length (xs ++ ys) ≡ length xs + length ys
long_both [] ys = omega arith
long_both (x ∷ xs) ys = omega (arith, long_both xs ys)

at_map : {X : Type 0} (f : X → List ℕ) (xs : List X) (j : ℕ) (x : X) → slice_get xs j ≡ Some x →
    set_of_number (map f xs) j ≡ f x
at_map f [] j x e = let w : ⊥ = cc in absurd w
at_map f (y ∷ xs) zero x e = let z : y ≡ x = cc in ap f z
at_map f (y ∷ xs) (suc j) x e = at_map f xs j x e

or_false : (j k : ℕ) → (eqb j k || false) ≡ eqb j k
or_false j k = grind arith

module _ (table : Numbered) (is : IsNumberTable table) (empties sets : List (List ℕ)) (count : length empties ≡ name_count table)
    (empty : (s : ℕ) → set_of_number empties s ≡ [])
    (are : sets ≡ empties ++ map (terminal_set table.terminals.now) table.terminals.now.all) where
  own : List (List ℕ)
  own = map (terminal_set table.terminals.now) table.terminals.now.all

  low : (s : ℕ) → s < name_count table → set_of_number sets s ≡ []
  unfolding own
  low s h = ap (λ l. set_of_number l s) are ∙ at_first empties own s (omega (arith, count)) ∙ empty s

  high : (j k : ℕ) → j < table_end table → has (set_of_number sets (name_count table + j)) k ≡ eqb j k
  unfolding own
  high j k h =
      let t = get_some table.terminals.now.all j h in
      ap (λ s. has s k) (ap (λ l. set_of_number l (name_count table + j)) are ∙ at_second empties own (name_count table) j count
      ∙ at_map (terminal_set table.terminals.now) table.terminals.now.all j t.0 t.1
      ∙ ap number_alone (is.terminals.numbered j t.0 t.1))
      ∙ or_false j k

  past : (j : ℕ) → table_end table ≤ j → set_of_number sets (name_count table + j) ≡ []
  unfolding own
  past j h = ap (λ l. set_of_number l (name_count table + j)) are ∙ at_second empties own (name_count table) j count
      ∙ at_past own j (omega (arith, long_map (terminal_set table.terminals.now) table.terminals.now.all))

  pub start_sets : AreTableSets table sets
  unfolding own
  start_sets = record {
    count = ap length are ∙ long_both empties own ∙ (let l = long_map (terminal_set table.terminals.now) table.terminals.now.all in
        omega (arith, count, l));
    within = λ s k h. ⊎_elim
        (λ (l : s < name_count table). let w : false ≡ true = sym (ap (λ z. has z k) (low s l)) ∙ h in let v : ⊥ = cc in absurd v)
        (λ (l : name_count table ≤ s).
        let e : s ≡ name_count table + (s - name_count table) = omega arith in
        ⊎_elim
        (λ (m : s - name_count table < table_end table).
        let z = eqb_true (s - name_count table) k (sym (high (s - name_count table) k m)
        ∙ sym (ap (λ i. has (set_of_number sets i) k) e) ∙ h) in omega arith)
        (λ (m : table_end table ≤ s - name_count table).
        let w : false ≡ true = sym (ap (λ z. has z k) (past (s - name_count table) m))
        ∙ sym (ap (λ i. has (set_of_number sets i) k) e) ∙ h in let v : ⊥ = cc in absurd v)
        (cases_lt (s - name_count table) (table_end table)))
        (cases_lt s (name_count table));
    terminals = λ j k l. high j k l;
  }

  pub start_sound : AreSoundSets table sets
  start_sound A x h =
      let below = (is_numbering table.terminals.now is.terminals (table_names table) is.names).name_below h.symbol A h.symbol_is in
      let w : false ≡ true = sym (ap (λ z. has z h.number) (low h.symbol (omega (
        arith,
        below,
        long_map (λ b. b.now) table.names.items,
      )))) ∙ h.held in
      let v : ⊥ = cc in absurd v
