-- First sets by name in the theory, and those by number under their names: for the first sets that are asked for.
use Rattle.std.proofs.Common.{◌≡◌, ◌∙◌, ℕ, zero, suc, ◌+◌, ◌<◌, ◌≤◌, Bool, true, false, not}
use Rattle.std.proofs.Common.{◌||◌, ◌&&◌, cond, eqb, List, [], ◌∷◌, length, map, drop, get_or}
use Rattle.std.proofs.Common.{refl, sym, ap, subst, arith, ◌⊎◌, inl, inr, ⊎_elim, slice_get, Option, Some, None}
use Rattle.std.specs.Borrow.{Bor}
use Rattle.std.specs.Map.{keys_of}
use Rattle.std.specs.Ordering.{is_eq}
use Rattle.std.specs.Prelude.{option_map}
use Rattle.std.proofs.lemmas.Bool.{cases_lt}
use Rattle.std.proofs.lemmas.Option.{slice_get_within}
use Rattle.lalrpop_grammar_symbols.specs.Symbols.{Text}
use Rattle.lalrpop_grammar_symbols.specs.Views.{terminal_view}
use Rattle.lalrpop_grammar_symbols.specs.contracts.names.NonterminalStringOrd.TheImpl as names_order
use Rattle.lalrpop_grammar_symbols.specs.declared.names.NonterminalString.{NonterminalString}
use Rattle.lalrpop_grammar_symbols.specs.declared.terminal.TerminalString.{TerminalString}
use Rattle.lalrpop_grammar_repr.specs.Maps.{at_name, at_terminal}
use Rattle.lalrpop_grammar_repr.specs.declared.grammar.Grammar.{Grammar}
use Rattle.lalrpop_grammar_repr.specs.declared.production.Symbol.{Symbol}
use Rattle.lalrpop_grammar_repr.specs.declared.production.Symbol.TheVariants as symbols
use Rattle.lalrpop_lr1_theory.specs.Productions as theory
use Rattle.lalrpop_lr1_theory.specs.FirstSets.{Derives, First0, TableSays, ends, grows, keeps}
use Rattle.lalrpop_lr1_theory.proofs.FirstTableLemmas.{first_left, first_said, said_first}
use Rattle.lalrpop_lr1_core.specs.Views.{next_of_number, production_symbol_view}
use Rattle.lalrpop_lr1_core.proofs.NoConflictLemmas.{same_terminal}
use Rattle.lalrpop_sets.specs.AscendingLists.{has}
use Rattle.lalrpop_sets.specs.Tokens.{eof_number, number_alone}
use Rattle.lalrpop_lr1_first.specs.FirstNumbers.{terminal_set}
use Rattle.lalrpop_lr1_first.specs.FirstSetsOf.{AreFirstSetsOf, IsFirstSet, IsFirstSetBefore, IsProductionOf, named_from, set_at_name}
use Rattle.lalrpop_lr1_first.specs.FirstSetsOf.{set_of_symbol}
use Rattle.lalrpop_lr1_first.specs.Listings.{lent}
use Rattle.lalrpop_lr1_first.specs.Numbers.{says_by, set_of_number}
use Rattle.lalrpop_lr1_first.specs.Tables.{pairs_from}
use Rattle.lalrpop_lr1_first.proofs.ListLemmas.{both_and, eqb_true, or_cases, or_left, or_right}
use Rattle.lalrpop_grammar_symbols.proofs.BoolLemmas.{and_both}
use Rattle.lalrpop_sets.proofs.AscendingListLemmas.{cases_eq}
use Rattle.lalrpop_sets.proofs.AscendingListLemmas.{eqb_not}
use Rattle.lalrpop_sets.proofs.AscendingListLemmas.{eqb_self}
use Rattle.lalrpop_lr1_core.proofs.MemberLemmas.{some_is}
use Rattle.lalrpop_lr1_first.proofs.TableLemmas.{end_is_none, same_next}

-- more productions derive more
derives_more : (G H : theory.Production → Type 0) → ((p : theory.Production) → G p → H p) → (xs ys : List theory.Symbol) →
    Derives G xs ys → Derives H xs ys
derives_more G H to xs ys ends = ends
derives_more G H to xs ys (keeps x {xs = xs'} {ys = ys'} d) = keeps x (derives_more G H to xs' ys' d)
derives_more G H to xs ys (grows p {xs = xs'} {ys = ys'} {zs = zs} g d e) =
    grows p (to p g) (derives_more G H to p.right zs d) (derives_more G H to xs' ys' e)

-- what can come first by some productions can by any productions that include these
pub first_more : (G H : theory.Production → Type 0) → ((p : theory.Production) → G p → H p) →
    (xs : List theory.Symbol) (x : theory.Next) →
    First0 G xs x → First0 H xs x
first_more G H to xs None h = derives_more G H to xs [] h
first_more G H to xs (Some t) h = (h.0, derives_more G H to xs (theory.terminal t ∷ h.0) h.1)

-- what a nonterminal derives, other than itself, is by a production of it
derives_by : (G : theory.Production → Type 0) (A : Text) (xs ys : List theory.Symbol) → Derives G xs ys →
    xs ≡ theory.nonterminal A ∷ [] →
    ((b : List theory.Symbol) → ys ≡ theory.nonterminal A ∷ b → ⊥) → (p : theory.Production) × G p × (p.left ≡ A)
derives_by G A xs ys ends e not_kept = let w : ⊥ = cc in absurd w
derives_by G A xs ys (keeps x {xs = xs'} {ys = ys'} d) e not_kept =
    let z : x ≡ theory.nonterminal A = cc in absurd (not_kept ys' (ap (λ y. y ∷ ys') z))
derives_by G A xs ys (grows p {xs = xs'} g d d') e not_kept = let z : p.left ≡ A = cc in (p, g, z)

-- a nonterminal in which something can come first has a production
pub first_by : (G : theory.Production → Type 0) (A : Text) (x : theory.Next) → First0 G (theory.nonterminal A ∷ []) x →
    (p : theory.Production) × G p × (p.left ≡ A)
first_by G A None h = derives_by G A (theory.nonterminal A ∷ []) [] h refl (λ b e. let w : ⊥ = cc in w)
first_by G A (Some t) h = derives_by G A (theory.nonterminal A ∷ []) (theory.terminal t ∷ h.0) h.1 refl (λ b e. let w : ⊥ = cc in
    w)

-- a name's set among those under their names
pub named_at : (ns : List NonterminalString) (k : ℕ) (sets : List (List ℕ)) (n : NonterminalString) →
    at_name n (named_from k ns sets) ≡ option_map (set_of_number sets) (at_name n (pairs_from k ns))
named_at [] k sets n = refl
named_at (m ∷ ns) k sets n = go (is_eq ((names_order.ghosts).cmp n m)) (named_at ns (suc k) sets n)
  where
    go : (b : Bool) → at_name n (named_from (suc k) ns sets) ≡ option_map (set_of_number sets) (at_name n (pairs_from (suc k) ns)) →
        cond b (Some (set_of_number sets k)) (at_name n (named_from (suc k) ns sets)) ≡ option_map (set_of_number sets) (cond b (Some k)
        (at_name n (pairs_from (suc k) ns)))
    go true e = refl
    go false e = e

-- one symbol alone says what its set has
pub says_alone : {X : Type 0} (set_of : X → List ℕ) (end : ℕ) (x : X) (k : ℕ) →
    says_by set_of end (x ∷ []) k ≡ has (set_of x) k
says_alone set_of end x k = ⊎_elim
    (λ (e : k ≡ end).
    let t : eqb k end ≡ true = ap (λ j. eqb k j) (sym e) ∙ eqb_self k in
    go (eqb k end) (has (set_of x) k) (has (set_of x) end) t (ap (has (set_of x)) e))
    (λ e. other (eqb k end) (has (set_of x) k) (has (set_of x) end) (eqb_not k end e))
    (cases_eq k end)
  where
    go : (b h e : Bool) → b ≡ true → h ≡ e → ((not b && h) || (e && b)) ≡ h
    go true h true z y = sym y
    go true h false z y = sym y
    go false h e z y = let w : ⊥ = cc in absurd w

    other : (b h e : Bool) → b ≡ false → ((not b && h) || (e && b)) ≡ h
    other true h e z = let w : ⊥ = cc in absurd w
    other false true e z = refl
    other false false true z = refl
    other false false false z = refl

module _ (g : Grammar) (entries : List (NonterminalString × List ℕ)) (are : AreFirstSetsOf g entries) where
  abbrev G : theory.Production → Type 0
  G = IsProductionOf g

  abbrev T : Text → theory.Next → Type 0
  T A x = First0 G (theory.nonterminal A ∷ []) x

  abbrev end : ℕ
  end = eof_number g.terminals

  abbrev next : ℕ → theory.Next
  next = next_of_number g.terminals

  abbrev set_of : Symbol → List ℕ
  set_of = set_of_symbol g.terminals entries

  is_end : (k : ℕ) → k ≤ end → next k ≡ None → k ≡ end
  is_end k l e = same_next g.terminals are.numbered k end l (omega arith) (e ∙ sym (end_is_none g.terminals are.numbered))

  -- a terminal's set has its number alone
  terminal_number : (t : TerminalString) (k : ℕ) → has (terminal_set g.terminals t) k ≡ true →
      (k < end) × (next k ≡ Some (terminal_view t))
  terminal_number t k h = go (at_terminal t g.terminals.bits) refl h
    where
      go : (o : Option ℕ) → at_terminal t g.terminals.bits ≡ o → has (number_alone o) k ≡ true →
          (k < end) × (next k ≡ Some (terminal_view t))
      go None e h = let w : ⊥ = cc in absurd w
      go (Some j) e h =
          let one : j ≡ k = ⊎_elim (λ z. eqb_true j k z) (λ (z : false ≡ true). let w : ⊥ = cc in
          absurd w) (or_cases (eqb j k) false h) in
          let at = are.numbered.places j t e in
          (omega (arith, slice_get_within g.terminals.all j t at, one), ap next (sym one) ∙ ap (option_map terminal_view) at)

  number_terminal : (t : TerminalString) (k : ℕ) → next k ≡ Some (terminal_view t) →
      (k < end) × (has (terminal_set g.terminals t) k ≡ true)
  number_terminal t k e = go (slice_get g.terminals.all k) refl e
    where
      go : (o : Option TerminalString) → slice_get g.terminals.all k ≡ o → option_map terminal_view o ≡ Some (terminal_view t) →
          (k < end) × (has (terminal_set g.terminals t) k ≡ true)
      go None at f = let w : ⊥ = cc in absurd w
      go (Some u) at f =
          let one : u ≡ t = same_terminal u t (some_is (terminal_view u) (terminal_view t) f) in
          let number : at_terminal t g.terminals.bits ≡ Some k = ap (λ v. at_terminal v g.terminals.bits) (sym one)
          ∙ are.numbered.numbered k u at in
          (slice_get_within g.terminals.all k u at, ap (λ o. has (number_alone o) k) number ∙ or_left (eqb k k) false (eqb_self k))

  -- what is said is in range
  said_within : (xs : List Symbol) (k : ℕ) → says_by set_of end xs k ≡ true → k ≤ end
  said_within [] k h = let z = eqb_true k end h in omega arith
  said_within (x ∷ xs) k h = go (said_within xs k) (or_cases (not (eqb k end) && has (set_of x) k)
      (has (set_of x) end && says_by set_of end xs k) h)
    where
      within : (y : Symbol) → has (set_of y) k ≡ true → k ≤ end
      within (symbols.Nonterminal n) h = ((are.at n k).0 h).0
      within (symbols.Terminal t) h = omega (arith, (terminal_number t k h).0)

      go : (says_by set_of end xs k ≡ true → k ≤ end) →
          ((not (eqb k end) && has (set_of x) k) ≡ true) ⊎ ((has (set_of x) end && says_by set_of end xs k) ≡ true) → k ≤ end
      go rec (inl z) = within x (and_both (not (eqb k end)) (has (set_of x) k) z).1
      go rec (inr z) = rec (and_both (has (set_of x) end) (says_by set_of end xs k) z).1

  end_none : next end ≡ None
  end_none = end_is_none g.terminals are.numbered

  said_table : (xs : List Symbol) (k : ℕ) → k ≤ end → says_by set_of end xs k ≡ true →
      TableSays T (map production_symbol_view xs) (next k)
  said_table [] k l h = ap next (eqb_true k end h) ∙ end_none
  said_table (symbols.Terminal t ∷ xs) k l h = ⊎_elim
      (λ z. (terminal_number t k (and_both (not (eqb k end)) (has (set_of (symbols.Terminal t)) k) z).1).1)
      (λ z. let e = terminal_number t end (and_both (has (set_of (symbols.Terminal t)) end) (says_by set_of end xs k) z).0 in
      absurd (omega (arith, e.0)))
      (or_cases (not (eqb k end) && has (set_of (symbols.Terminal t)) k) (has (set_of (symbols.Terminal t)) end && says_by set_of end xs
      k) h)
  said_table (symbols.Nonterminal n ∷ xs) k l h = go (next k) refl (λ r. said_table xs k l r)
    where
      own : List ℕ
      own = set_at_name entries n

      A0 : Bool
      A0 = not (eqb k end) && has (set_at_name entries n) k

      B0 : Bool
      B0 = has (set_at_name entries n) end && says_by set_of end xs k

      empty : has (set_at_name entries n) end ≡ true → T n.0 None
      empty z = subst (T n.0) end_none ((are.at n end).0 z).1

      go : (x : theory.Next) → next k ≡ x →
          (says_by set_of end xs k ≡ true → TableSays T (map production_symbol_view xs) (next k)) →
          TableSays T (theory.nonterminal n.0 ∷ map production_symbol_view xs) x
      go None e rec =
          let at_end : k ≡ end = is_end k l e in
          let t : eqb k end ≡ true = ap (λ j. eqb k j) (sym at_end) ∙ eqb_self k in
          ⊎_elim
          (λ z. let w = (and_both (not (eqb k end)) (has (set_at_name entries n) k) z).0 in let v : ⊥ = cc in absurd v)
          (λ z. let q = and_both (has (set_at_name entries n) end) (says_by set_of end xs k) z in
          (empty q.0, subst (TableSays T (map production_symbol_view xs)) e (rec q.1)))
          (or_cases (not (eqb k end) && has (set_at_name entries n) k) (has (set_at_name entries n) end && says_by set_of end xs k) h)
      go (Some t) e rec = ⊎_elim
          (λ z. inl (subst (T n.0) e ((are.at n k).0 (and_both (not (eqb k end)) (has (set_at_name entries n) k) z).1).1))
          (λ z. let q = and_both (has (set_at_name entries n) end) (says_by set_of end xs k) z in
          inr (empty q.0, subst (TableSays T (map production_symbol_view xs)) e (rec q.1)))
          (or_cases (not (eqb k end) && has (set_at_name entries n) k) (has (set_at_name entries n) end && says_by set_of end xs k) h)

  table_said : (xs : List Symbol) (k : ℕ) → k ≤ end → TableSays T (map production_symbol_view xs) (next k) →
      says_by set_of end xs k ≡ true
  table_said [] k l h = ap (λ z. eqb z end) (is_end k l h) ∙ eqb_self end
  table_said (symbols.Terminal t ∷ xs) k l h =
      let n = number_terminal t k h in
      or_left (not (eqb k end) && has (set_of (symbols.Terminal t)) k) (has (set_of (symbols.Terminal t)) end && says_by set_of end xs k)
      (both_and (not (eqb k end)) (has (set_of (symbols.Terminal t)) k) (ap not (eqb_not k end (λ z. omega (arith, n.0)))) n.1)
  table_said (symbols.Nonterminal n ∷ xs) k l h = go (next k) refl h (λ r. table_said xs k l r)
    where
      held : (j : ℕ) → j ≤ end → T n.0 (next j) → has (set_at_name entries n) j ≡ true
      held j m t = (are.at n j).1 (m, t)

      past : (x : theory.Next) → next k ≡ x → T n.0 None → TableSays T (map production_symbol_view xs) x →
          (TableSays T (map production_symbol_view xs) (next k) → says_by set_of end xs k ≡ true) →
          says_by set_of end (symbols.Nonterminal n ∷ xs) k ≡ true
      past x e t r rec = or_right (not (eqb k end) && has (set_at_name entries n) k) (has (set_at_name entries n) end && says_by set_of
          end xs k)
          (both_and (has (set_at_name entries n) end) (says_by set_of end xs k) (held end (omega arith) (subst (T n.0) (sym end_none) t))
          (rec (subst (TableSays T (map production_symbol_view xs)) (sym e) r)))

      go : (x : theory.Next) → next k ≡ x → TableSays T (theory.nonterminal n.0 ∷ map production_symbol_view xs) x →
          (TableSays T (map production_symbol_view xs) (next k) → says_by set_of end xs k ≡ true) →
          says_by set_of end (symbols.Nonterminal n ∷ xs) k ≡ true
      go None e w rec = past None e w.0 w.1 rec
      go (Some t) e (inl w) rec =
          let not_end : eqb k end ≡ false = eqb_not k end
          (λ y. let v : Some t ≡ None = sym e ∙ ap next y ∙ end_none in let u : ⊥ = cc in u) in
          or_left (not (eqb k end) && has (set_at_name entries n) k) (has (set_at_name entries n) end && says_by set_of end xs k)
          (both_and (not (eqb k end)) (has (set_at_name entries n) k) (ap not not_end) (held k l (subst (T n.0) (sym e) w)))
      go (Some t) e (inr w) rec = past (Some t) e w.0 w.1 rec

  -- what is said of symbols is their first set
  pub said_is_first : (xs : List Symbol) (set : List ℕ) → ((k : ℕ) → has set k ≡ says_by set_of end xs k) →
      IsFirstSet g (map production_symbol_view xs) set
  said_is_first xs set is k = (
    λ h. let s = sym (is k) ∙ h in let l = said_within xs k s in
        (l, first_said G T (λ A x t. t) (map production_symbol_view xs) (next k) (said_table xs k l s)),
    λ h. is k ∙ table_said xs k h.0 (said_first G T
        (λ p x gp s. first_left G T p x gp (first_said G T (λ A y t. t) p.right x s)) (map production_symbol_view xs) (next k) h.1),
  )

  -- with what may follow in place of the end
  pub first_is_before : (xs : List theory.Symbol) (first lookahead set : List ℕ) → IsFirstSet g xs first →
      ((k : ℕ) → has set k ≡ ((not (eqb k end) && has first k) || (has first end && has lookahead k))) →
      IsFirstSetBefore g xs lookahead set
  first_is_before xs first lookahead set is joined k = (
    λ h. ⊎_elim
        (λ z. let a = and_both (not (eqb k end)) (has first k) z in let f = (is k).0 a.1 in
        inl (below a.0 f.0, f.1))
        (λ z. let a = and_both (has first end) (has lookahead k) z in inr (subst (First0 G xs) end_none ((is end).0 a.0).1, a.1))
        (or_cases (not (eqb k end) && has first k) (has first end && has lookahead k) (sym (joined k) ∙ h)),
    λ h. joined k ∙ ⊎_elim
        (λ z. or_left (not (eqb k end) && has first k) (has first end && has lookahead k)
        (both_and (not (eqb k end)) (has first k) (ap not (eqb_not k end (λ e. omega (arith, z.0)))) ((is k).1 (
          omega (arith, z.0),
          z.1,
        ))))
        (λ z. or_right (not (eqb k end) && has first k) (has first end && has lookahead k)
        (both_and (has first end) (has lookahead k) ((is end).1 (omega arith, subst (First0 G xs) (sym end_none) z.0)) z.1)) h,
  )
    where
      below : not (eqb k end) ≡ true → k ≤ end → k < end
      below n l = ⊎_elim (λ (z : k < end). z)
          (λ (z : end ≤ k).
          let e : k ≡ end = omega arith in
          let t : eqb k end ≡ true = ap (λ j. eqb k j) (sym e) ∙ eqb_self k in let w : ⊥ = cc in absurd w)
          (cases_lt k end)

-- the keys of names paired with their sets are these names
pub named_keys : (ns : List NonterminalString) (k : ℕ) (sets : List (List ℕ)) → keys_of (named_from k ns sets) ≡ ns
named_keys [] k sets = refl
named_keys (n ∷ ns) k sets = ap (λ l. n ∷ l) (named_keys ns (suc k) sets)

-- what is left of names from a place on begins with the name there and its set
pub named_more : (names : List (Bor NonterminalString)) (sets : List (List ℕ)) (i : ℕ) (n : Bor NonterminalString) →
    i < length names →
    n ≡ get_or names i n → named_from i (drop i (lent names)) sets ≡ (n.now, set_of_number sets i) ∷ named_from (i + 1)
    (drop (i + 1) (lent names)) sets
named_more names sets i n h e =
    ap (λ l. named_from i l sets) (dropped names i h e)
    ∙ ap (λ k. (n.now, set_of_number sets i) ∷ named_from k (drop (i + 1) (lent names)) sets)
    (let z : suc i ≡ i + 1 = omega arith in z)
  where
    dropped : (xs : List (Bor NonterminalString)) (i : ℕ) → i < length xs → n ≡ get_or xs i n →
        drop i (lent xs) ≡ n.now ∷ drop (i + 1) (lent xs)
    dropped [] i h e = absurd (omega arith)
    dropped (x ∷ xs) zero h e = ap (λ (y : Bor NonterminalString). y.now ∷ lent xs) (sym e)
    dropped (x ∷ xs) (suc i) h e = dropped xs i (omega arith) e
        ∙ ap (λ k. n.now ∷ drop k (x.now ∷ lent xs)) (let z : suc (i + 1) ≡ suc i + 1 = omega arith in z)
