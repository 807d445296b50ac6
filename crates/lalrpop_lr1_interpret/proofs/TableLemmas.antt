-- A table that is made of the entries of states is one of these states: for the table of actions.
use Rattle.std.proofs.Common.{◌≡◌, ◌∙◌, ℕ, zero, suc, ◌+◌, ◌-◌, ◌<◌, ◌≤◌}
use Rattle.std.proofs.Common.{⊎_elim, Bool, true, false, List, []}
use Rattle.std.proofs.Common.{◌∷◌, ◌++◌, length, map, filter, take, drop, get_or, Option, Some, None, Contains, ap, sym}
use Rattle.std.proofs.Common.{refl, subst}
use Rattle.std.proofs.Common.{arith, length-append, append_assoc, take-append-drop}
use Rattle.std.specs.Borrow.{Bor}
use Rattle.std.specs.List.{range_with_len}
use Rattle.std.specs.Prelude.{flat_map, option_map, slice_get, nat_eq}
use Rattle.std.proofs.lemmas.Grind.{flat_map-append}
use Rattle.std.proofs.lemmas.List.{take_more}
use Rattle.std.proofs.lemmas.List.Elements.{Contains-append_cases, Contains-append_left, Contains-append_right}
use Rattle.std.proofs.lemmas.Option.{slice_get-get_or, slice_get_past, slice_get_within}
use Rattle.lalrpop_grammar_symbols.specs.Symbols.{Terminal}
use Rattle.lalrpop_grammar_symbols.specs.Views.{terminal_view}
use Rattle.lalrpop_grammar_symbols.specs.declared.names.NonterminalString.{NonterminalString}
use Rattle.lalrpop_grammar_symbols.specs.declared.terminal.TerminalString.{TerminalString}
use Rattle.lalrpop_grammar_repr.specs.declared.production.Production.{Production}
use Rattle.lalrpop_grammar_repr.specs.declared.terminal_set.TerminalSet.{TerminalSet}
use Rattle.lalrpop_lr1_theory.specs.Productions.{Next}
use Rattle.lalrpop_lr1_theory.proofs.ListLemmas.{contains_get, contains_here, contains_split, get_contains, get_front}
use Rattle.lalrpop_lr1_theory.proofs.ListLemmas.{get_split}
use Rattle.lalrpop_lr1_theory.proofs.PlaceLemmas.{slice_get-append}
use Rattle.lalrpop_lr1_theory.proofs.StepLemmas.{some_same}
use Rattle.lalrpop_sets.specs.AscendingLists.{has}
use Rattle.lalrpop_sets.specs.Tokens.{eof_number}
use Rattle.lalrpop_sets.specs.TokensLeft.{token_of_number, token_or, tokens_of}
use Rattle.lalrpop_sets.specs.declared.token.Token.{Token}
use Rattle.lalrpop_sets.specs.declared.token.Token.TheVariants as tokens
use Rattle.lalrpop_lr1_core.specs.Views.{next_of_number}
use Rattle.lalrpop_lr1_core.specs.Views.{token_lookahead}
use Rattle.lalrpop_lr1_core.specs.declared.state.State.{State}
use Rattle.lalrpop_lr1_core.specs.declared.state_index.StateIndex.{StateIndex}
use Rattle.lalrpop_lr1_core.proofs.MemberLemmas.{filter_has, in_filter, in_map, in_range, map_has, range_has}
use Rattle.lalrpop_lr1_interpret.specs.Rows.{AreActionsOf, AreNumberedProductions, AreNumbersOf, IsActionOf}
use Rattle.lalrpop_lr1_interpret.specs.Rows.{part_at, reduction_entries, shift_entry, terminal_entries}
use Rattle.lalrpop_lr1_interpret.specs.Rows.{token_entry}
use Rattle.lalrpop_lr1_interpret.specs.Tables.{IsNumberedProduction, IsPlaceIn}
use Rattle.lalrpop_lr1_interpret.specs.declared.parse.entries.Act.{Act}
use Rattle.lalrpop_lr1_interpret.specs.declared.parse.entries.Act.TheVariants as acts
use Rattle.lalrpop_lr1_interpret.specs.declared.parse.table_row.NumberedProduction.{NumberedProduction}
use Rattle.lalrpop_lr1_interpret.specs.declared.parse.table_row.TableAction.{TableAction}
use Rattle.lalrpop_lr1_core.proofs.GraphLemmas.{in_flat, flat_has}

-- a list has something at each place before its length
pub get_there : {X : Type 0} (xs : List X) (n : ℕ) → n < length xs → (x : X) × (slice_get xs n ≡ Some x)
get_there [] n h = absurd (omega arith)
get_there (x ∷ xs) zero h = (x, refl)
get_there (x ∷ xs) (suc n) h = get_there xs n (omega arith)

-- all that comes of a list, parted at a place
pub record FlatParts {X Y : Type 0} (f : X → List Y) (xs : List X) (n : ℕ) (x : X) : Type 0 where
  pub rest : List Y
  pub whole : flat_map f xs ≡ flat_map f (take n xs) ++ (f x ++ rest)
  pub further : flat_map f (take (n + 1) xs) ≡ flat_map f (take n xs) ++ f x

module _ {X Y : Type 0} (f : X → List Y) where
  take_one : (xs : List X) (n : ℕ) (x : X) → slice_get xs n ≡ Some x → take (n + 1) xs ≡ take n xs ++ x ∷ []
  take_one xs n x e =
      let h = slice_get_within xs n x e in
      let same : get_or xs n x ≡ x = some_same (get_or xs n x) x (sym (slice_get-get_or xs n x h) ∙ e) in
      take_more xs n x h ∙ ap (λ y. take n xs ++ y ∷ []) same

  nothing : (ys : List Y) → ys ++ [] ≡ ys
  nothing [] = refl
  nothing (y ∷ ys) = ap (λ l. y ∷ l) (nothing ys)

  flat_rest : (xs : List X) (n : ℕ) (x : X) → slice_get xs n ≡ Some x →
      (rest : List Y) × (flat_map f xs ≡ flat_map f (take n xs) ++ (f x ++ rest))
  flat_rest [] n x e = let z : ⊥ = cc in absurd z
  flat_rest (y ∷ ys) zero x e = (flat_map f ys, ap (λ z. f z ++ flat_map f ys) (some_same y x e))
  flat_rest (y ∷ ys) (suc n) x e =
      let r = flat_rest ys n x e in
      (r.0, ap (λ l. f y ++ l) r.1 ∙ sym (append_assoc (f y) (flat_map f (take n ys)) (f x ++ r.0)))

  pub flat_parts : (xs : List X) (n : ℕ) (x : X) → slice_get xs n ≡ Some x → FlatParts f xs n x
  flat_parts xs n x e =
      let r = flat_rest xs n x e in
      record {
        rest = r.0;
        whole = r.1;
        further = ap (flat_map f) (take_one xs n x e) ∙ flat_map-append f (take n xs) (x ∷ [])
            ∙ ap (λ l. flat_map f (take n xs) ++ l) (nothing (f x));
      }

  -- what stands in the part of an element comes of it
  pub in_part : (xs : List X) (n : ℕ) (x : X) (place : ℕ) (y : Y) → slice_get xs n ≡ Some x → IsPlaceIn (part_at f xs n) place →
      slice_get (flat_map f xs) place ≡ Some y → Contains (f x) y
  in_part xs n x place y e inside at =
      let p = flat_parts xs n x e in
      let j = place - length (flat_map f (take n xs)) in
      let there : slice_get (f x ++ p.rest) j ≡ Some y =
      sym (slice_get-append (flat_map f (take n xs)) (f x ++ p.rest) j place (omega (arith, inside.0)))
      ∙ ap (λ l. slice_get l place) (sym p.whole) ∙ at in
      ⊎_elim (λ here. get_contains (f x) j y here)
      (λ past. absurd (omega (
        arith,
        inside.0,
        inside.1,
        past.1,
        ap length p.further,
        length-append (flat_map f (take n xs)) (f x),
      )))
      (get_split (f x) p.rest j y there)

  -- and what comes of it stands there
  pub part_has : (xs : List X) (n : ℕ) (x : X) (y : Y) → slice_get xs n ≡ Some x → Contains (f x) y →
      (place : ℕ) × IsPlaceIn (part_at f xs n) place × (slice_get (flat_map f xs) place ≡ Some y)
  part_has xs n x y e c =
      let p = flat_parts xs n x e in
      let g = contains_get (f x) y c in
      let h = slice_get_within (f x) g.0 y g.1 in
      let place = length (flat_map f (take n xs)) + g.0 in (
        place,
        (omega arith, omega (arith, h, ap length p.further, length-append (flat_map f (take n xs)) (f x))),
        ap (λ l. slice_get l place) p.whole ∙ slice_get-append (flat_map f (take n xs)) (f x ++ p.rest) g.0 place refl
            ∙ get_front (f x) p.rest g.0 y g.1,
      )

  -- parts end within the whole
  pub part_within : (xs : List X) (n : ℕ) → length (flat_map f (take (n + 1) xs)) ≤ length (flat_map f xs)
  part_within xs n =
      omega (
        arith,
        ap (λ l. length (flat_map f l)) (take-append-drop (n + 1) xs),
        ap length (flat_map-append f (take (n + 1) xs) (drop (n + 1) xs)),
        length-append (flat_map f (take (n + 1) xs)) (flat_map f (drop (n + 1) xs)),
      )

-- names and their numbers, place by place
pub numbers_at : {X : Type 0} (names xs : List X) (ks : List ℕ) (i : ℕ) (x : X) → AreNumbersOf names xs ks →
    slice_get xs i ≡ Some x →
    (k : ℕ) × (slice_get ks i ≡ Some k) × (slice_get names k ≡ Some x)
numbers_at names [] ks i x h e = let z : ⊥ = cc in absurd z
numbers_at names (y ∷ xs) [] i x h e = absurd h
numbers_at names (y ∷ xs) (k ∷ ks) zero x h e = (k, refl, h.0 ∙ e)
numbers_at names (y ∷ xs) (k ∷ ks) (suc i) x h e = numbers_at names xs ks i x h.1 e

-- each number of a list that stands for names stands for the name at its place
pub numbers_back : {X : Type 0} (names xs : List X) (ks : List ℕ) (i k : ℕ) → AreNumbersOf names xs ks →
    slice_get ks i ≡ Some k →
    (x : X) × (slice_get xs i ≡ Some x) × (slice_get names k ≡ Some x)
numbers_back names [] [] i k h e = let z : ⊥ = cc in absurd z
numbers_back names [] (j ∷ ks) i k h e = absurd h
numbers_back names (y ∷ xs) [] i k h e = absurd h
numbers_back names (y ∷ xs) (j ∷ ks) zero k h e = (y, refl, ap (slice_get names) (sym (some_same j k e)) ∙ h.0)
numbers_back names (y ∷ xs) (j ∷ ks) (suc i) k h e = numbers_back names xs ks i k h.1 e

-- numbers that stand for names are as many as the names
pub numbers_long : {X : Type 0} (names xs : List X) (ks : List ℕ) → AreNumbersOf names xs ks → length ks ≡ length xs
numbers_long names [] [] h = refl
numbers_long names [] (j ∷ ks) h = absurd h
numbers_long names (y ∷ xs) [] h = absurd h
numbers_long names (y ∷ xs) (j ∷ ks) h = ap suc (numbers_long names xs ks h.1)

-- each action by name has at its place the same action by number
pub actions_at : (names : List NonterminalString) (as_ : List Act) (bs : List TableAction) (i : ℕ) (a : Act) →
    AreActionsOf names as_ bs →
    slice_get as_ i ≡ Some a → (b : TableAction) × (slice_get bs i ≡ Some b) × IsActionOf names a b
actions_at names [] bs i a h e = let z : ⊥ = cc in absurd z
actions_at names (y ∷ as_) [] i a h e = absurd h
actions_at names (y ∷ as_) (b ∷ bs) zero a h e = (b, refl, subst (λ x. IsActionOf names x b) (some_same y a e) h.0)
actions_at names (y ∷ as_) (b ∷ bs) (suc i) a h e = actions_at names as_ bs i a h.1 e

-- each action by number has at its place the same action by name
pub actions_back : (names : List NonterminalString) (as_ : List Act) (bs : List TableAction) (i : ℕ) (b : TableAction) →
    AreActionsOf names as_ bs → slice_get bs i ≡ Some b → (a : Act) × (slice_get as_ i ≡ Some a) × IsActionOf names a b
actions_back names [] [] i b h e = let z : ⊥ = cc in absurd z
actions_back names [] (c ∷ bs) i b h e = absurd h
actions_back names (y ∷ as_) [] i b h e = absurd h
actions_back names (y ∷ as_) (c ∷ bs) zero b h e = (y, refl, subst (IsActionOf names y) (some_same c b e) h.0)
actions_back names (y ∷ as_) (c ∷ bs) (suc i) b h e = actions_back names as_ bs i b h.1 e

-- actions by number are as many as those by name
pub actions_long : (names : List NonterminalString) (as_ : List Act) (bs : List TableAction) → AreActionsOf names as_ bs →
    length bs ≡ length as_
actions_long names [] [] h = refl
actions_long names [] (b ∷ bs) h = absurd h
actions_long names (y ∷ as_) [] h = absurd h
actions_long names (y ∷ as_) (b ∷ bs) h = ap suc (actions_long names as_ bs h.1)

-- each production stands at its place with numbers, too
pub productions_at : (names : List NonterminalString) (ps : List (Bor Production)) (rs : List NumberedProduction) (i : ℕ)
    (p : Bor Production) → AreNumberedProductions names ps rs → slice_get ps i ≡ Some p →
    (r : NumberedProduction) × (slice_get rs i ≡ Some r) × (r.production ≡ p)
productions_at names [] rs i p h e = let z : ⊥ = cc in absurd z
productions_at names (q ∷ ps) [] i p h e = absurd h
productions_at names (q ∷ ps) (r ∷ rs) zero p h e = (r, refl, h.0 ∙ some_same q p e)
productions_at names (q ∷ ps) (r ∷ rs) (suc i) p h e = productions_at names ps rs i p h.2 e

-- each production with numbers has right numbers and is the production at its place
pub productions_back : (names : List NonterminalString) (ps : List (Bor Production)) (rs : List NumberedProduction) (i : ℕ)
    (r : NumberedProduction) → AreNumberedProductions names ps rs → slice_get rs i ≡ Some r →
    (p : Bor Production) × (slice_get ps i ≡ Some p) × (r.production ≡ p) × IsNumberedProduction names r
productions_back names [] [] i r h e = let z : ⊥ = cc in absurd z
productions_back names [] (s ∷ rs) i r h e = absurd h
productions_back names (q ∷ ps) [] i r h e = absurd h
productions_back names (q ∷ ps) (s ∷ rs) zero r h e =
    (q, refl, subst (λ x. x.production ≡ q) (some_same s r e) h.0, subst (IsNumberedProduction names) (some_same s r e) h.1)
productions_back names (q ∷ ps) (s ∷ rs) (suc i) r h e = productions_back names ps rs i r h.2 e

-- productions with numbers are as many as the productions
pub productions_long : (names : List NonterminalString) (ps : List (Bor Production)) (rs : List NumberedProduction) →
    AreNumberedProductions names ps rs → length rs ≡ length ps
productions_long names [] [] h = refl
productions_long names [] (s ∷ rs) h = absurd h
productions_long names (q ∷ ps) [] h = absurd h
productions_long names (q ∷ ps) (s ∷ rs) h = ap suc (productions_long names ps rs h.2)

nothing_past : {X : Type 0} (xs : List X) (k : ℕ) → slice_get xs k ≡ None → length xs ≤ k
nothing_past [] k e = omega arith
nothing_past (x ∷ xs) zero e = let w : ⊥ = cc in absurd w
nothing_past (x ∷ xs) (suc k) e = omega (arith, nothing_past xs k e)

module _ (ts : TerminalSet) (s : List ℕ) where
  -- a number in the set is seen as what comes next
  next_has : (k : ℕ) → has s k ≡ true → k ≤ eof_number ts → Contains (token_lookahead ts s).nexts (next_of_number ts k)
  next_has k h b =
      map_has (next_of_number ts) (filter (has s) (range_with_len 0 (eof_number ts + 1))) k
      (filter_has (has s) (range_with_len 0 (eof_number ts + 1)) k h (range_has 0 (eof_number ts + 1) k (omega arith) (omega arith)))

  -- what comes next by the set has a number in it
  number_of_next : (x : Next) → Contains (token_lookahead ts s).nexts x →
      (k : ℕ) × (has s k ≡ true) × (k ≤ eof_number ts) × (next_of_number ts k ≡ x)
  number_of_next x c =
      let r = in_map (next_of_number ts) (filter (has s) (range_with_len 0 (eof_number ts + 1))) x c in
      let f = in_filter (has s) (range_with_len 0 (eof_number ts + 1)) r.0 r.1 in
      let b = in_range 0 (eof_number ts + 1) r.0 f.1 in
      (r.0, f.0, omega (arith, b.1), r.2)

  token_is : (o : Option TerminalString) (end : Bool) (t : TerminalString) → token_or o end ≡ tokens.Terminal t → o ≡ Some t
  token_is (Some u) end t e = let same : u ≡ t = cc in ap Some same
  token_is None true t e = let w : ⊥ = cc in absurd w
  token_is None false t e = let w : ⊥ = cc in absurd w

  -- a terminal of the set comes next
  pub terminal_next : (t : TerminalString) → Contains (tokens_of ts s) (tokens.Terminal t) →
      Contains (token_lookahead ts s).nexts (Some (terminal_view t))
  terminal_next t c =
      let r = in_map (token_of_number ts) (filter (has s) (range_with_len 0 (eof_number ts + 2))) (tokens.Terminal t) c in
      let f = in_filter (has s) (range_with_len 0 (eof_number ts + 2)) r.0 r.1 in
      let at : slice_get ts.all r.0 ≡ Some t = token_is (slice_get ts.all r.0) (nat_eq r.0 (eof_number ts)) t r.2 in
      subst (Contains (token_lookahead ts s).nexts) (ap (option_map terminal_view) at)
      (next_has r.0 f.0 (omega (arith, slice_get_within ts.all r.0 t at)))

  some_of : (o : Option TerminalString) (x : Terminal) → option_map terminal_view o ≡ Some x →
      (t : TerminalString) × (o ≡ Some t) × (terminal_view t ≡ x)
  some_of (Some t) x e = (t, refl, some_same (terminal_view t) x e)
  some_of None x e = let w : ⊥ = cc in absurd w

  -- and what comes next is a terminal of the set
  pub next_terminal : (x : Terminal) → Contains (token_lookahead ts s).nexts (Some x) →
      (t : TerminalString) × Contains (tokens_of ts s) (tokens.Terminal t) × (terminal_view t ≡ x)
  next_terminal x c =
      let n = number_of_next (Some x) c in
      let t = some_of (slice_get ts.all n.0) x n.3 in (
        t.0,
        subst (Contains (tokens_of ts s)) (ap (λ o. token_or o (nat_eq n.0 (eof_number ts))) t.1)
            (map_has (token_of_number ts) (filter (has s) (range_with_len 0 (eof_number ts + 2))) n.0
            (filter_has (has s) (range_with_len 0 (eof_number ts + 2)) n.0 n.1
            (range_has 0 (eof_number ts + 2) n.0 (omega arith) (omega (arith, n.2))))),
        t.2,
      )

  none_of : (o : Option TerminalString) → option_map terminal_view o ≡ None → o ≡ None
  none_of (Some t) e = let w : ⊥ = cc in absurd w
  none_of None e = refl

  -- the end comes next where the set has its number
  pub end_next : has s (eof_number ts) ≡ true → Contains (token_lookahead ts s).nexts None
  end_next h =
      subst (Contains (token_lookahead ts s).nexts)
      (ap (option_map terminal_view) (slice_get_past ts.all (eof_number ts) (omega arith)))
      (next_has (eof_number ts) h (omega arith))

  pub next_end : Contains (token_lookahead ts s).nexts None → has s (eof_number ts) ≡ true
  next_end c =
      let n = number_of_next None c in
      let past = nothing_past ts.all n.0 (none_of (slice_get ts.all n.0) n.3) in
      let same : n.0 ≡ eof_number ts = omega (arith, n.2, past) in
      ap (has s) (sym same) ∙ n.1

-- what an entry of a state is: a shift, or a reduction before a terminal of its set
pub shift_is : (ts : TerminalSet) (state : State (List ℕ)) (t : TerminalString) (m : ℕ) →
    Contains (terminal_entries ts state) (t, acts.Shift m) → Contains state.shifts (t, (record { 0 = m }))
shift_is ts state t m c =
    ⊎_elim
    (λ d.
    let r = in_map shift_entry state.shifts (t, acts.Shift m) d in
    let one : r.0.0 ≡ t = ap (λ e. e.0) r.2 in
    let number : acts.Shift r.0.1.0 ≡ acts.Shift m = ap (λ e. e.1) r.2 in
    let same : r.0.1.0 ≡ m = cc in
    let index : ℕ → StateIndex = λ k. record { 0 = k } in
    subst (λ k. Contains state.shifts (t, index k)) same (subst (λ u. Contains state.shifts (u, r.0.1)) one r.1))
    (λ d.
    let r = in_flat (reduction_entries ts) state.reductions (t, acts.Shift m) d in
    let u = in_flat (token_entry (acts.Reduce r.0.1)) (tokens_of ts r.0.0) (t, acts.Shift m) r.2 in
    absurd (no_shift (acts.Reduce r.0.1) r.0.1 refl u.0 u.2))
    (Contains-append_cases (map shift_entry state.shifts) (flat_map (reduction_entries ts) state.reductions) (t, acts.Shift m) c)
  where
    no_shift : (a : Act) (p : Bor Production) → a ≡ acts.Reduce p → (token : Token) →
        Contains (token_entry a token) (t, acts.Shift m) → ⊥
    no_shift a p e tokens.Eof d = omega (arith, d.1)
    no_shift a p e tokens.Error d = omega (arith, d.1)
    no_shift a p e (tokens.Terminal u) d =
        ⊎_elim (λ f. let wrong : acts.Reduce p ≡ acts.Shift m = sym e ∙ ap (λ x. x.1) f in let z : ⊥ = cc in z)
        (λ f. omega (arith, f.1)) (contains_split (u, a) (t, acts.Shift m) [] d)

-- a reduction of the state before a terminal of its set
pub record ReducesBefore (ts : TerminalSet) (state : State (List ℕ)) (t : TerminalString) (p : Bor Production) : Type 0 where
  pub set : List ℕ
  pub held : Contains state.reductions (set, p)
  pub token : Contains (tokens_of ts set) (tokens.Terminal t)

-- where an entry reduces before a terminal, a reduction of the state has that terminal in its set
pub reduction_is : (ts : TerminalSet) (state : State (List ℕ)) (t : TerminalString) (p : Bor Production) →
    Contains (terminal_entries ts state) (t, acts.Reduce p) → ReducesBefore ts state t p
reduction_is ts state t p c =
    ⊎_elim
    (λ d.
    let r = in_map shift_entry state.shifts (t, acts.Reduce p) d in
    let wrong : acts.Shift r.0.1.0 ≡ acts.Reduce p = ap (λ e. e.1) r.2 in
    let z : ⊥ = cc in absurd z)
    (λ d.
    let r = in_flat (reduction_entries ts) state.reductions (t, acts.Reduce p) d in
    let u = in_flat (token_entry (acts.Reduce r.0.1)) (tokens_of ts r.0.0) (t, acts.Reduce p) r.2 in
    let k = entry_of r.0.1 u.0 u.2 in
    record {
      set = r.0.0;
      held = subst (λ q. Contains state.reductions (r.0.0, q)) k.1 r.1;
      token = subst (Contains (tokens_of ts r.0.0)) k.0 u.1;
    })
    (Contains-append_cases (map shift_entry state.shifts) (flat_map (reduction_entries ts) state.reductions) (t, acts.Reduce p) c)
  where
    entry_of : (q : Bor Production) (token : Token) → Contains (token_entry (acts.Reduce q) token) (t, acts.Reduce p) →
        (token ≡ tokens.Terminal t) × (q ≡ p)
    entry_of q tokens.Eof d = absurd (omega (arith, d.1))
    entry_of q tokens.Error d = absurd (omega (arith, d.1))
    entry_of q (tokens.Terminal u) d =
        ⊎_elim (λ f.
        let by : acts.Reduce q ≡ acts.Reduce p = ap (λ x. x.1) f in
        let same : q ≡ p = cc in
        (ap (λ x. tokens.Terminal x.0) f, same))
        (λ f. absurd (omega (arith, f.1))) (contains_split (u, acts.Reduce q) (t, acts.Reduce p) [] d)

-- each shift of a state is among what the state does before terminals
pub shift_there : (ts : TerminalSet) (state : State (List ℕ)) (e : TerminalString × StateIndex) → Contains state.shifts e →
    Contains (terminal_entries ts state) (e.0, acts.Shift e.1.0)
shift_there ts state e c =
    Contains-append_left (map shift_entry state.shifts) (flat_map (reduction_entries ts) state.reductions) (e.0, acts.Shift e.1.0)
    (map_has shift_entry state.shifts e c)

-- a reduction of a state is among what it does before each terminal of the reduction's set
pub reduction_there : (ts : TerminalSet) (state : State (List ℕ)) (r : List ℕ × Bor Production) (t : TerminalString) →
    Contains state.reductions r → Contains (tokens_of ts r.0) (tokens.Terminal t) →
    Contains (terminal_entries ts state) (t, acts.Reduce r.1)
reduction_there ts state r t c d =
    Contains-append_right (map shift_entry state.shifts) (flat_map (reduction_entries ts) state.reductions) (t, acts.Reduce r.1)
    (flat_has (reduction_entries ts) state.reductions r (t, acts.Reduce r.1) c
    (flat_has (token_entry (acts.Reduce r.1)) (tokens_of ts r.0) (tokens.Terminal t) (t, acts.Reduce r.1) d
    (contains_here (t, acts.Reduce r.1) [])))
