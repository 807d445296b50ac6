-- Numbers for marked and other places: which they are, that they are apart and rise. For the order in which states with gotos come first.
use Rattle.std.proofs.Common.{◌≡◌, ◌∙◌, ◌⊎◌, ℕ, zero, suc, ◌+◌, ◌<◌, ◌≤◌, Bool, true, false}
use Rattle.std.proofs.Common.{List, [], ◌∷◌, ◌++◌}
use Rattle.std.proofs.Common.{append_assoc, drop, drop-cons, get_or, length, length-append, Some, refl, sym, ap, inl, inr, ⊎_elim, arith}
use Rattle.std.specs.Prelude.{slice_get}
use Rattle.lalrpop_lr1_theory.proofs.StepLemmas.{some_same}
use Rattle.lalrpop_lr1_core.specs.declared.state.State.{State}
use Rattle.lalrpop_lane.specs.GotoNumbers.{count_marked, fronts_of, goto_numbers, has_some, numbers_from, with_mark}
use Rattle.lalrpop_lane.specs.GotoNumbers.{state_by_numbers, states_by_numbers}

-- how many aren't marked
abbrev pub count_unmarked : List Bool → ℕ
count_unmarked [] = 0
count_unmarked (true ∷ marks) = count_unmarked marks
count_unmarked (false ∷ marks) = suc (count_unmarked marks)

pub counts : (marks : List Bool) → count_marked marks + count_unmarked marks ≡ length marks
counts [] = refl
counts (true ∷ marks) = let h = counts marks in omega (arith, h)
counts (false ∷ marks) = let h = counts marks in omega (arith, h)

-- no more places are marked than there are
pub marked_within : (marks : List Bool) → count_marked marks ≤ length marks
marked_within marks = let h = counts marks in omega (arith, h)

-- each state has one mark that says whether it stays in front
pub fronts_length : {L : Type 0} (first : Bool) (states : List (State L)) → length (fronts_of first states) ≡ length states
fronts_length first [] = refl
fronts_length first (state ∷ states) = ap suc (fronts_length false states)

-- each place gets one number, whether it's marked or not
pub numbers_length : (marks : List Bool) (front rest : ℕ) → length (numbers_from marks front rest) ≡ length marks
numbers_length [] front rest = refl
numbers_length (true ∷ marks) front rest = ap suc (numbers_length marks (suc front) rest)
numbers_length (false ∷ marks) front rest = ap suc (numbers_length marks front (suc rest))

-- states with new numbers are as many as before
pub renumbered_length : {L : Type 0} (numbers owns : List ℕ) (states : List (State L)) → length owns ≡ length states →
    length (states_by_numbers numbers owns states) ≡ length states
renumbered_length numbers [] [] e = refl
renumbered_length numbers [] (state ∷ states) e = absurd (omega (arith, e))
renumbered_length numbers (own ∷ owns) [] e = absurd (omega (arith, e))
renumbered_length numbers (own ∷ owns) (state ∷ states) e = ap suc (renumbered_length numbers owns states (omega (arith, e)))

-- as many are picked as are marked, and as many of the others as aren't
pub picked_length : {X : Type 0} (marks : List Bool) (xs : List X) → length marks ≡ length xs →
    (length (with_mark true marks xs) ≡ count_marked marks) × (length (with_mark false marks xs) ≡ count_unmarked marks)
picked_length [] xs e = (refl, refl)
picked_length (mark ∷ marks) [] e = absurd (omega (arith, e))
picked_length (true ∷ marks) (x ∷ xs) e =
    let h = picked_length marks xs (omega (arith, e)) in (ap suc h.0, h.1)
picked_length (false ∷ marks) (x ∷ xs) e =
    let h = picked_length marks xs (omega (arith, e)) in (h.0, ap suc h.1)

-- the place with this number is marked, so many behind the first marked one, and what stands there is picked as such
pub record IsFrontAt {X : Type 0} (marks : List Bool) (xs : List X) (front n m : ℕ) : Type 0 where
  pub behind : ℕ
  pub mark : slice_get marks n ≡ Some true
  pub number : m ≡ front + behind
  pub within : behind < count_marked marks
  pub found : slice_get (with_mark true marks xs) behind ≡ slice_get xs n

-- the same where it isn't marked
pub record IsRestAt {X : Type 0} (marks : List Bool) (xs : List X) (rest n m : ℕ) : Type 0 where
  pub behind : ℕ
  pub mark : slice_get marks n ≡ Some false
  pub number : m ≡ rest + behind
  pub found : slice_get (with_mark false marks xs) behind ≡ slice_get xs n

-- each number given is that of a marked place or of one that isn't, so many behind the first of its kind
pub placed : {X : Type 0} (marks : List Bool) (xs : List X) (front rest n m : ℕ) → length marks ≡ length xs →
    slice_get (numbers_from marks front rest) n ≡ Some m → IsFrontAt marks xs front n m ⊎ IsRestAt marks xs rest n m
placed [] xs front rest n m l e = let z : ⊥ = cc in absurd z
placed (mark ∷ marks) [] front rest n m l e = absurd (omega (arith, l))
placed (true ∷ marks) (x ∷ xs) front rest zero m l e =
    let same = some_same front m e in
    inl (record { behind = 0; mark = refl; number = omega (arith, same); within = omega arith; found = refl })
placed (true ∷ marks) (x ∷ xs) front rest (suc n) m l e =
    ⊎_elim
    (λ h. inl (record {
      behind = suc h.behind;
      mark = h.mark;
      number = let f = h.number in omega (arith, f);
      within = let f = h.within in omega (arith, f);
      found = h.found;
    }))
    (λ h. inr (record { behind = h.behind; mark = h.mark; number = h.number; found = h.found }))
    (placed marks xs (suc front) rest n m (omega (arith, l)) e)
placed (false ∷ marks) (x ∷ xs) front rest zero m l e =
    let same = some_same rest m e in
    inr (record { behind = 0; mark = refl; number = omega (arith, same); found = refl })
placed (false ∷ marks) (x ∷ xs) front rest (suc n) m l e =
    ⊎_elim
    (λ h. inl (record { behind = h.behind; mark = h.mark; number = h.number; within = h.within; found = h.found }))
    (λ h. inr (record {
      behind = suc h.behind;
      mark = h.mark;
      number = let f = h.number in omega (arith, f);
      found = h.found;
    }))
    (placed marks xs front (suc rest) n m (omega (arith, l)) e)

no_two : (b : Bool) → Some true ≡ Some b → Some false ≡ Some b → ⊥
no_two b e f = cc

-- marked places have rising numbers, and so have the others
pub rises : (marks : List Bool) (front rest n k a b : ℕ) (mark : Bool) → slice_get (numbers_from marks front rest) n ≡ Some a →
    slice_get (numbers_from marks front rest) k ≡ Some b → slice_get marks n ≡ Some mark → slice_get marks k ≡ Some mark →
    n < k → a < b
rises marks front rest n zero a b mark e f g h l = absurd (omega (arith, l))
rises [] front rest n (suc k) a b mark e f g h l = let z : ⊥ = cc in absurd z
rises (true ∷ marks) front rest zero (suc k) a b mark e f g h l =
    let same = some_same front a e in
    ⊎_elim
    (λ p. let number = p.number in omega (arith, same, number))
    (λ p. absurd (no_two mark g (sym p.mark ∙ h)))
    (placed marks marks (suc front) rest k b refl f)
rises (false ∷ marks) front rest zero (suc k) a b mark e f g h l =
    let same = some_same rest a e in
    ⊎_elim
    (λ p. absurd (no_two mark (sym p.mark ∙ h) g))
    (λ p. let number = p.number in omega (arith, same, number))
    (placed marks marks front (suc rest) k b refl f)
rises (true ∷ marks) front rest (suc n) (suc k) a b mark e f g h l =
    rises marks (suc front) rest n k a b mark e f g h (omega (arith, l))
rises (false ∷ marks) front rest (suc n) (suc k) a b mark e f g h l =
    rises marks front (suc rest) n k a b mark e f g h (omega (arith, l))

-- each number is given
pub front_given : (marks : List Bool) (front rest j : ℕ) → j < count_marked marks →
    (n : ℕ) × (slice_get (numbers_from marks front rest) n ≡ Some (front + j))
front_given [] front rest j l = absurd (omega (arith, l))
front_given (true ∷ marks) front rest zero l = (0, ap Some (let z : front ≡ front + 0 = omega arith in z))
front_given (true ∷ marks) front rest (suc j) l =
    let h = front_given marks (suc front) rest j (omega (arith, l)) in
    (suc h.0, h.1 ∙ ap Some (let z : suc front + j ≡ front + suc j = omega arith in z))
front_given (false ∷ marks) front rest j l = let h = front_given marks front (suc rest) j l in (suc h.0, h.1)

-- each number for those that aren't marked is given to one of them
pub rest_given : (marks : List Bool) (front rest j : ℕ) → j < count_unmarked marks →
    (n : ℕ) × (slice_get (numbers_from marks front rest) n ≡ Some (rest + j))
rest_given [] front rest j l = absurd (omega (arith, l))
rest_given (true ∷ marks) front rest j l = let h = rest_given marks (suc front) rest j l in (suc h.0, h.1)
rest_given (false ∷ marks) front rest zero l = (0, ap Some (let z : rest ≡ rest + 0 = omega arith in z))
rest_given (false ∷ marks) front rest (suc j) l =
    let h = rest_given marks front (suc rest) j (omega (arith, l)) in
    (suc h.0, h.1 ∙ ap Some (let z : suc rest + j ≡ rest + suc j = omega arith in z))

-- each state stands at its place, by its own number
pub renumbered_get : {L : Type 0} (numbers owns : List ℕ) (states : List (State L)) (n m : ℕ) (state : State L) →
    slice_get owns n ≡ Some m → slice_get states n ≡ Some state →
    slice_get (states_by_numbers numbers owns states) n ≡ Some (state_by_numbers numbers m state)
renumbered_get numbers [] states n m state e f = let z : ⊥ = cc in absurd z
renumbered_get numbers (own ∷ owns) [] n m state e f = let z : ⊥ = cc in absurd z
renumbered_get numbers (own ∷ owns) (first ∷ states) zero m state e f =
    ap Some (ap (λ k. state_by_numbers numbers k first) (some_same own m e)
    ∙ ap (state_by_numbers numbers m) (some_same first state f))
renumbered_get numbers (own ∷ owns) (first ∷ states) (suc n) m state e f = renumbered_get numbers owns states n m state e f

-- a place is marked where the state there is the first or has gotos
pub front_mark : {L : Type 0} (first : Bool) (states : List (State L)) (n : ℕ) (state : State L) →
    slice_get states (suc n) ≡ Some state →
    slice_get (fronts_of first states) (suc n) ≡ Some (has_some state.gotos)
front_mark first [] n state e = let z : ⊥ = cc in absurd z
front_mark first (one ∷ []) n state e = let z : ⊥ = cc in absurd z
front_mark first (one ∷ other ∷ states) zero state e = ap (λ (s : State _). Some (has_some s.gotos)) (some_same other state e)
front_mark first (one ∷ other ∷ states) (suc n) state e = front_mark false (other ∷ states) n state e

-- the first of all states always stays in front
pub front_first : {L : Type 0} (states : List (State L)) (state : State L) → slice_get states 0 ≡ Some state →
    slice_get (fronts_of true states) 0 ≡ Some true
front_first [] state e = let z : ⊥ = cc in absurd z
front_first (one ∷ states) state e = refl

-- the numbers, as they are lent to those who put states in order, are as many as the states
pub lent_length : {L : Type 0} (states lent_states : List (State L)) (marks lent_marks : List Bool) (numbers lent : List ℕ) →
    lent_states ≡ states → marks ≡ fronts_of true lent_states → lent_marks ≡ marks → numbers ≡ goto_numbers lent_marks →
    lent ≡ numbers → length lent ≡ length states
lent_length states lent_states marks lent_marks numbers lent e f g h i =
    ap length i ∙ ap length h ∙ numbers_length lent_marks 0 (count_marked lent_marks) ∙ ap length g ∙ ap length f
    ∙ fronts_length true lent_states ∙ ap length e

-- one state more by its number
pub renumber_more : {L : Type 0} (numbers : List ℕ) (whole before after left rest : List (State L)) (state new : State L) →
    before ++ states_by_numbers numbers (drop (length before) numbers) left ≡ whole → left ≡ state ∷ rest →
    length before < length numbers → new ≡ state_by_numbers numbers (get_or numbers (length before) 0) state →
    after ≡ before ++ new ∷ [] → after ++ states_by_numbers numbers (drop (length after) numbers) rest ≡ whole
renumber_more numbers whole before after left rest state new all first within made pushed =
    ap (λ l. l ++ states_by_numbers numbers (drop (length l) numbers) rest) pushed
    ∙ ap (λ k. (before ++ new ∷ []) ++ states_by_numbers numbers (drop k numbers) rest) longer
    ∙ append_assoc before (new ∷ []) (states_by_numbers numbers (drop (suc (length before)) numbers) rest)
    ∙ ap (λ l. before ++ l) (sym step) ∙ all
  where
    longer : length (before ++ new ∷ []) ≡ suc (length before)
    longer = let h = length-append before (new ∷ []) in omega (arith, h)

    step : states_by_numbers numbers (drop (length before) numbers) left
        ≡ new ∷ states_by_numbers numbers (drop (suc (length before)) numbers) rest
    step = ap (λ d. states_by_numbers numbers d left) (drop-cons numbers (length before) 0 within)
        ∙ ap (states_by_numbers numbers (get_or numbers (length before) 0 ∷ drop (suc (length before)) numbers)) first
        ∙ ap (λ y. y ∷ states_by_numbers numbers (drop (suc (length before)) numbers) rest) (sym made)
