-- Sets made of one token, and the tokens that a set shows, for token_set and its iterator.
use Rattle.std.proofs.Common.{◌≡◌, ℕ, suc, ◌+◌, ◌<◌, ◌≤◌, Bool, true, false, cond, eqb, nat_lt, ◌||◌, ◌&&◌, ◌⊎◌, inl, inr, List, [], ◌∷◌}
use Rattle.std.proofs.Common.{Option, Some, None, map, filter, refl, ap, ◌∙◌, sym, arith}
use Rattle.std.proofs.lemmas.Bool.{cases_lt}
use Rattle.std.proofs.lemmas.Bool.Decides.{nat_tests}
use Rattle.std.specs.List.{range_with_len}
use Rattle.lalrpop_grammar_repr.specs.declared.terminal_set.TerminalSet.{TerminalSet}
use Rattle.lalrpop_sets.specs.AscendingLists.{has, Ascends, AscendsFrom}
use Rattle.lalrpop_sets.specs.Tokens.{eof_number, is_number, number_alone}
use Rattle.lalrpop_sets.specs.TokensLeft.{known_tokens, token_of_number, tokens_of}
use Rattle.lalrpop_sets.proofs.RangeLemmas.{and_false}
use Rattle.lalrpop_sets.proofs.AscendingListLemmas.{asc_filter, asc_more, asc_same, cases_eq, eqb_flip, eqb_not, eqb_self, has_above, has_within}

asc_alone : (n : Option ℕ) → AscendsFrom 0 (number_alone n)
asc_alone None = tt
asc_alone (Some k) = (omega arith, tt)

has_alone : (n : Option ℕ) (j : ℕ) → (is_number n j || false) ≡ has (number_alone n) j
has_alone None j = refl
has_alone (Some k) j = ap (λ b. b || false) (eqb_flip j k)

-- what came into an empty set is all that is in it
pub alone : (n : Option ℕ) (old new : List ℕ) → old ≡ [] → Ascends new → ((j : ℕ) → has new j ≡ (is_number n j
    || has old j))
    → new ≡ number_alone n
alone n old new none asc h = asc_same 0 0 new (number_alone n) asc (asc_alone n)
    (λ j. h j ∙ ap (λ s. is_number n j || has s j) none ∙ has_alone n j)

-- the numbers that pass a test are among the others
filter_has : (p : ℕ → Bool) (ns : List ℕ) (k : ℕ) → has (filter p ns) k ≡ (p k && has ns k)
filter_has p [] k = sym (and_false (p k))
filter_has p (n ∷ ns) k = go (cases_eq n k) (p n) refl (filter_has p ns k)
  where
    go : (n ≡ k) ⊎ (n ≡ k → ⊥) → (b : Bool) → p n ≡ b → has (filter p ns) k ≡ (p k && has ns k)
        → has (cond b (n ∷ filter p ns) (filter p ns)) k ≡ (p k && (eqb n k || has ns k))
    go (inl e) true h r =
        let t : eqb n k ≡ true = ap (λ m. eqb m k) e ∙ eqb_self k in
        ap (λ b. b || has (filter p ns) k) t ∙ sym (ap (λ b. b && (eqb n k || has ns k)) (ap p (sym e) ∙ h) ∙ ap (λ b. b || has ns k) t)
    go (inl e) false h r =
        let f : p k ≡ false = ap p (sym e) ∙ h in
        r ∙ ap (λ b. b && has ns k) f ∙ sym (ap (λ b. b && (eqb n k || has ns k)) f)
    go (inr e) true h r = ap (λ b. b || has (filter p ns) k) (eqb_not n k e) ∙ r ∙ sym (ap (λ b. p k && (b || has ns k)) (eqb_not n k e))
    go (inr e) false h r = r ∙ sym (ap (λ b. p k && (b || has ns k)) (eqb_not n k e))

filter_ascends : (p : ℕ → Bool) (a : ℕ) (ns : List ℕ) → AscendsFrom a ns → AscendsFrom a (filter p ns)
filter_ascends p a [] h = tt
filter_ascends p a (n ∷ ns) h = go (p n) (filter_ascends p (suc n) ns h.1)
  where
    go : (b : Bool) → AscendsFrom (suc n) (filter p ns) → AscendsFrom a (cond b (n ∷ filter p ns) (filter p ns))
    go true r = (h.0, r)
    go false r = let l : a ≤ n = h.0 in asc_more (suc n) a (filter p ns) (omega arith) r

-- of an ascending list the numbers below one are those below it that the list has
below_listed : (m : ℕ) (s : List ℕ) → Ascends s → filter (λ k. nat_lt k m) s ≡ filter (has s) (range_with_len 0 m)
below_listed m s h =
    asc_same 0 0 (filter (λ k. nat_lt k m) s) (filter (has s) (range_with_len 0 m)) (filter_ascends (λ k. nat_lt k m) 0 s h)
    (asc_filter (has s) 0 m) (λ k. filter_has (λ k. nat_lt k m) s k ∙ go k (cases_lt k m))
  where
    go : (k : ℕ) → (k < m) ⊎ (m ≤ k) → (nat_lt k m && has s k) ≡ has (filter (has s) (range_with_len 0 m)) k
    go k (inl l) =
        let x : nat_lt k m ≡ true = grind (arith, nat_tests) in
        ap (λ b. b && has s k) x ∙ sym (has_within (has s) 0 m k (omega arith) (omega arith))
    go k (inr l) =
        let x : nat_lt k m ≡ false = grind (arith, nat_tests) in
        ap (λ b. b && has s k) x ∙ sym (has_above (has s) 0 m k (omega arith))

-- an iterator begins with all
pub known_all : (ts : TerminalSet) (s : List ℕ) → Ascends s → known_tokens ts s ≡ tokens_of ts s
known_all ts s h = ap (map (token_of_number ts)) (below_listed (eof_number ts + 2) s h)

-- one number further on
known_step : (ts : TerminalSet) (k : ℕ) (ns : List ℕ) (b : Bool) → nat_lt k (eof_number ts + 2) ≡ b
    → known_tokens ts (k ∷ ns) ≡ cond b (token_of_number ts k ∷ known_tokens ts ns) (known_tokens ts ns)
known_step ts k ns b e =
    ap (λ x. map (token_of_number ts) (cond x (k ∷ rest) rest)) e ∙ go b
  where
    rest : List ℕ
    rest = filter (λ n. nat_lt n (eof_number ts + 2)) ns

    go : (x : Bool)
        → map (token_of_number ts) (cond x (k ∷ rest) rest)
        ≡ cond x (token_of_number ts k ∷ map (token_of_number ts) rest) (map (token_of_number ts) rest)
    go true = refl
    go false = refl

pub known_has : (ts : TerminalSet) (k : ℕ) (ns : List ℕ) → nat_lt k (eof_number ts + 2) ≡ true
    → known_tokens ts (k ∷ ns) ≡ token_of_number ts k ∷ known_tokens ts ns
known_has ts k ns e = known_step ts k ns true e

pub known_lacks : (ts : TerminalSet) (k : ℕ) (ns : List ℕ) → nat_lt k (eof_number ts + 2) ≡ false
    → known_tokens ts (k ∷ ns) ≡ known_tokens ts ns
known_lacks ts k ns e = known_step ts k ns false e
