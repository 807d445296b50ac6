-- There is one number of sets of items.
use Rattle.std.proofs.Common.{◌≡◌, ℕ, zero, suc, ◌<◌, ◌≤◌, List, [], ◌∷◌, length, refl, ap, sym, ◌∙◌, subst}
use Rattle.std.proofs.Common.{inl, inr, ◌⊎◌, Some, None, arith, Contains}
use Rattle.std.proofs.lemmas.Bool.{cases_lt}
use Rattle.std.specs.Prelude.{slice_get, ⊤}
use Rattle.lalrpop_grammar_symbols.specs.Symbols.{Text}
use Rattle.lalrpop_grammar.specs.WrittenGrammar.{Grammar}
use Rattle.lalrpop_grammar_language.specs.Expansion.{InExpansion, Nonterminal}
use Rattle.lalrpop_lr1_theory.specs.Productions.{Production, Symbol}
use Rattle.lalrpop_lr1_theory.specs.ValidItems.{CountsItemSets, HasValidItem, HaveSameItems}
use Rattle.lalrpop_run.specs.Asked.{Asked, enabled, name_of_start}
use Rattle.lalrpop_run.specs.AnswersOfExpansions.{CountsAreOne}
use Rattle.lalrpop_run.specs.RightAnswer.{IsRightStateCount}
use Rattle.lalrpop_run.proofs.ExpansionAlikeLemmas.{counts_are_said_of_all}

abbrev pub NotAmong : ℕ → List ℕ → Type 0
NotAmong x [] = ⊤
NotAmong x (y ∷ ys) = (x ≡ y → ⊥) × NotAmong x ys

-- no number stands twice
abbrev pub Different : List ℕ → Type 0
Different [] = ⊤
Different (x ∷ xs) = NotAmong x xs × Different xs

abbrev pub Below : ℕ → List ℕ → Type 0
Below m [] = ⊤
Below m (x ∷ xs) = (x < m) × Below m xs

lower : (m : ℕ) (xs : List ℕ) → NotAmong m xs → Below (suc m) xs → Below m xs
lower m [] n b = tt
lower m (x ∷ xs) n b = (go (cases_lt x m), lower m xs n.1 b.1)
  where
    go : (x < m) ⊎ (m ≤ x) → x < m
    go (inl h) = h
    go (inr h) = absurd (n.0 (omega (arith, h, b.0)))

-- the numbers without the greatest that they may have
record Shrunk (m : ℕ) (xs : List ℕ) : Type 0 where
  rest : List ℕ
  small : length xs ≤ suc (length rest)
  below : Below m rest
  different : Different rest
  among : (y : ℕ) → NotAmong y xs → NotAmong y rest

shrink : (m : ℕ) (xs : List ℕ) → Different xs → Below (suc m) xs → Shrunk m xs
shrink m [] d b = record { rest = []; small = omega arith; below = tt; different = tt; among = λ y h. tt }
shrink m (x ∷ xs) d b = go (shrink m xs d.1 b.1) (cases_lt x m)
  where
    go : Shrunk m xs → (x < m) ⊎ (m ≤ x) → Shrunk m (x ∷ xs)
    go s (inl h) =
        let small : length xs ≤ suc (length s.rest) = s.small in
        record {
          rest = x ∷ s.rest;
          small = omega (arith, small);
          below = (h, s.below);
          different = (s.among x d.0, s.different);
          among = λ y k. (k.0, s.among y k.1);
        }
    go s (inr h) =
        let same : x ≡ m = omega (arith, h, b.0) in
        record {
          rest = xs;
          small = omega arith;
          below = lower m xs (subst (λ z. NotAmong z xs) same d.0) b.1;
          different = d.1;
          among = λ y k. k.1;
        }

-- different numbers below a bound are at most as many
pub at_most : (m : ℕ) (xs : List ℕ) → Different xs → Below m xs → length xs ≤ m
at_most zero [] d b = omega arith
at_most zero (x ∷ xs) d b = absurd (omega (arith, b.0))
at_most (suc m) xs d b =
    let s = shrink m xs d b in
    let t : length s.rest ≤ m = at_most m s.rest s.different s.below in
    let small : length xs ≤ suc (length s.rest) = s.small in
    omega (arith, small, t)

within : {A : Type 0} (xs : List A) (k : ℕ) (x : A) → slice_get xs k ≡ Some x → k < length xs
within [] k x e = let wrong : None ≡ Some x = e in cc
within (y ∷ xs) zero x e = omega arith
within (y ∷ xs) (suc k) x e = let h : k < length xs = within xs k x e in omega (arith, h)

module _ (G : Production → Type 0) (s : Text) (m : ℕ) (w : CountsItemSets G s m) where
  abbrev Same : List Symbol → List Symbol → Type 0
  Same = HaveSameItems G s

  flip : (g h : List Symbol) → Same g h → Same h g
  flip g h a p i x = ((a p i x).1, (a p i x).0)

  join : (g h k : List Symbol) → Same g k → Same h k → Same g h
  join g h k a b p i x = (λ v. (b p i x).1 ((a p i x).0 v), λ v. (a p i x).1 ((b p i x).0 v))

  one_list : (i j : ℕ) (g h : List Symbol) → slice_get w.lists i ≡ Some g → slice_get w.lists j ≡ Some h → i ≡ j → g ≡ h
  one_list i j g h x y same =
      let both : Some g ≡ Some h = sym x ∙ ap (slice_get w.lists) same ∙ y in
      cc

  -- where lists that have items of their own stand among the others
  record Places (gs : List (List Symbol)) : Type 0 where
    places : List ℕ
    many : length places ≡ length gs
    below : Below m places
    different : Different places
    free : (x : ℕ) (g l : List Symbol) → slice_get w.lists x ≡ Some l → Same g l →
        ((k : ℕ) (h : List Symbol) → slice_get gs k ≡ Some h → Same g h → ⊥) → NotAmong x places

  places_of : (gs : List (List Symbol)) → ((k : ℕ) (g : List Symbol) → slice_get gs k ≡ Some g → HasValidItem G s g) →
      ((j k : ℕ) (g h : List Symbol) → slice_get gs j ≡ Some g → slice_get gs k ≡ Some h → Same g h → j ≡ k) → Places gs
  places_of [] f a = record { places = []; many = refl; below = tt; different = tt; free = λ x g l e k h. tt }
  places_of (g ∷ gs) f a =
      let r = w.all g (f 0 g refl) in
      let p = places_of gs (λ k h e. f (suc k) h e) (λ j k h l d e t. less j k (a (suc j) (suc k) h l d e t)) in
      let small : r.place < length w.lists = within w.lists r.place r.list r.at in
      let count : length w.lists ≡ m = w.count in
      record {
        places = r.place ∷ p.places;
        many = ap suc p.many;
        below = (omega (arith, small, count), p.below);
        different = (
          p.free r.place g r.list r.at r.same
              (λ k h e t. let wrong : ◌≡◌ {A = ℕ} 0 (suc k) = a 0 (suc k) g h refl e t in omega (arith, wrong)),
          p.different,
        );
        free = λ x h l e t apart. (
          (λ same. apart 0 g refl (join h g r.list
              (subst (Same h) (one_list x r.place l r.list e r.at same) t) r.same)),
          p.free x h l e t (λ k b c. apart (suc k) b c),
        );
      }
    where
      less : (j k : ℕ) → suc j ≡ suc k → j ≡ k
      less j k e = omega (arith, e)

  no_more : (n : ℕ) → CountsItemSets G s n → n ≤ m
  no_more n v =
      let p = places_of v.lists v.nonempty v.different in
      let most : length p.places ≤ m = at_most m p.places p.different p.below in
      let many : length p.places ≡ length v.lists = p.many in
      let count : length v.lists ≡ n = v.count in
      omega (arith, most, many, count)

-- there is one number of sets of items
pub counts_are_one : CountsAreOne
counts_are_one grammar s n m v w =
    let one : n ≤ m = no_more (Contains grammar) s m w n v in
    let other : m ≤ n = no_more (Contains grammar) s n v m w in
    omega (arith, one, other)

-- so there is one right number of states
pub state_counts_are_one : (q : Asked) (w : Grammar) (n m : ℕ) →
    InExpansion (enabled q w) (Nonterminal.start q.start) → IsRightStateCount q w n → IsRightStateCount q w m → n ≡ m
state_counts_are_one q w n m i v u =
    let moved = counts_are_said_of_all m q.finds q.features w q.start u.parsed.grammar v.parsed.grammar i
    u.parsed.expansion v.parsed.expansion u.counted in
    counts_are_one v.parsed.grammar (name_of_start q w) n m v.counted moved
