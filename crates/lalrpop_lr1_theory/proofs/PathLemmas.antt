-- What stands on the path to a state, and what stands before an item's symbols there: for the laws on completions.
use Rattle.std.proofs.Common.{◌≡◌, ℕ, zero, suc, List, [], ◌∷◌, ◌++◌, drop, take, refl, sym, ap, ◌∙◌}
use Rattle.std.proofs.Common.{subst, append_assoc, append-nil, arith}
use Rattle.lalrpop_grammar_symbols.specs.Symbols.{Text}
use Rattle.lalrpop_lr1_theory.specs.Productions.{Production, Symbol}
use Rattle.lalrpop_lr1_theory.specs.Automata.{Closure, IsBegun, IsCover, IsShifted, Walk, closed, goes, in_kernel, stands}
use Rattle.lalrpop_lr1_theory.specs.PathTrees.{IsBack, IsPathTree, further, here}

take_on : {A : Type 0} (x : A) (b xs : List A) (i : ℕ) → drop i xs ≡ x ∷ b → take (suc i) xs ≡ take i xs ++ x ∷ []
take_on x b [] zero e = let z : ⊥ = cc in absurd z
take_on x b (y ∷ xs) zero e = let z : y ≡ x = cc in ap (λ w. w ∷ []) z
take_on x b [] (suc i) e = let z : ⊥ = cc in absurd z
take_on x b (y ∷ xs) (suc i) e = ap (λ w. y ∷ w) (take_on x b xs i e)

module _ (Edge Back : ℕ → Symbol → ℕ → Type 0) (IsState : ℕ → Type 0) (paths : IsPathTree Edge Back IsState) where
  -- a path is one of the states'
  pub walk_by_edges : (g : List Symbol) (n : ℕ) → Walk Back g n → Walk Edge g n
  walk_by_edges g n stands = stands
  walk_by_edges g n (goes {g = h} {n = k} x m w e) = goes x n (walk_by_edges h k w) (paths.edges k x n e)

  -- what stands behind the first part of a path
  pub record IsPathBack (g : List Symbol) (i m : ℕ) (a : List Symbol) : Type 0 where
    pub front : List Symbol
    pub parts : g ≡ front ++ a
    pub walk : Walk Back front m

  module _ (G : Production → Type 0) (s : Text) (Item : ℕ → Production → ℕ → Type 0) (cover : IsCover G s Item Edge) where
    start_dot : (p : Production) (i : ℕ) → Closure G (IsBegun G s) p i → i ≡ 0
    start_dot p i (in_kernel q j u) = u.2
    start_dot p i (closed b q c d u) = refl

    -- an item whose dot isn't in front was shifted to the state, by each edge that leads there
    shifted_item : (n k : ℕ) (x : Symbol) → Edge n x k → (p : Production) (i : ℕ) → Item k p (suc i) →
        IsShifted Item n x p (suc i)
    shifted_item n k x e p i held = go (suc i) ((cover.next n x k e p (suc i)).0 held) refl
      where
        go : (j : ℕ) → Closure G (IsShifted Item n x) p j → j ≡ suc i → IsShifted Item n x p (suc i)
        go j (in_kernel q l u) f = subst (IsShifted Item n x q) f u
        go j (closed b q c d u) f = absurd (omega (arith, f))

    -- so many places back as its dot has symbols in front, the item has its dot in front, and the path from there is by these symbols
    -- the same, where it is so one place further back
    last_back : (x : Symbol) (a m j : ℕ) (p : Production) →
        ((h : List Symbol) → Walk Back h a → Item a p j → IsPathBack h j m (take j p.right)) →
        (g : List Symbol) (n : ℕ) → Walk Back g n → Back a x n → Item n p (suc j) → IsPathBack g (suc j) m (take (suc j) p.right)
    last_back x a m j p inner g n stands f held = absurd (paths.root a x f)
    last_back x a m j p inner g n (goes {g = h} {n = c} y l v d) f held =
        let same = paths.one c a y x n d f in
        let u = shifted_item a n x (paths.edges a x n f) p j held in
        let on : u.dot ≡ j = omega (arith, u.on) in
        let r = inner h (subst (Walk Back h) same.0 v) (subst (Item a p) on u.item) in
        record {
          front = r.front;
          parts = ap (λ z. z ++ y ∷ []) r.parts ∙ append_assoc r.front (take j p.right) (y ∷ [])
              ∙ ap (λ z. r.front ++ z)
              (ap (λ z. take j p.right ++ z ∷ []) same.1
              ∙ sym (take_on x u.rest p.right j (subst (λ z. drop z p.right ≡ x ∷ u.rest) on u.before)));
          walk = r.walk;
        }

    -- so many places back as its dot has symbols in front, the item has its dot in front, and the path from there is by these symbols
    pub path_back : (i : ℕ) (g : List Symbol) (n m : ℕ) → Walk Back g n → (p : Production) → Item n p i → IsBack Back i n m →
        IsPathBack g i m (take i p.right)
    path_back i g n m w p held (here k) = record { front = g; parts = sym (append-nil g); walk = w }
    path_back i g n m w p held (further {i = j} {n = a} x k e back) =
        last_back x a m j p (λ h v u. path_back j h a m v p u back) g n w e held

    -- and the state there is one
    pub back_there : (i : ℕ) (g : List Symbol) (n : ℕ) → Walk Back g n → (p : Production) → Item n p i →
        (m : ℕ) × IsBack Back i n m
    back_there zero g n w p held = (n, here n)
    back_there (suc j) g n stands p held = let z = start_dot p (suc j) ((cover.start p (suc j)).0 held) in absurd (omega (arith, z))
    back_there (suc j) g n (goes {g = h} {n = c} y l v d) p held =
        let u = shifted_item c n y (paths.edges c y n d) p j held in
        let on : u.dot ≡ j = omega (arith, u.on) in
        let inner = back_there j h c v p (subst (Item c p) on u.item) in
        (inner.0, further y n d inner.1)

  -- there is one state so many places back
  pub back_one : (i n m k : ℕ) → IsBack Back i n m → IsBack Back i n k → m ≡ k
  back_one i n m k (here a) (here b) = refl
  back_one i n m k (further {i = j} {n = a} x c d back) (further {i = l} {n = b} y e f other) =
      let same = paths.one a b x y n d f in
      back_one j a m k back (subst (λ z. IsBack Back j z k) (sym same.0) other)
