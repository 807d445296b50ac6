-- Things in order of first use have one order, and each is used by one before it; for keys.
use Rattle.std.proofs.Common.{◌≡◌, List, [], ◌∷◌, ◌++◌, refl, ap, sym, ◌∙◌, subst, inl, inr, ◌⊎◌, append-nil, append_assoc}
use Rattle.lalrpop_grammar_language.specs.Among.{Among}
use Rattle.lalrpop_grammar_language.proofs.StepLemmas.{among_left, among_right}
use Rattle.lalrpop_grammar_language.proofs.OrderLemmas.{among_parts}
use Rattle.lalrpop_norm_theory.specs.FirstUse.{AreInOrderOfUse, AreUsesOf, FollowByUse, IsFirstNew, IsUsedNext, UseNoOther}

-- what one thing uses is one list
abbrev pub UsesAreOne : {A : Type 0} → (A → List A → Type 0) → Type 0
UsesAreOne {A} uses = (y : A) (us vs : List A) → uses y us → uses y vs → us ≡ vs

-- so is what several use
pub uses_one : {A : Type 0} (uses : A → List A → Type 0) → UsesAreOne uses → (ys us vs : List A) → AreUsesOf uses ys us
    → AreUsesOf uses ys vs → us ≡ vs
uses_one uses one [] us vs e f = e ∙ sym f
uses_one uses one (y ∷ ys) us vs (m, r, e, u, w) (n, s, f, v, z) =
    e ∙ ap (λ l. l ++ r) (one y m n u v) ∙ ap (λ l. n ++ l) (uses_one uses one ys r s w z) ∙ sym f

-- two parts of one list at which something new stands are the same
first_parts : {A : Type 0} (known b c d e : List A) (x y : A) → b ++ x ∷ c ≡ d ++ y ∷ e
    → ((z : A) → Among b z → Among known z) → (Among known x → ⊥) → ((z : A) → Among d z → Among known z)
    → (Among known y → ⊥) → x ≡ y
first_parts known [] c [] e x y s p n q m = let g : x ∷ c ≡ y ∷ e = s in let same : x ≡ y = cc in same
first_parts known [] c (w ∷ d) e x y s p n q m =
    let g : x ∷ c ≡ w ∷ (d ++ y ∷ e) = s in let same : w ≡ x = cc in absurd (n (q x (inl same)))
first_parts known (w ∷ b) c [] e x y s p n q m =
    let g : w ∷ (b ++ x ∷ c) ≡ y ∷ e = s in let same : w ≡ y = cc in absurd (m (p y (inl same)))
first_parts known (w ∷ b) c (v ∷ d) e x y s p n q m =
    let g : w ∷ (b ++ x ∷ c) ≡ v ∷ (d ++ y ∷ e) = s in
    let rest : b ++ x ∷ c ≡ d ++ y ∷ e = cc in
    first_parts known b c d e x y rest (λ z i. p z (inr i)) n (λ z i. q z (inr i)) m

-- the first that isn't known is one
pub first_one : {A : Type 0} (known us : List A) (x y : A) → IsFirstNew known us x → IsFirstNew known us y → x ≡ y
first_one known us x y v w =
    first_parts known v.before v.after w.before w.after x y (sym v.parts ∙ w.parts) v.passed v.new w.passed w.new

-- what is used next is one
next_one : {A : Type 0} (uses : A → List A → Type 0) → UsesAreOne uses → (known : List A) (x y : A) → IsUsedNext uses known x
    → IsUsedNext uses known y → x ≡ y
next_one uses one known x y (us, u, v) (ws, w, z) =
    first_one known us x y v (subst (λ l. IsFirstNew known l y) (uses_one uses one known ws us w u) z)

-- what is new among what these use isn't theirs alone
none_next : {A : Type 0} (uses : A → List A → Type 0) → UsesAreOne uses → (known : List A) (x : A) → IsUsedNext uses known x
    → UseNoOther uses (known ++ []) → ⊥
none_next {A} uses one known x (us, u, v) w =
    let alone : UseNoOther uses known = subst (UseNoOther uses) (append-nil known) w in
    let same : us ≡ alone.0 = uses_one uses one known us alone.0 u alone.1 in
    let there : Among us x = subst (λ l. Among l x) (sym v.parts) (among_right v.before (x ∷ v.after) x (inl refl)) in
    v.new (alone.2 x (subst (λ l. Among l x) same there))

-- the things in order of first use are one list
follow_one : {A : Type 0} (uses : A → List A → Type 0) → UsesAreOne uses → (known xs ys : List A) → FollowByUse uses known xs
    → UseNoOther uses (known ++ xs) → FollowByUse uses known ys → UseNoOther uses (known ++ ys) → xs ≡ ys
follow_one uses one known [] [] f a g b = refl
follow_one uses one known [] (y ∷ ys) f a g b = absurd (none_next uses one known y g.0 a)
follow_one uses one known (x ∷ xs) [] f a g b = absurd (none_next uses one known x f.0 b)
follow_one uses one known (x ∷ xs) (y ∷ ys) f a g b =
    let same : x ≡ y = next_one uses one known x y f.0 g.0 in
    ap (λ z. z ∷ xs) same
    ∙ ap (λ l. y ∷ l) (follow_one uses one (known ++ y ∷ []) xs ys
    (subst (λ z. FollowByUse uses (known ++ z ∷ []) xs) same f.1)
    (subst (UseNoOther uses) (sym (append_assoc known (y ∷ []) xs)) (subst (λ z. UseNoOther uses (known ++ z ∷ xs)) same a))
    g.1 (subst (UseNoOther uses) (sym (append_assoc known (y ∷ []) ys)) b))

pub order_one : {A : Type 0} (uses : A → List A → Type 0) → UsesAreOne uses → (firsts others more : List A)
    → AreInOrderOfUse uses firsts others → AreInOrderOfUse uses firsts more → others ≡ more
order_one uses one firsts others more v w =
    follow_one uses one firsts others more v.follow v.no_more w.follow w.no_more

-- one of several that uses the thing
pub record IsUser {A : Type 0} (uses : A → List A → Type 0) (ys : List A) (x : A) : Type 0 where
  pub user : A
  pub among : Among ys user
  pub list : List A
  pub uses_list : uses user list
  pub used : Among list x

-- what several use one of them does
pub user_of : {A : Type 0} (uses : A → List A → Type 0) (ys us : List A) (x : A) → AreUsesOf uses ys us → Among us x
    → IsUser uses ys x
user_of uses [] us x e i = absurd (subst (λ l. Among l x) e i)
user_of {A} uses (y ∷ ys) us x (m, r, e, u, w) i =
    go (among_parts m r x (subst (λ l. Among l x) e i)) (λ j. user_of uses ys r x w j)
  where
    go : Among m x ⊎ Among r x → (Among r x → IsUser uses ys x) → IsUser uses (y ∷ ys) x
    go (inl j) later = record { user = y; among = inl refl; list = m; uses_list = u; used = j }
    go (inr j) later =
        let w = later j in
        record { user = w.user; among = inr w.among; list = w.list; uses_list = w.uses_list; used = w.used }

-- and what one of them uses they do
pub used_by_all : {A : Type 0} (uses : A → List A → Type 0) → UsesAreOne uses → (ys us : List A) → AreUsesOf uses ys us
    → (y : A) (vs : List A) → Among ys y → uses y vs → (x : A) → Among vs x → Among us x
used_by_all uses one [] us e y vs i v x j = absurd i
used_by_all uses one (z ∷ ys) us (m, r, e, u, w) y vs (inl f) v x j =
    let same : vs ≡ m = one y vs m v (subst (λ a. uses a m) f u) in
    subst (λ l. Among l x) (sym e) (among_left m r x (subst (λ l. Among l x) same j))
used_by_all uses one (z ∷ ys) us (m, r, e, u, w) y vs (inr i) v x j =
    subst (λ l. Among l x) (sym e) (among_right m r x (used_by_all uses one ys r w y vs i v x j))

-- each of those that follow is used
pub used_behind : {A : Type 0} (uses : A → List A → Type 0) (known xs : List A) → FollowByUse uses known xs → (x : A)
    → Among xs x → IsUser uses (known ++ xs) x
used_behind uses known [] f x i = absurd i
used_behind {A} uses known (y ∷ xs) ((us, u, v), f) x (inl e) =
    let there : Among us y = subst (λ l. Among l y) (sym v.parts) (among_right v.before (y ∷ v.after) y (inl refl)) in
    let w = user_of uses known us x u (subst (Among us) e there) in
    record {
      user = w.user;
      among = among_left known (y ∷ xs) w.user w.among;
      list = w.list;
      uses_list = w.uses_list;
      used = w.used;
    }
used_behind uses known (y ∷ xs) (n, f) x (inr i) =
    subst (λ l. IsUser uses l x) (append_assoc known (y ∷ []) xs) (used_behind uses (known ++ y ∷ []) xs f x i)

-- and none of them is known
pub new_behind : {A : Type 0} (uses : A → List A → Type 0) (known xs : List A) → FollowByUse uses known xs → (x : A) → Among xs x
    → Among known x → ⊥
new_behind uses known [] f x i j = i
new_behind uses known (y ∷ xs) ((us, u, v), f) x (inl e) j = v.new (subst (Among known) (sym e) j)
new_behind uses known (y ∷ xs) (n, f) x (inr i) j =
    new_behind uses (known ++ y ∷ []) xs f x i (among_left known (y ∷ []) x j)
