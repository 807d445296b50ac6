-- Things in order of first use: each uses others, and behind the first ones each stands where it is used first, as a walk in breadth
-- meets them.
use Rattle.std.specs.Prelude.{◌≡◌, List, [], ◌∷◌, ◌++◌}
use Rattle.lalrpop_grammar_language.specs.Among.{Among}

-- what these use, one after another
abbrev pub AreUsesOf : {A : Type 0} → (A → List A → Type 0) → List A → List A → Type 0
AreUsesOf uses [] us = us ≡ []
AreUsesOf {A} uses (y ∷ ys) us =
    (mine : List A) × (rest : List A) × (us ≡ mine ++ rest) × uses y mine × AreUsesOf uses ys rest

-- The thing is the first of the uses that isn't known.
pub record IsFirstNew {A : Type 0} (known us : List A) (x : A) : Type 0 where
  pub before : List A
  pub after : List A
  pub parts : us ≡ before ++ x ∷ after
  pub passed : (z : A) → Among before z → Among known z
  pub new : Among known x → ⊥

-- the first thing that the known ones use, and that is none of them
abbrev pub IsUsedNext : {A : Type 0} → (A → List A → Type 0) → List A → A → Type 0
IsUsedNext {A} uses known x = (us : List A) × AreUsesOf uses known us × IsFirstNew known us x

-- behind the known ones stands, again and again, the first thing that all before it use, and that is none of them
abbrev pub FollowByUse : {A : Type 0} → (A → List A → Type 0) → List A → List A → Type 0
FollowByUse uses known [] = Unit {0}
FollowByUse {A} uses known (x ∷ xs) =
    ((us : List A) × AreUsesOf uses known us × IsFirstNew known us x) × FollowByUse uses (known ++ x ∷ []) xs

-- these use nothing but themselves
abbrev pub UseNoOther : {A : Type 0} → (A → List A → Type 0) → List A → Type 0
UseNoOther {A} uses xs = (us : List A) × AreUsesOf uses xs us × ((z : A) → Among us z → Among xs z)

-- Behind the first ones stand the others, each where it is used first, and no more are used.
pub record AreInOrderOfUse {A : Type 0} (uses : A → List A → Type 0) (firsts others : List A) : Type 0 where
  pub follow : FollowByUse uses firsts others
  pub no_more : (us : List A) × AreUsesOf uses (firsts ++ others) us × ((z : A) → Among us z → Among (firsts ++ others) z)
