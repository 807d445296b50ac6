-- Keys that are added in the order in which those before them use them; for the search.
use Rattle.std.proofs.Common.{◌≡◌, List, [], ◌∷◌, ◌++◌, refl, ap, sym, ◌∙◌, subst, inl, inr, ◌⊎◌, append-nil, append_assoc}
use Rattle.std.specs.Prelude.{flat_map}
use Rattle.std.proofs.lemmas.Grind.{flat_map-append}
use Rattle.lalrpop_grammar_symbols.specs.Symbols.{Closed}
use Rattle.lalrpop_grammar_language.specs.Among.{Among}
use Rattle.lalrpop_grammar_language.proofs.StepLemmas.{among_left, among_right}
use Rattle.lalrpop_grammar_language.proofs.OrderLemmas.{among_parts}
use Rattle.lalrpop_norm_theory.specs.FirstUse.{AreInOrderOfUse, AreUsesOf, FollowByUse, IsFirstNew}
use Rattle.lalrpop_norm_keys.specs.Tables.{AddsKeys}

-- keys that follow, where each uses one list

abbrev pub FollowBy : (Closed → List Closed) → List Closed → List Closed → Type 0
FollowBy uses known [] = Unit {0}
FollowBy uses known (x ∷ xs) = IsFirstNew known (flat_map uses known) x × FollowBy uses (known ++ x ∷ []) xs

-- one more follows
follow-snoc : (uses : Closed → List Closed) (known xs : List Closed) (x : Closed) → FollowBy uses known xs
    → IsFirstNew (known ++ xs) (flat_map uses (known ++ xs)) x → FollowBy uses known (xs ++ x ∷ [])
follow-snoc uses known [] x f n = (subst (λ l. IsFirstNew l (flat_map uses l) x) (append-nil known) n, tt)
follow-snoc uses known (y ∷ xs) x f n = (
  f.0,
  follow-snoc uses (known ++ y ∷ []) xs x f.1
      (subst (λ l. IsFirstNew l (flat_map uses l) x) (sym (append_assoc known (y ∷ []) xs)) n),
)

-- what several use, and one more
uses-snoc : (uses : Closed → List Closed) (ys : List Closed) (y : Closed)
    → flat_map uses (ys ++ y ∷ []) ≡ flat_map uses ys ++ uses y
uses-snoc uses ys y = flat_map-append uses ys (y ∷ []) ∙ ap (λ l. flat_map uses ys ++ l) (append-nil (uses y))

-- What adding keys leaves that stand among what the known ones use: behind those that were known follow the new ones.
pub record HasFollowers (uses : Closed → List Closed) (firsts found known xs all : List Closed) : Type 0 where
  pub more : List Closed
  pub all_is : all ≡ known ++ more
  pub follow : FollowBy uses firsts (found ++ more)
  pub there : (z : Closed) → Among xs z → Among all z
  pub of_added : (z : Closed) → Among more z → Among xs z
  pub new : (z : Closed) → Among more z → Among known z → ⊥

pub follows : (uses : Closed → List Closed) (firsts found known passed xs rest all : List Closed) → known ≡ firsts ++ found
    → FollowBy uses firsts found → flat_map uses known ≡ passed ++ (xs ++ rest)
    → ((z : Closed) → Among passed z → Among known z) → AddsKeys known xs all → HasFollowers uses firsts found known xs all
follows uses firsts found known passed [] rest all k f u p e = record {
  more = [];
  all_is = e ∙ sym (append-nil known);
  follow = subst (FollowBy uses firsts) (sym (append-nil found)) f;
  there = λ z i. absurd i;
  of_added = λ z i. absurd i;
  new = λ z i j. i;
}
follows uses firsts found known passed (x ∷ xs) rest all k f u p (next, inl (i, e), w) =
    let v = follows uses firsts found next (passed ++ x ∷ []) xs rest all (e ∙ k) f
    (ap (flat_map uses) e ∙ u ∙ sym (append_assoc passed (x ∷ []) (xs ++ rest)))
    (λ z j. subst (λ l. Among l z) (sym e) (one z (among_parts passed (x ∷ []) z j))) w in
    let whole : all ≡ known ++ v.more = v.all_is ∙ ap (λ l. l ++ v.more) e in
    record {
      more = v.more;
      all_is = whole;
      follow = v.follow;
      there = λ z j. there z j v whole;
      of_added = λ z j. inr (v.of_added z j);
      new = λ z j h. v.new z j (subst (λ l. Among l z) (sym e) h);
    }
  where
    one : (z : Closed) → Among passed z ⊎ Among (x ∷ []) z → Among known z
    one z (inl j) = p z j
    one z (inr (inl d)) = subst (Among known) d i
    one z (inr (inr j)) = absurd j

    there : (z : Closed) → Among (x ∷ xs) z → (v : HasFollowers uses firsts found next xs all) → all ≡ known ++ v.more
        → Among all z
    there z (inl d) v whole =
        subst (λ l. Among l z) (sym whole) (among_left known v.more z (subst (Among known) d i))
    there z (inr j) v whole = v.there z j
follows uses firsts found known passed (x ∷ xs) rest all k f u p (next, inr (n, e), w) =
    let first : IsFirstNew known (flat_map uses known) x =
    record { before = passed; after = xs ++ rest; parts = u; passed = p; new = n } in
    let later : FollowBy uses firsts (found ++ x ∷ []) =
    follow-snoc uses firsts found x f (subst (λ l. IsFirstNew l (flat_map uses l) x) k first) in
    let used : flat_map uses next ≡ (passed ++ x ∷ []) ++ (xs ++ (rest ++ uses x)) =
    ap (flat_map uses) e ∙ uses-snoc uses known x ∙ ap (λ l. l ++ uses x) u
    ∙ append_assoc passed (x ∷ (xs ++ rest)) (uses x)
    ∙ ap (λ l. passed ++ x ∷ l) (append_assoc xs rest (uses x))
    ∙ sym (append_assoc passed (x ∷ []) (xs ++ (rest ++ uses x))) in
    let v = follows uses firsts (found ++ x ∷ []) next (passed ++ x ∷ []) xs (rest ++ uses x) all
    (e ∙ ap (λ l. l ++ x ∷ []) k ∙ append_assoc firsts found (x ∷ [])) later used
    (λ z j. subst (λ l. Among l z) (sym e) (one z (among_parts passed (x ∷ []) z j))) w in
    record {
      more = x ∷ v.more;
      all_is = v.all_is ∙ ap (λ l. l ++ v.more) e ∙ append_assoc known (x ∷ []) v.more;
      follow = subst (FollowBy uses firsts) (append_assoc found (x ∷ []) v.more) v.follow;
      there = λ z j. there z j v;
      of_added = λ z j. of_added z v j;
      new = λ z j h. fresh z v j h;
    }
  where
    one : (z : Closed) → Among passed z ⊎ Among (x ∷ []) z → Among (known ++ x ∷ []) z
    one z (inl j) = among_left known (x ∷ []) z (p z j)
    one z (inr j) = among_right known (x ∷ []) z j

    there : (z : Closed) → Among (x ∷ xs) z → HasFollowers uses firsts (found ++ x ∷ []) next xs all → Among all z
    there z (inl d) v =
        subst (λ l. Among l z) (sym v.all_is) (among_left next v.more z
        (subst (λ l. Among l z) (sym e) (among_right known (x ∷ []) z (inl d))))
    there z (inr j) v = v.there z j

    of_added : (z : Closed) (v : HasFollowers uses firsts (found ++ x ∷ []) next xs all) → Among (x ∷ v.more) z
        → Among (x ∷ xs) z
    of_added z v (inl d) = inl d
    of_added z v (inr j) = inr (v.of_added z j)

    fresh : (z : Closed) (v : HasFollowers uses firsts (found ++ x ∷ []) next xs all) → Among (x ∷ v.more) z → Among known z → ⊥
    fresh z v (inl d) h = n (subst (Among known) (sym d) h)
    fresh z v (inr j) h = v.new z j (subst (λ l. Among l z) (sym e) (among_left known (x ∷ []) z h))

-- a walk in breadth

-- The keys ys were walked over, and zs are known beside them. What ys use is known, and all behind the first ones follow.
pub record IsWalk (uses : Closed → List Closed) (firsts ys zs : List Closed) : Type 0 where
  pub found : List Closed
  pub all_is : ys ++ zs ≡ firsts ++ found
  pub follow : FollowBy uses firsts found
  pub known : (z : Closed) → Among (flat_map uses ys) z → Among (ys ++ zs) z

-- What walking over some more gives: what they use is known, too.
pub record HasWalked (uses : Closed → List Closed) (firsts ys ms zs all : List Closed) : Type 0 where
  pub more : List Closed
  pub all_is : all ≡ (ys ++ (ms ++ zs)) ++ more
  pub walk : IsWalk uses firsts (ys ++ ms) (zs ++ more)
  pub of_used : (z : Closed) → Among more z → Among (flat_map uses ms) z
  pub new : (z : Closed) → Among more z → Among (ys ++ (ms ++ zs)) z → ⊥

-- four lists in a row
in_row : (a b c d : List Closed) → (a ++ (b ++ c)) ++ d ≡ (a ++ b) ++ (c ++ d)
in_row a b c d =
    ap (λ l. l ++ d) (sym (append_assoc a b c)) ∙ append_assoc (a ++ b) c d

pub walked : (uses : Closed → List Closed) (firsts ys ms zs all : List Closed) → IsWalk uses firsts ys (ms ++ zs)
    → AddsKeys (ys ++ (ms ++ zs)) (flat_map uses ms) all → HasWalked uses firsts ys ms zs all
walked uses firsts ys ms zs all w a =
    let used : flat_map uses (ys ++ (ms ++ zs)) ≡ flat_map uses ys ++ (flat_map uses ms ++ flat_map uses zs) =
    flat_map-append uses ys (ms ++ zs) ∙ ap (λ l. flat_map uses ys ++ l) (flat_map-append uses ms zs) in
    let v = follows uses firsts w.found (ys ++ (ms ++ zs)) (flat_map uses ys) (flat_map uses ms) (flat_map uses zs) all w.all_is
    w.follow used w.known a in
    let whole : all ≡ (ys ++ ms) ++ (zs ++ v.more) = v.all_is ∙ in_row ys ms zs v.more in
    record {
      more = v.more;
      all_is = v.all_is;
      walk = record {
        found = w.found ++ v.more;
        all_is = sym whole ∙ v.all_is ∙ ap (λ l. l ++ v.more) w.all_is ∙ append_assoc firsts w.found v.more;
        follow = v.follow;
        known = λ z i. known z v whole (among_parts (flat_map uses ys) (flat_map uses ms) z
            (subst (λ l. Among l z) (flat_map-append uses ys ms) i));
      };
      of_used = v.of_added;
      new = v.new;
    }
  where
    known : (z : Closed) → (v : HasFollowers uses firsts w.found (ys ++ (ms ++ zs)) (flat_map uses ms) all)
        → all ≡ (ys ++ ms) ++ (zs ++ v.more) → Among (flat_map uses ys) z ⊎ Among (flat_map uses ms) z
        → Among ((ys ++ ms) ++ (zs ++ v.more)) z
    known z v whole (inl i) =
        subst (λ l. Among l z) (sym v.all_is ∙ whole) (among_left (ys ++ (ms ++ zs)) v.more z (w.known z i))
    known z v whole (inr i) = subst (λ l. Among l z) whole (v.there z i)

-- a walk begins with the first ones
pub walk_begins : (uses : Closed → List Closed) (firsts : List Closed) → IsWalk uses firsts [] firsts
walk_begins uses firsts =
    record { found = []; all_is = sym (append-nil firsts); follow = tt; known = λ z i. absurd i }

-- the same by a relation

module _ (Uses : Closed → List Closed → Type 0) (uses : Closed → List Closed) (is : (y : Closed) → Uses y (uses y)) where
  pub uses_of_all : (ys : List Closed) → AreUsesOf Uses ys (flat_map uses ys)
  uses_of_all [] = refl
  uses_of_all (y ∷ ys) = (uses y, flat_map uses ys, refl, is y, uses_of_all ys)

  follow_by : (known xs : List Closed) → FollowBy uses known xs → FollowByUse Uses known xs
  follow_by known [] f = tt
  follow_by known (x ∷ xs) f = ((flat_map uses known, uses_of_all known, f.0), follow_by (known ++ x ∷ []) xs f.1)

  -- where all were walked over, they are in order of first use
  pub walk_done : (firsts ys : List Closed) (w : IsWalk uses firsts ys []) → AreInOrderOfUse Uses firsts w.found
  walk_done firsts ys w =
      let whole : ys ≡ firsts ++ w.found = sym (append-nil ys) ∙ w.all_is in
      record {
        follow = follow_by firsts w.found w.follow;
        no_more = (
          flat_map uses (firsts ++ w.found),
          uses_of_all (firsts ++ w.found),
          λ z i. subst (λ l. Among l z) w.all_is (w.known z (subst (λ l. Among (flat_map uses l) z) (sym whole) i)),
        );
      }

  module _ (one : (y : Closed) (us vs : List Closed) → Uses y us → Uses y vs → us ≡ vs) where
    -- what several use is what the function says
    pub all_uses : (ys us : List Closed) → AreUsesOf Uses ys us → us ≡ flat_map uses ys
    all_uses [] us e = e
    all_uses (y ∷ ys) us (m, r, e, u, w) =
        e ∙ ap (λ l. l ++ r) (one y m (uses y) u (is y)) ∙ ap (λ l. uses y ++ l) (all_uses ys r w)

    by_follow : (known xs : List Closed) → FollowByUse Uses known xs → FollowBy uses known xs
    by_follow known [] f = tt
    by_follow known (x ∷ xs) ((us, u, v), f) =
        (subst (λ l. IsFirstNew known l x) (all_uses known us u) v, by_follow (known ++ x ∷ []) xs f)

    -- what is in order of first use follows, and uses no other
    pub follows_of_order : (firsts others : List Closed) → AreInOrderOfUse Uses firsts others
        → FollowBy uses firsts others × ((z : Closed) → Among (flat_map uses (firsts ++ others)) z → Among (firsts ++ others) z)
    follows_of_order firsts others w = (
      by_follow firsts others w.follow,
      λ z i. w.no_more.2 z (subst (λ l. Among l z) (sym (all_uses (firsts ++ others) w.no_more.0 w.no_more.1)) i),
    )
