-- Keys that are added call by call are in order of first use, where the calls are; for the search.
use Rattle.std.proofs.Common.{◌≡◌, List, [], ◌∷◌, ◌++◌, refl, ap, sym, ◌∙◌, subst, inl, inr, ◌⊎◌, append-nil, append_assoc}
use Rattle.std.specs.Prelude.{flat_map}
use Rattle.std.proofs.lemmas.Grind.{flat_map-append}
use Rattle.std.proofs.lemmas.List.{append_cancel_left}
use Rattle.lalrpop_grammar_symbols.specs.Symbols.{Closed, Closeds}
use Rattle.lalrpop_grammar_language.specs.Among.{Among}
use Rattle.lalrpop_grammar_language.proofs.AmongLemmas.{among_flat_map, flat_map_among}
use Rattle.lalrpop_grammar_language.proofs.StepLemmas.{among_left, among_right}
use Rattle.lalrpop_grammar_language.proofs.OrderLemmas.{among_parts}
use Rattle.lalrpop_norm_theory.specs.FirstUse.{IsFirstNew}
use Rattle.lalrpop_norm_theory.proofs.FirstUseLemmas.{first_one}
use Rattle.lalrpop_norm_keys.specs.Tables.{AddsKey, AddsKeys}
use Rattle.lalrpop_norm_keys.specs.UseSearch.{macro_call, macro_calls}
use Rattle.lalrpop_norm_keys.proofs.TableLemmas.{adds_extend}
use Rattle.lalrpop_norm_keys.proofs.UseFrontLemmas.{FollowBy, HasWalked, IsWalk, walk_begins, walked}

-- lists of added keys

pub adds-append : (known xs mid ys all : List Closed) → AddsKeys known xs mid → AddsKeys mid ys all → AddsKeys known (xs ++ ys) all
adds-append known [] mid ys all e w = subst (λ l. AddsKeys l ys all) e w
adds-append known (x ∷ xs) mid ys all (next, a, v) w = (next, a, adds-append next xs mid ys all v w)

pub adds-split : (known xs ys all : List Closed) → AddsKeys known (xs ++ ys) all
    → (mid : List Closed) × AddsKeys known xs mid × AddsKeys mid ys all
adds-split known [] ys all w = (known, refl, w)
adds-split known (x ∷ xs) ys all (next, a, w) =
    let v = adds-split next xs ys all w in (v.0, (next, a, v.1), v.2)

-- what is known stays known
pub adds-keep : (known xs all : List Closed) → AddsKeys known xs all → (z : Closed) → Among known z → Among all z
adds-keep known xs all w z i =
    let v = adds_extend known xs all w in subst (λ l. Among l z) (sym v.all_is) (among_left known v.found z i)

-- a known key adds nothing
pub adds-known : (known : List Closed) (x : Closed) (next : List Closed) → Among known x → AddsKey known x next → next ≡ known
adds-known known x next i (inl (j, e)) = e
adds-known known x next i (inr (n, e)) = absurd (n i)

-- calls among keys

-- the call with arguments is the key itself
pub macro_call_is : (w z : Closed) → Among (macro_call w) z → (w ≡ z) × (macro_call z ≡ z ∷ [])
macro_call_is (Closed.call n Closeds.none level) z i = absurd i
macro_call_is (Closed.call n (Closeds.more x xs) level) z (inl e) =
    (e, subst (λ v. macro_call v ≡ v ∷ []) e refl)
macro_call_is (Closed.call n (Closeds.more x xs) level) z (inr i) = absurd i
macro_call_is (Closed.terminal t) z i = absurd i
macro_call_is (Closed.repeat op x) z i = absurd i
macro_call_is (Closed.group xs) z i = absurd i
macro_call_is (Closed.choose x) z i = absurd i
macro_call_is (Closed.name m n x) z i = absurd i
macro_call_is Closed.lookahead z i = absurd i
macro_call_is Closed.lookbehind z i = absurd i
macro_call_is Closed.faulty z i = absurd i

pub macro_among : (xs : List Closed) (z : Closed) → Among (macro_calls xs) z → Among xs z × (macro_call z ≡ z ∷ [])
macro_among xs z i =
    let w = among_flat_map macro_call xs z i in
    let v = macro_call_is w.0 z w.2 in (subst (Among xs) v.0 w.1, v.1)

among_macro : (xs : List Closed) (z : Closed) → Among xs z → macro_call z ≡ z ∷ [] → Among (macro_calls xs) z
among_macro xs z i e = flat_map_among macro_call xs z z i (subst (λ l. Among l z) (sym e) (inl refl))

calls-append : (xs ys : List Closed) → macro_calls (xs ++ ys) ≡ macro_calls xs ++ macro_calls ys
calls-append xs ys = flat_map-append macro_call xs ys

-- the calls of what several use
calls_of_uses : (uses : Closed → List Closed) (ys : List Closed)
    → flat_map (λ y. macro_calls (uses y)) ys ≡ macro_calls (flat_map uses ys)
calls_of_uses uses [] = refl
calls_of_uses uses (y ∷ ys) =
    ap (λ l. macro_calls (uses y) ++ l) (calls_of_uses uses ys) ∙ sym (calls-append (uses y) (flat_map uses ys))

-- the one that stands behind a front of those that follow
follow-at : (uses : Closed → List Closed) (known xs ys : List Closed) (x : Closed) → FollowBy uses known (xs ++ x ∷ ys)
    → IsFirstNew (known ++ xs) (flat_map uses (known ++ xs)) x
follow-at uses known [] ys x f = subst (λ l. IsFirstNew l (flat_map uses l) x) (sym (append-nil known)) f.0
follow-at uses known (z ∷ xs) ys x f =
    subst (λ l. IsFirstNew l (flat_map uses l) x) (append_assoc known (z ∷ []) xs)
    (follow-at uses (known ++ z ∷ []) xs ys x f.1)

-- what follows is a front of what follows to the end
pub follow_front : (uses : Closed → List Closed) (known xs ys : List Closed) → FollowBy uses known xs → FollowBy uses known ys
    → ((z : Closed) → Among (flat_map uses (known ++ ys)) z → Among (known ++ ys) z) → (rest : List Closed) × (ys ≡ xs ++ rest)
follow_front uses known [] ys f h c = (ys, refl)
follow_front uses known (x ∷ xs) [] f h c =
    let n = f.0 in
    let there : Among (flat_map uses known) x = subst (λ l. Among l x) (sym n.parts) (among_right n.before (x ∷ n.after) x (inl refl)) in
    absurd (n.new (subst (λ l. Among l x) (append-nil known)
    (c x (subst (λ l. Among (flat_map uses l) x) (sym (append-nil known)) there))))
follow_front uses known (x ∷ xs) (y ∷ ys) f h c =
    let same : x ≡ y = first_one known (flat_map uses known) x y f.0 h.0 in
    let w = follow_front uses (known ++ x ∷ []) xs ys f.1 (subst (λ z. FollowBy uses (known ++ z ∷ []) ys) (sym same) h.1)
    (λ z i. subst (λ l. Among l z) (sym (step same))
    (c z (subst (λ l. Among (flat_map uses l) z) (step same) i))) in
    (w.0, ap (λ l. y ∷ l) w.1 ∙ ap (λ z. z ∷ (xs ++ w.0)) (sym same))
  where
    step : x ≡ y → (known ++ x ∷ []) ++ ys ≡ known ++ y ∷ ys
    step e = append_assoc known (x ∷ []) ys ∙ ap (λ z. known ++ z ∷ ys) e

-- keys that use nothing may be passed by in a walk
walk_past : (uses : Closed → List Closed) (firsts ys ss zs : List Closed) → IsWalk uses firsts ys (ss ++ zs)
    → flat_map uses ss ≡ [] → IsWalk uses firsts (ys ++ ss) zs
walk_past uses firsts ys ss zs w none = record {
  found = w.found;
  all_is = append_assoc ys ss zs ∙ w.all_is;
  follow = w.follow;
  known = λ z i. subst (λ l. Among l z) (sym (append_assoc ys ss zs)) (w.known z (subst (λ l. Among l z) same i));
}
  where
    same : flat_map uses (ys ++ ss) ≡ flat_map uses ys
    same = flat_map-append uses ys ss ∙ ap (λ l. flat_map uses ys ++ l) none ∙ append-nil (flat_map uses ys)

-- the key itself, and then what it uses
abbrev pub with_itself : (Closed → List Closed) → Closed → List Closed
with_itself uses y = y ∷ uses y

-- known keys add what they use alone
pub adds_uses : (uses : Closed → List Closed) (ys known all : List Closed) → ((y : Closed) → Among ys y → Among known y)
    → AddsKeys known (flat_map (with_itself uses) ys) all → AddsKeys known (flat_map uses ys) all
adds_uses uses [] known all there w = w
adds_uses uses (y ∷ ys) known all there (next, a, w) =
    let same : next ≡ known = adds-known known y next (there y (inl refl)) a in
    let v = adds-split next (uses y) (flat_map (with_itself uses) ys) all w in
    let first : AddsKeys known (uses y) v.0 = subst (λ l. AddsKeys l (uses y) v.0) same v.1 in
    adds-append known (uses y) v.0 (flat_map uses ys) all first
    (adds_uses uses ys v.0 all (λ z i. adds-keep known (uses y) v.0 first z (there z (inr i))) v.2)

-- A key that is no call with arguments and uses nothing, or one that is such a call.
abbrev pub IsKind : (Closed → List Closed) → Closed → Type 0
IsKind uses z = ((macro_call z ≡ []) × (uses z ≡ [])) ⊎ (macro_call z ≡ z ∷ [])

abbrev pub AreKinds : (Closed → List Closed) → List Closed → Type 0
AreKinds uses xs = (z : Closed) → Among xs z → IsKind uses z

-- such keys use what the calls among them do
kinds_use : (uses : Closed → List Closed) (xs : List Closed) → AreKinds uses xs → flat_map uses xs ≡ flat_map uses (macro_calls xs)
kinds_use uses [] k = refl
kinds_use uses (x ∷ xs) k = go (k x (inl refl)) (kinds_use uses xs (λ z i. k z (inr i)))
  where
    go : IsKind uses x → flat_map uses xs ≡ flat_map uses (macro_calls xs)
        → uses x ++ flat_map uses xs ≡ flat_map uses (macro_call x ++ macro_calls xs)
    go (inl (e, u)) h =
        ap (λ l. l ++ flat_map uses xs) u ∙ h ∙ ap (λ l. flat_map uses (l ++ macro_calls xs)) (sym e)
    go (inr e) h =
        ap (λ l. uses x ++ l) h ∙ ap (λ l. flat_map uses (l ++ macro_calls xs)) (sym e)

-- the first call among such keys
record IsFirstCall (xs rest : List Closed) (c : Closed) : Type 0 where
  before : List Closed
  after : List Closed
  parts : xs ≡ before ++ c ∷ after
  no_call : macro_calls before ≡ []
  rest_is : macro_calls after ≡ rest

first_call : (uses : Closed → List Closed) (xs rest : List Closed) (c : Closed) → AreKinds uses xs → macro_calls xs ≡ c ∷ rest
    → IsFirstCall xs rest c
first_call uses [] rest c k e = cc
first_call uses (x ∷ xs) rest c k e = go (k x (inl refl)) (λ h. first_call uses xs rest c (λ z i. k z (inr i)) h)
  where
    go : IsKind uses x → (macro_calls xs ≡ c ∷ rest → IsFirstCall xs rest c) → IsFirstCall (x ∷ xs) rest c
    go (inl (none, u)) later =
        let w = later (sym (ap (λ l. l ++ macro_calls xs) none) ∙ e) in
        record {
          before = x ∷ w.before;
          after = w.after;
          parts = ap (λ l. x ∷ l) w.parts;
          no_call = ap (λ l. l ++ macro_calls w.before) none ∙ w.no_call;
          rest_is = w.rest_is;
        }
    go (inr itself) later =
        let both : x ∷ macro_calls xs ≡ c ∷ rest = sym (ap (λ l. l ++ macro_calls xs) itself) ∙ e in
        let same : x ≡ c = cc in
        let others : macro_calls xs ≡ rest = cc in
        record { before = []; after = xs; parts = ap (λ z. z ∷ xs) same; no_call = refl; rest_is = others }

-- the keys of a walk: those that were walked over behind the first ones, among them these calls, and those beside them
record IsKeyWalk (uses : Closed → List Closed) (firsts done a zs : List Closed) : Type 0 where
  walk : IsWalk uses firsts (firsts ++ a) zs
  of_kinds : AreKinds uses (a ++ zs)
  calls_are : macro_calls a ≡ done

-- Keys and calls of a grammar: of what the first ones and the calls use each is a first one or of one of the two kinds.
module _ (uses : Closed → List Closed) (firsts calls : List Closed)
    (plain : (z : Closed) → Among firsts z → macro_call z ≡ [])
    (kinds : (y z : Closed) → Among (firsts ++ calls) y → Among (uses y) z → Among firsts z ⊎ IsKind uses z) where
  abbrev calls_used : Closed → List Closed
  calls_used y = macro_calls (uses y)

  -- what the calls among keys use, as calls
  calls_alike : (a : List Closed) → AreKinds uses a
      → flat_map calls_used (firsts ++ macro_calls a) ≡ macro_calls (flat_map uses (firsts ++ a))
  calls_alike a k =
      calls_of_uses uses (firsts ++ macro_calls a)
      ∙ ap macro_calls (flat_map-append uses firsts (macro_calls a)
      ∙ ap (λ l. flat_map uses firsts ++ l) (sym (kinds_use uses a k)) ∙ sym (flat_map-append uses firsts a))

  -- one key behind others, by its kind
  calls-snoc : (a : List Closed) (x : Closed) → macro_calls (a ++ x ∷ []) ≡ macro_calls a ++ macro_call x
  calls-snoc a x = calls-append a (x ∷ []) ∙ ap (λ l. macro_calls a ++ l) (append-nil (macro_call x))

  kinds-snoc : (a : List Closed) (x : Closed) → AreKinds uses a → IsKind uses x → AreKinds uses (a ++ x ∷ [])
  kinds-snoc a x k h z i = go (among_parts a (x ∷ []) z i)
    where
      go : Among a z ⊎ Among (x ∷ []) z → IsKind uses z
      go (inl j) = k z j
      go (inr (inl e)) = subst (IsKind uses) e h
      go (inr (inr j)) = absurd j

  -- a call that is used next among keys is used next among calls
  next_call : (a : List Closed) (x : Closed) → AreKinds uses a → macro_call x ≡ x ∷ []
      → IsFirstNew (firsts ++ a) (flat_map uses (firsts ++ a)) x
      → IsFirstNew (firsts ++ macro_calls a) (flat_map calls_used (firsts ++ macro_calls a)) x
  next_call a x k e n = record {
    before = macro_calls n.before;
    after = macro_calls n.after;
    parts = calls_alike a k ∙ ap macro_calls n.parts ∙ calls-append n.before (x ∷ n.after)
        ∙ ap (λ l. macro_calls n.before ++ (l ++ macro_calls n.after)) e;
    passed = λ z i. let w = macro_among n.before z i in passed z w.1 (among_parts firsts a z (n.passed z w.0));
    new = λ i. n.new (new (among_parts firsts (macro_calls a) x i));
  }
    where
      passed : (z : Closed) → macro_call z ≡ z ∷ [] → Among firsts z ⊎ Among a z → Among (firsts ++ macro_calls a) z
      passed z h (inl j) = among_left firsts (macro_calls a) z j
      passed z h (inr j) = among_right firsts (macro_calls a) z (among_macro a z j h)

      new : Among firsts x ⊎ Among (macro_calls a) x → Among (firsts ++ a) x
      new (inl j) = among_left firsts a x j
      new (inr j) = among_right firsts a x (macro_among a x j).0

  -- where keys follow, the calls among them do
  calls_follow : (a xs : List Closed) → AreKinds uses a → AreKinds uses xs → FollowBy uses (firsts ++ a) xs
      → FollowBy calls_used (firsts ++ macro_calls a) (macro_calls xs)
  calls_follow a [] k h f = tt
  calls_follow a (x ∷ xs) k h f =
      go (h x (inl refl)) (λ i. calls_follow (a ++ x ∷ []) xs (kinds-snoc a x k i) (λ z j. h z (inr j))
      (subst (λ l. FollowBy uses l xs) (append_assoc firsts a (x ∷ [])) f.1))
    where
      go : IsKind uses x
          → (IsKind uses x → FollowBy calls_used (firsts ++ macro_calls (a ++ x ∷ [])) (macro_calls xs))
          → FollowBy calls_used (firsts ++ macro_calls a) (macro_call x ++ macro_calls xs)
      go (inl (e, u)) later =
          subst (λ l. FollowBy calls_used (firsts ++ macro_calls a) (l ++ macro_calls xs)) (sym e)
          (subst (λ l. FollowBy calls_used (firsts ++ l) (macro_calls xs))
          (calls-snoc a x ∙ ap (λ l. macro_calls a ++ l) e ∙ append-nil (macro_calls a)) (later (inl (e, u))))
      go (inr e) later =
          subst (λ l. FollowBy calls_used (firsts ++ macro_calls a) (l ++ macro_calls xs)) (sym e) (
            next_call a x k e f.0,
            subst (λ l. FollowBy calls_used l (macro_calls xs))
                (ap (λ l. firsts ++ l) (calls-snoc a x ∙ ap (λ l. macro_calls a ++ l) e)
                ∙ sym (append_assoc firsts (macro_calls a) (x ∷ []))) (later (inr e)),
          )

  module _ (in_order : FollowBy calls_used firsts calls)
      (closed : (z : Closed) → Among (flat_map calls_used (firsts ++ calls)) z → Among (firsts ++ calls) z) where
    -- the calls among them are a front of all calls
    calls_front : (done a zs todo : List Closed) → calls ≡ done ++ todo → IsKeyWalk uses firsts done a zs
        → (rest : List Closed) × (todo ≡ macro_calls zs ++ rest)
    calls_front done a zs todo e w =
        let all : w.walk.found ≡ a ++ zs =
        append_cancel_left firsts w.walk.found (a ++ zs) (sym w.walk.all_is ∙ append_assoc firsts a zs) in
        let follow : FollowBy uses (firsts ++ []) (a ++ zs) =
        subst (λ l. FollowBy uses l (a ++ zs)) (sym (append-nil firsts))
        (subst (FollowBy uses firsts) all w.walk.follow) in
        let front : FollowBy calls_used firsts (macro_calls (a ++ zs)) =
        subst (λ l. FollowBy calls_used l (macro_calls (a ++ zs))) (append-nil firsts)
        (calls_follow [] (a ++ zs) (λ z i. absurd i) w.of_kinds follow) in
        let v = follow_front calls_used firsts (macro_calls (a ++ zs)) calls front in_order closed in (
          v.0,
          append_cancel_left done todo (macro_calls zs ++ v.0)
              (sym e ∙ v.1 ∙ ap (λ l. l ++ v.0) (calls-append a zs ∙ ap (λ l. l ++ macro_calls zs) w.calls_are)
              ∙ append_assoc done (macro_calls zs) v.0),
        )

    -- the next call stands beside those that were walked over
    call_there : (done a zs todo : List Closed) (c : Closed) → calls ≡ done ++ c ∷ todo → IsKeyWalk uses firsts done a zs
        → Among (macro_calls zs) c
    call_there done a zs todo c e w =
        let n : IsFirstNew (firsts ++ done) (flat_map calls_used (firsts ++ done)) c =
        follow-at calls_used firsts done todo c (subst (FollowBy calls_used firsts) e in_order) in
        let there : Among (flat_map calls_used (firsts ++ done)) c =
        subst (λ l. Among l c) (sym n.parts) (among_right n.before (c ∷ n.after) c (inl refl)) in
        let user = among_flat_map calls_used (firsts ++ done) c there in
        let used = macro_among (uses user.0) c user.2 in
        let known : Among ((firsts ++ a) ++ zs) c =
        w.walk.known c (flat_map_among uses (firsts ++ a) user.0 c (user_there user.0 (among_parts firsts done user.0 user.1)) used.0) in
        place used.1 n.new (among_parts (firsts ++ a) zs c known)
      where
        user_there : (y : Closed) → Among firsts y ⊎ Among done y → Among (firsts ++ a) y
        user_there y (inl i) = among_left firsts a y i
        user_there y (inr i) =
            among_right firsts a y (macro_among a y (subst (λ l. Among l y) (sym w.calls_are) i)).0

        old : macro_call c ≡ c ∷ [] → Among firsts c ⊎ Among a c → Among (firsts ++ done) c
        old h (inl i) = among_left firsts done c i
        old h (inr i) =
            among_right firsts done c (subst (λ l. Among l c) w.calls_are (among_macro a c i h))

        place : macro_call c ≡ c ∷ [] → (Among (firsts ++ done) c → ⊥) → Among (firsts ++ a) c ⊎ Among zs c
            → Among (macro_calls zs) c
        place h new (inl i) = absurd (new (old h (among_parts firsts a c i)))
        place h new (inr i) = among_macro zs c i h

    -- so it is the first call there
    call_first : (done a zs todo : List Closed) (c : Closed) → calls ≡ done ++ c ∷ todo → IsKeyWalk uses firsts done a zs
        → (rest : List Closed) × IsFirstCall zs rest c
    call_first done a zs todo c e w =
        let v = calls_front done a zs (c ∷ todo) e w in
        go (macro_calls zs) refl v.0 v.1 (call_there done a zs todo c e w)
      where
        go : (cs : List Closed) → macro_calls zs ≡ cs → (rest : List Closed) → c ∷ todo ≡ macro_calls zs ++ rest
            → Among (macro_calls zs) c → (rest : List Closed) × IsFirstCall zs rest c
        go [] h rest f i = absurd (subst (λ l. Among l c) h i)
        go (d ∷ ds) h rest f i =
            let both : c ∷ todo ≡ d ∷ (ds ++ rest) = f ∙ ap (λ l. l ++ rest) h in
            let same : d ≡ c = cc in
            (ds, first_call uses zs ds c (λ z j. w.of_kinds z (among_right a zs z j)) (h ∙ ap (λ z. z ∷ ds) same))

    -- the walk over the next call
    one_call : (done a zs todo mid : List Closed) (c : Closed) → calls ≡ done ++ c ∷ todo → IsKeyWalk uses firsts done a zs
        → AddsKeys ((firsts ++ a) ++ zs) (uses c) mid
        → (b : List Closed) × (more : List Closed) × (mid ≡ (firsts ++ b) ++ more) × IsKeyWalk uses firsts (done ++ c ∷ []) b more
    one_call done a zs todo mid c e w added =
        let f = call_first done a zs todo c e w in
        with_first f.0 f.1
      where
        with_first : (rest : List Closed) → IsFirstCall zs rest c
            → (b : List Closed) × (more : List Closed) × (mid ≡ (firsts ++ b) ++ more) × IsKeyWalk uses firsts (done ++ c ∷ []) b more
        with_first rest p =
            let parts : zs ≡ p.before ++ c ∷ p.after = p.parts in
            let none : flat_map uses p.before ≡ [] =
            kinds_use uses p.before (λ z i. w.of_kinds z (among_right a zs z
            (subst (λ l. Among l z) (sym parts) (among_left p.before (c ∷ p.after) z i)))) ∙ ap (flat_map uses) p.no_call in
            let past : IsWalk uses firsts ((firsts ++ a) ++ p.before) (c ∷ p.after) =
            walk_past uses firsts (firsts ++ a) p.before (c ∷ p.after) (subst (IsWalk uses firsts (firsts ++ a)) parts w.walk) none in
            let row : (firsts ++ a) ++ zs ≡ ((firsts ++ a) ++ p.before) ++ (c ∷ p.after) =
            ap (λ l. (firsts ++ a) ++ l) parts ∙ sym (append_assoc (firsts ++ a) p.before (c ∷ p.after)) in
            let v : HasWalked uses firsts ((firsts ++ a) ++ p.before) (c ∷ []) p.after mid =
            walked uses firsts ((firsts ++ a) ++ p.before) (c ∷ []) p.after mid past
            (subst (λ l. AddsKeys (((firsts ++ a) ++ p.before) ++ (c ∷ p.after)) l mid) (sym (append-nil (uses c)))
            (subst (λ l. AddsKeys l (uses c) mid) row added)) in
            let b : List Closed = a ++ (p.before ++ c ∷ []) in
            let over : ((firsts ++ a) ++ p.before) ++ c ∷ [] ≡ firsts ++ b =
            append_assoc (firsts ++ a) p.before (c ∷ []) ∙ append_assoc firsts a (p.before ++ c ∷ []) in
            let walk : IsWalk uses firsts (firsts ++ b) (p.after ++ v.more) =
            subst (λ l. IsWalk uses firsts l (p.after ++ v.more)) over v.walk in
            let itself : macro_call c ≡ c ∷ [] = (macro_among zs c (call_there done a zs todo c e w)).1 in (
              b,
              p.after ++ v.more,
              v.all_is ∙ (append_assoc ((firsts ++ a) ++ p.before) (c ∷ p.after) v.more
                  ∙ sym (append_assoc ((firsts ++ a) ++ p.before) (c ∷ []) (p.after ++ v.more)))
                  ∙ ap (λ l. l ++ (p.after ++ v.more)) over,
              record {
                walk = walk;
                of_kinds = λ z i. kind z v row (among_parts b (p.after ++ v.more) z i);
                calls_are = calls-append a (p.before ++ c ∷ [])
                    ∙ ap (λ l. l ++ macro_calls (p.before ++ c ∷ [])) w.calls_are
                    ∙ ap (λ l. done ++ l) (calls-append p.before (c ∷ [])
                    ∙ ap (λ l. l ++ (macro_call c ++ [])) p.no_call ∙ append-nil (macro_call c) ∙ itself);
              },
            )
          where
            old : (z : Closed) → Among a z ⊎ Among zs z → IsKind uses z
            old z (inl i) = w.of_kinds z (among_left a zs z i)
            old z (inr i) = w.of_kinds z (among_right a zs z i)

            in_zs : (z : Closed) → Among p.before z ⊎ Among (c ∷ p.after) z → Among zs z
            in_zs z (inl i) = subst (λ l. Among l z) (sym p.parts) (among_left p.before (c ∷ p.after) z i)
            in_zs z (inr i) = subst (λ l. Among l z) (sym p.parts) (among_right p.before (c ∷ p.after) z i)

            front : (z : Closed) → Among (p.before ++ c ∷ []) z → Among zs z
            front z i = in_zs z (wider z (among_parts p.before (c ∷ []) z i))
              where
                wider : (z : Closed) → Among p.before z ⊎ Among (c ∷ []) z → Among p.before z ⊎ Among (c ∷ p.after) z
                wider z (inl j) = inl j
                wider z (inr (inl d)) = inr (inl d)
                wider z (inr (inr j)) = absurd j

            a_call : Among (firsts ++ calls) c
            a_call = among_right firsts calls c (subst (λ l. Among l c) (sym e) (among_right done (c ∷ todo) c (inl refl)))

            kind : (z : Closed) → (v : HasWalked uses firsts ((firsts ++ a) ++ p.before) (c ∷ []) p.after mid)
                → (firsts ++ a) ++ zs ≡ ((firsts ++ a) ++ p.before) ++ (c ∷ p.after)
                → Among (a ++ (p.before ++ c ∷ [])) z ⊎ Among (p.after ++ v.more) z → IsKind uses z
            kind z v row (inl i) = in_b (among_parts a (p.before ++ c ∷ []) z i)
              where
                in_b : Among a z ⊎ Among (p.before ++ c ∷ []) z → IsKind uses z
                in_b (inl j) = old z (inl j)
                in_b (inr j) = old z (inr (front z j))
            kind z v row (inr i) = behind (among_parts p.after v.more z i)
              where
                fresh : Among firsts z ⊎ IsKind uses z → Among v.more z → IsKind uses z
                fresh (inl j) h =
                    absurd (v.new z h (subst (λ l. Among l z) row (among_left (firsts ++ a) zs z (among_left firsts a z j))))
                fresh (inr j) h = j

                behind : Among p.after z ⊎ Among v.more z → IsKind uses z
                behind (inl j) = old z (inr (in_zs z (inr (inr j))))
                behind (inr j) =
                    fresh (kinds c z a_call (subst (λ l. Among l z) (append-nil (uses c)) (v.of_used z j))) j

    -- the walk over all calls that are left, each with itself
    all_calls : (done todo a zs all : List Closed) → calls ≡ done ++ todo → IsKeyWalk uses firsts done a zs
        → AddsKeys ((firsts ++ a) ++ zs) (flat_map (with_itself uses) todo) all
        → (b : List Closed) × (all ≡ firsts ++ b) × IsWalk uses firsts (firsts ++ b) []
    all_calls done [] a zs all e w added =
        let v = calls_front done a zs [] e w in
        let none : macro_calls zs ≡ [] = nothing (macro_calls zs) v.0 v.1 in
        let last : flat_map uses zs ≡ [] =
        kinds_use uses zs (λ z i. w.of_kinds z (among_right a zs z i)) ∙ ap (flat_map uses) none in
        let over : (firsts ++ a) ++ zs ≡ firsts ++ (a ++ zs) = append_assoc firsts a zs in (
          a ++ zs,
          added ∙ over,
          subst (λ l. IsWalk uses firsts l []) over
              (walk_past uses firsts (firsts ++ a) zs [] (subst (IsWalk uses firsts (firsts ++ a)) (sym (append-nil zs)) w.walk) last),
        )
      where
        nothing : (xs ys : List Closed) → [] ≡ xs ++ ys → xs ≡ []
        nothing [] ys f = refl
        nothing (x ∷ xs) ys f = let g : [] ≡ x ∷ (xs ++ ys) = f in cc
    all_calls done (c ∷ todo) a zs all e w (next, put, added) =
        let there : Among ((firsts ++ a) ++ zs) c =
        among_right (firsts ++ a) zs c (macro_among zs c (call_there done a zs todo c e w)).0 in
        let same : next ≡ (firsts ++ a) ++ zs = adds-known ((firsts ++ a) ++ zs) c next there put in
        let parts = adds-split next (uses c) (flat_map (with_itself uses) todo) all added in
        let one = one_call done a zs todo parts.0 c e w (subst (λ l. AddsKeys l (uses c) parts.0) same parts.1) in
        all_calls (done ++ c ∷ []) todo one.0 one.1 all (e ∙ sym (append_assoc done (c ∷ []) todo)) one.3
        (subst (λ l. AddsKeys l (flat_map (with_itself uses) todo) all) one.2 parts.2)

    -- The first ones, what they use, and then the calls with what they use: all of these are walked over.
    pub mixed : (mid all : List Closed) → AddsKeys firsts (flat_map (with_itself uses) firsts) mid
        → AddsKeys mid (flat_map (with_itself uses) calls) all
        → (b : List Closed) × (all ≡ firsts ++ b) × IsWalk uses firsts (firsts ++ b) []
    mixed mid all first second =
        let begin : IsWalk uses firsts [] (firsts ++ []) =
        subst (IsWalk uses firsts []) (sym (append-nil firsts)) (walk_begins uses firsts) in
        let v : HasWalked uses firsts [] firsts [] mid =
        walked uses firsts [] firsts [] mid begin
        (subst (λ l. AddsKeys l (flat_map uses firsts) mid) (sym (append-nil firsts))
        (adds_uses uses firsts firsts mid (λ y i. i) first)) in
        let whole : mid ≡ (firsts ++ []) ++ v.more = v.all_is in
        all_calls [] calls [] v.more all refl (record {
          walk = subst (λ l. IsWalk uses firsts l v.more) (sym (append-nil firsts)) v.walk;
          of_kinds = λ z i. fresh z v i;
          calls_are = refl;
        }) (subst (λ l. AddsKeys l (flat_map (with_itself uses) calls) all) whole second)
      where
        fresh : (z : Closed) (v : HasWalked uses firsts [] firsts [] mid) → Among v.more z → IsKind uses z
        fresh z v i =
            let w = among_flat_map uses firsts z (v.of_used z i) in
            go (kinds w.0 z (among_left firsts calls w.0 w.1) w.2)
          where
            go : Among firsts z ⊎ IsKind uses z → IsKind uses z
            go (inl j) = absurd (v.new z i (subst (λ l. Among l z) (sym (append-nil firsts)) j))
            go (inr j) = j
