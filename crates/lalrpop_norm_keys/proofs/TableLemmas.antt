-- Where keys stand by their texts, and what adding them keeps; for the table of keys.
use Rattle.std.proofs.Common.{◌≡◌, ℕ, zero, suc, ◌+◌, ◌<◌, List, [], ◌∷◌, ◌++◌, refl, ap, sym, ◌∙◌, subst}
use Rattle.std.proofs.Common.{inl, inr, ◌⊎◌, cond}
use Rattle.std.proofs.Common.{Bool, true, false, map, length, arith, append-nil, append_assoc, get_or, take, add-one}
use Rattle.std.proofs.Math.Seq.{take-suc}
use Rattle.std.specs.Prelude.{Option, Some, None, option_map, slice_get}
use Rattle.std.specs.Str.{bytes_eq}
use Rattle.std.proofs.lemmas.Option.{slice_get-map}
use Rattle.std.proofs.lemmas.List.{map-append}
use Rattle.lalrpop_grammar_symbols.specs.Symbols.{Text, Closed}
use Rattle.lalrpop_grammar_language.specs.Among.{Among}
use Rattle.lalrpop_grammar_language.proofs.ComparisonLemmas.{same_text-refl}
use Rattle.lalrpop_norm_theory.specs.Keys.{flat_key_text}
use Rattle.lalrpop_grammar_language.proofs.StepLemmas.{among_right}
use Rattle.lalrpop_grammar_language.proofs.StepLemmas.{among_left}
use Rattle.lalrpop_grammar_language.proofs.OrderLemmas.{among_parts}
use Rattle.lalrpop_grammar_rules.specs.Views.{closed_view}
use Rattle.lalrpop_grammar_rules.specs.declared.closed.closed_symbol.ClosedSymbol.{ClosedSymbol}
use Rattle.lalrpop_norm_keys.specs.Tables.{AddsKey, AddsKeys, HasEachOnce, IsPlaceAmong, IsPlaceOfKey, places_of_text}

-- where a key stands by its text, counted from k
pub record IsListedAt (k : ℕ) (keys : List Closed) (x : Closed) : Type 0 where
  pub place : ℕ
  pub key : slice_get keys place ≡ Some x
  pub listed : Among (places_of_text (flat_key_text x) k keys) (k + place)

-- each key stands among those of its text
pub is_listed : (k : ℕ) (keys : List Closed) (x : Closed) → Among keys x → IsListedAt k keys x
is_listed k [] x h = absurd h
is_listed k (y ∷ keys) x (inl e) = record {
  place = 0;
  key = ap Some e;
  listed = here (bytes_eq (flat_key_text x) (flat_key_text y)) itself;
}
  where
    itself : bytes_eq (flat_key_text x) (flat_key_text y) ≡ true
    itself = ap (λ z. bytes_eq (flat_key_text x) (flat_key_text z)) e ∙ same_text-refl (flat_key_text x)

    here : (b : Bool) → b ≡ true →
        Among (cond b (k ∷ places_of_text (flat_key_text x) (k + 1) keys) (places_of_text (flat_key_text x) (k + 1) keys)) (k + 0)
    here true f = inl (let g : k ≡ k + 0 = omega arith in g)
    here false f = cc
is_listed k (y ∷ keys) x (inr h) =
    let w = is_listed (k + 1) keys x h in
    let there : (k + 1) + w.place ≡ k + suc w.place = omega arith in record {
      place = suc w.place;
      key = w.key;
      listed = later (k + suc w.place) (bytes_eq (flat_key_text x) (flat_key_text y))
          (subst (Among (places_of_text (flat_key_text x) (k + 1) keys)) there w.listed);
    }
  where
    later : (i : ℕ) (b : Bool) → Among (places_of_text (flat_key_text x) (k + 1) keys) i →
        Among (cond b (k ∷ places_of_text (flat_key_text x) (k + 1) keys) (places_of_text (flat_key_text x) (k + 1) keys)) i
    later i true h = inr h
    later i false h = h

-- one key more stands behind the others
pub places-push : (t : Text) (k : ℕ) (keys : List Closed) (x : Closed) → places_of_text t k (keys ++ x ∷ [])
    ≡ cond (bytes_eq t (flat_key_text x)) (places_of_text t k keys ++ (k + length keys) ∷ []) (places_of_text t k keys)
places-push t k [] x =
    let g : k ≡ k + 0 = omega arith in
    ap (λ j. cond (bytes_eq t (flat_key_text x)) (j ∷ []) []) g
places-push t k (y ∷ keys) x = go (bytes_eq t (flat_key_text y)) (places-push t (k + 1) keys x)
  where
    front : Bool → List ℕ → List ℕ
    front b l = cond b (k ∷ l) l

    inside : (b c : Bool) (l : List ℕ) (i j : ℕ) → i ≡ j →
        cond b (k ∷ cond c (l ++ i ∷ []) l) (cond c (l ++ i ∷ []) l)
        ≡ cond c (cond b (k ∷ l) l ++ j ∷ []) (cond b (k ∷ l) l)
    inside true true l i j e = ap (λ m. k ∷ (l ++ m ∷ [])) e
    inside true false l i j e = refl
    inside false true l i j e = ap (λ m. l ++ m ∷ []) e
    inside false false l i j e = refl

    go : (b : Bool) → places_of_text t (k + 1) (keys ++ x ∷ [])
        ≡ cond (bytes_eq t (flat_key_text x)) (places_of_text t (k + 1) keys ++ ((k + 1) + length keys) ∷ [])
        (places_of_text t (k + 1) keys)
        → cond b (k ∷ places_of_text t (k + 1) (keys ++ x ∷ [])) (places_of_text t (k + 1) (keys ++ x ∷ []))
        ≡ cond (bytes_eq t (flat_key_text x))
        (cond b (k ∷ places_of_text t (k + 1) keys) (places_of_text t (k + 1) keys) ++ (k + suc (length keys)) ∷ [])
        (cond b (k ∷ places_of_text t (k + 1) keys) (places_of_text t (k + 1) keys))
    go b e =
        let next : (k + 1) + length keys ≡ k + suc (length keys) = omega arith in
        ap (λ l. cond b (k ∷ l) l) e
        ∙ inside b (bytes_eq t (flat_key_text x)) (places_of_text t (k + 1) keys) ((k + 1) + length keys) (k + suc (length keys)) next

-- a list with one more that wasn't there
pub once_more : {A : Type 0} (xs : List A) (x : A) → HasEachOnce xs → (Among xs x → ⊥) → HasEachOnce (xs ++ x ∷ [])
once_more [] x h out = (λ k. k, tt)
once_more {A} (y ∷ xs) x h out = (λ k. go (among_parts xs (x ∷ []) y k), once_more xs x h.1 (λ k. out (inr k)))
  where
    last : (y ≡ x) ⊎ ⊥ → ⊥
    last (inl e) = out (inl e)
    last (inr k) = k

    turn : Among (x ∷ []) y → (y ≡ x) ⊎ ⊥
    turn (inl e) = inl (sym e)
    turn (inr k) = absurd k

    go : Among xs y ⊎ Among (x ∷ []) y → ⊥
    go (inl k) = h.0 k
    go (inr k) = last (turn k)

-- what is found among the places of the key's text is found, and else the key isn't there
pub found_by_text : (keys : List ClosedSymbol) (places : List ℕ) (x : Closed) (r : Option ℕ)
    → places ≡ places_of_text (flat_key_text x) 0 (map closed_view keys)
    → IsPlaceAmong keys places x r → IsPlaceOfKey (map closed_view keys) x r
found_by_text keys places x None e f = λ h.
    let w = is_listed 0 (map closed_view keys) x h in
    let at : 0 + w.place ≡ w.place = omega arith in
    f w.place (subst (λ l. Among l w.place) (sym e)
    (subst (Among (places_of_text (flat_key_text x) 0 (map closed_view keys))) at w.listed))
    (sym (slice_get-map closed_view keys w.place) ∙ w.key)
found_by_text keys places x (Some i) e f = slice_get-map closed_view keys i ∙ f

-- a text without places has no key
pub none_by_text : (keys : List Closed) (x : Closed) → [] ≡ places_of_text (flat_key_text x) 0 keys → Among keys x → ⊥
none_by_text keys x e h =
    let w = is_listed 0 keys x h in
    let nothing : Among {A = ℕ} [] (0 + w.place) = subst (λ l. Among l (0 + w.place)) (sym e) w.listed in nothing

-- a key that has a place is there
pub place_is_there : {A : Type 0} (xs : List A) (i : ℕ) (x : A) → slice_get xs i ≡ Some x → Among xs x
place_is_there [] i x e = cc
place_is_there (y ∷ xs) zero x e = inl (cc)
place_is_there (y ∷ xs) (suc i) x e = inr (place_is_there xs i x e)

-- keys added, and then one more
pub adds-snoc : (keys xs mid : List Closed) (x : Closed) (more : List Closed) → AddsKeys keys xs mid → AddsKey mid x more
    → AddsKeys keys (xs ++ x ∷ []) more
adds-snoc keys [] mid x more e a = (more, subst (λ l. AddsKey l x more) e a, refl)
adds-snoc keys (y ∷ xs) mid x more w a = (w.0, w.1, adds-snoc w.0 xs mid x more w.2 a)

-- what was there and what is added is there, and nothing else
pub added_is_either : (keys : List Closed) (x : Closed) (more : List Closed) (z : Closed) → AddsKey keys x more → Among more z
    → Among keys z ⊎ (x ≡ z)
added_is_either keys x more z (inl w) h = inl (subst (λ l. Among l z) w.1 h)
added_is_either keys x more z (inr w) h = go (among_parts keys (x ∷ []) z (subst (λ l. Among l z) w.1 h))
  where
    go : Among keys z ⊎ Among (x ∷ []) z → Among keys z ⊎ (x ≡ z)
    go (inl k) = inl k
    go (inr (inl e)) = inr e
    go (inr (inr k)) = absurd k

-- What adding several keys leaves: behind those that were there, those of them that weren't.
pub record Extends (known xs all : List Closed) : Type 0 where
  pub found : List Closed
  pub all_is : all ≡ known ++ found
  pub of_added : (x : Closed) → Among found x → Among xs x
  pub fresh : (x : Closed) → Among found x → Among known x → ⊥
  pub complete : (x : Closed) → Among xs x → Among all x

-- a list in front of another, which was found to be behind it
extends_front : (known found all : List Closed) (x : Closed) → all ≡ known ++ found → Among known x → Among all x
extends_front known found all x e i = subst (λ l. Among l x) (sym e) (among_left known found x i)

-- keys that are added extend the table by what is new among them
pub adds_extend : (known xs all : List Closed) → AddsKeys known xs all → Extends known xs all
adds_extend known [] all e = record {
  found = [];
  all_is = e ∙ sym (append-nil known);
  of_added = λ x i. absurd i;
  fresh = λ x i k. i;
  complete = λ x i. absurd i;
}
adds_extend known (x ∷ xs) all (next, inl s, w) =
    let later = adds_extend known xs all (subst (λ l. AddsKeys l xs all) s.1 w) in record {
      found = later.found;
      all_is = later.all_is;
      of_added = λ z i. inr (later.of_added z i);
      fresh = later.fresh;
      complete = complete later;
    }
  where
    complete : Extends known xs all → (z : Closed) → Among (x ∷ xs) z → Among all z
    complete later z (inl e) = extends_front known later.found all z later.all_is (subst (Among known) e s.0)
    complete later z (inr i) = later.complete z i
adds_extend known (x ∷ xs) all (next, inr s, w) =
    let later = adds_extend (known ++ x ∷ []) xs all (subst (λ l. AddsKeys l xs all) s.1 w) in record {
      found = x ∷ later.found;
      all_is = later.all_is ∙ append_assoc known (x ∷ []) later.found;
      of_added = of_added later;
      fresh = fresh later;
      complete = complete later;
    }
  where
    of_added : (later : Extends (known ++ x ∷ []) xs all) → (z : Closed) → Among (x ∷ later.found) z → Among (x ∷ xs) z
    of_added later z (inl e) = inl e
    of_added later z (inr i) = inr (later.of_added z i)

    fresh : (later : Extends (known ++ x ∷ []) xs all) → (z : Closed) → Among (x ∷ later.found) z → Among known z → ⊥
    fresh later z (inl e) k = s.0 (subst (Among known) (sym e) k)
    fresh later z (inr i) k = later.fresh z i (among_left known (x ∷ []) z k)

    complete : Extends (known ++ x ∷ []) xs all → (z : Closed) → Among (x ∷ xs) z → Among all z
    complete later z (inl e) =
        extends_front (known ++ x ∷ []) later.found all z later.all_is (among_right known (x ∷ []) z (inl e))
    complete later z (inr i) = later.complete z i

-- the index keeps the places of each text when a key is put behind the others
pub places_kept : (old new : List ℕ) (n t : Text) (keys : List Closed) (x : Closed) (place : ℕ) → old ≡ places_of_text n 0 keys
    → t ≡ flat_key_text x → place ≡ length keys → new ≡ cond (bytes_eq n t) (old ++ place ∷ []) old
    → new ≡ places_of_text n 0 (keys ++ x ∷ [])
places_kept old new n t keys x place e f g h =
    let at : place ≡ 0 + length keys = omega (arith, g) in
    h ∙ ap (λ (s : Text). cond (bytes_eq n s) (old ++ place ∷ []) old) f
    ∙ ap (λ (i : ℕ). cond (bytes_eq n (flat_key_text x)) (old ++ i ∷ []) old) at
    ∙ ap (λ (l : List ℕ). cond (bytes_eq n (flat_key_text x)) (l ++ (0 + length keys) ∷ []) l) e
    ∙ sym (places-push n 0 keys x)

-- one element more of a list that is gone over
pub take_next : {A B : Type 0} (f : A → B) (xs : List A) (i : ℕ) (x : A) → i < length xs → x ≡ get_or xs i x
    → map f (take (i + 1) xs) ≡ map f (take i xs) ++ f x ∷ []
take_next f xs i x inside is =
    ap (λ n. map f (take n xs)) (add-one i) ∙ ap (map f) (take-suc xs i x inside)
    ∙ map-append f (take i xs) (get_or xs i x ∷ []) ∙ ap (λ y. map f (take i xs) ++ f y ∷ []) (sym is)

-- a place at which the key doesn't stand is passed
pub none_more : (keys : List ClosedSymbol) (places : List ℕ) (x : Closed) (j d : ℕ) → j < length places
    → IsPlaceAmong keys (take j places) x None → (option_map closed_view (slice_get keys (get_or places j d)) ≡ Some x → ⊥)
    → IsPlaceAmong keys (take (j + 1) places) x None
none_more keys places x j d inside h out =
    λ i k f. go i f (among_parts (take j places) (get_or places j d ∷ []) i (subst (λ l. Among l i) next k))
  where
    next : take (j + 1) places ≡ take j places ++ get_or places j d ∷ []
    next = ap (λ n. take n places) (add-one j) ∙ take-suc places j d inside

    go : (i : ℕ) → option_map closed_view (slice_get keys i) ≡ Some x
        → Among (take j places) i ⊎ Among (get_or places j d ∷ []) i → ⊥
    go i f (inl k) = h i k f
    go i f (inr (inl e)) = out (ap (λ q. option_map closed_view (slice_get keys q)) e ∙ f)
    go i f (inr (inr k)) = k
