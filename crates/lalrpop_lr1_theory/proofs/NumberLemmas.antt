-- Numbers that are given to lists as they are first seen, one list more: for whoever numbers the cores of states.
use Rattle.std.proofs.Common.{◌≡◌, ◌⊎◌, ℕ, zero, suc, ◌+◌, ◌<◌, Bool, true, false, ◌||◌, List, [], ◌∷◌}
use Rattle.std.proofs.Common.{◌++◌}
use Rattle.std.proofs.Common.{length, map, Some, refl, sym, ap, ◌∙◌, subst, inl, inr, ⊎_elim, arith}
use Rattle.std.proofs.Common.{length-append}
use Rattle.std.proofs.lemmas.Option.{slice_get_within}
use Rattle.std.specs.Bool.{Decides}
use Rattle.std.specs.List.{list_any}
use Rattle.std.specs.Prelude.{if◌then◌else◌, slice_get}
use Rattle.lalrpop_lr1_theory.proofs.ListLemmas.{get_front, get_split, get_last}
use Rattle.lalrpop_lr1_theory.proofs.StepLemmas.{some_same}
use Rattle.lalrpop_lr1_theory.specs.CollapsedStates.{HasNumberBefore}
use Rattle.lalrpop_lr1_theory.specs.JoinedStates.{AreNumbersAsSeen}
use Rattle.lalrpop_lr1_theory.proofs.OrderLemmas.{image_get}

get_end : {X : Type 0} (xs : List X) (x y : X) (k : ℕ) → slice_get (xs ++ x ∷ []) k ≡ Some y →
    (slice_get xs k ≡ Some y) ⊎ ((x ≡ y) × (k ≡ length xs))
get_end {X} xs x y k e = go (get_split xs (x ∷ []) k y e)
  where
    last : (j : ℕ) → k ≡ length xs + j → slice_get (x ∷ []) j ≡ Some y → (x ≡ y) × (k ≡ length xs)
    last zero f g = (some_same x y g, omega (arith, f))
    last (suc j) f g = let z : ⊥ = cc in absurd z

    go : (slice_get xs k ≡ Some y) ⊎ ((j : ℕ) × (k ≡ length xs + j) × (slice_get (x ∷ []) j ≡ Some y)) →
        (slice_get xs k ≡ Some y) ⊎ ((x ≡ y) × (k ≡ length xs))
    go (inl h) = inl h
    go (inr h) = inr (last h.0 h.1 h.2)

-- numbers were given to the lists so far, one for each of the keys, which are the lists that differ
pub record IsNumbering {X : Type 0} (lists keys : List X) (numbers : List ℕ) : Type 0 where
  pub count : length numbers ≡ length lists
  pub at : (n a : ℕ) (x : X) → slice_get numbers n ≡ Some a → slice_get lists n ≡ Some x → slice_get keys a ≡ Some x
  pub given : (b : ℕ) (x : X) → slice_get keys b ≡ Some x → HasNumberBefore numbers (length numbers) b
  pub as_seen : (n a b : ℕ) → slice_get numbers n ≡ Some a → b < a → HasNumberBefore numbers n b
  pub apart : (j k : ℕ) (x : X) → slice_get keys j ≡ Some x → slice_get keys k ≡ Some x → j ≡ k

pub numbering_start : {X : Type 0} → IsNumbering {X = X} [] [] []
numbering_start =
    record {
      count = refl;
      at = λ n a x e f. let z : ⊥ = cc in absurd z;
      given = λ b x e. let z : ⊥ = cc in absurd z;
      as_seen = λ n a b e l. let z : ⊥ = cc in absurd z;
      apart = λ j k x e f. let z : ⊥ = cc in absurd z;
    }

-- all lists are numbered
pub numbering_done : {X : Type 0} (lists keys : List X) (numbers : List ℕ) → IsNumbering lists keys numbers →
    AreNumbersAsSeen lists numbers
numbering_done lists keys numbers are =
    record {
      count = are.count;
      same = λ n m a b x y e f g h. (
        λ z. some_same x y (sym (are.at n a x e g) ∙ ap (slice_get keys) z ∙ are.at m b y f h),
        λ z. are.apart a b y (are.at n a x e g ∙ ap Some z) (are.at m b y f h),
      );
      as_seen = are.as_seen;
    }

module _ {X : Type 0} (lists keys : List X) (numbers : List ℕ) (are : IsNumbering lists keys numbers) (x : X) (a : ℕ) where
  before_more : (n m b : ℕ) → HasNumberBefore numbers n b → n ≡ m → HasNumberBefore (numbers ++ a ∷ []) m b
  before_more n m b h e =
      record {
        place = h.place;
        earlier = let l = h.earlier in omega (arith, l, e);
        number = get_front numbers (a ∷ []) h.place b h.number;
      }

  -- numbers of keys that are there have come before
  below_given : (b : ℕ) → b < length keys → HasNumberBefore numbers (length numbers) b
  below_given b l = let k = get_some keys b l in are.given b k.0 k.1
    where
      get_some : (ks : List X) (k : ℕ) → k < length ks → (y : X) × (slice_get ks k ≡ Some y)
      get_some [] k h = absurd (omega (arith, h))
      get_some (y ∷ ks) zero h = (y, refl)
      get_some (y ∷ ks) (suc k) h = get_some ks k (omega (arith, h))

  seen_more : (n c b : ℕ) → a < suc (length keys) → slice_get (numbers ++ a ∷ []) n ≡ Some c → b < c →
      HasNumberBefore (numbers ++ a ∷ []) n b
  seen_more n c b w e l =
      ⊎_elim (λ f. before_more n n b (are.as_seen n c b f l) refl)
      (λ f. before_more (length numbers) n b (below_given b (let z = f.0 in omega (arith, w, l, z))) (sym f.1))
      (get_end numbers a c n e)

  count_more : length (numbers ++ a ∷ []) ≡ length (lists ++ x ∷ [])
  count_more = omega (arith, length-append numbers (a ∷ []), length-append lists (x ∷ []), are.count)

  at_more : (all : List X) → ((b : ℕ) (y : X) → slice_get keys b ≡ Some y → slice_get all b ≡ Some y) →
      slice_get all a ≡ Some x → (n c : ℕ) (y : X) → slice_get (numbers ++ a ∷ []) n ≡ Some c →
      slice_get (lists ++ x ∷ []) n ≡ Some y → slice_get all c ≡ Some y
  at_more all keep here n c y e f =
      ⊎_elim
      (λ g. ⊎_elim (λ h. keep c y (are.at n c y g h))
      (λ h. absurd (let w = slice_get_within numbers n c g in let k = are.count in omega (arith, w, h.1, k)))
      (get_end lists x y n f))
      (λ g. ⊎_elim (λ h. absurd (let w = slice_get_within lists n y h in let k = are.count in omega (arith, w, g.1, k)))
      (λ h. ap (slice_get all) (sym g.0) ∙ here ∙ ap Some h.0)
      (get_end lists x y n f))
      (get_end numbers a c n e)

  -- a list that was seen gets its number again
  pub numbering_known : slice_get keys a ≡ Some x → IsNumbering (lists ++ x ∷ []) keys (numbers ++ a ∷ [])
  numbering_known here =
      record {
        count = count_more;
        at = at_more keys (λ b y e. e) here;
        given = λ b y e.
            let h = are.given b y e in
            record {
              place = h.place;
              earlier = let l = h.earlier in omega (arith, l, length-append numbers (a ∷ []));
              number = get_front numbers (a ∷ []) h.place b h.number;
            };
        as_seen = λ n c b e l.
            seen_more n c b (let w = slice_get_within keys a x here in omega (arith, w)) e l;
        apart = are.apart;
      }

  -- one that wasn't gets the next number
  pub numbering_new : ((j : ℕ) → slice_get keys j ≡ Some x → ⊥) → a ≡ length keys →
      IsNumbering (lists ++ x ∷ []) (keys ++ x ∷ []) (numbers ++ a ∷ [])
  numbering_new unseen next =
      record {
        count = count_more;
        at = at_more (keys ++ x ∷ []) (λ b y e. get_front keys (x ∷ []) b y e)
            (ap (slice_get (keys ++ x ∷ [])) next ∙ get_last keys x);
        given = λ b y e.
            ⊎_elim
            (λ f. let h = are.given b y f in
            record {
              place = h.place;
              earlier = let l = h.earlier in omega (arith, l, length-append numbers (a ∷ []));
              number = get_front numbers (a ∷ []) h.place b h.number;
            })
            (λ f. record {
              place = length numbers;
              earlier = omega (arith, length-append numbers (a ∷ []));
              number = get_last numbers a ∙ ap Some (next ∙ sym f.1);
            })
            (get_end keys x y b e);
        as_seen = λ n c b e l. seen_more n c b (omega (arith, next)) e l;
        apart = λ j k y e f.
            ⊎_elim
            (λ g. ⊎_elim (λ h. are.apart j k y g h) (λ h. absurd (unseen j (g ∙ ap Some (sym h.0)))) (get_end keys x y k f))
            (λ g. ⊎_elim (λ h. absurd (unseen k (h ∙ ap Some (sym g.0)))) (λ h. g.1 ∙ sym h.1) (get_end keys x y k f))
            (get_end keys x y j e);
      }

-- the same over keys that a set holds, whose `==` decides what is seen of them
module _ {K X : Type 0} (eq : K → K → Bool) (key : K → X) (decides : (a b : K) → Decides (eq a b) (key a ≡ key b)) (v : K) where
  none_equal : (ks : List K) (j : ℕ) → list_any (eq v) ks ≡ false → slice_get (map key ks) j ≡ Some (key v) → ⊥
  none_equal [] j h e = let z : ⊥ = cc in z
  none_equal (k ∷ ks) zero h e = go (eq v k) ((decides v k).1 (sym (some_same (key k) (key v) e))) h
    where
      go : (b : Bool) → b ≡ true → (b || list_any (eq v) ks) ≡ false → ⊥
      go true e h = cc
      go false e h = cc
  none_equal (k ∷ ks) (suc j) h e = go (eq v k) h (none_equal ks j)
    where
      go : (b : Bool) → (b || list_any (eq v) ks) ≡ false →
          (list_any (eq v) ks ≡ false → slice_get (map key ks) j ≡ Some (key v) → ⊥) → ⊥
      go true h rec = cc
      go false h rec = rec h e

  map_end : (ks : List K) → map key (ks ++ v ∷ []) ≡ map key ks ++ key v ∷ []
  map_end [] = refl
  map_end (k ∷ ks) = ap (λ xs. key k ∷ xs) (map_end ks)

  pub numbering_inserted : (lists : List X) (old new : List K) (numbers : List ℕ) (a : ℕ) →
      IsNumbering lists (map key old) numbers → new ≡ (if list_any (eq v) old then old else old ++ v ∷ []) →
      (k : K) × (slice_get new a ≡ Some k) × (eq v k ≡ true) →
      IsNumbering (lists ++ key v ∷ []) (map key new) (numbers ++ a ∷ [])
  numbering_inserted lists old new numbers a are e stored = go (list_any (eq v) old) refl e
    where
      here : slice_get (map key new) a ≡ Some (key v)
      here = image_get key new a stored.0 stored.1 ∙ ap Some (sym ((decides v stored.0).0 stored.2))

      go : (b : Bool) → list_any (eq v) old ≡ b → new ≡ (if b then old else old ++ v ∷ []) →
          IsNumbering (lists ++ key v ∷ []) (map key new) (numbers ++ a ∷ [])
      go true f g =
          let same = ap (map key) g in
          subst (λ ks. IsNumbering (lists ++ key v ∷ []) ks (numbers ++ a ∷ [])) (sym same)
          (numbering_known lists (map key old) numbers are (key v) a (subst (λ ks. slice_get ks a ≡ Some (key v)) same here))
      go false f g =
          let same = ap (map key) g ∙ map_end old in
          let there = subst (λ ks. slice_get ks a ≡ Some (key v)) same here in
          let next = ⊎_elim (λ h. absurd (none_equal old a f h)) (λ h. h.1) (get_end (map key old) (key v) (key v) a there) in
          subst (λ ks. IsNumbering (lists ++ key v ∷ []) ks (numbers ++ a ∷ [])) (sym same)
          (numbering_new lists (map key old) numbers are (key v) a (λ j h. none_equal old j f h) next)
