-- Lists that are made in order, one element more: for the start's items, the reductions of a state, and edges put into maps.
use Rattle.std.proofs.Common.{◌≡◌, ◌∙◌, ◌+◌, ◌<◌, ◌≤◌, ℕ, zero, suc, Bool, true, false, eqb}
use Rattle.std.proofs.Common.{cond, List, [], ◌∷◌, ◌++◌, length, take}
use Rattle.std.proofs.Common.{drop, get_or, Some, slice_get, refl, sym, ap, subst, arith, append-nil, eq-eqb, length-append, ⊎_elim}
use Rattle.std.specs.Borrow.{Bor}
use Rattle.std.specs.List.{AllZip}
use Rattle.std.specs.Str.{bytes_eq}
use Rattle.std.proofs.lemmas.Option.{slice_get_within}
use Rattle.lalrpop_grammar_symbols.specs.declared.names.NonterminalString.{NonterminalString}
use Rattle.lalrpop_grammar_repr.specs.declared.production.Production.{Production}
use Rattle.lalrpop_lr1_core.specs.declared.item.Item.{Item}
use Rattle.lalrpop_lr1_core.specs.declared.state.State.{State}
use Rattle.lalrpop_sets.specs.AscendingLists.{Ascends}
use Rattle.lalrpop_lr1_first.specs.declared.numbered.Numbered.{Numbered}
use Rattle.lalrpop_lr1_first.specs.declared.place.NumberedRule.{NumberedRule}
use Rattle.lalrpop_lr1_first.proofs.AddLemmas.{taken_more}
use Rattle.lalrpop_sets.proofs.AscendingListLemmas.{eqb_not}
use Rattle.lalrpop_lr1_build.specs.Kernels.{places_of}
use Rattle.lalrpop_lr1_build.specs.declared.states.numbered_states.NumberedState.{NumberedState}
use Rattle.lalrpop_lr1_build.proofs.StateEdgeLemmas.{get_parts}
use Rattle.lalrpop_lr1_build.specs.PublicStates.{ArePublicStates, IsPublicState, finished_entries, start_items}
use Rattle.lalrpop_lr1_build.proofs.MapEdgeLemmas.{front_ascends}
use Rattle.lalrpop_lr1_build.proofs.ListLemmas.{take_get}

take_drop : {X : Type 0} (i : ℕ) (xs : List X) → take i xs ++ drop i xs ≡ xs
take_drop zero xs = refl
take_drop (suc i) [] = refl
take_drop (suc i) (x ∷ xs) = ap (λ ys. x ∷ ys) (take_drop i xs)

-- the first of edges in order are in order
pub taken_ascend : (edges : List (ℕ × ℕ)) (i : ℕ) (edge : ℕ × ℕ) → slice_get edges i
    ≡ Some edge → Ascends (places_of edges) →
    Ascends (places_of (take i edges ++ edge ∷ []))
taken_ascend edges i edge e h =
    subst (λ xs. Ascends (places_of xs)) (take_get edges i edge e)
    (front_ascends (take (i + 1) edges) (drop (i + 1) edges) 0
    (subst (λ xs. Ascends (places_of xs)) (sym (take_drop (i + 1) edges)) h))

-- all elements
pub taken_all : {X : Type 0} (xs : List X) (i : ℕ) → length xs ≤ i → take i xs ≡ xs
taken_all [] zero h = refl
taken_all [] (suc i) h = refl
taken_all (x ∷ xs) zero h = absurd (omega arith)
taken_all (x ∷ xs) (suc i) h = ap (λ ys. x ∷ ys) (taken_all xs i (omega arith))

taken_long : {X Y : Type 0} (n : ℕ) (xs : List X) (ys : List Y) → length xs ≡ length ys → length (take n xs) ≡ length (take n ys)
taken_long zero xs ys e = refl
taken_long (suc n) [] [] e = refl
taken_long (suc n) [] (y ∷ ys) e = absurd (omega arith)
taken_long (suc n) (x ∷ xs) [] e = absurd (omega arith)
taken_long (suc n) (x ∷ xs) (y ∷ ys) e = ap suc (taken_long n xs ys (omega arith))

-- what stands behind the first elements
pub get_behind : {X : Type 0} (xs : List X) (x : X) (ys : List X) → slice_get (xs ++ x ∷ ys) (length xs) ≡ Some x
get_behind [] x ys = refl
get_behind (z ∷ xs) x ys = get_behind xs x ys

-- one more pair in a relation
pub zip_push : {A B : Type 0} (R : A → B → Type 0) (xs : List A) (ys : List B) (x : A) (y : B) → AllZip R xs ys → R x y →
    AllZip R (xs ++ x ∷ []) (ys ++ y ∷ [])
zip_push R [] [] x y h e = (e, tt)
zip_push R [] (z ∷ ys) x y h e = absurd h
zip_push R (z ∷ xs) [] x y h e = absurd h
zip_push R (z ∷ xs) (v ∷ ys) x y h e = (h.0, zip_push R xs ys x y h.1 e)

-- one public state more
pub public_more : {L : Type 0} (table : Numbered) (done : List (NumberedState L)) (public : List (State L)) (state : NumberedState L)
    (seen : State L) (n : ℕ) → n ≡ length public → ArePublicStates table done public → IsPublicState table n state seen →
    ArePublicStates table (done ++ state ∷ []) (public ++ seen ∷ [])
public_more table done public state seen n e are made = record {
  count = omega (arith, length-append done (state ∷ []), length-append public (seen ∷ []), are.count);
  at = λ k st view f g. ⊎_elim
      (λ a. ⊎_elim
      (λ b. are.at k st view a b)
      (λ b. absurd (let l = slice_get_within done k st a in omega (arith, l, b.0, are.count))) (get_parts public seen k view g))
      (λ a. ⊎_elim
      (λ b. absurd (let l = slice_get_within public k view b in omega (arith, l, a.0, are.count)))
      (λ b. subst (λ s. IsPublicState table k s view) a.1 (subst (λ v. IsPublicState table k state v) b.1
      (subst (λ j. IsPublicState table j state seen) (let z : n ≡ k = omega (arith, e, b.0) in z) made)))
      (get_parts public seen k view g))
      (get_parts done state k st f);
}

-- the entry of an item, where it is finished
abbrev pub finished_one : {L : Type 0} → Item L → List (L × Bor Production)
finished_one item = cond (eqb item.index (length item.production.now.symbols)) ((item.lookahead, item.production) ∷ []) []

pub finished_more : {L : Type 0} (items : List (Item L)) (item : Item L) →
    finished_entries (items ++ item ∷ []) ≡ finished_entries items ++ finished_one item
finished_more [] item = refl
finished_more {L} (x ∷ items) item = go (eqb x.index (length x.production.now.symbols)) (finished_more items item)
  where
    go : (b : Bool) → finished_entries (items ++ item ∷ []) ≡ finished_entries items ++ finished_one item →
        cond b ((x.lookahead, x.production) ∷ finished_entries (items ++ item ∷ [])) (finished_entries (items ++ item ∷ []))
        ≡ cond b ((x.lookahead, x.production) ∷ finished_entries items) (finished_entries items) ++ finished_one item
    go true rec = ap (λ (rs : List (L × Bor Production)). (x.lookahead, x.production) ∷ rs) rec
    go false rec = rec

-- the item is finished
pub finished_taken : {L : Type 0} (items : List (Item L)) (i : ℕ) (item : Item L) → i < length items → item
    ≡ get_or items i item →
    item.index ≡ length item.production.now.symbols → (old new : List (L × Bor Production)) (l : L) →
    old ≡ finished_entries (take i items) → l ≡ item.lookahead → new ≡ old ++ (l, item.production) ∷ [] →
    new ≡ finished_entries (take (i + 1) items)
finished_taken {L} items i item h e end old new l before same more =
    more ∙ ap (λ (x : L). old ++ (x, item.production) ∷ []) same
    ∙ ap (λ (xs : List (L × Bor Production)). xs ++ (item.lookahead, item.production) ∷ []) before
    ∙ ap (λ b. finished_entries (take i items) ++ cond b ((item.lookahead, item.production) ∷ []) [])
    (sym (eq-eqb item.index (length item.production.now.symbols) end))
    ∙ sym (finished_more (take i items) item) ∙ sym (ap finished_entries (taken_more items i item h e))

-- it isn't
pub finished_skipped : {L : Type 0} (items : List (Item L)) (i : ℕ) (item : Item L) → i < length items → item
    ≡ get_or items i item →
    (item.index ≡ length item.production.now.symbols → ⊥) → (old : List (L × Bor Production)) →
    old ≡ finished_entries (take i items) → old ≡ finished_entries (take (i + 1) items)
finished_skipped {L} items i item h e not_end old before =
    before ∙ sym (append-nil (finished_entries (take i items)))
    ∙ ap (λ b. finished_entries (take i items) ++ cond b ((item.lookahead, item.production) ∷ []) [])
    (sym (eqb_not item.index (length item.production.now.symbols) not_end))
    ∙ sym (finished_more (take i items) item) ∙ sym (ap finished_entries (taken_more items i item h e))

module _ {L : Type 0} (start : NonterminalString) (l : L) where
  -- the item of a production, where it is the start's
  abbrev pub start_one : Production → NumberedRule → List (ℕ × L)
  start_one p r = cond (bytes_eq p.nonterminal.0 start.0) ((r.start, l) ∷ []) []

  pub start_more : (ps : List Production) (rules : List NumberedRule) (p : Production) (r : NumberedRule) → length ps ≡ length rules →
      start_items start l (ps ++ p ∷ []) (rules ++ r ∷ []) ≡ start_items start l ps rules ++ start_one p r
  start_more [] [] p r e = refl
  start_more [] (s ∷ rules) p r e = absurd (omega arith)
  start_more (q ∷ ps) [] p r e = absurd (omega arith)
  start_more (q ∷ ps) (s ∷ rules) p r e =
      go (bytes_eq q.nonterminal.0 start.0) (start_more ps rules p r (omega arith))
    where
      go : (b : Bool) → start_items start l (ps ++ p ∷ []) (rules ++ r ∷ []) ≡ start_items start l ps rules ++ start_one p r →
          cond b ((s.start, l) ∷ start_items start l (ps ++ p ∷ []) (rules ++ r ∷ []))
          (start_items start l (ps ++ p ∷ []) (rules ++ r ∷
          []))
          ≡ cond b ((s.start, l) ∷ start_items start l ps rules) (start_items start l ps rules) ++ start_one p r
      go true rec = ap (λ (xs : List (ℕ × L)). (s.start, l) ∷ xs) rec
      go false rec = rec

  -- the production is the start's
  pub start_taken : (ps : List Production) (rules : List NumberedRule) (n : ℕ) (p : Production) (r : NumberedRule) →
      slice_get ps n ≡ Some p → slice_get rules n ≡ Some r → length ps ≡ length rules → bytes_eq p.nonterminal.0 start.0
      ≡ true →
      (old new : List (ℕ × L)) (own : L) → old ≡ start_items start l (take n ps) (take n rules) → own ≡ l →
      new ≡ old ++ (r.start, own) ∷ [] → new ≡ start_items start l (take (n + 1) ps) (take (n + 1) rules)
  start_taken ps rules n p r e f long name old new own before same more =
      more ∙ ap (λ (x : L). old ++ (r.start, x) ∷ []) same ∙ ap (λ (xs : List (ℕ × L)). xs ++ (r.start, l) ∷ []) before
      ∙ ap (λ b. start_items start l (take n ps) (take n rules) ++ cond b ((r.start, l) ∷ []) []) (sym name)
      ∙ sym (start_more (take n ps) (take n rules) p r (taken_long n ps rules long))
      ∙ sym (ap (λ qs. start_items start l qs (take n rules ++ r ∷ [])) (take_get ps n p e))
      ∙ sym (ap (λ rs. start_items start l (take (n + 1) ps) rs) (take_get rules n r f))

  -- it isn't
  pub start_skipped : (ps : List Production) (rules : List NumberedRule) (n : ℕ) (p : Production) (r : NumberedRule) →
      slice_get ps n ≡ Some p → slice_get rules n ≡ Some r → length ps ≡ length rules → bytes_eq p.nonterminal.0 start.0
      ≡ false →
      (old : List (ℕ × L)) → old ≡ start_items start l (take n ps) (take n rules) →
      old ≡ start_items start l (take (n + 1) ps) (take (n + 1) rules)
  start_skipped ps rules n p r e f long name old before =
      before ∙ sym (append-nil (start_items start l (take n ps) (take n rules)))
      ∙ ap (λ b. start_items start l (take n ps) (take n rules) ++ cond b ((r.start, l) ∷ []) []) (sym name)
      ∙ sym (start_more (take n ps) (take n rules) p r (taken_long n ps rules long))
      ∙ sym (ap (λ qs. start_items start l qs (take n rules ++ r ∷ [])) (take_get ps n p e))
      ∙ sym (ap (λ rs. start_items start l (take (n + 1) ps) rs) (take_get rules n r f))
