-- Names that are queued as they are marked, and marks that are closed along the queue: for the names that a closure brings.
use Rattle.std.proofs.Common.{◌≡◌, ◌∙◌, ◌↔◌, ℕ, ◌+◌, ◌<◌, ◌≤◌, Bool, true, List, [], ◌∷◌, ◌++◌}
use Rattle.std.proofs.Common.{length, take, set, get_or, refl, sym, ap, subst, inl, inr, ⊎_elim, arith, Contains, Some, slice_get}
use Rattle.std.specs.Prelude.{slice_index_or}
use Rattle.std.proofs.lemmas.Bool.{cases_lt}
use Rattle.std.proofs.lemmas.List.{take_all}
use Rattle.std.proofs.lemmas.List.Elements.{Contains-append_cases, Contains-append_left, Contains-append_right}
use Rattle.std.proofs.lemmas.Option.{slice_get_within}
use Rattle.lalrpop_lr1_theory.proofs.ListLemmas.{contains_get, contains_here, get_contains, get_front}
use Rattle.lalrpop_lr1_theory.proofs.StepLemmas.{some_same}
use Rattle.lalrpop_lr1_barren.specs.Clauses.{Follows, IsMarked, by_clause, marked}
use Rattle.lalrpop_lr1_barren.proofs.ClauseLemmas.{set_from, set_kept, set_long, set_there}
use Rattle.lalrpop_lr1_check_lookaheads.proofs.GainLemmas.{taken_one}
use Rattle.lalrpop_lr1_theory.proofs.NameLemmas.{no_element}
use Rattle.lalrpop_lr1_check_lookaheads.proofs.MoveLemmas.{get_long}
use Rattle.lalrpop_lr1_check.specs.BeginLists.{AreClosingNames, ListsBegins, Queues}
use Rattle.lalrpop_lr1_check.proofs.BeginLemmas.{only_one}

-- no number is queued
pub queues_none : (old : List Bool) (queue : List ℕ) → Queues [] old old queue queue
queues_none old queue = record {
  count = refl;
  kept = λ j n e. e;
  has = λ n m. m;
  from = λ n m. inl m;
  marks = λ n c. absurd (no_element n c);
  queued = λ q. q;
  only = λ n c. inl c;
}

-- a number that was marked, or has no mark
pub queues_kept : (number : ℕ) (old : List Bool) (queue : List ℕ) → (number < length old → IsMarked old number) →
    Queues (number ∷ []) old old queue queue
queues_kept number old queue was = record {
  count = refl;
  kept = λ j n e. e;
  has = λ n m. m;
  from = λ n m. inl m;
  marks = λ n c l. let e = only_one number n c in subst (IsMarked old) e (was (omega (arith, e, l)));
  queued = λ q. q;
  only = λ n c. inl c;
}

-- one that wasn't
pub queues_new : (number : ℕ) (old new : List Bool) (queue more : List ℕ) → number < length old → new ≡ set old number true →
    more ≡ queue ++ number ∷ [] → Queues (number ∷ []) old new queue more
queues_new number old new queue more within is longer = record {
  count = ap length is ∙ set_long old number;
  kept = λ j n e. ap (λ l. slice_get l j) longer ∙ get_front queue (number ∷ []) j n e;
  has = λ n m. subst (λ l. IsMarked l n) (sym is) (set_kept old number n m);
  from = λ n m. ⊎_elim
      (λ e. inr (subst (Contains (number ∷ [])) (sym e) (contains_here number [])))
      (λ o. inl o) (set_from old number n (subst (λ l. IsMarked l n) is m));
  marks = λ n c l. subst (λ k. IsMarked new k) (only_one number n c)
      (subst (λ l. IsMarked l number) (sym is) (set_there old number within));
  queued = λ q n m. subst (λ l. Contains l n) (sym longer) (⊎_elim
      (λ e. Contains-append_right queue (number ∷ []) n (subst (Contains (number ∷ [])) (sym e) (contains_here number [])))
      (λ o. Contains-append_left queue (number ∷ []) n (q n o))
      (set_from old number n (subst (λ l. IsMarked l n) is m)));
  only = λ n c. Contains-append_cases queue (number ∷ []) n (subst (λ l. Contains l n) longer c);
}

-- numbers one after another
pub queues_both : (xs ys : List ℕ) (a b c : List Bool) (q r s : List ℕ) → Queues xs a b q r → Queues ys b c r s →
    Queues (xs ++ ys) a c q s
queues_both xs ys a b c q r s g h = record {
  count = h.count ∙ g.count;
  kept = λ j n e. h.kept j n (g.kept j n e);
  has = λ n m. h.has n (g.has n m);
  from = λ n m. ⊎_elim
      (λ o. ⊎_elim (λ e. inl e) (λ x. inr (Contains-append_left xs ys n x)) (g.from n o))
      (λ y. inr (Contains-append_right xs ys n y)) (h.from n m);
  marks = λ n d l. ⊎_elim (λ x. h.has n (g.marks n x l)) (λ y. h.marks n y (omega (arith, l, g.count)))
      (Contains-append_cases xs ys n d);
  queued = λ w. h.queued (g.queued w);
  only = λ n d. ⊎_elim
      (λ e. ⊎_elim (λ o. inl o) (λ x. inr (Contains-append_left xs ys n x)) (g.only n e))
      (λ y. inr (Contains-append_right xs ys n y)) (h.only n d);
}

module _ (xs : List ℕ) (a b c : List Bool) (q r s : List ℕ) (i : ℕ) where
  -- one number more of the first ones
  pub queues_more : (x : ℕ) → i < length xs → x ≡ get_or xs i x → Queues (take i xs) a b q r → Queues (x ∷ []) b c r s →
      Queues (take (i + 1) xs) a c q s
  queues_more x l e g h =
      subst (λ ys. Queues ys a c q s) (sym (taken_one xs i x l e)) (queues_both (take i xs) (x ∷ []) a b c q r s g h)

  -- all of them
  pub queues_all : length xs ≤ i → Queues (take i xs) a b q r → Queues xs a b q r
  queues_all h g = subst (λ ys. Queues ys a b q r) (take_all i xs h) g

module _ (clauses : List (List ℕ × ℕ)) (lists : List (List ℕ)) (are : ListsBegins clauses lists) (first : List Bool) where
  -- nothing is looked at yet
  pub names_start : (queue : List ℕ) → ((n : ℕ) → Contains queue n ↔ IsMarked first n) →
      AreClosingNames clauses lists first first queue 0
  names_start queue says = record {
    count = refl;
    has = λ n m. m;
    queued = λ n m. (says n).1 m;
    sound = λ n c. marked n ((says n).0 c);
    closed = λ j n s l. absurd (omega (arith, l));
  }

  module _ (now new : List Bool) (queue more : List ℕ) (done own : ℕ) (within : (c : List ℕ × ℕ) → Contains clauses c →
      c.1 < length first) where
    -- a name more is looked at
    pub names_more : AreClosingNames clauses lists first now queue done → slice_get queue done ≡ Some own →
        Queues (slice_index_or lists own []) now new queue more → AreClosingNames clauses lists first new more (done + 1)
    names_more c at gain = record {
      count = gain.count ∙ c.count;
      has = λ n m. gain.has n (c.has n m);
      queued = gain.queued c.queued;
      sound = λ n d. ⊎_elim
          (λ o. c.sound n o)
          (λ b. by_clause (own ∷ []) n ((are own n).0 b)
          (λ k e. subst (Follows clauses first) (only_one own k e) (c.sound own (get_contains queue done own at))))
          (gain.only n d);
      closed = λ j n s l e b. ⊎_elim
          (λ h. gain.has s (c.closed j n s h (was j n h e) b))
          (λ h.
          let last : j ≡ done = omega (arith, l, h) in
          let same : n ≡ own =
          some_same n own (sym e ∙ ap (slice_get more) last ∙ gain.kept done own at) in
          let b2 : Contains (slice_index_or lists own []) s = subst (λ k. Contains (slice_index_or lists k []) s) same b in
          gain.marks s b2 (omega (arith, within (own ∷ [], s) ((are own s).0 b2), c.count)))
          (cases_lt j done);
    }
      where
        was : (j n : ℕ) → j < done → slice_get more j ≡ Some n → slice_get queue j ≡ Some n
        was j n l e =
            let r = get_long queue j (omega (arith, l, slice_get_within queue done own at)) in
            r.1 ∙ ap Some (some_same r.0 n (sym (gain.kept j r.0 r.1) ∙ e))

  -- all are looked at
  pub names_end : (now : List Bool) (queue : List ℕ) (done : ℕ) →
      ((c : List ℕ × ℕ) → Contains clauses c → (from : ℕ) × (◌≡◌ {A = List ℕ × ℕ} (from ∷ [], c.1) c)) →
      length queue ≤ done → AreClosingNames clauses lists first now queue done → (n : ℕ) →
      IsMarked now n ↔ Follows clauses first n
  names_end now queue done one past c n = (λ m. c.sound n (c.queued n m), there n)
    where
      there : (k : ℕ) → Follows clauses first k → IsMarked now k
      there k (marked _ m) = c.has k m
      there k (by_clause needs _ among f) =
          let o = one (needs, k) among in
          let need : Contains needs o.0 = subst (λ (l : List ℕ). Contains l o.0) (ap (λ q. q.0) o.1) (contains_here o.0 []) in
          let m = there o.0 (f o.0 need) in
          let g = contains_get queue o.0 (c.queued o.0 m) in
          c.closed g.0 o.0 k (omega (arith, past, slice_get_within queue g.0 o.0 g.1)) g.1
          ((are o.0 k).1 (subst (Contains clauses) (sym o.1) among))

  -- just what follows is queued then
  pub queue_end : (now : List Bool) (queue : List ℕ) (done : ℕ) → AreClosingNames clauses lists first now queue done →
      ((n : ℕ) → IsMarked now n ↔ Follows clauses first n) → (n : ℕ) → Contains queue n ↔ IsMarked now n
  queue_end now queue done c says n = (λ d. (says n).1 (c.sound n d), λ m. c.queued n m)
