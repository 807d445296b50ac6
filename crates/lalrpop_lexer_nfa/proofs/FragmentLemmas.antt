-- What parts of an automaton read, put together. For the functions that build an automaton from a tree.
use Rattle.std.proofs.Common.{◌≡◌, ℕ, zero, suc, ◌<◌, ◌≤◌, ◌⊎◌, List, [], ◌∷◌, ◌++◌, inl, inr, ⊎_elim}
use Rattle.std.proofs.Common.{sym, ap, ◌∙◌, refl, subst, arith, append_assoc}
use Rattle.lalrpop_lexer_pattern.specs.Matches.{Power}
use Rattle.lalrpop_lexer_nfa.specs.Paths.{Graph, HasEpsilonEdge, HasTransition, IsPath}
use Rattle.lalrpop_lexer_nfa.specs.Growth.{HasNoEpsilonEdges, HasNoTransitions}
use Rattle.lalrpop_lexer_nfa.specs.Fragments.{AgreeOn, IsSplitPath, ReadsJust, Concatenation, KleeneStar, IsOneOf}

-- a graph agrees with itself
pub AgreeOn-refl : (t : Graph) (lo hi : ℕ) → AgreeOn t t lo hi
AgreeOn-refl t lo hi = record {
  leads = λ q r a b h. h;
  leads_back = λ q r a b h. h;
  reads = λ q c r a b h. h;
  reads_back = λ q c r a b h. h;
}

-- of three graphs, the first agrees with the last where neighbours agree
pub AgreeOn-trans : {f t s : Graph} {lo hi : ℕ} → AgreeOn f t lo hi → AgreeOn t s lo hi → AgreeOn f s lo hi
AgreeOn-trans g h = record {
  leads = λ q r a b x. g.leads q r a b (h.leads q r a b x);
  leads_back = λ q r a b x. h.leads_back q r a b (g.leads_back q r a b x);
  reads = λ q c r a b x. g.reads q c r a b (h.reads q c r a b x);
  reads_back = λ q c r a b x. h.reads_back q c r a b (g.reads_back q c r a b x);
}

-- graphs that agree on some states agree on fewer of them
pub AgreeOn-narrow : {f t : Graph} {lo hi : ℕ} → (low high : ℕ) → lo ≤ low → high ≤ hi → AgreeOn f t lo hi
    → AgreeOn f t low high
AgreeOn-narrow low high a b g = record {
  leads = λ q r l h. g.leads q r (omega arith) (omega arith);
  leads_back = λ q r l h. g.leads_back q r (omega arith) (omega arith);
  reads = λ q c r l h. g.reads q c r (omega arith) (omega arith);
  reads_back = λ q c r l h. g.reads_back q c r (omega arith) (omega arith);
}

module _ {t : Graph} {L : List ℕ → Type 0} {s a : ℕ} where
  -- what the states of a part do holds also with more states counted to the part
  pub ReadsJust-wider : {lo hi : ℕ} (low high : ℕ) → low ≤ lo → hi ≤ high → ReadsJust t lo hi L s a
      → ReadsJust t low high L s a
  ReadsJust-wider {lo} {hi} low high l h d = record {
    sound = λ f g. d.sound f (AgreeOn-narrow lo hi l h g);
    complete = λ f g goal n w below. d.complete f (AgreeOn-narrow lo hi l h g) goal n w (omega arith);
  }

  -- a part does the same in each graph that agrees on its states
  pub ReadsJust-kept : {lo hi : ℕ} (new : Graph) → AgreeOn new t lo hi → ReadsJust t lo hi L s a → ReadsJust new lo hi L s a
  ReadsJust-kept new keeps d = record {
    sound = λ f g. d.sound f (AgreeOn-trans g keeps);
    complete = λ f g. d.complete f (AgreeOn-trans g keeps);
  }

  -- the same words, said otherwise
  pub ReadsJust-along : {lo hi : ℕ} (M : List ℕ → Type 0) → ((w : List ℕ) → L w → M w) → ((w : List ℕ) → M w → L w)
      → ReadsJust t lo hi L s a → ReadsJust t lo hi M s a
  ReadsJust-along M to from d = record {
    sound = λ f g goal n u v h. d.sound f g goal n u v (from u h);
    complete = λ f g goal n w low_goal h. let cut = d.complete f g goal n w low_goal h in
        record {
          front = cut.front;
          back = cut.back;
          steps = cut.steps;
          fewer = cut.fewer;
          is = cut.is;
          read = to cut.front cut.read;
          rest = cut.rest;
        };
  }

-- from a state on to itself the empty word is read
pub ReadsJust-nothing : (t : Graph) (lo hi a : ℕ) → ReadsJust t lo hi (λ w. w ≡ []) a a
ReadsJust-nothing t lo hi a = record {
  sound = λ f g goal n u v e h. (n, rw e h);
  complete = λ f g goal n w low_goal h. record { front = []; back = w; steps = n; fewer = omega arith; is = refl; read = refl; rest = h };
}

pub IsCut-then : {f : Graph} {L M : List ℕ → Type 0} {goal b a n : ℕ} {w : List ℕ} → (one : IsSplitPath f L goal b n w)
    → IsSplitPath f M goal a one.steps one.back → IsSplitPath f (Concatenation L M) goal a n w
IsCut-then one two = record {
  front = one.front ++ two.front;
  back = two.back;
  steps = two.steps;
  fewer = omega (arith, one.fewer, two.fewer);
  is = one.is ∙ ap (λ x. one.front ++ x) two.is ∙ sym (append_assoc one.front two.front two.back);
  read = (one.front, two.front, refl, one.read, two.read);
  rest = two.rest;
}

pub IsCut-along : {f : Graph} {L M : List ℕ → Type 0} {goal a n : ℕ} {w : List ℕ} → ((u : List ℕ) → L u → M u)
    → IsSplitPath f L goal a n w → IsSplitPath f M goal a n w
IsCut-along to cut = record {
  front = cut.front;
  back = cut.back;
  steps = cut.steps;
  fewer = cut.fewer;
  is = cut.is;
  read = to cut.front cut.read;
  rest = cut.rest;
}

pub IsCut-later : {f : Graph} {L : List ℕ → Type 0} {goal a n m : ℕ} {w : List ℕ} → n ≤ m → IsSplitPath f L goal a n w
    → IsSplitPath f L goal a m w
IsCut-later more cut = record {
  front = cut.front;
  back = cut.back;
  steps = cut.steps;
  fewer = omega (arith, cut.fewer);
  is = cut.is;
  read = cut.read;
  rest = cut.rest;
}

-- nothing is read, and all is left
pub IsCut-none : {f : Graph} {L : List ℕ → Type 0} {goal a n : ℕ} {w : List ℕ} → L [] → IsPath f goal n a w
    → IsSplitPath f L goal a n w
IsCut-none {n = n} {w = w} none h = record { front = []; back = w; steps = n; fewer = omega arith; is = refl; read = none; rest = h }

-- of two parts, the first of which goes on at the second: the words of the one, and then those of the other
pub ReadsJust-then : {t : Graph} {lo hi : ℕ} {L M : List ℕ → Type 0} {s b a : ℕ} → ReadsJust t lo hi L s b
    → ReadsJust t lo hi M b a → ReadsJust t lo hi (Concatenation L M) s a
ReadsJust-then {L = L} {M = M} {s = s} d e = record {
  sound = λ f g goal n u v h rest.
      let back = e.sound f g goal n h.1 v h.4 rest in
      let front = d.sound f g goal back.0 h.0 (h.1 ++ v) h.3 back.1 in (
        front.0,
        let P : List ℕ → Type 0 = λ x. IsPath f goal front.0 s x in
            subst P (sym (append_assoc h.0 h.1 v) ∙ ap (λ x. x ++ v) (sym h.2)) front.1,
      );
  complete = λ f g goal n w low_goal h. IsCut-then (d.complete f g goal n w low_goal h)
      (e.complete f g goal _ _ low_goal (d.complete f g goal n w low_goal h).rest);
}

-- a state that reads one number
pub ReadsJust-read : {t : Graph} {lo hi : ℕ} (P : ℕ → Type 0) (s a : ℕ) → lo ≤ s → s < hi → HasNoEpsilonEdges t s →
    ((c r : ℕ) → HasTransition t s c r → P c × (r ≡ a)) → ((c : ℕ) → P c → HasTransition t s c a)
    → ReadsJust t lo hi (IsOneOf P) s a
ReadsJust-read {t} {lo} {hi} P s a low high quiet only all = record {
  sound = λ f g goal n u v h rest. (suc n, inr (h.0, a, v, ap (λ x. x ++ v) h.1, g.reads s h.0 a low high (all h.0 h.2), rest));
  complete = λ f g goal n w low_goal h. back f g goal low_goal n w h;
}
  where
    back : (f : Graph) → AgreeOn f t lo hi → (goal : ℕ) → goal < lo → (n : ℕ) (w : List ℕ) → IsPath f goal n s w
        → IsSplitPath f (IsOneOf P) goal a n w
    back f g goal low_goal zero w h = absurd (omega (arith, h.0))
    back f g goal low_goal (suc n) w h =
        ⊎_elim (λ lead. absurd (quiet lead.0 (g.leads_back s lead.0 low high lead.1)))
        (λ read.
        let at = only read.0 read.1 (g.reads_back s read.0 read.1 low high read.4) in
        record {
          front = read.0 ∷ [];
          back = read.2;
          steps = n;
          fewer = omega arith;
          is = read.3;
          read = (read.0, refl, at.0);
          rest = (let Q : ℕ → Type 0 = λ r. IsPath f goal n r read.2 in subst Q at.1 read.5);
        })
        h

-- a state that goes on without reading, in one of several ways
pub ReadsJust-branch : {t : Graph} {lo hi : ℕ} {I : Type 0} (to : I → ℕ) (K : I → List ℕ → Type 0) (s a : ℕ) → lo ≤ s
    → s < hi → HasNoTransitions t s →
    ((r : ℕ) → HasEpsilonEdge t s r → (i : I) × (r ≡ to i)) → ((i : I) → HasEpsilonEdge t s (to i))
    → ((i : I) → ReadsJust t lo hi (K i) (to i) a) →
    ReadsJust t lo hi (λ w. (i : I) × K i w) s a
ReadsJust-branch {t} {lo} {hi} {I} to K s a low high quiet only all each = record {
  sound = λ f g goal n u v h rest.
      let m = (each h.0).sound f g goal n u v h.1 rest in
      (suc m.0, inl (to h.0, g.leads s (to h.0) low high (all h.0), m.1));
  complete = λ f g goal n w low_goal h. back f g goal low_goal n w h;
}
  where
    back : (f : Graph) → AgreeOn f t lo hi → (goal : ℕ) → goal < lo → (n : ℕ) (w : List ℕ) → IsPath f goal n s w
        → IsSplitPath f (λ w. (i : I) × K i w) goal a n w
    back f g goal low_goal zero w h = absurd (omega (arith, h.0))
    back f g goal low_goal (suc n) w h =
        ⊎_elim
        (λ lead.
        let at = only lead.0 (g.leads_back s lead.0 low high lead.1) in
        IsCut-later (omega arith) (IsCut-along (λ u k. (at.0, k))
        ((each at.0).complete f g goal n w low_goal (let Q : ℕ → Type 0 = λ r. IsPath f goal n r w in subst Q at.1 lead.2))))
        (λ read. absurd (quiet read.0 read.1 (g.reads_back s read.0 read.1 low high read.4)))
        h

-- a state that leaves, or goes round once more
pub ReadsJust-star : {t : Graph} {lo hi : ℕ} {L : List ℕ → Type 0} (s round a : ℕ) → lo ≤ s → s < hi
    → HasNoTransitions t s →
    ((r : ℕ) → HasEpsilonEdge t s r → (r ≡ a) ⊎ (r ≡ round)) → HasEpsilonEdge t s a → HasEpsilonEdge t s round
    → ReadsJust t lo hi L round s → ReadsJust t lo hi (KleeneStar L) s a
ReadsJust-star {t} {lo} {hi} {L} s round a low high quiet only leave again once = record {
  sound = λ f g goal n u v h rest. forth f g goal h.0 n u v h.1 rest;
  complete = λ f g goal n w low_goal h. back f g goal low_goal n n w (omega arith) h;
}
  where
    forth : (f : Graph) → AgreeOn f t lo hi → (goal k n : ℕ) (u v : List ℕ) → Power L k u → IsPath f goal n a v → (m : ℕ)
        × IsPath f goal m s (u ++ v)
    forth f g goal zero n u v e rest = (suc n, inl (a, g.leads s a low high leave, rw e rest))
    forth f g goal (suc k) n u v h rest =
        let others = forth f g goal k n h.1 v h.4 rest in
        let first = once.sound f g goal others.0 h.0 (h.1 ++ v) h.3 others.1 in (
          suc first.0,
          inl (
            round,
            g.leads s round low high again,
            let P : List ℕ → Type 0 =
                λ x. IsPath f goal first.0 round x in subst P (sym (append_assoc h.0 h.1 v) ∙ ap (λ x. x ++ v) (sym h.2)) first.1,
          ),
        )

    back : (f : Graph) → AgreeOn f t lo hi → (goal : ℕ) → goal < lo → (fuel n : ℕ) (w : List ℕ) → n ≤ fuel
        → IsPath f goal n s w → IsSplitPath f (KleeneStar L) goal a n w
    back f g goal low_goal fuel zero w less h = absurd (omega (arith, h.0))
    back f g goal low_goal zero (suc n) w less h = absurd (omega arith)
    back f g goal low_goal (suc fuel) (suc n) w less h =
        ⊎_elim
        (λ lead. ⊎_elim
        (λ out. IsCut-later (omega arith)
        (IsCut-none (zero, refl) (let Q : ℕ → Type 0 = λ r. IsPath f goal n r w in subst Q out lead.2)))
        (λ turn.
        let one = once.complete f g goal n w low_goal (let Q : ℕ → Type 0 = λ r. IsPath f goal n r w in subst Q turn lead.2) in
        let others = back f g goal low_goal fuel one.steps one.back (omega (arith, one.fewer)) one.rest in
        IsCut-later (omega arith) (IsCut-along (λ u x. (suc x.4.0, (x.0, x.1, x.2, x.3, x.4.1))) (IsCut-then one others)))
        (only lead.0 (g.leads_back s lead.0 low high lead.1)))
        (λ read. absurd (quiet read.0 read.1 (g.reads_back s read.0 read.1 low high read.4)))
        h
