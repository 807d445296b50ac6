-- Graphs that grow, and what their new parts read. For the functions that build an automaton from a tree.
use Rattle.std.proofs.Common.{◌≡◌, ℕ, zero, suc, ◌+◌, ◌-◌, ◌<◌, ◌≤◌, ◌⊎◌, List, [], ◌∷◌, ◌++◌}
use Rattle.std.proofs.Common.{length, get_or, Contains, All, inl, inr, ⊎_elim, sym, ap, ◌∙◌, refl, subst, arith, Bool, Option, Some}
use Rattle.std.proofs.Common.{None, IfSome}
use Rattle.std.proofs.lemmas.List.Elements.{Contains-append_left, Contains-append_right, Contains-append_cases, Contains-get_or}
use Rattle.std.proofs.lemmas.List.Elements.{All-contains, All-push, All-weaker}
use Rattle.std.proofs.Math.Seq.{get_or-append_seam}
use Rattle.std.proofs.lemmas.Bool.{cases_lt}
use Rattle.std.proofs.lemmas.List.{get_or_default, get_or_append_left, length-append}
use Rattle.lalrpop_lexer_pattern.specs.Matches.{Pattern, Matches, Power, alternation_all}
use Rattle.lalrpop_lexer_pattern.specs.Ranges.{InRanges}
use Rattle.lalrpop_lexer_pattern.specs.declared.class.Range.{Range}
use Rattle.lalrpop_lexer_nfa.proofs.ListLemmas.{Contains-head, Contains-tail, Contains-map, Contains-from_map, Contains-two}
use Rattle.lalrpop_lexer_nfa.proofs.LanguageLemmas.{literal_to, literal_from, any_to, any_from, least_to, least_from, plus_to, plus_from}
use Rattle.lalrpop_lexer_nfa.proofs.LanguageLemmas.{between_to}
use Rattle.lalrpop_lexer_nfa.proofs.LanguageLemmas.{between_from, up_to_none, up_to_to, up_to_from}
use Rattle.lalrpop_lexer_nfa.proofs.KindLemmas.{AddsNeither-same, AddsNeither-trans}
use Rattle.lalrpop_lexer_nfa.specs.Kinds.{AddsNeither}
use Rattle.lalrpop_lexer_nfa.specs.Paths.{Graph, EpsilonEdge, TransitionEdge, HasEpsilonEdge, HasTransition}
use Rattle.lalrpop_lexer_nfa.specs.Growth.{HasNoEpsilonEdges, HasNoTransitions, HasNoTransitionEdges, IsNewState, HasNewEpsilonEdges}
use Rattle.lalrpop_lexer_nfa.specs.Growth.{HasNewTransitions, IsSameGraph, epsilon_edges_from, transitions_from}
use Rattle.lalrpop_lexer_nfa.specs.Fragments.{AgreeOn, ReadsJust, IsFragment, AreFragments, IsBranch, IsReader, Concatenation, KleeneStar}
use Rattle.lalrpop_lexer_nfa.specs.Fragments.{UpTo, AtLeast, Optional, IsOneOf}
use Rattle.lalrpop_lexer_nfa.proofs.FragmentLemmas.{AgreeOn-refl, AgreeOn-trans, AgreeOn-narrow, ReadsJust-wider, ReadsJust-kept}
use Rattle.lalrpop_lexer_nfa.proofs.FragmentLemmas.{ReadsJust-along, ReadsJust-nothing, ReadsJust-then, ReadsJust-read, ReadsJust-branch}
use Rattle.lalrpop_lexer_nfa.proofs.FragmentLemmas.{ReadsJust-star}

-- no edge goes out from a state that isn't there
pub record AreInside (t : Graph) : Type 0 where
  pub noops : All (λ e. e.from < t.count) t.noops
  pub tests : All (λ e. e.from < t.count) t.tests

pub AreInside-no_leads : (t : Graph) (q : ℕ) → AreInside t → t.count ≤ q → HasNoEpsilonEdges t q
AreInside-no_leads t q inside out r h = omega (arith, All-contains (λ e. e.from < t.count) t.noops h.0 inside.noops h.1, h.2)

pub AreInside-no_reads : (t : Graph) (q : ℕ) → AreInside t → t.count ≤ q → HasNoTransitions t q
AreInside-no_reads t q inside out c r h = omega (arith, All-contains (λ e. e.from < t.count) t.tests h.0 inside.tests h.1, h.2)

-- the same edges
module _ (new old : Graph) (noops : new.noops ≡ old.noops) (tests : new.tests ≡ old.tests) where
  pub AgreeOn-same : (lo hi : ℕ) → AgreeOn new old lo hi
  AgreeOn-same lo hi = record {
    leads = λ q r a b h. (h.0, rw noops h.1, h.2, h.3);
    leads_back = λ q r a b h. (h.0, rw (← noops) h.1, h.2, h.3);
    reads = λ q c r a b h. (h.0, rw tests h.1, h.2, h.3, h.4, h.5);
    reads_back = λ q c r a b h. (h.0, rw (← tests) h.1, h.2, h.3, h.4, h.5);
  }

-- more epsilon edges, from one state
module _ (old new : Graph) (q : ℕ) (targets : List ℕ) (more : HasNewEpsilonEdges old new q targets) where
  pub leads_old : (p r : ℕ) → HasEpsilonEdge old p r → HasEpsilonEdge new p r
  leads_old p r h = (h.0, rw more.noops (Contains-append_left old.noops (epsilon_edges_from q targets) h.0 h.1), h.2, h.3)

  -- the new epsilon edges lead to the targets
  pub leads_new : (r : ℕ) → Contains targets r → HasEpsilonEdge new q r
  leads_new r h =
      let edge : ℕ → EpsilonEdge = λ x. record { from = q; to = x } in (
        edge r,
        rw more.noops (Contains-append_right old.noops (epsilon_edges_from q targets) (edge r) (Contains-map edge targets r h)),
        refl,
        refl,
      )

  -- an epsilon edge is an old one, or a new one to a target
  pub leads_cases : (p r : ℕ) → HasEpsilonEdge new p r → HasEpsilonEdge old p r ⊎ ((q ≡ p) × Contains targets r)
  leads_cases p r h =
      let edge : ℕ → EpsilonEdge = λ x. record { from = q; to = x } in
      ⊎_elim (λ there. inl (h.0, there, h.2, h.3))
      (λ own.
      let x = Contains-from_map edge targets h.0 own in
      inr (ap (λ e. e.from) x.2 ∙ h.2, let P : ℕ → Type 0 = Contains targets in subst P (ap (λ e. e.to) x.2 ∙ h.3) x.1))
      (Contains-append_cases old.noops (epsilon_edges_from q targets) h.0 (rw more.noops at h.1))

  -- on the other states nothing changed
  pub AgreeOn-noops : (lo hi : ℕ) → ((p : ℕ) → lo ≤ p → p < hi → q ≡ p → ⊥) → AgreeOn new old lo hi
  AgreeOn-noops lo hi apart = record {
    leads = λ p r a b h. leads_old p r h;
    leads_back = λ p r a b h. ⊎_elim (λ x. x) (λ is. absurd (apart p a b is.0)) (leads_cases p r h);
    reads = λ p c r a b h. (h.0, rw more.tests h.1, h.2, h.3, h.4, h.5);
    reads_back = λ p c r a b h. (h.0, rw (← more.tests) h.1, h.2, h.3, h.4, h.5);
  }

-- more transitions, from one state to another
module _ (old new : Graph) (q : ℕ) (ranges : List Range) (to : ℕ) (more : HasNewTransitions old new q ranges to) where
  abbrev edge_of : Range → TransitionEdge
  edge_of range = record { from = q; start = range.start; end = range.end; to = to }

  pub reads_old : (p c r : ℕ) → HasTransition old p c r → HasTransition new p c r
  reads_old p c r h = (h.0, rw more.tests (Contains-append_left old.tests (transitions_from q ranges to) h.0 h.1), h.2, h.3, h.4, h.5)

  pub reads_new : (c : ℕ) → InRanges ranges c → HasTransition new q c to
  reads_new c h = (
    edge_of h.0,
    rw more.tests
        (Contains-append_right old.tests (transitions_from q ranges to) (edge_of h.0) (Contains-map edge_of ranges h.0 h.1)),
    refl,
    h.2,
    h.3,
    refl,
  )

  pub reads_cases : (p c r : ℕ) → HasTransition new p c r → HasTransition old p c r ⊎ ((q ≡ p) × InRanges ranges c × (to ≡ r))
  reads_cases p c r h =
      ⊎_elim (λ there. inl (h.0, there, h.2, h.3, h.4, h.5))
      (λ own.
      let x = Contains-from_map edge_of ranges h.0 own in
      let P : TransitionEdge → Type 0 = λ e. (e.from ≡ p) × (e.start ≤ c) × (c ≤ e.end) × (e.to ≡ r) in
      let y : P (edge_of x.0) = subst P (sym x.2) (h.2, h.3, h.4, h.5) in
      inr (y.0, (x.0, x.1, y.1, y.2), y.3))
      (Contains-append_cases old.tests (transitions_from q ranges to) h.0 (rw more.tests at h.1))

  pub AgreeOn-tests : (lo hi : ℕ) → ((p : ℕ) → lo ≤ p → p < hi → q ≡ p → ⊥) → AgreeOn new old lo hi
  AgreeOn-tests lo hi apart = record {
    leads = λ p r a b h. (h.0, rw more.noops h.1, h.2, h.3);
    leads_back = λ p r a b h. (h.0, rw (← more.noops) h.1, h.2, h.3);
    reads = λ p c r a b h. reads_old p c r h;
    reads_back = λ p c r a b h. ⊎_elim (λ x. x) (λ is. absurd (apart p a b is.0)) (reads_cases p c r h);
  }

-- a new state has no edges
pub IsNewState-no_leads : (old new : Graph) (s : ℕ) → AreInside old → IsNewState old new s → HasNoEpsilonEdges new s
IsNewState-no_leads old new s inside state r h =
    AreInside-no_leads old s inside (omega (arith, state.is)) r (h.0, rw (← state.noops) h.1, h.2, h.3)

pub IsNewState-no_reads : (old new : Graph) (s : ℕ) → AreInside old → IsNewState old new s → HasNoTransitions new s
IsNewState-no_reads old new s inside state c r h =
    AreInside-no_reads old s inside (omega (arith, state.is)) c r (h.0, rw (← state.tests) h.1, h.2, h.3, h.4, h.5)

-- a new state has no transition, not even one without numbers
pub IsNewState-no_tests : (old new : Graph) (s : ℕ) → AreInside old → IsNewState old new s → HasNoTransitionEdges new s
IsNewState-no_tests old new s inside state e h from =
    omega (arith, state.is, All-contains (λ e. e.from < old.count) old.tests e inside.tests (rw (← state.tests) h), from)

-- a graph that stays as it is reads just the empty word
pub IsFragment-nothing : (t : Graph) (a : ℕ) → IsFragment t t (λ w. w ≡ []) a a
IsFragment-nothing t a =
    record {
      grows = omega arith;
      kinds = AddsNeither-same t.kinds t.kinds refl;
      inside = λ h. h;
      keeps = AgreeOn-refl t 0 t.count;
      does = ReadsJust-nothing t t.count t.count a;
    }

-- what is built for a language is built for each language of the same words
pub IsFragment-along : {old new : Graph} {L : List ℕ → Type 0} {s a : ℕ} (M : List ℕ → Type 0)
    → ((w : List ℕ) → L w → M w) → ((w : List ℕ) → M w → L w) → IsFragment old new L s a → IsFragment old new M s a
IsFragment-along M to from b =
    record { grows = b.grows; kinds = b.kinds; inside = b.inside; keeps = b.keeps; does = ReadsJust-along M to from b.does }

-- what reads L comes before what reads M
pub IsFragment-then : {old mid new : Graph} {L M : List ℕ → Type 0} {s b a : ℕ} → IsFragment old mid M b a
    → IsFragment mid new L s b → IsFragment old new (Concatenation L M) s a
IsFragment-then {old} {mid} {new} one two = record {
  grows = omega (arith, one.grows, two.grows);
  kinds = AddsNeither-trans one.kinds two.kinds;
  inside = λ h. two.inside (one.inside h);
  keeps = AgreeOn-trans (AgreeOn-narrow 0 old.count (omega arith) one.grows two.keeps) one.keeps;
  does = ReadsJust-then (ReadsJust-wider old.count new.count one.grows (omega arith) two.does)
      (ReadsJust-wider old.count new.count (omega arith) two.grows
      (ReadsJust-kept new (AgreeOn-narrow old.count mid.count (omega arith) (omega arith) two.keeps) one.does));
}

-- a new state, what is built to go on there, and that state then goes on at `a`, or goes round
module _ (old begun built new : Graph) (L : List ℕ → Type 0) (s round a : ℕ) (inside : AreInside old)
    (state : IsNewState old begun s) (body : IsFragment begun built L round s)
    (more : HasNewEpsilonEdges built new s (a ∷ round ∷ [])) where
  grown : (lo hi : ℕ) → ((q : ℕ) → lo ≤ q → q < hi → s ≡ q → ⊥) → AgreeOn new built lo hi
  grown lo hi apart = AgreeOn-noops built new s (a ∷ round ∷ []) more lo hi apart

  quiet : HasNoTransitions new s
  quiet c r h =
      IsNewState-no_reads old begun s inside state c r
      (body.keeps.reads_back s c r (omega arith) (omega (arith, state.grows)) (h.0, rw (← more.tests) h.1, h.2, h.3, h.4, h.5))

  only : (r : ℕ) → HasEpsilonEdge new s r → (r ≡ a) ⊎ (r ≡ round)
  only r h =
      ⊎_elim
      (λ older. absurd (IsNewState-no_leads old begun s inside state r
      (body.keeps.leads_back s r (omega arith) (omega (arith, state.grows)) older)))
      (λ own. ⊎_elim (λ e. inl (sym e)) (λ e. inr (sym e)) (Contains-two a round r own.1))
      (leads_cases built new s (a ∷ round ∷ []) more s r h)

  bigger : old.count ≤ new.count
  bigger = omega (arith, body.grows, more.count, state.is, state.grows)

  same_kinds : AddsNeither old.kinds new.kinds
  same_kinds = AddsNeither-trans (AddsNeither-trans state.kinds body.kinds) (AddsNeither-same built.kinds new.kinds more.kinds)

  agrees : AgreeOn new old 0 old.count
  agrees = AgreeOn-trans (grown 0 old.count (λ q l h e. omega (arith, state.is)))
      (AgreeOn-trans (AgreeOn-narrow 0 old.count (omega arith) (omega (arith, state.is, state.grows)) body.keeps)
      (AgreeOn-same begun old state.noops state.tests 0 old.count))

  -- one round
  once : ReadsJust new old.count new.count L round s
  once = ReadsJust-wider old.count new.count (omega (arith, state.is, state.grows)) (omega (arith, more.count))
      (ReadsJust-kept new (grown begun.count built.count (λ q l h e. omega (arith, state.grows))) body.does)

  -- any count of rounds
  rounds : ReadsJust new old.count new.count (KleeneStar L) s a
  rounds = ReadsJust-star s round a (omega (arith, state.is)) (omega (arith, body.grows, state.grows, more.count)) quiet only
      (leads_new built new s (a ∷ round ∷ []) more a (Contains-head a (round ∷ [])))
      (leads_new built new s (a ∷ round ∷ []) more round (Contains-tail a (round ∷ []) round (Contains-head round []))) once

  -- from that state on any count of words is read
  pub IsFragment-star : IsFragment old new (AtLeast L 0) s a
  IsFragment-star = IsFragment-along (AtLeast L 0) (λ w h. (h.0, omega arith, h.1)) (λ w h. (h.0, h.2))
      (record {
        grows = bigger;
        kinds = same_kinds;
        inside = λ h. omega (arith, bigger, state.is, state.grows, body.grows, more.count);
        keeps = agrees;
        does = rounds;
      })

  -- from what is built on, which leads to that state, one word or more
  pub IsFragment-plus : IsFragment old new (AtLeast L 1) round a
  IsFragment-plus = IsFragment-along (AtLeast L 1) (plus_to L) (plus_from L)
      (record {
        grows = bigger;
        kinds = same_kinds;
        inside = λ h. omega (arith, body.inside (omega (arith, state.is, state.grows)), more.count);
        keeps = agrees;
        does = ReadsJust-then once rounds;
      })

abbrev two_places : ℕ → ℕ → Unit {0} ⊎ Unit {0} → ℕ
two_places a b (inl x) = a
two_places a b (inr x) = b

abbrev two_words : (List ℕ → Type 0) → Unit {0} ⊎ Unit {0} → List ℕ → Type 0
two_words L (inl x) w = w ≡ []
two_words L (inr x) w = L w

-- a new state that goes on at `a` at once, or after what is built
pub IsFragment-optional : (old begun new : Graph) (L : List ℕ → Type 0) (s once a : ℕ) → IsFragment old begun L once a
    → IsBranch begun new s (a ∷ once ∷ []) → IsFragment old new (Optional L) s a
IsFragment-optional old begun new L s once a body top = record {
  grows = omega (arith, body.grows, top.grows);
  kinds = AddsNeither-trans body.kinds top.kinds;
  inside = λ h. omega (arith, top.is, top.grows);
  keeps = AgreeOn-trans (AgreeOn-narrow 0 old.count (omega arith) body.grows top.keeps) body.keeps;
  does = ReadsJust-along (Optional L) (λ w h. pick w h.0 h.1) (λ w h. ⊎_elim (λ e. (inl tt, e)) (λ l. (inr tt, l)) h)
      (ReadsJust-branch (two_places a once) (two_words L) s a (omega (arith, body.grows, top.is)) (omega (arith, top.is, top.grows))
      top.reads only all each);
}
  where
    pick : (w : List ℕ) (i : Unit {0} ⊎ Unit {0}) → two_words L i w → (w ≡ []) ⊎ L w
    pick w (inl x) h = inl h
    pick w (inr x) h = inr h

    each : (i : Unit {0} ⊎ Unit {0}) → ReadsJust new old.count new.count (two_words L i) (two_places a once i) a
    each (inl x) = ReadsJust-nothing new old.count new.count a
    each (inr x) = ReadsJust-wider old.count new.count (omega arith) (omega (arith, top.grows))
        (ReadsJust-kept new (AgreeOn-narrow old.count begun.count (omega arith) (omega arith) top.keeps) body.does)

    all : (i : Unit {0} ⊎ Unit {0}) → HasEpsilonEdge new s (two_places a once i)
    all (inl x) = top.all a (Contains-head a (once ∷ []))
    all (inr x) = top.all once (Contains-tail a (once ∷ []) once (Contains-head once []))

    only : (r : ℕ) → HasEpsilonEdge new s r → (i : Unit {0} ⊎ Unit {0}) × (r ≡ two_places a once i)
    only r h = ⊎_elim (λ e. (inl tt, sym e)) (λ e. (inr tt, sym e)) (Contains-two a once r (top.only r h))

-- a new state that reads the numbers of some ranges
pub IsReader-new : (old mid new : Graph) (s a : ℕ) (ranges : List Range) → AreInside old → IsNewState old mid s
    → HasNewTransitions mid new s ranges a → IsReader old new s a (InRanges ranges)
IsReader-new old mid new s a ranges inside state more = record {
  is = state.is;
  grows = omega (arith, state.is, state.grows, more.count);
  kinds = AddsNeither-trans state.kinds (AddsNeither-same mid.kinds new.kinds more.kinds);
  keeps = AgreeOn-trans (AgreeOn-tests mid new s ranges a more 0 old.count (λ q l h e. omega (arith, state.is)))
      (AgreeOn-same mid old state.noops state.tests 0 old.count);
  leads = λ r h. IsNewState-no_leads old mid s inside state r (h.0, rw (← more.noops) h.1, h.2, h.3);
  only = λ c r h.
      ⊎_elim (λ older. absurd (IsNewState-no_reads old mid s inside state c r older)) (λ own. (own.1, sym own.2))
      (reads_cases mid new s ranges a more s c r h);
  all = λ c h. reads_new mid new s ranges a more c h;
}

-- a state reads the same where the graph has the same states, epsilon edges and transitions
pub IsReader-same : (old mid new : Graph) (s a : ℕ) (P : ℕ → Type 0) → IsReader old mid s a P → IsSameGraph mid new
    → IsReader old new s a P
IsReader-same old mid new s a P r same = record {
  is = r.is;
  grows = omega (arith, r.grows, same.count);
  kinds = AddsNeither-trans r.kinds (AddsNeither-same mid.kinds new.kinds same.kinds);
  keeps = AgreeOn-trans (AgreeOn-same new mid same.noops same.tests 0 old.count) r.keeps;
  leads = λ x h. r.leads x (h.0, rw (← same.noops) h.1, h.2, h.3);
  only = λ c x h. r.only c x (h.0, rw (← same.tests) h.1, h.2, h.3, h.4, h.5);
  all = λ c h. let x = r.all c h in (x.0, rw same.tests x.1, x.2, x.3, x.4, x.5);
}

pub IsReader-along : {old new : Graph} {s a : ℕ} {P : ℕ → Type 0} (Q : ℕ → Type 0) → ((c : ℕ) → P c → Q c)
    → ((c : ℕ) → Q c → P c) → IsReader old new s a P → IsReader old new s a Q
IsReader-along Q to from r = record {
  is = r.is;
  grows = r.grows;
  kinds = r.kinds;
  keeps = r.keeps;
  leads = r.leads;
  only = λ c x h. (to c (r.only c x h).0, (r.only c x h).1);
  all = λ c h. r.all c (from c h);
}

-- a new state that reads one number is built for the words of one such number
pub IsFragment-reader : (old new : Graph) (s a : ℕ) (P : ℕ → Type 0) → IsReader old new s a P → IsFragment old new (IsOneOf P) s a
IsFragment-reader old new s a P r = record {
  grows = omega (arith, r.grows);
  kinds = r.kinds;
  inside = λ h. omega (arith, r.is, r.grows);
  keeps = r.keeps;
  does = ReadsJust-read P s a (omega (arith, r.is)) (omega (arith, r.is, r.grows)) r.leads r.only r.all;
}

-- a new state that goes on at each of some targets
pub IsBranch-new : (old mid new : Graph) (s : ℕ) (targets : List ℕ) → AreInside old → IsNewState old mid s
    → HasNewEpsilonEdges mid new s targets → IsBranch old new s targets
IsBranch-new old mid new s targets inside state more = record {
  is = state.is;
  grows = omega (arith, state.is, state.grows, more.count);
  kinds = AddsNeither-trans state.kinds (AddsNeither-same mid.kinds new.kinds more.kinds);
  keeps = AgreeOn-trans (AgreeOn-noops mid new s targets more 0 old.count (λ q l h e. omega (arith, state.is)))
      (AgreeOn-same mid old state.noops state.tests 0 old.count);
  reads = λ c r h. IsNewState-no_reads old mid s inside state c r (h.0, rw (← more.tests) h.1, h.2, h.3, h.4, h.5);
  only = λ r h.
      ⊎_elim (λ older. absurd (IsNewState-no_leads old mid s inside state r older)) (λ own. own.1)
      (leads_cases mid new s targets more s r h);
  all = λ r h. leads_new mid new s targets more r h;
}

-- the ranges that hold one number alone
abbrev pub one_range : ℕ → List Range
one_range c = (record { start = c; end = c }) ∷ []

pub one_to : (c x : ℕ) → InRanges (one_range c) x → x ≡ c
one_to c x (r, (zero, l, e), a, b) = let s = ap (λ y. y.start) e in let t = ap (λ y. y.end) e in omega arith
one_to c x (r, (suc k, l, e), a, b) = absurd (omega arith)

pub one_from : (c x : ℕ) → x ≡ c → InRanges (one_range c) x
one_from c x e = (record { start = c; end = c }, Contains-head _ [], omega arith, omega arith)

-- a state in front that reads one number
pub IsFragment-literal : (old mid new : Graph) (s b a c : ℕ) (cs : List ℕ) → IsFragment old mid (Matches (Pattern.literal cs)) b a
    → IsReader mid new s b (InRanges (one_range c)) →
    IsFragment old new (Matches (Pattern.literal (c ∷ cs))) s a
IsFragment-literal old mid new s b a c cs body reader =
    IsFragment-along (Matches (Pattern.literal (c ∷ cs))) (literal_to c cs) (literal_from c cs)
    (IsFragment-then body (IsFragment-reader mid new s b (λ x. x ≡ c) (IsReader-along (λ x. x ≡ c) (one_to c) (one_from c) reader)))

-- several parts, and a state in front that goes on at each
pub AreFragments-none : (t : Graph) (L : ℕ → List ℕ → Type 0) (places : List ℕ) (a : ℕ → ℕ) → length places ≡ 0
    → AreFragments t t L 0 places a
AreFragments-none t L places a none =
    record {
      count = none;
      grows = omega arith;
      kinds = AddsNeither-same t.kinds t.kinds refl;
      keeps = AgreeOn-refl t 0 t.count;
      inside = λ k d l. absurd (omega arith);
      each = λ k l. absurd (omega arith);
    }

-- several parts, and then one more
pub AreFragments-push : (old mid new : Graph) (L : ℕ → List ℕ → Type 0) (n s : ℕ) (a : ℕ → ℕ) (places : List ℕ)
    → a n < mid.count → AreFragments old mid L n places a → IsFragment mid new (L n) s (a n) →
    AreFragments old new L (n + 1) (places ++ s ∷ []) a
AreFragments-push old mid new L n s a places goal before one = record {
  count = simp length-append (omega (arith, before.count));
  grows = omega (arith, before.grows, one.grows);
  kinds = AddsNeither-trans before.kinds one.kinds;
  keeps = AgreeOn-trans (AgreeOn-narrow 0 old.count (omega arith) before.grows one.keeps) before.keeps;
  inside = All-push (λ x. x < new.count) places s
      (All-weaker (λ x. x < mid.count) (λ x. x < new.count) (λ x h. omega (arith, one.grows)) places before.inside) (one.inside goal);
  each = λ k l. ⊎_elim
      (λ (less : k < n). rw (get_or_append_left places (s ∷ []) 0 k (omega (arith, before.count)))
      (ReadsJust-wider old.count new.count (omega arith) one.grows
      (ReadsJust-kept new (AgreeOn-narrow old.count mid.count (omega arith) (omega arith) one.keeps) (before.each k less))))
      (λ (more : n ≤ k).
      let e : k ≡ n = omega arith in
      let f : k ≡ length places = omega (arith, before.count) in
      let P : ℕ → ℕ → Type 0 = λ i q. ReadsJust new old.count new.count (L i) q (a i) in
      subst (λ i. P i (get_or (places ++ s ∷ []) k 0)) (sym e)
      (subst (P n) (sym (ap (λ i. get_or (places ++ s ∷ []) i 0) f ∙ get_or-append_seam places s [] 0))
      (ReadsJust-wider old.count new.count before.grows (omega arith) one.does)))
      (cases_lt k n);
}

-- several parts and a state in front that goes on at each are built for a choice of the patterns
pub IsFragment-branch : (old mid new : Graph) (ps : List Pattern) (s a : ℕ) (places : List ℕ) →
    AreFragments old mid (λ k. Matches (get_or ps k Pattern.empty)) (length ps) places (λ k. a) → IsBranch mid new s places
    → IsFragment old new (Matches (alternation_all ps)) s a
IsFragment-branch old mid new ps s a places parts top = record {
  grows = omega (arith, parts.grows, top.grows);
  kinds = AddsNeither-trans parts.kinds top.kinds;
  inside = λ h. omega (arith, top.is, top.grows);
  keeps = AgreeOn-trans (AgreeOn-narrow 0 old.count (omega arith) parts.grows top.keeps) parts.keeps;
  does = ReadsJust-along (Matches (alternation_all ps)) (λ w h. any_to ps h.0.0 w h.0.1 h.1)
      (λ w h. let x = any_from ps w h in ((x.0, x.1), x.2))
      (ReadsJust-branch {I = (k : ℕ) × (k < length ps)} (λ i. get_or places i.0 0) (λ i. Matches (get_or ps i.0 Pattern.empty)) s a
      (omega (arith, top.is, parts.grows)) (omega (arith, top.is, top.grows)) top.reads
      (λ r h. let x = top.only r h in ((x.0, omega (arith, x.1, parts.count)), sym x.2 ∙ get_or_default places x.0 r 0 x.1))
      (λ i. top.all _ (Contains-get_or places i.0 0 (omega (arith, i.1, parts.count))))
      (λ i. ReadsJust-wider old.count new.count (omega arith) (omega (arith, top.grows))
      (ReadsJust-kept new (AgreeOn-narrow old.count mid.count (omega arith) (omega arith) top.keeps) (parts.each i.0 i.1))));
}

-- a new state that nothing leads out of is built for no word at all
pub IsFragment-dead : (old new : Graph) (s a : ℕ) → AreInside old → IsNewState old new s → IsFragment old new (λ w. ⊥) s a
IsFragment-dead old new s a inside state =
    IsFragment-along (λ w. ⊥) (λ w h. h.2) (λ w h. absurd h)
    (IsFragment-reader old new s a (λ c. ⊥) (record {
      is = state.is;
      grows = omega (arith, state.is, state.grows);
      kinds = state.kinds;
      keeps = AgreeOn-same new old state.noops state.tests 0 old.count;
      leads = IsNewState-no_leads old new s inside state;
      only = λ c r h. absurd (IsNewState-no_reads old new s inside state c r h);
      all = λ c h. absurd h;
    }))

-- one more copy than so many, and the last as often as one likes
pub IsFragment-least : (old mid new : Graph) (L : List ℕ → Type 0) (least s b a : ℕ) → 0 < least
    → IsFragment old mid (AtLeast L 1) b a
    → IsFragment mid new (Power L (least - 1)) s b → IsFragment old new (AtLeast L least) s a
IsFragment-least old mid new L least s b a some last front =
    IsFragment-along (AtLeast L least) (least_to L least some) (least_from L least some) (IsFragment-then last front)

-- a copy, and behind it up to so many that may be left out; all of it may be left out
pub IsFragment-up_to : (old mid begun new : Graph) (L : List ℕ → Type 0) (count next once s a : ℕ)
    → IsFragment old mid (UpTo L count) next a
    → IsFragment mid begun L once next → IsBranch begun new s (a ∷ once ∷ []) → IsFragment old new (UpTo L (count + 1)) s a
IsFragment-up_to old mid begun new L count next once s a rest body top =
    IsFragment-along (UpTo L (count + 1)) (up_to_to L count) (up_to_from L count)
    (IsFragment-optional old begun new (Concatenation L (UpTo L count)) s once a (IsFragment-then rest body) top)

-- repetitions
module _ (p : Pattern) (least : ℕ) (greedy : Bool) where
  -- what is built for a least count of copies is built for a repetition without a greatest count
  pub IsFragment-at_least : (old new : Graph) (most : Option ℕ) (s a : ℕ) → most ≡ None
      → IsFragment old new (AtLeast (Matches p) least) s a
      → IsFragment old new (Matches (Pattern.repetition least most greedy p)) s a
  IsFragment-at_least old new most s a none all =
      let P : Option ℕ → Type 0 = λ x. IsFragment old new (Matches (Pattern.repetition least x greedy p)) s a in
      subst P (sym none) (IsFragment-along (Matches (Pattern.repetition least None greedy p)) (λ w h. (h.0, (h.1, tt), h.2))
      (λ w h. (h.0, h.1.0, h.2)) all)

  -- copies in front of some that may be left out are built for a repetition between two counts
  pub IsFragment-between : (old mid new : Graph) (most : Option ℕ) (n s b a : ℕ) → most ≡ Some n
      → IfSome most (λ m. least ≤ m) →
      IsFragment old mid (UpTo (Matches p) (n - least)) b a → IsFragment mid new (Power (Matches p) least) s b
      → IsFragment old new (Matches (Pattern.repetition least most greedy p)) s a
  IsFragment-between old mid new most n s b a some order rest front =
      let P : Option ℕ → Type 0 = λ x. IsFragment old new (Matches (Pattern.repetition least x greedy p)) s a in
      let Q : Option ℕ → Type 0 = λ x. IfSome x (λ m. least ≤ m) in
      let less : least ≤ n = subst Q some order in
      subst P (sym some) (IsFragment-along (Matches (Pattern.repetition least (Some n) greedy p)) (between_to p least greedy n less)
      (between_from p least greedy n less) (IsFragment-then rest front))

  -- a graph that stays as it is reads a repetition of at most no times
  pub IsFragment-no_repeat : (t : Graph) (most : Option ℕ) (a : ℕ) → most ≡ Some 0 → IfSome most (λ m. least ≤ m)
      → IsFragment t t (Matches (Pattern.repetition least most greedy p)) a a
  IsFragment-no_repeat t most a some order =
      let P : Option ℕ → Type 0 = λ x. IsFragment t t (Matches (Pattern.repetition least x greedy p)) a a in
      let Q : Option ℕ → Type 0 = λ x. IfSome x (λ m. least ≤ m) in
      let less : least ≤ 0 = subst Q some order in
      subst P (sym some) (IsFragment-along (Matches (Pattern.repetition least (Some 0) greedy p))
      (λ w h. (0, (omega arith, omega arith), h)) (λ w h. up_to_none (Matches p) w (h.0, h.1.1, h.2)) (IsFragment-nothing t a))
