-- A whole automaton: what leads from its start to its accepting states. For the functions that make automata from trees.
use Rattle.std.proofs.Common.{◌≡◌, ℕ, zero, suc, ◌<◌, ◌↔◌, List, [], ◌++◌, get_or, inl, ⊎_elim, sym, ap, ◌∙◌}
use Rattle.std.proofs.Common.{refl, subst, arith, append-nil}
use Rattle.std.proofs.lemmas.List.{get_or_default}
use Rattle.std.proofs.lemmas.List.Elements.{Contains-get_or}
use Rattle.lalrpop_lexer_nfa.specs.Paths.{Graph, IsPath, HasPath, IsCutOff}
use Rattle.lalrpop_lexer_nfa.specs.Growth.{HasNoEpsilonEdges, HasNoTransitions, HasNewEpsilonEdges, IsEmptyGraph}
use Rattle.lalrpop_lexer_nfa.specs.Fragments.{ReadsJust, AreFragments}
use Rattle.lalrpop_lexer_nfa.proofs.FragmentLemmas.{AgreeOn-refl, ReadsJust-kept}
use Rattle.lalrpop_lexer_nfa.proofs.GraphLemmas.{leads_new, leads_cases, AgreeOn-noops}

-- what is built leaves the first states without epsilon edges
pub no_leads_yet : (old mid : Graph) (L : ℕ → List ℕ → Type 0) (n size : ℕ) (places : List ℕ) (accept : ℕ → ℕ)
    → IsEmptyGraph old size → AreFragments old mid L n places accept →
    (q : ℕ) → q < size → HasNoEpsilonEdges mid q
no_leads_yet old mid L n size places accept bare parts q below r h =
    let x = parts.keeps.leads_back q r (omega arith) (omega (arith, bare.size)) h in
    absurd (omega (arith, (rw bare.noops at x.1).1))

-- parts for several languages, each going on at a state of its own, and a start that leads to each
module _ (old mid new : Graph) (L : ℕ → List ℕ → Type 0) (n size start : ℕ) (places : List ℕ) (accept : ℕ → ℕ)
    (bare : IsEmptyGraph old size) (start_in : start < size) (accept_in : (k : ℕ) → k < n → accept k < size)
    (other : (k : ℕ) → k < n → start ≡ accept k → ⊥)
    (distinct : (j k : ℕ) → j < n → k < n → accept j ≡ accept k → j ≡ k)
    (parts : AreFragments old mid L n places accept) (more : HasNewEpsilonEdges mid new start places) where
  no_leads : (q : ℕ) → q < size → HasNoEpsilonEdges mid q
  no_leads = no_leads_yet old mid L n size places accept bare parts

  no_reads : (q : ℕ) → q < size → HasNoTransitions new q
  no_reads q below c r h =
      let x = parts.keeps.reads_back q c r (omega arith) (omega (arith, bare.size)) (h.0, rw (← more.tests) h.1, h.2, h.3, h.4, h.5) in
      absurd (omega (arith, (rw bare.tests at x.1).1))

  part : (k : ℕ) → k < n → ReadsJust new old.count mid.count (L k) (get_or places k 0) (accept k)
  part k l = ReadsJust-kept new (AgreeOn-noops mid new start places more old.count mid.count (λ q l h e. omega (arith, bare.size)))
      (parts.each k l)

  -- no edge goes on from a state of the first ones but the start
  ended : (q goal m : ℕ) (w : List ℕ) → q < size → (start ≡ q → ⊥) → IsPath new goal m q w → (q ≡ goal) × (w ≡ [])
  ended q goal zero w l apart h = h
  ended q goal (suc m) w l apart h =
      ⊎_elim
      (λ lead. ⊎_elim (λ older. absurd (no_leads q l lead.0 older)) (λ at. absurd (apart at.0))
      (leads_cases mid new start places more q lead.0 lead.1))
      (λ read. absurd (no_reads q l read.0 read.1 read.4))
      h

  arrived : (goal m : ℕ) (w : List ℕ) → goal < size → (start ≡ goal → ⊥) → IsPath new goal m start w
      → (k : ℕ) × (k < n) × (accept k ≡ goal) × L k w
  arrived goal zero w l apart h = absurd (apart h.0)
  arrived goal (suc m) w l apart h =
      ⊎_elim
      (λ lead. ⊎_elim (λ older. absurd (no_leads start start_in lead.0 older))
      (λ own.
      let j = own.1.0 in
      let below : j < n = omega (arith, own.1.1, parts.count) in
      let at : get_or places j 0 ≡ lead.0 = get_or_default places j 0 lead.0 own.1.1 ∙ own.1.2 in
      let from : IsPath new goal m (get_or places j 0) w =
      (let Q : ℕ → Type 0 = λ r. IsPath new goal m r w in subst Q (sym at) lead.2) in
      let cut = (part j below).complete new (AgreeOn-refl new old.count mid.count) goal m w (omega (arith, bare.size)) from in
      let last = ended (accept j) goal cut.steps cut.back (accept_in j below) (other j below) cut.rest in
      let e : w ≡ cut.front = cut.is ∙ ap (λ v. cut.front ++ v) last.1 ∙ append-nil cut.front in
      (j, below, last.0, subst (L j) (sym e) cut.read))
      (leads_cases mid new start places more start lead.0 lead.1))
      (λ read. absurd (no_reads start start_in read.0 read.1 read.4))
      h

  -- what leads from the start to one of the first states leads to an accepting state, and is a word of its language
  pub reached : (goal : ℕ) (w : List ℕ) → goal < size → (start ≡ goal → ⊥) → HasPath new start w goal
      → (k : ℕ) × (k < n) × (accept k ≡ goal) × L k w
  reached goal w l apart h = arrived goal h.0 w l apart h.1

  -- one of the first states that is neither the start nor accepting is cut off
  pub cut_off : (q : ℕ) → q < size → (start ≡ q → ⊥) → ((k : ℕ) → k < n → accept k ≡ q → ⊥)
      → IsCutOff new start q
  cut_off q l apart none = record {
    unmet = λ w h. let x = reached q w l apart h in none x.0 x.1 x.2;
    last = λ w goal h. let x = ended q goal h.0 w l apart h.1 in (x.1, x.0);
  }

  forth : (k : ℕ) (w : List ℕ) → k < n → HasPath new start w (accept k) → L k w
  forth k w l h =
      let x = reached (accept k) w (accept_in k l) (other k l) h in
      let P : ℕ → Type 0 = λ i. L i w in
      subst P (distinct x.0 k x.1 l x.2) x.3

  back : (k : ℕ) (w : List ℕ) → k < n → L k w → HasPath new start w (accept k)
  back k w l h =
      let path = (part k l).sound new (AgreeOn-refl new old.count mid.count) (accept k) 0 w [] h (refl, refl) in (
        suc path.0,
        inl (
          get_or places k 0,
          leads_new mid new start places more (get_or places k 0) (Contains-get_or places k 0 (omega (arith, parts.count))),
          let P : List ℕ → Type 0 = λ v. IsPath new (accept k) path.0 (get_or places k 0) v in subst P (append-nil w) path.1,
        ),
      )

  -- from the start, just the words of each language lead to its accepting state
  pub whole : (k : ℕ) → k < n → (w : List ℕ) → HasPath new start w (accept k) ↔ L k w
  whole k l w = (λ h. forth k w l h, back k w l)
