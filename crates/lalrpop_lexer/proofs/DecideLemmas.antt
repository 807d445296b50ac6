-- What the whole automaton says of the patterns: the first tie or none, and the longest match. For `build_dfa`.
use Rattle.std.proofs.Common.{◌≡◌, ℕ, zero, suc, ◌+◌, ◌-◌, ◌<◌, ◌≤◌, ◌↔◌, List, [], ◌∷◌, ◌++◌}
use Rattle.std.proofs.Common.{length, get_or, take, Option, Some, None, ⊎_elim, sym, ap, ◌∙◌, refl, subst, arith, append_assoc}
use Rattle.std.proofs.Common.{length-append}
use Rattle.std.specs.Prelude.{slice_index_or, slice_get, option_and_then}
use Rattle.std.proofs.lemmas.Bool.{cases_lt, cases_eq}
use Rattle.std.proofs.lemmas.List.{take_at, length_push}
use Rattle.lalrpop_lexer_pattern.specs.Matches.{Pattern, Matches}
use Rattle.lalrpop_lexer_pattern.specs.Wins.{MatchesAt, Wins, Ties, IsFirstTie, HasNoTie}
use Rattle.lalrpop_lexer_nfa.specs.Paths.{Graph, HasPath}
use Rattle.lalrpop_lexer_nfa.specs.Sets.{IsReachedBy}
use Rattle.lalrpop_lexer_nfa.proofs.ArrivalLemmas.{leads_arrives}
use Rattle.lalrpop_lexer.specs.Numbering.{EdgeView, IsReachedByWord}
use Rattle.lalrpop_lexer.specs.Automaton.{IsAutomaton}
use Rattle.lalrpop_lexer.specs.Outcome.{IsBest, IsLastTie, IsAccepted}
use Rattle.lalrpop_lexer.specs.Ties.{AcceptsPattern}
use Rattle.lalrpop_lexer.specs.Simulation.{StateView, target_of, better_answer, simulate, answer_of, IsAnswer}
use Rattle.lalrpop_lexer.proofs.SubsetLemmas.{run_inside, run_set, run_from_arrives}
use Rattle.lalrpop_lexer.proofs.RunLemmas.{first_word}
use Rattle.lalrpop_lexer.proofs.WordLemmas.{word_of, are_words, word_runs}
use Rattle.lalrpop_lexer.proofs.StepLemmas.{step_some, step_none, arrives_before}

-- a front that ends past a number
take_past : (j : ℕ) (u : List ℕ) (c : ℕ) (v : List ℕ) → length u < j
    → take j (u ++ c ∷ v) ≡ u ++ c ∷ take (j - (length u + 1)) v
take_past zero u c v l = absurd (omega arith)
take_past (suc j) [] c v l = let e : j ≡ suc j - 1 = omega arith in ap (λ (m : ℕ). c ∷ take m v) e
take_past (suc j) (x ∷ u) c v l =
    let e : j - (length u + 1) ≡ suc j - (suc (length u) + 1) = omega arith in
    ap (λ (w : List ℕ). x ∷ w) (take_past j u c v (omega arith)) ∙ ap (λ (m : ℕ). x ∷ u ++ c ∷ take m v) e

module _ (t : Graph) (begin : ℕ) (sets : List (List ℕ)) (edges : ℕ → List EdgeView) (n : ℕ) (ps : List Pattern)
    (precedences : List ℕ)
    (a : IsAutomaton t begin sets edges n)
    (accepts : (k : ℕ) → k < length ps → (w : List ℕ) → HasPath t begin w (3 + k)
    ↔ Matches (slice_index_or ps k Pattern.empty) w) where
  matched : {w : List ℕ} {s : ℕ} → IsReachedByWord edges w s → (k : ℕ) → k < length ps → AcceptsPattern sets s k
      ↔ Matches (slice_index_or ps k Pattern.empty) w
  matched {w} {s} run k l =
      let is = run_set t begin sets edges n a.machine run (3 + k) in
      let lead = leads_arrives t begin w (3 + k) in
      let match = accepts k l w in
      (λ h. match.0 (lead.1 (is.0 h)), λ m. is.1 (lead.0 (match.1 m)))

  matched_arrives : (w : List ℕ) (e : ℕ) → MatchesAt ps e w → IsReachedBy t begin w (3 + e)
  matched_arrives w e m = (leads_arrives t begin w (3 + e)).0 ((accepts e m.0 w).1 m.1)

  matched_run : (w : List ℕ) (e : ℕ) → MatchesAt ps e w → (s : ℕ) × IsReachedByWord edges w s
  matched_run w e m = run_from_arrives t begin sets edges n a.machine (matched_arrives w e m)

  best_wins : {w : List ℕ} {s : ℕ} → IsReachedByWord edges w s → (e : ℕ)
      → IsBest (AcceptsPattern sets s) precedences (length ps) e → Wins ps precedences w e
  best_wins run e h = ((h.inside, (matched run e h.inside).0 h.matches), λ f apart m. h.above f m.0 ((matched run f m.0).1 m.1) apart)

  -- a state that accepts has no tie
  accepted_no_tie : {w : List ℕ} {s : ℕ} → IsReachedByWord edges w s → (o : Option ℕ)
      → IsAccepted (AcceptsPattern sets s) precedences (length ps) o → (e f : ℕ) → Ties ps precedences w e f → ⊥
  accepted_no_tie run None none e f tie = none e tie.first.0 ((matched run e tie.first.0).1 tie.first.1)
  accepted_no_tie run (Some b) best e f tie =
      let wins = best_wins run b best in
      let is_e : e ≡ b = ⊎_elim (λ (at : e ≡ b). at)
      (λ (apart : e ≡ b → ⊥). absurd (omega (arith, wins.1 e apart tie.first, tie.greatest b wins.0))) (cases_eq e b) in
      let is_f : f ≡ b = ⊎_elim (λ (at : f ≡ b). at)
      (λ (apart : f ≡ b → ⊥). absurd (omega (arith, wins.1 f apart tie.second, tie.same, tie.greatest b wins.0)))
      (cases_eq f b) in
      omega (arith, tie.apart)

  -- where each state accepts its best pattern, or nothing, no two patterns tie on any word
  pub no_ties : (accepted : ℕ → Option ℕ)
      → ((s : ℕ) → s < n → IsAccepted (AcceptsPattern sets s) precedences (length ps) (accepted s)) → HasNoTie ps precedences
  no_ties accepted kinds w e f tie =
      let run = matched_run w e tie.first in
      accepted_no_tie run.1 (accepted run.0) (kinds run.0 (run_inside t begin sets edges n a.machine run.1)) e f tie

  -- two patterns tie in the state
  abbrev TieIn : ℕ → Type 0
  TieIn s = (e f : ℕ) × (e < f) × (f < length ps) × AcceptsPattern sets s e × AcceptsPattern sets s f
      × (get_or precedences e 0 ≡ get_or precedences f 0)
      × ((g : ℕ) → g < length ps → AcceptsPattern sets s g → get_or precedences g 0 ≤ get_or precedences e 0)

  -- the first state with a tie gives the first tie
  pub first_tie : (s e f : ℕ) → s < n
      → ((r : ℕ) → r < s → (o : Option ℕ) × IsAccepted (AcceptsPattern sets r) precedences (length ps) o) →
      IsLastTie (AcceptsPattern sets s) precedences (length ps) e f → (w : List ℕ) × IsFirstTie ps precedences w e f
  first_tie s e f below earlier h =
      let word = word_of edges a.parent a.place in
      let run = word_runs edges n a.parent a.place a.seen s below in
      let words = are_words edges n a.parent a.place a.seen in
      let first_in : e < length ps = omega (arith, h.apart, h.inside) in (
        word s,
        record {
          ties = record {
            apart = h.apart;
            first = (first_in, (matched run e first_in).0 h.first);
            second = (h.inside, (matched run f h.inside).0 h.second);
            same = h.same;
            greatest = λ g m. h.greatest g m.0 ((matched run g m.0).1 m.1);
          };
          last = λ g k tie.
              let mg = (matched run g tie.first.0).1 tie.first.1 in
              let mk = (matched run k tie.second.0).1 tie.second.1 in
              let up = tie.greatest e (first_in, (matched run e first_in).0 h.first) in
              h.last g k tie.apart tie.second.0 mg mk tie.same (omega (arith, tie.same, up, h.greatest k tie.second.0 mk));
          first = λ v g k tie sooner.
              let other = matched_run v g tie.first in
              first_word edges n a.parent a.place word a.seen words TieIn s below
              (λ r less ties. no_tie_in (earlier r less).0 r (earlier r less).1 ties)
              other.1 (
                g,
                k,
                tie.apart,
                tie.second.0,
                (matched other.1 g tie.first.0).1 tie.first.1,
                (matched other.1 k tie.second.0).1 tie.second.1,
                tie.same,
                λ x l m. tie.greatest x (l, (matched other.1 x l).0 m),
              )
              sooner;
        },
      )
    where
      no_tie_in : (o : Option ℕ) (r : ℕ) → IsAccepted (AcceptsPattern sets r) precedences (length ps) o → TieIn r → ⊥
      no_tie_in None r none tie = none tie.1 tie.3 tie.5
      no_tie_in (Some b) r best tie =
          let is_e : tie.0 ≡ b = ⊎_elim (λ (at : tie.0 ≡ b). at)
          (λ (apart : tie.0 ≡ b → ⊥). absurd
          (omega (arith, best.above tie.0 (omega (arith, tie.2, tie.3)) tie.4 apart, tie.7 b best.inside best.matches)))
          (cases_eq tie.0 b) in
          let is_f : tie.1 ≡ b = ⊎_elim (λ (at : tie.1 ≡ b). at)
          (λ (apart : tie.1 ≡ b → ⊥). absurd
          (omega (arith, best.above tie.1 tie.3 tie.5 apart, tie.6, tie.7 b best.inside best.matches))) (cases_eq tie.1 b) in
          omega (arith, tie.2, is_e, is_f)

  -- where no edge reads the next number, no pattern matches a longer word
  stuck : (front : List ℕ) (s c : ℕ) (v : List ℕ) → IsReachedByWord edges front s → target_of (edges s) c ≡ None → (f : ℕ)
      → MatchesAt ps f (front ++ c ∷ v) → ⊥
  stuck front s c v run none f m =
      let b = arrives_before t begin (matched_arrives (front ++ c ∷ v) f m) front c v refl in
      let among = (run_set t begin sets edges n a.machine run b.0).1 b.2 in
      let k = a.machine.all s c b.0 b.1 (run_inside t begin sets edges n a.machine run) among b.3 in
      step_none (edges s) c none k.0 k.1.0 k.1.1 k.1.2

  module _ (accepted : ℕ → Option ℕ)
      (kinds : (s : ℕ) → s < n → IsAccepted (AcceptsPattern sets s) precedences (length ps) (accepted s))
      (nodes : List StateView) (nodes_are : (s : ℕ) → s < n → slice_get nodes s ≡ Some (accepted s, edges s))
      (text : List ℕ) where
    -- the answer is the best for fronts of at most so many numbers
    pub record IsBestOf (m e k : ℕ) : Type 0 where
      pub nonempty : 0 < k
      pub within : k ≤ m
      pub wins : Wins ps precedences (take k text) e
      pub longest : (j f : ℕ) → k < j → j ≤ m → MatchesAt ps f (take j text) → ⊥

    abbrev IsUpTo : ℕ → Option (ℕ × ℕ) → Type 0
    IsUpTo m None = (j f : ℕ) → 0 < j → j ≤ m → MatchesAt ps f (take j text) → ⊥
    IsUpTo m (Some (e, k)) = IsBestOf m e k

    -- no longer front is matched
    end_here : (m : ℕ) (best : Option (ℕ × ℕ)) → m ≤ length text → IsUpTo m best
        → ((j f : ℕ) → m < j → j ≤ length text → MatchesAt ps f (take j text) → ⊥) → IsAnswer ps precedences text best
    end_here m None inside h over =
        λ j f some l match. ⊎_elim (λ (less : m < j). over j f less l match) (λ (ge : j ≤ m). h j f some ge match) (cases_lt m j)
    end_here m (Some (e, k)) inside h over = record {
      nonempty = h.nonempty;
      within = omega (arith, h.within);
      wins = h.wins;
      longest = λ j f past l match. ⊎_elim (λ (less : m < j). over j f less l match) (λ (ge : j ≤ m). h.longest j f past ge match)
          (cases_lt m j);
    }

    -- one number more
    none_more : (m : ℕ) (best : Option (ℕ × ℕ)) → ((f : ℕ) → MatchesAt ps f (take (m + 1) text) → ⊥) → IsUpTo m best
        → IsUpTo (m + 1) best
    none_more m None bare h = λ j f some l match.
        ⊎_elim (λ (less : j < m + 1). h j f some (omega arith) match)
        (λ (ge : m + 1 ≤ j). let at : j ≡ m + 1 = omega arith in
        let P : ℕ → Type 0 = λ i. MatchesAt ps f (take i text) in bare f (subst P at match)) (cases_lt j (m + 1))
    none_more m (Some (e, k)) bare h = record {
      nonempty = h.nonempty;
      within = omega (arith, h.within);
      wins = h.wins;
      longest = λ j f over l match.
          ⊎_elim (λ (less : j < m + 1). h.longest j f over (omega arith) match)
          (λ (ge : m + 1 ≤ j). let at : j ≡ m + 1 = omega arith in
          let P : ℕ → Type 0 = λ i. MatchesAt ps f (take i text) in bare f (subst P at match)) (cases_lt j (m + 1));
    }

    better_right : (front rest : List ℕ) (s : ℕ) (es : List EdgeView) (o : Option ℕ) (m : ℕ) (best : Option (ℕ × ℕ))
        → text ≡ front ++ rest → length front ≡ m + 1 → IsReachedByWord edges front s →
        IsAccepted (AcceptsPattern sets s) precedences (length ps) o → IsUpTo m best
        → IsUpTo (m + 1) (better_answer (Some (o, es)) (m + 1) best)
    better_right front rest s es None m best is size run none h =
        let taken : take (m + 1) text ≡ front = ap (take (m + 1)) is ∙ take_at front rest (m + 1) size in
        none_more m best (λ f match. let P : List ℕ → Type 0 = MatchesAt ps f in let there = subst P taken match in
        none f there.0 ((matched run f there.0).1 there.1)) h
    better_right front rest s es (Some e) m best is size run wins h =
        let taken : take (m + 1) text ≡ front = ap (take (m + 1)) is ∙ take_at front rest (m + 1) size in
        let P : List ℕ → Type 0 = λ w. Wins ps precedences w e in
        record {
          nonempty = omega arith;
          within = omega arith;
          wins = subst P (sym taken) (best_wins run e wins);
          longest = λ j f over l match. omega arith;
        }

    walk_none : (v : List ℕ) (m : ℕ) (best : Option (ℕ × ℕ)) → simulate nodes v None m best ≡ best
    walk_none [] m best = refl
    walk_none (c ∷ v) m best = refl

    abbrev goes_on : List ℕ → Option ℕ → ℕ → Option (ℕ × ℕ) → Option (ℕ × ℕ)
    goes_on v o m best = simulate nodes v (option_and_then (slice_get nodes) o) (m + 1)
        (better_answer (option_and_then (slice_get nodes) o) (m + 1) best)

    -- what is answered from a state on
    abbrev WalksRight : List ℕ → Type 0
    WalksRight rest = (front : List ℕ) (s : ℕ) (best : Option (ℕ × ℕ)) → text ≡ front ++ rest → IsReachedByWord edges front s
        → IsUpTo (length front) best →
        IsAnswer ps precedences text (simulate nodes rest (Some (accepted s, edges s)) (length front) best)

    walk_right : (rest : List ℕ) → WalksRight rest
    walk_right [] front s best is run h =
        let size = ap length is ∙ length-append front [] in
        end_here (length front) best (omega (arith, size)) h (λ j f over l match. omega (arith, size))
    walk_right (c ∷ v) front s best is run h = go (walk_right v) (target_of (edges s) c) refl
      where
        dead : target_of (edges s) c ≡ None → (j f : ℕ) → length front < j → j ≤ length text → MatchesAt ps f (take j text)
            → ⊥
        dead none j f over l match =
            let cut : take j text ≡ front ++ c ∷ take (j - (length front + 1)) v = ap (take j) is ∙ take_past j front c v over in
            let P : List ℕ → Type 0 = MatchesAt ps f in
            stuck front s c (take (j - (length front + 1)) v) run none f (subst P cut match)

        go : WalksRight v → (o : Option ℕ) → target_of (edges s) c ≡ o
            → IsAnswer ps precedences text (goes_on v o (length front) best)
        go again None e =
            let P : Option (ℕ × ℕ) → Type 0 = IsAnswer ps precedences text in
            subst P (sym (walk_none v (length front + 1) best))
            (end_here (length front) best (omega (arith, ap length is, length-append front (c ∷ v))) h (dead e))
        go again (Some r) e =
            let k = step_some (edges s) c r e in
            let inside : s < n = run_inside t begin sets edges n a.machine run in
            let below : r < n = omega (arith, k.4, a.machine.inside s k.0 inside k.1) in
            let front' : List ℕ = front ++ c ∷ [] in
            let size : length front' ≡ length front + 1 = length_push front c in
            let is' : text ≡ front' ++ v = is ∙ sym (append_assoc front (c ∷ []) v) in
            let Q : ℕ → Type 0 = λ x. IsReachedByWord edges front' x in
            let run' : IsReachedByWord edges front' r = subst Q k.4 (IsReachedByWord.along front s c k.0 run (k.1, k.2, k.3)) in
            let better' = better_right front' v r (edges r) (accepted r) (length front) best is' size run' (kinds r below) h in
            let R : ℕ → Type 0 = λ m. IsUpTo m (better_answer (Some (accepted r, edges r)) m best)
            → IsAnswer ps precedences text
            (simulate nodes v (Some (accepted r, edges r)) m (better_answer (Some (accepted r, edges r)) m best)) in
            let S : Option StateView → Type 0 =
            λ next. IsAnswer ps precedences text
            (simulate nodes v next (length front + 1) (better_answer next (length front + 1) best)) in
            subst S (sym (nodes_are r below))
            (subst R size (again front' r (better_answer (Some (accepted r, edges r)) (length front') best) is' run') better')

    -- the automaton's answer is the longest match of the text, and the pattern that wins there
    pub answer_right : IsAnswer ps precedences text (answer_of nodes text)
    answer_right =
        let S : Option StateView → Type 0 = λ next. IsAnswer ps precedences text (simulate nodes text next 0 None) in
        subst S (sym (nodes_are 0 a.machine.some)) (walk_right text [] 0 None refl IsReachedByWord.here (λ j f some l match. omega arith))
