-- One rule more in a sweep over the rules of a grammar: for the sets of first tokens by number.
use Rattle.std.proofs.Common.{◌≡◌, ◌∙◌, ℕ, ◌+◌, ◌<◌, ◌≤◌, Bool, true, false, not, ◌||◌, ◌&&◌}
use Rattle.std.proofs.Common.{eqb, List, [], ◌∷◌, length, set}
use Rattle.std.proofs.Common.{refl, sym, ap, subst, arith, ◌⊎◌, inl, inr, ⊎_elim, slice_get, Option, Some}
use Rattle.std.proofs.lemmas.Bool.{cases_lt}
use Rattle.std.proofs.lemmas.Option.{slice_get_within}
use Rattle.lalrpop_grammar_symbols.specs.Symbols.{Text}
use Rattle.lalrpop_lr1_theory.specs.Productions.{Symbol, nonterminal, Production, Next}
use Rattle.lalrpop_lr1_theory.specs.FirstSets.{First0, TableSays}
use Rattle.lalrpop_lr1_theory.proofs.FirstTableLemmas.{first_left, first_said}
use Rattle.lalrpop_sets.specs.AscendingLists.{has}
use Rattle.lalrpop_lr1_first.specs.Numbers.{AreRulesOf, IsNumbering, IsRuleOf, RuleByNumbers, says, set_of_number}
use Rattle.lalrpop_lr1_first.specs.FirstSteps.{AreClosed, AreClosedTo, AreSound, AreWithin, HasNext, HaveTerminals, SweepsTo, missing_in}
use Rattle.lalrpop_lr1_first.specs.Walks.{place_in_walk}
use Rattle.lalrpop_lr1_first.proofs.FirstNumberLemmas.{says_table}
use Rattle.lalrpop_lr1_first.proofs.ListLemmas.{at_set_other, at_set_same, eqb_true, or_cases, or_left, or_right}
use Rattle.lalrpop_grammar_symbols.proofs.BoolLemmas.{and_both}
use Rattle.lalrpop_sets.proofs.AscendingListLemmas.{cases_eq}
use Rattle.lalrpop_lr1_first.proofs.ListLemmas.{set_itself, set_long}
use Rattle.lalrpop_lr1_core.proofs.MemberLemmas.{some_is}
use Rattle.lalrpop_lr1_first.proofs.MissingLemmas.{missing_less, missing_set}
use Rattle.lalrpop_lr1_first.proofs.WalkPlaceLemmas.{walk_step}

-- what is said of symbols is in range
pub says_within : (end : ℕ) (sets : List (List ℕ)) → AreWithin end sets → (xs : List ℕ) (k : ℕ) →
    says sets end xs k ≡ true → k ≤ end
says_within end sets w [] k e = let z = eqb_true k end e in omega arith
says_within end sets w (s ∷ xs) k e =
    go (or_cases (not (eqb k end) && has (set_of_number sets s) k) (has (set_of_number sets s) end && says sets end xs k) e)
    (says_within end sets w xs k)
  where
    go : ((not (eqb k end) && has (set_of_number sets s) k) ≡ true)
        ⊎ ((has (set_of_number sets s) end && says sets end xs k) ≡ true) →
        (says sets end xs k ≡ true → k ≤ end) → k ≤ end
    go (inl p) r = w s k (and_both (not (eqb k end)) (has (set_of_number sets s) k) p).1
    go (inr p) r = r (and_both (has (set_of_number sets s) end) (says sets end xs k) p).1

module _ (G : Production → Type 0) (symbol_at : ℕ → Option Symbol) (next_at : ℕ → Next) (end names : ℕ)
    (numbered : IsNumbering symbol_at next_at end names) (rules : List RuleByNumbers) (are : AreRulesOf symbol_at rules G)
    (forward : Bool) where
  pub sweep_start : (old : List (List ℕ)) → AreWithin end old → HaveTerminals end names old →
      SweepsTo G symbol_at next_at end names rules forward 0 old old false
  sweep_start old w t = record {
    len = refl;
    within = w;
    terminals = t;
    sound = λ s. s;
    same = λ e. refl;
    closed = λ e r rule k h. absurd (omega arith);
    less = λ e. let z : ⊥ = cc in absurd z;
  }

  sweep_le : (i : ℕ) (old new : List (List ℕ)) (changed : Bool) → SweepsTo G symbol_at next_at end names rules forward i old new changed →
      missing_in (end + 1) new ≤ missing_in (end + 1) old
  sweep_le i old new true p = let l = p.less refl in omega arith
  sweep_le i old new false p =
      let e = p.same refl in subst (λ s. missing_in (end + 1) new ≤ missing_in (end + 1) s) e (omega arith)

  module _ (new : List (List ℕ)) (i : ℕ) (rule : RuleByNumbers) (here : slice_get rules (place_in_walk forward (length rules) i) ≡ Some rule) (f s : List ℕ)
      (is_first : (k : ℕ) → has f k ≡ says new end rule.right k)
      (joined : (k : ℕ) → has s k ≡ (has (set_of_number new rule.left) k || has f k)) where
    -- what a number of the joined set comes from
    from_where : (k : ℕ) → has s k ≡ true → (has (set_of_number new rule.left) k ≡ true)
        ⊎ (says new end rule.right k ≡ true)
    from_where k h = ⊎_elim (λ z. inl z) (λ z. inr (sym (is_first k) ∙ z))
        (or_cases (has (set_of_number new rule.left) k) (has f k) (sym (joined k) ∙ h))

    within_step : (l : rule.left < length new) → AreWithin end new → AreWithin end (set new rule.left s)
    within_step l w a k h = go (cases_eq rule.left a)
      where
        go : (rule.left ≡ a) ⊎ (rule.left ≡ a → ⊥) → k ≤ end
        go (inl e) = ⊎_elim (λ z. w rule.left k z) (λ z. says_within end new w rule.right k z)
            (from_where k (ap (λ t. has t k) (sym (at_set_same new rule.left s l) ∙ ap (set_of_number (set new rule.left s)) e) ∙ h))
        go (inr e) = w a k (ap (λ t. has t k) (sym (at_set_other new rule.left a s e)) ∙ h)

    left_below : rule.left < names
    left_below = let a = are.sound (place_in_walk forward (length rules) i) rule here in numbered.name_below rule.left a.0.left a.2.left

    terminals_step : HaveTerminals end names new → HaveTerminals end names (set new rule.left s)
    terminals_step t j k l =
        ap (λ z. has z k) (at_set_other new rule.left (names + j) s (λ e. omega (arith, left_below, e))) ∙ t j k l

    sound_step : (l : rule.left < length new) → HaveTerminals end names new → AreSound G symbol_at next_at end new →
        AreSound G symbol_at next_at end (set new rule.left s)
    sound_step l t d A x h = go (cases_eq rule.left h.symbol)
      where
        a : (p : Production) × G p × IsRuleOf symbol_at rule p
        a = are.sound (place_in_walk forward (length rules) i) rule here

        old : (y : ℕ) → symbol_at y ≡ Some (nonterminal A) → has (set_of_number new y) h.number ≡ true →
            First0 G (nonterminal A ∷ []) x
        old y is g = d A x (record { symbol = y; number = h.number; symbol_is = is; next_is = h.next_is; small = h.small; held = g })

        go : (rule.left ≡ h.symbol) ⊎ (rule.left ≡ h.symbol → ⊥) → First0 G (nonterminal A ∷ []) x
        go (inl e) =
            let is : symbol_at rule.left ≡ Some (nonterminal A) = ap symbol_at e ∙ h.symbol_is in
            let both : Some (nonterminal a.0.left) ≡ Some (nonterminal A) = sym a.2.left ∙ is in
            let name : a.0.left ≡ A = cc in
            ⊎_elim
            (λ z. old rule.left is z)
            (λ z. subst (λ (B : Text). First0 G (nonterminal B ∷ []) x) name
            (first_left G (HasNext symbol_at next_at end new) a.0 x a.1 (first_said G (HasNext symbol_at next_at end new) d a.0.right x
            (subst (λ (y : Next). TableSays (HasNext symbol_at next_at end new) a.0.right y) h.next_is
            (says_table symbol_at next_at end names numbered new t rule.right a.0.right a.2.right h.number h.small z)))))
            (from_where h.number (ap (λ z. has z h.number) (sym (at_set_same new rule.left s l)
            ∙ ap (set_of_number (set new rule.left s)) e) ∙ h.held))
        go (inr e) = old h.symbol h.symbol_is (ap (λ z. has z h.number) (sym (at_set_other new rule.left h.symbol s e)) ∙ h.held)

    -- a rule that adds something
    pub sweep_grown : (old : List (List ℕ)) (changed : Bool) → SweepsTo G symbol_at next_at end names rules forward i old new changed →
        rule.left < length new → ((k : ℕ) × (has s k ≡ true) × (has (set_of_number new rule.left) k ≡ false)) →
        SweepsTo G symbol_at next_at end names rules forward (i + 1) old (set new rule.left s) true
    sweep_grown old changed p l g =
        let q : has f g.0 ≡ true = ap (λ b. b || has f g.0) (sym g.2) ∙ sym (joined g.0) ∙ g.1 in
        let m = says_within end new p.within rule.right g.0 (sym (is_first g.0) ∙ q) in
        let less = missing_set (end + 1) new rule.left s l (missing_less (end + 1) (set_of_number new rule.left) s g.0
        (λ k h. joined k ∙ or_left (has (set_of_number new rule.left) k) (has f k) h) (omega arith) g.2 g.1) in
        let before = sweep_le i old new changed p in
        record {
          len = set_long new rule.left s ∙ p.len;
          within = within_step l p.within;
          terminals = terminals_step p.terminals;
          sound = λ d. sound_step l p.terminals (p.sound d);
          same = λ e. let z : ⊥ = cc in absurd z;
          closed = λ e. let z : ⊥ = cc in absurd z;
          less = λ e. omega arith;
        }

    -- a rule that adds nothing
    pub sweep_same : (old : List (List ℕ)) (changed : Bool) → SweepsTo G symbol_at next_at end names rules forward i old new changed →
        s ≡ set_of_number new rule.left → SweepsTo G symbol_at next_at end names rules forward (i + 1) old (set new rule.left s) changed
    sweep_same old changed p e =
        let z : set new rule.left s ≡ new = ap (set new rule.left) e ∙ set_itself new rule.left in
        subst (λ t. SweepsTo G symbol_at next_at end names rules forward (i + 1) old t changed) (sym z) (record {
          len = p.len;
          within = p.within;
          terminals = p.terminals;
          sound = p.sound;
          same = p.same;
          closed = λ b r other k h there said. go b r other k (cases_lt r i) h there said;
          less = p.less;
        })
      where
        go : changed ≡ false → (r : ℕ) (other : RuleByNumbers) (k : ℕ) → (r < i) ⊎ (i ≤ r) → r < i + 1 →
            slice_get rules (place_in_walk forward (length rules) r) ≡ Some other →
            says new end other.right k ≡ true → has (set_of_number new other.left) k ≡ true
        go b r other k (inl m) h there said = p.closed b r other k m there said
        go b r other k (inr m) h there said =
            let t : rule ≡ other =
            some_is rule other (sym here ∙ ap (λ j. slice_get rules (place_in_walk forward (length rules) j)) (let w : i ≡ r = omega arith in w)
            ∙ there) in
            subst (λ (o : RuleByNumbers). says new end o.right k ≡ true → has (set_of_number new o.left) k ≡ true) t
            (λ w. ap (λ t. has t k) (sym e) ∙ joined k ∙ or_right (has (set_of_number new rule.left) k) (has f k) (is_first k
            ∙ w)) said

-- sets that are closed under the rules at all steps of a walk are closed under all rules
pub closed_all : (end : ℕ) (rules : List RuleByNumbers) (forward : Bool) (sets : List (List ℕ)) →
    AreClosedTo end rules forward (length rules) sets → AreClosed end rules sets
closed_all end rules forward sets closed r rule k there said =
    let step = walk_step forward (length rules) r (slice_get_within rules r rule there) in
    closed step.0 rule k step.1 (ap (slice_get rules) step.2 ∙ there) said
