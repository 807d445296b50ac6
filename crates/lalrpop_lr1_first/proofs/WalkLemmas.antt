-- The first tokens of symbols, gathered symbol by symbol: for the first set of a rest.
use Rattle.std.proofs.Common.{◌≡◌, ◌∙◌, ℕ, Bool, true, false, not, ◌||◌, ◌&&◌, eqb, List, [], ◌∷◌}
use Rattle.std.proofs.Common.{refl, sym, ap}
use Rattle.lalrpop_sets.specs.AscendingLists.{has}
use Rattle.lalrpop_lr1_first.specs.Numbers.{says_by}
use Rattle.lalrpop_lr1_first.specs.FirstSteps.{IsGathered}
use Rattle.lalrpop_lr1_first.proofs.ListLemmas.{eqb_true}
use Rattle.lalrpop_sets.proofs.AscendingListLemmas.{eqb_self}
use Rattle.lalrpop_grammar_symbols.proofs.BoolLemmas.{or_false}

one_step : (r s e x w : Bool) → (e ≡ true → r ≡ false) → (not e && (r || s)) || (w && x) ≡ r || ((not e && s) || (w && x))
one_step true s true x w h = let z : true ≡ false = h refl in let y : ⊥ = cc in absurd y
one_step true s false x w h = refl
one_step false s true x w h = refl
one_step false s false x w h = refl

or_swap : (a b : Bool) → (a || b) ≡ (b || a)
or_swap true true = refl
or_swap true false = refl
or_swap false true = refl
or_swap false false = refl

module _ {X : Type 0} (set_of : X → List ℕ) (end : ℕ) (symbols : List X) where
  pub gathered_start : IsGathered set_of end symbols symbols []
  gathered_start = record { rest = λ k. refl; no_end = refl }

  -- no symbol is left: the end comes in
  pub gathered_all : (left : List X) (r r' : List ℕ) → IsGathered set_of end symbols left r → left ≡ [] →
      ((k : ℕ) → has r' k ≡ (eqb k end || has r k)) → (k : ℕ) → has r' k ≡ says_by set_of end symbols k
  gathered_all left r r' j e g k =
      g k ∙ or_swap (eqb k end) (has r k) ∙ ap (λ xs. has r k || says_by set_of end xs k) (sym e) ∙ j.rest k

  module _ (left more : List X) (a : X) (r r1 r2 : List ℕ) (j : IsGathered set_of end symbols left r) (e : left ≡ a ∷ more)
      (g : (k : ℕ) → has r1 k ≡ (has r k || has (set_of a) k)) (g' : (k : ℕ) → has r2 k ≡ (not (eqb k end) && has r1 k)) where
    both : (k : ℕ) → (has r2 k || (has (set_of a) end && says_by set_of end more k)) ≡ says_by set_of end symbols k
    both k =
        let x = says_by set_of end more k in
        let w = has (set_of a) end in
        ap (λ b. b || (w && x)) (g' k ∙ ap (λ b. not (eqb k end) && b) (g k))
        ∙ one_step (has r k) (has (set_of a) k) (eqb k end) x w (λ z. ap (has r) (eqb_true k end z) ∙ j.no_end)
        ∙ ap (λ xs. has r k || says_by set_of end xs k) (sym e) ∙ j.rest k

    was_end : has r1 end ≡ has (set_of a) end
    was_end = g end ∙ ap (λ b. b || has (set_of a) end) j.no_end

    -- a symbol that can't be empty ends it
    pub gathered_stop : has r1 end ≡ false → (k : ℕ) → has r2 k ≡ says_by set_of end symbols k
    gathered_stop w k =
        sym (or_false (has r2 k)) ∙ ap (λ b. has r2 k || (b && says_by set_of end more k)) (sym w ∙ was_end) ∙ both k

    -- one that can be empty doesn't
    pub gathered_more : has r1 end ≡ true → IsGathered set_of end symbols more r2
    gathered_more w = record {
      rest = λ k. ap (λ b. has r2 k || (b && says_by set_of end more k)) (sym w ∙ was_end) ∙ both k;
      no_end = g' end ∙ ap (λ b. not b && has r1 end) (eqb_self end);
    }
