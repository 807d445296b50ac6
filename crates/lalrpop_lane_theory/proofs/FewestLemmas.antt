-- States that cover the items are at least as many as the sets of items valid on symbols: for the law that none are fewer than LR(0) states.
use Rattle.std.proofs.Common.{◌≡◌, ◌↔◌, ◌∙◌, ◌<◌, ◌≤◌, ℕ, suc, false, List, [], ◌∷◌, length, Some, Contains, refl, sym, ap, subst, arith}
use Rattle.std.specs.List.{AllByRecursion, IsDistinct}
use Rattle.std.specs.Prelude.{eqb, slice_get}
use Rattle.std.proofs.lemmas.Bool.{eqb-true, ne_eqb}
use Rattle.std.proofs.lemmas.Map.Keys.{IsDistinct-cons}
use Rattle.std.proofs.lemmas.Map.Steps.{length-le_from_distinct_below}
use Rattle.std.proofs.lemmas.Map.Views.{Contains-from_any}
use Rattle.std.proofs.lemmas.Option.{slice_get_within}
use Rattle.lalrpop_grammar_symbols.specs.Symbols.{Text}
use Rattle.lalrpop_lr1_theory.specs.Productions.{Production, Symbol}
use Rattle.lalrpop_lr1_theory.specs.ValidItems.{HasValidItem, NoneBarren}
use Rattle.lalrpop_lr1_theory.specs.Automata.{IsCover, Walk}
use Rattle.lalrpop_lr1_theory.specs.States.{HasEdge, HasItem, State}
use Rattle.lalrpop_lr1_theory.specs.CanonicalStates.{AreLr0States}
use Rattle.lalrpop_lr1_theory.specs.CheckedStates.{AreCheckedStates}
use Rattle.lalrpop_lr1_theory.specs.ValidCores.{CountsCoreSets, IsValidCore}
use Rattle.lalrpop_lr1_theory.proofs.ChoiceLemmas.{Choices, choices}
use Rattle.lalrpop_lr1_theory.proofs.CollapseLemmas.{get_some}
use Rattle.lalrpop_lr1_theory.proofs.ListLemmas.{contains_get}
use Rattle.lalrpop_lr1_theory.proofs.Lr0CoreLemmas.{states_counted}
use Rattle.lalrpop_lr1_theory.proofs.PassLemmas.{some_carried}
use Rattle.lalrpop_lr1_theory.proofs.ValidItemLemmas.{carried_from_valid, valid_from_carried}
use Rattle.lalrpop_lr1_theory.proofs.WalkLemmas.{carried_there, walk_one}
use Rattle.lalrpop_lane_theory.specs.Lalr1Grammars.{IsLeastStateCount}

-- numbers of which none stands at two places
abbrev StandOnce : List ℕ → Type 0
StandOnce xs = (j k x : ℕ) → slice_get xs j ≡ Some x → slice_get xs k ≡ Some x → j ≡ k

differ_all : (x : ℕ) (ys : List ℕ) → ((j y : ℕ) → slice_get ys j ≡ Some y → x ≡ y → ⊥) → AllByRecursion (λ y. eqb x y ≡ false) ys
differ_all x [] h = tt
differ_all x (y ∷ ys) h = (ne_eqb x y (h 0 y refl), differ_all x ys (λ j z e. h (suc j) z e))

distinct : (xs : List ℕ) → StandOnce xs → IsDistinct eqb xs
unfolding IsDistinct
distinct [] h = tt
distinct (x ∷ xs) h =
    IsDistinct-cons eqb x xs
    (differ_all x xs (λ j y e f. let z : 0 ≡ suc j = h 0 (suc j) x refl (e ∙ ap Some (sym f)) in omega (arith, z)))
    (distinct xs (λ j k y e f. let z : suc j ≡ suc k = h (suc j) (suc k) y e f in omega (arith, z)))

-- are no more than the bound that they are below
no_more : (xs : List ℕ) (n : ℕ) → StandOnce xs → ((j x : ℕ) → slice_get xs j ≡ Some x → x < n) → length xs ≤ n
no_more xs n once below =
    length-le_from_distinct_below xs n (distinct xs once)
    (λ q found.
    let c = contains_get xs q (Contains-from_any (λ x y t. eqb-true x y t) q xs found) in
    below c.0 q c.1)

module _ (grammar : List Production) (s : Text) (states : List State)
    (cover : IsCover (Contains grammar) s (HasItem states) (HasEdge states)) (nb : NoneBarren (Contains grammar) s) where
  -- on symbols that lead to a state, its items are those that are valid before something
  cores_there : (g : List Symbol) (n : ℕ) → Walk (HasEdge states) g n → (p : Production) (i : ℕ) →
      HasItem states n p i ↔ IsValidCore (Contains grammar) s g p i
  cores_there g n w p i = (
    λ k.
        let c = some_carried (Contains grammar) s (HasItem states) (HasEdge states) cover nb g n w p i k in
        (c.0, valid_from_carried (Contains grammar) s nb g p i c.0 c.1),
    λ v.
        let r = carried_there (Contains grammar) s (HasItem states) (HasEdge states) cover g p i v.0
        (carried_from_valid (Contains grammar) s g p i v.0 v.1) in
        subst (λ m. HasItem states m p i) (walk_one (HasEdge states) cover.one g r.0 n r.1 w) r.2,
  )

  -- symbols on which an item is valid lead to a state of the list
  state_on : (g : List Symbol) → HasValidItem (Contains grammar) s g → (n : ℕ) × Walk (HasEdge states) g n × (n < length states)
  state_on g v =
      let r = carried_there (Contains grammar) s (HasItem states) (HasEdge states) cover g v.production v.dot v.next
      (carried_from_valid (Contains grammar) s g v.production v.dot v.next v.valid) in
      (r.0, r.1, slice_get_within states r.0 r.2.state r.2.at)

  module _ (n : ℕ) (counts : CountsCoreSets (Contains grammar) s n) where
    -- the state has the items of the set with this number
    abbrev HasSet : ℕ → ℕ → Type 0
    HasSet k m = (g : List Symbol) × (slice_get counts.lists k ≡ Some g) × Walk (HasEdge states) g m × (m < length states)

    one_of : (k : ℕ) → k < n → (m : ℕ) × HasSet k m
    one_of k h =
        let at = get_some counts.lists k (omega (arith, h, counts.count)) in
        let w = state_on at.0 (counts.nonempty k at.0 at.1) in
        (w.0, (at.0, at.1, w.1, w.2))

    one_set : (j k m : ℕ) → HasSet j m → HasSet k m → j ≡ k
    one_set j k m a b =
        counts.different j k a.0 b.0 a.1 b.1
        (λ p i. (
          λ v. (cores_there b.0 m b.2 p i).0 ((cores_there a.0 m a.2 p i).1 v),
          λ v. (cores_there a.0 m a.2 p i).0 ((cores_there b.0 m b.2 p i).1 v),
        ))

    pub no_fewer : n ≤ length states
    no_fewer =
        let all : Choices HasSet n = choices HasSet n n (omega arith) one_of in
        let h = no_more all.list (length states)
        (λ j k m e f. one_set j k m (all.right j m e) (all.right k m f)) (λ j m e. (all.right j m e).3) in
        omega (arith, h, all.count)

-- checked states are at least as many as those without lookaheads
pub checked_no_fewer : (grammar : List Production) (s : Text) (lr0 states : List State) → AreLr0States grammar s lr0 →
    AreCheckedStates grammar s states → length lr0 ≤ length states
checked_no_fewer grammar s lr0 states are ok =
    no_fewer grammar s states ok.cover ok.none_barren (length lr0) (states_counted grammar s lr0 are ok.none_barren)

-- two lists of states without lookaheads have as many, where nothing that the start reaches is barren
pub as_many : (grammar : List Production) (s : Text) (states others : List State) → AreLr0States grammar s states →
    AreLr0States grammar s others → NoneBarren (Contains grammar) s → length states ≡ length others
as_many grammar s states others a b nb =
    omega (
      arith,
      no_fewer grammar s others b.automaton.cover nb (length states) (states_counted grammar s states a nb),
      no_fewer grammar s states a.automaton.cover nb (length others) (states_counted grammar s others b nb),
    )

-- where as many as there are sets of valid items, whatever may follow them, no states that may be parsed with are fewer
pub least_count : (grammar : List Production) (s : Text) (count : ℕ) → NoneBarren (Contains grammar) s →
    CountsCoreSets (Contains grammar) s count → IsLeastStateCount grammar s count
least_count grammar s count nb counts =
    record { for_each_core = counts; no_fewer = λ states ok. no_fewer grammar s states ok.cover nb count counts }
