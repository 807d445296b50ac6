-- Where symbols lead, one after another, and what stands behind a dot: for walks from a state.
use Rattle.std.proofs.Common.{◌≡◌, ◌∙◌, ◌↔◌, ℕ, zero, suc, ◌+◌, ◌≤◌, List, [], ◌∷◌, Option, None, Some}
use Rattle.std.proofs.Common.{length, drop, map, refl, sym, ap, subst, arith, slice_get}
use Rattle.std.proofs.Common.{◌-◌, take}
use Rattle.std.proofs.lemmas.List.{length-drop, take_all}
use Rattle.std.proofs.lemmas.Option.{slice_get_within}
use Rattle.lalrpop_grammar_symbols.specs.Symbols.{Text}
use Rattle.lalrpop_grammar_symbols.specs.Views.{terminal_view}
use Rattle.lalrpop_grammar_symbols.specs.declared.terminal.TerminalString.{TerminalString}
use Rattle.lalrpop_grammar_symbols.specs.declared.names.NonterminalString.{NonterminalString}
use Rattle.lalrpop_grammar_repr.specs.declared.production.Symbol.{Symbol}
use Rattle.lalrpop_grammar_repr.specs.declared.production.Symbol.TheVariants as symbols
use Rattle.lalrpop_lr1_theory.specs.Productions as theory
use Rattle.lalrpop_lr1_theory.specs.States as states
use Rattle.lalrpop_lr1_theory.proofs.StepLemmas.{some_same}
use Rattle.lalrpop_lr1_core.specs.Views.{lr_state_view, production_symbol_view}
use Rattle.lalrpop_lr1_core.specs.declared.state.State.{State}
use Rattle.lalrpop_lr1_first.proofs.TableLemmas.{long_map}
use Rattle.lalrpop_lr1_theory.specs.PropagatedNexts.{LeadAlong}
use Rattle.lalrpop_lr1_check_lookaheads.specs.SeenEdges.{HasOrderedEdges, target_at}
use Rattle.lalrpop_lr1_check_lookaheads.proofs.SeenLemmas.{seen_target, target_seen}

module _ {L : Type 0} (look : L → states.LookaheadSet) (all : List (State L)) where
  pub lead_there : (n : ℕ) (s : State L) (x : Symbol) (m : ℕ) (o : Option ℕ) → slice_get all n ≡ Some s → HasOrderedEdges s →
      o ≡ target_at s x → (o ≡ Some m) ↔ states.HasEdge (map (lr_state_view look) all) n (production_symbol_view x) m
  lead_there n s x m o at ordered h =
      (λ e. target_seen look all n s x m at (sym h ∙ e), λ w. h ∙ seen_target look all n s x m at ordered w)

  none_past : (n : ℕ) (v : states.State) → length all ≤ n → slice_get (map (lr_state_view look) all) n ≡ Some v → ⊥
  none_past n v h e =
      omega (arith, slice_get_within (map (lr_state_view look) all) n v e, long_map (lr_state_view look) all, h)

  pub lead_past : (n : ℕ) (x : Symbol) (m : ℕ) → length all ≤ n →
      (◌≡◌ {A = Option ℕ} None (Some m)) ↔ states.HasEdge (map (lr_state_view look) all) n (production_symbol_view x) m
  lead_past n (symbols.Terminal t) m h = (λ e. let z : ⊥ = cc in absurd z, λ w. absurd (none_past n w.0 h w.1))
  lead_past n (symbols.Nonterminal a) m h = (λ e. let z : ⊥ = cc in absurd z, λ w. absurd (none_past n w.0 h w.1))

module _ (Edge : ℕ → theory.Symbol → ℕ → Type 0) where
  pub step_on : (X : theory.Symbol) (g : List theory.Symbol) (n next m : ℕ) →
      ((k : ℕ) → (Some next ≡ Some k) ↔ Edge n X k) → LeadAlong Edge (X ∷ g) n m ↔ LeadAlong Edge g next m
  step_on X g n next m says = (
    λ w. subst (λ j. LeadAlong Edge g j m) (sym (some_same next w.0 ((says w.0).1 w.1))) w.2,
    λ w. (next, (says next).0 refl, w),
  )

  pub step_off : (X : theory.Symbol) (g : List theory.Symbol) (n m : ℕ) →
      ((k : ℕ) → (◌≡◌ {A = Option ℕ} None (Some k)) ↔ Edge n X k) → LeadAlong Edge (X ∷ g) n m → ⊥
  step_off X g n m says w = let e : ◌≡◌ {A = Option ℕ} None (Some w.0) = (says w.0).1 w.1 in let z : ⊥ = cc in z

pub drop_at : {X : Type 0} (xs : List X) (i : ℕ) (x : X) → slice_get xs i ≡ Some x → drop i xs ≡ x ∷ drop (suc i) xs
drop_at [] i x e = let z : ⊥ = cc in absurd z
drop_at (y ∷ xs) zero x e = ap (λ z. z ∷ xs) (some_same y x e)
drop_at (y ∷ xs) (suc i) x e = drop_at xs i x e

pub drop_end : {X : Type 0} (xs : List X) (i : ℕ) → length xs ≤ i → drop i xs ≡ []
drop_end [] zero h = refl
drop_end [] (suc i) h = refl
drop_end (y ∷ xs) zero h = absurd (omega (arith, h))
drop_end (y ∷ xs) (suc i) h = drop_end xs i (omega (arith, h))

pub drop_map : {X Y : Type 0} (f : X → Y) (xs : List X) (i : ℕ) → drop i (map f xs) ≡ map f (drop i xs)
drop_map f [] zero = refl
drop_map f [] (suc i) = refl
drop_map f (x ∷ xs) zero = refl
drop_map f (x ∷ xs) (suc i) = drop_map f xs i

-- the symbol behind the dot, and what stands behind it
pub seen_behind : (xs : List Symbol) (i : ℕ) (x : Symbol) → slice_get xs i ≡ Some x →
    drop i (map production_symbol_view xs) ≡ production_symbol_view x ∷ map production_symbol_view (drop (suc i) xs)
seen_behind xs i x e = drop_map production_symbol_view xs i ∙ ap (map production_symbol_view) (drop_at xs i x e)

-- a walk over one symbol more
pub walk_more : (Edge : ℕ → theory.Symbol → ℕ → Type 0) (xs : List Symbol) (i : ℕ) (x : Symbol) (n next from m : ℕ) →
    slice_get xs i ≡ Some x → ((k : ℕ) → (Some next ≡ Some k) ↔ Edge n (production_symbol_view x) k) →
    (LeadAlong Edge (map production_symbol_view (drop i xs)) n m ↔ LeadAlong Edge (map production_symbol_view xs) from m) →
    LeadAlong Edge (map production_symbol_view (drop (i + 1) xs)) next m ↔ LeadAlong Edge (map production_symbol_view xs) from m
walk_more Edge xs i x n next from m e says before =
    let one : suc i ≡ i + 1 = omega arith in
    let step = step_on Edge (production_symbol_view x) (map production_symbol_view (drop (suc i) xs)) n next m says in
    let here = ap (map production_symbol_view) (drop_at xs i x e) in (
      λ w. before.0 (subst (λ l. LeadAlong Edge l n m) (sym here)
          (step.1 (subst (λ j. LeadAlong Edge (map production_symbol_view (drop j xs)) next m) (sym one) w))),
      λ w. subst (λ j. LeadAlong Edge (map production_symbol_view (drop j xs)) next m) one
          (step.0 (subst (λ l. LeadAlong Edge l n m) here (before.1 w))),
    )

-- where no edge goes on by the next symbol, the symbols lead to no state, and none is the answer
pub walk_stops : (Edge : ℕ → theory.Symbol → ℕ → Type 0) (xs : List Symbol) (i : ℕ) (x : Symbol) (n from m : ℕ) →
    slice_get xs i ≡ Some x → ((k : ℕ) → (◌≡◌ {A = Option ℕ} None (Some k)) ↔ Edge n (production_symbol_view x) k) →
    (LeadAlong Edge (map production_symbol_view (drop i xs)) n m ↔ LeadAlong Edge (map production_symbol_view xs) from m) →
    (◌≡◌ {A = Option ℕ} None (Some m)) ↔ LeadAlong Edge (map production_symbol_view xs) from m
walk_stops Edge xs i x n from m e says before =
    let here = ap (map production_symbol_view) (drop_at xs i x e) in (
      λ z. let w : ⊥ = cc in absurd w,
      λ w. absurd (step_off Edge (production_symbol_view x) (map production_symbol_view (drop (suc i) xs)) n m says
          (subst (λ l. LeadAlong Edge l n m) here (before.1 w))),
    )

-- behind the last symbol, the state that is reached is the one to which the symbols lead
pub walk_ends : (Edge : ℕ → theory.Symbol → ℕ → Type 0) (xs : List Symbol) (i n from m : ℕ) → length xs ≤ i →
    (LeadAlong Edge (map production_symbol_view (drop i xs)) n m ↔ LeadAlong Edge (map production_symbol_view xs) from m) →
    (Some n ≡ Some m) ↔ LeadAlong Edge (map production_symbol_view xs) from m
walk_ends Edge xs i n from m h before =
    let here = ap (map production_symbol_view) (drop_end xs i h) in (
      λ e. before.0 (subst (λ l. LeadAlong Edge l n m) (sym here) (some_same n m e)),
      λ w. ap Some (subst (λ l. LeadAlong Edge l n m) here (before.1 w)),
    )

-- the nonterminal behind the dot, and none
pub name_some : (xs : List Symbol) (i : ℕ) (x : Symbol) (n : NonterminalString) → slice_get xs i ≡ Some x →
    x ≡ symbols.Nonterminal n →
    drop i (map production_symbol_view xs)
    ≡ theory.nonterminal n.0 ∷ map production_symbol_view (take (length xs - (i + 1)) (drop (i + 1) xs))
name_some xs i x n e f =
    let one : suc i ≡ i + 1 = omega arith in
    let long : length (drop (i + 1) xs) ≤ length xs - (i + 1) = omega (arith, length-drop {A = Symbol}) in
    seen_behind xs i x e ∙ ap (λ y. production_symbol_view y ∷ map production_symbol_view (drop (suc i) xs)) f
    ∙ ap (λ l. theory.nonterminal n.0 ∷ map production_symbol_view l)
    (ap (λ j. drop j xs) one ∙ sym (take_all (length xs - (i + 1)) (drop (i + 1) xs) long))

-- where a terminal stands, what is left of the symbols doesn't begin with a nonterminal
pub name_other : (xs : List Symbol) (i : ℕ) (x : Symbol) (t : TerminalString) (A : Text) (b : List theory.Symbol) →
    slice_get xs i ≡ Some x → x ≡ symbols.Terminal t → drop i (map production_symbol_view xs) ≡ theory.nonterminal A ∷ b → ⊥
name_other xs i x t A b e f g =
    let both : theory.terminal (terminal_view t) ∷ map production_symbol_view (drop (suc i) xs) ≡ theory.nonterminal A ∷ b =
    sym (seen_behind xs i x e ∙ ap (λ y. production_symbol_view y ∷ map production_symbol_view (drop (suc i) xs)) f) ∙ g in
    cc
