-- Places before a terminal among items, and as the theory sees them: for the search for one.
use Rattle.std.proofs.Common.{◌≡◌, ◌∙◌, ◌+◌, ℕ, zero, suc, List, [], ◌∷◌, ◌++◌, map, drop, Option}
use Rattle.std.proofs.Common.{Some, None, Contains}
use Rattle.std.proofs.Common.{sym, ap, subst, arith, ⊎_elim}
use Rattle.std.specs.Prelude.{slice_get}
use Rattle.std.proofs.lemmas.List.Elements.{Contains-append_cases}
use Rattle.lalrpop_grammar_symbols.specs.Symbols.{Terminal}
use Rattle.lalrpop_grammar_symbols.specs.Views.{terminal_view}
use Rattle.lalrpop_grammar_symbols.specs.declared.terminal.TerminalString.{TerminalString}
use Rattle.lalrpop_grammar_repr.specs.declared.production.Symbol.{Symbol}
use Rattle.lalrpop_grammar_repr.specs.declared.production.Symbol.TheVariants as symbols
use Rattle.lalrpop_lr1_theory.specs.Productions as theory
use Rattle.lalrpop_lr1_theory.specs.States as states
use Rattle.lalrpop_lr1_theory.specs.States.{HasItem, LookaheadSet}
use Rattle.lalrpop_lr1_theory.proofs.ListLemmas.{contains_split}
use Rattle.lalrpop_lr1_theory.proofs.StepLemmas.{some_same}
use Rattle.lalrpop_lr1_core.specs.Dots.{at_dot}
use Rattle.lalrpop_lr1_core.specs.Views.{lr_item_view, lr_state_view, production_symbol_view, production_view}
use Rattle.lalrpop_lr1_core.specs.declared.item.Item.{Item}
use Rattle.lalrpop_lr1_core.specs.declared.state.State.{State}
use Rattle.lalrpop_lr1_core.proofs.MemberLemmas.{in_map, map_has}
use Rattle.lalrpop_lr1_core.proofs.NoConflictLemmas.{same_terminal}
use Rattle.lalrpop_lr1_counterexamples.specs.ShiftPositions.{IsFirstPositionIf, IsPositionOfItems, IsShiftPosition, IsShiftPositionIf, StandNowhere}
use Rattle.lalrpop_lr1_counterexamples.specs.declared.shift_positions.positions.ShiftPosition.{ShiftPosition}
use Rattle.lalrpop_lr1_paths.proofs.CompletionStepLemmas.{one_on}

-- a terminal behind a dot, as the theory sees it
seen_terminal : (xs : List Symbol) (i : ℕ) (t : TerminalString) → slice_get xs i ≡ Some (symbols.Terminal t) →
    drop i (map production_symbol_view xs) ≡ theory.terminal (terminal_view t) ∷ map production_symbol_view (drop (i + 1) xs)
seen_terminal [] i t e = let z : ⊥ = cc in absurd z
seen_terminal (y ∷ xs) zero t e = ap (λ s. production_symbol_view s ∷ map production_symbol_view xs)
    (some_same y (symbols.Terminal t) e)
seen_terminal (y ∷ xs) (suc i) t e =
    seen_terminal xs i t e
    ∙ ap (λ k. theory.terminal (terminal_view t) ∷ map production_symbol_view (drop k (y ∷ xs))) (one_on i)

one_terminal : (t u : Terminal) → theory.terminal t ≡ theory.terminal u → t ≡ u
one_terminal t u e = cc

-- where the theory sees a terminal, it stands there
terminal_there : (xs : List Symbol) (i : ℕ) (t : TerminalString) (b : List theory.Symbol) →
    drop i (map production_symbol_view xs) ≡ theory.terminal (terminal_view t) ∷ b → slice_get xs i ≡ Some (symbols.Terminal t)
terminal_there [] zero t b e = let z : ⊥ = cc in absurd z
terminal_there [] (suc i) t b e = let z : ⊥ = cc in absurd z
terminal_there (symbols.Nonterminal n ∷ xs) zero t b e = let z : ⊥ = cc in absurd z
terminal_there (symbols.Terminal u ∷ xs) zero t b e =
    let same : theory.terminal (terminal_view u) ≡ theory.terminal (terminal_view t) = cc in
    ap (λ v. Some (symbols.Terminal v)) (same_terminal u t (one_terminal (terminal_view u) (terminal_view t) same))
terminal_there (x ∷ xs) (suc i) t b e = terminal_there xs i t b e

module _ {L : Type 0} where
  -- one item more whose dot stands elsewhere
  pub nowhere_more : (items : List (Item L)) (item : Item L) (t : TerminalString) → StandNowhere items t →
      (at_dot item ≡ Some (symbols.Terminal t) → ⊥) → StandNowhere (items ++ item ∷ []) t
  nowhere_more items item t none not other has at =
      ⊎_elim (λ h. none other h at)
      (λ h. ⊎_elim (λ e. not (ap at_dot e ∙ at)) (λ d. absurd (omega (arith, d.1))) (contains_split item other [] h))
      (Contains-append_cases items (item ∷ []) other has)

  module _ (look : L → LookaheadSet) (all : List states.State) (n : ℕ) (state : State L)
      (is : slice_get all n ≡ Some (lr_state_view look state)) (t : TerminalString) where
    -- the place of an item of the state
    pub position_seen : (place : ShiftPosition) → IsPositionOfItems state.items.vec t place → IsShiftPosition all n (terminal_view t) place
    position_seen place r =
        let item = r.item in
        let held : HasItem all n (production_view item.production.now) item.index =
        record {
          state = lr_state_view look state;
          lookahead = look item.lookahead;
          at = is;
          held = map_has (lr_item_view look) state.items.vec item r.has;
        } in
        let at = seen_terminal item.production.now.symbols item.index t r.is.at in
        record {
          held = subst (λ p. HasItem all n (production_view p.now) place.index) (sym r.is.production_is)
              (subst (HasItem all n (production_view item.production.now)) (sym r.is.index_is) held);
          terminal_is = ap terminal_view r.is.terminal_is;
          at = ap (λ p. drop place.index (map production_symbol_view p.now.symbols)) r.is.production_is
              ∙ ap (λ i. drop i (map production_symbol_view item.production.now.symbols)) r.is.index_is ∙ at
              ∙ ap (λ xs. theory.terminal (terminal_view t) ∷ map production_symbol_view xs) (sym r.is.rest_is);
        }

    -- no place, where the dots of no items stand before the terminal
    pub no_position : StandNowhere state.items.vec t → IsShiftPositionIf all n (terminal_view t) None
    no_position none p i b h e =
        let same : lr_state_view look state ≡ h.state = some_same (lr_state_view look state) h.state (sym is ∙ h.at) in
        let c = in_map (lr_item_view look) state.items.vec (record { production = p; dot = i; lookahead = h.lookahead })
        (subst (λ (v : states.State). Contains v.items (record { production = p; dot = i; lookahead = h.lookahead })) (sym same) h.held) in
        none c.0 c.1
        (terminal_there c.0.production.now.symbols c.0.index t b
        (ap (λ (v : states.Item). drop v.dot v.production.right) c.2 ∙ e))

    -- what was found among the state's items
    pub found_position : (found : Option ShiftPosition) → IsFirstPositionIf state.items.vec t found →
        IsShiftPositionIf all n (terminal_view t) found
    found_position None none = no_position none
    found_position (Some place) r = position_seen place r
