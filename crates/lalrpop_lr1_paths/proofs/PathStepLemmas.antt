-- The steps of a table of paths as its edges tell them, and states back along them: for the calls on paths.
use Rattle.std.proofs.Common.{◌≡◌, ◌∙◌, ℕ, suc, List, [], ◌∷◌, ◌++◌, map, Option, Some, None}
use Rattle.std.proofs.Common.{refl, sym, ap, subst, arith, slice_get}
use Rattle.std.specs.Option.{option_map, unwrap_or}
use Rattle.std.proofs.lemmas.Option.{get_or_from_slice_get, slice_get-map, unwrap_or-slice_get}
use Rattle.lalrpop_lr1_theory.specs.Automata.{Walk, goes, stands}
use Rattle.lalrpop_lr1_theory.specs.Productions.{Symbol}
use Rattle.lalrpop_lr1_theory.proofs.StepLemmas.{some_same}
use Rattle.lalrpop_lr1_theory.specs.PathTrees.{IsBack, LastStep, LedBy, further, here}
use Rattle.lalrpop_lr1_first.specs.declared.numbered.Numbered.{Numbered}
use Rattle.lalrpop_lr1_least_trees.specs.GrammarTrees.{symbols_by}
use Rattle.lalrpop_lr1_paths.specs.declared.state_paths.path_edges.NumberEdge.{NumberEdge}
use Rattle.lalrpop_lr1_paths.specs.PathTables.{last_edge_at, last_step, step_if_some}

-- an edge is read where it stands
pub edge_there : (steps : List (Option NumberEdge)) (m : ℕ) (edge : NumberEdge) → last_edge_at steps m ≡ Some edge →
    slice_get steps m ≡ Some (Some edge)
edge_there steps m edge e = go (slice_get steps m) refl
  where
    go : (o : Option (Option NumberEdge)) → slice_get steps m ≡ o → o ≡ Some (Some edge)
    go None f =
        let read : None ≡ Some edge = sym (ap (λ o. unwrap_or o None) f) ∙ unwrap_or-slice_get steps m None ∙ e in
        let w : ⊥ = cc in absurd w
    go (Some x) f =
        let read : x ≡ Some edge = sym (ap (λ o. unwrap_or o None) f) ∙ unwrap_or-slice_get steps m None ∙ e in ap Some read

module _ (table : Numbered) (steps : List (Option NumberEdge)) where
  abbrev pub Led : ℕ → Symbol → ℕ → Type 0
  Led = LedBy (map (step_if_some table) steps)

  -- the edge that leads last to a state
  pub record IsLastEdge (n : ℕ) (x : Symbol) (m : ℕ) : Type 0 where
    pub edge : NumberEdge
    pub at : last_edge_at steps m ≡ Some edge
    pub source : edge.source ≡ n
    pub symbol : symbols_by table edge.symbol ≡ Some x

  step_edge : (n : ℕ) (x : Symbol) (edge : NumberEdge) → last_step table edge ≡ Some (record { from = n; by = x }) →
      (edge.source ≡ n) × (symbols_by table edge.symbol ≡ Some x)
  step_edge n x edge e = go (symbols_by table edge.symbol) refl
    where
      go : (o : Option Symbol) → symbols_by table edge.symbol ≡ o → (edge.source ≡ n) × (o ≡ Some x)
      go None f =
          let told : LastStep = record { from = n; by = x } in
          let z : None ≡ Some told =
          sym (ap (option_map (λ (y : Symbol). let s : LastStep = record { from = edge.source; by = y } in s)) f) ∙ e in
          let w : ⊥ = cc in absurd w
      go (Some y) f =
          let own : LastStep = record { from = edge.source; by = y } in
          let told : LastStep = record { from = n; by = x } in
          let same : own ≡ told = some_same own told
          (sym (ap (option_map (λ (z : Symbol). let s : LastStep = record { from = edge.source; by = z } in s)) f) ∙ e) in
          (ap (λ (s : LastStep). s.from) same, ap (λ (s : LastStep). Some s.by) same)

  pub led_edge : (n : ℕ) (x : Symbol) (m : ℕ) → Led n x m → IsLastEdge n x m
  led_edge n x m e = go (slice_get steps m) refl
    where
      read : (o : Option (Option NumberEdge)) → slice_get steps m ≡ o → option_map (step_if_some table) o
          ≡ Some (Some (record { from = n; by = x }))
      read o f = sym (ap (option_map (step_if_some table)) f) ∙ sym (slice_get-map (step_if_some table) steps m) ∙ e

      go : (o : Option (Option NumberEdge)) → slice_get steps m ≡ o → IsLastEdge n x m
      go None f = let z = read None f in let w : ⊥ = cc in absurd w
      go (Some None) f = let z = read (Some None) f in let w : ⊥ = cc in absurd w
      go (Some (Some edge)) f =
          let both = step_edge n x edge
          (some_same (last_step table edge) (Some (record { from = n; by = x })) (read (Some (Some edge)) f)) in
          record {
            edge = edge;
            at = get_or_from_slice_get steps m (Some edge) None f;
            source = both.0;
            symbol = both.1;
          }

  pub edge_led : (m : ℕ) (edge : NumberEdge) (x : Symbol) → last_edge_at steps m ≡ Some edge →
      symbols_by table edge.symbol ≡ Some x → Led edge.source x m
  edge_led m edge x e f =
      slice_get-map (step_if_some table) steps m ∙ ap (option_map (step_if_some table)) (edge_there steps m edge e)
      ∙ ap (λ o. Some (option_map (λ (y : Symbol). let s : LastStep = record { from = edge.source; by = y } in s) o)) f

  -- where no edge leads to a state, nothing stands further back
  pub back_ends : (j n m : ℕ) → last_edge_at steps n ≡ None → IsBack Led j n m → n ≡ m
  back_ends j n m e (here k) = refl
  back_ends j n m e (further {i = i} {n = k} x l d b) =
      let led = led_edge k x n d in let both : None ≡ Some led.edge = sym e ∙ led.at in let w : ⊥ = cc in absurd w

  -- no places back stands the state itself
  pub back_stays : (j n m : ℕ) → j ≡ 0 → IsBack Led j n m → n ≡ m
  back_stays j n m e (here k) = refl
  back_stays j n m e (further {i = i} x l d b) = absurd (omega (arith, e))

  -- one place further back
  pub back_goes_on : (j i n m : ℕ) (edge : NumberEdge) → last_edge_at steps n ≡ Some edge → j ≡ suc i → IsBack Led j n m →
      IsBack Led i edge.source m
  back_goes_on j i n m edge e f (here k) = absurd (omega (arith, f))
  back_goes_on j i n m edge e f (further {i = l} {n = k} x o d b) =
      let led = led_edge k x n d in
      let same : led.edge ≡ edge = some_same led.edge edge (sym led.at ∙ e) in
      let place : k ≡ edge.source = sym led.source ∙ ap (λ (y : NumberEdge). y.source) same in
      let left : l ≡ i = omega (arith, f) in
      subst (λ z. IsBack Led i z m) place (subst (λ z. IsBack Led z k m) left b)

  -- a path to where no edge leads has no symbols
  pub walk_ends : (syms : List Symbol) (n : ℕ) → last_edge_at steps n ≡ None → Walk Led syms n → syms ≡ []
  walk_ends syms n e stands = refl
  walk_ends syms n e (goes {g = h} {n = k} x m w d) =
      let led = led_edge k x n d in let both : None ≡ Some led.edge = sym e ∙ led.at in let v : ⊥ = cc in absurd v

  -- a path to where an edge leads, without that
  pub record IsPathOver (syms : List Symbol) (edge : NumberEdge) : Type 0 where
    pub front : List Symbol
    pub symbol : Symbol
    pub parts : syms ≡ front ++ symbol ∷ []
    pub walk : Walk Led front edge.source
    pub is : symbols_by table edge.symbol ≡ Some symbol

  pub walk_over : last_edge_at steps 0 ≡ None → (syms : List Symbol) (n : ℕ) (edge : NumberEdge) →
      last_edge_at steps n ≡ Some edge →
      Walk Led syms n → IsPathOver syms edge
  walk_over none syms n edge e stands =
      let both : None ≡ Some edge = sym none ∙ e in let v : ⊥ = cc in absurd v
  walk_over none syms n edge e (goes {g = h} {n = k} x m w d) =
      let led = led_edge k x n d in
      let same : led.edge ≡ edge = some_same led.edge edge (sym led.at ∙ e) in
      record {
        front = h;
        symbol = x;
        parts = refl;
        walk = subst (Walk Led h) (sym led.source ∙ ap (λ (y : NumberEdge). y.source) same) w;
        is = subst (λ (y : NumberEdge). symbols_by table y.symbol ≡ Some x) same led.symbol;
      }
