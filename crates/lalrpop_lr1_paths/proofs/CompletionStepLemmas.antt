-- Steps that are made of the items of a cover's states, along paths to these, are the steps that lead out: for the graphs of steps.
use Rattle.std.proofs.Common.{◌≡◌, ◌∙◌, ◌+◌, ◌<◌, ℕ, zero, suc, List, [], ◌∷◌, length, map, drop, Option, Some}
use Rattle.std.proofs.Common.{Contains, refl, sym, ap, subst, arith}
use Rattle.std.specs.Prelude.{slice_get}
use Rattle.std.specs.Borrow.{Bor}
use Rattle.std.proofs.lemmas.Option.{slice_get_within}
use Rattle.lalrpop_grammar_symbols.specs.Symbols.{Text}
use Rattle.lalrpop_grammar_symbols.specs.declared.names.NonterminalString.{NonterminalString}
use Rattle.lalrpop_grammar_repr.specs.declared.grammar.Grammar.{Grammar}
use Rattle.lalrpop_grammar_repr.specs.declared.production.Production.{Production}
use Rattle.lalrpop_grammar_repr.specs.declared.production.Symbol.{Symbol}
use Rattle.lalrpop_grammar_repr.specs.declared.production.Symbol.TheVariants as symbols
use Rattle.lalrpop_lr1_theory.specs.Productions as theory
use Rattle.lalrpop_lr1_theory.specs.Automata.{IsCover}
use Rattle.lalrpop_lr1_theory.specs.States as states
use Rattle.lalrpop_lr1_theory.specs.States.{HasEdge, HasItem, LookaheadSet}
use Rattle.lalrpop_lr1_theory.proofs.ExampleLemmas.{nonterminal_is}
use Rattle.lalrpop_lr1_theory.proofs.StepLemmas.{some_same}
use Rattle.lalrpop_lr1_theory.proofs.WalkLemmas.{item_over}
use Rattle.lalrpop_lr1_core.specs.Views.{lr_item_view, lr_state_view, production_symbol_view, production_view}
use Rattle.lalrpop_lr1_core.specs.declared.item.Item.{Item}
use Rattle.lalrpop_lr1_core.specs.declared.state.State.{State}
use Rattle.lalrpop_lr1_core.proofs.MemberLemmas.{in_map, map_has}
use Rattle.lalrpop_lr1_core.proofs.NoConflictLemmas.{at_mapped, mapped_at}
use Rattle.lalrpop_lr1_first.specs.FirstNumbers.{name_count}
use Rattle.lalrpop_lr1_first.specs.FirstSetsOf.{IsProductionOf}
use Rattle.lalrpop_lr1_core.specs.TheoryGrammars.{productions_of_grammar}
use Rattle.lalrpop_lr1_first.specs.NumberedGrammars.{IsNumberTableOf, table_productions}
use Rattle.lalrpop_lr1_first.specs.Numbers.{SpellsSymbols}
use Rattle.lalrpop_lr1_first.proofs.TableFirstLemmas.{seen_same}
use Rattle.lalrpop_lr1_first.proofs.TableLemmas.{rules_are, table_numbering}
use Rattle.lalrpop_lr1_least_trees.specs.GrammarTrees.{symbols_by}
use Rattle.lalrpop_lr1_theory.specs.PathTrees.{ArePaths, IsBack, IsPathTree, IsStateOf, LedBy, further, here}
use Rattle.lalrpop_lr1_theory.proofs.PathLemmas.{back_there, walk_by_edges}
use Rattle.lalrpop_lr1_least_trees.specs.RestForests.{AnyLeaves, HasRest}
use Rattle.lalrpop_lr1_paths.specs.PathTables.{last_steps}
use Rattle.lalrpop_lr1_paths.specs.declared.state_paths.state_paths.StatePaths.{StatePaths}
use Rattle.lalrpop_lr1_paths.specs.CompletionSteps.{AreCompletionSteps, HasCompletionStep, IsCompletionNode, IsCompletionStep, step_production, step_rest}
use Rattle.lalrpop_lr1_paths.specs.ToldSteps.{AreStepsOfStates, HasNameNumber, IsStepOfStates}
use Rattle.lalrpop_lr1_paths.specs.declared.completion_steps.steps_of_states.CompletionStep.{CompletionStep}

pub one_on : (i : ℕ) → suc (i + 1) ≡ suc i + 1
one_on i = omega arith

-- what stands behind a dot, as the theory sees it
seen_behind : (xs : List Symbol) (i : ℕ) (x : Symbol) → slice_get xs i ≡ Some x →
    drop i (map production_symbol_view xs) ≡ production_symbol_view x ∷ map production_symbol_view (drop (i + 1) xs)
seen_behind [] i x e = let z : ⊥ = cc in absurd z
seen_behind (y ∷ xs) zero x e = ap (λ s. production_symbol_view s ∷ map production_symbol_view xs) (some_same y x e)
seen_behind (y ∷ xs) (suc i) x e =
    seen_behind xs i x e ∙ ap (λ k. production_symbol_view x ∷ map production_symbol_view (drop k (y ∷ xs))) (one_on i)

-- and which nonterminal stands there, where the theory sees one
record IsNameThere (xs : List Symbol) (i : ℕ) (B : Text) (b : List theory.Symbol) : Type 0 where
  name : NonterminalString
  at : slice_get xs i ≡ Some (symbols.Nonterminal name)
  name_is : name.0 ≡ B
  rest_is : map production_symbol_view (drop (i + 1) xs) ≡ b

name_there : (xs : List Symbol) (i : ℕ) (B : Text) (b : List theory.Symbol) →
    drop i (map production_symbol_view xs) ≡ theory.nonterminal B ∷ b → IsNameThere xs i B b
name_there [] zero B b e = let z : ⊥ = cc in absurd z
name_there [] (suc i) B b e = let z : ⊥ = cc in absurd z
name_there (symbols.Nonterminal n ∷ xs) zero B b e =
    let same : theory.nonterminal n.0 ≡ theory.nonterminal B = cc in
    let rest : map production_symbol_view xs ≡ b = cc in
    record { name = n; at = refl; name_is = nonterminal_is n.0 B same; rest_is = rest }
name_there (symbols.Terminal t ∷ xs) zero B b e = let z : ⊥ = cc in absurd z
name_there (x ∷ xs) (suc i) B b e =
    let r = name_there xs i B b e in
    record {
      name = r.name;
      at = r.at;
      name_is = r.name_is;
      rest_is = ap (λ k. map production_symbol_view (drop k (x ∷ xs))) (sym (one_on i)) ∙ r.rest_is;
    }

-- each symbol of a right side with numbers has one
number_there : (symbol_at : ℕ → Option theory.Symbol) (ns : List ℕ) (ys : List theory.Symbol) (i : ℕ) (y : theory.Symbol)
    (b : List theory.Symbol) → SpellsSymbols symbol_at ns ys → drop i ys ≡ y ∷ b → (s : ℕ) × (symbol_at s ≡ Some y)
number_there symbol_at [] [] zero y b sp e = let z : ⊥ = cc in absurd z
number_there symbol_at [] [] (suc i) y b sp e = let z : ⊥ = cc in absurd z
number_there symbol_at [] (x ∷ ys) i y b sp e = absurd sp
number_there symbol_at (n ∷ ns) [] i y b sp e = absurd sp
number_there symbol_at (n ∷ ns) (x ∷ ys) zero y b sp e = let z : x ≡ y = cc in (n, sp.0 ∙ ap Some z)
number_there symbol_at (n ∷ ns) (x ∷ ys) (suc i) y b sp e = number_there symbol_at ns ys i y b sp.1 e

-- what stands before a state on its path is a state
back_state : (views : List states.State) (Back : ℕ → theory.Symbol → ℕ → Type 0) →
    IsPathTree (HasEdge views) Back (IsStateOf views) →
    (i n m : ℕ) → IsStateOf views n → IsBack Back i n m → IsStateOf views m
back_state views Back paths i n m is (here k) = is
back_state views Back paths i n m is (further {i = j} {n = k} x l e back) =
    back_state views Back paths j k m (edge_state k x l (paths.edges k x l e)) back
  where
    edge_state : (n : ℕ) (x : theory.Symbol) (m : ℕ) → HasEdge views n x m → IsStateOf views n
    edge_state n (theory.terminal t) m e = (e.0, e.1)
    edge_state n (theory.nonterminal A) m e = (e.0, e.1)

module _ (g : Grammar) (it : StatePaths) (of : IsNumberTableOf g it.trees.now.table) {L : Type 0} (look : L → LookaheadSet)
    (all : List (State L)) (s : Text)
    (cover : IsCover (IsProductionOf g) s (HasItem (map (lr_state_view look) all)) (HasEdge (map (lr_state_view look) all)))
    (paths : ArePaths (map (lr_state_view look) all) (last_steps it)) where
  abbrev views : List states.State
  views = map (lr_state_view look) all

  abbrev at : ℕ → Option theory.Symbol
  at = symbols_by it.trees.now.table

  abbrev names : ℕ
  names = name_count it.trees.now.table

  -- an item of a state as the theory sees it, and a state
  held_view : (n : ℕ) (state : State L) (item : Item L) → slice_get all n ≡ Some state → Contains state.items.vec item →
      HasItem views n (production_view item.production.now) item.index
  held_view n state item e c =
      record {
        state = lr_state_view look state;
        lookahead = look item.lookahead;
        at = mapped_at (lr_state_view look) all n state e;
        held = map_has (lr_item_view look) state.items.vec item c;
      }

  is_state : (n : ℕ) (state : State L) → slice_get all n ≡ Some state → IsStateOf views n
  is_state n state e = (lr_state_view look state, mapped_at (lr_state_view look) all n state e)

  state_within : (n : ℕ) → IsStateOf views n → n < length all
  state_within n is =
      let m = at_mapped (lr_state_view look) all n is.0 is.1 in slice_get_within all n m.0 m.1

  -- an item's production is the grammar's, so its names have numbers
  production_of : (n : ℕ) (p : theory.Production) (i : ℕ) → IsStateOf views n → HasItem views n p i → IsProductionOf g p
  production_of n p i is held =
      let w = paths.all n is in
      item_over (IsProductionOf g) s (HasItem views) (HasEdge views) cover w.0 n
      (walk_by_edges (HasEdge views) (LedBy (last_steps it)) (IsStateOf views) paths w.0 n w.1) p i held

  name_number : (B : NonterminalString) (number : ℕ) → at number ≡ Some (theory.nonterminal B.0) → HasNameNumber it B
  name_number B number e = (number, (table_numbering it.trees.now.table of.numbers).name_below number B.0 e, e)

  -- the numbers of a production's names
  rule_there : (p : theory.Production) → IsProductionOf g p → (left : ℕ) × (right : List ℕ) ×
      (at left ≡ Some (theory.nonterminal p.left)) × SpellsSymbols at right p.right
  rule_there p c =
      let r = (rules_are it.trees.now.table of.numbers).all p
      (seen_same production_view (productions_of_grammar g) (table_productions it.trees.now.table)
      (λ q. ((of.productions q).1, (of.productions q).0)) p c) in
      (r.1.left, r.1.right, r.3.left, r.3.right)

  module _ (steps : List CompletionStep) (are : AreStepsOfStates (IsProductionOf g) it (length all) all steps) where
    abbrev IsOut : CompletionStep → Type 0
    IsOut = IsCompletionStep (IsProductionOf g) views (last_steps it) at names

    -- each step leads out
    sound : (step : CompletionStep) → IsStepOfStates (IsProductionOf g) it (length all) all step → IsOut step
    sound step r =
        let told = r.is in
        let item = told.item in
        let w = paths.all r.number (is_state r.number r.state r.at) in
        let held = held_view r.number r.state item r.at told.has in
        let back = back_there (HasEdge views) (LedBy (last_steps it)) (IsStateOf views) paths (IsProductionOf g) s (HasItem views) cover
        item.index w.0 r.number w.1 (production_view item.production.now) held in
        let same : production_view item.production.now ≡ step_production step =
        ap (λ (p : Bor Production). production_view p.now) (sym told.production_is) in
        record {
          state = r.number;
          before = told.before;
          dot = item.index;
          name = told.name.0;
          held = subst (λ p. HasItem views r.number p item.index) same held;
          at = subst (λ (p : theory.Production). drop item.index p.right ≡ theory.nonterminal told.name.0 ∷ step_rest step) same
              (seen_behind item.production.now.symbols item.index (symbols.Nonterminal told.name) told.at
              ∙ ap (λ xs. theory.nonterminal told.name.0 ∷ map production_symbol_view xs) (sym told.rest_is));
          back = subst (IsBack (LedBy (last_steps it)) item.index r.number) (sym (told.before_is back.0 back.1)) back.1;
          from = told.from;
          to = subst (λ (p : theory.Production). IsCompletionNode at names step.to told.before p.left) same told.to;
          rest = told.rest;
        }

    -- an item of a state, by what the theory sees of it
    record IsHeldItem (n : ℕ) (p : theory.Production) (i : ℕ) : Type 0 where
      state : State L
      item : Item L
      at_state : slice_get all n ≡ Some state
      has : Contains state.items.vec item
      seen : production_view item.production.now ≡ p
      dot_is : item.index ≡ i

    held_item : (n : ℕ) (p : theory.Production) (i : ℕ) → HasItem views n p i → IsHeldItem n p i
    held_item n p i h =
        let m = at_mapped (lr_state_view look) all n h.state h.at in
        let c = in_map (lr_item_view look) m.0.items.vec (record { production = p; dot = i; lookahead = h.lookahead })
        (subst (λ (v : states.State). Contains v.items (record { production = p; dot = i; lookahead = h.lookahead })) (sym m.2) h.held) in
        record {
          state = m.0;
          item = c.0;
          at_state = m.1;
          has = c.1;
          seen = ap (λ (v : states.Item). v.production) c.2;
          dot_is = ap (λ (v : states.Item). v.dot) c.2;
        }

    -- and over each item that the theory sees there is one
    out_step : (n m : ℕ) (state : State L) (item : Item L) (B : Text) (b : List theory.Symbol) → slice_get all n ≡ Some state →
        Contains state.items.vec item → drop item.index (production_view item.production.now).right ≡ theory.nonterminal B ∷ b →
        IsBack (LedBy (last_steps it)) item.index n m → HasRest (IsProductionOf g) b AnyLeaves →
        HasCompletionStep at names steps n (production_view item.production.now) m B b
    out_step n m state item B b e c dot back rest =
        let there = is_state n state e in
        let name = name_there item.production.now.symbols item.index B b dot in
        let p = production_view item.production.now in
        let rule = rule_there p (production_of n p item.index there (held_view n state item e c)) in
        let number = number_there at rule.1 p.right item.index (theory.nonterminal B) b rule.3 dot in
        let has = are.all n state item name.name m e c (record {
          at = name.at;
          back = back;
          below = state_within m (back_state views (LedBy (last_steps it)) paths item.index n m there back);
          numbered = name_number name.name number.0 (number.1 ∙ ap (λ A. Some (theory.nonterminal A)) (sym name.name_is));
          left_numbered = name_number item.production.now.nonterminal rule.0 rule.2;
          rest = subst (λ ss. HasRest (IsProductionOf g) ss AnyLeaves) (sym name.rest_is) rest;
        }) in
        record {
          number = has.number;
          step = has.step;
          at_step = has.at_step;
          production_is = ap (λ (q : Bor Production). production_view q.now) has.production_is;
          rest_is = ap (map production_symbol_view) has.rest_is ∙ name.rest_is;
          from = subst (IsCompletionNode at names has.step.from n) name.name_is has.from;
          to = has.to;
        }

    pub steps_lead_out : AreCompletionSteps (IsProductionOf g) views (last_steps it) at names (HasItem views) steps
    steps_lead_out =
        record {
          sound = λ k step e. sound step (are.sound k step e);
          all = λ n p i m B b held dot back rest.
              let h = held_item n p i held in
              subst (λ q. HasCompletionStep at names steps n q m B b) h.seen
              (out_step n m h.state h.item B b h.at_state h.has
              (ap (λ k. drop k (production_view h.item.production.now).right) h.dot_is
              ∙ ap (λ (q : theory.Production). drop i q.right) h.seen ∙ dot)
              (subst (λ k. IsBack (LedBy (last_steps it)) k n m) (sym h.dot_is) back) rest);
        }
