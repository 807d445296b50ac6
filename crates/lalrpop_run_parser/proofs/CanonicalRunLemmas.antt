-- By canonical states a run makes no move before what can't follow, so it makes no more moves than a tree has leaves and nodes whose leaves
-- begin as the tokens before that: for the promise of the canonical way.
use Rattle.std.proofs.Common.{◌≡◌, ◌∙◌, ℕ, ◌<◌, List, [], ◌∷◌, ◌++◌}
use Rattle.std.proofs.Common.{refl, sym, ap, subst, append_assoc, append-nil, Contains}
use Rattle.std.proofs.lemmas.List.{append_cancel_right}
use Rattle.lalrpop_grammar_symbols.specs.Symbols.{Terminal, Text}
use Rattle.lalrpop_lr1_theory.specs.Answers.{MayFollow, over_limit}
use Rattle.lalrpop_lr1_theory.specs.Automata.{Walk}
use Rattle.lalrpop_lr1_theory.specs.CanonicalStates.{AreCanonicalStates}
use Rattle.lalrpop_lr1_theory.specs.CheckedStates.{AreCheckedStates, IsStartAlone}
use Rattle.lalrpop_lr1_theory.specs.Productions.{Next, Production, Symbol, first}
use Rattle.lalrpop_lr1_theory.specs.Runs.{Allows, PassesLimit, Runs, RunsBy}
use Rattle.lalrpop_lr1_theory.specs.States.{HasEdge, HasItem, HasLookahead, Reduces, State}
use Rattle.lalrpop_lr1_theory.specs.Trees.{AreOver, Forest, IsTreeOf, Move, nodes, none, reduce, roots, shift, yield}
use Rattle.lalrpop_lr1_theory.specs.ValidItems.{NoneBarren}
use Rattle.lalrpop_lr1_theory.proofs.AnswerLemmas.{ends_right}
use Rattle.lalrpop_lr1_theory.proofs.CanonicalLemmas.{canonical_follows}
use Rattle.lalrpop_lr1_theory.proofs.CheckedLemmas.{checked_automaton}
use Rattle.lalrpop_lr1_theory.proofs.ReductionLemmas.{reduces_finished}
use Rattle.lalrpop_lr1_theory.proofs.SoundnessLemmas.{runs_over, runs_yield}

-- what comes next can't follow the tokens: with it they begin no sentence, or, at the end, they are none
abbrev pub CantFollow : (Production → Type 0) → Text → List Terminal → Next → Type 0
CantFollow G s u x = MayFollow G s u x → ⊥

-- the first move of a run alone
first_move : {Edge : ℕ → Symbol → ℕ → Type 0} {R : ℕ → Production → Next → Type 0} {m : Move}
    {Rest : Forest → List Terminal → Type 0} {f : Forest} {v : List Terminal} → (r : RunsBy Edge R m Rest f v) →
    Runs Edge R (m ∷ []) f v r.made r.left
first_move r = record {
  state = r.state;
  made = r.made;
  left = r.left;
  walk = r.walk;
  allowed = r.allowed;
  leads = r.leads;
  consumed = r.consumed;
  rest = (refl, refl);
}

module _ (grammar : List Production) (s : Text) (states : List State) (nb : NoneBarren (Contains grammar) s)
    (can : AreCanonicalStates grammar s states) (ok : AreCheckedStates grammar s states) where
  -- no move is allowed before what can't follow
  no_move : (f : Forest) (n : ℕ) (x : Next) (v : Move) → AreOver (Contains grammar) f → Walk (HasEdge states) (roots f) n →
      Allows (HasEdge states) (Reduces states) n x v → CantFollow (Contains grammar) s (yield f) x → ⊥
  no_move f n x v o w a wrong =
      wrong (canonical_follows (Contains grammar) s (HasItem states) (HasEdge states) (HasLookahead states) can.automaton (Reduces states)
      (reduces_finished grammar s states can) nb f n x v o w a)

  module _ (u z x : List Terminal) (wrong : CantFollow (Contains grammar) s u (first z)) where
    -- so a run over these tokens and others goes the same way whatever the others are
    over_others : (ms : List Move) (f : Forest) (v : List Terminal) (g : Forest) (w c : List Terminal) →
        Runs (HasEdge states) (Reduces states) ms f v g w → AreOver (Contains grammar) f → v ≡ c ++ z → u ≡ yield f ++ c →
        (w' : List Terminal) × Runs (HasEdge states) (Reduces states) ms f (c ++ x) g w'
    over_others [] f v g w c r o e k = (c ++ x, (r.0, refl))
    over_others (m ∷ ms) f v g w [] r o e k =
        absurd (no_move f r.state (first v) m o r.walk r.allowed
        (subst (λ l. CantFollow (Contains grammar) s l (first v)) (k ∙ append-nil (yield f))
        (subst (λ l. CantFollow (Contains grammar) s u (first l)) (sym e) wrong)))
    over_others (shift t ∷ ms) f v g w (d ∷ c) r o e k =
        let ch = checked_automaton grammar s states ok in
        let same : t ≡ d = let q : v ≡ t ∷ r.left = r.consumed in cc in
        let rest : r.left ≡ c ++ z = let q : v ≡ t ∷ r.left = r.consumed in cc in
        let y = runs_yield (Contains grammar) s (HasItem states) (HasEdge states) (Reduces states) ch (shift t ∷ []) f v r.made r.left
        (first_move r) in
        let shifted : yield f ++ d ∷ [] ≡ yield r.made =
        append_cancel_right (yield f ++ d ∷ []) (yield r.made) r.left
        (append_assoc (yield f) (d ∷ []) r.left
        ∙ ap (λ l. yield f ++ l) (ap (λ i. i ∷ r.left) (sym same) ∙ sym r.consumed) ∙ y) in
        let o' = runs_over (Contains grammar) s (HasItem states) (HasEdge states) (Reduces states) ch (shift t ∷ []) f v r.made r.left
        (first_move r) o in
        let k' : u ≡ yield r.made ++ c = k ∙ sym (append_assoc (yield f) (d ∷ []) c) ∙ ap (λ l. l ++ c) shifted in
        let i = over_others ms r.made r.left g w c r.rest o' rest k' in (
          i.0,
          record {
            state = r.state;
            made = r.made;
            left = c ++ x;
            walk = r.walk;
            allowed = subst (λ l. Allows (HasEdge states) (Reduces states) r.state (first l) (shift t)) e r.allowed;
            leads = r.leads;
            consumed = ap (λ i. i ∷ c ++ x) (sym same);
            rest = i.1;
          },
        )
    over_others (reduce p ∷ ms) f v g w (d ∷ c) r o e k =
        let ch = checked_automaton grammar s states ok in
        let y = runs_yield (Contains grammar) s (HasItem states) (HasEdge states) (Reduces states) ch (reduce p ∷ []) f v r.made r.left
        (first_move r) in
        let kept : yield f ≡ yield r.made =
        append_cancel_right (yield f) (yield r.made) r.left (ap (λ l. yield f ++ l) (sym r.consumed) ∙ y) in
        let o' = runs_over (Contains grammar) s (HasItem states) (HasEdge states) (Reduces states) ch (reduce p ∷ []) f v r.made r.left
        (first_move r) o in
        let i = over_others ms r.made r.left g w (d ∷ c) r.rest o' (sym r.consumed ∙ e) (k ∙ ap (λ l. l ++ d ∷ c) kept) in (
          i.0,
          record {
            state = r.state;
            made = r.made;
            left = d ∷ c ++ x;
            walk = r.walk;
            allowed = subst (λ l. Allows (HasEdge states) (Reduces states) r.state (first l) (reduce p)) e r.allowed;
            leads = r.leads;
            consumed = refl;
            rest = i.1;
          },
        )

    -- and so a tree whose leaves begin with these tokens has more leaves and nodes than a limit that is passed over them and what can't
    -- follow
    pub larger_tree : IsStartAlone grammar s → (tokens : List Terminal) (limit : ℕ) (ts : Forest) → tokens ≡ u ++ z →
        IsTreeOf (Contains grammar) s ts → yield ts ≡ u ++ x → PassesLimit states tokens limit → limit < nodes ts
    larger_tree alone tokens limit ts parts is_tree leaves p =
        let r = over_others p.moves none tokens p.made p.left u p.run tt parts refl in
        let over = ends_right grammar s states alone ok (u ++ x) limit over_limit
        (record { moves = p.moves; made = p.made; left = r.0; run = r.1; count = p.count }) in
        over.0 ts is_tree leaves
