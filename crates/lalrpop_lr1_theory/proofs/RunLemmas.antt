-- What is carried along states is carried along symbols, and runs of one length are one: for these two laws.
use Rattle.std.proofs.Common.{◌≡◌, ℕ, List, [], ◌∷◌, ◌++◌, length, refl, sym, ◌∙◌, subst, arith}
use Rattle.lalrpop_grammar_symbols.specs.Symbols.{Terminal, Text}
use Rattle.lalrpop_lr1_theory.specs.Productions.{Next, Production, Symbol, first}
use Rattle.lalrpop_lr1_theory.specs.Trees.{Forest, Move, MovesLead, reduce, roots, shift}
use Rattle.lalrpop_lr1_theory.specs.ValidItems.{CarriesAlong, CarriesOn, begins, closes, shifts}
use Rattle.lalrpop_lr1_theory.specs.Automata.{IsLr1Automaton, Walk, goes, stands}
use Rattle.lalrpop_lr1_theory.specs.Runs.{Allows, Consumes, Runs}
use Rattle.lalrpop_lr1_theory.specs.Laws.{IsOneRun}
use Rattle.lalrpop_lr1_theory.proofs.TreeLemmas.{leads_one}
use Rattle.lalrpop_lr1_theory.proofs.WalkLemmas.{allows_one, walk_one}

-- what is carried in a state is carried on some list of symbols that leads there
pub carried_lifts : (G : Production → Type 0) (s : Text) (Edge : ℕ → Symbol → ℕ → Type 0) (n : ℕ) (p : Production)
    (i : ℕ) (x : Next) →
    CarriesAlong G s ℕ 0 Edge n p i x → (g : List Symbol) × Walk Edge g n × CarriesOn G s g p i x
carried_lifts G s Edge n p i x (begins q h e) = ([], stands, begins p h e)
carried_lifts G s Edge n p i x (shifts {n = m} {i = j} X b k c d e) =
    let r = carried_lifts G s Edge m p j x c in (r.0 ++ X ∷ [], goes X n r.1 e, shifts X b (r.0 ++ X ∷ []) r.2 d refl)
carried_lifts G s Edge n p i x (closes {n = m} {p = q} {i = j} {x = y} b q' z c d u f) =
    let r = carried_lifts G s Edge m q j y c in (r.0, r.1, closes b q' z r.2 d u f)

module _ (G : Production → Type 0) (s : Text) (Item : ℕ → Production → ℕ → Type 0)
    (Edge : ℕ → Symbol → ℕ → Type 0) (Reduce : ℕ → Production → Next → Type 0)
    (ok : IsLr1Automaton G s Item Edge Reduce) where
  eats_one : (m : Move) (v a b : List Terminal) → Consumes m v a → Consumes m v b → a ≡ b
  eats_one (shift t) v a b h k = cc
  eats_one (reduce p) v a b h k = cc

  -- runs of one length are one
  pub runs_one : (ms ns : List Move) (f : Forest) (v : List Terminal) (g h : Forest) (w u : List Terminal) →
      Runs Edge Reduce ms f v g w → Runs Edge Reduce ns f v h u → length ms ≡ length ns → IsOneRun ms ns g h w u
  runs_one [] [] f v g h w u a b e =
      record { moves_same = refl; forests_same = sym a.0 ∙ b.0; left_same = sym a.1 ∙ b.1 }
  runs_one [] (n ∷ ns) f v g h w u a b e = absurd (omega (arith, e))
  runs_one (m ∷ ms) [] f v g h w u a b e = absurd (omega (arith, e))
  runs_one (m ∷ ms) (n ∷ ns) f v g h w u a b e =
      let k = walk_one Edge ok.cover.one (roots f) b.state a.state b.walk a.walk in
      let same : n ≡ m = allows_one G s Item Edge Reduce ok a.state (first v) n m
      (subst (λ j. Allows Edge Reduce j (first v) n) k b.allowed) a.allowed in
      let l : b.made ≡ a.made =
      leads_one (m ∷ []) f b.made a.made (subst (λ j. MovesLead (j ∷ []) f b.made) same b.leads) a.leads in
      let t : b.left ≡ a.left = eats_one m v b.left a.left (subst (λ j. Consumes j v b.left) same b.consumed) a.consumed in
      let r = runs_one ms ns a.made a.left g h w u a.rest
      (subst (λ j. Runs Edge Reduce ns j a.left h u) l (subst (λ j. Runs Edge Reduce ns b.made j h u) t b.rest)) (omega (arith, e)) in
      let rr : ms ≡ ns = r.moves_same in
      record { moves_same = cc; forests_same = r.forests_same; left_same = r.left_same }
