-- Cores as keys: those that compare as equal are one, and views tell them. For numbering cores.
use Rattle.std.proofs.Common.{◌≡◌, ◌∙◌, ℕ, Bool, List, [], ◌∷◌, map, refl, ap}
use Rattle.std.specs.Bool.{Decides}
use Rattle.std.specs.Borrow.{Bor}
use Rattle.std.specs.Cmp.Derive.{both_true}
use Rattle.std.specs.Cmp.Lexicographic.{pointwise}
use Rattle.std.specs.Prelude.{nat_eq, ◌&&◌}
use Rattle.std.proofs.lemmas.Bool.Decides.{Decides-eqb}
use Rattle.lalrpop_grammar_repr.specs.contracts.production.ProductionPartialEq.TheImpl as productions
use Rattle.lalrpop_grammar_repr.specs.declared.production.Production.{Production}
use Rattle.lalrpop_lr1_theory.specs.Productions as theory
use Rattle.lalrpop_lr1_theory.specs.States as states
use Rattle.lalrpop_lr1_core.specs.Views.{lr_item_view, production_view}
use Rattle.lalrpop_lr1_core.specs.declared.item.Item.{Item}
use Rattle.lalrpop_grammar_repr.proofs.EqualLemmas.{both_parts, same_productions}
use Rattle.lalrpop_lr1_core.proofs.ProductionViewLemmas.{same_production}
use Rattle.lalrpop_lr1_theory.specs.JoinedStates.{item_core}
use Rattle.lalrpop_lr1_build.specs.StateCores.{DottedProduction, items_core, listed_core, listed_dotted}

-- the `==` of what a core lists
abbrev pub dotted_eq : Bor Production × ℕ → Bor Production × ℕ → Bool
dotted_eq a b = (productions.ghosts).eq a.0.now b.0.now && nat_eq a.1 b.1

dotted_same : (a b : Bor Production × ℕ) → Decides (dotted_eq a b) (listed_dotted a ≡ listed_dotted b)
dotted_same a b = (
  λ e.
      let p = both_parts ((productions.ghosts).eq a.0.now b.0.now) (nat_eq a.1 b.1) e in
      ap (λ (x : Production). (x, a.1)) ((same_productions a.0.now b.0.now).0 p.0)
      ∙ ap (λ (i : ℕ). (b.0.now, i)) ((Decides-eqb a.1 b.1).0 p.1),
  λ e. both_true ((same_productions a.0.now b.0.now).1 (ap (λ (c : DottedProduction). c.0) e))
      ((Decides-eqb a.1 b.1).1 (ap (λ (c : DottedProduction). c.1) e)),
)

head_same : (c d : DottedProduction) (cs ds : List DottedProduction) → c ∷ cs ≡ d ∷ ds → c ≡ d
head_same c d cs ds e = cc

tail_same : (c d : DottedProduction) (cs ds : List DottedProduction) → c ∷ cs ≡ d ∷ ds → cs ≡ ds
tail_same c d cs ds e = cc

-- cores that compare as equal are one
pub cores_same : (a b : List (Bor Production × ℕ)) → Decides (pointwise dotted_eq a b) (listed_core a ≡ listed_core b)
cores_same [] [] = (λ e. refl, λ e. refl)
cores_same [] (y ∷ b) = (λ e. let z : ⊥ = cc in absurd z, λ e. let z : ⊥ = cc in absurd z)
cores_same (x ∷ a) [] = (λ e. let z : ⊥ = cc in absurd z, λ e. let z : ⊥ = cc in absurd z)
cores_same (x ∷ a) (y ∷ b) = (
  λ e.
      let p = both_parts (dotted_eq x y) (pointwise dotted_eq a b) e in
      ap (λ (c : DottedProduction). c ∷ listed_core a) ((dotted_same x y).0 p.0)
      ∙ ap (λ (cs : List DottedProduction). listed_dotted y ∷ cs) ((cores_same a b).0 p.1),
  λ e. both_true ((dotted_same x y).1 (head_same (listed_dotted x) (listed_dotted y) (listed_core a) (listed_core b) e))
      ((cores_same a b).1 (tail_same (listed_dotted x) (listed_dotted y) (listed_core a) (listed_core b) e)),
)

-- what the theory sees of a core
abbrev pub dotted_view : DottedProduction → theory.Production × ℕ
dotted_view c = (production_view c.0, c.1)

-- the items as they are seen have the core that the items have, as it is seen
pub core_view : {L : Type 0} (look : L → states.LookaheadSet) (items : List (Item L)) →
    map item_core (map (lr_item_view look) items) ≡ map dotted_view (items_core items)
core_view look [] = refl
core_view look (item ∷ items) = ap (λ cs. (production_view item.production.now, item.index) ∷ cs) (core_view look items)

dotted_exact : (c d : DottedProduction) → dotted_view c ≡ dotted_view d → c ≡ d
dotted_exact c d e =
    ap (λ (p : Production). (p, c.1)) (same_production c.0 d.0 (ap (λ (v : theory.Production × ℕ). v.0) e))
    ∙ ap (λ (i : ℕ). (d.0, i)) (ap (λ (v : theory.Production × ℕ). v.1) e)

-- cores that are seen as one are one
pub cores_exact : (cs ds : List DottedProduction) → map dotted_view cs ≡ map dotted_view ds → cs ≡ ds
cores_exact [] [] e = refl
cores_exact [] (d ∷ ds) e = let z : ⊥ = cc in absurd z
cores_exact (c ∷ cs) [] e = let z : ⊥ = cc in absurd z
cores_exact (c ∷ cs) (d ∷ ds) e =
    let h : dotted_view c ≡ dotted_view d = cc in
    let t : map dotted_view cs ≡ map dotted_view ds = cc in
    ap (λ (z : DottedProduction). z ∷ cs) (dotted_exact c d h) ∙ ap (λ zs. d ∷ zs) (cores_exact cs ds t)
