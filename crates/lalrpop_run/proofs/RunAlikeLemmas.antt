-- Where productions correspond, runs over tokens do: there is one of each length for both.
use Rattle.std.proofs.Common.{◌≡◌, ℕ, List, [], ◌∷◌, length, refl, ap, ◌∙◌, subst, suc}
use Rattle.lalrpop_grammar_symbols.specs.Symbols.{Text, Terminal}
use Rattle.lalrpop_lr1_theory.specs.Productions.{Production}
use Rattle.lalrpop_lr1_theory.specs.Trees.{Forest, none, leaf, node, ◌and◌, forest, roots, Move, shift, reduce, MovesLead}
use Rattle.lalrpop_lr1_theory.specs.Runs.{Consumes}
use Rattle.lalrpop_lr1_theory.specs.Answers.{HasRun, IsMoveOf, IsRun, Passes}
use Rattle.lalrpop_run.proofs.AlikeLemmas.{Alike, AlikeSides, Correspond, alike_one, forest_alike, made, roots_alike, side_one, tree_alike}
use Rattle.lalrpop_run.proofs.ItemAlikeLemmas.{and_alike, split_and}

module _ (G H : Production → Type 0) (N : Text → Text → Type 0) (R : Production → Production → Type 0)
    (c : Correspond G H N R) (s : Text) (n : N s s) where
  passes_alike : (f h : Forest) → Alike R f h → Passes G s f → Passes H s h
  passes_alike f h a p =
      let m = made G H N R c p.tree p.is_tree.1 in
      let shown : Alike R f (forest m.forest p.count) =
      subst (λ z. Alike R z (forest m.forest p.count)) p.forest_is (forest_alike G H N R c p.tree m.forest p.count m.alike) in
      record {
        tree = m.forest;
        count = p.count;
        is_tree = tree_alike G H N R c s s p.tree m.forest n p.is_tree m.alike;
        forest_is = alike_one G H N R c f (forest m.forest p.count) h shown a;
      }

  -- a move that corresponds, with what it makes
  record HasStep (m : Move) (f h made_of : Forest) (v left : List Terminal) : Type 0 where
    move : Move
    made_to : Forest
    is_move : IsMoveOf H move
    leads : MovesLead (move ∷ []) h made_to
    consumed : Consumes move v left
    alike : Alike R made_of made_to

  step : (m : Move) (f h to : Forest) (v left : List Terminal) → Alike R f h → IsMoveOf G m → MovesLead (m ∷ []) f to →
      Consumes m v left → HasStep m f h to v left
  step (shift t) f h to v left a i l k = record {
    move = shift t;
    made_to = h and leaf t none;
    is_move = tt;
    leads = refl;
    consumed = k;
    alike = subst (λ z. Alike R z (h and leaf t none)) l (and_alike R f h (leaf t none) (leaf t none) a (refl, tt));
  }
  step (reduce p) f h to v left a i l k =
      let parts = split_and R l.kept l.children h (subst (λ z. Alike R z h) l.parts a) in
      let q = c.there p i in
      let children : Alike R (node p l.children none) (node q.0 parts.back none) = (q.1, parts.backs, tt) in
      record {
        move = reduce q.0;
        made_to = parts.front and node q.0 parts.back none;
        is_move = c.over p q.0 q.1;
        leads = record {
          kept = parts.front;
          children = parts.back;
          parts = parts.whole;
          roots_are = side_one G H N R c p.right (roots parts.back) q.0.right
              (subst (λ z. AlikeSides N z (roots parts.back)) l.roots_are
              (roots_alike G H N R c l.children parts.back parts.backs)) (c.right p q.0 q.1);
          rest = refl;
        };
        consumed = k;
        alike = subst (λ z. Alike R z (parts.front and node q.0 parts.back none)) l.rest
            (and_alike R l.kept parts.front (node p l.children none) (node q.0 parts.back none) parts.fronts children);
      }

  record HasRunFrom (count : ℕ) (h : Forest) (v : List Terminal) : Type 0 where
    moves : List Move
    many : length moves ≡ count
    run : IsRun H s moves h v

  run_alike : (ms : List Move) (f h : Forest) (v : List Terminal) → Alike R f h → IsRun G s ms f v → HasRunFrom (length ms) h v
  run_alike [] f h v a r = record { moves = []; many = refl; run = tt }
  run_alike (m ∷ ms) f h v a r =
      let o = step m f h r.made v r.left a r.is_move r.leads r.consumed in
      let more = run_alike ms r.made o.made_to r.left o.alike r.rest in
      record {
        moves = o.move ∷ more.moves;
        many = ap suc more.many;
        run = record {
          made = o.made_to;
          left = r.left;
          is_move = o.is_move;
          leads = o.leads;
          consumed = o.consumed;
          passes = passes_alike r.made o.made_to o.alike r.passes;
          rest = more.run;
        };
      }

  pub has_run_alike : (w : List Terminal) (count : ℕ) → HasRun G s w count → HasRun H s w count
  has_run_alike w count h =
      let r = run_alike h.0 none none w tt h.2 in
      (r.moves, r.many ∙ h.1, r.run)
