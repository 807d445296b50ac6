-- Moves lead out before all that is carried on the path to a state: for the laws on completions.
use Rattle.std.proofs.Common.{◌≡◌, ℕ, suc, List, [], ◌∷◌, ◌++◌, refl, sym, ap, ap₂, ◌∙◌, subst, None}
use Rattle.lalrpop_grammar_symbols.specs.Symbols.{Terminal, Text}
use Rattle.lalrpop_lr1_theory.specs.Productions.{Next, Production, Symbol, first, nonterminal}
use Rattle.lalrpop_lr1_theory.specs.Trees.{Forest, leaf, moves, none, reduce, yield}
use Rattle.lalrpop_lr1_theory.specs.ValidItems.{CarriesOn, NoneBarren, begins, closes, shifts}
use Rattle.lalrpop_lr1_theory.specs.Automata.{IsCover, Walk, goes, stands}
use Rattle.lalrpop_lr1_theory.proofs.FirstLemmas.{AllReached, first1_trees_for, reached_drop, reached_right}
use Rattle.lalrpop_lr1_theory.proofs.TreeLemmas.{yield-and}
use Rattle.lalrpop_lr1_theory.proofs.ValidItemLemmas.{drop_on, open_from_carried}
use Rattle.lalrpop_lr1_theory.proofs.WalkLemmas.{carried_there, walk_one}
use Rattle.lalrpop_lr1_theory.specs.PathTrees.{IsBack, IsPathTree, further, here}
use Rattle.lalrpop_lr1_theory.specs.CompletionMoves.{HasCompletion, arrives, steps}
use Rattle.lalrpop_lr1_theory.proofs.PathLemmas.{walk_by_edges}

-- leaves with these terminals
abbrev leaves_of : List Terminal → Forest
leaves_of [] = none
leaves_of (t ∷ w) = leaf t (leaves_of w)

yield-leaves_of : (w : List Terminal) → yield (leaves_of w) ≡ w
yield-leaves_of [] = refl
yield-leaves_of (t ∷ w) = ap (λ v. t ∷ v) (yield-leaves_of w)

longer : (a : List Symbol) (y : Symbol) → a ++ y ∷ [] ≡ [] → ⊥
longer [] y e = cc
longer (b ∷ a) y e = cc

same_front : (a h : List Symbol) (y x : Symbol) → a ++ y ∷ [] ≡ h ++ x ∷ [] → a ≡ h
same_front [] [] y x e = refl
same_front [] (b ∷ h) y x e = let z : [] ≡ h ++ x ∷ [] = cc in absurd (longer h x (sym z))
same_front (b ∷ a) [] y x e = let z : a ++ y ∷ [] ≡ [] = cc in absurd (longer a y z)
same_front (b ∷ a) (c ∷ h) y x e =
    let z : b ≡ c = cc in
    let u : a ++ y ∷ [] ≡ h ++ x ∷ [] = cc in
    ap₂ (λ v w. v ∷ w) z (same_front a h y x u)

module _ (G : Production → Type 0) (s : Text) (Item : ℕ → Production → ℕ → Type 0)
    (Edge Back : ℕ → Symbol → ℕ → Type 0)
    (IsState : ℕ → Type 0) (cover : IsCover G s Item Edge) (paths : IsPathTree Edge Back IsState) (nb : NoneBarren G s) where
  -- a state so many places back, from which moves lead out before this
  pub record GoesOut (n i : ℕ) (B : Text) (x : Next) : Type 0 where
    pub state : ℕ
    pub back : IsBack Back i n state
    pub out : HasCompletion G s Item Back state B x

  item_there : (g : List Symbol) (n : ℕ) → Walk Back g n → (p : Production) (i : ℕ) (x : Next) →
      CarriesOn G s g p i x → Item n p i
  item_there g n w p i x k =
      let r = carried_there G s Item Edge cover g p i x k in
      subst (λ m. Item m p i)
      (walk_one Edge cover.one g r.0 n r.1 (walk_by_edges Edge Back IsState paths g n w)) r.2

  pub carried_out : (g : List Symbol) (n : ℕ) → Walk Back g n → (p : Production) (i : ℕ) (x : Next) → CarriesOn G s g p i x →
      GoesOut n i p.left x
  carried_out g n w p i x (begins q h e) = at_start g n w refl
    where
      at_start : (g : List Symbol) (n : ℕ) → Walk Back g n → g ≡ [] → GoesOut n 0 q.left None
      at_start g n stands z =
          record {
            state = 0;
            back = here 0;
            out = subst (λ B. HasCompletion G s Item Back 0 B None) (sym e)
                (record { moves = []; left = []; leads = arrives; next = refl });
          }
      at_start g n (goes {g = a} y m v d) z = absurd (longer a y z)
  carried_out g n w p i x (shifts {n = h} {i = j} X b m k d e) = last g n w e (λ c v. carried_out h c v p j x k)
    where
      last : (g : List Symbol) (n : ℕ) → Walk Back g n → g ≡ h ++ X ∷ [] →
          ((c : ℕ) → Walk Back h c → GoesOut c j p.left x) → GoesOut n (suc j) p.left x
      last g n stands z inner = absurd (longer h X (sym z))
      last g n (goes {g = a} {n = c} y l v f) z inner =
          let same = same_front a h y X z in
          let r = inner c (subst (λ q. Walk Back q c) same v) in
          record { state = r.state; back = further y n f r.back; out = r.out }
  carried_out g n w p i x (closes {p = q} {i = j} {x = y} b r z k d u f) =
      let inner = carried_out g n w q j y k in
      let way = inner.out in
      let o = open_from_carried G s nb g q j y k in
      let reached = subst (AllReached G s) (drop_on (nonterminal r.left) b q.right j d)
      (reached_drop G s (suc j) q.right (reached_right G s q o.reached o.fits.0)) in
      let t = first1_trees_for G s nb b y z (leaves_of way.left) reached f (ap first (yield-leaves_of way.left) ∙ way.next) in
      record {
        state = n;
        back = here n;
        out = record {
          moves = moves t.0 ++ reduce q ∷ way.moves;
          left = yield t.0 ++ way.left;
          leads = steps q r.left b t.0 (item_there g n w q j y k) d inner.back t.1 t.2 way.leads;
          next = ap (λ v. first (yield t.0 ++ v)) (sym (yield-leaves_of way.left))
              ∙ ap first (sym (yield-and t.0 (leaves_of way.left))) ∙ t.3;
        };
      }
