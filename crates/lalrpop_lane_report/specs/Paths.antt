-- Paths of a graph, backwards from a node to the first item node: which there are, in which order they are listed, and which are left while
-- they are walked.
use Rattle.std.specs.List.{list_any}
use Rattle.std.specs.Prelude.{ℕ, zero, suc, ◌-◌, Bool, true, false, cond, List, [], ◌∷◌, ◌++◌, map, flat_map, length, eqb, ◌≡◌, ◌↔◌, ⊤, Contains}

-- a graph as its paths see it: from which node an edge leads, the edges into each node, the newest first, and which nodes are items
pub record PathGraph (E : Type 0) : Type 0 where
  pub from : E → ℕ
  pub incoming : ℕ → List E
  pub is_item : ℕ → Bool

-- no element stands twice
abbrev pub EachOnce : {X : Type 0} → List X → Type 0
EachOnce [] = Unit {0}
EachOnce (x ∷ xs) = (Contains xs x → ⊥) × EachOnce xs

-- the node is one of these
abbrev pub is_among : ℕ → List ℕ → Bool
is_among n ms = list_any (eqb n) ms

-- an edge that was taken, with the edges into the same node that are left beside it
abbrev pub Taken : Type 0 → Type 0
Taken E = E × List E

module _ {E : Type 0} where
  -- a path backwards from a node: it ends at the first item node, and goes to no other node twice
  pub data IsBackwardPath (g : PathGraph E) : List ℕ → ℕ → List E → Type 0 where
    arrives : {seen : List ℕ} {n : ℕ} (e : E) → Contains (g.incoming n) e → g.is_item (g.from e) ≡ true → IsBackwardPath g seen n (e ∷ [])
    through : {seen : List ℕ} {n : ℕ} {p : List E} (e : E) → Contains (g.incoming n) e → g.is_item (g.from e) ≡ false →
        is_among (g.from e) seen ≡ false → IsBackwardPath g (g.from e ∷ seen) (g.from e) p → IsBackwardPath g seen n (e ∷ p)

  -- one path comes before another: where they part, it takes an edge that stands before the other's
  pub data Before (g : PathGraph E) : ℕ → List E → List E → Type 0 where
    parts : {n : ℕ} (d e : E) (p q : List E) (front middle back : List E) → g.incoming n ≡ front ++ d ∷ (middle ++ e ∷ back) →
        Before g n (d ∷ p) (e ∷ q)
    agrees : {n : ℕ} (e : E) {p q : List E} → Before g (g.from e) p q → Before g n (e ∷ p) (e ∷ q)

  -- each of these paths comes before each later one
  abbrev pub InOrder : PathGraph E → ℕ → List (List E) → Type 0
  InOrder g n [] = ⊤
  InOrder g n (p ∷ ps) = ((q : List E) → Contains ps q → Before g n p q) × InOrder g n ps

  -- the paths that begin with an edge, where those from its node are known
  abbrev pub past : PathGraph E → (List ℕ → ℕ → List (List E)) → List ℕ → E → List (List E)
  past g on seen e =
      cond (g.is_item (g.from e)) ((e ∷ []) ∷ [])
      (cond (is_among (g.from e) seen) [] (map (λ p. e ∷ p) (on (g.from e ∷ seen) (g.from e))))

  -- all paths of at most so many edges, those through newer edges first
  abbrev pub paths : PathGraph E → ℕ → List ℕ → ℕ → List (List E)
  paths g zero seen n = []
  paths g (suc depth) seen n = flat_map (past g (paths g depth) seen) (g.incoming n)

  -- the nodes to which edges were taken, the last one first
  abbrev pub nodes_of : PathGraph E → List (Taken E) → List ℕ
  nodes_of g [] = []
  nodes_of g (t ∷ ts) = g.from t.0 ∷ nodes_of g ts

  -- a path behind the edges that were taken, the last one first
  abbrev pub led : List (Taken E) → List E → List E
  led [] p = p
  led (t ∷ ts) p = led ts (t.0 ∷ p)

  -- the paths that are left, where edges were taken, the last one first, and some edges into the last node are left; all paths have at most
  -- one edge more than this count
  abbrev pub left_at : PathGraph E → ℕ → List (Taken E) → List E → List (List E)
  left_at g count [] left = flat_map (past g (paths g count) []) left
  left_at g count (t ∷ ts) left =
      map (led (t ∷ ts)) (flat_map (past g (paths g (count - length (t ∷ ts))) (nodes_of g (t ∷ ts))) left) ++ left_at g count ts t.1

  -- the same, where the edges that were taken are a path: this one, then those that are left beside
  abbrev pub left_beside : PathGraph E → ℕ → List (Taken E) → List (List E)
  left_beside g count [] = []
  left_beside g count (t ∷ ts) = led (t ∷ ts) [] ∷ left_at g count ts t.1

  -- all paths backwards from a node, each once, those through newer edges first
  pub record AreBackwardPaths (g : PathGraph E) (n : ℕ) (ps : List (List E)) : Type 0 where
    pub all : (p : List E) → Contains ps p ↔ IsBackwardPath g [] n p
    pub once : EachOnce ps
    pub ordered : InOrder g n ps
