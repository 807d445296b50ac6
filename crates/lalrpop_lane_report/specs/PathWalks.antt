-- Walks over the paths of a graph: edges that were taken, and how much is left to be walked.
use Rattle.std.specs.Prelude.{ℕ, zero, suc, ◌+◌, ◌-◌, ◌<◌, true, List, [], ◌∷◌, length, eqb, ◌≡◌, ⊤, Contains}
use Rattle.std.specs.List.{IsDistinct}
use Rattle.lalrpop_lane_report.specs.Paths.{PathGraph, Taken, is_among, left_at, left_beside, nodes_of}

abbrev pub total : {A : Type 0} → (A → ℕ) → List A → ℕ
total f [] = 0
total f (x ∷ xs) = f x + total f xs

-- how much is to be walked from some edges into a node, up to a depth
abbrev pub work : {E : Type 0} → PathGraph E → ℕ → List E → ℕ
work g zero es = length es
work g (suc depth) es = total (λ e. 2 + work g depth (g.incoming (g.from e))) es

-- the same of a walk, where edges were taken
abbrev pub walk_work : {E : Type 0} → PathGraph E → ℕ → List (Taken E) → List E → ℕ
walk_work g count [] left = work g count left
walk_work g count (t ∷ ts) left = work g (count - length (t ∷ ts)) left + suc (walk_work g count ts t.1)

-- all of these nodes are below a number
abbrev pub AreNodesBelow : ℕ → List ℕ → Type 0
AreNodesBelow count seen = (q : ℕ) → is_among q seen ≡ true → q < count

-- A walk: the nodes to which edges were taken are below a number, each once, and so are those from which the edges that are left lead.
pub record IsWalk {E : Type 0} (g : PathGraph E) (count : ℕ) (ts : List (Taken E)) (left : List E) : Type 0 where
  pub once : IsDistinct eqb (nodes_of g ts)
  pub below : AreNodesBelow count (nodes_of g ts)
  pub edges : (e : E) → Contains left e → g.from e < count
  pub beside : (t : Taken E) (e : E) → Contains ts t → Contains t.1 e → g.from e < count

-- the edges that were taken are a path, and what stands behind the last one is a walk
abbrev pub IsWalked : {E : Type 0} → PathGraph E → ℕ → List (Taken E) → Type 0
IsWalked g count [] = ⊤
IsWalked g count (t ∷ ts) = (g.from t.0 < count) × IsWalk g count ts t.1

-- just as much is left as before, with less to be walked
abbrev pub WalksOn : {E : Type 0} → PathGraph E → ℕ → List (Taken E) → List E → List (Taken E) → List E → Type 0
WalksOn g count ts left us right =
    (left_at g count us right ≡ left_at g count ts left) × IsWalk g count us right × (walk_work g count us right < walk_work g count ts left)

-- the edges that were taken are a path now, or none, and what was left is that and what is left beside it
abbrev pub ArrivesAt : {E : Type 0} → PathGraph E → ℕ → List (Taken E) → List E → List (Taken E) → Type 0
ArrivesAt g count ts left us = (left_beside g count us ≡ left_at g count ts left) × IsWalked g count us
