-- Edges that are joined where one continues the other.
use Rattle.std.specs.Prelude.{◌≡◌, ◌+◌, ◌⊎◌, List, [], ◌∷◌, ◌++◌}
use Rattle.lalrpop_lexer.specs.Numbering.{EdgeView}

-- the edge e reads what comes right behind the last one, and leads to the same state
abbrev pub Continues : EdgeView → EdgeView → Type 0
Continues last e = (last.2 ≡ e.2) × (last.1 + 1 ≡ e.0)

-- the edge comes behind the others, and continues none there; or it is joined to the last one, which it continues
abbrev pub AddsDfaEdge : EdgeView → List EdgeView → List EdgeView → Type 0
AddsDfaEdge e old new =
    ((new ≡ old ++ e ∷ []) × ((front : List EdgeView) (last : EdgeView) → old ≡ front ++ last ∷ [] → Continues last e → ⊥))
    ⊎ ((front : List EdgeView) × (last : EdgeView) × (old ≡ front ++ last ∷ []) × Continues last e
    × (new ≡ front ++ (last.0, e.1, e.2) ∷ []))
