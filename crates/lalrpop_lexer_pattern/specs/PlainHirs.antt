-- A tree as plain data: what stands in it and how, and nothing of its memory. For copies.
use Rattle.std.specs.Prelude.{ℕ, Bool, List, [], ◌∷◌, Option, option_map}
use Rattle.std.specs.String.{string_bytes}
use Rattle.lalrpop_lexer_pattern.specs.declared.class.Range.{Range}
use Rattle.lalrpop_lexer_pattern.specs.declared.tree.Look.{Look}
use Rattle.lalrpop_lexer_pattern.specs.declared.tree.Repeats.{Repeats}
use Rattle.lalrpop_lexer_pattern.specs.declared.tree.Hir.{Hir}
use Rattle.lalrpop_lexer_pattern.specs.declared.tree.Hir.TheOpen.{Hir-F}
use Rattle.lalrpop_lexer_pattern.specs.declared.tree.Hir.TheFolds.{fold-Hir}

mutual
  pub data PlainHir : Type 0 where
    empty : PlainHir
    literal : List ℕ → PlainHir
    class : List Range → PlainHir
    look : Look → PlainHir
    -- the bytes of the name if there is one
    capture : Option (List ℕ) → PlainHir → PlainHir
    -- the least and the greatest count, and whether it is greedy
    repetition : ℕ → Option ℕ → Bool → PlainHir → PlainHir
    concat : PlainHirs → PlainHir
    alternation : PlainHirs → PlainHir

  pub data PlainHirs : Type 0 where
    none : PlainHirs
    more : PlainHir → PlainHirs → PlainHirs

abbrev pub plain_hirs : List PlainHir → PlainHirs
plain_hirs [] = PlainHirs.none
plain_hirs (t ∷ ts) = PlainHirs.more t (plain_hirs ts)

abbrev pub hir_layer : Hir-F PlainHir → PlainHir
hir_layer Hir-F.Empty = PlainHir.empty
hir_layer (Hir-F.Literal cs) = PlainHir.literal cs.items
hir_layer (Hir-F.Class class_of) = PlainHir.class class_of.ranges.items
hir_layer (Hir-F.Look l) = PlainHir.look l
hir_layer (Hir-F.Capture name sub) = PlainHir.capture (option_map string_bytes name) sub.value
hir_layer (Hir-F.Repetition repeats sub) = PlainHir.repetition repeats.min repeats.max repeats.greedy sub.value
hir_layer (Hir-F.Concat subs) = PlainHir.concat (plain_hirs subs.items)
hir_layer (Hir-F.Alternation subs) = PlainHir.alternation (plain_hirs subs.items)

abbrev pub hir_view : Hir → PlainHir
hir_view = fold-Hir PlainHir hir_layer

-- a tree, repeated as the list says, whose last is the innermost
abbrev pub plain_repeated : List Repeats → PlainHir → PlainHir
plain_repeated [] tree = tree
plain_repeated (r ∷ rs) tree = PlainHir.repetition r.min r.max r.greedy (plain_repeated rs tree)
