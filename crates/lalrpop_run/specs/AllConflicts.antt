-- The conflicts of productions, one for each of the canonical states', in their order. A state is a set of valid items, and stands for all
-- lists of symbols that have it.
use Rattle.std.specs.Prelude.{ℕ, ◌<◌, ◌≡◌, ◌⊎◌, List, ◌∷◌, length, drop, Some, slice_get}
use Rattle.std.specs.declared.cmp.Ordering.TheVariants.{Less}
use Rattle.lalrpop_grammar_symbols.specs.Symbols.{Text, Terminal}
use Rattle.lalrpop_lr1_theory.specs.Productions.{Symbol, terminal, Production, Next}
use Rattle.lalrpop_lr1_theory.specs.Spans.{without_spans}
use Rattle.lalrpop_lr1_theory.specs.Trees.{roots}
use Rattle.lalrpop_lr1_theory.specs.ValidItems.{IsValidItem, HaveSameItems}
use Rattle.lalrpop_judge.specs.Certificates.{Certifies, NumberedMove, ShownConflict, reduce_by, shift_of}
use Rattle.lalrpop_run.specs.ConflictOrders.{IsProductionBefore, IsSooner, compare_texts, next_key, terminal_key}

-- a reduction against a shift of a terminal, or against a reduction that comes behind it
pub data ReductionConflict : Type 0 where
  with_shift : Production → Terminal → ReductionConflict
  with_reduction : Production → Production → ReductionConflict

-- an item that is valid on the symbols has its dot before the terminal
pub record MayBeShifted (G : Production → Type 0) (s : Text) (g : List Symbol) (t : Terminal) : Type 0 where
  pub production : Production
  pub dot : ℕ
  pub next : Next
  pub rest : List Symbol
  pub valid : IsValidItem G s g production dot next
  pub before : drop dot production.right ≡ terminal t ∷ rest

-- the production is finished on the symbols, and x may follow
abbrev pub MayBeReduced : (Production → Type 0) → Text → List Symbol → Production → Next → Type 0
MayBeReduced G s g p x = IsValidItem G s g p (length p.right) x

-- on the symbols the conflict stands before a terminal or the end
abbrev pub ConflictStands : (Production → Type 0) → Text → List Symbol → ReductionConflict → Next → Type 0
ConflictStands G s g (with_shift p t) x = IsValidItem G s g p (length p.right) x × MayBeShifted G s g t × (x ≡ Some t)
ConflictStands G s g (with_reduction p r) x =
    IsValidItem G s g p (length p.right) x × IsValidItem G s g r (length r.right) x × IsProductionBefore p r

-- a conflict with the soonest of the lists of symbols on which it stands
pub record PlacedConflict : Type 0 where
  pub symbols : List Symbol
  pub conflict : ReductionConflict

-- no list of symbols that comes sooner has the same items
abbrev pub IsSoonest : (Production → Type 0) → Text → List Symbol → Type 0
IsSoonest G s g = (h : List Symbol) → HaveSameItems G s h g → IsSooner h g → ⊥

-- shifts by their terminals, each against one reduction after the other; then each reduction against one after the other
abbrev pub IsConflictBefore : ReductionConflict → ReductionConflict → Type 0
IsConflictBefore (with_shift p t) (with_shift r u) =
    (compare_texts (terminal_key t) (terminal_key u) ≡ Less) ⊎ ((t ≡ u) × IsProductionBefore p r)
IsConflictBefore (with_shift p t) (with_reduction r k) = Unit {0}
IsConflictBefore (with_reduction p r) (with_shift k u) = ⊥
IsConflictBefore (with_reduction p r) (with_reduction k m) =
    IsProductionBefore p k ⊎ ((p ≡ k) × IsProductionBefore r m)

-- state by state, as these are first seen
abbrev pub IsPlacedBefore : PlacedConflict → PlacedConflict → Type 0
IsPlacedBefore c d =
    IsSooner c.symbols d.symbols ⊎ ((c.symbols ≡ d.symbols) × IsConflictBefore c.conflict d.conflict)

-- the list has the conflict, on symbols with these items
pub record IsPlacedIn (G : Production → Type 0) (s : Text) (all : List PlacedConflict) (g : List Symbol) (c : ReductionConflict) :
    Type 0 where
  pub number : ℕ
  pub placed : PlacedConflict
  pub at : slice_get all number ≡ Some placed
  pub conflict_is : placed.conflict ≡ c
  pub same : HaveSameItems G s g placed.symbols

-- All conflicts of the productions from the start, each once, in order.
pub record AreConflictsInOrder (G : Production → Type 0) (s : Text) (all : List PlacedConflict) : Type 0 where
  pub stand : (i : ℕ) (c : PlacedConflict) → slice_get all i ≡ Some c → (x : Next) × ConflictStands G s c.symbols c.conflict x
  pub soonest : (i : ℕ) (c : PlacedConflict) → slice_get all i ≡ Some c
      → (h : List Symbol) → HaveSameItems G s h c.symbols → IsSooner h c.symbols → ⊥
  pub every : (g : List Symbol) (c : ReductionConflict) (x : Next) → ConflictStands G s g c x → IsPlacedIn G s all g c
  pub ordered : (i j : ℕ) (c d : PlacedConflict) → i < j → slice_get all i ≡ Some c → slice_get all j ≡ Some d
      → IsSooner c.symbols d.symbols ⊎ ((c.symbols ≡ d.symbols) × IsConflictBefore c.conflict d.conflict)

-- the reduction, and the move against it
abbrev pub reducing_move : ReductionConflict → NumberedMove
reducing_move (with_shift p t) = reduce_by p.action
reducing_move (with_reduction p r) = reduce_by p.action

abbrev pub opposing_move : ReductionConflict → NumberedMove
opposing_move (with_shift p t) = shift_of t
opposing_move (with_reduction p r) = reduce_by r.action

-- It certifies this conflict, after trees whose roots have the same items, and before the least that may come next.
pub record CertifiesPlaced (G : Production → Type 0) (s : Text) (c : PlacedConflict) (it : ShownConflict) : Type 0 where
  pub certifies : Certifies G s it
  pub move1_is : it.move1 ≡ reducing_move c.conflict
  pub move2_is : it.move2 ≡ opposing_move c.conflict
  pub state : HaveSameItems G s (roots (without_spans it.shared)) c.symbols
  pub next_stands : ConflictStands G s c.symbols c.conflict it.next
  pub next_least : (x : Next) → ConflictStands G s c.symbols c.conflict x → (x ≡ it.next) ⊎ (compare_texts (next_key it.next) (next_key x) ≡ Less)
