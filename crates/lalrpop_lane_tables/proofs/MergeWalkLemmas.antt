-- The walk of a merge: which steps come, and why it ends.
use Rattle.std.proofs.Common.{◌≡◌, ◌∙◌, ◌≤◌, ◌<◌, ◌+◌, ◌-◌, ◌*◌, ◌^◌, ℕ, Bool, true, false, List, [], ◌∷◌, ◌++◌, length, map, reverse, refl, sym, ap}
use Rattle.std.proofs.Common.{append_assoc, arith, length-append, suc, Err}
use Rattle.std.specs.BTreeSet.{BTreeSet, btree_set_len}
use Rattle.std.proofs.lemmas.List.{length-reverse, reverse-append}
use Rattle.lalrpop_lr1_core.specs.declared.state_index.StateIndex.{StateIndex}
use Rattle.lalrpop_lane_tables.specs.MergeViews.{UnlessMemory}
use Rattle.lalrpop_lane_tables.specs.MergeWalks.{NotesVisit, step_to, steps_to, walk_left}
use Rattle.lalrpop_lane_tables.specs.declared.merge_classes.MergeFault.{MergeFault}
use Rattle.lalrpop_lane_tables.specs.declared.merge_classes.MergeFault.TheVariants.{Copies, Memory, Pair}
use Rattle.lalrpop_lane_tables.specs.declared.merge_walk.Step.{Step}

map_push : (f : StateIndex → Step) (xs : List StateIndex) (x : StateIndex) → map f (xs ++ x ∷ []) ≡ map f xs ++ f x ∷ []
map_push f [] x = refl
map_push f (y ∷ ys) x = ap (λ l. f y ∷ l) (map_push f ys x)

map_long : (f : StateIndex → Step) (xs : List StateIndex) → length (map f xs) ≡ length xs
map_long f [] = refl
map_long f (x ∷ xs) = ap suc (map_long f xs)

-- the last of the successors that are left comes first
pub push_one : (state original : StateIndex) (before : List Step) (rest : List StateIndex) (k : StateIndex) →
    (before ++ step_to state original k ∷ []) ++ reverse (steps_to state original rest)
    ≡ before ++ reverse (steps_to state original (rest ++ k ∷ []))
push_one state original before rest k =
    append_assoc before (step_to state original k ∷ []) (reverse (steps_to state original rest))
    ∙ ap (λ l. before ++ l) (sym (ap reverse (map_push (step_to state original) rest k)
    ∙ reverse-append (steps_to state original rest) (step_to state original k ∷ [])))

pub steps_long : (state original : StateIndex) (before : List Step) (keys : List StateIndex) →
    length (before ++ reverse (steps_to state original keys)) ≡ length before + length keys
steps_long state original before keys =
    length-append before (reverse (steps_to state original keys))
    ∙ ap (λ n. length before + n) (length-reverse (steps_to state original keys) ∙ map_long (step_to state original) keys)

-- one state more is visited, and its steps are still to be taken
less_left : (v w s t : ℕ) → w ≡ v + 1 → w < 2 ^ 63 → t < s + 2 ^ 63 → (2 ^ 63 - w) * 2 ^ 63 + t ≤ (2 ^ 63 - v) * 2 ^ 63 + s
less_left v w s t a b d = omega arith

pub visit_first : (old new : BTreeSet StateIndex) (came : Bool) (steps more : List Step) → came ≡ true → NotesVisit old new came →
    length more < length steps + 2 ^ 63 → walk_left new more ≤ walk_left old steps
visit_first old new true steps more e n l = less_left (btree_set_len old) (btree_set_len new) (length steps) (length more) n.0 n.1 l
visit_first old new false steps more e n l = let w : ⊥ = cc in absurd w

pub visit_again : (old new : BTreeSet StateIndex) (came : Bool) (steps : List Step) → came ≡ false → NotesVisit old new came →
    walk_left new steps ≤ walk_left old steps
visit_again old new true steps e n = let w : ⊥ = cc in absurd w
visit_again old new false steps e n =
    let same : walk_left new steps ≡ walk_left old steps = ap (λ (v : BTreeSet StateIndex). walk_left v steps) n in omega (arith, same)

-- a step is taken
pub step_less : (visited : BTreeSet StateIndex) (steps rest : List Step) (after : ℕ) → length steps ≡ length rest + 1 →
    after ≤ walk_left visited rest → after < walk_left visited steps
step_less visited steps rest after a b = omega (arith, a, b)

-- what holds after a fault still does where it is handed on
pub unless_more : (A B : Type 0) (fault : MergeFault) (P Q : Type 0) → (P → Q) → UnlessMemory {A = A} (Err fault) P →
    UnlessMemory {A = B} (Err fault) Q
unless_more A B Memory P Q f h = tt
unless_more A B Copies P Q f h = f h
unless_more A B (Pair one other) P Q f h = f h
