use Rattle.std.proofs.Common.{ℕ, ◌≡◌, ◌<◌, [], ◌∙◌, arith, refl, ap, sym, List, Vec, Global, length, get_or}
use Rattle.std.proofs.Common.{subst, Contains, None, rules}
use Rattle.std.specs.Prelude.{replicate}
use Rattle.std.proofs.lemmas.Bool.{eqb-true}
use Rattle.std.proofs.lemmas.List.{get_or-map, get_or_default, length-set}
use Rattle.std.proofs.lemmas.List.Elements.{Contains-get_or}
use Rattle.lalrpop_lexer_nfa.specs.declared.test.Test.{Test}
use Rattle.lalrpop_lexer_nfa.specs.Paths.{nfa_view}
use Rattle.lalrpop_lexer_nfa.proofs.NfaLemmas.{reads_inside}
use Rattle.lalrpop_lexer.specs.Subsets.{set_at}
use Rattle.lalrpop_lexer.specs.Targets.{items_at, StartsAscend, AreTargets}
use Rattle.lalrpop_lexer.specs.Explore.{edges_view}
use Rattle.lalrpop_lexer.specs.States.{HasKernel, IsInterned}
use Rattle.lalrpop_lexer.proofs.GroupLemmas.{known_at, known_none, if_known, known_more}
use Rattle.lalrpop_lexer.proofs.ExploreLemmas.{ArePieceTargets, targets_of_groups, explore_start, explore_added}
use Rattle.lalrpop_lexer.proofs.ExploreLemmas.{explore_skip, explore_end, explore_apart}
use Rattle.lalrpop_lexer.proofs.states.States.explore.Goals as goal
use Rattle.lalrpop_lexer.proofs.states.States.explore.Goals.{In_ok-targets, then-not-is_empty+in_ok-to+in_ok-push_edge, else-not-is_empty}

-- the list at a place
at_place : (vs : List (Vec ℕ Global)) (i : ℕ) (v : Vec ℕ Global) → i < length vs → v ≡ get_or vs i v
    → v.items ≡ items_at vs i
at_place vs i v l is = ap (λ (v : Vec ℕ Global). v.items) is ∙ sym (get_or-map (λ (v : Vec ℕ Global). v.items) vs i v [] l)

-- where a group leads
group_moves : (c : In_ok-targets)
    → AreTargets (nfa_view c.args.nfa.now) (set_at c.args.self.now.sets c.args.state) c.args.groups.now.firsts.items
    c.in_ok-targets.targets.items
group_moves c =
    let P : List ℕ → Type 0 = λ s. AreTargets (nfa_view c.args.nfa.now) s c.deref.result.now c.in_ok-targets.targets.items in
    let Q : List Test → Type 0 =
    λ firsts. AreTargets (nfa_view c.args.nfa.now) (set_at c.args.self.now.sets c.args.state) firsts
    c.in_ok-targets.targets.items in
    subst Q c.deref.ensures.value (subst P c.get.ensures c.in_ok-targets.ensures)

-- where a piece leads
are_moves : (c : In_ok-targets)
    → ArePieceTargets (nfa_view c.args.nfa.now) (set_at c.args.self.now.sets c.args.state) c.args.pieces.now
    (λ i. items_at c.in_ok-targets.targets.items (get_or c.args.groups.now.numbers.items i 0))
are_moves c =
    targets_of_groups _ _ c.args.pieces.now c.args.groups.now.numbers.items c.args.groups.now.firsts.items _ c.requires.groups
    (group_moves c)

-- the group of a piece
group_is : (numbers : List ℕ) (i g : ℕ) → i < length numbers → g ≡ get_or numbers i g → get_or numbers i 0 ≡ g
group_is numbers i g l is = get_or_default numbers i 0 g l ∙ sym is

pub moves-requires-clause-pieces : goal.moves-requires-clause-pieces
moves-requires-clause-pieces c =
    let P : List Test → Type 0 = StartsAscend in
    subst P (sym c.deref.ensures.value) c.requires.groups.ascending

pub loop-i-init : goal.loop-i-init
loop-i-init c = record {
  some = rw c.new-out.ensures.items (explore_start _ _ _ _ _);
  size = omega (arith, c.in_ok-known.ensures.len, c.in_ok-known.known.ok.0, c.len.ensures, c.args.groups.now.firsts.ok.0);
  known = λ g n is.
      let none : c.in_ok-known.known.items ≡ replicate c.len.result None =
      c.in_ok-known.ensures.items_if_clones_equal (λ y h. search rules) in
      let no = known_none c.in_ok-known.known.items c.len.result g none in
      cc;
  sets = c.requires.sets;
  numbered = c.requires.numbered;
  bound = refl;
}

pub known_or_found-requires-clause-inside : goal.known_or_found-requires-clause-inside
known_or_found-requires-clause-inside c k d l =
    let moves = group_moves (goal.at.known_or_found-requires-clause-inside c).In_ok-targets in
    let groups = c.requires.groups in
    let i = c.loop-i.i in
    let number = group_is c.args.groups.now.numbers.items i c.index-group.result.now (omega (arith, groups.size, c.loop-i-test.true))
    c.index-group.ensures in
    let within : c.index-group.result.now < length c.in_ok-targets.targets.items =
    omega (arith, groups.inside i c.loop-i-test.true, number, moves.size) in
    let is = at_place c.in_ok-targets.targets.items c.index-group.result.now c.index-then-not-is_empty.result.now within
    c.index-then-not-is_empty.ensures in
    let x = get_or c.deref-then-not-is_empty.result.now k d in
    let P : List ℕ → Type 0 = λ xs. Contains xs x in
    let from = moves.only c.index-group.result.now x
    (subst P (c.deref-then-not-is_empty.ensures.value ∙ is) (Contains-get_or c.deref-then-not-is_empty.result.now k d l)) in
    reads_inside c.args.nfa.now from.1.0 _ x from.1.2

pub known_or_found-requires-clause-known : goal.known_or_found-requires-clause-known
known_or_found-requires-clause-known c =
    let groups = c.requires.groups in
    let i = c.loop-i.i in
    let group = c.index-group.result.now in
    let known = c.loop-i.known.items in
    let moves = group_moves (goal.at.known_or_found-requires-clause-known c).In_ok-targets in
    let number = group_is c.args.groups.now.numbers.items i group (omega (arith, groups.size, c.loop-i-test.true)) c.index-group.ensures in
    let inside : group < length c.args.groups.now.firsts.items = omega (arith, groups.inside i c.loop-i-test.true, number) in
    let is = at_place c.in_ok-targets.targets.items group c.index-then-not-is_empty.result.now (omega (arith, inside, moves.size))
    c.index-then-not-is_empty.ensures in
    let read : known_at known group ≡ c.index_mut.result.now =
    get_or_default known group None c.index_mut.result.now (omega (arith, inside, c.loop-i.invariant.size))
    ∙ sym c.index_mut.ensures.value in
    if_known known group _ _ read
    (λ n found.
    let P : List ℕ → Type 0 = HasKernel c.loop-i.self.numbers n in
    subst P (sym (c.deref-then-not-is_empty.ensures.value ∙ is)) (c.loop-i.invariant.known group n found))

pub loop-i-preserved : goal.loop-i-preserved
loop-i-preserved c =
    let moves = are_moves (goal.at.loop-i-preserved c).In_ok-targets in
    let by_group = group_moves (goal.at.loop-i-preserved c).In_ok-targets in
    let groups = c.requires.groups in
    let i = c.loop-i.i in
    let group = c.index-group.result.now in
    let numbers = c.args.groups.now.numbers.items in
    let targets = c.in_ok-targets.targets.items in
    let known = c.loop-i.known.items in
    let number = group_is numbers i group (omega (arith, groups.size, c.loop-i-test.true)) c.index-group.ensures in
    let inside : group < length c.args.groups.now.firsts.items = omega (arith, groups.inside i c.loop-i-test.true, number) in
    let within : group < length targets = omega (arith, inside, by_group.size) in
    elim c.if-not-is_empty.branch [
      | then-not-is_empty+in_ok-to+in_ok-push_edge w ↦
          let kernel = w.deref-then-not-is_empty.ensures.value
          ∙ at_place targets group w.index-then-not-is_empty.result.now within w.index-then-not-is_empty.ensures in
          let P : List ℕ → Type 0 =
          λ k. IsInterned (nfa_view c.args.nfa.now) k c.loop-i.self.sets w.known_or_found.new.self.sets w.in_ok-to.to in
          let Q : List ℕ → Type 0 = HasKernel w.known_or_found.new.self.numbers w.in_ok-to.to in
          let found = subst P (kernel ∙ ap (items_at targets) (sym number)) w.in_ok-to.ensures.found in
          let low = get_or-map (λ (t : Test). t.start) c.args.pieces.now i (record { start = 0; end = 0 }) 0 c.loop-i-test.true in
          let high = get_or-map (λ (t : Test). t.end) c.args.pieces.now i (record { start = 0; end = 0 }) 0 c.loop-i-test.true in
          rw (w.self-is, w.out-is, w.scratch-is, w.known-is) (record {
            some =
                explore_added (nfa_view c.args.nfa.now) c.args.pieces.now (λ i. items_at targets (get_or numbers i 0)) i c.args.state
                c.args.self.now.sets c.loop-i.self.sets w.known_or_found.new.self.sets (edges_view c.loop-i.out.items)
                (edges_view w.push_edge.new.edges.items) w.in_ok-to.to c.requires.pieces moves c.loop-i-test.true c.loop-i.invariant.some found
                (rw (low, high) w.in_ok-push_edge.ensures);
            size = length-set known group w.known_or_found.new.known ∙ c.loop-i.invariant.size;
            known = known_more known group w.known_or_found.new.known w.in_ok-to.to (items_at targets) c.loop-i.self.numbers
                w.known_or_found.new.self.numbers (omega (arith, inside, c.loop-i.invariant.size)) w.in_ok-to.ensures.known
                (subst Q kernel w.in_ok-to.ensures.kernel) w.in_ok-to.ensures.kept c.loop-i.invariant.known;
            sets = w.in_ok-to.ensures.sets;
            numbered = w.in_ok-to.ensures.numbered;
            bound = w.known_or_found.ensures.bound ∙ c.loop-i.invariant.bound;
          })
      | else-not-is_empty w ↦
          let is = at_place targets group c.index.result.now within c.index.ensures
          ∙ ap (items_at targets) (sym number) in
          rw (w.self-is, w.out-is, w.scratch-is, w.known-is) (record {
            some = explore_skip _ _ _ _ _ _ _ _
                (λ x k.
                let P : List ℕ → Type 0 = λ xs. Contains xs x in
                let there : Contains c.index.result.now.items x = subst P (sym is) k in
                let size = eqb-true _ _ (sym c.is_empty.ensures ∙ w.if-not-is_empty.false) in
                absurd (omega (arith, there.1, size, c.index.result.now.ok.0))) c.loop-i.invariant.some;
            size = c.loop-i.invariant.size;
            known = c.loop-i.invariant.known;
            sets = c.loop-i.invariant.sets;
            numbered = c.loop-i.invariant.numbered;
            bound = c.loop-i.invariant.bound;
          })
    ]

pub returns-clause-explored : goal.returns-clause-explored
returns-clause-explored c =
    (explore_end _ c.args.pieces.now _ c.loop-i.i _ _ _ _ c.requires.pieces (are_moves (goal.at.returns-clause-explored c).In_ok-targets)
    (omega (arith, c.loop-i-test.false))
    c.requires.state c.loop-i.invariant.some)

pub returns-clause-apart : goal.returns-clause-apart
returns-clause-apart c =
    (explore_apart _ c.args.pieces.now _ c.loop-i.i _ _ _ _ c.requires.pieces (omega arith) c.loop-i.invariant.some)
