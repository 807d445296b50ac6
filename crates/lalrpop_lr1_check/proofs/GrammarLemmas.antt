-- Grammars with the same productions pass the same tests: for the test of states, which asks a table of numbers.
use Rattle.std.proofs.Common.{◌≡◌, ◌↔◌, ℕ, List, Contains, map, subst}
use Rattle.lalrpop_grammar_symbols.specs.Symbols.{Text}
use Rattle.lalrpop_grammar_repr.specs.declared.production.Production as repr
use Rattle.lalrpop_lr1_theory.specs.Productions.{Symbol, Production}
use Rattle.lalrpop_lr1_core.proofs.MemberLemmas.{in_map, map_has}
use Rattle.lalrpop_lr1_core.specs.Views.{production_view}
use Rattle.lalrpop_lr1_first.specs.Listings.{HoldSame}
use Rattle.lalrpop_lr1_first.specs.NumberedGrammars.{IsSeenIn}
use Rattle.lalrpop_lr1_theory.specs.CoverTests.{HasItemsOfNames}
use Rattle.lalrpop_lr1_theory.specs.NameClosures.{BeginsWithName, IsNameFrom}
use Rattle.lalrpop_lr1_theory.specs.NameClosures.{IsProductive, MentionsName}
use Rattle.lalrpop_lr1_check_lookaheads.specs.CheckedTests.{HasClosureItems, ReachesProductive}

-- the same productions are seen as the same
pub seen_same : (ps qs : List repr.Production) → HoldSame ps qs → (p : Production) → IsSeenIn ps p ↔ IsSeenIn qs p
seen_same ps qs same p = (
  λ c. let m = in_map production_view ps p c in
      subst (Contains (map production_view qs)) m.2 (map_has production_view qs m.0 ((same m.0).0 m.1)),
  λ c. let m = in_map production_view qs p c in
      subst (Contains (map production_view ps)) m.2 (map_has production_view ps m.0 ((same m.0).1 m.1)),
)

names_more : (Seed : Text → Type 0) (Step Other : Text → Text → Type 0) → ((A B : Text) → Step A B → Other A B) →
    (A : Text) →
    IsNameFrom Seed Step A → IsNameFrom Seed Other A
names_more Seed Step Other more _ (IsNameFrom.seeded A h) = IsNameFrom.seeded A h
names_more Seed Step Other more _ (IsNameFrom.stepped {A} B h k) =
    IsNameFrom.stepped B (names_more Seed Step Other more A h) (more A B k)

module _ (G H : Production → Type 0) (to : (p : Production) → G p → H p) where
  begins_more : (A B : Text) → BeginsWithName G A B → BeginsWithName H A B
  begins_more A B b = record {
    production = b.production;
    rest = b.rest;
    of_grammar = to b.production b.of_grammar;
    left = b.left;
    right = b.right;
  }

  mentions_more : (A B : Text) → MentionsName G A B → MentionsName H A B
  mentions_more A B b = record {
    production = b.production;
    of_grammar = to b.production b.of_grammar;
    left = b.left;
    mentioned = b.mentioned;
  }

  productive_more : (A : Text) → IsProductive G A → IsProductive H A
  productive_more _ (IsProductive.by_production p gp f) =
      IsProductive.by_production p (to p gp) (λ B c. productive_more B (f B c))

module _ (G H : Production → Type 0) (same : (p : Production) → G p ↔ H p) (s : Text) where
  -- names that are reached have trees just as well
  pub reaches_same : ReachesProductive G s → ReachesProductive H s
  reaches_same each A h =
      productive_more G H (λ p g. (same p).0 g) A
      (each A (names_more (λ B. B ≡ s) (MentionsName H) (MentionsName G) (mentions_more H G (λ p g. (same p).1 g)) A h))

  module _ (Item : ℕ → Production → ℕ → Type 0) (Edge : ℕ → Symbol → ℕ → Type 0) where
    from_names : (Seed : Text → Type 0) (n : ℕ) → HasItemsOfNames G Item n (IsNameFrom Seed (BeginsWithName G)) →
        HasItemsOfNames H Item n (IsNameFrom Seed (BeginsWithName H))
    from_names Seed n has q = (
      λ i.
          let r = (has q).0 i in (
            (same q).0 r.0,
            names_more Seed (BeginsWithName G) (BeginsWithName H) (begins_more G H (λ p g. (same p).0 g)) q.left r.1,
          ),
      λ r. (has q).1 (
        (same q).1 r.0,
        names_more Seed (BeginsWithName H) (BeginsWithName G) (begins_more H G (λ p g. (same p).1 g)) q.left r.1,
      ),
    )

    -- names bring the same items
    pub brings_same : HasClosureItems G s Item Edge → HasClosureItems H s Item Edge
    brings_same b = record {
      unmoved_start = b.unmoved_start;
      start_brings = from_names _ 0 b.start_brings;
      moved_bring = λ n X m e. from_names _ m (b.moved_bring n X m e);
    }
