-- Alternatives put into the table of levels one by one; for the alternatives of a rule by their levels.
use Rattle.std.proofs.Common.{◌≡◌, ℕ, Bool, true, false, List, [], ◌∷◌, ◌++◌, refl, ap, sym, ◌∙◌, cond, map, arith}
use Rattle.std.proofs.lemmas.Bool.{eqb-true, ltb-true}
use Rattle.std.proofs.lemmas.List.{append-nil, append_assoc, map-append}
use Rattle.std.specs.Prelude.{◌==◌, nat_lt, Option, Some, None, unwrap_or, zip}
use Rattle.std.specs.Ordering.{is_eq, nat_cmp}
use Rattle.std.specs.declared.cmp.Ordering.TheVariants.{Less, Equal, Greater}
use Rattle.std.specs.BTreeMap.{get, Updates}
use Rattle.lalrpop_grammar.specs.WrittenGrammar.{Alternative, Rule}
use Rattle.lalrpop_grammar_language.specs.Levels.{Rank, has_levels}
use Rattle.lalrpop_norm_theory.specs.Between.{rule_between}
use Rattle.lalrpop_norm_theory.specs.LeveledGrammar.{has_rank_level, ranked_alternatives}
use Rattle.lalrpop_norm_precedence.specs.LevelSearch.{next_rank_of}
use Rattle.lalrpop_norm_precedence.specs.LevelBuckets.{Buckets, PutsRanked, bucket_at, of_level, ranked_from}
use Rattle.lalrpop_norm_precedence.specs.NamedAlternatives.{ranked_alternative_view}
use Rattle.lalrpop_norm_precedence.specs.declared.levels.alternatives.RankedAlternative.{RankedAlternative}
use Rattle.lalrpop_norm_precedence.proofs.RankedLemmas.{ranked_is, ranks_after}

-- a number compares equal to itself alone
pub equal_numbers : (a b : ℕ) → is_eq (nat_cmp a b) ≡ (a == b)
equal_numbers a b = go (nat_lt a b) refl (a == b) refl
  where
    go : (lt : Bool) → nat_lt a b ≡ lt → (eq : Bool) → (a == b) ≡ eq → is_eq (cond lt Less (cond eq Equal Greater)) ≡ eq
    go true h true e =
        let below = ltb-true a b h in let same = eqb-true a b e in absurd (omega (arith, below, same))
    go true h false e = refl
    go false h true e = refl
    go false h false e = refl

-- those of a level among several, one behind the other
pub of_level-append : (j : ℕ) (xs ys : List (Alternative × Option Rank)) → of_level j (xs ++ ys) ≡ of_level j xs ++ of_level j ys
of_level-append j [] ys = refl
of_level-append j (x ∷ xs) ys = go (has_rank_level j x.1) (of_level-append j xs ys)
  where
    go : (b : Bool) → of_level j (xs ++ ys) ≡ of_level j xs ++ of_level j ys
        → cond b (x ∷ of_level j (xs ++ ys)) (of_level j (xs ++ ys))
        ≡ cond b (x ∷ of_level j xs) (of_level j xs) ++ of_level j ys
    go true more = ap (λ l. x ∷ l) more
    go false more = more

-- one more in the bucket of its level, and the other buckets as before
pub put_in_bucket : (old mid new : Buckets) (x : RankedAlternative) (was bucket : List RankedAlternative)
    → was ≡ unwrap_or (get nat_cmp old x.rank.level) []
    → Updates nat_cmp old mid x.rank.level None → bucket ≡ was ++ x ∷ [] → Updates nat_cmp mid new x.rank.level (Some bucket)
    → (j : ℕ) → bucket_at new j ≡ bucket_at old j ++ of_level j (ranked_alternative_view x ∷ [])
put_in_bucket old mid new x was bucket is out pushed put j = go (x.rank.level == j) refl
  where
    here : get nat_cmp new j ≡ cond (x.rank.level == j) (Some bucket) (cond (x.rank.level == j) None (get nat_cmp old j))
    here =
        put.0 j ∙ ap (λ o. cond (is_eq (nat_cmp x.rank.level j)) (Some bucket) o) (out.0 j)
        ∙ ap (λ b. cond b (Some bucket) (cond b None (get nat_cmp old j))) (equal_numbers x.rank.level j)

    go : (b : Bool) → (x.rank.level == j) ≡ b
        → bucket_at new j ≡ bucket_at old j ++ cond b (ranked_alternative_view x ∷ []) []
    go true e =
        let same : x.rank.level ≡ j = eqb-true x.rank.level j e in
        ap (λ o. map ranked_alternative_view (unwrap_or o []))
        (here ∙ ap (λ b. cond b (Some bucket) (cond b None (get nat_cmp old j))) e)
        ∙ ap (map ranked_alternative_view) pushed
        ∙ map-append ranked_alternative_view was (x ∷ [])
        ∙ ap (λ l. map ranked_alternative_view l ++ ranked_alternative_view x ∷ [])
        (is ∙ ap (λ q. unwrap_or (get nat_cmp old q) []) same)
    go false e =
        ap (λ o. map ranked_alternative_view (unwrap_or o []))
        (here ∙ ap (λ b. cond b (Some bucket) (cond b None (get nat_cmp old j))) e)
        ∙ sym (append-nil (bucket_at old j))

-- an alternative without a rank is in no bucket
pub put_nowhere : (m : Buckets) (a : Alternative) (rank : Option Rank) → rank ≡ None → (j : ℕ)
    → bucket_at m j ≡ bucket_at m j ++ of_level j ((a, rank) ∷ [])
put_nowhere m a rank none j =
    sym (ap (λ o. bucket_at m j ++ of_level j ((a, o) ∷ [])) none ∙ append-nil (bucket_at m j))

-- one more of those that are to come
pub put_on : (old new : Buckets) (x : Alternative × Option Rank) (left rest : List (Alternative × Option Rank))
    → PutsRanked old new (x ∷ [])
    → left ≡ x ∷ rest → (j : ℕ) (whole : List (Alternative × Option Rank)) → bucket_at old j ++ of_level j left ≡ whole
    → bucket_at new j ++ of_level j rest ≡ whole
put_on old new x left rest put split j whole before =
    ap (λ l. l ++ of_level j rest) (put j)
    ∙ append_assoc (bucket_at old j) (of_level j (x ∷ [])) (of_level j rest)
    ∙ ap (λ l. bucket_at old j ++ l) (sym (of_level-append j (x ∷ []) rest))
    ∙ ap (λ l. bucket_at old j ++ of_level j l) (sym split)
    ∙ before

beside_ranks : (last : Option Rank) (alts : List Alternative) → zip alts (ranks_after last alts) ≡ ranked_from last alts
beside_ranks last [] = refl
beside_ranks last (a ∷ alts) = ap (λ l. (a, next_rank_of last a) ∷ l) (beside_ranks (next_rank_of last a) alts)

-- what the table has of a level is what a rule with levels has of it
pub bucket_of_rule : (m : Buckets) (r : Rule) (alts : List Alternative) → alts ≡ r.alternatives → has_levels (rule_between r) ≡ true
    → ((j : ℕ) → bucket_at m j ≡ of_level j (ranked_from None alts))
    → (j : ℕ) → bucket_at m j ≡ of_level j (ranked_alternatives r)
bucket_of_rule m r alts same has all j =
    all j ∙ ap (λ l. of_level j (ranked_from None l)) same
    ∙ ap (of_level j) (sym (beside_ranks None r.alternatives) ∙ sym (ranked_is r has))
