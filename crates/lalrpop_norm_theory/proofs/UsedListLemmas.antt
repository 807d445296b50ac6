-- What keys use as lists, and a test of keys in order of first use, with what it means; for the examples.
use Rattle.std.proofs.Common.{◌≡◌, ℕ, List, [], ◌∷◌, ◌++◌, refl, ap, sym, ◌∙◌, subst, inl, inr, length}
use Rattle.std.proofs.Common.{Bool, true, false, cond, append-nil, append_assoc}
use Rattle.std.specs.Prelude.{Option, ◌&&◌, ◌==◌, is_some, flat_map, if◌then◌else◌}
use Rattle.std.specs.List.{list_all}
use Rattle.std.proofs.lemmas.Bool.{eqb-true, eq-eqb, and_from, and_parts, true≢false}
use Rattle.lalrpop_grammar_symbols.specs.Symbols.{Text, Closed, Closeds, closed_list}
use Rattle.lalrpop_grammar_language.specs.Among.{Among}
use Rattle.lalrpop_grammar_language.specs.Enabled.{EnabledGrammar, EnabledRule, Choice, rules_named}
use Rattle.lalrpop_grammar_language.specs.Levels.{Rank, ranked_choices, has_levels}
use Rattle.lalrpop_grammar_language.specs.Admitting.{bind, rank_level}
use Rattle.lalrpop_grammar_language.proofs.CheckLemmas.{holds, holds-true, true-holds}
use Rattle.lalrpop_grammar_language.proofs.ComparisonLemmas.{same_bool, same_bool-eq, same_bool-refl}
use Rattle.lalrpop_norm_theory.specs.FirstUse.{AreUsesOf, FollowByUse, IsFirstNew, UseNoOther}
use Rattle.lalrpop_norm_theory.specs.UsedKeys.{AreKeysByUse, CallUses, ChoiceUses, ChoicesUse, IsChosenAt, IsRuleCalled, KeyUses}
use Rattle.lalrpop_norm_theory.specs.UsedKeys.{keys_of_side, tighter_call, written_keys}
use Rattle.lalrpop_norm_theory.proofs.ClosedComparisonLemmas.{all-each, has_closed, has_closed-among, not-has_closed, same_closed}
use Rattle.lalrpop_norm_theory.proofs.ClosedComparisonLemmas.{same_closed-eq, same_level, same_level-eq, same_level-refl}
use Rattle.lalrpop_norm_theory.proofs.ProductionListLemmas.{fits}

-- what keys use

abbrev uses_of_choice : EnabledGrammar → EnabledRule → Closeds → Option ℕ → Choice × Option Rank → List Closed
uses_of_choice g r args level c = if fits g r args level c then keys_of_side g r args c else []

abbrev uses_of_choices : EnabledGrammar → EnabledRule → Closeds → Option ℕ → List (Choice × Option Rank) → List Closed
uses_of_choices g r args level cs = flat_map (uses_of_choice g r args level) cs

abbrev uses_of_rule : EnabledGrammar → Text → Closeds → Option ℕ → EnabledRule → List Closed
uses_of_rule g n args level r = uses_of_choices g r args level (ranked_choices r) ++ tighter_call r n args level

abbrev uses_of_rules : EnabledGrammar → Text → Closeds → Option ℕ → List EnabledRule → List Closed
uses_of_rules g n args level [] = []
uses_of_rules g n args level (r ∷ []) =
    if length (closed_list args) == length r.parameters then uses_of_rule g n args level r else []
uses_of_rules g n args level (r ∷ s ∷ rs) = []

abbrev pub uses_of : EnabledGrammar → Closed → List Closed
uses_of g (Closed.call n args level) = uses_of_rules g n args level (rules_named g n)
uses_of g (Closed.terminal t) = []
uses_of g (Closed.repeat op x) = []
uses_of g (Closed.group xs) = []
uses_of g (Closed.choose x) = []
uses_of g (Closed.name m n x) = []
uses_of g Closed.lookahead = []
uses_of g Closed.lookbehind = []
uses_of g Closed.faulty = []

-- an alternative that fits may be chosen
chosen : (g : EnabledGrammar) (n : Text) (args : Closeds) (level : Option ℕ) (r : EnabledRule) (c : Choice × Option Rank)
    → IsRuleCalled g n args r → Among (ranked_choices r) c → fits g r args level c ≡ true → IsChosenAt g n args level r c
chosen g n args level r c w i h =
    let a = and_parts (same_bool (is_some c.1) (has_levels r)) (same_level (rank_level c.1) level
    && holds g (bind r args) c.0.condition) h in
    let b = and_parts (same_level (rank_level c.1) level) (holds g (bind r args) c.0.condition) a.1 in (
      record {
        rule = w.is_rule;
        arguments = w.arguments;
        written = i;
        leveled = same_bool-eq (is_some c.1) (has_levels r) a.0;
        holds = holds-true g (bind r args) c.0.condition b.1;
      },
      same_level-eq (rank_level c.1) level b.0,
    )

-- and one that may be chosen fits
chosen-fits : (g : EnabledGrammar) (n : Text) (args : Closeds) (level : Option ℕ) (r : EnabledRule) (c : Choice × Option Rank)
    → IsChosenAt g n args level r c → fits g r args level c ≡ true
chosen-fits g n args level r c (w, e) =
    and_from (same_bool (is_some c.1) (has_levels r)) (same_level (rank_level c.1) level
    && holds g (bind r args) c.0.condition)
    (ap (same_bool (is_some c.1)) (sym w.leveled) ∙ same_bool-refl (is_some c.1))
    (and_from (same_level (rank_level c.1) level) (holds g (bind r args) c.0.condition)
    (ap (same_level (rank_level c.1)) (sym e) ∙ same_level-refl (rank_level c.1))
    (true-holds g (bind r args) c.0.condition w.holds))

choice-uses : (g : EnabledGrammar) (n : Text) (args : Closeds) (level : Option ℕ) (r : EnabledRule) (c : Choice × Option Rank)
    → IsRuleCalled g n args r → Among (ranked_choices r) c
    → ChoiceUses g n args level r c (uses_of_choice g r args level c)
choice-uses g n args level r c w i = go (fits g r args level c) refl
  where
    go : (b : Bool) → fits g r args level c ≡ b → ChoiceUses g n args level r c (cond b (keys_of_side g r args c) [])
    go true h = inl (chosen g n args level r c w i h, refl)
    go false h = inr (λ k. true≢false (sym (chosen-fits g n args level r c k) ∙ h), refl)

choices-use : (g : EnabledGrammar) (n : Text) (args : Closeds) (level : Option ℕ) (r : EnabledRule) → IsRuleCalled g n args r
    → (cs : List (Choice × Option Rank)) → ((c : Choice × Option Rank) → Among cs c → Among (ranked_choices r) c)
    → ChoicesUse g n args level r cs (uses_of_choices g r args level cs)
choices-use g n args level r w [] all = refl
choices-use g n args level r w (c ∷ cs) all = (
  uses_of_choice g r args level c,
  uses_of_choices g r args level cs,
  refl,
  choice-uses g n args level r c w (all c (inl refl)),
  choices-use g n args level r w cs (λ d i. all d (inr i)),
)

call-uses : (g : EnabledGrammar) (n : Text) (args : Closeds) (level : Option ℕ) (rs : List EnabledRule) → rules_named g n ≡ rs
    → CallUses g n args level (uses_of_rules g n args level rs)
call-uses g n args level [] e =
    CallUses.of_none (λ q w. let f : [] ≡ q ∷ [] = sym e ∙ w.is_rule in cc) refl
call-uses g n args level (r ∷ s ∷ rs) e =
    CallUses.of_none (λ q w. let f : r ∷ s ∷ rs ≡ q ∷ [] = sym e ∙ w.is_rule in cc) refl
call-uses g n args level (r ∷ []) e = go (length (closed_list args) == length r.parameters) refl
  where
    other : (length (closed_list args) == length r.parameters) ≡ false → (q : EnabledRule) → IsRuleCalled g n args q → ⊥
    other h q w =
        let f : r ∷ [] ≡ q ∷ [] = sym e ∙ w.is_rule in
        let same : q ≡ r = cc in
        let many : length (closed_list args) ≡ length r.parameters = w.arguments ∙ ap (λ p. length p.parameters) same in
        true≢false (sym (eq-eqb (length (closed_list args)) (length r.parameters) many) ∙ h)

    go : (b : Bool) → (length (closed_list args) == length r.parameters) ≡ b
        → CallUses g n args level (cond b (uses_of_rule g n args level r) [])
    go true h =
        let w : IsRuleCalled g n args r =
        record { is_rule = e; arguments = eqb-true (length (closed_list args)) (length r.parameters) h } in
        CallUses.of_rule r (uses_of_choices g r args level (ranked_choices r)) w
        (choices-use g n args level r w (ranked_choices r) (λ c i. i)) refl
    go false h = CallUses.of_none (other h) refl

-- a key uses what is listed
pub key-uses : (g : EnabledGrammar) (y : Closed) → KeyUses g y (uses_of g y)
key-uses g (Closed.call n args level) = call-uses g n args level (rules_named g n) refl
key-uses g (Closed.terminal t) = refl
key-uses g (Closed.repeat op x) = refl
key-uses g (Closed.group xs) = refl
key-uses g (Closed.choose x) = refl
key-uses g (Closed.name m n x) = refl
key-uses g Closed.lookahead = refl
key-uses g Closed.lookbehind = refl
key-uses g Closed.faulty = refl

-- and several what is listed of each
pub uses-all : (g : EnabledGrammar) (ys : List Closed) → AreUsesOf (KeyUses g) ys (flat_map (uses_of g) ys)
uses-all g [] = refl
uses-all g (y ∷ ys) = (uses_of g y, flat_map (uses_of g) ys, refl, key-uses g y, uses-all g ys)

-- the test

-- whether the key is the first of these that isn't known
abbrev is_first_new : List Closed → List Closed → Closed → Bool
is_first_new known [] x = false
is_first_new known (u ∷ us) x = if has_closed known u then is_first_new known us x else same_closed u x

abbrev follow_by_use : EnabledGrammar → List Closed → List Closed → Bool
follow_by_use g known [] = list_all (has_closed known) (flat_map (uses_of g) known)
follow_by_use g known (x ∷ xs) = is_first_new known (flat_map (uses_of g) known) x && follow_by_use g (known ++ x ∷ []) xs

-- whether these are the keys that are no written rules, in order of first use
abbrev pub are_keys_by_use : EnabledGrammar → List Closed → Bool
are_keys_by_use g others = follow_by_use g (written_keys g) others

first-new : (known us : List Closed) (x : Closed) → is_first_new known us x ≡ true → IsFirstNew known us x
first-new known [] x h = cc
first-new known (u ∷ us) x h = go (has_closed known u) refl h (first-new known us x)
  where
    go : (b : Bool) → has_closed known u ≡ b → cond b (is_first_new known us x) (same_closed u x) ≡ true
        → (is_first_new known us x ≡ true → IsFirstNew known us x) → IsFirstNew known (u ∷ us) x
    go true e k later =
        let w = later k in
        record {
          before = u ∷ w.before;
          after = w.after;
          parts = ap (λ l. u ∷ l) w.parts;
          passed = λ z i. passed w z i;
          new = w.new;
        }
      where
        passed : (w : IsFirstNew known us x) → (z : Closed) → Among (u ∷ w.before) z → Among known z
        passed w z (inl f) = subst (Among known) f (has_closed-among known u e)
        passed w z (inr i) = w.passed z i
    go false e k later =
        let same : u ≡ x = same_closed-eq u x k in
        record {
          before = [];
          after = us;
          parts = ap (λ z. z ∷ us) same;
          passed = λ z i. absurd i;
          new = λ i. not-has_closed known u e (subst (Among known) (sym same) i);
        }

follow-by-use : (g : EnabledGrammar) (known xs : List Closed) → follow_by_use g known xs ≡ true
    → FollowByUse (KeyUses g) known xs × UseNoOther (KeyUses g) (known ++ xs)
follow-by-use g known [] h = (
  tt,
  subst (UseNoOther (KeyUses g)) (sym (append-nil known)) (
    flat_map (uses_of g) known,
    uses-all g known,
    λ z i. has_closed-among known z (all-each (has_closed known) (flat_map (uses_of g) known) h z i),
  ),
)
follow-by-use g known (x ∷ xs) h =
    let w = and_parts (is_first_new known (flat_map (uses_of g) known) x) (follow_by_use g (known ++ x ∷ []) xs) h in
    let v = follow-by-use g (known ++ x ∷ []) xs w.1 in (
      ((flat_map (uses_of g) known, uses-all g known, first-new known (flat_map (uses_of g) known) x w.0), v.0),
      subst (UseNoOther (KeyUses g)) (append_assoc known (x ∷ []) xs) v.1,
    )

-- keys that pass the test are in order of first use
pub keys-by-use : (g : EnabledGrammar) (others : List Closed) → are_keys_by_use g others ≡ true → AreKeysByUse g others
keys-by-use g others h =
    let w = follow-by-use g (written_keys g) others h in record { follow = w.0; no_more = w.1 }
