-- The rules of the leveled grammar, each by the written rule and its level; for the laws of levels.
use Rattle.std.proofs.Common.{◌≡◌, ℕ, List, [], ◌∷◌, ◌++◌, refl, ap, sym, ◌∙◌, subst, cond, Bool, true, false}
use Rattle.std.proofs.Common.{inl, inr}
use Rattle.std.specs.Prelude.{Option, Some, None, map, flat_map}
use Rattle.lalrpop_grammar_symbols.specs.Symbols.{Text}
use Rattle.lalrpop_grammar.specs.WrittenGrammar.{Rule, Grammar, WrittenItem, rules_of}
use Rattle.lalrpop_grammar_language.specs.Among.{Among}
use Rattle.lalrpop_grammar_language.specs.Enabled.{EnabledRule, IsRule, bares_of, bare_of}
use Rattle.lalrpop_grammar_language.specs.Levels.{has_levels, levels}
use Rattle.lalrpop_grammar_language.specs.Expansion.{HasLevel}
use Rattle.lalrpop_grammar_language.proofs.PlaceLemmas.{among_map}
use Rattle.lalrpop_norm_theory.specs.Between.{grammar_between, rule_between}
use Rattle.lalrpop_norm_theory.specs.Premises.{AreDifferent}
use Rattle.lalrpop_grammar_language.proofs.AmongLemmas.{flat_map_among}
use Rattle.lalrpop_grammar_language.proofs.AmongLemmas.{map_among}
use Rattle.lalrpop_grammar_language.proofs.AmongLemmas.{among_flat_map}
use Rattle.lalrpop_norm_theory.proofs.ExpansionListLemmas.{rule_there}
use Rattle.lalrpop_norm_theory.proofs.LevelLemmas.{no_levels}
use Rattle.lalrpop_norm_theory.specs.LevelRules.{level_name}
use Rattle.lalrpop_norm_theory.specs.LeveledGrammar.{levels_in_order, rule_at_level, leveled_rules, leveled_item, leveled_grammar}
use Rattle.lalrpop_norm_theory.specs.LevelNames.{leveled_keys_of, name_of_leveled_key, AreLevelNames}
use Rattle.lalrpop_norm_theory.proofs.LevelOrderLemmas.{falling-has, falling-only, one_named}

-- the rule of a level; a rule without levels is its own
abbrev pub rule_of_key : (Text → ℕ → Text) → Rule → Option ℕ → Rule
rule_of_key f r None = r
rule_of_key f r (Some j) = rule_at_level f r j

-- items

rules_of-join : (xs ys : List WrittenItem) → rules_of (xs ++ ys) ≡ rules_of xs ++ rules_of ys
rules_of-join [] ys = refl
rules_of-join (WrittenItem.nonterminal r ∷ xs) ys = ap (λ l. r ∷ l) (rules_of-join xs ys)
rules_of-join (WrittenItem.match_token groups place ∷ xs) ys = rules_of-join xs ys
rules_of-join (WrittenItem.extern_token block ∷ xs) ys = rules_of-join xs ys
rules_of-join (WrittenItem.intern_token entries ∷ xs) ys = rules_of-join xs ys
rules_of-join (WrittenItem.import text ∷ xs) ys = rules_of-join xs ys

rules_of-items : (rs : List Rule) → rules_of (map WrittenItem.nonterminal rs) ≡ rs
rules_of-items [] = refl
rules_of-items (r ∷ rs) = ap (λ l. r ∷ l) (rules_of-items rs)

-- the rules of the leveled grammar are those that each rule is parted into
pub rules_of-leveled : (f : Text → ℕ → Text) (items : List WrittenItem) →
    rules_of (flat_map (leveled_item f) items) ≡ flat_map (leveled_rules f) (rules_of items)
rules_of-leveled f [] = refl
rules_of-leveled f (WrittenItem.nonterminal r ∷ items) =
    rules_of-join (map WrittenItem.nonterminal (leveled_rules f r)) (flat_map (leveled_item f) items)
    ∙ ap (λ l. l ++ rules_of (flat_map (leveled_item f) items)) (rules_of-items (leveled_rules f r))
    ∙ ap (λ l. leveled_rules f r ++ l) (rules_of-leveled f items)
rules_of-leveled f (WrittenItem.match_token groups place ∷ items) = rules_of-leveled f items
rules_of-leveled f (WrittenItem.extern_token block ∷ items) = rules_of-leveled f items
rules_of-leveled f (WrittenItem.intern_token entries ∷ items) = rules_of-leveled f items
rules_of-leveled f (WrittenItem.import text ∷ items) = rules_of-leveled f items

no_bares : (rs : List Rule) (items : List WrittenItem) → bares_of (map WrittenItem.nonterminal rs ++ items) ≡ bares_of items
no_bares [] items = refl
no_bares (r ∷ rs) items = no_bares rs items

-- and its mapped bare names are those of the written one
pub bares_of-leveled : (f : Text → ℕ → Text) (items : List WrittenItem) →
    bares_of (flat_map (leveled_item f) items) ≡ bares_of items
bares_of-leveled f [] = refl
bares_of-leveled f (WrittenItem.nonterminal r ∷ items) =
    no_bares (leveled_rules f r) (flat_map (leveled_item f) items) ∙ bares_of-leveled f items
bares_of-leveled f (WrittenItem.match_token groups place ∷ items) =
    ap (λ l. flat_map (flat_map bare_of) groups ++ l) (bares_of-leveled f items)
bares_of-leveled f (WrittenItem.extern_token block ∷ items) = bares_of-leveled f items
bares_of-leveled f (WrittenItem.intern_token entries ∷ items) = bares_of-leveled f items
bares_of-leveled f (WrittenItem.import text ∷ items) = bares_of-leveled f items

-- names

pub map-join : {A B : Type 0} (h : A → B) (xs ys : List A) → map h (xs ++ ys) ≡ map h xs ++ map h ys
map-join h [] ys = refl
map-join h (x ∷ xs) ys = ap (λ l. h x ∷ l) (map-join h xs ys)

names_between : (rs : List Rule) → map (λ r. r.name) (map rule_between rs) ≡ map (λ r. r.name) rs
names_between [] = refl
names_between (r ∷ rs) = ap (λ l. r.name ∷ l) (names_between rs)

names_at_levels : (f : Text → ℕ → Text) (r : Rule) (js : List ℕ) →
    map (λ q. q.name) (map (rule_at_level f r) js) ≡ map (name_of_leveled_key f) (map (λ j. (r.name, Some j)) js)
names_at_levels f r [] = refl
names_at_levels f r (j ∷ js) = ap (λ l. f r.name j ∷ l) (names_at_levels f r js)

names_of_one : (f : Text → ℕ → Text) (r : Rule) →
    map (λ q. q.name) (leveled_rules f r) ≡ map (name_of_leveled_key f) (leveled_keys_of r)
names_of_one f r = go (has_levels (rule_between r))
  where
    go : (b : Bool) → map (λ q. q.name) (cond b (map (rule_at_level f r) (levels_in_order (rule_between r))) (r ∷ []))
        ≡ map (name_of_leveled_key f) (cond b (map (λ j. (r.name, Some j)) (levels_in_order (rule_between r))) ((r.name, None) ∷ []))
    go true = names_at_levels f r (levels_in_order (rule_between r))
    go false = refl

names_of_all : (f : Text → ℕ → Text) (rs : List Rule) →
    map (λ q. q.name) (flat_map (leveled_rules f) rs) ≡ map (name_of_leveled_key f) (flat_map leveled_keys_of rs)
names_of_all f [] = refl
names_of_all f (r ∷ rs) =
    map-join (λ q. q.name) (leveled_rules f r) (flat_map (leveled_rules f) rs)
    ∙ ap (λ l. l ++ map (λ q. q.name) (flat_map (leveled_rules f) rs)) (names_of_one f r)
    ∙ ap (λ l. map (name_of_leveled_key f) (leveled_keys_of r) ++ l) (names_of_all f rs)
    ∙ sym (map-join (name_of_leveled_key f) (leveled_keys_of r) (flat_map leveled_keys_of rs))

-- the rules of the leveled grammar, as they stand between passes
pub leveled_rules_are : (finds : Text → Text → Option Bool) (g : Grammar) (f : Text → ℕ → Text) →
    (grammar_between finds (leveled_grammar f g)).rules ≡ map rule_between (flat_map (leveled_rules f) (rules_of g.items))
leveled_rules_are finds g f = ap (map rule_between) (rules_of-leveled f g.items)

-- no two share a name
pub names_differ : (finds : Text → Text → Option Bool) (g : Grammar) (f : Text → ℕ → Text) → AreLevelNames g f →
    AreDifferent (map (λ q. q.name) (grammar_between finds (leveled_grammar f g)).rules)
names_differ finds g f w =
    subst AreDifferent
    (sym (ap (map (λ q. q.name)) (leveled_rules_are finds g f) ∙ names_between (flat_map (leveled_rules f) (rules_of g.items))
    ∙ names_of_all f (rules_of g.items))) w.apart

-- keys

-- a rule that has a level has levels
pub level_of_leveled : (r : EnabledRule) (j : ℕ) → Among (levels r) j → has_levels r ≡ true
level_of_leveled r j h = go (has_levels r) refl
  where
    go : (b : Bool) → has_levels r ≡ b → b ≡ true
    go true e = refl
    go false e = absurd (subst (λ ls. Among ls j) (no_levels r e) h)

key_in_one : (f : Text → ℕ → Text) (r : Rule) (level : Option ℕ) → HasLevel (rule_between r) level →
    Among (leveled_rules f r) (rule_of_key f r level)
key_in_one f r None h =
    subst (λ b. Among (cond b (map (rule_at_level f r) (levels_in_order (rule_between r))) (r ∷ [])) r) (sym h) (inl refl)
key_in_one f r (Some j) h =
    subst (λ b. Among (cond b (map (rule_at_level f r) (levels_in_order (rule_between r))) (r ∷ [])) (rule_at_level f r j))
    (sym (level_of_leveled (rule_between r) j h))
    (map_among (rule_at_level f r) (levels_in_order (rule_between r)) j (falling-has (levels (rule_between r)) j h))

-- each level of a rule has its rule
pub key_there : (f : Text → ℕ → Text) (rs : List Rule) (r : Rule) (level : Option ℕ) → Among rs r →
    HasLevel (rule_between r) level →
    Among (flat_map (leveled_rules f) rs) (rule_of_key f r level)
key_there f rs r level i h = flat_map_among (leveled_rules f) rs r (rule_of_key f r level) i (key_in_one f r level h)

-- which written rule, at which level, a rule is
pub record OfKey (f : Text → ℕ → Text) (rs : List Rule) (q : Rule) : Type 0 where
  pub rule : Rule
  pub level : Option ℕ
  pub among : Among rs rule
  pub has_level : HasLevel (rule_between rule) level
  pub is_it : rule_of_key f rule level ≡ q

-- and there is no other
pub key_only : (f : Text → ℕ → Text) (rs : List Rule) (q : Rule) → Among (flat_map (leveled_rules f) rs) q → OfKey f rs q
key_only f rs q i =
    let w = among_flat_map (leveled_rules f) rs q i in
    go w.0 w.1 (has_levels (rule_between w.0)) refl w.2
  where
    go : (r : Rule) → Among rs r → (b : Bool) → has_levels (rule_between r) ≡ b →
        Among (cond b (map (rule_at_level f r) (levels_in_order (rule_between r))) (r ∷ [])) q → OfKey f rs q
    go r i true e h =
        let u = among_map (rule_at_level f r) (levels_in_order (rule_between r)) q h in
        record { rule = r; level = Some u.0; among = i; has_level = falling-only (levels (rule_between r)) u.0 u.1; is_it = u.2 }
    go r i false e (inl h) = record { rule = r; level = None; among = i; has_level = e; is_it = h }
    go r i false e (inr h) = absurd h

pub key_name : (f : Text → ℕ → Text) (r : Rule) (level : Option ℕ) → (rule_of_key f r level).name ≡ level_name f r.name level
key_name f r None = refl
key_name f r (Some j) = refl

-- by its name
pub key_rule : (finds : Text → Text → Option Bool) (g : Grammar) (f : Text → ℕ → Text) → AreLevelNames g f →
    (r : Rule) (level : Option ℕ) → Among (rules_of g.items) r → HasLevel (rule_between r) level →
    IsRule (grammar_between finds (leveled_grammar f g)) (level_name f r.name level) (rule_between (rule_of_key f r level))
key_rule finds g f w r level i h =
    let q = rule_between (rule_of_key f r level) in
    let there : Among (grammar_between finds (leveled_grammar f g)).rules q =
    subst (λ l. Among l q) (sym (leveled_rules_are finds g f))
    (map_among rule_between (flat_map (leveled_rules f) (rules_of g.items)) (rule_of_key f r level)
    (key_there f (rules_of g.items) r level i h)) in
    subst (λ n. IsRule (grammar_between finds (leveled_grammar f g)) n q) (key_name f r level)
    (one_named (grammar_between finds (leveled_grammar f g)).rules q (names_differ finds g f w) there)

-- a rule of the leveled grammar is that of a key
pub rule_key : (finds : Text → Text → Option Bool) (g : Grammar) (f : Text → ℕ → Text) (q : EnabledRule) →
    Among (grammar_between finds (leveled_grammar f g)).rules q →
    (k : Rule) × (rule_between k ≡ q) × OfKey f (rules_of g.items) k
rule_key finds g f q i =
    let u = among_map rule_between (flat_map (leveled_rules f) (rules_of g.items)) q
    (subst (λ l. Among l q) (leveled_rules_are finds g f) i) in
    (u.0, u.2, key_only f (rules_of g.items) u.0 u.1)

-- a rule between passes is a written one
pub written_rule : (finds : Text → Text → Option Bool) (g : Grammar) (n : Text) (q : EnabledRule) →
    IsRule (grammar_between finds g) n q →
    (r : Rule) × Among (rules_of g.items) r × (rule_between r ≡ q) × (r.name ≡ n)
written_rule finds g n q i =
    let w = rule_there (grammar_between finds g) n q i in
    let u = among_map rule_between (rules_of g.items) q w.0 in
    (u.0, u.1, u.2, ap (λ e. e.name) u.2 ∙ w.1)
