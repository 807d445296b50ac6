-- The tables of rules, taken apart: what is given rule by rule and level by level; for the names of levels.
use Rattle.std.proofs.Common.{◌≡◌, ℕ, ◌<◌, Bool, true, false, cond, List, [], ◌∷◌}
use Rattle.std.proofs.Common.{refl, ap, sym, ◌∙◌, subst}
use Rattle.std.proofs.Common.{inl, inr, ◌⊎◌, arith}
use Rattle.std.specs.Prelude.{map, if◌then◌else◌, ◌==◌}
use Rattle.std.specs.Str.{bytes_eq}
use Rattle.std.proofs.lemmas.Bool.{eq-eqb, or_parts, eqb-true}
use Rattle.lalrpop_grammar_symbols.specs.Symbols.{Text}
use Rattle.lalrpop_grammar.specs.WrittenGrammar.{Rule}
use Rattle.lalrpop_grammar_language.specs.Among.{Among}
use Rattle.lalrpop_grammar_language.specs.Enabled.{has_text}
use Rattle.lalrpop_grammar_language.specs.Levels.{has_levels, levels}
use Rattle.lalrpop_grammar_language.specs.Starts.{has_none}
use Rattle.lalrpop_grammar_language.proofs.ComparisonLemmas.{same_text-refl}
use Rattle.lalrpop_norm_theory.specs.Between.{rule_between}
use Rattle.lalrpop_norm_theory.specs.Premises.{AreDifferent}
use Rattle.lalrpop_grammar_language.proofs.AmongLemmas.{map_among}
use Rattle.lalrpop_norm_theory.specs.LeveledGrammar.{levels_in_order}
use Rattle.lalrpop_norm_theory.specs.LevelNames.{after_first, numbered_text, tighter_levels}
use Rattle.lalrpop_norm_precedence.specs.declared.level_names.levels.NamedLevel.{NamedLevel}
use Rattle.lalrpop_norm_precedence.specs.declared.level_names.levels.RuleLevels.{RuleLevels}
use Rattle.lalrpop_norm_precedence.specs.LevelTables.{AreNamedLevels, levels_alone, named_level_view, named_levels, rule_levels_view}
use Rattle.lalrpop_norm_precedence.specs.GivenNames.{Times, given_name, taken_behind, given_names, given_table_of}
use Rattle.lalrpop_norm_precedence.specs.GivenNames.{given_table, taken_behind_rule, given_tables, taken_behind_plain}
use Rattle.lalrpop_norm_precedence.specs.GivenNames.{taken_behind_macros}
use Rattle.lalrpop_norm_precedence.proofs.OrderLemmas.{Falls, falling-falls}
use Rattle.lalrpop_norm_precedence.proofs.RankLevelLemmas.{flat_order}

-- the levels of a written rule, from the loosest on
abbrev pub order_of : Rule → List ℕ
order_of r = levels_in_order (rule_between r)

-- the levels under their names, whether the rule has levels or not
abbrev pub levels_by : (ℕ → Text) → List ℕ → List (ℕ × Text)
levels_by f js = map (λ j. (j, f j)) js

abbrev entry : (ℕ → Text) → ℕ → ℕ × Text
entry f j = (j, f j)

pub named_anyway : (f : Text → ℕ → Text) (r : Rule) → named_levels f r ≡ levels_by (f r.name) (order_of r)
named_anyway f r = go (has_levels (rule_between r)) refl
  where
    go : (b : Bool) → has_levels (rule_between r) ≡ b →
        (if b then levels_by (f r.name) (order_of r) else []) ≡ levels_by (f r.name) (order_of r)
    go true e = refl
    go false e = sym (ap (levels_by (f r.name)) (flat_order (rule_between r) e))

-- the fronts of two lists that are one, and what is behind
pub both-parts : {A : Type 0} (x y : A) (xs ys : List A) → x ∷ xs ≡ y ∷ ys → (x ≡ y) × (xs ≡ ys)
both-parts x y xs ys e = (cc, cc)

-- the same of names beside their levels
pub named-parts : (l m : ℕ × Text) (xs ys : List (ℕ × Text)) → l ∷ xs ≡ m ∷ ys → (l.1 ≡ m.1) × (xs ≡ ys)
named-parts l m xs ys e = let parts = both-parts l m xs ys e in (ap (λ p. p.1) parts.0, parts.1)

-- the levels of what is given

names-levels : (r : Rule) (times : Times) (js : List ℕ) → map (λ l. l.0) (given_names r times js) ≡ js
names-levels r times [] = refl
names-levels r times (j ∷ js) = ap (λ l. j ∷ l) (names-levels r (taken_behind r times j) js)

table-levels : (r : Rule) (times : Times) (js : List ℕ) → map (λ l. l.0) (given_table_of r times js) ≡ js
table-levels r times [] = refl
table-levels r times (j ∷ js) = ap (λ l. j ∷ l) (names-levels r times js)

-- each rule's are its levels in order
pub tables-levels : (rs : List Rule) (plain macros : Times) →
    map (λ t. map (λ l. l.0) t) (given_tables rs plain macros) ≡ map order_of rs
tables-levels [] plain macros = refl
tables-levels (r ∷ rs) plain macros =
    go (has_none r.parameters) (table-levels r plain (order_of r)) (table-levels r macros (order_of r))
    (tables-levels rs (taken_behind_rule r plain) macros) (tables-levels rs plain (taken_behind_rule r macros))
  where
    both : (t : List (ℕ × Text)) (ts : List (List (ℕ × Text))) → map (λ l. l.0) t ≡ order_of r →
        map (λ u. map (λ l. l.0) u) ts ≡ map order_of rs → map (λ u. map (λ l. l.0) u) (t ∷ ts) ≡ map order_of (r ∷ rs)
    both t ts e f = ap (λ l. l ∷ map (λ u. map (λ l. l.0) u) ts) e ∙ ap (λ ls. order_of r ∷ ls) f

    go : (b : Bool) → map (λ l. l.0) (given_table r plain) ≡ order_of r → map (λ l. l.0) (given_table r macros) ≡ order_of r →
        map (λ u. map (λ l. l.0) u) (given_tables rs (taken_behind_rule r plain) macros) ≡ map order_of rs →
        map (λ u. map (λ l. l.0) u) (given_tables rs plain (taken_behind_rule r macros)) ≡ map order_of rs →
        map (λ u. map (λ l. l.0) u) (cond b (given_table r plain ∷ given_tables rs (taken_behind_rule r plain) macros)
        (given_table r macros ∷ given_tables rs plain (taken_behind_rule r macros))) ≡ map order_of (r ∷ rs)
    go true p m e f = both (given_table r plain) (given_tables rs (taken_behind_rule r plain) macros) p e
    go false p m e f = both (given_table r macros) (given_tables rs plain (taken_behind_rule r macros)) m f

views-levels : (ls : List NamedLevel) → map (λ l. l.0) (map named_level_view ls) ≡ map (λ l. l.level) ls
views-levels [] = refl
views-levels (l ∷ ls) = ap (λ k. l.level ∷ k) (views-levels ls)

tables-alone : (ts : List RuleLevels) → map (λ t. map (λ l. l.0) t) (map rule_levels_view ts) ≡ map levels_alone ts
tables-alone [] = refl
tables-alone (t ∷ ts) =
    ap (λ l. l ∷ map (λ u. map (λ l. l.0) u) (map rule_levels_view ts)) (views-levels t.levels.items)
    ∙ ap (λ ls. levels_alone t ∷ ls) (tables-alone ts)

-- so are those of the program's tables
pub tables-in_order : (rs : List Rule) (ts : List RuleLevels) (plain macros : Times) →
    map rule_levels_view ts ≡ given_tables rs plain macros → map levels_alone ts ≡ map order_of rs
tables-in_order rs ts plain macros e =
    sym (tables-alone ts) ∙ ap (map (λ t. map (λ l. l.0) t)) e ∙ tables-levels rs plain macros

-- a name by its rule's name and its level, as the tables say it

abbrev pub name_at : List (ℕ × Text) → Text → ℕ → Text
name_at [] n j = numbered_text n j
name_at (l ∷ ls) n j = if l.0 == j then l.1 else name_at ls n j

-- the name for a level of the rule with this name: the given one, or the rule's name and the number where none is given
abbrev pub name_of_level : List Rule → List (List (ℕ × Text)) → Text → ℕ → Text
name_of_level [] ts n j = numbered_text n j
name_of_level (r ∷ rs) [] n j = numbered_text n j
name_of_level (r ∷ rs) (t ∷ ts) n j = if bytes_eq r.name n then name_at t n j else name_of_level rs ts n j

map-same : {A B : Type 0} (f g : A → B) (xs : List A) → ((x : A) → Among xs x → f x ≡ g x) → map f xs ≡ map g xs
map-same f g [] h = refl
map-same f g (x ∷ xs) h = ap (λ y. y ∷ map f xs) (h x (inl refl)) ∙ ap (λ l. g x ∷ l) (map-same f g xs (λ y i. h y (inr i)))

-- levels that fall are found in their table
at-levels : (n : Text) (t : List (ℕ × Text)) → Falls (map (λ l. l.0) t) → levels_by (name_at t n) (map (λ l. l.0) t) ≡ t
at-levels n [] f = refl
at-levels n (l ∷ ls) f =
    ap (λ m. (l.0, m) ∷ levels_by (name_at (l ∷ ls) n) (map (λ k. k.0) ls)) here
    ∙ ap (λ more. l ∷ more) (map-same (entry (name_at (l ∷ ls) n)) (entry (name_at ls n)) (map (λ k. k.0) ls) behind
    ∙ at-levels n ls f.1)
  where
    here : name_at (l ∷ ls) n l.0 ≡ l.1
    here = ap (λ b. cond b l.1 (name_at ls n l.0)) (eq-eqb l.0 l.0 refl)

    other : (j : ℕ) (b : Bool) → (l.0 == j) ≡ b → j < l.0 → cond b l.1 (name_at ls n j) ≡ name_at ls n j
    other j true e lt = let same : l.0 ≡ j = eqb-true l.0 j e in absurd (omega arith)
    other j false e lt = refl

    behind : (j : ℕ) → Among (map (λ k. k.0) ls) j → entry (name_at (l ∷ ls) n) j ≡ entry (name_at ls n) j
    behind j i = ap (λ m. (j, m)) (other j (l.0 == j) refl (f.0 j i))

-- a text isn't one of those from which it differs
pub apart-among : (n : Text) (ns : List Text) → has_text n ns ≡ false → (m : Text) → Among ns m → bytes_eq n m ≡ false
apart-among n [] e m i = absurd i
apart-among n (k ∷ ks) e m (inl same) =
    ap (bytes_eq n) (sym same) ∙ (or_parts (bytes_eq n k) (has_text n ks) e).0
apart-among n (k ∷ ks) e m (inr i) = apart-among n ks (or_parts (bytes_eq n k) (has_text n ks) e).1 m i

module _ (r : Rule) (rs : List Rule) (t : List (ℕ × Text)) (ts : List (List (ℕ × Text))) where
  found-first : (j : ℕ) → name_of_level (r ∷ rs) (t ∷ ts) r.name j ≡ name_at t r.name j
  found-first j = ap (λ b. cond b (name_at t r.name j) (name_of_level rs ts r.name j)) (same_text-refl r.name)

  found-behind : (n : Text) → bytes_eq r.name n ≡ false → (j : ℕ) →
      name_of_level (r ∷ rs) (t ∷ ts) n j ≡ name_of_level rs ts n j
  found-behind n e j = ap (λ b. cond b (name_at t n j) (name_of_level rs ts n j)) e

  first-table : map (λ l. l.0) t ≡ order_of r → levels_by (name_of_level (r ∷ rs) (t ∷ ts) r.name) (order_of r) ≡ t
  first-table e =
      map-same (entry (name_of_level (r ∷ rs) (t ∷ ts) r.name)) (entry (name_at t r.name)) (order_of r)
      (λ j i. ap (λ m. (j, m)) (found-first j))
      ∙ ap (levels_by (name_at t r.name)) (sym e)
      ∙ at-levels r.name t (subst Falls (sym e) (falling-falls (levels (rule_between r))))

-- where the rules' names differ, each finds its own table
pub tables-found : (rs : List Rule) (ts : List (List (ℕ × Text))) → AreDifferent (map (λ r. r.name) rs) →
    map (λ t. map (λ l. l.0) t) ts ≡ map order_of rs →
    map (λ r. levels_by (name_of_level rs ts r.name) (order_of r)) rs ≡ ts
tables-found [] [] d e = refl
tables-found [] (t ∷ ts) d e = cc
tables-found (r ∷ rs) [] d e = cc
tables-found (r ∷ rs) (t ∷ ts) d e =
    let front : map (λ l. l.0) t ≡ order_of r = cc in
    let rest : map (λ u. map (λ l. l.0) u) ts ≡ map order_of rs = cc in
    ap (λ u. u ∷ map (λ q. levels_by (name_of_level (r ∷ rs) (t ∷ ts) q.name) (order_of q)) rs) (first-table r rs t ts front)
    ∙ ap (λ us. t ∷ us) (map-same (λ q. levels_by (name_of_level (r ∷ rs) (t ∷ ts) q.name) (order_of q))
    (λ q. levels_by (name_of_level rs ts q.name) (order_of q)) rs behind
    ∙ tables-found rs ts d.1 rest)
  where
    behind : (q : Rule) → Among rs q →
        levels_by (name_of_level (r ∷ rs) (t ∷ ts) q.name) (order_of q) ≡ levels_by (name_of_level rs ts q.name) (order_of q)
    behind q i =
        map-same (entry (name_of_level (r ∷ rs) (t ∷ ts) q.name)) (entry (name_of_level rs ts q.name)) (order_of q)
        (λ j k. ap (λ m. (j, m)) (found-behind r rs t ts q.name
        (apart-among r.name (map (λ p. p.name) rs) d.0 q.name (map_among (λ p. p.name) rs q i)) j))

-- tables that hold the levels by their names
pub named-tables : (f : Text → ℕ → Text) (rs : List Rule) (tables : List RuleLevels) →
    map rule_levels_view tables ≡ map (λ r. levels_by (f r.name) (order_of r)) rs → AreNamedLevels f rs tables
named-tables f [] [] e = tt
named-tables f [] (t ∷ ts) e = absurd (cc)
named-tables f (r ∷ rs) [] e = absurd (cc)
named-tables f (r ∷ rs) (t ∷ ts) e =
    let front : rule_levels_view t ≡ levels_by (f r.name) (order_of r) = cc in
    let rest : map rule_levels_view ts ≡ map (λ q. levels_by (f q.name) (order_of q)) rs = cc in
    (front ∙ sym (named_anyway f r), named-tables f rs ts rest)

-- what is given, rule by rule

-- The rules' levels have names as they are given one after the other, up to the last times.
abbrev pub AreGiven : (Text → ℕ → Text) → Times → Times → List Rule → Times → Times → Type 0
AreGiven f last_plain last_macros [] plain macros = (plain ≡ last_plain) × (macros ≡ last_macros)
AreGiven f last_plain last_macros (r ∷ rs) plain macros =
    ((has_none r.parameters ≡ true) × (levels_by (f r.name) (order_of r) ≡ given_table r plain)
    × AreGiven f last_plain last_macros rs (taken_behind_rule r plain) macros)
    ⊎ ((has_none r.parameters ≡ false) × (levels_by (f r.name) (order_of r) ≡ given_table r macros)
    × AreGiven f last_plain last_macros rs plain (taken_behind_rule r macros))

module _ (f : Text → ℕ → Text) (last_plain last_macros : Times) where
  abbrev by_names : List Rule → List (List (ℕ × Text))
  by_names rs = map (λ r. levels_by (f r.name) (order_of r)) rs

  pub given-apart : (rs : List Rule) (plain macros : Times) → by_names rs ≡ given_tables rs plain macros →
      taken_behind_plain rs plain ≡ last_plain → taken_behind_macros rs macros ≡ last_macros →
      AreGiven f last_plain last_macros rs plain macros
  given-apart [] plain macros e p m = (p, m)
  given-apart (r ∷ rs) plain macros e p m =
      go (has_none r.parameters) refl e p m (given-apart rs (taken_behind_rule r plain) macros)
      (given-apart rs plain (taken_behind_rule r macros))
    where
      go : (b : Bool) → has_none r.parameters ≡ b →
          levels_by (f r.name) (order_of r) ∷ by_names rs
          ≡ cond b (given_table r plain ∷ given_tables rs (taken_behind_rule r plain) macros)
          (given_table r macros ∷ given_tables rs plain (taken_behind_rule r macros)) →
          cond b (taken_behind_plain rs (taken_behind_rule r plain)) (taken_behind_plain rs plain) ≡ last_plain →
          cond b (taken_behind_macros rs macros) (taken_behind_macros rs (taken_behind_rule r macros)) ≡ last_macros →
          (by_names rs ≡ given_tables rs (taken_behind_rule r plain) macros →
          taken_behind_plain rs (taken_behind_rule r plain) ≡ last_plain → taken_behind_macros rs macros ≡ last_macros →
          AreGiven f last_plain last_macros rs (taken_behind_rule r plain) macros) →
          (by_names rs ≡ given_tables rs plain (taken_behind_rule r macros) →
          taken_behind_plain rs plain ≡ last_plain → taken_behind_macros rs (taken_behind_rule r macros) ≡ last_macros →
          AreGiven f last_plain last_macros rs plain (taken_behind_rule r macros)) →
          AreGiven f last_plain last_macros (r ∷ rs) plain macros
      go true is h p m later other =
          let parts = both-parts (levels_by (f r.name) (order_of r)) (given_table r plain) (by_names rs)
          (given_tables rs (taken_behind_rule r plain) macros) h in
          inl (is, parts.0, later parts.1 p m)
      go false is h p m later other =
          let parts = both-parts (levels_by (f r.name) (order_of r)) (given_table r macros) (by_names rs)
          (given_tables rs plain (taken_behind_rule r macros)) h in
          inr (is, parts.0, other parts.1 p m)

  -- each rule's levels are given after something
  pub rule-given : (rs : List Rule) (plain macros : Times) → AreGiven f last_plain last_macros rs plain macros →
      (r : Rule) → Among rs r → (times : Times) × (levels_by (f r.name) (order_of r) ≡ given_table r times)
  rule-given [] plain macros g r i = absurd i
  rule-given (q ∷ rs) plain macros (inl g) r (inl e) =
      (plain, subst (λ p. levels_by (f p.name) (order_of p) ≡ given_table p plain) e g.1)
  rule-given (q ∷ rs) plain macros (inr g) r (inl e) =
      (macros, subst (λ p. levels_by (f p.name) (order_of p) ≡ given_table p macros) e g.1)
  rule-given (q ∷ rs) plain macros (inl g) r (inr i) = rule-given rs (taken_behind_rule q plain) macros g.2 r i
  rule-given (q ∷ rs) plain macros (inr g) r (inr i) = rule-given rs plain (taken_behind_rule q macros) g.2 r i

-- the tighter levels of a rule
pub tighter-given : (f : ℕ → Text) (r : Rule) (times : Times) → levels_by f (order_of r) ≡ given_table r times →
    levels_by f (tighter_levels r) ≡ given_names r times (tighter_levels r)
tighter-given f r times e = go (order_of r) e
  where
    go : (js : List ℕ) → levels_by f js ≡ given_table_of r times js →
        levels_by f (after_first js) ≡ given_names r times (after_first js)
    go [] h = refl
    go (j ∷ js) h = (named-parts (j, f j) (j, r.name) (levels_by f js) (given_names r times js) h).1

-- each of them is given after something
pub level-given : (f : ℕ → Text) (r : Rule) (times : Times) (js : List ℕ) → levels_by f js ≡ given_names r times js →
    (j : ℕ) → Among js j → (before : Times) × (f j ≡ given_name r before j)
level-given f r times [] e j i = absurd i
level-given f r times (k ∷ ks) e j (inl same) =
    let parts = named-parts (k, f k) (k, given_name r times k) (levels_by f ks) (given_names r (taken_behind r times k) ks) e in
    (times, subst (λ m. f m ≡ given_name r times m) same parts.0)
level-given f r times (k ∷ ks) e j (inr i) =
    let parts = named-parts (k, f k) (k, given_name r times k) (levels_by f ks) (given_names r (taken_behind r times k) ks) e in
    level-given f r (taken_behind r times k) ks parts.1 j i
