-- No two of the names that are given are the same; for the clause of the pass that names levels.
use Rattle.std.proofs.Common.{◌≡◌, ℕ, zero, suc, ◌+◌, ◌<◌, ◌≤◌, ◌^◌, Bool, true, false, cond}
use Rattle.std.proofs.Common.{List, [], ◌∷◌, ◌++◌, refl}
use Rattle.std.proofs.Common.{ap, sym, ◌∙◌, subst, inl, inr, ◌⊎◌, arith}
use Rattle.std.specs.Prelude.{map, Some, None, ◌||◌, if◌then◌else◌}
use Rattle.std.specs.Str.{bytes_eq}
use Rattle.lalrpop_grammar_symbols.specs.Symbols.{Text}
use Rattle.lalrpop_grammar.specs.WrittenGrammar.{Rule}
use Rattle.lalrpop_grammar_language.specs.Among.{Among}
use Rattle.lalrpop_grammar_language.specs.Enabled.{has_text}
use Rattle.lalrpop_grammar_language.specs.Levels.{has_levels}
use Rattle.lalrpop_grammar_language.proofs.ComparisonLemmas.{same_text-refl}
use Rattle.lalrpop_grammar_language.proofs.PlaceLemmas.{same_text-eq}
use Rattle.lalrpop_norm_theory.specs.Between.{rule_between}
use Rattle.lalrpop_norm_theory.specs.Keys.{with_number, before_tilde}
use Rattle.lalrpop_norm_theory.specs.Premises.{AreDifferent}
use Rattle.lalrpop_grammar_language.proofs.OrderLemmas.{among_parts}
use Rattle.lalrpop_norm_theory.specs.LevelNames.{leveled_keys_of, name_of_leveled_key, numbered_text, tighter_levels}
use Rattle.lalrpop_norm_theory.specs.LevelNames.{after_first}
use Rattle.lalrpop_norm_theory.proofs.PackedNameLemmas.{numbered_stays}
use Rattle.lalrpop_norm_precedence.specs.TakenTimes.{AreSmallTimes}
use Rattle.lalrpop_norm_precedence.specs.GivenNames.{Times, once_more, beside_parameters, given_name, taken_behind, given_names}
use Rattle.lalrpop_norm_precedence.specs.GivenNames.{taken_behind_all, given_table_of, given_table, taken_behind_rule}
use Rattle.lalrpop_norm_precedence.proofs.NumberLemmas.{same_text_told, same_number_told}
use Rattle.lalrpop_norm_precedence.proofs.RankLevelLemmas.{flat_order}
use Rattle.lalrpop_norm_precedence.proofs.GivenLemmas.{order_of, levels_by, named-parts, tighter-given, apart-among}

-- times grow

-- the first count is at most the second one, for each text
abbrev pub IsAtMost : Times → Times → Type 0
IsAtMost a b = (t : Text) → a t ≤ b t

once-grows : (text : Text) (times : Times) → IsAtMost times (once_more text times)
once-grows text times t = go (bytes_eq t text)
  where
    go : (b : Bool) → times t ≤ cond b (suc (times t)) (times t)
    go true = omega arith
    go false = omega arith

beside-grows : (ps : List Text) (text : Text) (times : Times) → IsAtMost times (beside_parameters ps text times)
beside-grows ps text times t = go (has_text text ps)
  where
    go : (b : Bool) → times t ≤ (if b then once_more text times else times) t
    go true = once-grows text times t
    go false = omega arith

behind-grows : (r : Rule) (times : Times) (j : ℕ) → IsAtMost times (taken_behind r times j)
behind-grows r times j t =
    let a = beside-grows r.parameters (numbered_text r.name j) times t in
    let b = once-grows (numbered_text r.name j) (beside_parameters r.parameters (numbered_text r.name j) times) t in
    omega (arith, a, b)

-- behind several levels of a rule each text is taken at least as often as before them
pub all-grows : (r : Rule) (times : Times) (js : List ℕ) → IsAtMost times (taken_behind_all r times js)
all-grows r times [] t = omega arith
all-grows r times (j ∷ js) t =
    let a = behind-grows r times j t in
    let b = all-grows r (taken_behind r times j) js t in
    omega (arith, a, b)

-- of three counts, each at most the next, the first is at most the last
pub at_most-trans : (a b c : Times) → IsAtMost a b → IsAtMost b c → IsAtMost a c
at_most-trans a b c h k t = let x = h t in let y = k t in omega (arith, x, y)

-- names that tell their text and their number

-- a text without a tilde with a number from the one times on, below the other ones
pub record IsBetween (low high : Times) (n : Text) : Type 0 where
  pub text : Text
  pub number : ℕ
  pub plain : before_tilde text ≡ text
  pub is : n ≡ with_number text number
  pub above : low text ≤ number
  pub below : number < high text
  pub small : number + 1 < 2 ^ 64

-- a name between two counts is between a lower and a higher one too
pub between-wider : (low lower high higher : Times) (n : Text) → IsAtMost lower low → IsAtMost high higher → IsBetween low high n →
    IsBetween lower higher n
between-wider low lower high higher n a b w = record {
  text = w.text;
  number = w.number;
  plain = w.plain;
  is = w.is;
  above = let x = a w.text in let y = w.above in omega (arith, x, y);
  below = let x = b w.text in let y = w.below in omega (arith, x, y);
  small = w.small;
}

pub never : (b : Bool) → (b ≡ true → ⊥) → b ≡ false
never true h = absurd (h refl)
never false h = refl

-- those below some times and those above them differ
pub between-apart : (low high low' high' : Times) (n m : Text) → IsAtMost high low' → IsBetween low high n →
    IsBetween low' high' m → bytes_eq n m ≡ false
between-apart low high low' high' n m a v w = never (bytes_eq n m) go
  where
    go : bytes_eq n m ≡ true → ⊥
    go e =
        let same : with_number v.text v.number ≡ with_number w.text w.number = sym v.is ∙ same_text-eq n m e ∙ w.is in
        let text : v.text ≡ w.text = same_text_told v.text w.text v.number w.number v.plain w.plain same in
        let number : v.number ≡ w.number =
        same_number_told v.text w.text v.number w.number v.plain w.plain v.small w.small same in
        let x = a w.text in
        let y : v.number < high w.text = subst (λ t. v.number < high t) text v.below in
        let z = w.above in
        omega (arith, number, x, y, z)

-- the name of a rule, once it is taken
pub name-apart : (low high : Times) (n m : Text) → before_tilde n ≡ n → 0 < low n → IsBetween low high m → bytes_eq n m ≡ false
name-apart low high n m plain taken w = never (bytes_eq n m) go
  where
    go : bytes_eq n m ≡ true → ⊥
    go e =
        let same : with_number n zero ≡ with_number w.text w.number = same_text-eq n m e ∙ w.is in
        let text : n ≡ w.text = same_text_told n w.text zero w.number plain w.plain same in
        let number : zero ≡ w.number =
        same_number_told n w.text zero w.number plain w.plain (omega arith) w.small same in
        let x : 0 < low w.text = subst (λ t. 0 < low t) text taken in
        let z = w.above in
        omega (arith, number, x, z)

-- lists of names that differ

-- a text that differs from each one of a list isn't in the list
pub none-among : (n : Text) (ns : List Text) → ((m : Text) → Among ns m → bytes_eq n m ≡ false) → has_text n ns ≡ false
none-among n [] h = refl
none-among n (m ∷ ms) h =
    ap (λ b. b || has_text n ms) (h m (inl refl)) ∙ none-among n ms (λ k i. h k (inr i))

-- two lists, each without a text twice and with no text in common, have none twice when they are joined
pub different-parts : (ns ms : List Text) → AreDifferent ns → AreDifferent ms →
    ((n m : Text) → Among ns n → Among ms m → bytes_eq n m ≡ false) → AreDifferent (ns ++ ms)
different-parts [] ms d e h = e
different-parts (n ∷ ns) ms d e h = (
  none-among n (ns ++ ms) (λ k i. go k (among_parts ns ms k i)),
  different-parts ns ms d.1 e (λ k m i j. h k m (inr i) j),
)
  where
    go : (k : Text) → Among ns k ⊎ Among ms k → bytes_eq n k ≡ false
    go k (inl i) = apart-among n ns d.0 k i
    go k (inr i) = h n k (inl refl) i

-- the names of one rule

module _ (f : Text → ℕ → Text) (r : Rule) (plain : before_tilde r.name ≡ r.name) (last : Times) (room : AreSmallTimes last) where
  -- a given name tells how often its text was taken
  name-between : (times : Times) (j : ℕ) → IsAtMost (taken_behind r times j) last →
      IsBetween times (taken_behind r times j) (given_name r times j)
  name-between times j most =
      let text = numbered_text r.name j in
      let before = beside_parameters r.parameters (numbered_text r.name j) times in
      let next : once_more (numbered_text r.name j) (beside_parameters r.parameters (numbered_text r.name j) times) (numbered_text r.name j)
      ≡ suc (beside_parameters r.parameters (numbered_text r.name j) times (numbered_text r.name j)) =
      ap (λ b. cond b (suc (before (numbered_text r.name j))) (before (numbered_text r.name j))) (same_text-refl
      (numbered_text r.name j)) in
      let a = beside-grows r.parameters (numbered_text r.name j) times (numbered_text r.name j) in
      let b = most (numbered_text r.name j) in
      let c = room (numbered_text r.name j) in
      record {
        text = numbered_text r.name j;
        number = beside_parameters r.parameters (numbered_text r.name j) times (numbered_text r.name j);
        plain = numbered_stays r.name j plain;
        is = refl;
        above = a;
        below = omega (arith, next);
        small = omega (arith, next, b, c);
      }

  tighter-between : (js : List ℕ) (times : Times) → levels_by (f r.name) js ≡ given_names r times js →
      IsAtMost (taken_behind_all r times js) last →
      (n : Text) → Among (map (f r.name) js) n → IsBetween times (taken_behind_all r times js) n
  tighter-between [] times e most n i = absurd i
  tighter-between (j ∷ js) times e most n (inl same) =
      let parts =
      named-parts (j, f r.name j) (j, given_name r times j) (levels_by (f r.name) js) (given_names r (taken_behind r times j) js) e in
      let rest = all-grows r (taken_behind r times j) js in
      subst (IsBetween times (taken_behind_all r times (j ∷ js))) (sym parts.0 ∙ same)
      (between-wider times times (taken_behind r times j) (taken_behind_all r times (j ∷ js)) (given_name r times j) (λ t. omega arith)
      rest (name-between times j (at_most-trans (taken_behind r times j) (taken_behind_all r times (j ∷ js)) last rest most)))
  tighter-between (j ∷ js) times e most n (inr i) =
      let parts =
      named-parts (j, f r.name j) (j, given_name r times j) (levels_by (f r.name) js) (given_names r (taken_behind r times j) js) e in
      between-wider (taken_behind r times j) times (taken_behind_all r times (j ∷ js)) (taken_behind_all r times (j ∷ js)) n
      (behind-grows r times j) (λ t. omega arith) (tighter-between js (taken_behind r times j) parts.1 most n i)

  tighter-different : (js : List ℕ) (times : Times) → levels_by (f r.name) js ≡ given_names r times js →
      IsAtMost (taken_behind_all r times js) last → AreDifferent (map (f r.name) js)
  tighter-different [] times e most = tt
  tighter-different (j ∷ js) times e most =
      let parts =
      named-parts (j, f r.name j) (j, given_name r times j) (levels_by (f r.name) js) (given_names r (taken_behind r times j) js) e in
      let grown = all-grows r (taken_behind r times j) js in
      let first : IsBetween times (taken_behind r times j) (f r.name j) =
      subst (IsBetween times (taken_behind r times j)) (sym parts.0)
      (name-between times j (at_most-trans (taken_behind r times j) (taken_behind_all r times (j ∷ js)) last grown most)) in (
        none-among (f r.name j) (map (f r.name) js)
            (λ m i. between-apart times (taken_behind r times j) (taken_behind r times j) (taken_behind_all r times (j ∷ js))
            (f r.name j) m (λ t. omega arith) first (tighter-between js (taken_behind r times j) parts.1 most m i)),
        tighter-different js (taken_behind r times j) parts.1 most,
      )

-- the rule's own name, then those of its tighter levels; none where no level can be read
abbrev pub names_of_rule : (Text → ℕ → Text) → Rule → List Text
names_of_rule f r = map (name_of_leveled_key f) (leveled_keys_of r)

keys-named : (f : Text → ℕ → Text) (r : Rule) (js : List ℕ) →
    map (name_of_leveled_key f) (map (λ j. (r.name, Some j)) js) ≡ map (f r.name) js
keys-named f r [] = refl
keys-named f r (j ∷ js) = ap (λ l. f r.name j ∷ l) (keys-named f r js)

rule-names : (f : Text → ℕ → Text) (r : Rule) (times : Times) → levels_by (f r.name) (order_of r) ≡ given_table r times →
    (names_of_rule f r ≡ []) ⊎ (names_of_rule f r ≡ r.name ∷ map (f r.name) (tighter_levels r))
rule-names f r times e = go (has_levels (rule_between r)) refl
  where
    some : (js : List ℕ) → levels_by (f r.name) js ≡ given_table_of r times js →
        (map (name_of_leveled_key f) (map (λ j. (r.name, Some j)) js) ≡ [])
        ⊎ (map (name_of_leveled_key f) (map (λ j. (r.name, Some j)) js) ≡ r.name ∷ map (f r.name) (after_first js))
    some [] h = inl refl
    some (j ∷ js) h =
        let parts = named-parts (j, f r.name j) (j, r.name) (levels_by (f r.name) js) (given_names r times js) h in
        inr (ap (λ l. f r.name j ∷ l) (keys-named f r js) ∙ ap (λ n. n ∷ map (f r.name) js) parts.0)

    go : (b : Bool) → has_levels (rule_between r) ≡ b →
        (map (name_of_leveled_key f) (if b then map (λ j. (r.name, Some j)) (order_of r) else (r.name, None) ∷ []) ≡ [])
        ⊎ (map (name_of_leveled_key f) (if b then map (λ j. (r.name, Some j)) (order_of r) else (r.name, None) ∷ [])
        ≡ r.name ∷ map (f r.name) (tighter_levels r))
    go true h = some (order_of r) e
    go false h = inr (ap (λ js. r.name ∷ map (f r.name) (after_first js)) (sym (flat_order (rule_between r) h)))

module _ (f : Text → ℕ → Text) (r : Rule) (plain : before_tilde r.name ≡ r.name) (last : Times) (room : AreSmallTimes last)
    (times : Times) (given : levels_by (f r.name) (order_of r) ≡ given_table r times)
    (most : IsAtMost (taken_behind_rule r times) last) where
  pub rule-between : (n : Text) → Among (names_of_rule f r) n → (r.name ≡ n) ⊎ IsBetween times (taken_behind_rule r times) n
  rule-between n i = go (rule-names f r times given)
    where
      inner : Among (r.name ∷ map (f r.name) (tighter_levels r)) n → (r.name ≡ n) ⊎ IsBetween times (taken_behind_rule r times) n
      inner (inl e) = inl e
      inner (inr k) = inr (tighter-between f r plain last room (tighter_levels r) times (tighter-given (f r.name) r times given) most n k)

      go : (names_of_rule f r ≡ []) ⊎ (names_of_rule f r ≡ r.name ∷ map (f r.name) (tighter_levels r)) →
          (r.name ≡ n) ⊎ IsBetween times (taken_behind_rule r times) n
      go (inl e) = absurd (subst (λ l. Among l n) e i)
      go (inr e) = inner (subst (λ l. Among l n) e i)

  pub rule-different : 0 < times r.name → AreDifferent (names_of_rule f r)
  rule-different taken = go (rule-names f r times given)
    where
      go : (names_of_rule f r ≡ []) ⊎ (names_of_rule f r ≡ r.name ∷ map (f r.name) (tighter_levels r)) →
          AreDifferent (names_of_rule f r)
      go (inl e) = subst AreDifferent (sym e) tt
      go (inr e) = subst AreDifferent (sym e) (
        none-among r.name (map (f r.name) (tighter_levels r)) (λ m i. name-apart times (taken_behind_rule r times) r.name m plain taken
            (tighter-between f r plain last room (tighter_levels r) times (tighter-given (f r.name) r times given) most m i)),
        tighter-different f r plain last room (tighter_levels r) times (tighter-given (f r.name) r times given) most,
      )
