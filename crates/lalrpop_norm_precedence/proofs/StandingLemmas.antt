-- The names that are given are names of levels: the loosest keeps the rule's, the others are numbered, and no parameter hides
-- one. For the clause of the pass that names levels.
use Rattle.std.proofs.Common.{◌≡◌, ℕ, zero, suc, ◌<◌, Bool, true, false, cond, List}
use Rattle.std.proofs.Common.{[], ◌∷◌, ◌++◌, refl}
use Rattle.std.proofs.Common.{ap, sym, ◌∙◌, subst, inl, inr, ◌⊎◌, arith}
use Rattle.std.specs.Prelude.{map, flat_map, Option, Some, None, if◌then◌else◌}
use Rattle.std.specs.Str.{bytes_eq}
use Rattle.lalrpop_grammar_symbols.specs.Symbols.{Text}
use Rattle.lalrpop_grammar.specs.WrittenGrammar.{Rule}
use Rattle.lalrpop_grammar_language.specs.Among.{Among}
use Rattle.lalrpop_grammar_language.specs.Enabled.{has_text}
use Rattle.lalrpop_grammar_language.specs.Levels.{levels, loosest}
use Rattle.lalrpop_grammar_language.specs.Starts.{has_none}
use Rattle.lalrpop_grammar_language.proofs.ComparisonLemmas.{same_text-refl}
use Rattle.lalrpop_norm_theory.specs.Between.{rule_between}
use Rattle.lalrpop_norm_theory.specs.Keys.{with_number, before_tilde}
use Rattle.lalrpop_norm_theory.specs.LevelRules.{level_name}
use Rattle.lalrpop_norm_theory.specs.LevelNames.{after_first, numbered_text, plain_levels_of, tighter_levels, times_taken}
use Rattle.lalrpop_norm_theory.specs.LevelNames.{AreNumberedBeside, AreNumberedInOrder, beside_own, macro_levels_of, taken_behind_levels}
use Rattle.lalrpop_norm_theory.proofs.LevelOrderLemmas.{falling-has, falling-only, loosest_or_tighter, loosest-among}
use Rattle.lalrpop_grammar_language.proofs.AmongLemmas.{found_text}
use Rattle.lalrpop_norm_theory.proofs.PackedNameLemmas.{number_cut, numbered_stays}
use Rattle.lalrpop_norm_precedence.specs.GivenNames.{Times, once_more, beside_parameters, given_name, taken_behind, given_names}
use Rattle.lalrpop_norm_precedence.specs.GivenNames.{taken_behind_all, given_table_of, given_table, taken_behind_rule}
use Rattle.lalrpop_norm_precedence.specs.GivenNames.{taken_behind_plain}
use Rattle.lalrpop_norm_precedence.proofs.OrderLemmas.{Falls, falling-falls}
use Rattle.lalrpop_norm_precedence.proofs.NumberLemmas.{no_number}
use Rattle.lalrpop_norm_precedence.proofs.TakenLemmas.{taken_more}
use Rattle.lalrpop_norm_precedence.proofs.GivenLemmas.{order_of, levels_by, named-parts, AreGiven}
use Rattle.lalrpop_norm_precedence.proofs.GivenLemmas.{rule-given, tighter-given, level-given}
use Rattle.lalrpop_norm_theory.proofs.ProductionListLemmas.{no_parameters}

-- the loosest level has the rule's name

module _ (f : Text → ℕ → Text) (r : Rule) (times : Times) where
  none_loosest : order_of r ≡ [] → (o : Option ℕ) → loosest (rule_between r) ≡ o → level_name f r.name o ≡ r.name
  none_loosest e None h = refl
  none_loosest e (Some m) h =
      absurd (subst (λ l. Among l m) e (falling-has (levels (rule_between r)) m (loosest-among (rule_between r) m h)))

  first_loosest : (j : ℕ) (js : List ℕ) → order_of r ≡ j ∷ js → f r.name j ≡ r.name →
      (loosest (rule_between r) ≡ Some j) ⊎ Among (after_first (order_of r)) j →
      level_name f r.name (loosest (rule_between r)) ≡ r.name
  first_loosest j js e name (inl h) = ap (level_name f r.name) h ∙ name
  first_loosest j js e name (inr i) =
      let falls : Falls (j ∷ js) = subst Falls e (falling-falls (levels (rule_between r))) in
      let below : j < j = falls.0 j (subst (λ l. Among (after_first l) j) e i) in
      absurd (omega arith)

  pub loosest-named : levels_by (f r.name) (order_of r) ≡ given_table r times →
      level_name f r.name (loosest (rule_between r)) ≡ r.name
  loosest-named e = go (order_of r) refl e
    where
      go : (js : List ℕ) → order_of r ≡ js → levels_by (f r.name) js ≡ given_table_of r times js →
          level_name f r.name (loosest (rule_between r)) ≡ r.name
      go [] is h = none_loosest is (loosest (rule_between r)) refl
      go (j ∷ js) is h =
          let parts = named-parts (j, f r.name j) (j, r.name) (levels_by (f r.name) js) (given_names r times js) h in
          first_loosest j js is parts.0 (loosest_or_tighter (rule_between r) j
          (falling-only (levels (rule_between r)) j (subst (λ l. Among l j) (sym is) (inl refl))))

-- the tighter levels of plain rules are numbered in order

-- the count says of each text how often it stands in the list of taken ones
abbrev pub AreTimesOf : Times → List Text → Type 0
AreTimesOf times taken = (t : Text) → times t ≡ times_taken t taken

more-of : (text : Text) (times : Times) (taken : List Text) → AreTimesOf times taken →
    AreTimesOf (once_more text times) (text ∷ taken)
more-of text times taken same t =
    ap (λ n. cond (bytes_eq t text) (suc n) n) (same t) ∙ sym (taken_more t text taken)

module _ (r : Rule) (none : r.parameters ≡ []) where
  beside_none : (text : Text) (times : Times) → beside_parameters r.parameters text times ≡ times
  beside_none text times = ap (λ ps. beside_parameters ps text times) none

  -- one level more is counted
  level-more : (j : ℕ) (times : Times) (taken : List Text) → AreTimesOf times taken →
      AreTimesOf (taken_behind r times j) (numbered_text r.name j ∷ taken)
  level-more j times taken same =
      subst (λ h. AreTimesOf (once_more (numbered_text r.name j) h) (numbered_text r.name j ∷ taken))
      (sym (beside_none (numbered_text r.name j) times)) (more-of (numbered_text r.name j) times taken same)

  texts-on : (js : List ℕ) (times : Times) (taken : List Text) → AreTimesOf times taken → (ks : List (Text × ℕ)) (last : Times) →
      ((more : List Text) → AreTimesOf (taken_behind_all r times js) more → AreTimesOf last (taken_behind_levels more ks)) →
      AreTimesOf last (taken_behind_levels taken (map (λ j. (r.name, j)) js ++ ks))
  texts-on [] times taken same ks last later = later taken same
  texts-on (j ∷ js) times taken same ks last later =
      texts-on js (taken_behind r times j) (numbered_text r.name j ∷ taken) (level-more j times taken same) ks last later

-- what plain rules take is counted
pub texts-taken : (rs : List Rule) (plain : Times) (taken : List Text) → AreTimesOf plain taken →
    AreTimesOf (taken_behind_plain rs plain) (taken_behind_levels taken (flat_map plain_levels_of rs))
texts-taken [] plain taken same = same
texts-taken (r ∷ rs) plain taken same =
    go (has_none r.parameters) refl (texts-taken rs plain taken same) (λ more h. texts-taken rs (taken_behind_rule r plain) more h)
  where
    go : (b : Bool) → has_none r.parameters ≡ b →
        AreTimesOf (taken_behind_plain rs plain) (taken_behind_levels taken (flat_map plain_levels_of rs)) →
        ((more : List Text) → AreTimesOf (taken_behind_rule r plain) more →
        AreTimesOf (taken_behind_plain rs (taken_behind_rule r plain)) (taken_behind_levels more (flat_map plain_levels_of rs))) →
        AreTimesOf (if b then taken_behind_plain rs (taken_behind_rule r plain) else taken_behind_plain rs plain)
        (taken_behind_levels taken ((if b then map (λ j. (r.name, j)) (tighter_levels r) else []) ++ flat_map plain_levels_of rs))
    go true none other later =
        texts-on r (no_parameters r.parameters none) (tighter_levels r) plain taken same (flat_map plain_levels_of rs)
        (taken_behind_plain rs (taken_behind_rule r plain)) later
    go false some other later = other

module _ (f : Text → ℕ → Text) (r : Rule) (none : r.parameters ≡ []) where
  numbered-on : (js : List ℕ) (times : Times) (taken : List Text) → AreTimesOf times taken →
      levels_by (f r.name) js ≡ given_names r times js →
      (ks : List (Text × ℕ)) →
      ((more : List Text) → AreTimesOf (taken_behind_all r times js) more → AreNumberedInOrder f more ks) →
      AreNumberedInOrder f taken (map (λ j. (r.name, j)) js ++ ks)
  numbered-on [] times taken same e ks later = later taken same
  numbered-on (j ∷ js) times taken same e ks later =
      let parts =
      named-parts (j, f r.name j) (j, given_name r times j) (levels_by (f r.name) js) (given_names r (taken_behind r times j) js) e in (
        parts.0
            ∙ ap (λ h. with_number (numbered_text r.name j) (h (numbered_text r.name j)))
            (beside_none r none (numbered_text r.name j) times)
            ∙ ap (with_number (numbered_text r.name j)) (same (numbered_text r.name j)),
        numbered-on js (taken_behind r times j) (numbered_text r.name j ∷ taken) (level-more r none j times taken same) parts.1 ks
            later,
      )

-- those of macros behind them, each beside the parameters of its rule

module _ (f : Text → ℕ → Text) (r : Rule) where
  beside-own : (text : Text) (times : Times) (taken : List Text) → AreTimesOf times taken →
      AreTimesOf (beside_parameters r.parameters text times) (beside_own r.parameters text taken)
  beside-own text times taken same = go (has_text text r.parameters)
    where
      go : (b : Bool) → AreTimesOf (if b then once_more text times else times) (if b then text ∷ taken else taken)
      go true = more-of text times taken same
      go false = same

  numbered-beside : (js : List ℕ) (times : Times) (taken : List Text) → AreTimesOf times taken →
      levels_by (f r.name) js ≡ given_names r times js →
      (ks : List (Rule × ℕ)) →
      ((more : List Text) → AreTimesOf (taken_behind_all r times js) more → AreNumberedBeside f more ks) →
      AreNumberedBeside f taken (map (λ j. (r, j)) js ++ ks)
  numbered-beside [] times taken same e ks later = later taken same
  numbered-beside (j ∷ js) times taken same e ks later =
      let parts =
      named-parts (j, f r.name j) (j, given_name r times j) (levels_by (f r.name) js) (given_names r (taken_behind r times j) js) e in
      let beside : AreTimesOf (beside_parameters r.parameters (numbered_text r.name j) times)
      (beside_own r.parameters (numbered_text r.name j) taken) = beside-own (numbered_text r.name j) times taken same in (
        parts.0 ∙ ap (with_number (numbered_text r.name j)) (beside (numbered_text r.name j)),
        numbered-beside js (taken_behind r times j)
            (numbered_text r.name j ∷ beside_own r.parameters (numbered_text r.name j) taken)
            (more-of (numbered_text r.name j) (beside_parameters r.parameters (numbered_text r.name j) times)
            (beside_own r.parameters (numbered_text r.name j) taken) beside)
            parts.1 ks later,
      )

module _ (f : Text → ℕ → Text) (last_plain last_macros : Times) where
  pub rules-numbered : (rs : List Rule) (plain macros : Times) → AreGiven f last_plain last_macros rs plain macros →
      (taken : List Text) → AreTimesOf plain taken → AreNumberedInOrder f taken (flat_map plain_levels_of rs)
  rules-numbered [] plain macros g taken same = tt
  rules-numbered (r ∷ rs) plain macros (inl g) taken same =
      subst (λ b. AreNumberedInOrder f taken
      ((if b then map (λ j. (r.name, j)) (tighter_levels r) else []) ++ flat_map plain_levels_of rs))
      (sym g.0)
      (numbered-on f r (no_parameters r.parameters g.0) (tighter_levels r) plain taken same (tighter-given (f r.name) r plain g.1)
      (flat_map plain_levels_of rs)
      (λ more h. rules-numbered rs (taken_behind_rule r plain) macros g.2 more h))
  rules-numbered (r ∷ rs) plain macros (inr g) taken same =
      subst (λ b. AreNumberedInOrder f taken
      ((if b then map (λ j. (r.name, j)) (tighter_levels r) else []) ++ flat_map plain_levels_of rs))
      (sym g.0) (rules-numbered rs plain (taken_behind_rule r macros) g.2 taken same)

  pub macros-numbered : (rs : List Rule) (plain macros : Times) → AreGiven f last_plain last_macros rs plain macros →
      (taken : List Text) → AreTimesOf macros taken → AreNumberedBeside f taken (flat_map macro_levels_of rs)
  macros-numbered [] plain macros g taken same = tt
  macros-numbered (r ∷ rs) plain macros (inl g) taken same =
      subst (λ b. AreNumberedBeside f taken
      ((if b then [] else map (λ j. (r, j)) (tighter_levels r)) ++ flat_map macro_levels_of rs))
      (sym g.0) (macros-numbered rs (taken_behind_rule r plain) macros g.2 taken same)
  macros-numbered (r ∷ rs) plain macros (inr g) taken same =
      subst (λ b. AreNumberedBeside f taken
      ((if b then [] else map (λ j. (r, j)) (tighter_levels r)) ++ flat_map macro_levels_of rs))
      (sym g.0)
      (numbered-beside f r (tighter_levels r) macros taken same (tighter-given (f r.name) r macros g.1)
      (flat_map macro_levels_of rs)
      (λ more h. macros-numbered rs plain (taken_behind_rule r macros) g.2 more h))

  -- each tighter level has a number
  pub tighter-numbered : (rs : List Rule) (plain macros : Times) → AreGiven f last_plain last_macros rs plain macros →
      (r : Rule) (j : ℕ) → Among rs r → Among (tighter_levels r) j → (times : Times) × (f r.name j ≡ given_name r times j)
  tighter-numbered rs plain macros g r j i k =
      let w = rule-given f last_plain last_macros rs plain macros g r i in
      level-given (f r.name) r w.0 (tighter_levels r) (tighter-given (f r.name) r w.0 w.1) j k

-- no parameter has the name

module _ (r : Rule) (plain : before_tilde r.name ≡ r.name) (own : (n : Text) → Among r.parameters n → before_tilde n ≡ n) where
  clear : (t : Text) (k : ℕ) → before_tilde t ≡ t → (b : Bool) → has_text (with_number t (suc k)) r.parameters ≡ b →
      b ≡ false
  clear t k stays false e = refl
  clear t k stays true e =
      let whole = own (with_number t (suc k)) (found_text (with_number t (suc k)) r.parameters e) in
      absurd (no_number t k (sym (number_cut t (suc k) stays) ∙ whole))

  cleared : (t : Text) (k : ℕ) → before_tilde t ≡ t → has_text t r.parameters ≡ false →
      has_text (with_number t k) r.parameters ≡ false
  cleared t zero stays e = e
  cleared t (suc k) stays e = clear t k stays (has_text (with_number t (suc k)) r.parameters) refl

  pub unhidden : (times : Times) (j : ℕ) → has_text (given_name r times j) r.parameters ≡ false
  unhidden times j = go (has_text (numbered_text r.name j) r.parameters) refl
    where
      stays : before_tilde (numbered_text r.name j) ≡ numbered_text r.name j
      stays = numbered_stays r.name j plain

      more : once_more (numbered_text r.name j) times (numbered_text r.name j) ≡ suc (times (numbered_text r.name j))
      more =
          ap (λ b. cond b (suc (times (numbered_text r.name j))) (times (numbered_text r.name j))) (same_text-refl
          (numbered_text r.name j))

      go : (b : Bool) → has_text (numbered_text r.name j) r.parameters ≡ b →
          has_text (with_number (numbered_text r.name j) ((if b then once_more (numbered_text r.name j) times else times)
          (numbered_text r.name j))) r.parameters ≡ false
      go false e = cleared (numbered_text r.name j) (times (numbered_text r.name j)) stays e
      go true e =
          ap (λ n. has_text (with_number (numbered_text r.name j) n) r.parameters) more
          ∙ clear (numbered_text r.name j) (times (numbered_text r.name j)) stays _ refl
