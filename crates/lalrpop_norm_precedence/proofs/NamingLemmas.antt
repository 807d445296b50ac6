-- The tables of all rules hold names that levels may have; for the clause of the pass that names levels.
use Rattle.std.proofs.Common.{◌≡◌, ℕ, suc, ◌<◌, Bool, true, false, cond, List, [], ◌∷◌, refl}
use Rattle.std.proofs.Common.{ap, sym, ◌∙◌, subst, inl, inr, arith}
use Rattle.std.specs.Prelude.{map, filter, Option}
use Rattle.std.specs.Str.{bytes_eq}
use Rattle.lalrpop_grammar_symbols.specs.Symbols.{Text}
use Rattle.lalrpop_grammar.specs.WrittenGrammar.{Rule, Grammar, rules_of}
use Rattle.lalrpop_grammar_language.specs.Among.{Among}
use Rattle.lalrpop_grammar_language.specs.Enabled.{EnabledRule, has_name, has_text}
use Rattle.lalrpop_grammar_language.proofs.ComparisonLemmas.{same_text-refl}
use Rattle.lalrpop_grammar_rules.proofs.BareNameLemmas.{same_text-sym}
use Rattle.lalrpop_norm_theory.specs.Between.{grammar_between, rule_between}
use Rattle.lalrpop_norm_theory.specs.Premises.{AreDifferent, IsResolved}
use Rattle.lalrpop_norm_theory.specs.LevelNames.{AreLevelNames, HasNoTildes, plain_levels, taken_behind_levels, times_taken}
use Rattle.lalrpop_norm_precedence.specs.declared.level_names.levels.RuleLevels.{RuleLevels}
use Rattle.lalrpop_norm_precedence.specs.LevelTables.{HasPlainParameters, HoldLevelNames, rule_levels_view}
use Rattle.lalrpop_norm_precedence.specs.TakenTimes.{AreSmallTimes}
use Rattle.lalrpop_norm_precedence.specs.GivenNames.{Times, given_tables, taken_behind_plain, taken_behind_macros}
use Rattle.lalrpop_norm_precedence.proofs.TakenLemmas.{taken_more}
use Rattle.lalrpop_norm_precedence.proofs.GivenLemmas.{order_of, levels_by, name_of_level, tables-found, tables-levels}
use Rattle.lalrpop_norm_precedence.proofs.GivenLemmas.{AreGiven, given-apart, rule-given, named-tables}
use Rattle.lalrpop_norm_precedence.proofs.StandingLemmas.{AreTimesOf, loosest-named, macros-numbered, rules-numbered}
use Rattle.lalrpop_norm_precedence.proofs.StandingLemmas.{texts-taken, tighter-numbered, unhidden}
use Rattle.lalrpop_norm_precedence.proofs.ApartLemmas.{none-among}
use Rattle.lalrpop_norm_precedence.proofs.AllApartLemmas.{names-apart}

-- rules with names that differ

abbrev AloneIn : List EnabledRule → Type 0
AloneIn rs = (r : EnabledRule) → Among rs r → filter (has_name r.name) rs ≡ r ∷ []

named-there : (rs : List EnabledRule) (q : EnabledRule) → Among rs q → filter (has_name q.name) rs ≡ [] → ⊥
named-there [] q i e = i
named-there (r ∷ rs) q (inl same) e =
    let yes : has_name q.name r ≡ true = subst (λ p. has_name q.name p ≡ true) (sym same) (same_text-refl q.name) in
    let whole : r ∷ filter (has_name q.name) rs ≡ [] =
    ap (λ b. cond b (r ∷ filter (has_name q.name) rs) (filter (has_name q.name) rs)) (sym yes) ∙ e in
    cc
named-there (r ∷ rs) q (inr i) e = go (has_name q.name r) e (named-there rs q i)
  where
    go : (b : Bool) → cond b (r ∷ filter (has_name q.name) rs) (filter (has_name q.name) rs) ≡ [] →
        (filter (has_name q.name) rs ≡ [] → ⊥) → ⊥
    go true h later = cc
    go false h later = later h

none-behind : (r : EnabledRule) (rs : List EnabledRule) → filter (has_name r.name) (r ∷ rs) ≡ r ∷ [] →
    filter (has_name r.name) rs ≡ []
none-behind r rs e =
    let whole : r ∷ filter (has_name r.name) rs ≡ r ∷ [] =
    ap (λ b. cond b (r ∷ filter (has_name r.name) rs) (filter (has_name r.name) rs)) (sym (same_text-refl r.name)) ∙ e in
    cc

other-name : (r : EnabledRule) (rs : List EnabledRule) → filter (has_name r.name) rs ≡ [] → (q : EnabledRule) → Among rs q →
    has_name r.name q ≡ false
other-name r [] e q i = absurd i
other-name r (p ∷ rs) e q i = go (has_name r.name p) refl e i (other-name r rs)
  where
    go : (b : Bool) → has_name r.name p ≡ b → cond b (p ∷ filter (has_name r.name) rs) (filter (has_name r.name) rs) ≡ [] →
        Among (p ∷ rs) q →
        (filter (has_name r.name) rs ≡ [] → (s : EnabledRule) → Among rs s → has_name r.name s ≡ false) →
        has_name r.name q ≡ false
    go true h k j later = cc
    go false h k (inl same) later = subst (λ s. has_name r.name s ≡ false) same h
    go false h k (inr j) later = later k q j

alone-behind : (r : EnabledRule) (rs : List EnabledRule) → AloneIn (r ∷ rs) → AloneIn rs
alone-behind r rs alone q i = go (has_name q.name r) refl (alone q (inr i))
  where
    go : (b : Bool) → has_name q.name r ≡ b →
        cond b (r ∷ filter (has_name q.name) rs) (filter (has_name q.name) rs) ≡ q ∷ [] →
        filter (has_name q.name) rs ≡ q ∷ []
    go true h k =
        let none : filter (has_name q.name) rs ≡ [] = cc in
        absurd (named-there rs q i none)
    go false h k = k

alone-differ : (rs : List EnabledRule) → AloneIn rs → AreDifferent (map (λ r. r.name) rs)
alone-differ [] alone = tt
alone-differ (r ∷ rs) alone = (
  none-among r.name (map (λ q. q.name) rs) (λ n i. name_apart n i),
  alone-differ rs (alone-behind r rs alone),
)
  where
    named : (ps : List EnabledRule) (n : Text) → Among (map (λ q. q.name) ps) n → (q : EnabledRule) × Among ps q × (q.name ≡ n)
    named [] n i = absurd i
    named (p ∷ ps) n (inl e) = (p, inl refl, e)
    named (p ∷ ps) n (inr i) = let w = named ps n i in (w.0, inr w.1, w.2)

    name_apart : (n : Text) → Among (map (λ q. q.name) rs) n → bytes_eq r.name n ≡ false
    name_apart n i =
        let w = named rs n i in
        same_text-sym r.name n
        ∙ subst (λ t. bytes_eq t r.name ≡ false) w.2 (other-name r rs (none-behind r rs (alone r (inl refl))) w.0 w.1)

between-names : (rs : List Rule) → map (λ r. r.name) (map rule_between rs) ≡ map (λ r. r.name) rs
between-names [] = refl
between-names (r ∷ rs) = ap (λ l. r.name ∷ l) (between-names rs)

resolved-differ : (finds : Text → Text → Option Bool) (g : Grammar) → IsResolved (grammar_between finds g) →
    AreDifferent (map (λ r. r.name) (rules_of g.items))
resolved-differ finds g w =
    subst AreDifferent (between-names (rules_of g.items)) (alone-differ (map rule_between (rules_of g.items)) w.rules)

-- each rule's name is taken

name-taken : (rs : List Rule) (r : Rule) → Among rs r → 0 < times_taken r.name (map (λ q. q.name) rs)
name-taken [] r i = absurd i
name-taken (q ∷ rs) r (inl e) =
    let one : bytes_eq r.name q.name ≡ true = subst (λ p. bytes_eq r.name p.name ≡ true) (sym e) (same_text-refl r.name) in
    let is : times_taken r.name (map (λ p. p.name) (q ∷ rs)) ≡ suc (times_taken r.name (map (λ p. p.name) rs)) =
    taken_more r.name q.name (map (λ p. p.name) rs)
    ∙ ap (λ b. cond b (suc (times_taken r.name (map (λ p. p.name) rs))) (times_taken r.name (map (λ p. p.name) rs))) one in
    omega (arith, is)
name-taken (q ∷ rs) r (inr i) = go (bytes_eq r.name q.name) (taken_more r.name q.name (map (λ p. p.name) rs)) (name-taken rs r i)
  where
    go : (b : Bool) → times_taken r.name (map (λ p. p.name) (q ∷ rs))
        ≡ cond b (suc (times_taken r.name (map (λ p. p.name) rs))) (times_taken r.name (map (λ p. p.name) rs)) →
        0 < times_taken r.name (map (λ p. p.name) rs) → 0 < times_taken r.name (map (λ p. p.name) (q ∷ rs))
    go true e h = omega (arith, e)
    go false e h = omega (arith, e, h)

-- all together

module _ (finds : Text → Text → Option Bool) (g : Grammar) (plain macros : Times)
    (counted : AreTimesOf plain (map (λ r. r.name) (rules_of g.items)))
    (waits : macros ≡ taken_behind_plain (rules_of g.items) plain)
    (resolved : IsResolved (grammar_between finds g)) (clear : HasNoTildes g) (own : HasPlainParameters g) where
  abbrev all_rules : List Rule
  all_rules = rules_of g.items

  abbrev last_plain : Times
  last_plain = taken_behind_plain all_rules plain

  abbrev last_macros : Times
  last_macros = taken_behind_macros all_rules macros

  -- the name of a level as its rule's table has it
  abbrev name_in_tables : Text → ℕ → Text
  name_in_tables = name_of_level all_rules (given_tables all_rules plain macros)

  all-found : map (λ r. levels_by (name_in_tables r.name) (order_of r)) all_rules ≡ given_tables all_rules plain macros
  all-found =
      tables-found all_rules (given_tables all_rules plain macros) (resolved-differ finds g resolved)
      (tables-levels all_rules plain macros)

  all-given : AreGiven name_in_tables last_plain last_macros all_rules plain macros
  all-given = given-apart name_in_tables last_plain last_macros all_rules plain macros all-found refl refl

  all-stand : AreSmallTimes last_plain → AreSmallTimes last_macros → AreLevelNames g name_in_tables
  all-stand room space = record {
    loosest_kept = λ r i.
        let w = rule-given name_in_tables last_plain last_macros all_rules plain macros all-given r i in
        loosest-named name_in_tables r w.0 w.1;
    plain =
        rules-numbered name_in_tables last_plain last_macros all_rules plain macros all-given (map (λ r. r.name) all_rules) counted;
    of_macros =
        macros-numbered name_in_tables last_plain last_macros all_rules plain macros all-given
        (taken_behind_levels (map (λ r. r.name) all_rules) (plain_levels g))
        (λ t. ap (λ h. h t) waits ∙ texts-taken all_rules plain (map (λ r. r.name) all_rules) counted t);
    apart =
        names-apart name_in_tables last_plain last_macros room space all_rules plain macros all-given clear
        (resolved-differ finds g resolved)
        (λ q i. subst (λ n. 0 < n) (sym (counted q.name)) (name-taken all_rules q i))
        (λ t. let e = ap (λ h. h t) waits in omega (arith, e));
    not_hidden = λ r j i l.
        let w = tighter-numbered name_in_tables last_plain last_macros all_rules plain macros all-given r j i l in
        ap (λ n. has_text n r.parameters) w.1 ∙ unhidden r (clear r i) (λ n k. own r n i k) w.0 j;
  }

  -- Tables that were given one after the other hold names of levels, where rules' names are taken first, and what plain rules
  -- take before macros.
  pub names_hold : (tables : List RuleLevels) → AreSmallTimes last_plain → AreSmallTimes last_macros →
      map rule_levels_view tables ≡ given_tables all_rules plain macros → HoldLevelNames g tables
  names_hold tables room space made =
      (name_in_tables, all-stand room space, named-tables name_in_tables all_rules tables (made ∙ sym all-found))
